use Rattle.std.proofs.Common.{◌-◌, ◌∙◌, ap, Option, ℕ, List, length, take, drop}
use Rattle.std.specs.Prelude.{unwrap_or}
use Rattle.ttw_io.specs.LineReading.{ReadLines, first_feed}
use Rattle.ttw_io.proofs.LineReaderLemmas.{first_feed_is}
use Rattle.ttw_io.proofs.line_reader.LineReader.text_len.Goals as goal

pub returns : goal.returns
returns c =
    let inside = c.self.inside in
    let ahead = λ (items : List ℕ). take (inside.end - inside.next) (drop inside.next items) in
    let seen = ahead c.deref.result.now in
    c.unwrap_or.ensures
    ∙ ap (λ (o : Option ℕ). unwrap_or o (length seen)) c.place_of_feed.ensures
    ∙ first_feed_is seen
    ∙ ap (λ (items : List ℕ). first_feed (ahead items)) c.deref.ensures.value
    ∙ ap (λ (r : ReadLines). first_feed r.ahead) c.self.view_is
