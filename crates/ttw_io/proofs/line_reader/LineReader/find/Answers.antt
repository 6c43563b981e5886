use Rattle.std.proofs.Common.{arith, ◌∙◌, ap, sym}
use Rattle.ttw_io.specs.LineReading.{ReadLines}
use Rattle.ttw_io.proofs.LineReaderLemmas.{first_at_end}
use Rattle.ttw_io.proofs.line_reader.LineReader.find.Goals as goal

pub returns-then-self-clause-ok : goal.returns-then-self-clause-ok
returns-then-self-clause-ok g c =
    let ended = ap (λ (r : ReadLines). r.ended) c.self.view_is in
    let most = ap (λ (r : ReadLines). r.most) c.self.view_is in
    first_at_end c.loop-self.self c.text_len-text.result c.text_len-text.ensures (omega (arith, c.ahead_len.ensures)) (omega arith) (sym ended ∙ c.if-self.true)
