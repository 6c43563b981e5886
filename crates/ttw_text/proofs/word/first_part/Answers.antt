use Rattle.std.proofs.Common.{◌+◌, sym, ◌∙◌}
use Rattle.std.proofs.lemmas.List.{take_rest}
use Rattle.ttw_text.proofs.WordLemmas.{parts_at, parts_at_end}
use Rattle.ttw_text.proofs.word.first_part.Goals as goal

pub returns-in-Some : goal.returns-in-Some
returns-in-Some c =
    let line = c.args.line.now in
    rw (take_rest line (c.in-Some.at + 1)) (parts_at line c.in-Some.at (sym c.place_of.ensures ∙ c.in-Some.is))

pub returns-in-None : goal.returns-in-None
returns-in-None c = parts_at_end c.args.line.now (sym c.place_of.ensures ∙ c.in-None.is)
