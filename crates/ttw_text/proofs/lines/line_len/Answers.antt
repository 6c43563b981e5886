use Rattle.std.proofs.Common.{length, sym, ◌∙◌, arith}
use Rattle.std.proofs.lemmas.List.{take_all, drop_all}
use Rattle.ttw_text.proofs.LineLemmas.{lines_at, lines_at_end}
use Rattle.ttw_text.proofs.lines.line_len.Goals as goal

pub returns-in-Some-clause-line : goal.returns-in-Some-clause-line
returns-in-Some-clause-line c = lines_at c.args.text.now c.in-Some.at (sym c.place_of.ensures ∙ c.in-Some.is)

pub returns-in-None-clause-line : goal.returns-in-None-clause-line
returns-in-None-clause-line c =
    let text = c.args.text.now in
    rw (take_all (length text) text (omega arith), drop_all (length text) text (omega arith))
    (lines_at_end text c.requires (sym c.place_of.ensures ∙ c.in-None.is))
