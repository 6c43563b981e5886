use Rattle.std.proofs.Common.{◌≡◌, ◌≤◌, Some, length, ap, sym, ◌∙◌, rules}
use Rattle.std.specs.Prelude.{option_map}
use Rattle.std.specs.Result.{result_ok}
use Rattle.proof_tree.specs.Grammar.{item_of}
use Rattle.proof_tree.specs.PlanLines.{meaning}
use Rattle.cert_checker.proofs.CutLines.{fits_line, read_here}
use Rattle.cert_checker.proofs.reader.item_within.Goals as goal

pub returns-in-Ok-clause-some : goal.returns-in-Ok-clause-some
returns-in-Ok-clause-some c =
    let line = c.args.line.now in
    let i = meaning c.in-Ok.said in
    let said : Some i ≡ item_of line = sym (ap (λ r. option_map meaning (result_ok r)) c.in-Ok.is) ∙ c.item.ensures in
    let short : length line ≤ 4096 = search rules in
    let within : c.args.end ≤ 4294967296 = search rules in
    (read_here c.args.end line i said short within, fits_line line i ((c.lines_are_exact.ensures line i).0 (sym said)) short)
