use Rattle.std.proofs.Common.{◌∙◌, ap, sym, ◌++◌}
use Rattle.cert_checker.specs.declared.refused.Refused.{Refused}
use Rattle.cert_checker.specs.Refusals.{said}
use Rattle.file_answers.specs.PlanFiles.{refusal_said}
use Rattle.file_answers.proofs.PlanFileLemmas.{two_texts}
use Rattle.file_answers.proofs.fault_lines.write_refusal.Goals as goal

pub returns-in_ok-put-in-Unfinished-2 : goal.returns-in_ok-put-in-Unfinished-2
returns-in_ok-put-in-Unfinished-2 c =
    two_texts c.args.out.now c.put-in-Unfinished.new.self c.put-in-Unfinished-2.new.self _ c.mode_name-in-Unfinished.result.now _ c.in_ok-put-in-Unfinished.ensures.ok c.in_ok-put-in-Unfinished-2.ensures.ok c.mode_name-in-Unfinished.ensures
    ∙ ap (λ (r : Refused). c.args.out.now ++ refusal_said c.args.set.now (said r)) (sym c.in-Unfinished.is)
