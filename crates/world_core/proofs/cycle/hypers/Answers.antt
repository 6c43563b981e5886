use Rattle.std.proofs.Common.{rules, ap, arith, length, ◌∙◌, pos, w64, FitsSigned}
use Rattle.std.proofs.lemmas.Int.{to_z-of_z}
use Rattle.sched_model.specs.PlainMode.{hyper, plain_at}
use Rattle.sched_model.proofs.TaskNumbers.{few_modes}
use Rattle.world_core.proofs.EntryLists.{map_push}
use Rattle.world_core.proofs.cycle.hypers.Goals as goal

pub overflow_cast-mode : goal.overflow_cast-mode
overflow_cast-mode c =
    record { fits = omega (arith, c.loop-mode-test.true, ap length c.as_slice-mode-end.ensures, few_modes c.args.set.now c.requires.rules) }

pub loop-mode-preserved : goal.loop-mode-preserved
loop-mode-preserved c =
    let f : FitsSigned w64 c.hyper.result = search rules in
    map_push (λ i. pos (hyper (plain_at c.args.set.now i))) c.loop-mode.mode c.loop-mode.hypers.items c.push.new.self.items _
    c.loop-mode.invariant c.in_ok-push.ensures.items (to_z-of_z w64 c.hyper.result f ∙ c.hyper.ensures)
