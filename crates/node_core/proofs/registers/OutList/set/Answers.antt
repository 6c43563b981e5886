use Rattle.std.proofs.Common.{Some, of_z, to_z, w64, ◌∙◌}
use Rattle.std.proofs.lemmas.List.{length-set}
use Rattle.node_core.proofs.RegisterLemmas.{rest_stays}
use Rattle.node_core.proofs.registers.OutList.set.Goals as goal

pub invariant_of-self : goal.invariant_of-self
invariant_of-self c =
    let slots = c.self.inside.slots.items in
    let used = c.used_with-self-inside in (
      length-set slots c.args.task (Some (to_z w64 (of_z w64 c.args.value))) ∙ c.self.invariant.0,
      used.ensures.most,
      rest_stays slots c.self.inside.used c.args.task used.result (Some (to_z w64 (of_z w64 c.args.value))) c.self.invariant.2 used.ensures.kept used.ensures.task,
    )
