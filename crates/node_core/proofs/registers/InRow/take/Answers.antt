use Rattle.std.proofs.Common.{Bool, false, cond, List, Some, None, map, slice_set, ap, ◌∙◌}
use Rattle.std.proofs.lemmas.List.{map-set}
use Rattle.node_core.specs.Registers.{InRow}
use Rattle.node_core.proofs.registers.InRow.take.Goals as goal

pub returns-clause-emptied : goal.returns-clause-emptied
returns-clause-emptied c =
    ap (λ (fs : List Bool). map (λ f. cond f (Some c.self.inside.values) None) fs) c.clear_at.ensures
    ∙ (map-set (λ (f : Bool). cond f (Some c.self.inside.values) None) c.self.inside.full.items c.args.place false
    ∙ ap (λ (row : InRow). slice_set row c.args.place None) c.self.view_is)
