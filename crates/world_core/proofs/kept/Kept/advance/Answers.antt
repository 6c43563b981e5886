use Rattle.std.proofs.Common.{FitsSigned, w64, length, sym, subst, rules}
use Rattle.std.proofs.lemmas.Int.{to_z-of_z}
use Rattle.world_core.specs.declared.cycle.Action.{Action}
use Rattle.world_core.specs.WorldSteps.{MayPerform, at_entry}
use Rattle.world_core.proofs.KeptLemmas.{action_is, come_to}
use Rattle.world_core.proofs.kept.Kept.advance.Goals as goal

-- the entry may be performed in the world that has come to it
pub perform-requires-clause-may : goal.perform-requires-clause-may
perform-requires-clause-may g c =
    let tick : FitsSigned w64 c.next_entry-entry.result.tick = search rules in
    let moment : FitsSigned w64 c.moment_of.result = search rules in
    let arrives = c.arrive.ensures in
    let next = c.next_entry-entry.ensures in
    let when = simp (to_z-of_z, tick) at c.moment_of.ensures in
    let moves = simp (to_z-of_z, moment) at c.go_to.ensures in
    let come = come_to c.args.self.now c.arrive.new.self c.go_to.new.self c.next_entry-entry.result c.moment_of.result arrives next when moves in
    subst (λ w. MayPerform w (length c.args.bodies.now.items) c.args.lost c.next_entry-entry.result.action) (sym come)
    (subst (λ (a : Action). MayPerform (at_entry c.args.self.now) (length c.args.bodies.now.items) c.args.lost a)
    (sym (action_is c.args.self.now c.arrive.new.self c.next_entry-entry.result arrives next)) c.requires.may_perform)
