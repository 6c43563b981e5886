use Rattle.std.proofs.Common.{refl, sym, subst}
use Rattle.world_core.specs.KeptWorlds.{IsWorld}
use Rattle.world_core.proofs.DoneWhole.{advance_whole, request_whole, restart_whole}
use Rattle.world_core.proofs.AdvancedWorlds.{world_kept}
use Rattle.world_core.proofs.Asked.{step_asked, request_asked, restart_asked}
use Rattle.world_core.proofs.BodyCounts.{advance_count, restart_count}
use Rattle.world_core.proofs.GoingOn.{advance_goes_on, few_owners, may_advance, mode_named, node_named, request_goes_on, restart_goes_on}
use Rattle.world_core.proofs.KeptParts.{advance_keeps, request_keeps, restart_keeps, same_after}
use Rattle.world_core.proofs.OtherSteps.{request_kept, restart_kept}
use Rattle.world_core.proofs.world.World.step_with.Goals as goal

pub advance-requires : goal.advance-requires
advance-requires g c = may_advance c.self.inside.kept c.args.self.now c.self.invariant _ c.in-Advance.lost c.self.view_is c.requires.time c.requires.bodies

pub invariant_of-self : goal.invariant_of-self
invariant_of-self g c = subst IsWorld (sym c.advance.ensures.state) (world_kept c.self.inside.kept c.self.invariant _ c.in-Advance.lost)

pub invariant_of-self-in-Request : goal.invariant_of-self-in-Request
invariant_of-self-in-Request g c =
    subst IsWorld (sym c.request.ensures.state)
    (request_kept c.self.inside.kept c.in-Request.mode (mode_named c.self.inside.kept c.args.self.now c.in-Request.mode c.args.event c.self.view_is c.in-Request.is c.requires.event) c.self.invariant)

pub restart-requires-clause-tasks : goal.restart-requires-clause-tasks
restart-requires-clause-tasks g c = few_owners c.self.inside.kept c.self.invariant

pub invariant_of-self-in-Restart : goal.invariant_of-self-in-Restart
invariant_of-self-in-Restart g c =
    subst IsWorld (sym c.restart.ensures.state)
    (restart_kept c.self.inside.kept c.in-Restart.node (node_named c.self.inside.kept c.args.self.now c.in-Restart.node c.args.event c.self.view_is c.in-Restart.is c.requires.event) c.self.invariant)

pub returns-in-Advance-clause-goes_on : goal.returns-in-Advance-clause-goes_on
returns-in-Advance-clause-goes_on g c =
    advance_goes_on c.self.inside.kept c.args.self.now _ _ _ c.in-Advance.lost c.args.event _ c.self.view_is c.in-Advance.is c.advance.ensures.state c.advance.ensures.bodies (advance_whole c.self.inside.kept c.in-Advance.lost c.advance.result c.args.inputs.now c.advance.new.inputs c.advance.ensures.answer c.advance.ensures.inputs)

pub returns-in-Advance-clause-same : goal.returns-in-Advance-clause-same
returns-in-Advance-clause-same g c =
    same_after c.self.inside.kept c.args.self.now _ _ c.self.view_is c.advance.ensures.state (advance_keeps c.self.inside.kept c.self.invariant _ c.in-Advance.lost)

pub returns-in-Request-clause-goes_on : goal.returns-in-Request-clause-goes_on
returns-in-Request-clause-goes_on g c =
    request_goes_on c.self.inside.kept c.args.self.now _ _ _ c.in-Request.mode c.args.event _
    (mode_named c.self.inside.kept c.args.self.now c.in-Request.mode c.args.event c.self.view_is c.in-Request.is c.requires.event)
    c.self.view_is c.in-Request.is c.request.ensures.state refl (request_whole _ c.in-Request.mode c.request.result c.args.inputs.now c.request.ensures.answer)

pub returns-in-Request-clause-same : goal.returns-in-Request-clause-same
returns-in-Request-clause-same g c =
    same_after c.self.inside.kept c.args.self.now _ _ c.self.view_is c.request.ensures.state (request_keeps c.self.inside.kept c.in-Request.mode)

pub returns-in-Restart-clause-goes_on : goal.returns-in-Restart-clause-goes_on
returns-in-Restart-clause-goes_on g c =
    restart_goes_on c.self.inside.kept c.args.self.now _ _ _ c.in-Restart.node c.args.event _
    (node_named c.self.inside.kept c.args.self.now c.in-Restart.node c.args.event c.self.view_is c.in-Restart.is c.requires.event)
    c.self.view_is c.in-Restart.is c.restart.ensures.state c.restart.ensures.bodies (restart_whole _ c.in-Restart.node c.restart.result c.args.inputs.now c.restart.ensures.answer)

pub returns-in-Restart-clause-same : goal.returns-in-Restart-clause-same
returns-in-Restart-clause-same g c =
    same_after c.self.inside.kept c.args.self.now _ _ c.self.view_is c.restart.ensures.state (restart_keeps c.self.inside.kept c.in-Restart.node)

pub returns-in-Advance-clause-count : goal.returns-in-Advance-clause-count
returns-in-Advance-clause-count g c = advance_count _ _ _ c.self.inside.kept c.advance.ensures.bodies

pub returns-in-Restart-clause-count : goal.returns-in-Restart-clause-count
returns-in-Restart-clause-count g c = restart_count _ _ _ c.self.inside.kept c.in-Restart.node c.restart.ensures.bodies

pub returns-in-Advance-clause-asked : goal.returns-in-Advance-clause-asked
returns-in-Advance-clause-asked g c = step_asked c.self.inside.kept c.args.self.now c.in-Advance.lost _ c.self.view_is (advance_whole c.self.inside.kept c.in-Advance.lost c.advance.result c.args.inputs.now c.advance.new.inputs c.advance.ensures.answer c.advance.ensures.inputs)

pub returns-in-Request-clause-asked : goal.returns-in-Request-clause-asked
returns-in-Request-clause-asked g c = request_asked c.args.self.now _ c.in-Request.mode _ (request_whole _ c.in-Request.mode c.request.result c.args.inputs.now c.request.ensures.answer)

pub returns-in-Restart-clause-asked : goal.returns-in-Restart-clause-asked
returns-in-Restart-clause-asked g c = restart_asked c.args.self.now _ c.in-Restart.node _ (restart_whole _ c.in-Restart.node c.restart.result c.args.inputs.now c.restart.ensures.answer)
