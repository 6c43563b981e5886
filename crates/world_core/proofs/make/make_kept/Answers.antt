use Rattle.std.proofs.Common.{refl}
use Rattle.runtime_model.proofs.RightSets.{kept_sets_have_right_plans}
use Rattle.world_core.proofs.BodyLookups.{all_seen}
use Rattle.world_core.proofs.FirstWorlds.{first_is_world, first_stands_for}
use Rattle.world_core.proofs.make.make_kept.Goals as goal

pub make-requires : goal.make-requires
make-requires g c = (kept_sets_have_right_plans c.args.set.now c.args.plans.now c.requires.rules c.requires.schedules).few

pub returns-clause-stands : goal.returns-clause-stands
returns-clause-stands g c =
    first_stands_for c.args.set.now c.args.plans.now (all_seen c.args.bodies.now.items (λ z. (goal.TaskBody-dyn g (z.vtable, z.value)).seen z.value)) _ c.requires.rules c.requires.schedules
    (record {
      nodes = c.in_ok-make_nodes.ensures;
      host = c.in_ok-make.ensures.stands;
      host_node = refl;
      cycles = c.in_ok-cycles.ensures;
      hypers = c.in_ok-hypers.ensures;
      owners = c.in_ok-owners.ensures;
      places = c.in_ok-places.ensures;
      place = refl;
      begin = refl;
      moment = refl;
    })

pub returns-clause-kept : goal.returns-clause-kept
returns-clause-kept g c =
    first_is_world c.args.set.now c.args.plans.now (all_seen c.args.bodies.now.items (λ z. (goal.TaskBody-dyn g (z.vtable, z.value)).seen z.value)) _ c.requires.rules c.requires.schedules
    (record {
      nodes = c.in_ok-make_nodes.ensures;
      host = c.in_ok-make.ensures.stands;
      host_node = refl;
      cycles = c.in_ok-cycles.ensures;
      hypers = c.in_ok-hypers.ensures;
      owners = c.in_ok-owners.ensures;
      places = c.in_ok-places.ensures;
      place = refl;
      begin = refl;
      moment = refl;
    })
