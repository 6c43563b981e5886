-- Whether the next entry is a beacon
use Rattle.std.proofs.Common.{◌≡◌, ℕ, ◌<◌, Bool, List, length, map, refl, sym, ◌∙◌, ap, subst, arith}
use Rattle.std.proofs.lemmas.List.{length-map}
use Rattle.runtime_model.specs.Bodies.{by_bodies}
use Rattle.runtime_model.specs.Entries as plain
use Rattle.runtime_model.specs.Laws.{RequestsFit}
use Rattle.runtime_model.specs.Outcomes.{PlainEvent, Spot, Step}
use Rattle.runtime_model.specs.Plans.{Plan, plans_of}
use Rattle.runtime_model.specs.Script.{opens_round}
use Rattle.runtime_model.specs.System.{System, plan_at, system_of}
use Rattle.runtime_model.specs.History.{history, spot_next, entry_at}
use Rattle.runtime_model.proofs.Beacons.{index_now}
use Rattle.world_core.specs.declared.cycle.Entry.{Entry}
use Rattle.world_core.specs.Cycle.{kept_action, kept_entry}
use Rattle.world_core.specs.KeptWorlds.{IsWorld}
use Rattle.world_core.specs.NextBeacons.{TellsNext}
use Rattle.world_core.specs.Standing.{Stands}
use Rattle.world_core.specs.StandsFor.{bodies_of}
use Rattle.world_core.specs.Worlds.{WorldSeen, cycle_at}
use Rattle.world_core.specs.WorldSteps.{MayCome, arrived, mode_of, next_entry, opens}
use Rattle.world_core.proofs.Arriving.{arrives, cycle_length, entry_there, last_mode, mode_is, mode_there, some_mode, there}
use Rattle.world_core.proofs.WorldRight.{RightWorld, all, right_world}

opens_is : (p : Plan) (a : plain.Action) → opens (kept_action p a) ≡ opens_round a
opens_is p (plain.task_ends a) = refl
opens_is p (plain.beacon j) = refl
opens_is p (plain.slot j i) = refl
opens_is p (plain.task_starts a) = refl

module _ (y : System) (w : RightWorld y) (es : List PlainEvent) (rf : RequestsFit y es) (x : WorldSeen) (st : Stands y x (history y es)) where
  abbrev ds : List Step
  ds = history y es

  abbrev s : Spot
  s = spot_next y ds

  cycle_count : length x.cycles ≡ length y.plans
  cycle_count = ap length st.plans.cycles ∙ length-map y.plans (λ q. map (kept_entry q) (plain.cycle y.nodes q))

  abbrev at_hyper : WorldSeen
  at_hyper = there y w es rf 0 x st

  left : at_hyper.place < length (cycle_at at_hyper (mode_of at_hyper))
  left =
      let index = index_now y (all y w) es rf 0 in
      subst (λ (m : ℕ). s.index < length (cycle_at x m)) (sym (mode_there y w es rf 0 x st))
      (omega (arith, cycle_length y w es rf 0 x st s.hyper.mode (some_mode y w es rf 0), index))

  pub may_come : MayCome x
  may_come =
      let is = sym (arrives y w es rf 0 x st) in
      record {
        mode = omega (arith, mode_is y w es rf 0 x st, last_mode y w es rf 0, cycle_count);
        known = subst (λ (z : WorldSeen). mode_of z < length x.cycles) is (omega (arith, mode_there y w es rf 0 x st, some_mode y w es rf 0, cycle_count));
        left = subst (λ (z : WorldSeen). z.place < length (cycle_at z (mode_of z))) is left;
      }

  pub tells_next : opens (next_entry (arrived x)).action ≡ opens_round (entry_at y s).action
  tells_next =
      ap (λ (z : WorldSeen). opens (next_entry z).action) (arrives y w es rf 0 x st)
      ∙ ap (λ (e : Entry). opens e.action) (entry_there y w es rf 0 x st)
      ∙ opens_is (plan_at y s.hyper.mode) (entry_at y s).action

pub world_may_come : (x : WorldSeen) → IsWorld x → MayCome x
world_may_come x k = may_come (system_of k.set k.schedules k.answers) (right_world k.set k.schedules k.answers k.rules k.right) k.events k.requests x k.stands

pub tells : (x x0 : WorldSeen) (answer : Bool) → x ≡ x0 → answer ≡ opens (next_entry (arrived x)).action → TellsNext x0 answer
tells x x0 answer same is set schedules made now es keeps are rf st0 =
    let y = system_of set schedules (by_bodies (plans_of set schedules) (bodies_of set made)) in
    let w = right_world set schedules (by_bodies (plans_of set schedules) (bodies_of set made)) keeps are in
    let st = subst (λ (z : WorldSeen). Stands y z (history y es)) (sym same) st0.world in
    is ∙ tells_next y w es rf x st
