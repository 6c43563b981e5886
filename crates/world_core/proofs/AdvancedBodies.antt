-- What the next Advance does to the bodies: only a start that is performed fires one
use Rattle.std.proofs.Common.{◌≡◌, ℕ, Bool, true, false, cond, ◌&&◌, List, ◌∷◌, refl, ap, ℤ}
use Rattle.std.specs.Prelude.{Option, Some, None, slice_set}
use Rattle.sched_model.specs.PlainMode.{task_at}
use Rattle.task_body.specs.Body.{body_at, fired}
use Rattle.runtime_model.specs.Bodies.{Bodies}
use Rattle.runtime_model.specs.Entries.{Action, task_ends, beacon, slot, task_starts}
use Rattle.runtime_model.specs.History.{step_of, spot_next, entry_at, performed, finished_or_not, sent_or_not, start_or_not}
use Rattle.runtime_model.specs.Inputs.{inputs}
use Rattle.runtime_model.specs.LookingBack.{recall, runs}
use Rattle.runtime_model.specs.Outcomes.{Spot, Step, advance, begun_run}
use Rattle.runtime_model.specs.Packets.{packet}
use Rattle.runtime_model.specs.Placement.{placed, own_start, run_at, ends_run, ending_run_at}
use Rattle.runtime_model.specs.Plans.{Plan, node_of}
use Rattle.runtime_model.specs.System.{System, plan_at}
use Rattle.world_core.specs.StandsFor.{bodies_after}
use Rattle.world_core.proofs.BodySteps.{bodies_kept, bodies_started, changes_bodies}

abbrev pub is_start : Action → Bool
is_start (task_starts a) = true
is_start w = false

-- only a start changes bodies
only_starts : (y : System) (p : Plan) (s : Spot) (lost : ℕ) (ds : List Step) (u : ℕ) (w : Action) → is_start w ≡ false → changes_bodies (performed y p s lost ds u w) ≡ false
only_starts y p s lost ds u (task_ends a) e = of_end (cond (ends_run p s.turn u a) (recall (node_of p a) s.stay (begun_run a (ending_run_at p s.turn u a)) ds) None)
  where
    of_end : (o : Option ℤ) → changes_bodies (finished_or_not (node_of p a) a (ending_run_at p s.turn u a) o) ≡ false
    of_end None = refl
    of_end (Some x) = refl
only_starts y p s lost ds u (beacon j) e = refl
only_starts y p s lost ds u (slot j i) e = of_slot (packet p s j i ds)
  where
    of_slot : (o : Option (List ℤ)) → changes_bodies (sent_or_not p y.nodes s j i ds o lost) ≡ false
    of_slot None = refl
    of_slot (Some x) = refl
only_starts y p s lost ds u (task_starts a) e = absurd cc

module _ (y : System) (bodies : Bodies) (lost : ℕ) (ds : List Step) where
  abbrev s : Spot
  s = spot_next y ds

  abbrev p : Plan
  p = plan_at y s.hyper.mode

  abbrev d : Step
  d = step_of y (advance lost) ds

  -- each other entry leaves the bodies
  pub advance_keeps_bodies : is_start (entry_at y s).action ≡ false → bodies_after y.plans bodies (d ∷ ds) ≡ bodies_after y.plans bodies ds
  advance_keeps_bodies e = bodies_kept y.plans bodies d ds (only_starts y p s lost ds (entry_at y s).tick (entry_at y s).action e)

  -- a start fires its task's body, where it is placed and its node runs
  pub start_fires : (a : ℕ) → (entry_at y s).action ≡ task_starts a →
      let u = (entry_at y s).tick in
      let number = (task_at p.mode a).number in
      let b = bodies.place number in
      let now = bodies_after y.plans bodies ds in
      bodies_after y.plans bodies (d ∷ ds)
      ≡ cond (placed s.hyper.opening s.hyper.phase (own_start p u a) && runs (node_of p a) ds) (slice_set now b (fired (body_at now b) number (inputs p s.stay a (run_at p s.turn u a) ds))) now
  start_fires a e =
      let u = (entry_at y s).tick in
      by_test (placed s.hyper.opening s.hyper.phase (own_start p u a) && runs (node_of p a) ds) (ap (λ (w : Action). performed y p s lost ds u w) e)
    where
      by_test : (b : Bool) → d.out ≡ start_or_not y p s ds a (entry_at y s).tick b →
          let u = (entry_at y s).tick in
          let number = (task_at p.mode a).number in
          let c = bodies.place number in
          let now = bodies_after y.plans bodies ds in
          bodies_after y.plans bodies (d ∷ ds) ≡ cond b (slice_set now c (fired (body_at now c) number (inputs p s.stay a (run_at p s.turn u a) ds))) now
      by_test false out = bodies_kept y.plans bodies d ds (ap changes_bodies out)
      by_test true out =
          let u = (entry_at y s).tick in
          let k = run_at p s.turn u a in
          let ins = inputs p s.stay a k ds in
          bodies_started y.plans bodies d ds (node_of p a) a k ins (y.answers ds (task_at p.mode a).number ins) out
