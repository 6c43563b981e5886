-- What is taken are the values of the producers' runs of the window's number
use Rattle.std.proofs.Common.{◌≡◌, ℕ, Bool, true, false, cond, ◌&&◌, List, [], ◌∷◌, ◌++◌, refl, sym, ◌∙◌, ap, arith, ⊎_elim, ℤ}
use Rattle.std.specs.Prelude.{nat_eq, filter, Option, Some, None}
use Rattle.std.proofs.lemmas.Bool.{eqb-true, and_parts}
use Rattle.sched_model.specs.Numbers.{below, has}
use Rattle.runtime_model.specs.Plans.{Plan, node_of, sender_of}
use Rattle.runtime_model.specs.Entries.{Action, task_ends, beacon, slot, task_starts}
use Rattle.runtime_model.specs.Placement.{placed, own_slot, own_start, ends_run, ending_run_at, window_at}
use Rattle.runtime_model.specs.Outcomes.{PlainEvent, advance, request, restart, Spot, Step, begun_run, took}
use Rattle.runtime_model.specs.LookingBack.{synced, runs, recall, or_else}
use Rattle.runtime_model.specs.System.{System, plan_at}
use Rattle.runtime_model.specs.Packets.{held, packet, takes}
use Rattle.runtime_model.specs.History.{history, step_of, spot_next, last_spot, entry_at, performed, finished_or_not, sent_or_not, start_or_not}
use Rattle.runtime_model.specs.Laws.{StartsArePlaced, ValuesAreProduced}
use Rattle.runtime_model.proofs.Spots.{moves, stands}
use Rattle.runtime_model.proofs.Registers.{cond_some, or_cases, recall_stay}
use Rattle.runtime_model.proofs.OutRegisters.{same_mode}
use Rattle.runtime_model.proofs.Switches.{start_of, started_is}

-- what was taken in a slot is what the producers' nodes held of its window
taken_is : (y : System) (p : Plan) (s : Spot) (lost : ℕ) (ds : List Step) (u : ℕ) (w : Action) (v i k : ℕ) (xs : List ℤ) → took v i k (performed y p s lost ds u w) ≡ Some xs → held p s.stay i k ds ≡ Some xs
taken_is y p s lost ds u (task_ends a) v i k xs e = absurd (not_ended (cond (ends_run p s.turn u a) (recall (node_of p a) s.stay (begun_run a (ending_run_at p s.turn u a)) ds) None) e)
  where
    not_ended : (o : Option ℤ) → took v i k (finished_or_not (node_of p a) a (ending_run_at p s.turn u a) o) ≡ Some xs → ⊥
    not_ended None e = grind (arith, e)
    not_ended (Some x) e = grind (arith, e)
taken_is y p s lost ds u (beacon j) v i k xs e = absurd (grind (arith, e))
taken_is y p s lost ds u (slot j m) v i k xs e = by_packet (packet p s j m ds) refl e
  where
    by_packet : (o : Option (List ℤ)) → packet p s j m ds ≡ o → took v i k (sent_or_not p y.nodes s j m ds o lost) ≡ Some xs → held p s.stay i k ds ≡ Some xs
    by_packet None h e = absurd (grind (arith, e))
    by_packet (Some ys) h e =
        let ts = filter (takes p s.stay lost (sender_of p m) m (window_at p s.turn j m) ds) (below y.nodes) in
        let c = cond_some (nat_eq m i && (nat_eq (window_at p s.turn j m) k && has ts v)) (Some ys) xs e in
        let message = eqb-true m i (and_parts (nat_eq m i) (nat_eq (window_at p s.turn j m) k && has ts v) c.0).0 in
        let window = eqb-true (window_at p s.turn j m) k (and_parts (nat_eq (window_at p s.turn j m) k) (has ts v) (and_parts (nat_eq m i) (nat_eq (window_at p s.turn j m) k && has ts v) c.0).1).0 in
        let g = cond_some (placed s.hyper.opening s.hyper.phase (own_slot p j m) && synced (sender_of p m) ds) (held p s.stay m (window_at p s.turn j m) ds) ys h in
        ap (λ n. held p s.stay n k ds) (sym message) ∙ ap (λ n. held p s.stay m n ds) (sym window) ∙ g.1 ∙ c.1
taken_is y p s lost ds u (task_starts a) v i k xs e = absurd (not_started (placed s.hyper.opening s.hyper.phase (own_start p u a) && runs (node_of p a) ds) e)
  where
    not_started : (o : Bool) → took v i k (start_or_not y p s ds a u o) ≡ Some xs → ⊥
    not_started true e = grind (arith, e)
    not_started false e = grind (arith, e)

module _ (y : System) (md st v i k : ℕ) (xs : List ℤ) where
  abbrev Produced : List Step → Type 0
  Produced ds =
      (newer : List Step) × (sending : Step) × (older : List Step) × (ds ≡ newer ++ sending ∷ older)
      × (took v i k sending.out ≡ Some xs) × (held (plan_at y md) st i k older ≡ Some xs)

  later : (d : Step) (ds : List Step) → Produced ds → Produced (d ∷ ds)
  later d ds h = (d ∷ h.0, h.1, h.2, ap (λ (zs : List Step). d ∷ zs) h.3, h.4, h.5)

  produced : (es : List PlainEvent) → (last_spot (history y es)).hyper.mode ≡ md → recall v st (took v i k) (history y es) ≡ Some xs → Produced (history y es)
  produced [] m e = absurd (grind (arith, e))
  produced (request q ∷ es) m e =
      let ds = history y es in
      let d = step_of y (request q) ds in
      later d ds (produced es m (cond_some (runs v (d ∷ ds) && nat_eq d.spot.stay st) (recall v st (took v i k) ds) xs e).1)
  produced (restart q ∷ es) m e =
      let ds = history y es in
      let d = step_of y (restart q) ds in
      later d ds (produced es m (cond_some (runs v (d ∷ ds) && nat_eq d.spot.stay st) (recall v st (took v i k) ds) xs e).1)
  produced (advance lost ∷ es) m e =
      let ds = history y es in
      let d = step_of y (advance lost) ds in
      let s = spot_next y ds in
      let entry = entry_at y s in
      let c = cond_some (runs v (d ∷ ds) && nat_eq s.stay st) (or_else (took v i k d.out) (recall v st (took v i k) ds)) xs e in
      let stay_is = eqb-true s.stay st (and_parts (runs v (d ∷ ds)) (nat_eq s.stay st) c.0).1 in
      ⊎_elim
      (λ (hit : took v i k d.out ≡ Some xs).
      let h = taken_is y (plan_at y s.hyper.mode) s lost ds entry.tick entry.action v i k xs hit in
      ([], d, ds, refl, hit, ap (λ (z : ℕ). held (plan_at y z) st i k ds) (sym m) ∙ ap (λ (z : ℕ). held (plan_at y s.hyper.mode) z i k ds) (sym stay_is) ∙ h))
      (λ (miss : (took v i k d.out ≡ None) × (recall v st (took v i k) ds ≡ Some xs)).
      let same = stay_is ∙ sym (recall_stay v st (took v i k) ds xs miss.1) in
      later d ds (produced es (same_mode y ds s (moves y ds (stands y es)) same ∙ m) miss.1))
      (or_cases (took v i k d.out) (recall v st (took v i k) ds) xs c.1)

pub values_are_produced : ValuesAreProduced
values_are_produced y es v i k xs e =
    let ds = history y es in
    let s = spot_next y ds in
    let same = sym (recall_stay v s.stay (took v i k) ds xs e) in
    produced y s.hyper.mode s.stay v i k xs es (same_mode y ds s (moves y ds (stands y es)) same) e

pub starts_are_placed : StartsArePlaced
starts_are_placed y es lost v b k ins x out =
    let s = spot_next y (history y es) in
    let e = entry_at y s in
    started_is y (plan_at y s.hyper.mode) s lost (history y es) e.tick e.action v b k (ap start_of out)
