-- In a new stay nothing is ended, sent or started before its first beacon
use Rattle.std.proofs.Common.{◌≡◌, ℕ, ◌<◌, ◌≤◌, Bool, true, false, cond, ◌&&◌, List, [], ◌∷◌, ℤ, get_or, refl, sym, ◌∙◌, ap, subst, arith, ⊎_elim}
use Rattle.std.specs.Prelude.{nat_eq, Option, Some, None}
use Rattle.std.proofs.lemmas.Bool.{cases_Bool, cases_lt}
use Rattle.runtime_model.specs.Entries.{Entry, Action, task_ends, beacon, slot, task_starts}
use Rattle.runtime_model.specs.Laws.{PlansAreRight, RequestsFit}
use Rattle.runtime_model.specs.Outcomes.{Outcome, PlainEvent, advance, request, restart, beaconed, sent, silent, started, off, finished, void, requested, restarted, Spot, Step, is_beacon, begun_run}
use Rattle.runtime_model.specs.LookingBack.{runs, or_else, recall, last_beacon}
use Rattle.runtime_model.specs.Plans.{node_of}
use Rattle.runtime_model.specs.Placement.{ends_run, ending_run_at}
use Rattle.runtime_model.specs.Registers.{last_end, last_in, last_run}
use Rattle.runtime_model.specs.Script.{opens_round}
use Rattle.runtime_model.specs.System.{System, plan_at}
use Rattle.runtime_model.specs.History.{history, step_of, last_spot, spot_next, entries, entry_at, performed, finished_or_not}
use Rattle.runtime_model.proofs.Beacons.{Seen, Unseen, beacon_place, seen_or_not, some, some_round, index_now}
use Rattle.runtime_model.proofs.Cycles.{none, rank, key, cycle_rises, rises_at}
use Rattle.runtime_model.proofs.FirstTicks.{first_start}
use Rattle.runtime_model.proofs.Modes.{AllRight, all_right}
use Rattle.runtime_model.proofs.NewStay.{opens_empty}
use Rattle.runtime_model.proofs.SlotBeacon.{slots_follow_beacons}
use Rattle.runtime_model.proofs.Spots.{Moves, Same, Within, Opens, moves, stands}
use Rattle.world_core.proofs.LastBeacons.{beacon_last}
use Rattle.world_core.proofs.QuietSteps.{quiet_last}

-- what ends, is sent or starts
abbrev pub acts : Outcome → Option Bool
acts (sent v i k xs ts) = Some true
acts (started v a k ins x) = Some true
acts (finished v a k x) = Some true
acts o = None

-- only that gives anything
abbrev pub Only : {X : Type 0} → (Outcome → Option X) → Type 0
Only f = (o : Outcome) → acts o ≡ None → f o ≡ None

pub only_end : (a : ℕ) → Only (last_end a)
only_end a (beaconed b hs) e = refl
only_end a (sent w i k xs ts) e = refl
only_end a (silent i) e = refl
only_end a (started w b k ins x) e = refl
only_end a (off w b) e = refl
only_end a (finished w b k x) e = absurd (grind (arith, e))
only_end a (void w b) e = refl
only_end a (requested m) e = refl
only_end a (restarted w) e = refl

pub only_begun : (a n : ℕ) → Only (begun_run a n)
only_begun a n (beaconed b hs) e = refl
only_begun a n (sent w i k xs ts) e = refl
only_begun a n (silent i) e = refl
only_begun a n (started w b k ins x) e = absurd (grind (arith, e))
only_begun a n (off w b) e = refl
only_begun a n (finished w b k x) e = refl
only_begun a n (void w b) e = refl
only_begun a n (requested m) e = refl
only_begun a n (restarted w) e = refl

pub only_in : (v b i : ℕ) → Only (last_in v b i)
only_in v b i (beaconed c hs) e = refl
only_in v b i (sent w j k xs ts) e = absurd (grind (arith, e))
only_in v b i (silent j) e = refl
only_in v b i (started w c k ins x) e = absurd (grind (arith, e))
only_in v b i (off w c) e = refl
only_in v b i (finished w c k x) e = refl
only_in v b i (void w c) e = refl
only_in v b i (requested m) e = refl
only_in v b i (restarted w) e = refl

pub only_run : (v : ℕ) → Only (last_run v)
only_run v (beaconed b hs) e = refl
only_run v (sent w i k xs ts) e = refl
only_run v (silent i) e = refl
only_run v (started w b k ins x) e = absurd (grind (arith, e))
only_run v (off w b) e = refl
only_run v (finished w b k x) e = absurd (grind (arith, e))
only_run v (void w b) e = refl
only_run v (requested m) e = refl
only_run v (restarted w) e = refl

-- where nothing acted, nothing is found
pub nothing_found : {X : Type 0} (v stay : ℕ) (f : Outcome → Option X) (ds : List Step) → Only f → recall v stay acts ds ≡ None → recall v stay f ds ≡ None
nothing_found v stay f [] only e = refl
nothing_found {X = X} v stay f (d ∷ ds) only e = by_test (runs v (d ∷ ds) && nat_eq d.spot.stay stay) (λ h. nothing_found v stay f ds only h) e
  where
    parts : (o w : Option Bool) → or_else o w ≡ None → (o ≡ None) × (w ≡ None)
    parts None w e = (refl, e)
    parts (Some x) w e = absurd (grind (arith, e))

    nothing : (o w : Option X) → o ≡ None → w ≡ None → or_else o w ≡ None
    nothing None w a b = b
    nothing (Some x) w a b = absurd (grind (arith, a))

    by_test : (c : Bool) → (recall v stay acts ds ≡ None → recall v stay f ds ≡ None) → cond c (or_else (acts d.out) (recall v stay acts ds)) None ≡ None → cond c (or_else (f d.out) (recall v stay f ds)) None ≡ None
    by_test false before e = refl
    by_test true before e =
        let q = parts (acts d.out) (recall v stay acts ds) e in
        nothing (f d.out) (recall v stay f ds) (only d.out q.0) (before q.1)

-- a step that does not act leaves a look back that found nothing
still_nothing : (v stay : ℕ) (d : Step) (ds : List Step) → acts d.out ≡ None → recall v stay acts ds ≡ None → recall v stay acts (d ∷ ds) ≡ None
still_nothing v stay d ds a e = by_tests (runs v (d ∷ ds) && nat_eq d.spot.stay stay) (acts d.out) (recall v stay acts ds) a e
  where
    by_tests : (c : Bool) (o w : Option Bool) → o ≡ None → w ≡ None → cond c (or_else o w) None ≡ None
    by_tests false o w a e = refl
    by_tests true None w a e = e
    by_tests true (Some x) w a e = absurd (grind (arith, a))

-- the last beacon is of another stay
abbrev pub OtherStay : List Step → ℕ → Type 0
OtherStay ds stay = (d : Step) → last_beacon ds ≡ Some d → d.spot.stay ≡ stay → ⊥

module _ (y : System) (plans : PlansAreRight y) where
  right : AllRight y
  right = all_right y plans

  -- a start stands after the first beacon of its cycle
  start_after : (es : List PlainEvent) (rf : RequestsFit y es) (a : ℕ) → let s = spot_next y (history y es) in (entry_at y s).action ≡ task_starts a →
      (i : ℕ) × (i < s.index) × (opens_round (get_or (entries y s.hyper.mode) i none).action ≡ true)
  start_after es rf a act =
      let s = spot_next y (history y es) in
      let md = s.hyper.mode in
      let ok = right (advance 0 ∷ es) rf in
      let index = index_now y right es rf 0 in
      let w = beacon_place y md ok 0 (some_round y right (advance 0 ∷ es) rf) in
      let e = entry_at y s in (
        w.0,
        ⊎_elim
            (λ (l : w.0 < s.index). l)
            (λ (le : s.index ≤ w.0).
            let rises = rises_at (entries y md) s.index w.0 (cycle_rises y.nodes (plan_at y md)) le w.1.0 in
            absurd (omega (arith, rises, ap key w.1.1, first_start y md ok, ap rank act)))
            (cases_lt w.0 s.index),
        ap (λ (z : Entry). opens_round z.action) w.1.1,
      )

  -- where nothing acted in the stay of the next entry, and the last beacon is of another stay, the next entry does nothing either
  nothing_by : (es : List PlainEvent) (rf : RequestsFit y es) (lost : ℕ) → let ds = history y es in let s = spot_next y ds in
      OtherStay ds s.stay → ((v : ℕ) → recall v s.stay acts ds ≡ None) → (w : Action) → (entry_at y s).action ≡ w → acts (performed y (plan_at y s.hyper.mode) s lost ds (entry_at y s).tick w) ≡ None
  nothing_by es rf lost other before (task_ends a) act =
      let ds = history y es in
      let s = spot_next y ds in
      let p = plan_at y s.hyper.mode in
      let k = ending_run_at p s.turn (entry_at y s).tick a in
      let b = ends_run p s.turn (entry_at y s).tick a in
      let found = nothing_found (node_of p a) s.stay (begun_run a k) ds (only_begun a k) (before (node_of p a)) in
      ap (λ (o : Option ℤ). acts (finished_or_not (node_of p a) a k (cond b o None))) found ∙ by_test (node_of p a) a k b
    where
      by_test : (v a k : ℕ) (b : Bool) → acts (finished_or_not v a k (cond b None None)) ≡ None
      by_test v a k true = refl
      by_test v a k false = refl
  nothing_by es rf lost other before (beacon j) act = refl
  nothing_by es rf lost other before (slot j i) act =
      let q = slots_follow_beacons y plans es j i rf act in
      absurd (other q.1.0 q.1.1 q.1.4)
  nothing_by es rf lost other before (task_starts a) act =
      let ds = history y es in
      let s = spot_next y ds in
      let b = start_after es rf a act in
      absurd (⊎_elim
      (λ (m : Same y ds s). ⊎_elim
      (λ (h : Seen y ds). other h.done h.is_last (h.stay ∙ sym m.stay))
      (λ (u : Unseen y ds).
      let quiet = u b.0 (omega (arith, b.1, m.index)) in
      let rings = ap (λ (z : ℕ). opens_round (get_or (entries y z) b.0 none).action) (sym m.alike.mode) ∙ b.2 in
      let q : true ≡ false = sym rings ∙ quiet in cc)
      (seen_or_not y (some y right) es rf))
      (λ r. ⊎_elim (λ (m : Within y ds s). omega (arith, m.index, b.1)) (λ (m : Opens y ds s). omega (arith, m.index, b.1)) r)
      (moves y ds (stands y es)))

  next_from : (ds : List Step) (s : Spot) → s ≡ spot_next y ds → Moves y ds s → OtherStay ds s.stay → (OtherStay ds (last_spot ds).stay → (v : ℕ) → recall v (last_spot ds).stay acts ds ≡ None) →
      (v : ℕ) → recall v s.stay acts ds ≡ None
  next_from ds s is m other before v =
      let by_stay = λ (same : s.stay ≡ (last_spot ds).stay).
      subst (λ (z : ℕ). recall v z acts ds ≡ None) (sym same) (before (subst (OtherStay ds) same other) v) in
      ⊎_elim
      (λ (m : Same y ds s). by_stay m.stay)
      (λ r. ⊎_elim
      (λ (m : Within y ds s). by_stay m.stay)
      (λ (m : Opens y ds s). subst (λ (t : Spot). recall v t.stay acts ds ≡ None) (sym is) (opens_empty y v acts ds (subst (Opens y ds) is m)))
      r)
      m

  empty_before : (es : List PlainEvent) (rf : RequestsFit y es) → let ds = history y es in OtherStay ds (last_spot ds).stay → (v : ℕ) → recall v (last_spot ds).stay acts ds ≡ None
  empty_before [] rf other v = refl
  empty_before (request m ∷ es) rf other v =
      let ds = history y es in
      still_nothing v (last_spot ds).stay (step_of y (request m) ds) ds refl (empty_before es rf.1 other v)
  empty_before (restart w ∷ es) rf other v =
      let ds = history y es in
      still_nothing v (last_spot ds).stay (step_of y (restart w) ds) ds refl (empty_before es rf other v)
  empty_before (advance lost ∷ es) rf other v =
      let ds = history y es in
      let s = spot_next y ds in
      let d = step_of y (advance lost) ds in
      ⊎_elim
      (λ (rings : is_beacon d.out ≡ true). absurd (other d (beacon_last d ds rings) refl))
      (λ (quiet : is_beacon d.out ≡ false).
      let other' = λ (g : Step) (e : last_beacon ds ≡ Some g). other g (quiet_last d ds quiet ∙ e) in
      let before = next_from ds s refl (moves y ds (stands y es)) other' (empty_before es rf) in
      still_nothing v s.stay d ds (nothing_by es rf lost other' before (entry_at y s).action refl) (before v))
      (cases_Bool (is_beacon d.out))

  -- where the last beacon is of another stay than the next entry, nothing acted in that entry's stay
  pub empty_next : (es : List PlainEvent) (rf : RequestsFit y es) → let ds = history y es in OtherStay ds (spot_next y ds).stay → (v : ℕ) → recall v (spot_next y ds).stay acts ds ≡ None
  empty_next es rf other = let ds = history y es in next_from ds (spot_next y ds) refl (moves y ds (stands y es)) other (empty_before es rf)
