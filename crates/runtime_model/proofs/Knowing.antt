-- A running node knows whether its hyperperiod opens or drains
use Rattle.std.proofs.Common.{◌≡◌, ℕ, Bool, true, false, cond, not, ◌&&◌, List, [], ◌∷◌, ◌++◌, refl, sym, ◌∙◌, ap, arith, ◌⊎◌, inl, inr, ⊎_elim}
use Rattle.std.specs.Prelude.{nat_eq}
use Rattle.std.proofs.lemmas.Bool.{cases_Bool, eqb-true, eqb-false}
use Rattle.std.proofs.Common.{get_or}
use Rattle.runtime_model.specs.Entries.{Action, beacon, task_ends, slot, task_starts}
use Rattle.runtime_model.specs.History.{history, step_of, last_spot, next_place, marks_of, turns, arrival, marks_next, spot_next, entries, entry_at, is_first_beacon, performed, turned}
use Rattle.runtime_model.specs.LookingBack.{settled}
use Rattle.runtime_model.specs.Outcomes.{PlainEvent, advance, request, restart, Step, is_beacon, hears, restarts, announces, names_other}
use Rattle.runtime_model.specs.System.{System, plan_at}
use Rattle.runtime_model.specs.Timeline.{PlainPhase, steady, warn, drain, drains, Hyperperiod, Mark, asked, begins, ended, timeline_of, untaken, request_in, decided, follows, named}
use Rattle.runtime_model.proofs.Cycles.{none}
use Rattle.runtime_model.proofs.Spots.{Same, Within, Opens, moves, stands}
use Rattle.runtime_model.proofs.Beacons.{outcome_is, seen_entry}
use Rattle.runtime_model.specs.Script.{opens_round}
use Rattle.runtime_model.specs.Laws.{SettledNodesKnow}

-- a phase that names the mode itself is steady
abbrev pub NamesOther : Hyperperiod → Type 0
NamesOther h = named h.mode h.phase ≡ h.mode → h.phase ≡ steady

decided_names : (mode : ℕ) (rs : List ℕ) → named mode (decided mode rs) ≡ mode → decided mode rs ≡ steady
decided_names mode [] e = refl
decided_names mode (r ∷ rs) e = by_test (nat_eq r mode) refl e
  where
    by_test : (b : Bool) → nat_eq r mode ≡ b → named mode (cond b steady (warn r)) ≡ mode → cond b steady (warn r) ≡ steady
    by_test true h e = refl
    by_test false h e = absurd (eqb-false r mode h e)

beacon_names : (mode : ℕ) (phase : PlainPhase) (rs : List ℕ) → (named mode phase ≡ mode → phase ≡ steady) → named mode (cond (drains phase) phase (decided mode rs)) ≡ mode → cond (drains phase) phase (decided mode rs) ≡ steady
beacon_names mode steady rs f e = decided_names mode rs e
beacon_names mode (warn m) rs f e = decided_names mode rs e
beacon_names mode (drain m) rs f e = f e

follows_names : (mode : ℕ) (phase : PlainPhase) → (named mode phase ≡ mode → phase ≡ steady) → NamesOther (follows mode phase)
follows_names mode steady f e = refl
follows_names mode (warn m) f e = absurd (not_warn m (f e))
  where
    warns : PlainPhase → Bool
    warns (warn m) = true
    warns p = false

    not_warn : (m : ℕ) → warn m ≡ steady → ⊥
    not_warn m e = grind (arith, e)
follows_names mode (drain m) f e = refl

request_names : (h : Hyperperiod) (m : ℕ) → NamesOther h → NamesOther (request_in h m)
request_names h m f = by_test h.begun
  where
    by_test : (b : Bool) → NamesOther (cond b (record h { late = m ∷ h.late }) (record h { early = m ∷ h.early }))
    by_test true = f
    by_test false = f

pub names : (ms : List Mark) → NamesOther (timeline_of ms).last
names [] = λ e. refl
names (asked m ∷ ms) = request_names (timeline_of ms).last m (names ms)
names (begins ∷ ms) = let t = timeline_of ms in beacon_names t.last.mode t.last.phase (t.last.early ++ untaken t.before) (names ms)
names (ended ∷ ms) = let t = timeline_of ms in follows_names t.last.mode t.last.phase (names ms)

-- a beacon that announces no change is of a steady hyperperiod
pub quiet_is_steady : (y : System) (ds : List Step) (lost : ℕ) → is_beacon (step_of y (advance lost) ds).out ≡ true → announces (step_of y (advance lost) ds) ≡ false → (spot_next y ds).hyper.phase ≡ steady
quiet_is_steady y ds lost b a =
    let s = spot_next y ds in
    let e = entry_at y s in
    let w = seen_entry e.action (sym (outcome_is y (plan_at y s.hyper.mode) s lost ds e.tick e.action) ∙ b) in
    let a' = ap (λ (x : Action). names_other s.hyper.mode (performed y (plan_at y s.hyper.mode) s lost ds e.tick x)) (sym w.1) ∙ a in
    names (marks_next y ds ++ marks_of ds) (eqb-true (named s.hyper.mode s.hyper.phase) s.hyper.mode (not_not (nat_eq (named s.hyper.mode s.hyper.phase) s.hyper.mode) a'))
  where
    not_not : (b : Bool) → not b ≡ false → b ≡ true
    not_not true e = refl
    not_not false e = absurd cc

-- ---- the phase of the last hyperperiod
pub request_phase : (h : Hyperperiod) (m : ℕ) → (request_in h m).phase ≡ h.phase
request_phase h m = by_test h.begun
  where
    by_test : (b : Bool) → (cond b (record h { late = m ∷ h.late }) (record h { early = m ∷ h.early })).phase ≡ h.phase
    by_test true = refl
    by_test false = refl

pub phase_stands : (y : System) (es : List PlainEvent) → (timeline_of (marks_of (history y es))).last.phase ≡ (last_spot (history y es)).hyper.phase
phase_stands y [] = refl
phase_stands y (request m ∷ es) = request_phase (timeline_of (marks_of (history y es))).last m ∙ phase_stands y es
phase_stands y (restart v ∷ es) = phase_stands y es
phase_stands y (advance lost ∷ es) = refl

steady_follows : (mode : ℕ) (phase : PlainPhase) → phase ≡ steady → (follows mode phase).phase ≡ steady
steady_follows mode phase e = ap (λ (p : PlainPhase). (follows mode p).phase) e

-- an Advance that is no first beacon leaves a steady timeline steady
pub steady_with : (ms : List Mark) (b c : Bool) → b ≡ false → (timeline_of ms).last.phase ≡ steady → (timeline_of ((cond b (begins ∷ []) [] ++ cond c (ended ∷ []) []) ++ ms)).last.phase ≡ steady
steady_with ms true c e h = absurd cc
steady_with ms false true e h = steady_follows (timeline_of ms).last.mode (timeline_of ms).last.phase h
steady_with ms false false e h = h

pub arrival_mode : (y : System) (ds : List Step) (b c : Bool) →
    (timeline_of ((cond b (begins ∷ []) [] ++ cond c (ended ∷ []) []) ++ marks_of ds)).last.mode ≡ (cond c (turned y (last_spot ds) (ended ∷ marks_of ds)) (record { hyper = (timeline_of (marks_of ds)).last; stay = (last_spot ds).stay; turn = (last_spot ds).turn; begin = (last_spot ds).begin; index = next_place ds })).hyper.mode
arrival_mode y ds true true = refl
arrival_mode y ds true false = refl
arrival_mode y ds false true = refl
arrival_mode y ds false false = refl

pub first_is : (w : Action) → opens_round w ≡ false → is_first_beacon w ≡ false
first_is (task_ends a) e = refl
first_is (beacon j) e = absurd cc
first_is (slot j i) e = refl
first_is (task_starts a) e = refl

steady_next : (y : System) (es : List PlainEvent) (lost : ℕ) → is_beacon (step_of y (advance lost) (history y es)).out ≡ false → (last_spot (history y es)).hyper.phase ≡ steady → (spot_next y (history y es)).hyper.phase ≡ steady
steady_next y es lost b h =
    let ds = history y es in
    let s = spot_next y ds in
    let e = entry_at y s in
    let first = is_first_beacon (entry_at y (arrival y ds)).action in
    let mode = arrival_mode y ds first (turns y ds) in
    let quiet = sym (outcome_is y (plan_at y s.hyper.mode) s lost ds e.tick e.action) ∙ b in
    let not_first : first ≡ false = ap (λ (z : ℕ). is_first_beacon (get_or (entries y z) s.index none).action) (sym mode) ∙ first_is e.action quiet in
    steady_with (marks_of ds) first (turns y ds) not_first (phase_stands y es ∙ h)

-- a settled node knows that its hyperperiod is steady
pub settled_steady : (y : System) (v : ℕ) (es : List PlainEvent) → settled v (history y es) ≡ true → (last_spot (history y es)).hyper.phase ≡ steady
settled_steady y v [] e = absurd cc
settled_steady y v (request m ∷ es) e = settled_steady y v es e
settled_steady y v (restart w ∷ es) e = settled_steady y v es (not_false (nat_eq w v) (settled v (history y es)) e)
  where
    not_false : (b x : Bool) → cond b false x ≡ true → x ≡ true
    not_false true x e = absurd cc
    not_false false x e = e
settled_steady y v (advance lost ∷ es) e =
    let ds = history y es in
    let d = step_of y (advance lost) ds in
    ⊎_elim
    (λ (rings : is_beacon d.out ≡ true). quiet_is_steady y ds lost rings (calm (restarts v d.out) (is_beacon d.out) (hears v d.out) (announces d) (settled v ds) rings e))
    (λ (rings : is_beacon d.out ≡ false). steady_next y es lost rings (settled_steady y v es (still (restarts v d.out) (is_beacon d.out) (hears v d.out && not (announces d)) (settled v ds) rings e)))
    (cases_Bool (is_beacon d.out))
  where
    calm : (r b h a x : Bool) → b ≡ true → cond r false (cond b (h && not a) x) ≡ true → a ≡ false
    calm true b h a x f e = absurd cc
    calm false true true true x f e = absurd cc
    calm false true true false x f e = refl
    calm false true false a x f e = absurd cc
    calm false false h a x f e = absurd cc

    still : (r b q x : Bool) → b ≡ false → cond r false (cond b q x) ≡ true → x ≡ true
    still true b q x f e = absurd cc
    still false true q x f e = absurd cc
    still false false q x f e = e

-- where a settled node misses a beacon, the next hyperperiod is of its stay and mode, and neither opens nor drains
pub next_is_plain : (y : System) (v : ℕ) (es : List PlainEvent) → settled v (history y es) ≡ true → let s = spot_next y (history y es) in let l = last_spot (history y es) in
    (s.stay ≡ l.stay) × (s.hyper.mode ≡ l.hyper.mode) × ((s.turn ≡ l.turn) ⊎ (s.hyper.opening ≡ false))
next_is_plain y v es e =
    let ds = history y es in
    let s = spot_next y ds in
    let calm = ap drains (settled_steady y v es e) in
    ⊎_elim
    (λ (m : Same y ds s). (m.stay, m.alike.mode, inl m.turn))
    (λ r. ⊎_elim
    (λ (m : Within y ds s). (m.stay, m.mode, inr m.opening))
    (λ (m : Opens y ds s). absurd (let q : true ≡ false = sym m.before ∙ calm in cc)) r)
    (moves y ds (stands y es))

pub settled_nodes_know : SettledNodesKnow
settled_nodes_know y v es e = let p = next_is_plain y v es e in (settled_steady y v es e, p.0, p.1, p.2)
