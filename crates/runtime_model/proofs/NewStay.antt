-- What a new stay, a request and a restart leave of where the next entry stands
use Rattle.std.proofs.Common.{◌≡◌, ℕ, suc, Bool, true, false, cond, not, ◌&&◌, List, [], ◌∷◌, ◌++◌, get_or, refl, sym, ◌∙◌, ap, subst, arith, ⊎_elim}
use Rattle.std.specs.Prelude.{nat_eq, Option, Some, None}
use Rattle.std.proofs.lemmas.Bool.{cases_Bool, cond-true, cond-false}
use Rattle.runtime_model.specs.Timeline.{drains, Hyperperiod, Mark, asked, begins, ended, timeline_of, request_in, follows}
use Rattle.runtime_model.specs.Outcomes.{PlainEvent, advance, request, restart, Outcome, Spot, Step, is_beacon, hears, restarts, announces}
use Rattle.runtime_model.specs.LookingBack.{recall, settled, last_beacon}
use Rattle.runtime_model.specs.System.{System}
use Rattle.runtime_model.specs.History.{history, step_of, last_spot, marks_of, next_place, turns, arrival, turned, spot_next, entry_at, entries, is_first_beacon}
use Rattle.runtime_model.specs.Laws.{StaysAreApart}
use Rattle.runtime_model.proofs.Cycles.{none}
use Rattle.runtime_model.proofs.Spots.{Alike, alike_marks, alike_both, alike_request, spot_with, Opens}
use Rattle.runtime_model.proofs.Registers.{recall_stay}
use Rattle.runtime_model.proofs.HostRounds.{request_begun}
use Rattle.runtime_model.proofs.Knowing.{settled_steady, next_is_plain, phase_stands, steady_with, request_phase, arrival_mode}

-- ---- a new stay

-- a look back in another stay than that of the last event finds nothing
pub stays_are_apart : (X : Type 0) → StaysAreApart X
stays_are_apart X v stay f ds other = by_case (recall v stay f ds) refl
  where
    by_case : (o : Option X) → recall v stay f ds ≡ o → recall v stay f ds ≡ None
    by_case None e = e
    by_case (Some z) e = absurd (other (recall_stay v stay f ds z e))

-- where the next Advance opens a stay, no node has anything of it yet
pub opens_empty : {X : Type 0} (y : System) (v : ℕ) (f : Outcome → Option X) (ds : List Step) → Opens y ds (spot_next y ds) → recall v (spot_next y ds).stay f ds ≡ None
opens_empty {X = X} y v f ds m = stays_are_apart X v (spot_next y ds).stay f ds (λ e. omega (arith, e, m.stay))

-- ---- a settled node

-- the next Advance of a settled node's world stands in a hyperperiod that does not drain
pub settled_calm : (y : System) (v : ℕ) (es : List PlainEvent) → settled v (history y es) ≡ true → drains (spot_next y (history y es)).hyper.phase ≡ false
settled_calm y v es e =
    let ds = history y es in
    let first = is_first_beacon (entry_at y (arrival y ds)).action in
    let still = steady_with (marks_of ds) false (turns y ds) refl (phase_stands y es ∙ settled_steady y v es e) in
    (alike_marks first (turns y ds) (marks_of ds)).drains ∙ ap drains still

-- the last event of a settled node's world is in the mode and the stay of the last beacon, and so is the next Advance
pub settled_place : (y : System) (v : ℕ) (es : List PlainEvent) (d : Step) → settled v (history y es) ≡ true → last_beacon (history y es) ≡ Some d →
    ((last_spot (history y es)).hyper.mode ≡ d.spot.hyper.mode) × ((last_spot (history y es)).stay ≡ d.spot.stay)
settled_place y v [] d e b = absurd (grind (arith, b))
settled_place y v (request m ∷ es) d e b = settled_place y v es d e b
settled_place y v (restart w ∷ es) d e b = settled_place y v es d (not_false (nat_eq w v) (settled v (history y es)) e) b
  where
    not_false : (b x : Bool) → cond b false x ≡ true → x ≡ true
    not_false true x e = absurd cc
    not_false false x e = e
settled_place y v (advance lost ∷ es) d e b =
    let ds = history y es in
    let g = step_of y (advance lost) ds in
    ⊎_elim
    (λ (rings : is_beacon g.out ≡ true).
    let same : g ≡ d = only g d (sym (cond-true (is_beacon g.out) (Some g) (last_beacon ds) rings) ∙ b) in
    (ap (λ (z : Step). z.spot.hyper.mode) same, ap (λ (z : Step). z.spot.stay) same))
    (λ (rings : is_beacon g.out ≡ false).
    let before = still (restarts v g.out) (is_beacon g.out) (hears v g.out && not (announces g)) (settled v ds) rings e in
    let w = settled_place y v es d before (sym (cond-false (is_beacon g.out) (Some g) (last_beacon ds) rings) ∙ b) in
    let n = next_is_plain y v es before in
    (n.1 ∙ w.0, n.0 ∙ w.1))
    (cases_Bool (is_beacon g.out))
  where
    only : (g d : Step) → Some g ≡ Some d → g ≡ d
    only g d e = grind (arith, e)

    still : (r b q x : Bool) → b ≡ false → cond r false (cond b q x) ≡ true → x ≡ true
    still true b q x f e = absurd cc
    still false true q x f e = absurd cc
    still false false q x f e = e

pub settled_next : (y : System) (v : ℕ) (es : List PlainEvent) (d : Step) → settled v (history y es) ≡ true → last_beacon (history y es) ≡ Some d →
    ((spot_next y (history y es)).hyper.mode ≡ d.spot.hyper.mode) × ((spot_next y (history y es)).stay ≡ d.spot.stay)
settled_next y v es d e b =
    let w = settled_place y v es d e b in
    let n = next_is_plain y v es e in
    (n.1 ∙ w.0, n.0 ∙ w.1)

-- ---- a request and a restart

-- a restart leaves where the next Advance stands
pub restart_next : (y : System) (v : ℕ) (ds : List Step) → spot_next y (step_of y (restart v) ds ∷ ds) ≡ spot_next y ds
restart_next y v ds = refl

-- two spots alike in all but the requests of the hyperperiod, and in what it decides at its first beacon
pub record Unmoved (s t : Spot) : Type 0 where
  pub stay : s.stay ≡ t.stay
  pub turn : s.turn ≡ t.turn
  pub begin : s.begin ≡ t.begin
  pub index : s.index ≡ t.index
  pub mode : s.hyper.mode ≡ t.hyper.mode
  pub opening : s.hyper.opening ≡ t.hyper.opening
  pub begun : s.hyper.begun ≡ t.hyper.begun
  pub drains : drains s.hyper.phase ≡ drains t.hyper.phase

follows_request : (h : Hyperperiod) (m : ℕ) → follows (request_in h m).mode (request_in h m).phase ≡ follows h.mode h.phase
follows_request h m = by_test h.begun
  where
    by_test : (b : Bool) → let g = cond b (record h { late = m ∷ h.late }) (record h { early = m ∷ h.early }) in follows g.mode g.phase ≡ follows h.mode h.phase
    by_test true = refl
    by_test false = refl

pub request_mode : (h : Hyperperiod) (m : ℕ) → (request_in h m).mode ≡ h.mode
request_mode h m = by_test h.begun
  where
    by_test : (b : Bool) → (cond b (record h { late = m ∷ h.late }) (record h { early = m ∷ h.early })).mode ≡ h.mode
    by_test true = refl
    by_test false = refl

alike_sym : (g h : Hyperperiod) → Alike g h → Alike h g
alike_sym g h a = record { mode = sym a.mode; opening = sym a.opening; drains = sym a.drains }

abbrev marks_with : Bool → Bool → List Mark → List Mark
marks_with b c ms = (cond b (begins ∷ []) [] ++ cond c (ended ∷ []) []) ++ ms

ended_alike : (c : Bool) (m : ℕ) (ms : List Mark) → Alike (timeline_of (cond c (ended ∷ []) [] ++ (asked m ∷ ms))).last (timeline_of (cond c (ended ∷ []) [] ++ ms)).last
ended_alike false m ms = alike_request (timeline_of ms).last m
ended_alike true m ms =
    let e = follows_request (timeline_of ms).last m in
    record { mode = ap (λ (h : Hyperperiod). h.mode) e; opening = ap (λ (h : Hyperperiod). h.opening) e; drains = ap (λ (h : Hyperperiod). drains h.phase) e }

asked_alike : (b c : Bool) (m : ℕ) (ms : List Mark) → Alike (timeline_of (marks_with b c (asked m ∷ ms))).last (timeline_of (marks_with b c ms)).last
asked_alike b c m ms =
    let g = (timeline_of (marks_with b c (asked m ∷ ms))).last in
    let k = (timeline_of (marks_with b c ms)).last in
    let g' = (timeline_of (cond c (ended ∷ []) [] ++ (asked m ∷ ms))).last in
    let k' = (timeline_of (cond c (ended ∷ []) [] ++ ms)).last in
    alike_both g g' k (alike_marks b c (asked m ∷ ms)) (alike_both g' k' k (ended_alike c m ms) (alike_sym k k' (alike_marks b c ms)))

asked_begun : (b c : Bool) (m : ℕ) (ms : List Mark) → (timeline_of (marks_with b c (asked m ∷ ms))).last.begun ≡ (timeline_of (marks_with b c ms)).last.begun
asked_begun true c m ms = refl
asked_begun false true m ms = ap (λ (h : Hyperperiod). h.begun) (follows_request (timeline_of ms).last m)
asked_begun false false m ms = request_begun (timeline_of ms).last m

asked_phase : (b c : Bool) (m : ℕ) (ms : List Mark) → b ≡ false → (timeline_of (marks_with b c (asked m ∷ ms))).last.phase ≡ (timeline_of (marks_with b c ms)).last.phase
asked_phase true c m ms e = absurd cc
asked_phase false true m ms e = ap (λ (h : Hyperperiod). h.phase) (follows_request (timeline_of ms).last m)
asked_phase false false m ms e = request_phase (timeline_of ms).last m

-- the spots of the next Advance with and without the request
abbrev asked_step : System → ℕ → List Step → List Step
asked_step y m ds = step_of y (request m) ds ∷ ds

asked_unmoved : (y : System) (m : ℕ) (ds : List Step) (b c : Bool) → Unmoved (spot_with y (asked_step y m ds) b c) (spot_with y ds b c)
asked_unmoved y m ds b true =
    let e = follows_request (timeline_of (marks_of ds)).last m in
    let a = asked_alike b true m (marks_of ds) in
    let s = last_spot ds in
    record {
      stay = ap (λ (h : Hyperperiod). cond h.opening (suc s.stay) s.stay) e;
      turn = ap (λ (h : Hyperperiod). cond h.opening 0 (suc s.turn)) e;
      begin = refl;
      index = refl;
      mode = a.mode;
      opening = a.opening;
      begun = asked_begun b true m (marks_of ds);
      drains = a.drains;
    }
asked_unmoved y m ds b false =
    let a = asked_alike b false m (marks_of ds) in
    record { stay = refl; turn = refl; begin = refl; index = refl; mode = a.mode; opening = a.opening; begun = asked_begun b false m (marks_of ds); drains = a.drains }

asked_first : (y : System) (m : ℕ) (ds : List Step) (c : Bool) → let arrives = λ (xs : List Step). cond c (turned y (last_spot xs) (ended ∷ marks_of xs)) (record { hyper = (timeline_of (marks_of xs)).last; stay = (last_spot xs).stay; turn = (last_spot xs).turn; begin = (last_spot xs).begin; index = next_place xs }) in
    is_first_beacon (entry_at y (arrives (asked_step y m ds))).action ≡ is_first_beacon (entry_at y (arrives ds)).action
asked_first y m ds true = ap (λ (h : Hyperperiod). is_first_beacon (get_or (entries y h.mode) 0 none).action) (follows_request (timeline_of (marks_of ds)).last m)
asked_first y m ds false = ap (λ (z : ℕ). is_first_beacon (get_or (entries y z) (next_place ds) none).action) (request_mode (timeline_of (marks_of ds)).last m)

-- a request leaves where the next Advance stands, and whether it drains
pub request_next : (y : System) (m : ℕ) (ds : List Step) → Unmoved (spot_next y (step_of y (request m) ds ∷ ds)) (spot_next y ds)
request_next y m ds =
    let first = is_first_beacon (entry_at y (arrival y ds)).action in
    subst (λ b. Unmoved (spot_with y (asked_step y m ds) b (turns y ds)) (spot_next y ds)) (sym (asked_first y m ds (turns y ds))) (asked_unmoved y m ds first (turns y ds))

-- it leaves the phase too, where the next entry is not the first beacon of its hyperperiod
pub request_phase_next : (y : System) (m : ℕ) (ds : List Step) → is_first_beacon (entry_at y (spot_next y ds)).action ≡ false → (spot_next y (step_of y (request m) ds ∷ ds)).hyper.phase ≡ (spot_next y ds).hyper.phase
request_phase_next y m ds e =
    let first = is_first_beacon (entry_at y (arrival y ds)).action in
    let s = spot_next y ds in
    let none_first : first ≡ false = ap (λ (z : ℕ). is_first_beacon (get_or (entries y z) s.index none).action) (sym (arrival_mode y ds first (turns y ds))) ∙ e in
    ap (λ b. (timeline_of (marks_with b (turns y ds) (asked m ∷ marks_of ds))).last.phase) (asked_first y m ds (turns y ds)) ∙ asked_phase first (turns y ds) m (marks_of ds) none_first

-- it leaves the entry
pub request_entry : (y : System) (m : ℕ) (ds : List Step) → entry_at y (spot_next y (step_of y (request m) ds ∷ ds)) ≡ entry_at y (spot_next y ds)
request_entry y m ds =
    let u = request_next y m ds in
    ap (λ (z : ℕ). get_or (entries y z) (spot_next y (asked_step y m ds)).index none) u.mode ∙ ap (λ (i : ℕ). get_or (entries y (spot_next y ds).hyper.mode) i none) u.index
