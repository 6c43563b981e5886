-- How the places of successive events follow each other
use Rattle.std.proofs.Common.{◌≡◌, ℕ, suc, ◌+◌, ◌<◌, ◌≤◌, Bool, true, false, cond, not, List, [], ◌∷◌, ◌++◌, length, refl, sym, ◌∙◌, ap, arith, ◌⊎◌, inl, inr, ⊎_elim}
use Rattle.std.specs.Prelude.{nat_eq, nat_lt}
use Rattle.std.proofs.lemmas.Bool.{cases_Bool, cond-true, cond-false, eq-eqb}
use Rattle.sched_model.specs.PlainMode.{hyper}
use Rattle.runtime_model.specs.History.{history, last_spot, next_place, marks_of, turns, arrival, spot_next, with_hyper, turned, entries, entry_at, is_first_beacon}
use Rattle.runtime_model.specs.Outcomes.{PlainEvent, advance, request, restart, Spot, Step}
use Rattle.runtime_model.specs.System.{System, plan_at}
use Rattle.runtime_model.specs.Timeline.{PlainPhase, steady, warn, drain, drains, Hyperperiod, Mark, begins, ended, timeline_of, untaken, request_in, decided, follows, fresh}

-- two hyperperiods of one mode, opening alike and draining alike
pub record Alike (g h : Hyperperiod) : Type 0 where
  pub mode : g.mode ≡ h.mode
  pub opening : g.opening ≡ h.opening
  pub drains : drains g.phase ≡ drains h.phase

pub alike_refl : (g : Hyperperiod) → Alike g g
alike_refl g = record { mode = refl; opening = refl; drains = refl }

pub alike_both : (g h k : Hyperperiod) → Alike g h → Alike h k → Alike g k
alike_both g h k a b = record { mode = a.mode ∙ b.mode; opening = a.opening ∙ b.opening; drains = a.drains ∙ b.drains }

pub alike_request : (h : Hyperperiod) (m : ℕ) → Alike (request_in h m) h
alike_request h m = by_test h.begun
  where
    by_test : (b : Bool) → Alike (cond b (record h { late = m ∷ h.late }) (record h { early = m ∷ h.early })) h
    by_test true = record { mode = refl; opening = refl; drains = refl }
    by_test false = record { mode = refl; opening = refl; drains = refl }

decided_drains : (mode : ℕ) (rs : List ℕ) → drains (decided mode rs) ≡ false
decided_drains mode [] = refl
decided_drains mode (r ∷ rs) = by_test (nat_eq r mode)
  where
    by_test : (b : Bool) → drains (cond b steady (warn r)) ≡ false
    by_test true = refl
    by_test false = refl

beacon_drains : (phase : PlainPhase) (mode : ℕ) (rs : List ℕ) → drains (cond (drains phase) phase (decided mode rs)) ≡ drains phase
beacon_drains steady mode rs = decided_drains mode rs
beacon_drains (warn m) mode rs = decided_drains mode rs
beacon_drains (drain m) mode rs = refl

pub alike_begins : (ms : List Mark) → Alike (timeline_of (begins ∷ ms)).last (timeline_of ms).last
alike_begins ms = let t = timeline_of ms in record { mode = refl; opening = refl; drains = beacon_drains t.last.phase t.last.mode (t.last.early ++ untaken t.before) }

-- a hyperperiod that does not drain is followed by one of its mode, a draining one by an opening
pub follows_opening : (mode : ℕ) (phase : PlainPhase) → (follows mode phase).opening ≡ drains phase
follows_opening mode steady = refl
follows_opening mode (warn m) = refl
follows_opening mode (drain m) = refl

pub follows_mode : (mode : ℕ) (phase : PlainPhase) → drains phase ≡ false → (follows mode phase).mode ≡ mode
follows_mode mode steady e = refl
follows_mode mode (warn m) e = refl
follows_mode mode (drain m) e = absurd cc

follows_drains : (mode : ℕ) (phase : PlainPhase) → drains phase ≡ true → drains (follows mode phase).phase ≡ false
follows_drains mode steady e = refl
follows_drains mode (warn m) e = absurd cc
follows_drains mode (drain m) e = refl

-- what the timeline sees of the next Advance
pub alike_marks : (b c : Bool) (ms : List Mark) → Alike (timeline_of ((cond b (begins ∷ []) [] ++ cond c (ended ∷ []) []) ++ ms)).last (timeline_of (cond c (ended ∷ []) [] ++ ms)).last
alike_marks true true ms = alike_begins (ended ∷ ms)
alike_marks true false ms = alike_begins ms
alike_marks false true ms = alike_refl (timeline_of (ended ∷ ms)).last
alike_marks false false ms = alike_refl (timeline_of ms).last

-- what holds of the last spot
pub record Stands (ds : List Step) : Type 0 where
  pub alike : Alike (timeline_of (marks_of ds)).last (last_spot ds).hyper
  pub turn : (last_spot ds).hyper.opening ≡ nat_eq (last_spot ds).turn 0
  pub opening : (last_spot ds).hyper.opening ≡ true → drains (last_spot ds).hyper.phase ≡ false

-- the next Advance stays in the hyperperiod, goes on to the next one of the stay, or opens a stay
pub record Same (y : System) (ds : List Step) (s : Spot) : Type 0 where
  pub inside : next_place ds < length (entries y (last_spot ds).hyper.mode)
  pub alike : Alike s.hyper (last_spot ds).hyper
  pub stay : s.stay ≡ (last_spot ds).stay
  pub turn : s.turn ≡ (last_spot ds).turn
  pub index : s.index ≡ next_place ds
  pub begin : s.begin ≡ (last_spot ds).begin

pub record Within (y : System) (ds : List Step) (s : Spot) : Type 0 where
  pub over : length (entries y (last_spot ds).hyper.mode) ≤ next_place ds
  pub before : drains (last_spot ds).hyper.phase ≡ false
  pub mode : s.hyper.mode ≡ (last_spot ds).hyper.mode
  pub opening : s.hyper.opening ≡ false
  pub stay : s.stay ≡ (last_spot ds).stay
  pub turn : s.turn ≡ suc (last_spot ds).turn
  pub index : s.index ≡ 0
  pub begin : s.begin ≡ (last_spot ds).begin + hyper (plan_at y (last_spot ds).hyper.mode).mode

pub record Opens (y : System) (ds : List Step) (s : Spot) : Type 0 where
  pub over : length (entries y (last_spot ds).hyper.mode) ≤ next_place ds
  pub before : drains (last_spot ds).hyper.phase ≡ true
  pub drained : drains s.hyper.phase ≡ false
  pub opening : s.hyper.opening ≡ true
  pub stay : s.stay ≡ suc (last_spot ds).stay
  pub turn : s.turn ≡ 0
  pub index : s.index ≡ 0
  pub begin : s.begin ≡ (last_spot ds).begin + hyper (plan_at y (last_spot ds).hyper.mode).mode

abbrev pub Moves : System → List Step → Spot → Type 0
Moves y ds s = Same y ds s ⊎ (Within y ds s ⊎ Opens y ds s)

-- the next spot, by whether the Advance is a first beacon and whether it turns
abbrev pub spot_with : System → List Step → Bool → Bool → Spot
spot_with y ds b c =
    let s = last_spot ds in
    with_hyper (cond c (turned y s (ended ∷ marks_of ds)) (record { hyper = (timeline_of (marks_of ds)).last; stay = s.stay; turn = s.turn; begin = s.begin; index = next_place ds }))
    ((cond b (begins ∷ []) [] ++ cond c (ended ∷ []) []) ++ marks_of ds)

below_test : (m n : ℕ) → not (nat_lt m n) ≡ false → m < n
below_test m n e = grind (arith, e)

above_test : (m n : ℕ) → not (nat_lt m n) ≡ true → n ≤ m
above_test m n e = grind (arith, e)

moves_with : (y : System) (ds : List Step) → Stands ds → (b c : Bool) → turns y ds ≡ c → Moves y ds (spot_with y ds b c)
moves_with y ds st b false e =
    inl (record {
      inside = below_test (next_place ds) (length (entries y (last_spot ds).hyper.mode)) e;
      alike = alike_both (spot_with y ds b false).hyper (timeline_of (marks_of ds)).last (last_spot ds).hyper (alike_marks b false (marks_of ds)) st.alike;
      stay = refl;
      turn = refl;
      index = refl;
      begin = refl;
    })
moves_with y ds st b true e =
    let t = (timeline_of (marks_of ds)).last in
    let h = follows t.mode t.phase in
    let s = last_spot ds in
    let a = alike_marks b true (marks_of ds) in
    let over = above_test (next_place ds) (length (entries y s.hyper.mode)) e in
    let o = follows_opening t.mode t.phase in
    ⊎_elim
    (λ (d : drains t.phase ≡ true). inr (inr (record {
      over = over;
      before = sym st.alike.drains ∙ d;
      drained = a.drains ∙ follows_drains t.mode t.phase d;
      opening = a.opening ∙ o ∙ d;
      stay = cond-true h.opening (suc s.stay) s.stay (o ∙ d);
      turn = cond-true h.opening 0 (suc s.turn) (o ∙ d);
      index = refl;
      begin = refl;
    })))
    (λ (d : drains t.phase ≡ false). inr (inl (record {
      over = over;
      before = sym st.alike.drains ∙ d;
      mode = a.mode ∙ follows_mode t.mode t.phase d ∙ st.alike.mode;
      opening = a.opening ∙ o ∙ d;
      stay = cond-false h.opening (suc s.stay) s.stay (o ∙ d);
      turn = cond-false h.opening 0 (suc s.turn) (o ∙ d);
      index = refl;
      begin = refl;
    })))
    (cases_Bool (drains t.phase))

pub moves : (y : System) (ds : List Step) → Stands ds → Moves y ds (spot_next y ds)
moves y ds st = moves_with y ds st (is_first_beacon (entry_at y (arrival y ds)).action) (turns y ds) refl

-- ---- every history stands
zero_is : (n : ℕ) → n ≡ 0 → true ≡ nat_eq n 0
zero_is n e = sym (eq-eqb n 0 e)

suc_is : (m n : ℕ) → n ≡ suc m → false ≡ nat_eq n 0
suc_is m n e = grind (arith, e)

pub stands : (y : System) (es : List PlainEvent) → Stands (history y es)
stands y [] = record { alike = alike_refl (fresh 0 true steady); turn = refl; opening = λ e. refl }
stands y (request m ∷ es) =
    let ds = history y es in
    let st = stands y es in
    record { alike = alike_both (request_in (timeline_of (marks_of ds)).last m) (timeline_of (marks_of ds)).last (last_spot ds).hyper (alike_request (timeline_of (marks_of ds)).last m) st.alike; turn = st.turn; opening = st.opening }
stands y (restart v ∷ es) = let st = stands y es in record { alike = st.alike; turn = st.turn; opening = st.opening }
stands y (advance lost ∷ es) =
    let ds = history y es in
    let st = stands y es in
    let s = spot_next y ds in
    record {
      alike = alike_refl s.hyper;
      turn = ⊎_elim
          (λ (m : Same y ds s). m.alike.opening ∙ st.turn ∙ ap (λ n. nat_eq n 0) (sym m.turn))
          (λ r. ⊎_elim
          (λ (m : Within y ds s). m.opening ∙ suc_is (last_spot ds).turn s.turn m.turn)
          (λ (m : Opens y ds s). m.opening ∙ zero_is s.turn m.turn) r)
          (moves y ds st);
      opening = λ e. ⊎_elim
          (λ (m : Same y ds s). m.alike.drains ∙ st.opening (sym m.alike.opening ∙ e))
          (λ r. ⊎_elim
          (λ (m : Within y ds s). absurd (let x : true ≡ false = sym e ∙ m.opening in cc))
          (λ (m : Opens y ds s). m.drained) r)
          (moves y ds st);
    }
