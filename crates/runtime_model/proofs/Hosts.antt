-- The host's calls against the timeline
use Rattle.std.proofs.Common.{◌≡◌, ℕ, suc, ◌≤◌, Bool, true, false, cond, List, [], ◌∷◌, ◌++◌, refl, sym, ◌∙◌, subst, arith, ◌⊎◌, inl, inr, ⊎_elim}
use Rattle.std.specs.Prelude.{Option, Some, None, nat_eq, nat_lt}
use Rattle.std.proofs.lemmas.Bool.{eqb-true, eqb-false}
use Rattle.runtime_model.specs.HostCalls.{latest_of, rounds_in, HostCall, request_call, next_beacon_call, end_round_call, CallState, call_state, call_step, MayCall, AllMay, PlainHost, host_of, begun_host, turned_host, after_call}
use Rattle.runtime_model.specs.Laws.{HostsKeepTime}
use Rattle.runtime_model.specs.Timeline.{PlainPhase, steady, warn, drain, drains, Hyperperiod, Timeline, begins, ended, timeline_of, untaken, request_in, phase_at_beacon, decided, follows}

-- the last hyperperiod of a list of calls
abbrev pub last_of : CallState → Hyperperiod
last_of s = (timeline_of s.marks).last

-- what holds of the last hyperperiod after calls that met their conditions
abbrev pub Fits : ℕ → Bool → Hyperperiod → Type 0
Fits r i h = (h.begun ≡ true) × ((i ≡ true) ⊎ (r ≡ 1 → ⊥)) ⊎ (i ≡ false) × (r ≡ 1) × (h.begun ≡ false) × (h.late ≡ [])

abbrev hyp : ℕ → Bool → PlainPhase → Bool → List ℕ → List ℕ → Hyperperiod
hyp mode opening phase begun early late = record { mode = mode; opening = opening; phase = phase; begun = begun; early = early; late = late }

abbrev line : Hyperperiod → List Hyperperiod → Timeline
line h hs = record { last = h; before = hs }

abbrev host : ℕ → ℕ → PlainPhase → Bool → Option ℕ → Bool → PlainHost
host mode r phase opening w i = record { mode = mode; round = r; phase = phase; opening = opening; waiting = w; inside = i }

-- ---- the three calls on any timeline
asks : (r : ℕ) (i : Bool) (m mode : ℕ) (opening : Bool) (phase : PlainPhase) (begun : Bool) (early late : List ℕ) (hs : List Hyperperiod) →
    record (host_of (line (hyp mode opening phase begun early late) hs) r i) { waiting = Some m } ≡ host_of (line (request_in (hyp mode opening phase begun early late) m) hs) r i
asks r i m mode opening phase true early late hs = refl
asks r i m mode opening phase false early late hs = refl

abbrev begun_line : Hyperperiod → List Hyperperiod → Timeline
begun_line h hs = line (record h { begun = true; phase = phase_at_beacon h hs }) hs

-- the phase that the latest request gives, and what waits after it
decides : (r mode : ℕ) (opening : Bool) (xs : List ℕ) →
    begun_host (host mode r steady opening (latest_of xs) false)
    ≡ host mode r (decided mode xs) opening (latest_of (cond (drains (decided mode xs)) xs [])) true
decides r mode opening [] = refl
decides r mode opening (x ∷ xs) = by_test (nat_eq x mode)
  where
    by_test : (b : Bool) →
        host mode r (cond b steady (warn x)) opening None true
        ≡ host mode r (cond b steady (warn x)) opening (latest_of (cond (drains (cond b steady (warn x))) (x ∷ xs) [])) true
    by_test true = refl
    by_test false = refl

begins_at : (r mode : ℕ) (opening : Bool) (phase : PlainPhase) (early : List ℕ) (hs : List Hyperperiod) →
    begun_host (host_of (line (hyp mode opening phase false early []) hs) r false) ≡ host_of (begun_line (hyp mode opening phase false early []) hs) r true
begins_at r mode opening steady early hs = decides r mode opening (early ++ untaken hs)
begins_at r mode opening (warn m) early hs = decides r mode opening (early ++ untaken hs)
begins_at r mode opening (drain m) early hs = refl

ends_at : (r mode : ℕ) (opening : Bool) (phase : PlainPhase) (early late : List ℕ) (hs : List Hyperperiod) →
    turned_host (host_of (line (hyp mode opening phase true early late) hs) r true) phase ≡ host_of (line (follows mode phase) (hyp mode opening phase true early late ∷ hs)) 1 false
ends_at r mode opening steady early late hs = refl
ends_at r mode opening (warn m) early late hs = refl
ends_at r mode opening (drain m) early late hs = refl

begins_for : (r : ℕ) (h : Hyperperiod) (hs : List Hyperperiod) (i : Bool) → i ≡ false → h.begun ≡ false → h.late ≡ [] →
    begun_host (host_of (line h hs) r i) ≡ host_of (begun_line h hs) r true
begins_for r h hs i i_is b l =
    subst (λ (x : Bool). begun_host (host_of (line h hs) r x) ≡ host_of (begun_line h hs) r true) (sym i_is)
    (subst (λ (x : Bool). begun_host (host_of (line (hyp h.mode h.opening h.phase x h.early h.late) hs) r false) ≡ host_of (begun_line (hyp h.mode h.opening h.phase x h.early h.late) hs) r true) (sym b)
    (subst (λ (x : List ℕ). begun_host (host_of (line (hyp h.mode h.opening h.phase false h.early x) hs) r false) ≡ host_of (begun_line (hyp h.mode h.opening h.phase false h.early x) hs) r true) (sym l)
    (begins_at r h.mode h.opening h.phase h.early hs)))

ends_for : (r : ℕ) (h : Hyperperiod) (hs : List Hyperperiod) (i : Bool) → h.begun ≡ true →
    turned_host (host_of (line h hs) r i) h.phase ≡ host_of (line (follows h.mode h.phase) (h ∷ hs)) 1 false
ends_for r h hs i b =
    subst (λ (x : Bool). turned_host (host_of (line (hyp h.mode h.opening h.phase x h.early h.late) hs) r i) h.phase ≡ host_of (line (follows h.mode h.phase) (hyp h.mode h.opening h.phase x h.early h.late ∷ hs)) 1 false) (sym b)
    (ends_at r h.mode h.opening h.phase h.early h.late hs)

bool_apart : true ≡ false → ⊥
bool_apart e = grind (arith, e)

-- a request leaves the rest
request_fits : (r : ℕ) (i : Bool) (m mode : ℕ) (opening : Bool) (phase : PlainPhase) (begun : Bool) (early late : List ℕ) → Fits r i (hyp mode opening phase begun early late) → Fits r i (request_in (hyp mode opening phase begun early late) m)
request_fits r i m mode opening phase true early late (inl x) = inl x
request_fits r i m mode opening phase true early late (inr x) = absurd (bool_apart x.2)
request_fits r i m mode opening phase false early late (inl x) = inl x
request_fits r i m mode opening phase false early late (inr x) = inr x

follows_fits : (mode : ℕ) (phase : PlainPhase) → Fits 1 false (follows mode phase)
follows_fits mode steady = inr (refl, refl, refl, refl)
follows_fits mode (warn m) = inr (refl, refl, refl, refl)
follows_fits mode (drain m) = inr (refl, refl, refl, refl)

pub outside_fits : (r : ℕ) (i : Bool) (h : Hyperperiod) → i ≡ false → r ≡ 1 → Fits r i h → (h.begun ≡ false) × (h.late ≡ [])
outside_fits r i h e one (inl x) = absurd (⊎_elim (λ y. bool_apart (sym y ∙ e)) (λ y. y one) x.1)
outside_fits r i h e one (inr x) = (x.2, x.3)

pub inside_fits : (r : ℕ) (i : Bool) (h : Hyperperiod) → i ≡ true → Fits r i h → h.begun ≡ true
inside_fits r i h e (inl x) = x.0
inside_fits r i h e (inr x) = absurd (bool_apart (sym e ∙ x.0))

later_fits : (r : ℕ) (i : Bool) (h : Hyperperiod) → (r ≡ 1 → ⊥) → Fits r i h → h.begun ≡ true
later_fits r i h e (inl x) = x.0
later_fits r i h e (inr x) = absurd (e x.1)

abbrev Keeps : List ℕ → CallState → HostCall → Type 0
Keeps rounds s c = let n = call_step rounds c s in
    (after_call rounds (host_of (timeline_of s.marks) s.round s.inside) c ≡ host_of (timeline_of n.marks) n.round n.inside) × Fits n.round n.inside (timeline_of n.marks).last

-- by whether the round is the first
beacons : (rounds : List ℕ) (s : CallState) → s.inside ≡ false → Fits s.round s.inside (last_of s) → (b : Bool) → nat_eq s.round 1 ≡ b →
    let t = timeline_of s.marks in
    let u = timeline_of (cond b (begins ∷ s.marks) s.marks) in
    (cond b (begun_host (host_of t s.round s.inside)) (record (host_of t s.round s.inside) { inside = true }) ≡ host_of u s.round true) × Fits s.round true u.last
beacons rounds s out f true e = let w = outside_fits s.round s.inside (last_of s) out (eqb-true s.round 1 e) f in
    (begins_for s.round (last_of s) (timeline_of s.marks).before s.inside out w.0 w.1, inl (refl, inl refl))
beacons rounds s out f false e = (refl, inl (later_fits s.round s.inside (last_of s) (eqb-false s.round 1 e) f, inl refl))

rounds_end : (rounds : List ℕ) (s : CallState) → 1 ≤ s.round → s.inside ≡ true → Fits s.round s.inside (last_of s) → (b : Bool) →
    let t = timeline_of s.marks in
    let n = cond {A = CallState} b (record { marks = s.marks; round = suc s.round; inside = false }) (record { marks = ended ∷ s.marks; round = 1; inside = false }) in
    (cond b (record (host_of t s.round s.inside) { round = suc s.round; inside = false }) (turned_host (host_of t s.round s.inside) t.last.phase) ≡ host_of (timeline_of n.marks) n.round n.inside)
    × Fits n.round n.inside (timeline_of n.marks).last
rounds_end rounds s one is f true = (refl, inl (inside_fits s.round s.inside (last_of s) is f, inr (λ e. omega (arith, e, one))))
rounds_end rounds s one is f false = (ends_for s.round (last_of s) (timeline_of s.marks).before s.inside (inside_fits s.round s.inside (last_of s) is f), follows_fits (last_of s).mode (last_of s).phase)

step : (rounds : List ℕ) (s : CallState) (c : HostCall) → 1 ≤ s.round → MayCall rounds c s → Fits s.round s.inside (last_of s) → Keeps rounds s c
step rounds s (request_call m) one may f =
    let h = last_of s in
    (asks s.round s.inside m h.mode h.opening h.phase h.begun h.early h.late (timeline_of s.marks).before, request_fits s.round s.inside m h.mode h.opening h.phase h.begun h.early h.late f)
step rounds s next_beacon_call one may f = beacons rounds s may f (nat_eq s.round 1) refl
step rounds s end_round_call one may f = rounds_end rounds s one may f (nat_lt s.round (rounds_in rounds (last_of s).mode))

some_round : (rounds : List ℕ) (cs : List HostCall) → 1 ≤ (call_state rounds cs).round
some_round rounds [] = omega arith
some_round rounds (request_call m ∷ cs) = some_round rounds cs
some_round rounds (next_beacon_call ∷ cs) = some_round rounds cs
some_round rounds (end_round_call ∷ cs) = by_test (nat_lt (call_state rounds cs).round (rounds_in rounds (last_of (call_state rounds cs)).mode))
  where
    by_test : (b : Bool) → 1 ≤ (cond {A = CallState} b (record { marks = (call_state rounds cs).marks; round = suc (call_state rounds cs).round; inside = false }) (record { marks = ended ∷ (call_state rounds cs).marks; round = 1; inside = false })).round
    by_test true = omega arith
    by_test false = omega arith

pub fits : (rounds : List ℕ) (cs : List HostCall) → AllMay rounds cs → Fits (call_state rounds cs).round (call_state rounds cs).inside (last_of (call_state rounds cs))
fits rounds [] a = inr (refl, refl, refl, refl)
fits rounds (c ∷ cs) a = (step rounds (call_state rounds cs) c (some_round rounds cs) a.0 (fits rounds cs a.1)).1

pub hosts_keep_time : HostsKeepTime
hosts_keep_time rounds cs c a = (step rounds (call_state rounds cs) c (some_round rounds cs) a.0 (fits rounds cs a.1)).0
