-- The events of one line of a replay
use Rattle.std.proofs.Common.{◌≡◌, ℕ, suc, ◌+◌, ◌-◌, ◌<◌, ◌≤◌, Bool, true, false, List, ◌∷◌, ◌++◌, Option, refl, sym, ◌∙◌, ap, subst, arith, append_assoc, inl, inr}
use Rattle.std.specs.Prelude.{IsErr, replicate, Result, Ok, Err}
use Rattle.std.proofs.lemmas.Bool.{cases_lt}
use Rattle.runtime_model.specs.Outcomes.{PlainEvent, advance}
use Rattle.runtime_model.specs.Script.{ScriptLine, go, until_beacon, lose, beacon_next, Until}
use Rattle.world_core.specs.NextBeacons.{TellsNext}
use Rattle.world_core.specs.Worlds.{WorldSeen}
use Rattle.replayer.specs.Running.{Does, IsAt, IsDone, IsFront, IsRun, MayDo, Run, Stops, Under, system}
use Rattle.replayer.proofs.EventSteps.{requests_fit}
use Rattle.replayer.proofs.Fronts.{after_rest}
use Rattle.replayer.proofs.Lengths.{beacons_come_soon}
use Rattle.replayer.proofs.Searches.{after}
use Rattle.replayer.proofs.Spelling.{until_once}

-- fewer Advances are a front of more
fewer : (r : Run) (m n : ℕ) (es : List PlainEvent) → m ≤ n → IsFront r (after n es) → IsFront r (after m es)
fewer r m n es le front =
    (front.0 ++ replicate (n - m) (advance 0), front.1 ∙ ap (λ (z : List PlainEvent). front.0 ++ z) (after_rest m n es le) ∙ sym (append_assoc front.0 (replicate (n - m) (advance 0)) (after m es)))

-- one more of them
one_more : (m : ℕ) (es : List PlainEvent) → after (m + 1) es ≡ advance 0 ∷ after m es
one_more m es = let e : m + 1 ≡ suc m = omega arith in ap (λ k. after k es) e

-- ---- go

pub none_yet : (x : Under) → Does x (go 0) x
none_yet x r es fs is at makes front = subst (λ (z : List PlainEvent). IsAt r z x) (sym makes) at

-- a replay that goes on with n Advances goes on with the next one after m of them
pub may_advance : (x z : Under) (m n : ℕ) → m < n → MayDo x (go n) → Does x (go m) z → MayDo z (lose 0)
may_advance x z m n l may does =
    let es = may.events in
    let whole = subst (IsFront may.run) may.makes may.front in
    record {
      run = may.run;
      events = after m es;
      next = advance 0 ∷ after m es;
      is_run = may.is_run;
      is_at = does may.run es (after m es) may.is_run may.is_at refl (fewer may.run m n es (omega (arith, l)) whole);
      fits = tt;
      makes = refl;
      front = subst (IsFront may.run) (one_more m es) (fewer may.run (m + 1) n es (omega (arith, l)) whole);
    }

pub one_advance_more : (x z w : Under) (m : ℕ) → Does x (go m) z → Does z (lose 0) w → Does x (go (m + 1)) w
one_advance_more x z w m first second r es fs is at makes front =
    let is_more = makes ∙ one_more m es in
    let here = subst (IsFront r) makes front in
    let mid = first r es (after m es) is at refl (fewer r m (m + 1) es (omega arith) here) in
    second r (after m es) fs is mid is_more front

pub advances_stop : (x z : Under) (held : Option (List ℕ)) (m n : ℕ) → m < n → Does x (go m) z → Stops z (lose 0) held → Stops x (go n) held
advances_stop x z held m n l first stop r es fs is at makes front =
    let whole = subst (IsFront r) makes front in
    let mid = first r es (after m es) is at refl (fewer r m n es (omega (arith, l)) whole) in
    stop r (after m es) (advance 0 ∷ after m es) is mid refl (subst (IsFront r) (one_more m es) (fewer r (m + 1) n es (omega (arith, l)) whole))

-- ---- until beacon

-- after m Advances the replay stands at z, and the wait is not over before
pub record Waits (x : Under) (m : ℕ) (z : Under) : Type 0 where
  pub stays : (r : Run) (es : List PlainEvent) (n : ℕ) → IsRun r → IsAt r es x → Until (system r) es n → IsFront r (after n es) → (m ≤ n) × IsAt r (after m es) z

pub waits_none : (x : Under) → Waits x 0 x
waits_none x = record { stays = λ r es n is at u front. (omega arith, at) }

-- what is told of the next entry
told_next : (x z : Under) (m n : ℕ) (b : Bool) → TellsNext z.world b → (r : Run) (es : List PlainEvent) → IsRun r → IsFront r (after m es) → IsAt r (after m es) z → b ≡ beacon_next (system r) (after m es)
told_next x z m n b tells r es is front at = tells r.set r.schedules r.made z.bodies (after m es) is.rules is.right (requests_fit r (after m es) is front) at.stands

-- no beacon is next: the wait goes on
goes_on : (x z : Under) (m : ℕ) → Waits x m z → TellsNext z.world false → (r : Run) (es : List PlainEvent) (n : ℕ) → IsRun r → IsAt r es x → Until (system r) es n → IsFront r (after n es) → m < n
goes_on x z m waits tells r es n is at u front =
    let w = waits.stays r es n is at u front in
    elim (cases_lt m n) [
      | inl less ↦ less
      | inr more ↦
          let same : n ≡ m = omega (arith, more, w.0) in
          let open_ = told_next x z m n false tells r es is (fewer r m n es w.0 front) w.1 in
          absurd (false_is_true (open_ ∙ ap (λ k. beacon_next (system r) (after k es)) (sym same) ∙ u.comes))
    ]
  where
    false_is_true : false ≡ true → ⊥
    false_is_true e = grind (arith, e)

pub may_wait : (x z : Under) (m : ℕ) → MayDo x until_beacon → Waits x m z → TellsNext z.world false → MayDo z (lose 0)
may_wait x z m may waits tells =
    let r = may.run in
    let es = may.events in
    let n = may.makes.0 in
    let whole = subst (IsFront r) may.makes.2 may.front in
    let l = goes_on x z m waits tells r es n may.is_run may.is_at may.makes.1 whole in
    record {
      run = r;
      events = after m es;
      next = advance 0 ∷ after m es;
      is_run = may.is_run;
      is_at = (waits.stays r es n may.is_run may.is_at may.makes.1 whole).1;
      fits = tt;
      makes = refl;
      front = subst (IsFront r) (one_more m es) (fewer r (m + 1) n es (omega (arith, l)) whole);
    }

pub waits_more : (x z w : Under) (m : ℕ) → Waits x m z → TellsNext z.world false → Does z (lose 0) w → Waits x (m + 1) w
waits_more x z w m waits tells does = record {
  stays = λ r es n is at u front.
      let l = goes_on x z m waits tells r es n is at u front in
      let mid = (waits.stays r es n is at u front).1 in
      (omega (arith, l), does r (after m es) (after (m + 1) es) is mid (one_more m es) (fewer r (m + 1) n es (omega (arith, l)) front));
}

pub wait_stops : (x z : Under) (held : Option (List ℕ)) (m : ℕ) → Waits x m z → TellsNext z.world false → Stops z (lose 0) held → Stops x until_beacon held
wait_stops x z held m waits tells stop r es fs is at makes front =
    let n = makes.0 in
    let whole = subst (IsFront r) makes.2 front in
    let l = goes_on x z m waits tells r es n is at makes.1 whole in
    let mid = (waits.stays r es n is at makes.1 whole).1 in
    stop r (after m es) (advance 0 ∷ after m es) is mid refl (subst (IsFront r) (one_more m es) (fewer r (m + 1) n es (omega (arith, l)) whole))

-- a beacon is next: the wait is over
pub wait_over : (x z : Under) (m : ℕ) → Waits x m z → TellsNext z.world true → Does x until_beacon z
wait_over x z m waits tells r es fs is at makes front =
    let n = makes.0 in
    let u = makes.1 in
    let whole = subst (IsFront r) makes.2 front in
    let w = waits.stays r es n is at u whole in
    let comes = told_next x z m n true tells r es is (fewer r m n es w.0 whole) w.1 in
    elim (cases_lt m n) [
      | inl less ↦ absurd (true_is_false (comes ∙ u.not_before m less))
      | inr more ↦
          let same : m ≡ n = omega (arith, more, w.0) in
          subst (λ (g : List PlainEvent). IsAt r g z) (ap (λ k. after k es) same ∙ sym makes.2) w.1
    ]
  where
    true_is_false : true ≡ false → ⊥
    true_is_false e = grind (arith, e)

-- no wait takes longer than that
pub wait_ends : (x z : Under) (m : ℕ) → 100000000000000 < m → Waits x m z → Does x until_beacon z
wait_ends x z m long waits r es fs is at makes front =
    let whole = subst (IsFront r) makes.2 front in
    let w = waits.stays r es makes.0 is at makes.1 whole in
    let s = beacons_come_soon r.set r.schedules (system r).answers es is.rules is.right (requests_fit r es is at.front) in
    absurd (omega (arith, w.0, long, s.2, until_once (system r) es makes.0 s.0 makes.1 s.1))

-- ---- ends

pub advances_done : (x z : Under) (m n : ℕ) → n ≤ m → m ≤ n → Does x (go m) z → Does x (go n) z
advances_done x z m n most least does = subst (λ k. Does x (go k) z) (let e : m ≡ n = omega (arith, most, least) in e) does

pub told_is : (w : WorldSeen) (b c : Bool) → TellsNext w b → b ≡ c → TellsNext w c
told_is w b c tells e = subst (TellsNext w) e tells

-- ---- answers

-- a line that was not done
pub not_done : {A E : Type 0} (r : Result A E) (x : Under) (l : ScriptLine) (z : Under) → IsErr r → Stops x l z.held → IsDone r x l z
not_done (Ok a) x l z fails stop = absurd (false_is_true fails)
  where
    false_is_true : false ≡ true → ⊥
    false_is_true e = grind (arith, e)
not_done (Err e) x l z fails stop = record { ok = tt; err = stop }

-- the same line
pub same_line : {A E : Type 0} (r : Result A E) (x z : Under) (l m : ScriptLine) → m ≡ l → IsDone r x l z → IsDone r x m z
same_line r x z l m e done = subst (λ k. IsDone r x k z) (sym e) done
