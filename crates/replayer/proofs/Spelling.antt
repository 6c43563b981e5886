-- Every script spells exactly one list of events
use Rattle.std.proofs.Common.{◌≡◌, ℕ, zero, suc, ◌+◌, ◌<◌, ◌≤◌, Bool, true, false, List, [], ◌∷◌, refl, sym, ◌∙◌, ap, subst, arith, ⊎_elim}
use Rattle.std.proofs.lemmas.Bool.{cases_lt, cases_Bool}
use Rattle.runtime_model.specs.Outcomes.{PlainEvent, advance, request, restart}
use Rattle.runtime_model.specs.System.{System}
use Rattle.runtime_model.specs.Script.{ScriptLine, go, until_beacon, lose, asks, restarts_node, beacon_next, Until, Makes, LeadTo}
use Rattle.runtime_model.specs.Laws.{RequestsFit}
use Rattle.runtime_model.proofs.Modes.{AllRight, all_right}
use Rattle.replayer.specs.Scripts.{AsksFit, ScriptsSpellOnce}
use Rattle.replayer.proofs.Searches.{after, fits_after, soon}

-- ---- the least number of Advances

-- the least number at which a test holds, where it holds at n
pub record Least (test : ℕ → Bool) (n : ℕ) : Type 0 where
  pub at : ℕ
  pub holds : test at ≡ true
  pub not_before : (m : ℕ) → m < at → test m ≡ false
  pub low : at ≤ n

least_from : (test : ℕ → Bool) (n k : ℕ) → test (k + n) ≡ true → ((m : ℕ) → m < k → test m ≡ false) → Least test (k + n)
least_from test zero k h quiet = record { at = k; holds = ap test (let e : k ≡ k + 0 = omega arith in e) ∙ h; not_before = quiet; low = omega arith }
least_from test (suc n) k h quiet =
    ⊎_elim
    (λ (yes : test k ≡ true). record { at = k; holds = yes; not_before = quiet; low = omega arith })
    (λ (no : test k ≡ false).
    let e : suc k + n ≡ k + suc n = omega arith in
    let w = least_from test n (suc k) (ap test e ∙ h)
    (λ m l. ⊎_elim (λ (b : m < k). quiet m b) (λ (b : k ≤ m). ap test (let q : m ≡ k = omega (arith, b, l) in q) ∙ no) (cases_lt m k)) in
    record { at = w.at; holds = w.holds; not_before = w.not_before; low = omega (arith, w.low) })
    (cases_Bool (test k))

pub least : (test : ℕ → Bool) (n : ℕ) → test n ≡ true → Least test n
least test n h =
    let e : 0 + n ≡ n = omega arith in
    let w = least_from test n 0 (ap test e ∙ h) (λ m l. absurd (omega (arith, l))) in
    record { at = w.at; holds = w.holds; not_before = w.not_before; low = omega (arith, w.low) }

-- there is one least number
pub until_once : (y : System) (es : List PlainEvent) (m n : ℕ) → Until y es m → Until y es n → m ≡ n
until_once y es m n a b =
    let never = λ (i j : ℕ) (p : Until y es i) (q : Until y es j) (l : i < j). (let e : true ≡ false = sym p.comes ∙ q.not_before i l in let z : ⊥ = cc in z) in
    ⊎_elim
    (λ (l : m < n). absurd (never m n a b l))
    (λ (le : n ≤ m). ⊎_elim (λ (l : n < m). absurd (never n m b a l)) (λ (h : m ≤ n). omega (arith, le, h)) (cases_lt n m))
    (cases_lt m n)

-- a line makes one list, and lines lead to one
module _ (y : System) where
  pub makes_once : (l : ScriptLine) (es fs gs : List PlainEvent) → Makes y l es fs → Makes y l es gs → fs ≡ gs
  makes_once (go n) es fs gs a b = a ∙ sym b
  makes_once until_beacon es fs gs a b = a.2 ∙ ap (λ (n : ℕ). after n es) (until_once y es a.0 b.0 a.1 b.1) ∙ sym b.2
  makes_once (lose bits) es fs gs a b = a ∙ sym b
  makes_once (asks m) es fs gs a b = a ∙ sym b
  makes_once (restarts_node v) es fs gs a b = a ∙ sym b

  pub lead_once : (ls : List ScriptLine) (es fs gs : List PlainEvent) → LeadTo y ls es fs → LeadTo y ls es gs → fs ≡ gs
  lead_once [] es fs gs a b = a ∙ sym b
  lead_once (l ∷ ls) es fs gs a b = lead_once ls b.0 fs gs (subst (λ (z : List PlainEvent). LeadTo y ls z fs) (makes_once l es a.0 b.0 a.1 b.1) a.2) b.2

module _ (y : System) (right : AllRight y) where
  -- the wait for the next beacon, and that it is no longer than to any other
  pub next_beacon : (es : List PlainEvent) (f : RequestsFit y es) → (n : ℕ) × Until y es n × (n ≤ (soon y right es f).n)
  next_beacon es f =
      let s = soon y right es f in
      let w = least (λ n. beacon_next y (after n es)) s.n s.comes in
      (w.at, record { comes = w.holds; not_before = w.not_before }, w.low)

  -- the lines lead from es to some list
  leads : (ls : List ScriptLine) → AsksFit y ls → (es : List PlainEvent) → RequestsFit y es → (fs : List PlainEvent) × LeadTo y ls es fs
  leads [] a es f = (es, refl)
  leads (go n ∷ ls) a es f = let w = leads ls a (after n es) (fits_after y n es f) in (w.0, (after n es, refl, w.1))
  leads (until_beacon ∷ ls) a es f =
      let u = next_beacon es f in
      let w = leads ls a (after u.0 es) (fits_after y u.0 es f) in
      (w.0, (after u.0 es, (u.0, u.1, refl), w.1))
  leads (lose bits ∷ ls) a es f = let w = leads ls a (advance bits ∷ es) f in (w.0, (advance bits ∷ es, refl, w.1))
  leads (asks m ∷ ls) a es f = let w = leads ls a.1 (request m ∷ es) (a.0, f) in (w.0, (request m ∷ es, refl, w.1))
  leads (restarts_node v ∷ ls) a es f = let w = leads ls a (restart v ∷ es) f in (w.0, (restart v ∷ es, refl, w.1))

pub scripts_spell_once : ScriptsSpellOnce
scripts_spell_once y plans ls a =
    let w = leads y (all_right y plans) ls a [] tt in
    (w.0, w.1, λ fs spells. lead_once y ls [] fs w.0 spells w.1)
