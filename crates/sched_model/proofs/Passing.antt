-- Loops that test one number after another, and stop at the first that fails
use Rattle.std.proofs.Common.{◌≡◌, ℕ, ◌+◌, ◌<◌, ◌≤◌, Bool, true, false, eqb, ◌↔◌, IsTrue, List, length, get_or, All, refl, subst, arith, ⊎_elim}
use Rattle.std.proofs.lemmas.Bool.{cases_lt, both_ways, eqb-true, eq-eqb}
use Rattle.std.proofs.lemmas.List.{get_or_default}

-- one number more
pub passes_one : (P : ℕ → Type 0) (k : ℕ) (b : Bool) → (IsTrue b ↔ P k) → b ≡ true → ((i : ℕ) → i < k → P i) → (i : ℕ) → i < k + 1 → P i
passes_one P k b e t h i l = ⊎_elim (λ (less : i < k). h i less) (λ (le : k ≤ i). subst P (let s : k ≡ i = omega arith in s) (e.0 t)) (cases_lt i k)

-- all of them
pub passes_all : (P : ℕ → Type 0) (k n : ℕ) → n ≤ k → ((i : ℕ) → i < k → P i) → IsTrue true ↔ ((i : ℕ) → i < n → P i)
passes_all P k n le h = (λ e i l. h i (omega (arith, le, l)), λ f. refl)

-- one that fails
pub fails_at : (P : ℕ → Type 0) (k n : ℕ) (b : Bool) → k < n → (IsTrue b ↔ P k) → b ≡ false → IsTrue false ↔ ((i : ℕ) → i < n → P i)
fails_at P k n b l e f = (λ x. absurd (cc), λ h. let t = e.1 (h k l) in absurd (cc))

-- what holds, and what does not
pub holds_so : (P : Type 0) → P → IsTrue true ↔ P
holds_so P p = (λ e. p, λ q. refl)

pub fails_so : (P : Type 0) → (P → ⊥) → IsTrue false ↔ P
fails_so P f = (λ e. absurd (cc), λ p. absurd (f p))

-- what is asked under a test alone
pub under : (b c : Bool) (P : Type 0) → c ≡ true → (IsTrue b ↔ P) → IsTrue b ↔ (c ≡ true → P)
under b c P h t = (λ e k. t.0 e, λ f. t.1 (f h))

pub not_under : (c : Bool) (P : Type 0) → c ≡ false → IsTrue true ↔ (c ≡ true → P)
not_under c P h = (λ e k. absurd (both_ways c h k), λ f. refl)

-- what holds at each place of a list
pub all_by_place : {X : Type 0} (P : X → Type 0) (xs : List X) (d : X) → ((j : ℕ) → j < length xs → P (get_or xs j d)) → All P xs
all_by_place P xs d f k e l = subst P (get_or_default xs k d e l) (f k l)
