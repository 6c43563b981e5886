-- Marks that count in one turn only
use Rattle.std.proofs.Common.{◌≡◌, ℕ, zero, suc, ◌+◌, ◌<◌, ◌≤◌, Bool, true, false, nat_eq, List, [], ◌∷◌, length, map, set, replicate, get_or, All, refl, sym, ◌∙◌, ap, arith}
use Rattle.std.proofs.lemmas.Bool.{eq-eqb, ne_eqb}
use Rattle.std.proofs.lemmas.List.{get_or-map, map-set, length-map}
use Rattle.diff_store.specs.Causes.{beside, marked}

-- the marks that count
abbrev pub counted : ℕ → List ℕ → List Bool
counted turn ts = map (λ t. nat_eq t turn) ts

-- in a turn that no mark was made in, none counts
none_counted : (turn : ℕ) (ts : List ℕ) → ((k : ℕ) → k < length ts → beside ts k < turn) → counted turn ts ≡ replicate (length ts) false
none_counted turn [] h = refl
none_counted turn (t ∷ ts) h =
    ap (λ b. b ∷ counted turn ts) (ne_eqb t turn (λ e. let l = h 0 (omega arith) in omega (arith, e, l)))
    ∙ ap (λ bs. false ∷ bs) (none_counted turn ts (λ k l. h (suc k) (omega (arith, l))))

pub turned : (turn : ℕ) (ts : List ℕ) → All (λ t. t ≤ turn) ts → counted (turn + 1) ts ≡ replicate (length (counted turn ts)) false
turned turn ts h =
    none_counted (turn + 1) ts (λ k l. let b = h k 0 l in omega (arith, b))
    ∙ ap (λ n. replicate n false) (sym (length-map ts (λ t. nat_eq t turn)))

-- a mark is made
pub counted_more : (turn : ℕ) (ts : List ℕ) (x : ℕ) → counted turn (set ts x turn) ≡ set (counted turn ts) x true
counted_more turn ts x =
    map-set (λ t. nat_eq t turn) ts x turn
    ∙ ap (set (counted turn ts) x) (eq-eqb turn turn refl)

pub is_counted : (turn : ℕ) (ts : List ℕ) (x t : ℕ) → x < length ts → t ≡ get_or ts x t → nat_eq t turn ≡ marked (counted turn ts) x
is_counted turn ts x t low e = ap (λ u. nat_eq u turn) e ∙ sym (get_or-map (λ u. nat_eq u turn) ts x t false low)

-- no mark was ever made
pub zero_counted : (n : ℕ) (ts : List ℕ) → ts ≡ replicate n 0 → counted 1 ts ≡ replicate n false
zero_counted n ts e = ap (counted 1) e ∙ zeros n
  where
    zeros : (n : ℕ) → counted 1 (replicate n 0) ≡ replicate n false
    zeros zero = refl
    zeros (suc n) = ap (λ bs. false ∷ bs) (zeros n)
