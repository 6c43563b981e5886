-- A cycle that is read number by number is the cycle of its numbers
use Rattle.std.proofs.Common.{◌≡◌, ℕ, suc, ◌-◌, ◌*◌, ◌^◌, ◌<◌, ◌≤◌, ◌≤ℤ◌, neg_ℤ, FitsSigned, w64, Bool, true, false, ◌&&◌, List, [], ◌∷◌, length, map, refl, sym, ap, ◌∙◌, arith, ℤ, pos, ◌+ℤ◌}
use Rattle.std.specs.Prelude.{int_lt, nat_lt, nat_eq}
use Rattle.std.specs.List.{list_all}
use Rattle.std.proofs.lemmas.Bool.{lt-ltb}
use borrow.Author.Differences.{same_in}
use Rattle.std.proofs.lemmas.Int.{ints}
use Rattle.tick_num.specs.declared.differences.Diff.{Diff}
use Rattle.tick_num.specs.Differences.{named, sum_ℤ}
use Rattle.proof_tree.specs.TreeLines.{closes, is_negative}
use Rattle.cert_checker.specs.Following.{constraint_at, goes_round}

-- tests in another order
turned : (a b w c l : Bool) → (a && (b && ((w && c) && l))) ≡ (((a && w) && (b && c)) && l)
turned true true w c l = refl
turned true false true c l = refl
turned true false false c l = refl
turned false b w c l = refl

sums : (s c t : ℤ) → (s +ℤ c) +ℤ t ≡ s +ℤ (c +ℤ t)
sums s c t = same_in _ _ (omega (arith, ints))

round_is : (ds : List Diff) (x : ℕ) (d : Diff) (s : ℤ) (is : List ℕ) →
    goes_round ds x d.y s is ≡ ((list_all (λ i. nat_lt i (length ds)) is && closes x (d ∷ named ds is)) && int_lt (s +ℤ sum_ℤ (map (λ e. e.c) (named ds is))) (pos 0))
round_is ds x d s [] = ap (λ (z : ℤ). nat_eq d.y x && int_lt z (pos 0)) (same_in s (s +ℤ pos 0) (omega (arith, ints)))
round_is ds x d s (i ∷ is) =
    let e = constraint_at ds i in
    ap (λ b. nat_lt i (length ds) && (nat_eq d.y e.x && b)) (round_is ds x e (s +ℤ e.c) is)
    ∙ turned (nat_lt i (length ds)) (nat_eq d.y e.x) (list_all (λ k. nat_lt k (length ds)) is) (closes x (e ∷ named ds is)) (int_lt ((s +ℤ e.c) +ℤ sum_ℤ (map (λ f. f.c) (named ds is))) (pos 0))
    ∙ ap (λ (z : ℤ). ((nat_lt i (length ds) && list_all (λ k. nat_lt k (length ds)) is) && (nat_eq d.y e.x && closes x (e ∷ named ds is))) && int_lt z (pos 0)) (sums s e.c (sum_ℤ (map (λ f. f.c) (named ds is))))

front : (a w c l : Bool) → (a && ((w && c) && l)) ≡ (((a && w) && c) && l)
front true w c l = refl
front false w c l = refl

pub negative_is : (ds : List Diff) (i : ℕ) (is : List ℕ) →
    is_negative ds (i ∷ is) ≡ (nat_lt i (length ds) && goes_round ds (constraint_at ds i).x (constraint_at ds i).y (constraint_at ds i).c is)
negative_is ds i is =
    let e = constraint_at ds i in
    sym (ap (λ b. nat_lt i (length ds) && b) (round_is ds e.x e e.c is)
    ∙ front (nat_lt i (length ds)) (list_all (λ k. nat_lt k (length ds)) is) (closes e.x (e ∷ named ds is)) (int_lt (e.c +ℤ sum_ℤ (map (λ f. f.c) (named ds is))) (pos 0)))

below_is : (i n : ℕ) → i < n → nat_lt i n ≡ true
below_is i n l = lt-ltb i n l

pub went_on : (ds : List Diff) (x at : ℕ) (s : ℤ) (i : ℕ) (is : List ℕ) (e : Diff) → i < length ds → e ≡ constraint_at ds i → nat_eq at e.x ≡ true →
    goes_round ds x at s (i ∷ is) ≡ goes_round ds x e.y (s +ℤ e.c) is
went_on ds x at s i is e l here begins =
    ap (λ b. b && (nat_eq at (constraint_at ds i).x && goes_round ds x (constraint_at ds i).y (s +ℤ (constraint_at ds i).c) is)) (below_is i (length ds) l)
    ∙ ap (λ (d : Diff). nat_eq at d.x && goes_round ds x d.y (s +ℤ d.c) is) (sym here)
    ∙ ap (λ b. b && goes_round ds x e.y (s +ℤ e.c) is) begins

pub begun : (ds : List Diff) (i : ℕ) (is : List ℕ) (e : Diff) → i < length ds → e ≡ constraint_at ds i → is_negative ds (i ∷ is) ≡ goes_round ds e.x e.y e.c is
begun ds i is e l here =
    negative_is ds i is
    ∙ ap (λ b. b && goes_round ds (constraint_at ds i).x (constraint_at ds i).y (constraint_at ds i).c is) (below_is i (length ds) l)
    ∙ ap (λ (d : Diff). goes_round ds d.x d.y d.c is) (sym here)

-- so many numbers are left, of at most 4,096, and the sum is of the others
pub record Bounded (left : ℕ) (sum : ℤ) : Type 0 where
  pub least : neg_ℤ (pos ((4097 - left) * 2 ^ 63)) ≤ℤ sum
  pub most : sum ≤ℤ pos ((4097 - left) * 2 ^ 63)

pub one_less : (n k : ℕ) (s c t : ℤ) → n ≡ suc k → n ≤ 4096 → t ≡ s +ℤ c → FitsSigned w64 c → Bounded n s → Bounded k t
one_less n k s c t e few sum fits b = record { least = omega (arith, ints, e, few, sum, fits, b.least, b.most); most = omega (arith, ints, e, few, sum, fits, b.least, b.most) }
