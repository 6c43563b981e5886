-- Tests of times, which are natural numbers in the code
use Rattle.std.proofs.Common.{◌≡◌, ℕ, ◌+◌, ◌≤◌, leb, ltb, ◌↔◌, IsTrue, subst, arith, ap, ◌∙◌, ℤ, pos, ◌+ℤ◌, ◌≤ℤ◌, ◌<ℤ◌}
use Rattle.std.proofs.lemmas.Int.{ints}
use Rattle.std.proofs.lemmas.Bool.{leb-true, le-leb, ltb-true, lt-ltb}

plain_le : (x y : ℕ) → IsTrue (leb x y) ↔ (pos x ≤ℤ pos y)
plain_le x y = (λ e. omega (arith, ints, leb-true x y e), λ h. le-leb x y (omega (arith, ints, h)))

plain_lt : (x y : ℕ) → IsTrue (ltb x y) ↔ (pos x <ℤ pos y)
plain_lt x y = (λ e. omega (arith, ints, ltb-true x y e), λ h. lt-ltb x y (omega (arith, ints, h)))

pub le_test : (x y : ℕ) (X Y : ℤ) → pos x ≡ X → pos y ≡ Y → IsTrue (leb x y) ↔ (X ≤ℤ Y)
le_test x y X Y p q = subst (λ (Z : ℤ). IsTrue (leb x y) ↔ (Z ≤ℤ Y)) p (subst (λ (Z : ℤ). IsTrue (leb x y) ↔ (pos x ≤ℤ Z)) q (plain_le x y))

pub lt_test : (x y : ℕ) (X Y : ℤ) → pos x ≡ X → pos y ≡ Y → IsTrue (ltb x y) ↔ (X <ℤ Y)
lt_test x y X Y p q = subst (λ (Z : ℤ). IsTrue (ltb x y) ↔ (Z <ℤ Y)) p (subst (λ (Z : ℤ). IsTrue (ltb x y) ↔ (pos x <ℤ Z)) q (plain_lt x y))

pub le_is : (x y : ℕ) (X Y : ℤ) → pos x ≡ X → pos y ≡ Y → x ≤ y → X ≤ℤ Y
le_is x y X Y p q l = (le_test x y X Y p q).0 (le-leb x y l)

pub le_from : (x y : ℕ) (X Y : ℤ) → pos x ≡ X → pos y ≡ Y → X ≤ℤ Y → x ≤ y
le_from x y X Y p q l = leb-true x y ((le_test x y X Y p q).1 l)

-- a time some ticks later
pub later : (x d e : ℕ) (X : ℤ) → pos x ≡ X → d ≡ e → pos (x + d) ≡ X +ℤ pos e
later x d e X p q = ap (λ (Z : ℤ). Z +ℤ pos d) p ∙ ap (λ n. X +ℤ pos n) q
