-- How often choices name a round, choice by choice
use Rattle.std.proofs.Common.{◌≡◌, ℕ, zero, suc, ◌+◌, ◌<◌, ◌≤◌, true, false, cond, List, [], ◌∷◌, length, get_or, drop, refl, ◌∙◌, ap, arith, ℤ, pos, negsuc, ◌≤ℤ◌, ◌<ℤ◌, unsigned_abs}
use Rattle.std.proofs.lemmas.Int.{ints}
use Rattle.std.proofs.Math.Seq.{drop-cons}
use Rattle.sched_model.specs.Numbers.{natural}
use Rattle.sched_model.specs.ConstraintProblem.{Decision, serve, order, load_of}
use Rattle.constraint_set.specs.Decided.{names_round}

pub natural_here : (g : ℤ) → pos 0 ≤ℤ g → unsigned_abs g ≡ natural g
natural_here (pos g) h = refl
natural_here (negsuc g) h = absurd (omega (arith, ints, h))

pub natural_negative : (g : ℤ) → g <ℤ pos 0 → 0 ≡ natural g
natural_negative (pos g) h = absurd (omega (arith, ints, h))
natural_negative (negsuc g) h = refl

one_more : (r j : ℕ) (d : Decision) (v : ℤ) (ds : List Decision) (vs : List ℤ) → load_of r j (d ∷ ds) (v ∷ vs) ≡ cond (names_round r j d v) 1 0 + load_of r j ds vs
one_more r j (serve i k) v ds vs = refl
one_more r j (order a b) v ds vs = omega arith

step : (r j : ℕ) (ds : List Decision) (vs : List ℤ) (n : ℕ) → n < length ds → n < length vs
    → load_of r j (drop n ds) (drop n vs) ≡ cond (names_round r j (get_or ds n (order 0 0)) (get_or vs n (pos 0))) 1 0 + load_of r j (drop (n + 1) ds) (drop (n + 1) vs)
step r j ds vs n l k =
    ap (λ (x : List Decision). load_of r j x (drop n vs)) (drop-cons ds n (order 0 0) l)
    ∙ ap (λ (x : List ℤ). load_of r j (get_or ds n (order 0 0) ∷ drop (suc n) ds) x) (drop-cons vs n (pos 0) k)
    ∙ one_more r j (get_or ds n (order 0 0)) (get_or vs n (pos 0)) (drop (suc n) ds) (drop (suc n) vs)
    ∙ ap (λ i. cond (names_round r j (get_or ds n (order 0 0)) (get_or vs n (pos 0))) 1 0 + load_of r j (drop i ds) (drop i vs)) (let o : suc n ≡ n + 1 = omega arith in o)

pub load_yes : (r j : ℕ) (ds : List Decision) (vs : List ℤ) (n total whole : ℕ) → n < length ds → n < length vs → names_round r j (get_or ds n (order 0 0)) (get_or vs n (pos 0)) ≡ true
    → total + load_of r j (drop n ds) (drop n vs) ≡ whole → (total + 1) + load_of r j (drop (n + 1) ds) (drop (n + 1) vs) ≡ whole
load_yes r j ds vs n total whole l k e h =
    let s = step r j ds vs n l k ∙ ap (λ b. cond b 1 0 + load_of r j (drop (n + 1) ds) (drop (n + 1) vs)) e in
    omega (arith, s, h)

pub load_no : (r j : ℕ) (ds : List Decision) (vs : List ℤ) (n total whole : ℕ) → n < length ds → n < length vs → names_round r j (get_or ds n (order 0 0)) (get_or vs n (pos 0)) ≡ false
    → total + load_of r j (drop n ds) (drop n vs) ≡ whole → total + load_of r j (drop (n + 1) ds) (drop (n + 1) vs) ≡ whole
load_no r j ds vs n total whole l k e h =
    let s = step r j ds vs n l k ∙ ap (λ b. cond b 1 0 + load_of r j (drop (n + 1) ds) (drop (n + 1) vs)) e in
    omega (arith, s, h)

nothing_left : (r j : ℕ) (ds : List Decision) → load_of r j ds [] ≡ 0
nothing_left r j [] = refl
nothing_left r j (d ∷ ds) = refl

drop_past : {X : Type 0} (xs : List X) (n : ℕ) → length xs ≤ n → drop n xs ≡ []
drop_past [] zero h = refl
drop_past [] (suc n) h = refl
drop_past (x ∷ xs) zero h = absurd (omega (arith, h))
drop_past (x ∷ xs) (suc n) h = drop_past xs n (omega (arith, h))

pub load_end : (r j : ℕ) (ds : List Decision) (vs : List ℤ) (n total : ℕ) → length vs ≤ n → total + load_of r j (drop n ds) (drop n vs) ≡ load_of r j ds vs → total ≡ load_of r j ds vs
load_end r j ds vs n total l h =
    let e = ap (λ (x : List ℤ). load_of r j (drop n ds) x) (drop_past vs n l) ∙ nothing_left r j (drop n ds) in
    omega (arith, e, h)
