-- One message: choices of the copies of one hyperperiod serve every window
use Rattle.std.proofs.Common.{◌≡◌, ℕ, zero, suc, ◌+◌, ◌-◌, ◌*◌, ◌/◌, ◌%◌, ◌<◌, ◌≤◌, sym, ◌∙◌, ap, subst, arith, ◌⊎◌, inl, inr, ⊎_elim, ℤ, pos, ◌+ℤ◌, ◌≤ℤ◌, ◌<ℤ◌}
use Rattle.std.proofs.lemmas.Int.{ints}
use Rattle.std.proofs.lemmas.Bool.{cases_lt}
use Rattle.std.proofs.lemmas.Nat.{div-add-mod', mod_below, div-mul-add, mod-mul-add}
use Rattle.std.proofs.Math.Nat.{mul-le-mul_right}
use Rattle.sched_model.specs.RightSchedule.{Exactly}
use Rattle.sched_model.proofs.Classes.{later_round, apart_by}

-- round instance g lies in window k, of opening o, closing q and period p
abbrev pub Within : (ℕ → ℤ) → ℕ → ℤ → ℤ → ℕ → ℕ → ℕ → Type 0
Within start t o q p k g = ((o +ℤ pos (k * p)) ≤ℤ start g) × ((start g +ℤ pos t) ≤ℤ (q +ℤ pos (k * p)))

-- a hyperperiod of h ticks has r rounds, and n windows of period p
pub record Repeats (start : ℕ → ℤ) (r h n p t : ℕ) (o q : ℤ) : Type 0 where
  pub rounds : 1 ≤ r
  pub some : 1 ≤ n
  pub length : 1 ≤ t
  pub whole : h ≡ n * p
  pub again : (g j : ℕ) → 1 ≤ g → start (g + j * r) ≡ start g +ℤ pos (j * h)
  pub narrow : q ≤ℤ (o +ℤ pos p)

-- an instance in two windows: they are one
same_window : (start : ℕ → ℤ) (r h n p t : ℕ) (o q : ℤ) → Repeats start r h n p t o q → (k l g : ℕ) → Within start t o q p k g → Within start t o q p l g → k ≤ l
same_window start r h n p t o q rep k l g a b =
    ⊎_elim
    (λ (less : l < k). absurd (let m : (l + 1) * p ≤ k * p = mul-le-mul_right p (omega arith) in omega (arith, ints, m, rep.narrow, rep.length)))
    (λ (le : k ≤ l). le)
    (cases_lt l k)

-- c chooses an instance for each copy of each window of the first hyperperiod, each after the one before
pub record Choices (start : ℕ → ℤ) (n p t : ℕ) (o q : ℤ) (copies : ℕ) (c : ℕ → ℕ) : Type 0 where
  pub from_one : (x : ℕ) → x < copies * n → 1 ≤ c x
  pub rises : (x y : ℕ) → x < y → y < copies * n → c x < c y
  pub within : (x : ℕ) → x < copies * n → Within start t o q p (x / copies) (c x)

-- round instance g is in the round of a choice
abbrev pub Named : ℕ → ℕ → (ℕ → ℕ) → ℕ → Type 0
Named r n c g = (i : ℕ) × (i < n) × ((g - 1) % r ≡ (c i - 1) % r)

-- what a choice becomes j hyperperiods later
pub moved : (start : ℕ → ℤ) (r h n p t : ℕ) (o q : ℤ) → Repeats start r h n p t o q → (i j g : ℕ) → 1 ≤ g → Within start t o q p i g → Within start t o q p (i + j * n) (g + j * r)
moved start r h n p t o q rep i j g one w =
    let e = rep.again g j one in
    let m : j * h ≡ j * (n * p) = ap (λ x. j * x) rep.whole in
    (omega (arith, ints, e, m, w), omega (arith, ints, e, m, w))

-- ---- copies and their windows
-- copy y of window k
pub of_window : (copies k y : ℕ) → y < copies → ((k * copies + y) / copies ≡ k) × ((k * copies + y) % copies ≡ y)
of_window copies k y l = (div-mul-add k copies y l, mod-mul-add k copies y l)

pub copy_low : (copies n k y : ℕ) → k < n → y < copies → k * copies + y < copies * n
copy_low copies n k y l h = let m : (k + 1) * copies ≤ n * copies = mul-le-mul_right copies (omega arith) in omega (arith, m, h)

-- a copy is one of its window, and that one is of the hyperperiod
pub its_window : (copies n x : ℕ) → 1 ≤ copies → x < copies * n → (x / copies < n) × (x % copies < copies) × (x / copies * copies + x % copies ≡ x)
its_window copies n x some l =
    let e = div-add-mod' x copies in
    let low = mod_below x copies some in
    (⊎_elim (λ (less : x / copies < n). less) (λ (le : n ≤ x / copies). absurd (let m : n * copies ≤ x / copies * copies = mul-le-mul_right copies le in omega (arith, m, e, l))) (cases_lt (x / copies) n), low, e)

-- each window is served, by the choices of its place in the hyperperiod
abbrev pub serving : (ℕ → ℕ) → ℕ → ℕ → ℕ → ℕ → ℕ → ℕ
serving c copies n r k y = c (k % n * copies + y) + k / n * r

served : (start : ℕ → ℤ) (r h n p t : ℕ) (o q : ℤ) (copies : ℕ) (c : ℕ → ℕ) → Repeats start r h n p t o q → Choices start n p t o q copies c → (k y : ℕ) → y < copies →
    let g = serving c copies n r k y in (1 ≤ g) × Named r (copies * n) c g × Within start t o q p k g
served start r h n p t o q copies c rep ch k y l =
    let i = k % n in
    let j = k / n in
    let x = i * copies + y in
    let small : x < copies * n = copy_low copies n i y (mod_below k n rep.some) l in
    let one = ch.from_one x small in
    let e : j * n + i ≡ k = div-add-mod' k n in
    let w = subst (λ z. Within start t o q p z (c x)) (of_window copies i y l).0 (ch.within x small) in (
      omega (arith, one),
      (x, small, later_round r (c x) j rep.rounds one),
      subst (λ z. Within start t o q p z (c x + j * r)) (let s : i + j * n ≡ k = omega (arith, e) in s) (moved start r h n p t o q rep i j (c x) one w),
    )

pub some_turns : (g c j r : ℕ) → g < c → c ≡ g + j * r → 1 ≤ j
some_turns g c zero r l e = absurd (omega arith)
some_turns g c (suc j) r l e = omega arith

-- an instance in a chosen round lies in its window, or before all of them
placed : (start : ℕ → ℤ) (r h n p t : ℕ) (o q : ℤ) (copies : ℕ) (c : ℕ → ℕ) → 1 ≤ copies → Repeats start r h n p t o q → Choices start n p t o q copies c → (g : ℕ) → 1 ≤ g → Named r (copies * n) c g →
    ((x j : ℕ) × (x < copies * n) × (g ≡ c x + j * r) × Within start t o q p (x / copies + j * n) g) ⊎ (start g <ℤ o)
placed start r h n p t o q copies c some rep ch g one w =
    let x = w.0 in
    let i = x / copies in
    let small = (its_window copies n x some w.1).0 in
    let here = ch.from_one x w.1 in
    let there = ch.within x w.1 in
    ⊎_elim
    (λ (less : g < c x).
    let d = apart_by r g (c x) rep.rounds one (omega arith) w.2 in
    let j = d.0 in
    let e = ap start d.1 ∙ rep.again g j one in
    let back : 1 * h ≤ j * h = mul-le-mul_right h (some_turns g (c x) j r less d.1) in
    let short : (i + 1) * p ≤ n * p = mul-le-mul_right p (omega (arith, small)) in
    inr (omega (arith, ints, e, there, back, short, rep.whole, rep.narrow, rep.length)))
    (λ (le : c x ≤ g).
    let d = apart_by r (c x) g rep.rounds here le (sym w.2) in
    inl (x, d.0, w.1, d.1, subst (Within start t o q p (i + d.0 * n)) (sym d.1) (moved start r h n p t o q rep i d.0 (c x) here there)))
    (cases_lt g (c x))

-- one that lies in window k is one that serves it
only : (start : ℕ → ℤ) (r h n p t : ℕ) (o q : ℤ) (copies : ℕ) (c : ℕ → ℕ) → 1 ≤ copies → Repeats start r h n p t o q → Choices start n p t o q copies c → (k g : ℕ) → 1 ≤ g → Named r (copies * n) c g →
    Within start t o q p k g → (y : ℕ) × (y < copies) × (serving c copies n r k y ≡ g)
only start r h n p t o q copies c some rep ch k g one w in_k =
    ⊎_elim
    (λ (at : (x j : ℕ) × (x < copies * n) × (g ≡ c x + j * r) × Within start t o q p (x / copies + j * n) g).
    let x = at.0 in
    let j = at.1 in
    let i = x / copies in
    let its = its_window copies n x some at.2 in
    let up = same_window start r h n p t o q rep k (i + j * n) g in_k at.4 in
    let down = same_window start r h n p t o q rep (i + j * n) k g at.4 in_k in
    let e : k ≡ j * n + i = omega (arith, up, down) in
    let place = ap (λ z. z % n) e ∙ mod-mul-add j n i its.0 in
    let turn = ap (λ z. z / n) e ∙ div-mul-add j n i its.0 in
    (x % copies, its.1, ap (λ z. c (z * copies + x % copies) + k / n * r) place ∙ ap (λ z. c z + k / n * r) its.2 ∙ ap (λ z. c x + z * r) turn ∙ sym at.3))
    (λ (early : start g <ℤ o). absurd (omega (arith, ints, early, in_k)))
    (placed start r h n p t o q copies c some rep ch g one w)

-- choices of all copies serve each window exactly as often as there are copies
pub each_copy : (start : ℕ → ℤ) (r h n p t : ℕ) (o q : ℤ) (copies : ℕ) (c : ℕ → ℕ) → 1 ≤ copies → Repeats start r h n p t o q → Choices start n p t o q copies c → (k : ℕ) →
    Exactly copies (λ g. (1 ≤ g) × Named r (copies * n) c g × Within start t o q p k g)
each_copy start r h n p t o q copies c some rep ch k = record {
  row = serving c copies n r k;
  apart = λ x y l low same.
      let up = ch.rises (k % n * copies + x) (k % n * copies + y) (omega (arith, l)) (copy_low copies n (k % n) y (mod_below k n rep.some) low) in
      omega (arith, up, same);
  each = λ y l. served start r h n p t o q copies c rep ch k y l;
  only = λ g w. only start r h n p t o q copies c some rep ch k g w.0 w.1 w.2;
}

pub placed_or_early : (start : ℕ → ℤ) (r h n p t : ℕ) (o q : ℤ) (copies : ℕ) (c : ℕ → ℕ) → 1 ≤ copies → Repeats start r h n p t o q → Choices start n p t o q copies c → (g : ℕ) → 1 ≤ g → Named r (copies * n) c g →
    ((k : ℕ) × Within start t o q p k g) ⊎ (start g <ℤ o)
placed_or_early start r h n p t o q copies c some rep ch g one w =
    ⊎_elim (λ (at : (x j : ℕ) × (x < copies * n) × (g ≡ c x + j * r) × Within start t o q p (x / copies + j * n) g). inl (at.0 / copies + at.1 * n, at.4)) inr
    (placed start r h n p t o q copies c some rep ch g one w)
