-- The other way: a right table gives exactly one list of choices
use Rattle.std.proofs.Common.{◌≡◌, ℕ, suc, ◌+◌, ◌-◌, ◌*◌, ◌/◌, ◌%◌, ◌<◌, ◌≤◌, refl, sym, ◌∙◌, ap, subst, arith, ◌⊎◌, ⊎_elim, ℤ, ◌≤ℤ◌, ◌<ℤ◌}
use Rattle.std.proofs.lemmas.Int.{ints}
use Rattle.std.proofs.lemmas.Bool.{cases_lt}
use Rattle.std.proofs.lemmas.Nat.{div-add-mod', mod_below}
use Rattle.std.proofs.Math.Nat.{mul-le-mul_right, mul-le-mul_left}
use borrow.Author.Differences.{up, down}
use Rattle.sched_model.specs.RightSchedule.{Exactly}
use Rattle.sched_model.proofs.Classes.{later_round}
use Rattle.sched_model.proofs.Exactly.{Rising, in_order, same_row}
use Rattle.sched_model.proofs.Serving.{Within, Repeats, Choices, Named, moved, of_window, copy_low, its_window}

-- the rounds of the table C serve each window as often as there are copies, and stand nowhere else
pub record IsServed (start : ℕ → ℤ) (r p t : ℕ) (o q : ℤ) (copies : ℕ) (C : ℕ → Type 0) : Type 0 where
  pub some : 1 ≤ copies
  pub each : (k : ℕ) → Exactly copies (λ g. (1 ≤ g) × C ((g - 1) % r) × Within start t o q p k g)
  pub nowhere_else : (g : ℕ) → 1 ≤ g → C ((g - 1) % r) → ((k : ℕ) × Within start t o q p k g) ⊎ (start g <ℤ o)

-- f has the instance of each copy, counted over all windows
pub record Row (start : ℕ → ℤ) (r n p t : ℕ) (o q : ℤ) (copies : ℕ) (C : ℕ → Type 0) (f : ℕ → ℕ) : Type 0 where
  pub choices : Choices start n p t o q copies f
  pub listed : (x : ℕ) → C ((f x - 1) % r)
  pub rises : (x y : ℕ) → x < y → f x < f y
  pub turn : (x : ℕ) → x < copies * n → f x < f 0 + r
  pub names : (g : ℕ) → 1 ≤ g → C ((g - 1) % r) → Named r (copies * n) f g
  pub only : (c : ℕ → ℕ) → Choices start n p t o q copies c → ((g : ℕ) → 1 ≤ g → Named r (copies * n) c g → C ((g - 1) % r)) → (x : ℕ) → x < copies * n → c x ≡ f x

abbrev pub Rises : (ℕ → ℤ) → Type 0
Rises start = (g h : ℕ) → 1 ≤ g → g ≤ h → start g ≤ℤ start h

module _ (start : ℕ → ℤ) (r h n p t : ℕ) (o q : ℤ) (copies : ℕ) (C : ℕ → Type 0) (rep : Repeats start r h n p t o q) (period : 1 ≤ p) (rises : Rises start) (s : IsServed start r p t o q copies C) where
  abbrev pub ServesIn : ℕ → ℕ → Type 0
  ServesIn k g = (1 ≤ g) × C ((g - 1) % r) × Within start t o q p k g

  -- the instances that serve window k, in order
  pub ordered : (k : ℕ) → Rising copies (ServesIn k)
  ordered k = in_order copies (ServesIn k) (s.each k)

  -- the instance of copy x, counted over all windows
  abbrev pub server : ℕ → ℕ
  server x = (ordered (x / copies)).row (x % copies)

  in_window : (x : ℕ) → ServesIn (x / copies) (server x)
  in_window x = (ordered (x / copies)).each (x % copies) (mod_below x copies s.some)

  server_one : (x : ℕ) → 1 ≤ server x
  server_one x = (in_window x).0

  server_in : (x : ℕ) → C ((server x - 1) % r)
  server_in x = (in_window x).1

  server_within : (x : ℕ) → Within start t o q p (x / copies) (server x)
  server_within x = (in_window x).2

  -- copy y of window k
  server_of : (k y : ℕ) → y < copies → server (k * copies + y) ≡ (ordered k).row y
  server_of k y l = ap (λ z. (ordered z).row ((k * copies + y) % copies)) (of_window copies k y l).0 ∙ ap (λ z. (ordered k).row z) (of_window copies k y l).1

  -- what serves a window is one of its copies
  server_is : (k g : ℕ) → ServesIn k g → (y : ℕ) × (y < copies) × (server (k * copies + y) ≡ g)
  server_is k g w = let o = (ordered k).only g w in (o.0, o.1, server_of k o.0 o.1 ∙ o.2)

  -- later copies have later servers
  server_rises : (x y : ℕ) → x < y → server x < server y
  server_rises x y less =
      let a = server_within x in
      let b = server_within y in
      let dx = div-add-mod' x copies in
      let dy = div-add-mod' y copies in
      let ly = mod_below y copies s.some in
      let lx = mod_below x copies s.some in
      ⊎_elim
      (λ (window : x / copies < y / copies).
      let m : (x / copies + 1) * p ≤ y / copies * p = mul-le-mul_right p (omega (arith, window)) in
      ⊎_elim
      (λ (yes : server x < server y). yes)
      (λ (no : server y ≤ server x). let up = rises (server y) (server x) (server_one y) no in absurd (omega (arith, ints, a, b, m, up, rep.narrow, rep.length)))
      (cases_lt (server x) (server y)))
      (λ (le : y / copies ≤ x / copies).
      ⊎_elim
      (λ (back : y / copies < x / copies). absurd (let m : (y / copies + 1) * copies ≤ x / copies * copies = mul-le-mul_right copies (omega (arith, back)) in omega (arith, m, dx, dy, less, ly)))
      (λ (ge : x / copies ≤ y / copies).
      let e : x / copies ≡ y / copies = omega (arith, le, ge) in
      let in_turn : x % copies < y % copies = (let f = ap (λ z. z * copies) e in omega (arith, f, dx, dy, less)) in
      let w = (ordered (x / copies)).rises (x % copies) (y % copies) in_turn ly in
      subst (λ z. server x < (ordered z).row (y % copies)) e w)
      (cases_lt (y / copies) (x / copies)))
      (cases_lt (x / copies) (y / copies))

  choices : Choices start n p t o q copies server
  choices = record { from_one = λ x _. server_one x; rises = λ x y l _. server_rises x y l; within = λ x _. server_within x }

  -- an instance that serves a window serves, j hyperperiods later, the window there
  later : (k j g : ℕ) → ServesIn k g → ServesIn (k + j * n) (g + j * r)
  later k j g w = (omega (arith, w.0), subst C (sym (later_round r g j rep.rounds w.0)) w.1, moved start r h n p t o q rep k j g w.0 w.2)

  -- j hyperperiods later each copy is j * r later
  server_again : (k y j : ℕ) → y < copies → server ((k + j * n) * copies + y) ≡ server (k * copies + y) + j * r
  server_again k y j l =
      let here = ordered k in
      let there = ordered (k + j * n) in
      let same = same_row copies (λ z. here.row z + j * r) there.row (λ a b less low. let w = here.rises a b less low in omega (arith, w)) there.rises
      (λ z lz. let w = there.only (here.row z + j * r) (later k j (here.row z) (here.each z lz)) in (w.0, w.1, sym w.2)) y l in
      server_of (k + j * n) y l ∙ sym same ∙ ap (λ z. z + j * r) (sym (server_of k y l))

  within_turn : (x : ℕ) → x < copies * n → server x < server 0 + r
  within_turn x less =
      let e = server_again 0 0 1 (omega (arith, s.some)) in
      let l = server_rises x ((0 + 1 * n) * copies + 0) (let m : (0 + 1 * n) * copies ≡ copies * n = omega arith in omega (arith, m, less)) in
      let z = ap server (let k : 0 * copies + 0 ≡ 0 = omega arith in k) in
      omega (arith, l, e, z)

  -- each round that has the message is the round of a choice
  names : (g : ℕ) → 1 ≤ g → C ((g - 1) % r) → Named r (copies * n) server g
  names g one c =
      let j = up o + down (start g) in
      let g' = g + j * r in
      let e = rep.again g j one in
      let far : j * 1 ≤ j * h = mul-le-mul_left j long in
      let one' : 1 ≤ g' = omega arith in
      let c' : C ((g' - 1) % r) = subst C (sym (later_round r g j rep.rounds one)) c in
      let at : (k : ℕ) × Within start t o q p k g' =
      ⊎_elim (λ (w : (k : ℕ) × Within start t o q p k g'). w) (λ (early : start g' <ℤ o). absurd (omega (arith, ints, far, early, e))) (s.nowhere_else g' one' c') in
      let k = at.0 in
      let copy = server_is k g' (one', c', at.1) in
      let y = copy.0 in
      let small : k % n < n = mod_below k n rep.some in
      let d = div-add-mod' k n in
      let turn : server (k * copies + y) ≡ server (k % n * copies + y) + k / n * r = ap (λ z. server (z * copies + y)) (let x : k ≡ k % n + k / n * n = omega (arith, d) in x) ∙ server_again (k % n) y (k / n) copy.1 in (
        k % n * copies + y,
        copy_low copies n (k % n) y small copy.1,
        sym (later_round r g j rep.rounds one)
            ∙ ap (λ x. (x - 1) % r) (sym copy.2 ∙ turn)
            ∙ later_round r (server (k % n * copies + y)) (k / n) rep.rounds (server_one (k % n * copies + y)),
      )
    where
      long : 1 ≤ h
      long = let m : 1 * p ≤ n * p = mul-le-mul_right p rep.some in omega (arith, rep.whole, m)

  -- no other list of choices has this table
  only_choices : (c : ℕ → ℕ) → Choices start n p t o q copies c → ((g : ℕ) → 1 ≤ g → Named r (copies * n) c g → C ((g - 1) % r)) → (x : ℕ) → x < copies * n → c x ≡ server x
  only_choices c ch at x less =
      let k = x / copies in
      let its = its_window copies n x s.some less in
      let low = λ (y : ℕ) (l : y < copies). copy_low copies n k y its.0 l in
      let serves = λ (y : ℕ) (l : y < copies).
      let z = k * copies + y in
      let one = ch.from_one z (low y l) in
      let w : ServesIn k (c z) = (one, at (c z) one (z, low y l, refl), subst (λ u. Within start t o q p u (c z)) (of_window copies k y l).0 (ch.within z (low y l))) in
      w in
      let row = ordered k in
      let same = same_row copies (λ y. c (k * copies + y)) row.row (λ a b l h. ch.rises (k * copies + a) (k * copies + b) (omega (arith, l)) (low b h)) row.rises
      (λ y l. let w = row.only (c (k * copies + y)) (serves y l) in (w.0, w.1, sym w.2)) (x % copies) its.1 in
      ap c (sym its.2) ∙ same

  pub row_of : Row start r n p t o q copies C server
  row_of = record { choices = choices; listed = server_in; rises = server_rises; turn = within_turn; names = names; only = only_choices }
