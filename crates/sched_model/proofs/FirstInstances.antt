-- Each round's first instance from the opening on decides all its instances, for one message
use Rattle.std.proofs.Common.{◌≡◌, ℕ, suc, ◌+◌, ◌-◌, ◌*◌, ◌/◌, ◌%◌, ◌<◌, ◌≤◌, sym, ◌∙◌, ap, subst, arith, ◌⊎◌, inl, inr, ⊎_elim, ℤ, pos, ◌+ℤ◌, ◌≤ℤ◌, ◌<ℤ◌}
use Rattle.std.proofs.lemmas.Int.{ints}
use Rattle.std.proofs.lemmas.Bool.{cases_lt}
use Rattle.std.proofs.lemmas.Nat.{div-add-mod', mod_below, mod-mul-add}
use Rattle.std.proofs.Math.Nat.{mul-le-mul_right}
use Rattle.sched_model.specs.RightSchedule.{Exactly}
use Rattle.sched_model.proofs.Exactly.{through}
use Rattle.sched_model.proofs.Serving.{Within, Repeats, moved}

-- the first instance from the opening on of the round at place j, wait j hyperperiods late, and the window that has opened last by then
pub record FirstInstances (start : ℕ → ℤ) (r n p : ℕ) (o : ℤ) (wait window : ℕ → ℕ) : Type 0 where
  pub reached : (j : ℕ) → j < r → o ≤ℤ start (suc j + wait j * r)
  pub before : (j x : ℕ) → j < r → x < wait j → start (suc j + x * r) <ℤ o
  pub low : (j : ℕ) → j < r → (o +ℤ pos (window j * p)) ≤ℤ start (suc j + wait j * r)
  pub high : (j : ℕ) → j < r → start (suc j + wait j * r) <ℤ (o +ℤ pos (window j * p) +ℤ pos p)
  pub small : (j : ℕ) → j < r → window j < n

-- products of one factor are in the order of the others
below_times : (a b p : ℕ) → a * p < (b + 1) * p → a ≤ b
below_times a b p h =
    ⊎_elim
    (λ (more : b < a). absurd (let m : (b + 1) * p ≤ a * p = mul-le-mul_right p (omega (arith, more)) in omega (arith, h, m)))
    (λ (le : a ≤ b). le)
    (cases_lt b a)

module _ (start : ℕ → ℤ) (r h n p t : ℕ) (o q : ℤ) (C : ℕ → Type 0) (rep : Repeats start r h n p t o q) (wait window : ℕ → ℕ) (fi : FirstInstances start r n p o wait window) where
  abbrev pub first : ℕ → ℕ
  first j = suc j + wait j * r

  abbrev pub Ends : ℕ → Type 0
  Ends j = (start (first j) +ℤ pos t) ≤ℤ (q +ℤ pos (window j * p))

  abbrev pub ServesIn : ℕ → ℕ → Type 0
  ServesIn k g = (1 ≤ g) × C ((g - 1) % r) × Within start t o q p k g

  abbrev pub FirstIn : ℕ → ℕ → Type 0
  FirstIn k j = (j < r) × C j × (window j ≡ k) × Ends j

  -- an instance is that of its round and its hyperperiod
  in_turn : (g : ℕ) → 1 ≤ g → g ≡ suc ((g - 1) % r) + (g - 1) / r * r
  in_turn g one = omega (arith, div-add-mod' (g - 1) r)

  round_of_first : (j d : ℕ) → j < r → (first j + d * r - 1) % r ≡ j
  round_of_first j d l =
      ap (λ x. x % r) (let e : first j + d * r - 1 ≡ (wait j + d) * r + j = omega arith in e) ∙ mod-mul-add (wait j + d) r j l

  later : (j d : ℕ) → start (first j + d * r) ≡ start (first j) +ℤ pos (d * (n * p))
  later j d = rep.again (first j) d (omega arith) ∙ ap (λ x. start (first j) +ℤ pos (d * x)) rep.whole

  -- an instance from the opening on is the first of its round, some hyperperiods later
  from_first : (g : ℕ) → 1 ≤ g → ((d : ℕ) × (g ≡ first ((g - 1) % r) + d * r)) ⊎ (start g <ℤ o)
  from_first g one =
      let j = (g - 1) % r in
      let x = (g - 1) / r in
      let l = mod_below (g - 1) r rep.rounds in
      let e = in_turn g one in
      ⊎_elim
      (λ (early : x < wait j). inr (subst (λ y. start y <ℤ o) (sym e) (fi.before j x l early)))
      (λ (late : wait j ≤ x).
      let d = x - wait j in
      let times : x * r ≡ (wait j + d) * r = ap (λ y. y * r) (let z : x ≡ wait j + d = omega (arith, late) in z) in
      inl (d, omega (arith, e, times)))
      (cases_lt x (wait j))

  -- and lies in the window of the first one, as many hyperperiods later
  same_window : (k j d : ℕ) → j < r → Within start t o q p k (first j + d * r) → (k ≡ window j + d * n) × Ends j
  same_window k j d l w =
      let s = later j d in
      let low = fi.low j l in
      let high = fi.high j l in
      let up : k ≤ window j + d * n = below_times k (window j + d * n) p (omega (arith, ints, w, s, high)) in
      let down : window j + d * n ≤ k = below_times (window j + d * n) k p (omega (arith, ints, w, s, low, rep.narrow, rep.length)) in
      let e : k ≡ window j + d * n = omega (arith, up, down) in
      let times = ap (λ x. x * p) e in
      (e, omega (arith, ints, w, s, times))

  -- one that ends in its first window ends in its window ever after
  moved_window : (j d : ℕ) → j < r → Ends j → Within start t o q p (window j + d * n) (first j + d * r)
  moved_window j d l e = moved start r h n p t o q rep (window j) d (first j) (omega arith) (fi.low j l, e)

  -- ---- every instance lies in a window or before the first one
  pub entries_fit : ((g : ℕ) → 1 ≤ g → C ((g - 1) % r) → ((k : ℕ) × Within start t o q p k g) ⊎ (start g <ℤ o)) → (j : ℕ) → j < r → C j → Ends j
  entries_fit all j l c =
      let g = first j + 0 * r in
      let e = round_of_first j 0 l in
      ⊎_elim
      (λ (w : (k : ℕ) × Within start t o q p k g). (same_window w.0 j 0 l w.1).1)
      (λ (early : start g <ℤ o). absurd (omega (arith, ints, early, later j 0, fi.reached j l)))
      (all g (omega arith) (subst C (sym e) c))

  pub all_timely : ((j : ℕ) → j < r → C j → Ends j) → (g : ℕ) → 1 ≤ g → C ((g - 1) % r) → ((k : ℕ) × Within start t o q p k g) ⊎ (start g <ℤ o)
  all_timely ends g one c =
      let j = (g - 1) % r in
      let l = mod_below (g - 1) r rep.rounds in
      ⊎_elim
      (λ (w : (d : ℕ) × (g ≡ first j + d * r)). inl (window j + w.0 * n, subst (λ x. Within start t o q p (window j + w.0 * n) x) (sym w.1) (moved_window j w.0 l (ends j l c))))
      (λ (early : start g <ℤ o). inr early)
      (from_first g one)

  -- ---- every window has as many
  -- what serves a window is the first of its round, some hyperperiods later
  taken_apart : (k g : ℕ) → ServesIn k g → (d : ℕ) × (g ≡ first ((g - 1) % r) + d * r) × (k ≡ window ((g - 1) % r) + d * n) × Ends ((g - 1) % r)
  taken_apart k g (one, c, w) =
      let j = (g - 1) % r in
      let l = mod_below (g - 1) r rep.rounds in
      ⊎_elim
      (λ (x : (d : ℕ) × (g ≡ first j + d * r)). let v = same_window k j x.0 l (subst (λ y. Within start t o q p k y) x.1 w) in (x.0, x.1, v.0, v.1))
      (λ (early : start g <ℤ o). absurd (omega (arith, ints, early, w.0)))
      (from_first g one)

  -- the number of hyperperiods is that of the window
  turn_of : (a b d e : ℕ) → a < n → b < n → a + d * n ≡ b + e * n → (a ≡ b) × (d ≡ e)
  turn_of a b d e l k h =
      let up = below_times d e n (omega (arith, h, l, k)) in
      let down = below_times e d n (omega (arith, h, l, k)) in
      let same : d ≡ e = omega (arith, up, down) in
      (omega (arith, h, ap (λ x. x * n) same), same)

  -- two that serve a window in one round are one
  apart_rounds : (k g f : ℕ) → ServesIn k g → ServesIn k f → (g - 1) % r ≡ (f - 1) % r → g ≡ f
  apart_rounds k g f a b same =
      let j = (g - 1) % r in
      let x = taken_apart k g a in
      let y = taken_apart k f b in
      let lj = mod_below (g - 1) r rep.rounds in
      let there : k ≡ window j + y.0 * n = y.2 ∙ ap (λ z. window z + y.0 * n) (sym same) in
      let e = (turn_of (window j) (window j) x.0 y.0 (fi.small j lj) (fi.small j lj) (sym x.2 ∙ there)).1 in
      x.1 ∙ ap (λ z. first j + z * r) e ∙ ap (λ z. first z + y.0 * r) same ∙ sym y.1

  pub served_once : (c : ℕ) → ((k : ℕ) → Exactly c (ServesIn k)) → (k : ℕ) → k < n → Exactly c (FirstIn k)
  served_once c all k l =
      through c (ServesIn k) (FirstIn k) (λ g. (g - 1) % r)
      (λ g w.
      let j = (g - 1) % r in
      let lj = mod_below (g - 1) r rep.rounds in
      let x = taken_apart k g w in
      let e : k + 0 * n ≡ window j + x.0 * n = omega (arith, x.2) in
      (lj, w.1, sym (turn_of k (window j) 0 x.0 l (fi.small j lj) e).0, x.3))
      (apart_rounds k)
      (λ i v.
      let at = first i + 0 * r in
      let serves : ServesIn k at = (omega arith, subst C (sym (round_of_first i 0 v.0)) v.1, subst (λ y. Within start t o q p y at) (let z : window i + 0 * n ≡ k = omega (arith, v.2) in z) (moved_window i 0 v.0 v.3)) in
      (at, serves, round_of_first i 0 v.0))
      (all k)

  pub all_served : (c : ℕ) → ((k : ℕ) → k < n → Exactly c (FirstIn k)) → (k : ℕ) → Exactly c (ServesIn k)
  all_served c once k =
      let i = k % n in
      let d = k / n in
      let li = mod_below k n rep.some in
      through c (FirstIn i) (ServesIn k) (λ j. first j + d * r)
      (λ j v.
      let e : window j + d * n ≡ k = omega (arith, v.2, div-add-mod' k n) in
      (omega arith, subst C (sym (round_of_first j d v.0)) v.1, subst (λ y. Within start t o q p y (first j + d * r)) e (moved_window j d v.0 v.3)))
      (λ j f v w same. sym (round_of_first j d v.0) ∙ ap (λ z. (z - 1) % r) same ∙ round_of_first f d w.0)
      (λ g w.
      let x = taken_apart k g w in
      let b = (g - 1) % r in
      let lb = mod_below (g - 1) r rep.rounds in
      let same = turn_of (window b) i x.0 d (fi.small b lb) li (omega (arith, x.2, div-add-mod' k n)) in
      (b, (lb, w.1, same.0, x.3), sym (x.1 ∙ ap (λ y. first b + y * r) same.1)))
      (once i li)
