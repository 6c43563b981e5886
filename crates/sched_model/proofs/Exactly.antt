-- Exactly so many numbers have a property: in order, through a map, counted, one
use Rattle.std.proofs.Common.{◌≡◌, ℕ, zero, suc, ◌+◌, ◌-◌, ◌<◌, ◌≤◌, Bool, true, false, eqb, cond, refl, sym, ◌∙◌, ap, subst, arith, ◌⊎◌, inl, inr, ⊎_elim}
use Rattle.std.proofs.lemmas.Bool.{cases_lt, cases_eq, cases_Bool, cond-true, cond-false, eq-eqb, ne_eqb, both_ways}
use Rattle.sched_model.specs.RightSchedule.{Exactly}
use Rattle.sched_model.specs.ServedCounts.{how_many}
use Rattle.sched_model.proofs.Sums.{one_true, one_false}

-- they are those of a rising row
pub record Rising (c : ℕ) (P : ℕ → Type 0) : Type 0 where
  pub row : ℕ → ℕ
  pub rises : (x y : ℕ) → x < y → y < c → row x < row y
  pub each : (x : ℕ) → x < c → P (row x)
  pub only : (g : ℕ) → P g → (x : ℕ) × (x < c) × (row x ≡ g)

pub from_rising : (c : ℕ) (P : ℕ → Type 0) → Rising c P → Exactly c P
from_rising c P r = record { row = r.row; apart = λ x y l h e. let w = r.rises x y l h in omega (arith, w, e); each = r.each; only = r.only }

-- ---- in order
-- the least one of a row
least : (row : ℕ → ℕ) (c : ℕ) → (x : ℕ) × (x < suc c) × ((y : ℕ) → y < suc c → row x ≤ row y)
least row zero = (0, omega arith, λ y l. let e = ap row (let z : y ≡ 0 = omega (arith, l) in z) in omega (arith, e))
least row (suc c) =
    let w = least row c in
    ⊎_elim
    (λ (new : row (suc c) < row w.0).
    (suc c, omega arith, λ y l. ⊎_elim (λ (less : y < suc c). let v = w.2 y less in omega (arith, v, new)) (λ (le : suc c ≤ y). let e = ap row (let z : y ≡ suc c = omega (arith, l, le) in z) in omega (arith, e)) (cases_lt y (suc c))))
    (λ (old : row w.0 ≤ row (suc c)).
    (w.0, omega (arith, w.1), λ y l. ⊎_elim (λ (less : y < suc c). w.2 y less) (λ (le : suc c ≤ y). let e = ap row (let z : y ≡ suc c = omega (arith, l, le) in z) in omega (arith, e, old)) (cases_lt y (suc c))))
    (cases_lt (row (suc c)) (row w.0))

-- a row with the number at x put away: the last one takes its place
abbrev without : (ℕ → ℕ) → ℕ → ℕ → ℕ → ℕ
without row c x y = cond (eqb y x) (row c) (row y)

without_here : (row : ℕ → ℕ) (c x y : ℕ) → y ≡ x → without row c x y ≡ row c
without_here row c x y e = cond-true (eqb y x) (row c) (row y) (eq-eqb y x e)

without_there : (row : ℕ → ℕ) (c x y : ℕ) → (y ≡ x → ⊥) → without row c x y ≡ row y
without_there row c x y ne = cond-false (eqb y x) (row c) (row y) (ne_eqb y x ne)

-- where the number at place y of the rest was
from_rest : (row : ℕ → ℕ) (c x y : ℕ) → x < suc c → y < c → (z : ℕ) × (z < suc c) × (without row c x y ≡ row z) × (z ≡ x → ⊥) × ((y ≡ x) × (z ≡ c) ⊎ (z ≡ y))
from_rest row c x y lx ly =
    ⊎_elim
    (λ (e : y ≡ x). (c, omega arith, without_here row c x y e, λ f. omega (arith, e, f, ly), inl (e, refl)))
    (λ (ne : y ≡ x → ⊥). (y, omega (arith, ly), without_there row c x y ne, ne, inr refl))
    (cases_eq y x)

-- two places of a row with one number are one
one_place : (c : ℕ) (P : ℕ → Type 0) (e : Exactly c P) (x y : ℕ) → x < c → y < c → e.row x ≡ e.row y → x ≡ y
one_place c P e x y lx ly same =
    ⊎_elim (λ (less : x < y). absurd (e.apart x y less ly same)) (λ (le : y ≤ x).
    ⊎_elim (λ (less : y < x). absurd (e.apart y x less lx (sym same))) (λ (ge : x ≤ y). omega (arith, le, ge)) (cases_lt y x)) (cases_lt x y)

-- a number in front of a row
abbrev front : ℕ → (ℕ → ℕ) → ℕ → ℕ
front a row zero = a
front a row (suc x) = row x

pub in_order : (c : ℕ) (P : ℕ → Type 0) → Exactly c P → Rising c P
in_order zero P e = record { row = e.row; rises = λ x y l h. absurd (omega (arith, h)); each = λ x l. absurd (omega (arith, l)); only = e.only }
in_order (suc c) P e =
    let w = least e.row c in
    let x = w.0 in
    let a = e.row x in
    let Q = λ (g : ℕ). P g × (a < g) in
    let rest : Exactly c Q = record {
      row = without e.row c x;
      apart = λ y z l h same.
          let u = from_rest e.row c x y w.1 (omega (arith, l, h)) in
          let v = from_rest e.row c x z w.1 h in
          let k = one_place (suc c) P e u.0 v.0 u.1 v.1 (sym u.2 ∙ same ∙ v.2) in
          apart_so c x y z u.0 v.0 l h u.4 v.4 k;
      each = λ y l.
          let u = from_rest e.row c x y w.1 l in
          let low = w.2 u.0 u.1 in
          let above : a < e.row u.0 = ⊎_elim (λ (less : a < e.row u.0). less) (λ (le : e.row u.0 ≤ a). absurd (u.3 (one_place (suc c) P e u.0 x u.1 w.1 (let s : e.row u.0 ≡ a = omega (arith, le, low) in s)))) (cases_lt a (e.row u.0)) in
          (subst P (sym u.2) (e.each u.0 u.1), subst (λ g. a < g) (sym u.2) above);
      only = λ g h.
          let o = e.only g h.0 in
          ⊎_elim
          (λ (last : o.0 ≡ c).
          let ne : (x ≡ c → ⊥) = λ f. let s = ap e.row (f ∙ sym last) ∙ o.2 in omega (arith, s, h.1) in
          (x, omega (arith, w.1, not_so x c (omega (arith, w.1)) ne), without_here e.row c x x refl ∙ ap e.row (sym last) ∙ o.2))
          (λ (ne : o.0 ≡ c → ⊥).
          let other : (o.0 ≡ x → ⊥) = λ f. let s = ap e.row (sym f) ∙ o.2 in omega (arith, s, h.1) in
          (o.0, not_so o.0 c (omega (arith, o.1)) ne, without_there e.row c x o.0 other ∙ o.2))
          (cases_eq o.0 c);
    } in
    let r = in_order c Q rest in
    record {
      row = front a r.row;
      rises = ordered a r.row c (λ y l. (r.each y l).1) r.rises;
      each = held P a r.row c (e.each x w.1) (λ y l. (r.each y l).0);
      only = λ g h.
          ⊎_elim
          (λ (less : a < g). let o = r.only g (h, less) in (suc o.0, omega (arith, o.1), o.2))
          (λ (le : g ≤ a).
          let o = e.only g h in
          let low = w.2 o.0 o.1 in
          (0, omega arith, (let s : a ≡ g = omega (arith, le, low, o.2) in s)))
          (cases_lt a g);
    }
  where
    not_so : (x c : ℕ) → x ≤ c → (x ≡ c → ⊥) → x < c
    not_so x c le ne = ⊎_elim (λ (less : x < c). less) (λ (ge : c ≤ x). absurd (ne (omega (arith, le, ge)))) (cases_lt x c)

    apart_so : (c x y z u v : ℕ) → y < z → z < c → ((y ≡ x) × (u ≡ c) ⊎ (u ≡ y)) → ((z ≡ x) × (v ≡ c) ⊎ (v ≡ z)) → u ≡ v → ⊥
    apart_so c x y z u v l h (inl (a, b)) (inl (d, f)) k = omega (arith, l, a, d)
    apart_so c x y z u v l h (inl (a, b)) (inr f) k = omega (arith, b, f, k, h)
    apart_so c x y z u v l h (inr b) (inl (d, f)) k = omega (arith, b, f, k, l, h)
    apart_so c x y z u v l h (inr b) (inr f) k = omega (arith, b, f, k, l)

    ordered : (a : ℕ) (row : ℕ → ℕ) (c : ℕ) → ((y : ℕ) → y < c → a < row y) → ((x y : ℕ) → x < y → y < c → row x < row y) → (x y : ℕ) → x < y → y < suc c → front a row x < front a row y
    ordered a row c first rises zero zero l h = absurd (omega (arith, l))
    ordered a row c first rises zero (suc y) l h = first y (omega (arith, h))
    ordered a row c first rises (suc x) zero l h = absurd (omega (arith, l))
    ordered a row c first rises (suc x) (suc y) l h = rises x y (omega (arith, l)) (omega (arith, h))

    held : (P : ℕ → Type 0) (a : ℕ) (row : ℕ → ℕ) (c : ℕ) → P a → ((y : ℕ) → y < c → P (row y)) → (y : ℕ) → y < suc c → P (front a row y)
    held P a row c h k zero l = h
    held P a row c h k (suc y) l = k y (omega (arith, l))

-- ---- rising rows
-- a rising row of places is at each place that place or later
climbs : (f : ℕ → ℕ) (c : ℕ) → ((x y : ℕ) → x < y → y < c → f x < f y) → (x : ℕ) → x < c → x ≤ f x
climbs f c rises zero l = omega arith
climbs f c rises (suc x) l = omega (arith, climbs f c rises x (omega (arith, l)), rises x (suc x) (omega arith) l)

-- and so far below the end as the place is
below_end : (f : ℕ → ℕ) (c : ℕ) → ((x y : ℕ) → x < y → y < c → f x < f y) → ((x : ℕ) → x < c → f x < c) → (n x : ℕ) → x + suc n ≡ c → f x + suc n ≤ c
below_end f c rises low zero x e = let h = low x (omega (arith, e)) in omega (arith, h)
below_end f c rises low (suc n) x e = omega (arith, below_end f c rises low n (suc x) (omega (arith, e)), rises x (suc x) (omega arith) (omega (arith, e)))

-- a rising row whose numbers are of a rising row of as many is that row
pub same_row : (c : ℕ) (a b : ℕ → ℕ) → ((x y : ℕ) → x < y → y < c → a x < a y) → ((x y : ℕ) → x < y → y < c → b x < b y) →
    ((x : ℕ) → x < c → (y : ℕ) × (y < c) × (a x ≡ b y)) → (x : ℕ) → x < c → a x ≡ b x
same_row c a b up climb of x l =
    let f = λ (x : ℕ). place_of x (cases_lt x c) in
    let rises = λ (x y : ℕ) (less : x < y) (h : y < c).
    let u = found x (omega (arith, less, h)) (cases_lt x c) in
    let v = found y h (cases_lt y c) in
    let s = up x y less h in
    ⊎_elim (λ (yes : f x < f y). yes) (λ (no : f y ≤ f x). absurd (let k = level (f y) (f x) no u.0 in omega (arith, s, u.1, v.1, k))) (cases_lt (f x) (f y)) in
    let low = λ (x : ℕ) (h : x < c). (found x h (cases_lt x c)).0 in
    let u = found x l (cases_lt x c) in
    let high = below_end f c rises low (c - suc x) x (omega (arith, l)) in
    let from = climbs f c rises x l in
    u.1 ∙ ap b (let s : f x ≡ x = omega (arith, high, from, l) in s)
  where
    place_of : (x : ℕ) → (x < c) ⊎ (c ≤ x) → ℕ
    place_of x (inl h) = (of x h).0
    place_of x (inr h) = 0

    found : (x : ℕ) → x < c → (w : (x < c) ⊎ (c ≤ x)) → (place_of x w < c) × (a x ≡ b (place_of x w))
    found x h (inl k) = ((of x k).1, (of x k).2)
    found x h (inr k) = absurd (omega (arith, h, k))

    level : (y z : ℕ) → y ≤ z → z < c → b y ≤ b z
    level y z le h = ⊎_elim (λ (less : y < z). let k = climb y z less h in omega (arith, k)) (λ (ge : z ≤ y). let k = ap b (let s : y ≡ z = omega (arith, le, ge) in s) in omega (arith, k)) (cases_lt y z)

-- a rising row into one of b is no longer than b
no_longer : (c d : ℕ) (a b : ℕ → ℕ) → ((x y : ℕ) → x < y → y < c → a x < a y) → ((x y : ℕ) → x < y → y < d → b x < b y) →
    ((x : ℕ) → x < c → (y : ℕ) × (y < d) × (a x ≡ b y)) → c ≤ d
no_longer c d a b up climb of =
    ⊎_elim
    (λ (more : d < c).
    let same = same_row d a b (λ x y l h. up x y l (omega (arith, h, more))) climb (λ x l. of x (omega (arith, l, more))) in
    let w = of d more in
    let e = same w.0 w.1 in
    absurd (let s = up w.0 d w.1 more in omega (arith, s, e, w.2)))
    (λ (le : c ≤ d). le)
    (cases_lt d c)

-- a property has one count
pub one_count : (c d : ℕ) (P : ℕ → Type 0) → Exactly c P → Exactly d P → c ≡ d
one_count c d P e f =
    let a = in_order c P e in
    let b = in_order d P f in
    let up = no_longer c d a.row b.row a.rises b.rises (λ x l. let w = b.only (a.row x) (a.each x l) in (w.0, w.1, sym w.2)) in
    let down = no_longer d c b.row a.row b.rises a.rises (λ x l. let w = a.only (b.row x) (b.each x l) in (w.0, w.1, sym w.2)) in
    omega (arith, up, down)

-- ---- through a map
-- as many have Q as have P where the map takes those with P one by one to those with Q
pub through : (c : ℕ) (P Q : ℕ → Type 0) (f : ℕ → ℕ) → ((g : ℕ) → P g → Q (f g)) → ((g h : ℕ) → P g → P h → f g ≡ f h → g ≡ h) → ((j : ℕ) → Q j → (g : ℕ) × P g × (f g ≡ j)) → Exactly c P → Exactly c Q
through c P Q f to one back e = record {
  row = λ x. f (e.row x);
  apart = λ x y l h same. e.apart x y l h (one (e.row x) (e.row y) (e.each x (omega (arith, l, h))) (e.each y h) same);
  each = λ x l. to (e.row x) (e.each x l);
  only = λ j q. let b = back j q in let o = e.only b.0 b.1 in (o.0, o.1, ap f o.2 ∙ b.2);
}

pub also : (c : ℕ) (P Q : ℕ → Type 0) → ((g : ℕ) → P g → Q g) → ((g : ℕ) → Q g → P g) → Exactly c P → Exactly c Q
also c P Q f b e = record { row = e.row; apart = e.apart; each = λ x l. f (e.row x) (e.each x l); only = λ g q. e.only g (b g q) }

-- ---- counted
-- a row that ends with n at place c
abbrev ending : (ℕ → ℕ) → ℕ → ℕ → ℕ → ℕ
ending row c n x = cond (eqb x c) n (row x)

kept : (row : ℕ → ℕ) (c n x : ℕ) → x < c → ending row c n x ≡ row x
kept row c n x l = cond-false (eqb x c) n (row x) (ne_eqb x c (λ e. omega (arith, e, l)))

ended : (row : ℕ → ℕ) (c n x : ℕ) → x ≡ c → ending row c n x ≡ n
ended row c n x e = cond-true (eqb x c) n (row x) (eq-eqb x c e)

-- the numbers below n that pass a test are as many as the count says
pub counted : (t : ℕ → Bool) (n : ℕ) → Exactly (how_many t n) (λ j. (j < n) × (t j ≡ true))
counted t zero = record { row = λ x. 0; apart = λ x y l h. absurd (omega (arith, h)); each = λ x l. absurd (omega (arith, l)); only = λ g w. absurd (omega (arith, w.0)) }
counted t (suc n) =
    let e = counted t n in
    let c = how_many t n in
    ⊎_elim
    (λ (yes : t n ≡ true).
    let k : how_many t (suc n) ≡ suc c = (let s = one_true (t n) yes in omega (arith, s)) in
    subst (λ x. Exactly x (λ j. (j < suc n) × (t j ≡ true))) (sym k) (record {
      row = ending e.row c n;
      apart = λ x y l h same.
          ⊎_elim
          (λ (less : y < c). e.apart x y l less (sym (kept e.row c n x (omega (arith, l, less))) ∙ same ∙ kept e.row c n y less))
          (λ (le : c ≤ y).
          let low = (e.each x (omega (arith, l, h))).0 in
          let s = sym (kept e.row c n x (omega (arith, l, h))) ∙ same ∙ ended e.row c n y (omega (arith, le, h)) in
          omega (arith, low, s))
          (cases_lt y c);
      each = λ x l.
          ⊎_elim
          (λ (less : x < c). let w = e.each x less in subst (λ j. (j < suc n) × (t j ≡ true)) (sym (kept e.row c n x less)) (omega (arith, w.0), w.1))
          (λ (le : c ≤ x). subst (λ j. (j < suc n) × (t j ≡ true)) (sym (ended e.row c n x (omega (arith, le, l)))) (omega arith, yes))
          (cases_lt x c);
      only = λ g w.
          ⊎_elim
          (λ (less : g < n). let o = e.only g (less, w.1) in (o.0, omega (arith, o.1), kept e.row c n o.0 o.1 ∙ o.2))
          (λ (le : n ≤ g). (c, omega arith, ended e.row c n c refl ∙ (let s : n ≡ g = omega (arith, le, w.0) in s)))
          (cases_lt g n);
    }))
    (λ (fails : t n ≡ false).
    let k : how_many t (suc n) ≡ c = (let s = one_false (t n) fails in omega (arith, s)) in
    subst (λ x. Exactly x (λ j. (j < suc n) × (t j ≡ true))) (sym k)
    (also c (λ j. (j < n) × (t j ≡ true)) (λ j. (j < suc n) × (t j ≡ true)) (λ g w. (omega (arith, w.0), w.1)) (λ g w. (below_so n fails g w, w.1)) e))
    (cases_Bool (t n))
  where
    below_so : (n : ℕ) → t n ≡ false → (g : ℕ) → (g < suc n) × (t g ≡ true) → g < n
    below_so n fails g w = ⊎_elim (λ (less : g < n). less) (λ (le : n ≤ g). absurd (both_ways (t n) fails (sym (ap t (let z : g ≡ n = omega (arith, le, w.0) in z)) ∙ w.1))) (cases_lt g n)
