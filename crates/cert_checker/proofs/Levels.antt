-- What the checker keeps of a prefix, as choices come and go
use Rattle.std.proofs.Common.{◌≡◌, ℕ, suc, ◌+◌, ◌-◌, ◌*◌, ◌<◌, ◌≤◌, true, List, [], ◌∷◌, ◌++◌, length, get_or, take, Contains, refl, sym, ◌∙◌, ap, subst, arith, ℤ, pos, ◌≤ℤ◌, length-append, ⊎_elim}
use Rattle.std.specs.Prelude.{nat_le, nat_lt, ◌&&◌}
use Rattle.std.proofs.lemmas.Bool.{cases_lt, le-leb}
use Rattle.std.proofs.lemmas.List.{take_at, take-take, take-append-le, get_or-take, get_or_at, get_or_append_left, length-take-le}
use Rattle.tick_num.specs.declared.differences.Diff.{Diff}
use Rattle.sched_model.specs.Numbers.{span}
use Rattle.sched_model.specs.PlainMode.{PlainMode}
use Rattle.sched_model.specs.ConstraintProblem.{order, base, alternatives, decisions, chosen, in_force, load}
use Rattle.sched_model.specs.OpenPrefix.{Chosen}
use Rattle.sched_model.proofs.Spans.{in_span}
use Rattle.constraint_set.specs.Loads.{Tally, first, round_of, tally_of, times, with_one}
use Rattle.constraint_set.proofs.Tallies.{loads_are, tally_front, tally_length, tally_push}
use Rattle.cert_checker.specs.TreeStack.{at_, IsLevel, Stands}
use Rattle.cert_checker.proofs.Forces.{force_front, force_push, force_none}

-- the choices are among the alternatives
pub is_chosen : (m : PlainMode) (r : ℕ) (p g : List ℤ) → ((k : ℕ) → k < length p → IsLevel m r p g k) → Chosen m r p
is_chosen m r p g levels k l =
    let w = levels k l in
    subst (λ (xs : List ℤ). Contains xs (at_ p k)) (sym w.1) (in_span w.0 (at_ g k) (at_ p k) w.2 w.3)

-- a level depends on the choices up to it alone
pub level_same : (m : PlainMode) (r : ℕ) (p q g h : List ℤ) (k : ℕ) → take k p ≡ take k q → at_ p k ≡ at_ q k → at_ g k ≡ at_ h k → IsLevel m r p g k → IsLevel m r q h k
level_same m r p q g h k e f i (low, is, a, b) = (
  low,
  ap (alternatives m r) (sym e) ∙ is ∙ ap (span low) i,
  subst (λ (z : ℤ). low ≤ℤ z) f a,
  subst (λ (z : ℤ). z ≤ℤ at_ h k) f (subst (λ (z : ℤ). at_ p k ≤ℤ z) i b),
)

-- the levels with one choice more
pub levels_put : (m : PlainMode) (r : ℕ) (p g : List ℤ) (v h : ℤ) → length g ≡ length p → ((k : ℕ) → k < length p → IsLevel m r p g k)
    → (low : ℤ) × (alternatives m r p ≡ span low h) × (low ≤ℤ v) × (v ≤ℤ h)
    → (k : ℕ) → k < length (p ++ v ∷ []) → IsLevel m r (p ++ v ∷ []) (g ++ h ∷ []) k
levels_put m r p g v h same levels among k l =
    ⊎_elim
    (λ (lt : k < length p).
    level_same m r p (p ++ v ∷ []) g (g ++ h ∷ []) k (sym (take-append-le k p (v ∷ []) (omega arith)))
    (sym (get_or_append_left p (v ∷ []) (pos 0) k lt)) (sym (get_or_append_left g (h ∷ []) (pos 0) k (omega arith))) (levels k lt))
    (λ (ge : length p ≤ k).
    let top : k ≡ length p = omega (arith, l, ge, length-append p (v ∷ [])) in
    let front : take k (p ++ v ∷ []) ≡ p = take_at p (v ∷ []) k (sym top) in
    let v-is : at_ (p ++ v ∷ []) k ≡ v = get_or_at p v [] (pos 0) k (sym top) in
    let h-is : at_ (g ++ h ∷ []) k ≡ h = get_or_at g h [] (pos 0) k (same ∙ sym top) in (
      among.0,
      ap (alternatives m r) front ∙ among.1 ∙ ap (span among.0) (sym h-is),
      subst (λ (z : ℤ). among.0 ≤ℤ z) (sym v-is) among.2,
      subst (λ (z : ℤ). z ≤ℤ at_ (g ++ h ∷ []) k) (sym v-is) (subst (λ (z : ℤ). v ≤ℤ z) (sym h-is) among.3),
    ))
    (cases_lt k (length p))

-- the levels of a front
levels_front : (m : PlainMode) (r : ℕ) (p g : List ℤ) (n : ℕ) → n ≤ length p → ((k : ℕ) → k < length p → IsLevel m r p g k) → (k : ℕ) → k < length (take n p) → IsLevel m r (take n p) (take n g) k
levels_front m r p g n le levels k l =
    let lt : k < n = omega (arith, l, length-take-le n p le) in
    level_same m r p (take n p) g (take n g) k (sym (take-take k n p (omega arith))) (sym (get_or-take n p k (pos 0) lt)) (sym (get_or-take n g k (pos 0) lt)) (levels k (omega arith))

-- ---- what is kept

pub stands_none : (m : PlainMode) (r : ℕ) (list : List Diff) (loads : Tally) → list ≡ base m r → loads ≡ tally_of m r [] → Stands m r [] [] list loads
stands_none m r list loads e t = record {
  same = refl;
  few = omega arith;
  levels = λ k l. absurd (omega (arith, l));
  list = e ∙ sym (force_none m r);
  tally = t;
}

pub stands_put : (m : PlainMode) (r : ℕ) (p g p' g' : List ℤ) (list list' : List Diff) (loads loads' : Tally) (v h : ℤ) → Stands m r p g list loads → length p < length (decisions m)
    → (low : ℤ) × (alternatives m r p ≡ span low h) × (low ≤ℤ v) × (v ≤ℤ h)
    → p' ≡ p ++ v ∷ [] → g' ≡ g ++ h ∷ [] → list' ≡ list ++ chosen m r (get_or (decisions m) (length p) (order 0 0)) v
    → loads' ≡ with_one loads (round_of r (get_or (decisions m) (length p) (order 0 0)) v) → Stands m r p' g' list' loads'
stands_put m r p g p' g' list list' loads loads' v h s more among ep eg el et =
    subst (λ (x : List ℤ). Stands m r x g' list' loads') (sym ep) (subst (λ (y : List ℤ). Stands m r (p ++ v ∷ []) y list' loads') (sym eg) (record {
      same = omega (arith, s.same, length-append p (v ∷ []), length-append g (h ∷ []));
      few = omega (arith, more, length-append p (v ∷ []));
      levels = levels_put m r p g v h s.same s.levels among;
      list = el ∙ ap (λ (l : List Diff). l ++ chosen m r (get_or (decisions m) (length p) (order 0 0)) v) s.list ∙ sym (force_push m r p v more);
      tally = et ∙ ap (λ (t : Tally). with_one t (round_of r (get_or (decisions m) (length p) (order 0 0)) v)) s.tally ∙ tally_push m r p v more;
    }))

-- one choice is counted for each of the prefix
pub named_length : (m : PlainMode) (r : ℕ) (p g : List ℤ) (held : List Diff) (loads : Tally) → Stands m r p g held loads → length loads.named ≡ length p
named_length m r p g held loads s = ap (λ (t : Tally). length t.named) s.tally ∙ tally_length m r p s.few

pub stands_pop : (m : PlainMode) (r : ℕ) (p g p' g' : List ℤ) (list list' : List Diff) (loads loads' : Tally) (k n : ℕ) → Stands m r p g list loads → length p ≡ suc k
    → p' ≡ take k p → g' ≡ take k g → n ≡ length (base m r) + 2 * k → list' ≡ take n list → loads' ≡ first (length loads.named - 1) loads → Stands m r p' g' list' loads'
stands_pop m r p g p' g' list list' loads loads' k n s top ep eg en el et =
    let le : k ≤ length p = omega (arith, top) in
    let flen = length-take-le k p le in
    let glen = length-take-le k g (omega (arith, s.same, top)) in
    let named = named_length m r p g list loads s in
    subst (λ (x : List ℤ). Stands m r x g' list' loads') (sym ep) (subst (λ (y : List ℤ). Stands m r (take k p) y list' loads') (sym eg) (record {
      same = glen ∙ sym flen;
      few = omega (arith, flen, s.few, top);
      levels = levels_front m r p g k le s.levels;
      list = el ∙ ap (λ (l : List Diff). take n l) s.list ∙ ap (λ i. take i (in_force m r p)) en ∙ force_front m r p k le s.few;
      tally = et ∙ ap (λ i. first i loads) (let i : length loads.named - 1 ≡ k = omega (arith, named, top) in i) ∙ ap (first k) s.tally ∙ tally_front m r p k;
    }))

-- whether a round is chosen more often than it has slots
pub full_is : (m : PlainMode) (r : ℕ) (p g : List ℤ) (held : List Diff) (loads : Tally) (j : ℕ) → Stands m r p g held loads → 1 ≤ j → j ≤ r → nat_lt m.slots (times j loads.named) ≡ (nat_le 1 j && nat_le j r && nat_lt m.slots (load m r (j - 1) p))
full_is m r p g held loads j s some most =
    let load-is : times j loads.named ≡ load m r (j - 1) p =
    ap (λ (t : Tally). times j t.named) s.tally ∙ ap (λ i. times i (tally_of m r p).named) (let i : j ≡ j - 1 + 1 = omega (arith, some) in i) ∙ sym (loads_are m r (j - 1) p) in
    let over = nat_lt m.slots (load m r (j - 1) p) in
    ap (nat_lt m.slots) load-is ∙ ap (λ b. b && true && over) (sym (le-leb 1 j some)) ∙ ap (λ b. nat_le 1 j && b && over) (sym (le-leb j r most))

-- the constraints of the last choice
pub last_diffs : (m : PlainMode) (r : ℕ) (p q : List ℤ) (v : ℤ) → q ≡ p ++ v ∷ [] →
    chosen m r (get_or (decisions m) (length q - 1) (order 0 0)) (get_or q (length q - 1) (pos 0)) ≡ chosen m r (get_or (decisions m) (length p) (order 0 0)) v
last_diffs m r p q v e =
    let n : length q - 1 ≡ length p = omega (arith, ap length e, length-append p (v ∷ [])) in
    let top : get_or q (length q - 1) (pos 0) ≡ v = ap (λ i. get_or q i (pos 0)) n ∙ ap (λ (x : List ℤ). get_or x (length p) (pos 0)) e ∙ get_or_at p v [] (pos 0) (length p) refl in
    ap (λ (z : ℤ). chosen m r (get_or (decisions m) (length q - 1) (order 0 0)) z) top ∙ ap (λ i. chosen m r (get_or (decisions m) i (order 0 0)) v) n

pub put_chosen : (m : PlainMode) (r : ℕ) (p g q : List ℤ) (held : List Diff) (loads : Tally) (v h : ℤ) → Stands m r p g held loads
    → (low : ℤ) × (alternatives m r p ≡ span low h) × (low ≤ℤ v) × (v ≤ℤ h) → q ≡ p ++ v ∷ [] → Chosen m r q
put_chosen m r p g q held loads v h s among e = subst (Chosen m r) (sym e) (is_chosen m r (p ++ v ∷ []) (g ++ h ∷ []) (levels_put m r p g v h s.same s.levels among))
