-- The constraints in force, as the list that the search keeps
use Rattle.std.proofs.Common.{◌≡◌, ℕ, zero, suc, ◌+◌, ◌-◌, ◌*◌, ◌<◌, ◌≤◌, List, [], ◌∷◌, ◌++◌, length, get_or, take, drop, map, refl, sym, ◌∙◌, ap, subst, arith, ℤ, ◌<ℤ◌, pos, append-nil, append_assoc, length-append, take-append-drop}
use Rattle.std.specs.List.{AllByRecursion}
use Rattle.std.proofs.lemmas.List.{take_all, take-take, take_more, length-take-le, get_or_append_left}
use Rattle.std.proofs.lemmas.List.Elements.{All-weaker, recursion_from_All}
use Rattle.tick_num.specs.Differences.{diff, NegativeCycle, IsCycle, named, sum_ℤ}
use Rattle.tick_num.specs.declared.differences.Diff.{Diff}
use Rattle.diff_store.specs.Storing.{Storing}
use Rattle.sched_model.specs.PlainMode.{PlainMode}
use Rattle.sched_model.specs.ConstraintProblem.{Decision, serve, order, base, decisions, chosen, chosen_all, in_force}
use Rattle.branch_search.specs.Forcing.{HasSolution, before_last, with_last, Fronts}
use Rattle.branch_search.specs.Stacks.{Follows}

two : (m : PlainMode) (r : ℕ) (d : Decision) (v : ℤ) → length (chosen m r d v) ≡ 2
two m r (serve i k) v = refl
two m r (order a b) v = refl

choices_length : (m : PlainMode) (r : ℕ) (ds : List Decision) (p : List ℤ) → length p ≤ length ds → length (chosen_all m r ds p) ≡ 2 * length p
choices_length m r [] [] l = refl
choices_length m r [] (v ∷ p) l = absurd (omega (arith, l))
choices_length m r (d ∷ ds) [] l = refl
choices_length m r (d ∷ ds) (v ∷ p) l =
    omega (arith, length-append (chosen m r d v) (chosen_all m r ds p), two m r d v, choices_length m r ds p (omega (arith, l)))

pub choices_push : (m : PlainMode) (r : ℕ) (ds : List Decision) (p : List ℤ) (v : ℤ) (o : Decision) → length p < length ds → chosen_all m r ds (p ++ v ∷ []) ≡ chosen_all m r ds p ++ chosen m r (get_or ds (length p) o) v
choices_push m r [] p v o l = absurd (omega (arith, l))
choices_push m r (d ∷ ds) [] v o l = ap (λ (z : List Diff). chosen m r d v ++ z) (none ds) ∙ append-nil (chosen m r d v)
  where
    none : (es : List Decision) → chosen_all m r es [] ≡ []
    none [] = refl
    none (e ∷ es) = refl
choices_push m r (d ∷ ds) (w ∷ p) v o l =
    ap (λ (z : List Diff). chosen m r d w ++ z) (choices_push m r ds p v o (omega (arith, l))) ∙ sym (append_assoc (chosen m r d w) (chosen_all m r ds p) (chosen m r (get_or ds (length p) o) v))

choices_front : (m : PlainMode) (r : ℕ) (ds : List Decision) (p : List ℤ) (k : ℕ) → k ≤ length p → length p ≤ length ds → (rest : List Diff) × (chosen_all m r ds p ≡ chosen_all m r ds (take k p) ++ rest)
choices_front m r [] p k l s = ([], same p)
  where
    same : (p : List ℤ) → chosen_all m r [] p ≡ []
    same p = refl
choices_front m r (d ∷ ds) p zero l s = (chosen_all m r (d ∷ ds) p, refl)
choices_front m r (d ∷ ds) [] (suc k) l s = absurd (omega (arith, l))
choices_front m r (d ∷ ds) (v ∷ p) (suc k) l s =
    let w = choices_front m r ds p k (omega (arith, l)) (omega (arith, s)) in
    (w.0, ap (λ (z : List Diff). chosen m r d v ++ z) w.1 ∙ sym (append_assoc (chosen m r d v) (chosen_all m r ds (take k p)) w.0))

module _ (m : PlainMode) (r : ℕ) where
  abbrev D : ℕ
  D = length (decisions m)

  pub force_length : (p : List ℤ) → length p ≤ length (decisions m) → length (in_force m r p) ≡ length (base m r) + 2 * length p
  force_length p l = length-append (base m r) (chosen_all m r (decisions m) p) ∙ ap (λ n. length (base m r) + n) (choices_length m r (decisions m) p l)

  -- the constraints in force after a front of the choices come first
  force_front : (p : List ℤ) (k : ℕ) → k ≤ length p → length p ≤ length (decisions m) → (rest : List Diff) × (in_force m r p ≡ in_force m r (take k p) ++ rest)
  force_front p k l s =
      let w = choices_front m r (decisions m) p k l s in
      (w.0, ap (λ (z : List Diff). base m r ++ z) w.1 ∙ sym (append_assoc (base m r) (chosen_all m r (decisions m) (take k p)) w.0))

  -- with the last choice
  force_last : (p : List ℤ) (o : Decision) → 0 < length p → length p ≤ length (decisions m) →
      in_force m r p ≡ in_force m r (take (length p - 1) p) ++ chosen m r (get_or (decisions m) (length p - 1) o) (get_or p (length p - 1) (pos 0))
  force_last p o some s =
      let k = length p - 1 in
      let front = take k p in
      let v = get_or p k (pos 0) in
      let len : length front ≡ k = length-take-le k p (omega arith) in
      let split : p ≡ front ++ v ∷ [] = sym (take_all (k + 1) p (omega (arith, some))) ∙ take_more p k (pos 0) (omega (arith, some)) in
      ap (in_force m r) split
      ∙ ap (λ (z : List Diff). base m r ++ z) (choices_push m r (decisions m) front v o (omega (arith, len, some, s)) ∙ ap (λ n. chosen_all m r (decisions m) front ++ chosen m r (get_or (decisions m) n o) v) len)
      ∙ sym (append_assoc (base m r) (chosen_all m r (decisions m) front) (chosen m r (get_or (decisions m) k o) v))

  base_alone : in_force m r [] ≡ base m r
  base_alone = none (decisions m)
    where
      none : (es : List Decision) → base m r ++ chosen_all m r es [] ≡ base m r
      none [] = append-nil (base m r)
      none (e ∷ es) = append-nil (base m r)

  -- ---- before the last choice, and with it
  pub whole_force : (p : List ℤ) → length p ≤ length (decisions m) → in_force m r p ≡ before_last m r p ++ with_last m r p
  whole_force [] s = base_alone
  whole_force (v ∷ p) s = force_last (v ∷ p) (order 0 0) (omega arith) s

  pub with_is : (p : List ℤ) → 0 < length p → chosen m r (get_or (decisions m) (length p - 1) (order 0 0)) (get_or p (length p - 1) (pos 0)) ≡ with_last m r p
  with_is [] some = absurd (omega (arith, some))
  with_is (v ∷ p) some = refl

  pub before_length : (p : List ℤ) → length p ≤ length (decisions m) → 0 < length p → length (before_last m r p) ≡ length (base m r) + 2 * (length p - 1)
  before_length [] s some = absurd (omega (arith, some))
  before_length (v ∷ p) s some = let q = take (length (v ∷ p) - 1) (v ∷ p) in let len = length-take-le (length (v ∷ p) - 1) (v ∷ p) (omega arith) in omega (arith, len, force_length q (omega (arith, len, s)))

  -- what is pushed has room
  pub with_room : (p : List ℤ) → length p ≤ length (decisions m) → length (before_last m r p) + length (with_last m r p) ≤ length (base m r) + 2 * length (decisions m)
  with_room p s = omega (arith, s, ap (λ (l : List Diff). length l) (whole_force p s), length-append (before_last m r p) (with_last m r p), force_length p s)

  -- ---- what the list begins with at the next prefix
  fronts_at : (p q : List ℤ) (list : List Diff) → (more : List Diff) × (list ≡ in_force m r p ++ more) → length p ≤ length (decisions m) → length q - 1 ≤ length p → take (length q - 1) q ≡ take (length q - 1) p → Fronts m r q list
  fronts_at p [] list h s l e = (list, refl)
  fronts_at p (v ∷ q) list (more, is) s l e =
      let w = force_front p (length (v ∷ q) - 1) l s in
      (w.0 ++ more, is ∙ ap (λ (z : List Diff). z ++ more) (w.1 ∙ ap (λ (z : List ℤ). in_force m r z ++ w.0) (sym e)) ∙ append_assoc (before_last m r (v ∷ q)) w.0 more)

  pub fronts_open : (p q : List ℤ) (list : List Diff) → list ≡ in_force m r p → length p ≤ length (decisions m) → Follows p q → Fronts m r q list
  fronts_open p q list e s f = fronts_at p q list ([], e ∙ sym (append-nil (in_force m r p))) s f.0 f.1

  pub fronts_leaf : (p q : List ℤ) (list : List Diff) → Fronts m r p list → length p ≤ length (decisions m) → Follows p q → length q ≤ length p → Fronts m r q list
  fronts_leaf [] [] list h s f l = (list, refl)
  fronts_leaf [] (v ∷ q) list h s f l = absurd (omega (arith, l))
  fronts_leaf (u ∷ p) q list h s f l =
      let n = length (u ∷ p) - 1 in
      let front = take n (u ∷ p) in
      let len = length-take-le n (u ∷ p) (omega arith) in
      fronts_at front q list h (omega (arith, len, s)) (omega (arith, len, l)) (f.1 ∙ sym (take-take (length q - 1) n (u ∷ p) (omega (arith, l))))

-- ---- a cycle of the first constraints is one of all
named_longer : (ds more : List Diff) (refs : List ℕ) → AllByRecursion (λ i. i < length ds) refs → named (ds ++ more) refs ≡ named ds refs
named_longer ds more [] w = refl
named_longer ds more (i ∷ refs) w =
    ap (λ (d : Diff). d ∷ named (ds ++ more) refs) (get_or_append_left ds more (diff 0 0 (pos 0)) i w.0)
    ∙ ap (λ (l : List Diff). get_or ds i (diff 0 0 (pos 0)) ∷ l) (named_longer ds more refs w.1)

pub cycle_longer : (ds more : List Diff) (refs : List ℕ) → NegativeCycle ds refs → NegativeCycle (ds ++ more) refs
cycle_longer ds more refs h =
    let same = sym (named_longer ds more refs (recursion_from_All (λ i. i < length ds) refs h.within)) in
    record {
      within = All-weaker (λ i. i < length ds) (λ i. i < length (ds ++ more)) (λ i l. omega (arith, l, length-append ds more)) refs h.within;
      closed = subst IsCycle same h.closed;
      negative = subst (λ (es : List Diff). sum_ℤ (map (λ d. d.c) es) <ℤ pos 0) same h.negative;
    }

-- all that is pushed, in front of what is not
pub cycle_forced : (whole before all list : List Diff) (k : ℕ) (refs : List ℕ) → whole ≡ before ++ all → list ≡ before ++ take k all → NegativeCycle list refs → NegativeCycle whole refs
cycle_forced whole before all list k refs e is c =
    subst (λ (ds : List Diff). NegativeCycle ds refs) (append_assoc before (take k all) (drop k all) ∙ ap (λ (l : List Diff). before ++ l) (take-append-drop k all) ∙ sym e)
    (cycle_longer (before ++ take k all) (drop k all) refs (subst (λ (ds : List Diff). NegativeCycle ds refs) is c))

-- ---- pops and pushes under way
pub record PoppedTo (len : ℕ) (old now : Storing) : Type 0 where
  pub enough : len ≤ length now.list
  pub list : now.list ≡ take (length now.list) old.list
  pub variables : now.variables ≡ old.variables
  pub constraints : now.constraints ≡ old.constraints

pub record PushedSome (some : List Diff) (old now : Storing) : Type 0 where
  pub list : now.list ≡ old.list ++ some
  pub solvable : HasSolution now.list
  pub variables : now.variables ≡ old.variables
  pub constraints : now.constraints ≡ old.constraints

pub pushed_more : (added old now new : List Diff) (k : ℕ) → k < length added → now ≡ old ++ take k added → new ≡ now ++ get_or added k (diff 0 0 (pos 0)) ∷ [] → new ≡ old ++ take (k + 1) added
pushed_more added old now new k l e is =
    let d = get_or added k (diff 0 0 (pos 0)) in
    is ∙ ap (λ (ds : List Diff). ds ++ d ∷ []) e ∙ append_assoc old (take k added) (d ∷ []) ∙ ap (λ (ds : List Diff). old ++ ds) (sym (take_more added k (diff 0 0 (pos 0)) l))
