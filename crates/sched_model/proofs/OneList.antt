-- A schedule has one list of choices
use Rattle.std.proofs.Common.{◌≡◌, ℕ, suc, ◌+◌, ◌-◌, ◌*◌, ◌%◌, ◌<◌, Bool, true, false, eqb, List, [], length, get_or, refl, sym, ◌∙◌, ap, subst, arith, ⊎_elim, ℤ, pos, negsuc, ◌≤ℤ◌}
use Rattle.std.specs.List.{AllByRecursion}
use Rattle.std.proofs.lemmas.Int.{ints}
use Rattle.std.proofs.lemmas.Bool.{eq-eqb, eqb-true}
use Rattle.std.proofs.lemmas.Nat.{mod_below, mod-mul-add}
use Rattle.std.proofs.lemmas.List.{ext_get_or}
use Rattle.std.proofs.lemmas.List.Elements.{recursion_from_All}
use Rattle.sched_model.specs.declared.schedule.Schedule.{Schedule}
use Rattle.sched_model.specs.PlainMode.{PlainMode, hyper, task_at, message_at, copy_count}
use Rattle.sched_model.specs.Numbers.{has, natural}
use Rattle.sched_model.specs.ConstraintProblem.{Decision, order, decisions, place, choice, chosen, base, in_force, task_var}
use Rattle.sched_model.specs.RightSchedule.{IsSchedule}
use Rattle.tick_num.specs.Differences.{Meets}
use Rattle.sched_model.specs.PrintedSchedule.{names}
use Rattle.sched_model.specs.ValidMode.{IsValid}
use Rattle.sched_model.specs.ScheduleList.{values_of, HasList}
use Rattle.sched_model.proofs.Lists.{all_right}
use Rattle.sched_model.proofs.Tests.{passes_below, passed_below}
use Rattle.sched_model.proofs.Places.{chosen_met}
use Rattle.sched_model.proofs.Counts.{one_at_least}
use Rattle.sched_model.proofs.Values.{reads_of}
use Rattle.sched_model.proofs.Services.{choices_of}
use Rattle.sched_model.proofs.Pairs.{order_fits, same_place}
use Rattle.sched_model.proofs.Backward.{sorted_out, Good, good_at, made, full, all_among, all_met, choice_is, servers, row_at}
use Rattle.sched_model.proofs.Given.{Row}

same_number : (z : ℤ) (n : ℕ) → pos 1 ≤ℤ z → natural z ≡ n → z ≡ pos n
same_number (pos k) n h e = ap pos e
same_number (negsuc k) n h e = absurd (omega (arith, ints))

module _ (m : PlainMode) (r : ℕ) (s : Schedule) (ok : IsValid m) (is : IsSchedule m r s) where
  served_by : (p : List ℤ) → HasList m r s p → (i x : ℕ) → i < length m.messages → x < copy_count m (message_at m i) → get_or p (place m i x) (pos 0) ≡ pos (servers m r s ok is i x)
  served_by p w i x l h =
      let met = all_right (Meets (values_of m r s)) (base m r) _ (recursion_from_All (Meets (values_of m r s)) (in_force m r p) w.met) in
      let made = choices_of m r s (values_of m r s) p is.shape.some (reads_of m r s is.shape.starts) w.full w.chosen met i l in
      let n = (message_at m i).number in
      let count = copy_count m (message_at m i) in
      let one = one_at_least m r p w.full w.chosen i x l h in
      same_number (get_or p (place m i x) (pos 0)) (servers m r s ok is i x) one
      ((row_at m r s ok is i l).only (choice m p i) made
      (λ g some named.
      let j = (g - 1) % r in
      let at : (g - 1) % r ≡ (choice m p i named.0 - 1) % r = sym (ap (λ y. (g - 1) % y) is.shape.starts) ∙ named.2 ∙ ap (λ y. (choice m p i named.0 - 1) % y) is.shape.starts in
      let said : names m r p j i ≡ true = passes_below (λ y. eqb ((choice m p i y - 1) % r) j) count named.0 named.1 (eq-eqb ((choice m p i named.0 - 1) % r) j (sym at)) in
      ap (λ y. has (get_or s.tables ((g - 1) % y) []) n) is.shape.starts ∙ w.tables i j l (mod_below (g - 1) r is.shape.some) ∙ said)
      x h)

  in_range : (x c d : ℕ) → x < length (decisions m) → get_or (decisions m) x (order 0 0) ≡ order c d → (c < length m.tasks) × (d < length m.tasks)
  unfolding Good
  in_range x c d l e = let g = subst (λ (y : Decision). Good m s (servers m r s ok is) y (get_or (made m r s ok is).0 x (pos 0))) e (good_at m r s ok is x l) in (g.0, g.1)

  pub one_list : (p q : List ℤ) → HasList m r s p → HasList m r s q → p ≡ q
  one_list p q a b = ext_get_or (pos 0) p q (a.full ∙ sym b.full) (λ x l.
      ⊎_elim
      (λ (w : (i k : ℕ) × (i < length m.messages) × (k < copy_count m (message_at m i)) × (x ≡ place m i k)).
      subst (λ y. get_or p y (pos 0) ≡ get_or q y (pos 0)) (sym w.4) (served_by p a w.0 w.1 w.2 w.3 ∙ sym (served_by q b w.0 w.1 w.2 w.3)))
      (λ (w : (c d : ℕ) × (get_or (decisions m) x (order 0 0) ≡ order c d)). same_order x w.0 w.1 (omega (arith, l, a.full)) w.2)
      (sorted_out m x (omega (arith, l, a.full))))
    where
      at : (p : List ℤ) (w : HasList m r s p) (x c d : ℕ) → x < length (decisions m) → get_or (decisions m) x (order 0 0) ≡ order c d → AllByRecursion (Meets (values_of m r s)) (chosen m r (order c d) (get_or p x (pos 0)))
      at p w x c d l e =
          let met = all_right (Meets (values_of m r s)) (base m r) _ (recursion_from_All (Meets (values_of m r s)) (in_force m r p) w.met) in
          subst (λ (y : Decision). AllByRecursion (Meets (values_of m r s)) (chosen m r y (get_or p x (pos 0)))) e (chosen_met m r (values_of m r s) (decisions m) p met x l (omega (arith, l, w.full)))

      same_order : (x c d : ℕ) → x < length (decisions m) → get_or (decisions m) x (order 0 0) ≡ order c d → get_or p x (pos 0) ≡ get_or q x (pos 0)
      same_order x c d l e =
          let u = order_fits m r (values_of m r s) c d (get_or p x (pos 0)) (at p a x c d l e) in
          let v = order_fits m r (values_of m r s) c d (get_or q x (pos 0)) (at q b x c d l e) in
          let w = in_range x c d l e in
          same_place (task_at m c) (task_at m d) (values_of m r s (task_var r c)) (values_of m r s (task_var r d)) (get_or p x (pos 0)) (get_or q x (pos 0)) (ok.wcet c w.0).0 (ok.wcet d w.1).0 u v

  -- and it has one
  list_named : (i j : ℕ) → i < length m.messages → j < r → has (get_or s.tables j []) (message_at m i).number ≡ names m r (made m r s ok is).0 j i
  list_named i j l lj =
      let p = (made m r s ok is).0 in
      let n = (message_at m i).number in
      let f = servers m r s ok is i in
      let row = row_at m r s ok is i l in
      let h = has (get_or s.tables j []) n in
      let t = names m r p j i in
      let copy_of = λ (x : ℕ). eqb ((choice m p i x - 1) % r) j in
      let count = copy_count m (message_at m i) in
      either h t
      (λ e.
      let low : (suc j - 1) % r ≡ j = ap (λ x. x % r) (let z : suc j - 1 ≡ j = omega arith in z) ∙ mod-small j r lj in
      let c : has (get_or s.tables ((suc j - 1) % length s.starts) []) n ≡ true = ap (λ x. has (get_or s.tables ((suc j - 1) % x) []) n) is.shape.starts ∙ ap (λ x. has (get_or s.tables x []) n) low ∙ e in
      let w = row.names (suc j) (omega arith) c in
      let z = ap natural (choice_is m r s ok is i w.0 l w.1) in
      passes_below copy_of count w.0 w.1 (eq-eqb ((choice m p i w.0 - 1) % r) j (ap (λ x. (x - 1) % r) z ∙ sym (ap (λ x. (f w.0 - 1) % x) is.shape.starts) ∙ sym w.2 ∙ ap (λ x. (suc j - 1) % x) is.shape.starts ∙ low)))
      (λ e.
      let w = passed_below copy_of count e in
      let z = ap natural (choice_is m r s ok is i w.0 l w.1) in
      let at = ap (λ x. (f w.0 - 1) % x) is.shape.starts ∙ sym (ap (λ x. (x - 1) % r) z) ∙ eqb-true ((choice m p i w.0 - 1) % r) j w.2 in
      sym (ap (λ x. has (get_or s.tables x []) n) at) ∙ row.listed w.0)
    where
      either : (a b : Bool) → (a ≡ true → b ≡ true) → (b ≡ true → a ≡ true) → a ≡ b
      either true b f g = sym (f refl)
      either false true f g = g refl
      either false false f g = refl

      mod-small : (x y : ℕ) → x < y → x % y ≡ x
      mod-small x y h = let e = mod-mul-add 0 y x h in ap (λ z. z % y) (let z : x ≡ 0 * y + x = omega arith in z) ∙ e

  pub has_list : HasList m r s (made m r s ok is).0
  has_list = record { full = full m r s ok is; chosen = all_among m r s ok is; met = all_met m r s ok is; tables = list_named }
