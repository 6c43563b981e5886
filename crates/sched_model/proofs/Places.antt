-- Where the decisions on a message stand
use Rattle.std.proofs.Common.{◌≡◌, ℕ, zero, suc, ◌<◌, List, [], ◌∷◌, length, get_or, ◌∙◌, subst, arith, ℤ, pos, length-append}
use Rattle.std.specs.List.{AllByRecursion, flat_map}
use Rattle.std.proofs.lemmas.List.{get_or_append_left, length-map}
use Rattle.sched_model.specs.PlainMode.{PlainMode, message_at, copy_count}
use Rattle.sched_model.specs.Numbers.{below}
use Rattle.sched_model.specs.ConstraintProblem.{Decision, serve, order, serves, orders, decisions, place, chosen, chosen_all}
use Rattle.tick_num.specs.Differences.{Meets}
use Rattle.sched_model.proofs.Lists.{all_left, all_right, length-below, get_or-map_below, get_or-flat_below, part_fits}

pub length-serves : (m : PlainMode) (i : ℕ) → length (serves m i) ≡ copy_count m (message_at m i)
length-serves m i = length-map (below (copy_count m (message_at m i))) (serve i) ∙ length-below (copy_count m (message_at m i))

pub place_fits : (m : PlainMode) (i k : ℕ) → i < length m.messages → k < copy_count m (message_at m i) → place m i k < length (decisions m)
unfolding decisions
place_fits m i k l h =
    let e = part_fits (serves m) (length m.messages) i l in
    let n = length-serves m i in
    let s = length-append (flat_map (serves m) (below (length m.messages))) (flat_map (orders m) (below (length m.tasks))) in
    omega (arith, e, n, s)

pub decision_at : (m : PlainMode) (i k : ℕ) (d : Decision) → i < length m.messages → k < copy_count m (message_at m i) → get_or (decisions m) (place m i k) d ≡ serve i k
unfolding decisions
decision_at m i k d l h =
    let e = part_fits (serves m) (length m.messages) i l in
    let n = length-serves m i in
    get_or_append_left (flat_map (serves m) (below (length m.messages))) (flat_map (orders m) (below (length m.tasks))) d (place m i k) (omega (arith, e, n))
    ∙ get_or-flat_below (serves m) (length m.messages) i k d l (omega (arith, n))
    ∙ get_or-map_below (serve i) (copy_count m (message_at m i)) k d h

-- the constraints of each choice are met
pub chosen_met : (m : PlainMode) (r : ℕ) (v : ℕ → ℤ) (ds : List Decision) (p : List ℤ) → AllByRecursion (Meets v) (chosen_all m r ds p) → (x : ℕ) → x < length ds → x < length p →
    AllByRecursion (Meets v) (chosen m r (get_or ds x (order 0 0)) (get_or p x (pos 0)))
chosen_met m r v [] p h x l k = absurd (omega arith)
chosen_met m r v (d ∷ ds) [] h x l k = absurd (omega arith)
chosen_met m r v (d ∷ ds) (a ∷ p) h zero l k = all_left (Meets v) (chosen m r d a) _ h
chosen_met m r v (d ∷ ds) (a ∷ p) h (suc x) l k = chosen_met m r v ds p (all_right (Meets v) (chosen m r d a) _ h) x (omega arith) (omega arith)

pub serve_met : (m : PlainMode) (r : ℕ) (v : ℕ → ℤ) (p : List ℤ) → length p ≡ length (decisions m) → AllByRecursion (Meets v) (chosen_all m r (decisions m) p) →
    (i k : ℕ) → i < length m.messages → k < copy_count m (message_at m i) → AllByRecursion (Meets v) (chosen m r (serve i k) (get_or p (place m i k) (pos 0)))
serve_met m r v p full h i k l j =
    let fits = place_fits m i k l j in
    subst (λ (d : Decision). AllByRecursion (Meets v) (chosen m r d (get_or p (place m i k) (pos 0)))) (decision_at m i k (order 0 0) l j)
    (chosen_met m r v (decisions m) p h (place m i k) fits (omega (arith, fits, full)))
