-- A slot follows the beacon of its round, with only slots of that round between
use Rattle.std.proofs.Common.{◌≡◌, ℕ, zero, suc, ◌+◌, ◌-◌, ◌<◌, ◌≤◌, Bool, true, false, cond, List, [], ◌∷◌, ◌++◌, length, get_or, map, sym, ◌∙◌, ap, arith, ⊎_elim, length-append}
use Rattle.std.specs.Prelude.{nat_eq, slice_index_or}
use Rattle.std.specs.List.{AllByRecursion, flat_map}
use Rattle.std.proofs.lemmas.Bool.{cases_lt}
use Rattle.std.proofs.lemmas.List.{get_or_append_left, get_or-append-add, get_or-map, length-map}
use Rattle.sched_model.specs.Numbers.{below, natural}
use Rattle.sched_model.specs.PlainMode.{hyper}
use Rattle.sched_model.specs.Rounds.{round_start}
use Rattle.runtime_model.specs.Entries.{Entry, task_ends, beacon, slot, task_starts, cycle, at_tick, by_node, round_at, due_start, due_end}
use Rattle.runtime_model.specs.Plans.{Plan, place_from}
use Rattle.runtime_model.proofs.Cycles.{none, all_at, all_by_node}
use Rattle.runtime_model.proofs.Once.{right_part}

-- ---- in a list of entries each slot stands after the beacon of its round, at the same tick
abbrev pub Led : List Entry → Type 0
Led xs = (k : ℕ) → k < length xs → (j i : ℕ) → (get_or xs k none).action ≡ slot j i → (b : ℕ) × (b < k) × (get_or xs b none ≡ record { tick = (get_or xs k none).tick; action = beacon j })

led_both : (xs ys : List Entry) → Led xs → Led ys → Led (xs ++ ys)
led_both xs ys f g k l j i e =
    ⊎_elim
    (λ (left : k < length xs).
    let is = get_or_append_left xs ys none k left in
    let w = f k left j i (sym (ap (λ (z : Entry). z.action) is) ∙ e) in
    (w.0, w.1, get_or_append_left xs ys none w.0 (omega (arith, w.1, left)) ∙ w.2 ∙ ap (λ (z : Entry). record { tick = z.tick; action = beacon j }) (sym is)))
    (λ (right : length xs ≤ k).
    let is = right_part xs ys k right in
    let w = g (k - length xs) (omega (arith, l, right, length-append xs ys)) j i (sym (ap (λ (z : Entry). z.action) is) ∙ e) in
    (length xs + w.0, omega (arith, w.1, right), get_or-append-add xs ys w.0 none ∙ w.2 ∙ ap (λ (z : Entry). record { tick = z.tick; action = beacon j }) (sym is)))
    (cases_lt k (length xs))

led_flat : (f : ℕ → List Entry) (ns : List ℕ) → ((n : ℕ) → Led (f n)) → Led (flat_map f ns)
led_flat f [] h = λ k l j i e. absurd (omega (arith, l))
led_flat f (n ∷ ns) h = led_both (f n) (flat_map f ns) (h n) (led_flat f ns h)

abbrev NoSlot : Entry → Type 0
NoSlot e = (j i : ℕ) → e.action ≡ slot j i → ⊥

led_free : (xs : List Entry) → AllByRecursion NoSlot xs → Led xs
led_free xs h = λ k l j i e. absurd (all_at NoSlot xs k none h l j i e)

led_round : (p : Plan) (u r : ℕ) → Led (round_at p u r)
led_round p u r = by_test (nat_eq (natural (round_start p.schedule r)) u)
  where
    slot_of : ℕ → Entry
    slot_of number = record { tick = u; action = slot r (place_from 0 p.mode.messages number) }

    table : List ℕ
    table = slice_index_or p.schedule.tables r []

    no_beacon : (j i : ℕ) → beacon r ≡ slot j i → ⊥
    no_beacon j i e = grind (arith, e)

    same : (n j i : ℕ) → slot r n ≡ slot j i → r ≡ j
    same n j i e = grind (arith, e)

    by_test : (b : Bool) → Led (cond b (record { tick = u; action = beacon r } ∷ map slot_of table) [])
    by_test false = λ k l j i e. absurd (omega (arith, l))
    by_test true = at_place
      where
        at_place : Led (record { tick = u; action = beacon r } ∷ map slot_of table)
        at_place zero l j i e = absurd (no_beacon j i e)
        at_place (suc k) l j i e =
            let is = get_or-map slot_of table k 0 none (omega (arith, l, length-map table slot_of)) in
            let r_is = same (place_from 0 p.mode.messages (get_or table k 0)) j i (sym (ap (λ (z : Entry). z.action) is) ∙ e) in
            (0, omega arith, ap (λ (z : ℕ). record { tick = u; action = beacon z }) r_is ∙ ap (λ (z : Entry). record { tick = z.tick; action = beacon j }) (sym is))

led_tick : (nodes : ℕ) (p : Plan) (u : ℕ) → Led (at_tick nodes p u)
led_tick nodes p u =
    let ends = by_node nodes p (due_end p u) task_ends u in
    let rounds = flat_map (round_at p u) (below (length p.schedule.starts)) in
    let starts = by_node nodes p (due_start p u) task_starts u in
    led_both ends (rounds ++ starts)
    (led_free ends (all_by_node NoSlot nodes p (due_end p u) task_ends u (λ a l t j i e. no_end a j i e)))
    (led_both rounds starts (led_flat (round_at p u) (below (length p.schedule.starts)) (led_round p u))
    (led_free starts (all_by_node NoSlot nodes p (due_start p u) task_starts u (λ a l t j i e. no_start a j i e))))
  where
    no_end : (a j i : ℕ) → task_ends a ≡ slot j i → ⊥
    no_end a j i e = grind (arith, e)

    no_start : (a j i : ℕ) → task_starts a ≡ slot j i → ⊥
    no_start a j i e = grind (arith, e)

-- each slot of the cycle stands after its round's beacon
pub slot_led : (nodes : ℕ) (p : Plan) → Led (cycle nodes p)
unfolding cycle
slot_led nodes p = led_flat (at_tick nodes p) (below (hyper p.mode)) (led_tick nodes p)
