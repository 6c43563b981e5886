-- Each start, each end, each beacon and each slot stands once in its cycle
use Rattle.std.proofs.Common.{◌≡◌, ℕ, zero, suc, ◌+◌, ◌-◌, ◌<◌, ◌≤◌, Bool, true, false, cond, ◌&&◌, List, [], ◌∷◌, ◌++◌, length, get_or, map, not, refl, sym, ◌∙◌, ap, subst, arith, ⊎_elim, length-append}
use Rattle.std.specs.Prelude.{nat_eq, slice_index_or}
use Rattle.std.specs.List.{AllByRecursion, flat_map}
use Rattle.std.proofs.lemmas.Bool.{cases_lt, eqb-true, and_parts}
use Rattle.std.proofs.lemmas.List.{get_or_append_left, get_or-append-add, get_or_default, get_or-map, length-map}
use Rattle.std.proofs.lemmas.List.Elements.{All-get_or}
use Rattle.sched_model.specs.Numbers.{below, natural, has, distinct}
use Rattle.sched_model.specs.Rounds.{round_start}
use Rattle.sched_model.specs.PlainMode.{hyper, task_at, message_at}
use Rattle.sched_model.specs.RightSchedule.{TableFits}
use Rattle.runtime_model.specs.Entries.{Entry, Action, task_ends, beacon, slot, task_starts, cycle, at_tick, by_node, round_at, due_start, due_end}
use Rattle.runtime_model.specs.Plans.{Plan, RightPlan, place_from}
use Rattle.sched_model.proofs.Graph.{contains_has}
use Rattle.sched_model.proofs.Lists.{all_both, flat_all, below_all, cond_all}
use Rattle.runtime_model.proofs.Cycles.{all_map, none, all_at, all_more, all_by_node, At, at_right, RightIn, ends_right, rounds_right, starts_right, rank, flat_below-suc}
use Rattle.runtime_model.proofs.Times.{number_is}

abbrev pub Once : List Entry → Entry → Type 0
Once xs x = (i j : ℕ) → i < length xs → j < length xs → get_or xs i none ≡ x → get_or xs j none ≡ x → i ≡ j

abbrev Free : List Entry → Entry → Type 0
Free xs x = AllByRecursion (λ e. e ≡ x → ⊥) xs

pub right_part : (xs ys : List Entry) (i : ℕ) → length xs ≤ i → get_or (xs ++ ys) i none ≡ get_or ys (i - length xs) none
right_part xs ys i l = ap (λ z. get_or (xs ++ ys) z none) (let e : i ≡ length xs + (i - length xs) = omega (arith, l) in e) ∙ get_or-append-add xs ys (i - length xs) none

inside : (xs ys : List Entry) (x : Entry) → Free ys x → (k : ℕ) → k < length (xs ++ ys) → get_or (xs ++ ys) k none ≡ x → k < length xs
inside xs ys x f k lk ek = ⊎_elim
    (λ (l : k < length xs). l)
    (λ (l : length xs ≤ k). absurd (all_at (λ e. e ≡ x → ⊥) ys (k - length xs) none f (omega (arith, lk, length-append xs ys, l)) (sym (right_part xs ys k l) ∙ ek)))
    (cases_lt k (length xs))

outside : (xs ys : List Entry) (x : Entry) → Free xs x → (k : ℕ) → k < length (xs ++ ys) → get_or (xs ++ ys) k none ≡ x → length xs ≤ k
outside xs ys x f k lk ek = ⊎_elim
    (λ (l : k < length xs). absurd (all_at (λ e. e ≡ x → ⊥) xs k none f l (sym (get_or_append_left xs ys none k l) ∙ ek)))
    (λ (l : length xs ≤ k). l)
    (cases_lt k (length xs))

once_left : (xs ys : List Entry) (x : Entry) → Once xs x → Free ys x → Once (xs ++ ys) x
once_left xs ys x o f i j li lj ei ej =
    let a = inside xs ys x f i li ei in
    let b = inside xs ys x f j lj ej in
    o i j a b (sym (get_or_append_left xs ys none i a) ∙ ei) (sym (get_or_append_left xs ys none j b) ∙ ej)

once_right : (xs ys : List Entry) (x : Entry) → Free xs x → Once ys x → Once (xs ++ ys) x
once_right xs ys x f o i j li lj ei ej =
    let a = outside xs ys x f i li ei in
    let b = outside xs ys x f j lj ej in
    let e = o (i - length xs) (j - length xs) (omega (arith, li, length-append xs ys, a)) (omega (arith, lj, length-append xs ys, b)) (sym (right_part xs ys i a) ∙ ei) (sym (right_part xs ys j b) ∙ ej) in
    omega (arith, e, a, b)

once_flat : (f : ℕ → List Entry) (x : Entry) (k : ℕ) → ((i : ℕ) → (i ≡ k → ⊥) → Free (f i) x) → Once (f k) x → (n : ℕ) → Once (flat_map f (below n)) x
once_flat f x k free once zero = λ i j li lj ei ej. absurd (omega (arith, li))
once_flat f x k free once (suc n) = subst (λ xs. Once xs x) (sym (flat_below-suc f n))
    (⊎_elim
    (λ (l : n < k). once_left (flat_map f (below n)) (f n) x (once_flat f x k free once n) (free n (λ e. omega (arith, e, l))))
    (λ (l : k ≤ n). ⊎_elim
    (λ (g : k < n). once_left (flat_map f (below n)) (f n) x (once_flat f x k free once n) (free n (λ e. omega (arith, e, g))))
    (λ (g : n ≤ k). let same : k ≡ n = omega (arith, l, g) in
    once_right (flat_map f (below n)) (f n) x
    (flat_all (λ e. e ≡ x → ⊥) f (below n) (below_all (λ i. Free (f i) x) n (λ i h. free i (λ e. omega (arith, e, same, h)))))
    (subst (λ z. Once (f z) x) same once))
    (cases_lt k n))
    (cases_lt n k))

once_cond : (b : Bool) (x e : Entry) → Once (cond b (e ∷ []) []) x
once_cond true x e i j li lj ei ej = omega (arith, li, lj)
once_cond false x e i j li lj ei ej = absurd (omega (arith, li))

start_of : Action → ℕ
start_of (task_starts a) = suc a
start_of w = 0

pub start_once : (nodes : ℕ) (p : Plan) (u a : ℕ) → Once (cycle nodes p) (record { tick = u; action = task_starts a })
unfolding cycle
start_once nodes p u a =
    let x : Entry = record { tick = u; action = task_starts a } in
    let es = by_node nodes p (due_end p u) task_ends u in
    let rs = flat_map (round_at p u) (below (length p.schedule.starts)) in
    let one = λ (v : ℕ) (c : ℕ). cond (nat_eq (task_at p.mode c).node v && due_start p u c) (record { tick = u; action = task_starts c } ∷ []) [] in
    once_flat (at_tick nodes p) x u
    (λ t other. all_more (At p t) (λ e. e ≡ x → ⊥) (at_tick nodes p t) (λ e h q. other (sym h.0 ∙ ap (λ (z : Entry). z.tick) q)) (at_right nodes p t))
    (once_right es (rs ++ by_node nodes p (due_start p u) task_starts u) x
    (all_more (RightIn p u 0) (λ e. e ≡ x → ⊥) es (λ e h q. omega (arith, h.2, ap (λ (z : Entry). rank z.action) q)) (ends_right nodes p u))
    (once_right rs (by_node nodes p (due_start p u) task_starts u) x
    (all_more (RightIn p u 1) (λ e. e ≡ x → ⊥) rs (λ e h q. omega (arith, h.2, ap (λ (z : Entry). rank z.action) q)) (rounds_right p u))
    (once_flat (λ v. flat_map (one v) (below (length p.mode.tasks))) x (task_at p.mode a).node
    (λ v other. flat_all (λ e. e ≡ x → ⊥) (one v) (below (length p.mode.tasks)) (below_all (λ c. Free (one v c) x) (length p.mode.tasks)
    (λ c l. cond_all (λ e. e ≡ x → ⊥) (nat_eq (task_at p.mode c).node v && due_start p u c) (record { tick = u; action = task_starts c } ∷ [])
    (λ t. ((λ q. other (sym (eqb-true (task_at p.mode c).node v (and_parts (nat_eq (task_at p.mode c).node v) (due_start p u c) t).0) ∙ ap (λ z. (task_at p.mode z).node) (same c a (ap (λ (z : Entry). z.action) q)))), tt)))))
    (once_flat (one (task_at p.mode a).node) x a
    (λ c other. cond_all (λ e. e ≡ x → ⊥) (nat_eq (task_at p.mode c).node (task_at p.mode a).node && due_start p u c) (record { tick = u; action = task_starts c } ∷ []) (λ t. ((λ q. other (same c a (ap (λ (z : Entry). z.action) q))), tt)))
    (once_cond (nat_eq (task_at p.mode a).node (task_at p.mode a).node && due_start p u a) x x) (length p.mode.tasks))
    nodes)))
    (hyper p.mode)
  where
    same : (c d : ℕ) → task_starts c ≡ task_starts d → c ≡ d
    same c d q = grind (arith, q)

-- ---- ends
pub end_once : (nodes : ℕ) (p : Plan) (u a : ℕ) → Once (cycle nodes p) (record { tick = u; action = task_ends a })
unfolding cycle
end_once nodes p u a =
    let x : Entry = record { tick = u; action = task_ends a } in
    let rs = flat_map (round_at p u) (below (length p.schedule.starts)) in
    let ss = by_node nodes p (due_start p u) task_starts u in
    let one = λ (v : ℕ) (c : ℕ). cond (nat_eq (task_at p.mode c).node v && due_end p u c) (record { tick = u; action = task_ends c } ∷ []) [] in
    once_flat (at_tick nodes p) x u
    (λ t other. all_more (At p t) (λ e. e ≡ x → ⊥) (at_tick nodes p t) (λ e h q. other (sym h.0 ∙ ap (λ (z : Entry). z.tick) q)) (at_right nodes p t))
    (once_left (by_node nodes p (due_end p u) task_ends u) (rs ++ ss) x
    (once_flat (λ v. flat_map (one v) (below (length p.mode.tasks))) x (task_at p.mode a).node
    (λ v other. flat_all (λ e. e ≡ x → ⊥) (one v) (below (length p.mode.tasks)) (below_all (λ c. Free (one v c) x) (length p.mode.tasks)
    (λ c l. cond_all (λ e. e ≡ x → ⊥) (nat_eq (task_at p.mode c).node v && due_end p u c) (record { tick = u; action = task_ends c } ∷ [])
    (λ t. ((λ q. other (sym (eqb-true (task_at p.mode c).node v (and_parts (nat_eq (task_at p.mode c).node v) (due_end p u c) t).0) ∙ ap (λ z. (task_at p.mode z).node) (same c a (ap (λ (z : Entry). z.action) q)))), tt)))))
    (once_flat (one (task_at p.mode a).node) x a
    (λ c other. cond_all (λ e. e ≡ x → ⊥) (nat_eq (task_at p.mode c).node (task_at p.mode a).node && due_end p u c) (record { tick = u; action = task_ends c } ∷ []) (λ t. ((λ q. other (same c a (ap (λ (z : Entry). z.action) q))), tt)))
    (once_cond (nat_eq (task_at p.mode a).node (task_at p.mode a).node && due_end p u a) x x) (length p.mode.tasks))
    nodes)
    (all_both (λ e. e ≡ x → ⊥) rs ss
    (all_more (RightIn p u 1) (λ e. e ≡ x → ⊥) rs (λ e h q. omega (arith, h.2, ap (λ (z : Entry). rank z.action) q)) (rounds_right p u))
    (all_more (RightIn p u 2) (λ e. e ≡ x → ⊥) ss (λ e h q. omega (arith, h.2, ap (λ (z : Entry). rank z.action) q)) (starts_right nodes p u))))
    (hyper p.mode)
  where
    same : (c d : ℕ) → task_ends c ≡ task_ends d → c ≡ d
    same c d q = grind (arith, q)

-- ---- beacons
once_head : (xs : List Entry) (x : Entry) → Free xs x → Once (x ∷ xs) x
once_head xs x f zero zero li lj ei ej = refl
once_head xs x f zero (suc j) li lj ei ej = absurd (all_at (λ e. e ≡ x → ⊥) xs j none f (omega (arith, lj)) ej)
once_head xs x f (suc i) j li lj ei ej = absurd (all_at (λ e. e ≡ x → ⊥) xs i none f (omega (arith, li)) ei)

once_when : (b : Bool) (xs : List Entry) (x : Entry) → Once xs x → Once (cond b xs []) x
once_when true xs x o = o
once_when false xs x o = λ i j li lj ei ej. absurd (omega (arith, li))

pub beacon_once : (nodes : ℕ) (p : Plan) (u j : ℕ) → Once (cycle nodes p) (record { tick = u; action = beacon j })
unfolding cycle
beacon_once nodes p u j =
    let x : Entry = record { tick = u; action = beacon j } in
    let es = by_node nodes p (due_end p u) task_ends u in
    let ss = by_node nodes p (due_start p u) task_starts u in
    let rs = flat_map (round_at p u) (below (length p.schedule.starts)) in
    let slot_of = λ (i number : ℕ). let e : Entry = record { tick = u; action = slot i (place_from 0 p.mode.messages number) } in e in
    let free_slots = λ (i : ℕ). all_map (λ e. e ≡ x → ⊥) (slot_of i) (slice_index_or p.schedule.tables i []) (λ number c q. no_slot i (place_from 0 p.mode.messages number) (ap (λ (z : Entry). z.action) q)) in
    once_flat (at_tick nodes p) x u
    (λ t other. all_more (At p t) (λ e. e ≡ x → ⊥) (at_tick nodes p t) (λ e h q. other (sym h.0 ∙ ap (λ (z : Entry). z.tick) q)) (at_right nodes p t))
    (once_right es (rs ++ ss) x
    (all_more (RightIn p u 0) (λ e. e ≡ x → ⊥) es (λ e h q. omega (arith, h.2, ap (λ (z : Entry). rank z.action) q)) (ends_right nodes p u))
    (once_left rs ss x
    (once_flat (round_at p u) x j
    (λ i other. cond_all (λ e. e ≡ x → ⊥) (nat_eq (natural (round_start p.schedule i)) u) (record { tick = u; action = beacon i } ∷ map (slot_of i) (slice_index_or p.schedule.tables i []))
    (λ t. ((λ q. other (same i j (ap (λ (z : Entry). z.action) q))), free_slots i)))
    (once_when (nat_eq (natural (round_start p.schedule j)) u) (x ∷ map (slot_of j) (slice_index_or p.schedule.tables j [])) x (once_head (map (slot_of j) (slice_index_or p.schedule.tables j [])) x (free_slots j)))
    (length p.schedule.starts))
    (all_more (RightIn p u 2) (λ e. e ≡ x → ⊥) ss (λ e h q. omega (arith, h.2, ap (λ (z : Entry). rank z.action) q)) (all_by_node (RightIn p u 2) nodes p (due_start p u) task_starts u (λ a l t. (refl, (l, t), refl))))))
    (hyper p.mode)
  where
    same : (c d : ℕ) → beacon c ≡ beacon d → c ≡ d
    same c d q = grind (arith, q)

    no_slot : (i m : ℕ) → slot i m ≡ beacon j → ⊥
    no_slot i m q = grind (arith, q)

-- ---- slots
once_tail : (xs : List Entry) (y x : Entry) → (y ≡ x → ⊥) → Once xs x → Once (y ∷ xs) x
once_tail xs y x other o zero k li lk ei ek = absurd (other ei)
once_tail xs y x other o (suc i) zero li lk ei ek = absurd (other ek)
once_tail xs y x other o (suc i) (suc k) li lk ei ek = omega (arith, o i k (omega (arith, li)) (omega (arith, lk)) ei ek)

not_again : (b : Bool) → b ≡ true → not b ≡ true → ⊥
not_again true e h = absurd cc
not_again false e h = absurd cc

-- a number of a table without repeats has one place
one_place : (xs : List ℕ) → distinct xs ≡ true → (i k : ℕ) → i < length xs → k < length xs → get_or xs i 0 ≡ get_or xs k 0 → i ≡ k
one_place [] d i k li lk e = absurd (omega (arith, li))
one_place (x ∷ xs) d zero zero li lk e = refl
one_place (x ∷ xs) d zero (suc k) li lk e = absurd (not_again (has xs x) (contains_has xs x (k, omega (arith, lk), get_or_default xs k x 0 (omega (arith, lk)) ∙ sym e)) (and_parts (not (has xs x)) (distinct xs) d).0)
one_place (x ∷ xs) d (suc i) zero li lk e = absurd (not_again (has xs x) (contains_has xs x (i, omega (arith, li), get_or_default xs i x 0 (omega (arith, li)) ∙ e)) (and_parts (not (has xs x)) (distinct xs) d).0)
one_place (x ∷ xs) d (suc i) (suc k) li lk e = omega (arith, one_place xs (and_parts (not (has xs x)) (distinct xs) d).1 i k (omega (arith, li)) (omega (arith, lk)) e)

pub slot_once : (nodes : ℕ) (p : Plan) (u j m : ℕ) → RightPlan nodes p → j < length p.schedule.starts → Once (cycle nodes p) (record { tick = u; action = slot j m })
unfolding cycle
slot_once nodes p u j m ok lj =
    let x : Entry = record { tick = u; action = slot j m } in
    let es = by_node nodes p (due_end p u) task_ends u in
    let ss = by_node nodes p (due_start p u) task_starts u in
    let rs = flat_map (round_at p u) (below (length p.schedule.starts)) in
    let slot_of = λ (i number : ℕ). let e : Entry = record { tick = u; action = slot i (place_from 0 p.mode.messages number) } in e in
    let table = slice_index_or p.schedule.tables j [] in
    once_flat (at_tick nodes p) x u
    (λ t other. all_more (At p t) (λ e. e ≡ x → ⊥) (at_tick nodes p t) (λ e h q. other (sym h.0 ∙ ap (λ (z : Entry). z.tick) q)) (at_right nodes p t))
    (once_right es (rs ++ ss) x
    (all_more (RightIn p u 0) (λ e. e ≡ x → ⊥) es (λ e h q. omega (arith, h.2, ap (λ (z : Entry). rank z.action) q)) (ends_right nodes p u))
    (once_left rs ss x
    (once_flat (round_at p u) x j
    (λ i other. cond_all (λ e. e ≡ x → ⊥) (nat_eq (natural (round_start p.schedule i)) u) (record { tick = u; action = beacon i } ∷ map (slot_of i) (slice_index_or p.schedule.tables i []))
    (λ t. (
      (λ q. no_beacon i (ap (λ (z : Entry). z.action) q)),
      all_map (λ e. e ≡ x → ⊥) (slot_of i) (slice_index_or p.schedule.tables i []) (λ number c q. other (same_slot i (place_from 0 p.mode.messages number) (ap (λ (z : Entry). z.action) q)).0),
    )))
    (once_when (nat_eq (natural (round_start p.schedule j)) u) (record { tick = u; action = beacon j } ∷ map (slot_of j) table) x
    (once_tail (map (slot_of j) table) (record { tick = u; action = beacon j }) x (λ q. no_beacon j (ap (λ (z : Entry). z.action) q)) in_table))
    (length p.schedule.starts))
    (all_more (RightIn p u 2) (λ e. e ≡ x → ⊥) ss (λ e h q. omega (arith, h.2, ap (λ (z : Entry). rank z.action) q)) (starts_right nodes p u))))
    (hyper p.mode)
  where
    no_beacon : (i : ℕ) → beacon i ≡ slot j m → ⊥
    no_beacon i q = grind (arith, q)

    same_slot : (i n : ℕ) → slot i n ≡ slot j m → (i ≡ j) × (n ≡ m)
    same_slot i n q = grind (arith, q)

    in_table : Once (map (λ (number : ℕ). let e : Entry = record { tick = u; action = slot j (place_from 0 p.mode.messages number) } in e) (slice_index_or p.schedule.tables j [])) (record { tick = u; action = slot j m })
    in_table i k li lk ei ek =
        let slot_of = λ (number : ℕ). let e : Entry = record { tick = u; action = slot j (place_from 0 p.mode.messages number) } in e in
        let table = slice_index_or p.schedule.tables j [] in
        let size = length-map table slot_of in
        let a = number_is nodes p ok j (get_or table i 0) lj (i, omega (arith, li, size), get_or_default table i (get_or table i 0) 0 (omega (arith, li, size))) in
        let b = number_is nodes p ok j (get_or table k 0) lj (k, omega (arith, lk, size), get_or_default table k (get_or table k 0) 0 (omega (arith, lk, size))) in
        let at_i = (same_slot j (place_from 0 p.mode.messages (get_or table i 0)) (ap (λ (z : Entry). z.action) (sym (get_or-map slot_of table i 0 none (omega (arith, li, size))) ∙ ei))).1 in
        let at_k = (same_slot j (place_from 0 p.mode.messages (get_or table k 0)) (ap (λ (z : Entry). z.action) (sym (get_or-map slot_of table k 0 none (omega (arith, lk, size))) ∙ ek))).1 in
        let same : a.0 ≡ b.0 = omega (arith, a.1, b.1, at_i, at_k) in
        let fits = All-get_or (TableFits p.mode) p.schedule.tables j [] (omega (arith, lj, ok.right.shape.starts, ok.right.shape.tables)) ok.right.s7.tables in
        one_place table fits.once i k (omega (arith, li, size)) (omega (arith, lk, size)) (sym a.3 ∙ ap (λ z. (message_at p.mode z).number) same ∙ b.3)
