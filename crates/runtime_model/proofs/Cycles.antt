-- The entries of a hyperperiod: in order, and each due one is there
use Rattle.std.proofs.Common.{◌≡◌, ℕ, zero, suc, ◌+◌, ◌*◌, ◌<◌, ◌≤◌, Bool, true, false, cond, ◌&&◌, List, [], ◌∷◌, ◌++◌, length, get_or, map, Contains, refl, sym, ◌∙◌, ap, subst, arith, ⊎_elim, length-append, append-nil}
use Rattle.std.specs.Prelude.{nat_eq, slice_index_or}
use Rattle.std.specs.List.{AllByRecursion, flat_map}
use Rattle.std.proofs.lemmas.Bool.{cases_lt, eqb-true, eq-eqb, and_parts}
use Rattle.std.proofs.lemmas.List.{get_or_append_left, get_or-append-add, get_or-map, length-map}
use Rattle.std.proofs.lemmas.Grind.{flat_map-append}
use Rattle.sched_model.specs.Numbers.{below, natural}
use Rattle.sched_model.specs.PlainMode.{hyper, task_at}
use Rattle.sched_model.specs.Rounds.{round_start}
use Rattle.runtime_model.specs.Entries.{Entry, Action, task_ends, beacon, slot, task_starts, cycle, at_tick, by_node, round_at, due_start, due_end}
use Rattle.runtime_model.specs.Plans.{Plan, place_from}
use Rattle.sched_model.proofs.Lists.{all_both, flat_all, below_all, cond_all, get_or-flat_below, part_fits}

abbrev pub none : Entry
none = record { tick = 0; action = beacon 0 }

-- ---- a list has an entry
abbrev pub Has : List Entry → Entry → Type 0
Has xs x = (i : ℕ) × (i < length xs) × (get_or xs i none ≡ x)

has_left : (xs ys : List Entry) (x : Entry) → Has xs x → Has (xs ++ ys) x
has_left xs ys x h = (h.0, omega (arith, length-append xs ys, h.1), get_or_append_left xs ys none h.0 h.1 ∙ h.2)

has_right : (xs ys : List Entry) (x : Entry) → Has ys x → Has (xs ++ ys) x
has_right xs ys x h = (length xs + h.0, omega (arith, length-append xs ys, h.1), get_or-append-add xs ys h.0 none ∙ h.2)

has_flat : (f : ℕ → List Entry) (n i : ℕ) (x : Entry) → i < n → Has (f i) x → Has (flat_map f (below n)) x
has_flat f n i x l h = (length (flat_map f (below i)) + h.0, omega (arith, part_fits f n i l, h.1), get_or-flat_below f n i h.0 none l h.1 ∙ h.2)

has_cond : (b : Bool) (x : Entry) (xs : List Entry) → b ≡ true → Has xs x → Has (cond b xs []) x
has_cond true x xs e h = h
has_cond false x xs e h = absurd cc

has_head : (x : Entry) (xs : List Entry) → Has (x ∷ xs) x
has_head x xs = (0, omega arith, refl)

both_true : (a b : Bool) → a ≡ true → b ≡ true → (a && b) ≡ true
both_true a b x y = grind (arith, x, y)

has_by_node : (nodes : ℕ) (p : Plan) (test : ℕ → Bool) (what : ℕ → Action) (u a : ℕ) → a < length p.mode.tasks → (task_at p.mode a).node < nodes → test a ≡ true →
    Has (by_node nodes p test what u) (record { tick = u; action = what a })
has_by_node nodes p test what u a l on t =
    let v = (task_at p.mode a).node in
    has_flat (λ v. flat_map (λ a. cond (nat_eq (task_at p.mode a).node v && test a) (record { tick = u; action = what a } ∷ []) []) (below (length p.mode.tasks))) nodes v (record { tick = u; action = what a }) on
    (has_flat (λ a. cond (nat_eq (task_at p.mode a).node v && test a) (record { tick = u; action = what a } ∷ []) []) (length p.mode.tasks) a (record { tick = u; action = what a }) l
    (has_cond (nat_eq v v && test a) (record { tick = u; action = what a }) (record { tick = u; action = what a } ∷ []) (both_true (nat_eq v v) (test a) (eq-eqb v v refl) t) (has_head (record { tick = u; action = what a }) [])))

-- each due start and each due end is in the cycle
pub has_start : (nodes : ℕ) (p : Plan) (u a : ℕ) → u < hyper p.mode → a < length p.mode.tasks → (task_at p.mode a).node < nodes → due_start p u a ≡ true → Has (cycle nodes p) (record { tick = u; action = task_starts a })
unfolding cycle
has_start nodes p u a l la on t =
    has_flat (at_tick nodes p) (hyper p.mode) u (record { tick = u; action = task_starts a }) l
    (has_right (by_node nodes p (due_end p u) task_ends u) (flat_map (round_at p u) (below (length p.schedule.starts)) ++ by_node nodes p (due_start p u) task_starts u) (record { tick = u; action = task_starts a })
    (has_right (flat_map (round_at p u) (below (length p.schedule.starts))) (by_node nodes p (due_start p u) task_starts u) (record { tick = u; action = task_starts a })
    (has_by_node nodes p (due_start p u) task_starts u a la on t)))

pub has_end : (nodes : ℕ) (p : Plan) (u a : ℕ) → u < hyper p.mode → a < length p.mode.tasks → (task_at p.mode a).node < nodes → due_end p u a ≡ true → Has (cycle nodes p) (record { tick = u; action = task_ends a })
unfolding cycle
has_end nodes p u a l la on t =
    has_flat (at_tick nodes p) (hyper p.mode) u (record { tick = u; action = task_ends a }) l
    (has_left (by_node nodes p (due_end p u) task_ends u) (flat_map (round_at p u) (below (length p.schedule.starts)) ++ by_node nodes p (due_start p u) task_starts u) (record { tick = u; action = task_ends a })
    (has_by_node nodes p (due_end p u) task_ends u a la on t))

pub flat_below-suc : {X : Type 0} (f : ℕ → List X) (n : ℕ) → flat_map f (below (suc n)) ≡ flat_map f (below n) ++ f n
flat_below-suc f n = flat_map-append f (below n) (n ∷ []) ∙ ap (λ l. flat_map f (below n) ++ l) (append-nil (f n))

-- each round has its beacon
pub has_beacon : (nodes : ℕ) (p : Plan) (j : ℕ) → j < length p.schedule.starts → natural (round_start p.schedule j) < hyper p.mode → Has (cycle nodes p) (record { tick = natural (round_start p.schedule j); action = beacon j })
unfolding cycle
has_beacon nodes p j lj l =
    let u = natural (round_start p.schedule j) in
    let x : Entry = record { tick = u; action = beacon j } in
    has_flat (at_tick nodes p) (hyper p.mode) u x l
    (has_right (by_node nodes p (due_end p u) task_ends u) (flat_map (round_at p u) (below (length p.schedule.starts)) ++ by_node nodes p (due_start p u) task_starts u) x
    (has_left (flat_map (round_at p u) (below (length p.schedule.starts))) (by_node nodes p (due_start p u) task_starts u) x
    (has_flat (round_at p u) (length p.schedule.starts) j x lj
    (has_cond (nat_eq u u) x (x ∷ map (λ number. record { tick = u; action = slot j (place_from 0 p.mode.messages number) }) (slice_index_or p.schedule.tables j [])) (eq-eqb u u refl) (has_head x (map (λ number. record { tick = u; action = slot j (place_from 0 p.mode.messages number) }) (slice_index_or p.schedule.tables j [])))))))

-- each slot of a round is in the cycle
has_tail : (x y : Entry) (xs : List Entry) → Has xs y → Has (x ∷ xs) y
has_tail x y xs h = (suc h.0, omega (arith, h.1), h.2)

has_mapped : (f : ℕ → Entry) (xs : List ℕ) (x : ℕ) → Contains xs x → Has (map f xs) (f x)
has_mapped f xs x c = (c.0, omega (arith, c.1, length-map xs f), get_or-map f xs c.0 x none c.1 ∙ ap f c.2)

pub has_slot : (nodes : ℕ) (p : Plan) (j number : ℕ) → j < length p.schedule.starts → natural (round_start p.schedule j) < hyper p.mode → Contains (slice_index_or p.schedule.tables j []) number →
    Has (cycle nodes p) (record { tick = natural (round_start p.schedule j); action = slot j (place_from 0 p.mode.messages number) })
unfolding cycle
has_slot nodes p j number lj l c =
    let u = natural (round_start p.schedule j) in
    let slot_of = λ (n : ℕ). let e : Entry = record { tick = u; action = slot j (place_from 0 p.mode.messages n) } in e in
    let x = slot_of number in
    let b : Entry = record { tick = u; action = beacon j } in
    let table = slice_index_or p.schedule.tables j [] in
    has_flat (at_tick nodes p) (hyper p.mode) u x l
    (has_right (by_node nodes p (due_end p u) task_ends u) (flat_map (round_at p u) (below (length p.schedule.starts)) ++ by_node nodes p (due_start p u) task_starts u) x
    (has_left (flat_map (round_at p u) (below (length p.schedule.starts))) (by_node nodes p (due_start p u) task_starts u) x
    (has_flat (round_at p u) (length p.schedule.starts) j x lj
    (has_cond (nat_eq u u) x (b ∷ map slot_of table) (eq-eqb u u refl) (has_tail b x (map slot_of table) (has_mapped slot_of table number c))))))

-- ---- the order
abbrev pub rank : Action → ℕ
rank (task_ends a) = 0
rank (beacon j) = 1
rank (slot j i) = 1
rank (task_starts a) = 2

-- earlier entries have keys that are at most as great
abbrev pub key : Entry → ℕ
key e = 3 * e.tick + rank e.action

abbrev pub Rises : List Entry → Type 0
Rises [] = Unit {0}
Rises (x ∷ xs) = AllByRecursion (λ y. key x ≤ key y) xs × Rises xs

pub all_more : {X : Type 0} (P Q : X → Type 0) (xs : List X) → ((x : X) → P x → Q x) → AllByRecursion P xs → AllByRecursion Q xs
all_more P Q [] f h = tt
all_more P Q (x ∷ xs) f h = (f x h.0, all_more P Q xs f h.1)

pub all_at : {X : Type 0} (P : X → Type 0) (xs : List X) (i : ℕ) (d : X) → AllByRecursion P xs → i < length xs → P (get_or xs i d)
all_at P [] i d h l = absurd (omega arith)
all_at P (x ∷ xs) zero d h l = h.0
all_at P (x ∷ xs) (suc i) d h l = all_at P xs i d h.1 (omega arith)

rises_both : (m : ℕ) (xs ys : List Entry) → Rises xs → Rises ys → AllByRecursion (λ x. key x ≤ m) xs → AllByRecursion (λ y. m ≤ key y) ys → Rises (xs ++ ys)
rises_both m [] ys h k a b = k
rises_both m (x ∷ xs) ys h k a b =
    (all_both (λ y. key x ≤ key y) xs ys h.0 (all_more (λ y. m ≤ key y) (λ y. key x ≤ key y) ys (λ y g. omega (arith, g, a.0)) b), rises_both m xs ys h.1 k a.1 b)

-- all keys are one
rises_flat : (n : ℕ) (xs : List Entry) → AllByRecursion (λ x. key x ≡ n) xs → Rises xs
rises_flat n [] h = tt
rises_flat n (x ∷ xs) h = (all_more (λ y. key y ≡ n) (λ y. key x ≤ key y) xs (λ y g. omega (arith, g, h.0)) h.1, rises_flat n xs h.1)

-- what holds of each task that passes holds of each entry
pub all_by_node : (P : Entry → Type 0) (nodes : ℕ) (p : Plan) (test : ℕ → Bool) (what : ℕ → Action) (u : ℕ) →
    ((a : ℕ) → a < length p.mode.tasks → test a ≡ true → P (record { tick = u; action = what a })) → AllByRecursion P (by_node nodes p test what u)
all_by_node P nodes p test what u f =
    flat_all P (λ v. flat_map (λ a. cond (nat_eq (task_at p.mode a).node v && test a) (record { tick = u; action = what a } ∷ []) []) (below (length p.mode.tasks))) (below nodes)
    (below_all (λ v. AllByRecursion P (flat_map (λ a. cond (nat_eq (task_at p.mode a).node v && test a) (record { tick = u; action = what a } ∷ []) []) (below (length p.mode.tasks)))) nodes (λ v l.
    flat_all P (λ a. cond (nat_eq (task_at p.mode a).node v && test a) (record { tick = u; action = what a } ∷ []) []) (below (length p.mode.tasks))
    (below_all (λ a. AllByRecursion P (cond (nat_eq (task_at p.mode a).node v && test a) (record { tick = u; action = what a } ∷ []) [])) (length p.mode.tasks) (λ a k.
    cond_all P (nat_eq (task_at p.mode a).node v && test a) (record { tick = u; action = what a } ∷ []) (λ e. (f a k (and_parts (nat_eq (task_at p.mode a).node v) (test a) e).1, tt))))))

pub all_map : {X Y : Type 0} (P : Y → Type 0) (f : X → Y) (xs : List X) → ((x : X) → Contains xs x → P (f x)) → AllByRecursion P (map f xs)
all_map P f [] h = tt
all_map P f (x ∷ xs) h = (h x (0, omega arith, refl), all_map P f xs (λ z c. h z (suc c.0, omega (arith, c.1), c.2)))

-- what an entry at tick u is of
abbrev pub RightAt : Plan → ℕ → Action → Type 0
RightAt p u (task_ends a) = (a < length p.mode.tasks) × (due_end p u a ≡ true)
RightAt p u (beacon j) = (j < length p.schedule.starts) × (natural (round_start p.schedule j) ≡ u)
RightAt p u (slot j i) = (j < length p.schedule.starts) × (natural (round_start p.schedule j) ≡ u) × ((number : ℕ) × Contains (slice_index_or p.schedule.tables j []) number × (i ≡ place_from 0 p.mode.messages number))
RightAt p u (task_starts a) = (a < length p.mode.tasks) × (due_start p u a ≡ true)

abbrev pub RightIn : Plan → ℕ → ℕ → Entry → Type 0
RightIn p u c e = (e.tick ≡ u) × (RightAt p u e.action) × (rank e.action ≡ c)

pub ends_right : (nodes : ℕ) (p : Plan) (u : ℕ) → AllByRecursion (RightIn p u 0) (by_node nodes p (due_end p u) task_ends u)
ends_right nodes p u = all_by_node (RightIn p u 0) nodes p (due_end p u) task_ends u (λ a l t. (refl, (l, t), refl))

pub starts_right : (nodes : ℕ) (p : Plan) (u : ℕ) → AllByRecursion (RightIn p u 2) (by_node nodes p (due_start p u) task_starts u)
starts_right nodes p u = all_by_node (RightIn p u 2) nodes p (due_start p u) task_starts u (λ a l t. (refl, (l, t), refl))

round_right : (p : Plan) (u j : ℕ) → j < length p.schedule.starts → AllByRecursion (RightIn p u 1) (round_at p u j)
round_right p u j l =
    cond_all (RightIn p u 1) (nat_eq (natural (round_start p.schedule j)) u) (record { tick = u; action = beacon j } ∷ map (λ number. record { tick = u; action = slot j (place_from 0 p.mode.messages number) }) (slice_index_or p.schedule.tables j []))
    (λ e. let same = eqb-true (natural (round_start p.schedule j)) u e in
    ((refl, (l, same), refl), all_map (RightIn p u 1) (λ (number : ℕ). record { tick = u; action = slot j (place_from 0 p.mode.messages number) }) (slice_index_or p.schedule.tables j []) (λ number n. (refl, (l, same, (number, n, refl)), refl))))

pub rounds_right : (p : Plan) (u : ℕ) → AllByRecursion (RightIn p u 1) (flat_map (round_at p u) (below (length p.schedule.starts)))
rounds_right p u = flat_all (RightIn p u 1) (round_at p u) (below (length p.schedule.starts)) (below_all (λ j. AllByRecursion (RightIn p u 1) (round_at p u j)) (length p.schedule.starts) (round_right p u))

abbrev pub At : Plan → ℕ → Entry → Type 0
At p u e = (e.tick ≡ u) × RightAt p u e.action

pub at_right : (nodes : ℕ) (p : Plan) (u : ℕ) → AllByRecursion (At p u) (at_tick nodes p u)
at_right nodes p u =
    all_both (At p u) (by_node nodes p (due_end p u) task_ends u) (flat_map (round_at p u) (below (length p.schedule.starts)) ++ by_node nodes p (due_start p u) task_starts u)
    (all_more (RightIn p u 0) (At p u) (by_node nodes p (due_end p u) task_ends u) (λ x h. (h.0, h.1)) (ends_right nodes p u))
    (all_both (At p u) (flat_map (round_at p u) (below (length p.schedule.starts))) (by_node nodes p (due_start p u) task_starts u)
    (all_more (RightIn p u 1) (At p u) (flat_map (round_at p u) (below (length p.schedule.starts))) (λ x h. (h.0, h.1)) (rounds_right p u))
    (all_more (RightIn p u 2) (At p u) (by_node nodes p (due_start p u) task_starts u) (λ x h. (h.0, h.1)) (starts_right nodes p u)))

abbrev pub Right : Plan → Entry → Type 0
Right p e = (e.tick < hyper p.mode) × RightAt p e.tick e.action

cycle_right : (nodes : ℕ) (p : Plan) → AllByRecursion (Right p) (cycle nodes p)
unfolding cycle
cycle_right nodes p =
    flat_all (Right p) (at_tick nodes p) (below (hyper p.mode)) (below_all (λ u. AllByRecursion (Right p) (at_tick nodes p u)) (hyper p.mode)
    (λ u l. all_more (At p u) (Right p) (at_tick nodes p u) (λ x h. (omega (arith, h.0, l), subst (λ u. RightAt p u x.action) (sym h.0) h.1)) (at_right nodes p u)))

-- each entry of the cycle is due at its tick
pub entry_right : (nodes : ℕ) (p : Plan) (i : ℕ) → i < length (cycle nodes p) → Right p (get_or (cycle nodes p) i none)
entry_right nodes p i l = all_at (Right p) (cycle nodes p) i none (cycle_right nodes p) l

-- ---- the whole cycle rises
keyed : (p : Plan) (u c : ℕ) (xs : List Entry) → AllByRecursion (RightIn p u c) xs → AllByRecursion (λ x. key x ≡ 3 * u + c) xs
keyed p u c xs h = all_more (RightIn p u c) (λ x. key x ≡ 3 * u + c) xs (λ x g. omega (arith, g.0, g.2)) h

at_most : (n : ℕ) (m : ℕ) (xs : List Entry) → n ≤ m → AllByRecursion (λ x. key x ≡ n) xs → AllByRecursion (λ x. key x ≤ m) xs
at_most n m xs l h = all_more (λ x. key x ≡ n) (λ x. key x ≤ m) xs (λ x g. omega (arith, g, l)) h

at_least : (n : ℕ) (m : ℕ) (xs : List Entry) → m ≤ n → AllByRecursion (λ x. key x ≡ n) xs → AllByRecursion (λ x. m ≤ key x) xs
at_least n m xs l h = all_more (λ x. key x ≡ n) (λ x. m ≤ key x) xs (λ x g. omega (arith, g, l)) h

tick_rises : (nodes : ℕ) (p : Plan) (u : ℕ) → Rises (at_tick nodes p u) × AllByRecursion (λ x. 3 * u ≤ key x) (at_tick nodes p u) × AllByRecursion (λ x. key x ≤ 3 * u + 2) (at_tick nodes p u)
tick_rises nodes p u =
    let a = by_node nodes p (due_end p u) task_ends u in
    let b = flat_map (round_at p u) (below (length p.schedule.starts)) in
    let c = by_node nodes p (due_start p u) task_starts u in
    let ka = keyed p u 0 a (ends_right nodes p u) in
    let kb = keyed p u 1 b (rounds_right p u) in
    let kc = keyed p u 2 c (starts_right nodes p u) in (
      rises_both (3 * u + 0) a (b ++ c) (rises_flat (3 * u + 0) a ka)
          (rises_both (3 * u + 1) b c (rises_flat (3 * u + 1) b kb) (rises_flat (3 * u + 2) c kc) (at_most (3 * u + 1) (3 * u + 1) b (omega arith) kb) (at_least (3 * u + 2) (3 * u + 1) c (omega arith) kc))
          (at_most (3 * u + 0) (3 * u + 0) a (omega arith) ka)
          (all_both (λ y. 3 * u + 0 ≤ key y) b c (at_least (3 * u + 1) (3 * u + 0) b (omega arith) kb) (at_least (3 * u + 2) (3 * u + 0) c (omega arith) kc)),
      all_both (λ y. 3 * u ≤ key y) a (b ++ c) (at_least (3 * u + 0) (3 * u) a (omega arith) ka)
          (all_both (λ y. 3 * u ≤ key y) b c (at_least (3 * u + 1) (3 * u) b (omega arith) kb) (at_least (3 * u + 2) (3 * u) c (omega arith) kc)),
      all_both (λ y. key y ≤ 3 * u + 2) a (b ++ c) (at_most (3 * u + 0) (3 * u + 2) a (omega arith) ka)
          (all_both (λ y. key y ≤ 3 * u + 2) b c (at_most (3 * u + 1) (3 * u + 2) b (omega arith) kb) (at_most (3 * u + 2) (3 * u + 2) c (omega arith) kc)),
    )

parts_rise : (f : ℕ → List Entry) → ((u : ℕ) → Rises (f u) × AllByRecursion (λ x. 3 * u ≤ key x) (f u) × AllByRecursion (λ x. key x ≤ 3 * u + 2) (f u)) → (n : ℕ) →
    Rises (flat_map f (below n)) × AllByRecursion (λ x. key x ≤ 3 * n) (flat_map f (below n))
parts_rise f h zero = (tt, tt)
parts_rise f h (suc n) =
    let r = parts_rise f h n in
    let k = h n in (
      subst Rises (sym (flat_below-suc f n)) (rises_both (3 * n) (flat_map f (below n)) (f n) r.0 k.0 r.1 k.1),
      subst (AllByRecursion (λ x. key x ≤ 3 * suc n)) (sym (flat_below-suc f n))
          (all_both (λ x. key x ≤ 3 * suc n) (flat_map f (below n)) (f n) (all_more (λ x. key x ≤ 3 * n) (λ x. key x ≤ 3 * suc n) (flat_map f (below n)) (λ x g. omega (arith, g)) r.1)
          (all_more (λ x. key x ≤ 3 * n + 2) (λ x. key x ≤ 3 * suc n) (f n) (λ x g. omega (arith, g)) k.2)),
    )

pub cycle_rises : (nodes : ℕ) (p : Plan) → Rises (cycle nodes p)
unfolding cycle
cycle_rises nodes p = (parts_rise (at_tick nodes p) (tick_rises nodes p) (hyper p.mode)).0

pub rises_at : (xs : List Entry) (i j : ℕ) → Rises xs → i ≤ j → j < length xs → key (get_or xs i none) ≤ key (get_or xs j none)
rises_at [] i j h l b = absurd (omega arith)
rises_at (x ∷ xs) zero zero h l b = omega arith
rises_at (x ∷ xs) zero (suc j) h l b = all_at (λ y. key x ≤ key y) xs j none h.0 (omega arith)
rises_at (x ∷ xs) (suc i) zero h l b = absurd (omega arith)
rises_at (x ∷ xs) (suc i) (suc j) h l b = rises_at xs i j h.1 (omega arith) (omega arith)

-- an entry with a lower key stands before
pub key_order : (nodes : ℕ) (p : Plan) (i j : ℕ) → i < length (cycle nodes p) → j < length (cycle nodes p) → key (get_or (cycle nodes p) i none) < key (get_or (cycle nodes p) j none) → i < j
key_order nodes p i j li lj h =
    ⊎_elim (λ (l : i < j). l) (λ (g : j ≤ i). absurd (omega (arith, h, rises_at (cycle nodes p) j i (cycle_rises nodes p) g li))) (cases_lt i j)
