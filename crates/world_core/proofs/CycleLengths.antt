-- A cycle is not too long to be counted in 64 bits
use Rattle.std.proofs.Common.{◌≡◌, ℕ, zero, suc, ◌+◌, ◌*◌, ◌<◌, ◌≤◌, Bool, true, false, cond, ◌&&◌, List, [], ◌∷◌, ◌++◌, length, get_or, map, ap, arith, length-append, All}
use Rattle.std.specs.Prelude.{nat_eq}
use Rattle.std.specs.List.{flat_map, AllByRecursion}
use Rattle.std.proofs.lemmas.List.{length-map}
use Rattle.std.proofs.lemmas.List.Elements.{recursion_from_All}
use Rattle.std.proofs.lemmas.Grind.{flat_map-append}
use Rattle.std.proofs.Math.Nat.{mul-le-mul_right}
use Rattle.sched_model.specs.Numbers.{below, natural}
use Rattle.sched_model.specs.PlainMode.{hyper, task_at}
use Rattle.sched_model.specs.Rounds.{round_start}
use Rattle.runtime_model.specs.Entries.{Entry, Action, beacon, slot, by_node, round_at, at_tick, cycle, due_end, due_start, task_ends, task_starts}
use Rattle.runtime_model.specs.Plans.{Plan, place_from}
use Rattle.world_core.specs.Cycle.{FewRounds}

-- n lists of at most c items each
pub length_flat : {X : Type 0} (f : ℕ → List X) (n c : ℕ) → ((i : ℕ) → i < n → length (f i) ≤ c) → length (flat_map f (below n)) ≤ n * c
length_flat f zero c h = omega arith
length_flat f (suc n) c h =
    let whole = ap length (flat_map-append f (below n) (n ∷ [])) in
    let parts = length-append (flat_map f (below n)) (flat_map f (n ∷ [])) in
    let last = length-append (f n) [] in
    let here = h n (omega arith) in
    let before = length_flat f n c (λ i l. h i (omega (arith, l))) in
    let mul : suc n * c ≡ n * c + c = omega arith in
    omega (arith, whole, parts, last, here, before, mul)

length_one : {X : Type 0} (b : Bool) (x : X) → length (cond b (x ∷ []) []) ≤ 1
length_one true x = omega arith
length_one false x = omega arith

by_node_short : (nodes : ℕ) (p : Plan) (test : ℕ → Bool) (what : ℕ → Action) (u : ℕ) → length (by_node nodes p test what u) ≤ nodes * (length p.mode.tasks * 1)
by_node_short nodes p test what u =
    length_flat _ nodes (length p.mode.tasks * 1) (λ v l. length_flat _ (length p.mode.tasks) 1 (λ a m. length_one (nat_eq (task_at p.mode a).node v && test a) _))

few_table : (tables : List (List ℕ)) (j : ℕ) → All (λ t. length t ≤ 32) tables → length (get_or tables j []) ≤ 32
few_table tables j few = table_from tables j (recursion_from_All (λ t. length t ≤ 32) tables few)
  where
    table_from : (tables : List (List ℕ)) (j : ℕ) → AllByRecursion (λ t. length t ≤ 32) tables → length (get_or tables j []) ≤ 32
    table_from [] j h = omega arith
    table_from (t ∷ tables) zero h = h.0
    table_from (t ∷ tables) (suc j) h = table_from tables j h.1

round_short : (p : Plan) → FewRounds p.schedule → (u j : ℕ) → length (round_at p u j) ≤ 33
round_short p few u j = by_test (nat_eq (natural (round_start p.schedule j)) u)
  where
    table : List ℕ
    table = get_or p.schedule.tables j []

    by_test : (b : Bool) → length {A = Entry} (cond b (record { tick = u; action = beacon j } ∷ map (λ number. record { tick = u; action = slot j (place_from 0 p.mode.messages number) }) (get_or p.schedule.tables j [])) []) ≤ 33
    by_test true = omega (arith, few_table p.schedule.tables j few.few, length-map {B = Entry} (get_or p.schedule.tables j []) (λ number. record { tick = u; action = slot j (place_from 0 p.mode.messages number) }))
    by_test false = omega arith

pub tick_short : (nodes : ℕ) (p : Plan) → nodes ≤ 64 → length p.mode.tasks ≤ 128 → FewRounds p.schedule → (u : ℕ) → length (at_tick nodes p u) ≤ 24832
tick_short nodes p n t few u =
    let ends = by_node_short nodes p (due_end p u) task_ends u in
    let starts = by_node_short nodes p (due_start p u) task_starts u in
    let rounds = length_flat (round_at p u) (length p.schedule.starts) 33 (λ j l. round_short p few u j) in
    let one = length-append (by_node nodes p (due_end p u) task_ends u) (flat_map (round_at p u) (below (length p.schedule.starts)) ++ by_node nodes p (due_start p u) task_starts u) in
    let two = length-append (flat_map (round_at p u) (below (length p.schedule.starts))) (by_node nodes p (due_start p u) task_starts u) in
    let most : nodes * (length p.mode.tasks * 1) ≤ 64 * (length p.mode.tasks * 1) = mul-le-mul_right (length p.mode.tasks * 1) n in
    omega (arith, ends, starts, rounds, one, two, most, t, few.most)

pub cycle_short : (nodes : ℕ) (p : Plan) → nodes ≤ 64 → length p.mode.tasks ≤ 128 → hyper p.mode ≤ 1000000000000 → FewRounds p.schedule → length (cycle nodes p) ≤ 24832000000000000
unfolding cycle
cycle_short nodes p n t h few = omega (arith, h, length_flat (at_tick nodes p) (hyper p.mode) 24832 (λ u l. tick_short nodes p n t few u))
