-- What the generated file says: names become numbers
use Rattle.std.proofs.Common.{◌≡◌, ℕ, zero, suc, ◌+◌, ◌*◌, ◌<◌, List, map, refl, ap, arith, ◌∙◌, codes}
use Rattle.std.specs.List.{range_with_len}
use Rattle.app_graph.specs.declared.mode_set.App.{App}
use Rattle.app_graph.specs.Numbering.{node_place, task_place, task_count, message_count, app_of, apps_from, mode_of, modes_from, set_of}
use Rattle.ttw_text.specs.Numbers.{spelled}
use Rattle.drill.specs.Generated.{below, lettered, first_task, raw_app, raw_mode, drill_raw, drill_app, drill_mode, drill_set}
use Rattle.drill.proofs.Tables.{each_equal}

abbrev node : ℕ → List ℕ
node n = lettered (codes "n") n

-- ---- places of names, by tests that compute
node_placed : (n : ℕ) → n < 64 → node_place (below 64 node) (node n) ≡ n
unfolding below spelled
node_placed = each_equal _ _ 64 refl

sender_placed : (seed m i : ℕ) → i < 32 → task_place (raw_app seed m i).tasks (lettered (codes "s") i) ≡ 0
unfolding spelled
sender_placed seed m = each_equal _ _ 32 refl

receiver_placed : (seed m i : ℕ) → i < 32 → task_place (raw_app seed m i).tasks (lettered (codes "c") i) ≡ 1
unfolding spelled
receiver_placed seed m = each_equal _ _ 32 refl

app_is : (seed m i : ℕ) → i < 32
    → app_of (below 64 node) (first_task m i) (32 * m + i) (raw_app seed m i) ≡ drill_app seed m i
app_is seed m i l =
    let first = node_placed (2 * i) (omega arith) in
    let second = node_placed (2 * i + 1) (omega arith) in
    let from : first_task m i + task_place (raw_app seed m i).tasks (lettered (codes "s") i) ≡ first_task m i =
    omega (arith, sender_placed seed m i l) in
    let to : first_task m i + task_place (raw_app seed m i).tasks (lettered (codes "c") i) ≡ first_task m i + 1 =
    omega (arith, receiver_placed seed m i l) in
    simp (first, second, from, to)

apps_are : (seed m n i t k : ℕ) → i + n ≡ 32 → t ≡ first_task m i → k ≡ 32 * m + i
    → apps_from (below 64 node) t k (map (raw_app seed m) (range_with_len i n)) ≡ map (drill_app seed m) (range_with_len i n)
apps_are seed m zero i t k e te ke = refl
apps_are seed m (suc n) i t k e te ke =
    let here : app_of (below 64 node) t k (raw_app seed m i) ≡ drill_app seed m i =
    ap (λ t. app_of (below 64 node) t k (raw_app seed m i)) te ∙ ap (λ k. app_of (below 64 node) (first_task m i) k (raw_app seed m i)) ke ∙ app_is seed m i (omega arith) in
    let rest = apps_are seed m n (i + 1) (t + 2) (k + 1) (omega arith) (omega arith) (omega arith) in
    cc

mode_is : (seed m t k : ℕ) → t ≡ 64 * m → k ≡ 32 * m → mode_of (below 64 node) t k (raw_mode seed m) ≡ drill_mode seed m
unfolding raw_mode drill_mode below
mode_is seed m t k te ke = let apps = apps_are seed m 32 0 t k refl (omega arith) (omega arith) in ap (λ (l : List App). record { name = lettered (codes "m") m; apps = l }) apps

tasks_of : (seed m : ℕ) → task_count (raw_mode seed m) ≡ 64
unfolding raw_mode below
tasks_of seed m = refl

messages_of : (seed m : ℕ) → message_count (raw_mode seed m) ≡ 32
unfolding raw_mode below
messages_of seed m = refl

modes_are : (seed n m t k : ℕ) → t ≡ 64 * m → k ≡ 32 * m
    → modes_from (below 64 node) t k (map (raw_mode seed) (range_with_len m n)) ≡ map (drill_mode seed) (range_with_len m n)
modes_are seed zero m t k te ke = refl
modes_are seed (suc n) m t k te ke =
    let here = mode_is seed m t k te ke in
    let rest = modes_are seed n (m + 1) (t + task_count (raw_mode seed m)) (k + message_count (raw_mode seed m))
    (omega (arith, tasks_of seed m)) (omega (arith, messages_of seed m)) in
    cc

modes_numbered : (seed : ℕ) → modes_from (below 64 node) 0 0 (below 8 (raw_mode seed)) ≡ below 8 (drill_mode seed)
unfolding below
modes_numbered seed = modes_are seed 8 0 0 0 refl refl

pub file_numbered : (seed : ℕ) → set_of (drill_raw seed) ≡ drill_set seed
unfolding drill_raw drill_set
file_numbered seed = simp (node_placed 0 (omega arith), modes_numbered seed)
