-- The applications of the generated file break no rule
use Rattle.std.proofs.Common.{◌≡◌, ℕ, ◌+◌, ◌*◌, ◌%◌, ◌<◌, ◌≤◌, List, [], ◌∷◌, ◌++◌, Bool, true, pos, None, refl, ap, length, arith, codes, nat_lt}
use Rattle.std.specs.List.{flat_map}
use Rattle.std.proofs.lemmas.Bool.{and_from, le-leb}
use Rattle.std.proofs.lemmas.Nat.{mod_below}
use Rattle.app_graph.specs.declared.faults.GraphFault.{GraphFault}
use Rattle.app_graph.specs.declared.faults.GraphFault.TheVariants.{OutOfRange, Unknown, TooMany}
use Rattle.app_graph.specs.declared.keys.Key.TheVariants.{KNode, KWcet, KBody, KTask}
use Rattle.app_graph.specs.declared.raw.RawTask.{RawTask}
use Rattle.app_graph.specs.declared.raw.RawMessage.{RawMessage}
use Rattle.app_graph.specs.declared.raw.RawApp.{RawApp}
use Rattle.app_graph.proofs.Kept.{all_kept}
use Rattle.app_graph.specs.Rules.{Rule, unless, first_of, each_after}
use Rattle.app_graph.specs.ValueRules.{within, named, among, is_task, own_values, task_rules, task_values, message_values, graph_values, app_rules, app_values}
use Rattle.ttw_text.specs.Names.{is_name}
use Rattle.ttw_text.specs.Numbers.{spelled}
use Rattle.drill.specs.Generated.{below, lettered, wcet_of, first_task, raw_task, raw_message, raw_app, drill_raw}
use Rattle.drill.proofs.Tables.{each_none}
use Rattle.drill.proofs.KeptRules.{first_of_kept, more_kept}

-- the applications before application i
abbrev before : ℕ → ℕ → ℕ → List RawApp
before seed m i = below i (raw_app seed m)

-- their tasks and messages, and the two tasks of application i
abbrev tasks_before : ℕ → ℕ → ℕ → List RawTask
tasks_before seed m i = flat_map (λ a. a.tasks) (before seed m i)

abbrev messages_before : ℕ → ℕ → ℕ → List RawMessage
messages_before seed m i = flat_map (λ a. a.messages) (before seed m i)

abbrev sender : ℕ → ℕ → ℕ → RawTask
sender seed m i = raw_task seed (codes "s") i (2 * i) (first_task m i)

abbrev receiver : ℕ → ℕ → ℕ → RawTask
receiver seed m i = raw_task seed (codes "c") i (2 * i + 1) (first_task m i + 1)

-- the rules of a task but for its wcet
abbrev other_rules : List RawTask → RawTask → List (Rule GraphFault)
other_rules earlier t =
    named t.name (is_task earlier t.name)
    ∷ unless (is_name t.node) (OutOfRange KNode) ∷ unless (among t.node (below 64 (lettered (codes "n")))) (Unknown t.node)
    ∷ unless (is_name t.body) (OutOfRange KBody)
    ∷ unless (nat_lt (length earlier) 128) (TooMany KTask) ∷ []

abbrev others : List RawTask → RawTask → Rule GraphFault
others earlier t = first_of (other_rules earlier t)

-- ---- each rule by a test of all applications that computes: names do not depend on the seed and the mode
own_kept : (seed m i : ℕ) → i < 32 → own_values (before seed m i) (raw_app seed m i) ≡ None
unfolding below spelled
own_kept seed m = each_none _ 32 refl

sender_kept : (seed m i : ℕ) → i < 32 → others (tasks_before seed m i) (sender seed m i) ≡ None
unfolding below spelled
sender_kept seed m = each_none _ 32 refl

receiver_kept : (seed m i : ℕ) → i < 32
    → others (tasks_before seed m i ++ sender seed m i ∷ []) (receiver seed m i) ≡ None
unfolding below spelled
receiver_kept seed m = each_none _ 32 refl

messages_kept : (seed m i : ℕ) → i < 32
    → each_after (message_values (raw_app seed m i)) (messages_before seed m i) (raw_message i ∷ []) ≡ None
unfolding below spelled
messages_kept seed m = each_none _ 32 refl

graph_kept : (seed m i : ℕ) → i < 32 → graph_values (raw_app seed m i) ≡ None
unfolding spelled
graph_kept seed m = each_none _ 32 refl

-- ---- a wcet is from 1 to 9, whatever the seed
wcet_kept : (seed n : ℕ) → within (pos 1) (pos 1000) (wcet_of seed n) ≡ true
wcet_kept seed n =
    let some : 1 ≤ 1 + (seed + n) % 9 = omega arith in
    let few : 1 + (seed + n) % 9 ≤ 1000 = omega (arith, mod_below (seed + n) 9 (omega arith)) in
    and_from _ _ (le-leb 1 (1 + (seed + n) % 9) some) (le-leb (1 + (seed + n) % 9) 1000 few)

task_kept : (seed m i : ℕ) (earlier : List RawTask) (t : RawTask)
    → others earlier t ≡ None → within (pos 1) (pos 1000) t.wcet ≡ true
    → task_values (drill_raw seed) (raw_app seed m i) earlier t ≡ None
unfolding drill_raw
task_kept seed m i earlier t e w =
    let k = all_kept (other_rules earlier t) e in
    let in_period = ap (λ (b : Bool). unless b (OutOfRange KWcet)) w in
    first_of_kept (task_rules (drill_raw seed) (raw_app seed m i) earlier t)
    (k.0, (k.1.0, (k.1.1.0, (in_period, (k.1.1.1.0, (k.1.1.1.1.0, tt))))))

tasks_kept : (seed m i : ℕ) → i < 32
    → each_after (task_values (drill_raw seed) (raw_app seed m i)) (tasks_before seed m i) (raw_app seed m i).tasks ≡ None
tasks_kept seed m i l =
    let earlier = tasks_before seed m i ++ sender seed m i ∷ [] in
    let sends = task_kept seed m i (tasks_before seed m i) (sender seed m i)
    (sender_kept seed m i l) (wcet_kept seed (first_task m i)) in
    let receives = task_kept seed m i earlier (receiver seed m i)
    (receiver_kept seed m i l) (wcet_kept seed (first_task m i + 1)) in
    let rule = task_values (drill_raw seed) (raw_app seed m i) in
    more_kept rule (tasks_before seed m i) (sender seed m i) (receiver seed m i ∷ [])
    sends (more_kept rule earlier (receiver seed m i) [] receives refl)

pub app_kept : (seed m i : ℕ) → i < 32 → app_values (drill_raw seed) (before seed m i) (raw_app seed m i) ≡ None
app_kept seed m i l = first_of_kept (app_rules (drill_raw seed) (before seed m i) (raw_app seed m i))
    (own_kept seed m i l, (tasks_kept seed m i l, (messages_kept seed m i l, (graph_kept seed m i l, tt))))
