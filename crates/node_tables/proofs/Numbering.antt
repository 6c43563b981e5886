-- Tasks and messages of a mode have numbers that follow each other
use Rattle.std.proofs.Common.{◌≡◌, ℕ, zero, suc, ◌+◌, ◌*◌, ◌<◌, ◌≤◌, None, List, [], ◌∷◌, length, get_or, refl, sym, ◌∙◌, ap, subst, arith}
use Rattle.std.proofs.lemmas.List.{get_or-map, length-map}
use Rattle.app_graph.specs.declared.raw.RawApp.{RawApp}
use Rattle.app_graph.specs.declared.raw.RawMode.{RawMode}
use Rattle.app_graph.specs.declared.raw.RawSet.{RawSet}
use Rattle.app_graph.specs.declared.faults.GraphFault.TheVariants.{TooMany}
use Rattle.app_graph.specs.declared.keys.Key.TheVariants.{KNodes}
use Rattle.app_graph.specs.ValueRules.{set_rules, node_rules, value_rules, at_most}
use Rattle.app_graph.proofs.Kept.{all_kept, unless_kept}
use Rattle.sched_model.proofs.KeptRules.{KeptMode, kept_set}
use Rattle.std.specs.List.{AllByRecursion}
use Rattle.std.proofs.lemmas.Bool.{leb-true}
use Rattle.std.proofs.lemmas.List.Concat.{length-flat_map}
use Rattle.app_graph.specs.declared.mode_set.Mode.{Mode}
use Rattle.app_graph.specs.declared.mode_set.App.{App}
use Rattle.app_graph.specs.declared.mode_set.ModeSet.{ModeSet}
use Rattle.app_graph.specs.Numbering.{apps_from, mode_of, modes_from, task_count, message_count}
use Rattle.app_graph.specs.Validation.{KeepsRules}
use Rattle.sched_model.specs.PlainMode.{PlainTask, no_task, no_message, task_at, message_at, tasks_of, plain_task, plain_messages, mode_at, plain_at}
use Rattle.sched_model.proofs.PlainPlaces.{nothing, task_found, task_there, message_found}

abbrev no_mode : Mode
no_mode = record { name = []; apps = [] }

-- each mode is that of a raw one, with a first task and a first message
record Raw (nodes : List (List ℕ)) (t m i : ℕ) (mode : Mode) : Type 0 where
  pub first_task : ℕ
  pub first_message : ℕ
  pub raw : RawMode
  pub is : mode ≡ mode_of nodes first_task first_message raw
  pub task_low : first_task ≤ t + 128 * i
  pub message_low : first_message ≤ m + 64 * i

raw_mode : (set : RawSet) (nodes : List (List ℕ)) (t m : ℕ) (raws : List RawMode) → AllByRecursion (KeptMode set) raws → (i : ℕ) → i < length (modes_from nodes t m raws) →
    Raw nodes t m i (get_or (modes_from nodes t m raws) i no_mode)
raw_mode set nodes t m [] few i l = absurd (omega (arith, l))
raw_mode set nodes t m (raw ∷ raws) few zero l = record { first_task = t; first_message = m; raw = raw; is = refl; task_low = omega arith; message_low = omega arith }
raw_mode set nodes t m (raw ∷ raws) few (suc i) l =
    let r = raw_mode set nodes (t + task_count raw) (m + message_count raw) raws few.1 i (omega (arith, l)) in
    let ts : task_count raw ≤ 128 = omega (arith, length-flat_map (λ (a : RawApp). a.tasks) raw.apps, few.0.tasks) in
    let ms : message_count raw ≤ 64 = omega (arith, length-flat_map (λ (a : RawApp). a.messages) raw.apps, few.0.messages) in
    record { first_task = r.first_task; first_message = r.first_message; raw = r.raw; is = r.is; task_low = omega (arith, r.task_low, ts); message_low = omega (arith, r.message_low, ms) }

-- the first numbers of the tasks and of the messages
pub record Numbered (set : ModeSet) (i : ℕ) : Type 0 where
  pub task : ℕ
  pub message : ℕ
  pub task_low : task ≤ 128 * i
  pub message_low : message ≤ 64 * i
  pub tasks : (a : ℕ) → a < length (plain_at set i).tasks → (task_at (plain_at set i) a).number ≡ task + a
  pub messages : (j : ℕ) → j < length (plain_at set i).messages → (message_at (plain_at set i) j).number ≡ message + j

task_number : (nodes : List (List ℕ)) (u n : ℕ) (raw : RawMode) (a : ℕ) → let ts = tasks_of 0 (apps_from nodes u n raw.apps) in
    a < length ts → (get_or ts a nothing).task.number ≡ u + a
task_number nodes u n raw a l =
    let f = task_found nodes 0 u n raw.apps a l in
    let is = (task_there nodes 0 u n raw.apps f.0 f.2 f.3 f.1 f.4).1 in
    ap (λ y. (get_or (tasks_of 0 (apps_from nodes u n raw.apps)) y nothing).task.number) f.5 ∙ is.number ∙ (let s : u + (f.0 + f.1) ≡ u + a = omega (arith, f.5) in s)

message_number : (nodes : List (List ℕ)) (u n : ℕ) (raw : RawMode) (j : ℕ) → let apps = apps_from nodes u n raw.apps in
    j < length (plain_messages (tasks_of 0 apps) apps) → (get_or (plain_messages (tasks_of 0 apps) apps) j no_message).number ≡ n + j
message_number nodes u n raw j l = (message_found nodes (tasks_of 0 (apps_from nodes u n raw.apps)) u n raw.apps j l).5.number

of_apps : (set : ModeSet) (i : ℕ) (nodes : List (List ℕ)) (u n : ℕ) (raw : RawMode) → u ≤ 128 * i → n ≤ 64 * i → (mode_at set i).apps ≡ apps_from nodes u n raw.apps → Numbered set i
of_apps set i nodes u n raw ul nl same = record {
  task = u;
  message = n;
  task_low = ul;
  message_low = nl;
  tasks = λ a l.
      let ts = tasks_of 0 (mode_at set i).apps in
      let h : a < length ts = omega (arith, l, length-map ts plain_task) in
      ap (λ (x : PlainTask). x.number) (get_or-map plain_task ts a nothing no_task h)
      ∙ ap (λ (l : List App). (get_or (tasks_of 0 l) a nothing).task.number) same
      ∙ task_number nodes u n raw a (subst (λ (l : List App). a < length (tasks_of 0 l)) same h);
  messages = λ j l.
      ap (λ (l : List App). (get_or (plain_messages (tasks_of 0 l) l) j no_message).number) same
      ∙ message_number nodes u n raw j (subst (λ (l : List App). j < length (plain_messages (tasks_of 0 l) l)) same l);
}

pub numbered : (set : ModeSet) → KeepsRules set → (i : ℕ) → i < length set.modes → Numbered set i
numbered set keeps i l =
    let raw = keeps.0 in
    let same = ap (λ (x : ModeSet). x.modes) keeps.2 in
    let r = raw_mode raw raw.nodes 0 0 raw.modes (kept_set raw keeps.1).modes i (subst (λ (l : List Mode). i < length l) same l) in
    of_apps set i raw.nodes r.first_task r.first_message r.raw (omega (arith, r.task_low)) (omega (arith, r.message_low))
    (ap (λ (l : List Mode). (get_or l i no_mode).apps) same ∙ ap (λ (x : Mode). x.apps) r.is)

-- ---- the number of nodes
raw_nodes : (raw : RawSet) → value_rules raw ≡ None → length raw.nodes ≤ 64
raw_nodes raw e =
    let k = all_kept (set_rules raw) e in
    let n = all_kept (node_rules raw) k.1.0 in
    leb-true (length raw.nodes) 64 (unless_kept (at_most 64 raw.nodes) (TooMany KNodes) n.1.0)

pub few_nodes : (set : ModeSet) → KeepsRules set → length set.nodes ≤ 64
few_nodes set (raw, e, same) = subst (λ (s : ModeSet). length s.nodes ≤ 64) (sym same) (raw_nodes raw e)
