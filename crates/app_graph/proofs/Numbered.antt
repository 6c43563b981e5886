-- What a mode set has that is numbered from a file which keeps the rules
use Rattle.std.proofs.Common.{◌≡◌, ℕ, ◌+◌, List, [], ◌∷◌, length, get_or, drop, true, nat_eq, cond, Some, None, sym, ◌∙◌, ap, ◌<◌, subst, arith, ℤ, pos, ◌≤ℤ◌, int_le, All}
use Rattle.std.specs.List.{AllByRecursion}
use Rattle.std.proofs.lemmas.Bool.{and_parts}
use Rattle.std.proofs.lemmas.Int.{ints}
use Rattle.std.proofs.lemmas.List.{drop_more}
use Rattle.std.proofs.lemmas.List.Elements.{All-from_recursion}
use borrow.Author.Differences.{le-true}
use Rattle.app_graph.specs.declared.faults.GraphFault.TheVariants.{OutOfRange}
use Rattle.app_graph.specs.declared.keys.Key.TheVariants.{KPeriod, KDeadline, KWcet}
use Rattle.app_graph.specs.declared.mode_set.Task.{Task}
use Rattle.app_graph.specs.declared.mode_set.App.{App}
use Rattle.app_graph.specs.declared.mode_set.Mode.{Mode}
use Rattle.app_graph.specs.declared.mode_set.ModeSet.{ModeSet}
use Rattle.app_graph.specs.declared.raw.RawTask.{RawTask}
use Rattle.app_graph.specs.declared.raw.RawApp.{RawApp}
use Rattle.app_graph.specs.declared.raw.RawMode.{RawMode}
use Rattle.app_graph.specs.declared.raw.RawSet.{RawSet}
use Rattle.app_graph.specs.Numbering.{tasks_from, apps_from, modes_from, task_count, message_count, set_of}
use Rattle.app_graph.specs.Queries.{Times, latest, offset_in_app}
use Rattle.app_graph.specs.Validation.{KeepsRules}
use Rattle.app_graph.specs.ValueRules.{within, task_values, task_rules, own_rules, app_values, app_rules, mode_values, mode_rules, set_rules}
use Rattle.app_graph.proofs.Kept.{all_kept, each_kept, unless_kept}

between : (low high z : ℤ) → within low high z ≡ true → (low ≤ℤ z) × (z ≤ℤ high)
between low high z e =
    let p = and_parts (int_le low z) (int_le z high) e in
    let l = le-true low z p.0 in
    let h = le-true z high p.1 in
    (omega (arith, ints, l), omega (arith, ints, h))

-- the times of an application as it is written
record RawTimes (app : RawApp) : Type 0 where
  pub period : (pos 1 ≤ℤ app.period) × (app.period ≤ℤ pos 1000000000)
  pub deadline : (pos 1 ≤ℤ app.deadline) × (app.deadline ≤ℤ pos 1000000000000)
  pub wcet : AllByRecursion (λ t. (pos 1 ≤ℤ t.wcet) × (t.wcet ≤ℤ app.period)) app.tasks

task_times : (set : RawSet) (app : RawApp) (earlier : List RawTask) (t : RawTask) → task_values set app earlier t ≡ None → (pos 1 ≤ℤ t.wcet) × (t.wcet ≤ℤ app.period)
task_times set app earlier t e =
    between (pos 1) app.period t.wcet (unless_kept (within (pos 1) app.period t.wcet) (OutOfRange KWcet) (all_kept (task_rules set app earlier t) e).1.1.1.0)

app_times : (set : RawSet) (earlier : List RawApp) (app : RawApp) → app_values set earlier app ≡ None → RawTimes app
app_times set earlier app e =
    let k = all_kept (app_rules set earlier app) e in
    let own = all_kept (own_rules earlier app) k.0 in
    record {
      period = between (pos 1) (pos 1000000000) app.period (unless_kept (within (pos 1) (pos 1000000000) app.period) (OutOfRange KPeriod) own.1.0);
      deadline = between (pos 1) (pos 1000000000000) app.deadline (unless_kept (within (pos 1) (pos 1000000000000) app.deadline) (OutOfRange KDeadline) own.1.1.0);
      wcet = each_kept (task_values set app) (λ t. (pos 1 ≤ℤ t.wcet) × (t.wcet ≤ℤ app.period)) (task_times set app) _ app.tasks k.1.0;
    }

tasks_numbered : (nodes : List (List ℕ)) (p : ℤ) (n : ℕ) (ts : List RawTask) → AllByRecursion (λ t. (pos 1 ≤ℤ t.wcet) × (t.wcet ≤ℤ p)) ts
    → AllByRecursion (λ t. (pos 1 ≤ℤ t.wcet) × (t.wcet ≤ℤ p)) (tasks_from nodes n ts)
tasks_numbered nodes p n [] h = tt
tasks_numbered nodes p n (t ∷ ts) h = (h.0, tasks_numbered nodes p (n + 1) ts h.1)

apps_numbered : (nodes : List (List ℕ)) (t m : ℕ) (apps : List RawApp) → AllByRecursion RawTimes apps → AllByRecursion Times (apps_from nodes t m apps)
apps_numbered nodes t m [] h = tt
apps_numbered nodes t m (a ∷ apps) h = (
  record {
    period = h.0.period;
    deadline = h.0.deadline;
    wcet = All-from_recursion (λ (x : Task). (pos 1 ≤ℤ x.wcet) × (x.wcet ≤ℤ a.period)) (tasks_from nodes t a.tasks) (tasks_numbered nodes a.period t a.tasks h.0.wcet);
  },
  apps_numbered nodes (t + length a.tasks) (m + length a.messages) apps h.1,
)

mode_times : (set : RawSet) (earlier : List RawMode) (mode : RawMode) → mode_values set earlier mode ≡ None → AllByRecursion RawTimes mode.apps
mode_times set earlier mode e = each_kept (app_values set) RawTimes (app_times set) [] mode.apps (all_kept (mode_rules set earlier mode) e).1.1.0

modes_numbered : (nodes : List (List ℕ)) (t m : ℕ) (modes : List RawMode) → AllByRecursion (λ o. AllByRecursion RawTimes o.apps) modes
    → AllByRecursion (λ o. All Times o.apps) (modes_from nodes t m modes)
modes_numbered nodes t m [] h = tt
modes_numbered nodes t m (o ∷ modes) h = (
  All-from_recursion Times (apps_from nodes t m o.apps) (apps_numbered nodes t m o.apps h.0),
  modes_numbered nodes (t + task_count o) (m + message_count o) modes h.1,
)

pub set_times : (set : ModeSet) → KeepsRules set → All (λ o. All Times o.apps) set.modes
set_times set k =
    let raw = k.0 in
    let each = each_kept (mode_values raw) (λ o. AllByRecursion RawTimes o.apps) (mode_times raw) [] raw.modes (all_kept (set_rules raw) k.1).1.1.1.1.0 in
    subst (λ (s : ModeSet). All (λ o. All Times o.apps) s.modes) (sym k.2)
    (All-from_recursion (λ (o : Mode). All Times o.apps) (set_of raw).modes (modes_numbered raw.nodes 0 0 raw.modes each))

-- the task at place i has the number
pub offset_here : (task : ℕ) (app : App) (ts : List Task) (i : ℕ) (t : Task) → i < length ts → t ≡ get_or ts i t → nat_eq t.number task ≡ true
    → offset_in_app task app (drop i ts) ≡ Some (latest app t)
offset_here task app ts i t l e n =
    ap (offset_in_app task app) (drop_more ts i t l)
    ∙ ap (λ (u : Task). cond (nat_eq u.number task) (Some (latest app u)) (offset_in_app task app (drop (i + 1) ts))) (sym e)
    ∙ ap (λ b. cond b (Some (latest app t)) (offset_in_app task app (drop (i + 1) ts))) n
