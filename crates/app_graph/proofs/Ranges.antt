-- The tasks of a mode set that keeps the rules are numbered mode by mode, and messages go from them to them
use Rattle.std.proofs.Common.{◌≡◌, ℕ, suc, ◌+◌, ◌<◌, ◌≤◌, Bool, true, false, cond, List, [], ◌∷◌, length, sum_by, Some, None, unwrap_or, refl, sym, ap, subst, arith, ltb}
use Rattle.std.specs.List.{AllByRecursion, position_or_len}
use Rattle.std.specs.Str.{bytes_eq}
use Rattle.std.proofs.lemmas.Bool.{ltb-true}
use Rattle.std.proofs.lemmas.List.Elements.{All-from_recursion}
use Rattle.std.proofs.lemmas.List.Sums.{sum_by-cons}
use Rattle.app_graph.specs.declared.faults.GraphFault.TheVariants.{OutOfRange}
use Rattle.app_graph.specs.declared.keys.Key.TheVariants.{KTask}
use Rattle.app_graph.specs.declared.mode_set.App.{App}
use Rattle.app_graph.specs.declared.mode_set.ModeSet.{ModeSet}
use Rattle.app_graph.specs.declared.raw.RawTask.{RawTask}
use Rattle.app_graph.specs.declared.raw.RawMessage.{RawMessage}
use Rattle.app_graph.specs.declared.raw.RawApp.{RawApp}
use Rattle.app_graph.specs.declared.raw.RawMode.{RawMode}
use Rattle.app_graph.specs.declared.raw.RawSet.{RawSet}
use Rattle.app_graph.specs.Numbering.{task_place, numbers_of, tasks_from, messages_from, apps_from, app_of, mode_of, modes_from, task_count, message_count}
use Rattle.app_graph.specs.Reaching.{HasEnds, EndsWithin, EndsBetween, count_of, Numbered}
use Rattle.app_graph.specs.Validation.{KeepsRules}
use Rattle.app_graph.specs.ValueRules.{has_some, own_rules, app_values, app_rules, mode_values, mode_rules, set_rules}
use Rattle.app_graph.proofs.Kept.{all_kept, each_kept, unless_kept, mode_tasks, set_tasks}

place_low : (tasks : List RawTask) (name : List ℕ) → 0 < length tasks → task_place tasks name < length tasks
place_low tasks name some = by_test (ltb q (length tasks)) refl
  where
    q : ℕ
    q = position_or_len (λ (t : RawTask). bytes_eq name t.name) tasks

    by_test : (b : Bool) → ltb q (length tasks) ≡ b → unwrap_or (cond b (Some q) None) 0 < length tasks
    by_test true e = ltb-true q (length tasks) e
    by_test false e = some

numbers_between : (t end : ℕ) (tasks : List RawTask) → 0 < length tasks → t + length tasks ≤ end → (first : ℕ) → first ≤ t → (names : List (List ℕ)) → AllByRecursion (λ n. (first ≤ n) × (n < end)) (numbers_of t tasks names)
numbers_between t end tasks some l first low [] = tt
numbers_between t end tasks some l first low (name ∷ names) =
    ((omega (arith, low), omega (arith, place_low tasks name some, l)), numbers_between t end tasks some l first low names)

messages_between : (t end : ℕ) (tasks : List RawTask) → 0 < length tasks → t + length tasks ≤ end → (first : ℕ) → first ≤ t → (n : ℕ) (ms : List RawMessage) → AllByRecursion (HasEnds first end) (messages_from t tasks n ms)
messages_between t end tasks some l first low n [] = tt
messages_between t end tasks some l first low n (m ∷ ms) = (
  record {
    from = All-from_recursion (λ k. (first ≤ k) × (k < end)) (numbers_of t tasks m.from) (numbers_between t end tasks some l first low m.from);
    to = All-from_recursion (λ k. (first ≤ k) × (k < end)) (numbers_of t tasks m.to) (numbers_between t end tasks some l first low m.to);
  },
  messages_between t end tasks some l first low (n + 1) ms,
)

abbrev Tasks : RawApp → Type 0
Tasks app = 0 < length app.tasks

apps_between : (nodes : List (List ℕ)) (first end t n : ℕ) (apps : List RawApp) → AllByRecursion Tasks apps → first ≤ t → t + sum_by (λ (a : RawApp). length a.tasks) apps ≤ end
    → AllByRecursion (EndsWithin first end) (apps_from nodes t n apps)
apps_between nodes first end t n [] all low l = tt
apps_between nodes first end t n (a ∷ apps) all low l =
    let sum = sum_by-cons (λ (a : RawApp). length a.tasks) a apps in
    let here : t + length a.tasks ≤ end = omega (arith, sum, l) in (
      record { messages = All-from_recursion (HasEnds first end) (messages_from t a.tasks n a.messages) (messages_between t end a.tasks all.0 here first low n a.messages) },
      apps_between nodes first end (t + length a.tasks) (n + length a.messages) apps all.1 (omega (arith, low)) (omega (arith, sum, l)),
    )

length_tasks : (nodes : List (List ℕ)) (t : ℕ) (ts : List RawTask) → length (tasks_from nodes t ts) ≡ length ts
length_tasks nodes t [] = refl
length_tasks nodes t (u ∷ ts) = ap suc (length_tasks nodes (t + 1) ts)

apps_count : (nodes : List (List ℕ)) (t n : ℕ) (apps : List RawApp) → sum_by (λ (a : App). length a.tasks) (apps_from nodes t n apps) ≡ sum_by (λ (a : RawApp). length a.tasks) apps
apps_count nodes t n [] = refl
apps_count nodes t n (a ∷ apps) = omega (
  arith,
  sum_by-cons (λ (a : RawApp). length a.tasks) a apps,
  sum_by-cons (λ (a : App). length a.tasks) (app_of nodes t n a) (apps_from nodes (t + length a.tasks) (n + length a.messages) apps),
  apps_count nodes (t + length a.tasks) (n + length a.messages) apps,
  length_tasks nodes t a.tasks,
)

-- what the rules keep of a mode
record Mannered (mode : RawMode) : Type 0 where
  pub few : task_count mode ≤ 128
  pub some : AllByRecursion Tasks mode.apps

modes_between : (nodes : List (List ℕ)) (t n : ℕ) (modes : List RawMode) → AllByRecursion Mannered modes → t + sum_by task_count modes ≤ 1024 → Numbered t (modes_from nodes t n modes)
modes_between nodes t n [] all l = tt
modes_between nodes t n (o ∷ modes) all l =
    let sum = sum_by-cons task_count o modes in
    let count : task_count o ≡ count_of (mode_of nodes t n o) = sym (apps_count nodes t n o.apps) in
    subst (λ (k : ℕ). (k ≤ 128) × (t + k ≤ 1024) × EndsBetween t (t + k) (mode_of nodes t n o) × Numbered (t + k) (modes_from nodes (t + task_count o) (n + message_count o) modes)) count (
      all.0.few,
      omega (arith, sum, l),
      All-from_recursion (EndsWithin t (t + task_count o)) (apps_from nodes t n o.apps) (apps_between nodes t (t + task_count o) t n o.apps all.0.some (omega arith) (omega arith)),
      modes_between nodes (t + task_count o) (n + message_count o) modes all.1 (omega (arith, sum, l)),
    )

app_some : (set : RawSet) (earlier : List RawApp) (app : RawApp) → app_values set earlier app ≡ None → Tasks app
app_some set earlier app e =
    ltb-true 0 (length app.tasks) (unless_kept (has_some app.tasks) (OutOfRange KTask) (all_kept (own_rules earlier app) (all_kept (app_rules set earlier app) e).0).1.1.1.0)

mode_mannered : (set : RawSet) (earlier : List RawMode) (mode : RawMode) → mode_values set earlier mode ≡ None → Mannered mode
mode_mannered set earlier mode e = record {
  few = mode_tasks set earlier mode e;
  some = each_kept (app_values set) Tasks (app_some set) [] mode.apps (all_kept (mode_rules set earlier mode) e).1.1.0;
}

pub set_numbered : (set : ModeSet) → KeepsRules set → Numbered 0 set.modes
set_numbered set (raw, kept, is) =
    let each = each_kept (mode_values raw) Mannered (mode_mannered raw) [] raw.modes (all_kept (set_rules raw) kept).1.1.1.1.0 in
    subst (λ (s : ModeSet). Numbered 0 s.modes) (sym is) (modes_between raw.nodes 0 0 raw.modes each (omega (arith, set_tasks raw kept)))
