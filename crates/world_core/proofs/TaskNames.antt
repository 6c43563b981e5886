-- The names of the bodies of tasks are texts, and a task's number is its place
use Rattle.std.proofs.Common.{◌≡◌, ℕ, suc, ◌+◌, ◌<◌, true, nat_le, ◌&&◌, All, List, [], ◌∷◌, ◌++◌, length, refl, sym, ◌∙◌, ap, subst, arith, length-append}
use Rattle.std.specs.Prelude.{None}
use Rattle.std.specs.List.{AllByRecursion, flat_map, list_all, sum_by}
use Rattle.std.specs.Str.{IsUtf8}
use Rattle.std.proofs.lemmas.Bool.{and_parts}
use Rattle.std.proofs.lemmas.List.Elements.{All-from_recursion}
use Rattle.std.proofs.lemmas.List.Sums.{sum_by-cons}
use Rattle.std.proofs.lemmas.Str.{IsUtf8-from_ascii}
use Rattle.std.proofs.lemmas.Str.Ascii.{IsAscii-from_all}
use Rattle.ttw_text.specs.Names.{is_name, is_name_byte}
use Rattle.app_graph.specs.declared.faults.GraphFault.TheVariants.{OutOfRange}
use Rattle.app_graph.specs.declared.keys.Key.TheVariants.{KBody}
use Rattle.app_graph.specs.declared.mode_set.App.{App}
use Rattle.app_graph.specs.declared.mode_set.Mode.{Mode}
use Rattle.app_graph.specs.declared.mode_set.ModeSet.{ModeSet}
use Rattle.app_graph.specs.declared.mode_set.Task.{Task}
use Rattle.app_graph.specs.declared.raw.RawApp.{RawApp}
use Rattle.app_graph.specs.declared.raw.RawMode.{RawMode}
use Rattle.app_graph.specs.declared.raw.RawSet.{RawSet}
use Rattle.app_graph.specs.declared.raw.RawTask.{RawTask}
use Rattle.app_graph.specs.Numbering.{tasks_from, apps_from, modes_from, task_count, message_count}
use Rattle.app_graph.specs.Validation.{KeepsRules}
use Rattle.app_graph.specs.ValueRules.{task_values, task_rules, app_values, app_rules, mode_values, mode_rules, set_rules}
use Rattle.app_graph.proofs.Kept.{all_kept, each_kept, unless_kept}
use Rattle.world_core.specs.TaskBodies.{HasTexts, tasks_in}

-- ---- texts

small : (b : ℕ) → is_name_byte b ≡ true → b < 128
small b e = grind (arith, e)

all_small : (bs : List ℕ) → list_all is_name_byte bs ≡ true → AllByRecursion (λ b. b < 128) bs
all_small [] e = tt
all_small (b ∷ bs) e = let p = and_parts (is_name_byte b) (list_all is_name_byte bs) e in (small b p.0, all_small bs p.1)

pub name_text : (name : List ℕ) → is_name name ≡ true → IsUtf8 name
name_text name e =
    let q = and_parts (nat_le 1 (length name) && nat_le (length name) 32) (list_all is_name_byte name) e in
    IsUtf8-from_ascii name (IsAscii-from_all name (All-from_recursion (λ b. b < 128) name (all_small name q.1)))

-- the body's name of a task, as it is written, is a text
abbrev HasText : RawTask → Type 0
HasText t = IsUtf8 t.body

task_text : (set : RawSet) (app : RawApp) (earlier : List RawTask) (t : RawTask) → task_values set app earlier t ≡ None → HasText t
task_text set app earlier t e = name_text t.body (unless_kept (is_name t.body) (OutOfRange KBody) (all_kept (task_rules set app earlier t) e).1.1.1.1.0)

app_texts : (set : RawSet) (earlier : List RawApp) (app : RawApp) → app_values set earlier app ≡ None → AllByRecursion HasText app.tasks
app_texts set earlier app e = each_kept (task_values set app) HasText (task_text set app) _ app.tasks (all_kept (app_rules set earlier app) e).1.0

mode_texts : (set : RawSet) (earlier : List RawMode) (mode : RawMode) → mode_values set earlier mode ≡ None → AllByRecursion (λ (a : RawApp). AllByRecursion HasText a.tasks) mode.apps
mode_texts set earlier mode e = each_kept (app_values set) (λ (a : RawApp). AllByRecursion HasText a.tasks) (app_texts set) [] mode.apps (all_kept (mode_rules set earlier mode) e).1.1.0

tasks_have : (nodes : List (List ℕ)) (n : ℕ) (ts : List RawTask) → AllByRecursion HasText ts → AllByRecursion (λ (t : Task). IsUtf8 t.body) (tasks_from nodes n ts)
tasks_have nodes n [] h = tt
tasks_have nodes n (t ∷ ts) h = (h.0, tasks_have nodes (n + 1) ts h.1)

apps_have : (nodes : List (List ℕ)) (t m : ℕ) (apps : List RawApp) → AllByRecursion (λ (a : RawApp). AllByRecursion HasText a.tasks) apps → AllByRecursion HasTexts (apps_from nodes t m apps)
apps_have nodes t m [] h = tt
apps_have nodes t m (a ∷ apps) h =
    (All-from_recursion (λ (t : Task). IsUtf8 t.body) (tasks_from nodes t a.tasks) (tasks_have nodes t a.tasks h.0), apps_have nodes (t + length a.tasks) (m + length a.messages) apps h.1)

modes_have : (nodes : List (List ℕ)) (t m : ℕ) (modes : List RawMode) → AllByRecursion (λ (x : RawMode). AllByRecursion (λ (a : RawApp). AllByRecursion HasText a.tasks) x.apps) modes →
    AllByRecursion (λ (x : Mode). All HasTexts x.apps) (modes_from nodes t m modes)
modes_have nodes t m [] h = tt
modes_have nodes t m (x ∷ modes) h =
    (All-from_recursion HasTexts (apps_from nodes t m x.apps) (apps_have nodes t m x.apps h.0), modes_have nodes (t + task_count x) (m + message_count x) modes h.1)

-- the names of all bodies of a set are texts
pub set_texts : (set : ModeSet) → KeepsRules set → All (λ (x : Mode). All HasTexts x.apps) set.modes
set_texts set (raw, kept, is) =
    let each = each_kept (mode_values raw) (λ (x : RawMode). AllByRecursion (λ (a : RawApp). AllByRecursion HasText a.tasks) x.apps) (mode_texts raw) [] raw.modes (all_kept (set_rules raw) kept).1.1.1.1.0 in
    subst (λ (s : ModeSet). All (λ (x : Mode). All HasTexts x.apps) s.modes) (sym is)
    (All-from_recursion (λ (x : Mode). All HasTexts x.apps) (modes_from raw.nodes 0 0 raw.modes) (modes_have raw.nodes 0 0 raw.modes each))

-- ---- numbers

-- the tasks have the numbers n, n + 1, ..
abbrev pub NumberedFrom : ℕ → List Task → Type 0
NumberedFrom n [] = Unit {0}
NumberedFrom n (t ∷ ts) = (t.number ≡ n) × NumberedFrom (suc n) ts

numbered_append : (n : ℕ) (xs ys : List Task) → NumberedFrom n xs → NumberedFrom (n + length xs) ys → NumberedFrom n (xs ++ ys)
numbered_append n [] ys hx hy = subst (λ (k : ℕ). NumberedFrom k ys) (let e : n + 0 ≡ n = omega arith in e) hy
numbered_append n (x ∷ xs) ys hx hy = (hx.0, numbered_append (suc n) xs ys hx.1 (subst (λ (k : ℕ). NumberedFrom k ys) (let e : n + suc (length xs) ≡ suc n + length xs = omega arith in e) hy))

tasks_numbered : (nodes : List (List ℕ)) (n : ℕ) (ts : List RawTask) → NumberedFrom n (tasks_from nodes n ts)
tasks_numbered nodes n [] = tt
tasks_numbered nodes n (t ∷ ts) = (refl, subst (λ (k : ℕ). NumberedFrom k (tasks_from nodes (n + 1) ts)) (let e : n + 1 ≡ suc n = omega arith in e) (tasks_numbered nodes (n + 1) ts))

tasks_count : (nodes : List (List ℕ)) (n : ℕ) (ts : List RawTask) → length (tasks_from nodes n ts) ≡ length ts
tasks_count nodes n [] = refl
tasks_count nodes n (t ∷ ts) = ap suc (tasks_count nodes (n + 1) ts)

abbrev app_tasks : App → List Task
app_tasks app = app.tasks

apps_numbered : (nodes : List (List ℕ)) (t m : ℕ) (apps : List RawApp) → NumberedFrom t (flat_map app_tasks (apps_from nodes t m apps)) × (length (flat_map app_tasks (apps_from nodes t m apps)) ≡ sum_by (λ (a : RawApp). length a.tasks) apps)
apps_numbered nodes t m [] = (tt, refl)
apps_numbered nodes t m (a ∷ apps) =
    let here = tasks_from nodes t a.tasks in
    let rest = flat_map app_tasks (apps_from nodes (t + length a.tasks) (m + length a.messages) apps) in
    let len = tasks_count nodes t a.tasks in
    let ih = apps_numbered nodes (t + length a.tasks) (m + length a.messages) apps in (
      numbered_append t here rest (tasks_numbered nodes t a.tasks) (subst (λ (k : ℕ). NumberedFrom (t + k) rest) (sym len) ih.0),
      length-append here rest ∙ (let e : length here + length rest ≡ length a.tasks + sum_by (λ (b : RawApp). length b.tasks) apps = omega (arith, len, ih.1) in e) ∙ sym (sum_by-cons (λ (b : RawApp). length b.tasks) a apps),
    )

modes_numbered : (nodes : List (List ℕ)) (t m : ℕ) (modes : List RawMode) → NumberedFrom t (flat_map tasks_in (modes_from nodes t m modes))
modes_numbered nodes t m [] = tt
modes_numbered nodes t m (x ∷ modes) =
    let here = apps_numbered nodes t m x.apps in
    let rest = flat_map tasks_in (modes_from nodes (t + task_count x) (m + message_count x) modes) in
    numbered_append t (flat_map app_tasks (apps_from nodes t m x.apps)) rest here.0
    (subst (λ (k : ℕ). NumberedFrom (t + k) rest) (sym here.1) (modes_numbered nodes (t + task_count x) (m + message_count x) modes))

-- the tasks of a set are numbered from 0
pub set_numbers : (set : ModeSet) → KeepsRules set → NumberedFrom 0 (flat_map tasks_in set.modes)
set_numbers set (raw, kept, is) = subst (λ (s : ModeSet). NumberedFrom 0 (flat_map tasks_in s.modes)) (sym is) (modes_numbered raw.nodes 0 0 raw.modes)
