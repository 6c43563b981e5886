-- The names of a set that keeps the rules are names of a document.
use Rattle.std.proofs.Common.{◌≡◌, ℕ, ◌+◌, Bool, true, not, List, [], ◌∷◌, ◌++◌, length, None, sym, subst}
use Rattle.std.specs.List.{AllByRecursion, flat_map}
use Rattle.app_graph.specs.declared.faults.GraphFault.{GraphFault}
use Rattle.app_graph.specs.declared.faults.GraphFault.TheVariants.{OutOfRange, Repeated}
use Rattle.app_graph.specs.declared.keys.Key.TheVariants.{KName}
use Rattle.app_graph.specs.declared.raw.RawTask.{RawTask}
use Rattle.app_graph.specs.declared.raw.RawMessage.{RawMessage}
use Rattle.app_graph.specs.declared.raw.RawApp.{RawApp}
use Rattle.app_graph.specs.declared.raw.RawMode.{RawMode}
use Rattle.app_graph.specs.declared.raw.RawSet.{RawSet}
use Rattle.app_graph.specs.declared.mode_set.ModeSet.{ModeSet}
use Rattle.app_graph.specs.declared.mode_set.Mode.{Mode}
use Rattle.app_graph.specs.declared.mode_set.Task.{Task}
use Rattle.app_graph.specs.declared.mode_set.Message.{Message}
use Rattle.app_graph.specs.Rules.{Rule, unless, each_after}
use Rattle.app_graph.specs.ValueRules.{named, is_mode, is_task, is_message, task_values, task_rules, message_values, message_rules, app_values, app_rules, mode_values, mode_rules, set_rules}
use Rattle.app_graph.specs.Numbering.{tasks_from, messages_from, apps_from, modes_from, task_count, message_count}
use Rattle.app_graph.specs.Validation.{KeepsRules}
use Rattle.app_graph.proofs.Kept.{kept_parts, all_kept, unless_kept, each_kept}
use Rattle.ttw_text.specs.Names.{is_name}
use Rattle.proof_tree.specs.Names.{tasks_in, messages_in}

abbrev pub IsName : List ℕ → Type 0
IsName name = is_name name ≡ true

named_good : (name : List ℕ) (taken : Bool) → ◌≡◌ {A = Rule GraphFault} (named name taken) None → IsName name
named_good name taken e = unless_kept (is_name name) (OutOfRange KName) (kept_parts (unless (is_name name) (OutOfRange KName)) (unless (not taken) (Repeated name) ∷ []) e).0

-- ---- the names of a mode

abbrev RawNames : RawApp → Type 0
RawNames app = AllByRecursion (λ (t : RawTask). IsName t.name) app.tasks × AllByRecursion (λ (m : RawMessage). IsName m.name) app.messages

app_names : (set : RawSet) (earlier : List RawApp) (app : RawApp) → app_values set earlier app ≡ None → RawNames app
app_names set earlier app e =
    let k = all_kept (app_rules set earlier app) e in (
      each_kept (task_values set app) (λ (t : RawTask). IsName t.name) (λ before t h. named_good t.name (is_task before t.name) (all_kept (task_rules set app before t) h).0) (flat_map (λ a. a.tasks) earlier) app.tasks k.1.0,
      each_kept (message_values app) (λ (m : RawMessage). IsName m.name) (λ before m h. named_good m.name (is_message before m.name) (all_kept (message_rules app before m) h).0) (flat_map (λ a. a.messages) earlier) app.messages k.1.1.0,
    )

pub all_append : {X : Type 0} (P : X → Type 0) (xs ys : List X) → AllByRecursion P xs → AllByRecursion P ys → AllByRecursion P (xs ++ ys)
all_append P [] ys a b = b
all_append P (x ∷ xs) ys a b = (a.0, all_append P xs ys a.1 b)

tasks_good : (nodes : List (List ℕ)) (t : ℕ) (us : List RawTask) → AllByRecursion (λ (u : RawTask). IsName u.name) us → AllByRecursion (λ (u : Task). IsName u.name) (tasks_from nodes t us)
tasks_good nodes t [] h = tt
tasks_good nodes t (u ∷ us) h = (h.0, tasks_good nodes (t + 1) us h.1)

messages_good : (t n : ℕ) (us : List RawTask) (ms : List RawMessage) → AllByRecursion (λ (m : RawMessage). IsName m.name) ms → AllByRecursion (λ (m : Message). IsName m.name) (messages_from t us n ms)
messages_good t n us [] h = tt
messages_good t n us (m ∷ ms) h = (h.0, messages_good t (n + 1) us ms h.1)

-- the names of a mode, of its tasks and of its messages
pub record HasNames (mode : Mode) : Type 0 where
  pub own : IsName mode.name
  pub tasks : AllByRecursion (λ (u : Task). IsName u.name) (tasks_in mode.apps)
  pub messages : AllByRecursion (λ (m : Message). IsName m.name) (messages_in mode.apps)

apps_good : (nodes : List (List ℕ)) (t n : ℕ) (apps : List RawApp) → AllByRecursion RawNames apps
    → AllByRecursion (λ (u : Task). IsName u.name) (tasks_in (apps_from nodes t n apps)) × AllByRecursion (λ (m : Message). IsName m.name) (messages_in (apps_from nodes t n apps))
apps_good nodes t n [] h = (tt, tt)
apps_good nodes t n (a ∷ apps) h =
    let others = apps_good nodes (t + length a.tasks) (n + length a.messages) apps h.1 in
    let behind = apps_from nodes (t + length a.tasks) (n + length a.messages) apps in (
      all_append (λ (u : Task). IsName u.name) (tasks_from nodes t a.tasks) (tasks_in behind) (tasks_good nodes t a.tasks h.0.0) others.0,
      all_append (λ (m : Message). IsName m.name) (messages_from t a.tasks n a.messages) (messages_in behind) (messages_good t n a.tasks a.messages h.0.1) others.1,
    )

modes_good : (set : RawSet) (nodes : List (List ℕ)) (t n : ℕ) (earlier raws : List RawMode) → each_after (mode_values set) earlier raws ≡ None → AllByRecursion HasNames (modes_from nodes t n raws)
modes_good set nodes t n earlier [] e = tt
modes_good set nodes t n earlier (raw ∷ raws) e =
    let rest = each_after (mode_values set) (earlier ++ raw ∷ []) raws in
    let k = kept_parts (mode_values set earlier raw) (rest ∷ []) e in
    let rules = all_kept (mode_rules set earlier raw) k.0 in
    let apps = apps_good nodes t n raw.apps (each_kept (app_values set) RawNames (app_names set) [] raw.apps rules.1.1.0) in
    (record { own = named_good raw.name (is_mode earlier raw.name) rules.0; tasks = apps.0; messages = apps.1 }, modes_good set nodes (t + task_count raw) (n + message_count raw) (earlier ++ raw ∷ []) raws (kept_parts rest [] k.1).0)

pub modes_have_names : (set : ModeSet) → KeepsRules set → AllByRecursion HasNames set.modes
modes_have_names set (raw, e, same) =
    subst (λ (x : ModeSet). AllByRecursion HasNames x.modes) (sym same) (modes_good raw raw.nodes 0 0 [] raw.modes (all_kept (set_rules raw) e).1.1.1.1.0)
