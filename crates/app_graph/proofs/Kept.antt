-- What a mode set has that keeps the rules
use Rattle.std.proofs.Common.{◌≡◌, ℕ, ◌+◌, ◌<◌, ◌≤◌, Bool, true, false, List, [], ◌∷◌, ◌++◌, length, sum_by, Some, None, refl, arith, ℤ, pos, ◌≤ℤ◌, ◌<ℤ◌, length-append, nat_lt, nat_le, int_le, All}
use Rattle.std.specs.List.{flat_map, AllByRecursion}
use Rattle.std.proofs.lemmas.Bool.{and_parts}
use Rattle.std.proofs.lemmas.List.Elements.{All-from_recursion}
use Rattle.std.proofs.lemmas.List.Concat.{length-flat_map}
use Rattle.std.proofs.lemmas.List.Sums.{sum_by_push, sum_by-cons, sum_by-le}
use Rattle.std.proofs.lemmas.Int.{ints}
use borrow.Author.Differences.{le-true}
use borrow.Author.Tests.{ltb-true, leb-true}
use Rattle.app_graph.specs.declared.faults.GraphFault.TheVariants.{OutOfRange, TooMany}
use Rattle.app_graph.specs.declared.keys.Key.TheVariants.{KTask, KMessage, KPeriod, KCopies, KRound, KMode, KNodes, KSlots}
use Rattle.app_graph.specs.declared.raw.RawTask.{RawTask}
use Rattle.app_graph.specs.declared.raw.RawMessage.{RawMessage}
use Rattle.app_graph.specs.declared.raw.RawApp.{RawApp}
use Rattle.app_graph.specs.declared.raw.RawMode.{RawMode}
use Rattle.app_graph.specs.declared.raw.RawSet.{RawSet}
use Rattle.app_graph.specs.Rules.{Rule, unless, first_of, each_after}
use Rattle.app_graph.specs.ValueRules.{within, most_copies, task_values, task_rules, message_values, message_rules, own_rules, app_values, app_rules, mode_values, mode_rules, round_values, round_rules, node_rules, value_rules, set_rules}
use Rattle.app_graph.specs.Numbering.{task_count, message_count, HasCopies, HaveCopies}

-- of a list of rules that are kept the first one is, and the others are
pub kept_parts : {Fault : Type 0} (r : Rule Fault) (rs : List (Rule Fault)) → first_of (r ∷ rs) ≡ None → (r ≡ None) × (first_of rs ≡ None)
kept_parts None rs e = (refl, e)
kept_parts (Some f) rs e = absurd (cc)

pub unless_kept : {Fault : Type 0} (test : Bool) (f : Fault) → unless test f ≡ None → test ≡ true
unless_kept true f e = refl
unless_kept false f e = absurd (cc)

pub each_kept : {Fault A : Type 0} (rule : List A → A → Rule Fault) (P : A → Type 0) → ((earlier : List A) (x : A) → rule earlier x ≡ None → P x)
    → (before xs : List A) → each_after rule before xs ≡ None → AllByRecursion P xs
each_kept rule P h before [] e = tt
each_kept rule P h before (x ∷ xs) e =
    let k = kept_parts (rule before x) (each_after rule (before ++ x ∷ []) xs ∷ []) e in
    (h before x k.0, each_kept rule P h (before ++ x ∷ []) xs (kept_parts (each_after rule (before ++ x ∷ []) xs) [] k.1).0)

-- a list each of whose elements is among the first `most`
pub few_kept : {Fault A : Type 0} (rule : List A → A → Rule Fault) (most : ℕ) → ((earlier : List A) (x : A) → rule earlier x ≡ None → length earlier < most)
    → (before xs : List A) → length before ≤ most → each_after rule before xs ≡ None → length before + length xs ≤ most
few_kept rule most h before [] l e = omega arith
few_kept rule most h before (x ∷ xs) l e =
    let k = kept_parts (rule before x) (each_after rule (before ++ x ∷ []) xs ∷ []) e in
    let room = h before x k.0 in
    let rest = few_kept rule most h (before ++ x ∷ []) xs (omega (arith, room, length-append before (x ∷ []))) (kept_parts (each_after rule (before ++ x ∷ []) xs) [] k.1).0 in
    omega (arith, rest, length-append before (x ∷ []))

pub all_kept : {Fault : Type 0} (rs : List (Rule Fault)) → first_of rs ≡ None → AllByRecursion (λ r. r ≡ None) rs
all_kept [] e = tt
all_kept (r ∷ rs) e = let k = kept_parts r rs e in (k.0, all_kept rs k.1)

task_room : (set : RawSet) (app : RawApp) (earlier : List RawTask) (t : RawTask) → task_values set app earlier t ≡ None → length earlier < 128
task_room set app earlier t e =
    ltb-true (length earlier) 128 (unless_kept (nat_lt (length earlier) 128) (TooMany KTask) (all_kept (task_rules set app earlier t) e).1.1.1.1.1.0)

message_room : (app : RawApp) (earlier : List RawMessage) (m : RawMessage) → message_values app earlier m ≡ None → length earlier < 64
message_room app earlier m e =
    ltb-true (length earlier) 64 (unless_kept (nat_lt (length earlier) 64) (TooMany KMessage) (all_kept (message_rules app earlier m) e).1.1.1.1.1.0)

pub tasks_fit : (set : RawSet) (app : RawApp) (earlier : List RawTask) → length earlier ≤ 128
    → each_after (task_values set app) earlier app.tasks ≡ None → length earlier + length app.tasks ≤ 128
tasks_fit set app earlier l e = few_kept (task_values set app) 128 (task_room set app) earlier app.tasks l e

pub messages_fit : (app : RawApp) (earlier : List RawMessage) → length earlier ≤ 64
    → each_after (message_values app) earlier app.messages ≡ None → length earlier + length app.messages ≤ 64
messages_fit app earlier l e = few_kept (message_values app) 64 (message_room app) earlier app.messages l e

-- the application has at most 128 tasks with those before it
pub app_tasks : (set : RawSet) (earlier : List RawApp) (app : RawApp) → app_values set earlier app ≡ None
    → length (flat_map (λ a. a.tasks) earlier) ≤ 128 → length (flat_map (λ a. a.tasks) earlier) + length app.tasks ≤ 128
app_tasks set earlier app e l = tasks_fit set app (flat_map (λ a. a.tasks) earlier) l (all_kept (app_rules set earlier app) e).1.0

pub app_messages : (set : RawSet) (earlier : List RawApp) (app : RawApp) → app_values set earlier app ≡ None
    → length (flat_map (λ a. a.messages) earlier) ≤ 64 → length (flat_map (λ a. a.messages) earlier) + length app.messages ≤ 64
app_messages set earlier app e l = messages_fit app (flat_map (λ a. a.messages) earlier) l (all_kept (app_rules set earlier app) e).1.1.0

within_low : (low high z : ℤ) → within low high z ≡ true → low ≤ℤ z
within_low low high z e = let h = le-true low z (and_parts (int_le low z) (int_le z high) e).0 in omega (arith, ints, h)

pub app_period : (set : RawSet) (earlier : List RawApp) (app : RawApp) → app_values set earlier app ≡ None → pos 0 <ℤ app.period
app_period set earlier app e =
    let own = all_kept (own_rules earlier app) (all_kept (app_rules set earlier app) e).0 in
    let low = within_low (pos 1) (pos 1000000000) app.period (unless_kept (within (pos 1) (pos 1000000000) app.period) (OutOfRange KPeriod) own.1.0) in
    omega (arith, ints, low)

pub apps_period : (set : RawSet) (apps : List RawApp) → each_after (app_values set) [] apps ≡ None → All (λ a. pos 0 <ℤ a.period) apps
apps_period set apps e = All-from_recursion (λ (a : RawApp). pos 0 <ℤ a.period) apps (each_kept (app_values set) (λ a. pos 0 <ℤ a.period) (app_period set) [] apps e)

pub round_some : (set : RawSet) → round_values set ≡ None → pos 0 <ℤ set.round
round_some set e =
    let low = within_low (pos 1) (pos 1000000000) set.round (unless_kept (within (pos 1) (pos 1000000000) set.round) (OutOfRange KRound) (all_kept (round_rules set) e).1.0) in
    omega (arith, ints, low)

-- ---- how much there is in a mode set that keeps the rules
apps_tasks : (set : RawSet) (before apps : List RawApp) → each_after (app_values set) before apps ≡ None
    → sum_by (λ a. length a.tasks) before ≤ 128 → sum_by (λ a. length a.tasks) before + sum_by (λ a. length a.tasks) apps ≤ 128
apps_tasks set before [] e l = omega arith
apps_tasks set before (app ∷ apps) e l =
    let k = kept_parts (app_values set before app) (each_after (app_values set) (before ++ app ∷ []) apps ∷ []) e in
    let size = length-flat_map (λ (a : RawApp). a.tasks) before in
    let here = app_tasks set before app k.0 (omega (arith, size, l)) in
    let push = sum_by_push (λ (a : RawApp). length a.tasks) before app in
    let rest = apps_tasks set (before ++ app ∷ []) apps (kept_parts (each_after (app_values set) (before ++ app ∷ []) apps) [] k.1).0 (omega (arith, here, size, push)) in
    omega (arith, rest, push, sum_by-cons (λ (a : RawApp). length a.tasks) app apps)

apps_messages : (set : RawSet) (before apps : List RawApp) → each_after (app_values set) before apps ≡ None
    → sum_by (λ a. length a.messages) before ≤ 64 → sum_by (λ a. length a.messages) before + sum_by (λ a. length a.messages) apps ≤ 64
apps_messages set before [] e l = omega arith
apps_messages set before (app ∷ apps) e l =
    let k = kept_parts (app_values set before app) (each_after (app_values set) (before ++ app ∷ []) apps ∷ []) e in
    let size = length-flat_map (λ (a : RawApp). a.messages) before in
    let here = app_messages set before app k.0 (omega (arith, size, l)) in
    let push = sum_by_push (λ (a : RawApp). length a.messages) before app in
    let rest = apps_messages set (before ++ app ∷ []) apps (kept_parts (each_after (app_values set) (before ++ app ∷ []) apps) [] k.1).0 (omega (arith, here, size, push)) in
    omega (arith, rest, push, sum_by-cons (λ (a : RawApp). length a.messages) app apps)

pub mode_tasks : (set : RawSet) (earlier : List RawMode) (mode : RawMode) → mode_values set earlier mode ≡ None → task_count mode ≤ 128
mode_tasks set earlier mode e = omega (arith, apps_tasks set [] mode.apps (all_kept (mode_rules set earlier mode) e).1.1.0 (omega arith))

mode_messages : (set : RawSet) (earlier : List RawMode) (mode : RawMode) → mode_values set earlier mode ≡ None → message_count mode ≤ 64
mode_messages set earlier mode e = omega (arith, apps_messages set [] mode.apps (all_kept (mode_rules set earlier mode) e).1.1.0 (omega arith))

set_modes : (set : RawSet) → value_rules set ≡ None → length set.modes ≤ 8
set_modes set e = leb-true (length set.modes) 8 (unless_kept (nat_le (length set.modes) 8) (TooMany KMode) (all_kept (set_rules set) e).1.1.1.0)

pub set_tasks : (set : RawSet) → value_rules set ≡ None → sum_by task_count set.modes ≤ 1024
set_tasks set e =
    let each = All-from_recursion (λ (m : RawMode). task_count m ≤ 128) set.modes
    (each_kept (mode_values set) (λ m. task_count m ≤ 128) (mode_tasks set) [] set.modes (all_kept (set_rules set) e).1.1.1.1.0) in
    omega (arith, sum_by-le task_count 128 set.modes each, set_modes set e)

pub set_messages : (set : RawSet) → value_rules set ≡ None → sum_by message_count set.modes ≤ 512
set_messages set e =
    let each = All-from_recursion (λ (m : RawMode). message_count m ≤ 64) set.modes
    (each_kept (mode_values set) (λ m. message_count m ≤ 64) (mode_messages set) [] set.modes (all_kept (set_rules set) e).1.1.1.1.0) in
    omega (arith, sum_by-le message_count 64 set.modes each, set_modes set e)

pub set_nodes : (set : RawSet) → value_rules set ≡ None → length set.nodes ≤ 64
set_nodes set e =
    leb-true (length set.nodes) 64 (unless_kept (nat_le (length set.nodes) 64) (TooMany KNodes) (all_kept (node_rules set) (all_kept (set_rules set) e).1.0).1.0)

pub set_slots : (set : RawSet) → value_rules set ≡ None → (pos 1 ≤ℤ set.slots) × (set.slots ≤ℤ pos 32)
set_slots set e =
    let w = unless_kept (within (pos 1) (pos 32) set.slots) (OutOfRange KSlots) (all_kept (round_rules set) (all_kept (set_rules set) e).0).0 in
    let p = and_parts (int_le (pos 1) set.slots) (int_le set.slots (pos 32)) w in
    let low = le-true (pos 1) set.slots p.0 in
    let high = le-true set.slots (pos 32) p.1 in
    (omega (arith, ints, low), omega (arith, ints, high))

-- ---- the copies of messages
pub message_copies : (app : RawApp) (earlier : List RawMessage) (m : RawMessage) → message_values app earlier m ≡ None → HasCopies m
message_copies app earlier m e =
    let k = (all_kept (message_rules app earlier m) e).1.1.1.0 in
    let w = unless_kept (within (pos 1) (pos most_copies) m.copies) (OutOfRange KCopies) k in
    let p = and_parts (int_le (pos 1) m.copies) (int_le m.copies (pos most_copies)) w in
    let low = le-true (pos 1) m.copies p.0 in
    let high = le-true m.copies (pos most_copies) p.1 in
    (omega (arith, ints, low), omega (arith, ints, high))

app_copies : (set : RawSet) (earlier : List RawApp) (app : RawApp) → app_values set earlier app ≡ None → All HasCopies app.messages
app_copies set earlier app e =
    let k = (all_kept (app_rules set earlier app) e).1.1.0 in
    All-from_recursion HasCopies app.messages (each_kept (message_values app) HasCopies (message_copies app) (flat_map (λ a. a.messages) earlier) app.messages k)

mode_copies : (set : RawSet) (earlier : List RawMode) (mode : RawMode) → mode_values set earlier mode ≡ None → HaveCopies mode.apps
mode_copies set earlier mode e =
    let k = (all_kept (mode_rules set earlier mode) e).1.1.0 in
    All-from_recursion (λ (a : RawApp). All HasCopies a.messages) mode.apps
    (each_kept (app_values set) (λ a. All HasCopies a.messages) (app_copies set) [] mode.apps k)

pub set_copies : (set : RawSet) → value_rules set ≡ None → All (λ mode. HaveCopies mode.apps) set.modes
set_copies set e =
    All-from_recursion (λ (mode : RawMode). HaveCopies mode.apps) set.modes
    (each_kept (mode_values set) (λ mode. HaveCopies mode.apps) (mode_copies set) [] set.modes (all_kept (set_rules set) e).1.1.1.1.0)
