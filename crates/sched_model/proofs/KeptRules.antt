-- What a mode file that breaks no rule keeps, application by application
use Rattle.std.proofs.Common.{◌≡◌, ℕ, ◌+◌, ◌/◌, ◌<◌, ◌≤◌, true, false, not, List, [], ◌∷◌, ◌++◌, length, None, ◌∙◌, ap, arith, ℤ, pos, negsuc, ◌≤ℤ◌, ◌<ℤ◌, unsigned_abs, int_le, nat_le, length-append, append-nil}
use Rattle.std.specs.List.{AllByRecursion, flat_map}
use Rattle.std.proofs.lemmas.Int.{ints}
use Rattle.std.proofs.lemmas.Bool.{and_parts, ltb-true, leb-true, not-true}
use Rattle.std.proofs.lemmas.Grind.{flat_map-append}
use borrow.Author.Differences.{le-true, at_most_in}
use Rattle.app_graph.specs.declared.faults.GraphFault.TheVariants.{OutOfRange, Repeated, Unknown, Cycle, DeadlineLong, TooMany}
use Rattle.app_graph.specs.declared.keys.Key.{Key}
use Rattle.app_graph.specs.declared.keys.Key.TheVariants.{KSlots, KRound, KGap, KPeriod, KDeadline, KWcet, KFrom, KTo, KInputs, KHyperperiod, KRounds, KRuns, KInstances, KDecisions}
use Rattle.app_graph.specs.declared.raw.RawTask.{RawTask}
use Rattle.app_graph.specs.declared.raw.RawMessage.{RawMessage}
use Rattle.app_graph.specs.declared.raw.RawApp.{RawApp}
use Rattle.app_graph.specs.declared.raw.RawMode.{RawMode}
use Rattle.app_graph.specs.declared.raw.RawSet.{RawSet}
use Rattle.app_graph.specs.Rules.{Rule, unless, each, each_after}
use Rattle.app_graph.specs.ValueRules.{within, has_some, at_most, among, is_task, listed, ends, task_rules, task_values, message_rules, message_values, inputs_of, has_cycle, own_rules, graph_rules, app_rules, app_values, hyper_of, runs_in, slots_in, pairs_in, size_values, mode_rules, mode_values, round_rules, set_rules, value_rules}
use Rattle.ttw_text.specs.Names.{is_name}
use Rattle.app_graph.specs.Numbering.{HasCopies}
use Rattle.app_graph.proofs.Kept.{kept_parts, unless_kept, each_kept, all_kept, app_tasks, app_messages, app_period, message_copies}

kept_each : {F A : Type 0} (rule : A → Rule F) (xs : List A) → each rule xs ≡ None → AllByRecursion (λ x. rule x ≡ None) xs
kept_each rule [] e = tt
kept_each rule (x ∷ xs) e =
    let a = kept_parts (rule x) (each rule xs ∷ []) e in
    (a.0, kept_each rule xs (kept_parts (each rule xs) [] a.1).0)

mapped : {A : Type 0} (P Q : A → Type 0) → ((x : A) → P x → Q x) → (xs : List A) → AllByRecursion P xs → AllByRecursion Q xs
mapped P Q f [] h = tt
mapped P Q f (x ∷ xs) h = (f x h.0, mapped P Q f xs h.1)

-- ---- numbers within limits
within_parts : (low high z : ℤ) → within low high z ≡ true → (low ≤ℤ z) × (z ≤ℤ high)
within_parts low high z e =
    let w = and_parts (int_le low z) (int_le z high) e in
    (at_most_in low z (le-true low z w.0), at_most_in z high (le-true z high w.1))

pub abs_within : (z : ℤ) (n : ℕ) → (pos 1 ≤ℤ z) × (z ≤ℤ pos n) → (1 ≤ unsigned_abs z) × (unsigned_abs z ≤ n)
abs_within (pos k) n w = (omega (arith, ints, w.0), omega (arith, ints, w.1))
abs_within (negsuc k) n w = absurd (omega (arith, ints, w.0))

abs_below : (y z : ℤ) → pos 1 ≤ℤ y → y ≤ℤ z → unsigned_abs y ≤ unsigned_abs z
abs_below (pos k) (pos n) a b = omega (arith, ints, b)
abs_below (pos k) (negsuc n) a b = absurd (omega (arith, ints, a, b))
abs_below (negsuc k) z a b = absurd (omega (arith, ints, a))

-- ---- an application
-- the producers or the consumers of a message: there are some, and each is a task
pub record KeptEnds (most : ℕ) (app : RawApp) (names : List (List ℕ)) : Type 0 where
  pub some : 0 < length names
  pub few : length names ≤ most
  pub known : AllByRecursion (λ n. is_task app.tasks n ≡ true) names

pub record KeptApp (app : RawApp) : Type 0 where
  pub period : (1 ≤ unsigned_abs app.period) × (unsigned_abs app.period ≤ 1000000000)
  pub positive : pos 0 <ℤ app.period
  pub deadline : 1 ≤ unsigned_abs app.deadline
  pub wcets : AllByRecursion (λ t. (1 ≤ unsigned_abs t.wcet) × (unsigned_abs t.wcet ≤ unsigned_abs app.period)) app.tasks
  pub messages : AllByRecursion (λ m. KeptEnds 4 app m.from × KeptEnds 16 app m.to) app.messages
  pub copies : AllByRecursion HasCopies app.messages
  pub inputs : AllByRecursion (λ t. inputs_of app t ≤ 64) app.tasks
  pub acyclic : has_cycle app ≡ false

kept_ends : (key : Key) (most : ℕ) (app : RawApp) (names : List (List ℕ)) → ends key most app names ≡ None → KeptEnds most app names
kept_ends key most app names e =
    let each_known = each_after (listed key (is_task app.tasks)) [] names in
    let rules = unless (at_most most names) (TooMany key) ∷ each_known ∷ [] in
    let a = kept_parts (unless (has_some names) (OutOfRange key)) rules e in
    let b = kept_parts (unless (at_most most names) (TooMany key)) (each_known ∷ []) a.1 in
    record {
      some = ltb-true 0 (length names) (unless_kept (has_some names) (OutOfRange key) a.0);
      few = leb-true (length names) most (unless_kept (at_most most names) (TooMany key) b.0);
      known = each_kept (listed key (is_task app.tasks)) (λ n. is_task app.tasks n ≡ true) (λ earlier n h. known n earlier h) [] names (kept_parts each_known [] b.1).0;
    }
  where
    known : (n : List ℕ) (earlier : List (List ℕ)) → listed key (is_task app.tasks) earlier n ≡ None → is_task app.tasks n ≡ true
    known n earlier e =
        let last = unless (is_task app.tasks n) (Unknown n) in
        let second = unless (not (among n earlier)) (Repeated n) in
        let a = kept_parts (unless (is_name n) (OutOfRange key)) (second ∷ last ∷ []) e in
        let b = kept_parts second (last ∷ []) a.1 in
        unless_kept (is_task app.tasks n) (Unknown n) (kept_parts last [] b.1).0

kept_message : (app : RawApp) (before : List RawMessage) (m : RawMessage) → message_values app before m ≡ None → KeptEnds 4 app m.from × KeptEnds 16 app m.to
kept_message app before m e = let k = all_kept (message_rules app before m) e in (kept_ends KFrom 4 app m.from k.1.0, kept_ends KTo 16 app m.to k.1.1.0)

-- each task takes at most 64 values
kept_inputs : (app : RawApp) → each (λ t. unless (nat_le (inputs_of app t) 64) (TooMany KInputs)) app.tasks ≡ None → AllByRecursion (λ t. inputs_of app t ≤ 64) app.tasks
kept_inputs app e =
    let rule = λ (t : RawTask). unless (nat_le (inputs_of app t) 64) (TooMany KInputs) in
    mapped (λ t. rule t ≡ None) (λ t. inputs_of app t ≤ 64) (λ t k. leb-true (inputs_of app t) 64 (unless_kept (nat_le (inputs_of app t) 64) (TooMany KInputs) k)) app.tasks (kept_each rule app.tasks e)

abs_some : (z : ℤ) → pos 1 ≤ℤ z → 1 ≤ unsigned_abs z
abs_some (pos k) h = omega (arith, ints, h)
abs_some (negsuc k) h = absurd (omega (arith, ints, h))

kept_wcet : (set : RawSet) (app : RawApp) (before : List RawTask) (t : RawTask) → task_values set app before t ≡ None → (1 ≤ unsigned_abs t.wcet) × (unsigned_abs t.wcet ≤ unsigned_abs app.period)
kept_wcet set app before t e =
    let k = all_kept (task_rules set app before t) e in
    let w = within_parts (pos 1) app.period t.wcet (unless_kept (within (pos 1) app.period t.wcet) (OutOfRange KWcet) k.1.1.1.0) in
    (abs_some t.wcet w.0, abs_below t.wcet app.period w.0 w.1)

kept_app : (set : RawSet) (earlier : List RawApp) (app : RawApp) → app_values set earlier app ≡ None → KeptApp app
kept_app set earlier app e =
    let k = all_kept (app_rules set earlier app) e in
    let own = all_kept (own_rules earlier app) k.0 in
    let graph = all_kept (graph_rules app) k.1.1.1.0 in
    record {
      period = abs_within app.period 1000000000 (within_parts (pos 1) (pos 1000000000) app.period (unless_kept (within (pos 1) (pos 1000000000) app.period) (OutOfRange KPeriod) own.1.0));
      positive = app_period set earlier app e;
      deadline = (abs_within app.deadline 1000000000000 (within_parts (pos 1) (pos 1000000000000) app.deadline (unless_kept (within (pos 1) (pos 1000000000000) app.deadline) (OutOfRange KDeadline) own.1.1.0))).0;
      wcets = each_kept (task_values set app) (λ t. (1 ≤ unsigned_abs t.wcet) × (unsigned_abs t.wcet ≤ unsigned_abs app.period)) (kept_wcet set app) (flat_map (λ a. a.tasks) earlier) app.tasks k.1.0;
      messages = each_kept (message_values app) (λ m. KeptEnds 4 app m.from × KeptEnds 16 app m.to) (kept_message app) (flat_map (λ a. a.messages) earlier) app.messages k.1.1.0;
      inputs = kept_inputs app graph.0;
      copies = each_kept (message_values app) HasCopies (message_copies app) (flat_map (λ a. a.messages) earlier) app.messages k.1.1.0;
      acyclic = not-true (has_cycle app) (unless_kept (not (has_cycle app)) (Cycle app.name) graph.1.0);
    }

-- ---- how many tasks and messages a mode has
-- where each application keeps what the earlier ones and it have within a number, all are within it
count_apps : {A : Type 0} (part : RawApp → List A) (most : ℕ) (set : RawSet) → ((earlier : List RawApp) (a : RawApp) → app_values set earlier a ≡ None → length (flat_map part earlier) ≤ most → length (flat_map part earlier) + length (part a) ≤ most) →
    (earlier apps : List RawApp) → each_after (app_values set) earlier apps ≡ None → length (flat_map part earlier) ≤ most → length (flat_map part earlier) + length (flat_map part apps) ≤ most
count_apps part most set one earlier [] e l = omega (arith, l)
count_apps part most set one earlier (a ∷ apps) e l =
    let rest = each_after (app_values set) (earlier ++ a ∷ []) apps in
    let w = kept_parts (app_values set earlier a) (rest ∷ []) e in
    let here = one earlier a w.0 l in
    let join = ap length (flat_map-append part earlier (a ∷ []) ∙ ap (λ ys. flat_map part earlier ++ ys) (append-nil (part a))) ∙ length-append (flat_map part earlier) (part a) in
    let more = count_apps part most set one (earlier ++ a ∷ []) apps (kept_parts rest [] w.1).0 (omega (arith, join, here)) in
    omega (arith, join, more, length-append (part a) (flat_map part apps))

-- ---- a mode, and the set
pub record KeptSizes (set : RawSet) (mode : RawMode) : Type 0 where
  pub hyper : hyper_of mode ≤ 1000000000000
  pub deadlines : AllByRecursion (λ a. unsigned_abs a.deadline ≤ hyper_of mode) mode.apps
  pub rounds : hyper_of mode / unsigned_abs set.round ≤ 256
  pub runs : runs_in (hyper_of mode) (λ a. length a.tasks) mode.apps ≤ 4096
  pub instances : slots_in (hyper_of mode) mode.apps ≤ 512
  pub decisions : slots_in (hyper_of mode) mode.apps + pairs_in (flat_map (λ a. a.tasks) mode.apps) ≤ 4096

pub record KeptMode (set : RawSet) (mode : RawMode) : Type 0 where
  pub apps : AllByRecursion KeptApp mode.apps
  pub tasks : length (flat_map (λ (a : RawApp). a.tasks) mode.apps) ≤ 128
  pub messages : length (flat_map (λ (a : RawApp). a.messages) mode.apps) ≤ 64
  pub sizes : KeptSizes set mode

kept_deadlines : (h : ℕ) (apps : List RawApp) → each (λ a. unless (nat_le (unsigned_abs a.deadline) h) (DeadlineLong a.name)) apps ≡ None → AllByRecursion (λ a. unsigned_abs a.deadline ≤ h) apps
kept_deadlines h apps e =
    mapped (λ a. unless (nat_le (unsigned_abs a.deadline) h) (DeadlineLong a.name) ≡ None) (λ a. unsigned_abs a.deadline ≤ h)
    (λ a k. leb-true (unsigned_abs a.deadline) h (unless_kept (nat_le (unsigned_abs a.deadline) h) (DeadlineLong a.name) k)) apps (kept_each (λ a. unless (nat_le (unsigned_abs a.deadline) h) (DeadlineLong a.name)) apps e)

kept_sizes : (set : RawSet) (mode : RawMode) → size_values set mode ≡ None → KeptSizes set mode
kept_sizes set mode e =
    let h = hyper_of mode in
    let r6 = unless (nat_le (slots_in h mode.apps + pairs_in (flat_map (λ a. a.tasks) mode.apps)) 4096) (TooMany KDecisions) in
    let r5 = unless (nat_le (slots_in h mode.apps) 512) (TooMany KInstances) in
    let r4 = unless (nat_le (runs_in h (λ a. length a.tasks) mode.apps) 4096) (TooMany KRuns) in
    let r3 = unless (nat_le (h / unsigned_abs set.round) 256) (TooMany KRounds) in
    let r2 = each (λ a. unless (nat_le (unsigned_abs a.deadline) h) (DeadlineLong a.name)) mode.apps in
    let r1 = unless (nat_le h 1000000000000) (TooMany KHyperperiod) in
    let a = kept_parts r1 (r2 ∷ r3 ∷ r4 ∷ r5 ∷ r6 ∷ []) e in
    let b = kept_parts r2 (r3 ∷ r4 ∷ r5 ∷ r6 ∷ []) a.1 in
    let c = kept_parts r3 (r4 ∷ r5 ∷ r6 ∷ []) b.1 in
    let d = kept_parts r4 (r5 ∷ r6 ∷ []) c.1 in
    let f = kept_parts r5 (r6 ∷ []) d.1 in
    let g = kept_parts r6 [] f.1 in
    record {
      hyper = leb-true h 1000000000000 (unless_kept (nat_le h 1000000000000) (TooMany KHyperperiod) a.0);
      deadlines = kept_deadlines h mode.apps b.0;
      rounds = leb-true (h / unsigned_abs set.round) 256 (unless_kept (nat_le (h / unsigned_abs set.round) 256) (TooMany KRounds) c.0);
      runs = leb-true (runs_in h (λ a. length a.tasks) mode.apps) 4096 (unless_kept (nat_le (runs_in h (λ a. length a.tasks) mode.apps) 4096) (TooMany KRuns) d.0);
      instances = leb-true (slots_in h mode.apps) 512 (unless_kept (nat_le (slots_in h mode.apps) 512) (TooMany KInstances) f.0);
      decisions = leb-true (slots_in h mode.apps + pairs_in (flat_map (λ a. a.tasks) mode.apps)) 4096
          (unless_kept (nat_le (slots_in h mode.apps + pairs_in (flat_map (λ a. a.tasks) mode.apps)) 4096) (TooMany KDecisions) g.0);
    }

kept_mode : (set : RawSet) (earlier : List RawMode) (mode : RawMode) → mode_values set earlier mode ≡ None → KeptMode set mode
kept_mode set earlier mode e =
    let k = all_kept (mode_rules set earlier mode) e in
    record {
      apps = each_kept (app_values set) KeptApp (kept_app set) [] mode.apps k.1.1.0;
      tasks = omega (arith, count_apps (λ (a : RawApp). a.tasks) 128 set (app_tasks set) [] mode.apps k.1.1.0 (omega arith));
      messages = omega (arith, count_apps (λ (a : RawApp). a.messages) 64 set (app_messages set) [] mode.apps k.1.1.0 (omega arith));
      sizes = kept_sizes set mode k.1.1.1.0;
    }

pub record KeptSet (set : RawSet) : Type 0 where
  pub slots : (1 ≤ unsigned_abs set.slots) × (unsigned_abs set.slots ≤ 32)
  pub round : (1 ≤ unsigned_abs set.round) × (unsigned_abs set.round ≤ 1000000000)
  pub gap : (unsigned_abs set.round ≤ unsigned_abs set.gap) × (unsigned_abs set.gap ≤ 1000000000)
  pub modes : AllByRecursion (KeptMode set) set.modes

pub kept_set : (set : RawSet) → value_rules set ≡ None → KeptSet set
kept_set set e =
    let k = all_kept (set_rules set) e in
    let r = all_kept (round_rules set) k.0 in
    let round = within_parts (pos 1) (pos 1000000000) set.round (unless_kept (within (pos 1) (pos 1000000000) set.round) (OutOfRange KRound) r.1.0) in
    let gap = within_parts set.round (pos 1000000000) set.gap (unless_kept (within set.round (pos 1000000000) set.gap) (OutOfRange KGap) r.1.1.0) in
    record {
      slots = abs_within set.slots 32 (within_parts (pos 1) (pos 32) set.slots (unless_kept (within (pos 1) (pos 32) set.slots) (OutOfRange KSlots) r.0));
      round = abs_within set.round 1000000000 round;
      gap = (abs_below set.round set.gap round.0 gap.0, (abs_within set.gap 1000000000 (omega (arith, ints, round.0, gap.0), gap.1)).1);
      modes = each_kept (mode_values set) (KeptMode set) (kept_mode set) [] set.modes k.1.1.1.1.0;
    }
