-- The part of a node in right plans is in the ranges of the image
use Rattle.std.proofs.Common.{◌≡◌, ℕ, zero, suc, ◌+◌, ◌*◌, ◌<◌, ◌≤◌, Bool, true, false, cond, ◌||◌, eqb, List, [], ◌∷◌, ◌++◌, length, get_or, map, filter, Contains, All, refl, sym, ◌∙◌, ap, subst, arith, pos, negsuc, ◌≤ℤ◌, ◌<ℤ◌, length-append}
use Rattle.std.specs.List.{flat_map, AllByRecursion}
use Rattle.std.proofs.lemmas.Int.{ints}
use Rattle.std.proofs.lemmas.List.{length-map, get_or-map}
use Rattle.std.proofs.lemmas.List.Elements.{All-get_or, All-contains}
use Rattle.app_graph.specs.declared.mode_set.ModeSet.{ModeSet}
use Rattle.app_graph.specs.Validation.{KeepsRules}
use Rattle.sched_model.specs.declared.schedule.Schedule.{Schedule}
use Rattle.sched_model.specs.Numbers.{below, natural}
use Rattle.sched_model.specs.PlainMode.{PlainMode, PlainMessage, hyper, no_message, task_at, message_at, plain_at}
use Rattle.sched_model.specs.ModeLimits.{IsLimited}
use Rattle.sched_model.specs.RightSchedule.{IsMessage, IsSchedule, TableFits}
use Rattle.sched_model.specs.Rounds.{round_start}
use Rattle.sched_model.specs.TimeLimits.{HasTimes, IsTime}
use Rattle.sched_model.specs.ValidMode.{IsValid}
use Rattle.sched_model.proofs.Graph.{contains_has, message_edge}
use Rattle.sched_model.proofs.Hyperperiods.{hyper_some}
use Rattle.sched_model.proofs.KeptSets.{mode_at_valid}
use Rattle.sched_model.proofs.LimitedModes.{mode_at_limited}
use Rattle.sched_model.proofs.TaskNumbers.{few_modes}
use Rattle.sched_model.proofs.Lists.{get_or-map_below, flat_below-suc, length-below, flat_all, below_all, cond_all, all_both}
use Rattle.sched_model.proofs.OneTurn.{in_hyper}
use Rattle.sched_model.proofs.Times.{times}
use Rattle.runtime_model.specs.NodeTables.{PlainOwnTask, PlainOwnMessage, PlainOwnSlot, PlainOwnRound, own_tasks, own_messages, own_slots, own_rounds, numbers, is_own, mode_tables, part_of}
use Rattle.runtime_model.specs.Packets.{takes_on}
use Rattle.runtime_model.specs.Placement.{release}
use Rattle.runtime_model.specs.Copies.{copy_at}
use Rattle.runtime_model.proofs.CopyNumbers.{copies_are_numbered}
use Rattle.runtime_model.specs.Plans.{Plan, RightPlan, Carried, offset, node_of, place_from, no_schedule, plan_of, plans_of, sender_of, AreSchedules}
use Rattle.runtime_model.specs.Timeline.{steady}
use Rattle.runtime_model.proofs.Times.{natural_is, place_is, is_release, slot_window, window_is}
use Rattle.node_tables.specs.declared.tables.OwnTask.{OwnTask}
use Rattle.node_tables.specs.declared.tables.OwnMessage.{OwnMessage}
use Rattle.node_tables.specs.Fields.{AreInRange, IsInRange}
use Rattle.node_tables.specs.declared.version.Version.TheVariants.{Second}
use Rattle.node_tables.specs.Image.{slot_fields, round_fields, task_field, message_fields, task_fields, mode_fields}
use Rattle.node_tables.specs.Image as images
use Rattle.node_tables.specs.Parts.{part_in, typed_task, typed_message, typed_slot, typed_round, typed_mode, typed_table}
use Rattle.node_tables.proofs.Numbering.{Numbered, numbered, few_nodes}
use Rattle.node_tables.proofs.PlainParts.{kept}
use Rattle.runtime_model.proofs.RightSets.{right_plan, rounds_few}
use Rattle.runtime_model.proofs.SetRules.{some_mode}

-- ---- lists that pass a test

one_at_most : {X : Type 0} (b : Bool) (x : X) → length (cond b (x ∷ []) []) ≤ 1
one_at_most true x = omega arith
one_at_most false x = omega arith

kept_length : {X : Type 0} (t : ℕ → Bool) (f : ℕ → X) (n : ℕ) → length (flat_map (λ a. cond (t a) (f a ∷ []) []) (below n)) ≤ n
kept_length t f zero = omega arith
kept_length {X} t f (suc n) =
    let part = λ (a : ℕ). cond (t a) (f a ∷ []) [] in
    let e = ap length (flat_below-suc part n) ∙ length-append (flat_map part (below n)) (part n) in
    omega (arith, e, kept_length t f n, one_at_most (t n) (f n))

pub kept_all : {X : Type 0} (P : X → Type 0) (t : ℕ → Bool) (f : ℕ → X) (n : ℕ) → ((a : ℕ) → a < n → t a ≡ true → P (f a)) → AllByRecursion P (flat_map (λ a. cond (t a) (f a ∷ []) []) (below n))
kept_all P t f n h = flat_all P (λ a. cond (t a) (f a ∷ []) []) (below n) (below_all _ n (λ a l. cond_all P (t a) (f a ∷ []) (λ e. (h a l e, tt))))

pub filter_length : (t : ℕ → Bool) (xs : List ℕ) → length (filter t xs) ≤ length xs
filter_length t [] = omega arith
filter_length t (x ∷ xs) = by_test (t x) (filter t xs) (filter_length t xs)
  where
    by_test : (b : Bool) (ys : List ℕ) → length ys ≤ length xs → length (cond b (x ∷ ys) ys) ≤ suc (length xs)
    by_test true ys h = omega (arith, h)
    by_test false ys h = omega (arith, h)

pub filter_all : (P : ℕ → Type 0) (t : ℕ → Bool) (xs : List ℕ) → AllByRecursion P xs → AllByRecursion P (filter t xs)
filter_all P t [] h = tt
filter_all P t (x ∷ xs) h = by_test (t x) (filter t xs) (filter_all P t xs h.1)
  where
    by_test : (b : Bool) (ys : List ℕ) → AllByRecursion P ys → AllByRecursion P (cond b (x ∷ ys) ys)
    by_test true ys k = (h.0, k)
    by_test false ys k = k

pub contained_all : {X : Type 0} (P : X → Type 0) (xs : List X) → ((x : X) → Contains xs x → P x) → AllByRecursion P xs
contained_all P [] h = tt
contained_all P (x ∷ xs) h = (h x (0, omega arith, refl), contained_all P xs (λ y c. h y (suc c.0, omega (arith, c.1), c.2)))

pub map_all : {X Y : Type 0} (P : Y → Type 0) (f : X → Y) (xs : List X) → AllByRecursion (λ x. P (f x)) xs → AllByRecursion P (map f xs)
map_all P f [] h = tt
map_all P f (x ∷ xs) h = (h.0, map_all P f xs h.1)

-- numbers of tasks, as fields
pub task_numbers : (m : PlainMode) (xs : List ℕ) → AllByRecursion (λ a. (task_at m a).number ≤ 1023) xs → AreInRange (flat_map task_field (map (λ a. (task_at m a).number) xs))
task_numbers m [] h = tt
task_numbers m (x ∷ xs) h = ((omega arith, h.0), task_numbers m xs h.1)

role_low : (a b : Bool) → (a || b) ≡ true → (1 ≤ cond a 1 0 + cond b 2 0) × (cond a 1 0 + cond b 2 0 ≤ 3)
role_low true true e = (omega arith, omega arith)
role_low true false e = (omega arith, omega arith)
role_low false true e = (omega arith, omega arith)
role_low false false e = absurd (let q : false ≡ true = e in cc)

module _ (set : ModeSet) (i : ℕ) (keeps : KeepsRules set) (l : i < length set.modes) (few : i < 8) (s : Schedule) (right : IsSchedule (plain_at set i) (length s.starts) s) (v : ℕ) where
  abbrev pub m : PlainMode
  m = plain_at set i

  abbrev pub p : Plan
  p = record { mode = m; schedule = s }

  pub ok : IsValid m
  ok = mode_at_valid set keeps i l

  pub lim : IsLimited m
  lim = mode_at_limited set keeps i l

  pub time : HasTimes s
  time = times m (length s.starts) s ok right

  whole : RightPlan (length set.nodes) p
  whole = right_plan set i keeps l s right

  pub nums : Numbered set i
  nums = numbered set keeps i l

  pub task_number : (a : ℕ) → a < length m.tasks → (task_at m a).number ≤ 1023
  task_number a h = omega (arith, nums.tasks a h, nums.task_low, lim.tasks)

  pub message_number : (j : ℕ) → j < length m.messages → (message_at m j).number ≤ 511
  message_number j h = omega (arith, nums.messages j h, nums.message_low, lim.messages)

  -- ---- tasks

  abbrev pub on : ℕ → Bool
  on a = eqb (node_of p a) v

  abbrev pub own_task : ℕ → PlainOwnTask
  own_task a = record { number = (task_at m a).number; period = (task_at m a).period; offset = offset p a; wcet = (task_at m a).wcet }

  task_range : (a : ℕ) → a < length m.tasks → AreInRange (task_fields (typed_task (own_task a)))
  task_range a h =
      let per = (lim.periods _ (ok.task_period a h)) in
      let w = ok.wcet a h in
      let t = All-get_or IsTime s.tasks a (pos 0) (omega (arith, h, right.shape.tasks)) time.tasks in
      let o = natural_is (get_or s.tasks a (pos 0)) t.0 in
      ((omega arith, task_number a h), ((omega (arith, ints, per.0), omega (arith, ints, per.1)), ((omega (arith, ints), omega (arith, ints, o, t.1)), ((omega (arith, ints, w.0), omega (arith, ints, w.1)), tt))))

  tasks_range : AreInRange (flat_map task_fields (map typed_task (own_tasks p v)))
  tasks_range =
      flat_all IsInRange task_fields (map typed_task (own_tasks p v))
      (subst (λ (xs : List OwnTask). AllByRecursion (λ x. AreInRange (task_fields x)) xs) (sym (kept typed_task own_task on (below (length m.tasks))))
      (kept_all (λ x. AreInRange (task_fields x)) on (λ a. typed_task (own_task a)) (length m.tasks) (λ a h e. task_range a h)))

  tasks_few : length (map typed_task (own_tasks p v)) ≤ 128
  tasks_few = omega (arith, ap length (kept typed_task own_task on (below (length m.tasks))), kept_length on (λ a. typed_task (own_task a)) (length m.tasks), lim.tasks)

  -- ---- messages

  pub from_task : (j a : ℕ) → j < length m.messages → Contains (message_at m j).from a → a < length m.tasks
  from_task j a h c = let b = ok.consumer j h in (ok.edges a b.0 (message_edge m j a b.0 h c b.1)).from

  pub to_task : (j b : ℕ) → j < length m.messages → Contains (message_at m j).to b → b < length m.tasks
  to_task j b h c = let a = ok.producer j h in (ok.edges a.0 b (message_edge m j a.0 b h a.1 c)).to

  abbrev pub own_message : ℕ → PlainOwnMessage
  own_message j = record {
    number = (message_at m j).number;
    role = cond (eqb (sender_of p j) v) 1 0 + cond (takes_on p j v) 2 0;
    producers = numbers p (message_at m j).from;
    consumers = numbers p (filter on (message_at m j).to);
  }

  number_of : ℕ → ℕ
  number_of a = (task_at m a).number

  message_range : (j : ℕ) → j < length m.messages → is_own p v j ≡ true → AreInRange (message_fields (typed_message (own_message j)))
  message_range j h own =
      let msg = message_at m j in
      let role = role_low (eqb (sender_of p j) v) (takes_on p j v) own in
      let a = ok.producer j h in
      let few_ends = lim.ends j h in
      let pl : length (numbers p msg.from) ≡ length msg.from = length-map msg.from (λ a. (task_at m a).number) in
      let cl : length (numbers p (filter on msg.to)) ≡ length (filter on msg.to) = length-map (filter on msg.to) (λ a. (task_at m a).number) in
      let from_all = task_numbers m msg.from (contained_all _ msg.from (λ a c. task_number a (from_task j a h c))) in
      let to_all = task_numbers m (filter on msg.to) (filter_all (λ a. (task_at m a).number ≤ 1023) on msg.to (contained_all _ msg.to (λ b c. task_number b (to_task j b h c)))) in (
        (omega arith, message_number j h),
        (
          (role.0, role.1),
          (
            (omega (arith, pl, a.1.1), omega (arith, pl, few_ends.0)),
            all_both IsInRange (flat_map task_field (numbers p msg.from)) _ from_all ((omega arith, omega (arith, cl, filter_length on msg.to, few_ends.1)), to_all),
          ),
        ),
      )

  messages_range : AreInRange (flat_map message_fields (map typed_message (own_messages p v)))
  messages_range =
      flat_all IsInRange message_fields (map typed_message (own_messages p v))
      (subst (λ (xs : List OwnMessage). AllByRecursion (λ x. AreInRange (message_fields x)) xs) (sym (kept typed_message own_message (is_own p v) (below (length m.messages))))
      (kept_all (λ x. AreInRange (message_fields x)) (is_own p v) (λ j. typed_message (own_message j)) (length m.messages) message_range))

  messages_few : length (map typed_message (own_messages p v)) ≤ 64
  messages_few = omega (arith, ap length (kept typed_message own_message (is_own p v) (below (length m.messages))), kept_length (is_own p v) (λ j. typed_message (own_message j)) (length m.messages), lim.messages)

  -- ---- rounds

  pub hyper_bound : (j : ℕ) → j < length s.starts → round_start s j <ℤ pos (hyper m)
  hyper_bound j h = in_hyper m (length s.starts) s ok right.shape right.s1 right.s3 right.s4 j h

  -- the release is from the hyperperiod before to the round's start
  release_range : (j a : ℕ) → Carried p j a → ((negsuc 999999999999) ≤ℤ release p j a) × (release p j a ≤ℤ pos 1000000000000)
  release_range j a c =
      let w = slot_window (length set.nodes) p whole 1 j a false steady c refl (λ e. refl) refl in
      let is = (window_is (length set.nodes) p whole 1 _ j a c w.after w.before).0 in
      let rel = is_release (length set.nodes) p whole j a c in
      let o = (All-get_or (λ z. IsTime z.0 × IsTime z.1) s.messages a (pos 0, pos 0) (omega (arith, c.1, right.shape.messages)) time.messages).0 in
      let h = hyper_bound j c.0 in
      (omega (arith, ints, is, ok.hyper_limit), omega (arith, ints, rel.opens_before, o.0, h, ok.hyper_limit))

  slot_range : (j : ℕ) → j < length s.starts → (c n : ℕ) → 1 ≤ c → c ≤ 32 → Contains (get_or s.tables j []) n → AreInRange (slot_fields Second (record { slot = c; message = n; release = release p j (place_from 0 m.messages n); copy = copy_at p j (place_from 0 m.messages n) }))
  slot_range j h c n some most has_n =
      let known = All-get_or (λ table. All (IsMessage m) table) s.tables j [] (omega (arith, h, right.shape.tables)) right.shape.numbers in
      let is = All-contains (IsMessage m) (get_or s.tables j []) n known has_n in
      let hk : is.0 < length m.messages = omega (arith, is.1, length-map m.messages (λ (msg : PlainMessage). msg.number)) in
      let e : (message_at m is.0).number ≡ n = sym (get_or-map (λ (msg : PlainMessage). msg.number) m.messages is.0 no_message n hk) ∙ is.2 in
      let k = place_is 0 m.messages n is.0 hk e in
      let at : place_from 0 m.messages n ≡ k.0 = omega (arith, k.1) in
      let within : place_from 0 m.messages n < length m.messages = omega (arith, at, k.2) in
      let same : (message_at m (place_from 0 m.messages n)).number ≡ n = ap (λ (z : ℕ). (message_at m z).number) at ∙ k.3 in
      let carried : Carried p j (place_from 0 m.messages n) = (h, within, contains_has (get_or s.tables j []) _ (subst (λ (z : ℕ). Contains (get_or s.tables j []) z) (sym same) has_n)) in
      let r = release_range j (place_from 0 m.messages n) carried in
      let number = copies_are_numbered (length set.nodes) p j (place_from 0 m.messages n) whole carried in
      let four : (message_at m (place_from 0 m.messages n)).copies ≤ 4 = lim.copies (place_from 0 m.messages n) within in
      ((some, most), ((omega arith, omega (arith, same, message_number _ within)), ((r.0, r.1), ((number.0, omega (arith, number.1, four)), tt))))

  abbrev slot_at : ℕ → ℕ → ℕ → PlainOwnSlot
  slot_at j c n = record { slot = c; message = n; release = release p j (place_from 0 m.messages n); copy = copy_at p j (place_from 0 m.messages n) }

  slots_range : (j : ℕ) → j < length s.starts → (table : List ℕ) (c : ℕ) → 1 ≤ c → c + length table ≤ 33 → ((n : ℕ) → Contains table n → Contains (get_or s.tables j []) n) →
      AreInRange (flat_map (slot_fields Second) (map typed_slot (own_slots p v j c table)))
  slots_range j h [] c some room from = tt
  slots_range j h (n ∷ table) c some room from =
      let here = slot_range j h c n some (omega (arith, room)) (from n (0, omega arith, refl)) in
      by_test (is_own p v (place_from 0 m.messages n)) here (slots_range j h table (suc c) (omega arith) (omega (arith, room)) (λ x k. from x (suc k.0, omega (arith, k.1), k.2)))
    where
      by_test : (b : Bool) → AreInRange (slot_fields Second (typed_slot (slot_at j c n))) → AreInRange (flat_map (slot_fields Second) (map typed_slot (own_slots p v j (suc c) table))) →
          AreInRange (flat_map (slot_fields Second) (map typed_slot (cond b (slot_at j c n ∷ []) [] ++ own_slots p v j (suc c) table)))
      by_test true here rest = all_both IsInRange (slot_fields Second (typed_slot (slot_at j c n))) _ here rest
      by_test false here rest = rest

  slots_few : (j : ℕ) (table : List ℕ) (c : ℕ) → length (map typed_slot (own_slots p v j c table)) ≤ length table
  slots_few j [] c = omega arith
  slots_few j (n ∷ table) c = by_test (is_own p v (place_from 0 m.messages n)) (slots_few j table (suc c))
    where
      by_test : (b : Bool) → length (map typed_slot (own_slots p v j (suc c) table)) ≤ length table →
          length (map typed_slot (cond b (record { slot = c; message = n; release = release p j (place_from 0 m.messages n); copy = copy_at p j (place_from 0 m.messages n) } ∷ []) [] ++ own_slots p v j (suc c) table)) ≤ suc (length table)
      by_test true h = omega (arith, h)
      by_test false h = omega (arith, h)

  abbrev pub own_round : ℕ → PlainOwnRound
  own_round j = record { start = natural (round_start s j); slots = own_slots p v j 1 (get_or s.tables j []) }

  round_range : (j : ℕ) → j < length s.starts → AreInRange (round_fields Second (typed_round (own_round j)))
  round_range j h =
      let t = All-get_or IsTime s.starts j (pos 0) h time.starts in
      let z = natural_is (round_start s j) t.0 in
      let e = hyper_bound j h in
      let f = (All-get_or (TableFits m) s.tables j [] (omega (arith, h, right.shape.tables)) right.s7.tables).slots in
      let table = get_or s.tables j [] in (
        (omega (arith, ints), omega (arith, ints, z, e, ok.hyper_limit)),
        (
          (omega arith, omega (arith, slots_few j table 1, f, lim.slots)),
          slots_range j h table 1 (omega arith) (omega (arith, f, lim.slots)) (λ n c. c),
        ),
      )

  rounds_range : AreInRange (flat_map (round_fields Second) (map typed_round (own_rounds p v)))
  rounds_range =
      flat_all IsInRange (round_fields Second) (map typed_round (own_rounds p v))
      (map_all (λ x. AreInRange (round_fields Second x)) typed_round (own_rounds p v) (map_all (λ r. AreInRange (round_fields Second (typed_round r))) own_round (below (length s.starts)) (below_all _ (length s.starts) round_range)))

  pub rounds_count : length (map typed_round (own_rounds p v)) ≡ length s.starts
  rounds_count = length-map (own_rounds p v) typed_round ∙ length-map (below (length s.starts)) own_round ∙ length-below (length s.starts)

  pub mode_range : (first : ℕ) → 1 ≤ first → first ≤ 2048 → AreInRange (mode_fields Second (typed_mode (part_in first v p)))
  mode_range first some most =
      let r = rounds_few set i keeps l s right in (
        (omega (arith, ints, hyper_some m), omega (arith, ints, ok.hyper_limit)),
        (
          (some, most),
          (
            (omega (arith, rounds_count, right.shape.some), omega (arith, rounds_count, r)),
            (
              (omega arith, tasks_few),
              all_both IsInRange (flat_map task_fields (map typed_task (own_tasks p v))) _ tasks_range (
                (omega arith, messages_few),
                all_both IsInRange (flat_map message_fields (map typed_message (own_messages p v))) _ messages_range rounds_range,
              ),
            ),
          ),
        ),
      )

-- ---- all modes

abbrev pub no_plan : Plan
no_plan = record { mode = record { slots = 0; round = 0; gap = 0; periods = []; tasks = []; messages = [] }; schedule = no_schedule }

-- a plan has at most 256 rounds, and its part is in range whatever its first round's number
record InPlace (v : ℕ) (p : Plan) : Type 0 where
  pub rounds : length p.schedule.starts ≤ 256
  pub range : (first : ℕ) → 1 ≤ first → first ≤ 2048 → AreInRange (mode_fields Second (typed_mode (part_in first v p)))

modes_range : (v : ℕ) (ps : List Plan) (k first : ℕ) → k + length ps ≤ 8 → 1 ≤ first → first ≤ 256 * k + 1 → ((j : ℕ) → j < length ps → InPlace v (get_or ps j no_plan)) →
    AreInRange (flat_map (mode_fields Second) (map typed_mode (mode_tables v first ps)))
modes_range v [] k first room some most h = tt
modes_range v (p ∷ ps) k first room some most h =
    let here = h 0 (omega arith) in
    all_both IsInRange (mode_fields Second (typed_mode (part_in first v p))) _ (here.range first some (omega (arith, most, room)))
    (modes_range v ps (suc k) (first + length p.schedule.starts) (omega (arith, room)) (omega (arith, some)) (omega (arith, most, here.rounds)) (λ j l. h (suc j) (omega (arith, l))))

pub mode_count : (v : ℕ) (ps : List Plan) (first : ℕ) → length (map typed_mode (mode_tables v first ps)) ≡ length ps
mode_count v [] first = refl
mode_count v (p ∷ ps) first = ap suc (mode_count v ps (first + length p.schedule.starts))

-- the part of a node of the set in right plans is in range
pub part_range : (set : ModeSet) (schedules : List Schedule) (v : ℕ) → KeepsRules set → AreSchedules set schedules → v < length set.nodes →
    images.IsInRange (typed_table (part_of (plans_of set schedules) v))
part_range set schedules v keeps plans here =
    let ps = plans_of set schedules in
    let n = length set.modes in
    let len : length ps ≡ n = length-map (below n) (plan_of set schedules) ∙ length-below n in
    let few = few_modes set keeps in
    let each = λ (j : ℕ) (h : j < length ps).
    let l : j < n = omega (arith, h, len) in
    let s = get_or schedules j no_schedule in
    let is : get_or ps j no_plan ≡ plan_of set schedules j = get_or-map_below (plan_of set schedules) n j no_plan l in
    let at : InPlace v (plan_of set schedules j) = record {
      rounds = rounds_few set j keeps l s (plans.right j l);
      range = λ first some most. mode_range set j keeps l (omega (arith, l, few)) s (plans.right j l) v first some most;
    } in
    subst (λ (p : Plan). InPlace v p) (sym is) at in (
      (omega arith, omega arith),
      (
        (omega arith, omega (arith, here, few_nodes set keeps)),
        (
          (omega (arith, mode_count v ps 1, len, some_mode set keeps), omega (arith, mode_count v ps 1, len, few)),
          modes_range v ps 0 1 (omega (arith, len, few)) (omega arith) (omega arith) each,
        ),
      ),
    )
