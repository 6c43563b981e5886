-- What a node finds in its part of right plans
use Rattle.std.proofs.Common.{◌≡◌, ◌≢◌, ℕ, zero, suc, ◌+◌, ◌<◌, ◌≤◌, Bool, true, false, cond, not, ◌&&◌, nat_eq, nat_le, nat_lt, eqb, List, [], ◌∷◌, ◌++◌, length, get_or, map, filter, Contains, Option, Some, None, ⊎_elim, refl, sym, ◌∙◌, ap, subst, arith, pos, unwrap_or, All}
use Rattle.std.specs.List.{AllByRecursion, AllPairs, find, position, position_or_len}
use Rattle.std.proofs.lemmas.Bool.{cases_lt, cond-false, cond-true, eq-eqb, eqb-true, lt-ltb}
use Rattle.std.proofs.lemmas.Bool.Decides.{nat_tests}
use Rattle.std.proofs.lemmas.List.{get_or-map, length-map}
use Rattle.std.proofs.lemmas.List.Elements.{All-contains, All-filter, All-from_recursion, All-get_or, Contains-get_or, filter_passes}
use Rattle.std.proofs.lemmas.List.Sums.{fails_before_first, passes_at_first, position_or_len_is}
use Rattle.std.proofs.lemmas.Simd.{map-map}
use Rattle.app_graph.specs.declared.mode_set.ModeSet.{ModeSet}
use Rattle.app_graph.specs.Validation.{KeepsRules}
use Rattle.sched_model.specs.declared.schedule.Schedule.{Schedule}
use Rattle.sched_model.specs.Numbers.{below}
use Rattle.sched_model.specs.PlainMode.{PlainMessage, PlainMode, message_at, no_message, plain_at, task_at}
use Rattle.sched_model.specs.RightSchedule.{IsMessage, IsSchedule}
use Rattle.sched_model.specs.Rounds.{round_start}
use Rattle.sched_model.specs.TimeLimits.{IsTime}
use Rattle.sched_model.proofs.Lists.{get_or-below, get_or-map_below, length-below}
use Rattle.sched_model.proofs.TaskNumbers.{few_modes}
use Rattle.runtime_model.specs.NodeTables.{PlainOwnMessage, PlainOwnRound, PlainOwnTask, is_own, mode_tables, own_messages, own_rounds, own_slots, own_tasks, part_of}
use Rattle.runtime_model.specs.Copies.{copy_at}
use Rattle.runtime_model.specs.Placement.{release}
use Rattle.runtime_model.specs.Plans.{AreSchedules, Plan, first_round, no_schedule, node_of, place_from, plan_of, plans_of}
use Rattle.runtime_model.specs.System.{no_plan}
use Rattle.runtime_model.proofs.RightSets.{plan_count}
use Rattle.runtime_model.proofs.Times.{natural_is, place_is}
use Rattle.node_tables.specs.declared.tables.ModeTable.{ModeTable}
use Rattle.node_tables.specs.declared.tables.OwnMessage.{OwnMessage}
use Rattle.node_tables.specs.declared.tables.OwnRound.{OwnRound}
use Rattle.node_tables.specs.declared.tables.OwnSlot.{OwnSlot}
use Rattle.node_tables.specs.declared.tables.OwnTask.{OwnTask}
use Rattle.node_tables.specs.Parts.{part_in, typed_message, typed_mode, typed_round, typed_slot, typed_table, typed_task}
use Rattle.node_tables.proofs.PartRanges as part
use Rattle.node_tables.proofs.PartRanges.{contained_all, kept_all, map_all, mode_count}
use Rattle.node_tables.proofs.PlainParts.{kept}
use Rattle.node_core.specs.Laws.{PartsLookUp}
use Rattle.node_core.specs.Lookup.{consumer_place, has_round, mode_at, mode_of_round, no_mode, no_round, own_message, own_slot, own_task, round_at}
use Rattle.node_core.specs.PartLookups.{PartLooksUp, consumers_on, kept_message, kept_task, message_in_slot, table_at}
use Rattle.node_core.proofs.PartLimits as limits
use Rattle.node_core.proofs.SearchLemmas.{each_is_found, none_among}

-- ---- lists

filter_contains : {X : Type 0} (p : X → Bool) (xs : List X) (x : X) → p x ≡ true → Contains xs x → Contains (filter p xs) x
filter_contains p [] x e (k, l, f) = absurd (omega (arith, l))
filter_contains {X} p (y ∷ ys) x e (zero, l, f) =
    subst (λ (zs : List X). Contains zs x) (sym (cond-true (p y) (y ∷ filter p ys) (filter p ys) (ap p f ∙ e))) (0, omega arith, f)
filter_contains p (y ∷ ys) x e (suc k, l, f) = by_test (p y) (filter_contains p ys x e (k, omega (arith, l), f))
  where
    by_test : (b : Bool) → Contains (filter p ys) x → Contains (cond b (y ∷ filter p ys) (filter p ys)) x
    by_test true c = (suc c.0, omega (arith, c.1), c.2)
    by_test false c = c

-- what is left of a list is of it and passes
filtered_all : (P : ℕ → Type 0) (t : ℕ → Bool) (xs : List ℕ) → ((x : ℕ) → Contains xs x → t x ≡ true → P x) → AllByRecursion P (filter t xs)
filtered_all P t xs h = contained_all P (filter t xs) (λ x c. h x
    (All-contains (Contains xs) (filter t xs) x (All-filter t (Contains xs) xs (λ i d l. Contains-get_or xs i d l)) c)
    (All-contains (λ y. t y ≡ true) (filter t xs) x (filter_passes t xs) c))

into_mapped : {X Y : Type 0} (f : X → Y) (xs : List X) (x : X) → Contains xs x → Contains (map f xs) (f x)
into_mapped f xs x (k, l, e) = (k, omega (arith, l, length-map xs f), get_or-map f xs k x (f x) l ∙ ap f e)

below_contains : (n a : ℕ) → a < n → Contains (below n) a
below_contains n a l = (a, omega (arith, l, length-below n), get_or-below n a a l)

-- one of ascending items is found by its number
found : {X : Type 0} (key : X → ℕ) (xs : List X) (x : X) → AllPairs (λ a b. key a < key b) xs → Contains xs x → find (λ y. nat_eq (key y) (key x)) xs ≡ Some x
found key xs x up c =
    All-contains (λ z. find (λ y. nat_eq (key y) (key z)) xs ≡ Some z) xs x (All-from_recursion (λ z. find (λ y. nat_eq (key y) (key z)) xs ≡ Some z) xs (each_is_found key xs up)) c

-- ---- places

-- the first place of a list at which it has a number
place_there : (b : ℕ) (xs : List ℕ) → Contains xs b → position_or_len (nat_eq b) xs < length xs
place_there b xs (k, l, e) = ⊎_elim (λ (h : position_or_len (nat_eq b) xs < length xs). h)
    (λ (past : length xs ≤ position_or_len (nat_eq b) xs).
    let no = fails_before_first (nat_eq b) xs k b (omega (arith, l, past)) in
    let yes : nat_eq b (get_or xs k b) ≡ true = eq-eqb b (get_or xs k b) (sym e) in
    absurd (let q : false ≡ true = sym no ∙ yes in cc))
    (cases_lt (position_or_len (nat_eq b) xs) (length xs))

position_there : (b : ℕ) (xs : List ℕ) → position_or_len (nat_eq b) xs < length xs → position (nat_eq b) xs ≡ Some (position_or_len (nat_eq b) xs)
position_there b xs l = cond-true (nat_lt (position_or_len (nat_eq b) xs) (length xs)) (Some (position_or_len (nat_eq b) xs)) None (lt-ltb (position_or_len (nat_eq b) xs) (length xs) l)

not_less : (n : ℕ) → nat_lt n n ≡ false
not_less n = grind (arith, nat_tests)

position_none : (x : ℕ) (xs : List ℕ) → AllByRecursion (λ y. nat_eq x y ≡ false) xs → position (nat_eq x) xs ≡ None
position_none x xs h =
    let e = position_or_len_is (nat_eq x) xs (length xs) 0 (omega arith) (λ k l. All-from_recursion (λ y. nat_eq x y ≡ false) xs h k 0 l) (λ l. absurd (omega (arith, l))) in
    ap (λ (n : ℕ). cond (nat_lt n (length xs)) (Some n) None) e ∙ cond-false (nat_lt (length xs) (length xs)) (Some (length xs)) None (not_less (length xs))

-- tests that agree pass first at the same place
places_agree : (p q : ℕ → Bool) (f : ℕ → ℕ) (xs : List ℕ) → AllByRecursion (λ y. p (f y) ≡ q y) xs → position_or_len p (map f xs) ≡ position_or_len q xs
places_agree p q f [] h = refl
places_agree p q f (y ∷ ys) h =
    ap (λ (b : Bool). cond (not b) (1 + position_or_len p (map f ys)) 0) h.0 ∙ ap (λ (n : ℕ). cond (not (q y)) (1 + n) 0) (places_agree p q f ys h.1)

positions_agree : (p q : ℕ → Bool) (f : ℕ → ℕ) (xs : List ℕ) → AllByRecursion (λ y. p (f y) ≡ q y) xs → position p (map f xs) ≡ position q xs
positions_agree p q f xs h =
    ap (λ (n : ℕ). cond (nat_lt n (length (map f xs))) (Some n) None) (places_agree p q f xs h)
    ∙ ap (λ (l : ℕ). cond (nat_lt (position_or_len q xs) l) (Some (position_or_len q xs)) None) (length-map xs f)

equal_shifted : (a b x y n : ℕ) → a ≡ n + x → b ≡ n + y → nat_eq a b ≡ nat_eq x y
equal_shifted a b x y n e f = grind (arith, nat_tests, e, f)

unequal : (a b : ℕ) → a ≢ b → nat_eq b a ≡ false
unequal a b h = grind (arith, nat_tests, h)

-- ---- slots

module _ (p : Plan) (v j : ℕ) where
  abbrev slot_of : ℕ → ℕ → OwnSlot
  slot_of s number = record { slot = s; message = number; release = release p j (place_from 0 p.mode.messages number); copy = copy_at p j (place_from 0 p.mode.messages number) }

  abbrev own : ℕ → Bool
  own number = is_own p v (place_from 0 p.mode.messages number)

  -- the own slots of a table that begins at slot s
  abbrev slots : ℕ → List ℕ → List OwnSlot
  slots s table = map typed_slot (own_slots p v j s table)

  abbrev slot_found : ℕ → List OwnSlot → Option OwnSlot
  slot_found x xs = find (λ y. nat_eq y.slot x) xs

  -- another slot is passed over
  passed : (b : Bool) (x s number : ℕ) (rest : List OwnSlot) → s ≢ x → slot_found x (cond b (slot_of s number ∷ []) [] ++ rest) ≡ slot_found x rest
  passed true x s number rest differ = ap (λ (c : Bool). cond c (Some (slot_of s number)) (slot_found x rest)) (unequal x s (λ e. differ (sym e)))
  passed false x s number rest differ = refl

  slots_begin : (b : Bool) (s number : ℕ) (table : List ℕ) → map typed_slot (cond b (record { slot = s; message = number; release = release p j (place_from 0 p.mode.messages number); copy = copy_at p j (place_from 0 p.mode.messages number) } ∷ []) [] ++ own_slots p v j (suc s) table) ≡ cond b (slot_of s number ∷ []) [] ++ slots (suc s) table
  slots_begin true s number table = refl
  slots_begin false s number table = refl

  no_slot : (x s : ℕ) (table : List ℕ) → ((k : ℕ) → k < length table → x ≢ s + k) → slot_found x (slots s table) ≡ None
  no_slot x s [] differ = refl
  no_slot x s (number ∷ table) differ =
      ap (slot_found x) (slots_begin (own number) s number table)
      ∙ passed (own number) x s number (slots (suc s) table) (λ e. differ 0 (omega arith) (omega (arith, e)))
      ∙ no_slot x (suc s) table (λ k l e. differ (suc k) (omega (arith, l)) (omega (arith, e)))

  one_slot : (x s k : ℕ) (table : List ℕ) → x ≡ s + k → k < length table → slot_found x (slots s table) ≡ cond (own (get_or table k 0)) (Some (slot_of x (get_or table k 0))) None
  one_slot x s k [] e l = absurd (omega (arith, l))
  one_slot x s zero (number ∷ table) e l =
      ap (slot_found x) (slots_begin (own number) s number table) ∙ by_test (own number)
    where
      same : s ≡ x
      same = omega (arith, e)

      by_test : (b : Bool) → slot_found x (cond b (slot_of s number ∷ []) [] ++ slots (suc s) table) ≡ cond b (Some (slot_of x number)) None
      by_test true = ap (λ (c : Bool). cond c (Some (slot_of s number)) (slot_found x (slots (suc s) table))) (eq-eqb s x same) ∙ ap (λ (z : ℕ). Some (slot_of z number)) same
      by_test false = no_slot x (suc s) table (λ k l f. absurd (omega (arith, f, same)))
  one_slot x s (suc k) (number ∷ table) e l =
      ap (slot_found x) (slots_begin (own number) s number table)
      ∙ passed (own number) x s number (slots (suc s) table) (λ f. absurd (omega (arith, e, f)))
      ∙ one_slot x (suc s) k table (omega (arith, e)) (omega (arith, l))

-- ---- one mode

module _ (set : ModeSet) (i : ℕ) (keeps : KeepsRules set) (l : i < length set.modes) (few : i < 8) (s : Schedule) (right : IsSchedule (plain_at set i) (length s.starts) s) (v : ℕ) where
  abbrev m : PlainMode
  m = plain_at set i

  abbrev p : Plan
  p = record { mode = m; schedule = s }

  abbrev on : ℕ → Bool
  on a = eqb (node_of p a) v

  abbrev number_of : ℕ → ℕ
  number_of a = (task_at m a).number

  abbrev plain_task : ℕ → PlainOwnTask
  plain_task = part.own_task set i keeps l few s right v

  abbrev plain_message : ℕ → PlainOwnMessage
  plain_message = part.own_message set i keeps l few s right v

  abbrev plain_round : ℕ → PlainOwnRound
  plain_round = part.own_round set i keeps l few s right v

  abbrev tasks : List OwnTask
  tasks = map typed_task (own_tasks p v)

  abbrev messages : List OwnMessage
  messages = map typed_message (own_messages p v)

  task_found : (a : ℕ) → a < length m.tasks → node_of p a ≡ v → own_task tasks (number_of a) ≡ Some (kept_task p a)
  task_found a h e =
      found (λ (t : OwnTask). t.number) tasks (kept_task p a) (limits.tasks_ascend set i keeps l few s right v)
      (into_mapped typed_task (own_tasks p v) (plain_task a) (into_mapped plain_task (filter on (below (length m.tasks))) a (filter_contains on (below (length m.tasks)) a (eq-eqb (node_of p a) v e) (below_contains (length m.tasks) a h))))

  task_none : (x : ℕ) → ((a : ℕ) → a < length m.tasks → node_of p a ≡ v → number_of a ≢ x) → own_task tasks x ≡ None
  task_none x differ =
      none_among (λ (t : OwnTask). t.number) x tasks
      (subst (λ (xs : List OwnTask). AllByRecursion (λ t. t.number ≢ x) xs) (sym (kept typed_task plain_task on (below (length m.tasks))))
      (kept_all (λ (t : OwnTask). t.number ≢ x) on (λ a. typed_task (plain_task a)) (length m.tasks) (λ a h e. differ a h (eqb-true (node_of p a) v e))))

  message_found : (j : ℕ) → j < length m.messages → is_own p v j ≡ true → own_message messages (message_at m j).number ≡ Some (kept_message p v j)
  message_found j h e =
      found (λ (x : OwnMessage). x.number) messages (kept_message p v j) (limits.messages_ascend set i keeps l few s right v)
      (into_mapped typed_message (own_messages p v) (plain_message j) (into_mapped plain_message (filter (is_own p v) (below (length m.messages))) j (filter_contains (is_own p v) (below (length m.messages)) j e (below_contains (length m.messages) j h))))

  message_none : (x : ℕ) → ((j : ℕ) → j < length m.messages → is_own p v j ≡ true → (message_at m j).number ≢ x) → own_message messages x ≡ None
  message_none x differ =
      none_among (λ (y : OwnMessage). y.number) x messages
      (subst (λ (xs : List OwnMessage). AllByRecursion (λ y. y.number ≢ x) xs) (sym (kept typed_message plain_message (is_own p v) (below (length m.messages))))
      (kept_all (λ (y : OwnMessage). y.number ≢ x) (is_own p v) (λ j. typed_message (plain_message j)) (length m.messages) differ))

  messages_kept : messages ≡ map (kept_message p v) (filter (is_own p v) (below (length m.messages)))
  messages_kept = map-map typed_message plain_message (filter (is_own p v) (below (length m.messages)))

  round_is : (first j : ℕ) → j < length s.starts → round_at (typed_mode (part_in first v p)) j ≡ typed_round (plain_round j)
  round_is first j h =
      get_or-map typed_round (own_rounds p v) j (plain_round j) no_round (omega (arith, h, length-map (below (length s.starts)) plain_round, length-below (length s.starts)))
      ∙ ap typed_round (get_or-map_below plain_round (length s.starts) j (plain_round j) h)

  start_is : (j : ℕ) → j < length s.starts → (typed_round (plain_round j)).start ≡ round_start s j
  start_is j h = natural_is (round_start s j) (All-get_or IsTime s.starts j (pos 0) h (part.time set i keeps l few s right v).starts).0

  number_in : (j k : ℕ) → j < length s.starts → k < length (table_at p j) →
      (message_in_slot p j k < length m.messages) × ((message_at m (message_in_slot p j k)).number ≡ get_or (table_at p j) k 0)
  number_in j k h w =
      let n = get_or (table_at p j) k 0 in
      let known = All-get_or (λ table. All (IsMessage m) table) s.tables j [] (omega (arith, h, right.shape.tables)) right.shape.numbers in
      let is = All-get_or (IsMessage m) (table_at p j) k 0 w known in
      let there : is.0 < length m.messages = omega (arith, is.1, length-map m.messages (λ (x : PlainMessage). x.number)) in
      let e : (message_at m is.0).number ≡ n = sym (get_or-map (λ (x : PlainMessage). x.number) m.messages is.0 no_message n there) ∙ is.2 in
      let first = place_is 0 m.messages n is.0 there e in
      let at : place_from 0 m.messages n ≡ first.0 = omega (arith, first.1) in
      (omega (arith, at, first.2), ap (λ (z : ℕ). (message_at m z).number) at ∙ first.3)

  -- ---- consumers

  to_task : (j b : ℕ) → j < length m.messages → Contains (message_at m j).to b → b < length m.tasks
  to_task j b h c = part.to_task set i keeps l few s right v j b h c

  -- numbers of tasks are equal where their places are
  numbers_equal : (a b : ℕ) → a < length m.tasks → b < length m.tasks → nat_eq (number_of a) (number_of b) ≡ nat_eq a b
  numbers_equal a b la lb =
      let nums = part.nums set i keeps l few s right v in
      equal_shifted (number_of a) (number_of b) a b nums.task (nums.tasks a la) (nums.tasks b lb)

  consumer_found : (j b : ℕ) → j < length m.messages → Contains (message_at m j).to b → node_of p b ≡ v →
      (c : ℕ) × (c < length (consumers_on p v j)) × (get_or (consumers_on p v j) c 0 ≡ b) × (consumer_place (number_of b) (kept_message p v j) ≡ Some c)
  consumer_found j b h to e =
      let xs = consumers_on p v j in
      let there = place_there b xs (filter_contains on (message_at m j).to b (eq-eqb (node_of p b) v e) to) in
      let agree = positions_agree (nat_eq (number_of b)) (nat_eq b) number_of xs (filtered_all (λ y. nat_eq (number_of b) (number_of y) ≡ nat_eq b y) on (message_at m j).to (λ y c t. numbers_equal b y (to_task j b h to) (to_task j y h c))) in
      (position_or_len (nat_eq b) xs, there, sym (eqb-true b (get_or xs (position_or_len (nat_eq b) xs) 0) (passes_at_first (nat_eq b) xs 0 there)), agree ∙ position_there b xs there)

  consumer_none : (j x : ℕ) → j < length m.messages → ((b : ℕ) → Contains (message_at m j).to b → node_of p b ≡ v → number_of b ≢ x) → consumer_place x (kept_message p v j) ≡ None
  consumer_none j x h differ =
      position_none x (map number_of (consumers_on p v j)) (map_all (λ y. nat_eq x y ≡ false) number_of (consumers_on p v j)
      (filtered_all (λ b. nat_eq x (number_of b) ≡ false) on (message_at m j).to (λ b c t. unequal (number_of b) x (differ b c (eqb-true (node_of p b) v t)))))

-- ---- the modes of a part

some_first : (ps : List Plan) (m : ℕ) → 1 ≤ first_round ps m
some_first [] m = omega arith
some_first (p ∷ ps) zero = omega arith
some_first (p ∷ ps) (suc m) = omega (arith, some_first ps m)

-- the rounds of a mode are numbered before those of a later one
firsts_rise : (ps : List Plan) (k m : ℕ) (d : Plan) → k < m → m < length ps → first_round ps k + length (get_or ps k d).schedule.starts ≤ first_round ps m
firsts_rise [] k m d l h = absurd (omega (arith, h))
firsts_rise (p ∷ ps) k zero d l h = absurd (omega (arith, l))
firsts_rise (p ∷ ps) zero (suc m) d l h = omega (arith, some_first ps m)
firsts_rise (p ∷ ps) (suc k) (suc m) d l h = omega (arith, firsts_rise ps k m d (omega (arith, l)) (omega (arith, h)))

mode_is : (v k : ℕ) (ps : List Plan) (m : ℕ) (d : Plan) → m < length ps → get_or (map typed_mode (mode_tables v (suc k) ps)) m no_mode ≡ typed_mode (part_in (k + first_round ps m) v (get_or ps m d))
mode_is v k [] m d l = absurd (omega (arith, l))
mode_is v k (p ∷ ps) zero d l = ap (λ (n : ℕ). typed_mode (part_in n v p)) (let e : suc k ≡ k + 1 = omega arith in e)
mode_is v k (p ∷ ps) (suc m) d l =
    let n = length p.schedule.starts in
    ap (λ (x : ℕ). get_or (map typed_mode (mode_tables v x ps)) m no_mode) (let e : suc k + n ≡ suc (k + n) = omega arith in e)
    ∙ mode_is v (k + n) ps m d (omega (arith, l))
    ∙ ap (λ (x : ℕ). typed_mode (part_in x v (get_or ps m d))) (let e : k + n + first_round ps m ≡ k + (n + first_round ps m) = omega arith in e)

-- of all modes, from the first one
mode_at_is : (v : ℕ) (ps : List Plan) (m : ℕ) (d : Plan) → m < length ps → mode_at (typed_table (part_of ps v)) m ≡ typed_mode (part_in (first_round ps m) v (get_or ps m d))
mode_at_is v ps m d l = mode_is v 0 ps m d l ∙ ap (λ (x : ℕ). typed_mode (part_in x v (get_or ps m d))) (let e : 0 + first_round ps m ≡ first_round ps m = omega arith in e)

rounds_count : (p : Plan) (v : ℕ) → length (map typed_round (own_rounds p v)) ≡ length p.schedule.starts
rounds_count p v = length-map (own_rounds p v) typed_round ∙ length-map (below (length p.schedule.starts)) _ ∙ length-below (length p.schedule.starts)

round_within : (f n c x : ℕ) → c ≡ n → f ≤ x → x < f + n → (nat_le f x && nat_lt x (f + c)) ≡ true
round_within f n c x e low high = grind (arith, nat_tests, e, low, high)

round_past : (f n c x : ℕ) → c ≡ n → f + n ≤ x → (nat_le f x && nat_lt x (f + c)) ≡ false
round_past f n c x e high = grind (arith, nat_tests, e, high)

round_mode : (v : ℕ) (ps : List Plan) (m j : ℕ) (d : Plan) → m < length ps → j < length (get_or ps m d).schedule.starts → mode_of_round (typed_table (part_of ps v)) (first_round ps m + j) ≡ m
round_mode v ps m j d l h =
    let x = first_round ps m + j in
    let modes = map typed_mode (mode_tables v 1 ps) in
    let count = mode_count v ps 1 in
    let here : has_round x (get_or modes m no_mode) ≡ true =
    ap (has_round x) (mode_at_is v ps m d l) ∙ round_within (first_round ps m) (length (get_or ps m d).schedule.starts) _ x (rounds_count (get_or ps m d) v) (omega arith) (omega (arith, h)) in
    let before = λ (k : ℕ) (less : k < m).
    let kl : k < length ps = omega (arith, less, l) in
    let e : has_round x (get_or modes k no_mode) ≡ false =
    ap (has_round x) (mode_at_is v ps k d kl) ∙ round_past (first_round ps k) (length (get_or ps k d).schedule.starts) _ x (rounds_count (get_or ps k d) v) (omega (arith, firsts_rise ps k m d less l)) in
    e in
    let is = position_or_len_is (has_round x) modes m no_mode (omega (arith, l, count)) before (λ within. here) in
    ap (λ (n : ℕ). unwrap_or (cond (nat_lt n (length modes)) (Some n) None) (length modes)) is
    ∙ ap (λ (o : Option ℕ). unwrap_or o (length modes)) (cond-true (nat_lt m (length modes)) (Some m) None (lt-ltb m (length modes) (omega (arith, l, count))))

-- ---- all of it

plan_is : (set : ModeSet) (schedules : List Schedule) (i : ℕ) (d : Plan) → i < length set.modes → get_or (plans_of set schedules) i d ≡ plan_of set schedules i
plan_is set schedules i d l = get_or-map_below (plan_of set schedules) (length set.modes) i d l

looks_up : (set : ModeSet) (schedules : List Schedule) (v i : ℕ) → KeepsRules set → AreSchedules set schedules → i < length set.modes
    → PartLooksUp (plans_of set schedules) v i (plan_of set schedules i) (typed_table (part_of (plans_of set schedules) v))
looks_up set schedules v i keeps are l =
    let ps = plans_of set schedules in
    let p = plan_of set schedules i in
    let few : i < 8 = omega (arith, l, few_modes set keeps) in
    let s = get_or schedules i no_schedule in
    let right = are.right i l in
    let in_plans : i < length ps = omega (arith, l, plan_count set schedules) in
    let is = plan_is set schedules i no_plan l in
    let at : mode_at (typed_table (part_of ps v)) i ≡ typed_mode (part_in (first_round ps i) v p) =
    mode_at_is v ps i no_plan in_plans ∙ ap (λ (q : Plan). typed_mode (part_in (first_round ps i) v q)) is in
    let round = λ (j : ℕ) (h : j < length s.starts). ap (λ (m : ModeTable). round_at m j) at ∙ round_is set i keeps l few s right v (first_round ps i) j h in
    record {
      hyper = ap (λ (m : ModeTable). m.hyper) at;
      first = ap (λ (m : ModeTable). m.first_round) at;
      rounds = ap (λ (m : ModeTable). length m.rounds) at ∙ rounds_count p v;
      mode = λ j h. round_mode v ps i j no_plan in_plans (subst (λ (q : Plan). j < length q.schedule.starts) (sym is) h);
      start = λ j h. ap (λ (r : OwnRound). r.start) (round j h) ∙ start_is set i keeps l few s right v j h;
      task = λ a h e. ap (λ (m : ModeTable). own_task m.tasks (task_at p.mode a).number) at ∙ task_found set i keeps l few s right v a h e;
      no_task = λ x differ. ap (λ (m : ModeTable). own_task m.tasks x) at ∙ task_none set i keeps l few s right v x differ;
      message = λ j h e. ap (λ (m : ModeTable). own_message m.messages (message_at p.mode j).number) at ∙ message_found set i keeps l few s right v j h e;
      no_message = λ x differ. ap (λ (m : ModeTable). own_message m.messages x) at ∙ message_none set i keeps l few s right v x differ;
      messages = ap (λ (m : ModeTable). m.messages) at ∙ messages_kept set i keeps l few s right v;
      slot = λ j k h w. ap (λ (r : OwnRound). own_slot r (suc k)) (round j h) ∙ one_slot p v j (suc k) 1 k (table_at p j) (omega arith) w;
      no_slot = λ j x h differ. ap (λ (r : OwnRound). own_slot r x) (round j h) ∙ no_slot p v j x 1 (table_at p j) (λ k w e. differ k w (omega (arith, e)));
      in_slot = λ j k h w. number_in set i keeps l few s right v j k h w;
      consumer = λ j b h to e. consumer_found set i keeps l few s right v j b h to e;
      no_consumer = λ j x h differ. consumer_none set i keeps l few s right v j x h differ;
    }

pub parts_look_up : PartsLookUp
parts_look_up set schedules v i keeps are l =
    subst (λ (p : Plan). PartLooksUp (plans_of set schedules) v i p (typed_table (part_of (plans_of set schedules) v))) (sym (plan_is set schedules i no_plan l)) (looks_up set schedules v i keeps are l)
