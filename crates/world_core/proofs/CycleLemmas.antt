-- The entries of a cycle by what is due in its ticks
use Rattle.std.proofs.Common.{◌≡◌, ℕ, zero, suc, ◌+◌, ◌-◌, ◌<◌, ◌≤◌, Bool, true, false, cond, not, ◌&&◌, ◌||◌, eqb, List, [], ◌∷◌, ◌++◌, length, get_or, map, All, refl, sym, ◌∙◌, ap, arith, pos, unsigned_abs}
use Rattle.std.specs.List.{flat_map, AllByRecursion}
use Rattle.std.proofs.lemmas.Bool.{and_parts, eq-eqb, ne_eqb, not-true}
use Rattle.std.proofs.lemmas.List.{get_or-map, length-map, map-append}
use Rattle.std.proofs.lemmas.List.Elements.{All-get_or, recursion_from_All}
use Rattle.sched_model.specs.declared.schedule.Schedule.{Schedule}
use Rattle.sched_model.specs.Numbers.{below, distinct, has, natural}
use Rattle.sched_model.specs.PlainMode.{PlainMessage, hyper, no_message, task_at, message_at}
use Rattle.sched_model.specs.RightSchedule.{IsMessage, IsSchedule, TableFits}
use Rattle.sched_model.specs.TimeLimits.{HasTimes, IsTime}
use Rattle.sched_model.proofs.Lists.{below_all, flat_below-suc}
use Rattle.runtime_model.specs.Entries as plain
use Rattle.runtime_model.specs.Plans.{Plan, place_from}
use Rattle.runtime_model.proofs.Times.{place_is}
use Rattle.node_tables.proofs.PlainParts.{flat_same, map_same}
use Rattle.app_graph.specs.declared.mode_set.ModeSet.{ModeSet}
use Rattle.app_graph.specs.Validation.{KeepsRules}
use Rattle.sched_model.specs.PlainMode.{plain_at}
use Rattle.sched_model.proofs.LimitedModes.{mode_at_limited}
use Rattle.sched_model.proofs.Passing.{all_by_place}
use Rattle.node_tables.specs.PartLimits.{FewSlots}
use Rattle.runtime_model.proofs.RightSets.{rounds_few}
use Rattle.world_core.specs.Cycle.{FewRounds}
use Rattle.world_core.specs.declared.cycle.Action.TheVariants.{End, Beacon, Slot, Start}
use Rattle.world_core.specs.declared.cycle.Entry.{Entry}
use Rattle.world_core.specs.declared.due.DueTask.{DueTask}
use Rattle.world_core.specs.Cycle.{slot_of, kept_entry, kept_cycle, entry_in, ends_in, starts_in, slot_in, slots_in, round_in, due_in}
use Rattle.world_core.specs.Due.{IsIdle, IsQuiet, NoRound, due_task, on_node, ordered_tasks}
use Rattle.world_core.proofs.EntryLists.{map_flat, flat_flat, flat_eq, flat_empty, flat_skip, map_cond, map_map, map_places}
use Rattle.world_core.proofs.TaskLemmas.{abs_natural}

-- ---- ticks in which nothing is due

no_end : (u : ℕ) (tasks : List DueTask) → AllByRecursion (IsIdle u) tasks → flat_map (ends_in u) tasks ≡ []
no_end u [] h = refl
no_end u (t ∷ tasks) h =
    ap (λ (b : Bool). cond b (entry_in u (End t.node t.number) ∷ []) [] ++ flat_map (ends_in u) tasks) h.0.0 ∙ no_end u tasks h.1

no_start : (u : ℕ) (tasks : List DueTask) → AllByRecursion (IsIdle u) tasks → flat_map (starts_in u) tasks ≡ []
no_start u [] h = refl
no_start u (t ∷ tasks) h =
    ap (λ (b : Bool). cond b (entry_in u (Start t.node t.number) ∷ []) [] ++ flat_map (starts_in u) tasks) h.0.1 ∙ no_start u tasks h.1

no_round_in : (s : Schedule) (from until u : ℕ) → NoRound s.starts from until → from ≤ u → u < until → flat_map (round_in u s) (below (length s.starts)) ≡ []
no_round_in s from until u none l b =
    flat_empty (round_in u s) (below (length s.starts)) (below_all (λ j. round_in u s j ≡ []) (length s.starts) (λ j h.
    let z = get_or s.starts j (pos 0) in
    let late = All-get_or (λ z. from ≤ unsigned_abs z → until ≤ unsigned_abs z) s.starts j (pos 0) h none in
    let e : eqb (unsigned_abs z) u ≡ false = ne_eqb (unsigned_abs z) u (λ same. omega (arith, same, b, late (omega (arith, same, l)))) in
    ap (λ (x : Bool). cond x (entry_in u (Beacon j) ∷ slots_in u (get_or s.tables j [])) []) e))

nothing_due : (tasks : List DueTask) (s : Schedule) (from until : ℕ) → IsQuiet tasks s.starts from until → (u : ℕ) → from ≤ u → u < until → due_in tasks s u ≡ []
nothing_due tasks s from until q u l b =
    let idle = recursion_from_All (IsIdle u) tasks (q.no_task u l b) in
    ap (λ (x : List Entry). x ++ (flat_map (round_in u s) (below (length s.starts)) ++ flat_map (starts_in u) tasks)) (no_end u tasks idle)
    ∙ ap (λ (x : List Entry). x ++ flat_map (starts_in u) tasks) (no_round_in s from until u q.no_round l b)
    ∙ no_start u tasks idle

-- from one due tick to the next
pub due_step : (tasks : List DueTask) (s : Schedule) (k next : ℕ) (old new : List Entry) → old ≡ flat_map (due_in tasks s) (below k) → new ≡ old ++ due_in tasks s k
    → k + 1 ≤ next → IsQuiet tasks s.starts (k + 1) next → new ≡ flat_map (due_in tasks s) (below next)
due_step tasks s k next old new h add l q =
    let f = due_in tasks s in
    let d = next - suc k in
    let e : suc k + d ≡ next = omega (arith, l) in
    add ∙ ap (λ (x : List Entry). x ++ f k) h ∙ sym (flat_below-suc f k)
    ∙ sym (flat_skip f (suc k) d (λ u low b. nothing_due tasks s (k + 1) next q u (omega (arith, low)) (omega (arith, b, e))))
    ∙ ap (λ n. flat_map f (below n)) e

-- ---- tasks

module _ (p : Plan) (test : ℕ → Bool) (what : ℕ → plain.Action) (u : ℕ) (f : DueTask → List Entry) where
  abbrev due : ℕ → plain.Entry
  due a = record { tick = u; action = what a }

  abbrev kept : ℕ → Entry
  kept a = kept_entry p (due a)

  module _ (same : (a : ℕ) → f (due_task p a) ≡ cond (test a) (kept a ∷ []) []) where
    one_node : (v : ℕ) (xs : List ℕ) → map (kept_entry p) (flat_map (λ a. cond (eqb (task_at p.mode a).node v && test a) (due a ∷ []) []) xs) ≡ flat_map f (on_node (map (due_task p) xs) v)
    one_node v [] = refl
    one_node v (a ∷ xs) =
        map-append (kept_entry p) (cond (eqb (task_at p.mode a).node v && test a) (due a ∷ []) []) (flat_map (λ a. cond (eqb (task_at p.mode a).node v && test a) (due a ∷ []) []) xs)
        ∙ by_test (eqb (task_at p.mode a).node v) (test a) (same a) (one_node v xs)
      where
        by_test : (b c : Bool) → f (due_task p a) ≡ cond c (kept a ∷ []) [] → {ms : List Entry} → ms ≡ flat_map f (on_node (map (due_task p) xs) v) →
            map (kept_entry p) (cond (b && c) (due a ∷ []) []) ++ ms ≡ flat_map f (cond b (due_task p a ∷ on_node (map (due_task p) xs) v) (on_node (map (due_task p) xs) v))
        by_test true c e {ms} rest =
            ap (λ (x : List Entry). x ++ ms) (map_cond (kept_entry p) c (due a ∷ []) ∙ sym e) ∙ ap (λ (x : List Entry). f (due_task p a) ++ x) rest
        by_test false c e {ms} rest = rest

    pub by_node_same : (nodes : ℕ) → map (kept_entry p) (plain.by_node nodes p test what u) ≡ flat_map f (ordered_tasks nodes p)
    by_node_same nodes =
        let n = length p.mode.tasks in
        map_flat (kept_entry p) (λ v. flat_map (λ a. cond (eqb (task_at p.mode a).node v && test a) (due a ∷ []) []) (below n)) (below nodes)
        ∙ flat_eq (λ v. map (kept_entry p) (flat_map (λ a. cond (eqb (task_at p.mode a).node v && test a) (due a ∷ []) []) (below n)))
        (λ v. flat_map f (on_node (map (due_task p) (below n)) v)) (below nodes) (λ v. one_node v (below n))
        ∙ sym (flat_flat f (on_node (map (due_task p) (below n))) (below nodes))

-- ---- slots

-- a number that is not in a list differs from each of its items
not_there : (x : ℕ) (xs : List ℕ) → has xs x ≡ false → (k : ℕ) → k < length xs → eqb x (get_or xs k 0) ≡ false
not_there x [] e k l = absurd (omega (arith, l))
not_there x (y ∷ xs) e zero l = by_test (eqb x y) (has xs x) e
  where
    by_test : (b c : Bool) → (b || c) ≡ false → b ≡ false
    by_test true c e = e
    by_test false c e = refl
not_there x (y ∷ xs) e (suc k) l = not_there x xs (by_test (eqb x y) (has xs x) e) k (omega (arith, l))
  where
    by_test : (b c : Bool) → (b || c) ≡ false → c ≡ false
    by_test true c e = absurd (let q : true ≡ false = e in cc)
    by_test false c e = e

-- the slot of a message is its place
slot_is : (from : ℕ) (table : List ℕ) (k : ℕ) → distinct table ≡ true → k < length table → slot_of from table (get_or table k 0) ≡ k + from
slot_is from [] k d l = absurd (omega (arith, l))
slot_is from (x ∷ table) zero d l = ap (λ (b : Bool). cond b from (slot_of (suc from) table x)) (eq-eqb x x refl) ∙ (let e : from ≡ 0 + from = omega arith in e)
slot_is from (x ∷ table) (suc k) d l =
    let parts = and_parts (not (has table x)) (distinct table) d in
    let y = get_or table k 0 in
    let h : k < length table = omega (arith, l) in
    ap (λ (b : Bool). cond b from (slot_of (suc from) table y)) (not_there x table (not-true (has table x) parts.0) k h)
    ∙ slot_is (suc from) table k parts.1 h ∙ (let e : k + suc from ≡ suc k + from = omega arith in e)

-- the message at the place of a known number
message_is : (p : Plan) (n : ℕ) → IsMessage p.mode n → (message_at p.mode (place_from 0 p.mode.messages n)).number ≡ n
message_is p n c =
    let h : c.0 < length p.mode.messages = omega (arith, c.1, length-map p.mode.messages (λ (msg : PlainMessage). msg.number)) in
    let e : (message_at p.mode c.0).number ≡ n = sym (get_or-map (λ (msg : PlainMessage). msg.number) p.mode.messages c.0 no_message n h) ∙ c.2 in
    let k = place_is 0 p.mode.messages n c.0 h e in
    ap (λ z. (message_at p.mode z).number) (k.1 ∙ (let o : 0 + k.0 ≡ k.0 = omega arith in o)) ∙ k.3

slots_same : (p : Plan) (u j : ℕ) → let table = get_or p.schedule.tables j [] in distinct table ≡ true → All (IsMessage p.mode) table →
    map (kept_entry p) (map (λ number. let e : plain.Entry = record { tick = u; action = plain.slot j (place_from 0 p.mode.messages number) } in e) table) ≡ slots_in u table
slots_same p u j once known =
    let table = get_or p.schedule.tables j [] in
    let f = λ (n : ℕ). let e : plain.Entry = record { tick = u; action = plain.slot j (place_from 0 p.mode.messages n) } in e in
    map_map (kept_entry p) f table ∙ map_places (λ n. kept_entry p (f n)) table 0
    ∙ map_same (λ k. kept_entry p (f (get_or table k 0))) (slot_in u table) (length table) (λ k h.
    ap (λ n. entry_in u (Slot (slot_of 1 table n) n)) (message_is p (get_or table k 0) (All-get_or (IsMessage p.mode) table k 0 h known))
    ∙ ap (λ z. entry_in u (Slot z (get_or table k 0))) (slot_is 1 table k once h))

-- ---- rounds

module _ (p : Plan) (r : ℕ) (right : IsSchedule p.mode r p.schedule) (times : HasTimes p.schedule) where
  abbrev s : Schedule
  s = p.schedule

  round_same : (u j : ℕ) → j < length s.starts → map (kept_entry p) (plain.round_at p u j) ≡ round_in u s j
  round_same u j h =
      let table = get_or s.tables j [] in
      let lt : j < length s.tables = omega (arith, h, right.shape.starts, right.shape.tables) in
      let known = All-get_or (λ table. All (IsMessage p.mode) table) s.tables j [] lt right.shape.numbers in
      let fits = All-get_or (TableFits p.mode) s.tables j [] lt right.s7.tables in
      let z = get_or s.starts j (pos 0) in
      let f = λ (n : ℕ). let e : plain.Entry = record { tick = u; action = plain.slot j (place_from 0 p.mode.messages n) } in e in
      let b : plain.Entry = record { tick = u; action = plain.beacon j } in
      map_cond (kept_entry p) (eqb (natural z) u) (b ∷ map f table)
      ∙ ap (λ (xs : List Entry). cond (eqb (natural z) u) (entry_in u (Beacon j) ∷ xs) []) (slots_same p u j fits.once known)
      ∙ ap (λ n. cond (eqb n u) (entry_in u (Beacon j) ∷ slots_in u table) []) (sym (abs_natural z (All-get_or IsTime s.starts j (pos 0) h times.starts).0))

  tick_same : (nodes u : ℕ) → map (kept_entry p) (plain.at_tick nodes p u) ≡ due_in (ordered_tasks nodes p) s u
  tick_same nodes u =
      let k = kept_entry p in
      let ends = plain.by_node nodes p (plain.due_end p u) plain.task_ends u in
      let rounds = flat_map (plain.round_at p u) (below (length s.starts)) in
      let starts = plain.by_node nodes p (plain.due_start p u) plain.task_starts u in
      let ts = ordered_tasks nodes p in
      map-append k ends (rounds ++ starts)
      ∙ ap (λ (x : List Entry). map k ends ++ x) (map-append k rounds starts)
      ∙ ap (λ (x : List Entry). x ++ (map k rounds ++ map k starts)) (by_node_same p (plain.due_end p u) plain.task_ends u (ends_in u) (λ a. refl) nodes)
      ∙ ap (λ (x : List Entry). flat_map (ends_in u) ts ++ (x ++ map k starts))
      (map_flat k (plain.round_at p u) (below (length s.starts)) ∙ flat_same (λ j. map k (plain.round_at p u j)) (round_in u s) (length s.starts) (round_same u))
      ∙ ap (λ (x : List Entry). flat_map (ends_in u) ts ++ (flat_map (round_in u s) (below (length s.starts)) ++ x))
      (by_node_same p (plain.due_start p u) plain.task_starts u (starts_in u) (λ a. refl) nodes)

  pub cycle_same : (nodes : ℕ) → flat_map (due_in (ordered_tasks nodes p) s) (below (hyper p.mode)) ≡ kept_cycle nodes p
  unfolding plain.cycle
  cycle_same nodes =
      sym (map_flat (kept_entry p) (plain.at_tick nodes p) (below (hyper p.mode))
      ∙ flat_eq (λ u. map (kept_entry p) (plain.at_tick nodes p u)) (due_in (ordered_tasks nodes p) s) (below (hyper p.mode)) (tick_same nodes))

-- the schedule's rounds are few, and so are the messages of a table
pub few_rounds : (set : ModeSet) (i : ℕ) → KeepsRules set → i < length set.modes → (s : Schedule) → IsSchedule (plain_at set i) (length s.starts) s → FewRounds s
few_rounds set i keeps l s right =
    let lim = mode_at_limited set keeps i l in
    record {
      most = rounds_few set i keeps l s right;
      tables = right.shape.tables;
      few = all_by_place FewSlots s.tables [] (λ j h. let t = All-get_or (TableFits (plain_at set i)) s.tables j [] h right.s7.tables in omega (arith, t.slots, lim.slots));
    }
