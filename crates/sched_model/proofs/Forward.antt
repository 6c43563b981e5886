-- A full open list gives a schedule
use Rattle.std.proofs.Common.{◌≡◌, ℕ, ◌+◌, ◌<◌, ◌≤◌, true, eqb, ltb, List, [], ◌∷◌, length, get_or, map, All, Contains, sym, ◌∙◌, ap, subst, arith, ℤ, pos, ◌-ℤ◌, length-append}
use Rattle.std.specs.List.{AllByRecursion, flat_map}
use Rattle.std.proofs.lemmas.Int.{ints}
use Rattle.std.proofs.lemmas.Bool.{lt-ltb, eq-eqb, and_from, cond-true}
use Rattle.std.proofs.lemmas.List.{get_or-append-add, get_or-map, length-map}
use Rattle.std.proofs.lemmas.List.Elements.{recursion_from_All, All-from_recursion, All-map, Contains-get_or}
use borrow.Author.Differences.{same_in}
use Rattle.tick_num.specs.declared.differences.Diff.{Diff}
use Rattle.tick_num.specs.Classes.{NeverMeet}
use Rattle.sched_model.specs.PlainMode.{PlainMode, task_at, message_at, no_message}
use Rattle.sched_model.specs.Numbers.{below}
use Rattle.sched_model.specs.ConstraintProblem.{Decision, order, serves, orders, ordered, share, decisions, base, chosen, chosen_all, in_force}
use Rattle.sched_model.specs.Rounds.{task_start}
use Rattle.sched_model.specs.RightSchedule.{IsSchedule, HasShape, IsMessage, TableFits, MessageFits}
use Rattle.tick_num.specs.Differences.{Meets, MeetsAll}
use Rattle.sched_model.specs.OpenPrefix.{FullOpen}
use Rattle.sched_model.specs.PrintedSchedule.{schedule_of, names, table_of}
use Rattle.sched_model.specs.ValidMode.{IsValid}
use Rattle.sched_model.proofs.Lists.{all_left, all_right, length-below, get_or-below, get_or-flat_below, part_fits}
use Rattle.sched_model.proofs.Base.{BaseFacts, facts_of}
use Rattle.sched_model.proofs.Places.{chosen_met}
use Rattle.sched_model.proofs.Moments.{Reads, reads_made, rounds_fit, gaps_fit, offset_fits, message_fits}
use Rattle.sched_model.proofs.Services.{each_window, nowhere_else}
use Rattle.sched_model.proofs.Pairs.{order_fits, never_meet}
use Rattle.sched_model.proofs.Graph.{reached, message_edge, contains_has}
use Rattle.sched_model.proofs.Tests.{kept_out_below}
use Rattle.sched_model.proofs.Loads.{distinct_table, table_load}

-- two tasks of one node have a decision
pub order_at : (m : PlainMode) (a b : ℕ) → a < b → b < length m.tasks → (task_at m a).node ≡ (task_at m b).node → (x : ℕ) × (x < length (decisions m)) × (get_or (decisions m) x (order 0 0) ≡ order a b)
unfolding decisions
order_at m a b less l same =
    let cs = flat_map (serves m) (below (length m.messages)) in
    let ds = flat_map (orders m) (below (length m.tasks)) in
    let n = length m.tasks in
    let yes : share m a b ≡ true = and_from (ltb a b) (eqb (task_at m a).node (task_at m b).node) (lt-ltb a b less) (eq-eqb (task_at m a).node (task_at m b).node same) in
    let one = cond-true (share m a b) (order a b ∷ []) [] yes in
    let one' = ap length one in
    let inner = get_or-flat_below (ordered m a) n b 0 (order 0 0) l (omega (arith, one')) in
    let i = length (flat_map (ordered m a) (below b)) + 0 in
    let fits = part_fits (ordered m a) n b l in
    let i_in : i < length (orders m a) = omega (arith, fits, one') in
    let outer = get_or-flat_below (orders m) n a i (order 0 0) (omega arith) i_in in
    let j = length (flat_map (orders m) (below a)) + i in
    let fits' = part_fits (orders m) n a (omega arith) in (
      length cs + j,
      omega (arith, length-append cs ds, fits', i_in),
      get_or-append-add cs ds j (order 0 0) ∙ outer ∙ inner ∙ ap (λ (l : List Decision). get_or l 0 (order 0 0)) one,
    )

-- values that meet the constraints of a full open list, where the first round starts at 0
module _ (m : PlainMode) (r : ℕ) (p : List ℤ) (v : ℕ → ℤ) (ok : IsValid m) (some : 1 ≤ r) (f : FullOpen m r p) (solves : MeetsAll v (in_force m r p)) (zero_first : v 0 ≡ pos 0) where
  from_in : (i : ℕ) → i < length m.messages → (a : ℕ) → Contains (message_at m i).from a → a < length m.tasks
  from_in i l a c = let t = ok.consumer i l in (ok.edges a t.0 (message_edge m i a t.0 l c t.1)).from

  to_in : (i : ℕ) → i < length m.messages → (b : ℕ) → Contains (message_at m i).to b → b < length m.tasks
  to_in i l b c = let t = ok.producer i l in (ok.edges t.0 b (message_edge m i t.0 b l t.1 c)).to

  met : AllByRecursion (Meets v) (in_force m r p)
  met = recursion_from_All (Meets v) (in_force m r p) solves

  facts : BaseFacts m r v
  facts = facts_of m r v (all_left (Meets v) (base m r) _ met)

  chosen_ok : AllByRecursion (Meets v) (chosen_all m r (decisions m) p)
  chosen_ok = all_right (Meets v) (base m r) _ met

  rd : Reads m r (schedule_of m r p v) v
  rd = reads_made m r p v

  sends : (i : ℕ) → i < length m.messages → MessageFits m (schedule_of m r p v) i
  sends i l = message_fits m r (schedule_of m r p v) v some rd zero_first from_in to_in facts i l

  apart : (a b : ℕ) → a < b → b < length m.tasks → (task_at m a).node ≡ (task_at m b).node →
      NeverMeet (pos (task_at m a).period) (pos (task_at m a).wcet) (task_start (schedule_of m r p v) a) (pos (task_at m b).period) (pos (task_at m b).wcet) (task_start (schedule_of m r p v) b)
  apart a b less l same =
      let s = schedule_of m r p v in
      let x = order_at m a b less l same in
      let la : a < length m.tasks = omega arith in
      let h = chosen_met m r v (decisions m) p chosen_ok x.0 x.1 (omega (arith, x.1, f.full)) in
      let h' = subst (λ (d : Decision). AllByRecursion (Meets v) (chosen m r d (get_or p x.0 (pos 0)))) x.2 h in
      let fit = order_fits m r v a b (get_or p x.0 (pos 0)) h' in
      let ea = rd.tasks a la in
      let eb = rd.tasks b l in
      let oa = (offset_fits m r s v some rd zero_first facts a la).from_zero in
      let ob = (offset_fits m r s v some rd zero_first facts b l).from_zero in
      never_meet (task_at m a) (task_at m b) (task_start s a) (task_start s b) (get_or p x.0 (pos 0))
      (ok.periods _ (ok.task_period a la)) (ok.periods _ (ok.task_period b l)) (ok.wcet a la).0 (ok.wcet b l).0 oa ob
      (omega (arith, ints, fit.0, ea, eb), omega (arith, ints, fit.1, ea, eb))

  table_fits : (j : ℕ) → j < r → TableFits m (table_of m r p j)
  table_fits j l = record {
    slots = omega (arith, table_load m r j p f.full, f.is_open.loads j l);
    once = distinct_table (names m r p j) (λ i. (message_at m i).number) (length m.messages) ok.numbers;
  }

  tables_fit : All (TableFits m) (map (table_of m r p) (below r))
  tables_fit = All-map (TableFits m) (table_of m r p) (below r) (λ k d l. table_fits (get_or (below r) k d) (let l' : k < r = omega (arith, l, length-below r) in omega (arith, l', get_or-below r k d l')))

  -- a number of a table is that of a message of the mode
  of_mode : (j : ℕ) → All (IsMessage m) (table_of m r p j)
  of_mode j k d l =
      let t = table_of m r p j in
      let x = get_or t k d in
      let i = kept_out_below (names m r p j) (λ i. (message_at m i).number) (length m.messages) x (contains_has t x (Contains-get_or t k d l)) in
      (i.0, omega (arith, i.1, length-map m.messages (λ msg. msg.number)), get_or-map (λ msg. msg.number) m.messages i.0 no_message x i.1 ∙ sym i.3)

  shape : HasShape m r (schedule_of m r p v)
  shape = record {
    some = some;
    starts = rd.count;
    tables = length-map (below r) (table_of m r p) ∙ length-below r;
    tasks = length-map (below (length m.tasks)) _ ∙ length-below (length m.tasks);
    messages = length-map (below (length m.messages)) _ ∙ length-below (length m.messages);
    numbers = All-map (λ table. All (IsMessage m) table) (table_of m r p) (below r) (λ k d l. of_mode (get_or (below r) k d));
  }

  pub schedule_from : IsSchedule m r (schedule_of m r p v)
  schedule_from = record {
    shape = shape;
    s1 = rounds_fit m r (schedule_of m r p v) v some rd zero_first facts;
    s2 = gaps_fit m r (schedule_of m r p v) v some rd zero_first facts;
    s3 = offset_fits m r (schedule_of m r p v) v some rd zero_first facts;
    s4 = sends;
    s5 = λ a b la lb ea eb w. omega (arith, ints, rd.tasks a la, rd.tasks b lb, facts.deadlines a la ea b lb eb (reached m ok a b lb w));
    s6 = apart;
    s7 = record { tables = tables_fit; windows = λ i k l. each_window m r p v ok some rd f.full f.chosen chosen_ok i l (sends i l) k };
    s8 = λ i g l one c. nowhere_else m r p v ok some rd f.full f.chosen chosen_ok i l (sends i l) g one c;
  }

-- the same differences from a zero elsewhere
moved_to_zero : (v : ℕ → ℤ) (ds : List Diff) → AllByRecursion (Meets v) ds → AllByRecursion (Meets (λ x. v x -ℤ v 0)) ds
moved_to_zero v [] h = tt
moved_to_zero v (d ∷ ds) h = (omega (arith, ints, h.0), moved_to_zero v ds h.1)

-- the values of a full open list, moved so that the first round starts at 0
abbrev pub from_zero : (m : PlainMode) (r : ℕ) (p : List ℤ) → FullOpen m r p → ℕ → ℤ
from_zero m r p f x = f.is_open.values.0 x -ℤ f.is_open.values.0 0

pub schedule_of_list : (m : PlainMode) (r : ℕ) (p : List ℤ) → IsValid m → 1 ≤ r → (f : FullOpen m r p) → IsSchedule m r (schedule_of m r p (from_zero m r p f))
schedule_of_list m r p ok some f =
    let v = from_zero m r p f in
    schedule_from m r p v ok some f
    (All-from_recursion (Meets v) (in_force m r p) (moved_to_zero f.is_open.values.0 (in_force m r p) (recursion_from_All (Meets f.is_open.values.0) (in_force m r p) f.is_open.values.1)))
    (same_in _ _ (omega (arith, ints)))
