-- The tasks of a mode by node number
use Rattle.std.proofs.Common.{◌≡◌, ℕ, ◌+◌, ◌%◌, ◌<◌, ◌≤◌, List, [], ◌∷◌, length, get_or, map, All, refl, ◌∙◌, ap, arith, ℤ, pos, negsuc, ◌≤ℤ◌, unsigned_abs, eqb}
use Rattle.std.specs.List.{AllByRecursion}
use Rattle.std.proofs.lemmas.Int.{ints}
use Rattle.std.proofs.lemmas.Nat.{mod_below}
use Rattle.std.proofs.lemmas.List.Elements.{All-from_recursion}
use Rattle.app_graph.specs.declared.mode_set.ModeSet.{ModeSet}
use Rattle.app_graph.specs.Validation.{KeepsRules}
use Rattle.sched_model.specs.declared.rows.TaskRow.{TaskRow}
use Rattle.sched_model.specs.declared.schedule.Schedule.{Schedule}
use Rattle.sched_model.specs.Numbers.{below, natural}
use Rattle.sched_model.specs.PlainMode.{task_at, mode_at, plain_at}
use Rattle.sched_model.specs.RightSchedule.{IsSchedule}
use Rattle.sched_model.proofs.Lists.{flat_all, below_all}
use Rattle.sched_model.proofs.Passing.{all_by_place}
use Rattle.runtime_model.specs.Plans.{Plan, offset}
use Rattle.node_tables.specs.OwnParts.{rows_of, no_row}
use Rattle.node_tables.proofs.ModeParts.{rows_count, row_at}
use Rattle.node_tables.proofs.PlainParts.{map_same}
use Rattle.world_core.specs.declared.due.DueTask.{DueTask}
use Rattle.world_core.specs.Due.{HasPeriod, IsDueTask, due_task, due_place, on_node, ordered_tasks}
use Rattle.world_core.proofs.EntryLists.{filter_all}

mapped : {X Y : Type 0} (P : Y → Type 0) (f : X → Y) (xs : List X) → AllByRecursion (λ x. P (f x)) xs → AllByRecursion P (map f xs)
mapped P f [] h = tt
mapped P f (x ∷ xs) h = (h.0, mapped P f xs h.1)

pub abs_natural : (z : ℤ) → pos 0 ≤ℤ z → unsigned_abs z ≡ natural z
abs_natural (pos n) h = refl
abs_natural (negsuc n) h = absurd (omega (arith, ints, h))

module _ (set : ModeSet) (i : ℕ) (keeps : KeepsRules set) (l : i < length set.modes) (s : Schedule) (right : IsSchedule (plain_at set i) (length s.starts) s) where
  abbrev p : Plan
  p = record { mode = plain_at set i; schedule = s }

  abbrev rows : List TaskRow
  rows = rows_of (mode_at set i).apps

  pub rows_have_periods : All HasPeriod rows
  rows_have_periods = all_by_place HasPeriod rows no_row (λ a h.
      let w = row_at set i keeps l 0 a (omega (arith, h, rows_count set i keeps l 0)) in
      let is : HasPeriod (get_or rows a no_row) = omega (arith, w.wcet_some, w.within) in is)

  due_same : (a : ℕ) → a < length p.mode.tasks → due_place rows s.tasks a ≡ due_task p a
  due_same a h =
      let r = get_or rows a no_row in
      let t = task_at p.mode a in
      let w = row_at set i keeps l 0 a h in
      let o = get_or s.tasks a (pos 0) in
      let made = λ (number node period first wcet : ℕ). let x : DueTask = record { number = number; node = node; period = period; start = first % period; end = (first + wcet) % period } in x in
      ap (λ z. made r.number r.node r.period z r.wcet) (abs_natural o (right.s3 a h).from_zero)
      ∙ ap (λ z. made z r.node r.period (offset p a) r.wcet) w.number
      ∙ ap (λ z. made t.number z r.period (offset p a) r.wcet) w.node
      ∙ ap (λ z. made t.number t.node z (offset p a) r.wcet) w.period
      ∙ ap (λ z. made t.number t.node t.period (offset p a) z) w.wcet

  pub tasks_same : map (due_place rows s.tasks) (below (length rows)) ≡ map (due_task p) (below (length p.mode.tasks))
  tasks_same =
      ap (λ n. map (due_place rows s.tasks) (below n)) (rows_count set i keeps l 0)
      ∙ map_same (due_place rows s.tasks) (due_task p) (length p.mode.tasks) due_same

  due_right : (a : ℕ) → a < length p.mode.tasks → IsDueTask (due_task p a)
  due_right a h =
      let t = task_at p.mode a in
      let w = row_at set i keeps l 0 a h in
      let some : 1 ≤ t.period = omega (arith, w.wcet_some, w.within, w.period) in
      record {
        some = some;
        most = omega (arith, w.period_most, w.period);
        start = mod_below (offset p a) t.period some;
        end = mod_below (offset p a + t.wcet) t.period some;
      }

  pub all_due : (nodes : ℕ) → All IsDueTask (ordered_tasks nodes p)
  all_due nodes =
      let ts = map (due_task p) (below (length p.mode.tasks)) in
      let each = mapped IsDueTask (due_task p) (below (length p.mode.tasks)) (below_all (λ a. IsDueTask (due_task p a)) (length p.mode.tasks) due_right) in
      All-from_recursion IsDueTask (ordered_tasks nodes p)
      (flat_all IsDueTask (on_node ts) (below nodes) (below_all (λ v. AllByRecursion IsDueTask (on_node ts v)) nodes (λ v h. filter_all IsDueTask (λ (t : DueTask). eqb t.node v) ts each)))
