use Rattle.std.proofs.Common.{rules, ◌≡◌, List, length, ◌∙◌, ap, arith, w64, FitsSigned, unsigned_abs}
use Rattle.std.specs.List.{flat_map}
use Rattle.std.proofs.lemmas.Int.{to_z-of_z}
use Rattle.std.proofs.lemmas.Result.{IfOk-weaker}
use Rattle.sched_model.specs.Numbers.{below}
use Rattle.sched_model.specs.PlainMode.{hyper, plain_at}
use Rattle.sched_model.proofs.ModeNumbers.{multiple_is, multiple_low}
use Rattle.runtime_model.specs.Plans.{Plan}
use Rattle.node_tables.proofs.ModeParts.{times_are}
use Rattle.world_core.specs.declared.due.DueTask.{DueTask}
use Rattle.world_core.specs.Cycle.{due_in, kept_cycle}
use Rattle.world_core.specs.Due.{ordered_tasks}
use Rattle.world_core.proofs.CycleLemmas.{cycle_same, few_rounds}
use Rattle.world_core.proofs.cycle.cycle.Goals as goal

pub due_before-requires-clause-few : goal.due_before-requires-clause-few
due_before-requires-clause-few c = few_rounds c.args.set.now c.args.mode c.requires.rules c.requires.mode c.args.schedule.now c.requires.right

the_hyper : (c : goal.After-as_slice) → c.unsigned_abs-hyper.result ≡ hyper (plain_at c.args.set.now c.args.mode)
the_hyper c =
    let f : FitsSigned w64 c.hyper.result = search rules in
    c.unsigned_abs-hyper.ensures.value ∙ ap unsigned_abs (to_z-of_z w64 c.hyper.result f ∙ c.hyper.ensures)

pub due_before-requires-clause-hyper : goal.due_before-requires-clause-hyper
due_before-requires-clause-hyper c =
    omega (arith, the_hyper c, multiple_is c.args.set.now c.args.mode, multiple_low c.args.set.now c.args.mode c.requires.rules c.requires.mode)

pub returns : goal.returns
returns c =
    let f : FitsSigned w64 c.hyper.result = search rules in
    let h : c.unsigned_abs-hyper.result ≡ hyper (plain_at c.args.set.now c.args.mode) = c.unsigned_abs-hyper.ensures.value ∙ ap unsigned_abs (to_z-of_z w64 c.hyper.result f ∙ c.hyper.ensures) in
    let p : Plan = record { mode = plain_at c.args.set.now c.args.mode; schedule = c.args.schedule.now } in
    let nodes = length c.args.set.now.nodes in
    IfOk-weaker c.due_before.result (λ v. v.items ≡ flat_map (due_in c.as_slice.result.now c.args.schedule.now) (below c.unsigned_abs-hyper.result)) (λ v. v.items ≡ kept_cycle nodes p)
    (λ v e. e ∙ ap (λ (ts : List DueTask). flat_map (due_in ts c.args.schedule.now) (below c.unsigned_abs-hyper.result)) (c.as_slice.ensures.value ∙ c.in_ok-tasks.ensures.tasks)
    ∙ ap (λ n. flat_map (due_in (ordered_tasks nodes p) c.args.schedule.now) (below n)) h
    ∙ cycle_same p (length c.args.schedule.now.starts) c.requires.right (times_are c.args.set.now c.args.mode c.requires.rules c.requires.mode 0 c.args.schedule.now c.requires.right) nodes)
    c.due_before.ensures
