use Rattle.std.proofs.Common.{arith, length, ap, ◌∙◌}
use Rattle.sched_model.specs.PlainMode.{PlainMode}
use Rattle.sched_model.specs.TaskGraph.{first}
use Rattle.constraint_set.proofs.BaseLists.{listed_length, listed_at}
use Rattle.constraint_set.proofs.frame.Frame.is_first.Goals as goal

pub bounds-firsts-place : goal.bounds-firsts-place
bounds-firsts-place c =
    let m = c.self.inside.mode in
    omega (arith, c.requires, listed_length (first m) (length m.tasks) c.as_slice-firsts.result.now (c.as_slice-firsts.ensures.value ∙ c.self.invariant.firsts), ap (λ (x : PlainMode). length x.tasks) c.self.view_is)

pub returns : goal.returns
returns c =
    let m = c.self.inside.mode in
    listed_at (first m) (length m.tasks) c.as_slice-firsts.result.now c.args.place _ (c.as_slice-firsts.ensures.value ∙ c.self.invariant.firsts)
    (omega (arith, c.requires, ap (λ (x : PlainMode). length x.tasks) c.self.view_is)) ∙ ap (λ (x : PlainMode). first x c.args.place) c.self.view_is
