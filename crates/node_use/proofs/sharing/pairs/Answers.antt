use Rattle.std.proofs.Common.{◌≡◌, ◌∙◌, ap, refl, subst, List, length, map, IfOk, ℕ}
use Rattle.std.specs.List.{flat_map}
use Rattle.app_graph.specs.declared.mode_set.App.{App}
use Rattle.sched_model.specs.Numbers.{below}
use Rattle.sched_model.specs.PlainMode.{mode_at, plain_at, tasks_of}
use Rattle.node_use.specs.declared.sharing.TaskRow.{TaskRow}
use Rattle.node_use.specs.Pairs.{pairs_with, row_of}
use Rattle.node_use.proofs.Rows.{pairs_are}
use Rattle.node_use.proofs.sharing.pairs.Goals as goal

pub returns : goal.returns
returns c =
    let rows : c.as_slice.result.now ≡ map row_of (tasks_of 0 (mode_at c.args.set.now c.args.mode).apps) =
    c.as_slice.ensures.value ∙ c.in_ok-rows.ensures ∙ ap (λ (apps : List App). map row_of (tasks_of 0 apps)) c.apps_of.ensures in
    let same = ap (λ (s : List TaskRow). flat_map (pairs_with s) (below (length s))) rows ∙ pairs_are (plain_at c.args.set.now c.args.mode) (tasks_of 0 (mode_at c.args.set.now c.args.mode).apps) refl in
    subst (λ (ps : List (ℕ × ℕ)). IfOk c.pairs_among.result (λ v. v.items ≡ ps)) same c.pairs_among.ensures
