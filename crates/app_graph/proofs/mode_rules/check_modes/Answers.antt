use Rattle.std.proofs.Common.{List, [], take, refl, subst}
use Rattle.std.proofs.lemmas.Result.{err_from_is_err_and}
use Rattle.app_graph.specs.declared.raw.RawMode.{RawMode}
use Rattle.app_graph.specs.Checks.{Breaks}
use Rattle.app_graph.specs.Rules.{each_after}
use Rattle.app_graph.specs.ValueRules.{mode_values}
use Rattle.app_graph.proofs.Walks.{next_kept, next_breaks}
use Rattle.app_graph.proofs.mode_rules.check_modes.Goals as goal

pub loop-i-preserved : goal.loop-i-preserved
loop-i-preserved c =
    let modes = c.as_slice-modes.result.now in
    let i = c.loop-i.i in
    next_kept (mode_values c.args.set.now) modes i (take i modes) c.index-modes-i.result c.loop-i-test.true refl c.index-modes-i.is c.in_ok-check_mode.ensures c.loop-i.invariant

pub returns-in_err-check_mode : goal.returns-in_err-check_mode
returns-in_err-check_mode c =
    let p = err_from_is_err_and c.from_residual.result c.from_residual.ensures.1 in
    let modes = c.as_slice-modes.result.now in
    let i = c.loop-i.i in
    rw (p.1, p.2)
    (subst (λ (ms : List RawMode). Breaks c.in_err-check_mode.field-0.0 (each_after (mode_values c.args.set.now) [] ms)) c.as_slice-modes.ensures
    (next_breaks (mode_values c.args.set.now) modes i (take i modes) c.index-modes-i.result c.in_err-check_mode.field-0.0 c.loop-i-test.true refl c.index-modes-i.is c.in_err-check_mode.ensures c.loop-i.invariant))
