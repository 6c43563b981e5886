use Rattle.std.proofs.Common.{sym, ap, subst, arith, length, []}
use Rattle.app_graph.specs.declared.mode_set.ModeSet.{ModeSet}
use Rattle.app_graph.specs.Validation.{KeepsRules}
use Rattle.node_tables.proofs.TestSets.{double_kept, double_shape, double_times, only_plans, only_is, passed, right_at, shape_in, times_in}
use Rattle.node_tables.proofs.part_tests.is_double_right.Goals as goal

pub verify-requires-clause-rules : goal.verify-requires-clause-rules
verify-requires-clause-rules c = subst (λ (x : ModeSet). KeepsRules x) (sym c.requires.set) double_kept

pub verify-requires-clause-shape : goal.verify-requires-clause-shape
verify-requires-clause-shape c =
    shape_in c.args.set.now _ 0 c.index-plans-0.result _ c.requires.set (only_is c.args.plans.now c.index-plans-0.result _ c.requires.plans c.index-plans-0.is) double_shape

pub verify-requires-clause-times : goal.verify-requires-clause-times
verify-requires-clause-times c = times_in c.index-plans-0.result _ (only_is c.args.plans.now c.index-plans-0.result _ c.requires.plans c.index-plans-0.is) double_times

pub returns : goal.returns
returns c = record {
  rules = subst (λ (x : ModeSet). KeepsRules x) (sym c.requires.set) double_kept;
  right = λ t.
      only_plans c.args.set.now c.args.plans.now _ _ c.requires.set c.requires.plans
      (right_at c.args.set.now 0 c.args.plans.now c.index-plans-0.result (omega (arith, ap length c.requires.plans)) c.index-plans-0.is
      (passed c.verify.result c.is_ok.result _ c.is_ok.ensures.value c.verify.ensures.ok t));
}
