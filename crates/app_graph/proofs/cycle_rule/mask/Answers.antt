use Rattle.std.proofs.Common.{sym, ◌∙◌}
use Rattle.app_graph.specs.ValueRules.{among}
use Rattle.app_graph.proofs.Marks.{mask_more_yes, mask_more_no}
use Rattle.app_graph.proofs.cycle_rule.mask.Goals as goal
use Rattle.app_graph.proofs.cycle_rule.mask.Goals.{then-is_among, else-is_among}

pub loop-i-preserved : goal.loop-i-preserved
loop-i-preserved c =
    elim c.if-is_among.branch [
      | then-is_among w ↦ w.mask-is ∙ mask_more_yes (λ t. among t.name c.args.names.now) c.args.tasks.now c.loop-i.i c.index-tasks-i.result c.loop-i.mask
          c.loop-i-test.true c.requires c.index-tasks-i.is (sym c.is_among.ensures ∙ w.if-is_among.true) c.loop-i.invariant
      | else-is_among w ↦ w.mask-is ∙ mask_more_no (λ t. among t.name c.args.names.now) c.args.tasks.now c.loop-i.i c.index-tasks-i.result c.loop-i.mask
          c.loop-i-test.true c.index-tasks-i.is (sym c.is_among.ensures ∙ w.if-is_among.false) c.loop-i.invariant
    ]
