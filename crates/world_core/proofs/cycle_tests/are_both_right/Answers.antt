use Rattle.std.proofs.Common.{sym, subst}
use Rattle.app_graph.specs.declared.mode_set.ModeSet.{ModeSet}
use Rattle.app_graph.specs.Validation.{KeepsRules}
use Rattle.node_tables.proofs.TestSets.{both_kept}
use Rattle.world_core.proofs.cycle_tests.are_both_right.Goals as goal

pub verify-requires-clause-rules : goal.verify-requires-clause-rules
verify-requires-clause-rules c = subst (λ (x : ModeSet). KeepsRules x) (sym c.requires.set) both_kept

pub verify-requires-2-clause-rules : goal.verify-requires-2-clause-rules
verify-requires-2-clause-rules c = subst (λ (x : ModeSet). KeepsRules x) (sym c.requires.set) both_kept

pub returns-clause-rules : goal.returns-clause-rules
returns-clause-rules c = subst (λ (x : ModeSet). KeepsRules x) (sym c.requires.set) both_kept

pub returns-then-is_err-clause-rules : goal.returns-then-is_err-clause-rules
returns-then-is_err-clause-rules c = subst (λ (x : ModeSet). KeepsRules x) (sym c.requires.set) both_kept
