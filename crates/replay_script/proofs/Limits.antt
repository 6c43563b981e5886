-- How large a mode set is that keeps its rules
use Rattle.std.proofs.Common.{◌≡◌, ℕ, suc, ◌+◌, ◌≤◌, List, [], ◌∷◌, length, None, refl, sym, ap, subst, nat_le}
use borrow.Author.Tests.{leb-true}
use Rattle.app_graph.specs.declared.faults.GraphFault.TheVariants.{TooMany}
use Rattle.app_graph.specs.declared.keys.Key.TheVariants.{KMode}
use Rattle.app_graph.specs.declared.raw.RawMode.{RawMode}
use Rattle.app_graph.specs.declared.raw.RawSet.{RawSet}
use Rattle.app_graph.specs.declared.mode_set.ModeSet.{ModeSet}
use Rattle.app_graph.specs.Numbering.{modes_from, task_count, message_count}
use Rattle.app_graph.specs.Validation.{KeepsRules}
use Rattle.app_graph.specs.ValueRules.{value_rules, set_rules}
use Rattle.app_graph.proofs.Kept.{all_kept, unless_kept, set_nodes}
use Rattle.replay_script.specs.Script.{Fits}

modes_few : (set : RawSet) → value_rules set ≡ None → length set.modes ≤ 8
modes_few set e = leb-true (length set.modes) 8 (unless_kept (nat_le (length set.modes) 8) (TooMany KMode) (all_kept (set_rules set) e).1.1.1.0)

as_many : (nodes : List (List ℕ)) (t m : ℕ) (modes : List RawMode) → length (modes_from nodes t m modes) ≡ length modes
as_many nodes t m [] = refl
as_many nodes t m (mode ∷ rest) = ap suc (as_many nodes (t + task_count mode) (m + message_count mode) rest)

pub kept_fits : (set : ModeSet) → KeepsRules set → Fits set
kept_fits set kept =
    subst Fits (sym kept.2) (record {
      nodes = set_nodes kept.0 kept.1;
      modes = subst (λ (n : ℕ). n ≤ 8) (sym (as_many kept.0.nodes 0 0 kept.0.modes)) (modes_few kept.0 kept.1);
    })
