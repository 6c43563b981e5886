-- A script without a fault is within its limits
use Rattle.std.proofs.Common.{◌≡◌, ℕ, ◌+◌, ◌≤◌, Bool, true, false, ◌&&◌, nat_le, List, [], ◌∷◌, ◌++◌, length, None, subst, sym, refl, arith, append-nil, append_assoc, length-append, sum_by}
use Rattle.std.specs.List.{concat}
use borrow.Author.Tests.{leb-true}
use Rattle.app_graph.specs.declared.mode_set.ModeSet.{ModeSet}
use Rattle.app_graph.specs.Rules.{each_after, first_of, unless}
use Rattle.app_graph.proofs.Kept.{all_kept, unless_kept}
use Rattle.ttw_text.specs.Lines.{lines}
use Rattle.ttw_text.proofs.LineLemmas.{concat-lines}
use Rattle.replay_script.specs.declared.fault.ScriptFault.TheVariants.{TooMany, BadLine}
use Rattle.replay_script.specs.Fitting.{FitsScript}
use Rattle.replay_script.specs.Script.{asked, fault_behind, first_fault, form, given_by, name_fault, steps}
use Rattle.replay_script.proofs.FittingLines.{script_fits}
use Rattle.std.specs.Prelude.{is_some}

-- the limits on lines, bytes and Advances
record IsWithin (all : List (List ℕ)) : Type 0 where
  lines : length all ≤ 10000
  bytes : length (concat all) ≤ 1048576
  advances : sum_by steps all ≤ 1000000

-- three tests hold
three : (a b c : Bool) → (a && b && c) ≡ true → (a ≡ true) × (b ≡ true) × (c ≡ true)
three true true true e = (refl, refl, refl)
three true true false e = absurd cc
three true false c e = absurd cc
three false b c e = absurd cc

-- a line without a fault ends within the limits
line_within : (set : ModeSet) (earlier : List (List ℕ)) (line : List ℕ) → fault_behind set earlier line ≡ None → IsWithin (earlier ++ line ∷ [])
line_within set earlier line none =
    let number = length earlier + 1 in
    let end = length (concat (earlier ++ line ∷ [])) in
    let sum = sum_by steps (earlier ++ line ∷ []) in
    let rules = unless (nat_le number 10000 && nat_le end 1048576 && nat_le sum 1000000) (TooMany number) ∷ unless (is_some (form line)) (BadLine number) ∷ name_fault set number (asked line) ∷ [] in
    let tests = three (nat_le number 10000) (nat_le end 1048576) (nat_le sum 1000000) (unless_kept _ (TooMany number) (all_kept rules none).0) in
    record {
      lines = omega (arith, leb-true number 10000 tests.0, length-append earlier (line ∷ []));
      bytes = leb-true end 1048576 tests.1;
      advances = leb-true sum 1000000 tests.2;
    }

-- so do all lines
lines_within : (set : ModeSet) (earlier rest : List (List ℕ)) → IsWithin earlier → each_after (fault_behind set) earlier rest ≡ None → IsWithin (earlier ++ rest)
lines_within set earlier [] within none = subst IsWithin (sym (append-nil earlier)) within
lines_within set earlier (line ∷ rest) within none =
    let parts = all_kept (fault_behind set earlier line ∷ each_after (fault_behind set) (earlier ++ line ∷ []) rest ∷ []) none in
    subst IsWithin (append_assoc earlier (line ∷ []) rest) (lines_within set (earlier ++ line ∷ []) rest (line_within set earlier line parts.0) parts.1.0)

text_within : (set : ModeSet) (text : List ℕ) → first_fault set text ≡ None → IsWithin (lines text)
text_within set text none = lines_within set [] (lines text) (record { lines = omega arith; bytes = omega arith; advances = omega arith }) none

-- a longer text has a fault
pub faultless_is_short : (set : ModeSet) (text : List ℕ) → first_fault set text ≡ None → length text ≤ 1048576
faultless_is_short set text none = subst (λ (t : List ℕ). length t ≤ 1048576) (concat-lines text) (text_within set text none).bytes

-- what a text without a fault says fits the set
pub faultless_fits : (set : ModeSet) (text : List ℕ) → first_fault set text ≡ None → FitsScript set (given_by set (lines text))
faultless_fits set text none = let w = text_within set text none in script_fits set (lines text) none w.lines w.advances
