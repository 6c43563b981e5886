-- The lines of a script without a fault fit
use Rattle.std.proofs.Common.{◌≡◌, ◌≢◌, ℕ, suc, ◌+◌, ◌<◌, ◌≤◌, Bool, true, not, ◌&&◌, nat_eq, nat_le, List, [], ◌∷◌, ◌++◌, length, sum_by, position, is_some, unwrap_or, Option, Some, None, refl, sym, ap, ◌∙◌, arith, subst}
use Rattle.std.specs.Prelude.{IfSome}
use Rattle.std.specs.List.{AllByRecursion, concat}
use Rattle.std.specs.Str.{bytes_eq}
use Rattle.std.proofs.lemmas.Bool.{and_parts, leb-true, eq-eqb, false≢true}
use Rattle.std.proofs.lemmas.List.Elements.{All-from_recursion}
use Rattle.std.proofs.lemmas.List.Quantifiers.{position-Some}
use Rattle.std.proofs.lemmas.List.Sums.{sum_by_push, sum_by-cons}
use Rattle.std.specs.List.{cons_option}
use Rattle.app_graph.specs.declared.mode_set.ModeSet.{ModeSet}
use Rattle.app_graph.specs.Rules.{each_after, unless}
use Rattle.app_graph.proofs.Kept.{all_kept, kept_parts, unless_kept}
use Rattle.replay_script.specs.declared.line.Line.{Line}
use Rattle.replay_script.specs.declared.line.Line.TheVariants as says
use Rattle.replay_script.specs.declared.fault.ScriptFault.TheVariants.{BadLine, Unknown, HostNamed, TooMany}
use Rattle.replay_script.specs.Form.{Form, Passed, Go, UntilBeacon, Lose, Request, Restart}
use Rattle.replay_script.specs.Fitting.{FitsLine, FitsScript, advances}
use Rattle.replay_script.specs.Script.{asked, fault_behind, form, given, given_by, lost, mode_of, name_fault, node_of, steps, steps_of}

-- a name that was found has its place in the list
place_within : {X : Type 0} (p : X → Bool) (xs : List X) → is_some (position p xs) ≡ true → unwrap_or (position p xs) 0 < length xs
place_within p [] found = absurd cc
place_within p (x ∷ xs) found = at (position p (x ∷ xs)) refl found
  where
    at : (o : Option ℕ) → position p (x ∷ xs) ≡ o → is_some o ≡ true → unwrap_or o 0 < length (x ∷ xs)
    at None e h = absurd cc
    at (Some i) e h = (position-Some p (x ∷ xs) i x e).0

not_host : (a b : ℕ) → not (nat_eq a b) ≡ true → a ≢ b
not_host a b other same = false≢true (sym (ap not (eq-eqb a b same)) ∙ other)

-- the line of a form without a fault
form_fits : (set : ModeSet) (number : ℕ) (f : Form) → steps_of f ≤ 1000000 → name_fault set number f ≡ None → IfSome (given set f) (FitsLine set)
form_fits set number Passed few right = tt
form_fits set number (Go n) few right = few
form_fits set number UntilBeacon few right = tt
form_fits set number (Lose names) few right = tt
form_fits set number (Request name) few right =
    place_within (λ m. bytes_eq name m.name) set.modes
    (unless_kept (is_some (mode_of set name)) (Unknown number) (all_kept (unless (is_some (mode_of set name)) (Unknown number) ∷ unless true (HostNamed number) ∷ []) right).0)
form_fits set number (Restart name) few right =
    let node = unwrap_or (node_of set name) 0 in
    let kept = all_kept (unless (is_some (node_of set name)) (Unknown number) ∷ unless (not (nat_eq node set.host)) (HostNamed number) ∷ []) right in (
      place_within (bytes_eq name) set.nodes (unless_kept (is_some (node_of set name)) (Unknown number) kept.0),
      not_host node set.host (unless_kept (not (nat_eq node set.host)) (HostNamed number) kept.1.0),
    )

-- the line behind others that has no fault
line_fits : (set : ModeSet) (earlier : List (List ℕ)) (line : List ℕ) → fault_behind set earlier line ≡ None → IfSome (given set (asked line)) (FitsLine set)
line_fits set earlier line right =
    let number = length earlier + 1 in
    let end = length (concat (earlier ++ line ∷ [])) in
    let sum = sum_by steps (earlier ++ line ∷ []) in
    let limits = nat_le number 10000 && nat_le end 1048576 && nat_le sum 1000000 in
    let kept = all_kept (unless limits (TooMany number) ∷ unless (is_some (form line)) (BadLine number) ∷ name_fault set number (asked line) ∷ []) right in
    let within : sum ≤ 1000000 = leb-true sum 1000000 (and_parts (nat_le number 10000 && nat_le end 1048576) (nat_le sum 1000000) (unless_kept limits (TooMany number) kept.0)).1 in
    form_fits set number (asked line) (small sum within (sum_by_push steps earlier line)) kept.1.1.0
  where
    small : (sum : ℕ) → sum ≤ 1000000 → sum ≡ sum_by steps earlier + steps line → steps line ≤ 1000000
    small sum within is = omega (arith, within, is)

cons_fits : (set : ModeSet) (o : Option Line) (lines : List Line) → IfSome o (FitsLine set) → AllByRecursion (FitsLine set) lines → AllByRecursion (FitsLine set) (cons_option o lines)
cons_fits set None lines fit rest = rest
cons_fits set (Some l) lines fit rest = (fit, rest)

lines_fit : (set : ModeSet) (before xs : List (List ℕ)) → each_after (fault_behind set) before xs ≡ None → AllByRecursion (FitsLine set) (given_by set xs)
lines_fit set before [] right = tt
lines_fit set before (x ∷ xs) right =
    let kept = kept_parts (fault_behind set before x) (each_after (fault_behind set) (before ++ x ∷ []) xs ∷ []) right in
    cons_fits set (given set (asked x)) (given_by set xs) (line_fits set before x kept.0)
    (lines_fit set (before ++ x ∷ []) xs (kept_parts (each_after (fault_behind set) (before ++ x ∷ []) xs) [] kept.1).0)

-- the Advances of the lines are those of the text's lines
form_advances : (set : ModeSet) (f : Form) (rest : List Line) → sum_by advances (cons_option (given set f) rest) ≡ steps_of f + sum_by advances rest
form_advances set Passed rest = omega arith
form_advances set (Go n) rest = sum_by-cons advances (says.Go n) rest
form_advances set UntilBeacon rest = sum_by-cons advances says.UntilBeacon rest
form_advances set (Lose names) rest = sum_by-cons advances (says.Lose (lost set names)) rest
form_advances set (Request name) rest = sum_by-cons advances (says.Request (unwrap_or (mode_of set name) 0)) rest
form_advances set (Restart name) rest = sum_by-cons advances (says.Restart (unwrap_or (node_of set name) 0)) rest

sum_is : (set : ModeSet) (xs : List (List ℕ)) → sum_by advances (given_by set xs) ≡ sum_by steps xs
sum_is set [] = refl
sum_is set (x ∷ xs) = form_advances set (asked x) (given_by set xs) ∙ ap (λ n. steps x + n) (sum_is set xs) ∙ sym (sum_by-cons steps x xs)

-- they are no more than the text's lines
one_at_most : (o : Option Line) (rest : List Line) → length (cons_option o rest) ≤ suc (length rest)
one_at_most None rest = omega arith
one_at_most (Some l) rest = omega arith

count_few : (set : ModeSet) (xs : List (List ℕ)) → length (given_by set xs) ≤ length xs
count_few set [] = omega arith
count_few set (x ∷ xs) = omega (arith, one_at_most (given set (asked x)) (given_by set xs), count_few set xs)

pub script_fits : (set : ModeSet) (all : List (List ℕ)) → each_after (fault_behind set) [] all ≡ None → length all ≤ 10000 → sum_by steps all ≤ 1000000 → FitsScript set (given_by set all)
script_fits set all right few sum =
    record {
      lines = All-from_recursion (FitsLine set) (given_by set all) (lines_fit set [] all right);
      few = omega (arith, few, count_few set all);
      advances_few = subst (λ (n : ℕ). n ≤ 1000000) (sym (sum_is set all)) sum;
    }
