use Rattle.std.proofs.Common.{ℕ, ℤ, pos, subst, sym}
use Rattle.std.proofs.lemmas.List.Elements.{All-nil}
use Rattle.tick_num.specs.Differences.{MeetsAll, Meets}
use Rattle.diff_store.proofs.tests.made.Goals as goal

pub returns-clause-solvable : goal.returns-clause-solvable
returns-clause-solvable c =
    let v : ℕ → ℤ = λ x. pos 0 in
    (v, subst (MeetsAll v) (sym c.in_ok-store.ensures.list) (All-nil (Meets v)))
