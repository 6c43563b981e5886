use Rattle.std.proofs.Common.{rules, subst, sym, IsTrue}
use Rattle.proof_tree.specs.Accepting.{Accepts}
use Rattle.cert_checker.proofs.Machines.{end_accepts, end_refutes}
use Rattle.cert_checker.proofs.checker.Checker.end.Goals as goal

pub returns-clause-accepted : goal.returns-clause-accepted
returns-clause-accepted c =
    let yes : IsTrue c.is_end.result = search rules in
    λ set text ready goes. subst (Accepts set text) (sym c.from_vec.ensures) (end_accepts set text c.args.self ready goes (c.is_end.ensures.yes yes))

pub returns-then-not-is_end-clause-err : goal.returns-then-not-is_end-clause-err
returns-then-not-is_end-clause-err c =
    λ set ready. end_refutes set c.args.self ready (λ end. let yes : IsTrue c.is_end.result = c.is_end.ensures.no end in absurd (search rules))
