use Rattle.std.proofs.Common.{arith, subst, sym}
use Rattle.proof_tree.specs.Accepting.{doc_modes}
use Rattle.cert_checker.specs.DocumentStages.{FrontRight}
use Rattle.cert_checker.proofs.Unread.{begins}
use Rattle.cert_checker.proofs.checker.Checker.begin.Goals as goal

pub returns-clause-ready : goal.returns-clause-ready
returns-clause-ready c =
    λ set. record {
      stage = c.new.ensures.items;
      right = subst (FrontRight (doc_modes set)) (sym c.new.ensures.items) tt;
      within = omega arith;
      line = omega arith;
    }

pub returns-clause-leads : goal.returns-clause-leads
returns-clause-leads c = λ set text. begins set text c.new.result.items c.new.ensures.items
