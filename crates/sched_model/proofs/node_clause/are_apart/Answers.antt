use Rattle.sched_model.proofs.Gaps.{first_too_long, second_decides}
use Rattle.sched_model.proofs.node_clause.are_apart.Goals as goal

pub returns-then-gap-first : goal.returns-then-gap-first
returns-then-gap-first c =
    let r = c.requires in
    first_too_long c.args.first.period c.args.first.wcet c.args.first_start c.args.second.period c.args.second.wcet c.args.second_start c.gap-gap.result c.divisor_of-divisor.result
    c.gcd_class_law.ensures r.first.1 r.first.0 r.second.1 r.second.0 c.divisor_of-divisor.ensures.some c.divisor_of-divisor.ensures.greatest c.gap-gap.ensures.value c.gap-gap.ensures.within c.if-gap-first.true

pub returns : goal.returns
returns c =
    let r = c.requires in
    second_decides c.args.first.period c.args.first.wcet c.args.first_start c.args.second.period c.args.second.wcet c.args.second_start c.gap-gap.result c.divisor_of-divisor.result
    c.gcd_class_law.ensures r.first.1 r.first.0 r.second.1 r.second.0 c.divisor_of-divisor.ensures.some c.divisor_of-divisor.ensures.greatest c.gap-gap.ensures.value c.gap-gap.ensures.within c.if-gap-first.false
