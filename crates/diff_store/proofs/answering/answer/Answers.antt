use Rattle.std.proofs.Common.{◌≡◌, ◌-◌, length, subst, ap, arith}
use Rattle.tick_num.specs.Differences.{listed}
use Rattle.diff_store.specs.Causes.{beside}
use Rattle.diff_store.specs.Trails.{SamePast}
use Rattle.diff_store.proofs.Bounded.{low_values}
use Rattle.diff_store.proofs.Settling.{least_met}
use Rattle.diff_store.proofs.TrailLemmas.{past_on}
use Rattle.diff_store.proofs.answering.answer.Goals as goal

pub is_met-requires-clause-low : goal.is_met-requires-clause-low
is_met-requires-clause-low c = low_values (length c.args.values.now) (length c.args.list.now - 1) c.args.list.now c.args.values.now c.requires.few (omega arith) c.requires.range c.requires.small c.requires.least

pub answer_newest-requires-clause-low : goal.answer_newest-requires-clause-low
answer_newest-requires-clause-low c = low_values (length c.args.values.now) (length c.args.list.now - 1) c.args.list.now c.args.values.now c.requires.few (omega arith) c.requires.range c.requires.small c.requires.least

pub returns-then-is_met-clause-least : goal.returns-then-is_met-clause-least
returns-then-is_met-clause-least c = least_met c.args.list.now (listed c.args.values.now) c.requires.some c.requires.least (c.is_met.ensures.0 c.if-is_met.true)

pub returns-clause-past : goal.returns-clause-past
returns-clause-past c =
    let t = c.args.trail.now in
    let k = length t.starts in
    let v = listed c.args.values.now in
    let d = beside c.args.causes.now in
    let opened = past_on k t c.open.new.self c.ready.new.self v v v d d d (c.open.ensures.past v d) (c.ready.ensures.past k v d) in
    let same : length c.ready.new.self.starts - 1 ≡ k = (let a = ap length c.ready.ensures.starts in let b = c.open.ensures.starts in omega (arith, a, b)) in
    past_on k t c.ready.new.self c.answer_newest.new.trail v v (listed c.answer_newest.new.values) d d (beside c.answer_newest.new.causes) opened
    (subst (λ j. SamePast j c.ready.new.self c.answer_newest.new.trail v (listed c.answer_newest.new.values) d (beside c.answer_newest.new.causes)) same c.answer_newest.ensures.past.past)
