use Rattle.std.proofs.Common.{◌≡◌, ◌↔◌, ℕ, Bool, true, sym, subst, arith}
use Rattle.app_graph.specs.Reaching.{Reaches, mode_edge, after_times}
use Rattle.app_graph.proofs.Reached.{wider, stays_within, marked_are_reached}
use Rattle.app_graph.proofs.reaching.mode_reaches.Goals as goal

pub returns-then-to-first : goal.returns-then-to-first
returns-then-to-first c = (
  λ e. absurd cc,
  λ r. absurd (omega (arith, (stays_within c.args.first c.args.end c.args.mode.now c.requires.ends c.args.from c.args.to c.requires.from r).0, c.if-to-first.true)),
)

pub returns-then-to-end : goal.returns-then-to-end
returns-then-to-end c = (
  λ e. absurd cc,
  λ r. absurd (omega (arith, (stays_within c.args.first c.args.end c.args.mode.now c.requires.ends c.args.from c.args.to c.requires.from r).1, c.if-to-end.true)),
)

pub closed-marks-requires : goal.closed-marks-requires
closed-marks-requires c = wider c.args.first c.args.end _ c.args.mode.now c.requires.tasks c.requires.ends

pub returns : goal.returns
returns c =
    let start = subst (λ (k : ℕ). (n : ℕ) × (c.closed-marks.result ≡ after_times n c.args.first k c.args.mode.now)) c.with_tasks.ensures c.closed-marks.ensures.passes in
    subst (λ (b : Bool). (b ≡ true) ↔ Reaches (mode_edge c.args.mode.now) c.args.from c.args.to) (sym c.is_marked.ensures)
    (marked_are_reached c.args.first c.args.end c.args.mode.now c.args.from c.args.to c.closed-marks.result c.requires.tasks c.requires.ends c.requires.from (omega (arith, c.if-to-first.false)) start c.closed-marks.ensures.closed)
