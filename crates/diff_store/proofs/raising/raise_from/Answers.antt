use Rattle.std.proofs.Common.{ℕ, Option, length, subst, sym, ap, arith}
use Rattle.tick_num.specs.Differences.{listed}
use Rattle.diff_store.specs.Causes.{beside}
use Rattle.diff_store.specs.Chains.{begin}
use Rattle.diff_store.specs.Raising.{left_to_do}
use Rattle.diff_store.proofs.Settling.{Along, along_init, along_more, along_falls}
use Rattle.diff_store.proofs.TrailLemmas.{keeps_none, keeps_on}
use Rattle.diff_store.proofs.raising.raise_from.Goals as goal

pub loop-link-init : goal.loop-link-init
loop-link-init c = (
  subst (λ (link : Option ℕ). Along c.args.list.now c.args.variable link c.args.values.now c.args.causes.now c.args.chain.now c.args.worklist.now (left_to_do c.args.values.now c.args.worklist.now) (length c.args.worklist.now)) (sym c.first-link.ensures)
      (along_init (length c.args.values.now) c.args.list.now c.args.links.now c.args.variable c.args.values.now c.args.causes.now c.args.chain.now c.args.worklist.now c.requires.chained c.requires.variable c.requires.state),
  keeps_none c.args.trail.now (listed c.args.values.now) (beside c.args.causes.now) c.requires.kept,
)

pub loop-link-preserved : goal.loop-link-preserved
loop-link-preserved c =
    let most = left_to_do c.args.values.now c.args.worklist.now in
    let size = length c.args.worklist.now in
    let l = c.loop-link in (
      subst (λ (link : Option ℕ). Along c.args.list.now c.args.variable link c.raise.new.values c.raise.new.causes c.args.chain.now c.raise.new.worklist most size) (sym c.next-link.ensures)
          (along_more c.args.list.now c.args.variable c.in-Some.position l.values l.causes c.args.chain.now l.worklist most size
          (subst (λ (link : Option ℕ). Along c.args.list.now c.args.variable link l.values l.causes c.args.chain.now l.worklist most size) c.in-Some.is l.invariant.0)
          (length c.args.values.now) c.args.links.now c.raise.new.values c.raise.new.causes c.raise.new.worklist c.requires.chained
          c.if-not-raise.ensures.state c.if-not-raise.ensures.falls c.raise.ensures.waits),
      keeps_on c.args.trail.now l.trail c.raise.new.trail (listed c.args.values.now) (listed l.values) (listed c.raise.new.values) (beside c.args.causes.now) (beside l.causes) (beside c.raise.new.causes)
          l.invariant.1 c.raise.ensures.past,
    )

pub loop-link-smaller : goal.loop-link-smaller
loop-link-smaller c =
    let ds = c.args.list.now in
    let l = c.loop-link in
    let most = left_to_do c.args.values.now c.args.worklist.now in
    let size = length c.args.worklist.now in
    let now = ap (begin ds) c.in-Some.is in
    let next = ap (begin ds) c.next-link.ensures in
    let falls = along_falls ds c.args.variable c.in-Some.position l.values l.causes c.args.chain.now l.worklist most size
    (subst (λ (link : Option ℕ). Along ds c.args.variable link l.values l.causes c.args.chain.now l.worklist most size) c.in-Some.is l.invariant.0)
    (length c.args.values.now) c.args.links.now c.requires.chained in
    omega (arith, now, next, falls)
