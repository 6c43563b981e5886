use Rattle.std.proofs.Common.{◌≡◌, ℕ, ◌+◌, ◌<◌, List, refl, sym, ◌∙◌, ap, subst, arith, length, length-set}
use Rattle.sched_model.specs.PlainMode.{plain_at}
use Rattle.sched_model.specs.ServedCounts.{serves_first, Counts}
use Rattle.sched_model.proofs.ServedCounts.{most_count, serves_so, so_serves, one_more, no_more, none_yet}
use Rattle.sched_model.proofs.table_clauses.counts_of.Goals as goal
use Rattle.sched_model.proofs.table_clauses.counts_of.Goals.{then-slot-count, else-slot-count}

pub loop-place-init : goal.loop-place-init
loop-place-init c = record { long = refl; are = λ k l. none_yet 128 k (omega (arith, l, c.requires.count)) }

pub overflow_add-counts : goal.overflow_add-counts
overflow_add-counts c =
    let m = plain_at c.args.set.now c.args.mode in
    let e = c.loop-place.invariant.are c.slot_of-slot.result c.if-slot-count.true in
    omega (arith, e, most_count (serves_first m c.args.s.now c.args.window.message (c.args.base + c.slot_of-slot.result)) c.loop-place.place, c.loop-place-test.true)

pub loop-place-preserved : goal.loop-place-preserved
loop-place-preserved c =
    let m = plain_at c.args.set.now c.args.mode in
    let s = c.args.s.now in
    let i = c.args.window.message in
    let old = c.loop-place.invariant in
    let x = c.slot_of-slot.result in
    let n = c.loop-place.place in
    elim c.if-slot-count.branch [
      | then-slot-count w ↦
          let low = w.if-slot-count.true in
          let more = one_more m s i c.args.base c.args.count n x c.loop-place.counts old.are low (omega (arith, low, old.long, c.requires.count))
          (so_serves m s i (c.args.base + x) n (c.slot_of-slot.ensures.found low)) (λ k l e. c.slot_of-slot.ensures.only k l (serves_so m s i (c.args.base + k) n (omega (arith, c.loop-place-test.true, c.round_count-place-end.ensures)) e)) in
          record { long = ap (λ (l : List ℕ). length l) w.counts-is ∙ length-set c.loop-place.counts x _ ∙ old.long; are = subst (λ (l : List ℕ). Counts m s i c.args.base c.args.count (n + 1) l) (sym w.counts-is) more }
      | else-slot-count w ↦ record {
        long = ap (λ (l : List ℕ). length l) w.counts-is ∙ old.long;
        are = subst (λ (l : List ℕ). Counts m s i c.args.base c.args.count (n + 1) l) (sym w.counts-is) (no_more m s i c.args.base c.args.count n c.loop-place.counts old.are
            (λ k l e. let at = c.slot_of-slot.ensures.only k l (serves_so m s i (c.args.base + k) n (omega (arith, c.loop-place-test.true, c.round_count-place-end.ensures)) e) in omega (arith, at, l, w.if-slot-count.false)));
      }
    ]
