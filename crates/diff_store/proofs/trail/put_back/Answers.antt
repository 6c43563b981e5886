use Rattle.std.proofs.Common.{rules, ◌≡◌, ◌+◌, ◌-◌, ◌≤◌, w64, to_z, of_z, length, set, take, ℤ, List, subst, sym, arith}
use Rattle.diff_store.specs.declared.trail.Was.{Was}
use Rattle.diff_store.proofs.TrailLemmas.{PuttingBack, putting_more}
use Rattle.diff_store.proofs.trail.put_back.Goals as goal

pub loop-entries-preserved : goal.loop-entries-preserved
loop-entries-preserved c =
    let b = c.loop-entries.invariant.0 in
    let room = c.loop-entries.invariant.1 in
    let was = c.index-was.result.now in
    let now = c.loop-entries.entries.items in
    let k = c.len-newest.result - 1 in
    let is : to_z w64 (of_z w64 was.value) ≡ was.value = search rules in
    let more = c.loop-entries-test.true in
    let longer : length now ≡ k + 1 = omega (arith, c.len-newest.ensures, c.len.ensures, more) in
    let le : c.args.start ≤ k = omega (arith, c.len-newest.ensures, c.len.ensures, more) in
    let done = putting_more c.args.start c.args.entries.now.items now c.args.values.now c.loop-entries.values c.args.causes.now c.loop-entries.causes b k was longer le c.index-was.ensures c.requires.low c.requires.causes in (
      subst (λ (ws : List Was). PuttingBack c.args.start c.args.entries.now.items ws c.args.values.now (set c.loop-entries.values was.variable (to_z w64 (of_z w64 was.value))) c.args.causes.now (set c.loop-entries.causes was.variable was.cause)) (sym c.truncate.ensures.items)
          (subst (λ (z : ℤ). PuttingBack c.args.start c.args.entries.now.items (take k now) c.args.values.now (set c.loop-entries.values was.variable z) c.args.causes.now (set c.loop-entries.causes was.variable was.cause)) (sym is) done),
      omega (arith, room, c.truncate.ensures.capacity),
    )
