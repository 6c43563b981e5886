use Rattle.std.proofs.Common.{◌<◌, ℕ, List, Bool, length, false, subst, arith}
use Rattle.std.proofs.lemmas.List.{length-set}
use Rattle.diff_store.specs.Queued.{Queued}
use Rattle.diff_store.proofs.Queues.{first_low, first_taken}
use Rattle.diff_store.proofs.worklist.Worklist.take.Goals as goal

pub invariant_of-self : goal.invariant_of-self
invariant_of-self c =
    let s = c.self.inside in
    let b = c.self.invariant.1 in
    let k = c.in_err-variable.ensures.capacity in (
      subst (λ (q : List ℕ). Queued q s.waits.items) c.in_err-variable.ensures.items c.self.invariant.0,
      omega (arith, b, k),
    )

pub index_mut-requires : goal.index_mut-requires
index_mut-requires c =
    let s = c.self.inside in
    let low = first_low c.in_ok-variable.variable c.pop_front.new.self.items s.waits.items (subst (λ (q : List ℕ). Queued q s.waits.items) c.in_ok-variable.ensures.items c.self.invariant.0) in
    omega (arith, low)

pub returns-clause-range : goal.returns-clause-range
returns-clause-range c =
    let s = c.self.inside in
    let low = first_low c.in_ok-variable.variable c.pop_front.new.self.items s.waits.items (subst (λ (q : List ℕ). Queued q s.waits.items) c.in_ok-variable.ensures.items c.self.invariant.0) in
    subst (λ (ws : List Bool). c.in_ok-variable.variable < length ws) c.self.view_is low

pub invariant_of-self-2 : goal.invariant_of-self-2
invariant_of-self-2 c =
    let s = c.self.inside in
    let x = c.in_ok-variable.variable in
    let size = length-set s.waits.items x false in
    let b = c.self.invariant.1 in
    let k = c.in_ok-variable.ensures.capacity in (
      first_taken x c.pop_front.new.self.items s.waits.items (subst (λ (q : List ℕ). Queued q s.waits.items) c.in_ok-variable.ensures.items c.self.invariant.0),
      omega (arith, size, b, k),
    )
