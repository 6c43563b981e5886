use Rattle.std.proofs.Common.{◌≡◌, ◌<◌, ℕ, List, Bool, get_or, length, slice_set, subst, sym, ap, ◌∙◌, arith, true, false}
use Rattle.std.proofs.lemmas.List.{get_or_default, length-set}
use Rattle.diff_store.specs.Queued.{Queued}
use Rattle.diff_store.specs.Raising.{waits_in}
use Rattle.diff_store.proofs.Queues.{queued_more, queue_room}
use Rattle.diff_store.proofs.worklist.Worklist.add.Goals as goal

idle : (ws : List Bool) (x : ℕ) (now : Bool) → x < length ws → now ≡ get_or ws x now → now ≡ false → waits_in ws x ≡ false
idle ws x now low e f = sym (e ∙ get_or_default ws x now false low) ∙ f

pub push_back_reserved-requires : goal.push_back_reserved-requires
push_back_reserved-requires c =
    let s = c.self.inside in
    let ws = s.waits.items in
    let low : c.args.variable < length ws = (let e = ap length c.self.view_is in omega (arith, e, c.requires)) in
    let r = queue_room s.queue.items ws c.args.variable low (idle ws c.args.variable c.index.result.now low c.index.ensures c.if-index.false) c.self.invariant.0 in
    let b = c.self.invariant.1 in
    omega (arith, r, b)

pub invariant_of-self : goal.invariant_of-self
invariant_of-self c =
    let s = c.self.inside in
    let ws = s.waits.items in
    let x = c.args.variable in
    let low : x < length ws = (let e = ap length c.self.view_is in omega (arith, e, c.requires)) in
    let size = length-set ws x true in
    let b = c.self.invariant.1 in
    let k = c.push_back_reserved.ensures.capacity in (
      subst (λ (q : List ℕ). Queued q (slice_set ws x true)) (sym {A = List ℕ} c.push_back_reserved.ensures.items) (queued_more s.queue.items ws x low (idle ws x c.index.result.now low c.index.ensures c.if-index.false) c.self.invariant.0),
      omega (arith, size, b, k),
    )
