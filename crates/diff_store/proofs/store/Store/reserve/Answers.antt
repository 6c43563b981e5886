use Rattle.std.proofs.Common.{rules, ◌≡◌, ◌<◌, [], ℤ, pos, List, All, false, length, replicate, sym, ap, ◌∙◌, subst, arith}
use Rattle.std.proofs.lemmas.List.{length-replicate}
use Rattle.std.proofs.lemmas.List.Elements.{All-nil}
use Rattle.tick_num.specs.declared.differences.Diff.{Diff}
use Rattle.tick_num.specs.Differences.{InRange}
use Rattle.diff_store.specs.Bounds.{Small}
use Rattle.diff_store.specs.Chains.{Chained}
use Rattle.diff_store.specs.Raising.{NoneWaits}
use Rattle.diff_store.specs.Standing.{Answered}
use Rattle.diff_store.proofs.Stores.{empty_chained, empty_answered, none_waits}
use Rattle.diff_store.proofs.store.Store.reserve.Goals as goal

pub invariant_of-result : goal.invariant_of-result
invariant_of-result c =
    let n = c.args.n in
    let list = c.in_ok-with_capacity.ensures.items in
    let values : c.in_ok-vec.field-0.items ≡ replicate n (pos 0) = search rules in
    let starts = c.in_ok-reserve-3.ensures.starts in
    let waits = c.in_ok-reserve-4.ensures in
    record {
      few = search rules;
      long = search rules;
      fits = let e = ap length list in omega (arith, e);
      range = subst (InRange n) (sym list) (All-nil (λ (d : Diff). (d.x < n) × (d.y < n)));
      small = subst (λ (ds : List Diff). All Small ds) (sym list) (All-nil Small);
      chained = subst (λ (ds : List Diff). Chained n ds c.in_ok-reserve.field-0) (sym list) (empty_chained n c.in_ok-reserve.field-0 c.in_ok-reserve.ensures.firsts c.in_ok-reserve.ensures.lasts);
      answered = subst (λ (ds : List Diff). Answered ds c.in_ok-reserve-3.field-0 c.in_ok-vec.field-0.items c.in_ok-vec-2.field-0.items c.in_ok-vec-3.field-0.items) (sym list)
          (subst (λ (vs : List ℤ). Answered [] c.in_ok-reserve-3.field-0 vs c.in_ok-vec-2.field-0.items c.in_ok-vec-3.field-0.items) (sym values)
          (empty_answered c.in_ok-reserve-3.field-0 c.in_ok-vec-2.field-0.items c.in_ok-vec-3.field-0.items n starts));
      values = let l = c.in_ok-vec.ensures.len in omega (arith, l);
      causes = let l = c.in_ok-vec-2.ensures.len in omega (arith, l);
      chain = ap length c.in_ok-reserve-2.ensures ∙ length-replicate n false;
      cycle = let l = c.in_ok-vec-3.ensures.len in omega (arith, l);
      start = omega arith;
      pushes = c.in_ok-reserve-3.ensures.pushes;
      starts = ap length starts ∙ sym (ap length list);
      kept = c.in_ok-reserve-3.ensures.kept;
      waits = ap length waits ∙ length-replicate n false;
      none_waits = subst NoneWaits (sym waits) (none_waits n);
      list_room = c.in_ok-with_capacity.ensures.capacity;
      newer_room = c.in_ok-reserve.ensures.newer;
      older_room = c.in_ok-reserve.ensures.older;
    }
