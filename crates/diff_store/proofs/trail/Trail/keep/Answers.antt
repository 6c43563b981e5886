use Rattle.std.proofs.Common.{rules, ◌≡◌, ◌*◌, ◌<◌, ◌≤◌, [], ◌∷◌, ◌++◌, ℕ, ℤ, Bool, true, false, length, set, List, refl, subst, sym, ap, ◌∙◌, arith, vec_capacity, w64, to_z, of_z}
use Rattle.std.proofs.Math.Nat.{mul-le-mul_left}
use Rattle.std.proofs.lemmas.List.{length-set}
use Rattle.diff_store.specs.declared.trail.Was.{Was}
use Rattle.diff_store.specs.Causes.{marked}
use Rattle.diff_store.specs.Trails.{Trailing, Ordered, Kept, KeepsPast}
use Rattle.diff_store.proofs.TrailLemmas.{already, entries_room, added_ordered, added_keeps}
use Rattle.diff_store.proofs.trail.Trail.keep.Goals as goal

room_for : (n entries starts pushes room : ℕ) → entries < n * starts → starts ≤ pushes → n * pushes ≤ room → entries < room
room_for n entries starts pushes room l le h = let m = mul-le-mul_left n le in omega (arith, l, m, h)

pub returns-then-has : goal.returns-then-has
returns-then-has c v v' c1 c2 r =
    let s = c.self.inside in
    let t : Trailing = record { pushes = s.pushes; entries = s.entries.items; starts = s.starts.items; kept = s.kept } in
    let back = sym c.self.view_is in
    let k : Kept t = subst Kept back c.requires.kept in
    let low : c.args.variable < length s.kept = subst (λ (u : Trailing). c.args.variable < length u.kept) back c.requires.variable in
    let has = k.entry c.args.variable (sym c.has.ensures ∙ c.if-has.true) in
    subst (λ (u : Trailing). KeepsPast u u v v' c1 c2) c.self.view_is
    (already (length s.kept) t c.self.invariant.0 k c.args.variable c.args.value c.args.cause has v v' c1 c2 r)

pub push_reserved-requires : goal.push_reserved-requires
push_reserved-requires c =
    let s = c.self.inside in
    let t : Trailing = record { pushes = s.pushes; entries = s.entries.items; starts = s.starts.items; kept = s.kept } in
    let back = sym c.self.view_is in
    let k : Kept t = subst Kept back c.requires.kept in
    let low : c.args.variable < length s.kept = subst (λ (u : Trailing). c.args.variable < length u.kept) back c.requires.variable in
    let free : marked s.kept c.args.variable ≡ false = sym c.has.ensures ∙ c.if-has.false in
    let inv = c.self.invariant in
    let room = entries_room (length s.kept) t inv.0 k c.args.variable c.args.value c.args.cause refl low free in
    let fits = room_for (length s.kept) (length s.entries.items) (length s.starts.items) s.pushes (vec_capacity s.entries) room inv.1 inv.3 in
    omega (arith, fits)

pub invariant_of-self : goal.invariant_of-self
invariant_of-self c =
    let s = c.self.inside in
    let n = length s.kept in
    let y = c.args.variable in
    let t : Trailing = record { pushes = s.pushes; entries = s.entries.items; starts = s.starts.items; kept = s.kept } in
    let back = sym c.self.view_is in
    let k : Kept t = subst Kept back c.requires.kept in
    let low : y < n = subst (λ (u : Trailing). y < length u.kept) back c.requires.variable in
    let free : marked s.kept c.args.variable ≡ false = sym c.has.ensures ∙ c.if-has.false in
    let inv = c.self.invariant in
    let is : to_z w64 (of_z w64 c.args.value) ≡ c.args.value = search rules in
    let written : c.push_reserved.new.self.items ≡ s.entries.items ++ record { variable = y; cause = c.args.cause; value = to_z w64 (of_z w64 c.args.value) } ∷ [] =
    c.push_reserved.ensures.items in
    let pushed : c.push_reserved.new.self.items ≡ s.entries.items ++ record { variable = y; cause = c.args.cause; value = c.args.value } ∷ [] =
    written ∙ ap (λ (z : ℤ). s.entries.items ++ record { variable = y; cause = c.args.cause; value = z } ∷ []) is in
    let size = ap length c.mark.ensures ∙ length-set s.kept y true in
    let ordered = added_ordered n t inv.0 k y c.args.value c.args.cause refl low free in
    let grown = c.push_reserved.ensures.capacity in (
      subst (λ m. Ordered m (record { pushes = s.pushes; entries = c.push_reserved.new.self.items; starts = s.starts.items; kept = c.mark.new.self })) (sym size)
          (subst (λ (ks : List Bool). Ordered n (record { pushes = s.pushes; entries = c.push_reserved.new.self.items; starts = s.starts.items; kept = ks })) (sym c.mark.ensures)
          (subst (λ (ws : List Was). Ordered n (record { pushes = s.pushes; entries = ws; starts = s.starts.items; kept = set s.kept y true })) (sym pushed) ordered)),
      inv.1,
      inv.2,
      (let e = ap (λ m. m * s.pushes) size in let h = inv.3 in omega (arith, e, h, grown)),
    )

pub returns : goal.returns
returns c v v' c1 c2 r =
    let s = c.self.inside in
    let n = length s.kept in
    let y = c.args.variable in
    let t : Trailing = record { pushes = s.pushes; entries = s.entries.items; starts = s.starts.items; kept = s.kept } in
    let back = sym c.self.view_is in
    let k : Kept t = subst Kept back c.requires.kept in
    let low : y < n = subst (λ (u : Trailing). y < length u.kept) back c.requires.variable in
    let free : marked s.kept c.args.variable ≡ false = sym c.has.ensures ∙ c.if-has.false in
    let is : to_z w64 (of_z w64 c.args.value) ≡ c.args.value = search rules in
    let written : c.push_reserved.new.self.items ≡ s.entries.items ++ record { variable = y; cause = c.args.cause; value = to_z w64 (of_z w64 c.args.value) } ∷ [] =
    c.push_reserved.ensures.items in
    let pushed : c.push_reserved.new.self.items ≡ s.entries.items ++ record { variable = y; cause = c.args.cause; value = c.args.value } ∷ [] =
    written ∙ ap (λ (z : ℤ). s.entries.items ++ record { variable = y; cause = c.args.cause; value = z } ∷ []) is in
    let keeps = added_keeps n t c.self.invariant.0 k y c.args.value c.args.cause refl low free v v' c1 c2 r in
    subst (λ (u : Trailing). KeepsPast u (record { pushes = s.pushes; entries = c.push_reserved.new.self.items; starts = s.starts.items; kept = c.mark.new.self }) v v' c1 c2) c.self.view_is
    (subst (λ (ks : List Bool). KeepsPast t (record { pushes = s.pushes; entries = c.push_reserved.new.self.items; starts = s.starts.items; kept = ks }) v v' c1 c2) (sym c.mark.ensures)
    (subst (λ (ws : List Was). KeepsPast t (record { pushes = s.pushes; entries = ws; starts = s.starts.items; kept = set s.kept y true }) v v' c1 c2) (sym pushed) keeps))
