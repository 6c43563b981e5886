-- The loads of the rounds at a prefix, and the one that its last choice changes
use Rattle.std.proofs.Common.{◌≡◌, ℕ, ◌+◌, ◌-◌, ◌<◌, ◌≤◌, Bool, true, false, cond, List, [], ◌∷◌, ◌++◌, length, get_or, take, Option, Some, None, refl, sym, ◌∙◌, ap, arith, ⊎_elim, ℤ, pos}
use Rattle.std.specs.Prelude.{nat_eq}
use Rattle.std.proofs.lemmas.Bool.{cases_lt, eqb-true, ne_eqb}
use Rattle.std.proofs.lemmas.List.{take_all, take_more, length-take-le}
use Rattle.sched_model.specs.PlainMode.{PlainMode}
use Rattle.sched_model.specs.ConstraintProblem.{order, decisions, load}
use Rattle.sched_model.specs.RefutationTree.{Roomy}
use Rattle.constraint_set.specs.Loads.{Tally, first, is_round, round_of, tally_of, times, with_one}
use Rattle.constraint_set.proofs.Counts.{times_last}
use Rattle.constraint_set.proofs.Tallies.{loads_are, tally_front, tally_length, tally_push}
use Rattle.branch_search.specs.Stacks.{at_, Follows}
use Rattle.branch_search.specs.Walking.{FrontTally}

-- the round that the last choice names
abbrev last_of : Tally → Option ℕ
last_of t = get_or t.named (length t.named - 1) None

module _ (m : PlainMode) (r : ℕ) where
  abbrev D : ℕ
  D = length (decisions m)

  -- ---- from one prefix to the next

  -- the last choice is counted with those before it
  pub tally_put : (p : List ℤ) (k : ℕ) (old kept new : Tally) (round : Option ℕ) → length p ≤ D → 0 < length p → k ≡ length p - 1 → FrontTally m r p old → kept ≡ first k old → new ≡ with_one kept round
      → round ≡ round_of r (get_or (decisions m) k (order 0 0)) (at_ p k) → new ≡ tally_of m r p
  tally_put p k old kept new round few some ek front ef en er =
      let len = length-take-le k p (omega (arith, ek)) in
      let more : length (take k p) < D = omega (arith, len, ek, some, few) in
      let split : take k p ++ at_ p k ∷ [] ≡ p = sym (take_more p k (pos 0) (omega (arith, ek, some))) ∙ take_all (k + 1) p (omega (arith, ek)) in
      let before : first k old ≡ tally_of m r (take k p) = ap (λ i. first i old) ek ∙ front ∙ ap (λ i. tally_of m r (take i p)) (sym ek) in
      en ∙ ap (λ (t : Tally). with_one t round) (ef ∙ before)
      ∙ ap (λ (o : Option ℕ). with_one (tally_of m r (take k p)) o) (er ∙ ap (λ i. round_of r (get_or (decisions m) i (order 0 0)) (at_ p k)) (sym len))
      ∙ tally_push m r (take k p) (at_ p k) more ∙ ap (tally_of m r) split

  -- where there is none
  pub tally_empty : (p : List ℤ) (old new : Tally) → length p ≡ 0 → FrontTally m r p old → new ≡ first 0 old → new ≡ tally_of m r p
  tally_empty [] old new none front e = e ∙ front
  tally_empty (v ∷ p) old new none front e = absurd (omega (arith, none))

  -- the loads at a prefix serve at each that follows
  pub tally_next : (p q : List ℤ) (loads : Tally) → loads ≡ tally_of m r p → Follows p q → FrontTally m r q loads
  tally_next p q loads e f = ap (first (length q - 1)) e ∙ tally_front m r p (length q - 1) ∙ ap (tally_of m r) (sym f.1)

  -- before any visit
  pub tally_first : (loads : Tally) → loads ≡ tally_of m r [] → FrontTally m r [] loads
  tally_first loads e = ap (first 0) e ∙ tally_front m r [] 0

  -- ---- where the choices before the last one leave room in each round, only the round that it names can be too full
  load_is : (p : List ℤ) (loads : Tally) (q : ℕ) → loads ≡ tally_of m r p → load m r q p ≡ times (q + 1) loads.named
  load_is p loads q e = loads_are m r q p ∙ ap (λ (t : Tally). times (q + 1) t.named) (sym e)

  -- the last choice adds to the load of the round that it names alone
  load_last : (p : List ℤ) (loads : Tally) (q : ℕ) → loads ≡ tally_of m r p → length p ≤ D → load m r q p ≡ load m r q (take (length p - 1) p) + cond (is_round (q + 1) (last_of loads)) 1 0
  load_last p loads q e few =
      ⊎_elim
      (λ (some : 0 < length p).
      let k = length p - 1 in
      let len : length loads.named ≡ length p = ap (λ (t : Tally). length t.named) e ∙ tally_length m r p few in
      let a = load_is p loads q e in
      let b : load m r q (take k p) ≡ times (q + 1) (take k loads.named) = loads_are m r q (take k p) ∙ ap (λ (t : Tally). times (q + 1) t.named) (sym (ap (first k) e ∙ tally_front m r p k)) in
      let c = times_last (q + 1) loads.named k (omega (arith, len, some)) in
      let d : ◌≡◌ {A = ℕ} (cond (is_round (q + 1) (get_or loads.named k None)) 1 0) (cond (is_round (q + 1) (last_of loads)) 1 0) = ap (λ i. cond (is_round (q + 1) (get_or loads.named i None)) 1 0) (let i : k ≡ length loads.named - 1 = omega (arith, len) in i) in
      omega (arith, a, b, c, d))
      (λ (none : length p ≤ 0).
      let len : length loads.named ≡ length p = ap (λ (t : Tally). length t.named) e ∙ tally_length m r p few in
      let a = ap (λ (x : List ℤ). load m r q x) (take_all (length p - 1) p (omega (arith, none))) in
      let b : ◌≡◌ {A = ℕ} (cond (is_round (q + 1) (last_of loads)) 1 0) 0 = ap (λ o. cond (is_round (q + 1) o) 1 0) (without loads.named (omega (arith, len, none))) in
      omega (arith, a, b))
      (cases_lt 0 (length p))
    where
      without : (named : List (Option ℕ)) → length named ≤ 0 → get_or named (length named - 1) None ≡ None
      without [] none = refl
      without (o ∷ named) none = absurd (omega (arith, none))

  pub room_unnamed : (p : List ℤ) (loads : Tally) → loads ≡ tally_of m r p → length p ≤ D → Roomy m r r (take (length p - 1) p) → last_of loads ≡ None → Roomy m r r p
  room_unnamed p loads is few room e = λ q l.
      let a = load_last p loads q is few in
      let b : ◌≡◌ {A = ℕ} (cond (is_round (q + 1) (last_of loads)) 1 0) 0 = ap (λ o. cond (is_round (q + 1) o) 1 0) e in
      omega (arith, a, b, room q l)

  room_others : (p : List ℤ) (loads : Tally) (j q : ℕ) → loads ≡ tally_of m r p → length p ≤ D → Roomy m r r (take (length p - 1) p) → last_of loads ≡ Some j → q < r → nat_eq j (q + 1) ≡ false → load m r q p ≤ m.slots
  room_others p loads j q is few room e l other =
      let a = load_last p loads q is few in
      let b : ◌≡◌ {A = ℕ} (cond (is_round (q + 1) (last_of loads)) 1 0) 0 = ap (λ o. cond (is_round (q + 1) o) 1 0) e ∙ ap (λ b. cond b 1 0) other in
      omega (arith, a, b, room q l)

  pub room_named : (p : List ℤ) (loads : Tally) (j : ℕ) → loads ≡ tally_of m r p → length p ≤ D → Roomy m r r (take (length p - 1) p) → last_of loads ≡ Some j → times j loads.named ≤ m.slots → Roomy m r r p
  room_named p loads j is few room e le = λ q l. decide q l (nat_eq j (q + 1)) refl
    where
      decide : (q : ℕ) → q < r → (b : Bool) → nat_eq j (q + 1) ≡ b → load m r q p ≤ m.slots
      decide q l true h = let b = ap (λ i. times i loads.named) (eqb-true j (q + 1) h) in omega (arith, load_is p loads q is, b, le)
      decide q l false h = room_others p loads j q is few room e l h

  pub too_full : (p : List ℤ) (loads : Tally) (j : ℕ) → loads ≡ tally_of m r p → length p ≤ D → Roomy m r r (take (length p - 1) p) → last_of loads ≡ Some j → (1 ≤ j) × (j ≤ loads.rounds) → m.slots < times j loads.named →
      (1 ≤ j) × (j ≤ r) × Roomy m r (j - 1) p × (m.slots < load m r (j - 1) p)
  too_full p loads j is few room e within over =
      let most : j ≤ r = omega (arith, within.1, ap (λ (t : Tally). t.rounds) is) in
      let at : j - 1 + 1 ≡ j = omega (arith, within.0) in (
        within.0,
        most,
        (λ q less. room_others p loads j q is few room e (omega (arith, less, most)) (ne_eqb j (q + 1) (λ same. absurd (omega (arith, less, same))))),
        omega (arith, load_is p loads (j - 1) is, ap (λ i. times i loads.named) at, over),
      )
