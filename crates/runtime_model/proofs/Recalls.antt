-- What a look back finds
use Rattle.std.proofs.Common.{◌≡◌, ℕ, Bool, true, false, cond, ◌&&◌, List, [], ◌∷◌, ◌++◌, refl, sym, ◌∙◌, ap, subst, arith, ⊎_elim}
use Rattle.std.specs.Prelude.{nat_eq, Option, Some, None}
use Rattle.std.proofs.lemmas.Bool.{eqb-true, eq-eqb, and_parts}
use Rattle.runtime_model.specs.Outcomes.{Outcome, Step}
use Rattle.runtime_model.specs.LookingBack.{runs, or_else, recall, Unbroken, GivesNothing, LookedBack}
use Rattle.runtime_model.specs.Laws.{RecallLooksBack}
use Rattle.runtime_model.proofs.Registers.{cond_some, or_cases, found_now}
use Rattle.runtime_model.proofs.OutRegisters.{both_true}

appended : {X : Type 0} (xs : List X) (x : X) (ys : List X) → (xs ++ x ∷ []) ++ ys ≡ xs ++ x ∷ ys
appended [] x ys = refl
appended {X = X} (z ∷ xs) x ys = ap (λ (zs : List X). z ∷ zs) (appended xs x ys)

module _ (X : Type 0) (v stay : ℕ) (f : Outcome → Option X) (x : X) where
  finds : (ds : List Step) → recall v stay f ds ≡ Some x → LookedBack v stay f ds x
  finds [] e = absurd (grind (arith, e))
  finds (d ∷ ds) e =
      let c = cond_some (runs v (d ∷ ds) && nat_eq d.spot.stay stay) (or_else (f d.out) (recall v stay f ds)) x e in
      let b = and_parts (runs v (d ∷ ds)) (nat_eq d.spot.stay stay) c.0 in
      let here = eqb-true d.spot.stay stay b.1 in
      ⊎_elim
      (λ (now : f d.out ≡ Some x). record { newer = []; step = d; older = ds; split = refl; gives = now; latest = tt; unbroken = (b.0, here, tt) })
      (λ (r : (f d.out ≡ None) × (recall v stay f ds ≡ Some x)).
      let h = finds ds r.1 in
      record {
        newer = d ∷ h.newer;
        step = h.step;
        older = h.older;
        split = ap (λ (zs : List Step). d ∷ zs) h.split;
        gives = h.gives;
        latest = (r.0, h.latest);
        unbroken = (subst (λ (zs : List Step). runs v (d ∷ zs) ≡ true) (h.split ∙ sym (appended h.newer h.step h.older)) b.0, here, h.unbroken);
      })
      (or_cases (f d.out) (recall v stay f ds) x c.1)

  passed_over : (b : Bool) (o w : Option X) → b ≡ true → o ≡ None → w ≡ Some x → cond b (or_else o w) None ≡ Some x
  passed_over true None w e n h = h
  passed_over true (Some z) w e n h = absurd (grind (arith, n))
  passed_over false o w e n h = absurd cc

  found : (newer : List Step) (step : Step) (older : List Step) → f step.out ≡ Some x → GivesNothing f newer → Unbroken v stay (newer ++ step ∷ []) older → recall v stay f (newer ++ step ∷ older) ≡ Some x
  found [] step older gives latest u =
      found_now (runs v (step ∷ older) && nat_eq step.spot.stay stay) (f step.out) (recall v stay f older) x (both_true (runs v (step ∷ older)) (nat_eq step.spot.stay stay) u.0 (eq-eqb step.spot.stay stay u.1)) gives
  found (d ∷ newer) step older gives latest u =
      let ds = newer ++ step ∷ older in
      let r = subst (λ (zs : List Step). runs v (d ∷ zs) ≡ true) (appended newer step older) u.0 in
      passed_over (runs v (d ∷ ds) && nat_eq d.spot.stay stay) (f d.out) (recall v stay f ds) (both_true (runs v (d ∷ ds)) (nat_eq d.spot.stay stay) r (eq-eqb d.spot.stay stay u.1)) latest.0 (found newer step older gives latest.1 u.2)

pub recall_looks_back : (X : Type 0) → RecallLooksBack X
recall_looks_back X v stay f ds x =
    (finds X v stay f x ds, λ (h : LookedBack v stay f ds x). ap (recall v stay f) h.split ∙ found X v stay f x h.newer h.step h.older h.gives h.latest h.unbroken)
