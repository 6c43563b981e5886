-- The place of the first body with a name
use Rattle.std.proofs.Common.{◌≡◌, ℕ, ◌+◌, ◌<◌, ◌≤◌, Bool, true, false, cond, List, length, get_or, map, refl, sym, ◌∙◌, ap, subst, arith, ⊎_elim}
use Rattle.std.specs.Prelude.{nat_lt, Some, None, unwrap_or}
use Rattle.std.specs.List.{position_or_len}
use Rattle.std.specs.Str.{bytes_eq}
use Rattle.std.proofs.lemmas.Bool.{cases_lt}
use Rattle.std.proofs.lemmas.List.{get_or-map, length-map}
use Rattle.std.proofs.lemmas.List.Sums.{position_or_len_is}
use Rattle.task_body.specs.Body.{BodySeen, no_body}
use Rattle.world_core.specs.StandsFor.{place_of_body}

-- no body before place i has the name
abbrev pub NoneBefore : List BodySeen → List ℕ → ℕ → Type 0
NoneBefore bodies name i = (k : ℕ) → k < i → bytes_eq name (get_or bodies k no_body).name ≡ false

-- the first place with the name, or the length
pub place_is : (bodies : List BodySeen) (name : List ℕ) (i : ℕ) → i ≤ length bodies → NoneBefore bodies name i → (i < length bodies → bytes_eq name (get_or bodies i no_body).name ≡ true) → place_of_body bodies name ≡ i
place_is bodies name i l none there =
    let at = position_or_len_is (λ (b : BodySeen). bytes_eq name b.name) bodies i no_body l none there in
    by_test (nat_lt (position_or_len (λ (b : BodySeen). bytes_eq name b.name) bodies) (length bodies)) refl at
  where
    by_test : (t : Bool) → nat_lt (position_or_len (λ (b : BodySeen). bytes_eq name b.name) bodies) (length bodies) ≡ t → position_or_len (λ (b : BodySeen). bytes_eq name b.name) bodies ≡ i →
        unwrap_or (cond t (Some (position_or_len (λ (b : BodySeen). bytes_eq name b.name) bodies)) None) (length bodies) ≡ i
    by_test true e at = at
    by_test false e at = let past : length bodies ≤ i = grind (arith, e, at) in omega (arith, past, l)

-- what is seen of the bodies
abbrev pub all_seen : {X : Type 0} → List X → (X → BodySeen) → List BodySeen
all_seen xs s = map s xs

module _ {X : Type 0} (xs : List X) (s : X → BodySeen) (name : List ℕ) where
  pub seen_there : (i : ℕ) (z : X) (b : Bool) → i < length xs → z ≡ get_or xs i z → bytes_eq name (s z).name ≡ b → bytes_eq name (get_or (map s xs) i no_body).name ≡ b
  seen_there i z b l e q = ap (λ (x : BodySeen). bytes_eq name x.name) (get_or-map s xs i z no_body l ∙ ap s (sym e)) ∙ q

  pub none_more : (i : ℕ) (z : X) → i < length xs → z ≡ get_or xs i z → bytes_eq name (s z).name ≡ false → NoneBefore (map s xs) name i → NoneBefore (map s xs) name (i + 1)
  none_more i z l e q none k h =
      ⊎_elim
      (λ (b : k < i). none k b)
      (λ (b : i ≤ k). subst (λ (n : ℕ). bytes_eq name (get_or (map s xs) n no_body).name ≡ false) (let x : i ≡ k = omega (arith, b, h) in x) (seen_there i z false l e q))
      (cases_lt k i)

  pub found_there : (i : ℕ) (z : X) → i < length xs → z ≡ get_or xs i z → bytes_eq name (s z).name ≡ true → NoneBefore (map s xs) name i → place_of_body (map s xs) name ≡ i
  found_there i z l e q none = place_is (map s xs) name i (omega (arith, l, length-map xs s)) none (λ h. seen_there i z true l e q)

  pub found_nowhere : (i : ℕ) → i ≡ length xs → NoneBefore (map s xs) name i → place_of_body (map s xs) name ≡ i
  found_nowhere i e none = place_is (map s xs) name i (omega (arith, e, length-map xs s)) none (λ h. absurd (omega (arith, h, e, length-map xs s)))
