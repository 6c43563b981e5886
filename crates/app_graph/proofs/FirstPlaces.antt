-- A map from names to the places in a list where they first stand
use Rattle.std.proofs.Common.{◌≡◌, ℕ, suc, ◌+◌, ◌<◌, ◌≤◌, Bool, true, false, cond, not, ltb, List, [], ◌∷◌, ◌++◌, length, get_or, take, position, Option, Some, None, is_some, unwrap_or, refl, sym, ◌∙◌, ap, arith, Bor, ⊎_elim}
use Rattle.std.specs.List.{position_or_len}
use Rattle.std.specs.Option.{option_map, option_or}
use Rattle.std.specs.Map.{lookup}
use Rattle.std.specs.Str.{bytes_eq}
use Rattle.std.proofs.lemmas.Bool.{cases_lt, lt-ltb, le-ltb, ltb-true}
use Rattle.std.proofs.lemmas.List.{take_more, length-take}
use Rattle.std.proofs.lemmas.Slice.Eq.{bytes_eq-Decides}
use Rattle.indexmap.specs.IndexMap.{insert_entry}
use Rattle.app_graph.specs.Places.{named, Places}

-- the first place, by recursion
abbrev first_at : {X : Type 0} → (X → Bool) → List X → Option ℕ
first_at p [] = None
first_at p (x ∷ xs) = cond (p x) (Some 0) (option_map suc (first_at p xs))

ltb_suc : (a b : ℕ) → ltb (suc a) (suc b) ≡ ltb a b
ltb_suc a b = ⊎_elim
    (λ (l : a < b). lt-ltb (suc a) (suc b) (omega (arith, l)) ∙ sym (lt-ltb a b l))
    (λ (l : b ≤ a). le-ltb (suc a) (suc b) (omega (arith, l)) ∙ sym (le-ltb a b l))
    (cases_lt a b)

first_is : {X : Type 0} (p : X → Bool) (xs : List X) → position p xs ≡ first_at p xs
first_is p [] = refl
first_is p (x ∷ xs) = by_test (p x) refl (first_is p xs)
  where
    q : ℕ
    q = position_or_len p xs

    later : (b : Bool) → cond b (Some (suc q)) None ≡ option_map suc (cond b (Some q) None)
    later true = refl
    later false = refl

    by_test : (b : Bool) → p x ≡ b → position p xs ≡ first_at p xs → cond (ltb (cond (not (p x)) (1 + q) 0) (suc (length xs))) (Some (cond (not (p x)) (1 + q) 0)) None ≡ cond (p x) (Some 0) (option_map suc (first_at p xs))
    by_test true e h = rw e (ap (λ b. cond b (Some 0) None) (lt-ltb 0 (suc (length xs)) (omega arith)))
    by_test false e h = let s : 1 + q ≡ suc q = omega arith in rw (e, s) (ap (λ b. cond b (Some (suc q)) None) (ltb_suc q (length xs)) ∙ later (ltb q (length xs)) ∙ ap (option_map suc) h)

first_push : {X : Type 0} (p : X → Bool) (xs : List X) (y : X) → first_at p (xs ++ y ∷ []) ≡ option_or (first_at p xs) (cond (p y) (Some (length xs)) None)
first_push p [] y = refl
first_push p (x ∷ xs) y = by_test (p x) (first_push p xs y)
  where
    over : (o : Option ℕ) (b : Bool) → option_map suc (option_or o (cond b (Some (length xs)) None)) ≡ option_or (option_map suc o) (cond b (Some (suc (length xs))) None)
    over (Some k) b = refl
    over None true = refl
    over None false = refl

    by_test : (b : Bool) → first_at p (xs ++ y ∷ []) ≡ option_or (first_at p xs) (cond (p y) (Some (length xs)) None) → cond b (Some 0) (option_map suc (first_at p (xs ++ y ∷ []))) ≡ option_or (cond b (Some 0) (option_map suc (first_at p xs))) (cond (p y) (Some (suc (length xs))) None)
    by_test true h = refl
    by_test false h = ap (option_map suc) h ∙ over (first_at p xs) (p y)

-- a name that is not there is added
pub added : (name : List ℕ) (key : Bor (List ℕ)) (v : ℕ) (es : List (Bor (List ℕ) × ℕ)) → is_some (lookup (named key.now) es) ≡ false
    → lookup (named name) (insert_entry (λ a b. bytes_eq a.now b.now) es key v) ≡ option_or (lookup (named name) es) (cond (named name key) (Some v) None)
added name key v [] none = refl
added name key v (e ∷ es) none = by_test (named key.now e.0) none (λ none. added name key v es none)
  where
    new : List (Bor (List ℕ) × ℕ)
    new = insert_entry (λ a b. bytes_eq a.now b.now) es key v

    over : (b : Bool) → lookup (named name) new ≡ option_or (lookup (named name) es) (cond (named name key) (Some v) None)
        → cond b (Some e.1) (lookup (named name) new) ≡ option_or (cond b (Some e.1) (lookup (named name) es)) (cond (named name key) (Some v) None)
    over true h = refl
    over false h = h

    by_test : (b : Bool) → is_some (cond b (Some e.1) (lookup (named key.now) es)) ≡ false
        → (is_some (lookup (named key.now) es) ≡ false → lookup (named name) new ≡ option_or (lookup (named name) es) (cond (named name key) (Some v) None))
        → lookup (named name) (cond b ((e.0, v) ∷ es) (e ∷ new)) ≡ option_or (lookup (named name) (e ∷ es)) (cond (named name key) (Some v) None)
    by_test true n h = absurd cc
    by_test false n h = over (named name e.0) (h n)

-- a name that is there already
pub present : (name x : List ℕ) (es : List (Bor (List ℕ) × ℕ)) (v : ℕ) → is_some (lookup (named x) es) ≡ true → lookup (named name) es ≡ option_or (lookup (named name) es) (cond (bytes_eq name x) (Some v) None)
present name x es v some = by_test (bytes_eq name x) refl
  where
    of_some : (o : Option ℕ) (p : Option ℕ) → is_some o ≡ true → o ≡ option_or o p
    of_some None p e = absurd cc
    of_some (Some k) p e = refl

    of_none : (o : Option ℕ) → o ≡ option_or o None
    of_none None = refl
    of_none (Some k) = refl

    by_test : (b : Bool) → bytes_eq name x ≡ b → lookup (named name) es ≡ option_or (lookup (named name) es) (cond b (Some v) None)
    by_test true e = of_some (lookup (named name) es) (Some v) (ap (λ (n : List ℕ). is_some (lookup (named n) es)) ((bytes_eq-Decides name x).0 e) ∙ some)
    by_test false e = of_none (lookup (named name) es)

-- ---- one element more of a list, whose elements have names
module _ {X : Type 0} (f : X → List ℕ) where
  first_more : (name : List ℕ) (xs : List X) (i : ℕ) (x : X) → i < length xs → x ≡ get_or xs i x
      → position (λ y. bytes_eq name (f y)) (take (i + 1) xs) ≡ option_or (position (λ y. bytes_eq name (f y)) (take i xs)) (cond (bytes_eq name (f x)) (Some i) None)
  first_more name xs i x l e =
      let p = λ (y : X). bytes_eq name (f y) in
      let size : length (take i xs) ≡ i = omega (arith, length-take i xs, l) in
      ap (position p) (take_more xs i x l ∙ ap (λ (y : X). take i xs ++ y ∷ []) (sym e))
      ∙ first_is p (take i xs ++ x ∷ [])
      ∙ first_push p (take i xs) x
      ∙ ap (λ k. option_or (first_at p (take i xs)) (cond (p x) (Some k) None)) size
      ∙ ap (λ (o : Option ℕ). option_or o (cond (p x) (Some i) None)) (sym (first_is p (take i xs)))

  pub place_new : (xs : List X) (i : ℕ) (x : X) (key : Bor (List ℕ)) (es new : List (Bor (List ℕ) × ℕ)) → i < length xs → x ≡ get_or xs i x → key.now ≡ f x
      → is_some (lookup (named (f x)) es) ≡ false → new ≡ insert_entry (λ a b. bytes_eq a.now b.now) es key i → Places f es (take i xs) → Places f new (take (i + 1) xs)
  place_new xs i x key es new l e same absent is h name =
      ap (lookup (named name)) is
      ∙ added name key i es (ap (λ (n : List ℕ). is_some (lookup (named n) es)) same ∙ absent)
      ∙ ap (λ (o : Option ℕ). option_or o (cond (bytes_eq name key.now) (Some i) None)) (h name)
      ∙ ap (λ (n : List ℕ). option_or (position (λ y. bytes_eq name (f y)) (take i xs)) (cond (bytes_eq name n) (Some i) None)) same
      ∙ sym (first_more name xs i x l e)

  pub place_old : (xs : List X) (i : ℕ) (x : X) (es : List (Bor (List ℕ) × ℕ)) → i < length xs → x ≡ get_or xs i x
      → is_some (lookup (named (f x)) es) ≡ true → Places f es (take i xs) → Places f es (take (i + 1) xs)
  place_old xs i x es l e some h name =
      present name (f x) es i some
      ∙ ap (λ (o : Option ℕ). option_or o (cond (bytes_eq name (f x)) (Some i) None)) (h name)
      ∙ sym (first_more name xs i x l e)

-- a first place is within the list, and so is 0 where there is none and the list is not too long
pub place_small : {X : Type 0} (p : X → Bool) (xs : List X) (most : ℕ) → length xs < most → unwrap_or (position p xs) 0 < most
place_small p xs most l = by_test (ltb (position_or_len p xs) (length xs)) refl
  where
    by_test : (b : Bool) → ltb (position_or_len p xs) (length xs) ≡ b → unwrap_or (cond b (Some (position_or_len p xs)) None) 0 < most
    by_test true e = omega (arith, ltb-true (position_or_len p xs) (length xs) e, l)
    by_test false e = omega (arith, l)
