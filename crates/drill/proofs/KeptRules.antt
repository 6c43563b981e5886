-- Rules that are kept, one after the other
use Rattle.std.proofs.Common.{◌≡◌, ℕ, zero, suc, ◌+◌, ◌<◌, List, [], ◌∷◌, ◌++◌, Some, None, map, refl, sym, ap, arith, ◌∙◌}
use Rattle.std.specs.List.{range_with_len, AllByRecursion}
use Rattle.app_graph.specs.Rules.{Rule, first_of, each_after}
use Rattle.drill.specs.Generated.{below}
use Rattle.drill.proofs.Below.{below_none, below_more}

-- the converse of app_graph's `all_kept`
pub first_of_kept : {Fault : Type 0} (rs : List (Rule Fault)) → AllByRecursion (λ r. r ≡ None) rs → first_of rs ≡ None
first_of_kept [] k = refl
first_of_kept (None ∷ rs) k = first_of_kept rs k.1
first_of_kept (Some fault ∷ rs) k = absurd (cc (k.0))

pub more_kept : {Fault A : Type 0} (rule : List A → A → Rule Fault) (earlier : List A) (x : A) (xs : List A)
    → rule earlier x ≡ None → each_after rule (earlier ++ x ∷ []) xs ≡ None → each_after rule earlier (x ∷ xs) ≡ None
more_kept rule earlier x xs here rest = first_of_kept (rule earlier x ∷ each_after rule (earlier ++ x ∷ []) xs ∷ []) (here, (rest, tt))

kept_from : {Fault A : Type 0} (rule : List A → A → Rule Fault) (f : ℕ → A) (n : ℕ) → ((i : ℕ) → i < n → rule (below i f) (f i) ≡ None)
    → (k i : ℕ) → i + k ≡ n → (earlier : List A) → earlier ≡ below i f → each_after rule earlier (map f (range_with_len i k)) ≡ None
kept_from rule f n h zero i e earlier is = refl
kept_from rule f n h (suc k) i e earlier is =
    let here : rule earlier (f i) ≡ None = ap (λ l. rule l (f i)) is ∙ h i (omega arith) in
    let next : earlier ++ f i ∷ [] ≡ below (i + 1) f = ap (λ l. l ++ f i ∷ []) is ∙ sym (below_more i f) in
    let rest = kept_from rule f n h k (i + 1) (omega arith) (earlier ++ f i ∷ []) next in
    more_kept rule earlier (f i) (map f (range_with_len (i + 1) k)) here rest

-- what f says of the numbers below n, where a rule is kept by each with those before it
pub below_kept : {Fault A : Type 0} (rule : List A → A → Rule Fault) (f : ℕ → A) (n : ℕ) → ((i : ℕ) → i < n → rule (below i f) (f i) ≡ None)
    → each_after rule [] (below n f) ≡ None
unfolding below
below_kept rule f n h = kept_from rule f n h n 0 (omega arith) [] (sym (below_none f))
