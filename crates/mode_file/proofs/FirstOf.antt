-- The first broken rule of lists of rules
use Rattle.std.proofs.Common.{◌≡◌, List, [], ◌∷◌, ◌++◌, Some, None, refl, ap, ◌∙◌, sym}
use Rattle.app_graph.specs.Rules.{Rule, first_of, each}
use Rattle.mode_file.specs.declared.faults.FileFault.{FileFault}
use Rattle.mode_file.specs.declared.faults.FileFault.TheVariants.{Memory}
use Rattle.mode_file.specs.Walks.{Breaks}

-- a rule alone
pub alone : {F : Type 0} (r : Rule F) → first_of (r ∷ []) ≡ r
alone None = refl
alone (Some f) = refl

joined : {F : Type 0} (r a b : Rule F) → first_of (r ∷ first_of (a ∷ b ∷ []) ∷ []) ≡ first_of (first_of (r ∷ a ∷ []) ∷ b ∷ [])
joined None a b = alone (first_of (a ∷ b ∷ [])) ∙ ap (λ (r : Rule _). first_of (r ∷ b ∷ [])) (sym (alone a))
joined (Some f) a b = refl

-- the rules of two lists are those of the first, and then those of the second
pub each-append : {F A : Type 0} (rule : A → Rule F) (xs ys : List A) → each rule (xs ++ ys) ≡ first_of (each rule xs ∷ each rule ys ∷ [])
each-append rule [] ys = sym (alone (each rule ys))
each-append rule (x ∷ xs) ys = ap (λ (r : Rule _). first_of (rule x ∷ r ∷ [])) (each-append rule xs ys) ∙ joined (rule x) (each rule xs) (each rule ys)

-- a fault of one rule is one of another where each fault that the one gives is given by the other
pub Breaks-along : (fault : FileFault) (r s : Rule FileFault) → (r ≡ Some fault → s ≡ Some fault) → Breaks fault r → Breaks fault s
Breaks-along Memory r s f b = tt
Breaks-along _ r s f b = f b

-- the rule of one more
pub each_more : {F A : Type 0} (rule : A → Rule F) (xs : List A) (x : A) → each rule xs ≡ None → rule x ≡ None → each rule (xs ++ x ∷ []) ≡ None
each_more rule xs x kept next = each-append rule xs (x ∷ []) ∙ rw (kept, next) refl

-- the first that breaks its rule decides
pub each_broken : {F A : Type 0} (rule : A → Rule F) (xs : List A) (x : A) (ys : List A) (fault : F) → each rule xs ≡ None → rule x ≡ Some fault → each rule ((xs ++ x ∷ []) ++ ys) ≡ Some fault
each_broken rule xs x ys fault kept next = each-append rule (xs ++ x ∷ []) ys ∙ rw (each-append rule xs (x ∷ []), kept, next) refl
