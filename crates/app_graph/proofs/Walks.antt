-- Going through a list of rules, one after the other
use Rattle.std.proofs.Common.{◌≡◌, ℕ, ◌+◌, ◌<◌, List, [], ◌∷◌, ◌++◌, length, get_or, take, drop, Some, None, refl, sym, ◌∙◌, ap, subst, append_assoc}
use Rattle.std.proofs.lemmas.List.{drop_more, take_more}
use Rattle.app_graph.specs.declared.faults.GraphFault.{GraphFault}
use Rattle.app_graph.specs.declared.faults.GraphFault.TheVariants.{OutOfRange, Repeated, Unknown, TwoSenders, Cycle, DeadlineLong, TooMany, Memory}
use Rattle.app_graph.specs.Rules.{Rule, first_of, each_after}
use Rattle.app_graph.specs.Checks.{Breaks}

-- a kept rule leaves the others
pub first_of_kept : {Fault : Type 0} (r : Rule Fault) (rs : List (Rule Fault)) → r ≡ None → first_of (r ∷ rs) ≡ first_of rs
first_of_kept {Fault} r rs e = ap (λ (s : Rule Fault). first_of (s ∷ rs)) e

pub first_of_broken : {Fault : Type 0} (r : Rule Fault) (rs : List (Rule Fault)) (f : Fault) → r ≡ Some f → first_of (r ∷ rs) ≡ Some f
first_of_broken {Fault} r rs f e = ap (λ (s : Rule Fault). first_of (s ∷ rs)) e

pub first_of_last : {Fault : Type 0} (r : Rule Fault) → first_of (r ∷ []) ≡ r
first_of_last None = refl
first_of_last (Some f) = refl

pub breaks_first : (f : GraphFault) (r : Rule GraphFault) (rs : List (Rule GraphFault)) → Breaks f r → Breaks f (first_of (r ∷ rs))
breaks_first (OutOfRange k) r rs h = first_of_broken r rs (OutOfRange k) h
breaks_first (Repeated n) r rs h = first_of_broken r rs (Repeated n) h
breaks_first (Unknown n) r rs h = first_of_broken r rs (Unknown n) h
breaks_first (TwoSenders n) r rs h = first_of_broken r rs (TwoSenders n) h
breaks_first (Cycle n) r rs h = first_of_broken r rs (Cycle n) h
breaks_first (DeadlineLong n) r rs h = first_of_broken r rs (DeadlineLong n) h
breaks_first (TooMany k) r rs h = first_of_broken r rs (TooMany k) h
breaks_first Memory r rs h = tt

-- the rest of a walk from place i, where the rule looks at what came before
pub after_rest : {Fault A : Type 0} (rule : List A → A → Rule Fault) (before xs : List A) (i : ℕ) (d : A) → i < length xs
    → each_after rule (before ++ take i xs) (drop i xs)
    ≡ first_of (rule (before ++ take i xs) (get_or xs i d) ∷ each_after rule (before ++ take (i + 1) xs) (drop (i + 1) xs) ∷ [])
after_rest {Fault} {A} rule before xs i d l =
    ap (λ (ys : List A). each_after rule (before ++ take i xs) ys) (drop_more xs i d l)
    ∙ ap (λ (ys : List A). first_of (rule (before ++ take i xs) (get_or xs i d) ∷ each_after rule ys (drop (i + 1) xs) ∷ []))
    (append_assoc before (take i xs) (get_or xs i d ∷ []) ∙ ap (λ (ys : List A). before ++ ys) (sym (take_more xs i d l)))

-- where the rule is kept at place i, the rest from the next place decides
pub after_kept : {Fault A : Type 0} (rule : List A → A → Rule Fault) (before xs : List A) (i : ℕ) (d : A) → i < length xs
    → rule (before ++ take i xs) (get_or xs i d) ≡ None
    → each_after rule (before ++ take i xs) (drop i xs) ≡ each_after rule before xs
    → each_after rule (before ++ take (i + 1) xs) (drop (i + 1) xs) ≡ each_after rule before xs
after_kept rule before xs i d l k e =
    sym (first_of_last _)
    ∙ sym (first_of_kept (rule (before ++ take i xs) (get_or xs i d)) _ k)
    ∙ sym (after_rest rule before xs i d l) ∙ e

-- where it is broken there, so is the whole
pub after_breaks : {A : Type 0} (rule : List A → A → Rule GraphFault) (before xs : List A) (i : ℕ) (d : A) (f : GraphFault) → i < length xs
    → Breaks f (rule (before ++ take i xs) (get_or xs i d))
    → each_after rule (before ++ take i xs) (drop i xs) ≡ each_after rule before xs
    → Breaks f (each_after rule before xs)
after_breaks rule before xs i d f l b e =
    subst (λ (r : Rule GraphFault). Breaks f r) (sym (after_rest rule before xs i d l) ∙ e) (breaks_first f _ _ b)

-- a rule that is kept leaves the fault to the others
pub breaks_after : (f : GraphFault) (r : Rule GraphFault) (rs : List (Rule GraphFault)) → r ≡ None → Breaks f (first_of rs) → Breaks f (first_of (r ∷ rs))
breaks_after f r rs e b = subst (λ (s : Rule GraphFault). Breaks f s) (sym (first_of_kept r rs e)) b

-- the same two steps where nothing comes before the list
pub next_kept : {Fault A : Type 0} (rule : List A → A → Rule Fault) (xs : List A) (i : ℕ) (earlier : List A) (x : A) → i < length xs → earlier ≡ take i xs → x ≡ get_or xs i x
    → rule earlier x ≡ None → each_after rule (take i xs) (drop i xs) ≡ each_after rule [] xs
    → each_after rule (take (i + 1) xs) (drop (i + 1) xs) ≡ each_after rule [] xs
next_kept {Fault} {A} rule xs i earlier x l f e k h =
    after_kept rule [] xs i x l (ap (λ (y : A). rule (take i xs) y) (sym e) ∙ ap (λ (ys : List A). rule ys x) (sym f) ∙ k) h

pub next_breaks : {A : Type 0} (rule : List A → A → Rule GraphFault) (xs : List A) (i : ℕ) (earlier : List A) (x : A) (fault : GraphFault) → i < length xs → earlier ≡ take i xs → x ≡ get_or xs i x
    → Breaks fault (rule earlier x) → each_after rule (take i xs) (drop i xs) ≡ each_after rule [] xs
    → Breaks fault (each_after rule [] xs)
next_breaks {A} rule xs i earlier x fault l f e b h =
    after_breaks rule [] xs i x fault l (subst (λ (r : Rule GraphFault). Breaks fault r) (ap (λ (ys : List A). rule ys x) f ∙ ap (λ (y : A). rule (take i xs) y) e) b) h
