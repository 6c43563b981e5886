-- Binary search among items that ascend by a number
use Rattle.std.proofs.Common.{◌≡◌, ◌≢◌, ℕ, suc, ◌<◌, ◌≤◌, Bool, true, false, cond, nat_eq, List, [], ◌∷◌, length, get_or, All, Some, None, Ok, Err, refl, ap, sym, ◌∙◌, subst, arith, inl, inr}
use Rattle.std.specs.List.{find, AllByRecursion, AllPairs, AllWithin}
use Rattle.std.specs.List.Sorted.{IsBinarySearchResult}
use Rattle.std.specs.Ordering.{nat_cmp, ordering_index}
use Rattle.std.specs.declared.cmp.Ordering.TheVariants.{Less, Equal, Greater}
use Rattle.std.proofs.lemmas.Bool.{cases_lt}
use Rattle.std.proofs.lemmas.Bool.Decides.{nat_tests}
use Rattle.std.proofs.lemmas.List.Elements.{recursion_from_All, All-from_recursion}

-- ---- what each item finds

-- the rest of ascending items ascends, and all of it comes after the first
pub later : {X : Type 0} (key : X → ℕ) (m : X) (xs : List X) → AllPairs (λ x y. key x < key y) (m ∷ xs) → AllByRecursion (λ x. key m < key x) xs
later key m xs up = recursion_from_All (λ x. key m < key x) xs (λ k d l. up 0 (suc k) d (omega arith) (omega (arith, l)))

pub rest_ascends : {X : Type 0} (key : X → ℕ) (m : X) (xs : List X) → AllPairs (λ x y. key x < key y) (m ∷ xs) → AllPairs (λ x y. key x < key y) xs
rest_ascends key m xs up i j d l k = up (suc i) (suc j) d (omega (arith, l)) (omega (arith, k))

not_equal : (a b : ℕ) → a < b → nat_eq a b ≡ false
not_equal a b l = grind (arith, nat_tests)

equal : (a : ℕ) → nat_eq a a ≡ true
equal a = grind (arith, nat_tests)

past_lower : {X : Type 0} (key : X → ℕ) (m : X) (xs : List X) (x : X) → key m < key x → find (λ y. nat_eq (key y) (key x)) xs ≡ Some x → find (λ y. nat_eq (key y) (key x)) (m ∷ xs) ≡ Some x
past_lower key m xs x l e = ap (λ (b : Bool). cond b (Some m) (find (λ y. nat_eq (key y) (key x)) xs)) (not_equal (key m) (key x) l) ∙ e

past_all : {X : Type 0} (key : X → ℕ) (m : X) (all xs : List X) → AllByRecursion (λ x. key m < key x) xs → AllByRecursion (λ x. find (λ y. nat_eq (key y) (key x)) all ≡ Some x) xs → AllByRecursion (λ x. find (λ y. nat_eq (key y) (key x)) (m ∷ all) ≡ Some x) xs
past_all key m all [] l found = tt
past_all key m all (x ∷ xs) l found = (past_lower key m all x l.0 found.0, past_all key m all xs l.1 found.1)

-- each of ascending items is the first with its number
pub each_is_found : {X : Type 0} (key : X → ℕ) (xs : List X) → AllPairs (λ x y. key x < key y) xs → AllByRecursion (λ x. find (λ y. nat_eq (key y) (key x)) xs ≡ Some x) xs
each_is_found key [] up = tt
each_is_found key (m ∷ xs) up =
    (ap (λ (b : Bool). cond b (Some m) (find (λ y. nat_eq (key y) (key m)) xs)) (equal (key m)), past_all key m xs xs (later key m xs up) (each_is_found key xs (rest_ascends key m xs up)))

-- ---- the search

pub none_among : {X : Type 0} (key : X → ℕ) (number : ℕ) (xs : List X) → AllByRecursion (λ x. key x ≢ number) xs → find (λ y. nat_eq (key y) number) xs ≡ None
none_among key number [] differ = refl
none_among key number (x ∷ xs) differ =
    let test : nat_eq (key x) number ≡ false = grind (arith, nat_tests, differ.0) in
    ap (λ (b : Bool). cond b (Some x) (find (λ y. nat_eq (key y) number) xs)) test ∙ none_among key number xs differ.1

rises : (a b number : ℕ) → a ≤ b → ordering_index (nat_cmp a number) ≤ ordering_index (nat_cmp b number)
rises a b number l = grind (arith, nat_tests)

same : (a b : ℕ) → nat_cmp a b ≡ Equal → a ≡ b
same a b e = grind (arith, nat_tests)

below : (a b : ℕ) → nat_cmp a b ≡ Less → a ≢ b
below a b e = grind (arith, nat_tests)

above : (a b : ℕ) → nat_cmp a b ≡ Greater → a ≢ b
above a b e = grind (arith, nat_tests)

by_order : {P : Type 0} (a b : ℕ) → (a < b → P) → (b ≤ a → P) → P
by_order a b f g = elim (cases_lt a b) [ inl l ↦ f l | inr l ↦ g l ]

-- no item differs less from the number than the search has found
some_differ : {X : Type 0} (key : X → ℕ) (number : ℕ) (xs : List X) (i : ℕ) → AllWithin (λ y. nat_cmp (key y) number ≡ Less) xs 0 i → AllWithin (λ y. nat_cmp (key y) number ≡ Greater) xs i (length xs) → All (λ x. key x ≢ number) xs
some_differ key number xs i low high k d l =
    by_order k i (λ before. below (key (get_or xs k d)) number (low k d (omega arith) before)) (λ after. above (key (get_or xs k d)) number (high k d after l))

not_above : {X : Type 0} (key : X → ℕ) (xs : List X) → AllPairs (λ x y. key x < key y) xs → (i j : ℕ) (d : X) → i ≤ j → j < length xs → key (get_or xs i d) ≤ key (get_or xs j d)
not_above key xs up i j d l k =
    by_order i j
    (λ before. let lower = up i j d before k in omega (arith, lower))
    (λ after. let at : i ≡ j = omega (arith, l, after) in subst (λ (n : ℕ). key (get_or xs i d) ≤ key (get_or xs n d)) at (omega arith))

-- what a binary search finds among ascending items is the item with the number
pub found_at : {X : Type 0} (key : X → ℕ) (xs : List X) (number i : ℕ) (d : X) → AllPairs (λ x y. key x < key y) xs → IsBinarySearchResult (λ y. nat_cmp (key y) number) xs (Ok i) → i < length xs → Some (get_or xs i d) ≡ find (λ y. nat_eq (key y) number) xs
found_at {X} key xs number i d up answer l =
    let is : key (get_or xs i d) ≡ number = same (key (get_or xs i d)) number (answer d) in
    let found : find (λ y. nat_eq (key y) (key (get_or xs i d))) xs ≡ Some (get_or xs i d) = All-from_recursion (λ z. find (λ y. nat_eq (key y) (key z)) xs ≡ Some z) xs (each_is_found key xs up) i d l in
    sym (subst (λ (n : ℕ). find (λ (y : X). nat_eq (key y) n) xs ≡ Some (get_or xs i d)) is found)

-- the same of an item that was read
pub found_read : {X : Type 0} (key : X → ℕ) (xs : List X) (number i : ℕ) (x : X) → AllPairs (λ x y. key x < key y) xs → IsBinarySearchResult (λ y. nat_cmp (key y) number) xs (Ok i) → i < length xs → x ≡ get_or xs i x → Some x ≡ find (λ y. nat_eq (key y) number) xs
found_read {X} key xs number i x up answer l read = subst (λ (y : X). Some y ≡ find (λ z. nat_eq (key z) number) xs) (sym read) (found_at key xs number i x up answer l)

-- where it finds none, there is none
pub found_err : {X : Type 0} (key : X → ℕ) (xs : List X) (number i : ℕ) → AllPairs (λ x y. key x < key y) xs → IsBinarySearchResult (λ y. nat_cmp (key y) number) xs (Err i) → None ≡ find (λ y. nat_eq (key y) number) xs
found_err key xs number i up answer =
    let point = answer (λ a b d l k. rises (key (get_or xs a d)) (key (get_or xs b d)) number (not_above key xs up a b d l k)) in
    sym (none_among key number xs (recursion_from_All (λ x. key x ≢ number) xs (some_differ key number xs i point.0 point.1)))
