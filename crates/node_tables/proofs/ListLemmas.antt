-- A list read item by item.
use Rattle.std.proofs.Common.{◌≡◌, ℕ, zero, suc, ◌+◌, ◌<◌, List, [], ◌∷◌, ◌++◌, Result, Ok, Err, refl, sym, ap, ◌∙◌, arith, append_assoc, append-nil}
use Rattle.node_tables.specs.Left.{Left}
use Rattle.node_tables.specs.Reading.{Reads, after, go_on, give, counted}
use Rattle.node_tables.specs.declared.fault.ImageFault.{ImageFault}

-- these items, and then those that were read
abbrev pub prefixed : {X : Type 0} → List X → Result (List X × Left) ImageFault → Result (List X × Left) ImageFault
prefixed xs (Ok g) = Ok (xs ++ g.0, g.1)
prefixed xs (Err e) = Err e

pub prefixed_none : {X : Type 0} (r : Result (List X × Left) ImageFault) → prefixed [] r ≡ r
prefixed_none (Ok g) = refl
prefixed_none (Err e) = refl

prefixed_onto : {X : Type 0} (xs : List X) (x : X) (r : Result (List X × Left) ImageFault) → prefixed xs (go_on r (λ ys. give (x ∷ ys))) ≡ prefixed (xs ++ x ∷ []) r
prefixed_onto xs x (Ok g) = ap (λ ys. Ok (ys, g.1)) (sym (append_assoc xs (x ∷ []) g.0))
prefixed_onto xs x (Err e) = refl

-- one more item was read
pub prefixed_more : {X : Type 0} (reading : Reads X) (xs : List X) (n m : ℕ) (s t : Left) (x : X) → n ≡ m + 1 → reading s ≡ Ok (x, t) →
    prefixed xs (counted n reading s) ≡ prefixed (xs ++ x ∷ []) (counted m reading t)
prefixed_more {X} reading xs n m s t x one read =
    let e : n ≡ suc m = omega arith in
    ap (λ (k : ℕ). prefixed xs (counted k reading s)) e
    ∙ ap (λ (r : Result (X × Left) ImageFault). prefixed xs (go_on r (λ y. after (counted m reading) (λ ys. give (y ∷ ys))))) read
    ∙ prefixed_onto xs x (counted m reading t)

pub prefixed_fault : {X : Type 0} (reading : Reads X) (xs : List X) (n : ℕ) (s : Left) (fault : ImageFault) → 0 < n → reading s ≡ Err fault →
    prefixed xs (counted n reading s) ≡ Err fault
prefixed_fault reading xs zero s fault some read = absurd (omega arith)
prefixed_fault {X} reading xs (suc m) s fault some read =
    ap (λ (r : Result (X × Left) ImageFault). prefixed xs (go_on r (λ y. after (counted m reading) (λ ys. give (y ∷ ys))))) read

pub prefixed_all : {X : Type 0} (reading : Reads X) (xs : List X) (n : ℕ) (s : Left) → n ≡ 0 → prefixed xs (counted n reading s) ≡ Ok (xs, s)
prefixed_all {X} reading xs n s none = ap (λ (k : ℕ). prefixed xs (counted k reading s)) none ∙ ap (λ (ys : List X). Ok (ys, s)) (append-nil xs)
