-- What the reading of a field gives.
use Rattle.std.proofs.Common.{◌≡◌, ℕ, ◌+◌, ◌≤◌, Bool, true, false, List, length, take, drop, Ok, Err, sym, ap, ◌∙◌}
use Rattle.std.proofs.lemmas.Bool.{cond-true, cond-false, le-ltb}
use Rattle.std.proofs.lemmas.List.{drop-drop}
use Rattle.node_tables.specs.Left.{Left}
use Rattle.node_tables.specs.Reading.{field}
use Rattle.node_tables.specs.declared.fault.ImageFault.TheVariants.{Range}

-- what is left from a place on
abbrev pub from : ℕ → List ℕ → Left
from at image = record { at = at; bytes = drop at image }

pub field_ok : {X : Type 0} (size : ℕ) (value : List ℕ → X) (fits : X → Bool) (at : ℕ) (image : List ℕ) (v : X) → size ≤ length (drop at image) →
    v ≡ value (take size (drop at image)) → fits v ≡ true → field size value fits (from at image) ≡ Ok (v, from (at + size) image)
field_ok {X} size value fits at image v room is good =
    let left = drop at image in
    let test : fits (value (take size left)) ≡ true = ap fits (sym is) ∙ good in
    cond-false _ _ _ (le-ltb (length left) size room)
    ∙ cond-true _ _ _ test
    ∙ ap (λ (x : X). Ok (x, record { at = at + size; bytes = drop size left })) (sym is)
    ∙ ap (λ (bs : List ℕ). Ok (v, record { at = at + size; bytes = bs })) (drop-drop size at image)

pub field_out : {X : Type 0} (size : ℕ) (value : List ℕ → X) (fits : X → Bool) (at : ℕ) (image : List ℕ) (v : X) → size ≤ length (drop at image) →
    v ≡ value (take size (drop at image)) → fits v ≡ false → field size value fits (from at image) ≡ Err (Range at)
field_out size value fits at image v room is bad =
    let left = drop at image in
    let test : fits (value (take size left)) ≡ false = ap fits (sym is) ∙ bad in
    cond-false _ _ _ (le-ltb (length left) size room) ∙ cond-false _ _ _ test
