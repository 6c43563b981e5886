-- A file that is read from its front on, piece by piece.
use Rattle.std.proofs.Common.{◌≡◌, ℕ, ◌+◌, ◌<◌, ◌≤◌, List, [], ◌++◌, length, take, sym, ap, ◌∙◌, arith, length-append}
use Rattle.std.proofs.Math.Seq.{take-add}
use Rattle.std.proofs.lemmas.List.{take_all, length-take}
use Rattle.ttw_io.specs.Outside.{Told, untold, missing, file, ReadsAt, IsWhole, IsLonger}

-- these bytes stand at the front of the file
abbrev pub Begins : Told → List ℕ → Type 0
Begins untold bytes = Unit {0}
Begins missing bytes = bytes ≡ []
Begins (file all) bytes = (length bytes ≤ length all) × (bytes ≡ take (length bytes) all)

-- with the bytes of one more read they still do
pub Begins-append : (told : Told) (bytes into : List ℕ) (n : ℕ) → n ≤ length into → Begins told bytes → ReadsAt told (length bytes) n into → Begins told (bytes ++ take n into)
Begins-append untold bytes into n room begun read = tt
Begins-append missing bytes into n room begun read = absurd read
Begins-append (file all) bytes into n room begun read =
    let len : length (bytes ++ take n into) ≡ length bytes + n = omega (arith, length-append bytes (take n into), length-take n into) in
    let longer : bytes ++ take n into ≡ take (length bytes + n) all = ap (λ (x : List ℕ). x ++ take n into) begun.1 ∙ ap (λ (x : List ℕ). take (length bytes) all ++ x) read.front ∙ sym (take-add (length bytes) n all) in
    (omega (arith, read.within, begun.0), longer ∙ ap (λ (k : ℕ). take k all) (sym len))

-- a read of nothing into some room shows that they are the whole file
pub IsWhole-at_end : (told : Told) (bytes into : List ℕ) (n : ℕ) → n ≡ 0 → 0 < length into → Begins told bytes → ReadsAt told (length bytes) n into → IsWhole told bytes
IsWhole-at_end untold bytes into n none room begun read = tt
IsWhole-at_end missing bytes into n none room begun read = absurd read
IsWhole-at_end (file all) bytes into n none room begun read = sym (begun.1 ∙ take_all (length bytes) all (read.end none room))

-- one byte more than the limit shows that the file is longer
pub IsLonger-past_limit : (told : Told) (bytes : List ℕ) (most : ℕ) → length bytes ≡ most + 1 → Begins told bytes → IsLonger told most bytes
IsLonger-past_limit untold bytes most past begun = past
IsLonger-past_limit missing bytes most past begun = absurd (omega (arith, past, ap (length {A = ℕ}) begun))
IsLonger-past_limit (file all) bytes most past begun = (omega (arith, begun.0, past), begun.1 ∙ ap (λ (k : ℕ). take k all) past)
