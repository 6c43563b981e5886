-- Lists that grow by what each item of another list adds.
use Rattle.std.proofs.Common.{◌≡◌, ℕ, ◌+◌, ◌<◌, List, [], ◌∷◌, ◌++◌, length, take, get_or, map, sym, ap, ◌∙◌, append_assoc, arith}
use Rattle.std.specs.List.{flat_map, enumerate_from}
use Rattle.std.proofs.lemmas.List.{append-nil, map-append, take_more, take_all}
use Rattle.std.proofs.lemmas.List.FromFn.{length-enumerate_from, get_or-enumerate_from}
use Rattle.std.proofs.lemmas.Grind.{flat_map-append}

-- what the first i items add was added, and then what item i adds
pub grows : {X Y : Type 0} (g : X → List Y) (xs : List X) (old mid now : List Y) (i j : ℕ) (x : X) → (i < length xs) × (x ≡ get_or xs i x) → j ≡ i + 1
    → mid ≡ old ++ flat_map g (take i xs) → now ≡ mid ++ g x → now ≡ old ++ flat_map g (take j xs)
grows {X} {Y} g xs old mid now i j x at count e f =
    let more : flat_map g (take j xs) ≡ flat_map g (take i xs) ++ g x =
    ap (λ (n : ℕ). flat_map g (take n xs)) count ∙ ap (flat_map g) (take_more xs i x at.0) ∙ flat_map-append g (take i xs) (get_or xs i x ∷ [])
    ∙ ap (λ (l : List Y). flat_map g (take i xs) ++ l) (append-nil (g (get_or xs i x)) ∙ ap g (sym at.1)) in
    f ∙ ap (λ (l : List Y). l ++ g x) e ∙ append_assoc old (flat_map g (take i xs)) (g x) ∙ ap (λ (l : List Y). old ++ l) (sym more)

-- what all items add was added
pub grown : {X Y : Type 0} (g : X → List Y) (xs : List X) (old now : List Y) (i : ℕ) → i ≡ length xs → now ≡ old ++ flat_map g (take i xs) → now ≡ old ++ flat_map g xs
grown {X} {Y} g xs old now i all e = e ∙ ap (λ (l : List X). old ++ flat_map g l) (take_all i xs (omega (arith, all)))

-- an item is added for each of the first i items, and then for item i
pub maps : {X Y : Type 0} (g : X → Y) (xs : List X) (old mid now : List Y) (i j : ℕ) (x : X) → (i < length xs) × (x ≡ get_or xs i x) → j ≡ i + 1
    → mid ≡ old ++ map g (take i xs) → now ≡ mid ++ g x ∷ [] → now ≡ old ++ map g (take j xs)
maps {X} {Y} g xs old mid now i j x at count e f =
    let more : map g (take j xs) ≡ map g (take i xs) ++ g x ∷ [] =
    ap (λ (n : ℕ). map g (take n xs)) count ∙ ap (map g) (take_more xs i x at.0) ∙ map-append g (take i xs) (get_or xs i x ∷ [])
    ∙ ap (λ (y : X). map g (take i xs) ++ g y ∷ []) (sym at.1) in
    f ∙ ap (λ (l : List Y). l ++ g x ∷ []) e ∙ append_assoc old (map g (take i xs)) (g x ∷ []) ∙ ap (λ (l : List Y). old ++ l) (sym more)

-- one for each item
pub mapped : {X Y : Type 0} (g : X → Y) (xs : List X) (old now : List Y) (i : ℕ) → i ≡ length xs → now ≡ old ++ map g (take i xs) → now ≡ old ++ map g xs
mapped {X} {Y} g xs old now i all e = e ∙ ap (λ (l : List X). old ++ map g l) (take_all i xs (omega (arith, all)))

-- an item at its place among numbered ones
pub numbered : {X : Type 0} (k : ℕ) (xs : List X) (i : ℕ) (x : X) → i < length xs → x ≡ get_or xs i x → (i < length (enumerate_from k xs)) × ((k + i, x) ≡ get_or (enumerate_from k xs) i (k + i, x))
numbered {X} k xs i x lt is = (omega (arith, lt, length-enumerate_from k xs), ap (λ (y : X). (k + i, y)) is ∙ sym (get_or-enumerate_from k xs i (k + i, x) lt))

-- five texts, one behind the other
pub five_texts : (a b c d e one two three four : List ℕ) → one ≡ a ++ b → two ≡ one ++ c → three ≡ two ++ d → four ≡ three ++ e → four ≡ a ++ (b ++ ((c ++ d) ++ e))
five_texts a b c d e one two three four is_one is_two is_three is_four =
    is_four ∙ ap (λ (l : List ℕ). l ++ e) (is_three ∙ ap (λ (l : List ℕ). l ++ d) (is_two ∙ ap (λ (l : List ℕ). l ++ c) is_one))
    ∙ append_assoc ((a ++ b) ++ c) d e ∙ append_assoc (a ++ b) c (d ++ e) ∙ append_assoc a b (c ++ (d ++ e)) ∙ ap (λ (l : List ℕ). a ++ (b ++ l)) (sym (append_assoc c d e))
