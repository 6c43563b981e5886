-- How texts grow.
use Rattle.std.proofs.Common.{◌≡◌, ℕ, ◌+◌, ◌<◌, List, [], ◌∷◌, ◌++◌, length, take, drop, get_or, map, Result, Ok, Err, OnErr, OnOk, refl, sym, ap, subst, ◌∙◌, append_assoc, arith, ℤ}
use Rattle.std.specs.Prelude.{unsigned_abs}
use Rattle.std.specs.List.{flat_map, join_with_byte}
use Rattle.std.proofs.lemmas.List.{append-nil, map-append, take_more, drop_more, take_all, take-append-drop}
use Rattle.std.proofs.lemmas.Grind.{flat_map-append}
use Rattle.proof_tree.specs.Written.{StoppedWithin}
use Rattle.ttw_text.specs.Numbers.{spelled}
use Rattle.proof_tree.specs.Items.{Item, line, line_of, text_of}
use Rattle.proof_tree.specs.WordSpelling.{after_space, spelled_time}

pub on_err : {T E : Type 0} (r : Result T E) {P : Type 0} → P → OnErr r P
on_err (Ok x) p = search
on_err (Err e) p = p

-- nothing was added
pub stops_before : (old now due : List ℕ) → now ≡ old → StoppedWithin old now due
stops_before old now due e = record { front = []; rest = due; added = e ∙ sym (append-nil old); split = refl }

-- the first part was not added whole
pub stops_in_first : {old now a : List ℕ} (b : List ℕ) → StoppedWithin old now a → StoppedWithin old now (a ++ b)
stops_in_first b s = record { front = s.front; rest = s.rest ++ b; added = s.added; split = ap (λ (x : List ℕ). x ++ b) s.split ∙ append_assoc s.front s.rest b }

-- the first part was added, and the second not whole
pub stops_in_second : {mid now b : List ℕ} (old a : List ℕ) → mid ≡ old ++ a → StoppedWithin mid now b → StoppedWithin old now (a ++ b)
stops_in_second {mid} {now} {b} old a e s = record {
  front = a ++ s.front;
  rest = s.rest;
  added = s.added ∙ ap (λ (x : List ℕ). x ++ s.front) e ∙ append_assoc old a s.front;
  split = ap (λ (x : List ℕ). a ++ x) s.split ∙ sym (append_assoc a s.front s.rest);
}

-- what is due for each item was added, up to item i, and what is due for that not whole
pub stops_in_loop : {X Y : Type 0} {old mid now due : List ℕ} (h : Y → List ℕ) (g : X → Y) (xs : List X) (i : ℕ) (d : X) → i < length xs → mid ≡ old ++ flat_map h (map g (take i xs))
    → due ≡ h (g (get_or xs i d)) → StoppedWithin mid now due → StoppedWithin old now (flat_map h (map g xs))
stops_in_loop {X} {Y} {old} {mid} {now} {due} h g xs i d lt e same s =
    let whole : flat_map h (map g xs) ≡ flat_map h (map g (take i xs)) ++ (h (g (get_or xs i d)) ++ flat_map h (map g (drop (i + 1) xs))) =
    ap (λ (l : List X). flat_map h (map g l)) (sym (take-append-drop i xs)) ∙ ap (flat_map h) (map-append g (take i xs) (drop i xs)) ∙ flat_map-append h (map g (take i xs)) (map g (drop i xs))
    ∙ ap (λ (l : List X). flat_map h (map g (take i xs)) ++ flat_map h (map g l)) (drop_more xs i d lt) in
    subst (λ (l : List ℕ). StoppedWithin old now l) (sym whole)
    (stops_in_second old (flat_map h (map g (take i xs))) e (stops_in_first (flat_map h (map g (drop (i + 1) xs))) (subst (λ (l : List ℕ). StoppedWithin mid now l) same s)))

-- words with one space between are the first word and the others, each after a space
joined : (w : List ℕ) (ws : List (List ℕ)) → join_with_byte 32 (w ∷ ws) ≡ w ++ flat_map after_space ws
joined w [] = sym (append-nil w)
joined w (v ∷ vs) = ap (λ (l : List ℕ). w ++ (32 ∷ l)) (joined v vs)

line_parts : (w : List ℕ) (ws : List (List ℕ)) → line w ws ≡ w ++ (flat_map after_space ws ++ 10 ∷ [])
line_parts w ws = ap (λ (l : List ℕ). l ++ 10 ∷ []) (joined w ws) ∙ append_assoc w (flat_map after_space ws) (10 ∷ [])

-- the first word was added, and the others not whole
pub stops_in_words : {mid now : List ℕ} (old w : List ℕ) (ws : List (List ℕ)) → mid ≡ old ++ w → StoppedWithin mid now (flat_map after_space ws) → StoppedWithin old now (line w ws)
stops_in_words {mid} {now} old w ws e s =
    subst (λ (l : List ℕ). StoppedWithin old now l) (sym (line_parts w ws)) (stops_in_second old w e (stops_in_first (10 ∷ []) s))

-- all words were added, and the line feed not
pub stops_at_feed : {mid late now : List ℕ} (old w : List ℕ) (ws : List (List ℕ)) → mid ≡ old ++ w → late ≡ mid ++ flat_map after_space ws → now ≡ late → StoppedWithin old now (line w ws)
stops_at_feed {mid} {late} {now} old w ws e f g =
    subst (λ (l : List ℕ). StoppedWithin old now l) (sym (line_parts w ws)) (stops_in_second old w e (stops_in_second mid (flat_map after_space ws) f (stops_before _ _ _ g)))

-- the line was added
pub whole_line : {mid late now : List ℕ} (old w : List ℕ) (ws : List (List ℕ)) → mid ≡ old ++ w → late ≡ mid ++ flat_map after_space ws → now ≡ late ++ 10 ∷ [] → now ≡ old ++ line w ws
whole_line {mid} {late} {now} old w ws e f g =
    g ∙ ap (λ (l : List ℕ). l ++ 10 ∷ []) (f ∙ ap (λ (l : List ℕ). l ++ flat_map after_space ws) e) ∙ append_assoc (old ++ w) (flat_map after_space ws) (10 ∷ []) ∙ append_assoc old w (flat_map after_space ws ++ 10 ∷ [])
    ∙ ap (λ (l : List ℕ). old ++ l) (sym (line_parts w ws))

pub on_ok_weaker : {T E P Q : Type 0} (r : Result T E) → (P → Q) → OnOk r P → OnOk r Q
on_ok_weaker (Ok x) f p = f p
on_ok_weaker (Err e) f p = p

-- what is due for the first i items was added, and then what is due for item i
pub goes_on_in_loop : {X Y : Type 0} (old mid now due : List ℕ) (h : Y → List ℕ) (g : X → Y) (xs : List X) (i j : ℕ) (x : X) → (i < length xs) × (x ≡ get_or xs i x) → j ≡ i + 1
    → mid ≡ old ++ flat_map h (map g (take i xs)) → due ≡ h (g x) → now ≡ mid ++ due → now ≡ old ++ flat_map h (map g (take j xs))
goes_on_in_loop {X} {Y} old mid now due h g xs i j x at count e same f =
    let lt : i < length xs = at.0 in
    let more : flat_map h (map g (take j xs)) ≡ flat_map h (map g (take i xs)) ++ due =
    ap (λ (n : ℕ). flat_map h (map g (take n xs))) count
    ∙ ap (λ (l : List X). flat_map h (map g l)) (take_more xs i x lt) ∙ ap (flat_map h) (map-append g (take i xs) (get_or xs i x ∷ [])) ∙ flat_map-append h (map g (take i xs)) (g (get_or xs i x) ∷ [])
    ∙ ap (λ (l : List ℕ). flat_map h (map g (take i xs)) ++ l) (append-nil (h (g (get_or xs i x))) ∙ ap (λ (y : X). h (g y)) (sym at.1) ∙ sym same) in
    f ∙ ap (λ (l : List ℕ). l ++ due) e ∙ append_assoc old (flat_map h (map g (take i xs))) due ∙ ap (λ (l : List ℕ). old ++ l) (sym more)

-- the loop has gone through all items
pub ends_loop : {X Y : Type 0} (old now : List ℕ) (h : Y → List ℕ) (g : X → Y) (xs : List X) (i : ℕ) → i ≡ length xs → now ≡ old ++ flat_map h (map g (take i xs)) → now ≡ old ++ flat_map h (map g xs)
ends_loop {X} {Y} old now h g xs i all e = e ∙ ap (λ (l : List X). old ++ flat_map h (map g l)) (take_all i xs (omega (arith, all)))

-- both parts were added
pub adds_second : {mid now : List ℕ} (old a b : List ℕ) → mid ≡ old ++ a → now ≡ mid ++ b → now ≡ old ++ (a ++ b)
adds_second {mid} {now} old a b e f = f ∙ ap (λ (x : List ℕ). x ++ b) e ∙ append_assoc old a b

-- the same, where what is due is written in another way
pub stops_at : {old now due same : List ℕ} → due ≡ same → StoppedWithin old now same → StoppedWithin old now due
stops_at {old} {now} e s = subst (λ (l : List ℕ). StoppedWithin old now l) (sym e) s

pub adds_at : {now due same : List ℕ} (old : List ℕ) → due ≡ same → now ≡ old ++ same → now ≡ old ++ due
adds_at old e f = f ∙ ap (λ (l : List ℕ). old ++ l) (sym e)

-- the text of lists of items, one after the other
pub text_of-flat_map : {X : Type 0} (g : X → List Item) (xs : List X) → text_of (flat_map g xs) ≡ flat_map text_of (map g xs)
text_of-flat_map g [] = refl
text_of-flat_map g (x ∷ xs) = flat_map-append line_of (g x) (flat_map g xs) ∙ ap (λ (l : List ℕ). text_of (g x) ++ l) (text_of-flat_map g xs)

pub text_of-append : (a b : List Item) → text_of (a ++ b) ≡ text_of a ++ text_of b
text_of-append a b = flat_map-append line_of a b

pub map-spelled_time : (times : List ℤ) → map spelled_time times ≡ map spelled (map unsigned_abs times)
map-spelled_time [] = refl
map-spelled_time (t ∷ ts) = ap (λ (l : List (List ℕ)). spelled_time t ∷ l) (map-spelled_time ts)
