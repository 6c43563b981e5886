-- A line is read as what it says.
use Rattle.std.proofs.Common.{◌≡◌, ℕ, ◌<◌, ◌≤◌, Bool, true, false, cond, ◌&&◌, leb, ltb, List, [], ◌∷◌, length, map, Option, Some, None, refl, sym, ap, subst, ◌∙◌, arith, ◌⊎◌, inl, inr, ⊎_elim, ◌^◌}
use Rattle.std.specs.Prelude.{codes, option_map, is_some, unwrap_or}
use Rattle.std.specs.Option.{option_and_then}
use Rattle.std.specs.List.{list_all, join_with_byte, AllByRecursion}
use Rattle.std.specs.Str.{bytes_eq}
use Rattle.std.proofs.lemmas.Bool.{and_from, and_parts, cond-true, leb-true, lt-ltb}
use Rattle.std.proofs.lemmas.List.Splits.{join_with_byte-slice_split}
use Rattle.std.proofs.lemmas.Option.{none-some, same_Some}
use Rattle.std.proofs.lemmas.Slice.Eq.{bytes_eq-Decides}
use Rattle.ttw_text.specs.Names.{is_name}
use Rattle.ttw_text.specs.Numbers.{number_of, spelled}
use Rattle.ttw_text.specs.Words.{parts, IsWord, is_empty, only_name}
use Rattle.ttw_text.proofs.Spellings.{number_of-spelled, number_of-only}
use Rattle.ttw_text.proofs.WordLemmas.{parts-append, parts_alone, name_is_word, spelled_is_word}
use Rattle.proof_tree.specs.Items.{Item, Head, ModeNamed, Refute, Branch, Short, Full, Cycle, ScheduleOf, Start, TaskAt, MessageAt, TableOf, Absent, End, first_word, other_words}
use Rattle.proof_tree.specs.Grammar.{greatest, plan_number, is_number, value, one_number, some_numbers, number_names, is_one, name_number, two_numbers, name_numbers, form, item_of_words, item_of}
use Rattle.proof_tree.specs.Spelled.{fits, is_writable, Says, LinesAreExact}

-- ---- numbers

number_back : (n : ℕ) → fits n ≡ true → plan_number (spelled n) ≡ Some n
number_back n h =
    let low : n ≤ 2000000000000 = leb-true n greatest h in
    let lt : n < 2 ^ 64 = omega arith in
    ap (option_and_then (λ k. cond (leb k greatest) (Some k) None)) (number_of-spelled n lt) ∙ cond-true (leb n greatest) (Some n) None h

numbers_back : (ns : List ℕ) → list_all fits ns ≡ true → list_all is_number (map spelled ns) ≡ true
numbers_back [] h = refl
numbers_back (n ∷ ns) h =
    let b = and_parts (fits n) (list_all fits ns) h in
    and_from (is_number (spelled n)) (list_all is_number (map spelled ns)) (ap (λ (o : Option ℕ). is_some o) (number_back n b.0)) (numbers_back ns b.1)

values_back : (ns : List ℕ) → list_all fits ns ≡ true → map value (map spelled ns) ≡ ns
values_back [] h = refl
values_back (n ∷ ns) h =
    let b = and_parts (fits n) (list_all fits ns) h in
    ap (λ (k : ℕ). k ∷ map value (map spelled ns)) (ap (λ (o : Option ℕ). unwrap_or o 0) (number_back n b.0)) ∙ ap (λ (l : List ℕ). n ∷ l) (values_back ns b.1)

-- ---- what is written is read

parts_joined : (w : List ℕ) (ws : List (List ℕ)) → IsWord w → AllByRecursion IsWord ws → parts (join_with_byte 32 (w ∷ ws)) ≡ w ∷ ws
parts_joined w [] h hs = parts_alone w h
parts_joined w (v ∷ vs) h hs = parts-append w (join_with_byte 32 (v ∷ vs)) h ∙ ap (λ (l : List (List ℕ)). w ∷ l) (parts_joined v vs hs.0 hs.1)

pub first_is_word : (i : Item) → IsWord (first_word i)
first_is_word Head = name_is_word (codes "ttw") refl
first_is_word (ModeNamed n) = name_is_word (codes "mode") refl
first_is_word (Refute r) = name_is_word (codes "refute") refl
first_is_word Branch = name_is_word (codes "branch") refl
first_is_word Short = name_is_word (codes "short") refl
first_is_word (Full j) = name_is_word (codes "full") refl
first_is_word (Cycle ns) = name_is_word (codes "cycle") refl
first_is_word (ScheduleOf r) = name_is_word (codes "schedule") refl
first_is_word (Start ns) = name_is_word (codes "start") refl
first_is_word (TaskAt n o) = name_is_word (codes "task") refl
first_is_word (MessageAt n o q) = name_is_word (codes "message") refl
first_is_word (TableOf j ns) = name_is_word (codes "table") refl
first_is_word Absent = name_is_word (codes "none") refl
first_is_word End = name_is_word (codes "end") refl

numbers_are_words : (ns : List ℕ) → AllByRecursion IsWord (map spelled ns)
numbers_are_words [] = tt
numbers_are_words (n ∷ ns) = (spelled_is_word n, numbers_are_words ns)

names_are_words : (ns : List (List ℕ)) → list_all is_name ns ≡ true → AllByRecursion IsWord ns
names_are_words [] h = tt
names_are_words (n ∷ ns) h = let b = and_parts (is_name n) (list_all is_name ns) h in (name_is_word n b.0, names_are_words ns b.1)

pub others_are_words : (i : Item) → is_writable i ≡ true → AllByRecursion IsWord (other_words i)
others_are_words Head h = (name_is_word (codes "1") refl, tt)
others_are_words (ModeNamed n) h = (name_is_word n h, tt)
others_are_words (Refute r) h = (spelled_is_word r, tt)
others_are_words Branch h = tt
others_are_words Short h = tt
others_are_words (Full j) h = (spelled_is_word j, tt)
others_are_words (Cycle ns) h = numbers_are_words ns
others_are_words (ScheduleOf r) h = (spelled_is_word r, tt)
others_are_words (Start ns) h = numbers_are_words ns
others_are_words (TaskAt n o) h = let b = and_parts (is_name n) (fits o) h in (name_is_word n b.0, (spelled_is_word o, tt))
others_are_words (MessageAt n o q) h = let b = and_parts (is_name n) (fits o && fits q) h in (name_is_word n b.0, (spelled_is_word o, (spelled_is_word q, tt)))
others_are_words (TableOf j ns) h = let b = and_parts (fits j) (list_all is_name ns) h in (spelled_is_word j, names_are_words ns b.1)
others_are_words Absent h = tt
others_are_words End h = tt

some_back : (ns : List ℕ) → (ltb 0 (length ns) && list_all fits ns) ≡ true → some_numbers (map spelled ns) ≡ Some (map spelled ns)
some_back [] h = absurd cc
some_back (n ∷ ns) h =
    let b = and_parts (ltb 0 (length (n ∷ ns))) (list_all fits (n ∷ ns)) h in
    cond-true (list_all is_number (map spelled (n ∷ ns))) (Some (map spelled (n ∷ ns))) None (numbers_back (n ∷ ns) b.1)

list_back : (f : List ℕ → Item) (ns : List ℕ) → (ltb 0 (length ns) && list_all fits ns) ≡ true → option_map (λ ws. f (map value ws)) (some_numbers (map spelled ns)) ≡ Some (f ns)
list_back f ns h =
    let b = and_parts (ltb 0 (length ns)) (list_all fits ns) h in
    ap (option_map (λ ws. f (map value ws))) (some_back ns h) ∙ ap (λ (l : List ℕ). Some (f l)) (values_back ns b.1)

form_back : (i : Item) → is_writable i ≡ true → form (first_word i) (other_words i) ≡ Some i
form_back Head h = refl
form_back (ModeNamed n) h = ap (option_map ModeNamed) (cond-true (is_name n) (Some n) None h)
form_back (Refute r) h = ap (option_map Refute) (number_back r h)
form_back Branch h = refl
form_back Short h = refl
form_back (Full j) h = ap (option_map Full) (number_back j h)
form_back (Cycle ns) h = list_back Cycle ns h
form_back (ScheduleOf r) h = ap (option_map ScheduleOf) (number_back r h)
form_back (Start ns) h = list_back Start ns h
form_back (TaskAt n o) h =
    let b = and_parts (is_name n) (fits o) h in
    ap (option_map (λ t. TaskAt t.0 t.1)) (cond-true (is_name n) (option_map (λ k. (n, k)) (plan_number (spelled o))) None b.0 ∙ ap (option_map (λ k. (n, k))) (number_back o b.1))
form_back (MessageAt n o q) h =
    let b = and_parts (is_name n) (fits o && fits q) h in
    let d = and_parts (fits o) (fits q) b.1 in
    ap (option_map (λ t. MessageAt t.0 t.1.0 t.1.1))
    (cond-true (is_name n) (option_map (λ p. (n, p)) (two_numbers (spelled o ∷ spelled q ∷ []))) None b.0
    ∙ ap (option_map (λ p. (n, p))) (ap (option_and_then (λ x. option_map (λ y. (x, y)) (plan_number (spelled q)))) (number_back o d.0) ∙ ap (option_map (λ y. (o, y))) (number_back q d.1)))
form_back (TableOf j ns) h =
    let b = and_parts (fits j) (list_all is_name ns) h in
    ap (option_map (λ t. TableOf t.0 t.1)) (ap (option_and_then (λ k. cond (list_all is_name ns) (Some (k, ns)) None)) (number_back j b.0) ∙ cond-true (list_all is_name ns) (Some (j, ns)) None b.1)
form_back Absent h = refl
form_back End h = refl

pub said_is_read : (line : List ℕ) (i : Item) → Says line i → item_of line ≡ Some i
said_is_read line i s =
    ap item_of s.words ∙ ap item_of_words (parts_joined (first_word i) (other_words i) (first_is_word i) (others_are_words i s.writable)) ∙ form_back i s.writable

-- ---- what is read was written

number_only : (w : List ℕ) (n : ℕ) → plan_number w ≡ Some n → (w ≡ spelled n) × (fits n ≡ true)
number_only w n e = within (number_of w) refl e
  where
    within : (o : Option ℕ) → number_of w ≡ o → option_and_then (λ k. cond (leb k greatest) (Some k) None) o ≡ Some n → (w ≡ spelled n) × (fits n ≡ true)
    within None is e = absurd cc
    within (Some k) is e =
        let c = kept (leb k greatest) k n e in
        ((number_of-only w n (is ∙ ap (λ (j : ℕ). Some j) c.1)).0, subst (λ (j : ℕ). leb j greatest ≡ true) c.1 c.0)
      where
        kept : (b : Bool) (k n : ℕ) → ◌≡◌ {A = Option ℕ} (cond b (Some k) None) (Some n) → (b ≡ true) × (k ≡ n)
        kept true k n e = (refl, cc)
        kept false k n e = absurd cc

mapped : {A B : Type 0} (f : A → B) (o : Option A) (b : B) → option_map f o ≡ Some b → (a : A) × (o ≡ Some a) × (f a ≡ b)
mapped f None b e = absurd (none-some b e)
mapped f (Some a) b e = (a, refl, same_Some (f a) b e)

bound : {A B : Type 0} (f : A → Option B) (o : Option A) (b : B) → option_and_then f o ≡ Some b → (a : A) × (o ≡ Some a) × (f a ≡ Some b)
bound f None b e = absurd (none-some b e)
bound f (Some a) b e = (a, refl, e)

tested : {A : Type 0} (t : Bool) (o : Option A) (a : A) → cond t o None ≡ Some a → (t ≡ true) × (o ≡ Some a)
tested true o a e = (refl, e)
tested false o a e = absurd (none-some a e)

none_only : (ws : List (List ℕ)) → is_empty ws ≡ true → ws ≡ []
none_only [] e = refl
none_only (w ∷ ws) e = absurd cc

one_number_only : (ws : List (List ℕ)) (n : ℕ) → one_number ws ≡ Some n → (ws ≡ spelled n ∷ []) × (fits n ≡ true)
one_number_only [] n e = absurd (none-some n e)
one_number_only (w ∷ []) n e = let s = number_only w n e in (ap (λ (v : List ℕ). v ∷ []) s.0, s.1)
one_number_only (w ∷ v ∷ ws) n e = absurd (none-some n e)

only_name_only : (ws : List (List ℕ)) (n : List ℕ) → only_name ws ≡ Some n → (ws ≡ n ∷ []) × (is_name n ≡ true)
only_name_only [] n e = absurd (none-some n e)
only_name_only (w ∷ []) n e =
    let t = tested (is_name w) (Some w) n e in
    let s = same_Some w n t.1 in
    (ap (λ (v : List ℕ). v ∷ []) s, subst (λ (v : List ℕ). is_name v ≡ true) s t.0)
only_name_only (w ∷ v ∷ ws) n e = absurd (none-some n e)

same_word : (w text : List ℕ) → bytes_eq w text ≡ true → w ≡ text
same_word w text e = (bytes_eq-Decides w text).0 e

is_one_only : (ws : List (List ℕ)) → is_one ws ≡ true → ws ≡ codes "1" ∷ []
is_one_only [] e = absurd cc
is_one_only (w ∷ []) e = ap (λ (v : List ℕ). v ∷ []) (same_word w (codes "1") e)
is_one_only (w ∷ v ∷ ws) e = absurd cc

its_value : (o : Option ℕ) → is_some o ≡ true → o ≡ Some (unwrap_or o 0)
its_value None e = absurd cc
its_value (Some n) e = refl

numbers_only : (ws : List (List ℕ)) → list_all is_number ws ≡ true → (ws ≡ map spelled (map value ws)) × (list_all fits (map value ws) ≡ true)
numbers_only [] h = (refl, refl)
numbers_only (w ∷ ws) h =
    let b = and_parts (is_number w) (list_all is_number ws) h in
    let s = number_only w (value w) (its_value (plan_number w) b.0) in
    let others = numbers_only ws b.1 in
    (ap (λ (v : List ℕ). v ∷ ws) s.0 ∙ ap (λ (l : List (List ℕ)). spelled (value w) ∷ l) others.0, and_from (fits (value w)) (list_all fits (map value ws)) s.1 others.1)

some_only : (ws vs : List (List ℕ)) → some_numbers ws ≡ Some vs → (ws ≡ map spelled (map value vs)) × ((ltb 0 (length (map value vs)) && list_all fits (map value vs)) ≡ true)
some_only [] vs e = absurd (none-some vs e)
some_only (w ∷ ws) vs e =
    let t = tested (list_all is_number (w ∷ ws)) (Some (w ∷ ws)) vs e in
    let s = same_Some (w ∷ ws) vs t.1 in
    let n = numbers_only (w ∷ ws) t.0 in
    let all : (ltb 0 (length (map value (w ∷ ws))) && list_all fits (map value (w ∷ ws))) ≡ true = and_from (ltb 0 (length (map value (w ∷ ws)))) (list_all fits (map value (w ∷ ws))) (lt-ltb 0 (length (map value (w ∷ ws))) (omega arith)) n.1 in
    (n.0 ∙ ap (λ (l : List (List ℕ)). map spelled (map value l)) s, subst (λ (l : List (List ℕ)). (ltb 0 (length (map value l)) && list_all fits (map value l)) ≡ true) s all)

number_names_only : (ws : List (List ℕ)) (t : ℕ × List (List ℕ)) → number_names ws ≡ Some t → (ws ≡ spelled t.0 ∷ t.1) × ((fits t.0 && list_all is_name t.1) ≡ true)
number_names_only [] t e = absurd (none-some t e)
number_names_only (w ∷ ws) t e =
    let b = bound (λ j. cond (list_all is_name ws) (Some (j, ws)) None) (plan_number w) t e in
    let d = tested (list_all is_name ws) (Some (b.0, ws)) t b.2 in
    let n = number_only w b.0 b.1 in
    subst (λ (u : ℕ × List (List ℕ)). (w ∷ ws ≡ spelled u.0 ∷ u.1) × ((fits u.0 && list_all is_name u.1) ≡ true)) (same_Some (b.0, ws) t d.1)
    (ap (λ (v : List ℕ). v ∷ ws) n.0, and_from (fits b.0) (list_all is_name ws) n.1 d.0)

name_number_only : (ws : List (List ℕ)) (t : List ℕ × ℕ) → name_number ws ≡ Some t → (ws ≡ t.0 ∷ spelled t.1 ∷ []) × ((is_name t.0 && fits t.1) ≡ true)
name_number_only [] t e = absurd (none-some t e)
name_number_only (w ∷ ws) t e =
    let d = tested (is_name w) (option_map (λ o. (w, o)) (one_number ws)) t e in
    let m = mapped (λ o. (w, o)) (one_number ws) t d.1 in
    let n = one_number_only ws m.0 m.1 in
    subst (λ (u : List ℕ × ℕ). (w ∷ ws ≡ u.0 ∷ spelled u.1 ∷ []) × ((is_name u.0 && fits u.1) ≡ true)) m.2
    (ap (λ (l : List (List ℕ)). w ∷ l) n.0, and_from (is_name w) (fits m.0) d.0 n.1)

two_numbers_only : (ws : List (List ℕ)) (t : ℕ × ℕ) → two_numbers ws ≡ Some t → (ws ≡ spelled t.0 ∷ spelled t.1 ∷ []) × ((fits t.0 && fits t.1) ≡ true)
two_numbers_only [] t e = absurd (none-some t e)
two_numbers_only (w ∷ ws) t e =
    let b = bound (λ x. option_map (λ y. (x, y)) (one_number ws)) (plan_number w) t e in
    let m = mapped (λ y. (b.0, y)) (one_number ws) t b.2 in
    let f = number_only w b.0 b.1 in
    let n = one_number_only ws m.0 m.1 in
    subst (λ (u : ℕ × ℕ). (w ∷ ws ≡ spelled u.0 ∷ spelled u.1 ∷ []) × ((fits u.0 && fits u.1) ≡ true)) m.2
    (ap (λ (l : List (List ℕ)). w ∷ l) n.0 ∙ ap (λ (v : List ℕ). v ∷ spelled m.0 ∷ []) f.0, and_from (fits b.0) (fits m.0) f.1 n.1)

name_numbers_only : (ws : List (List ℕ)) (t : List ℕ × (ℕ × ℕ)) → name_numbers ws ≡ Some t → (ws ≡ t.0 ∷ spelled t.1.0 ∷ spelled t.1.1 ∷ []) × ((is_name t.0 && (fits t.1.0 && fits t.1.1)) ≡ true)
name_numbers_only [] t e = absurd (none-some t e)
name_numbers_only (w ∷ ws) t e =
    let d = tested (is_name w) (option_map (λ p. (w, p)) (two_numbers ws)) t e in
    let m = mapped (λ p. (w, p)) (two_numbers ws) t d.1 in
    let n = two_numbers_only ws m.0 m.1 in
    subst (λ (u : List ℕ × (ℕ × ℕ)). (w ∷ ws ≡ u.0 ∷ spelled u.1.0 ∷ spelled u.1.1 ∷ []) × ((is_name u.0 && (fits u.1.0 && fits u.1.1)) ≡ true)) m.2
    (ap (λ (l : List (List ℕ)). w ∷ l) n.0, and_from (is_name w) (fits m.0.0 && fits m.0.1) d.0 n.1)

-- these words have this meaning alone
abbrev Only : List ℕ → List (List ℕ) → Item → Type 0
Only w args i = (w ≡ first_word i) × (args ≡ other_words i) × (is_writable i ≡ true)

pick : (b : Bool) (x y : Option Item) (i : Item) → cond b x y ≡ Some i → (b ≡ true) × (x ≡ Some i) ⊎ (y ≡ Some i)
pick true x y i e = inl (refl, e)
pick false x y i e = inr e

bare : (w text : List ℕ) (args : List (List ℕ)) (j i : Item) → first_word j ≡ text → other_words j ≡ [] → is_writable j ≡ true
    → (bytes_eq w text ≡ true) × (cond (is_empty args) (Some j) None ≡ Some i) → Only w args i
bare w text args j i f o h p =
    let t = tested (is_empty args) (Some j) i p.1 in
    subst (Only w args) (same_Some j i t.1) (same_word w text p.0 ∙ sym f, none_only args t.0 ∙ sym o, h)

numbered : (w text : List ℕ) (args : List (List ℕ)) (f : ℕ → Item) (i : Item) → ((n : ℕ) → first_word (f n) ≡ text) → ((n : ℕ) → other_words (f n) ≡ spelled n ∷ []) → ((n : ℕ) → fits n ≡ true → is_writable (f n) ≡ true)
    → (bytes_eq w text ≡ true) × (option_map f (one_number args) ≡ Some i) → Only w args i
numbered w text args f i first others h p =
    let m = mapped f (one_number args) i p.1 in
    let n = one_number_only args m.0 m.1 in
    subst (Only w args) m.2 (same_word w text p.0 ∙ sym (first m.0), n.0 ∙ sym (others m.0), h m.0 n.1)

listed : (w text : List ℕ) (args : List (List ℕ)) (f : List ℕ → Item) (i : Item) → ((ns : List ℕ) → first_word (f ns) ≡ text) → ((ns : List ℕ) → other_words (f ns) ≡ map spelled ns) → ((ns : List ℕ) → (ltb 0 (length ns) && list_all fits ns) ≡ true → is_writable (f ns) ≡ true)
    → (bytes_eq w text ≡ true) × (option_map (λ ws. f (map value ws)) (some_numbers args) ≡ Some i) → Only w args i
listed w text args f i first others h p =
    let m = mapped (λ ws. f (map value ws)) (some_numbers args) i p.1 in
    let n = some_only args m.0 m.1 in
    subst (Only w args) m.2 (same_word w text p.0 ∙ sym (first (map value m.0)), n.0 ∙ sym (others (map value m.0)), h (map value m.0) n.1)

form_only : (w : List ℕ) (args : List (List ℕ)) (i : Item) → form w args ≡ Some i → Only w args i
form_only w args i e =
    ⊎_elim (bare w (codes "branch") args Branch i refl refl refl) (λ e.
    ⊎_elim (bare w (codes "short") args Short i refl refl refl) (λ e.
    ⊎_elim (numbered w (codes "full") args Full i (λ n. refl) (λ n. refl) (λ n h. h)) (λ e.
    ⊎_elim (numbered w (codes "refute") args Refute i (λ n. refl) (λ n. refl) (λ n h. h)) (λ e.
    ⊎_elim (listed w (codes "cycle") args Cycle i (λ n. refl) (λ n. refl) (λ n h. h)) (λ e.
    ⊎_elim (listed w (codes "start") args Start i (λ n. refl) (λ n. refl) (λ n h. h)) (λ e.
    ⊎_elim (λ p. let m = mapped (λ t. TableOf t.0 t.1) (number_names args) i p.1 in let n = number_names_only args m.0 m.1 in subst (Only w args) m.2 (same_word w (codes "table") p.0, n.0, n.1)) (λ e.
    ⊎_elim (λ p. let m = mapped ModeNamed (only_name args) i p.1 in let n = only_name_only args m.0 m.1 in subst (Only w args) m.2 (same_word w (codes "mode") p.0, n.0, n.1)) (λ e.
    ⊎_elim (λ p. let t = tested (is_one args) (Some Head) i p.1 in subst (Only w args) (same_Some Head i t.1) (same_word w (codes "ttw") p.0, is_one_only args t.0, refl)) (λ e.
    ⊎_elim (bare w (codes "none") args Absent i refl refl refl) (λ e.
    ⊎_elim (numbered w (codes "schedule") args ScheduleOf i (λ n. refl) (λ n. refl) (λ n h. h)) (λ e.
    ⊎_elim (λ p. let m = mapped (λ t. TaskAt t.0 t.1) (name_number args) i p.1 in let n = name_number_only args m.0 m.1 in subst (Only w args) m.2 (same_word w (codes "task") p.0, n.0, n.1)) (λ e.
    ⊎_elim (λ p. let m = mapped (λ t. MessageAt t.0 t.1.0 t.1.1) (name_numbers args) i p.1 in let n = name_numbers_only args m.0 m.1 in subst (Only w args) m.2 (same_word w (codes "message") p.0, n.0, n.1)) (λ e.
    ⊎_elim (bare w (codes "end") args End i refl refl refl) (λ e. absurd (none-some i e))
    (pick _ _ _ i e)) (pick _ _ _ i e)) (pick _ _ _ i e)) (pick _ _ _ i e)) (pick _ _ _ i e)) (pick _ _ _ i e)) (pick _ _ _ i e)) (pick _ _ _ i e)) (pick _ _ _ i e)) (pick _ _ _ i e)) (pick _ _ _ i e)) (pick _ _ _ i e)) (pick _ _ _ i e)) (pick _ _ _ i e)

words_only : (ws : List (List ℕ)) (i : Item) → item_of_words ws ≡ Some i → ws ≡ first_word i ∷ other_words i
words_only [] i e = absurd (none-some i e)
words_only (w ∷ args) i e = let o = form_only w args i e in ap (λ (v : List ℕ). v ∷ args) o.0 ∙ ap (λ (l : List (List ℕ)). first_word i ∷ l) o.1

words_writable : (ws : List (List ℕ)) (i : Item) → item_of_words ws ≡ Some i → is_writable i ≡ true
words_writable [] i e = absurd (none-some i e)
words_writable (w ∷ args) i e = (form_only w args i e).2

read_is_said : (line : List ℕ) (i : Item) → item_of line ≡ Some i → Says line i
read_is_said line i e = record {
  words = sym (join_with_byte-slice_split 32 line) ∙ ap (join_with_byte 32) (words_only (parts line) i e);
  writable = words_writable (parts line) i e;
}

pub lines_are_exact : LinesAreExact
lines_are_exact line i = (read_is_said line i, said_is_read line i)
