-- Readers that give back what was written, and take nothing else.
use Rattle.std.proofs.Common.{◌≡◌, ℕ, zero, suc, ◌+◌, ◌<◌, ◌≤◌, ◌^◌, Bool, true, ltb, leb, ◌&&◌, ℤ, int_le, ◌≤ℤ◌, List, [], ◌∷◌, ◌++◌, length, take, drop, get_or, slice_index, Result, Ok, Err, refl, sym, ap, subst, ◌∙◌, inl, inr, arith, append_assoc, append-nil, FitsSigned, to_z-of_z, length-append, take-append-drop}
use Rattle.std.proofs.lemmas.Bool.{cond-true, cond-false, le-ltb, ltb-false, le-leb, leb-true, and_from, and_parts, cases_Bool, cases_lt}
use Rattle.std.proofs.lemmas.List.{take_at, drop_at, get_or-drop, length-take-le, length-take, get_or-take, get_or_past}
use Rattle.std.proofs.lemmas.Nat.{be_bytes_2, be_bytes_8, from_be_bytes-to_be_bytes_2, from_be_bytes-to_be_bytes_8}
use Rattle.std.specs.Int.{w16, w64, from_be_bytes, to_be_bytes, cast_signed, cast_unsigned}
use Rattle.std.specs.List.{flat_map}
use Rattle.std.proofs.lemmas.Int.{ints, of_z-to_z}
use Rattle.node_tables.specs.Fields.{Field, Byte, Short, Long, short_bytes, long_bytes, bytes_of, bytes, IsInRange, AreInRange}
use Rattle.node_tables.specs.Left.{Left}
use Rattle.node_tables.specs.Reading.{Reads, field, byte, short, long, give, go_on, after}
use Rattle.node_tables.specs.declared.fault.ImageFault.{ImageFault}
use Rattle.node_tables.specs.declared.fault.ImageFault.TheVariants as faults

abbrev pub left : ℕ → List ℕ → Left
left at bs = record { at = at; bytes = bs }

-- ---- what was written is read back

-- from these bytes, whatever follows, the reader gives x
pub record Back {X : Type 0} (reading : Reads X) (x : X) (bs : List ℕ) : Type 0 where
  pub reads : (at : ℕ) (rest : List ℕ) → (end : ℕ) × (reading (left at (bs ++ rest)) ≡ Ok (x, left end rest))

pub back_give : {X : Type 0} (x : X) → Back (give x) x []
back_give x = record { reads = λ at rest. (at, refl) }

pub back_after : {X Y : Type 0} (first : Reads X) (next : X → Reads Y) (x : X) (y : Y) (bs cs : List ℕ) → Back first x bs → Back (next x) y cs → Back (after first next) y (bs ++ cs)
back_after {X} {Y} first next x y bs cs one two = record {
  reads = λ at rest.
      let a = one.reads at (cs ++ rest) in
      let b = two.reads a.0 rest in
      (b.0, ap (λ (ds : List ℕ). go_on (first (left at ds)) next) (append_assoc bs cs rest) ∙ ap (λ (r : Result (X × Left) ImageFault). go_on r next) a.1 ∙ b.1);
}

field_back : {X : Type 0} (size : ℕ) (value : List ℕ → X) (fits : X → Bool) (x : X) (bs : List ℕ) → length bs ≡ size → value bs ≡ x → fits x ≡ true → Back (field size value fits) x bs
field_back {X} size value fits x bs long is good = record {
  reads = λ at rest.
      let all = bs ++ rest in
      let front : take size all ≡ bs = take_at bs rest size long in
      let same : value (take size all) ≡ x = ap value front ∙ is in (
        at + size,
        cond-false _ _ _ (le-ltb (length all) size (omega (arith, length-append bs rest)))
            ∙ cond-true _ _ _ (ap fits same ∙ good)
            ∙ ap (λ (v : X). Ok (v, left (at + size) (drop size all))) same
            ∙ ap (λ (ds : List ℕ). Ok (x, left (at + size) ds)) (drop_at bs rest size long),
      );
}

abbrev pub within : ℕ → ℕ → ℕ → Bool
within low high n = leb low n && leb n high

abbrev pub within_signed : ℤ → ℤ → ℤ → Bool
within_signed low high z = int_le low z && int_le z high

abbrev pub first_of_bytes : List ℕ → ℕ
first_of_bytes bs = slice_index bs 0

abbrev pub signed_of_bytes : List ℕ → ℤ
signed_of_bytes bs = cast_signed w64 (from_be_bytes w64 bs)

within_from : (low high n : ℕ) → (low ≤ n) × (n ≤ high) → within low high n ≡ true
within_from low high n range = and_from _ _ (le-leb low n range.0) (le-leb n high range.1)

le_test : (a b : ℤ) → a ≤ℤ b → int_le a b ≡ true
le_test a b h = grind (arith, ints)

le_from_test : (a b : ℤ) → int_le a b ≡ true → a ≤ℤ b
le_from_test a b h = grind (arith, ints)

pub byte_back : (low high n : ℕ) → IsInRange (Byte low high n) → Back (byte low high) n (bytes_of (Byte low high n))
byte_back low high n range = field_back 1 first_of_bytes (within low high) n (n ∷ []) refl refl (within_from low high n range)

pub short_back : (low high n : ℕ) → high < 2 ^ 16 → IsInRange (Short low high n) → Back (short low high) n (bytes_of (Short low high n))
unfolding short_bytes
short_back low high n small range =
    field_back 2 (from_be_bytes w16) (within low high) n (to_be_bytes w16 n) refl (from_be_bytes-to_be_bytes_2 n (omega arith)) (within_from low high n range)

pub long_back : (low high z : ℤ) → FitsSigned w64 z → IsInRange (Long low high z) → Back (long low high) z (bytes_of (Long low high z))
unfolding long_bytes
long_back low high z fits range =
    field_back 8 signed_of_bytes (within_signed low high) z (to_be_bytes w64 (cast_unsigned w64 z)) refl
    (ap (cast_signed w64) (from_be_bytes-to_be_bytes_8 (cast_unsigned w64 z) (of_z-lt z fits)) ∙ to_z-of_z fits)
    (and_from _ _ (le_test low z range.0) (le_test z high range.1))
  where
    of_z-lt : (y : ℤ) → FitsSigned w64 y → cast_unsigned w64 y < 2 ^ 64
    of_z-lt y fits = omega (arith, ints, fits.sfits)

-- ---- nothing else is taken

abbrev pub AreBytes : List ℕ → Type 0
AreBytes bs = (i : ℕ) → get_or bs i 0 < 256

-- between these two states the bytes of these fields were taken
pub record Took (fields : List Field) (s t : Left) : Type 0 where
  pub ranges : AreInRange fields
  pub split : s.bytes ≡ bytes fields ++ t.bytes
  pub are_bytes : AreBytes t.bytes

pub bytes-append : (fs gs : List Field) → bytes (fs ++ gs) ≡ bytes fs ++ bytes gs
bytes-append [] gs = refl
bytes-append (f ∷ fs) gs = ap (λ (bs : List ℕ). bytes_of f ++ bs) (bytes-append fs gs) ∙ sym (append_assoc (bytes_of f) (bytes fs) (bytes gs))

pub ranges-append : (fs gs : List Field) → AreInRange fs → AreInRange gs → AreInRange (fs ++ gs)
ranges-append [] gs one two = two
ranges-append (f ∷ fs) gs one two = (one.0, ranges-append fs gs one.1 two)

pub ranges_front : (fs gs : List Field) → AreInRange (fs ++ gs) → AreInRange fs
ranges_front [] gs both = tt
ranges_front (f ∷ fs) gs both = (both.0, ranges_front fs gs both.1)

pub ranges_rest : (fs gs : List Field) → AreInRange (fs ++ gs) → AreInRange gs
ranges_rest [] gs both = both
ranges_rest (f ∷ fs) gs both = ranges_rest fs gs both.1

pub took_more : (fs gs : List Field) (s t u : Left) → Took fs s t → Took gs t u → Took (fs ++ gs) s u
took_more fs gs s t u one two = record {
  ranges = ranges-append fs gs one.ranges two.ranges;
  split = one.split ∙ ap (λ (bs : List ℕ). bytes fs ++ bs) two.split ∙ sym (append_assoc (bytes fs) (bytes gs) u.bytes) ∙ ap (λ (bs : List ℕ). bs ++ u.bytes) (sym (bytes-append fs gs));
  are_bytes = two.are_bytes;
}

-- whatever the reader gives, it took these fields of it
pub record Takes {X : Type 0} (reading : Reads X) (fields : X → List Field) : Type 0 where
  pub took : (s : Left) (x : X) (t : Left) → AreBytes s.bytes → reading s ≡ Ok (x, t) → Took (fields x) s t

-- whatever the reader gives, these fields and those that it took are all of it
pub record Rest {X : Type 0} (reading : Reads X) (before : List Field) (whole : X → List Field) : Type 0 where
  pub rest : (s : Left) (x : X) (t : Left) → AreBytes s.bytes → reading s ≡ Ok (x, t) → (gs : List Field) × Took gs s t × (before ++ gs ≡ whole x)

pub undo : {X Y : Type 0} (r : Result (X × Left) ImageFault) (next : X → Reads Y) (g : Y × Left) → go_on r next ≡ Ok g → (f : X × Left) × (r ≡ Ok f) × (next f.0 f.1 ≡ Ok g)
undo (Ok f) next g e = (f, refl, e)
undo {X} {Y} (Err fault) next g e = let fails : Result (Y × Left) ImageFault = Err fault in let bad : fails ≡ Ok g = e in absurd cc

pub rest_after : {X Y : Type 0} (first : Reads X) (next : X → Reads Y) (fields : X → List Field) (before : List Field) (whole : Y → List Field) →
    Takes first fields → ((x : X) → Rest (next x) (before ++ fields x) whole) → Rest (after first next) before whole
rest_after first next fields before whole one others = record {
  rest = λ s y t are e.
      let u = undo (first s) next (y, t) e in
      let a = one.took s u.0.0 u.0.1 are u.1 in
      let b = (others u.0.0).rest u.0.1 y t a.are_bytes u.2 in
      (fields u.0.0 ++ b.0, took_more (fields u.0.0) b.0 s u.0.1 t a b.1, sym (append_assoc before (fields u.0.0) b.0) ∙ b.2);
}

pub rest_give : {X : Type 0} (x : X) (before : List Field) (whole : X → List Field) → before ≡ whole x → Rest (give x) before whole
rest_give {X} x before whole is = record {
  rest = λ s y t are e.
      let here : X × Left = (x, s) in
      let there : X × Left = (y, t) in
      let pair : here ≡ there = cc in
      let same : x ≡ y = ap (λ (p : X × Left). p.0) pair in
      let end : s ≡ t = ap (λ (p : X × Left). p.1) pair in
      let P : Left → Type 0 = λ u. Took [] s u in
      ([], subst P end (record { ranges = tt; split = refl; are_bytes = are }), append-nil before ∙ is ∙ ap whole same);
}

pub takes_from : {X : Type 0} (reading : Reads X) (fields : X → List Field) → Rest reading [] fields → Takes reading fields
takes_from reading fields r = record {
  took = λ s x t are e.
      let a = r.rest s x t are e in
      let P : List Field → Type 0 = λ fs. Took fs s t in
      subst P a.2 a.1;
}

-- what a field that was read says
record Read {X : Type 0} (size : ℕ) (value : List ℕ → X) (fits : X → Bool) (s : Left) (x : X) (t : Left) : Type 0 where
  room : size ≤ length s.bytes
  is : x ≡ value (take size s.bytes)
  good : fits x ≡ true
  rest : t.bytes ≡ drop size s.bytes

field_read : {X : Type 0} (size : ℕ) (value : List ℕ → X) (fits : X → Bool) (s : Left) (x : X) (t : Left) → field size value fits s ≡ Ok (x, t) → Read size value fits s x t
field_read {X} size value fits s x t e =
    elim (cases_Bool (ltb (length s.bytes) size)) [
      | inl small ↦ let fault : Result (X × Left) ImageFault = Err faults.Short in let bad : fault ≡ Ok (x, t) = sym (cond-true _ _ _ small) ∙ e in absurd cc
      | inr big ↦ let v = value (take size s.bytes) in
          elim (cases_Bool (fits v)) [
            | inl good ↦
                let here : X × Left = (v, left (s.at + size) (drop size s.bytes)) in
                let there : X × Left = (x, t) in
                let both : Ok here ≡ Ok there = sym (cond-false _ _ _ big ∙ cond-true _ _ _ good) ∙ e in
                let pair : here ≡ there = cc in
                let same : v ≡ x = ap (λ (p : X × Left). p.0) pair in
                record {
                  room = ltb-false _ _ big;
                  is = sym same;
                  good = ap fits (sym same) ∙ good;
                  rest = sym (ap (λ (p : X × Left). p.1.bytes) pair);
                }
            | inr bad ↦ let fault : Result (X × Left) ImageFault = Err (faults.Range s.at) in let no : fault ≡ Ok (x, t) = sym (cond-false _ _ _ big ∙ cond-false _ _ _ bad) ∙ e in absurd cc
          ]
    ]

are_bytes-take : (n : ℕ) (bs : List ℕ) → AreBytes bs → AreBytes (take n bs)
are_bytes-take n bs are i =
    elim (cases_lt i n) [
      | inl low ↦ omega (arith, get_or-take n bs i 0 low, are i)
      | inr high ↦ omega (arith, get_or_past (take n bs) i 0 (omega (arith, length-take n bs)))
    ]

are_bytes-drop : (n : ℕ) (bs : List ℕ) → AreBytes bs → AreBytes (drop n bs)
are_bytes-drop n bs are i = omega (arith, get_or-drop n bs i 0, are (n + i))

within_range : (low high n : ℕ) → within low high n ≡ true → (low ≤ n) × (n ≤ high)
within_range low high n good = let parts = and_parts _ _ good in (leb-true low n parts.0, leb-true n high parts.1)

-- a field whose bytes are those that it was read from
took_field : (size : ℕ) (f : Field) (s t : Left) → AreBytes s.bytes → bytes_of f ≡ take size s.bytes → t.bytes ≡ drop size s.bytes → IsInRange f → Took (f ∷ []) s t
took_field size f s t are same rest range = record {
  ranges = (range, tt);
  split =
      sym (take-append-drop size s.bytes)
      ∙ ap (λ (bs : List ℕ). bs ++ drop size s.bytes) (sym same ∙ sym (append-nil (bytes_of f)))
      ∙ ap (λ (bs : List ℕ). (bytes_of f ++ []) ++ bs) (sym rest);
  are_bytes = let P : List ℕ → Type 0 = AreBytes in subst P (sym rest) (are_bytes-drop size s.bytes are);
}

first_byte : (bs : List ℕ) → 1 ≤ length bs → first_of_bytes (take 1 bs) ∷ [] ≡ take 1 bs
first_byte [] some = absurd (omega arith)
first_byte (b ∷ bs) some = refl

pub byte_takes : (low high : ℕ) → Takes (byte low high) (λ n. Byte low high n ∷ [])
byte_takes low high = record {
  took = λ s n t are e.
      let r = field_read 1 first_of_bytes (within low high) s n t e in
      took_field 1 (Byte low high n) s t are (ap (λ (m : ℕ). m ∷ []) r.is ∙ first_byte s.bytes r.room) r.rest (within_range low high n r.good);
}

pub short_takes : (low high : ℕ) → Takes (short low high) (λ n. Short low high n ∷ [])
unfolding short_bytes
short_takes low high = record {
  took = λ s n t are e.
      let r = field_read 2 (from_be_bytes w16) (within low high) s n t e in
      let same : to_be_bytes w16 n ≡ take 2 s.bytes = be_bytes_2 (take 2 s.bytes) n (length-take-le 2 s.bytes r.room) (are_bytes-take 2 s.bytes are) r.is in
      took_field 2 (Short low high n) s t are same r.rest (within_range low high n r.good);
}

from_be_bytes-lt : (bs : List ℕ) → AreBytes bs → from_be_bytes w64 bs < 2 ^ 64
from_be_bytes-lt bs are = omega (arith, are 0, are 1, are 2, are 3, are 4, are 5, are 6, are 7)

pub long_takes : (low high : ℤ) → Takes (long low high) (λ z. Long low high z ∷ [])
unfolding long_bytes
long_takes low high = record {
  took = λ s z t are e.
      let r = field_read 8 signed_of_bytes (within_signed low high) s z t e in
      let front = are_bytes-take 8 s.bytes are in
      let number : cast_unsigned w64 z ≡ from_be_bytes w64 (take 8 s.bytes) = ap (cast_unsigned w64) r.is ∙ of_z-to_z w64 (from_be_bytes w64 (take 8 s.bytes)) (from_be_bytes-lt (take 8 s.bytes) front) in
      let same : to_be_bytes w64 (cast_unsigned w64 z) ≡ take 8 s.bytes = be_bytes_8 (take 8 s.bytes) (cast_unsigned w64 z) (length-take-le 8 s.bytes r.room) front number in
      let parts = and_parts _ _ r.good in
      took_field 8 (Long low high z) s t are same r.rest (le_from_test low z parts.0, le_from_test z high parts.1);
}

-- ---- what is written

pub ranges_at : {X : Type 0} (fields : X → List Field) (xs : List X) (i : ℕ) (d : X) → i < length xs → AreInRange (flat_map fields xs) → AreInRange (fields (get_or xs i d))
ranges_at fields [] i d lt ranges = absurd (omega arith)
ranges_at fields (x ∷ xs) zero d lt ranges = ranges_front (fields x) (flat_map fields xs) ranges
ranges_at fields (x ∷ xs) (suc i) d lt ranges = ranges_at fields xs i d (omega arith) (ranges_rest (fields x) (flat_map fields xs) ranges)

pub bytes-take_more : {X : Type 0} (fields : X → List Field) (xs : List X) (i : ℕ) (x : X) → i < length xs → x ≡ get_or xs i x →
    bytes (flat_map fields (take (i + 1) xs)) ≡ bytes (flat_map fields (take i xs)) ++ bytes (fields x)
bytes-take_more fields [] i x lt is = absurd (omega arith)
bytes-take_more {X} fields (y ∷ ys) zero x lt is =
    ap (λ (fs : List Field). bytes fs) (append-nil (fields y)) ∙ ap (λ (z : X). bytes (fields z)) (sym is)
bytes-take_more {X} fields (y ∷ ys) (suc i) x lt is =
    let e : suc i + 1 ≡ suc (i + 1) = omega arith in
    ap (λ (n : ℕ). bytes (flat_map fields (take n (y ∷ ys)))) e
    ∙ bytes-append (fields y) (flat_map fields (take (i + 1) ys))
    ∙ ap (λ (bs : List ℕ). bytes (fields y) ++ bs) (bytes-take_more fields ys i x (omega arith) is)
    ∙ sym (append_assoc (bytes (fields y)) (bytes (flat_map fields (take i ys))) (bytes (fields x)))
    ∙ ap (λ (bs : List ℕ). bs ++ bytes (fields x)) (sym (bytes-append (fields y) (flat_map fields (take i ys))))
