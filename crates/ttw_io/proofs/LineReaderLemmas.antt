-- Bytes that are read ahead of a line, and the line that they begin with.
use Rattle.std.proofs.Common.{◌≡◌, ◌≢◌, ℕ, ◌+◌, ◌-◌, ◌<◌, ◌≤◌, Bool, true, false, not, cond, List, [], ◌∷◌, ◌++◌, length, get_or, take, drop, Option, Some, None, Ok, Err, refl, sym, ap, ◌∙◌, append_assoc, arith, length-append, length-drop, length-take, inl, inr, subst}
use Rattle.std.specs.List.{All, position}
use Rattle.std.specs.Prelude.{nat_eq, nat_lt, unwrap_or}
use Rattle.std.proofs.lemmas.Bool.{cases_lt, cond-true, cond-false, eq-eqb, eqb-true, false≢true, false_from_ne_true, le-ltb, lt-ltb, ltb-false, ltb-true}
use Rattle.std.proofs.lemmas.List.{append-nil, drop_all, drop-append-le, drop-drop, drop-take, get_or-take, take_all, take_more, take-append-drop, take-append-le, take-take}
use Rattle.std.proofs.lemmas.List.Edits.{take-paste}
use Rattle.std.proofs.lemmas.List.Sums.{fails_before_first, passes_at_first, position_or_len_is, prefix_len-le-length}
use Rattle.std.proofs.lemmas.Slice.{take-put_mid}
use Rattle.std.proofs.Math.Seq.{drop-append_seam, paste, take-append-add}
use borrow.Rule.Slice.PartMut.{put_mid}
use Rattle.memchr.specs.Find.{IsFirstByte, is_byte}
use Rattle.ttw_text.specs.Lines.{lines}
use Rattle.ttw_text.proofs.LineLemmas.{is_feed, lines_at, lines_at_end, lines-append, without_feed-append, without_feed-none}
use Rattle.ttw_io.specs.Outside.{Told, untold, missing, file, ReadsAt}
use Rattle.ttw_io.specs.declared.line_reader.LineEnd.{LineEnd}
use Rattle.ttw_io.specs.declared.line_reader.LineEnd.TheVariants.{Failed, Long}
use Rattle.ttw_io.specs.LineReading.{Answers, Behind, EndsSearch, Hands, IsFirst, IsLeft, IsLong, IsOf, ReadLines, ReadsOn, first_feed, handed_out, text_len}

take_none : (xs : List ℕ) → take 0 xs ≡ []
take_none xs = refl

-- ---- the place of the first line feed

abbrev HasNone : List ℕ → Type 0
HasNone bytes = All (λ b. b ≢ 10) bytes

no_feed_at : (bytes : List ℕ) (k : ℕ) (d : ℕ) → k < first_feed bytes → get_or bytes k d ≢ 10
no_feed_at bytes k d before e = false≢true (sym (fails_before_first is_feed bytes k d before) ∙ eq-eqb _ 10 e)

none_before : (bytes : List ℕ) → HasNone (take (first_feed bytes) bytes)
none_before bytes k d below =
    let before : k < first_feed bytes = omega (arith, length-take (first_feed bytes) bytes) in
    λ e. no_feed_at bytes k d before (sym (get_or-take (first_feed bytes) bytes k d before) ∙ e)

none_at_all : (bytes : List ℕ) → length bytes ≤ first_feed bytes → HasNone bytes
none_at_all bytes long k d below = no_feed_at bytes k d (omega arith)

feed_within : (bytes : List ℕ) → first_feed bytes ≤ length bytes
feed_within bytes = prefix_len-le-length _ bytes

-- the place that a search for the byte answers
pub feed_place : (bytes : List ℕ) (r : Option ℕ) → IsFirstByte (is_byte 10) bytes r → r ≡ position is_feed bytes
feed_place bytes None none =
    let end = position_or_len_is is_feed bytes (length bytes) 0 (omega arith) (λ k below. false_from_ne_true _ (none k (omega arith) below)) (λ below. absurd (omega arith)) in
    sym (cond-false _ _ _ (le-ltb (first_feed bytes) (length bytes) (omega (arith, end))))
feed_place bytes (Some k) found =
    let at = position_or_len_is is_feed bytes k 0 (omega (arith, found.0.high)) (λ i below. false_from_ne_true _ (found.0.before i (omega arith) below)) (λ _. found.1) in
    sym (cond-true _ _ _ (lt-ltb (first_feed bytes) (length bytes) (omega (arith, at, found.0.high))) ∙ ap Some at)

-- the place is the one that a search finds, or the length
pub first_feed_is : (bytes : List ℕ) → unwrap_or (position is_feed bytes) (length bytes) ≡ first_feed bytes
first_feed_is bytes =
    elim (cases_lt (first_feed bytes) (length bytes)) [
      | inl found ↦ ap (λ (o : Option ℕ). unwrap_or o (length bytes)) (cond-true _ _ _ (lt-ltb _ _ found))
      | inr none ↦ let within = feed_within bytes in ap (λ (o : Option ℕ). unwrap_or o (length bytes)) (cond-false _ _ _ (le-ltb _ _ none)) ∙ omega arith
    ]

-- the first line, with its line feed
fed_line : (bytes : List ℕ) → first_feed bytes < length bytes → take (first_feed bytes + 1) bytes ≡ take (first_feed bytes) bytes ++ 10 ∷ []
fed_line bytes found = take_more bytes (first_feed bytes) 0 found ∙ ap (λ b. take (first_feed bytes) bytes ++ b ∷ []) (eqb-true _ 10 (passes_at_first is_feed bytes 0 found))

fed_text_len : (bytes : List ℕ) → first_feed bytes < length bytes → text_len (take (first_feed bytes + 1) bytes) ≡ first_feed bytes
fed_text_len bytes found =
    ap text_len (fed_line bytes found)
    ∙ ap (λ (o : Option (List ℕ)). length (unwrap_or o (take (first_feed bytes) bytes ++ 10 ∷ []))) (without_feed-append (take (first_feed bytes) bytes))
    ∙ omega (arith, length-take (first_feed bytes) bytes)

open_text_len : (line : List ℕ) → HasNone line → text_len line ≡ length line
open_text_len line none = ap (λ (o : Option (List ℕ)). length (unwrap_or o line)) (without_feed-none line none)

-- the lines of a text that begins with a line
lines_fed : (text rest : List ℕ) → HasNone text → lines ((text ++ 10 ∷ []) ++ rest) ≡ (text ++ 10 ∷ []) ∷ lines rest
lines_fed text rest none = ap lines (append_assoc text (10 ∷ []) rest) ∙ lines-append text rest none

-- and those of a text that is one
lines_open : (line : List ℕ) → 0 < length line → length line ≤ first_feed line → lines line ≡ line ∷ []
lines_open line some none = lines_at_end line some (cond-false _ _ _ (le-ltb _ _ none))

-- a text whose first line feed comes late begins with a long line
long_first : (most : ℕ) (rest : List ℕ) → most < first_feed rest → (line : List ℕ) × (others : List (List ℕ)) × (lines rest ≡ line ∷ others) × (most < text_len line)
long_first most rest late =
    elim (cases_lt (first_feed rest) (length rest)) [
      | inl found ↦
          let at = first_feed rest in
          let len = fed_text_len rest found in
          (take (at + 1) rest, lines (drop (at + 1) rest), lines_at rest at (cond-true _ _ _ (lt-ltb _ _ found)), omega (arith, len))
      | inr none ↦
          let within = feed_within rest in
          let len = open_text_len rest (none_at_all rest none) in
          (rest, [], lines_open rest (omega arith) none, omega (arith, len))
    ]

-- more bytes behind it leave the first line feed in its place, or put one later
feed_later : (bytes more : List ℕ) → first_feed bytes ≤ first_feed (bytes ++ more)
feed_later [] more = omega arith
feed_later (b ∷ bs) more = later (is_feed b) (feed_later bs more)
  where
    later : (feed : Bool) → first_feed bs ≤ first_feed (bs ++ more) → cond (not feed) (1 + first_feed bs) 0 ≤ cond (not feed) (1 + first_feed (bs ++ more)) 0
    later true h = omega arith
    later false h = omega arith

-- ---- bytes that are handed out

there_is : (told : Told) (reader : ReadLines) → IsOf told reader → 0 < length reader.ahead → told ≢ missing
there_is untold reader of_file some e = cc
there_is missing reader of_file some e = absurd (omega (arith, ap (length {A = ℕ}) of_file.0))
there_is (file all) reader of_file some e = cc

-- bytes of the front before what is left behind them
front_then : (len : ℕ) (ahead rest more : List ℕ) → rest ≡ drop len ahead ++ more → take len ahead ++ rest ≡ ahead ++ more
front_then len ahead rest more e =
    ap (λ (xs : List ℕ). take len ahead ++ xs) e
    ∙ sym (append_assoc (take len ahead) (drop len ahead) more)
    ∙ ap (λ (xs : List ℕ). xs ++ more) (take-append-drop len ahead)

-- what is left of a file that goes on so, behind some of the bytes read ahead
left_of : (all ahead more : List ℕ) (at len : ℕ) → len ≤ length ahead → drop at all ≡ ahead ++ more → drop (at + len) all ≡ drop len ahead ++ more
left_of all ahead more at len within e = sym (drop-drop len at all) ∙ ap (drop len) e ∙ drop-append-le len ahead more within

behind_handed : (told : Told) (reader : ReadLines) (len : ℕ) (rest : List ℕ) → IsOf told reader → len ≤ length reader.ahead → Behind told (reader.handed + len) rest → Behind told reader.handed (take len reader.ahead ++ rest)
behind_handed untold reader len rest of_file within behind = tt
behind_handed missing reader len rest of_file within behind = absurd behind
behind_handed (file all) reader len rest of_file within behind =
    let more = of_file.ahead.0 in
    (of_file.behind.0, front_then len reader.ahead rest more (behind.1 ∙ left_of all reader.ahead more reader.handed len within of_file.ahead.1) ∙ sym of_file.ahead.1)

left_handed : (told : Told) (reader : ReadLines) (len : ℕ) (rest : List ℕ) → IsOf told reader → len ≤ length reader.ahead → IsLeft told (handed_out reader len) rest → IsLeft told reader (take len reader.ahead ++ rest)
left_handed told reader len rest of_file within left = record {
  behind = behind_handed told reader len rest of_file within left.behind;
  ahead = (left.ahead.0, front_then len reader.ahead rest left.ahead.0 left.ahead.1, left.ahead.2);
}

pub of_handed : (told : Told) (reader : ReadLines) (len : ℕ) → IsOf told reader → len ≤ length reader.ahead → IsOf told (handed_out reader len)
of_handed untold reader len of_file within = tt
of_handed missing reader len of_file within =
    let none = ap (length {A = ℕ}) of_file.0 in
    (ap (drop len) of_file.0 ∙ drop_all len [] (omega arith), of_file.1)
of_handed (file all) reader len of_file within =
    let more = of_file.ahead.0 in
    let long = ap length of_file.ahead.1 in
    record {
      behind = (omega (arith, of_file.behind.0, within, long, length-append reader.ahead more, length-drop reader.handed all), refl);
      ahead = (more, left_of all reader.ahead more reader.handed len within of_file.ahead.1, of_file.ahead.2);
    }

-- ---- a line that is found

pub first_at_end : (reader : ReadLines) (len : ℕ) → len ≡ first_feed reader.ahead → length reader.ahead ≤ len → len ≤ reader.most → reader.ended ≡ true → IsFirst reader len
first_at_end reader len is all short ended =
    let within = feed_within reader.ahead in
    record {
      within = omega arith;
      short = omega arith;
      feed = λ found. absurd (omega arith);
      end = λ _. (ended, omega arith);
    }

-- a line with its line feed, or the last one without one, before what is left behind it
first_lines : (told : Told) (mid : ReadLines) (len : ℕ) (rest : List ℕ) → IsFirst mid len → 0 < len → IsLeft told (handed_out mid len) rest → lines (take len mid.ahead ++ rest) ≡ take len mid.ahead ∷ lines rest
first_lines told mid len rest first some left =
    elim (cases_lt (first_feed mid.ahead) (length mid.ahead)) [
      | inl found ↦
          let line = ap (λ n. take n mid.ahead) (first.feed found) ∙ fed_line mid.ahead found in
          ap (λ (xs : List ℕ). lines (xs ++ rest)) line ∙ lines_fed (take (first_feed mid.ahead) mid.ahead) rest (none_before mid.ahead) ∙ ap (λ (xs : List ℕ). xs ∷ lines rest) (sym line)
      | inr none ↦
          let end = first.end none in
          let whole : take len mid.ahead ≡ mid.ahead = take_all len mid.ahead (omega (arith, end.1)) in
          let past : drop len mid.ahead ≡ [] = drop_all len mid.ahead (omega (arith, end.1)) in
          let gone : rest ≡ [] = left.ahead.1 ∙ ap (λ (xs : List ℕ). drop len mid.ahead ++ xs) (left.ahead.2 end.0) ∙ append-nil (drop len mid.ahead) ∙ past in
          ap (λ (xs : List ℕ). lines (take len mid.ahead ++ xs)) gone ∙ ap lines (append-nil (take len mid.ahead)) ∙ ap lines whole
          ∙ lines_open mid.ahead (omega (arith, end.1)) none
          ∙ ap (λ (xs : List ℕ). xs ∷ []) (sym whole) ∙ ap (λ (xs : List ℕ). take len mid.ahead ∷ lines xs) (sym gone)
    ]

first_short : (mid : ReadLines) (len : ℕ) → IsFirst mid len → text_len (take len mid.ahead) ≤ mid.most
first_short mid len first =
    elim (cases_lt (first_feed mid.ahead) (length mid.ahead)) [
      | inl found ↦
          let e = ap (λ n. text_len (take n mid.ahead)) (first.feed found) ∙ fed_text_len mid.ahead found in
          omega (arith, e, first.short)
      | inr none ↦
          let end = first.end none in
          let within = feed_within mid.ahead in
          let e = ap text_len (take_all len mid.ahead (omega (arith, end.1))) ∙ open_text_len mid.ahead (none_at_all mid.ahead none) in
          omega (arith, e, first.short)
    ]

hands_mid : (told : Told) (old mid : ReadLines) (len : ℕ) → ReadsOn told old mid → IsFirst mid len → 0 < len → Hands told old (handed_out mid len)
hands_mid told old mid len on first some = record {
  some = omega (arith, first.within, length-take len mid.ahead);
  short = omega (arith, first_short mid len first, on.most);
  handed = omega (arith, on.handed, first.within, length-take len mid.ahead);
  first = λ rest left. (on.left (take len mid.ahead ++ rest) (left_handed told mid len rest on.of_file first.within left), first_lines told mid len rest first some left);
  there = there_is told mid on.of_file (omega (arith, first.within));
}

pub hands : (told : Told) (old mid new : ReadLines) (len : ℕ) → ReadsOn told old mid → IsFirst mid len → 0 < len → new ≡ handed_out mid len → Hands told old new
hands told old mid new len on first some e = subst (Hands told old) (sym e) (hands_mid told old mid len on first some)

-- the file ends behind what was handed out, where nothing is left of what was read
none_left : (told : Told) (mid : ReadLines) → IsOf told mid → mid.ended ≡ true → mid.ahead ≡ [] → IsLeft told mid []
none_left untold mid of_file ended none = record { behind = tt; ahead = ([], sym (append-nil mid.ahead ∙ none), λ _. refl) }
none_left missing mid of_file ended none = absurd (false≢true (sym of_file.1 ∙ ended))
none_left (file all) mid of_file ended none =
    let more = of_file.ahead.0 in
    let gone : drop mid.handed all ≡ [] = of_file.ahead.1 ∙ ap (λ (xs : List ℕ). mid.ahead ++ xs) (of_file.ahead.2 ended) ∙ append-nil mid.ahead ∙ none in
    record { behind = (of_file.behind.0, sym gone); ahead = ([], sym (append-nil mid.ahead ∙ none), λ _. refl) }

pub at_end : (told : Told) (old mid : ReadLines) (len : ℕ) → ReadsOn told old mid → IsFirst mid len → len ≡ 0 → IsLeft told old []
at_end told old mid len on first zero_len =
    elim (cases_lt (first_feed mid.ahead) (length mid.ahead)) [
      | inl found ↦ absurd (omega (arith, first.feed found, zero_len))
      | inr none ↦
          let end = first.end none in
          let nothing : mid.ahead ≡ [] = sym (take_all 0 mid.ahead (omega (arith, end.1, zero_len))) in
          on.left [] (none_left told mid on.of_file end.0 nothing)
    ]

-- the same but for the line and the refusal
left_same : (told : Told) (old new : ReadLines) (rest : List ℕ) → new.handed ≡ old.handed → new.ahead ≡ old.ahead → new.ended ≡ old.ended → IsLeft told new rest → IsLeft told old rest
left_same told old new rest handed ahead ended left = record {
  behind = subst (λ at. Behind told at rest) handed left.behind;
  ahead = (left.ahead.0, left.ahead.1 ∙ ap (λ (xs : List ℕ). xs ++ left.ahead.0) ahead, λ e. left.ahead.2 (ended ∙ e));
}

is_long : (told : Told) (old mid new : ReadLines) → ReadsOn told old mid → mid.most < first_feed mid.ahead → new.handed ≡ mid.handed → new.ahead ≡ mid.ahead → new.ended ≡ mid.ended → IsLong told old new
is_long told old mid new on late handed ahead ended = record {
  first = λ rest after.
      let left = left_same told mid new rest handed ahead ended after in
      let later = feed_later mid.ahead left.ahead.0 in
      let same = ap first_feed left.ahead.1 in
      let long = long_first old.most rest (omega (arith, on.most)) in
      (on.left rest left, long.0, long.1, long.2, long.3);
  there = there_is told mid on.of_file (omega (arith, feed_within mid.ahead));
}

-- ---- answers

pub answers_found : (told : Told) (old mid new : ReadLines) (before now len : ℕ) → ReadsOn told old mid → IsFirst mid len → new ≡ handed_out mid len → Answers told old new before now (Ok (nat_lt 0 len))
answers_found told old mid new before now len on first is = found (nat_lt 0 len) refl
  where
    found : (some : Bool) → nat_lt 0 len ≡ some → Answers told old new before now (Ok some)
    found true e = hands told old mid new len on first (ltb-true 0 len e) is
    found false e =
        let none : len ≡ 0 = omega (arith, ltb-false 0 len e) in (
          at_end told old mid len on first none,
          ap (λ (r : ReadLines). r.line) is ∙ ap (λ n. take n mid.ahead) none ∙ take_none mid.ahead,
          ap (λ (r : ReadLines). r.handed) is ∙ omega (arith, none, on.handed),
        )

pub answers_refused : (told : Told) (old mid new : ReadLines) (before now : ℕ) (end : LineEnd) → ReadsOn told old mid → EndsSearch mid before now end → new.most ≡ mid.most → new.handed ≡ mid.handed → new.ahead ≡ mid.ahead → new.ended ≡ mid.ended → Answers told old new before now (Err end)
answers_refused told old mid new before now Failed on ends most handed ahead ended = (
  ends.0,
  record {
    none = omega (arith, ends.1.none, ap length ahead, ap first_feed ahead);
    short = omega (arith, ends.1.short, ap length ahead, most);
    on = ended ∙ ends.1.on;
  },
)
answers_refused told old mid new before now Long on ends most handed ahead ended = is_long told old mid new on ends handed ahead ended

-- ---- bytes that are read

-- the same but for the line
of_same : (told : Told) (old new : ReadLines) → IsOf told old → new.handed ≡ old.handed → new.ahead ≡ old.ahead → new.ended ≡ old.ended → IsOf told new
of_same untold old new of_file handed ahead ended = tt
of_same missing old new of_file handed ahead ended = (ahead ∙ of_file.0, ended ∙ of_file.1)
of_same (file all) old new of_file handed ahead ended =
    let more = of_file.ahead.0 in
    record {
      behind = (omega (arith, handed, of_file.behind.0), refl);
      ahead = (more, ap (λ n. drop n all) handed ∙ of_file.ahead.1 ∙ ap (λ (xs : List ℕ). xs ++ more) (sym ahead), λ e. of_file.ahead.2 (sym ended ∙ e));
    }

pub reads_none : (told : Told) (old new : ReadLines) → IsOf told old → new.most ≡ old.most → new.handed ≡ old.handed → new.refusal ≡ old.refusal → new.ahead ≡ old.ahead → new.ended ≡ old.ended → ReadsOn told old new
reads_none told old new of_file most handed refusal ahead ended = record {
  most = most;
  handed = handed;
  refusal = refusal;
  of_file = of_same told old new of_file handed ahead ended;
  left = λ rest left. left_same told old new rest handed ahead ended left;
}

-- a piece of what is left of the file, behind what was read ahead
of_more : (told : Told) (old new : ReadLines) (into : List ℕ) (n : ℕ) → IsOf told old → 0 < length into → ReadsAt told (old.handed + length old.ahead) n into →
    new.handed ≡ old.handed → new.ahead ≡ old.ahead ++ take n into → new.ended ≡ nat_eq n 0 → IsOf told new
of_more untold old new into n of_file room reads handed ahead ended = tt
of_more missing old new into n of_file room reads handed ahead ended = absurd reads
of_more (file all) old new into n of_file room reads handed ahead ended =
    let more = of_file.ahead.0 in
    let place = old.handed + length old.ahead in
    let behind : drop place all ≡ more = sym (drop-drop (length old.ahead) old.handed all) ∙ ap (drop (length old.ahead)) of_file.ahead.1 ∙ drop-append_seam old.ahead more in
    let piece : take n into ≡ take n more = reads.front ∙ ap (take n) behind in
    let whole : new.ahead ++ drop n more ≡ old.ahead ++ more =
    ap (λ (xs : List ℕ). xs ++ drop n more) (ahead ∙ ap (λ (xs : List ℕ). old.ahead ++ xs) piece)
    ∙ append_assoc old.ahead (take n more) (drop n more)
    ∙ ap (λ (xs : List ℕ). old.ahead ++ xs) (take-append-drop n more) in
    record {
      behind = (omega (arith, handed, of_file.behind.0), refl);
      ahead = (
        drop n more,
        ap (λ at. drop at all) handed ∙ of_file.ahead.1 ∙ sym whole,
        λ e.
            let none : n ≡ 0 = eqb-true n 0 (sym ended ∙ e) in
            let past : drop place all ≡ [] = drop_all place all (reads.end none room) in
            ap (drop n) (sym behind ∙ past) ∙ drop_all n [] (omega arith),
      );
    }

pub reads_more : (told : Told) (old new : ReadLines) (into : List ℕ) (n : ℕ) → IsOf told old → old.ended ≡ false → 0 < length into → ReadsAt told (old.handed + length old.ahead) n into →
    new.most ≡ old.most → new.handed ≡ old.handed → new.refusal ≡ old.refusal → new.ahead ≡ old.ahead ++ take n into → new.ended ≡ nat_eq n 0 → ReadsOn told old new
reads_more told old new into n of_file open_end room reads most handed refusal ahead ended = record {
  most = most;
  handed = handed;
  refusal = refusal;
  of_file = of_more told old new into n of_file room reads handed ahead ended;
  left = λ rest left. record {
    behind = subst (λ at. Behind told at rest) handed left.behind;
    ahead = (
      take n into ++ left.ahead.0,
      left.ahead.1 ∙ ap (λ (xs : List ℕ). xs ++ left.ahead.0) ahead ∙ append_assoc old.ahead (take n into) left.ahead.0,
      λ e. absurd (false≢true (sym open_end ∙ e)),
    );
  };
}

pub reads_then : (told : Told) (old mid new : ReadLines) → ReadsOn told old mid → ReadsOn told mid new → ReadsOn told old new
reads_then told old mid new first second = record {
  most = second.most ∙ first.most;
  handed = second.handed ∙ first.handed;
  refusal = second.refusal ∙ first.refusal;
  of_file = second.of_file;
  left = λ rest left. first.left rest (second.left rest left);
}

-- ---- the room of a reader

-- the first e bytes of what is moved to the front
pub moved : (items : List ℕ) (next e : ℕ) → next + e ≤ length items → take e (paste items 0 (drop next items) e) ≡ take e (drop next items)
moved items next e fits =
    ap (λ n. take n (paste items 0 (drop next items) e)) {x = e} {y = 0 + e} (omega arith)
    ∙ take-paste items 0 (drop next items) e (omega arith) (omega (arith, length-drop next items))
    ∙ ap (λ (xs : List ℕ). xs ++ take e (drop next items)) (take_none items)

-- and behind them the first n of a part that was read
pub moved_then : (items into more xs : List ℕ) (next e k n len : ℕ) → xs ≡ paste items 0 (drop next items) e → next + e ≤ length items → e ≤ length xs → n ≤ length into → e + n ≤ len →
    take (e + n) (take len (put_mid e k xs into ++ more)) ≡ take e (drop next items) ++ take n into
moved_then items into more xs next e k n len is fits front some within =
    let ws = put_mid e k xs into in
    let long = e + length into in
    let parts : take long ws ≡ take e xs ++ into = take-put_mid e k xs into long refl front in
    let cut : length (take e xs) ≡ e = omega (arith, length-take e xs) in
    let room : e + n ≤ length ws = omega (arith, ap length parts, length-take long ws, length-append (take e xs) into) in
    take-take (e + n) len (ws ++ more) within
    ∙ take-append-le (e + n) ws more room
    ∙ sym (take-take (e + n) long ws (omega arith))
    ∙ ap (take (e + n)) parts
    ∙ ap (λ m. take (m + n) (take e xs ++ into)) (sym cut)
    ∙ take-append-add (take e xs) into n
    ∙ ap (λ (ys : List ℕ). take e ys ++ take n into) is
    ∙ ap (λ (ys : List ℕ). ys ++ take n into) (moved items next e fits)

abbrev pub reader_of : ℕ → List ℕ → ℕ → List ℕ → Bool → Option LineEnd → ReadLines
reader_of most line handed ahead ended refusal = record { most = most; line = line; handed = handed; ahead = ahead; ended = ended; refusal = refusal }

-- the parts of the buffer once len of the bytes read ahead are the line
pub handed_view : (most next end len handed : ℕ) (items : List ℕ) (ended : Bool) (refusal : Option LineEnd) → next + len ≤ end →
    reader_of most (take (next + len - next) (drop next items)) (handed + len) (take (end - (next + len)) (drop (next + len) items)) ended refusal
    ≡ reader_of most (take len (take (end - next) (drop next items))) (handed + len) (drop len (take (end - next) (drop next items))) ended refusal
handed_view most next end len handed items ended refusal within =
    let left = end - (next + len) in
    let one : next + len - next ≡ len = omega arith in
    let whole : end - next ≡ len + left = omega arith in
    let line : take (next + len - next) (drop next items) ≡ take len (take (end - next) (drop next items)) =
    ap (λ n. take n (drop next items)) one ∙ sym (take-take len (end - next) (drop next items) (omega arith)) in
    let ahead : take left (drop (next + len) items) ≡ drop len (take (end - next) (drop next items)) =
    ap (take left) (sym (drop-drop len next items)) ∙ sym (drop-take len left (drop next items)) ∙ ap (λ n. drop len (take n (drop next items))) (sym whole) in
    λ i. reader_of most (line i) (handed + len) (ahead i) ended refusal
