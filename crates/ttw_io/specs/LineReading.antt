-- What a reader of lines keeps of a file, and what each of its answers says of it.
use Rattle.std.specs.Prelude.{◌≡◌, ◌≢◌, ℕ, ◌+◌, ◌-◌, ◌<◌, ◌≤◌, ◌==◌, if◌then◌else◌, Bool, true, false, ⊤, List, [], ◌∷◌, ◌++◌, length, take, drop, Option, Some, None, unwrap_or, Result, Ok, Err, IfSome, IfErr, OnOk}
use Rattle.std.specs.List.{position_or_len}
use Rattle.std.specs.Borrow.{Bor}
use Rattle.ttw_text.specs.Lines.{lines, without_feed}
use Rattle.ttw_io.specs.declared.line_reader.LineEnd.{LineEnd}
use Rattle.ttw_io.specs.declared.line_reader.LineEnd.TheVariants.{Failed, Long}
use Rattle.ttw_io.specs.Outside.{Told, untold, missing, file, Rose}

-- the most bytes of a line, the line handed out last, how many bytes of the file were handed out with it, those behind them
-- that were read already, whether the file's end was met, and the refusal that is kept
pub record ReadLines : Type 0 where
  pub most : ℕ
  pub line : List ℕ
  pub handed : ℕ
  pub ahead : List ℕ
  pub ended : Bool
  pub refusal : Option LineEnd

-- how long a line is without its line feed
abbrev pub text_len : List ℕ → ℕ
text_len line = length (unwrap_or (without_feed line) line)

-- these are the bytes of the file from this place on
abbrev pub Behind : Told → ℕ → List ℕ → Type 0
Behind untold at rest = ⊤
Behind missing at rest = ⊥
Behind (file all) at rest = (at ≤ length all) × (rest ≡ drop at all)

-- so may the file go on behind what was handed out
pub record IsLeft (told : Told) (reader : ReadLines) (rest : List ℕ) : Type 0 where
  pub behind : Behind told reader.handed rest
  pub ahead : (more : List ℕ) × (rest ≡ reader.ahead ++ more) × (reader.ended ≡ true → more ≡ [])

-- the reader reads this file
abbrev pub IsOf : Told → ReadLines → Type 0
IsOf untold reader = ⊤
IsOf missing reader = (reader.ahead ≡ []) × (reader.ended ≡ false)
IsOf (file all) reader = IsLeft (file all) reader (drop reader.handed all)

-- the next line of the file was handed out, and is within the limit
pub record Hands (told : Told) (old new : ReadLines) : Type 0 where
  pub some : 0 < length new.line
  pub short : text_len new.line ≤ old.most
  pub handed : new.handed ≡ old.handed + length new.line
  pub first : (rest : List ℕ) → IsLeft told new rest → IsLeft told old (new.line ++ rest) × (lines (new.line ++ rest) ≡ new.line ∷ lines rest)
  pub there : told ≢ missing

-- the line that is next in the file is longer than the limit
pub record IsLong (told : Told) (old new : ReadLines) : Type 0 where
  pub first : (rest : List ℕ) → IsLeft told new rest → IsLeft told old rest × (line : List ℕ) × (others : List (List ℕ)) × (lines rest ≡ line ∷ others) × (old.most < text_len line)
  pub there : told ≢ missing

-- how many bytes stand before the first line feed
abbrev pub first_feed : List ℕ → ℕ
first_feed bytes = position_or_len (λ b. b == 10) bytes

-- what was read of the file has no whole line that was not handed out, and no longer one
pub record IsOpen (reader : ReadLines) : Type 0 where
  pub none : length reader.ahead ≤ first_feed reader.ahead
  pub short : length reader.ahead ≤ reader.most
  pub on : reader.ended ≡ false

-- what each answer to the request for the next line says, with the count of faults before and now
abbrev pub Answers : Told → ReadLines → ReadLines → ℕ → ℕ → Result Bool LineEnd → Type 0
Answers told old new before now (Ok true) = Hands told old new
Answers told old new before now (Ok false) = IsLeft told old [] × (new.line ≡ []) × (new.handed ≡ old.handed)
Answers told old new before now (Err Failed) = Rose before now × IsOpen new
Answers told old new before now (Err Long) = IsLong told old new

-- the same of the line itself
abbrev pub AnswersLine : Told → ReadLines → ReadLines → ℕ → ℕ → Result (Option (Bor (List ℕ))) LineEnd → Type 0
AnswersLine told old new before now (Ok (Some line)) = Hands told old new × (new.line ≡ line.now)
AnswersLine told old new before now (Ok None) = Answers told old new before now (Ok false)
AnswersLine told old new before now (Err end) = Answers told old new before now (Err end)

-- what the request for the next line says of the reader once the line is let go
pub record NextLine (told : Told) (old new : ReadLines) (before now : ℕ) (result : Result (Option (Bor (List ℕ))) LineEnd) : Type 0 where
  pub answer : old.refusal ≡ None → AnswersLine told old new before now result
  pub again : IfSome old.refusal (λ e. (result ≡ Err e) × (new ≡ old))
  pub ok : OnOk result (new.refusal ≡ None)
  pub err : IfErr result (λ e. new.refusal ≡ Some e)
  pub most : new.most ≡ old.most
  pub of_file : IsOf told new

-- ---- inside the reader

-- more of the file was read ahead, and maybe its end was met
pub record ReadsOn (told : Told) (old new : ReadLines) : Type 0 where
  pub most : new.most ≡ old.most
  pub handed : new.handed ≡ old.handed
  pub refusal : new.refusal ≡ old.refusal
  pub of_file : IsOf told new
  pub left : (rest : List ℕ) → IsLeft told new rest → IsLeft told old rest

-- how much is to be read at most until a line is found
abbrev pub left_to_read : ReadLines → ℕ
left_to_read reader = (reader.most + 1 - length reader.ahead) + (if reader.ended then 0 else 1)

-- the next line has so many bytes, and is within the limit
pub record IsFirst (reader : ReadLines) (len : ℕ) : Type 0 where
  pub within : len ≤ length reader.ahead
  pub short : first_feed reader.ahead ≤ reader.most
  pub feed : first_feed reader.ahead < length reader.ahead → len ≡ first_feed reader.ahead + 1
  pub end : length reader.ahead ≤ first_feed reader.ahead → (reader.ended ≡ true) × (len ≡ length reader.ahead)

-- why none was found
abbrev pub EndsSearch : ReadLines → ℕ → ℕ → LineEnd → Type 0
EndsSearch reader before now Failed = Rose before now × IsOpen reader
EndsSearch reader before now Long = reader.most < first_feed reader.ahead

-- the reader once so many of the bytes that it has read ahead were handed out
abbrev pub handed_out : ReadLines → ℕ → ReadLines
handed_out reader len = record reader { line = take len reader.ahead; handed = reader.handed + len; ahead = drop len reader.ahead }
