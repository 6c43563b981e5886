-- What is told of files and sinks, and what their calls do to it.
use Rattle.std.specs.Prelude.{◌≡◌, ℕ, ◌+◌, ◌-◌, ◌^◌, ◌<◌, ◌≤◌, min, List, length, take, drop, ⊤, Option}
use Rattle.std.specs.Io.KnownBytes.{append_known}

-- what is told of the file of a name: nothing, that there is none, or its bytes
pub data Told : Type 0 where
  untold : Told
  missing : Told
  file : List ℕ → Told

-- a count after one more: it stands still at the greatest u64
abbrev pub one_more : ℕ → ℕ
one_more count = min (count + 1) (2 ^ 64 - 1)

-- the count of faults rose, or stands at the greatest u64
abbrev pub Rose : ℕ → ℕ → Type 0
Rose before now = one_more before ≤ now

-- a read from place `at` on put n bytes of the file at the front of `into`, and none only at the end or without room
pub record IsRead (bytes : List ℕ) (at n : ℕ) (into : List ℕ) : Type 0 where
  pub within : n ≤ length bytes - at
  pub front : take n into ≡ take n (drop at bytes)
  pub end : n ≡ 0 → 0 < length into → length bytes ≤ at

-- the same of the file that is told: one that is missing is not read
abbrev pub ReadsAt : Told → ℕ → ℕ → List ℕ → Type 0
ReadsAt untold at n into = ⊤
ReadsAt missing at n into = ⊥
ReadsAt (file bytes) at n into = IsRead bytes at n into

-- the file has exactly these bytes
abbrev pub IsWhole : Told → List ℕ → Type 0
IsWhole untold bytes = ⊤
IsWhole missing bytes = ⊥
IsWhole (file all) bytes = all ≡ bytes

-- the file has more than n bytes, and these are its first n + 1
abbrev pub IsLonger : Told → ℕ → List ℕ → Type 0
IsLonger untold n bytes = length bytes ≡ n + 1
IsLonger missing n bytes = ⊥
IsLonger (file all) n bytes = (n < length all) × (bytes ≡ take (n + 1) all)

-- an answer and a text are due for the file's bytes or, where nothing is told of the file, for some bytes
abbrev pub OfFile : {A : Type 0} → Told → (List ℕ → A → List ℕ → Type 0) → A → List ℕ → Type 0
OfFile untold Due answer text = (bytes : List ℕ) × Due bytes answer text
OfFile missing Due answer text = ⊥
OfFile (file bytes) Due answer text = Due bytes answer text

-- a prefix of the text was added to the bytes held
abbrev pub AddsFront : Option (List ℕ) → Option (List ℕ) → List ℕ → Type 0
AddsFront old new text = (n : ℕ) × (n ≤ length text) × (new ≡ append_known old (take n text))
