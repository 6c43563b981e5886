-- What is due of a mode file, from what was read of it
use Rattle.std.proofs.Common.{◌≡◌, ℕ, ◌<◌, List, [], ◌∷◌, length, refl, sym, ap, subst, arith, inl, inr, Some}
use Rattle.std.specs.Prelude.{option_map, Bool, Vec, Err}
use Rattle.std.proofs.lemmas.Bool.{lt-leb}
use Rattle.ttw_io.specs.Outside.{Told, untold, missing, file, IsWhole, IsLonger, OfFile}
use Rattle.ttw_io.specs.Reading.{EndsReading}
use Rattle.ttw_io.specs.declared.reading.ReadEnd.{ReadEnd}
use Rattle.ttw_io.specs.declared.reading.ReadEnd.TheVariants.{Long}
use Rattle.std.specs.declared.alloc.Global.{Global}
use Rattle.app_graph.specs.Rules.{Rule, unless, first_of}
use Rattle.app_graph.specs.ValueRules.{value_rules}
use Rattle.app_graph.specs.declared.mode_set.ModeSet.{ModeSet}
use Rattle.mode_file.specs.declared.faults.FileFault.{FileFault}
use Rattle.mode_file.specs.declared.faults.FileFault.TheVariants.{TooLong, NotToml, Missing, WrongKind, UnknownKey, OutOfRange, Repeated, Unknown, TwoSenders, Cycle, DeadlineLong, TooMany, Memory}
use Rattle.mode_file.specs.Reading.{Broken, toml_rule, top_table, raw_of}
use Rattle.mode_file.specs.Faults.{of_graph}
use Rattle.mode_file.specs.Tables.{table_rules}
use Rattle.mode_file.specs.Walks.{Breaks}
use Rattle.file_answers.specs.declared.status.Status.{Status}
use Rattle.file_answers.specs.declared.status.Status.TheVariants.{ModeFile}
use Rattle.file_answers.specs.FaultLines.{file_fault_line}
use Rattle.file_answers.specs.declared.answers.Answer.{Answer}
use Rattle.file_answers.specs.declared.mode_files.ModeFile.{ModeFile as Says}
use Rattle.file_answers.specs.declared.mode_files.ModeFile.TheVariants.{Set, Refused}
use Rattle.app_graph.specs.Validation.{KeepsRules}
use Rattle.file_answers.specs.ModeFiles.{Said, SaysOf}
use Rattle.file_answers.specs.Due.{OfSet}

-- a fault that is not want of memory is that of the first broken rule
pub breaks_fault : (fault : FileFault) (rule : Rule FileFault) → Breaks fault rule → (fault ≡ Memory → ⊥) → rule ≡ Some fault
breaks_fault TooLong rule b n = b
breaks_fault NotToml rule b n = b
breaks_fault (Missing key) rule b n = b
breaks_fault (WrongKind key) rule b n = b
breaks_fault (UnknownKey text) rule b n = b
breaks_fault (OutOfRange key) rule b n = b
breaks_fault (Repeated name) rule b n = b
breaks_fault (Unknown name) rule b n = b
breaks_fault (TwoSenders name) rule b n = b
breaks_fault (Cycle name) rule b n = b
breaks_fault (DeadlineLong name) rule b n = b
breaks_fault (TooMany key) rule b n = b
breaks_fault Memory rule b n = absurd (n refl)

-- a file that is longer than its limit is too long
too_long : (bytes : List ℕ) → 1048576 < length bytes → Broken bytes TooLong
too_long bytes l = ap with_test (lt-leb (length bytes) 1048576 l)
  where
    with_test : Bool → Rule FileFault
    with_test b = first_of (first_of (unless b TooLong ∷ toml_rule bytes ∷ table_rules (top_table bytes) ∷ []) ∷ option_map of_graph (value_rules (raw_of bytes)) ∷ [])

-- what the bytes say is what the file that has them says
pub says_whole : (told : Told) (bytes : List ℕ) (said : Says) → IsWhole told bytes → Said bytes said → SaysOf told said
says_whole untold bytes said w d = (bytes, d)
says_whole missing bytes said w d = absurd w
says_whole (file all) bytes said w d = subst (λ (b : List ℕ). Said b said) (sym w) d

-- what is read of a longer file
pub longer_at : (told : Told) (most before now : ℕ) (end : ReadEnd) (bytes : Vec ℕ Global) → EndsReading told most before now (Err end) → end ≡ Long bytes → IsLonger told most bytes.items
longer_at told most before now end bytes ends is = subst (λ (e : ReadEnd). EndsReading told most before now (Err e)) is ends

-- a longer file is refused
pub says_longer : (told : Told) (bytes : List ℕ) (answer : Answer) → IsLonger told 1048576 bytes → answer.status ≡ ModeFile → answer.text ≡ file_fault_line TooLong → SaysOf told (Refused answer)
says_longer untold bytes answer l es et = (bytes, (TooLong, too_long bytes (omega (arith, l)), es, et))
says_longer missing bytes answer l es et = absurd l
says_longer (file all) bytes answer l es et = (TooLong, too_long all l.0, es, et)

-- what is due of the set that a file says is due of the file
pub of_said : (told : Told) (set : ModeSet) (D : ModeSet → Status → List ℕ → Type 0) (s : Status) (t : List ℕ) → SaysOf told (Set set) → D set s t → OfFile told (OfSet D) s t
of_said untold set D s t (bytes, says) d = (bytes, inr (set, says.1, d))
of_said missing set D s t says d = absurd says
of_said (file bytes) set D s t says d = inr (set, says.1, d)

-- and so is the answer that refuses it
pub of_refused : (told : Told) (answer : Answer) (D : ModeSet → Status → List ℕ → Type 0) → SaysOf told (Refused answer) → OfFile told (OfSet D) answer.status answer.text
of_refused untold answer D (bytes, says) = (bytes, inl says)
of_refused missing answer D says = absurd says
of_refused (file bytes) answer D says = inl says

-- the set that a file says keeps the rules
pub said_keeps : (told : Told) (set : ModeSet) → SaysOf told (Set set) → KeepsRules set
said_keeps untold set (bytes, says) = says.0
said_keeps missing set says = absurd says
said_keeps (file bytes) set says = says.0
