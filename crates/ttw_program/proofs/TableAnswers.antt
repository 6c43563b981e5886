-- Schedules of an accepted plan, and bytes in lines of hexadecimal
use Rattle.std.proofs.Common.{◌≡◌, ℕ, zero, suc, ◌+◌, ◌/◌, ◌<◌, ◌≤◌, min, List, [], ◌∷◌, ◌++◌, length, get_or, map, take, drop, Option, Some, None, ⊎_elim, refl, sym, ◌∙◌, ap, subst, arith, append_assoc, append-nil, length-append}
use Rattle.std.specs.List.{AllZip}
use Rattle.std.proofs.lemmas.Bool.{cases_lt}
use Rattle.std.proofs.lemmas.List.{length-map}
use Rattle.std.proofs.lemmas.Slice.Zip.{AllZip-long}
use Rattle.std.proofs.Math.Seq.{take-append_seam, drop-append_seam}
use Rattle.app_graph.specs.declared.mode_set.Mode.{Mode}
use Rattle.app_graph.specs.declared.mode_set.ModeSet.{ModeSet}
use Rattle.app_graph.specs.Validation.{KeepsRules}
use Rattle.sched_model.specs.declared.schedule.Schedule.{Schedule}
use Rattle.sched_model.specs.PlainMode.{plain_mode}
use Rattle.sched_model.specs.RightSchedule.{IsSchedule}
use Rattle.sched_model.proofs.TaskNumbers.{few_modes}
use Rattle.proof_tree.specs.Accepting.{IsRight, doc_mode, doc_modes}
use Rattle.runtime_model.specs.Plans.{no_schedule}
use Rattle.runtime_model.specs.Plans.{AreSchedules}
use Rattle.file_answers.specs.PlanFiles.{LacksFirst}
use Rattle.ttw_program.specs.Tables.{hex_line, hex_lines, hex_text}

-- ---- schedules

right_at : (set : ModeSet) (modes : List Mode) (schedules : List Schedule) → AllZip IsRight (map (doc_mode set) modes) (map Some schedules) → (i : ℕ) → i < length modes → (d : Mode) →
    let s = get_or schedules i no_schedule in IsSchedule (plain_mode set (get_or modes i d)) (length s.starts) s
right_at set [] schedules h i l d = absurd (omega (arith, l))
right_at set (m ∷ modes) [] h i l d = absurd h
right_at set (m ∷ modes) (s ∷ schedules) h zero l d = h.0
right_at set (m ∷ modes) (s ∷ schedules) h (suc i) l d = right_at set modes schedules h.1 i (omega (arith, l)) d

-- the schedules of an accepted plan are right, one for each mode
pub schedules_right : (set : ModeSet) (plans : List (Option Schedule)) (schedules : List Schedule) → AllZip IsRight (doc_modes set) plans → plans ≡ map Some schedules → AreSchedules set schedules
schedules_right set plans schedules right is =
    let h = subst (λ (ps : List (Option Schedule)). AllZip IsRight (doc_modes set) ps) is right in
    record {
      one_each = omega (arith, AllZip-long IsRight (doc_modes set) (map Some schedules) h, length-map schedules (λ (s : Schedule). Some s), length-map set.modes (doc_mode set));
      right = λ i l. right_at set set.modes schedules h i l (record { name = []; apps = [] });
    }

-- the first mode without a schedule is one of the modes, which are few
pub few_before : (set : ModeSet) (plans : List (Option Schedule)) (n : ℕ) → KeepsRules set → AllZip IsRight (doc_modes set) plans → LacksFirst plans n → n < 8
few_before set plans n keeps right (earlier, later, is, count) =
    omega (arith, AllZip-long IsRight (doc_modes set) plans right, length-map set.modes (doc_mode set), few_modes set keeps, ap length is, length-append (map Some earlier) (None ∷ later), length-map earlier (λ (s : Schedule). Some s), count)

-- ---- hexadecimal

-- the last line
short_line : (line rest : List ℕ) → length line ≤ 32 → 0 < length line → length rest ≡ 0 → hex_text (line ++ rest) ≡ hex_line line ++ hex_text rest
short_line line [] few some none =
    let count : (length (line ++ []) + 31) / 32 ≡ 1 = omega (arith, length-append line [], few, some) in
    ap (λ n. hex_lines n (line ++ [])) count
    ∙ ap (λ (xs : List ℕ). hex_line xs ++ []) (ap (λ (xs : List ℕ). take 32 xs) (append-nil line) ∙ whole line 32 few)
  where
    whole : (xs : List ℕ) (n : ℕ) → length xs ≤ n → take n xs ≡ xs
    whole [] zero h = refl
    whole [] (suc n) h = refl
    whole (x ∷ xs) zero h = absurd (omega (arith, h))
    whole (x ∷ xs) (suc n) h = ap (λ (ys : List ℕ). x ∷ ys) (whole xs n (omega (arith, h)))
short_line line (x ∷ rest) few some none = absurd (omega (arith, none))

-- a whole line
whole_line : (line rest : List ℕ) → length line ≡ 32 → hex_text (line ++ rest) ≡ hex_line line ++ hex_text rest
whole_line line rest full =
    let n = (length rest + 31) / 32 in
    let count : (length (line ++ rest) + 31) / 32 ≡ suc n = omega (arith, length-append line rest, full) in
    let front : take 32 (line ++ rest) ≡ line = ap (λ k. take k (line ++ rest)) (sym full) ∙ take-append_seam line rest in
    let back : drop 32 (line ++ rest) ≡ rest = ap (λ k. drop k (line ++ rest)) (sym full) ∙ drop-append_seam line rest in
    ap (λ k. hex_lines k (line ++ rest)) count
    ∙ ap (λ (xs : List ℕ). hex_line xs ++ hex_lines n (drop 32 (line ++ rest))) front
    ∙ ap (λ (xs : List ℕ). hex_line line ++ hex_lines n xs) back

-- one line more
pub hex_more : (out new line rest left whole : List ℕ) → new ≡ out ++ hex_line line → left ≡ line ++ rest → length line ≡ min 32 (length left) → 0 < length left → out ++ hex_text left ≡ whole → new ++ hex_text rest ≡ whole
hex_more out new line rest left whole add split size some h =
    let sum = ap length split ∙ length-append line rest in
    let cut : hex_text left ≡ hex_line line ++ hex_text rest
    = ap hex_text split
    ∙ ⊎_elim
    (λ (short : length left < 33). short_line line rest (omega (arith, size)) (omega (arith, size, short, some)) (omega (arith, size, short, sum)))
    (λ (long : 33 ≤ length left). whole_line line rest (omega (arith, size, long)))
    (cases_lt (length left) 33) in
    ap (λ (xs : List ℕ). xs ++ hex_text rest) add ∙ append_assoc out (hex_line line) (hex_text rest) ∙ ap (λ (xs : List ℕ). out ++ xs) (sym cut) ∙ h

-- nothing is left
pub hex_end : (out left whole : List ℕ) → length left ≡ 0 → out ++ hex_text left ≡ whole → out ≡ whole
hex_end out [] whole none h = sym (append-nil out) ∙ h
hex_end out (x ∷ left) whole none h = absurd (omega (arith, none))
