-- A file whose lines are taken one by one
use Rattle.std.proofs.Common.{◌≡◌, ◌≢◌, ℕ, ◌+◌, ◌<◌, Bool, false, true, Ok, List, [], ◌∷◌, ◌++◌, length, drop, refl, sym, ap, subst, ◌∙◌, arith, append-nil}
use Rattle.std.specs.Prelude.{Option, Some, None, IfSome, unwrap_or}
use Rattle.std.specs.Option.{option_and_then}
use Rattle.std.proofs.lemmas.Bool.{false≢true, cond-false, lt-leb}
use Rattle.ttw_text.specs.Lines.{lines, without_feed}
use Rattle.ttw_io.specs.Outside.{Told, untold, missing, file, IsWhole}
use Rattle.ttw_io.specs.LineReading.{Answers, Behind, Hands, IsLeft, IsLong, IsOf, ReadLines, text_len}
use Rattle.app_graph.specs.declared.mode_set.ModeSet.{ModeSet}
use Rattle.sched_model.specs.declared.schedule.Schedule.{Schedule}
use Rattle.proof_tree.specs.Accepting.{Accepts, doc_modes, items_of, line_item, longest}
use Rattle.proof_tree.specs.Reading.{read_document}
use Rattle.proof_tree.specs.Refusing.{Refuses}
use Rattle.cert_checker.specs.declared.refused.Refused.{Refused}
use Rattle.cert_checker.specs.declared.refused.Refused.TheVariants as refused
use Rattle.cert_checker.specs.declared.checker.Checker.{Checker}
use Rattle.cert_checker.specs.DocumentLines.{line_read}
use Rattle.cert_checker.specs.DocumentStages.{Refutes}
use Rattle.cert_checker.specs.FileChecking.{OfBytes}
use Rattle.cert_checker.specs.Machine.{IsReady, leads}
use Rattle.cert_checker.specs.Refusals.{said}
use Rattle.cert_checker.proofs.Errors.{some_weaker}
use Rattle.cert_checker.proofs.Machines.{line_refutes}
use Rattle.cert_checker.proofs.Unread.{refuses_from}

-- however the file goes on, its lines are those that the checker took and those that are left
abbrev pub Follows : Told → ModeSet → Checker → ReadLines → Type 0
Follows told set c reader = (rest : List ℕ) → IsLeft told reader rest → OfBytes told (λ bytes. read_document (doc_modes set) (items_of bytes) ≡ leads set c (lines rest))

-- nothing was read yet
pub record IsFresh (reader : ReadLines) : Type 0 where
  pub handed : reader.handed ≡ 0
  pub ahead : reader.ahead ≡ []
  pub ended : reader.ended ≡ false

pub fresh_is_of : (told : Told) (reader : ReadLines) → IsFresh reader → IsOf told reader
fresh_is_of untold reader fresh = tt
fresh_is_of missing reader fresh = (fresh.ahead, fresh.ended)
fresh_is_of (file all) reader fresh = record {
  behind = (omega (arith, fresh.handed), refl);
  ahead = (
    drop reader.handed all,
    sym (ap (λ (xs : List ℕ). xs ++ drop reader.handed all) fresh.ahead),
    λ e. absurd (false≢true (sym fresh.ended ∙ e)),
  );
}

whole_at_front : (told : Told) (at : ℕ) (rest : List ℕ) → at ≡ 0 → Behind told at rest → IsWhole told rest
whole_at_front untold at rest e behind = tt
whole_at_front missing at rest e behind = absurd behind
whole_at_front (file all) at rest e behind = sym (behind.1 ∙ ap (λ n. drop n all) e)

pub follows_fresh : (told : Told) (set : ModeSet) (c : Checker) (reader : ReadLines) → IsFresh reader → ((text : List ℕ) → read_document (doc_modes set) (items_of text) ≡ leads set c (lines text)) → Follows told set c reader
follows_fresh told set c reader fresh begins = λ rest left. (rest, whole_at_front told reader.handed rest fresh.handed left.behind, begins rest)

-- a line is handed out and taken
pub follows_more : (told : Told) (set : ModeSet) (c next : Checker) (old new : ReadLines) → Follows told set c old → Hands told old new → ((rest : List (List ℕ)) → leads set c (new.line ∷ rest) ≡ leads set next rest) → Follows told set next new
follows_more told set c next old new follows hands taken = λ rest left.
    let one = hands.first rest left in
    let so = follows (new.line ++ rest) one.0 in
    (so.0, so.1, so.2 ∙ ap (leads set c) one.1 ∙ taken (lines rest))

-- the answer that there is a line, and that there is none
pub hands_at : (told same : Told) (old new : ReadLines) (before now : ℕ) (some : Bool) → told ≡ same → some ≡ true → Answers told old new before now (Ok some) → Hands same old new
hands_at told same old new before now some kept e answer = subst (λ (t : Told). Hands t old new) kept (subst (λ (b : Bool). Answers told old new before now (Ok b)) e answer)

pub ends_at : (told same : Told) (old new : ReadLines) (before now : ℕ) (some : Bool) → told ≡ same → some ≡ false → Answers told old new before now (Ok some) → IsLeft same old []
ends_at told same old new before now some kept e answer =
    let none = subst (λ (b : Bool). Answers told old new before now (Ok b)) e answer in
    subst (λ (t : Told). IsLeft t old []) kept none.0

-- a file that is there goes on somehow
pub left_there : (told : Told) (reader : ReadLines) → IsOf told reader → told ≢ missing → (rest : List ℕ) × IsLeft told reader rest
left_there untold reader of_file there = (reader.ahead, record { behind = tt; ahead = ([], sym (append-nil reader.ahead), λ _. refl) })
left_there missing reader of_file there = absurd (there refl)
left_there (file all) reader of_file there = (drop reader.handed all, of_file)

refuses_bytes : (told : Told) (set : ModeSet) (e : Refused) (bytes : List ℕ) → IsWhole told bytes → IfSome (said e) (λ f. Refuses set bytes f) → IfSome (said e) (λ f. OfBytes told (λ xs. Refuses set xs f))
refuses_bytes told set e bytes whole refuses = some_weaker (said e) _ _ (λ f r. (bytes, whole, r)) refuses

-- a line that was handed out is refused
pub refuses_line : (told : Told) (set : ModeSet) (c : Checker) (e : Refused) (old new : ReadLines) → Follows told set c old → Hands told old new → IsOf told new → ((rest : List (List ℕ)) → Refutes set e (leads set c (new.line ∷ rest))) →
    IfSome (said e) (λ f. OfBytes told (λ xs. Refuses set xs f))
refuses_line told set c e old new follows hands of_file refutes =
    let left = left_there told new of_file hands.there in
    let one = hands.first left.0 left.1 in
    let so = follows (new.line ++ left.0) one.0 in
    refuses_bytes told set e so.0 so.1 (refuses_from set so.0 _ e (so.2 ∙ ap (leads set c) one.1) (refutes (lines left.0)))

-- the end is refused
pub refuses_end : (told : Told) (set : ModeSet) (c : Checker) (e : Refused) (reader : ReadLines) → Follows told set c reader → IsLeft told reader [] → Refutes set e (leads set c []) → IfSome (said e) (λ f. OfBytes told (λ xs. Refuses set xs f))
refuses_end told set c e reader follows left refutes =
    let so = follows [] left in
    refuses_bytes told set e so.0 so.1 (refuses_from set so.0 _ e so.2 refutes)

-- a line that is too long has no form
long_has_none : (end : ℕ) (text : List ℕ) → longest < length text → line_item end text ≡ None
long_has_none end text long = cond-false _ _ _ (lt-leb (length text) longest long)

long_unread : (end : ℕ) (line : List ℕ) → longest < text_len line → line_read end line ≡ None
long_unread end line long = by_feed (without_feed line) refl
  where
    by_feed : (o : Option (List ℕ)) → without_feed line ≡ o → line_read end line ≡ None
    by_feed None e = ap (option_and_then (line_item end)) e
    by_feed (Some text) e = ap (option_and_then (line_item end)) e ∙ long_has_none end text (omega (arith, long, ap (λ (o : Option (List ℕ)). length (unwrap_or o line)) e))

-- a line that is too long is refused
pub refuses_long : (told : Told) (set : ModeSet) (c : Checker) (old new : ReadLines) → Follows told set c old → IsReady set c → old.most ≡ longest → IsLong told old new → IsOf told new →
    IfSome (said (refused.Grammar c.line)) (λ f. OfBytes told (λ xs. Refuses set xs f))
refuses_long told set c old new follows ready most long of_file =
    let left = left_there told new of_file long.there in
    let one = long.first left.0 left.1 in
    let so = follows left.0 one.0 in
    let end = c.place + length one.1 in
    refuses_bytes told set (refused.Grammar c.line) so.0 so.1
    (refuses_from set so.0 _ (refused.Grammar c.line) (so.2 ∙ ap (leads set c) one.3)
    (line_refutes set c one.1 one.2 ready (long_unread end one.1 (omega (arith, one.4, most)))))

-- the end is accepted
pub accepts_end : (told : Told) (set : ModeSet) (c : Checker) (reader : ReadLines) (plans : List (Option Schedule)) → Follows told set c reader → IsLeft told reader [] →
    ((text : List ℕ) → read_document (doc_modes set) (items_of text) ≡ leads set c [] → Accepts set text plans) → OfBytes told (λ bytes. Accepts set bytes plans)
accepts_end told set c reader plans follows left accepts =
    let so = follows [] left in
    (so.0, so.1, accepts so.0 so.2)
