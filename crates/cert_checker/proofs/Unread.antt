-- A line without a form is refused at each place, and so is an end of the document before its last line
use Rattle.std.proofs.Common.{◌≡◌, ℕ, ◌+◌, ◌-◌, ◌<◌, ◌≤◌, ⊎_elim, List, [], ◌∷◌, length, get_or, drop, Err, refl, sym, ap, subst, ◌∙◌, arith, append-nil}
use Rattle.std.specs.Prelude.{Option, None, IfSome}
use Rattle.std.proofs.lemmas.Bool.{cases_lt}
use Rattle.app_graph.specs.declared.mode_set.ModeSet.{ModeSet}
use Rattle.sched_model.specs.PlainMode.{most_rounds}
use Rattle.sched_model.specs.ConstraintProblem.{decisions}
use Rattle.sched_model.specs.declared.schedule.Schedule.{Schedule}
use Rattle.ttw_text.specs.Lines.{lines}
use Rattle.proof_tree.specs.Items.{Item}
use Rattle.proof_tree.specs.Accepting.{DocMode, doc_modes, AcceptedFor, items_of, IsPlan}
use Rattle.proof_tree.specs.TreeLines.{Items}
use Rattle.proof_tree.specs.Reading.{Grammar, Place, ◌>>=◌, Reading, next_item, counts_at, tree_at, starts_at, task_at, message_at, table_at, mode_line, due, after, is_head, is_end, behind_head, read_document}
use Rattle.proof_tree.specs.Refusing.{RefusedFrom, Refuses}
use Rattle.proof_tree.proofs.DocumentReading.{document_is}
use Rattle.cert_checker.specs.declared.refused.Refused.{Refused}
use Rattle.cert_checker.specs.declared.refused.Refused.TheVariants as refused
use Rattle.cert_checker.specs.declared.draft.Draft.{Draft}
use Rattle.cert_checker.specs.declared.counts.Inside.{Inside}
use Rattle.cert_checker.specs.declared.counts.Inside.TheVariants.{Count, Node, Starts, Rest}
use Rattle.cert_checker.specs.declared.stages.Stage.{Stage}
use Rattle.cert_checker.specs.declared.stages.Stage.TheVariants.{Head, Mode, Within, Nothing}
use Rattle.cert_checker.specs.DocumentLines.{line_read, items_left}
use Rattle.cert_checker.specs.DocumentStages.{stage_due, document_due, FrontRight, IsStage, Refutes, Halts}
use Rattle.cert_checker.specs.DraftReading.{doc_at, moments, draft_due, InHand}
use Rattle.cert_checker.specs.ModeReading.{IsInside, IsLeft, count_due, inside_due}
use Rattle.cert_checker.specs.TreeStack.{walk_beside}
use Rattle.cert_checker.proofs.Modes.{schedule_fails}
use Rattle.cert_checker.specs.Refusals.{said}
use Rattle.cert_checker.proofs.CutLines.{text_items}
use Rattle.cert_checker.proofs.Drafts.{task_fails, message_fails, table_fails}
use Rattle.cert_checker.proofs.DocumentLaws.{name_halts, end_halts, within_halts, halts_refutes, front_all, length-doc_modes, past_end}
use Rattle.cert_checker.proofs.Errors.{some_weaker}

abbrev here : ℕ → Items → Place
here line ls = record { line = line; rest = ls }

draft_unread : (d : DocMode) (s : Draft) (line : ℕ) (ls : Items) → InHand d s → IsLeft s → next_item ls ≡ None → draft_due d s (here line ls) ≡ Err (Grammar line)
draft_unread d s line ls hand left e =
    let starts = s.starts.items in
    let ts = s.tasks.items in
    let ms = s.messages.items in
    let bs = s.tables.items in
    let at = here line ls in
    let tasks : length s.task_names ≡ length d.tasks = ap (λ (l : List (List ℕ)). length l) hand.task_names in
    let messages : length s.message_names ≡ length d.messages = ap (λ (l : List (List ℕ)). length l) hand.message_names in
    ⊎_elim
    (λ (lt : length ts < length d.tasks). task_fails d starts ts ms bs at (get_or d.tasks (length ts) []) (Grammar line) lt refl (ap (task_at (get_or d.tasks (length ts) []) at) e))
    (λ (done : length d.tasks ≤ length ts).
    ⊎_elim
    (λ (lt : length ms < length d.messages). message_fails d starts ts ms bs at (get_or d.messages (length ms) []) (Grammar line) done lt refl (ap (message_at (get_or d.messages (length ms) []) at) e))
    (λ (gone : length d.messages ≤ length ms).
    let more : length bs < length starts =
    ⊎_elim (λ (a : length ts < length s.task_names). absurd (omega (arith, a, done, tasks)))
    (λ b. ⊎_elim (λ (m : length ms < length s.message_names). absurd (omega (arith, m, gone, messages))) (λ (t : length bs < length starts). t) b)
    left in
    table_fails d starts ts ms bs at (length bs + 1) (Grammar line) done gone more refl (ap (table_at d (length bs + 1) at) e))
    (cases_lt (length ms) (length d.messages)))
    (cases_lt (length ts) (length d.tasks))

inside_unread : (o : ℕ) (d : DocMode) (inside : Inside) (line : ℕ) (ls : Items) → IsInside d inside → next_item ls ≡ None → inside_due o d inside (here line ls) ≡ Err (Grammar line)
inside_unread o d (Count r) line ls is e = ap (λ (i : Option Item). counts_at o d (most_rounds d.mode + 1 - r) r (here line ls) i) e
inside_unread o d (Node w) line ls is e =
    ap (λ (i : Option Item). (tree_at o w.problem.mode w.problem.rounds (length (decisions w.problem.mode) - length w.prefix.items) w.prefix.items (here line ls) i
    >>= λ x. walk_beside o w x.1) >>= λ x. count_due o d (w.problem.rounds + 1) x.1) e
inside_unread o d (Starts r) line ls is e = schedule_fails d r (here line ls) (Grammar line) (ap (λ (i : Option Item). moments (starts_at r (here line ls) i)) e)
inside_unread o d (Rest s) line ls is e = draft_unread d s line ls is.0 is.1 e

-- where a line is due, one without a form and the document's end are refused
pub unread_halts : (set : ModeSet) (plans : List (Option Schedule)) (stage : Stage) (line : ℕ) (ls : Items) → IsStage set plans stage → next_item ls ≡ None → (stage ≡ Nothing → (item : Option Item) × (rest : Items) × (ls ≡ item ∷ rest))
    → Halts (refused.Grammar line) (stage_due set (length plans) stage (here line ls))
unread_halts set plans Head line ls is e end = ap (λ (i : Option Item). behind_head (due (is_head i) (Grammar line) tt (after (here line ls))) (doc_modes set)) e
unread_halts set plans Mode line ls is e end =
    ⊎_elim
    (λ (lt : length plans < length set.modes). name_halts set (length plans) (here line ls) (refused.Grammar line) lt (ap (mode_line (doc_at set (length plans)) (here line ls)) e))
    (λ (ge : length set.modes ≤ length plans). end_halts set (length plans) (here line ls) (refused.Grammar line) ge (ap (λ (i : Option Item). due (is_end i) (Grammar line) tt (after (here line ls))) e))
    (cases_lt (length plans) (length set.modes))
unread_halts set plans (Within inside) line ls is e end =
    within_halts set (length plans) inside (here line ls) (refused.Grammar line) (inside_unread (length plans) (doc_at set (length plans)) inside line ls is.1 e)
unread_halts set plans Nothing line ls is e end =
    let w = end refl in
    ap (λ (l : Items). stage_due set (length plans) Nothing (here line l)) w.2 ∙ past_end set (length plans) line w.0 w.1

-- ---- from a document's lines to its answer

pub begins : (set : ModeSet) (text : List ℕ) (plans : List (Option Schedule)) → plans ≡ [] → read_document (doc_modes set) (items_of text) ≡ document_due set plans Head (here 1 (items_left 0 (lines text)))
begins set text plans e =
    ap (λ (items : Items). read_document (doc_modes set) items) (text_items text)
    ∙ sym (ap (λ (p : List (Option Schedule)). document_due set p Head (here 1 (items_left 0 (lines text)))) e)

-- what refutes what is left of a document refuses it
pub refuses_from : (set : ModeSet) (text : List ℕ) (whole : Reading) (e : Refused) → read_document (doc_modes set) (items_of text) ≡ whole → Refutes set e whole → IfSome (said e) (λ f. Refuses set text f)
refuses_from set text whole e goes refutes =
    some_weaker (said e) _ _ (λ f r. subst (λ (x : Reading). RefusedFrom 0 (doc_modes set) x.plans x.ended f) (sym goes) r) refutes

pub unread_refuses : (set : ModeSet) (text : List ℕ) (plans : List (Option Schedule)) (stage : Stage) (line : ℕ) (ls : Items) → read_document (doc_modes set) (items_of text) ≡ document_due set plans stage (here line ls)
    → FrontRight (doc_modes set) plans → IsStage set plans stage → next_item ls ≡ None → (stage ≡ Nothing → (item : Option Item) × (rest : Items) × (ls ≡ item ∷ rest)) → Refuses set text (Grammar line)
unread_refuses set text plans stage line ls goes right is e end =
    refuses_from set text (document_due set plans stage (here line ls)) (refused.Grammar line) goes
    (halts_refutes set plans stage (here line ls) (refused.Grammar line) right (unread_halts set plans stage line ls is e end))

-- a document of which nothing is left is accepted with its plans
pub accepts_from : (set : ModeSet) (text : List ℕ) (plans : List (Option Schedule)) (stage : Stage) (line : ℕ) (ls : Items) → read_document (doc_modes set) (items_of text) ≡ document_due set plans stage (here line ls)
    → FrontRight (doc_modes set) plans → IsStage set plans stage → stage ≡ Nothing → ls ≡ [] → AcceptedFor (doc_modes set) text plans
accepts_from set text plans stage line ls goes right is end none =
    let items = items_of text in
    let read = read_document (doc_modes set) items in
    let whole : read ≡ document_due set plans Nothing (here line []) =
    goes ∙ ap (λ (s : Stage). document_due set plans s (here line ls)) end ∙ ap (λ (l : Items). document_due set plans Nothing (here line l)) none in
    let told = document_is (doc_modes set) items (here line []) (ap (λ (r : Reading). r.ended) whole) in
    let all : length plans ≡ length set.modes = subst (IsStage set plans) end is in
    record {
      told = subst (λ (p : List (Option Schedule)). IsPlan (doc_modes set) p items) (ap (λ (r : Reading). r.plans) whole ∙ append-nil plans) told;
      right = front_all (doc_modes set) plans right (omega (arith, all, length-doc_modes set));
    }

-- the line that is cut off, and what is left behind it
pub line_cut : (text : List ℕ) (from next : ℕ) (line : List ℕ) (item : Option Item) → lines (drop from text) ≡ line ∷ lines (drop next text) → next ≡ from + length line → line_read next line ≡ item
    → items_left from (lines (drop from text)) ≡ item ∷ items_left next (lines (drop next text))
line_cut text from next line item el en ei =
    ap (items_left from) el
    ∙ ap (λ n. line_read n line ∷ items_left n (lines (drop next text))) (sym en)
    ∙ ap (λ (o : Option Item). o ∷ items_left next (lines (drop next text))) ei
