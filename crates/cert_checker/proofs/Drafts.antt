-- What is still to be read of a schedule, as its lines are read
use Rattle.std.proofs.Common.{◌≡◌, ℕ, suc, ◌+◌, ◌<◌, ◌≤◌, List, [], ◌∷◌, ◌++◌, length, drop, drop-cons, get_or, map, All, ℤ, pos, Ok, Err, refl, sym, ap, subst, ◌∙◌, arith, append_assoc, append-nil, length-append}
use Rattle.std.specs.Prelude.{Option, Some}
use Rattle.std.proofs.lemmas.List.{drop_all}
use Rattle.std.proofs.lemmas.List.Elements.{All-append, All-cons, All-nil}
use Rattle.sched_model.specs.Numbers.{below}
use Rattle.sched_model.specs.RightSchedule.{HasShape}
use Rattle.sched_model.specs.TimeLimits.{HasTimes}
use Rattle.sched_model.specs.declared.schedule.Schedule.{Schedule}
use Rattle.sched_model.proofs.Lists.{length-below, get_or-below}
use Rattle.proof_tree.specs.Accepting.{DocMode}
use Rattle.proof_tree.specs.Reading.{Refusal, Place, Read, ◌>>=◌, next_item, each, task_at, message_at, table_at}
use Rattle.cert_checker.specs.declared.draft.Draft.{Draft}
use Rattle.cert_checker.specs.declared.counts.Next.TheVariants.{Plan}
use Rattle.cert_checker.specs.TreeStack.{behind_line}
use Rattle.cert_checker.specs.ModeReading.{Follows}
use Rattle.cert_checker.specs.DraftReading.{moments_of, tables_due, messages_due, tasks_due, draft_due, InHand, IsWhole}
use Rattle.cert_checker.proofs.Besides.{bind_assoc, bind_same}

-- ---- one after another

each_taken : {A B C : Type 0} (R : A → Place → Read B) (xs : List A) (n : ℕ) (d a : A) (at to : Place) (b : B) (K : List B × Place → Read C) → n < length xs → get_or xs n d ≡ a → R a at ≡ Ok (b, to)
    → (each R (drop n xs) at >>= K) ≡ (each R (drop (n + 1) xs) to >>= λ y. K (b ∷ y.0, y.1))
each_taken {A} {B} R xs n d a at to b K l e r =
    let next : suc n ≡ n + 1 = omega arith in
    ap (λ (ys : List A). each R ys at >>= K) (drop-cons xs n d l)
    ∙ ap (λ (x : A). (R x at >>= λ z. each R (drop (suc n) xs) z.1 >>= λ y. Ok (z.0 ∷ y.0, y.1)) >>= K) e
    ∙ ap (λ (z : Read B). (z >>= λ z. each R (drop (suc n) xs) z.1 >>= λ y. Ok (z.0 ∷ y.0, y.1)) >>= K) r
    ∙ bind_assoc (each R (drop (suc n) xs) to) (λ y. Ok (b ∷ y.0, y.1)) K
    ∙ ap (λ k. each R (drop k xs) to >>= λ y. K (b ∷ y.0, y.1)) next

each_fails : {A B C : Type 0} (R : A → Place → Read B) (xs : List A) (n : ℕ) (d a : A) (at : Place) (f : Refusal) (K : List B × Place → Read C) → n < length xs → get_or xs n d ≡ a → R a at ≡ Err f
    → (each R (drop n xs) at >>= K) ≡ Err f
each_fails {A} {B} R xs n d a at f K l e r =
    ap (λ (ys : List A). each R ys at >>= K) (drop-cons xs n d l)
    ∙ ap (λ (x : A). (R x at >>= λ z. each R (drop (suc n) xs) z.1 >>= λ y. Ok (z.0 ∷ y.0, y.1)) >>= K) e
    ∙ ap (λ (z : Read B). (z >>= λ z. each R (drop (suc n) xs) z.1 >>= λ y. Ok (z.0 ∷ y.0, y.1)) >>= K) r

each_done : {A B C : Type 0} (R : A → Place → Read B) (xs : List A) (n : ℕ) (at : Place) (K : List B × Place → Read C) → length xs ≤ n → (each R (drop n xs) at >>= K) ≡ K ([], at)
each_done {A} R xs n at K l = ap (λ (ys : List A). each R ys at >>= K) (drop_all n xs l)

pub one_on : {A : Type 0} (xs : List A) (x : A) → length (xs ++ x ∷ []) ≡ length xs + 1
one_on xs x = length-append xs (x ∷ [])

-- ---- tasks

pub task_taken : (d : DocMode) (starts ts ts' : List ℤ) (ms : List (ℤ × ℤ)) (bs : List (List ℕ)) (at to : Place) (name : List ℕ) (o : ℕ) → length ts < length d.tasks → get_or d.tasks (length ts) [] ≡ name
    → task_at name at (next_item at.rest) ≡ Ok (o, to) → ts' ≡ ts ++ pos o ∷ [] → tasks_due d starts ts ms bs at ≡ tasks_due d starts ts' ms bs to
task_taken d starts ts ts' ms bs at to name o l e r et =
    let R : List ℕ → Place → Read ℕ = λ n p. task_at n p (next_item p.rest) in
    let after : List ℤ → ℕ → Read (Option Schedule) = λ front k. each R (drop k d.tasks) to >>= λ x. messages_due d starts (front ++ map pos x.0) ms bs x.1 in
    each_taken R d.tasks (length ts) [] name at to o (λ x. messages_due d starts (ts ++ map pos x.0) ms bs x.1) l e r
    ∙ bind_same (each R (drop (length ts + 1) d.tasks) to) _ _ (λ x. ap (λ (l : List ℤ). messages_due d starts l ms bs x.1) (sym (append_assoc ts (pos o ∷ []) (map pos x.0))))
    ∙ ap (λ k. after (ts ++ pos o ∷ []) k) (sym (one_on ts (pos o)))
    ∙ ap (λ (l : List ℤ). after l (length l)) (sym et)

pub task_fails : (d : DocMode) (starts ts : List ℤ) (ms : List (ℤ × ℤ)) (bs : List (List ℕ)) (at : Place) (name : List ℕ) (f : Refusal) → length ts < length d.tasks → get_or d.tasks (length ts) [] ≡ name
    → task_at name at (next_item at.rest) ≡ Err f → tasks_due d starts ts ms bs at ≡ Err f
task_fails d starts ts ms bs at name f l e r =
    each_fails (λ n p. task_at n p (next_item p.rest)) d.tasks (length ts) [] name at f (λ x. messages_due d starts (ts ++ map pos x.0) ms bs x.1) l e r

tasks_done : (d : DocMode) (starts ts : List ℤ) (ms : List (ℤ × ℤ)) (bs : List (List ℕ)) (at : Place) → length d.tasks ≤ length ts → tasks_due d starts ts ms bs at ≡ messages_due d starts ts ms bs at
tasks_done d starts ts ms bs at l =
    each_done (λ n p. task_at n p (next_item p.rest)) d.tasks (length ts) at (λ x. messages_due d starts (ts ++ map pos x.0) ms bs x.1) l
    ∙ ap (λ (l : List ℤ). messages_due d starts l ms bs at) (append-nil ts)

-- ---- messages

message_goes : (d : DocMode) (starts ts : List ℤ) (ms ms' : List (ℤ × ℤ)) (bs : List (List ℕ)) (at to : Place) (name : List ℕ) (w : ℕ × ℕ) → length ms < length d.messages → get_or d.messages (length ms) [] ≡ name
    → message_at name at (next_item at.rest) ≡ Ok (w, to) → ms' ≡ ms ++ moments_of w ∷ [] → messages_due d starts ts ms bs at ≡ messages_due d starts ts ms' bs to
message_goes d starts ts ms ms' bs at to name w l e r em =
    let R : List ℕ → Place → Read (ℕ × ℕ) = λ n p. message_at n p (next_item p.rest) in
    let after : List (ℤ × ℤ) → ℕ → Read (Option Schedule) = λ front k. each R (drop k d.messages) to >>= λ x. tables_due d starts ts (front ++ map moments_of x.0) bs x.1 in
    each_taken R d.messages (length ms) [] name at to w (λ x. tables_due d starts ts (ms ++ map moments_of x.0) bs x.1) l e r
    ∙ bind_same (each R (drop (length ms + 1) d.messages) to) _ _ (λ x. ap (λ (l : List (ℤ × ℤ)). tables_due d starts ts l bs x.1) (sym (append_assoc ms (moments_of w ∷ []) (map moments_of x.0))))
    ∙ ap (λ k. after (ms ++ moments_of w ∷ []) k) (sym (one_on ms (moments_of w)))
    ∙ ap (λ (l : List (ℤ × ℤ)). after l (length l)) (sym em)

pub message_taken : (d : DocMode) (starts ts : List ℤ) (ms ms' : List (ℤ × ℤ)) (bs : List (List ℕ)) (at to : Place) (name : List ℕ) (w : ℕ × ℕ) → length d.tasks ≤ length ts → length ms < length d.messages → get_or d.messages (length ms) [] ≡ name
    → message_at name at (next_item at.rest) ≡ Ok (w, to) → ms' ≡ ms ++ moments_of w ∷ [] → tasks_due d starts ts ms bs at ≡ tasks_due d starts ts ms' bs to
message_taken d starts ts ms ms' bs at to name w done l e r em =
    tasks_done d starts ts ms bs at done ∙ message_goes d starts ts ms ms' bs at to name w l e r em ∙ sym (tasks_done d starts ts ms' bs to done)

pub message_fails : (d : DocMode) (starts ts : List ℤ) (ms : List (ℤ × ℤ)) (bs : List (List ℕ)) (at : Place) (name : List ℕ) (f : Refusal) → length d.tasks ≤ length ts → length ms < length d.messages → get_or d.messages (length ms) [] ≡ name
    → message_at name at (next_item at.rest) ≡ Err f → tasks_due d starts ts ms bs at ≡ Err f
message_fails d starts ts ms bs at name f done l e r =
    tasks_done d starts ts ms bs at done
    ∙ each_fails (λ n p. message_at n p (next_item p.rest)) d.messages (length ms) [] name at f (λ x. tables_due d starts ts (ms ++ map moments_of x.0) bs x.1) l e r

messages_done : (d : DocMode) (starts ts : List ℤ) (ms : List (ℤ × ℤ)) (bs : List (List ℕ)) (at : Place) → length d.tasks ≤ length ts → length d.messages ≤ length ms → tasks_due d starts ts ms bs at ≡ tables_due d starts ts ms bs at
messages_done d starts ts ms bs at done l =
    tasks_done d starts ts ms bs at done
    ∙ each_done (λ n p. message_at n p (next_item p.rest)) d.messages (length ms) at (λ x. tables_due d starts ts (ms ++ map moments_of x.0) bs x.1) l
    ∙ ap (λ (l : List (ℤ × ℤ)). tables_due d starts ts l bs at) (append-nil ms)

-- ---- tables

table_goes : (d : DocMode) (starts ts : List ℤ) (ms : List (ℤ × ℤ)) (bs bs' : List (List ℕ)) (at to : Place) (j : ℕ) (table : List ℕ) → length bs < length starts → j ≡ length bs + 1
    → table_at d j at (next_item at.rest) ≡ Ok (table, to) → bs' ≡ bs ++ table ∷ [] → tables_due d starts ts ms bs at ≡ tables_due d starts ts ms bs' to
table_goes d starts ts ms bs bs' at to j table l ej r eb =
    let R : ℕ → Place → Read (List ℕ) = λ i p. table_at d (i + 1) p (next_item p.rest) in
    let rounds = below (length starts) in
    let many : length bs < length rounds = omega (arith, l, length-below (length starts)) in
    let after : List (List ℕ) → ℕ → Read (Option Schedule) = λ front k. each R (drop k rounds) to >>= λ x. Ok (Some (record { starts = starts; tasks = ts; messages = ms; tables = front ++ x.0 }), x.1) in
    each_taken R rounds (length bs) 0 (length bs) at to table (λ x. Ok (Some (record { starts = starts; tasks = ts; messages = ms; tables = bs ++ x.0 }), x.1)) many (get_or-below (length starts) (length bs) 0 l)
    (ap (λ i. table_at d i at (next_item at.rest)) (sym ej) ∙ r)
    ∙ bind_same (each R (drop (length bs + 1) rounds) to) _ _ (λ x. ap (λ (l : List (List ℕ)). Ok (Some (record { starts = starts; tasks = ts; messages = ms; tables = l }), x.1)) (sym (append_assoc bs (table ∷ []) x.0)))
    ∙ ap (λ k. after (bs ++ table ∷ []) k) (sym (one_on bs table))
    ∙ ap (λ (l : List (List ℕ)). after l (length l)) (sym eb)

pub table_taken : (d : DocMode) (starts ts : List ℤ) (ms : List (ℤ × ℤ)) (bs bs' : List (List ℕ)) (at to : Place) (j : ℕ) (table : List ℕ) → length d.tasks ≤ length ts → length d.messages ≤ length ms → length bs < length starts → j ≡ length bs + 1
    → table_at d j at (next_item at.rest) ≡ Ok (table, to) → bs' ≡ bs ++ table ∷ [] → tasks_due d starts ts ms bs at ≡ tasks_due d starts ts ms bs' to
table_taken d starts ts ms bs bs' at to j table done gone l ej r eb =
    messages_done d starts ts ms bs at done gone ∙ table_goes d starts ts ms bs bs' at to j table l ej r eb ∙ sym (messages_done d starts ts ms bs' to done gone)

pub table_fails : (d : DocMode) (starts ts : List ℤ) (ms : List (ℤ × ℤ)) (bs : List (List ℕ)) (at : Place) (j : ℕ) (f : Refusal) → length d.tasks ≤ length ts → length d.messages ≤ length ms → length bs < length starts → j ≡ length bs + 1
    → table_at d j at (next_item at.rest) ≡ Err f → tasks_due d starts ts ms bs at ≡ Err f
table_fails d starts ts ms bs at j f done gone l ej r =
    let rounds = below (length starts) in
    messages_done d starts ts ms bs at done gone
    ∙ each_fails (λ i p. table_at d (i + 1) p (next_item p.rest)) rounds (length bs) 0 (length bs) at f (λ x. Ok (Some (record { starts = starts; tasks = ts; messages = ms; tables = bs ++ x.0 }), x.1))
    (omega (arith, l, length-below (length starts))) (get_or-below (length starts) (length bs) 0 l) (ap (λ i. table_at d i at (next_item at.rest)) (sym ej) ∙ r)

-- ---- the whole

pub whole_due : (d : DocMode) (starts ts : List ℤ) (ms : List (ℤ × ℤ)) (bs : List (List ℕ)) (at : Place) → length d.tasks ≤ length ts → length d.messages ≤ length ms → length starts ≤ length bs
    → tasks_due d starts ts ms bs at ≡ Ok (Some (record { starts = starts; tasks = ts; messages = ms; tables = bs }), at)
whole_due d starts ts ms bs at done gone l =
    messages_done d starts ts ms bs at done gone
    ∙ each_done (λ i p. table_at d (i + 1) p (next_item p.rest)) (below (length starts)) (length bs) at (λ x. Ok (Some (record { starts = starts; tasks = ts; messages = ms; tables = bs ++ x.0 }), x.1)) (omega (arith, l, length-below (length starts)))
    ∙ ap (λ (l : List (List ℕ)). Ok (Some (record { starts = starts; tasks = ts; messages = ms; tables = l }), at)) (append-nil bs)

-- a list with one item more keeps what each item has
pub all_more : {X : Type 0} (P : X → Type 0) (xs ys : List X) (x : X) → All P xs → P x → ys ≡ xs ++ x ∷ [] → All P ys
all_more {X} P xs ys x all one e = subst (λ (l : List X). All P l) (sym e) (All-append P xs (x ∷ []) all (All-cons P x [] one (All-nil P)))

-- a draft of which all lines were read is a schedule of the mode's shape, and nothing more is read
pub whole_follows : (o line : ℕ) (d : DocMode) (s : Draft) (x : Schedule) → InHand d s → IsWhole d s → x.starts ≡ s.starts.items → x.tasks ≡ s.tasks.items → x.messages ≡ s.messages.items → x.tables ≡ s.tables.items
    → Follows o d line (λ rest. draft_due d s (behind_line line rest)) (Plan (Some x))
whole_follows o line d s x hand whole es et em eb =
    let y : Schedule = record { starts = s.starts.items; tasks = s.tasks.items; messages = s.messages.items; tables = s.tables.items } in
    let is : x ≡ y =
    ap (λ (l : List ℤ). record { starts = l; tasks = x.tasks; messages = x.messages; tables = x.tables }) es
    ∙ ap (λ (l : List ℤ). record { starts = s.starts.items; tasks = l; messages = x.messages; tables = x.tables }) et
    ∙ ap (λ (l : List (ℤ × ℤ)). record { starts = s.starts.items; tasks = s.tasks.items; messages = l; tables = x.tables }) em
    ∙ ap (λ (l : List (List ℕ)). record { starts = s.starts.items; tasks = s.tasks.items; messages = s.messages.items; tables = l }) eb in
    let shape : HasShape d.mode (length y.starts) y = record {
      some = hand.some;
      starts = refl;
      tables = whole.tables;
      tasks = whole.tasks ∙ hand.task_count;
      messages = whole.messages ∙ hand.message_count;
      numbers = hand.numbers;
    } in
    let times : HasTimes y = record { starts = hand.start_times; tasks = hand.task_times; messages = hand.message_times } in
    subst (λ (z : Schedule). Follows o d line (λ rest. draft_due d s (behind_line line rest)) (Plan (Some z))) (sym is)
    ((shape, times), λ rest. whole_due d s.starts.items s.tasks.items s.messages.items s.tables.items (behind_line line rest) (omega (arith, whole.tasks)) (omega (arith, whole.messages)) (omega (arith, whole.tables)))
