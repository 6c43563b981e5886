-- The inputs of a start
use Rattle.std.proofs.Common.{◌≡◌, ℕ, zero, suc, ◌+◌, ◌<◌, ◌≤◌, nat_eq, List, [], ◌∷◌, ◌++◌, length, get_or, set, fold, Option, Some, None, IfSome, ℤ, refl, ap, sym, ◌∙◌, subst, arith, length-append, append_assoc, add-one, drop, drop-cons}
use Rattle.std.specs.List.{AllByRecursion, AllPairs}
use Rattle.std.proofs.lemmas.Bool.{eqb-true}
use Rattle.std.proofs.lemmas.List.{length-map, length-replicate}
use Rattle.std.proofs.lemmas.List.Elements.{All-set, recursion_from_All}
use Rattle.runtime_model.specs.Inputs.{given}
use Rattle.node_tables.specs.declared.tables.OwnTask.{OwnTask}
use Rattle.node_tables.specs.declared.tables.OwnMessage.{OwnMessage}
use Rattle.node_core.specs.Lookup.{consumer_place, own_message, own_task}
use Rattle.node_core.specs.Registers.{InRow, RegistersSeen, row_of, inputs_at, inputs_from, inputs_of, emptied_at, emptied_for}
use Rattle.node_core.specs.Running.{RunningNode, mode_of}
use Rattle.node_core.specs.Conditions.{IsOwnAndDue, MayStart}
use Rattle.node_core.specs.Fits.{RowFits, InsFit, IsBefore, NodeFits, count_at, input_count}
use Rattle.node_core.proofs.NodeLemmas.{mode_fits}
use Rattle.node_core.proofs.SearchLemmas.{later, rest_ascends, each_is_found}
use Rattle.node_core.proofs.MessageLemmas.{found_is, found_passes, row_written, no_row_fits}

-- ---- messages in order

abbrev number_of : OwnMessage → ℕ
number_of m = m.number

-- ---- the task

due_task : (tasks : List OwnTask) (task : ℕ) (tick : ℤ) (o : Option OwnTask) → own_task tasks task ≡ o → IsOwnAndDue tick o → AllByRecursion (λ t. t.number < 1024) tasks → task < 1024
due_task tasks task tick None e due fits = absurd due
due_task tasks task tick (Some t) e due fits =
    let low : t.number < 1024 = found_is (λ (x : OwnTask). nat_eq x.number task) (λ x. x.number < 1024) tasks t fits e in
    let same = eqb-true t.number task (found_passes (λ (x : OwnTask). nat_eq x.number task) tasks t e) in
    subst (λ (k : ℕ). k < 1024) same low

-- a task that may start has a number below 1,024
pub task_known : (n : RunningNode) (task : ℕ) → NodeFits n → MayStart n task → task < 1024
task_known n task fits may =
    due_task (mode_of n).tasks task n.tick (own_task (mode_of n).tasks task) refl may.due
    (recursion_from_All (λ t. t.number < 1024) (mode_of n).tasks (mode_fits n.table fits.table n.mode fits.spot.mode_known).tasks)

-- ---- how many inputs there are

-- the register at a place fits, which is empty past the row's end
register_fits : (n : ℕ) (row : InRow) (c : ℕ) → RowFits n row → IfSome (get_or row c None) (λ xs. length xs ≡ n)
register_fits n [] c fits = tt
register_fits n (r ∷ row) zero fits = fits 0 None (omega arith)
register_fits n (r ∷ row) (suc c) fits = register_fits n row c (λ k d l. fits (suc k) d (omega (arith, l)))

length-given : (n : ℕ) (r : Option (List ℤ)) → IfSome r (λ xs. length xs ≡ n) → length (given n r) ≡ n
length-given n None fits = length-replicate {A = Option ℤ} n None
length-given n (Some xs) fits = length-map xs (λ (x : ℤ). Some x) ∙ fits

length-inputs_at : (ins : List InRow) (m : OwnMessage) (o : Option ℕ) → RowFits (length m.producers) (row_of ins m.number) → length (inputs_at ins m o) ≡ count_at m o
length-inputs_at ins m None fits = refl
length-inputs_at ins m (Some c) fits = length-given (length m.producers) (get_or (row_of ins m.number) c None) (register_fits (length m.producers) (row_of ins m.number) c fits)

-- the rows of these messages fit
abbrev RowsFit : List InRow → List OwnMessage → Type 0
RowsFit ins messages = AllByRecursion (λ m. RowFits (length m.producers) (row_of ins m.number)) messages

length-inputs_of : (ins : List InRow) (task : ℕ) (messages : List OwnMessage) → RowsFit ins messages → length (inputs_of ins task messages) ≡ input_count task messages
length-inputs_of ins task [] fits = refl
length-inputs_of ins task (m ∷ messages) fits =
    omega (arith, length-append (inputs_at ins m (consumer_place task m)) (inputs_of ins task messages), length-inputs_at ins m (consumer_place task m) fits.0, length-inputs_of ins task messages fits.1)

rows_fit : (all : List OwnMessage) (ins : List InRow) (messages : List OwnMessage) → InsFit all ins → AllByRecursion (λ x. own_message all x.number ≡ Some x) messages → RowsFit ins messages
rows_fit all ins [] fits found = tt
rows_fit all ins (m ∷ messages) fits found = (fits m found.0, rows_fit all ins messages fits found.1)

-- no task takes more than 64 inputs
pub few_inputs : (n : RunningNode) (task : ℕ) (messages : List OwnMessage) → NodeFits n → messages ≡ (mode_of n).messages → length (inputs_of n.registers.ins task messages) ≤ 64
few_inputs n task messages fits is =
    let m = mode_fits n.table fits.table n.mode fits.spot.mode_known in
    let all = (mode_of n).messages in
    let rows = rows_fit all n.registers.ins all fits.ins (each_is_found number_of all m.ascending) in
    let count = length-inputs_of n.registers.ins task all rows in
    let few = m.inputs task in
    subst (λ (xs : List OwnMessage). length (inputs_of n.registers.ins task xs) ≤ 64) (sym is) (omega (arith, count, few))

-- ---- what is left

emptied_row_fits : (n : ℕ) (row : InRow) (c : ℕ) → RowFits n row → RowFits n (set row c None)
emptied_row_fits n row c fits = All-set (λ (r : Option (List ℤ)). IfSome r (λ xs. length xs ≡ n)) row c None tt fits

emptied_at_fits : (all : List OwnMessage) (ins : List InRow) (m : OwnMessage) (o : Option ℕ) → InsFit all ins → InsFit all (emptied_at ins m o)
emptied_at_fits all ins m None fits x e = fits x e
emptied_at_fits all ins m (Some c) fits x e =
    row_written (RowFits (length x.producers)) ins m.number x.number (set (row_of ins m.number) c None)
    (λ same. subst (λ (k : ℕ). RowFits (length x.producers) (set (row_of ins k) c None)) (sym same) (emptied_row_fits (length x.producers) (row_of ins x.number) c (fits x e)))
    (fits x e)
    (no_row_fits (length x.producers))

-- registers fit after a start
pub taken_fit : (all : List OwnMessage) (task : ℕ) (ins : List InRow) (messages : List OwnMessage) → InsFit all ins → InsFit all (fold (emptied_for task) ins messages)
taken_fit all task ins [] fits = fits
taken_fit all task ins (m ∷ messages) fits = taken_fit all task (emptied_for task ins m) messages (emptied_at_fits all ins m (consumer_place task m) fits)

-- ---- a loop that takes them

-- a row that isn't written is as it was
other_row : (ins : List InRow) (i j : ℕ) (row : InRow) → i < j → row_of (set ins i row) j ≡ row_of ins j
other_row [] i j row l = refl
other_row (r ∷ rs) zero zero row l = absurd (omega (arith, l))
other_row (r ∷ rs) zero (suc j) row l = refl
other_row (r ∷ rs) (suc i) zero row l = absurd (omega (arith, l))
other_row (r ∷ rs) (suc i) (suc j) row l = other_row rs i j row (omega (arith, l))

row_kept : (ins : List InRow) (m : OwnMessage) (o : Option ℕ) (j : ℕ) → m.number < j → row_of (emptied_at ins m o) j ≡ row_of ins j
row_kept ins m None j l = refl
row_kept ins m (Some c) j l = other_row ins m.number j (set (row_of ins m.number) c None) l

inputs_by_row : (ins more : List InRow) (m : OwnMessage) (o : Option ℕ) → row_of more m.number ≡ row_of ins m.number → inputs_at more m o ≡ inputs_at ins m o
inputs_by_row ins more m None e = refl
inputs_by_row ins more m (Some c) e = ap (λ (row : InRow). given (length m.producers) (get_or row c None)) e

-- taking the register of a message leaves the inputs of later ones
pub later_kept : (ins : List InRow) (task : ℕ) (m : OwnMessage) (rest : List OwnMessage) → AllByRecursion (IsBefore m) rest → inputs_of (emptied_for task ins m) task rest ≡ inputs_of ins task rest
later_kept ins task m [] l = refl
later_kept ins task m (x ∷ rest) l =
    ap (λ (xs : List (Option ℤ)). xs ++ inputs_of (emptied_for task ins m) task rest) (inputs_by_row ins (emptied_for task ins m) x (consumer_place task x) (row_kept ins m (consumer_place task m) x.number l.0))
    ∙ ap (λ (ys : List (Option ℤ)). inputs_at ins x (consumer_place task x) ++ ys) (later_kept ins task m rest l.1)

ascends_from : (messages : List OwnMessage) (i : ℕ) → AllPairs IsBefore messages → AllPairs IsBefore (drop i messages)
ascends_from messages zero up = up
ascends_from [] (suc i) up = up
ascends_from (m ∷ messages) (suc i) up = ascends_from messages i (rest_ascends number_of m messages up)

-- one more message
pub taken_more : (task : ℕ) (start now new : RegistersSeen) (inputs more : List (Option ℤ)) (messages : List OwnMessage) (i : ℕ) (m : OwnMessage)
    → i < length messages → m ≡ get_or messages i m → AllPairs IsBefore messages
    → inputs ++ inputs_of now.ins task (drop i messages) ≡ inputs_of start.ins task messages
    → more ≡ inputs ++ inputs_from now.ins task m
    → new ≡ record now { ins = emptied_for task now.ins m }
    → more ++ inputs_of new.ins task (drop (i + 1) messages) ≡ inputs_of start.ins task messages
taken_more task start now new inputs more messages i m l is up so_far e f =
    let rest = drop (suc i) messages in
    let split : drop i messages ≡ m ∷ rest = drop-cons messages i m l ∙ ap (λ (x : OwnMessage). x ∷ rest) (sym is) in
    let after : AllByRecursion (IsBefore m) rest = later number_of m rest (subst (λ (xs : List OwnMessage). AllPairs IsBefore xs) split (ascends_from messages i up)) in
    let kept : inputs_of new.ins task rest ≡ inputs_of now.ins task rest = ap (λ (g : RegistersSeen). inputs_of g.ins task rest) f ∙ later_kept now.ins task m rest after in
    let joined : inputs ++ (inputs_from now.ins task m ++ inputs_of now.ins task rest) ≡ inputs_of start.ins task messages = subst (λ (xs : List OwnMessage). inputs ++ inputs_of now.ins task xs ≡ inputs_of start.ins task messages) split so_far in
    rw (add-one, e, kept, append_assoc) joined
