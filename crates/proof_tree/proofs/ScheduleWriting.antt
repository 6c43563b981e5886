-- What stands of a schedule is read.
use Rattle.std.proofs.Common.{◌≡◌, ℕ, ◌+◌, true, List, [], ◌∷◌, length, Some, Ok, refl, sym, subst, eq-eqb}
use Rattle.std.specs.Str.{bytes_eq}
use Rattle.std.proofs.lemmas.Slice.Eq.{bytes_eq-Decides}
use Rattle.sched_model.specs.Numbers.{below}
use Rattle.proof_tree.specs.Items.{Start}
use Rattle.proof_tree.specs.TreeLines.{Items}
use Rattle.proof_tree.specs.Accepting.{DocMode, EachIs, OneTask, OneMessage, OneTable, Told, schedule_of, Tells}
use Rattle.proof_tree.specs.Reading.{Place, Read, next_item, each, starts_at, task_at, message_at, table_at, schedule}
use Rattle.proof_tree.proofs.TreeReading.{place}

-- what a reader gives, up to the rest
abbrev pub Reads : {B : Type 0} → Read B → B → Items → Type 0
Reads {B} r b rest = (to : Place) × (r ≡ Ok (b, to)) × (to.rest ≡ rest)

pub each_reads : {A B : Type 0} (R : A → Place → Read B) (V : A → B → Items → Items → Type 0) → ((a : A) (b : B) (at : Place) (rest : Items) → V a b at.rest rest → Reads (R a at) b rest)
    → (as' : List A) (bs : List B) (at : Place) (rest : Items) → EachIs V as' bs at.rest rest → Reads (each R as' at) bs rest
each_reads R V t [] [] at rest v = (at, refl, v)
each_reads R V t [] (b ∷ bs) at rest v = absurd v
each_reads R V t (a ∷ as') [] at rest v = absurd v
each_reads R V t (a ∷ as') (b ∷ bs) at rest v =
    let one = t a b at v.0 v.1 in
    let others = each_reads R V t as' bs one.0 rest (subst (λ (l : Items). EachIs V as' bs l rest) (sym one.2) v.2) in
    (others.0, rw (one.1, others.1) refl, others.2)

pub same : (name : List ℕ) → bytes_eq name name ≡ true
same name = (bytes_eq-Decides name name).1 refl

task_reads : (name : List ℕ) (o : ℕ) (at : Place) (rest : Items) → OneTask name o at.rest rest → Reads (task_at name at (next_item at.rest)) o rest
task_reads name o at rest e = (place (at.line + 1) rest, subst (λ (l : Items). task_at name (place at.line l) (next_item l) ≡ Ok (o, place (at.line + 1) rest)) (sym e) (rw (same name) refl), refl)

message_reads : (name : List ℕ) (w : ℕ × ℕ) (at : Place) (rest : Items) → OneMessage name w at.rest rest → Reads (message_at name at (next_item at.rest)) w rest
message_reads name w at rest e = (place (at.line + 1) rest, subst (λ (l : Items). message_at name (place at.line l) (next_item l) ≡ Ok (w, place (at.line + 1) rest)) (sym e) (rw (same name) refl), refl)

table_reads : (d : DocMode) (j : ℕ) (ns : List ℕ) (at : Place) (rest : Items) → OneTable d j ns at.rest rest → Reads (table_at d (j + 1) at (next_item at.rest)) ns rest
table_reads d j ns at rest v =
    (place (at.line + 1) rest, subst (λ (l : Items). table_at d (j + 1) (place at.line l) (next_item l) ≡ Ok (ns, place (at.line + 1) rest)) (sym v.3) (rw (eq-eqb (j + 1) (j + 1) refl, v.1, v.2) refl), refl)

starts_reads : (r : ℕ) (ns : List ℕ) (at : Place) (rest : Items) → length ns ≡ r → at.rest ≡ Some (Start ns) ∷ rest → Reads (starts_at r at (next_item at.rest)) ns rest
starts_reads r ns at rest l e =
    (place (at.line + 1) rest, subst (λ (i : Items). starts_at r (place at.line i) (next_item i) ≡ Ok (ns, place (at.line + 1) rest)) (sym e) (rw (eq-eqb (length ns) r l) refl), refl)

pub schedule_reads : (d : DocMode) (r : ℕ) (t : Told) (at : Place) (rest : Items) → Tells d r t at.rest rest → Reads (schedule d r at) (Some (schedule_of t)) rest
schedule_reads d r t at rest tells =
    let a = starts_reads r t.starts at tells.first tells.counted tells.starts in
    let b = each_reads (λ name to. task_at name to (next_item to.rest)) OneTask task_reads d.tasks t.tasks a.0 tells.second (subst (λ (l : Items). EachIs OneTask d.tasks t.tasks l tells.second) (sym a.2) tells.tasks) in
    let c = each_reads (λ name to. message_at name to (next_item to.rest)) OneMessage message_reads d.messages t.messages b.0 tells.third (subst (λ (l : Items). EachIs OneMessage d.messages t.messages l tells.third) (sym b.2) tells.messages) in
    let e = each_reads (λ i to. table_at d (i + 1) to (next_item to.rest)) (OneTable d) (table_reads d) (below r) t.tables c.0 rest (subst (λ (l : Items). EachIs (OneTable d) (below r) t.tables l rest) (sym c.2) tells.tables) in
    (e.0, rw (a.1, b.1, c.1, e.1) refl, e.2)
