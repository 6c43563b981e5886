-- What is read of a schedule stands there.
use Rattle.std.proofs.Common.{◌≡◌, ℕ, ◌+◌, Bool, true, false, cond, eqb, List, [], ◌∷◌, length, map, Option, Some, None, Ok, Err, refl, sym, ap, subst}
use Rattle.std.specs.List.{list_all}
use Rattle.std.specs.Str.{bytes_eq}
use Rattle.std.proofs.lemmas.Bool.{eqb-true}
use Rattle.std.proofs.lemmas.Slice.Eq.{bytes_eq-Decides}
use Rattle.sched_model.specs.Numbers.{below}
use Rattle.sched_model.specs.declared.schedule.Schedule.{Schedule}
use Rattle.proof_tree.specs.Items.{Start, TaskAt, MessageAt, TableOf}
use Rattle.proof_tree.specs.TreeLines.{Items}
use Rattle.proof_tree.specs.Accepting.{DocMode, EachIs, OneTask, OneMessage, OneTable, Told, schedule_of, Tells, is_message, number_of}
use Rattle.proof_tree.specs.Reading.{Refusal, Grammar, Names, Place, Read, ◌>>=◌, next_item, each, due, starts_at, task_at, message_at, table_at, schedule}
use Rattle.proof_tree.proofs.TreeReading.{place, bind_ok, ok_is, refused}

pub each_is : {A B : Type 0} (R : A → Place → Read B) (V : A → B → Items → Items → Type 0) → ((a : A) (at : Place) (x : B × Place) → R a at ≡ Ok x → V a x.0 at.rest x.1.rest)
    → (bs : List A) (at : Place) (y : List B × Place) → each R bs at ≡ Ok y → EachIs V bs y.0 at.rest y.1.rest
each_is {A} {B} R V g [] at y e = subst (λ (z : List B × Place). EachIs V [] z.0 at.rest z.1.rest) (ok_is ([], at) y e) refl
each_is {A} {B} R V g (a ∷ bs) at y e =
    let b = bind_ok (R a at) (λ x. each R bs x.1 >>= λ z. Ok (x.0 ∷ z.0, z.1)) y e in
    let c = bind_ok (each R bs b.0.1) (λ z. Ok (b.0.0 ∷ z.0, z.1)) y b.2 in
    subst (λ (z : List B × Place). EachIs V (a ∷ bs) z.0 at.rest z.1.rest) (ok_is (b.0.0 ∷ c.0.0, c.0.1) y c.2) (b.0.1.rest, g a at b.0 b.1, each_is R V g bs b.0.1 c.0 c.1)

pub due_is : {A : Type 0} (test : Bool) (f : Refusal) (v : A) (at : Place) (x : A × Place) → due test f v at ≡ Ok x → (test ≡ true) × ((v, at) ≡ x)
due_is true f v at x e = (refl, ok_is (v, at) x e)
due_is false f v at x e = absurd (refused f x e)

pub same_name : (a b : List ℕ) → bytes_eq a b ≡ true → a ≡ b
same_name a b e = (bytes_eq-Decides a b).0 e

task_is : (name : List ℕ) (k : ℕ) (ls : Items) (x : ℕ × Place) → task_at name (place k ls) (next_item ls) ≡ Ok x → OneTask name x.0 ls x.1.rest
task_is name k [] x e = absurd (refused (Grammar k) x e)
task_is name k (None ∷ ls) x e = absurd (refused (Grammar k) x e)
task_is name k (Some (TaskAt n o) ∷ ls) x e =
    let d = due_is (bytes_eq n name) (Names k) o (place (k + 1) ls) x e in
    subst (λ (z : ℕ × Place). OneTask name z.0 (Some (TaskAt n o) ∷ ls) z.1.rest) d.1 (ap (λ (m : List ℕ). Some (TaskAt m o) ∷ ls) (same_name n name d.0))
task_is name k (Some other ∷ ls) x e = absurd (refused (Grammar k) x e)

message_is : (name : List ℕ) (k : ℕ) (ls : Items) (x : (ℕ × ℕ) × Place) → message_at name (place k ls) (next_item ls) ≡ Ok x → OneMessage name x.0 ls x.1.rest
message_is name k [] x e = absurd (refused (Grammar k) x e)
message_is name k (None ∷ ls) x e = absurd (refused (Grammar k) x e)
message_is name k (Some (MessageAt n o q) ∷ ls) x e =
    let d = due_is (bytes_eq n name) (Names k) (o, q) (place (k + 1) ls) x e in
    subst (λ (z : (ℕ × ℕ) × Place). OneMessage name z.0 (Some (MessageAt n o q) ∷ ls) z.1.rest) d.1 (ap (λ (m : List ℕ). Some (MessageAt m o q) ∷ ls) (same_name n name d.0))
message_is name k (Some other ∷ ls) x e = absurd (refused (Grammar k) x e)

-- a test that chooses between reading on and a refusal
pub chosen : {A : Type 0} (b : Bool) (r : Read A) (f : Refusal) (x : A × Place) → cond b r (Err f) ≡ Ok x → (b ≡ true) × (r ≡ Ok x)
chosen true r f x e = (refl, e)
chosen false r f x e = absurd (refused f x e)

table_is : (d : DocMode) (j k : ℕ) (ls : Items) (x : List ℕ × Place) → table_at d (j + 1) (place k ls) (next_item ls) ≡ Ok x → OneTable d j x.0 ls x.1.rest
table_is d j k [] x e = absurd (refused (Grammar k) x e)
table_is d j k (None ∷ ls) x e = absurd (refused (Grammar k) x e)
table_is d j k (Some (TableOf t names) ∷ ls) x e =
    let c = chosen (eqb t (j + 1)) (due (list_all (is_message d) names) (Names k) (map (number_of d) names) (place (k + 1) ls)) (Grammar k) x e in
    let u = due_is (list_all (is_message d) names) (Names k) (map (number_of d) names) (place (k + 1) ls) x c.1 in
    subst (λ (z : List ℕ × Place). OneTable d j z.0 (Some (TableOf t names) ∷ ls) z.1.rest) u.1 (names, u.0, refl, ap (λ (i : ℕ). Some (TableOf i names) ∷ ls) (eqb-true t (j + 1) c.0))
table_is d j k (Some other ∷ ls) x e = absurd (refused (Grammar k) x e)

starts_is : (r k : ℕ) (ls : Items) (x : List ℕ × Place) → starts_at r (place k ls) (next_item ls) ≡ Ok x → (length x.0 ≡ r) × (ls ≡ Some (Start x.0) ∷ x.1.rest)
starts_is r k [] x e = absurd (refused (Grammar k) x e)
starts_is r k (None ∷ ls) x e = absurd (refused (Grammar k) x e)
starts_is r k (Some (Start ns) ∷ ls) x e =
    let d = due_is (eqb (length ns) r) (Grammar k) ns (place (k + 1) ls) x e in
    subst (λ (z : List ℕ × Place). (length z.0 ≡ r) × (Some (Start ns) ∷ ls ≡ Some (Start z.0) ∷ z.1.rest)) d.1 (eqb-true (length ns) r d.0, refl)
starts_is r k (Some other ∷ ls) x e = absurd (refused (Grammar k) x e)

-- what is read of a schedule that stands behind its first line
pub schedule_is : (d : DocMode) (r : ℕ) (at : Place) (x : Option Schedule × Place) → schedule d r at ≡ Ok x → (t : Told) × Tells d r t at.rest x.1.rest × (x.0 ≡ Some (schedule_of t))
schedule_is d r at x e =
    let a = bind_ok (starts_at r at (next_item at.rest)) (λ a. each (λ name to. task_at name to (next_item to.rest)) d.tasks a.1 >>= λ b. each (λ name to. message_at name to (next_item to.rest)) d.messages b.1 >>= λ c. each (λ j to. table_at d (j + 1) to (next_item to.rest)) (below r) c.1 >>= λ t. Ok (Some (schedule_of (record { starts = a.0; tasks = b.0; messages = c.0; tables = t.0 })), t.1)) x e in
    let b = bind_ok (each (λ name to. task_at name to (next_item to.rest)) d.tasks a.0.1) (λ b. each (λ name to. message_at name to (next_item to.rest)) d.messages b.1 >>= λ c. each (λ j to. table_at d (j + 1) to (next_item to.rest)) (below r) c.1 >>= λ t. Ok (Some (schedule_of (record { starts = a.0.0; tasks = b.0; messages = c.0; tables = t.0 })), t.1)) x a.2 in
    let c = bind_ok (each (λ name to. message_at name to (next_item to.rest)) d.messages b.0.1) (λ c. each (λ j to. table_at d (j + 1) to (next_item to.rest)) (below r) c.1 >>= λ t. Ok (Some (schedule_of (record { starts = a.0.0; tasks = b.0.0; messages = c.0; tables = t.0 })), t.1)) x b.2 in
    let t = bind_ok (each (λ j to. table_at d (j + 1) to (next_item to.rest)) (below r) c.0.1) (λ t. Ok (Some (schedule_of (record { starts = a.0.0; tasks = b.0.0; messages = c.0.0; tables = t.0 })), t.1)) x c.2 in
    let told : Told = record { starts = a.0.0; tasks = b.0.0; messages = c.0.0; tables = t.0.0 } in
    let j = ok_is (Some (schedule_of told), t.0.1) x t.2 in
    let s = starts_is r at.line at.rest a.0 a.1 in
    let end : t.0.1.rest ≡ x.1.rest = ap (λ (z : Option Schedule × Place). z.1.rest) j in (
      told,
      subst (λ (l : Items). Tells d r told at.rest l) end (record {
        counted = s.0;
        first = a.0.1.rest;
        second = b.0.1.rest;
        third = c.0.1.rest;
        starts = s.1;
        tasks = each_is (λ name to. task_at name to (next_item to.rest)) OneTask (λ name to y f. task_is name to.line to.rest y f) d.tasks a.0.1 b.0 b.1;
        messages = each_is (λ name to. message_at name to (next_item to.rest)) OneMessage (λ name to y f. message_is name to.line to.rest y f) d.messages b.0.1 c.0 c.1;
        tables = each_is (λ i to. table_at d (i + 1) to (next_item to.rest)) (OneTable d) (λ i to y f. table_is d i to.line to.rest y f) (below r) c.0.1 t.0 t.1;
      }),
      sym (ap (λ (z : Option Schedule × Place). z.0) j),
    )
