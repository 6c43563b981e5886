-- Lists that a world's calls change in place
use Rattle.std.proofs.Common.{◌≡◌, ◌≢◌, ℕ, zero, suc, ◌<◌, Bool, true, false, cond, List, [], ◌∷◌, ◌++◌, length, map, take, drop, refl, sym, ◌∙◌, ap, arith, append-nil, Option, ℤ, ◌+ℤ◌}
use Rattle.std.specs.Prelude.{fold, nat_eq, slice_set, slice_index_or}
use Rattle.std.proofs.lemmas.Bool.{cond-true, cond-false, eq-eqb, ne_eqb}
use Rattle.std.proofs.lemmas.List.Sums.{fold-append}
use Rattle.sched_model.specs.Numbers.{below}
use Rattle.std.proofs.lemmas.List.{get_or-map, map-set, set-get_or, take_all}
use Rattle.world_core.specs.declared.state.State.{State}
use Rattle.world_core.specs.NodeStates.{after_start, inputs_at_start, starts_now}
use Rattle.world_core.specs.declared.cycle.Entry.{Entry}
use Rattle.world_core.specs.Worlds.{WorldSeen}
use Rattle.world_core.specs.WorldSteps.{answer_at, arrived, at_entry, moved, next_entry, reset_one, with_node}
use Rattle.task_body.specs.Body.{BodySeen, answer_of, body_at, fired, no_body, reset_for}

drop_end : {X : Type 0} (xs : List X) (n : ℕ) → length xs ≡ n → drop n xs ≡ []
drop_end [] zero e = refl
drop_end [] (suc n) e = refl
drop_end (x ∷ xs) zero e = absurd (omega (arith, e))
drop_end (x ∷ xs) (suc n) e = drop_end xs n (omega (arith, e))

-- a list of as many items, written over the old one
pub written_over : {X : Type 0} (old new : List X) (n : ℕ) → length old ≡ n → length new ≡ n → take n (new ++ drop (length new) old) ≡ new
written_over old new n e f =
    ap (λ rest. take n (new ++ rest)) (drop_end old (length new) (e ∙ sym f))
    ∙ ap (take n) (append-nil new)
    ∙ take_all n new (omega (arith, f))

-- ---- one body of a list is replaced

-- the body behind the box that was read at a place
pub seen_at : {X : Type 0} (see : X → BodySeen) (boxes : List X) (b at : ℕ) (x : X) → b ≡ at → at < length boxes → x ≡ slice_index_or boxes b x → see x ≡ body_at (map see boxes) at
seen_at see boxes b at x place l e =
    ap see (e ∙ ap (λ i. slice_index_or boxes i x) place) ∙ sym (get_or-map see boxes at x no_body l)

-- a body is put back as it is seen
pub seen_set : {X : Type 0} (see : X → BodySeen) (boxes : List X) (b : ℕ) (x : X) (body : BodySeen) → see x ≡ body → map see (slice_set boxes b x) ≡ slice_set (map see boxes) b body
seen_set see boxes b x body e = map-set see boxes b x ∙ ap (λ y. slice_set (map see boxes) b y) e

-- put back as it was, it changes nothing
set_same : (bodies : List BodySeen) (b : ℕ) → slice_set bodies b (body_at bodies b) ≡ bodies
set_same bodies b = set-get_or bodies b no_body

-- it is replaced where a test holds, and else is put back as it was
pub set_where : (test : Bool) (bodies : List BodySeen) (b : ℕ) (new : BodySeen) → slice_set bodies b (cond test new (body_at bodies b)) ≡ cond test (slice_set bodies b new) bodies
set_where true bodies b new = refl
set_where false bodies b new = set_same bodies b

-- a body after a call that fires it where a test holds
fired_at : {X : Type 0} (see : X → BodySeen) (boxes : List X) (b : ℕ) (new : X) (test : Bool) (task : ℕ) (inputs : List (Option ℤ)) (was : BodySeen) →
    was ≡ body_at (map see boxes) b → see new ≡ cond test (fired was task inputs) was →
    map see (slice_set boxes b new) ≡ cond test (slice_set (map see boxes) b (fired (body_at (map see boxes) b) task inputs)) (map see boxes)
fired_at see boxes b new test task inputs was e f =
    seen_set see boxes b new (cond test (fired (body_at (map see boxes) b) task inputs) (body_at (map see boxes) b))
    (f ∙ ap (λ x. cond test (fired x task inputs) x) e)
    ∙ set_where test (map see boxes) b (fired (body_at (map see boxes) b) task inputs)

-- the bodies after the start of a task on node n, whose body was read at place b
pub started : {X : Type 0} (see : X → BodySeen) (boxes : List X) (b at : ℕ) (new : X) (n node : State) (task : ℕ) (was : BodySeen) →
    n ≡ node → b ≡ at → was ≡ body_at (map see boxes) at → see new ≡ cond (starts_now n task) (fired was task (inputs_at_start n task)) was →
    map see (slice_set boxes b new) ≡ cond (starts_now node task) (slice_set (map see boxes) at (fired (body_at (map see boxes) at) task (inputs_at_start node task))) (map see boxes)
started see boxes b at new n node task was e place w f =
    ap (λ i. map see (slice_set boxes i new)) place
    ∙ fired_at see boxes at new (starts_now node task) task (inputs_at_start node task) was w
    (f ∙ ap (λ (m : State). cond (starts_now m task) (fired was task (inputs_at_start m task)) was) e)

-- the node after it, by the body that was there
pub started_node : {X : Type 0} (see : X → BodySeen) (boxes : List X) (at : ℕ) (n node : State) (task : ℕ) (was : BodySeen) →
    n ≡ node → was ≡ body_at (map see boxes) at →
    after_start n task (answer_of was task (inputs_at_start n task)) ≡ after_start node task (answer_at (map see boxes) at task (inputs_at_start node task))
started_node see boxes at n node task was e w =
    ap (λ (m : State). after_start m task (answer_of was task (inputs_at_start m task))) e
    ∙ ap (λ x. after_start node task (answer_of x task (inputs_at_start node task))) w

-- a node is put into a world
pub put_node : (w world : WorldSeen) (v : ℕ) (n node : State) → w ≡ world → n ≡ node → with_node w v n ≡ with_node world v node
put_node w world v n node e f = ap (λ x. with_node x v n) e ∙ ap (λ x. with_node world v x) f

-- ---- the bodies of the tasks so far are reset

one_more : {A B : Type 0} (f : B → A → B) (start : B) (xs : List A) (x : A) → fold f start (xs ++ x ∷ []) ≡ f (fold f start xs) x
one_more f start xs x = fold-append f start xs (x ∷ [])

-- the task runs on the node
pub reset_here : {X : Type 0} (see : X → BodySeen) (boxes after : List X) (owners places : List ℕ) (v task : ℕ) (new : X) (start : List BodySeen) (was : BodySeen) →
    map see boxes ≡ fold (reset_one owners places v) start (below task) → slice_index_or owners task 0 ≡ v →
    was ≡ body_at (map see boxes) (slice_index_or places task 0) → see new ≡ reset_for was task → after ≡ slice_set boxes (slice_index_or places task 0) new →
    map see after ≡ fold (reset_one owners places v) start (below (suc task))
reset_here see boxes after owners places v task new start was i here e f set =
    let b = slice_index_or places task 0 in
    ap (map see) set
    ∙ seen_set see boxes b new (reset_for (body_at (map see boxes) b) task) (f ∙ ap (λ x. reset_for x task) e)
    ∙ sym (cond-true (nat_eq (slice_index_or owners task 0) v) (slice_set (map see boxes) b (reset_for (body_at (map see boxes) b) task)) (map see boxes) (eq-eqb (slice_index_or owners task 0) v here))
    ∙ ap (λ bodies. reset_one owners places v bodies task) i
    ∙ sym (one_more (reset_one owners places v) start (below task) task)

-- it runs on another node
pub reset_elsewhere : {X : Type 0} (see : X → BodySeen) (boxes after : List X) (owners places : List ℕ) (v task : ℕ) (start : List BodySeen) →
    map see boxes ≡ fold (reset_one owners places v) start (below task) → slice_index_or owners task 0 ≢ v → after ≡ boxes →
    map see after ≡ fold (reset_one owners places v) start (below (suc task))
reset_elsewhere see boxes after owners places v task start i there same =
    let b = slice_index_or places task 0 in
    ap (map see) same
    ∙ sym (cond-false (nat_eq (slice_index_or owners task 0) v) (slice_set (map see boxes) b (reset_for (body_at (map see boxes) b) task)) (map see boxes) (ne_eqb (slice_index_or owners task 0) v there))
    ∙ ap (λ bodies. reset_one owners places v bodies task) i
    ∙ sym (one_more (reset_one owners places v) start (below task) task)

-- ---- the way to the next entry

-- a world that has arrived and then moved to the moment of its next entry is at that entry
pub come_to : (w here there : WorldSeen) (entry : Entry) (moment : ℤ) →
    here ≡ arrived w → entry ≡ next_entry here → moment ≡ here.begin +ℤ entry.tick → there ≡ moved here moment → there ≡ at_entry w
come_to w here there entry moment arrives next when moves =
    moves
    ∙ ap (moved here) (when ∙ ap (λ (e : Entry). here.begin +ℤ e.tick) next)
    ∙ ap (λ x. moved x (x.begin +ℤ (next_entry x).tick)) arrives

-- what is to be done there
pub action_is : (w here : WorldSeen) (entry : Entry) → here ≡ arrived w → entry ≡ next_entry here → entry.action ≡ (next_entry (arrived w)).action
action_is w here entry arrives next = ap (λ (e : Entry). e.action) (next ∙ ap next_entry arrives)
