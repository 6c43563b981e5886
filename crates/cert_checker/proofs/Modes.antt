-- What is still to be read of a mode
use Rattle.std.proofs.Common.{◌≡◌, ◌≢◌, ℕ, zero, suc, ◌+◌, ◌-◌, ◌<◌, ◌≤◌, cond, List, [], length, get_or, map, All, ℤ, pos, Ok, Err, refl, sym, ap, subst, ◌∙◌, arith}
use Rattle.std.specs.Prelude.{Option, Some}
use Rattle.std.proofs.lemmas.Bool.{eq-eqb, ne_eqb}
use Rattle.std.proofs.lemmas.List.{length-map, get_or-map}
use Rattle.std.proofs.lemmas.List.Elements.{All-nil, All-from_recursion}
use Rattle.app_graph.specs.declared.mode_set.ModeSet.{ModeSet}
use Rattle.app_graph.specs.Validation.{KeepsRules}
use Rattle.sched_model.specs.Numbers.{below}
use Rattle.sched_model.specs.PlainMode.{PlainMode, most_rounds}
use Rattle.sched_model.specs.ConstraintProblem.{decisions}
use Rattle.sched_model.specs.RightSchedule.{IsMessage}
use Rattle.sched_model.specs.TimeLimits.{IsTime}
use Rattle.sched_model.specs.declared.schedule.Schedule.{Schedule}
use Rattle.constraint_set.specs.Posed.{Posed}
use Rattle.proof_tree.specs.Items.{Item, Refute}
use Rattle.proof_tree.specs.Accepting.{DocMode, doc_mode, doc_modes, schedule_of}
use Rattle.proof_tree.specs.TreeLines.{Items}
use Rattle.proof_tree.specs.Reading.{Refusal, Extra, MissingCount, Place, Read, ◌>>=◌, next_item, each, tree, tree_at, starts_at, task_at, message_at, table_at, schedule, counts_at}
use Rattle.proof_tree.proofs.TreeReading.{ok_is}
use Rattle.proof_tree.proofs.ReadShapes.{IsNamed, modes_named}
use Rattle.cert_checker.specs.declared.walk.Walk.{Walk}
use Rattle.cert_checker.specs.declared.draft.Draft.{Draft}
use Rattle.cert_checker.specs.declared.counts.Inside.TheVariants.{Node}
use Rattle.cert_checker.specs.declared.counts.Next.{Next}
use Rattle.cert_checker.specs.declared.counts.Next.TheVariants.{More, Due, Plan}
use Rattle.cert_checker.specs.TreeStack.{line_at, behind_line, tree_due, walk_due}
use Rattle.cert_checker.specs.DraftReading.{doc_at, moments, tasks_due, draft_due, InHand}
use Rattle.cert_checker.specs.ModeReading.{Follows, count_due, inside_due}

-- what is read in the same way goes on in the same way
pub follows_from : (o : ℕ) (d : DocMode) (line : ℕ) (read other : Items → Read (Option Schedule)) (next : Next) → ((rest : Items) → other rest ≡ read rest) → Follows o d line read next → Follows o d line other next
follows_from o d line read other More e f = elim f [ ]
follows_from o d line read other (Due inside) e f = (f.0, λ rest. e rest ∙ f.1 rest)
follows_from o d line read other (Plan plan) e f = (f.0, λ rest. e rest ∙ f.1 rest)

-- ---- the starts of a schedule

starts_are : (a : List ℕ × Place) (ss : List ℤ) (to : Place) → ◌≡◌ {A = Read (List ℤ)} (Ok (map pos a.0, a.1)) (Ok (ss, to)) → (map pos a.0 ≡ ss) × (a.1 ≡ to)
starts_are a ss to e = let h = ok_is (map pos a.0, a.1) (ss, to) e in (ap (λ (x : List ℤ × Place). x.0) h, ap (λ (x : List ℤ × Place). x.1) h)

-- a schedule, of which the starts were read
pub schedule_starts : (d : DocMode) (r : ℕ) (at to : Place) (ss : List ℤ) → moments (starts_at r at (next_item at.rest)) ≡ Ok (ss, to) → length ss ≡ r → schedule d r at ≡ tasks_due d ss [] [] [] to
schedule_starts d r at to ss e len = from (starts_at r at (next_item at.rest)) refl e
  where
    from : (x : Read (List ℕ)) → starts_at r at (next_item at.rest) ≡ x → moments x ≡ Ok (ss, to) → schedule d r at ≡ tasks_due d ss [] [] [] to
    from (Err f) ex m = absurd cc
    from (Ok a) ex m =
        let is = starts_are a ss to m in
        let rest : Read (List ℕ) → Read (Option Schedule) = λ s. s >>= λ a.
        each (λ name to. task_at name to (next_item to.rest)) d.tasks a.1 >>= λ b.
        each (λ name to. message_at name to (next_item to.rest)) d.messages b.1 >>= λ c.
        each (λ j to. table_at d (j + 1) to (next_item to.rest)) (below r) c.1 >>= λ e.
        Ok (Some (schedule_of (record { starts = a.0; tasks = b.0; messages = c.0; tables = e.0 })), e.1) in
        ap rest ex
        ∙ ap (λ n. each (λ name to. task_at name to (next_item to.rest)) d.tasks a.1 >>= λ b.
        each (λ name to. message_at name to (next_item to.rest)) d.messages b.1 >>= λ c.
        each (λ j to. table_at d (j + 1) to (next_item to.rest)) (below n) c.1 >>= λ e.
        Ok (Some (schedule_of (record { starts = a.0; tasks = b.0; messages = c.0; tables = e.0 })), e.1)) (sym len ∙ ap (λ (l : List ℤ). length l) (sym is.0))
        ∙ ap (λ (l : List ℤ). tasks_due d l [] [] [] a.1) is.0 ∙ ap (λ (p : Place). tasks_due d ss [] [] [] p) is.1

pub schedule_fails : (d : DocMode) (r : ℕ) (at : Place) (f : Refusal) → moments (starts_at r at (next_item at.rest)) ≡ Err f → schedule d r at ≡ Err f
schedule_fails d r at f e = from (starts_at r at (next_item at.rest)) refl e
  where
    same : (g : Refusal) → ◌≡◌ {A = Read (List ℤ)} (Err g) (Err f) → g ≡ f
    same g h = cc

    from : (x : Read (List ℕ)) → starts_at r at (next_item at.rest) ≡ x → moments x ≡ Err f → schedule d r at ≡ Err f
    from (Ok a) ex m = absurd cc
    from (Err g) ex m =
        let rest : Read (List ℕ) → Read (Option Schedule) = λ s. s >>= λ a.
        each (λ name to. task_at name to (next_item to.rest)) d.tasks a.1 >>= λ b.
        each (λ name to. message_at name to (next_item to.rest)) d.messages b.1 >>= λ c.
        each (λ j to. table_at d (j + 1) to (next_item to.rest)) (below r) c.1 >>= λ e.
        Ok (Some (schedule_of (record { starts = a.0; tasks = b.0; messages = c.0; tables = e.0 })), e.1) in
        ap rest ex ∙ ap (λ (h : Refusal). Err h) (same g m)

-- the tasks and messages of each mode have a name each
pub named_at : (set : ModeSet) (mode : ℕ) → KeepsRules set → mode < length set.modes → IsNamed (doc_at set mode)
named_at set mode keeps l =
    let all = All-from_recursion IsNamed (doc_modes set) (modes_named set keeps) in
    let none = doc_mode set (record { name = []; apps = [] }) in
    let here : get_or (doc_modes set) mode none ≡ doc_at set mode = get_or-map (doc_mode set) set.modes mode (record { name = []; apps = [] }) none l in
    subst IsNamed here (all mode none (omega (arith, l, length-map set.modes (doc_mode set))))

-- a draft that begins
pub begun_in_hand : (d : DocMode) (s : Draft) (r : ℕ) → IsNamed d → s.task_names ≡ d.tasks → s.message_names ≡ d.messages → length s.starts.items ≡ r → 1 ≤ r → All IsTime s.starts.items
    → s.tasks.items ≡ [] → s.messages.items ≡ [] → s.tables.items ≡ [] → InHand d s
begun_in_hand d s r is et em len some times ts ms bs = record {
  task_count = is.tasks;
  message_count = is.messages;
  task_names = et;
  message_names = em;
  some = omega (arith, some, len);
  tasks = omega (arith, ap length ts);
  messages = omega (arith, ap length ms);
  tables = omega (arith, ap length bs);
  start_times = times;
  task_times = subst (λ (l : List ℤ). All IsTime l) (sym ts) (All-nil IsTime);
  message_times = subst (λ (l : List (ℤ × ℤ)). All (λ w. IsTime w.0 × IsTime w.1) l) (sym ms) (All-nil (λ w. IsTime w.0 × IsTime w.1));
  numbers = subst (λ (l : List (List ℕ)). All (λ table. All (IsMessage d.mode) table) l) (sym bs) (All-nil (λ table. All (IsMessage d.mode) table));
}

pub begun_due : (d : DocMode) (s : Draft) (ss : List ℤ) (at : Place) → s.starts.items ≡ ss → s.tasks.items ≡ [] → s.messages.items ≡ [] → s.tables.items ≡ [] → draft_due d s at ≡ tasks_due d ss [] [] [] at
begun_due d s ss at es ts ms bs =
    ap (λ (l : List ℤ). tasks_due d l s.tasks.items s.messages.items s.tables.items at) es
    ∙ ap (λ (l : List ℤ). tasks_due d ss l s.messages.items s.tables.items at) ts
    ∙ ap (λ (l : List (ℤ × ℤ)). tasks_due d ss [] l s.tables.items at) ms
    ∙ ap (λ (l : List (List ℕ)). tasks_due d ss [] [] l at) bs

-- ---- trees

-- a walk that begins reads a whole tree
pub tree_begins : (w : Walk) (m : PlainMode) (r : ℕ) (o : ℕ) (at : Place) → w.prefix.items ≡ [] → w.problem.mode ≡ m → w.problem.rounds ≡ r → walk_due o w at ≡ tree o m r at
tree_begins w m r o at ep em er =
    ap (λ (p : List ℤ). tree_due o w.problem.mode w.problem.rounds p w.highs.items at) ep
    ∙ ap (λ (x : PlainMode). tree_due o x w.problem.rounds [] w.highs.items at) em
    ∙ ap (λ n. tree_due o m n [] w.highs.items at) er
    ∙ ap (λ n. tree_at o m r n [] at (next_item at.rest) >>= λ x. Ok (tt, x.1)) (let z : length (decisions m) - 0 ≡ length (decisions m) = omega arith in z)
    ∙ plain (tree o m r at)
  where
    plain : (r : Read (Unit {0})) → (r >>= λ x. Ok (tt, x.1)) ≡ r
    plain (Ok x) = refl
    plain (Err e) = refl

-- a tree that goes on, and one that is complete
pub node_goes : (o : ℕ) (d : DocMode) (line : ℕ) (item : Item) (w v : Walk) → v.problem ≡ w.problem → ((rest : Items) → walk_due o w (line_at line item rest) ≡ walk_due o v (behind_line line rest))
    → (rest : Items) → inside_due o d (Node w) (line_at line item rest) ≡ inside_due o d (Node v) (behind_line line rest)
node_goes o d line item w v ep goes rest =
    ap (λ (r : Read (Unit {0})). r >>= λ x. count_due o d (w.problem.rounds + 1) x.1) (goes rest)
    ∙ ap (λ (p : Posed). walk_due o v (behind_line line rest) >>= λ x. count_due o d (p.rounds + 1) x.1) (sym ep)

pub node_done : (o : ℕ) (d : DocMode) (line : ℕ) (item : Item) (w : Walk) (n : ℕ) → n ≡ w.problem.rounds + 1 → ((rest : Items) → walk_due o w (line_at line item rest) ≡ Ok (tt, behind_line line rest))
    → (rest : Items) → inside_due o d (Node w) (line_at line item rest) ≡ count_due o d n (behind_line line rest)
node_done o d line item w n en goes rest =
    ap (λ (r : Read (Unit {0})). r >>= λ x. count_due o d (w.problem.rounds + 1) x.1) (goes rest) ∙ ap (λ k. count_due o d k (behind_line line rest)) (sym en)

pub node_fails : (o : ℕ) (d : DocMode) (w : Walk) (at : Place) (f : Refusal) → walk_due o w at ≡ Err f → inside_due o d (Node w) at ≡ Err f
node_fails o d w at f e = ap (λ (r : Read (Unit {0})). r >>= λ x. count_due o d (w.problem.rounds + 1) x.1) e

-- ---- numbers of rounds

pub refute_begins : (o : ℕ) (d : DocMode) (line r x : ℕ) (w : Walk) (rest : Items) → x ≡ r → r ≤ most_rounds d.mode → ((o : ℕ) (at : Place) → walk_due o w at ≡ tree o d.mode r at) → w.problem.rounds ≡ r
    → count_due o d r (line_at line (Refute x) rest) ≡ inside_due o d (Node w) (behind_line line rest)
refute_begins o d line r x w rest ex le begins er =
    let m = most_rounds d.mode in
    let left : m + 1 - r ≡ suc (m - r) = omega (arith, le) in
    let goes : ℕ → Unit {0} × Place → Read (Option Schedule) = λ k t. counts_at o d k (r + 1) t.1 (next_item t.1.rest) in
    ap (λ k. counts_at o d k r (line_at line (Refute x) rest) (Some (Refute x))) left
    ∙ ap (λ b. cond b (tree o d.mode r (behind_line line rest) >>= λ t. goes (m - r) t) (Err (MissingCount o r))) (eq-eqb x r ex)
    ∙ ap (λ (t : Read (Unit {0})). t >>= λ t. goes (m - r) t) (sym (begins o (behind_line line rest)))
    ∙ ap (λ k. walk_due o w (behind_line line rest) >>= λ t. goes k t) (let e : m - r ≡ m + 1 - (r + 1) = omega (arith, le) in e)
    ∙ ap (λ n. walk_due o w (behind_line line rest) >>= λ t. count_due o d (n + 1) t.1) (sym er)

pub refute_extra : (o : ℕ) (d : DocMode) (line r x : ℕ) (rest : Items) → x ≡ r → most_rounds d.mode < r → count_due o d r (line_at line (Refute x) rest) ≡ Err (Extra line)
refute_extra o d line r x rest ex lt =
    let left : most_rounds d.mode + 1 - r ≡ 0 = omega (arith, lt) in
    ap (λ k. counts_at o d k r (line_at line (Refute x) rest) (Some (Refute x))) left
    ∙ ap (λ b. cond b (Err (Extra line)) (Err (MissingCount o r))) (eq-eqb x r ex)

pub refute_missing : (o : ℕ) (d : DocMode) (line r x : ℕ) (rest : Items) → x ≢ r → count_due o d r (line_at line (Refute x) rest) ≡ Err (MissingCount o r)
refute_missing o d line r x rest ne = at (most_rounds d.mode + 1 - r)
  where
    at : (left : ℕ) → counts_at o d left r (line_at line (Refute x) rest) (Some (Refute x)) ≡ Err (MissingCount o r)
    at zero = ap (λ b. cond b (Err (Extra line)) (Err (MissingCount o r))) (ne_eqb x r ne)
    at (suc left) = ap (λ b. cond b (tree o d.mode r (behind_line line rest) >>= λ t. counts_at o d left (r + 1) t.1 (next_item t.1.rest)) (Err (MissingCount o r))) (ne_eqb x r ne)
