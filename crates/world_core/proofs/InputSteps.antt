-- Ends and starts in the world: the in registers after them, and the inputs of a start that is performed
use Rattle.std.proofs.Common.{◌≡◌, ℕ, zero, suc, ◌<◌, Bool, true, false, cond, ◌||◌, List, [], ◌∷◌, ◌++◌, length, get_or, set, map, filter, Contains, refl, sym, ◌∙◌, ap, subst, arith, ℤ}
use Rattle.std.specs.Prelude.{nat_eq, fold, Option, Some, None}
use Rattle.std.specs.List.{flat_map}
use Rattle.std.proofs.lemmas.Bool.{cond-false, cond-true, eqb-true, eqb-false, eq-eqb, ne_eqb, and_parts}
use Rattle.std.proofs.lemmas.List.{length-map}
use Rattle.std.proofs.lemmas.List.Elements.{recursion_from_All}
use Rattle.std.proofs.lemmas.List.Folds.{flat_map-map}
use Rattle.sched_model.specs.Numbers.{below, has}
use Rattle.sched_model.specs.PlainMode.{task_at, message_at}
use Rattle.sched_model.proofs.Graph.{has_contains, contains_has, message_edge}
use Rattle.sched_model.proofs.Lists.{get_or-below, length-below}
use Rattle.sched_model.proofs.Tests.{passes}
use Rattle.runtime_model.specs.Plans.{Plan, RightPlan, node_of, sender_of}
use Rattle.runtime_model.specs.Entries.{task_ends, task_starts}
use Rattle.runtime_model.specs.Outcomes.{PlainEvent, advance, Spot, Step}
use Rattle.runtime_model.specs.LookingBack.{runs, last_beacon}
use Rattle.runtime_model.specs.NodeTables.{part_of, is_own}
use Rattle.runtime_model.specs.Inputs.{given, input, inputs}
use Rattle.runtime_model.specs.Packets.{takes_on}
use Rattle.runtime_model.specs.Placement.{placed, own_start, run_at}
use Rattle.runtime_model.specs.Registers.{in_register, last_in, values_of}
use Rattle.runtime_model.specs.System.{System, plan_at}
use Rattle.runtime_model.specs.History.{history, step_of, spot_next, entry_at, finished_or_not, start_or_not}
use Rattle.runtime_model.specs.Laws.{PlansAreRight, RequestsFit}
use Rattle.runtime_model.proofs.Modes.{all_right}
use Rattle.runtime_model.proofs.InRegisters.{inputs_hold}
use Rattle.node_tables.specs.declared.tables.ModeTable.{ModeTable}
use Rattle.node_tables.specs.declared.tables.OwnMessage.{OwnMessage}
use Rattle.node_tables.specs.Parts.{typed_table}
use Rattle.node_core.specs.Fits.{NodeFits}
use Rattle.node_core.specs.Lookup.{mode_at, consumer_place, own_message}
use Rattle.node_core.specs.PartLookups.{PartLooksUp, kept_message}
use Rattle.node_core.specs.Registers.{InRow, RegistersSeen, begun, ended_with, emptied_at, emptied_for, inputs_at, inputs_from, inputs_of, register_in, register_of, row_of}
use Rattle.node_core.specs.Rules.{inputs_now, starts, started as after}
use Rattle.node_core.specs.Running.{RunningNode, mode_of}
use Rattle.node_core.proofs.MessageLemmas.{found_is, row_written}
use Rattle.node_core.proofs.RegisterRules.{registers_by_rules}
use Rattle.world_core.specs.declared.state.State.{State}
use Rattle.world_core.specs.declared.state.State.TheVariants.{Listens, Syncs, Coasts}
use Rattle.world_core.specs.NodeStates.{registers_of, running_of, after_end, after_start, starts_now, inputs_at_start}
use Rattle.world_core.specs.Standing.{IsOn}
use Rattle.world_core.proofs.EntryNodes.{EntryNode, IsAtEntry}
use Rattle.world_core.proofs.EndSteps.{end_out, numbers_equal, one_task}
use Rattle.world_core.proofs.PacketSteps.{KeepsIns, LeavesIns, ins_kept, left_ins, in_now, in_past}
use Rattle.world_core.proofs.RunSteps.{IsCalm}
use Rattle.world_core.proofs.StartSteps.{start_on, start_follows, start_answers, starts_is, is_performed, start_out}

-- ---- lists

flat_filter : {X Y : Type 0} (f : X → List Y) (t : X → Bool) (xs : List X) → flat_map f (filter t xs) ≡ flat_map (λ x. cond (t x) (f x) []) xs
flat_filter f t [] = refl
flat_filter {Y = Y} f t (x ∷ xs) = by_test (t x) ∙ ap (λ (ys : List Y). cond (t x) (f x) [] ++ ys) (flat_filter f t xs)
  where
    by_test : (b : Bool) → flat_map f (cond b (x ∷ filter t xs) (filter t xs)) ≡ cond b (f x) [] ++ flat_map f (filter t xs)
    by_test true = refl
    by_test false = refl

flat_alike : {X Y : Type 0} (f g : X → List Y) (xs : List X) → ((x : X) → Contains xs x → f x ≡ g x) → flat_map f xs ≡ flat_map g xs
flat_alike f g [] h = refl
flat_alike {Y = Y} f g (x ∷ xs) h =
    ap (λ (ys : List Y). ys ++ flat_map f xs) (h x (0, omega arith, refl)) ∙ ap (λ (ys : List Y). g x ++ ys) (flat_alike f g xs (λ z c. h z (suc c.0, omega (arith, c.1), c.2)))

is_below : (n i : ℕ) → Contains (below n) i → i < n
is_below n i (k, l, e) =
    let k_less : k < n = omega (arith, l, length-below n) in
    omega (arith, k_less, e, get_or-below n k i k_less)

-- ---- rows

emptied_none : {X : Type 0} (xs : List (Option X)) (k c : ℕ) → get_or xs c None ≡ None → get_or (set xs k None) c None ≡ None
emptied_none [] k c e = e
emptied_none (x ∷ xs) zero zero e = refl
emptied_none (x ∷ xs) zero (suc c) e = e
emptied_none (x ∷ xs) (suc k) zero e = e
emptied_none (x ∷ xs) (suc k) (suc c) e = emptied_none xs k c e

abbrev IsEmptyAt : ℕ → InRow → Type 0
IsEmptyAt c row = get_or row c None ≡ None

none_at : (c : ℕ) → IsEmptyAt c []
none_at c = refl

-- what is empty is empty after a start
row_emptied : (ins : List InRow) (m : OwnMessage) (o : Option ℕ) (number c : ℕ) → IsEmptyAt c (row_of ins number) → IsEmptyAt c (row_of (emptied_at ins m o) number)
row_emptied ins m None number c e = e
row_emptied ins m (Some k) number c e =
    row_written (IsEmptyAt c) ins m.number number (set (row_of ins m.number) k None)
    (λ same. emptied_none (row_of ins m.number) k c (subst (λ (z : ℕ). IsEmptyAt c (row_of ins z)) (sym same) e)) e (none_at c)

rows_emptied : (task : ℕ) (ins : List InRow) (messages : List OwnMessage) (number c : ℕ) → IsEmptyAt c (row_of ins number) → IsEmptyAt c (row_of (fold (emptied_for task) ins messages) number)
rows_emptied task ins [] number c e = e
rows_emptied task ins (m ∷ messages) number c e = rows_emptied task (emptied_for task ins m) messages number c (row_emptied ins m (consumer_place task m) number c e)

-- ---- at an end

ended_rows : (task : ℕ) (o : Option ℤ) (g : RegistersSeen) → (ended_with task o g).ins ≡ g.ins
ended_rows task None g = refl
ended_rows task (Some x) g = refl

after_end_rows : (n : State) (number : ℕ) → (registers_of (after_end n number)).ins ≡ (registers_of n).ins
after_end_rows (Listens t) number = refl
after_end_rows (Syncs r) number = ended_rows number _ r.registers
after_end_rows (Coasts r) number = ended_rows number _ r.registers

end_leaves : (p : Plan) (v w a k : ℕ) (o : Option ℤ) → LeavesIns p v (finished_or_not w a k o)
end_leaves p v w a k None = record { calm = record { beacon = refl; restart = refl }; ins = λ b i on. refl }
end_leaves p v w a k (Some x) = record { calm = record { beacon = refl; restart = refl }; ins = λ b i on. refl }

-- the in registers of each node after an end, whether it is the node of the task or not
pub end_ins : (y : System) (es : List PlainEvent) (a : ℕ) → let ds = history y es in let s = spot_next y ds in let p = plan_at y s.hyper.mode in
    RightPlan y.nodes p → (entry_at y s).action ≡ task_ends a → (w : ℕ) (n : State) (lost : ℕ) (here : Bool) → EntryNode y w ds n →
    KeepsIns p w s.stay (step_of y (advance lost) ds ∷ ds) (registers_of (cond here (after_end n (task_at p.mode a).number) n)).ins
end_ins y es a ok act w n lost here at = by_test here
  where
    kept : (rows : List InRow) → rows ≡ (registers_of n).ins → let s = spot_next y (history y es) in let p = plan_at y s.hyper.mode in KeepsIns p w s.stay (step_of y (advance lost) (history y es) ∷ history y es) rows
    kept rows e =
        let ds = history y es in
        let s = spot_next y ds in
        let p = plan_at y s.hyper.mode in
        let d = step_of y (advance lost) ds in
        left_ins p w d ds rows
        (subst (LeavesIns p w) (sym (end_out y es a ok act lost)) (end_leaves p w (node_of p a) a _ _))
        (subst (KeepsIns p w s.stay ds) (sym e) (ins_kept p w s.stay ds (registers_of n) at.registers))

    by_test : (b : Bool) → let s = spot_next y (history y es) in let p = plan_at y s.hyper.mode in
        KeepsIns p w s.stay (step_of y (advance lost) (history y es) ∷ history y es) (registers_of (cond b (after_end n (task_at p.mode a).number) n)).ins
    by_test true = kept _ (after_end_rows n _)
    by_test false = kept _ refl

-- ---- at a start

module _ (y : System) (right : PlansAreRight y) (es : List PlainEvent) (rf : RequestsFit y es) (a : ℕ) (act : (entry_at y (spot_next y (history y es))).action ≡ task_starts a) where
  abbrev ds : List Step
  ds = history y es

  abbrev s : Spot
  s = spot_next y ds

  abbrev p : Plan
  p = plan_at y s.hyper.mode

  abbrev u : ℕ
  u = (entry_at y s).tick

  abbrev v : ℕ
  v = node_of p a

  abbrev number : ℕ
  number = (task_at p.mode a).number

  abbrev k : ℕ
  k = run_at p s.turn u a

  ok : RightPlan y.nodes p
  ok = all_right y right (advance 0 ∷ es) rf

  on : IsOn p v a
  on = start_on y right es rf a act

  abbrev ready : Bool
  ready = is_performed y right es rf a act

  -- a start that is not performed leaves the in registers
  off_leaves : (w : ℕ) → LeavesIns p w (start_or_not y p s ds a u false)
  off_leaves w = record { calm = record { beacon = refl; restart = refl }; ins = λ b i on. refl }

  -- and each start leaves those of other nodes
  other_leaves : (w : ℕ) (t : Bool) → nat_eq v w ≡ false → LeavesIns p w (start_or_not y p s ds a u t)
  other_leaves w false e = off_leaves w
  other_leaves w true e = record { calm = record { beacon = refl; restart = refl }; ins = λ b i on. by_task b on (nat_eq a b) refl }
    where
      by_task : (b : ℕ) → IsOn p w b → (t : Bool) → nat_eq a b ≡ t → cond {A = Option (Option (ℕ × List ℤ))} t (Some None) None ≡ None
      by_task b on true t = absurd (let q : true ≡ false = sym (eq-eqb v w (ap (node_of p) (eqb-true a b t) ∙ on.1)) ∙ e in cc)
      by_task b on false t = refl

  module _ (part : PartLooksUp y.plans v s.hyper.mode p (typed_table (part_of y.plans v))) where
    -- a message that a task on the node consumes is an own one
    consumed_own : (i b : ℕ) → IsOn p v b → Contains (message_at p.mode i).to b → is_own p v i ≡ true
    consumed_own i b on to =
        let taken : takes_on p i v ≡ true = passes (λ c. nat_eq (node_of p c) v) (message_at p.mode i).to b to.0 to.1 (eq-eqb (node_of p (get_or (message_at p.mode i).to to.0 b)) v (ap (node_of p) to.2 ∙ on.1)) in
        either (nat_eq (sender_of p i) v) (takes_on p i v) taken
      where
        either : (c d : Bool) → d ≡ true → (c || d) ≡ true
        either true d e = refl
        either false d e = e

    -- a node that runs is in the mode of the start
    mode_here : (r : RunningNode) → r.table ≡ typed_table (part_of y.plans v) → (d : Step) × (last_beacon ds ≡ Some d) × IsAtEntry y ds d r → mode_of r ≡ mode_at (typed_table (part_of y.plans v)) s.hyper.mode
    mode_here r table w =
        ap (λ t. mode_at t r.mode) table ∙ ap (mode_at (typed_table (part_of y.plans v))) (w.2.mode ∙ sym (start_follows y right es rf a act w.0 w.1).1)

    -- ---- the in registers after it

    -- on its node a start that is performed empties those of its task
    own_ins : (lost : ℕ) (r : RunningNode) (x : ℤ) → NodeFits r → mode_of r ≡ mode_at (typed_table (part_of y.plans v)) s.hyper.mode → starts r number ≡ true → runs v ds ≡ true →
        (step_of y (advance lost) ds).out ≡ start_or_not y p s ds a u true → KeepsIns p v s.stay ds r.registers.ins → KeepsIns p v s.stay (step_of y (advance lost) ds ∷ ds) (after r number x).registers.ins
    own_ins lost r x fits mode performs run out keeps = record {
      ins = λ b i on l to. emptied b i on l to ∙ by_task b i on l to (nat_eq b a) refl;
      other_ins = λ m none c. subst (λ (t : Bool). IsEmptyAt c (row_of (cond t (record r { registers = begun number x (mode_of r).messages r.registers }) r).registers.ins m)) (sym performs) (rows_emptied number r.registers.ins (mode_of r).messages m c (keeps.other_ins m none c));
    }
      where
        d : Step
        d = step_of y (advance lost) ds

        calm : IsCalm v d.out
        calm = subst (IsCalm v) (sym out) (record { beacon = refl; restart = refl })

        emptied : (b i : ℕ) → IsOn p v b → i < length p.mode.messages → Contains (message_at p.mode i).to b →
            register_of (after r number x).registers.ins (task_at p.mode b).number (kept_message p v i) ≡ cond (nat_eq b a) None (register_of r.registers.ins (task_at p.mode b).number (kept_message p v i))
        emptied b i on_b l to =
            let z = (task_at p.mode b).number in
            let P : OwnMessage → Type 0 = λ m. register_of (after r number x).registers.ins z m ≡ cond (nat_eq z number) None (register_of r.registers.ins z m) in
            found_is (λ m. nat_eq m.number (message_at p.mode i).number) P (mode_of r).messages (kept_message p v i)
            (recursion_from_All P (mode_of r).messages (registers_by_rules.starting r number x fits performs z))
            (ap (λ (m : ModeTable). own_message m.messages (message_at p.mode i).number) mode ∙ part.message i l (consumed_own i b on_b to))
            ∙ ap (λ t. cond t None (register_of r.registers.ins z (kept_message p v i))) (numbers_equal y v s.hyper.mode p (typed_table (part_of y.plans v)) ok part b a on_b on)

        by_task : (b i : ℕ) → IsOn p v b → i < length p.mode.messages → Contains (message_at p.mode i).to b → (t : Bool) → nat_eq b a ≡ t →
            cond t None (register_of r.registers.ins (task_at p.mode b).number (kept_message p v i)) ≡ values_of (in_register p s.stay b i (d ∷ ds))
        by_task b i on_b l to true t =
            let same : a ≡ b = sym (eqb-true b a t) in
            sym (ap values_of (in_now p v b i d ds None calm on_b (ap (last_in v b i) out ∙ cond-true (nat_eq a b) (Some None) None (eq-eqb a b same)) run))
        by_task b i on_b l to false t =
            keeps.ins b i on_b l to
            ∙ ap values_of (sym (in_past p v b i d ds calm on_b (ap (last_in v b i) out ∙ cond-false (nat_eq a b) (Some None) None (ne_eqb a b (λ q. eqb-false b a t (sym q))))))

    -- a running node of the task after the start, by whether it performs it
    run_ins : (n : State) (lost : ℕ) (r : RunningNode) (x : ℤ) → EntryNode y v ds n → running_of n ≡ Some r → r.table ≡ typed_table (part_of y.plans v) → registers_of n ≡ r.registers → NodeFits r → (t : Bool) → starts_now n number ≡ t → starts r number ≡ t →
        KeepsIns p v s.stay (step_of y (advance lost) ds ∷ ds) (after r number x).registers.ins
    run_ins n lost r x at is table same fits true e performs =
        own_ins lost r x fits (mode_here r table (at.place r is)) performs
        (and_parts (placed s.hyper.opening s.hyper.phase (own_start p u a)) (runs v ds) (sym (starts_is y right es rf a act part n at) ∙ e)).1
        (start_answers y right es rf a act part n lost at ∙ ap (start_or_not y p s ds a u) e)
        (subst (λ (g : RegistersSeen). KeepsIns p v s.stay ds g.ins) same (ins_kept p v s.stay ds (registers_of n) at.registers))
    run_ins n lost r x at is table same fits false e performs =
        let d = step_of y (advance lost) ds in
        subst (λ (m : RunningNode). KeepsIns p v s.stay (d ∷ ds) m.registers.ins)
        (sym (cond-false (starts r number) (record r { registers = begun number x (mode_of r).messages r.registers }) r performs))
        (left_ins p v d ds r.registers.ins
        (subst (LeavesIns p v) (sym (start_answers y right es rf a act part n lost at ∙ ap (start_or_not y p s ds a u) e)) (off_leaves v))
        (subst (λ (g : RegistersSeen). KeepsIns p v s.stay ds g.ins) same (ins_kept p v s.stay ds (registers_of n) at.registers)))

    node_ins : (n : State) (lost : ℕ) (x : ℤ) → EntryNode y v ds n → ((r : RunningNode) → running_of n ≡ Some r → NodeFits r) →
        KeepsIns p v s.stay (step_of y (advance lost) ds ∷ ds) (registers_of (after_start n number x)).ins
    node_ins (Listens t) lost x at fits =
        let d = step_of y (advance lost) ds in
        left_ins p v d ds (registers_of (Listens t)).ins (subst (LeavesIns p v) (sym (start_answers y right es rf a act part (Listens t) lost at)) (off_leaves v)) (ins_kept p v s.stay ds (registers_of (Listens t)) at.registers)
    node_ins (Syncs r) lost x at fits = run_ins (Syncs r) lost r x at refl at.table refl (fits r refl) (starts r number) refl refl
    node_ins (Coasts r) lost x at fits = run_ins (Coasts r) lost r x at refl at.table refl (fits r refl) (starts r number) refl refl

    -- the in registers of node w after the start
    pub start_ins : (w : ℕ) (n : State) (lost : ℕ) (x : ℤ) → EntryNode y w ds n → ((r : RunningNode) → running_of n ≡ Some r → NodeFits r) →
        KeepsIns p w s.stay (step_of y (advance lost) ds ∷ ds) (registers_of (cond (nat_eq v w) (after_start n number x) n)).ins
    start_ins w n lost x at fits = by_node (nat_eq v w) refl
      where
        by_node : (b : Bool) → nat_eq v w ≡ b → KeepsIns p w s.stay (step_of y (advance lost) ds ∷ ds) (registers_of (cond b (after_start n number x) n)).ins
        by_node false e =
            left_ins p w (step_of y (advance lost) ds) ds (registers_of n).ins (subst (LeavesIns p w) (sym (start_out y right es rf a act lost)) (other_leaves w ready e)) (ins_kept p w s.stay ds (registers_of n) at.registers)
        by_node true e =
            let same = eqb-true v w e in
            subst (λ z. KeepsIns p z s.stay (step_of y (advance lost) ds ∷ ds) (registers_of (after_start n number x)).ins) same (node_ins n lost x (subst (λ z. EntryNode y z ds n) (sym same) at) fits)

    -- ---- the inputs of a start that is performed

    -- from one message
    input_is : (g : RegistersSeen) → KeepsIns p v s.stay ds g.ins → placed s.hyper.opening s.hyper.phase (own_start p u a) ≡ true → (i : ℕ) → i < length p.mode.messages →
        cond (is_own p v i) (inputs_from g.ins number (kept_message p v i)) [] ≡ cond (has (message_at p.mode i).to a) (input p v s.stay i k ds) []
    input_is g keeps pl i l = by_test (has (message_at p.mode i).to a) refl
      where
        by_test : (b : Bool) → has (message_at p.mode i).to a ≡ b → cond (is_own p v i) (inputs_from g.ins number (kept_message p v i)) [] ≡ cond b (input p v s.stay i k ds) []
        by_test true e =
            let to = has_contains (message_at p.mode i).to a e in
            let c = part.consumer i a l to refl in
            let from = (message_at p.mode i).from in
            cond-true (is_own p v i) (inputs_from g.ins number (kept_message p v i)) [] (consumed_own i a on to)
            ∙ ap (inputs_at g.ins (kept_message p v i)) c.3
            ∙ ap (λ n. given n (register_in g.ins (kept_message p v i) (Some c.0))) (length-map from (λ b. (task_at p.mode b).number))
            ∙ ap (given (length from)) (sym (ap (register_in g.ins (kept_message p v i)) c.3) ∙ keeps.ins a i on l to ∙ sym (inputs_hold y es a i ok to l act pl))
        by_test false e =
            let none = part.no_consumer i number l (λ b to on_b same. let q : true ≡ false = sym (contains_has (message_at p.mode i).to b to) ∙ ap (has (message_at p.mode i).to) (one_task y v s.hyper.mode p (typed_table (part_of y.plans v)) ok part b a (in_tasks b to, on_b) on same) ∙ e in cc) in
            ap (λ o. cond (is_own p v i) (inputs_at g.ins (kept_message p v i) o) []) none ∙ off (is_own p v i)
          where
            off : (b : Bool) → cond {A = List (Option ℤ)} b [] [] ≡ []
            off true = refl
            off false = refl

            in_tasks : (b : ℕ) → Contains (message_at p.mode i).to b → b < length p.mode.tasks
            in_tasks b to =
                let from = ok.valid.producer i l in
                (ok.valid.edges from.0 b (message_edge p.mode i from.0 b l from.1 to)).to

    all_inputs : (g : RegistersSeen) → KeepsIns p v s.stay ds g.ins → placed s.hyper.opening s.hyper.phase (own_start p u a) ≡ true → (messages : List OwnMessage) →
        messages ≡ map (kept_message p v) (filter (is_own p v) (below (length p.mode.messages))) → inputs_of g.ins number messages ≡ inputs p s.stay a k ds
    all_inputs g keeps pl messages e =
        let all = below (length p.mode.messages) in
        ap (inputs_of g.ins number) e
        ∙ flat_map-map (inputs_from g.ins number) (kept_message p v) (filter (is_own p v) all)
        ∙ flat_filter (λ i. inputs_from g.ins number (kept_message p v i)) (is_own p v) all
        ∙ flat_alike (λ i. cond (is_own p v i) (inputs_from g.ins number (kept_message p v i)) []) (λ i. cond (has (message_at p.mode i).to a) (input p v s.stay i k ds) []) all (λ i c. input_is g keeps pl i (is_below (length p.mode.messages) i c))

    running_inputs : (n : State) (r : RunningNode) → EntryNode y v ds n → running_of n ≡ Some r → r.table ≡ typed_table (part_of y.plans v) → registers_of n ≡ r.registers → starts_now n number ≡ true → inputs_now r number ≡ inputs p s.stay a k ds
    running_inputs n r at is table same performs =
        all_inputs r.registers
        (subst (λ (g : RegistersSeen). KeepsIns p v s.stay ds g.ins) same (ins_kept p v s.stay ds (registers_of n) at.registers))
        (and_parts (placed s.hyper.opening s.hyper.phase (own_start p u a)) (runs v ds) (sym (starts_is y right es rf a act part n at) ∙ performs)).0
        (mode_of r).messages
        (ap (λ (t : ModeTable). t.messages) (mode_here r table (at.place r is)) ∙ part.messages)

    -- a node that performs the start takes the inputs of its run
    pub inputs_is : (n : State) → EntryNode y v ds n → starts_now n number ≡ true → inputs_at_start n number ≡ inputs p s.stay a k ds
    inputs_is (Listens t) at e = absurd cc
    inputs_is (Syncs r) at e = running_inputs (Syncs r) r at refl at.table refl e
    inputs_is (Coasts r) at e = running_inputs (Coasts r) r at refl at.table refl e
