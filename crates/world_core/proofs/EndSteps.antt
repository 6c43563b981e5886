-- An end of a task in the world: what it answers, and the registers of runs after it
use Rattle.std.proofs.Common.{◌≡◌, ◌≢◌, ℕ, ◌<◌, ◌≤◌, Bool, true, false, cond, List, ◌∷◌, length, refl, sym, ◌∙◌, ap, subst, arith, ⊎_elim, ℤ, pos}
use Rattle.std.specs.Prelude.{nat_eq, Option, Some, None}
use Rattle.std.proofs.lemmas.Bool.{cases_lt, cond-true, cond-false, eqb-true, eqb-false, eq-eqb, ne_eqb}
use Rattle.std.proofs.lemmas.Int.{ints}
use Rattle.sched_model.specs.PlainMode.{task_at}
use Rattle.runtime_model.specs.Plans.{Plan, RightPlan, node_of, offset}
use Rattle.runtime_model.specs.Entries.{Action, task_ends}
use Rattle.runtime_model.specs.Outcomes.{PlainEvent, advance, Spot, Step, begun_run}
use Rattle.runtime_model.specs.LookingBack.{recall, runs}
use Rattle.runtime_model.specs.NodeTables.{part_of}
use Rattle.runtime_model.specs.Placement.{ends_run, ending_run_at}
use Rattle.runtime_model.specs.Registers.{RunSeen, out_register, value_of, last_end, last_run, flat, running}
use Rattle.runtime_model.specs.System.{System, plan_at}
use Rattle.runtime_model.specs.History.{history, step_of, spot_next, entry_at, performed, finished_or_not}
use Rattle.runtime_model.proofs.Cycles.{entry_right, RightAt}
use Rattle.runtime_model.proofs.Spots.{moves, stands}
use Rattle.runtime_model.proofs.Switches.{in_entries}
use Rattle.runtime_model.proofs.Times.{task_fits, offset_is}
use Rattle.runtime_model.proofs.OneRun.{some, in_progress}
use Rattle.runtime_model.proofs.OutRegisters.{same_mode}
use Rattle.runtime_model.proofs.Registers.{cond_some, recall_stay}
use Rattle.runtime_model.proofs.EndOfRun.{end_value, value_in, end_is_running}
use Rattle.node_tables.specs.declared.tables.NodeTable.{NodeTable}
use Rattle.node_tables.specs.declared.tables.OwnTask.{OwnTask}
use Rattle.node_tables.specs.Parts.{typed_table}
use Rattle.node_core.specs.Fits.{HasRoom}
use Rattle.node_core.specs.PartLookups.{PartLooksUp}
use Rattle.node_core.specs.Registers.{RegistersSeen, out_of, value_at_end, ended_with}
use Rattle.node_core.specs.Running.{RunningNode}
use Rattle.node_core.proofs.RegisterRules.{read_written}
use Rattle.world_core.specs.declared.state.State.{State}
use Rattle.world_core.specs.declared.state.State.TheVariants.{Listens, Syncs, Coasts}
use Rattle.world_core.specs.Happened.{told_at}
use Rattle.world_core.specs.NodeStates.{registers_of, running_of, value_now, after_end}
use Rattle.world_core.specs.Standing.{IsOn, by_number}
use Rattle.world_core.specs.WorldSteps.{end_told}
use Rattle.world_core.proofs.EntryNodes.{EntryNode}
use Rattle.world_core.proofs.RunSteps.{KeepsRuns, runs_kept, IsCalm, IsQuiet, quiet_runs, out_past, recall_now, recall_runs, run_over}

-- ---- numbers of tasks

-- two tasks of a right plan on one node have one offset only if they are one: else they would run at once
one_offset : (nodes : ℕ) (p : Plan) (a b : ℕ) → RightPlan nodes p → a < length p.mode.tasks → b < length p.mode.tasks → node_of p a ≡ node_of p b → offset p a ≡ offset p b → a ≡ b
one_offset nodes p a b ok la lb on e =
    ⊎_elim
    (λ (l : a < b). absurd (apart a b l la lb on e))
    (λ (ge : b ≤ a). ⊎_elim
    (λ (l : b < a). absurd (apart b a l lb la (sym on) (sym e)))
    (λ (le : a ≤ b). omega (arith, ge, le))
    (cases_lt b a))
    (cases_lt a b)
  where
    apart : (a b : ℕ) → a < b → a < length p.mode.tasks → b < length p.mode.tasks → node_of p a ≡ node_of p b → offset p a ≡ offset p b → ⊥
    apart a b l la lb on e =
        let fa = task_fits nodes p ok a la in
        let fb = task_fits nodes p ok b lb in
        let oa = offset_is nodes p ok a la in
        let ob = offset_is nodes p ok b lb in
        ⊎_elim (λ h. omega (arith, ints, h, oa, ob, e, fa.wcet)) (λ h. omega (arith, ints, h, oa, ob, e, fb.wcet)) (ok.right.s6 a b l lb on 0 0)

abbrev offset_of : Option OwnTask → ℤ
offset_of None = pos 0
offset_of (Some t) = t.offset

-- the numbers of the tasks of a node are apart
pub one_task : (y : System) (v m : ℕ) (p : Plan) (t : NodeTable) → RightPlan y.nodes p → PartLooksUp y.plans v m p t → (a b : ℕ) → IsOn p v a → IsOn p v b →
    (task_at p.mode a).number ≡ (task_at p.mode b).number → a ≡ b
one_task y v m p t ok part a b la lb e =
    let same = sym (part.task a la.0 la.1) ∙ ap (λ n. Rattle.node_core.specs.Lookup.own_task (Rattle.node_core.specs.Lookup.mode_at t m).tasks n) e ∙ part.task b lb.0 lb.1 in
    let offsets : pos (offset p a) ≡ pos (offset p b) = ap offset_of same in
    one_offset y.nodes p a b ok la.0 lb.0 (la.1 ∙ sym lb.1) (omega (arith, ints, offsets))

pub numbers_equal : (y : System) (v m : ℕ) (p : Plan) (t : NodeTable) → RightPlan y.nodes p → PartLooksUp y.plans v m p t → (a b : ℕ) → IsOn p v a → IsOn p v b →
    nat_eq (task_at p.mode a).number (task_at p.mode b).number ≡ nat_eq a b
numbers_equal y v m p t ok part a b la lb =
    by_test (nat_eq a b) refl
  where
    x : ℕ
    x = (task_at p.mode a).number

    z : ℕ
    z = (task_at p.mode b).number

    apart : (c : Bool) → nat_eq x z ≡ c → nat_eq a b ≡ false → c ≡ false
    apart true e f = absurd (let q : true ≡ false = sym (eq-eqb a b (one_task y v m p t ok part a b la lb (eqb-true x z e))) ∙ f in cc)
    apart false e f = refl

    by_test : (c : Bool) → nat_eq a b ≡ c → nat_eq x z ≡ c
    by_test true e = eq-eqb x z (ap (λ n. (task_at p.mode n).number) (eqb-true a b e))
    by_test false e = apart (nat_eq x z) refl e

-- ---- what a node answers to an end

-- the value by the run in progress
value_by_run : (n : State) (number : ℕ) → value_now n number ≡ value_at_end number (registers_of n).run
value_by_run (Listens t) number = refl
value_by_run (Syncs n) number = refl
value_by_run (Coasts n) number = refl

-- the registers by the run in progress
registers_by_run : (n : State) (number : ℕ) → registers_of (after_end n number) ≡ ended_with number (value_now n number) (registers_of n)
registers_by_run (Listens t) number = refl
registers_by_run (Syncs n) number = refl
registers_by_run (Coasts n) number = refl

-- a run in progress is of a task on its node
pub running_on : (y : System) (es : List PlainEvent) (v : ℕ) (r : RunSeen) → let s = spot_next y (history y es) in RightPlan y.nodes (plan_at y s.hyper.mode) →
    running v s.stay (history y es) ≡ Some r → IsOn (plan_at y s.hyper.mode) v r.task
running_on y es v r ok e =
    let ds = history y es in
    let s = spot_next y ds in
    let full = filled (recall v s.stay (last_run v) ds) e in
    let stay = recall_stay v s.stay (last_run v) ds (Some r) full in
    let mode = same_mode y ds s (moves y ds (stands y es)) (sym stay) in
    let h = in_progress y s.hyper.mode ok es s.stay v r mode full in
    (h.is_task, h.on)
  where
    filled : (o : Option (Option RunSeen)) → flat o ≡ Some r → o ≡ Some (Some r)
    filled None e = absurd (grind (arith, e))
    filled (Some q) e = ap (λ (z : Option RunSeen). Some z) e

module _ (y : System) (es : List PlainEvent) (a : ℕ) (ok : RightPlan y.nodes (plan_at y (spot_next y (history y es)).hyper.mode)) (act : (entry_at y (spot_next y (history y es))).action ≡ task_ends a) where
  abbrev ds : List Step
  ds = history y es

  abbrev s : Spot
  s = spot_next y ds

  abbrev p : Plan
  p = plan_at y s.hyper.mode

  abbrev u : ℕ
  u = (entry_at y s).tick

  abbrev v : ℕ
  v = node_of p a

  abbrev number : ℕ
  number = (task_at p.mode a).number

  pub end_on : IsOn p v a
  end_on =
      let inside = in_entries y ds s (moves y ds (stands y es)) (some y s.hyper.mode ok) in
      ((subst (λ (w : Action). RightAt p u w) act (entry_right y.nodes p s.index inside).1).0, refl)

  -- the outcome by the value
  pub end_out : (lost : ℕ) → (step_of y (advance lost) ds).out ≡ finished_or_not v a (ending_run_at p s.turn u a) (end_value y ds a)
  end_out lost = ap (λ (w : Action). performed y p s lost ds u w) act

  module _ (part : PartLooksUp y.plans v s.hyper.mode p (typed_table (part_of y.plans v))) where
    -- the node answers the value of the run that ends
    pub value_is : (n : State) → EntryNode y v ds n → value_now n number ≡ end_value y ds a
    value_is n at =
        value_by_run n number ∙ ap (value_at_end number) at.registers.run ∙ by_run (running v s.stay ds) refl ∙ sym (end_is_running y es a ok act)
      where
        by_run : (o : Option RunSeen) → running v s.stay ds ≡ o → value_at_end number (by_number p o) ≡ value_in a o
        by_run None e = refl
        by_run (Some r) e = ap (λ (b : Bool). cond b (Some r.value) None) (numbers_equal y v s.hyper.mode p (typed_table (part_of y.plans v)) ok part r.task a (running_on y es v r ok e) end_on)

    -- the end is performed, as a run with this value, exactly where the node answers it
    pub end_answers : (n : State) (lost : ℕ) → EntryNode y v ds n → (step_of y (advance lost) ds).out ≡ finished_or_not v a (ending_run_at p s.turn u a) (value_now n number)
    end_answers n lost at = end_out lost ∙ ap (finished_or_not v a (ending_run_at p s.turn u a)) (sym (value_is n at))

    pub end_happened : (n : State) (lost : ℕ) (now : ℤ) → EntryNode y v ds n → end_told now v number (value_now n number) ≡ told_at now p (step_of y (advance lost) ds).out
    end_happened n lost now at = by_value (value_now n number) ∙ ap (told_at now p) (sym (end_answers n lost at))
      where
        by_value : (o : Option ℤ) → end_told now v number o ≡ told_at now p (finished_or_not v a (ending_run_at p s.turn u a) o)
        by_value None = refl
        by_value (Some x) = refl

    -- ---- the registers after the end

    void_quiet : (w k : ℕ) → IsQuiet p w (finished_or_not v a k None)
    void_quiet w k = record { calm = record { beacon = refl; restart = refl }; outs = λ b on. refl; run = refl }

    -- of another node the end says nothing
    other_quiet : (w k : ℕ) (o : Option ℤ) → nat_eq v w ≡ false → IsQuiet p w (finished_or_not v a k o)
    other_quiet w k None e = void_quiet w k
    other_quiet w k (Some x) e = record {
      calm = record { beacon = refl; restart = refl };
      outs = λ b on. by_task b on (nat_eq a b) refl;
      run = cond-false (nat_eq v w) (Some None) None e;
    }
      where
        by_task : (b : ℕ) → IsOn p w b → (t : Bool) → nat_eq a b ≡ t → cond {A = Option (ℕ × ℤ)} t (Some (k, x)) None ≡ None
        by_task b on true t = absurd (let q : true ≡ false = sym (eq-eqb v w (ap (node_of p) (eqb-true a b t) ∙ on.1)) ∙ e in cc)
        by_task b on false t = refl

    runs_here : (x : ℤ) → end_value y ds a ≡ Some x → runs v ds ≡ true
    runs_here x e = recall_runs v s.stay (begun_run a (ending_run_at p s.turn u a)) ds x (cond_some (ends_run p s.turn u a) (recall v s.stay (begun_run a (ending_run_at p s.turn u a)) ds) x e).1

    -- the node of the end keeps the value in the out register of the task
    own_runs : (lost : ℕ) (g : RegistersSeen) (o : Option ℤ) → let k = ending_run_at p s.turn u a in let d = step_of y (advance lost) ds in
        end_value y ds a ≡ o → d.out ≡ finished_or_not v a k o → ((x : ℤ) → o ≡ Some x → number < length g.outs) → KeepsRuns p v s.stay ds g →
        KeepsRuns p v s.stay (d ∷ ds) (ended_with number o g)
    own_runs lost g None value out room keeps =
        quiet_runs p v (step_of y (advance lost) ds) ds g g (subst (IsQuiet p v) (sym out) (void_quiet v (ending_run_at p s.turn u a))) refl refl keeps
    own_runs lost g (Some x) value out room keeps =
        record {
          outs = λ b on. read (task_at p.mode b).number ∙ ap (λ t. cond t (Some x) (out_of g (task_at p.mode b).number)) (numbers_equal y v s.hyper.mode p (typed_table (part_of y.plans v)) ok part b a on end_on) ∙ by_task b on (nat_eq b a) refl;
          other_outs = λ m none. read m ∙ other m none (nat_eq m number) refl;
          run = ap (by_number p) (sym (run_over v d ds calm (ap (last_run v) out ∙ cond-true (nat_eq v v) (Some None) None (eq-eqb v v refl))));
        }
      where
        k : ℕ
        k = ending_run_at p s.turn u a

        d : Step
        d = step_of y (advance lost) ds

        calm : IsCalm v d.out
        calm = subst (IsCalm v) (sym out) (record { beacon = refl; restart = refl })

        read : (m : ℕ) → out_of (ended_with number (Some x) g) m ≡ cond (nat_eq m number) (Some x) (out_of g m)
        read m = read_written g.outs number m (Some x) None (room x refl)

        by_task : (b : ℕ) → IsOn p v b → (t : Bool) → nat_eq b a ≡ t → cond t (Some x) (out_of g (task_at p.mode b).number) ≡ value_of (out_register p s.stay b (d ∷ ds))
        by_task b on true t =
            let found = recall_now v (last_end a) d ds (k, x) calm (ap (last_end a) out ∙ cond-true (nat_eq a a) (Some (k, x)) None (eq-eqb a a refl)) (runs_here x value) in
            sym (ap (λ c. value_of (out_register p s.stay c (d ∷ ds))) (eqb-true b a t) ∙ ap value_of found)
        by_task b on false t =
            let apart : nat_eq a b ≡ false = ne_eqb a b (λ same. eqb-false b a t (sym same)) in
            keeps.outs b on ∙ ap value_of (sym (out_past p v b d ds calm on (ap (last_end b) out ∙ cond-false (nat_eq a b) (Some (k, x)) None apart)))

        other : (m : ℕ) → ((b : ℕ) → IsOn p v b → (task_at p.mode b).number ≢ m) → (t : Bool) → nat_eq m number ≡ t → cond t (Some x) (out_of g m) ≡ None
        other m none true t = absurd (none a end_on (sym (eqb-true m number t)))
        other m none false t = keeps.other_outs m none

    room_of : (n : State) → ((r : RunningNode) → running_of n ≡ Some r → HasRoom r.registers) → number < 1024 → (x : ℤ) → value_now n number ≡ Some x → number < length (registers_of n).outs
    room_of (Listens t) room small x e = absurd (grind (arith, e))
    room_of (Syncs r) room small x e = omega (arith, small, (room r refl).outs)
    room_of (Coasts r) room small x e = omega (arith, small, (room r refl).outs)

    -- the registers of runs of node w after the end
    pub end_runs : (w : ℕ) (n : State) (lost : ℕ) → EntryNode y w ds n → ((r : RunningNode) → running_of n ≡ Some r → HasRoom r.registers) → number < 1024 →
        KeepsRuns p w s.stay (step_of y (advance lost) ds ∷ ds) (registers_of (cond (nat_eq v w) (after_end n number) n))
    end_runs w n lost at room small = by_test (nat_eq v w) refl
      where
        d : Step
        d = step_of y (advance lost) ds

        by_test : (b : Bool) → nat_eq v w ≡ b → KeepsRuns p w s.stay (d ∷ ds) (registers_of (cond b (after_end n number) n))
        by_test false e =
            quiet_runs p w d ds (registers_of n) (registers_of n) (subst (IsQuiet p w) (sym (end_out lost)) (other_quiet w (ending_run_at p s.turn u a) (end_value y ds a) e)) refl refl (runs_kept p w s.stay ds (registers_of n) at.registers)
        by_test true e =
            let same = eqb-true v w e in
            let here = subst (λ z. EntryNode y z ds n) (sym same) at in
            let value = value_is n here in
            subst (λ z. KeepsRuns p z s.stay (d ∷ ds) (registers_of (after_end n number))) same
            (subst (KeepsRuns p v s.stay (d ∷ ds)) (sym (registers_by_run n number))
            (own_runs lost (registers_of n) (value_now n number) (sym value) (end_answers n lost here) (room_of n room small) (runs_kept p v s.stay ds (registers_of n) here.registers)))
