-- The registers of runs, of node v: its out registers and its run in progress, over an event that is no beacon
use Rattle.std.proofs.Common.{◌≡◌, ◌≢◌, ℕ, Bool, true, false, cond, ◌&&◌, List, [], ◌∷◌, refl, sym, ◌∙◌, ap, subst, arith, ℤ}
use Rattle.std.specs.Prelude.{nat_eq, slice_index_or, Option, Some, None}
use Rattle.std.proofs.lemmas.Bool.{eq-eqb}
use Rattle.sched_model.specs.PlainMode.{task_at}
use Rattle.runtime_model.specs.Plans.{Plan}
use Rattle.runtime_model.specs.Entries.{Action, slot}
use Rattle.runtime_model.specs.Outcomes.{advance, Spot, Outcome, Step, is_beacon, restarts}
use Rattle.runtime_model.specs.LookingBack.{recall, or_else, runs}
use Rattle.runtime_model.specs.Packets.{packet}
use Rattle.runtime_model.specs.Registers.{RunSeen, out_register, value_of, last_end, last_run, flat, running}
use Rattle.runtime_model.specs.System.{System, plan_at}
use Rattle.runtime_model.specs.History.{step_of, spot_next, entry_at, performed, sent_or_not}
use Rattle.runtime_model.proofs.Registers.{still_runs}
use Rattle.node_tables.specs.declared.tables.OwnMessage.{OwnMessage}
use Rattle.node_core.specs.declared.packet.Packet.{Packet}
use Rattle.node_core.specs.Registers.{RegistersSeen, out_of, filled}
use Rattle.node_core.specs.Rules.{copy_of_slot, message_of_slot, registers_with, takes_copy}
use Rattle.world_core.specs.declared.state.State.{State}
use Rattle.world_core.specs.declared.state.State.TheVariants.{Listens, Syncs, Coasts}
use Rattle.world_core.specs.NodeStates.{registers_of, after_packet}
use Rattle.world_core.specs.Standing.{IsOn, KeepsRegisters, by_number}

-- the out registers and the run in progress, as they are read off the stay
pub record KeepsRuns (p : Plan) (v stay : ℕ) (ds : List Step) (g : RegistersSeen) : Type 0 where
  pub outs : (a : ℕ) → IsOn p v a → out_of g (task_at p.mode a).number ≡ value_of (out_register p stay a ds)
  pub other_outs : (number : ℕ) → ((a : ℕ) → IsOn p v a → (task_at p.mode a).number ≢ number) → out_of g number ≡ None
  pub run : g.run ≡ by_number p (running v stay ds)

pub runs_kept : (p : Plan) (v stay : ℕ) (ds : List Step) (g : RegistersSeen) → KeepsRegisters p v stay ds g → KeepsRuns p v stay ds g
runs_kept p v stay ds g k = record { outs = k.outs; other_outs = k.other_outs; run = k.run }

-- ---- looking back over one event

-- no beacon, and no restart of node v
pub record IsCalm (v : ℕ) (o : Outcome) : Type 0 where
  pub beacon : is_beacon o ≡ false
  pub restart : restarts v o ≡ false

-- where the node does not run nothing is found
recall_off : {X : Type 0} (v stay : ℕ) (f : Outcome → Option X) (ds : List Step) → runs v ds ≡ false → recall v stay f ds ≡ None
recall_off v stay f [] e = refl
recall_off {X} v stay f (d ∷ ds) e = ap (λ (b : Bool). cond {A = Option X} (b && nat_eq d.spot.stay stay) (or_else (f d.out) (recall v stay f ds)) None) e

recall_by : {X : Type 0} (v : ℕ) (f : Outcome → Option X) (d : Step) (ds : List Step) → IsCalm v d.out →
    recall v d.spot.stay f (d ∷ ds) ≡ cond (runs v ds) (or_else (f d.out) (recall v d.spot.stay f ds)) None
recall_by {X} v f d ds c =
    let st = d.spot.stay in
    ap (λ (b : Bool). cond {A = Option X} (b && nat_eq st st) (or_else (f d.out) (recall v st f ds)) None) (still_runs v d ds c.restart c.beacon)
    ∙ ap (λ (b : Bool). cond {A = Option X} (runs v ds && b) (or_else (f d.out) (recall v st f ds)) None) (eq-eqb st st refl)
    ∙ by_test (runs v ds) (or_else (f d.out) (recall v st f ds))
  where
    by_test : (b : Bool) (o : Option X) → cond (b && true) o None ≡ cond b o None
    by_test true o = refl
    by_test false o = refl

-- an event that gives nothing leaves what is found
pub recall_past : {X : Type 0} (v : ℕ) (f : Outcome → Option X) (d : Step) (ds : List Step) → IsCalm v d.out → f d.out ≡ None →
    recall v d.spot.stay f (d ∷ ds) ≡ recall v d.spot.stay f ds
recall_past {X} v f d ds c e =
    let r = recall v d.spot.stay f ds in
    recall_by v f d ds c ∙ ap (λ (o : Option X). cond (runs v ds) (or_else o r) None) e ∙ by_test (runs v ds) refl
  where
    by_test : (b : Bool) → runs v ds ≡ b → cond b (recall v d.spot.stay f ds) None ≡ recall v d.spot.stay f ds
    by_test true t = refl
    by_test false t = sym (recall_off v d.spot.stay f ds t)

-- one that gives something is found, where the node runs
pub recall_now : {X : Type 0} (v : ℕ) (f : Outcome → Option X) (d : Step) (ds : List Step) (x : X) → IsCalm v d.out → f d.out ≡ Some x → runs v ds ≡ true →
    recall v d.spot.stay f (d ∷ ds) ≡ Some x
recall_now {X} v f d ds x c e t =
    let r = recall v d.spot.stay f ds in
    recall_by v f d ds c ∙ ap (λ (o : Option X). cond (runs v ds) (or_else o r) None) e ∙ ap (λ (b : Bool). cond {A = Option X} b (Some x) None) t

-- what finds something finds it on a node that runs
pub recall_runs : {X : Type 0} (v stay : ℕ) (f : Outcome → Option X) (ds : List Step) (x : X) → recall v stay f ds ≡ Some x → runs v ds ≡ true
recall_runs {X} v stay f ds x e = by_test (runs v ds) refl
  where
    by_test : (b : Bool) → runs v ds ≡ b → b ≡ true
    by_test true t = refl
    by_test false t = absurd (let q : ◌≡◌ {A = Option X} None (Some x) = sym (recall_off v stay f ds t) ∙ e in grind (arith, q))

-- an event that ends the run in progress
pub run_over : (v : ℕ) (d : Step) (ds : List Step) → IsCalm v d.out → last_run v d.out ≡ Some None → running v d.spot.stay (d ∷ ds) ≡ None
run_over v d ds c e =
    ap flat (recall_by v (last_run v) d ds c) ∙ ap (λ o. flat (cond (runs v ds) (or_else o (recall v d.spot.stay (last_run v) ds)) None)) e ∙ by_test (runs v ds)
  where
    by_test : (b : Bool) → flat {X = RunSeen} (cond b (Some None) None) ≡ None
    by_test true = refl
    by_test false = refl

-- ---- an event that says nothing of the runs of a node

pub record IsQuiet (p : Plan) (v : ℕ) (o : Outcome) : Type 0 where
  pub calm : IsCalm v o
  pub outs : (a : ℕ) → IsOn p v a → last_end a o ≡ None
  pub run : last_run v o ≡ None

-- the out register of a task on the node
pub out_past : (p : Plan) (v a : ℕ) (d : Step) (ds : List Step) → IsCalm v d.out → IsOn p v a → last_end a d.out ≡ None → out_register p d.spot.stay a (d ∷ ds) ≡ out_register p d.spot.stay a ds
out_past p v a d ds c on e =
    let st = d.spot.stay in
    ap (λ w. recall w st (last_end a) (d ∷ ds)) on.1 ∙ recall_past v (last_end a) d ds c e ∙ sym (ap (λ w. recall w st (last_end a) ds) on.1)

pub quiet_runs : (p : Plan) (v : ℕ) (d : Step) (ds : List Step) (g new : RegistersSeen) → IsQuiet p v d.out → new.outs ≡ g.outs → new.run ≡ g.run →
    KeepsRuns p v d.spot.stay ds g → KeepsRuns p v d.spot.stay (d ∷ ds) new
quiet_runs p v d ds g new q outs run k =
    let same = λ (number : ℕ). ap (λ (xs : List (Option ℤ)). slice_index_or xs number None) outs in
    record {
      outs = λ a on. same (task_at p.mode a).number ∙ k.outs a on ∙ ap value_of (sym (out_past p v a d ds q.calm on (q.outs a on)));
      other_outs = λ number none. same number ∙ k.other_outs number none;
      run = run ∙ k.run ∙ ap (λ o. by_number p (flat o)) (sym (recall_past v (last_run v) d ds q.calm q.run));
    }

-- ---- slots

-- a packet, and silence
sent_quiet : (p : Plan) (nodes v : ℕ) (s : Spot) (j i : ℕ) (ds : List Step) (o : Option (List ℤ)) (lost : ℕ) → IsQuiet p v (sent_or_not p nodes s j i ds o lost)
sent_quiet p nodes v s j i ds None lost = record { calm = record { beacon = refl; restart = refl }; outs = λ a on. refl; run = refl }
sent_quiet p nodes v s j i ds (Some xs) lost = record { calm = record { beacon = refl; restart = refl }; outs = λ a on. refl; run = refl }

-- a slot leaves the registers of runs of each node
pub slot_runs : (y : System) (ds : List Step) (lost v j i : ℕ) (g new : RegistersSeen) → let s = spot_next y ds in let p = plan_at y s.hyper.mode in
    (entry_at y s).action ≡ slot j i → new.outs ≡ g.outs → new.run ≡ g.run → KeepsRuns p v s.stay ds g → KeepsRuns p v s.stay (step_of y (advance lost) ds ∷ ds) new
slot_runs y ds lost v j i g new act outs run k =
    let s = spot_next y ds in
    let e = entry_at y s in
    let p = plan_at y s.hyper.mode in
    let out = ap (λ (w : Action). performed y p s lost ds e.tick w) act in
    quiet_runs p v (step_of y (advance lost) ds) ds g new (subst (IsQuiet p v) (sym out) (sent_quiet p y.nodes v s j i ds (packet p s j i ds) lost)) outs run k

-- a packet fills in registers alone
packet_fills : (copy : ℕ) (o : Option OwnMessage) (x : Packet) (g : RegistersSeen) → ((registers_with copy o x g).outs ≡ g.outs) × ((registers_with copy o x g).run ≡ g.run)
packet_fills copy None x g = (refl, refl)
packet_fills copy (Some m) x g = by_test (takes_copy g copy m)
  where
    by_test : (b : Bool) → ((cond b (filled m x.values g) g).outs ≡ g.outs) × ((cond b (filled m x.values g) g).run ≡ g.run)
    by_test true = (refl, refl)
    by_test false = (refl, refl)

pub after_packet_runs : (n : State) (number : ℕ) (x : Packet) → let old = registers_of n in let new = registers_of (after_packet n number x) in (new.outs ≡ old.outs) × (new.run ≡ old.run)
after_packet_runs (Listens t) number x = (refl, refl)
after_packet_runs (Syncs n) number x = packet_fills (copy_of_slot n number) (message_of_slot n number) x n.registers
after_packet_runs (Coasts n) number x = (refl, refl)
