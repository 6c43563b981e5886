-- Steps that leave a node's kind and what it keeps: no beacon, and no restart of it
use Rattle.std.proofs.Common.{◌≡◌, ℕ, ◌<◌, Bool, true, false, cond, ◌&&◌, ◌||◌, List, [], ◌∷◌, ℤ, get_or, refl, sym, ◌∙◌, ap, subst, arith, ⊎_elim}
use Rattle.std.specs.Prelude.{nat_eq, Option, Some, None, replicate}
use Rattle.std.proofs.lemmas.Bool.{cases_Bool, cases_lt, cond-false, eq-eqb}
use Rattle.std.proofs.lemmas.List.{get_or_past, get_or-replicate, length-replicate}
use Rattle.runtime_model.specs.Outcomes.{Outcome, Spot, Step, advance, begun_run, beaconed, sent, silent, started, off, finished, void, requested, restarted, is_beacon, hears, restarts, announces}
use Rattle.runtime_model.specs.LookingBack.{synced, settled, coasts, runs, recall, or_else, heard_by, last_heard, last_beacon}
use Rattle.runtime_model.specs.NodeKinds.{NodeKind, listening, in_sync, coasting, missed, next_kind, kind_by}
use Rattle.runtime_model.specs.Entries.{Action, task_ends, beacon, slot, task_starts}
use Rattle.runtime_model.specs.Plans.{Plan, node_of}
use Rattle.runtime_model.specs.Placement.{placed, own_start, ends_run, ending_run_at}
use Rattle.runtime_model.specs.Packets.{packet}
use Rattle.runtime_model.specs.System.{System, plan_at}
use Rattle.runtime_model.specs.History.{step_of, spot_next, entry_at, performed, finished_or_not, sent_or_not, start_or_not}
use Rattle.runtime_model.specs.Script.{opens_round}
use Rattle.runtime_model.proofs.Beacons.{outcome_is}
use Rattle.runtime_model.specs.Registers.{last_end, last_in, last_run, value_of, values_of, flat}
use Rattle.runtime_model.proofs.NodeKinds.{kinds_follow}
use Rattle.runtime_model.proofs.Registers.{still_runs}
use Rattle.node_tables.specs.declared.tables.OwnMessage.{OwnMessage}
use Rattle.node_core.specs.Registers.{RegistersSeen, InRow, no_registers, no_outs, no_ins, out_of, row_of, register_in, register_of}
use Rattle.sched_model.specs.PlainMode.{task_at}
use Rattle.node_core.specs.PartLookups.{kept_message}
use Rattle.node_core.specs.Lookup.{consumer_place}
use Rattle.world_core.specs.Standing.{KeepsRegisters, by_number}

-- ---- a node's kind after one more step

pub kind_next : (v : ℕ) (d : Step) (ds : List Step) →
    kind_by (synced v (d ∷ ds)) (settled v (d ∷ ds)) (coasts v (d ∷ ds)) ≡ next_kind v d (kind_by (synced v ds) (settled v ds) (coasts v ds))
kind_next v d ds = sym (kinds_follow v (d ∷ ds)) ∙ ap (next_kind v d) (kinds_follow v ds)

-- a node runs unless it is Listening
abbrev pub is_running : NodeKind → Bool
is_running listening = false
is_running (in_sync b) = true
is_running coasting = true

pub runs_by_kind : (v : ℕ) (ds : List Step) (k : NodeKind) → k ≡ kind_by (synced v ds) (settled v ds) (coasts v ds) → runs v ds ≡ is_running k
runs_by_kind v ds k e = by_tests (synced v ds) (settled v ds) (coasts v ds) ∙ ap is_running (sym e)
  where
    by_tests : (h c m : Bool) → (h || m) ≡ is_running (kind_by h c m)
    by_tests true c m = refl
    by_tests false c true = refl
    by_tests false c false = refl

-- ---- quiet steps

pub record Quiet (v : ℕ) (o : Outcome) : Type 0 where
  pub no_beacon : is_beacon o ≡ false
  pub up : restarts v o ≡ false

pub quiet_kind : (v : ℕ) (d : Step) (ds : List Step) → Quiet v d.out → kind_by (synced v (d ∷ ds)) (settled v (d ∷ ds)) (coasts v (d ∷ ds)) ≡ kind_by (synced v ds) (settled v ds) (coasts v ds)
quiet_kind v d ds q =
    let k = kind_by (synced v ds) (settled v ds) (coasts v ds) in
    kind_next v d ds
    ∙ cond-false (restarts v d.out) listening (cond (is_beacon d.out) (cond (hears v d.out) (in_sync (announces d)) (missed k)) k) q.up
    ∙ cond-false (is_beacon d.out) (cond (hears v d.out) (in_sync (announces d)) (missed k)) k q.no_beacon

nothing_heard : (v : ℕ) (o : Outcome) → is_beacon o ≡ false → heard_by v o ≡ None
nothing_heard v (beaconed b hs) e = absurd cc
nothing_heard v (sent w i k xs ts) e = refl
nothing_heard v (silent i) e = refl
nothing_heard v (started w a k ins x) e = refl
nothing_heard v (off w a) e = refl
nothing_heard v (finished w a k x) e = refl
nothing_heard v (void w a) e = refl
nothing_heard v (requested m) e = refl
nothing_heard v (restarted w) e = refl

pub quiet_heard : (v : ℕ) (d : Step) (ds : List Step) → is_beacon d.out ≡ false → last_heard v (d ∷ ds) ≡ last_heard v ds
quiet_heard v d ds e = ap (λ o. or_else o (last_heard v ds)) (nothing_heard v d.out e)

pub quiet_last : (d : Step) (ds : List Step) → is_beacon d.out ≡ false → last_beacon (d ∷ ds) ≡ last_beacon ds
quiet_last d ds e = cond-false (is_beacon d.out) (Some d) (last_beacon ds) e

-- an entry restarts no node, and only a beacon's entry is a beacon
pub never_restarts : (y : System) (p : Plan) (s : Spot) (lost v : ℕ) (ds : List Step) (u : ℕ) (w : Action) → restarts v (performed y p s lost ds u w) ≡ false
never_restarts y p s lost v ds u (task_ends a) = of_end (cond (ends_run p s.turn u a) (recall (node_of p a) s.stay (begun_run a (ending_run_at p s.turn u a)) ds) None)
  where
    of_end : (o : Option ℤ) → restarts v (finished_or_not (node_of p a) a (ending_run_at p s.turn u a) o) ≡ false
    of_end None = refl
    of_end (Some x) = refl
never_restarts y p s lost v ds u (beacon j) = refl
never_restarts y p s lost v ds u (slot j i) = of_slot (packet p s j i ds)
  where
    of_slot : (o : Option (List ℤ)) → restarts v (sent_or_not p y.nodes s j i ds o lost) ≡ false
    of_slot None = refl
    of_slot (Some x) = refl
never_restarts y p s lost v ds u (task_starts a) = of_start (placed s.hyper.opening s.hyper.phase (own_start p u a) && runs (node_of p a) ds)
  where
    of_start : (o : Bool) → restarts v (start_or_not y p s ds a u o) ≡ false
    of_start true = refl
    of_start false = refl

pub quiet_entry : (y : System) (v lost : ℕ) (ds : List Step) → opens_round (entry_at y (spot_next y ds)).action ≡ false → Quiet v (step_of y (advance lost) ds).out
quiet_entry y v lost ds e =
    let s = spot_next y ds in
    let entry = entry_at y s in
    record { no_beacon = outcome_is y (plan_at y s.hyper.mode) s lost ds entry.tick entry.action ∙ e; up = never_restarts y (plan_at y s.hyper.mode) s lost v ds entry.tick entry.action }

-- ---- looks back

-- a node that does not run has nothing
pub stopped : {X : Type 0} (v stay : ℕ) (f : Outcome → Option X) (ds : List Step) → runs v ds ≡ false → recall v stay f ds ≡ None
stopped v stay f [] e = refl
stopped {X = X} v stay f (d ∷ ds) e = ap (λ (b : Bool). cond (b && nat_eq d.spot.stay stay) (or_else (f d.out) (recall v stay f ds)) None) e

-- a step of the stay after which the node runs, and which gives nothing, leaves what is found
pub recall_on : {X : Type 0} (v stay : ℕ) (f : Outcome → Option X) (d : Step) (ds : List Step) → runs v (d ∷ ds) ≡ true → d.spot.stay ≡ stay → f d.out ≡ None →
    recall v stay f (d ∷ ds) ≡ recall v stay f ds
recall_on {X = X} v stay f d ds r e n = by_tests (runs v (d ∷ ds)) (nat_eq d.spot.stay stay) (f d.out) (recall v stay f ds) r (eq-eqb d.spot.stay stay e) n
  where
    by_tests : (r e : Bool) (o w : Option X) → r ≡ true → e ≡ true → o ≡ None → cond (r && e) (or_else o w) None ≡ w
    by_tests true true None w a b c = refl
    by_tests true true (Some x) w a b c = absurd cc
    by_tests true false o w a b c = absurd cc
    by_tests false e o w a b c = absurd cc

pub recall_quiet : {X : Type 0} (v stay : ℕ) (f : Outcome → Option X) (d : Step) (ds : List Step) → Quiet v d.out → d.spot.stay ≡ stay → f d.out ≡ None →
    recall v stay f (d ∷ ds) ≡ recall v stay f ds
recall_quiet v stay f d ds q e n =
    let same = still_runs v d ds q.up q.no_beacon in
    ⊎_elim
    (λ (r : runs v ds ≡ true). recall_on v stay f d ds (same ∙ r) e n)
    (λ (r : runs v ds ≡ false). stopped v stay f (d ∷ ds) (same ∙ r) ∙ sym (stopped v stay f ds r))
    (cases_Bool (runs v ds))

-- ---- registers

-- registers stand where nothing else is found
pub registers_stand : (p : Plan) (v stay : ℕ) (ds ds' : List Step) (g : RegistersSeen) →
    ((a : ℕ) → recall v stay (last_end a) ds' ≡ recall v stay (last_end a) ds) →
    ((b i : ℕ) → recall v stay (last_in v b i) ds' ≡ recall v stay (last_in v b i) ds) →
    recall v stay (last_run v) ds' ≡ recall v stay (last_run v) ds →
    KeepsRegisters p v stay ds g → KeepsRegisters p v stay ds' g
registers_stand p v stay ds ds' g ends ins run k =
    record {
      outs = λ a on. k.outs a on ∙ ap value_of (subst (λ (w : ℕ). recall w stay (last_end a) ds ≡ recall w stay (last_end a) ds') (sym on.1) (sym (ends a)));
      other_outs = k.other_outs;
      ins = λ b i on l c. k.ins b i on l c
          ∙ ap (λ z. values_of (flat z)) (subst (λ (w : ℕ). recall w stay (last_in w b i) ds ≡ recall w stay (last_in w b i) ds') (sym on.1) (sym (ins b i)));
      other_ins = k.other_ins;
      run = k.run ∙ ap (λ z. by_number p (flat z)) (sym run);
    }

all_default : {X : Type 0} (n i : ℕ) (x : X) → get_or (replicate n x) i x ≡ x
all_default n i x =
    ⊎_elim (λ (l : i < n). get_or-replicate n i x x l) (λ l. get_or_past (replicate n x) i x (omega (arith, l, length-replicate n x))) (cases_lt i n)

no_out : (number : ℕ) → out_of no_registers number ≡ None
unfolding no_outs
no_out number = all_default 1024 number None

no_row : (number : ℕ) → row_of no_ins number ≡ []
unfolding no_ins
no_row number = all_default 512 number []

no_in : (number c : ℕ) → get_or (row_of no_ins number) c None ≡ None
no_in number c = ap (λ (row : InRow). get_or row c None) (no_row number)

no_register : (task : ℕ) (m : OwnMessage) → register_of no_ins task m ≡ None
no_register task m = by_place (consumer_place task m)
  where
    by_place : (o : Option ℕ) → register_in no_ins m o ≡ None
    by_place None = refl
    by_place (Some c) = no_in m.number c

-- empty registers stand where nothing is found
pub none_stand : (p : Plan) (v stay : ℕ) (ds : List Step) →
    ((a : ℕ) → recall v stay (last_end a) ds ≡ None) → ((b i : ℕ) → recall v stay (last_in v b i) ds ≡ None) → recall v stay (last_run v) ds ≡ None →
    KeepsRegisters p v stay ds no_registers
none_stand p v stay ds ends ins run =
    record {
      outs = λ a on. no_out (task_at p.mode a).number ∙ ap value_of (subst (λ (w : ℕ). None ≡ recall w stay (last_end a) ds) (sym on.1) (sym (ends a)));
      other_outs = λ number h. no_out number;
      ins = λ b i on l c. no_register (task_at p.mode b).number (kept_message p v i)
          ∙ ap (λ z. values_of (flat z)) (subst (λ (w : ℕ). None ≡ recall w stay (last_in w b i) ds) (sym on.1) (sym (ins b i)));
      other_ins = λ number h c. no_in number c;
      run = ap (λ z. by_number p (flat z)) (sym run);
    }

-- those of a node that does not run
pub stopped_registers : (p : Plan) (v stay : ℕ) (ds : List Step) → runs v ds ≡ false → KeepsRegisters p v stay ds no_registers
stopped_registers p v stay ds r = none_stand p v stay ds (λ a. stopped v stay (last_end a) ds r) (λ b i. stopped v stay (last_in v b i) ds r) (stopped v stay (last_run v) ds r)
