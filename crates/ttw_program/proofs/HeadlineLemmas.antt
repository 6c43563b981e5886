-- Why the headline holds
use Rattle.std.proofs.Common.{◌≡◌, ◌⊎◌, ℕ, ◌&&◌, Bool, true, false, cond, nat_eq, List, [], ◌∷◌, Option, Some, None, refl, sym, ◌∙◌, ap, subst, inl, inr}
use Rattle.std.specs.Prelude.{if◌then◌else◌, option_map, is_some, ℤ, slice_index_or}
use Rattle.std.specs.List.{AllZip, list_all}
use Rattle.std.proofs.lemmas.Bool.{eqb-true, and_parts}
use Rattle.ttw_io.specs.Outside.{Told, untold, missing, file, OfFile}
use Rattle.app_graph.specs.Rules.{Rule}
use Rattle.app_graph.specs.Validation.{KeepsRules}
use Rattle.app_graph.specs.ValueRules.{value_rules}
use Rattle.app_graph.specs.declared.faults.GraphFault.{GraphFault}
use Rattle.app_graph.specs.declared.mode_set.ModeSet.{ModeSet}
use Rattle.app_graph.proofs.Kept.{all_kept}
use Rattle.mode_file.specs.Faults.{of_graph}
use Rattle.mode_file.specs.Reading.{Reads, entering_rules, raw_of}
use Rattle.mode_file.proofs.OneReading.{one_reading}
use Rattle.sched_model.specs.PlainMode.{message_at}
use Rattle.sched_model.specs.declared.schedule.Schedule.{Schedule}
use Rattle.proof_tree.specs.Accepting.{Accepts, DocMode, IsRight, doc_modes}
use Rattle.proof_tree.specs.Fewest.{IsBest}
use Rattle.proof_tree.proofs.DocumentAnswers.{accepted_are_best, one_answers}
use Rattle.proof_tree.specs.Reading.{Refusal}
use Rattle.proof_tree.specs.Refusing.{Refuses}
use Rattle.task_body.specs.Body.{BodySeen}
use Rattle.node_core.specs.declared.packet.Packet.{Packet}
use Rattle.replay_script.specs.declared.line.Line.{Line}
use Rattle.replay_script.proofs.LongTexts.{faultless_fits}
use Rattle.replay_script.specs.Fitting.{FitsScript}
use Rattle.runtime_model.specs.History.{history, spot_next}
use Rattle.runtime_model.specs.LookingBack.{synced}
use Rattle.runtime_model.specs.Outcomes.{PlainEvent, Spot, Step}
use Rattle.runtime_model.specs.Packets.{packet, held}
use Rattle.runtime_model.specs.Placement.{placed, own_slot, window_at}
use Rattle.runtime_model.specs.Plans.{Plan, AreSchedules, sender_of}
use Rattle.runtime_model.specs.Laws.{RequestsFit}
use Rattle.runtime_model.specs.System.{plan_at}
use Rattle.runtime_model.proofs.RightSets.{kept_sets_have_right_plans}
use Rattle.runtime_model.proofs.SlotBeacon.{slots_follow_beacons}
use Rattle.world_core.specs.Cycle.{slot_of}
use Rattle.world_core.specs.Laws.{with_values}
use Rattle.world_core.specs.StandsFor.{StandsFor, system_with}
use Rattle.world_core.specs.Worlds.{WorldSeen}
use Rattle.world_core.proofs.OneSenders.{one_sender}
use Rattle.replayer.proofs.Fronts.{fits_back}
use Rattle.replayer.proofs.Lengths.{scripts_are_short}
use Rattle.ttw_program.specs.Commands.{Command}
use Rattle.ttw_program.specs.Due.{OfCommand, PlanDue}
use Rattle.file_answers.specs.Due.{OfSet}
use Rattle.ttw_program.specs.Headline.{HasFewest, HasOneSender, Headline, IsCertified, IsSafeReplay, PlanHolds, ReplayHolds}
use Rattle.file_answers.specs.PlanFiles.{IsRefused, OfPlan, OfSchedules}
use Rattle.ttw_program.specs.Plans.{SpendsFirst}
use Rattle.ttw_program.specs.Replays.{IsTrace, ReplayDue, TraceDue}
use Rattle.ttw_program.specs.ScriptFiles.{OfScript}
use Rattle.file_answers.specs.declared.status.Status.{Status}
use Rattle.file_answers.specs.declared.status.Status.TheVariants.{Done, NoSchedule, Budget}
use Rattle.ttw_program.proofs.PlanAnswers.{within_parts}
use Rattle.ttw_program.proofs.TableAnswers.{schedules_right}

-- ---- mode files

none_before : (r : Rule GraphFault) → option_map of_graph r ≡ None → r ≡ None
none_before None e = refl
none_before (Some fault) e = absurd cc

-- the set that a file says keeps the rules
pub reads_keep : (bytes : List ℕ) (set : ModeSet) → Reads bytes set → KeepsRules set
reads_keep bytes set (kept, is) =
    (raw_of bytes, none_before (value_rules (raw_of bytes)) (all_kept (entering_rules bytes ∷ option_map of_graph (value_rules (raw_of bytes)) ∷ []) kept).1.0, is)

-- what is due of the bytes of a file is due of the set that they say
of_reading : (D : ModeSet → Status → List ℕ → Type 0) (bytes : List ℕ) (set : ModeSet) (s : Status) (t : List ℕ) → Reads bytes set → OfSet D bytes s t → D set s t
of_reading D bytes set s t reads (inl (fault, broken, es, et)) = absurd ((one_reading bytes).not_both set fault reads broken)
of_reading D bytes set s t reads (inr (other, says, d)) = subst (λ (m : ModeSet). D m s t) ((one_reading bytes).one_set other set says reads) d

-- ---- plans

pub accepted_once : (set : ModeSet) (bytes : List ℕ) (p q : List (Option Schedule)) → KeepsRules set → Accepts set bytes p → Accepts set bytes q → p ≡ q
accepted_once set bytes p q keeps a b = elim (one_answers set bytes keeps) [
  | inl x ↦ x.0.2 p a ∙ sym (x.0.2 q b)
  | inr x ↦ absurd (x.1 p a)
]

not_refused : (set : ModeSet) (bytes : List ℕ) (p : List (Option Schedule)) (f : Refusal) → KeepsRules set → Accepts set bytes p → Refuses set bytes f → ⊥
not_refused set bytes p f keeps a b = elim (one_answers set bytes keeps) [
  | inl x ↦ x.1 f b
  | inr x ↦ x.1 p a
]

pub taken : (set : ModeSet) (bytes : List ℕ) (p : List (Option Schedule)) → KeepsRules set → Accepts set bytes p → (s : Status) (t : List ℕ) → IsRefused set bytes s t → ⊥
taken set bytes p keeps a s t (f, b, es, et) = not_refused set bytes p f keeps a b

fewest : (ds : List DocMode) (plans : List (Option Schedule)) → AllZip IsRight ds plans → AllZip IsBest ds plans → AllZip HasFewest ds plans
fewest [] [] right best = tt
fewest [] (p ∷ plans) right best = absurd right
fewest (d ∷ ds) [] right best = absurd right
fewest (d ∷ ds) (None ∷ plans) right best = (best.0, fewest ds plans right.1 best.1)
fewest (d ∷ ds) (Some s ∷ plans) right best = ((right.0, best.0), fewest ds plans right.1 best.1)

of_test : (b : Bool) → ((if b then Done else NoSchedule) ≡ Done) ⊎ ((if b then Done else NoSchedule) ≡ NoSchedule)
of_test true = inl refl
of_test false = inr refl

of_plan : (set : ModeSet) (budget : ℕ) (s : Status) (t : List ℕ) → KeepsRules set → PlanDue budget set s t →
    (((s ≡ Done) ⊎ (s ≡ NoSchedule)) × IsCertified set budget t)
    ⊎ ((s ≡ Budget) × ((mode : ℕ) × (rounds : ℕ) × SpendsFirst set budget mode rounds))
of_plan set budget s t keeps (inl (parts, all, es, et, own)) =
    let best = accepted_are_best set t own.plans keeps own.accepted in
    inl (
      subst (λ (x : Status). (x ≡ Done) ⊎ (x ≡ NoSchedule)) (sym es) (of_test (list_all (λ part. is_some part.schedule) parts)),
      record {
        plans = own.plans;
        fewest = fewest (doc_modes set) own.plans own.accepted.right best;
        accepted = own.accepted;
        no_other = λ others a. accepted_once set t others own.plans keeps a own.accepted;
        checked = inr (own.plans, (own.accepted, best), (refl, refl));
        taken = taken set t own.plans keeps own.accepted;
        within = within_parts set budget set.modes parts all;
      },
    )
of_plan set budget s t keeps (inr (mode, rounds, spends, es, et)) = inr (es, (mode, rounds, spends))

plan_holds : PlanHolds
plan_holds words name budget told bodies bytes set s t is has reads due =
    let d = subst (λ (c : Command). OfCommand c told bodies s t) is due in
    let f = subst (λ (k : Told). OfFile k (OfSet (PlanDue budget)) s t) has d in
    of_plan set budget s t (reads_keep bytes set reads) (of_reading (PlanDue budget) bytes set s t reads f)

-- ---- slots

chosen : {X : Type 0} (b : Bool) (o : Option X) (x : X) → cond b o None ≡ Some x → (b ≡ true) × (o ≡ Some x)
chosen true o x e = (refl, e)
chosen false o x e = absurd (let n : None ≡ Some x = e in cc)

valued : (number : ℕ) (o : Option (List ℤ)) (a : Packet) → with_values number o ≡ Some a → ((xs : List ℤ) × (o ≡ Some xs)) × (a.message ≡ number)
valued number None a e = absurd (let n : None ≡ Some a = e in cc)
valued number (Some xs) a e = ((xs, refl), sym (ap message_of e))
  where
    message_of : Option Packet → ℕ
    message_of None = 0
    message_of (Some p) = p.message

-- a sender is synced
sender_synced : (p : Plan) (s : Spot) (j i : ℕ) (ds : List Step) (xs : List ℤ) → packet p s j i ds ≡ Some xs → synced (sender_of p i) ds ≡ true
sender_synced p s j i ds xs e =
    let c = chosen (placed s.hyper.opening s.hyper.phase (own_slot p j i) && synced (sender_of p i) ds) (held p s.stay i (window_at p s.turn j i) ds) xs e in
    (and_parts (placed s.hyper.opening s.hyper.phase (own_slot p j i)) (synced (sender_of p i) ds) c.0).1

one_sends : (set : ModeSet) (schedules : List Schedule) (bodies : List BodySeen) (x : WorldSeen) (now : List BodySeen) (es : List PlainEvent) → KeepsRules set → AreSchedules set schedules
    → RequestsFit (system_with set schedules bodies) es → StandsFor set schedules bodies x now es → HasOneSender (system_with set schedules bodies) es x
one_sends set schedules bodies x now es keeps right fit stands j i v a act l is =
    let y = system_with set schedules bodies in
    let ds = history y es in
    let s = spot_next y ds in
    let p = plan_at y s.hyper.mode in
    let n = (message_at p.mode i).number in
    let rule = one_sender set schedules bodies x now es keeps right fit stands j i (slot_of 1 (slice_index_or p.schedule.tables j []) n) n act refl in
    let mine = chosen (nat_eq (sender_of p i) v) (with_values n (packet p s j i ds)) a (sym (rule v l) ∙ is) in
    let values = valued n (packet p s j i ds) a mine.1 in
    let me = eqb-true (sender_of p i) v mine.0 in
    let round = slots_follow_beacons y ((kept_sets_have_right_plans set schedules keeps right).system y.answers) es j i fit act in (
      record {
        heard = subst (λ (u : ℕ). synced u ds ≡ true) me (sender_synced p s j i ds values.0.0 values.0.1);
        round = (round.1.0, round.1.1, round.1.2, round.1.6);
        placed = round.0;
        message = values.1;
      },
      λ w b k has. sym (eqb-true (sender_of p i) w (chosen (nat_eq (sender_of p i) w) (with_values n (packet p s j i ds)) b (sym (rule w k) ∙ has)).0) ∙ me,
    )

-- ---- replays

of_told : (D : List ℕ → Status → List ℕ → Type 0) (told : Told) (s : Status) (t : List ℕ) → OfFile told D s t → (bytes : List ℕ) × D bytes s t
of_told D untold s t d = d
of_told D missing s t d = absurd d
of_told D (file bytes) s t d = (bytes, d)

safe : (set : ModeSet) (bodies : List BodySeen) (schedules : List Schedule) (script : List Line) (t : List ℕ) → KeepsRules set → AreSchedules set schedules → FitsScript set script →
    IsTrace set schedules bodies script Done t → IsSafeReplay set bodies t
safe set bodies schedules script t keeps right fit (es, spelled, es_done, et) =
    let y = system_with set schedules bodies in
    let short = scripts_are_short set schedules y.answers script es keeps right fit spelled in
    record {
      schedules = schedules;
      right = right;
      script = script;
      events = es;
      spelled = spelled;
      traced = et;
      one_sender = λ later earlier x now split stands.
          one_sends set schedules bodies x now earlier keeps right (fits_back y later earlier (subst (RequestsFit y) split short.0)) stands;
    }

of_trace : (set : ModeSet) (bodies : List BodySeen) (schedules : List Schedule) (bytes t : List ℕ) → KeepsRules set → AreSchedules set schedules →
    OfScript set (IsTrace set schedules bodies) bytes Done t → IsSafeReplay set bodies t
of_trace set bodies schedules bytes t keeps right (inl (fault, is, es, et)) = absurd cc
of_trace set bodies schedules bytes t keeps right (inr (none, d)) = safe set bodies schedules _ t keeps right (faultless_fits set bytes none) d

of_schedules : (set : ModeSet) (bodies : List BodySeen) (script : Told) (plans : List (Option Schedule)) (t : List ℕ) → KeepsRules set → AllZip IsRight (doc_modes set) plans →
    OfSchedules set (TraceDue set bodies script) plans Done t → IsSafeReplay set bodies t
of_schedules set bodies script plans t keeps all (inl (mode, lacks, es, et)) = absurd cc
of_schedules set bodies script plans t keeps all (inr (schedules, is, d)) =
    let right = schedules_right set plans schedules all is in
    let told = of_told (OfScript set (IsTrace set schedules bodies)) script Done t d in
    of_trace set bodies schedules told.0 t keeps right told.1

of_document : (set : ModeSet) (bodies : List BodySeen) (script : Told) (bytes t : List ℕ) → KeepsRules set → OfPlan set (OfSchedules set (TraceDue set bodies script)) bytes Done t → IsSafeReplay set bodies t
of_document set bodies script bytes t keeps (inl (refusal, refuses, es, et)) = absurd cc
of_document set bodies script bytes t keeps (inr (plans, accepted, d)) = of_schedules set bodies script plans t keeps accepted.0.right d

of_bodies : (set : ModeSet) (bodies : List BodySeen) (other script : Told) (t : List ℕ) → KeepsRules set → ReplayDue other script bodies set Done t → IsSafeReplay set bodies t
of_bodies set bodies other script t keeps (inl (task, lacks, es, et)) = absurd cc
of_bodies set bodies other script t keeps (inr (have, d)) =
    let told = of_told (OfPlan set (OfSchedules set (TraceDue set bodies script))) other Done t d in
    of_document set bodies script told.0 t keeps told.1

replay_holds : ReplayHolds
replay_holds words name other script told bodies bytes set t is has reads due =
    let Replays = ReplayDue (told other) (told script) bodies in
    let d = subst (λ (c : Command). OfCommand c told bodies Done t) is due in
    let f = subst (λ (k : Told). OfFile k (OfSet Replays) Done t) has d in
    of_bodies set bodies (told other) (told script) t (reads_keep bytes set reads) (of_reading Replays bytes set Done t reads f)

pub headline : Headline
headline = record { plan = plan_holds; replay = replay_holds }
