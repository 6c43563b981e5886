-- The lines of a whole script, one after the other
use Rattle.std.proofs.Common.{◌≡◌, ℕ, suc, ◌+◌, ◌<◌, ◌≤◌, List, [], ◌∷◌, ◌++◌, length, map, take, drop, get_or, Option, refl, sym, ◌∙◌, ap, subst, arith, append_assoc, append-nil}
use Rattle.std.specs.Prelude.{slice_index_or}
use Rattle.std.specs.Io.KnownBytes.{append_known}
use Rattle.std.proofs.Math.Seq.{drop-cons}
use Rattle.std.proofs.lemmas.List.{map-append, take-append-drop, take_all, take_more}
use Rattle.ttw_io.specs.Buffering.{Passes}
use Rattle.ttw_io.specs.Outside.{AddsFront}
use Rattle.ttw_io.proofs.BufferLemmas.{Passes-AddsFront, passes_none}
use Rattle.ttw_io.proofs.WritingLemmas.{append_known-append_known}
use Rattle.app_graph.specs.declared.mode_set.ModeSet.{ModeSet}
use Rattle.app_graph.specs.Validation.{KeepsRules}
use Rattle.sched_model.specs.declared.schedule.Schedule.{Schedule}
use Rattle.task_body.specs.Body.{BodySeen}
use Rattle.replay_script.specs.declared.line.Line.{Line}
use Rattle.replay_script.specs.declared.line.Line.TheVariants as says
use Rattle.replay_script.specs.Fitting.{FitsLine, FitsScript}
use Rattle.runtime_model.specs.Outcomes.{PlainEvent}
use Rattle.runtime_model.specs.Script.{ScriptLine, LeadTo, Makes}
use Rattle.runtime_model.proofs.RightSets.{kept_sets_have_right_plans, plan_count}
use Rattle.world_core.specs.StandsFor.{system_with}
use Rattle.world_core.specs.Worlds.{WorldSeen}
use Rattle.replayer.specs.Counting.{HasRoom, counts_of}
use Rattle.replayer.specs.Replaying.{IsNew, IsNewWorld, IsCut, IsReplayed, OfReplay, SpelledBy}
use Rattle.replayer.specs.Running.{Does, Follows, IsAt, IsFront, IsRun, LineFits, MayDo, Run, Stops, Under, system, under}
use Rattle.replayer.specs.Scripts.{AsksFit, plain_line}
use Rattle.replayer.specs.Trace.{done_line, lines_of}
use Rattle.replayer.specs.declared.counts.Counts.{Counts}
use Rattle.replayer.specs.declared.tracer.Tracer.{Tracer}
use Rattle.replayer.proofs.EventSteps.{happened_count}
use Rattle.replayer.proofs.Fronts.{lead_apart, lead_more, makes_more}
use Rattle.replayer.proofs.Lengths.{scripts_are_short}
use Rattle.replayer.proofs.Spelling.{scripts_spell_once}

-- no line yet
pub starts : (x : Under) → Follows x [] x
starts x r fs is at leads front = subst (λ (gs : List PlainEvent). IsAt r gs x) (sym leads) at

-- ---- the replay of a script

module _ (set : ModeSet) (made : List BodySeen) (lines : List Line) (keeps : KeepsRules set) (fit : FitsScript set lines) where
  -- the replay of these events with these schedules
  abbrev run_of : List Schedule → List PlainEvent → Option (List ℕ) → Run
  run_of schedules es held = record { set = set; schedules = schedules; made = made; events = es; held = held }

  is_run : (world : WorldSeen) (schedules : List Schedule) (es : List PlainEvent) (held : Option (List ℕ)) → IsNew set schedules world made → SpelledBy set schedules made lines es → IsRun (run_of schedules es held)
  is_run world schedules es held new spelled =
      let s = scripts_are_short set schedules (system_with set schedules made).answers lines es keeps new.right fit spelled in
      record { rules = keeps; right = new.right; have = new.have; requests = s.0; few = s.1; early = s.2 }

  -- what is made before the first event
  abbrev Begins : Tracer → Type 0
  Begins t = (t ≡ record { names = set; buffer = record { bytes = []; room = 65536 }; counts = counts_of [] }) × HasRoom t.counts

  begins : (world : WorldSeen) (t : Tracer) (schedules : List Schedule) (es : List PlainEvent) (held : Option (List ℕ)) → Begins t → IsNew set schedules world made → IsAt (run_of schedules es held) [] (under world made held t)
  begins world t schedules es held b new = record {
    front = (es, sym (append-nil es));
    stands = new.stands;
    names = ap (λ (t : Tracer). t.names) b.0;
    written = subst (λ (text : List ℕ). Passes held held [] text) (sym (ap (λ (t : Tracer). t.buffer.bytes) b.0)) (passes_none held []);
    counts = ap (λ (t : Tracer). t.counts) b.0;
    room = b.1;
  }

  -- ---- the lines so far, and the next one

  abbrev so_far : ℕ → List ScriptLine
  so_far k = map plain_line (take k lines)

  abbrev line_at : ℕ → Line
  line_at k = slice_index_or lines k (says.Go 0)

  -- where the script is split at a line
  record Split (schedules : List Schedule) (es : List PlainEvent) (k : ℕ) : Type 0 where
    before : List PlainEvent
    after : List PlainEvent
    leads : LeadTo (system_with set schedules made) (so_far k) [] before
    makes : Makes (system_with set schedules made) (plain_line (line_at k)) before after
    front_before : (more : List PlainEvent) × (es ≡ more ++ before)
    front_after : (more : List PlainEvent) × (es ≡ more ++ after)

  split_at : (schedules : List Schedule) (es : List PlainEvent) (k : ℕ) → k < length lines → SpelledBy set schedules made lines es → Split schedules es k
  split_at schedules es k l spelled =
      let y = system_with set schedules made in
      let whole = subst (λ (ls : List Line). LeadTo y (map plain_line ls) [] es) (sym (take-append-drop k lines)) spelled in
      let parts = lead_apart y (so_far k) (map plain_line (drop k lines)) [] es (subst (λ (ls : List ScriptLine). LeadTo y ls [] es) (map-append plain_line (take k lines) (drop k lines)) whole) in
      let rest = subst (λ (ls : List Line). LeadTo y (map plain_line ls) parts.0 es) (drop-cons lines k (says.Go 0) l) parts.2 in
      let more = lead_more y (map plain_line (drop (suc k) lines)) rest.0 es rest.2 in
      let some = makes_more y (plain_line (line_at k)) parts.0 rest.0 rest.1 in
      record {
        before = parts.0;
        after = rest.0;
        leads = parts.1;
        makes = rest.1;
        front_before = (more.0 ++ some.0, more.1 ∙ ap (λ (z : List PlainEvent). more.0 ++ z) some.1 ∙ sym (append_assoc more.0 some.0 parts.0));
        front_after = more;
      }

  line_fits : (schedules : List Schedule) (l : Line) → FitsLine set l → LineFits (system_with set schedules made) (plain_line l)
  line_fits schedules (says.Go n) fits = tt
  line_fits schedules says.UntilBeacon fits = tt
  line_fits schedules (says.Lose nodes) fits = tt
  line_fits schedules (says.Request mode) fits = subst (λ n. mode < n) (sym (plan_count set schedules)) fits
  line_fits schedules (says.Restart node) fits = fits

  asks_fit : (schedules : List Schedule) (ls : List Line) → ((k : ℕ) → k < length ls → FitsLine set (get_or ls k (says.Go 0))) → AsksFit (system_with set schedules made) (map plain_line ls)
  asks_fit schedules [] fits = tt
  asks_fit schedules (says.Go n ∷ ls) fits = asks_fit schedules ls (λ k l. fits (suc k) (omega (arith, l)))
  asks_fit schedules (says.UntilBeacon ∷ ls) fits = asks_fit schedules ls (λ k l. fits (suc k) (omega (arith, l)))
  asks_fit schedules (says.Lose nodes ∷ ls) fits = asks_fit schedules ls (λ k l. fits (suc k) (omega (arith, l)))
  asks_fit schedules (says.Request mode ∷ ls) fits = (line_fits schedules (says.Request mode) (fits 0 (omega arith)), asks_fit schedules ls (λ k l. fits (suc k) (omega (arith, l))))
  asks_fit schedules (says.Restart node ∷ ls) fits = asks_fit schedules ls (λ k l. fits (suc k) (omega (arith, l)))

  -- the events that the script spells
  pub spelled_by : (world : WorldSeen) (schedules : List Schedule) → IsNew set schedules world made → (es : List PlainEvent) × SpelledBy set schedules made lines es
  spelled_by world schedules new =
      let y = system_with set schedules made in
      let s = scripts_spell_once y ((kept_sets_have_right_plans set schedules keeps new.right).system y.answers) (map plain_line lines) (asks_fit schedules lines (λ k l. fit.lines k (says.Go 0) l)) in
      (s.0, s.1)

  -- ---- one line more

  pub may_line : (world : WorldSeen) (held : Option (List ℕ)) (t : Tracer) (z : Under) (k : ℕ) → Begins t → IsNewWorld set world made → k < length lines → Follows (under world made held t) (so_far k) z → MayDo z (plain_line (line_at k))
  may_line world held t z k b new l follows =
      let spelled = spelled_by world new.0 new.1 in
      let r = run_of new.0 spelled.0 held in
      let is = is_run world new.0 spelled.0 held new.1 spelled.1 in
      let s = split_at new.0 spelled.0 k l spelled.1 in
      record {
        run = r;
        events = s.before;
        next = s.after;
        is_run = is;
        is_at = follows r s.before is (begins world t new.0 spelled.0 held b new.1) s.leads s.front_before;
        fits = line_fits new.0 (line_at k) (fit.lines k (says.Go 0) l);
        makes = s.makes;
        front = s.front_after;
      }

  pub line_more : (x z w : Under) (k : ℕ) → k < length lines → Follows x (so_far k) z → Does z (plain_line (line_at k)) w → Follows x (so_far (k + 1)) w
  line_more x z w k l follows does r fs is at leads front =
      let y = system r in
      let longer : so_far (k + 1) ≡ so_far k ++ plain_line (line_at k) ∷ [] = ap (map plain_line) (take_more lines k (says.Go 0) l) ∙ map-append plain_line (take k lines) (line_at k ∷ []) in
      let parts = lead_apart y (so_far k) (plain_line (line_at k) ∷ []) [] fs (subst (λ (ls : List ScriptLine). LeadTo y ls [] fs) longer leads) in
      let makes = subst (Makes y (plain_line (line_at k)) parts.0) (sym parts.2.2) parts.2.1 in
      let some = makes_more y (plain_line (line_at k)) parts.0 fs makes in
      let before : IsFront r parts.0 = (front.0 ++ some.0, front.1 ∙ ap (λ (z : List PlainEvent). front.0 ++ z) some.1 ∙ sym (append_assoc front.0 some.0 parts.0)) in
      does r parts.0 fs is (follows r parts.0 is at parts.1 before) makes front

  pub line_cut : (world : WorldSeen) (old held : Option (List ℕ)) (t : Tracer) (z : Under) (k : ℕ) → Begins t → k < length lines → Follows (under world made old t) (so_far k) z → Stops z (plain_line (line_at k)) held
      → OfReplay set lines world made (IsCut set made old held)
  line_cut world old held t z k b l follows stop schedules es new spelled =
      let is = is_run world schedules es old new spelled in
      let s = split_at schedules es k l spelled in
      stop (run_of schedules es old) s.before s.after is (follows (run_of schedules es old) s.before is (begins world t schedules es old b new) s.leads s.front_before) s.makes s.front_after

  -- ---- the end

  stands_last : (world : WorldSeen) (old : Option (List ℕ)) (t : Tracer) (z : Under) (k : ℕ) → Begins t → length lines ≤ k → Follows (under world made old t) (so_far k) z → (schedules : List Schedule) (es : List PlainEvent) → IsNew set schedules world made → SpelledBy set schedules made lines es
      → IsAt (run_of schedules es old) es z
  stands_last world old t z k b l follows schedules es new spelled =
      follows (run_of schedules es old) es (is_run world schedules es old new spelled) (begins world t schedules es old b new)
      (subst (λ (ls : List Line). LeadTo (system_with set schedules made) (map plain_line ls) [] es) (sym (take_all k lines l)) spelled) ([], refl)

  events_counted : (schedules : List Schedule) (es : List PlainEvent) (old : Option (List ℕ)) (z : Under) → IsAt (run_of schedules es old) es z → z.counts.events ≡ length es
  events_counted schedules es old z at = ap (λ (c : Counts). c.events) at.counts ∙ happened_count (system_with set schedules made) es

  pub all_written : (world now : WorldSeen) (bodies : List BodySeen) (old held new_held : Option (List ℕ)) (t u : Tracer) (counts : Counts) (k : ℕ) → Begins t → length lines ≤ k → Follows (under world made old t) (so_far k) (under now bodies held u)
      → new_held ≡ append_known held (u.buffer.bytes ++ done_line u.counts.events) → counts ≡ u.counts → OfReplay set lines world made (IsReplayed set made old new_held counts now bodies)
  all_written world now bodies old held new_held t u counts k b l follows added same schedules es new spelled =
      let y = system_with set schedules made in
      let at = stands_last world old t (under now bodies held u) k b l follows schedules es new spelled in
      let p = at.written in
      let done = ap done_line (events_counted schedules es old (under now bodies held u) at) in
      record {
        text = added
            ∙ ap (λ (h : Option (List ℕ)). append_known h (u.buffer.bytes ++ done_line u.counts.events)) p.2
            ∙ append_known-append_known old p.0 (u.buffer.bytes ++ done_line u.counts.events)
            ∙ ap (append_known old) (sym (append_assoc p.0 u.buffer.bytes (done_line u.counts.events)) ∙ ap (λ (xs : List ℕ). xs ++ done_line u.counts.events) (sym p.1) ∙ ap (λ (xs : List ℕ). lines_of set y es ++ xs) done);
        counted = same ∙ at.counts;
        stands = at.stands;
      }

  pub end_cut : (world now : WorldSeen) (bodies : List BodySeen) (old held new_held : Option (List ℕ)) (t u : Tracer) (k : ℕ) → Begins t → length lines ≤ k → Follows (under world made old t) (so_far k) (under now bodies held u)
      → AddsFront held new_held (u.buffer.bytes ++ done_line u.counts.events) → OfReplay set lines world made (IsCut set made old new_held)
  end_cut world now bodies old held new_held t u k b l follows added schedules es new spelled =
      let y = system_with set schedules made in
      let at = stands_last world old t (under now bodies held u) k b l follows schedules es new spelled in
      subst (λ (text : List ℕ). AddsFront old new_held (lines_of set y es ++ text)) (ap done_line (events_counted schedules es old (under now bodies held u) at))
      (Passes-AddsFront old held new_held (lines_of set y es) u.buffer.bytes (done_line u.counts.events) at.written added)
