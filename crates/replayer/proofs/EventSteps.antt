-- One event of a replay
use Rattle.std.proofs.Common.{ℤ, pos, ◌≤ℤ◌, ◌≡◌, ℕ, suc, ◌<◌, ◌≤◌, List, [], ◌∷◌, ◌++◌, length, map, reverse, All, Option, refl, sym, ◌∙◌, ap, subst, arith, append_assoc, append-nil, length-append}
use Rattle.std.specs.Prelude.{Result, Ok, Err, OnErr, ◌^◌}
use Rattle.std.specs.List.{flat_map}
use Rattle.std.proofs.lemmas.Int.{ints}
use Rattle.std.proofs.lemmas.List.{get_or_default, length-map, map-append, reverse-append, length-reverse}
use Rattle.std.proofs.lemmas.List.Elements.{All-map}
use Rattle.std.proofs.lemmas.Grind.{flat_map-append}
use Rattle.ttw_io.specs.Buffering.{OnlyWrites, Passes}
use Rattle.ttw_io.specs.Outside.{AddsFront, Rose}
use Rattle.ttw_io.proofs.BufferLemmas.{Passes-Passes, Passes-AddsFront, AddsFront-append}
use Rattle.app_graph.specs.declared.mode_set.ModeSet.{ModeSet}
use Rattle.sched_model.specs.Numbers.{below}
use Rattle.sched_model.proofs.Lists.{length-below}
use Rattle.task_body.specs.Body.{BodySeen}
use Rattle.runtime_model.specs.Outcomes.{PlainEvent}
use Rattle.runtime_model.specs.System.{System}
use Rattle.runtime_model.specs.History.{history, now_after, step_of}
use Rattle.runtime_model.specs.Script.{ScriptLine, Makes}
use Rattle.runtime_model.proofs.Modes.{AllRight, all_right}
use Rattle.runtime_model.proofs.RightSets.{kept_sets_have_right_plans}
use Rattle.runtime_model.specs.Laws.{RequestsFit}
use Rattle.world_core.specs.declared.happened.Event.{Event}
use Rattle.world_core.specs.declared.happened.Event.TheVariants.{Advance, Request, Restart}
use Rattle.world_core.specs.declared.happened.Happened.{Happened}
use Rattle.world_core.specs.Happened.{happened}
use Rattle.world_core.specs.KeptWorlds.{MayHappen}
use Rattle.world_core.specs.StandsFor.{body_names, place_of_body, plain_event}
use Rattle.world_core.specs.WorldGoesOn.{GoesOn}
use Rattle.world_core.specs.Worlds.{WorldSeen}
use Rattle.world_core.proofs.OtherSteps.{cycle_count}
use Rattle.replayer.specs.Running.{Does, IsAt, IsFront, IsRun, LineFits, MayDo, Run, Stops, Under, line_of_event, system}
use Rattle.replayer.specs.Counting.{CountsOneMore, HasRoom, counts_of}
use Rattle.replayer.specs.declared.counts.Counts.{Counts}
use Rattle.replayer.proofs.Fronts.{fits_back, now_more}
use Rattle.replayer.specs.Trace.{all_happened, line, lines_of, trace, done_line}

-- ---- the text of one event more

pub happened_more : (y : System) (e : PlainEvent) (es : List PlainEvent) → all_happened y (e ∷ es) ≡ all_happened y es ++ happened y (step_of y e (history y es)) ∷ []
happened_more y e es =
    let d = step_of y e (history y es) in
    ap (map (happened y)) (reverse-append (d ∷ []) (history y es)) ∙ map-append (happened y) (reverse (history y es)) (d ∷ [])

pub lines_more : (set : ModeSet) (y : System) (e : PlainEvent) (es : List PlainEvent) → lines_of set y (e ∷ es) ≡ lines_of set y es ++ line set (happened y (step_of y e (history y es)))
lines_more set y e es =
    ap (flat_map (line set)) (happened_more y e es)
    ∙ flat_map-append (line set) (all_happened y es) (happened y (step_of y e (history y es)) ∷ [])
    ∙ ap (λ (xs : List ℕ). lines_of set y es ++ xs) (append-nil (line set (happened y (step_of y e (history y es)))))

-- the lines of a front are a front of the trace
pub lines_front : (set : ModeSet) (y : System) (more es : List PlainEvent) → (rest : List ℕ) × (lines_of set y (more ++ es) ≡ lines_of set y es ++ rest)
lines_front set y [] es = ([], sym (append-nil (lines_of set y es)))
lines_front set y (e ∷ more) es =
    let h = lines_front set y more es in
    let l = line set (happened y (step_of y e (history y (more ++ es)))) in
    (h.0 ++ l, lines_more set y e (more ++ es) ∙ ap (λ (xs : List ℕ). xs ++ l) h.1 ∙ append_assoc (lines_of set y es) h.0 l)

pub trace_front : (r : Run) (es : List PlainEvent) → IsFront r es → (rest : List ℕ) × (trace r.set (system r) r.events ≡ lines_of r.set (system r) es ++ rest)
trace_front r es front =
    let h = lines_front r.set (system r) front.0 es in
    let d = done_line (length r.events) in
    (h.0 ++ d, ap (λ (xs : List ℕ). xs ++ d) (ap (lines_of r.set (system r)) front.1 ∙ h.1) ∙ append_assoc (lines_of r.set (system r) es) h.0 d)

-- a prefix of the lines of a front is one of the trace
pub front_added : (r : Run) (es : List PlainEvent) (held : Option (List ℕ)) → IsFront r es → AddsFront r.held held (lines_of r.set (system r) es) → AddsFront r.held held (trace r.set (system r) r.events)
front_added r es held front added =
    let t = trace_front r es front in
    subst (AddsFront r.held held) (sym t.1) (AddsFront-append r.held held (lines_of r.set (system r) es) t.0 added)

-- ---- what a world stands for is what a step asks

bodies_long : (r : Run) (es : List PlainEvent) (x : Under) → IsAt r es x → length x.bodies ≡ length r.made
bodies_long r es x at = ap length at.stands.bodies ∙ length-map (below (length r.made)) _ ∙ length-below (length r.made)

pub places_known : (r : Run) (es : List PlainEvent) (x : Under) → IsRun r → IsAt r es x → All (λ b. b < length x.bodies) x.world.places
places_known r es x is at =
    subst (λ n. All (λ b. b < n) x.world.places) (sym (bodies_long r es x at))
    (subst (λ (ps : List ℕ). All (λ b. b < length r.made) ps) (sym at.stands.places)
    (All-map (λ b. b < length r.made) (place_of_body r.made) (body_names r.set)
    (λ i d l. subst (λ (name : List ℕ). place_of_body r.made name < length r.made) (get_or_default (body_names r.set) i [] d l) (is.have i l))))

pub event_known : (r : Run) (es : List PlainEvent) (x : Under) (e : Event) → IsAt r es x → LineFits (system r) (line_of_event e) → MayHappen x.world e
event_known r es x (Advance lost) at fits = tt
event_known r es x (Request mode) at fits = subst (λ c. mode < c) (sym (cycle_count (system r) x.world at.stands.world.plans)) fits
event_known r es x (Restart node) at fits =
    (subst (λ c. node < c) (sym at.stands.world.plans.nodes) fits.0, λ e. fits.1 (e ∙ at.stands.world.plans.host_node))

-- an event as a line makes that event
pub event_makes : (r : Run) (e : Event) (es fs : List PlainEvent) → Makes (system r) (line_of_event e) es fs → fs ≡ plain_event e ∷ es
event_makes r (Advance lost) es fs makes = makes
event_makes r (Request mode) es fs makes = makes
event_makes r (Restart node) es fs makes = makes

-- ---- the clock and the requests of a front

pub run_right : (r : Run) → IsRun r → AllRight (system r)
run_right r is = all_right (system r) ((kept_sets_have_right_plans r.set r.schedules is.rules is.right).system (system r).answers)

pub requests_fit : (r : Run) (es : List PlainEvent) → IsRun r → IsFront r es → RequestsFit (system r) es
requests_fit r es is front = fits_back (system r) front.0 es (subst (RequestsFit (system r)) front.1 is.requests)

pub front_early : (r : Run) (es : List PlainEvent) → IsRun r → IsFront r es → now_after (system r) (history (system r) es) ≤ 1020000000000000000
front_early r es is front =
    omega (
      arith,
      now_more (system r) (run_right r is) front.0 es (subst (RequestsFit (system r)) front.1 is.requests),
      ap (λ (z : List PlainEvent). now_after (system r) (history (system r) z)) front.1,
      is.early,
    )

pub time_known : (x : Under) (l : ScriptLine) → MayDo x l → x.world.moment ≤ℤ pos 9000000000000000000
time_known x l may =
    let early = front_early may.run may.events may.is_run may.is_at.front in
    subst (λ (z : ℤ). z ≤ℤ pos 9000000000000000000) (sym may.is_at.stands.world.time.moment) (omega (arith, ints, early))

-- ---- counts

-- each event is one thing that happened
pub happened_count : (y : System) (es : List PlainEvent) → length (all_happened y es) ≡ length es
happened_count y es = length-map (reverse (history y es)) (happened y) ∙ length-reverse (history y es) ∙ steps es
  where
    steps : (es : List PlainEvent) → length (history y es) ≡ length es
    steps [] = refl
    steps (e ∷ es) = ap (λ (n : ℕ). suc n) (steps es)

-- so many are few
few_events : (r : Run) (es : List PlainEvent) (n : ℕ) → IsRun r → IsFront r es → n ≡ length es → n < 2 ^ 61
few_events r es n is front e = omega (arith, e, is.few, ap length front.1, length-append front.0 es)

-- the bodies of all tasks are among those that are handed in
pub bodies_known : {X : Type 0} (see : X → BodySeen) (boxes : List X) (x : Under) (l : ScriptLine) → x.bodies ≡ map see boxes → MayDo x l → All (λ b. b < length boxes) x.world.places
bodies_known see boxes x l are may =
    subst (λ n. All (λ b. b < n) x.world.places) (ap length are ∙ length-map boxes see) (places_known may.run may.events x may.is_run may.is_at)

-- ---- one event

-- the event was performed, and its line put
pub performs : (x z : Under) (e : Event) (answer : Happened) → GoesOn x.world x.bodies z.world z.bodies e answer → Passes x.held z.held (x.text ++ line x.names answer) z.text → z.names ≡ x.names
    → CountsOneMore x.counts answer z.counts → (z.counts.events < 2 ^ 61 → HasRoom z.counts) → Does x (line_of_event e) z
performs x z e answer goes passes names counts room r es fs is at makes front =
    let y = system r in
    let ds = history y es in
    let told = happened y (step_of y (plain_event e) ds) in
    let made = event_makes r e es fs makes in
    let g = goes r.set r.schedules r.made es is.rules is.right is.have (requests_fit r es is at.front) at.stands in
    let here : IsFront r (plain_event e ∷ es) = subst (IsFront r) made front in
    let counted : z.counts ≡ counts_of (all_happened y (plain_event e ∷ es)) =
    counts (all_happened y es) at.counts ∙ ap (λ (h : Happened). counts_of (all_happened y es ++ h ∷ [])) g.1 ∙ ap counts_of (sym (happened_more y (plain_event e) es)) in
    subst (λ (gs : List PlainEvent). IsAt r gs z) (sym made)
    (record {
      front = here;
      stands = g.0;
      names = names ∙ at.names;
      written = subst (λ (all : List ℕ). Passes r.held z.held all z.text) (sym (lines_more r.set y (plain_event e) es))
          (Passes-Passes r.held x.held z.held (lines_of r.set y es) x.text (line r.set told) z.text at.written
          (subst (λ (set : ModeSet). Passes x.held z.held (x.text ++ line set told) z.text) at.names
          (subst (λ (h : Happened). Passes x.held z.held (x.text ++ line x.names h) z.text) g.1 passes)));
      counts = counted;
      room = room (few_events r (plain_event e ∷ es) z.counts.events is here (ap (λ (c : Counts). c.events) counted ∙ happened_count y (plain_event e ∷ es)));
    })

-- the event was performed, and its line was not written
pub stops : (x : Under) (world : WorldSeen) (bodies : List BodySeen) (held : Option (List ℕ)) (e : Event) (answer : Happened) → GoesOn x.world x.bodies world bodies e answer → AddsFront x.held held (x.text ++ line x.names answer) → Stops x (line_of_event e) held
stops x world bodies held e answer goes added r es fs is at makes front =
    let y = system r in
    let told = happened y (step_of y (plain_event e) (history y es)) in
    let made = event_makes r e es fs makes in
    let g = goes r.set r.schedules r.made es is.rules is.right is.have (requests_fit r es is at.front) at.stands in
    front_added r (plain_event e ∷ es) held (subst (IsFront r) made front)
    (subst (AddsFront r.held held) (sym (lines_more r.set y (plain_event e) es))
    (Passes-AddsFront r.held x.held held (lines_of r.set y es) x.text (line r.set told) at.written
    (subst (λ (set : ModeSet). AddsFront x.held held (x.text ++ line set told)) at.names
    (subst (λ (h : Happened). AddsFront x.held held (x.text ++ line x.names h)) g.1 added))))

-- ---- counts of faults

-- a count that rose later rose
pub later_rose : (first mid last : ℕ) → first ≤ mid → Rose mid last → Rose first last
later_rose first mid last le rose = omega (arith, le, rose)

-- a call that failed after others that wrote
pub writes_later : {A E : Type 0} (r : Result A E) (first mid last flushes flushes_mid flushes_last : ℕ) → first ≤ mid → flushes_mid ≡ flushes →
    Rose mid last → mid ≤ last → flushes_last ≡ flushes_mid → OnlyWrites r first last flushes flushes_last
writes_later r first mid last flushes flushes_mid flushes_last le same rose counted same_later =
    record { failed = whatever r (later_rose first mid last le rose); counted = omega (arith, le, counted); same_flushes = same_later ∙ same }
  where
    whatever : {A E P : Type 0} (r : Result A E) → P → OnErr r P
    whatever (Ok x) h = tt
    whatever (Err e) h = h
