-- Waits for beacons are short, and so are scripts
use Rattle.std.proofs.Common.{ℕ, zero, suc, ◌+◌, ◌-◌, ◌*◌, ◌≤◌, List, [], ◌∷◌, length, map, refl, sym, ap, subst, arith, ℤ}
use Rattle.std.specs.Prelude.{Option, replicate}
use Rattle.std.specs.List.{AllByRecursion, sum_by}
use Rattle.std.proofs.lemmas.List.Elements.{recursion_from_All}
use Rattle.std.proofs.lemmas.List.Sums.{sum_by-append}
use Rattle.app_graph.specs.declared.mode_set.ModeSet.{ModeSet}
use Rattle.app_graph.specs.Validation.{KeepsRules}
use Rattle.sched_model.specs.declared.schedule.Schedule.{Schedule}
use Rattle.replay_script.specs.declared.line.Line.{Line}
use Rattle.replay_script.specs.declared.line.Line.TheVariants.{Go, UntilBeacon, Lose, Request, Restart}
use Rattle.replay_script.specs.Fitting.{advances, FitsLine}
use Rattle.runtime_model.specs.Laws.{RequestsFit}
use Rattle.runtime_model.specs.Outcomes.{PlainEvent, advance, request, Step}
use Rattle.runtime_model.specs.Plans.{AreSchedules}
use Rattle.runtime_model.specs.System.{System, system_of}
use Rattle.runtime_model.specs.Script.{until_beacon, Makes, LeadTo}
use Rattle.runtime_model.specs.History.{history, now_after}
use Rattle.runtime_model.proofs.Modes.{AllRight, all_right}
use Rattle.runtime_model.proofs.RightSets.{kept_sets_have_right_plans, plan_count}
use Rattle.runtime_model.proofs.FirstTicks.{moments_rise, request_now, restart_now}
use Rattle.replayer.specs.Scripts.{plain_line, BeaconsComeSoon, ScriptsAreShort}
use Rattle.replayer.proofs.Searches.{after, fits_after, soon}
use Rattle.replayer.proofs.Spelling.{next_beacon, makes_once}
use Rattle.replayer.proofs.Fronts.{after_rest, length-after, now_more}
use Rattle.replayer.proofs.Limits.{small}

all_rights : (set : ModeSet) (schedules : List Schedule) (answers : List Step → ℕ → List (Option ℤ) → ℤ) → KeepsRules set → AreSchedules set schedules → AllRight (system_of set schedules answers)
all_rights set schedules answers keeps are = all_right (system_of set schedules answers) ((kept_sets_have_right_plans set schedules keeps are).system answers)

pub beacons_come_soon : BeaconsComeSoon
beacons_come_soon set schedules answers es keeps are f =
    let y = system_of set schedules answers in
    let right = all_rights set schedules answers keeps are in
    let s = soon y right es f in
    let w = next_beacon y right es f in
    let whole = after_rest w.0 s.n es w.2 in
    let rises = now_more y right (replicate (s.n - w.0) (advance 0)) (after w.0 es) (subst (RequestsFit y) whole (fits_after y s.n es f)) in
    let same = ap (λ (z : List PlainEvent). now_after y (history y z)) whole in (
      w.0,
      w.1,
      omega (arith, w.2, s.few 24832 1000000000 (small set schedules answers keeps are)),
      omega (arith, rises, same, s.early, (right es f).valid.hyper_limit),
    )

-- ---- scripts

-- with so many more events of `go`, made by so many lines
record Grown (y : System) (es fs : List PlainEvent) (steps lines : ℕ) : Type 0 where
  fits : RequestsFit y fs
  long : length fs ≤ length es + steps + lines * 100000000000000
  late : now_after y (history y fs) ≤ now_after y (history y es) + (steps + lines) * 1000000000000

module _ (set : ModeSet) (schedules : List Schedule) (answers : List Step → ℕ → List (Option ℤ) → ℤ) (keeps : KeepsRules set) (are : AreSchedules set schedules) where
  abbrev y : System
  y = system_of set schedules answers

  right : AllRight y
  right = all_rights set schedules answers keeps are

  advance_late : (es : List PlainEvent) (lost : ℕ) → RequestsFit y es → now_after y (history y (advance lost ∷ es)) ≤ now_after y (history y es) + 1000000000000
  advance_late es lost f = omega (arith, (moments_rise y right es lost f).1, (right es f).valid.hyper_limit)

  after_late : (n : ℕ) (es : List PlainEvent) → RequestsFit y es → now_after y (history y (after n es)) ≤ now_after y (history y es) + n * 1000000000000
  after_late zero es f = omega arith
  after_late (suc n) es f = omega (arith, after_late n es f, advance_late (after n es) 0 (fits_after y n es f))

  line_grows : (l : Line) (es fs : List PlainEvent) → RequestsFit y es → FitsLine set l → Makes y (plain_line l) es fs → Grown y es fs (advances l) 1
  line_grows (Go n) es fs f fit e =
      subst (λ (z : List PlainEvent). Grown y es z n 1) (sym e) (record { fits = fits_after y n es f; long = omega (arith, length-after n es); late = omega (arith, after_late n es f) })
  line_grows UntilBeacon es fs f fit w =
      let b = beacons_come_soon set schedules answers es keeps are f in
      let e = makes_once y until_beacon es fs (after b.0 es) w (b.0, b.1, refl) in
      subst (λ (z : List PlainEvent). Grown y es z 0 1) (sym e) (record { fits = fits_after y b.0 es f; long = omega (arith, length-after b.0 es, b.2); late = omega (arith, b.3) })
  line_grows (Lose nodes) es fs f fit e =
      subst (λ (z : List PlainEvent). Grown y es z 0 1) (sym e) (record { fits = f; long = omega arith; late = omega (arith, advance_late es nodes f) })
  line_grows (Request mode) es fs f fit e =
      let fits : RequestsFit y (request mode ∷ es) = (omega (arith, fit, plan_count set schedules), f) in
      subst (λ (z : List PlainEvent). Grown y es z 0 1) (sym e) (record { fits = fits; long = omega arith; late = omega (arith, request_now y right es mode fits) })
  line_grows (Restart node) es fs f fit e =
      subst (λ (z : List PlainEvent). Grown y es z 0 1) (sym e) (record { fits = f; long = omega arith; late = omega (arith, restart_now y right es node f) })

  lines_grow : (lines : List Line) (es fs : List PlainEvent) → RequestsFit y es → AllByRecursion (FitsLine set) lines → LeadTo y (map plain_line lines) es fs → Grown y es fs (sum_by advances lines) (length lines)
  lines_grow [] es fs f fit e = subst (λ (z : List PlainEvent). Grown y es z 0 0) (sym e) (record { fits = f; long = omega arith; late = omega arith })
  lines_grow (l ∷ lines) es fs f fit lead =
      let a = line_grows l es lead.0 f fit.0 lead.1 in
      let b = lines_grow lines lead.0 fs a.fits fit.1 lead.2 in
      let sum = sum_by-append advances (l ∷ []) lines in
      record { fits = b.fits; long = omega (arith, a.long, b.long, sum); late = omega (arith, a.late, b.late, sum) }

pub scripts_are_short : ScriptsAreShort
scripts_are_short set schedules answers lines es keeps are fit spells =
    let w = lines_grow set schedules answers keeps are lines [] es tt (recursion_from_All (FitsLine set) lines fit.lines) spells in
    (w.fits, omega (arith, w.long, fit.few, fit.advances_few), omega (arith, w.late, fit.few, fit.advances_few))
