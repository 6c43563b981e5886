-- Every mode that runs is one of the system's, where the requests name such modes
use Rattle.std.proofs.Common.{ℕ, ◌<◌, ◌≤◌, Bool, true, false, cond, List, [], ◌∷◌, ◌++◌, length, subst, arith}
use Rattle.std.specs.Prelude.{nat_eq}
use Rattle.runtime_model.specs.Timeline.{PlainPhase, steady, warn, drain, drains, Hyperperiod, Mark, asked, begins, ended, timeline_of, untaken, decided, follows, request_in}
use Rattle.runtime_model.specs.Plans.{RightPlan}
use Rattle.runtime_model.specs.Outcomes.{PlainEvent, advance, request, restart}
use Rattle.runtime_model.specs.System.{System, plan_at}
use Rattle.runtime_model.specs.History.{history, last_spot, marks_of, turns, arrival, entry_at, is_first_beacon}
use Rattle.runtime_model.specs.Laws.{PlansAreRight, RequestsFit}
use Rattle.runtime_model.proofs.Spots.{stands}

module _ (n : ℕ) where
  abbrev PhaseFits : PlainPhase → Type 0
  PhaseFits steady = Unit {0}
  PhaseFits (warn m) = m < n
  PhaseFits (drain m) = m < n

  abbrev AllFit : List ℕ → Type 0
  AllFit [] = Unit {0}
  AllFit (x ∷ xs) = (x < n) × AllFit xs

  abbrev HyperFits : Hyperperiod → Type 0
  HyperFits h = (h.mode < n) × PhaseFits h.phase × AllFit h.early × AllFit h.late

  abbrev EachFits : List Hyperperiod → Type 0
  EachFits [] = Unit {0}
  EachFits (h ∷ hs) = HyperFits h × EachFits hs

  abbrev MarksFit : List Mark → Type 0
  MarksFit [] = Unit {0}
  MarksFit (asked m ∷ ms) = (m < n) × MarksFit ms
  MarksFit (begins ∷ ms) = MarksFit ms
  MarksFit (ended ∷ ms) = MarksFit ms

  appended : (xs ys : List ℕ) → AllFit xs → AllFit ys → AllFit (xs ++ ys)
  appended [] ys a b = b
  appended (x ∷ xs) ys a b = (a.0, appended xs ys a.1 b)

  where_drained : (b : Bool) (xs : List ℕ) → AllFit xs → AllFit (cond b xs [])
  where_drained true xs a = a
  where_drained false xs a = tt

  untaken_fit : (hs : List Hyperperiod) → EachFits hs → AllFit (untaken hs)
  untaken_fit [] f = tt
  untaken_fit (h ∷ hs) f = appended h.late (cond (drains h.phase) (h.early ++ untaken hs) []) f.0.3
      (where_drained (drains h.phase) (h.early ++ untaken hs) (appended h.early (untaken hs) f.0.2 (untaken_fit hs f.1)))

  decided_fits : (mode : ℕ) (rs : List ℕ) → AllFit rs → PhaseFits (decided mode rs)
  decided_fits mode [] a = tt
  decided_fits mode (r ∷ rs) a = by_test (nat_eq r mode)
    where
      by_test : (b : Bool) → PhaseFits (cond b steady (warn r))
      by_test true = tt
      by_test false = a.0

  begun_fits : (mode : ℕ) (phase : PlainPhase) (rs : List ℕ) → PhaseFits phase → AllFit rs → PhaseFits (cond (drains phase) phase (decided mode rs))
  begun_fits mode steady rs f a = decided_fits mode rs a
  begun_fits mode (warn m) rs f a = decided_fits mode rs a
  begun_fits mode (drain m) rs f a = f

  follows_fits : (mode : ℕ) (phase : PlainPhase) → mode < n → PhaseFits phase → HyperFits (follows mode phase)
  follows_fits mode steady l f = (l, tt, tt, tt)
  follows_fits mode (warn m) l f = (l, f, tt, tt)
  follows_fits mode (drain m) l f = (f, tt, tt, tt)

  request_fits : (h : Hyperperiod) (m : ℕ) → m < n → HyperFits h → HyperFits (request_in h m)
  request_fits h m l f = by_test h.begun
    where
      by_test : (b : Bool) → HyperFits (cond b (record h { late = m ∷ h.late }) (record h { early = m ∷ h.early }))
      by_test true = (f.0, f.1, f.2, (l, f.3))
      by_test false = (f.0, f.1, (l, f.2), f.3)

  timeline_fits : (ms : List Mark) → 1 ≤ n → MarksFit ms → HyperFits (timeline_of ms).last × EachFits (timeline_of ms).before
  timeline_fits [] one f = ((omega (arith, one), tt, tt, tt), tt)
  timeline_fits (asked m ∷ ms) one f = let w = timeline_fits ms one f.1 in (request_fits (timeline_of ms).last m f.0 w.0, w.1)
  timeline_fits (begins ∷ ms) one f =
      let w = timeline_fits ms one f in
      let t = timeline_of ms in
      let rs = t.last.early ++ untaken t.before in
      ((w.0.0, begun_fits t.last.mode t.last.phase rs w.0.1 (appended t.last.early (untaken t.before) w.0.2 (untaken_fit t.before w.1)), w.0.2, w.0.3), w.1)
  timeline_fits (ended ∷ ms) one f =
      let w = timeline_fits ms one f in
      let t = timeline_of ms in
      (follows_fits t.last.mode t.last.phase w.0.0 w.0.1, (w.0, w.1))

  advanced : (f t : Bool) (ms : List Mark) → MarksFit ms → MarksFit ((cond f (begins ∷ []) [] ++ cond t (ended ∷ []) []) ++ ms)
  advanced true true ms m = m
  advanced true false ms m = m
  advanced false true ms m = m
  advanced false false ms m = m

marks_fit : (y : System) (es : List PlainEvent) → RequestsFit y es → MarksFit (length y.plans) (marks_of (history y es))
marks_fit y [] f = tt
marks_fit y (request m ∷ es) f = (f.0, marks_fit y es f.1)
marks_fit y (restart v ∷ es) f = marks_fit y es f
marks_fit y (advance lost ∷ es) f =
    let ds = history y es in
    advanced (length y.plans) (is_first_beacon (entry_at y (arrival y ds)).action) (turns y ds) (marks_of ds) (marks_fit y es f)

-- every mode that runs has a right plan
abbrev pub AllRight : System → Type 0
AllRight y = (es : List PlainEvent) → RequestsFit y es → RightPlan y.nodes (plan_at y (last_spot (history y es)).hyper.mode)

pub all_right : (y : System) → PlansAreRight y → AllRight y
all_right y right es f =
    right.1 (last_spot (history y es)).hyper.mode (subst (λ (m : ℕ). m < length y.plans) (stands y es).alike.mode (timeline_fits (length y.plans) (marks_of (history y es)) right.0 (marks_fit y es f)).0.0)
