-- At a slot of window k an out register that is full has run k
use Rattle.std.proofs.Common.{◌≡◌, ℕ, zero, suc, ◌+◌, ◌-◌, ◌*◌, ◌/◌, ◌%◌, ◌<◌, ◌≤◌, Bool, true, false, cond, not, ◌&&◌, List, [], ◌∷◌, length, get_or, refl, sym, ◌∙◌, ap, subst, arith, ◌⊎◌, inl, inr, ⊎_elim, ℤ}
use Rattle.std.specs.Prelude.{nat_eq, nat_lt, Some, None}
use Rattle.std.proofs.lemmas.Bool.{cases_lt, cond-true, cond-false, eqb-true, eq-eqb, and_parts}
use Rattle.std.proofs.lemmas.Nat.{div-add-mod', mod_below, div-mul-add}
use Rattle.std.proofs.Math.Nat.{mul-le-mul_right}
use Rattle.sched_model.specs.PlainMode.{hyper, task_at}
use Rattle.runtime_model.proofs.TaskTimes.{TaskFits}
use Rattle.runtime_model.specs.Entries.{Entry, Action, task_ends, beacon, slot, task_starts, due_end}
use Rattle.runtime_model.specs.History.{history, step_of, last_spot, next_place, spot_next, entries, performed, start_or_not, finished_or_not}
use Rattle.runtime_model.specs.Inputs.{inputs}
use Rattle.runtime_model.specs.LookingBack.{recall, or_else, runs}
use Rattle.runtime_model.specs.Outcomes.{PlainEvent, advance, request, restart, Spot, Step, is_beacon, restarts, begun_run}
use Rattle.runtime_model.specs.Placement.{placed, own_start, run_at, ends_run, ending_run_at}
use Rattle.runtime_model.specs.Plans.{Plan, offset, node_of}
use Rattle.runtime_model.specs.Registers.{last_end}
use Rattle.runtime_model.specs.System.{System, plan_at}
use Rattle.runtime_model.specs.Timeline.{drains}
use Rattle.sched_model.proofs.Hyperperiods.{hyper_some}
use Rattle.runtime_model.proofs.Instances.{same_class, more_turns}
use Rattle.runtime_model.proofs.Cycles.{Has, none, has_start, has_end, entry_right, key_order, rank, key}
use Rattle.runtime_model.proofs.Spots.{Same, Within, Opens, Moves, moves, stands}
use Rattle.runtime_model.proofs.Registers.{cond_some, or_cases, found_again, found_now, recall_stay, still_runs, finished_is}

abbrev pub P : Plan → ℕ → ℕ
P p a = (task_at p.mode a).period

abbrev pub E : Plan → ℕ → ℕ
E p a = (task_at p.mode a).wcet

-- place i of hyperperiod n stands before a spot; before the next Advance
abbrev pub BeforeSpot : Spot → ℕ → ℕ → Type 0
BeforeSpot s n i = (n < s.turn) ⊎ ((n ≡ s.turn) × (i < s.index))

abbrev pub Before : List Step → ℕ → ℕ → Type 0
Before ds n i = (n < (last_spot ds).turn) ⊎ ((n ≡ (last_spot ds).turn) × (i < next_place ds))

pub step_back : (y : System) (ds : List Step) (s : Spot) (n i : ℕ) → Moves y ds s → s.stay ≡ (last_spot ds).stay → i < length (entries y (last_spot ds).hyper.mode) → BeforeSpot s n i → Before ds n i
step_back y ds s n i m same l b =
    ⊎_elim
    (λ (h : Same y ds s). ⊎_elim (λ (x : n < s.turn). inl (omega (arith, x, h.turn))) (λ (x : (n ≡ s.turn) × (i < s.index)). inr (x.0 ∙ h.turn, omega (arith, x.1, h.index))) b)
    (λ r. ⊎_elim
    (λ (h : Within y ds s). ⊎_elim
    (λ (x : n < s.turn). ⊎_elim (λ (z : n < (last_spot ds).turn). inl z) (λ (z : (last_spot ds).turn ≤ n). inr (omega (arith, x, z, h.turn), omega (arith, l, h.over))) (cases_lt n (last_spot ds).turn))
    (λ (x : (n ≡ s.turn) × (i < s.index)). absurd (omega (arith, x.1, h.index))) b)
    (λ (h : Opens y ds s). absurd (omega (arith, h.stay, same))) r)
    m

pub step_on : (y : System) (ds : List Step) (s : Spot) (n i : ℕ) → Moves y ds s → s.stay ≡ (last_spot ds).stay → Before ds n i → BeforeSpot s n i
step_on y ds s n i m same b =
    ⊎_elim
    (λ (h : Same y ds s). ⊎_elim (λ (x : n < (last_spot ds).turn). inl (omega (arith, x, h.turn))) (λ (x : (n ≡ (last_spot ds).turn) × (i < next_place ds)). inr (x.0 ∙ sym h.turn, omega (arith, x.1, h.index))) b)
    (λ r. ⊎_elim
    (λ (h : Within y ds s). ⊎_elim (λ (x : n < (last_spot ds).turn). inl (omega (arith, x, h.turn))) (λ (x : (n ≡ (last_spot ds).turn) × (i < next_place ds)). inl (omega (arith, x.0, h.turn))) b)
    (λ (h : Opens y ds s). absurd (omega (arith, h.stay, same))) r)
    m

-- the mode of a stay stays, and nothing drains before its last hyperperiod
pub same_mode : (y : System) (ds : List Step) (s : Spot) → Moves y ds s → s.stay ≡ (last_spot ds).stay → (last_spot ds).hyper.mode ≡ s.hyper.mode
same_mode y ds s m same =
    ⊎_elim (λ (h : Same y ds s). sym h.alike.mode)
    (λ r. ⊎_elim (λ (h : Within y ds s). sym h.mode) (λ (h : Opens y ds s). absurd (omega (arith, h.stay, same))) r) m

-- x is at most the start of a draining last hyperperiod
abbrev pub Released : Plan → Spot → ℕ → Type 0
Released p s x = drains s.hyper.phase ≡ true → x < s.turn * hyper p.mode

pub released_back : (y : System) (p : Plan) (ds : List Step) (s : Spot) (x : ℕ) → Moves y ds s → s.stay ≡ (last_spot ds).stay → Released p s x → Released p (last_spot ds) x
released_back y p ds s x m same r =
    ⊎_elim (λ (h : Same y ds s). λ e. subst (λ n. x < n * hyper p.mode) h.turn (r (h.alike.drains ∙ e)))
    (λ q. ⊎_elim (λ (h : Within y ds s). λ e. absurd (let c : true ≡ false = sym e ∙ h.before in cc)) (λ (h : Opens y ds s). absurd (omega (arith, h.stay, same))) q) m

-- ---- entries and their times in one mode
abbrev pub Is : System → ℕ → ℕ → ℕ → Action → Type 0
Is y md i u w = (i < length (entries y md)) × (get_or (entries y md) i none ≡ record { tick = u; action = w })

abbrev pub H : System → ℕ → ℕ
H y md = hyper (plan_at y md).mode

pub in_cycle : (y : System) (md i u : ℕ) (w : Action) → Is y md i u w → u < H y md
in_cycle y md i u w is = subst (λ (e : Entry). e.tick < H y md) is.1 (entry_right y.nodes (plan_at y md) i is.0).0

pub turns_apart : (h n m : ℕ) → n < m → n * h + h ≤ m * h
turns_apart h n m l = let e : suc n * h ≤ m * h = mul-le-mul_right h l in omega (arith, e)

-- an entry with an earlier time, or of an earlier kind at the same time, stands before
pub time_order : (y : System) (md n i u m j t : ℕ) (w x : Action) → Is y md i u w → Is y md j t x → 3 * (n * H y md + u) + rank w < 3 * (m * H y md + t) + rank x → (n < m) ⊎ (n ≡ m) × (i < j)
time_order y md n i u m j t w x a b l =
    let ub = in_cycle y md i u w a in
    let tb = in_cycle y md j t x b in
    ⊎_elim (λ (h : n < m). inl h)
    (λ (h : m ≤ n). ⊎_elim
    (λ (g : m < n). absurd (omega (arith, turns_apart (H y md) m n g, tb, l, kinds x, kinds w)))
    (λ (g : n ≤ m). let e : n ≡ m = omega (arith, h, g) in
    let eq = ap (λ z. z * H y md) e in
    inr (e, key_order y.nodes (plan_at y md) i j a.0 b.0 (omega (arith, ap key a.1, ap key b.1, l, eq)))) (cases_lt m n))
    (cases_lt n m)
  where
    kinds : (w : Action) → rank w ≤ 2
    kinds (task_ends a) = omega arith
    kinds (beacon j) = omega arith
    kinds (slot j i) = omega arith
    kinds (task_starts a) = omega arith

-- one that stands before has no later time
pub time_before : (y : System) (md n i u m j t : ℕ) (w x : Action) → Is y md i u w → Is y md j t x → (n < m) ⊎ (n ≡ m) × (i < j) → 3 * (n * H y md + u) + rank w ≤ 3 * (m * H y md + t) + rank x
time_before y md n i u m j t w x a b l =
    ⊎_elim
    (λ (late : 3 * (m * H y md + t) + rank x < 3 * (n * H y md + u) + rank w). absurd (
    let back = time_order y md m j t n i u x w b a late in
    ⊎_elim
    (λ (p : n < m). ⊎_elim (λ (q : m < n). omega (arith, p, q)) (λ (q : (m ≡ n) × (j < i)). omega (arith, p, q.0)) back)
    (λ (p : (n ≡ m) × (i < j)). ⊎_elim (λ (q : m < n). omega (arith, p.0, q)) (λ (q : (m ≡ n) × (j < i)). omega (arith, p.1, q.1)) back) l))
    (λ (fine : 3 * (n * H y md + u) + rank w ≤ 3 * (m * H y md + t) + rank x). fine)
    (cases_lt (3 * (m * H y md + t) + rank x) (3 * (n * H y md + u) + rank w))

exact : (k p : ℕ) → 1 ≤ p → k * p / p ≡ k
exact k p some = ap (λ x. x / p) (let e : k * p ≡ k * p + 0 = omega arith in e) ∙ div-mul-add k p 0 some

module _ (y : System) (md a : ℕ) (fit : TaskFits y.nodes (plan_at y md) a) where
  -- the run of a start, and of an end
  pub run_is : (n u k : ℕ) → n * H y md + u ≡ offset (plan_at y md) a + k * P (plan_at y md) a → run_at (plan_at y md) n u a ≡ k
  run_is n u k e = ap (λ x. x / P (plan_at y md) a) (let s : n * H y md + u - offset (plan_at y md) a ≡ k * P (plan_at y md) a = omega (arith, e) in s) ∙ exact k (P (plan_at y md) a) fit.period

  pub ending_is : (n u k : ℕ) → n * H y md + u ≡ offset (plan_at y md) a + E (plan_at y md) a + k * P (plan_at y md) a → (ends_run (plan_at y md) n u a ≡ true) × (ending_run_at (plan_at y md) n u a ≡ k)
  ending_is n u k e = (
    not_early (n * H y md + u) (offset (plan_at y md) a + E (plan_at y md) a) (omega (arith, e)),
    ap (λ x. x / P (plan_at y md) a) (let s : n * H y md + u - (offset (plan_at y md) a + E (plan_at y md) a) ≡ k * P (plan_at y md) a = omega (arith, e) in s) ∙ exact k (P (plan_at y md) a) fit.period,
  )
    where
      not_early : (m n : ℕ) → n ≤ m → not (nat_lt m n) ≡ true
      not_early m n l = grind (arith, l)

  pub whole_turns : (n u : ℕ) → n * H y md + u ≡ n * fit.turns * P (plan_at y md) a + u
  whole_turns n u = omega (arith, ap (λ x. n * x) fit.whole)

  -- the time of an end that ends a run
  pub end_time : (n i u k : ℕ) → Is y md i u (task_ends a) → ends_run (plan_at y md) n u a ≡ true → k ≡ ending_run_at (plan_at y md) n u a → n * H y md + u ≡ offset (plan_at y md) a + E (plan_at y md) a + k * P (plan_at y md) a
  end_time n i u k is late e =
      let p = plan_at y md in
      let r = entry_right y.nodes p i is.0 in
      let due : due_end p u a ≡ true = (subst (λ (x : Entry). Rattle.runtime_model.proofs.Cycles.RightAt p x.tick x.action) is.1 r.1).1 in
      let cls = eqb-true ((offset p a + E p a) % P p a) (u % P p a) due ∙ sym (ap (λ x. x % P p a) (whole_turns n u) ∙ more_turns (P p a) (n * fit.turns) u fit.period) in
      let j = same_class (P p a) (offset p a + E p a) (n * H y md + u) fit.period (on_time (n * H y md + u) (offset p a + E p a) late) cls in
      subst (λ k. n * H y md + u ≡ offset p a + E p a + k * P p a) (sym (e ∙ (ending_is n u j.0 j.1).1)) j.1
    where
      on_time : (m n : ℕ) → not (nat_lt m n) ≡ true → n ≤ m
      on_time m n e = grind (arith, e)

  -- the tick of time c + k * P
  class_place : (c k : ℕ) → (n : ℕ) × (u : ℕ) × (u < H y md) × (n * H y md + u ≡ c + k * P (plan_at y md) a) × (nat_eq (c % P (plan_at y md) a) (u % P (plan_at y md) a) ≡ true)
  class_place c k =
      let p = plan_at y md in
      let x = c + k * P p a in
      let n = x / H y md in
      let u = x % H y md in
      let d = div-add-mod' x (H y md) in
      let e : n * H y md + u ≡ x = d in
      let cls = sym (more_turns (P p a) k c fit.period) ∙ ap (λ z. z % P p a) (let q : k * P p a + c ≡ n * H y md + u = omega (arith, e) in q) ∙ ap (λ z. z % P p a) (whole_turns n u) ∙ more_turns (P p a) (n * fit.turns) u fit.period in
      (n, u, mod_below x (H y md) (hyper_some p.mode), e, eq-eqb (c % P p a) (u % P p a) cls)

  -- each start and each end of a run has its place
  pub start_place : (k : ℕ) → (n : ℕ) × (i : ℕ) × (u : ℕ) × Is y md i u (task_starts a) × (n * H y md + u ≡ offset (plan_at y md) a + k * P (plan_at y md) a)
  start_place k =
      let c = class_place (offset (plan_at y md) a) k in
      let h = has_start y.nodes (plan_at y md) c.1 a c.2 fit.is_task fit.on_node c.4 in
      (c.0, h.0, c.1, (h.1, h.2), c.3)

  pub end_place : (k : ℕ) → (n : ℕ) × (i : ℕ) × (u : ℕ) × Is y md i u (task_ends a) × (n * H y md + u ≡ offset (plan_at y md) a + E (plan_at y md) a + k * P (plan_at y md) a)
  end_place k =
      let c = class_place (offset (plan_at y md) a + E (plan_at y md) a) k in
      let h = has_end y.nodes (plan_at y md) c.1 a c.2 fit.is_task fit.on_node c.4 in
      (c.0, h.0, c.1, (h.1, h.2), c.3)

  -- a later run ends and starts after the end of an earlier one
  later_run : (k l : ℕ) → k < l → E (plan_at y md) a + k * P (plan_at y md) a ≤ l * P (plan_at y md) a
  later_run k l h = omega (arith, turns_apart (P (plan_at y md) a) k l h, fit.short)

  -- a placed start
  pub is_placed : (s : Spot) (u k : ℕ) → s.hyper.opening ≡ nat_eq s.turn 0 → s.turn * H y md + u ≡ offset (plan_at y md) a + k * P (plan_at y md) a → Released (plan_at y md) s (k * P (plan_at y md) a) →
      placed s.hyper.opening s.hyper.phase (own_start (plan_at y md) u a) ≡ true
  is_placed s u k op e rel = by_turn s.turn refl
    where
      own_yes : (m n : ℕ) → n ≤ m → not (nat_lt m n) ≡ true
      own_yes m n l = grind (arith, l)

      own_no : (m n : ℕ) → m < n → not (nat_lt m n) ≡ false
      own_no m n l = grind (arith, l)

      by_drain : (b own : Bool) → (b ≡ true → own ≡ false) → cond b (not own) true ≡ true
      by_drain true own f = ap not (f refl)
      by_drain false own f = refl

      by_turn : (n : ℕ) → s.turn ≡ n → placed s.hyper.opening s.hyper.phase (own_start (plan_at y md) u a) ≡ true
      by_turn zero z =
          let yes : s.hyper.opening ≡ true = op ∙ eq-eqb s.turn 0 z in
          cond-true s.hyper.opening (own_start (plan_at y md) u a) (cond (drains s.hyper.phase) (not (own_start (plan_at y md) u a)) true) yes
          ∙ own_yes u (offset (plan_at y md) a) (omega (arith, e, ap (λ x. x * H y md) z))
      by_turn (suc n) z =
          let no : s.hyper.opening ≡ false = op ∙ (let q : nat_eq s.turn 0 ≡ false = grind (arith, z) in q) in
          cond-false s.hyper.opening (own_start (plan_at y md) u a) (cond (drains s.hyper.phase) (not (own_start (plan_at y md) u a)) true) no
          ∙ by_drain (drains s.hyper.phase) (own_start (plan_at y md) u a) (λ d. own_no u (offset (plan_at y md) a) (omega (arith, e, rel d)))

-- ---- one event more
pub not_both : (n m i j : ℕ) → (n < m) ⊎ (n ≡ m) × (i < suc j) → (m < n) ⊎ (m ≡ n) × (j < i) → ⊥
not_both n m i j a b =
    ⊎_elim
    (λ (p : n < m). ⊎_elim (λ (q : m < n). omega (arith, p, q)) (λ (q : (m ≡ n) × (j < i)). omega (arith, p, q.0)) b)
    (λ (p : (n ≡ m) × (i < suc j)). ⊎_elim (λ (q : m < n). omega (arith, p.0, q)) (λ (q : (m ≡ n) × (j < i)). omega (arith, p.1, q.1)) b)
    a

pub split_before : (n m i j : ℕ) → (n < m) ⊎ (n ≡ m) × (i < suc j) → ((n ≡ m) × (i ≡ j)) ⊎ ((n < m) ⊎ (n ≡ m) × (i < j))
split_before n m i j a =
    ⊎_elim
    (λ (p : n < m). inr (inl p))
    (λ (p : (n ≡ m) × (i < suc j)). ⊎_elim (λ (q : i < j). inr (inr (p.0, q))) (λ (q : j ≤ i). inl (p.0, omega (arith, p.1, q))) (cases_lt i j))
    a

pub start_is_quiet : (y : System) (p : Plan) (s : Spot) (ds : List Step) (a u v : ℕ) (b : Bool) → (restarts v (start_or_not y p s ds a u b) ≡ false) × (is_beacon (start_or_not y p s ds a u b) ≡ false)
start_is_quiet y p s ds a u v true = (refl, refl)
start_is_quiet y p s ds a u v false = (refl, refl)

pub both_true : (a b : Bool) → a ≡ true → b ≡ true → (a && b) ≡ true
both_true a b x y = grind (arith, x, y)

module _ (y : System) (md a : ℕ) (fit : TaskFits y.nodes (plan_at y md) a) (some : 1 ≤ length (entries y md)) where
  pub index_fits : (ds : List Step) (s : Spot) → Moves y ds s → s.hyper.mode ≡ md → s.index < length (entries y md)
  index_fits ds s m e =
      ⊎_elim (λ (h : Same y ds s). subst (λ (z : ℕ). s.index < length (entries y z)) (sym h.alike.mode ∙ e) (omega (arith, h.inside, h.index)))
      (λ r. ⊎_elim (λ (h : Within y ds s). omega (arith, h.index, some)) (λ (h : Opens y ds s). omega (arith, h.index, some)) r) m

  -- what the next Advance does by its entry
  pub performed_is : (ds : List Step) (lost i u : ℕ) (w : Action) → (spot_next y ds).hyper.mode ≡ md → i ≡ (spot_next y ds).index → Is y md i u w →
      (step_of y (advance lost) ds).out ≡ performed y (plan_at y md) (spot_next y ds) lost ds u w
  performed_is ds lost i u w m e is =
      let s = spot_next y ds in
      ap (λ (z : ℕ). performed y (plan_at y z) s lost ds (get_or (entries y z) s.index none).tick (get_or (entries y z) s.index none).action) m
      ∙ ap (λ (z : Entry). performed y (plan_at y md) s lost ds z.tick z.action) (ap (λ z. get_or (entries y md) z none) (sym e) ∙ is.1)

  hit_time : (ds : List Step) (lost k : ℕ) (x : ℤ) → (spot_next y ds).hyper.mode ≡ md → (spot_next y ds).index < length (entries y md) → last_end a (step_of y (advance lost) ds).out ≡ Some (k, x) →
      (u : ℕ) × Is y md (spot_next y ds).index u (task_ends a) × ((spot_next y ds).turn * H y md + u ≡ offset (plan_at y md) a + E (plan_at y md) a + k * P (plan_at y md) a)
  hit_time ds lost k x m l h =
      let s = spot_next y ds in
      let g = get_or (entries y md) s.index none in
      let h' = subst (λ (z : ℕ). last_end a (performed y (plan_at y z) s lost ds (get_or (entries y z) s.index none).tick (get_or (entries y z) s.index none).action) ≡ Some (k, x)) m h in
      let f = finished_is y (plan_at y md) s lost ds g.tick g.action a k x h' in
      let is : Is y md s.index g.tick (task_ends a) = (l, ap (λ (w : Action). record { tick = g.tick; action = w }) f.0) in
      (g.tick, is, end_time y md a fit s.turn s.index g.tick k is f.1 f.2)

  -- a start of a later run, once it is past, was performed
  begun_before : (es : List PlainEvent) (st n i u k k0 : ℕ) (x : ℤ) → (last_spot (history y es)).hyper.mode ≡ md →
      recall (node_of (plan_at y md) a) st (last_end a) (history y es) ≡ Some (k0, x) → k0 < k → Is y md i u (task_starts a) → n * H y md + u ≡ offset (plan_at y md) a + k * P (plan_at y md) a →
      Before (history y es) n i → Released (plan_at y md) (last_spot (history y es)) (k * P (plan_at y md) a) → (z : ℤ) × (recall (node_of (plan_at y md) a) st (begun_run a k) (history y es) ≡ Some z)
  begun_before [] st n i u k k0 x m e l is t b r = absurd (grind (arith, e))
  begun_before (request q ∷ es) st n i u k k0 x m e l is t b r =
      let ds = history y es in
      let v = node_of (plan_at y md) a in
      let d = step_of y (request q) ds in
      let c = cond_some (runs v (d ∷ ds) && nat_eq d.spot.stay st) (recall v st (last_end a) ds) (k0, x) e in
      found_again (runs v (d ∷ ds) && nat_eq d.spot.stay st) (begun_run a k d.out) (recall v st (begun_run a k) ds) c.0 (begun_before es st n i u k k0 x m c.1 l is t b r)
  begun_before (restart q ∷ es) st n i u k k0 x m e l is t b r =
      let ds = history y es in
      let v = node_of (plan_at y md) a in
      let d = step_of y (restart q) ds in
      let c = cond_some (runs v (d ∷ ds) && nat_eq d.spot.stay st) (recall v st (last_end a) ds) (k0, x) e in
      found_again (runs v (d ∷ ds) && nat_eq d.spot.stay st) (begun_run a k d.out) (recall v st (begun_run a k) ds) c.0 (begun_before es st n i u k k0 x m c.1 l is t b r)
  begun_before (advance lost ∷ es) st n i u k k0 x m e l is t b r =
      let ds = history y es in
      let p = plan_at y md in
      let v = node_of p a in
      let d = step_of y (advance lost) ds in
      let s = spot_next y ds in
      let mv = moves y ds (stands y es) in
      let c = cond_some (runs v (d ∷ ds) && nat_eq s.stay st) (or_else (last_end a d.out) (recall v st (last_end a) ds)) (k0, x) e in
      let both = and_parts (runs v (d ∷ ds)) (nat_eq s.stay st) c.0 in
      ⊎_elim
      (λ (hit : last_end a d.out ≡ Some (k0, x)).
      let f = hit_time ds lost k0 x m (index_fits ds s mv m) hit in
      absurd (not_both n s.turn i s.index b (time_order y md s.turn s.index f.0 n i u (task_ends a) (task_starts a) f.1 is (omega (arith, f.2, t, later_run y md a fit k0 k l)))))
      (λ (miss : (last_end a d.out ≡ None) × (recall v st (last_end a) ds ≡ Some (k0, x))).
      let same = eqb-true s.stay st both.1 ∙ sym (recall_stay v st (last_end a) ds (k0, x) miss.1) in
      let mode_ds = same_mode y ds s mv same ∙ m in
      ⊎_elim
      (λ (at : (n ≡ s.turn) × (i ≡ s.index)).
      let out = performed_is ds lost i u (task_starts a) m at.1 is in
      let ok = placed s.hyper.opening s.hyper.phase (own_start p u a) in
      let quiet = start_is_quiet y p s ds a u v (ok && runs v ds) in
      let running = sym (still_runs v d ds (ap (restarts v) out ∙ quiet.0) (ap is_beacon out ∙ quiet.1)) ∙ both.0 in
      let t' : s.turn * H y md + u ≡ offset p a + k * P p a = subst (λ z. z * H y md + u ≡ offset p a + k * P p a) at.0 t in
      let may = both_true ok (runs v ds) (is_placed y md a fit s u k (stands y (advance lost ∷ es)).turn t' r) running in
      let out' = out ∙ ap (start_or_not y p s ds a u) may in
      let number = (task_at p.mode a).number in
      let k' = run_at p s.turn u a in
      let ins = inputs p s.stay a k' ds in
      let ans = y.answers ds number ins in
      let says = ap (begun_run a k) out' ∙ cond-true (nat_eq a a && nat_eq k' k) (Some ans) None (both_true (nat_eq a a) (nat_eq k' k) (eq-eqb a a refl) (eq-eqb k' k (run_is y md a fit s.turn u k t'))) in
      (ans, found_now (runs v (d ∷ ds) && nat_eq s.stay st) (begun_run a k d.out) (recall v st (begun_run a k) ds) ans c.0 says))
      (λ (before : BeforeSpot s n i).
      found_again (runs v (d ∷ ds) && nat_eq s.stay st) (begun_run a k d.out) (recall v st (begun_run a k) ds) c.0
      (begun_before es st n i u k k0 x mode_ds miss.1 l is t (step_back y ds s n i mv same (subst (λ (z : ℕ). i < length (entries y z)) (sym mode_ds) is.0) before) (released_back y p ds s (k * P p a) mv same r)))
      (split_before n s.turn i s.index b))
      (or_cases (last_end a d.out) (recall v st (last_end a) ds) (k0, x) c.1)

  -- the end of a placed later run is not past
  no_end_before : (es : List PlainEvent) (st n i u k k0 : ℕ) (x : ℤ) → (last_spot (history y es)).hyper.mode ≡ md →
      recall (node_of (plan_at y md) a) st (last_end a) (history y es) ≡ Some (k0, x) → k0 < k → Is y md i u (task_ends a) → n * H y md + u ≡ offset (plan_at y md) a + E (plan_at y md) a + k * P (plan_at y md) a →
      Before (history y es) n i → Released (plan_at y md) (last_spot (history y es)) (k * P (plan_at y md) a) → ⊥
  no_end_before [] st n i u k k0 x m e l is t b r = absurd (grind (arith, e))
  no_end_before (request q ∷ es) st n i u k k0 x m e l is t b r =
      let ds = history y es in
      let v = node_of (plan_at y md) a in
      let d = step_of y (request q) ds in
      let c = cond_some (runs v (d ∷ ds) && nat_eq d.spot.stay st) (recall v st (last_end a) ds) (k0, x) e in
      no_end_before es st n i u k k0 x m c.1 l is t b r
  no_end_before (restart q ∷ es) st n i u k k0 x m e l is t b r =
      let ds = history y es in
      let v = node_of (plan_at y md) a in
      let d = step_of y (restart q) ds in
      let c = cond_some (runs v (d ∷ ds) && nat_eq d.spot.stay st) (recall v st (last_end a) ds) (k0, x) e in
      no_end_before es st n i u k k0 x m c.1 l is t b r
  no_end_before (advance lost ∷ es) st n i u k k0 x m e l is t b r =
      let ds = history y es in
      let p = plan_at y md in
      let v = node_of p a in
      let d = step_of y (advance lost) ds in
      let s = spot_next y ds in
      let mv = moves y ds (stands y es) in
      let c = cond_some (runs v (d ∷ ds) && nat_eq s.stay st) (or_else (last_end a d.out) (recall v st (last_end a) ds)) (k0, x) e in
      let both = and_parts (runs v (d ∷ ds)) (nat_eq s.stay st) c.0 in
      ⊎_elim
      (λ (hit : last_end a d.out ≡ Some (k0, x)).
      let f = hit_time ds lost k0 x m (index_fits ds s mv m) hit in
      absurd (not_both n s.turn i s.index b (time_order y md s.turn s.index f.0 n i u (task_ends a) (task_ends a) f.1 is (omega (arith, f.2, t, later_run y md a fit k0 k l, fit.wcet)))))
      (λ (miss : (last_end a d.out ≡ None) × (recall v st (last_end a) ds ≡ Some (k0, x))).
      let stay_is = eqb-true s.stay st both.1 in
      let same = stay_is ∙ sym (recall_stay v st (last_end a) ds (k0, x) miss.1) in
      let mode_ds = same_mode y ds s mv same ∙ m in
      ⊎_elim
      (λ (at : (n ≡ s.turn) × (i ≡ s.index)).
      let out = performed_is ds lost i u (task_ends a) m at.1 is in
      let t' : s.turn * H y md + u ≡ offset p a + E p a + k * P p a = subst (λ z. z * H y md + u ≡ offset p a + E p a + k * P p a) at.0 t in
      let ending = ending_is y md a fit s.turn u k t' in
      let w = start_place y md a fit k in
      let is' : Is y md s.index u (task_ends a) = subst (λ z. Is y md z u (task_ends a)) at.1 is in
      let first = time_order y md w.0 w.1 w.2 s.turn s.index u (task_starts a) (task_ends a) w.3 is' (omega (arith, w.4, t', fit.wcet)) in
      let g = begun_before es st w.0 w.1 w.2 k k0 x mode_ds miss.1 l w.3 w.4 (step_back y ds s w.0 w.1 mv same (subst (λ (z : ℕ). w.1 < length (entries y z)) (sym mode_ds) w.3.0) first) (released_back y p ds s (k * P p a) mv same r) in
      let ended_value : cond (ends_run p s.turn u a) (recall v s.stay (begun_run a (ending_run_at p s.turn u a)) ds) None ≡ Some g.0 =
      cond-true (ends_run p s.turn u a) (recall v s.stay (begun_run a (ending_run_at p s.turn u a)) ds) None ending.0 ∙ ap (λ z. recall v z (begun_run a (ending_run_at p s.turn u a)) ds) stay_is ∙ ap (λ z. recall v st (begun_run a z) ds) ending.1 ∙ g.1 in
      let out' = out ∙ ap (finished_or_not v a (ending_run_at p s.turn u a)) ended_value in
      let says = ap (last_end a) out' ∙ cond-true (nat_eq a a) (Some (ending_run_at p s.turn u a, g.0)) None (eq-eqb a a refl) in
      absurd (let q : None ≡ Some (ending_run_at p s.turn u a, g.0) = sym miss.0 ∙ says in grind (arith, q)))
      (λ (before : BeforeSpot s n i).
      no_end_before es st n i u k k0 x mode_ds miss.1 l is t (step_back y ds s n i mv same (subst (λ (z : ℕ). i < length (entries y z)) (sym mode_ds) is.0) before) (released_back y p ds s (k * P p a) mv same r))
      (split_before n s.turn i s.index b))
      (or_cases (last_end a d.out) (recall v st (last_end a) ds) (k0, x) c.1)

  -- the end that filled the register is past
  end_was : (es : List PlainEvent) (st k0 : ℕ) (x : ℤ) → (last_spot (history y es)).hyper.mode ≡ md → recall (node_of (plan_at y md) a) st (last_end a) (history y es) ≡ Some (k0, x) →
      (n : ℕ) × (i : ℕ) × (u : ℕ) × Is y md i u (task_ends a) × (n * H y md + u ≡ offset (plan_at y md) a + E (plan_at y md) a + k0 * P (plan_at y md) a) × Before (history y es) n i
  end_was [] st k0 x m e = absurd (grind (arith, e))
  end_was (request q ∷ es) st k0 x m e =
      let ds = history y es in
      let v = node_of (plan_at y md) a in
      let d = step_of y (request q) ds in
      end_was es st k0 x m (cond_some (runs v (d ∷ ds) && nat_eq d.spot.stay st) (recall v st (last_end a) ds) (k0, x) e).1
  end_was (restart q ∷ es) st k0 x m e =
      let ds = history y es in
      let v = node_of (plan_at y md) a in
      let d = step_of y (restart q) ds in
      end_was es st k0 x m (cond_some (runs v (d ∷ ds) && nat_eq d.spot.stay st) (recall v st (last_end a) ds) (k0, x) e).1
  end_was (advance lost ∷ es) st k0 x m e =
      let ds = history y es in
      let v = node_of (plan_at y md) a in
      let d = step_of y (advance lost) ds in
      let s = spot_next y ds in
      let mv = moves y ds (stands y es) in
      let c = cond_some (runs v (d ∷ ds) && nat_eq s.stay st) (or_else (last_end a d.out) (recall v st (last_end a) ds)) (k0, x) e in
      ⊎_elim
      (λ (hit : last_end a d.out ≡ Some (k0, x)).
      let f = hit_time ds lost k0 x m (index_fits ds s mv m) hit in
      (s.turn, s.index, f.0, f.1, f.2, inr (refl, omega arith)))
      (λ (miss : (last_end a d.out ≡ None) × (recall v st (last_end a) ds ≡ Some (k0, x))).
      let same = eqb-true s.stay st (and_parts (runs v (d ∷ ds)) (nat_eq s.stay st) c.0).1 ∙ sym (recall_stay v st (last_end a) ds (k0, x) miss.1) in
      let w = end_was es st k0 x (same_mode y ds s mv same ∙ m) miss.1 in
      (w.0, w.1, w.2, w.3, w.4, ⊎_elim (λ (q : w.0 < s.turn). inl q) (λ (q : (w.0 ≡ s.turn) × (w.1 < s.index)). inr (q.0, omega (arith, q.1))) (step_on y ds s w.0 w.1 mv same w.5)))
      (or_cases (last_end a d.out) (recall v st (last_end a) ds) (k0, x) c.1)

  -- at an Advance between the end of run k and the end of the next one, an out register that is full has run k
  pub full_is_current : (es : List PlainEvent) (t k k0 : ℕ) (w : Action) (x : ℤ) →
      (spot_next y (history y es)).hyper.mode ≡ md → Is y md (spot_next y (history y es)).index t w → rank w ≡ 1 →
      recall (node_of (plan_at y md) a) (spot_next y (history y es)).stay (last_end a) (history y es) ≡ Some (k0, x) →
      offset (plan_at y md) a + E (plan_at y md) a + k * P (plan_at y md) a ≤ (spot_next y (history y es)).turn * H y md + t →
      (spot_next y (history y es)).turn * H y md + t < offset (plan_at y md) a + E (plan_at y md) a + P (plan_at y md) a + k * P (plan_at y md) a →
      Released (plan_at y md) (spot_next y (history y es)) (k * P (plan_at y md) a) → k0 ≡ k
  full_is_current es t k k0 w x m is kind e low high r =
      let ds = history y es in
      let p = plan_at y md in
      let v = node_of p a in
      let s = spot_next y ds in
      let mv = moves y ds (stands y es) in
      let same = sym (recall_stay v s.stay (last_end a) ds (k0, x) e) in
      let mode_ds = same_mode y ds s mv same ∙ m in
      ⊎_elim
      (λ (early : k0 < k).
      let f = end_place y md a fit k in
      let first = time_order y md f.0 f.1 f.2 s.turn s.index t (task_ends a) w f.3 is (omega (arith, f.4, low, kind)) in
      absurd (no_end_before es s.stay f.0 f.1 f.2 k k0 x mode_ds e early f.3 f.4 (step_back y ds s f.0 f.1 mv same (subst (λ (z : ℕ). f.1 < length (entries y z)) (sym mode_ds) f.3.0) first) (released_back y p ds s (k * P p a) mv same r)))
      (λ (late : k ≤ k0).
      let f = end_was es s.stay k0 x mode_ds e in
      let before = time_before y md f.0 f.1 f.2 s.turn s.index t (task_ends a) w f.3 is (step_on y ds s f.0 f.1 mv same f.5) in
      ⊎_elim
      (λ (more : k < k0). absurd (omega (arith, before, f.4, high, kind, turns_apart (P p a) k k0 more)))
      (λ (le : k0 ≤ k). omega (arith, late, le))
      (cases_lt k k0))
      (cases_lt k0 k)
