-- Each mode of a set that keeps the rules is within the limits
use Rattle.std.proofs.Common.{◌≡◌, ℕ, ◌+◌, ◌*◌, ◌/◌, ◌<◌, ◌≤◌, List, [], ◌∷◌, length, get_or, map, Contains, All, None, sym, ◌∙◌, ap, subst, arith, pos, ◌<ℤ◌, unsigned_abs}
use Rattle.std.specs.List.{AllByRecursion, sum_by}
use Rattle.std.proofs.lemmas.List.{length-map}
use Rattle.std.proofs.lemmas.List.Elements.{All-from_recursion, All-contains, Contains-get_or}
use Rattle.app_graph.specs.declared.raw.RawTask.{RawTask}
use Rattle.app_graph.specs.declared.raw.RawApp.{RawApp}
use Rattle.app_graph.specs.declared.raw.RawMode.{RawMode}
use Rattle.app_graph.specs.declared.raw.RawSet.{RawSet}
use Rattle.app_graph.specs.declared.mode_set.App.{App}
use Rattle.app_graph.specs.declared.mode_set.Mode.{Mode}
use Rattle.app_graph.specs.declared.mode_set.ModeSet.{ModeSet}
use Rattle.app_graph.specs.ValueRules.{value_rules, slots_in}
use Rattle.app_graph.specs.Numbering.{task_place, apps_from, numbers_of, set_of}
use Rattle.app_graph.specs.Validation.{KeepsRules}
use Rattle.sched_model.specs.PlainMode.{PlainMode, hyper, tasks_of, plain_task, place_of, plain_mode, mode_at, plain_at}
use Rattle.sched_model.specs.ModeLimits.{IsLimited}
use Rattle.sched_model.proofs.KeptRules.{KeptApp, KeptMode, KeptSet, kept_set}
use Rattle.sched_model.proofs.KeptModes.{periods_are, comes, message_kept, copies_kept, app_kept, hyper_is}
use Rattle.sched_model.proofs.KeptSets.{mode_found}
use Rattle.sched_model.proofs.PlainPlaces.{no_raw_message}
use Rattle.sched_model.proofs.Sizes.{instances_by_app, task_total, message_total, instance_total}

periods_in : (apps : List RawApp) → AllByRecursion KeptApp apps → AllByRecursion (λ p. (1 ≤ p) × (p ≤ 1000000000)) (map (λ (a : RawApp). unsigned_abs a.period) apps)
periods_in [] h = tt
periods_in (a ∷ apps) h = (h.0.period, periods_in apps h.1)

module _ (raw : RawSet) (kept : KeptSet raw) (mode : RawMode) (t n : ℕ) (ok : KeptMode raw mode) where
  abbrev m : PlainMode
  m = plain_mode (set_of raw) (record { name = mode.name; apps = apps_from raw.nodes t n mode.apps })

  limits : IsLimited m
  limits = record {
    slots = kept.slots;
    round = kept.round;
    gap = kept.gap;
    periods = λ p c. All-contains (λ p. (1 ≤ p) × (p ≤ 1000000000)) m.periods p
        (All-from_recursion (λ p. (1 ≤ p) × (p ≤ 1000000000)) m.periods (subst (AllByRecursion (λ p. (1 ≤ p) × (p ≤ 1000000000))) (sym (periods_are raw.nodes t n mode.apps)) (periods_in mode.apps ok.apps))) c;
    tasks = omega (arith, ok.tasks, length-map (tasks_of 0 (apps_from raw.nodes t n mode.apps)) plain_task, task_total raw.nodes 0 t n mode.apps);
    messages = omega (arith, ok.messages, message_total raw.nodes (tasks_of 0 (apps_from raw.nodes t n mode.apps)) t n mode.apps);
    ends = λ i l.
        let c = comes raw (set_of raw) raw.nodes mode t n kept.round.0 ok i l in
        let k = message_kept raw (set_of raw) raw.nodes mode t n kept.round.0 ok c.A c.j (app_kept raw (set_of raw) raw.nodes mode t n kept.round.0 ok c.k c.A c.at) c.within in
        let u = get_or c.A.messages c.j no_raw_message in
        (omega (arith, k.0.few, ap (λ (x : List ℕ). length x) c.is.from, count (t + c.k) c.A.tasks u.from), omega (arith, k.1.few, ap (λ (x : List ℕ). length x) c.is.to, count (t + c.k) c.A.tasks u.to));
    copies = λ i l.
        let c = comes raw (set_of raw) raw.nodes mode t n kept.round.0 ok i l in
        let k = copies_kept raw (set_of raw) raw.nodes mode t n kept.round.0 ok c.A c.j (app_kept raw (set_of raw) raw.nodes mode t n kept.round.0 ok c.k c.A c.at) c.within in
        omega (arith, c.is.copies, k.1);
    rounds = let e = ap (λ h. h / unsigned_abs raw.round) (hyper_is raw (set_of raw) raw.nodes mode t n kept.round.0 ok) in omega (arith, e, ok.sizes.rounds);
    instances =
        let a = instances_by_app (set_of raw) (record { name = mode.name; apps = apps_from raw.nodes t n mode.apps }) in
        let b = instance_total raw.nodes (hyper m) t n mode.apps in
        let c = ap (λ h. slots_in h mode.apps) (hyper_is raw (set_of raw) raw.nodes mode t n kept.round.0 ok) in
        omega (arith, a, b, c, ok.sizes.instances);
  }
    where
      count : (base : ℕ) (us : List RawTask) (names : List (List ℕ)) →
          length (map (place_of (tasks_of 0 (apps_from raw.nodes t n mode.apps))) (numbers_of base us names)) ≡ length names
      count base us names = length-map (numbers_of base us names) (place_of (tasks_of 0 (apps_from raw.nodes t n mode.apps))) ∙ length-map names (λ name. base + task_place us name)

read_limited : (raw : RawSet) → value_rules raw ≡ None → (mode : Mode) → Contains (set_of raw).modes mode → IsLimited (plain_mode (set_of raw) mode)
read_limited raw e mode c =
    let kept = kept_set raw e in
    let f = mode_found raw raw.nodes 0 0 raw.modes kept.modes mode c in
    subst (λ (x : Mode). IsLimited (plain_mode (set_of raw) x)) f.4 (limits raw kept f.0 f.2 f.3 f.1)

pub modes_limited : (set : ModeSet) → KeepsRules set → (mode : Mode) → Contains set.modes mode → IsLimited (plain_mode set mode)
modes_limited set (raw, e, same) mode c =
    subst (λ (x : ModeSet). IsLimited (plain_mode x mode)) (sym same) (read_limited raw e mode (subst (λ (x : ModeSet). Contains x.modes mode) same c))

pub mode_at_limited : (set : ModeSet) → KeepsRules set → (i : ℕ) → i < length set.modes → IsLimited (plain_at set i)
mode_at_limited set keeps i l = modes_limited set keeps (mode_at set i) (Contains-get_or set.modes i (record { name = []; apps = [] }) l)

-- ---- periods are positive
positive_from : (nodes : List (List ℕ)) (t n : ℕ) (apps : List RawApp) → AllByRecursion KeptApp apps → AllByRecursion (λ (a : App). pos 0 <ℤ a.period) (apps_from nodes t n apps)
positive_from nodes t n [] h = tt
positive_from nodes t n (a ∷ apps) h = (h.0.positive, positive_from nodes (t + length a.tasks) (n + length a.messages) apps h.1)

read_positive : (raw : RawSet) → value_rules raw ≡ None → (mode : Mode) → Contains (set_of raw).modes mode → All (λ (a : App). pos 0 <ℤ a.period) mode.apps
read_positive raw e mode c =
    let kept = kept_set raw e in
    let f = mode_found raw raw.nodes 0 0 raw.modes kept.modes mode c in
    subst (λ (x : Mode). All (λ (a : App). pos 0 <ℤ a.period) x.apps) f.4
    (All-from_recursion (λ (a : App). pos 0 <ℤ a.period) (apps_from raw.nodes f.2 f.3 f.0.apps) (positive_from raw.nodes f.2 f.3 f.0.apps f.1.apps))

pub mode_at_positive : (set : ModeSet) → KeepsRules set → (i : ℕ) → i < length set.modes → All (λ (a : App). pos 0 <ℤ a.period) (mode_at set i).apps
mode_at_positive set (raw, e, same) i l =
    subst (λ (x : ModeSet). All (λ (a : App). pos 0 <ℤ a.period) (mode_at x i).apps) (sym same)
    (read_positive raw e (mode_at (set_of raw) i) (Contains-get_or (set_of raw).modes i (record { name = []; apps = [] }) (subst (λ (x : ModeSet). i < length x.modes) same l)))
