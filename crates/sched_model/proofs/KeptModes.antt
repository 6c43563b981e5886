-- The modes of a file that breaks no rule are valid
use Rattle.std.proofs.Common.{◌≡◌, ℕ, zero, suc, ◌+◌, ◌<◌, ◌≤◌, true, false, cond, not, ltb, ◌&&◌, List, [], ◌∷◌, length, get_or, map, Contains, Option, Some, None, refl, sym, ◌∙◌, ap, subst, arith, inl, inr, ⊎_elim, ℤ, unsigned_abs, unwrap_or}
use Rattle.std.specs.List.{AllByRecursion, fold, position_or_len}
use Rattle.std.specs.Str.{bytes_eq}
use Rattle.std.proofs.lemmas.Bool.{cases_Bool, cond-true, cond-false, lt-ltb, and_from, or_cases, both_ways}
use Rattle.std.proofs.lemmas.List.{get_or-map, length-map}
use Rattle.std.proofs.lemmas.List.Elements.{All-from_recursion, All-contains, Contains-get_or}
use Rattle.std.proofs.lemmas.Slice.Eq.{bytes_eq-Decides}
use Rattle.app_graph.specs.declared.raw.RawTask.{RawTask}
use Rattle.app_graph.specs.declared.raw.RawMessage.{RawMessage}
use Rattle.app_graph.specs.declared.raw.RawApp.{RawApp}
use Rattle.app_graph.specs.declared.raw.RawMode.{RawMode}
use Rattle.app_graph.specs.declared.raw.RawSet.{RawSet}
use Rattle.app_graph.specs.declared.mode_set.App.{App}
use Rattle.app_graph.specs.declared.mode_set.ModeSet.{ModeSet}
use Rattle.app_graph.specs.ValueRules.{among, is_task, goes, has_cycle, hyper_of, most_copies}
use Rattle.app_graph.specs.Cycles as walks
use Rattle.app_graph.proofs.Levels.{cycle_law}
use Rattle.app_graph.specs.Hyperperiod.{hyperperiod, lcm}
use Rattle.app_graph.specs.Numbering.{task_place, apps_from, numbers_of, HasCopies}
use Rattle.sched_model.specs.PlainMode.{PlainMode, PlainTask, hyper, no_task, task_at, message_at, TaskOfApp, tasks_of, place_of, plain_task, plain_mode}
use Rattle.sched_model.specs.TaskGraph.{IsEdge, Walk}
use Rattle.sched_model.specs.ValidMode.{IsValid, Joins}
use Rattle.sched_model.proofs.Tests.{passes}
use Rattle.sched_model.proofs.Ranks.{rank, rank_low, rank_rises}
use Rattle.sched_model.proofs.Graph.{edge_message}
use Rattle.sched_model.proofs.KeptRules.{KeptEnds, KeptApp, KeptMode, abs_within}
use Rattle.sched_model.proofs.PlainPlaces.{no_raw_task, no_raw_message, nothing, At, task_there, task_found, one_app, at_all, place_at, IsMessage, message_found}

-- ---- a known name has a place
pub known_place : (name : List ℕ) (us : List RawTask) → is_task us name ≡ true →
    let q = position_or_len (λ (u : RawTask). bytes_eq name u.name) us in (q < length us) × ((get_or us q no_raw_task).name ≡ name)
known_place name [] e = absurd cc
known_place name (u ∷ us) e =
    let here = bytes_eq name u.name in
    let rest = position_or_len (λ (u : RawTask). bytes_eq name u.name) us in
    ⊎_elim
    (λ (yes : here ≡ true).
    let z : cond (not here) (1 + rest) 0 ≡ 0 = cond-false (not here) (1 + rest) 0 (ap not yes) in
    (omega (arith, z), ap (λ i. (get_or (u ∷ us) i no_raw_task).name) z ∙ sym ((bytes_eq-Decides name u.name).0 yes)))
    (λ (no : here ≡ false).
    let r = known_place name us (⊎_elim (λ (y : here ≡ true). absurd (both_ways here no y)) (λ (k : is_task us name ≡ true). k) (or_cases here (is_task us name) e)) in
    let z : cond (not here) (1 + rest) 0 ≡ suc rest = cond-true (not here) (1 + rest) 0 (ap not no) ∙ (let s : 1 + rest ≡ suc rest = omega arith in s) in
    (omega (arith, z, r.0), ap (λ i. (get_or (u ∷ us) i no_raw_task).name) z ∙ r.1))
    (cases_Bool here)

pub place_is : (name : List ℕ) (us : List RawTask) → is_task us name ≡ true → task_place us name ≡ position_or_len (λ (u : RawTask). bytes_eq name u.name) us
place_is name us e =
    let q = position_or_len (λ (u : RawTask). bytes_eq name u.name) us in
    let k = known_place name us e in
    ap (λ (o : Option ℕ). unwrap_or o 0) (cond-true (ltb q (length us)) (Some q) None (lt-ltb q (length us) k.0))

-- an item of a mapped list comes from one of the list
pub from_mapped : {X Y : Type 0} (f : X → Y) (xs : List X) (d : X) (y : Y) → Contains (map f xs) y → (x : X) × Contains xs x × (f x ≡ y)
from_mapped f xs d y (k, l, e) =
    let l' : k < length xs = omega (arith, l, length-map xs f) in
    let x = get_or xs k d in
    (x, Contains-get_or xs k d l', sym (get_or-map f xs k d y l') ∙ e)

into_mapped : {X Y : Type 0} (f : X → Y) (xs : List X) (x : X) → Contains xs x → Contains (map f xs) (f x)
into_mapped f xs x (k, l, e) = (k, omega (arith, l, length-map xs f), get_or-map f xs k x (f x) l ∙ ap f e)

-- a name of the list is among its names
pub among_names : (name : List ℕ) (names : List (List ℕ)) (other : List ℕ) → Contains names name → other ≡ name → among other names ≡ true
among_names name names other (k, l, e) same = passes (bytes_eq other) names name k l ((bytes_eq-Decides other (get_or names k name)).1 (same ∙ sym e))

-- ---- the applications' periods
pub periods_are : (nodes : List (List ℕ)) (t m : ℕ) (apps : List RawApp) → map (λ (a : App). unsigned_abs a.period) (apps_from nodes t m apps) ≡ map (λ (a : RawApp). unsigned_abs a.period) apps
periods_are nodes t m [] = refl
periods_are nodes t m (a ∷ apps) = ap (λ (l : List ℕ). unsigned_abs a.period ∷ l) (periods_are nodes (t + length a.tasks) (m + length a.messages) apps)

period_of : (apps : List RawApp) (k : ℕ) (A : RawApp) → At apps k A → Contains (map (λ (a : RawApp). unsigned_abs a.period) apps) (unsigned_abs A.period)
period_of [] k A at = absurd at
period_of (a ∷ apps) k A (inl (e, same)) = (0, omega arith, ap (λ (b : RawApp). unsigned_abs b.period) same)
period_of (a ∷ apps) k A (inr (i, e, at)) = let r = period_of apps i A at in (suc r.0, omega (arith, r.1), r.2)

some_periods : (apps : List RawApp) → AllByRecursion KeptApp apps → AllByRecursion (λ p. 1 ≤ p) (map (λ (a : RawApp). unsigned_abs a.period) apps)
some_periods [] h = tt
some_periods (a ∷ apps) h = (h.0.period.0, some_periods apps h.1)

-- ---- one mode, whose tasks have the numbers t, t + 1, .. and whose messages have n, n + 1, ..
module _ (raw : RawSet) (set : ModeSet) (nodes : List (List ℕ)) (mode : RawMode) (t n : ℕ) (round : 1 ≤ unsigned_abs set.round) (kept : KeptMode raw mode) where
  abbrev pub m : PlainMode
  m = plain_mode set (record { name = mode.name; apps = apps_from nodes t n mode.apps })

  abbrev ts : List TaskOfApp
  ts = tasks_of 0 (apps_from nodes t n mode.apps)

  length-m : length m.tasks ≡ length ts
  length-m = length-map ts plain_task

  numbered : (x : ℕ) → x < length ts → (get_or ts x nothing).task.number ≡ t + x
  numbered x l =
      let f = task_found nodes 0 t n mode.apps x l in
      let is = (task_there nodes 0 t n mode.apps f.0 f.2 f.3 f.1 f.4).1 in
      ap (λ y. (get_or ts y nothing).task.number) f.5 ∙ is.number ∙ (let s : t + (f.0 + f.1) ≡ t + x = omega (arith, f.5) in s)

  -- task j of an application, as a task of the mode
  pub record Stands (k j : ℕ) (A : RawApp) : Type 0 where
    pub within : k + j < length m.tasks
    pub wcet : (task_at m (k + j)).wcet ≡ unsigned_abs (get_or A.tasks j no_raw_task).wcet
    pub period : (task_at m (k + j)).period ≡ unsigned_abs A.period
    pub deadline : (task_at m (k + j)).deadline ≡ unsigned_abs A.deadline

  stands : (k j : ℕ) (A : RawApp) → At mode.apps k A → j < length A.tasks → Stands k j A
  stands k j A at l =
      let w = task_there nodes 0 t n mode.apps k A at j l in
      let e = get_or-map plain_task ts (k + j) nothing no_task w.0 in
      record {
        within = omega (arith, w.0, length-m);
        wcet = ap (λ (x : PlainTask). x.wcet) e ∙ ap (λ (z : ℤ). unsigned_abs z) w.1.wcet;
        period = ap (λ (x : PlainTask). x.period) e ∙ ap (λ (z : ℤ). unsigned_abs z) w.1.period;
        deadline = ap (λ (x : PlainTask). x.deadline) e ∙ ap (λ (z : ℤ). unsigned_abs z) w.1.deadline;
      }

  found : (a : ℕ) → a < length m.tasks → (k j : ℕ) × (A : RawApp) × At mode.apps k A × (j < length A.tasks) × (a ≡ k + j)
  found a l = task_found nodes 0 t n mode.apps a (omega (arith, l, length-m))

  -- a producer or a consumer of a message is the task of the name
  member : (k : ℕ) (A : RawApp) → At mode.apps k A → (names : List (List ℕ)) (most : ℕ) → KeptEnds most A names → (a : ℕ) → Contains (map (place_of ts) (numbers_of (t + k) A.tasks names)) a →
      (name : List ℕ) × Contains names name × ((j : ℕ) × (j < length A.tasks) × (a ≡ k + j) × ((get_or A.tasks j no_raw_task).name ≡ name))
  member k A at names most ends a c =
      let number = λ (name : List ℕ). t + k + task_place A.tasks name in
      let x = from_mapped (place_of ts) (numbers_of (t + k) A.tasks names) 0 a c in
      let y = from_mapped number names [] x.0 x.1 in
      let known = All-contains (λ name. is_task A.tasks name ≡ true) names y.0 (All-from_recursion (λ name. is_task A.tasks name ≡ true) names ends.known) y.1 in
      let q = known_place y.0 A.tasks known in
      let j = position_or_len (λ (u : RawTask). bytes_eq y.0 u.name) A.tasks in
      let w = task_there nodes 0 t n mode.apps k A at j q.0 in
      let e : x.0 ≡ t + (k + j) = sym y.2 ∙ ap (λ i. t + k + i) (place_is y.0 A.tasks known) ∙ (let s : t + k + j ≡ t + (k + j) = omega arith in s) in
      (y.0, y.1, (j, q.0, sym x.2 ∙ ap (place_of ts) e ∙ place_at ts t numbered (k + j) w.0, q.1))

  -- what a message of the mode comes from
  pub record Comes (i : ℕ) : Type 0 where
    pub k : ℕ
    pub A : RawApp
    pub j : ℕ
    pub at : At mode.apps k A
    pub within : j < length A.messages
    pub is : IsMessage ts A k t (n + i) (get_or A.messages j no_raw_message) (message_at m i)

  pub comes : (i : ℕ) → i < length m.messages → Comes i
  comes i l = let f = message_found nodes ts t n mode.apps i l in record { k = f.0; A = f.1; j = f.2; at = f.3; within = f.4; is = f.5 }

  pub app_kept : (k : ℕ) (A : RawApp) → At mode.apps k A → KeptApp A
  app_kept k A at = at_all KeptApp mode.apps kept.apps k A at

  pub message_kept : (A : RawApp) (j : ℕ) → KeptApp A → j < length A.messages → let u = get_or A.messages j no_raw_message in KeptEnds 4 A u.from × KeptEnds 16 A u.to
  message_kept A j ok l = All-from_recursion (λ u. KeptEnds 4 A u.from × KeptEnds 16 A u.to) A.messages ok.messages j no_raw_message l

  pub copies_kept : (A : RawApp) (j : ℕ) → KeptApp A → j < length A.messages → let n = unsigned_abs (get_or A.messages j no_raw_message).copies in (1 ≤ n) × (n ≤ most_copies)
  copies_kept A j ok l = abs_within _ most_copies (All-from_recursion HasCopies A.messages ok.copies j no_raw_message l)

  -- the first one of a list of names
  has_one : (k : ℕ) (A : RawApp) (names : List (List ℕ)) (most : ℕ) → KeptEnds most A names → (a : ℕ) × Contains (map (place_of ts) (numbers_of (t + k) A.tasks names)) a
  has_one k A names most ends =
      let l = map (place_of ts) (numbers_of (t + k) A.tasks names) in
      let number = λ (name : List ℕ). t + k + task_place A.tasks name in
      (get_or l 0 0, Contains-get_or l 0 0 (omega (arith, ends.some, length-map (numbers_of (t + k) A.tasks names) (place_of ts), length-map names number)))

  -- ---- edges stay within an application
  pub record Edge (a b : ℕ) : Type 0 where
    pub k : ℕ
    pub A : RawApp
    pub at : At mode.apps k A
    pub i : ℕ
    pub j : ℕ
    pub i_low : i < length A.tasks
    pub j_low : j < length A.tasks
    pub from : a ≡ k + i
    pub to : b ≡ k + j
    pub goes_so : goes A (get_or A.tasks i no_raw_task) (get_or A.tasks j no_raw_task) ≡ true

  edge_in : (a b : ℕ) → IsEdge m a b → Edge a b
  edge_in a b e =
      let w = edge_message m a b e in
      let c = comes w.0 w.1 in
      let u = get_or c.A.messages c.j no_raw_message in
      let ends = message_kept c.A c.j (app_kept c.k c.A c.at) c.within in
      let x = member c.k c.A c.at u.from 4 ends.0 a (subst (λ (l : List ℕ). Contains l a) c.is.from w.2) in
      let y = member c.k c.A c.at u.to 16 ends.1 b (subst (λ (l : List ℕ). Contains l b) c.is.to w.3) in
      let ti = get_or c.A.tasks x.2.0 no_raw_task in
      let tj = get_or c.A.tasks y.2.0 no_raw_task in
      record {
        k = c.k;
        A = c.A;
        at = c.at;
        i = x.2.0;
        j = y.2.0;
        i_low = x.2.1;
        j_low = y.2.1;
        from = x.2.2;
        to = y.2.2;
        goes_so = passes (λ (v : RawMessage). among ti.name v.from && among tj.name v.to) c.A.messages no_raw_message c.j c.within
            (and_from (among ti.name u.from) (among tj.name u.to) (among_names x.0 u.from ti.name x.1 x.2.3) (among_names y.0 u.to tj.name y.1 y.2.3));
      }

  inside : (a b : ℕ) → IsEdge m a b → (a < length m.tasks) × (b < length m.tasks)
  inside a b e =
      let w = edge_in a b e in
      (omega (arith, w.from, (stands w.k w.i w.A w.at w.i_low).within), omega (arith, w.to, (stands w.k w.j w.A w.at w.j_low).within))

  -- ---- walks stay within an application, so none leads back
  walk_in : (c a b : ℕ) → Walk m a b c → (k : ℕ) (A : RawApp) → At mode.apps k A → (i : ℕ) → i < length A.tasks → a ≡ k + i →
      (j : ℕ) × (j < length A.tasks) × (b ≡ k + j) × walks.Walk A c (get_or A.tasks i no_raw_task) (get_or A.tasks j no_raw_task)
  walk_in zero a b w k A at i l e = (i, l, sym w ∙ e, refl)
  walk_in (suc c) a b (d, edge, rest) k A at i l e =
      let x = edge_in a d edge in
      let o = one_app mode.apps x.k k x.A A x.at at x.i i x.i_low l (sym x.from ∙ e) in
      let same : x.i ≡ i = omega (arith, o.0, x.from, e) in
      let low = subst (λ (B : RawApp). x.j < length B.tasks) o.1 x.j_low in
      let g = subst (λ (B : RawApp). goes B (get_or B.tasks x.i no_raw_task) (get_or B.tasks x.j no_raw_task) ≡ true) o.1 x.goes_so in
      let h = subst (λ y. goes A (get_or A.tasks y no_raw_task) (get_or A.tasks x.j no_raw_task) ≡ true) same g in
      let r = walk_in c d b rest k A at x.j low (omega (arith, x.to, o.0)) in
      (r.0, r.1, r.2, (get_or A.tasks x.j no_raw_task, Contains-get_or A.tasks x.j no_raw_task low, h, r.3))

  acyclic : (a c : ℕ) → Walk m a a (suc c) → ⊥
  acyclic a c w =
      let x = edge_in a w.0 w.1 in
      let r = walk_in (suc c) a a w x.k x.A x.at x.i x.i_low x.from in
      let back : walks.Walk x.A (suc c) (get_or x.A.tasks x.i no_raw_task) (get_or x.A.tasks x.i no_raw_task) =
      subst (λ j. walks.Walk x.A (suc c) (get_or x.A.tasks x.i no_raw_task) (get_or x.A.tasks j no_raw_task)) (let s : r.0 ≡ x.i = omega (arith, r.2, x.from) in s) r.3 in
      both_ways (has_cycle x.A) (app_kept x.k x.A x.at).acyclic
      ((cycle_law x.A).1 (get_or x.A.tasks x.i no_raw_task, (Contains-get_or x.A.tasks x.i no_raw_task x.i_low, (c, back))))

  -- ---- the mode is valid
  pub hyper_is : hyper m ≡ hyper_of mode
  unfolding hyper hyperperiod
  hyper_is = ap (λ (ps : List ℕ). fold lcm 1 ps) (periods_are nodes t n mode.apps)

  period_in : (k : ℕ) (A : RawApp) → At mode.apps k A → Contains m.periods (unsigned_abs A.period)
  period_in k A at = subst (λ (ps : List ℕ). Contains ps (unsigned_abs A.period)) (sym (periods_are nodes t n mode.apps)) (period_of mode.apps k A at)

  joins : (a b : ℕ) → IsEdge m a b → Joins m (rank m inside acyclic) a b
  joins a b e =
      let x = edge_in a b e in
      let s = stands x.k x.i x.A x.at x.i_low in
      let u = stands x.k x.j x.A x.at x.j_low in
      record {
        from = (inside a b e).0;
        to = (inside a b e).1;
        period = ap (λ y. (task_at m y).period) x.from ∙ s.period ∙ sym u.period ∙ sym (ap (λ y. (task_at m y).period) x.to);
        deadline = ap (λ y. (task_at m y).deadline) x.from ∙ s.deadline ∙ sym u.deadline ∙ sym (ap (λ y. (task_at m y).deadline) x.to);
        later = rank_rises m inside acyclic a b e;
      }

  pub mode_valid : IsValid m
  mode_valid = record {
    round = round;
    periods = λ p c. All-contains (λ p. 1 ≤ p) m.periods p (All-from_recursion (λ p. 1 ≤ p) m.periods (subst (AllByRecursion (λ p. 1 ≤ p)) (sym (periods_are nodes t n mode.apps)) (some_periods mode.apps kept.apps))) c;
    hyper_limit = omega (arith, hyper_is, kept.sizes.hyper);
    task_period = λ a l. let f = found a l in subst (Contains m.periods) (sym (ap (λ y. (task_at m y).period) f.5 ∙ (stands f.0 f.1 f.2 f.3 f.4).period)) (period_in f.0 f.2 f.3);
    wcet = λ a l.
        let f = found a l in
        let s = stands f.0 f.1 f.2 f.3 f.4 in
        let w = All-from_recursion _ f.2.tasks (app_kept f.0 f.2 f.3).wcets f.1 no_raw_task f.4 in
        let e = ap (λ y. (task_at m y).wcet) f.5 in
        let p = ap (λ y. (task_at m y).period) f.5 in
        (omega (arith, e, s.wcet, w.0), omega (arith, e, p, s.wcet, s.period, w.1));
    deadline = λ a l.
        let f = found a l in
        let e = ap (λ y. (task_at m y).deadline) f.5 in
        let d = at_all (λ A. unsigned_abs A.deadline ≤ hyper_of mode) mode.apps kept.sizes.deadlines f.0 f.2 f.3 in
        omega (arith, e, (stands f.0 f.1 f.2 f.3 f.4).deadline, d, hyper_is);
    copies = λ i l. let c = comes i l in omega (arith, c.is.copies, (copies_kept c.A c.j (app_kept c.k c.A c.at) c.within).0);
    message_period = λ i l. let c = comes i l in subst (Contains m.periods) (sym c.is.period) (period_in c.k c.A c.at);
    numbers = λ i j li lj e. omega (arith, e, (comes i li).is.number, (comes j lj).is.number);
    producer = λ i l.
        let c = comes i l in
        let o = has_one c.k c.A (get_or c.A.messages c.j no_raw_message).from 4 (message_kept c.A c.j (app_kept c.k c.A c.at) c.within).0 in
        (o.0, subst (λ (x : List ℕ). Contains x o.0) (sym c.is.from) o.1);
    consumer = λ i l.
        let c = comes i l in
        let o = has_one c.k c.A (get_or c.A.messages c.j no_raw_message).to 16 (message_kept c.A c.j (app_kept c.k c.A c.at) c.within).1 in
        (o.0, subst (λ (x : List ℕ). Contains x o.0) (sym c.is.to) o.1);
    consumer_app = λ i b l h.
        let c = comes i l in
        let x = member c.k c.A c.at (get_or c.A.messages c.j no_raw_message).to 16 (message_kept c.A c.j (app_kept c.k c.A c.at) c.within).1 b (subst (λ (x : List ℕ). Contains x b) c.is.to h) in
        let s = stands c.k x.2.0 c.A c.at x.2.1 in
        (ap (λ y. (task_at m y).period) x.2.2 ∙ s.period ∙ sym c.is.period, ap (λ y. (task_at m y).deadline) x.2.2 ∙ s.deadline ∙ sym c.is.deadline);
    rank = rank m inside acyclic;
    ranks = λ a l. rank_low m inside acyclic a l;
    edges = joins;
  }
