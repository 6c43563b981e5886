-- A schedule gives a full open list
use Rattle.std.proofs.Common.{◌≡◌, ℕ, zero, suc, ◌+◌, ◌-◌, ◌*◌, ◌/◌, ◌%◌, ◌<◌, ◌≤◌, true, false, eqb, ltb, List, [], ◌∷◌, ◌++◌, length, get_or, map, take, drop, Contains, refl, sym, ◌∙◌, ap, subst, arith, ◌⊎◌, inl, inr, ⊎_elim, ℤ, pos, ◌+ℤ◌, ◌-ℤ◌, ◌≤ℤ◌, length-append}
use Rattle.std.specs.List.{AllByRecursion, AllZip, flat_map}
use Rattle.std.proofs.lemmas.Int.{ints}
use Rattle.std.proofs.lemmas.Bool.{cases_lt, cases_Bool, ltb-true, eqb-true, and_parts, both_ways}
use Rattle.std.proofs.lemmas.Nat.{mod_below, div-add-mod', le-div, div-mul-add}
use Rattle.std.proofs.Math.Nat.{mul-le-mul_right}
use Rattle.std.proofs.lemmas.List.{length-take-le, get_or-take, get_or-append-add, get_or-drop, length-drop}
use Rattle.std.proofs.lemmas.List.Elements.{All-from_recursion, All-get_or, All-get_or}
use Rattle.sched_model.specs.declared.schedule.Schedule.{Schedule}
use Rattle.sched_model.specs.PlainMode.{PlainMode, hyper, task_at, message_at, instance_count, copy_count, instances}
use Rattle.sched_model.specs.Numbers.{below, has, natural}
use Rattle.sched_model.specs.TaskGraph.{IsEdge}
use Rattle.sched_model.specs.ConstraintProblem.{Decision, serve, order, serves, orders, ordered, share, decisions, place, base, chosen, chosen_all, in_force, alternatives_of, latest, load, load_of}
use Rattle.sched_model.specs.Rounds.{round_start, task_start, opens, closes, start}
use Rattle.sched_model.specs.RightSchedule.{IsSchedule}
use Rattle.tick_num.specs.Differences.{Meets, MeetsAll}
use Rattle.sched_model.specs.OpenPrefix.{Chosen, FullOpen}
use Rattle.sched_model.specs.ValidMode.{IsValid}
use Rattle.sched_model.specs.ScheduleList.{values_of}
use Rattle.sched_model.proofs.Lists.{all_both, flat_all, below_all, cond_all, part_fits}
use Rattle.sched_model.proofs.Loads.{load-append}
use Rattle.sched_model.proofs.Lists.{flat_below-suc}
use Rattle.sched_model.proofs.Sums.{one_if, one_true, one_false, sum_to, sum_most, sum_under, most_one, few_in, load-serves, all_loads, instances_counted}
use Rattle.sched_model.proofs.Classes.{apart_by}
use Rattle.sched_model.proofs.Places.{length-serves, decision_at, place_fits}
use Rattle.sched_model.proofs.Base.{base_met}
use Rattle.sched_model.proofs.Moments.{Reads}
use Rattle.sched_model.proofs.Rising.{rises}
use Rattle.sched_model.proofs.Values.{reads_of, base_facts}
use Rattle.sched_model.proofs.Services.{window_repeats}
use Rattle.sched_model.proofs.Serving.{Within, Repeats}
use Rattle.sched_model.proofs.Given.{IsServed, Row, row_of}
use Rattle.sched_model.proofs.Pairs.{Fits, place_of, fits_order, among_places}
use Rattle.sched_model.proofs.Graph.{edge_message, message_edge, never_late}
use Rattle.sched_model.proofs.Hyperperiods.{hyper_some}
use Rattle.sched_model.proofs.Spans.{in_span}

-- a choice that a schedule gives for a decision, where f has the round instance of each copy of each message
unfoldable pub Good : PlainMode → Schedule → (ℕ → ℕ → ℕ) → Decision → ℤ → Type 0
Good m s f (serve i x) z = (i < length m.messages) × (x < copy_count m (message_at m i)) × (z ≡ pos (f i x))
Good m s f (order a b) z = (a < length m.tasks) × (b < length m.tasks) × Fits (task_at m a) (task_at m b) (task_start s a) (task_start s b) z

-- a list of things that there are
pub collected : {X Y : Type 0} (R : X → Y → Type 0) (xs : List X) → AllByRecursion (λ x. (y : Y) × R x y) xs → (ys : List Y) × AllZip R xs ys
collected R [] h = ([], tt)
collected R (x ∷ xs) h = let r = collected R xs h.1 in (h.0.0 ∷ r.0, (h.0.1, r.1))

pub zip_length : {X Y : Type 0} (R : X → Y → Type 0) (xs : List X) (ys : List Y) → AllZip R xs ys → length xs ≡ length ys
zip_length R [] [] h = refl
zip_length R [] (y ∷ ys) h = absurd h
zip_length R (x ∷ xs) [] h = absurd h
zip_length R (x ∷ xs) (y ∷ ys) h = ap suc (zip_length R xs ys h.1)

pub zip_at : {X Y : Type 0} (R : X → Y → Type 0) (xs : List X) (ys : List Y) (k : ℕ) (d : X) (e : Y) → AllZip R xs ys → k < length xs → R (get_or xs k d) (get_or ys k e)
zip_at R [] ys k d e h l = absurd (omega arith)
zip_at R (x ∷ xs) [] k d e h l = absurd h
zip_at R (x ∷ xs) (y ∷ ys) zero d e h l = h.0
zip_at R (x ∷ xs) (y ∷ ys) (suc k) d e h l = zip_at R xs ys k d e h.1 (omega arith)

-- the part in which a place lies
pub part_of : (f : ℕ → List Decision) (n x : ℕ) → x < length (flat_map f (below n)) → (i k : ℕ) × (i < n) × (k < length (f i)) × (x ≡ length (flat_map f (below i)) + k)
part_of f zero x l = absurd (omega arith)
part_of f (suc n) x l =
    let e = ap length (flat_below-suc f n) ∙ length-append (flat_map f (below n)) (f n) in
    let c = length (flat_map f (below n)) in
    ⊎_elim
    (λ (less : x < c). let r = part_of f n x less in (r.0, r.1, omega (arith, r.2), r.3, r.4))
    (λ (le : c ≤ x). (n, x - c, omega arith, omega (arith, e), omega arith))
    (cases_lt x c)

abbrev IsOrder : Decision → Type 0
IsOrder d = (a b : ℕ) × (d ≡ order a b)

all_orders : (m : PlainMode) → AllByRecursion IsOrder (flat_map (orders m) (below (length m.tasks)))
all_orders m = flat_all IsOrder (orders m) (below (length m.tasks)) (below_all (λ a. AllByRecursion IsOrder (orders m a)) (length m.tasks) (λ a la.
    flat_all IsOrder (ordered m a) (below (length m.tasks)) (below_all (λ b. AllByRecursion IsOrder (ordered m a b)) (length m.tasks) (λ b lb.
    cond_all IsOrder (share m a b) (order a b ∷ []) (λ e. ((a, b, refl), tt))))))

-- each decision is on an instance at its place, or on a pair
pub sorted_out : (m : PlainMode) (x : ℕ) → x < length (decisions m) → ((i k : ℕ) × (i < length m.messages) × (k < copy_count m (message_at m i)) × (x ≡ place m i k)) ⊎ IsOrder (get_or (decisions m) x (order 0 0))
unfolding decisions
sorted_out m x l =
    let cs = flat_map (serves m) (below (length m.messages)) in
    let ds = flat_map (orders m) (below (length m.tasks)) in
    ⊎_elim
    (λ (less : x < length cs). let w = part_of (serves m) (length m.messages) x less in inl (w.0, w.1, w.2, omega (arith, w.3, length-serves m w.0), w.4))
    (λ (le : length cs ≤ x).
    let n = x - length cs in
    let e = ap (λ y. get_or (cs ++ ds) y (order 0 0)) (let s : x ≡ length cs + n = omega arith in s) ∙ get_or-append-add cs ds n (order 0 0) in
    let w = All-get_or IsOrder ds n (order 0 0) (omega (arith, length-append cs ds)) (All-from_recursion IsOrder ds (all_orders m)) in
    inr (w.0, w.1, e ∙ w.2))
    (cases_lt x (length cs))

bounded : (a c x : ℤ) (r g0 g1 g2 : ℕ) → x ≡ pos g2 → a ≡ pos g1 → c ≡ pos g0 → g1 + 1 ≤ g2 → g2 < g0 + r → ((a +ℤ pos 1) ≤ℤ x) × (x ≤ℤ (c +ℤ pos r -ℤ pos 1))
bounded a c x r g0 g1 g2 ex ea ec h k = (omega (arith, ints, ex, ea, h), omega (arith, ints, ex, ec, k))

load-orders : (r j : ℕ) (ds : List Decision) (q : List ℤ) → AllByRecursion IsOrder ds → load_of r j ds q ≡ 0
load-orders r j [] q h = refl
load-orders r j (d ∷ ds) [] h = refl
load-orders r j (serve i k ∷ ds) (z ∷ q) h = absurd (let e = h.0.2 in cc)
load-orders r j (order a b ∷ ds) (z ∷ q) h = load-orders r j ds q h.1

module _ (m : PlainMode) (r : ℕ) (s : Schedule) (ok : IsValid m) (is : IsSchedule m r s) where
  pub some_starts : 1 ≤ length s.starts
  some_starts = omega (arith, is.shape.starts, is.shape.some)

  pub rep : (i : ℕ) → i < length m.messages → Repeats (start m s) (length s.starts) (hyper m) (instance_count m (message_at m i)) (message_at m i).period m.round (opens s i) (closes s i)
  rep i l = window_repeats m s i ok some_starts l (is.s4 i l)

  -- the rounds whose table has message i
  abbrev pub InTable : ℕ → ℕ → Type 0
  InTable i j = has (get_or s.tables j []) (message_at m i).number ≡ true

  served : (i : ℕ) → i < length m.messages → IsServed (start m s) (length s.starts) (message_at m i).period m.round (opens s i) (closes s i) (message_at m i).copies (InTable i)
  served i l = record { some = ok.copies i l; each = λ k. is.s7.windows i k l; nowhere_else = λ g one c. is.s8 i g l one c }

  -- the round instance of each copy of message i
  abbrev pub IsRow : ℕ → (ℕ → ℕ) → Type 0
  IsRow i f = Row (start m s) (length s.starts) (instance_count m (message_at m i)) (message_at m i).period m.round (opens s i) (closes s i) (message_at m i).copies (InTable i) f

  pub of_message : (i : ℕ) → i < length m.messages → (f : ℕ → ℕ) × IsRow i f
  of_message i l =
      let p = (message_at m i).period in
      (_, row_of (start m s) (length s.starts) (hyper m) (instance_count m (message_at m i)) p m.round (opens s i) (closes s i) (message_at m i).copies (InTable i) (rep i l) (ok.periods p (ok.message_period i l)) (rises m s some_starts is.s1) (served i l))

  abbrev pub picked : (i : ℕ) → (i < length m.messages) ⊎ (length m.messages ≤ i) → ℕ → ℕ
  picked i (inl l) = (of_message i l).0
  picked i (inr e) = λ x. 0

  unfoldable pub servers : ℕ → ℕ → ℕ
  servers i = picked i (cases_lt i (length m.messages))

  pub row_at : (i : ℕ) → i < length m.messages → IsRow i (servers i)
  unfolding servers
  row_at i l = at (cases_lt i (length m.messages))
    where
      at : (w : (i < length m.messages) ⊎ (length m.messages ≤ i)) → IsRow i (picked i w)
      at (inl h) = (of_message i h).1
      at (inr e) = absurd (omega (arith, l, e))

  times_rise : (a b : ℕ) → IsEdge m a b → (task_start s a +ℤ pos (task_at m a).wcet) ≤ℤ task_start s b
  times_rise a b e =
      let w = edge_message m a b e in
      let f = is.s4 w.0 w.1 in
      omega (arith, ints, f.sent a w.2, f.lasts, f.taken b w.3)

  pub on_time : (a : ℕ) → a < length m.tasks → task_start s a ≤ℤ latest (task_at m a)
  on_time a l = never_late m ok (task_start s) times_rise (λ f lf e. (is.s3 f lf).early e) is.s5 a l

  good_pair : (a b : ℕ) → a < b → b < length m.tasks → (task_at m a).node ≡ (task_at m b).node → (z : ℤ) × Good m s servers (order a b) z
  unfolding Good
  good_pair a b less l same =
      let la : a < length m.tasks = omega arith in
      let w = place_of (task_at m a) (task_at m b) (task_start s a) (task_start s b) (ok.periods _ (ok.task_period a la)) (ok.periods _ (ok.task_period b l)) (ok.wcet a la).0 (ok.wcet b l).0
      (is.s3 a la).from_zero (is.s3 b l).from_zero (is.s6 a b less l same) in
      (w.0, (la, l, w.1))

  all_good : AllByRecursion (λ d. (z : ℤ) × Good m s servers d z) (decisions m)
  unfolding decisions Good
  all_good =
      let G = λ (d : Decision). (z : ℤ) × Good m s servers d z in
      all_both G (flat_map (serves m) (below (length m.messages))) _
      (flat_all G (serves m) (below (length m.messages)) (below_all (λ i. AllByRecursion G (serves m i)) (length m.messages) (λ i l.
      mapped G (serve i) (below (copy_count m (message_at m i))) (below_all (λ x. G (serve i x)) (copy_count m (message_at m i)) (λ x h. (pos (servers i x), (l, h, refl)))))))
      (flat_all G (orders m) (below (length m.tasks)) (below_all (λ a. AllByRecursion G (orders m a)) (length m.tasks) (λ a la.
      flat_all G (ordered m a) (below (length m.tasks)) (below_all (λ b. AllByRecursion G (ordered m a b)) (length m.tasks) (λ b lb.
      cond_all G (share m a b) (order a b ∷ []) (λ e.
      let w = and_parts (ltb a b) (eqb (task_at m a).node (task_at m b).node) e in
      (good_pair a b (ltb-true a b w.0) lb (eqb-true (task_at m a).node (task_at m b).node w.1), tt)))))))
    where
      mapped : (P : Decision → Type 0) (f : ℕ → Decision) (ks : List ℕ) → AllByRecursion (λ k. P (f k)) ks → AllByRecursion P (map f ks)
      mapped P f [] h = tt
      mapped P f (k ∷ ks) h = (h.0, mapped P f ks h.1)

  -- the list of choices
  pub made : (p : List ℤ) × AllZip (Good m s servers) (decisions m) p
  made = collected (Good m s servers) (decisions m) all_good

  pub full : length made.0 ≡ length (decisions m)
  full = sym (zip_length (Good m s servers) (decisions m) made.0 made.1)

  v : ℕ → ℤ
  v = values_of m r s

  rd : Reads m r s (values_of m r s)
  rd = reads_of m r s is.shape.starts

  -- what is good meets its constraints
  good_meets : (d : Decision) (z : ℤ) → Good m s servers d z → AllByRecursion (Meets (values_of m r s)) (chosen m r d z)
  unfolding Good
  good_meets (serve i x) z g =
      let row = row_at i g.0 in
      let n = servers i x in
      let w = row.choices.within x g.1 in
      let j = (n - 1) % r in
      let nat = ap natural g.2 in
      let a = ap (λ y. round_start s ((n - 1) % y)) is.shape.starts in
      let b = ap (λ y. (n - 1) / y * hyper m) is.shape.starts in
      let e = rd.rounds j (mod_below (n - 1) r is.shape.some) in
      let c = ap (λ y. values_of m r s ((y - 1) % r)) nat in
      let h = ap (λ y. (y - 1) / r * hyper m) nat in
      let o = rd.opening i g.0 in
      let q = rd.closing i g.0 in
      (omega (arith, ints, a, b, e, c, h, o, q, w), (omega (arith, ints, a, b, e, c, h, o, q, w), tt))
  good_meets (order a b) z g =
      let ea = rd.tasks a g.0 in
      let eb = rd.tasks b g.1 in
      fits_order m r (values_of m r s) a b z (omega (arith, ints, g.2.0, ea, eb), omega (arith, ints, g.2.1, ea, eb))

  all_meet : (ds : List Decision) (p : List ℤ) → AllZip (Good m s servers) ds p → AllByRecursion (Meets (values_of m r s)) (chosen_all m r ds p)
  all_meet [] p z = tt
  all_meet (d ∷ ds) [] z = tt
  all_meet (d ∷ ds) (x ∷ p) z = all_both (Meets (values_of m r s)) (chosen m r d x) _ (good_meets d x z.0) (all_meet ds p z.1)

  pub all_met : MeetsAll (values_of m r s) (in_force m r made.0)
  all_met = All-from_recursion (Meets (values_of m r s)) (in_force m r made.0)
      (all_both (Meets (values_of m r s)) (base m r) _ (base_met m r (values_of m r s) (base_facts m r s (values_of m r s) ok rd is)) (all_meet (decisions m) made.0 made.1))

  -- ---- each choice is among the alternatives
  pub good_at : (x : ℕ) → x < length (decisions m) → Good m s servers (get_or (decisions m) x (order 0 0)) (get_or made.0 x (pos 0))
  good_at x l = zip_at (Good m s servers) (decisions m) made.0 x (order 0 0) (pos 0) made.1 l

  good_serve : (i k : ℕ) → i < length m.messages → k < copy_count m (message_at m i) → Good m s servers (serve i k) (get_or made.0 (place m i k) (pos 0))
  good_serve i k l h = subst (λ (d : Decision). Good m s servers d (get_or made.0 (place m i k) (pos 0))) (decision_at m i k (order 0 0) l h) (good_at (place m i k) (place_fits m i k l h))

  -- the choice is the instance of the copy
  pub choice_is : (i x : ℕ) → i < length m.messages → x < copy_count m (message_at m i) → get_or made.0 (place m i x) (pos 0) ≡ pos (servers i x)
  unfolding Good
  choice_is i x l h = (good_serve i x l h).2

  -- the windows of a message end before its period and deadline are over
  pub starts_from_zero : (j : ℕ) → j < r → pos 0 ≤ℤ round_start s j
  starts_from_zero zero l = omega (arith, ints, is.s1.begin)
  starts_from_zero (suc j) l = omega (arith, ints, starts_from_zero j (omega arith), is.s1.apart j (omega (arith, is.shape.starts)))

  first_choice : (i : ℕ) (l : i < length m.messages) → 0 < copy_count m (message_at m i) → servers i 0 ≤ r * (((message_at m i).period + (message_at m i).deadline) / hyper m + 1)
  first_choice i l some =
      let g = servers i 0 in
      let row = row_at i l in
      let one = row.choices.from_one 0 some in
      let zero : 0 / (message_at m i).copies ≡ 0 = ap (λ x. x / (message_at m i).copies) (let z : 0 ≡ 0 * (message_at m i).copies + 0 = omega arith in z) ∙ div-mul-add 0 (message_at m i).copies 0 (ok.copies i l) in
      let w = subst (λ k. Within (start m s) m.round (opens s i) (closes s i) (message_at m i).period k g) zero (row.choices.within 0 some) in
      let n = (g - 1) / r in
      let d = div-add-mod' (g - 1) r in
      let b = mod_below (g - 1) r is.shape.some in
      let t = ok.consumer i l in
      let app = ok.consumer_app i t.0 l t.1 in
      let a0 = ok.producer i l in
      let lt = (ok.edges a0.0 t.0 (message_edge m i a0.0 t.0 l a0.1 t.1)).to in
      let late = on_time t.0 lt in
      let e1 = ap (λ x. round_start s ((g - 1) % x)) is.shape.starts in
      let e2 = ap (λ x. (g - 1) / x * hyper m) is.shape.starts in
      let z = starts_from_zero ((g - 1) % r) b in
      let bound : n * hyper m ≤ (message_at m i).period + (message_at m i).deadline = omega (arith, ints, w, (is.s4 i l).taken t.0 t.1, late, e1, e2, z, app) in
      let q : n ≤ ((message_at m i).period + (message_at m i).deadline) / hyper m = le-div n ((message_at m i).period + (message_at m i).deadline) (hyper m) (hyper_some m) bound in
      let top : (n + 1) * r ≤ (((message_at m i).period + (message_at m i).deadline) / hyper m + 1) * r = mul-le-mul_right r (omega (arith, q)) in
      omega (arith, d, b, top, one)

  serve_among : (i k : ℕ) (l : i < length m.messages) (h : k < copy_count m (message_at m i)) → Contains (alternatives_of m r (serve i k) (take (place m i k) made.0)) (get_or made.0 (place m i k) (pos 0))
  serve_among i zero l h =
      let msg = message_at m i in
      let e = choice_is i 0 l h in
      let one = (row_at i l).choices.from_one 0 h in
      in_span (pos 1) (pos (r * ((msg.period + msg.deadline) / hyper m + 1))) (get_or made.0 (place m i 0) (pos 0)) (omega (arith, ints, e, one)) (omega (arith, ints, e, first_choice i l h))
  serve_among i (suc k) l h =
      let x = place m i (suc k) in
      let q = take x made.0 in
      let fits = place_fits m i (suc k) l h in
      let e : length q ≡ x = length-take-le x made.0 (omega (arith, fits, full)) in
      let before : get_or q (length q - 1) (pos 0) ≡ get_or made.0 (place m i k) (pos 0) =
      ap (λ y. get_or q y (pos 0)) (let s : length q - 1 ≡ place m i k = omega (arith, e) in s) ∙ get_or-take x made.0 (place m i k) (pos 0) (omega arith) in
      let begin : get_or q (length q - suc k) (pos 0) ≡ get_or made.0 (place m i 0) (pos 0) =
      ap (λ y. get_or q y (pos 0)) (let s : length q - suc k ≡ place m i 0 = omega (arith, e) in s) ∙ get_or-take x made.0 (place m i 0) (pos 0) (omega arith) in
      let c0 = choice_is i 0 l (omega arith) in
      let c1 = choice_is i k l (omega arith) in
      let c2 = choice_is i (suc k) l h in
      let row = row_at i l in
      let next : servers i k + 1 ≤ servers i (suc k) = (let w = row.rises k (suc k) (omega arith) in omega (arith, w)) in
      let turn = row.turn (suc k) h in
      let b = bounded _ _ _ r _ _ _ c2 (before ∙ c1) (begin ∙ c0) next (subst (λ y. servers i (suc k) < servers i 0 + y) is.shape.starts turn) in
      in_span (get_or q (length q - 1) (pos 0) +ℤ pos 1) (get_or q (length q - suc k) (pos 0) +ℤ pos r -ℤ pos 1) (get_or made.0 x (pos 0))
      b.0 b.1

  order_among : (x : ℕ) → x < length (decisions m) → (d : Decision) → IsOrder d → get_or (decisions m) x (order 0 0) ≡ d → Contains (alternatives_of m r d (take x made.0)) (get_or made.0 x (pos 0))
  unfolding Good
  order_among x l d o e =
      let g : Good m s servers (order o.0 o.1) (get_or made.0 x (pos 0)) = subst (λ (d : Decision). Good m s servers d (get_or made.0 x (pos 0))) (e ∙ o.2) (good_at x l) in
      let a = o.0 in
      let b = o.1 in
      let f = among_places (task_at m a) (task_at m b) (task_start s a) (task_start s b) (get_or made.0 x (pos 0)) (ok.periods _ (ok.task_period a g.0)) (ok.periods _ (ok.task_period b g.1))
      (is.s3 a g.0).from_zero (is.s3 b g.1).from_zero (on_time a g.0) (on_time b g.1) g.2 in
      subst (λ (d : Decision). Contains (alternatives_of m r d (take x made.0)) (get_or made.0 x (pos 0))) (sym o.2) f

  pub all_among : Chosen m r made.0
  all_among x l =
      let l' : x < length (decisions m) = omega (arith, l, full) in
      let e : length (take x made.0) ≡ x = length-take-le x made.0 (omega arith) in
      let d = ap (λ y. get_or (decisions m) y (order 0 0)) e in
      let here : Contains (alternatives_of m r (get_or (decisions m) x (order 0 0)) (take x made.0)) (get_or made.0 x (pos 0)) =
      ⊎_elim
      (λ (w : (i k : ℕ) × (i < length m.messages) × (k < copy_count m (message_at m i)) × (x ≡ place m i k)).
      subst (λ y. Contains (alternatives_of m r (get_or (decisions m) y (order 0 0)) (take y made.0)) (get_or made.0 y (pos 0))) (sym w.4)
      (subst (λ (d : Decision). Contains (alternatives_of m r d (take (place m w.0 w.1) made.0)) (get_or made.0 (place m w.0 w.1) (pos 0))) (sym (decision_at m w.0 w.1 (order 0 0) w.2 w.3)) (serve_among w.0 w.1 w.2 w.3)))
      (λ (o : IsOrder (get_or (decisions m) x (order 0 0))). order_among x l' _ o refl)
      (sorted_out m x l') in
      subst (λ (d : Decision). Contains (alternatives_of m r d (take x made.0)) (get_or made.0 x (pos 0))) (sym d) here

  -- ---- no round is chosen more often than its table is long
  one_each : (j : ℕ) → j < r → (i : ℕ) (l : i < length m.messages) →
      sum_to (λ x. one_if (eqb ((servers i x - 1) % r) j)) (copy_count m (message_at m i)) ≤ one_if (has (get_or s.tables j []) (message_at m i).number)
  one_each j lj i l =
      let n = copy_count m (message_at m i) in
      let row = row_at i l in
      let t = λ (x : ℕ). eqb ((servers i x - 1) % r) j in
      let h = has (get_or s.tables j []) (message_at m i).number in
      ⊎_elim
      (λ (here : h ≡ true).
      let few = most_one t n (λ a b less lb ea eb.
      let x = servers i a in
      let y = servers i b in
      let rise = row.rises a b less in
      let turn : y < servers i 0 + r = subst (λ z. y < servers i 0 + z) is.shape.starts (row.turn b lb) in
      let low : servers i 0 ≤ x = from_first i l a in
      let d = apart_by r x y is.shape.some (row.choices.from_one a (omega (arith, less, lb))) (omega (arith, rise)) (eqb-true ((x - 1) % r) j ea ∙ sym (eqb-true ((y - 1) % r) j eb)) in
      too_far x y (servers i 0) r d.0 d.1 rise low turn) in
      omega (arith, few, one_true h here))
      (λ (gone : h ≡ false).
      let none = sum_most (λ x. one_if (t x)) 0 n (λ x lx.
      ⊎_elim
      (λ (e : t x ≡ true).
      let c = row.listed x in
      let w = ap (λ y. has (get_or s.tables ((servers i x - 1) % y) []) (message_at m i).number) is.shape.starts in
      let u = ap (λ y. has (get_or s.tables y []) (message_at m i).number) (eqb-true ((servers i x - 1) % r) j e) in
      absurd (both_ways h gone (sym u ∙ sym w ∙ c)))
      (λ (e : t x ≡ false). omega (arith, one_false (t x) e))
      (cases_Bool (t x))) in
      omega (arith, none))
      (cases_Bool h)
    where
      too_far : (x y z r n : ℕ) → y ≡ x + n * r → x < y → z ≤ x → y < z + r → ⊥
      too_far x y z r zero e a b c = omega arith
      too_far x y z r (suc n) e a b c = omega arith

      from_first : (i : ℕ) (l : i < length m.messages) (a : ℕ) → servers i 0 ≤ servers i a
      from_first i l zero = omega arith
      from_first i l (suc a) = let rise = (row_at i l).rises 0 (suc a) (omega arith) in omega (arith, rise)

  part_room : (n : ℕ) → n < length m.messages → copy_count m (message_at m n) ≤ length (drop (length (flat_map (serves m) (below n))) made.0)
  unfolding decisions
  part_room n l =
      let a = part_fits (serves m) (length m.messages) n l in
      let b = length-append (flat_map (serves m) (below (length m.messages))) (flat_map (orders m) (below (length m.tasks))) in
      omega (arith, a, b, full, length-serves m n, length-drop (length (flat_map (serves m) (below n))) made.0)

  part_load : (j : ℕ) → j < r → (n : ℕ) → n ≤ length m.messages → load_of r j (flat_map (serves m) (below n)) made.0 ≤ sum_to (λ i. one_if (has (get_or s.tables j []) (message_at m i).number)) n
  part_load j lj zero h = omega arith
  part_load j lj (suc n) h =
      let cs = flat_map (serves m) (below n) in
      let l : n < length m.messages = omega arith in
      let k = copy_count m (message_at m n) in
      let e = ap (λ ds. load_of r j ds made.0) (flat_below-suc (serves m) n) ∙ load-append r j cs (serves m n) made.0 in
      let room : k ≤ length (drop (length cs) made.0) = part_room n l in
      let f = load-serves r j n k (drop (length cs) made.0) room in
      let same = sum_under (λ x. one_if (eqb ((natural (get_or (drop (length cs) made.0) x (pos 0)) - 1) % r) j)) (λ x. one_if (eqb ((servers n x - 1) % r) j)) k
      (λ x lx. let g = ap (λ z. one_if (eqb ((natural z - 1) % r) j)) (get_or-drop (length cs) made.0 x (pos 0) ∙ choice_is n x l lx) in omega (arith, g)) in
      omega (arith, e, f, same, one_each j lj n l, part_load j lj n (omega arith))

  pub loads_fit : (j : ℕ) → j < r → load m r j made.0 ≤ m.slots
  unfolding decisions
  loads_fit j lj =
      let cs = flat_map (serves m) (below (length m.messages)) in
      let ds = flat_map (orders m) (below (length m.tasks)) in
      let a = load-append r j cs ds made.0 in
      let b = load-orders r j ds (drop (length cs) made.0) (all_orders m) in
      let c = part_load j lj (length m.messages) (omega arith) in
      let d = few_in (λ i. (message_at m i).number) (length m.messages) (get_or s.tables j []) ok.numbers in
      let t = is.s7.tables j [] (omega (arith, is.shape.tables)) in
      omega (arith, a, b, c, d, t.slots)

  pub slots_fit : instances m ≤ r * m.slots
  slots_fit =
      let a = all_loads r (decisions m) made.0 is.shape.some (λ x. mod_below x r is.shape.some) (omega (arith, full)) in
      let b = sum_most (λ j. load m r j made.0) m.slots r loads_fit in
      omega (arith, a, b, instances_counted m)

  pub full_open : FullOpen m r made.0
  full_open = record { full = full; chosen = all_among; is_open = record { slots = slots_fit; loads = loads_fit; values = (values_of m r s, all_met) } }
