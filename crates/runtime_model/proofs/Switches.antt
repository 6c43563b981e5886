-- Runs end before a switch, and only synced nodes send
use Rattle.std.proofs.Common.{◌≡◌, ℕ, suc, ◌+◌, ◌*◌, ◌<◌, ◌≤◌, Bool, true, false, cond, not, ◌&&◌, List, ◌∷◌, length, refl, sym, ◌∙◌, ap, subst, arith, ⊎_elim, ℤ, pos}
use Rattle.std.specs.Prelude.{nat_lt, Option, Some, None}
use Rattle.std.proofs.lemmas.Bool.{cases_Bool, and_parts}
use Rattle.std.proofs.Math.Nat.{mul-le-mul_right}
use Rattle.sched_model.specs.Numbers.{natural}
use Rattle.sched_model.specs.PlainMode.{hyper, task_at}
use Rattle.sched_model.specs.Rounds.{round_start}
use Rattle.sched_model.proofs.Hyperperiods.{hyper_some}
use Rattle.runtime_model.specs.Timeline.{PlainPhase, drains}
use Rattle.runtime_model.specs.Plans.{Plan, node_of, offset, sender_of}
use Rattle.runtime_model.specs.Entries.{Action, task_ends, beacon, slot, task_starts}
use Rattle.runtime_model.specs.Placement.{placed, own_start, own_slot, run_at, ends_run, ending_run_at, window_at}
use Rattle.runtime_model.specs.Outcomes.{advance, request, restart, Spot, Step, Outcome, sent, started, begun_run}
use Rattle.runtime_model.specs.LookingBack.{synced, runs, recall}
use Rattle.runtime_model.specs.System.{System, plan_at}
use Rattle.runtime_model.specs.Packets.{packet, held}
use Rattle.runtime_model.specs.History.{history, spot_next, entries, entry_at, performed, finished_or_not, sent_or_not, start_or_not}
use Rattle.runtime_model.specs.Laws.{RunsEndBeforeSwitch, ReleasesFit, SendersAreSynced, OneRelease}
use Rattle.runtime_model.proofs.Cycles.{has_beacon, entry_right, RightAt}
use Rattle.runtime_model.proofs.Spots.{Same, Within, Opens, Moves, moves, stands}
use Rattle.runtime_model.proofs.Instances.{ends_in_time}
use Rattle.runtime_model.proofs.Times.{task_fits, is_release, one_release}
use Rattle.runtime_model.proofs.Registers.{cond_some}
use Rattle.runtime_model.proofs.OutRegisters.{Is, H, P, E, in_cycle, run_is}
use Rattle.runtime_model.proofs.InRegisters.{start_time}

-- ---- what a start says

-- the node, the task and the run of a start
abbrev pub start_of : Outcome → Option (ℕ × (ℕ × ℕ))
start_of (started v b k ins x) = Some (v, (b, k))
start_of o = None

-- a start that is performed is one of its entry, placed, of the run of its tick, and on the task's node
abbrev pub StartIs : Plan → Spot → ℕ → Action → ℕ → ℕ → ℕ → Type 0
StartIs p s u w v b k = (w ≡ task_starts b) × (placed s.hyper.opening s.hyper.phase (own_start p u b) ≡ true) × (k ≡ run_at p s.turn u b) × (node_of p b ≡ v)

pub started_is : (y : System) (p : Plan) (s : Spot) (lost : ℕ) (ds : List Step) (u : ℕ) (w : Action) (v b k : ℕ) → start_of (performed y p s lost ds u w) ≡ Some (v, (b, k)) → StartIs p s u w v b k
started_is y p s lost ds u (task_ends a) v b k e = absurd (not_ended (cond (ends_run p s.turn u a) (recall (node_of p a) s.stay (begun_run a (ending_run_at p s.turn u a)) ds) None) e)
  where
    not_ended : (o : Option ℤ) → start_of (finished_or_not (node_of p a) a (ending_run_at p s.turn u a) o) ≡ Some (v, (b, k)) → ⊥
    not_ended None e = grind (arith, e)
    not_ended (Some x) e = grind (arith, e)
started_is y p s lost ds u (beacon j) v b k e = absurd (grind (arith, e))
started_is y p s lost ds u (slot j i) v b k e = absurd (not_sent (packet p s j i ds) e)
  where
    not_sent : (o : Option (List ℤ)) → start_of (sent_or_not p y.nodes s j i ds o lost) ≡ Some (v, (b, k)) → ⊥
    not_sent None e = grind (arith, e)
    not_sent (Some x) e = grind (arith, e)
started_is y p s lost ds u (task_starts a) v b k e = by_test (placed s.hyper.opening s.hyper.phase (own_start p u a)) (runs (node_of p a) ds) refl e
  where
    by_test : (pl r : Bool) → placed s.hyper.opening s.hyper.phase (own_start p u a) ≡ pl → start_of (start_or_not y p s ds a u (pl && r)) ≡ Some (v, (b, k)) → StartIs p s u (task_starts a) v b k
    by_test true true h e =
        let q : (node_of p a, (a, run_at p s.turn u a)) ≡ (v, (b, k)) = grind (arith, e) in
        let same = ap (λ (z : ℕ × (ℕ × ℕ)). z.1.0) q in (
          ap task_starts same,
          subst (λ z. placed s.hyper.opening s.hyper.phase (own_start p u z) ≡ true) same h,
          sym (ap (λ (z : ℕ × (ℕ × ℕ)). z.1.1) q) ∙ ap (run_at p s.turn u) same,
          sym (ap (node_of p) same) ∙ ap (λ (z : ℕ × (ℕ × ℕ)). z.0) q,
        )
    by_test true false h e = absurd (grind (arith, e))
    by_test false r h e = absurd (grind (arith, e))

-- ---- runs and switches

-- the next Advance stands at an entry of its hyperperiod
pub in_entries : (y : System) (ds : List Step) (s : Spot) → Moves y ds s → 1 ≤ length (entries y s.hyper.mode) → s.index < length (entries y s.hyper.mode)
in_entries y ds s m some =
    ⊎_elim (λ (h : Same y ds s). subst (λ (z : ℕ). s.index < length (entries y z)) (sym h.alike.mode) (omega (arith, h.inside, h.index)))
    (λ r. ⊎_elim (λ (h : Within y ds s). omega (arith, h.index, some)) (λ (h : Opens y ds s). omega (arith, h.index, some)) r) m

-- in a draining hyperperiod only starts before the offset are placed
before_offset : (opening : Bool) (phase : PlainPhase) (u o : ℕ) → drains phase ≡ true → opening ≡ false → placed opening phase (not (nat_lt u o)) ≡ true → u < o
before_offset opening phase u o d shut pl = by_tests opening (drains phase) (nat_lt u o) refl d shut pl
  where
    by_tests : (op dr l : Bool) → nat_lt u o ≡ l → dr ≡ true → op ≡ false → cond op (not l) (cond dr (not (not l)) true) ≡ true → u < o
    by_tests false true true h d s e = grind (arith, h)
    by_tests false true false h d s e = absurd cc
    by_tests false false l h d s e = absurd cc
    by_tests true dr l h d s e = absurd cc

calm : (b d : Bool) → (b ≡ true → d ≡ false) → d ≡ true → b ≡ false
calm true d f e = absurd (let q : true ≡ false = sym e ∙ f refl in cc)
calm false d f e = refl

pub runs_end_before_switch : RunsEndBeforeSwitch
runs_end_before_switch y es lost v b k ins x ok out =
    let ds = history y es in
    let s = spot_next y ds in
    let md = s.hyper.mode in
    let p = plan_at y md in
    let entry = entry_at y s in
    let u = entry.tick in
    let now = stands y (advance lost ∷ es) in
    let is_start = started_is y p s lost ds u entry.action v b k (ap start_of out) in
    let first = has_beacon y.nodes p 0 (omega (arith, ok.right.shape.some, ok.right.shape.starts)) (first_tick p ok.right.s1.begin) in
    let l = in_entries y ds s (moves y ds (stands y es)) (omega (arith, first.1)) in
    let here : Is y md s.index u (task_starts b) = (l, ap (λ (w : Action). record { tick = u; action = w }) is_start.0) in
    let task = (subst (λ (w : Action). RightAt p u w) is_start.0 (entry_right y.nodes p s.index l).1).0 in
    let f = task_fits y.nodes p ok b task in
    let t = start_time y md b f s u here now.turn is_start.1 in
    let same : k ≡ t.0 = is_start.2 ∙ run_is y md b f s.turn u t.0 t.1 in
    let time : s.turn * H y md + u ≡ offset p b + k * P p b = t.1 ∙ ap (λ z. offset p b + z * P p b) (sym same) in
    let late = in_cycle y md s.index u (task_starts b) here in
    let released = λ (d : drains s.hyper.phase ≡ true). drained (s.turn * H y md) u (offset p b) (k * P p b) time (before_offset s.hyper.opening s.hyper.phase u (offset p b) d (calm s.hyper.opening (drains s.hyper.phase) now.opening d) is_start.1) in (
      released,
      λ n le more. ends_in_time (P p b) (H y md) f.turns (offset p b) (E p b) (task_at p.mode b).deadline f.period f.whole f.wcet f.late f.deadline n k
          (⊎_elim
          (λ (d : drains s.hyper.phase ≡ true). at_most_later (k * P p b) s.turn n (H y md) (released d) le)
          (λ (d : drains s.hyper.phase ≡ false). below_later (k * P p b) (offset p b) u s.turn n (H y md) time late (more d))
          (cases_Bool (drains s.hyper.phase))),
    )
  where
    first_tick : (p : Plan) → round_start p.schedule 0 ≡ pos 0 → natural (round_start p.schedule 0) < hyper p.mode
    first_tick p e = omega (arith, ap natural e, hyper_some p.mode)

    drained : (t u o x : ℕ) → t + u ≡ o + x → u < o → x < t
    drained t u o x e l = omega (arith, e, l)

    at_most_later : (x t n h : ℕ) → x < t * h → t ≤ n → x < n * h
    at_most_later x t n h l le = let m : t * h ≤ n * h = mul-le-mul_right h le in omega (arith, l, m)

    below_later : (x o u t n h : ℕ) → t * h + u ≡ o + x → u < h → t < n → x < n * h
    below_later x o u t n h e l more = let m : suc t * h ≤ n * h = mul-le-mul_right h (omega (arith, more)) in omega (arith, e, l, m)

pub releases_fit : ReleasesFit
releases_fit nodes p j i ok c = is_release nodes p ok j i c

pub releases_are_one : OneRelease
releases_are_one nodes p j i r ok c is = one_release nodes p ok j i r c is

-- ---- sending

-- the sender of a packet
abbrev sender_in : Outcome → Option ℕ
sender_in (sent v i k xs ts) = Some v
sender_in o = None

sent_synced : (y : System) (p : Plan) (s : Spot) (lost : ℕ) (ds : List Step) (u : ℕ) (w : Action) (v : ℕ) → sender_in (performed y p s lost ds u w) ≡ Some v → synced v ds ≡ true
sent_synced y p s lost ds u (task_ends a) v e = absurd (not_ended (cond (ends_run p s.turn u a) (recall (node_of p a) s.stay (begun_run a (ending_run_at p s.turn u a)) ds) None) e)
  where
    not_ended : (o : Option ℤ) → sender_in (finished_or_not (node_of p a) a (ending_run_at p s.turn u a) o) ≡ Some v → ⊥
    not_ended None e = grind (arith, e)
    not_ended (Some x) e = grind (arith, e)
sent_synced y p s lost ds u (beacon j) v e = absurd (grind (arith, e))
sent_synced y p s lost ds u (slot j i) v e = by_packet (packet p s j i ds) refl e
  where
    by_packet : (o : Option (List ℤ)) → packet p s j i ds ≡ o → sender_in (sent_or_not p y.nodes s j i ds o lost) ≡ Some v → synced v ds ≡ true
    by_packet None h e = absurd (grind (arith, e))
    by_packet (Some xs) h e =
        let g = cond_some (placed s.hyper.opening s.hyper.phase (own_slot p j i) && synced (sender_of p i) ds) (held p s.stay i (window_at p s.turn j i) ds) xs h in
        let same : sender_of p i ≡ v = grind (arith, e) in
        subst (λ z. synced z ds ≡ true) same (and_parts (placed s.hyper.opening s.hyper.phase (own_slot p j i)) (synced (sender_of p i) ds) g.0).1
sent_synced y p s lost ds u (task_starts a) v e = absurd (not_started (placed s.hyper.opening s.hyper.phase (own_start p u a) && runs (node_of p a) ds) e)
  where
    not_started : (t : Bool) → sender_in (start_or_not y p s ds a u t) ≡ Some v → ⊥
    not_started true e = grind (arith, e)
    not_started false e = grind (arith, e)

pub senders_are_synced : SendersAreSynced
senders_are_synced y es (advance lost) v i k xs ts e =
    let s = spot_next y (history y es) in
    sent_synced y (plan_at y s.hyper.mode) s lost (history y es) (entry_at y s).tick (entry_at y s).action v (ap sender_in e)
senders_are_synced y es (request m) v i k xs ts e = absurd (grind (arith, ap sender_in e))
senders_are_synced y es (restart w) v i k xs ts e = absurd (grind (arith, ap sender_in e))
