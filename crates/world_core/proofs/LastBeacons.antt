-- Where the last event and the next entry stand to the last beacon, as a node that runs has to know it
use Rattle.std.proofs.Common.{◌≡◌, ℕ, ◌+◌, ◌<◌, ◌≤◌, Bool, true, false, cond, not, ◌&&◌, List, [], ◌∷◌, refl, sym, ◌∙◌, ap, subst, arith, ◌⊎◌, inl, inr, ⊎_elim}
use Rattle.std.specs.Prelude.{Option, Some, unwrap_or}
use Rattle.std.proofs.lemmas.Bool.{cases_Bool, cond-true}
use Rattle.sched_model.proofs.Hyperperiods.{hyper_some}
use Rattle.runtime_model.specs.Timeline.{drains}
use Rattle.runtime_model.specs.Laws.{RequestsFit}
use Rattle.runtime_model.specs.Outcomes.{PlainEvent, advance, request, restart, Spot, Step, is_beacon, hears, restarts, announces}
use Rattle.runtime_model.specs.LookingBack.{settled, last_beacon}
use Rattle.runtime_model.specs.System.{System, plan_at}
use Rattle.runtime_model.specs.History.{history, step_of, last_spot, spot_next, now_after}
use Rattle.runtime_model.proofs.Modes.{AllRight}
use Rattle.runtime_model.proofs.Spots.{Alike, alike_refl, alike_both, Moves, Same, Within, Opens, moves, stands}
use Rattle.runtime_model.proofs.OutRegisters.{H}
use Rattle.runtime_model.proofs.NextRound.{Here, Gone, last_stands}
use Rattle.runtime_model.proofs.Passing.{here_begun, unseen_begun}
use Rattle.runtime_model.proofs.Knowing.{settled_steady}
use Rattle.world_core.proofs.QuietSteps.{quiet_last}

-- the step of the last beacon, where one stands for it
pub same_step : (d g : Step) → Some d ≡ Some g → d ≡ g
same_step d g e = ap (λ (o : Option Step). unwrap_or o g) e

-- the step is the last beacon
pub beacon_last : (d : Step) (ds : List Step) → is_beacon d.out ≡ true → last_beacon (d ∷ ds) ≡ Some d
beacon_last d ds e = cond-true (is_beacon d.out) (Some d) (last_beacon ds) e

-- the last event is in the hyperperiod of the last beacon d
pub record InIts (ds : List Step) (d : Step) : Type 0 where
  pub begun : (last_spot ds).hyper.begun ≡ true
  pub begin : (last_spot ds).begin ≡ d.spot.begin
  pub stay : (last_spot ds).stay ≡ d.spot.stay
  pub alike : Alike (last_spot ds).hyper d.spot.hyper

-- it is in the one after it, before the first beacon, and no tick of it has passed
pub record PastIts (y : System) (ds : List Step) (d : Step) : Type 0 where
  pub begun : (last_spot ds).hyper.begun ≡ false
  pub begin : (last_spot ds).begin ≡ d.spot.begin + H y d.spot.hyper.mode
  pub now : now_after y ds ≡ (last_spot ds).begin

pub past_apart : (y : System) (ds : List Step) (d : Step) → PastIts y ds d → (last_spot ds).begin ≡ d.spot.begin → ⊥
past_apart y ds d p e = omega (arith, p.begin, e, hyper_some (plan_at y d.spot.hyper.mode).mode)

module _ (y : System) (right : AllRight y) where
  -- the last beacon's hyperperiod is not after that of the last event
  not_before : (es : List PlainEvent) (rf : RequestsFit y es) (d : Step) → last_beacon (history y es) ≡ Some d → d.spot.begin ≤ (last_spot (history y es)).begin
  not_before es rf d e =
      let ds = history y es in
      let w = last_stands y right es rf d e in
      ⊎_elim
      (λ (h : Here y ds d). omega (arith, h.0.begin, ap (λ (q : Step). q.spot.begin) h.1))
      (λ (g : Gone y ds d w.0). omega (arith, g.begin))
      w.2

  here_alike : (es : List PlainEvent) (rf : RequestsFit y es) (d : Step) → last_beacon (history y es) ≡ Some d → (last_spot (history y es)).begin ≡ d.spot.begin → Alike (last_spot (history y es)).hyper d.spot.hyper
  here_alike [] rf d e b = absurd (grind (arith, e))
  here_alike (request m ∷ es) rf d e b = here_alike es rf.1 d e b
  here_alike (restart v ∷ es) rf d e b = here_alike es rf d e b
  here_alike (advance lost ∷ es) rf d e b =
      let ds = history y es in
      let l = last_spot ds in
      let s = spot_next y ds in
      let d' = step_of y (advance lost) ds in
      ⊎_elim
      (λ (rings : is_beacon d'.out ≡ true). subst (λ (q : Step). Alike s.hyper q.spot.hyper) (same_step d' d (sym (beacon_last d' ds rings) ∙ e)) (alike_refl s.hyper))
      (λ (quiet : is_beacon d'.out ≡ false).
      let before = sym (quiet_last d' ds quiet) ∙ e in
      let low = not_before es rf d before in
      let long = hyper_some (plan_at y l.hyper.mode).mode in
      ⊎_elim
      (λ (m : Same y ds s). alike_both s.hyper l.hyper d.spot.hyper m.alike (here_alike es rf d before (sym m.begin ∙ b)))
      (λ r. absurd (⊎_elim (λ (m : Within y ds s). omega (arith, m.begin, b, low, long)) (λ (m : Opens y ds s). omega (arith, m.begin, b, low, long)) r))
      (moves y ds (stands y es)))
      (cases_Bool (is_beacon d'.out))

  -- where the last event stands
  pub where_it_is : (es : List PlainEvent) (rf : RequestsFit y es) (d : Step) → last_beacon (history y es) ≡ Some d → InIts (history y es) d ⊎ PastIts y (history y es) d
  where_it_is es rf d e =
      let ds = history y es in
      let w = last_stands y right es rf d e in
      ⊎_elim
      (λ (h : Here y ds d).
      let begin = sym h.0.begin ∙ ap (λ (q : Step). q.spot.begin) h.1 in
      inl (record { begun = here_begun y right es rf h.0; begin = begin; stay = sym h.0.stay ∙ ap (λ (q : Step). q.spot.stay) h.1; alike = here_alike es rf d e begin }))
      (λ (g : Gone y ds d w.0). inr (record { begun = unseen_begun y right es rf g.unseen; begin = g.begin; now = g.now }))
      w.2

-- ---- what a settled node knows

-- the last event is in the stay and mode of the last beacon, and past that one's hyperperiod nothing opens
pub record SettledAt (ds : List Step) (d : Step) : Type 0 where
  pub stay : (last_spot ds).stay ≡ d.spot.stay
  pub mode : (last_spot ds).hyper.mode ≡ d.spot.hyper.mode
  pub plain : ((last_spot ds).begin ≡ d.spot.begin → ⊥) → (last_spot ds).hyper.opening ≡ false

settled_before : (v : ℕ) (d : Step) (ds : List Step) → is_beacon d.out ≡ false → settled v (d ∷ ds) ≡ true → settled v ds ≡ true
settled_before v d ds b e = by_tests (restarts v d.out) (is_beacon d.out) (hears v d.out && not (announces d)) (settled v ds) b e
  where
    by_tests : (r b h x : Bool) → b ≡ false → cond r false (cond b h x) ≡ true → x ≡ true
    by_tests true b h x q e = absurd cc
    by_tests false true h x q e = absurd cc
    by_tests false false h x q e = e

pub settled_at : (y : System) (v : ℕ) (es : List PlainEvent) (d : Step) → settled v (history y es) ≡ true → last_beacon (history y es) ≡ Some d → SettledAt (history y es) d
settled_at y v [] d h e = absurd cc
settled_at y v (request m ∷ es) d h e =
    let ds = history y es in
    let k = settled_at y v es d (settled_before v (step_of y (request m) ds) ds refl h) e in record { stay = k.stay; mode = k.mode; plain = k.plain }
settled_at y v (restart w ∷ es) d h e =
    let ds = history y es in
    let k = settled_at y v es d (settled_before v (step_of y (restart w) ds) ds refl h) e in record { stay = k.stay; mode = k.mode; plain = k.plain }
settled_at y v (advance lost ∷ es) d h e =
    let ds = history y es in
    let l = last_spot ds in
    let s = spot_next y ds in
    let d' = step_of y (advance lost) ds in
    ⊎_elim
    (λ (rings : is_beacon d'.out ≡ true).
    let same = same_step d' d (sym (beacon_last d' ds rings) ∙ e) in
    record { stay = ap (λ (q : Step). q.spot.stay) same; mode = ap (λ (q : Step). q.spot.hyper.mode) same; plain = λ apart. absurd (apart (ap (λ (q : Step). q.spot.begin) same)) })
    (λ (quiet : is_beacon d'.out ≡ false).
    let calm = settled_before v d' ds quiet h in
    let k = settled_at y v es d calm (sym (quiet_last d' ds quiet) ∙ e) in
    ⊎_elim
    (λ (m : Same y ds s). record { stay = m.stay ∙ k.stay; mode = m.alike.mode ∙ k.mode; plain = λ apart. m.alike.opening ∙ k.plain (λ q. apart (m.begin ∙ q)) })
    (λ r. ⊎_elim
    (λ (m : Within y ds s). record { stay = m.stay ∙ k.stay; mode = m.mode ∙ k.mode; plain = λ apart. m.opening })
    (λ (m : Opens y ds s). absurd (let q : true ≡ false = sym m.before ∙ ap drains (settled_steady y v es calm) in cc)) r)
    (moves y ds (stands y es)))
    (cases_Bool (is_beacon d'.out))

-- ---- stays and modes

-- the spot is in the stay of the step and its mode, or in a later stay
abbrev pub InStay : Step → Spot → Type 0
InStay d s = ((d.spot.stay ≡ s.stay) × (d.spot.hyper.mode ≡ s.hyper.mode)) ⊎ (d.spot.stay < s.stay)

moved : (y : System) (ds : List Step) (s : Spot) (d : Step) → Moves y ds s → InStay d (last_spot ds) → InStay d s
moved y ds s d m at =
    let l = last_spot ds in
    ⊎_elim
    (λ (m : Same y ds s). ⊎_elim (λ (q : (d.spot.stay ≡ l.stay) × (d.spot.hyper.mode ≡ l.hyper.mode)). inl (q.0 ∙ sym m.stay, q.1 ∙ sym m.alike.mode)) (λ (q : d.spot.stay < l.stay). inr (omega (arith, q, m.stay))) at)
    (λ r. ⊎_elim
    (λ (m : Within y ds s). ⊎_elim (λ (q : (d.spot.stay ≡ l.stay) × (d.spot.hyper.mode ≡ l.hyper.mode)). inl (q.0 ∙ sym m.stay, q.1 ∙ sym m.mode)) (λ (q : d.spot.stay < l.stay). inr (omega (arith, q, m.stay))) at)
    (λ (m : Opens y ds s). inr (⊎_elim (λ (q : (d.spot.stay ≡ l.stay) × (d.spot.hyper.mode ≡ l.hyper.mode)). omega (arith, q.0, m.stay)) (λ (q : d.spot.stay < l.stay). omega (arith, q, m.stay)) at))
    r)
    m

pub stay_of_last : (y : System) (es : List PlainEvent) (d : Step) → last_beacon (history y es) ≡ Some d → InStay d (last_spot (history y es))
stay_of_last y [] d e = absurd (grind (arith, e))
stay_of_last y (request m ∷ es) d e = stay_of_last y es d e
stay_of_last y (restart v ∷ es) d e = stay_of_last y es d e
stay_of_last y (advance lost ∷ es) d e =
    let ds = history y es in
    let s = spot_next y ds in
    let d' = step_of y (advance lost) ds in
    ⊎_elim
    (λ (rings : is_beacon d'.out ≡ true).
    let same = same_step d' d (sym (beacon_last d' ds rings) ∙ e) in
    inl (sym (ap (λ (q : Step). q.spot.stay) same), sym (ap (λ (q : Step). q.spot.hyper.mode) same)))
    (λ (quiet : is_beacon d'.out ≡ false). moved y ds s d (moves y ds (stands y es)) (stay_of_last y es d (sym (quiet_last d' ds quiet) ∙ e)))
    (cases_Bool (is_beacon d'.out))

pub stay_of_next : (y : System) (es : List PlainEvent) (d : Step) → last_beacon (history y es) ≡ Some d → InStay d (spot_next y (history y es))
stay_of_next y es d e = let ds = history y es in moved y ds (spot_next y ds) d (moves y ds (stands y es)) (stay_of_last y es d e)
