-- The out register at a slot is that of the window's run
use Rattle.std.proofs.Common.{◌≡◌, ℕ, Bool, true, false, cond, not, ◌&&◌, ◌||◌, List, [], ◌∷◌, refl, sym, ◌∙◌, ap, subst, arith, ◌⊎◌, inl, inr, ℤ}
use Rattle.std.specs.Prelude.{nat_eq, Option, Some, None}
use Rattle.std.proofs.lemmas.Bool.{eqb-true, and_parts}
use Rattle.runtime_model.specs.Entries.{Action, task_ends, beacon, slot, task_starts}
use Rattle.runtime_model.specs.History.{last_spot, performed, start_or_not, finished_or_not, sent_or_not}
use Rattle.runtime_model.specs.LookingBack.{recall, or_else, runs, synced, coasts, settled}
use Rattle.runtime_model.specs.Outcomes.{Spot, Step, Outcome, is_beacon, restarts, begun_run, hears}
use Rattle.runtime_model.specs.Packets.{packet}
use Rattle.runtime_model.specs.Placement.{placed, own_start, ends_run, ending_run_at}
use Rattle.runtime_model.specs.Plans.{Plan, node_of}
use Rattle.runtime_model.specs.Registers.{last_end}
use Rattle.runtime_model.specs.System.{System}

-- ---- looking back
pub cond_some : {X : Type 0} (b : Bool) (x : Option X) (z : X) → cond b x None ≡ Some z → (b ≡ true) × (x ≡ Some z)
cond_some true x z e = (refl, e)
cond_some false x z e = absurd (grind (arith, e))

pub or_cases : {X : Type 0} (x w : Option X) (z : X) → or_else x w ≡ Some z → (x ≡ Some z) ⊎ (x ≡ None) × (w ≡ Some z)
or_cases (Some x) w z e = inl e
or_cases None w z e = inr (refl, e)

pub or_first : {X : Type 0} (x w : Option X) (z : X) → x ≡ Some z → or_else x w ≡ Some z
or_first (Some x) w z h = h
or_first None w z h = absurd (grind (arith, h))

-- a look back that finds something finds something after one more event
pub found_again : {X : Type 0} (b : Bool) (x w : Option X) → b ≡ true → ((z : X) × (w ≡ Some z)) → (z : X) × (cond b (or_else x w) None ≡ Some z)
found_again true (Some x) w e h = (x, refl)
found_again true None w e h = h
found_again false x w e h = absurd cc

pub found_now : {X : Type 0} (b : Bool) (x w : Option X) (z : X) → b ≡ true → x ≡ Some z → cond b (or_else x w) None ≡ Some z
found_now true (Some x) w z e h = h
found_now true None w z e h = absurd (grind (arith, h))
found_now false x w z e h = absurd cc

pub recall_stay : {X : Type 0} (v stay : ℕ) (f : Outcome → Option X) (ds : List Step) (z : X) → recall v stay f ds ≡ Some z → (last_spot ds).stay ≡ stay
recall_stay v stay f [] z e = absurd (grind (arith, e))
recall_stay v stay f (d ∷ ds) z e =
    let c = cond_some (runs v (d ∷ ds) && nat_eq d.spot.stay stay) (or_else (f d.out) (recall v stay f ds)) z e in
    eqb-true d.spot.stay stay (and_parts (runs v (d ∷ ds)) (nat_eq d.spot.stay stay) c.0).1

-- an event that is no beacon and no restart of v leaves it running
pub still_runs : (v : ℕ) (d : Step) (ds : List Step) → restarts v d.out ≡ false → is_beacon d.out ≡ false → runs v (d ∷ ds) ≡ runs v ds
still_runs v d ds r b = by_tests (restarts v d.out) (is_beacon d.out) r b
  where
    by_tests : (r b : Bool) → r ≡ false → b ≡ false →
        (cond r false (cond b (hears v d.out) (synced v ds)) || cond r false (cond b (not (hears v d.out) && settled v ds) (coasts v ds))) ≡ runs v ds
    by_tests false false r b = refl
    by_tests false true r b = absurd cc
    by_tests true b r e = absurd cc

-- ---- what an end says
abbrev pub EndIs : Plan → Spot → List Step → ℕ → ℕ → Action → ℕ → ℤ → Type 0
EndIs p s ds a u w k x = (w ≡ task_ends a) × (ends_run p s.turn u a ≡ true) × (k ≡ ending_run_at p s.turn u a)

end_of : (p : Plan) (s : Spot) (ds : List Step) (a b u k : ℕ) (x : ℤ) (r : Bool) (o : Option ℤ) → last_end a (finished_or_not (node_of p b) b (ending_run_at p s.turn u b) (cond r o None)) ≡ Some (k, x) →
    (b ≡ a) × (r ≡ true) × (k ≡ ending_run_at p s.turn u b)
end_of p s ds a b u k x false o e = absurd (grind (arith, e))
end_of p s ds a b u k x true None e = absurd (grind (arith, e))
end_of p s ds a b u k x true (Some z) e =
    let c = cond_some (nat_eq b a) (Some (ending_run_at p s.turn u b, z)) (k, x) e in
    (eqb-true b a c.0, refl, let q : (ending_run_at p s.turn u b, z) ≡ (k, x) = grind (arith, c.1) in sym (ap (λ (y : ℕ × ℤ). y.0) q))

pub finished_is : (y : System) (p : Plan) (s : Spot) (lost : ℕ) (ds : List Step) (u : ℕ) (w : Action) (a k : ℕ) (x : ℤ) → last_end a (performed y p s lost ds u w) ≡ Some (k, x) → EndIs p s ds a u w k x
finished_is y p s lost ds u (task_ends b) a k x e =
    let c = end_of p s ds a b u k x (ends_run p s.turn u b) (recall (node_of p b) s.stay (begun_run b (ending_run_at p s.turn u b)) ds) e in
    (ap task_ends c.0, subst (λ b. ends_run p s.turn u b ≡ true) c.0 c.1, c.2 ∙ ap (λ b. ending_run_at p s.turn u b) c.0)
finished_is y p s lost ds u (beacon j) a k x e = absurd (grind (arith, e))
finished_is y p s lost ds u (slot j i) a k x e = absurd (not_sent (packet p s j i ds) e)
  where
    not_sent : (o : Option (List ℤ)) → last_end a (sent_or_not p y.nodes s j i ds o lost) ≡ Some (k, x) → ⊥
    not_sent None e = grind (arith, e)
    not_sent (Some xs) e = grind (arith, e)
finished_is y p s lost ds u (task_starts b) a k x e = absurd (not_started (placed s.hyper.opening s.hyper.phase (own_start p u b) && runs (node_of p b) ds) e)
  where
    not_started : (o : Bool) → last_end a (start_or_not y p s ds b u o) ≡ Some (k, x) → ⊥
    not_started true e = grind (arith, e)
    not_started false e = grind (arith, e)
