-- A step keeps how many bodies there are
use Rattle.std.proofs.Common.{◌≡◌, ℕ, Bool, true, false, cond, List, [], ◌∷◌, length, map, refl, sym, ◌∙◌, ap}
use Rattle.std.specs.Prelude.{fold, nat_eq, slice_index_or, slice_set}
use Rattle.std.proofs.lemmas.List.{length-map, length-set}
use Rattle.sched_model.specs.Numbers.{below}
use Rattle.task_body.specs.Body.{BodySeen, body_at, reset_for}
use Rattle.world_core.specs.declared.cycle.Action.{Action}
use Rattle.world_core.specs.declared.cycle.Action.TheVariants.{End, Beacon as Opens, Slot, Start}
use Rattle.world_core.specs.NodeStates.{starts_now}
use Rattle.world_core.specs.Worlds.{WorldSeen, node_at}
use Rattle.world_core.specs.WorldSteps.{arrived, at_entry, bodies_advanced, bodies_performed, bodies_reset, body_of, next_entry, reset_one}

-- one body is replaced where a test holds
where_count : (test : Bool) (bodies : List BodySeen) (b : ℕ) (new : BodySeen) → length (cond test (slice_set bodies b new) bodies) ≡ length bodies
where_count true bodies b new = length-set bodies b new
where_count false bodies b new = refl

performed_count : (w : WorldSeen) (bodies : List BodySeen) (a : Action) → length (bodies_performed w bodies a) ≡ length bodies
performed_count w bodies (End v task) = refl
performed_count w bodies (Opens j) = refl
performed_count w bodies (Slot number message) = refl
performed_count w bodies (Start v task) = where_count (starts_now (node_at w v) task) bodies (body_of w task) _

resets_count : (owners places : List ℕ) (v : ℕ) (bodies : List BodySeen) (tasks : List ℕ) → length (fold (reset_one owners places v) bodies tasks) ≡ length bodies
resets_count owners places v bodies [] = refl
resets_count owners places v bodies (t ∷ ts) =
    resets_count owners places v (reset_one owners places v bodies t) ts
    ∙ where_count (nat_eq (slice_index_or owners t 0) v) bodies (slice_index_or places t 0) (reset_for (body_at bodies (slice_index_or places t 0)) t)

-- as many are seen as there are
seen_count : {X : Type 0} (see : X → BodySeen) (before after : List X) (bodies : List BodySeen) → map see after ≡ bodies → length bodies ≡ length (map see before) → length after ≡ length before
seen_count see before after bodies e f = sym (length-map after see) ∙ ap length e ∙ f ∙ length-map before see

pub advance_count : {X : Type 0} (see : X → BodySeen) (before after : List X) (w : WorldSeen) → map see after ≡ bodies_advanced w (map see before) → length after ≡ length before
advance_count see before after w e = seen_count see before after _ e (performed_count (at_entry w) (map see before) (next_entry (arrived w)).action)

pub restart_count : {X : Type 0} (see : X → BodySeen) (before after : List X) (w : WorldSeen) (v : ℕ) → map see after ≡ bodies_reset w v (map see before) → length after ≡ length before
restart_count see before after w v e = seen_count see before after _ e (resets_count w.owners w.places v (map see before) (below (length w.owners)))
