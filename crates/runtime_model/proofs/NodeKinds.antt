-- The node's state against the past
use Rattle.std.proofs.Common.{◌≡◌, ℕ, Bool, true, false, cond, not, ◌&&◌, List, [], ◌∷◌, refl, ◌∙◌, ap}
use Rattle.runtime_model.specs.Laws.{KindsFollow}
use Rattle.runtime_model.specs.LookingBack.{synced, settled, coasts}
use Rattle.runtime_model.specs.NodeKinds.{listening, in_sync, missed, next_kind, kind, kind_by}
use Rattle.runtime_model.specs.Outcomes.{Step, is_beacon, hears, restarts, announces}

-- a node that is settled heard the last beacon, and one that coasts did not
abbrev Fits : Bool → Bool → Bool → Type 0
Fits heard calm missed_one = (heard ≡ false → calm ≡ false) × (heard ≡ true → missed_one ≡ false)

step : (r b h a heard calm missed_one : Bool) → Fits heard calm missed_one →
    (cond r listening (cond b (cond h (in_sync a) (missed (kind_by heard calm missed_one))) (kind_by heard calm missed_one))
    ≡ kind_by (cond r false (cond b h heard)) (cond r false (cond b (h && not a) calm)) (cond r false (cond b (not h && calm) missed_one)))
    × Fits (cond r false (cond b h heard)) (cond r false (cond b (h && not a) calm)) (cond r false (cond b (not h && calm) missed_one))
step true b h a heard calm missed_one f = (refl, ((λ e. refl), (λ e. refl)))
step false false h a heard calm missed_one f = (refl, f)
step false true true true heard calm missed_one f = (refl, ((λ e. refl), (λ e. refl)))
step false true true false heard calm missed_one f = (refl, ((λ e. absurd cc), (λ e. refl)))
step false true false a true true missed_one f = (refl, ((λ e. refl), (λ e. absurd cc)))
step false true false a true false missed_one f = (refl, ((λ e. refl), (λ e. refl)))
step false true false a false true missed_one f = absurd (let q = f.0 refl in cc)
step false true false a false false true f = (refl, ((λ e. refl), (λ e. refl)))
step false true false a false false false f = (refl, ((λ e. refl), (λ e. refl)))

both : (v : ℕ) (ds : List Step) → (kind v ds ≡ kind_by (synced v ds) (settled v ds) (coasts v ds)) × Fits (synced v ds) (settled v ds) (coasts v ds)
both v [] = (refl, ((λ e. refl), (λ e. refl)))
both v (d ∷ ds) =
    let r = both v ds in
    let s = step (restarts v d.out) (is_beacon d.out) (hears v d.out) (announces d) (synced v ds) (settled v ds) (coasts v ds) r.1 in
    (ap (next_kind v d) r.0 ∙ s.0, s.1)

pub kinds_follow : KindsFollow
kinds_follow v ds = (both v ds).0
