use Rattle.std.proofs.Common.{◌≡◌, ℕ, ◌≤◌, List, All, None, true, sym, ◌∙◌, subst}
use Rattle.runtime_model.specs.Timeline.{steady}
use Rattle.runtime_model.specs.Plans.{first_rounds, round_counts}
use Rattle.mode_change.specs.HostSeen.{HostFits}
use Rattle.mode_change.proofs.RoundNumbers.{made_fits}
use Rattle.mode_change.proofs.host.Host.make.Goals as goal

pub first_numbers-requires-clause-few : goal.first_numbers-requires-clause-few
first_numbers-requires-clause-few c =
    subst (λ (xs : List ℕ). All (λ n. n ≤ 256) xs) (sym (c.as_slice.ensures.value ∙ c.in_ok-rounds.ensures)) c.requires.rounds

pub invariant_of-result : goal.invariant_of-result
invariant_of-result c =
    let rounds = c.in_ok-rounds.ensures in
    let firsts = subst (λ (xs : List ℕ). c.in_ok-firsts.firsts.items ≡ first_rounds 1 xs) (c.as_slice.ensures.value ∙ rounds) c.in_ok-firsts.ensures in
    subst (λ (xs : List ℕ). HostFits 0 1 steady true None xs c.in_ok-firsts.firsts.items) (sym rounds)
    (subst (λ (xs : List ℕ). HostFits 0 1 steady true None (round_counts c.args.plans.now) xs) (sym firsts) (made_fits c.args.plans.now c.requires))
