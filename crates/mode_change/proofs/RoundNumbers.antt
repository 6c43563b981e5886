-- The numbers of rounds fit a host
use Rattle.std.proofs.Common.{◌≡◌, ℕ, suc, ◌+◌, ◌*◌, ◌≤◌, List, [], ◌∷◌, length, None, true, refl, ap, arith}
use Rattle.std.specs.List.{AllByRecursion}
use Rattle.std.proofs.lemmas.List.{length-map}
use Rattle.std.proofs.lemmas.List.Elements.{All-from_recursion, recursion_from_All}
use Rattle.sched_model.specs.declared.schedule.Schedule.{Schedule}
use Rattle.runtime_model.specs.Timeline.{steady}
use Rattle.runtime_model.specs.Plans.{FewRounds, round_counts, first_rounds}
use Rattle.mode_change.specs.HostSeen.{HostFits}

-- the number of rounds of a schedule
abbrev count_of : Schedule → ℕ
count_of s = length s.starts

pub counts_length : (schedules : List Schedule) → length (round_counts schedules) ≡ length schedules
counts_length schedules = length-map schedules count_of

-- the first rounds of at most 8 modes of at most 256 rounds each
firsts_below : (n : ℕ) (counts : List ℕ) → AllByRecursion (λ c. c ≤ 256) counts → n + 256 * length counts ≤ 2304 → AllByRecursion (λ r. r ≤ 2048) (first_rounds n counts)
firsts_below n [] a l = tt
firsts_below n (c ∷ counts) a l = (omega (arith, l), firsts_below (n + c) counts a.1 (omega (arith, l, a.0)))

firsts_length : (n : ℕ) (counts : List ℕ) → length (first_rounds n counts) ≡ length counts
firsts_length n [] = refl
firsts_length n (c ∷ counts) = ap suc (firsts_length (n + c) counts)

-- a host fits that stands before all calls
pub made_fits : (schedules : List Schedule) → FewRounds schedules → HostFits 0 1 steady true None (round_counts schedules) (first_rounds 1 (round_counts schedules))
made_fits schedules ok =
    let n = counts_length schedules in
    record {
      same = firsts_length 1 (round_counts schedules);
      modes_fit = omega (arith, n, ok.modes);
      mode_fits = omega (arith, n, ok.some);
      phase_fits = tt;
      one_flag = λ e. absurd cc;
      waiting_fits = tt;
      from_one = omega arith;
      round_fits = omega arith;
      rounds_fit = ok.rounds;
      firsts_fit = All-from_recursion (λ r. r ≤ 2048) (first_rounds 1 (round_counts schedules)) (firsts_below 1 (round_counts schedules) (recursion_from_All (λ c. c ≤ 256) (round_counts schedules) ok.rounds) (omega (arith, n, ok.modes)));
    }
