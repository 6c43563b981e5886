-- The mode sets of the tests
use Rattle.std.proofs.Common.{◌≡◌, ℕ, ◌<◌, codes, [], ◌∷◌, lit<, refl, sym, subst, pos}
use Rattle.app_graph.specs.declared.raw.RawSet.{RawSet}
use Rattle.app_graph.specs.declared.mode_set.ModeSet.{ModeSet}
use Rattle.app_graph.specs.Hyperperiod.{hyperperiod}
use Rattle.app_graph.specs.ValueRules.{slots_of}
use Rattle.app_graph.specs.Validation.{KeepsRules}
use Rattle.sched_model.specs.PlainMode.{plain_at, message_at, hyper, copy_count}
use Rattle.sched_model.specs.Numbered.{IsMessageOf}
use Rattle.sched_model.specs.TestModes.{loop_with}
use Rattle.sched_model.proofs.TaskNumbers.{one_message}
use Rattle.sched_model.proofs.TestLaws.{wide_kept}
use Rattle.round_service.specs.TestMode.{half}

pub loop_rules : (set : ModeSet) → set ≡ loop_with (pos 100) → KeepsRules set
loop_rules set e = subst KeepsRules (sym e) wide_kept.2

raw_half : RawSet
raw_half = record {
  slots = pos 2;
  round = pos 10;
  gap = pos 100;
  host = codes "n0";
  nodes = codes "n0" ∷ codes "n1" ∷ [];
  modes = record {
    name = codes "run";
    apps = record {
      name = codes "fast";
      period = pos 50;
      deadline = pos 50;
      tasks = record { name = codes "sense"; node = codes "n0"; wcet = pos 2; body = codes "tally" } ∷ record { name = codes "act"; node = codes "n1"; wcet = pos 1; body = codes "tally" } ∷ [];
      messages = record { name = codes "m"; from = codes "sense" ∷ []; to = codes "act" ∷ []; copies = pos 1 } ∷ [];
    } ∷ record {
      name = codes "rare";
      period = pos 100;
      deadline = pos 100;
      tasks = record { name = codes "slow"; node = codes "n0"; wcet = pos 1; body = codes "tally" } ∷ [];
      messages = [];
    } ∷ [];
  } ∷ [];
}

kept : KeepsRules half
unfolding raw_half hyperperiod slots_of
kept = (raw_half, refl, refl)

pub half_rules : (set : ModeSet) → set ≡ half → KeepsRules set
half_rules set e = subst KeepsRules (sym e) kept

first_there : (set : ModeSet) → set ≡ loop_with (pos 100) → IsMessageOf set 0 0 0
first_there set e = subst (λ (x : ModeSet). IsMessageOf x 0 0 0) (sym e) (record { mode = lit< tt; place = lit< tt; is = refl })

one_copy : 0 < copy_count (plain_at (loop_with (pos 100)) 0) (message_at (plain_at (loop_with (pos 100)) 0) 0)
unfolding hyper
one_copy = lit< tt

pub copy_known : (set : ModeSet) → set ≡ loop_with (pos 100) → (a : ℕ) → IsMessageOf set 0 a 0 → 0 < copy_count (plain_at set 0) (message_at (plain_at set 0) a)
copy_known set e a w =
    subst (λ n. 0 < copy_count (plain_at set 0) (message_at (plain_at set 0) n)) (one_message set (loop_rules set e) 0 0 a 0 (first_there set e) w)
    (subst (λ (x : ModeSet). 0 < copy_count (plain_at x 0) (message_at (plain_at x 0) 0)) (sym e) one_copy)
