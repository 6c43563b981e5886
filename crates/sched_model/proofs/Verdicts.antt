-- The first broken clause, where the clauses before it hold
use Rattle.std.proofs.Common.{ℕ, ◌<◌, arith, Bool, false, ◌≡◌, ◌↔◌, IsTrue}
use Rattle.sched_model.specs.declared.schedule.Schedule.{Schedule}
use Rattle.sched_model.specs.PlainMode.{PlainMode}
use Rattle.sched_model.specs.FirstBroken.{Keeps, BreaksFirst}
use Rattle.sched_model.proofs.Decided.{one_more}

-- what a failed test says
pub broken : (b : Bool) (P : Type 0) → (IsTrue b ↔ P) → b ≡ false → P → ⊥
broken b P t lacks p = let e = t.1 p in absurd (cc)

module _ (m : PlainMode) (s : Schedule) where
  kept1 : (k : ℕ) → k < 1 → Keeps m s k
  kept1 = one_more m s 0 (λ k l. absurd (omega (arith, l))) tt

  module _ (s1 : Keeps m s 1) (s2 : Keeps m s 2) (s3 : Keeps m s 3) where
    kept4 : (k : ℕ) → k < 4 → Keeps m s k
    kept4 = one_more m s 3 (one_more m s 2 (one_more m s 1 kept1 s1) s2) s3

    pub breaks4 : (Keeps m s 4 → ⊥) → BreaksFirst m s 4
    breaks4 f = record { kept = kept4; broken = f }

    module _ (s4 : Keeps m s 4) where
      pub breaks5 : (Keeps m s 5 → ⊥) → BreaksFirst m s 5
      breaks5 f = record { kept = one_more m s 4 kept4 s4; broken = f }

      module _ (s5 : Keeps m s 5) where
        pub breaks6 : (Keeps m s 6 → ⊥) → BreaksFirst m s 6
        breaks6 f = record { kept = one_more m s 5 (one_more m s 4 kept4 s4) s5; broken = f }

        module _ (s6 : Keeps m s 6) where
          kept7 : (k : ℕ) → k < 7 → Keeps m s k
          kept7 = one_more m s 6 (one_more m s 5 (one_more m s 4 kept4 s4) s5) s6

          pub breaks7 : (Keeps m s 7 → ⊥) → BreaksFirst m s 7
          breaks7 f = record { kept = kept7; broken = f }

          pub breaks8 : Keeps m s 7 → (Keeps m s 8 → ⊥) → BreaksFirst m s 8
          breaks8 s7 f = record { kept = one_more m s 7 kept7 s7; broken = f }
