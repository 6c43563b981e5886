-- The mode sets and schedules of the tests
use Rattle.std.proofs.Common.{◌≡◌, ℕ, zero, suc, ◌<◌, codes, List, [], ◌∷◌, length, get_or, All, Contains, refl, sym, ◌∙◌, subst, arith, ℤ, pos}
use Rattle.std.proofs.lemmas.List.Elements.{All-from_recursion}
use Rattle.app_graph.specs.declared.raw.RawSet.{RawSet}
use Rattle.app_graph.specs.declared.mode_set.ModeSet.{ModeSet}
use Rattle.app_graph.specs.Hyperperiod.{hyperperiod}
use Rattle.app_graph.specs.ValueRules.{slots_of}
use Rattle.sched_model.specs.declared.schedule.Schedule.{Schedule}
use Rattle.sched_model.specs.PlainMode.{plain_at}
use Rattle.sched_model.specs.RightSchedule.{HasShape}
use Rattle.sched_model.specs.TestModes.{loop_with, shared_with, IsLoop, IsShared, Planned}

-- the files that they are
abbrev raw_loop : ℤ → RawSet
raw_loop gap = record {
  slots = pos 2;
  round = pos 20;
  gap = gap;
  host = codes "n0";
  nodes = codes "n0" ∷ codes "n1" ∷ codes "n2" ∷ [];
  modes = record {
    name = codes "run";
    apps = record {
      name = codes "loop";
      period = pos 100;
      deadline = pos 100;
      tasks = record { name = codes "sense"; node = codes "n1"; wcet = pos 2; body = codes "tally" }
          ∷ record { name = codes "ctrl"; node = codes "n0"; wcet = pos 5; body = codes "tally" }
          ∷ record { name = codes "act"; node = codes "n2"; wcet = pos 1; body = codes "tally" } ∷ [];
      messages = record { name = codes "m1"; from = codes "sense" ∷ []; to = codes "ctrl" ∷ []; copies = pos 1 } ∷ record { name = codes "m2"; from = codes "ctrl" ∷ []; to = codes "act" ∷ []; copies = pos 1 } ∷ [];
    } ∷ [];
  } ∷ [];
}

abbrev raw_shared : ℤ → RawSet
raw_shared wcet = record {
  slots = pos 1;
  round = pos 3;
  gap = pos 12;
  host = codes "n0";
  nodes = codes "n0" ∷ [];
  modes = record {
    name = codes "run";
    apps = record {
      name = codes "a";
      period = pos 4;
      deadline = pos 4;
      tasks = record { name = codes "x"; node = codes "n0"; wcet = pos 1; body = codes "tally" } ∷ [];
      messages = [];
    } ∷ record {
      name = codes "b";
      period = pos 6;
      deadline = pos 6;
      tasks = record { name = codes "y"; node = codes "n0"; wcet = wcet; body = codes "tally" } ∷ [];
      messages = [];
    } ∷ [];
  } ∷ [];
}

pub wide_kept : IsLoop (loop_with (pos 100))
unfolding hyperperiod slots_of
wide_kept = (pos 100, refl, (raw_loop (pos 100), refl, refl))

pub close_kept : IsLoop (loop_with (pos 60))
unfolding hyperperiod slots_of
close_kept = (pos 60, refl, (raw_loop (pos 60), refl, refl))

pub short_kept : IsShared (shared_with (pos 1))
unfolding hyperperiod slots_of
short_kept = (pos 1, refl, (raw_shared (pos 1), refl, refl))

pub long_kept : IsShared (shared_with (pos 2))
unfolding hyperperiod slots_of
long_kept = (pos 2, refl, (raw_shared (pos 2), refl, refl))

-- ---- shapes
below_two : (n : ℕ) → n < 2 → Contains (0 ∷ 1 ∷ []) n
below_two n l = (n, l, pick n l)
  where
    pick : (k : ℕ) → k < 2 → get_or (0 ∷ 1 ∷ []) k k ≡ k
    pick zero h = refl
    pick (suc zero) h = refl
    pick (suc (suc k)) h = absurd (omega (arith, h))

pub loop_shape : (set : ModeSet) (s : Schedule) → IsLoop set → Planned 2 3 2 s → HasShape (plain_at set 0) (length s.starts) s
loop_shape set s (gap, e, kept) p =
    subst (λ (x : ModeSet). HasShape (plain_at x 0) (length s.starts) s) (sym e)
    (record {
      some = omega (arith, p.starts);
      starts = refl;
      tables = p.tables ∙ sym p.starts;
      tasks = p.offsets;
      messages = p.windows;
      numbers = λ k d l i f h. below_two (get_or (get_or s.tables k d) i f) (p.numbers k d l i f h);
    })

none_below : (P : ℕ → Type 0) (xs : List ℕ) → length xs ≡ 0 → All P xs
none_below P xs e k d l = absurd (omega (arith, l, e))

-- every time is one of those that the list is made of
pub two_times : (P : ℤ → Type 0) (l : List ℤ) (a b : ℤ) → l ≡ a ∷ b ∷ [] → P a → P b → All P l
two_times P l a b e p q = subst (All P) (sym e) (All-from_recursion P (a ∷ b ∷ []) (p, (q, tt)))

pub shared_shape : (set : ModeSet) (s : Schedule) → IsShared set → Planned 1 2 0 s → All (λ table. length table ≡ 0) s.tables → HasShape (plain_at set 0) (length s.starts) s
shared_shape set s (wcet, e, kept) p none =
    subst (λ (x : ModeSet). HasShape (plain_at x 0) (length s.starts) s) (sym e)
    (record {
      some = omega (arith, p.starts);
      starts = refl;
      tables = p.tables ∙ sym p.starts;
      tasks = p.offsets;
      messages = p.windows;
      numbers = λ k d l i f h. let n = none k d l in absurd (omega (arith, n, h));
    })
