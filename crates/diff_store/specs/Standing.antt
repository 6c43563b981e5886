-- What a store keeps of the constraints that were pushed
use Rattle.std.specs.Prelude.{◌≡◌, ℕ, ◌<◌, ◌≤◌, ◌^◌, ◌⊎◌, List, length, drop, All, ℤ, vec_capacity}
use Rattle.tick_num.specs.declared.differences.Diff.{Diff}
use Rattle.tick_num.specs.Differences.{InRange, NegativeCycle, listed}
use Rattle.diff_store.specs.declared.store.Store.TheInside.{Inside}
use Rattle.diff_store.specs.Bounds.{Small}
use Rattle.diff_store.specs.Leasts.{LeastOfFirst}
use Rattle.diff_store.specs.Causes.{beside, HeldByFirst}
use Rattle.diff_store.specs.Trails.{Trailing, since, value_before, cause_before}
use Rattle.diff_store.specs.Chains.{Chained}
use Rattle.diff_store.specs.Raising.{NoneWaits}

-- the first k constraints had their least values, held up by causes
pub record Solved (ds : List Diff) (trail : Trailing) (v : ℕ → ℤ) (c : ℕ → ℕ) (k : ℕ) : Type 0 where
  pub least : LeastOfFirst k ds (value_before (since trail k) v)
  pub held : HeldByFirst k ds (value_before (since trail k) v) (cause_before (since trail k) c)

-- each shorter list had its least values, and the whole one has them or else a cycle
pub record Answered (ds : List Diff) (trail : Trailing) (vs : List ℤ) (causes cycle : List ℕ) : Type 0 where
  pub before : (k : ℕ) → k < length ds → Solved ds trail (listed vs) (beside causes) k
  pub now : Solved ds trail (listed vs) (beside causes) (length ds) ⊎ NegativeCycle ds cycle

-- the fields of a store
pub record Standing (s : Inside) : Type 0 where
  pub few : s.variables ≤ 400_000
  pub long : s.constraints < 2 ^ 32
  pub fits : length s.list.items ≤ s.constraints
  pub range : InRange s.variables s.list.items
  pub small : All Small s.list.items
  pub chained : Chained s.variables s.list.items s.links
  pub answered : Answered s.list.items s.trail s.values.items s.causes.items (drop s.start s.cycle.items)
  pub values : length s.values.items ≡ s.variables
  pub causes : length s.causes.items ≡ s.variables
  pub chain : length s.chain ≡ s.variables
  pub cycle : length s.cycle.items ≡ s.variables
  pub start : s.start ≤ s.variables
  pub pushes : s.trail.pushes ≡ s.constraints
  pub starts : length s.trail.starts ≡ length s.list.items
  pub kept : length s.trail.kept ≡ s.variables
  pub waits : length s.worklist ≡ s.variables
  pub none_waits : NoneWaits s.worklist
  pub list_room : s.constraints ≤ vec_capacity s.list
  pub newer_room : length s.links.newer.items ≡ s.constraints
  pub older_room : length s.links.older.items ≡ s.constraints
