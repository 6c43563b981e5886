-- Chains of constraints with one x, the first pushed first
use Rattle.std.specs.Prelude.{◌≡◌, ℕ, ◌+◌, ◌<◌, ◌≤◌, List, length, slice_index_or, Option, None, Some, IfSome}
use Rattle.tick_num.specs.declared.differences.Diff.{Diff}
use Rattle.diff_store.specs.declared.chains.Links.{Links}
use Rattle.diff_store.specs.Leasts.{at}

-- what stands at a place of a list of links
abbrev pub linked : List (Option ℕ) → ℕ → Option ℕ
linked os x = slice_index_or os x None

-- how many positions there are up to this one
abbrev pub reach : Option ℕ → ℕ
reach None = 0
reach (Some i) = i + 1

-- the position, or the end of the list
abbrev pub begin : List Diff → Option ℕ → ℕ
begin ds None = length ds
begin ds (Some i) = i

-- the last position before the bound whose constraint has that x, if there is one
pub record IsLatest (ds : List Diff) (x bound : ℕ) (latest : Option ℕ) : Type 0 where
  pub within : reach latest ≤ bound
  pub same : IfSome latest (λ i. (at ds i).x ≡ x)
  pub none_between : (i : ℕ) → reach latest ≤ i → i < bound → (at ds i).x ≡ x → ⊥

-- the first position from the bound on whose constraint has that x, if there is one
pub record IsEarliest (ds : List Diff) (x bound : ℕ) (earliest : Option ℕ) : Type 0 where
  pub within : IfSome earliest (λ i. i < length ds)
  pub from : bound ≤ begin ds earliest
  pub same : IfSome earliest (λ i. (at ds i).x ≡ x)
  pub none_between : (i : ℕ) → bound ≤ i → i < begin ds earliest → (at ds i).x ≡ x → ⊥

-- a chain of the constraints from each variable, to be walked either way
pub record Chained (n : ℕ) (ds : List Diff) (links : Links) : Type 0 where
  pub firsts_size : length links.firsts.items ≡ n
  pub lasts_size : length links.lasts.items ≡ n
  pub newer_room : length ds ≤ length links.newer.items
  pub older_room : length ds ≤ length links.older.items
  pub first : (x : ℕ) → x < n → IsEarliest ds x 0 (linked links.firsts.items x)
  pub last : (x : ℕ) → x < n → IsLatest ds x (length ds) (linked links.lasts.items x)
  pub newer : (i : ℕ) → i < length ds → IsEarliest ds (at ds i).x (i + 1) (linked links.newer.items i)
  pub older : (i : ℕ) → i < length ds → IsLatest ds (at ds i).x i (linked links.older.items i)
