-- What pushes have replaced, the latest last
use Rattle.std.specs.Prelude.{◌≡◌, ℕ, ◌+◌, ◌*◌, ◌-◌, ◌<◌, ◌≤◌, ◌⊎◌, Bool, true, cond, eqb, List, [], ◌∷◌, length, drop, slice_index_or, count_by, All, ℤ}
use Rattle.diff_store.specs.declared.trail.Was.{Was}
use Rattle.diff_store.specs.Causes.{beside, marked}

-- room for so many pushes; what was replaced; where that of each push starts; which variables have an entry of the newest push
pub record Trailing : Type 0 where
  pub pushes : ℕ
  pub entries : List Was
  pub starts : List ℕ
  pub kept : List Bool

-- the entries that were made after the first k pushes
abbrev pub since : Trailing → ℕ → List Was
since t k = drop (slice_index_or t.starts k (length t.entries)) t.entries

-- what a variable had before the entries were made: its first one says that
abbrev pub value_before : List Was → (ℕ → ℤ) → ℕ → ℤ
value_before [] v y = v y
value_before (w ∷ ws) v y = cond (eqb y w.variable) w.value (value_before ws v y)

abbrev pub cause_before : List Was → (ℕ → ℕ) → ℕ → ℕ
cause_before [] c y = c y
cause_before (w ∷ ws) c y = cond (eqb y w.variable) w.cause (cause_before ws c y)

-- what the variables had after each of the first k pushes is the same
pub record SamePast (k : ℕ) (t t' : Trailing) (v v' : ℕ → ℤ) (c c' : ℕ → ℕ) : Type 0 where
  pub values : (j : ℕ) → j ≤ k → (y : ℕ) → value_before (since t' j) v' y ≡ value_before (since t j) v y
  pub causes : (j : ℕ) → j ≤ k → (y : ℕ) → cause_before (since t' j) c' y ≡ cause_before (since t j) c y

-- a variable had this value and cause, and all others have what they had
pub record Replaces (y : ℕ) (value : ℤ) (cause : ℕ) (v v' : ℕ → ℤ) (c c' : ℕ → ℕ) : Type 0 where
  pub value_was : v y ≡ value
  pub cause_was : c y ≡ cause
  pub values : (x : ℕ) → (x ≡ y → ⊥) → v' x ≡ v x
  pub causes : (x : ℕ) → (x ≡ y → ⊥) → c' x ≡ c x

-- one of the entries is for the variable
abbrev pub HasEntry : ℕ → List Was → Type 0
HasEntry y [] = ⊥
HasEntry y (w ∷ ws) = (y ≡ w.variable) ⊎ HasEntry y ws

-- a variable that counts as kept has an entry of the newest push, and that push has no more entries than such variables
pub record Kept (t : Trailing) : Type 0 where
  pub some : 0 < length t.starts
  pub entry : (y : ℕ) → marked t.kept y ≡ true → HasEntry y (since t (length t.starts - 1))
  pub few : length t.entries ≤ beside t.starts (length t.starts - 1) + count_by (λ k. k) t.kept

-- values and causes were replaced, and the past stays
pub record KeepsPast (t t' : Trailing) (v v' : ℕ → ℤ) (c c' : ℕ → ℕ) : Type 0 where
  pub kept : Kept t'
  pub past : SamePast (length t.starts - 1) t t' v v' c c'
  pub starts : t'.starts ≡ t.starts
  pub pushes : t'.pushes ≡ t.pushes
  pub size : length t'.kept ≡ length t.kept

-- the starts of the pushes rise, and no push has more entries than variables
pub record Ordered (n : ℕ) (t : Trailing) : Type 0 where
  pub rise : (j k : ℕ) → j ≤ k → k < length t.starts → beside t.starts j ≤ beside t.starts k
  pub within : (k : ℕ) → k < length t.starts → beside t.starts k ≤ length t.entries
  pub room : (k : ℕ) → k < length t.starts → beside t.starts k ≤ n * k
  pub filled : length t.entries ≤ n * length t.starts
  pub low : All (λ w. w.variable < n) t.entries
