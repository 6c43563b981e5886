-- What is left to do falls: a value that rises, a variable that is taken
use Rattle.std.proofs.Common.{◌≡◌, ℕ, ◌+◌, ◌<◌, ◌≤◌, Bool, true, false, cond, List, length, set, ap, arith, ℤ, pos, ◌-ℤ◌, ◌≤ℤ◌, ◌<ℤ◌}
use Rattle.std.specs.Int.RustNames.{unsigned_abs}
use Rattle.std.specs.List.{count_by}
use Rattle.std.proofs.lemmas.Int.{ints}
use Rattle.std.proofs.lemmas.List.Sums.{sum_by-set}
use Rattle.tick_num.specs.Differences.{listed}
use Rattle.diff_store.specs.Raising.{waits_in, left_to_do}

abbrev one : Bool → ℕ
one w = cond w 1 0

pub count_less : (ws : List Bool) (x : ℕ) → x < length ws → waits_in ws x ≡ true → count_by (λ w. w) (set ws x false) < count_by (λ w. w) ws
count_less ws x l h =
    let s = sum_by-set one ws x false false l in
    let e = ap one h in
    omega (arith, s, e)

count_more : (ws : List Bool) (x : ℕ) → x < length ws → count_by (λ w. w) (set ws x true) ≤ count_by (λ w. w) ws + 1
count_more ws x l = let s = sum_by-set one ws x true false l in omega (arith, s)

abbrev gap : ℤ → ℕ
gap v = unsigned_abs (pos 8_100_000_000_000_000_000 -ℤ v)

gap_less : (v w : ℤ) → v <ℤ w → w ≤ℤ pos 8_100_000_000_000_000_000 → gap w < gap v
gap_less v w less top = omega (arith, ints)

pub raise_falls : (vs : List ℤ) (ws : List Bool) (y : ℕ) (w : ℤ) → y < length vs → length ws ≡ length vs → listed vs y <ℤ w → w ≤ℤ pos 8_100_000_000_000_000_000 → left_to_do (set vs y w) (set ws y true) ≤ left_to_do vs ws
raise_falls vs ws y w l size less top =
    let s = sum_by-set gap vs y w (pos 0) l in
    let g = gap_less (listed vs y) w less top in
    let c = count_more ws y (omega (arith, l, size)) in
    omega (arith, s, g, c)
