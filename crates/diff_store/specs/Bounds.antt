-- How large the bounds of a list may be
use Rattle.std.specs.Prelude.{pos, ◌≤ℤ◌, neg_ℤ}
use Rattle.tick_num.specs.declared.differences.Diff.{Diff}

-- a bound within 10^13 of zero
abbrev pub Small : Diff → Type 0
Small d = (neg_ℤ (pos 10_000_000_000_000) ≤ℤ d.c) × (d.c ≤ℤ pos 10_000_000_000_000)
