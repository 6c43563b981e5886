use Rattle.std.proofs.Common.{◌≡◌, map, option_map, string_bytes}
use Rattle.mode_file.specs.Tables.{least_unlisted}
use Rattle.mode_file.proofs.unlisted.least_unlisted.Given as goal

abbrev pub invariant-loop-key : goal.invariant-loop-key
invariant-loop-key l = option_map (λ k. k.now) l.least ≡ least_unlisted l.listed (map (λ e. string_bytes e.0.now) l.yielded)
