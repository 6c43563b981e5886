use Rattle.std.proofs.Common.{◌*ℤ◌, w64, FitsSigned}
use Rattle.std.proofs.lemmas.Int.{to_z-of_z}
use Rattle.node_use.proofs.PlaceLemmas.{start_bounds, fits_between}
use Rattle.node_use.proofs.places.place_start.Goals as goal

pub overflow_mul-result : goal.overflow_mul-result
overflow_mul-result c =
    let z = c.ranges.z in
    let d = c.ranges.divisor in
    let b = start_bounds c.args.first c.args.second c.args.divisor c.args.z c.requires.first c.requires.second c.requires.divisor c.requires.place in
    simp to_z-of_z (fits_between _ b.0 b.1)

pub returns : goal.returns
returns c =
    let z = c.ranges.z in
    let d = c.ranges.divisor in
    let b = start_bounds c.args.first c.args.second c.args.divisor c.args.z c.requires.first c.requires.second c.requires.divisor c.requires.place in
    let f : FitsSigned w64 (c.args.z *ℤ c.args.divisor) = fits_between _ b.0 b.1 in
    record { value = simp to_z-of_z; low = simp to_z-of_z b.0; high = simp to_z-of_z b.1 }
