use Rattle.std.proofs.Common.{◌≡◌, map, take}
use Rattle.toml.specs.View.{view}
use Rattle.mode_file.specs.Tables.{texts_in}
use Rattle.mode_file.proofs.values.texts_among.Given as goal

abbrev pub invariant-loop-value : goal.invariant-loop-value
invariant-loop-value l = l.names.items ≡ texts_in (map view (take l.value-index l.values))
