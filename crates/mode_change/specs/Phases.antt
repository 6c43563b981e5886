-- The phase of the code as the timeline's
use Rattle.mode_change.specs.declared.phase.Phase.{Phase}
use Rattle.mode_change.specs.declared.phase.Phase.TheVariants.{Steady, Warn, Drain}
use Rattle.runtime_model.specs.Timeline.{PlainPhase, steady, warn, drain}

abbrev pub plain_phase : Phase → PlainPhase
plain_phase Steady = steady
plain_phase (Warn m) = warn m
plain_phase (Drain m) = drain m
