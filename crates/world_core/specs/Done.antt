-- What a step did, with the inputs of a start apart
use Rattle.std.specs.Prelude.{List, Option, ℤ}
use Rattle.world_core.specs.declared.happened.Done.{Done}
use Rattle.world_core.specs.declared.happened.Done.TheVariants.{Beacon as DoneBeacon, Sent as DoneSent, Silent as DoneSilent, Started as DoneStarted, Off as DoneOff, Ended as DoneEnded, Void as DoneVoid, Requested as DoneRequested, Restarted as DoneRestarted}
use Rattle.world_core.specs.declared.happened.Happened.{Happened}
use Rattle.world_core.specs.declared.happened.Happened.TheVariants.{Beacon, Sent, Silent, Started, Off, Ended, Void, Requested, Restarted}

-- what happened, where a start had these inputs
abbrev pub whole : Done → List (Option ℤ) → Happened
whole (DoneBeacon at beacon heard) inputs = Beacon at beacon heard
whole (DoneSent at v packet taken) inputs = Sent at v packet taken
whole (DoneSilent at message) inputs = Silent at message
whole (DoneStarted at v task) inputs = Started at v task inputs
whole (DoneOff at v task) inputs = Off at v task
whole (DoneEnded at v task value) inputs = Ended at v task value
whole (DoneVoid at v task) inputs = Void at v task
whole (DoneRequested at mode) inputs = Requested at mode
whole (DoneRestarted at v) inputs = Restarted at v
