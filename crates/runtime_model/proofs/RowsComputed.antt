-- The worked rows, by computing
use Rattle.std.proofs.Common.{refl}
use Rattle.sched_model.specs.PlainMode.{hyper}
use Rattle.runtime_model.specs.Entries.{cycle}
use Rattle.runtime_model.specs.Rows.{CopiesInPart, CopyLost, CopyPassedOver, LatestRequest, LatestRequestExchanged, LostBeacon, MissedWarning, ModeChange, ModeChangeHost, NodePart, RestartAfterBeacon, RestartBeforeBeacon}

pub lost_beacon : LostBeacon
unfolding cycle hyper
lost_beacon = refl

pub mode_change_lines : ModeChange
unfolding cycle hyper
mode_change_lines = refl

pub mode_change_host : ModeChangeHost
unfolding cycle hyper
mode_change_host = refl

pub missed_warning : MissedWarning
unfolding cycle hyper
missed_warning = refl

pub restart_before : RestartBeforeBeacon
unfolding cycle hyper
restart_before = refl

pub restart_after : RestartAfterBeacon
unfolding cycle hyper
restart_after = refl

pub latest_request : LatestRequest
unfolding cycle hyper
latest_request = refl

pub latest_exchanged : LatestRequestExchanged
unfolding cycle hyper
latest_exchanged = refl

pub node_part : NodePart
unfolding hyper
node_part = refl

pub copy_lost : CopyLost
unfolding cycle hyper
copy_lost = refl

pub copy_passed_over : CopyPassedOver
unfolding cycle hyper
copy_passed_over = refl

pub copies_in_part : CopiesInPart
unfolding hyper
copies_in_part = refl
