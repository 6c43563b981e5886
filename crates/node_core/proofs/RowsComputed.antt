-- The worked rows, by computing
use Rattle.std.proofs.Common.{refl}
use Rattle.node_core.specs.Registers.{no_outs, no_ins}
use Rattle.sched_model.specs.PlainMode.{hyper}
use Rattle.node_core.specs.Rows.{OneCopyIsTaken, AllConsumersCount, TablesAreParts, Misses, SenseRuns, ControlSends, TakesAPacket, ActRuns, OtherModeEmpties, DrainEmpties, DrainPlaces, FourProducers}

pub tables_are_parts : TablesAreParts
unfolding hyper
tables_are_parts = (refl, refl)

pub misses : Misses
misses = (refl, refl, refl, refl, refl)

pub sense_runs : SenseRuns
unfolding no_outs no_ins
sense_runs = (refl, refl, refl, refl)

pub control_sends : ControlSends
unfolding no_outs no_ins
control_sends = (refl, refl, refl, refl)

pub takes_a_packet : TakesAPacket
unfolding no_outs no_ins
takes_a_packet = (refl, refl)

pub act_runs : ActRuns
unfolding no_outs no_ins
act_runs = (refl, refl, refl, refl)

pub other_mode_empties : OtherModeEmpties
other_mode_empties = (refl, refl, refl)

pub drain_empties : DrainEmpties
drain_empties = (refl, refl, refl, refl)

pub drain_places : DrainPlaces
unfolding no_outs no_ins
drain_places = (refl, refl)

pub four_producers : FourProducers
unfolding no_outs no_ins
four_producers = (refl, refl, refl)

pub one_copy_is_taken : OneCopyIsTaken
unfolding no_outs no_ins
one_copy_is_taken = (refl, refl, refl, refl, refl, refl)

pub all_consumers_count : AllConsumersCount
unfolding no_outs no_ins
all_consumers_count = (refl, refl, refl)
