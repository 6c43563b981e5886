-- What a step of a world answers, in the numbers of the file
use Rattle.std.specs.Prelude.{ℕ, ◌+◌, ◌^◌, List, [], ◌∷◌, ℤ, pos}
use Rattle.beacon_codec.specs.declared.packet.Beacon.{Beacon}
use Rattle.sched_model.specs.PlainMode.{task_at, message_at}
use Rattle.runtime_model.specs.Plans.{Plan}
use Rattle.runtime_model.specs.Outcomes.{PlainBeacon, Outcome, beaconed, sent, silent, started, off, finished, void, requested, restarted, Step}
use Rattle.runtime_model.specs.System.{System, plan_at}
use Rattle.runtime_model.specs.History.{moment}
use Rattle.world_core.specs.declared.happened.Happened.{Happened}
use Rattle.world_core.specs.declared.happened.Happened.TheVariants.{Beacon as Beaconed, Sent, Silent, Started, Off, Ended, Void, Requested, Restarted}

-- these nodes as a set of bits, bit v for node v
abbrev pub bits_of : List ℕ → ℕ
bits_of [] = 0
bits_of (v ∷ vs) = 2 ^ v + bits_of vs

-- a beacon of the timeline as one of the code
abbrev pub typed_beacon : PlainBeacon → Beacon
typed_beacon b = record { round = b.round; mode = b.mode; trigger = b.trigger; opening = b.opening }

-- what happened at a tick, where p is the running mode's plan
abbrev pub told_at : ℤ → Plan → Outcome → Happened
told_at at p (beaconed b hs) = Beaconed at (typed_beacon b) (bits_of hs)
told_at at p (sent v i k xs ts) = Sent at v (record { message = (message_at p.mode i).number; values = xs }) (bits_of ts)
told_at at p (silent i) = Silent at (message_at p.mode i).number
told_at at p (started v a k ins x) = Started at v (task_at p.mode a).number ins
told_at at p (off v a) = Off at v (task_at p.mode a).number
told_at at p (finished v a k x) = Ended at v (task_at p.mode a).number x
told_at at p (void v a) = Void at v (task_at p.mode a).number
told_at at p (requested m) = Requested at m
told_at at p (restarted v) = Restarted at v

-- what happened at a step
abbrev pub happened : System → Step → Happened
happened y d = told_at (pos (moment y d)) (plan_at y d.spot.hyper.mode) d.out
