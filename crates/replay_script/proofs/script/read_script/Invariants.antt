use Rattle.std.proofs.Common.{◌-◌, length}
use Rattle.replay_script.proofs.ReadSoFar.{HasRead}
use Rattle.replay_script.proofs.script.read_script.Given as goal

abbrev pub invariant-loop-line : goal.invariant-loop-line
invariant-loop-line l = HasRead l.set l.text l.from l.number l.sum l.script.items

abbrev pub decreases-loop-line : goal.decreases-loop-line
decreases-loop-line l = length l.text - l.from
