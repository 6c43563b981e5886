use Rattle.tick_num.proofs.Cycles as cycles
use Rattle.tick_num.proofs.laws.cycles_exclude.Goals as goal

pub returns : goal.returns
returns c = cycles.cycles_exclude
