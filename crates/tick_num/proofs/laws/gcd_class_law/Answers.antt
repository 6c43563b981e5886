use Rattle.tick_num.proofs.ClassLaw.{class_law}
use Rattle.tick_num.proofs.laws.gcd_class_law.Goals as goal

pub returns : goal.returns
returns c = class_law
