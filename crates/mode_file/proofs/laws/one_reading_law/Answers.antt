use Rattle.mode_file.proofs.OneReading.{one_reading}
use Rattle.mode_file.proofs.laws.one_reading_law.Goals as goal

pub returns : goal.returns
returns c = one_reading
