use Rattle.runtime_model.proofs.SlotInputs.{inputs_hold_at_slots}
use Rattle.runtime_model.proofs.laws.inputs_hold_at_slots.Goals as goal

pub returns : goal.returns
returns c = inputs_hold_at_slots
