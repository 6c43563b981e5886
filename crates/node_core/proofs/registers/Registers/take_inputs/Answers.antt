use Rattle.std.proofs.Common.{arith}
use Rattle.std.proofs.lemmas.Grind.{common_steps}
use Rattle.node_core.proofs.InputLemmas.{taken_more}
use Rattle.node_core.proofs.registers.Registers.take_inputs.Goals as goal

pub loop-message-preserved : goal.loop-message-preserved
loop-message-preserved c = record {
  inputs = taken_more c.args.task c.args.self.now c.loop-message.self c.take_input.new.self c.loop-message.inputs c.take_input.new.inputs c.args.messages.now c.loop-message.message-index c.message-item.result
      c.loop-message-test.true c.message-item.is c.requires.ascending c.loop-message.invariant.inputs c.take_input.ensures.inputs c.take_input.ensures.emptied;
  emptied = grind (arith, common_steps);
}
