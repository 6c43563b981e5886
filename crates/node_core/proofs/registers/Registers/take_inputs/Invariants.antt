use Rattle.std.proofs.Common.{◌≡◌, ◌++◌, drop, fold, take}
use Rattle.node_core.specs.Registers.{emptied_for, inputs_of}
use Rattle.node_core.proofs.registers.Registers.take_inputs.Given as goal

-- the inputs so far, then those that the rest of the messages gives, are all; the registers for the messages so far are empty
abbrev pub invariant-loop-message : goal.invariant-loop-message
invariant-loop-message l = record {
  inputs : l.inputs ++ inputs_of l.self.ins l.task (drop l.message-index l.messages) ≡ inputs_of l.initial.self.ins l.task l.messages;
  emptied : l.self ≡ record l.initial.self { ins = fold (emptied_for l.task) l.initial.self.ins (take l.message-index l.messages) };
}
