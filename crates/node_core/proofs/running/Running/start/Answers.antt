use Rattle.std.proofs.Common.{ap, ◌∙◌, sym, subst, pos}
use Rattle.node_tables.specs.declared.tables.ModeTable.{ModeTable}
use Rattle.node_core.specs.contracts.running.Running.{the_view}
use Rattle.node_core.specs.Registers.{RegistersSeen}
use Rattle.node_core.specs.Running.{mode_of}
use Rattle.node_core.specs.Fits.{HasRoom, InsFit}
use Rattle.node_core.proofs.RegisterLemmas.{begun_room}
use Rattle.node_core.proofs.InputLemmas.{few_inputs, taken_fit}
use Rattle.node_core.proofs.running.Running.start.Goals as goal

pub take_inputs-requires-clause-room : goal.take_inputs-requires-clause-room
take_inputs-requires-clause-room g c =
    few_inputs (the_view c.self.inside) c.args.task c.as_slice-messages.result.now c.self.invariant (c.as_slice-messages.ensures ∙ ap (λ (m : ModeTable). m.messages) c.mode_at.ensures)

pub invariant_of-self : goal.invariant_of-self
invariant_of-self g c =
    record {
      table = c.self.invariant.table;
      spot = c.self.invariant.spot;
      ins = subst (λ (g : RegistersSeen). InsFit (mode_of (the_view c.self.inside)).messages g.ins) (sym c.begin.ensures)
          (subst (λ (g : RegistersSeen). InsFit (mode_of (the_view c.self.inside)).messages g.ins) (sym c.take_inputs.ensures.emptied)
          (taken_fit (mode_of (the_view c.self.inside)).messages c.args.task c.self.inside.registers.ins c.as_slice-messages.result.now c.self.invariant.ins));
      room = let begun = begun_room c.args.task (pos 0) c.as_slice-messages.result.now c.self.inside.registers c.self.invariant.room in
          let taken = subst (λ (g : RegistersSeen). HasRoom g) (sym c.take_inputs.ensures.emptied) (record { outs = begun.outs; rows = begun.rows }) in
          subst (λ (g : RegistersSeen). HasRoom g) (sym c.begin.ensures) (record { outs = taken.outs; rows = taken.rows });
    }
