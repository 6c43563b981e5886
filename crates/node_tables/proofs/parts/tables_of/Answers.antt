use Rattle.std.proofs.Common.{◌≡◌, List, length, ap, sym, subst, ◌∙◌, arith, map}
use Rattle.runtime_model.specs.NodeTables.{mode_tables, part_of}
use Rattle.runtime_model.specs.Plans.{plans_of}
use Rattle.sched_model.proofs.TaskNumbers.{few_modes}
use Rattle.node_tables.specs.declared.tables.ModeTable.{ModeTable}
use Rattle.node_tables.specs.declared.tables.NodeTable.{NodeTable}
use Rattle.node_tables.specs.Image.{IsInRange}
use Rattle.node_tables.specs.Parts.{plain_table, typed_mode, typed_table}
use Rattle.node_tables.proofs.WholeTables.{parts_step, parts_end, plain_typed}
use Rattle.node_tables.proofs.PartRanges.{part_range}
use Rattle.node_tables.proofs.parts.tables_of.Goals as goal

pub overflow_cast-mode : goal.overflow_cast-mode
overflow_cast-mode c =
    record { fits = omega (arith, c.loop-mode-test.true, ap length c.as_slice-mode-end.ensures, few_modes c.args.set.now c.requires.rules) }

pub overflow_cast-mode-in-loop-mode : goal.overflow_cast-mode-in-loop-mode
overflow_cast-mode-in-loop-mode c =
    record { fits = omega (arith, c.loop-mode-test.true, ap length c.as_slice-mode-end.ensures, few_modes c.args.set.now c.requires.rules) }

pub overflow_add-first_round : goal.overflow_add-first_round
overflow_add-first_round c =
    record { fits = omega (arith, c.loop-mode-test.true, ap length c.as_slice-mode-end.ensures, few_modes c.args.set.now c.requires.rules, c.loop-mode.invariant.first, c.round_count-count.ensures.most) }

pub loop-mode-preserved : goal.loop-mode-preserved
loop-mode-preserved c = record {
  modes = parts_step c.args.set.now c.args.plans.now c.args.node c.loop-mode.mode c.loop-mode.first_round _ c.loop-mode.modes.items c.push.new.self.items c.in_ok-mode_part.field-0
      c.schedule_of-schedule.result.now (omega (arith, c.loop-mode-test.true, ap length c.as_slice-mode-end.ensures)) c.schedule_of-schedule.ensures.value c.in_ok-mode_part.ensures
      (omega (arith, c.round_count-count.ensures.value)) c.in_ok-push.ensures.items _ c.loop-mode.invariant.modes;
  first = omega (arith, c.loop-mode.invariant.first, c.round_count-count.ensures.most);
}

pub returns : goal.returns
returns c =
    let whole = map typed_mode (mode_tables c.args.node 1 (plans_of c.args.set.now c.args.plans.now)) in
    let part = part_of (plans_of c.args.set.now c.args.plans.now) c.args.node in
    let made = λ (x : List ModeTable). let t : NodeTable = record { node = c.args.node; modes = x } in t in
    let e : made c.from_vec.result ≡ typed_table part = ap made
    (c.from_vec.ensures ∙ parts_end c.args.set.now c.args.plans.now c.args.node c.loop-mode.mode c.loop-mode.first_round c.loop-mode.modes.items whole
    (omega (arith, c.loop-mode-test.false, ap length c.as_slice-mode-end.ensures)) c.loop-mode.invariant.modes) in
    let range = part_range c.args.set.now c.args.plans.now c.args.node c.requires.rules c.requires.schedules c.requires.node in
    record { exact = e; part = ap plain_table e ∙ plain_typed part; in_range = subst (λ (t : NodeTable). IsInRange t) (sym e) range }
