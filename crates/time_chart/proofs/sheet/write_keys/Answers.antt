use Rattle.std.specs.Prelude.{codes}
use Rattle.time_chart.specs.Drawing.{key}
use Rattle.time_chart.specs.declared.elements.Look.TheVariants.{Round, Slot, Window, Run}
use Rattle.time_chart.proofs.Joined.{four_lists}
use Rattle.time_chart.proofs.sheet.write_keys.Goals as goal

pub returns : goal.returns
returns c =
    four_lists c.args.out.now (key 220 Round (codes "round")) (key 370 Slot (codes "slot in use")) (key 520 Window (codes "message window")) (key 670 Run (codes "task runs"))
    c.write_key.new.out c.write_key-2.new.out c.write_key-3.new.out c.write_key-4.new.out c.write_key-4.result c.in_ok-write_key.ensures c.in_ok-write_key-2.ensures c.in_ok-write_key-3.ensures c.write_key-4.ensures
