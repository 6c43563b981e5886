-- What a line that was read says.
use Rattle.std.specs.Prelude.{map}
use Rattle.proof_tree.specs.declared.lines.PlanLine.{PlanLine}
use Rattle.proof_tree.specs.declared.lines.PlanLine.TheVariants as lines
use Rattle.proof_tree.specs.Grammar.{value}
use Rattle.proof_tree.specs.Items.{Item, Head, ModeNamed, Refute, Branch, Short, Full, Cycle, ScheduleOf, Start, TaskAt, MessageAt, TableOf, Absent, End}

-- its meaning, where the parts of a line are numbers by their values
abbrev pub meaning : PlanLine → Item
meaning lines.Head = Head
meaning (lines.Mode name) = ModeNamed name.now
meaning (lines.Refute rounds) = Refute rounds
meaning lines.Branch = Branch
meaning lines.Short = Short
meaning (lines.Full round) = Full round
meaning (lines.Cycle refs) = Cycle (map value refs)
meaning (lines.Schedule rounds) = ScheduleOf rounds
meaning (lines.Start times) = Start (map value times)
meaning (lines.Task name offset) = TaskAt name.now offset
meaning (lines.Message name opens closes) = MessageAt name.now opens closes
meaning (lines.Table round names) = TableOf round names
meaning lines.Absent = Absent
meaning lines.End = End
