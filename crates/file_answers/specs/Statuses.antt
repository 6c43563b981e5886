-- The exit status of each ending
use Rattle.std.specs.Prelude.{ℕ}
use Rattle.file_answers.specs.declared.status.Status.{Status}
use Rattle.file_answers.specs.declared.status.Status.TheVariants.{Done, NoSchedule, Usage, ModeFile, Plan, Script, Budget, ReadFault, WriteFault, Memory}

abbrev pub code_of : Status → ℕ
code_of Done = 0
code_of NoSchedule = 1
code_of Usage = 2
code_of ModeFile = 3
code_of Plan = 4
code_of Script = 5
code_of Budget = 6
code_of ReadFault = 7
code_of WriteFault = 8
code_of Memory = 9
