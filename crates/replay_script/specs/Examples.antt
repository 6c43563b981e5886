-- What the definitions say of small scripts
use Rattle.std.specs.Prelude.{◌≡◌, [], ◌∷◌, Some, None, codes, pos}
use Rattle.app_graph.specs.declared.mode_set.ModeSet.{ModeSet}
use Rattle.ttw_text.specs.Lines.{lines}
use Rattle.replay_script.specs.declared.line.Line.TheVariants.{Go, UntilBeacon, Lose, Request, Restart}
use Rattle.replay_script.specs.declared.fault.ScriptFault.TheVariants.{BadLine, Unknown, HostNamed, TooMany}
use Rattle.replay_script.specs.Script.{first_fault, given_by}

-- the nodes `h`, which is the host, and `n1`, and the modes `m0` and `m1`
abbrev pub small : ModeSet
small = record {
  slots = 1;
  round = pos 1;
  gap = pos 1;
  host = 0;
  nodes = codes "h" ∷ codes "n1" ∷ [];
  modes = record { name = codes "m0"; apps = [] } ∷ record { name = codes "m1"; apps = [] } ∷ [];
}

-- a script with a line of each form, and a first faulty line of each kind
pub record ScriptRows : Type 0 where
  pub all : first_fault small (codes "# x\ngo 5\n\nuntil beacon\nlose n1\nlose n1 h n1\nrequest m1\nrestart n1") ≡ None
  pub gives : given_by small (lines (codes "# x\ngo 5\n\nuntil beacon\nlose n1\nlose n1 h n1\nrequest m1\nrestart n1")) ≡ Go 5 ∷ UntilBeacon ∷ Lose 2 ∷ Lose 3 ∷ Request 1 ∷ Restart 1 ∷ []
  pub empty : first_fault small [] ≡ None
  pub zeros : first_fault small (codes "go 05\n") ≡ Some (BadLine 1)
  pub spaces : first_fault small (codes "go  5\n") ≡ Some (BadLine 1)
  pub range : first_fault small (codes "go 1000001\n") ≡ Some (BadLine 1)
  pub unknown : first_fault small (codes "lose n2\n") ≡ Some (Unknown 1)
  pub host : first_fault small (codes "go 0\nrestart h\n") ≡ Some (HostNamed 2)
  pub sum : first_fault small (codes "go 1000000\n#\ngo 1\nxx\n") ≡ Some (TooMany 3)
