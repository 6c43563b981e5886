-- What a caller knows of each script that was read
use Rattle.std.specs.Prelude.{⊤, ◌≢◌, ℕ, ◌<◌, ◌≤◌, List, length, sum_by, All}
use Rattle.app_graph.specs.declared.mode_set.ModeSet.{ModeSet}
use Rattle.replay_script.specs.declared.line.Line.{Line}
use Rattle.replay_script.specs.declared.line.Line.TheVariants.{Go, UntilBeacon, Lose, Request, Restart}

-- the Advances of a line of `go`
abbrev pub advances : Line → ℕ
advances (Go n) = n
advances UntilBeacon = 0
advances (Lose nodes) = 0
advances (Request mode) = 0
advances (Restart node) = 0

-- its numbers are those of modes and nodes of the set, and no restart names the host
abbrev pub FitsLine : ModeSet → Line → Type 0
FitsLine set (Go n) = n ≤ 1000000
FitsLine set UntilBeacon = ⊤
FitsLine set (Lose nodes) = ⊤
FitsLine set (Request mode) = mode < length set.modes
FitsLine set (Restart node) = (node < length set.nodes) × (node ≢ set.host)

-- each line fits, and the script is within its limits
pub record FitsScript (set : ModeSet) (script : List Line) : Type 0 where
  pub lines : All (FitsLine set) script
  pub few : length script ≤ 10000
  pub advances_few : sum_by advances script ≤ 1000000
