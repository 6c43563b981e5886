use Rattle.std.proofs.Common.{◌≡◌, ◌++◌, drop}
use Rattle.plan_picture.specs.Picture.{window_rows}
use Rattle.plan_picture.proofs.windows_lane.add_windows.Given as goal

abbrev pub invariant-loop-app : goal.invariant-loop-app
invariant-loop-app l = l.rows.items ++ window_rows (drop l.app-index l.apps) l.left ≡ l.initial.rows.items ++ window_rows l.apps l.windows
