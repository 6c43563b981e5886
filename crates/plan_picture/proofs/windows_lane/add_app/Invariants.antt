use Rattle.std.proofs.Common.{◌≡◌, ◌++◌, length, take, map}
use Rattle.std.specs.List.{zip}
use Rattle.plan_picture.specs.Picture.{window_row}
use Rattle.plan_picture.proofs.windows_lane.add_app.Given as goal

abbrev pub invariant-loop-message : goal.invariant-loop-message
invariant-loop-message l = l.rows.items ≡ l.initial.rows.items ++ map (window_row l.period) (take (length l.yielded) (zip l.messages l.windows))
