-- Where things stand on the canvas, in units
use Rattle.std.specs.Prelude.{ℕ, ◌+◌, ◌*◌, ◌/◌, ◌≤◌, min}
use Rattle.time_chart.specs.declared.canvas.Place.{Place}

-- how many units the canvas has across
abbrev pub width : ℕ
width = 1240

-- where a tick of the hyperperiod stands: its ticks share 960 units, from the 220th on
unfoldable pub across : ℕ → ℕ → ℕ
across hyper tick = 220 + min tick hyper * 960 / hyper

-- so many rows
abbrev pub rows_height : ℕ → ℕ
rows_height rows = rows * 24

-- a place lies within a canvas that is so high
pub record IsWithin (height : ℕ) (place : Place) : Type 0 where
  pub across : place.x + place.width ≤ width
  pub down : place.y + place.height ≤ height
