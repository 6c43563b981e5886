-- The elements of a drawing, and their text
use Rattle.std.specs.Prelude.{ℕ, codes, ◌+◌, ◌/◌, nat_le, List, ◌++◌, length, if◌then◌else◌}
use Rattle.std.specs.List.{flat_map}
use Rattle.ttw_text.specs.Numbers.{spelled}
use Rattle.time_chart.specs.declared.canvas.Place.{Place}
use Rattle.time_chart.specs.declared.elements.Look.{Look}
use Rattle.time_chart.specs.declared.elements.Look.TheVariants.{Paper, Line, Grid, Round, Slot, Window, Sent, Run}
use Rattle.time_chart.specs.declared.elements.Lettering.{Lettering}
use Rattle.time_chart.specs.declared.elements.Lettering.TheVariants.{Heading, Lane, Name, Inside, Number}

-- an element in its place: a rectangle, one that tells a name and from which tick until which it lasts, or a text
pub data Element : Type 0 where
  shape : Look → Place → Element
  bar : Look → Place → List ℕ → ℕ → ℕ → Element
  words : Lettering → Place → List ℕ → Element

-- where it stands
abbrev pub place_of : Element → Place
place_of (shape look place) = place
place_of (bar look place name from until) = place
place_of (words lettering place text) = place

-- ---- how they look

abbrev pub look_class : Look → List ℕ
look_class Paper = codes "paper"
look_class Line = codes "line"
look_class Grid = codes "grid"
look_class Round = codes "round"
look_class Slot = codes "slot"
look_class Window = codes "window"
look_class Sent = codes "sent"
look_class Run = codes "run"

-- how far it stays away from the upper and the lower side of its row
abbrev pub inset : Look → ℕ
inset Paper = 0
inset Line = 0
inset Grid = 0
inset Round = 2
inset Slot = 4
inset Window = 8
inset Sent = 4
inset Run = 4

abbrev pub lettering_class : Lettering → List ℕ
lettering_class Heading = codes "heading"
lettering_class Lane = codes "lane"
lettering_class Name = codes "name"
lettering_class Inside = codes "inside"
lettering_class Number = codes "number"

-- how many units a letter takes
abbrev pub letter : Lettering → ℕ
letter Heading = 9
letter Lane = 7
letter Name = 7
letter Inside = 7
letter Number = 7

-- how far right of its place's left side a text is fixed: in the middle, or there
abbrev pub anchor : Lettering → ℕ → ℕ
anchor Heading width = 0
anchor Lane width = 0
anchor Name width = 0
anchor Inside width = width / 2
anchor Number width = width / 2

-- ---- their text

unfoldable pub place_text : Place → List ℕ
place_text p = codes " x=\"" ++ spelled p.x ++ codes "\" y=\"" ++ spelled p.y ++ codes "\" width=\"" ++ spelled p.width ++ codes "\" height=\"" ++ spelled p.height ++ codes "\""

unfoldable pub rectangle_text : Look → Place → List ℕ
rectangle_text look place = codes "<rect class=\"" ++ look_class look ++ codes "\"" ++ place_text place

unfoldable pub shape_text : Look → Place → List ℕ
shape_text look place = rectangle_text look place ++ codes "/>\n"

-- a name, and from which tick until which it lasts
unfoldable pub told : List ℕ → ℕ → ℕ → List ℕ
told name from until = name ++ codes " " ++ spelled from ++ codes " to " ++ spelled until

unfoldable pub bar_text : Look → Place → List ℕ → ℕ → ℕ → List ℕ
bar_text look place name from until = rectangle_text look place ++ (codes "><title>" ++ (told name from until ++ codes "</title></rect>\n"))

-- a text is squeezed into this width
unfoldable pub squeeze : ℕ → List ℕ
squeeze width = codes "\" textLength=\"" ++ spelled width ++ codes "\" lengthAdjust=\"spacingAndGlyphs\">"

-- a text that is longer than its place is squeezed into it
unfoldable pub squeezed : Lettering → ℕ → List ℕ → List ℕ
squeezed lettering width text =
    if nat_le (length text) (width / letter lettering) then codes "\">"
    else squeeze width

-- where a text is fixed
unfoldable pub fixed : Lettering → Place → List ℕ
fixed lettering p = codes "<text class=\"" ++ lettering_class lettering ++ codes "\" x=\"" ++ spelled (p.x + anchor lettering p.width) ++ codes "\" y=\"" ++ spelled (p.y + 16)

unfoldable pub words_text : Lettering → Place → List ℕ → List ℕ
words_text lettering p text = fixed lettering p ++ squeezed lettering p.width text ++ text ++ codes "</text>\n"

abbrev pub element_text : Element → List ℕ
element_text (shape look place) = shape_text look place
element_text (bar look place name from until) = bar_text look place name from until
element_text (words lettering place text) = words_text lettering place text

-- the text of elements
abbrev pub svg : List Element → List ℕ
svg elements = flat_map element_text elements
