-- How a chart is drawn: rows of bars over the ticks of a hyperperiod, and sheets of charts
use Rattle.std.specs.Prelude.{ℕ, zero, suc, codes, ◌+◌, ◌-◌, ◌*◌, ◌/◌, ◌%◌, min, max, nat_le, List, [], ◌∷◌, ◌++◌, length, map, sum_by, Option, Some, None, if◌then◌else◌}
use Rattle.std.specs.List.{flat_map}
use Rattle.ttw_text.specs.Numbers.{spelled}
use Rattle.time_chart.specs.declared.canvas.Place.{Place}
use Rattle.time_chart.specs.declared.chart.Span.{Span}
use Rattle.time_chart.specs.declared.chart.Row.{Row}
use Rattle.time_chart.specs.declared.chart.Chart.{Chart}
use Rattle.time_chart.specs.declared.chart.Section.{Section}
use Rattle.time_chart.specs.declared.elements.Look.{Look}
use Rattle.time_chart.specs.declared.elements.Look.TheVariants.{Paper, Line, Grid, Round, Slot, Window, Sent, Run}
use Rattle.time_chart.specs.declared.elements.Lettering.TheVariants.{Heading, Lane, Name, Inside, Number}
use Rattle.time_chart.specs.Canvas.{across, rows_height}
use Rattle.time_chart.specs.Elements.{Element, shape, bar, words, inset, svg}

-- the numbers below n, ascending
unfoldable pub below : ℕ → List ℕ
below zero = []
below (suc n) = below n ++ n ∷ []

-- ---- bars

-- a bar of the row at y, from one tick to another: it has a width of two units at least
abbrev pub bar_place : ℕ → ℕ → Look → ℕ → ℕ → Place
bar_place hyper y look from until = record {
  x = across hyper from;
  y = y + inset look;
  width = max 2 (across hyper until - across hyper from);
  height = 24 - (inset look + inset look);
}

-- a name in the middle of a bar, where it has room
abbrev pub inside : ℕ → Place → List ℕ → List Element
inside y p name =
    if nat_le (length name) (p.width / 7) then words Inside (record { x = p.x; y = y; width = p.width; height = 24 }) name ∷ [] else []

-- only the bars of slots have names in them
abbrev pub inside_of : Look → ℕ → Place → List ℕ → List Element
inside_of Slot y p name = inside y p name
inside_of Paper y p name = []
inside_of Line y p name = []
inside_of Grid y p name = []
inside_of Round y p name = []
inside_of Window y p name = []
inside_of Sent y p name = []
inside_of Run y p name = []

-- the part between two ticks of what lasts from a moment on
abbrev pub part : ℕ → ℕ → Span → ℕ → ℕ → ℕ → List Element
part hyper y s moment from until =
    let p = bar_place hyper y s.look from until in
    bar s.look p s.name moment (moment + min s.length hyper) ∷ inside_of s.look y p s.name

-- what lasts from a moment of the hyperperiod on: past its end it goes on at its beginning
abbrev pub lasting : ℕ → ℕ → Span → ℕ → List Element
lasting hyper y s moment =
    let end = moment + min s.length hyper in
    if nat_le end hyper then part hyper y s moment moment end
    else part hyper y s moment moment hyper ++ part hyper y s moment 0 (end - hyper)

-- when it begins for the k-th time, from 0, in ticks of the hyperperiod
abbrev pub moment : ℕ → Span → ℕ → ℕ
moment hyper s k = (s.start % hyper + k * max 1 s.period) % hyper

-- how often it begins in a hyperperiod
abbrev pub repeats : ℕ → Span → ℕ
repeats hyper s = hyper / max 1 s.period

-- all that recurs of it in a hyperperiod
abbrev pub recurring : ℕ → ℕ → Span → List Element
recurring hyper y s = flat_map (λ k. lasting hyper y s (moment hyper s k)) (below (repeats hyper s))

-- ---- rows

-- a lane begins: a line, and its name
abbrev pub lane_elements : ℕ → List ℕ → List Element
lane_elements y [] = []
lane_elements y (c ∷ name) =
    shape Line (record { x = 8; y = y; width = 1224; height = 1 })
    ∷ words Lane (record { x = 8; y = y; width = 96; height = 24 }) (c ∷ name) ∷ []

-- the name of a row
abbrev pub name_elements : ℕ → List ℕ → List Element
name_elements y [] = []
name_elements y (c ∷ name) = words Name (record { x = 108; y = y; width = 104; height = 24 }) (c ∷ name) ∷ []

-- a row at y
abbrev pub row_elements : ℕ → ℕ → Row → List Element
row_elements hyper y row = lane_elements y row.lane ++ (name_elements y row.name ++ flat_map (recurring hyper y) row.spans)

-- rows from y down
abbrev pub rows_from : ℕ → ℕ → List Row → List Element
rows_from hyper y [] = []
rows_from hyper y (row ∷ rows) = row_elements hyper y row ++ rows_from hyper (y + 24) rows

-- ---- the axis

-- the tick at i tenths of the hyperperiod
abbrev pub tenth : ℕ → ℕ → ℕ
tenth hyper i = i * hyper / 10

abbrev pub grid_line : ℕ → ℕ → ℕ → ℕ → Element
grid_line hyper y height i = shape Grid (record { x = across hyper (tenth hyper i); y = y; width = 1; height = height })

-- a line at each tenth
abbrev pub grid : ℕ → ℕ → ℕ → List Element
grid hyper y height = map (grid_line hyper y height) (below 11)

abbrev pub tick_number : ℕ → ℕ → ℕ → Element
tick_number hyper y i = words Number (record { x = across hyper (tenth hyper i) - 42; y = y; width = 84; height = 24 }) (spelled (tenth hyper i))

-- the number of the tick below each of them
abbrev pub axis : ℕ → ℕ → List Element
axis hyper y = words Name (record { x = 108; y = y; width = 64; height = 24 }) (codes "tick") ∷ map (tick_number hyper y) (below 11)

-- ---- charts and sheets

-- the hyperperiod, within its limits
abbrev pub hyper_of : Chart → ℕ
hyper_of chart = min (max 1 chart.hyper) 1000000000000

-- a chart from y down
abbrev pub chart_elements : ℕ → Chart → List Element
chart_elements y chart =
    let height = rows_height (length chart.rows) in
    grid (hyper_of chart) y height ++ (rows_from (hyper_of chart) y chart.rows ++ axis (hyper_of chart) (y + height))

abbrev pub part_elements : ℕ → Option Chart → List Element
part_elements y None = []
part_elements y (Some chart) = chart_elements y chart

abbrev pub section_elements : ℕ → Section → List Element
section_elements y s =
    words Heading (record { x = 8; y = y; width = 1224; height = 24 }) s.heading ∷ part_elements (y + 32) s.chart

abbrev pub chart_height : Option Chart → ℕ
chart_height None = 48
chart_height (Some chart) = 80 + rows_height (length chart.rows)

abbrev pub sections_from : ℕ → List Section → List Element
sections_from y [] = []
sections_from y (s ∷ sections) = section_elements y s ++ sections_from (y + chart_height s.chart) sections

-- what a colour stands for
abbrev pub key : ℕ → Look → List ℕ → List Element
key x look name =
    shape look (record { x = x; y = 8 + inset look; width = 24; height = 24 - (inset look + inset look) })
    ∷ words Name (record { x = x + 32; y = 8; width = 112; height = 24 }) name ∷ []

abbrev pub keys : List Element
keys = key 220 Round (codes "round") ++ (key 370 Slot (codes "slot in use") ++ (key 520 Window (codes "message window") ++ key 670 Run (codes "task runs")))

-- how high a sheet is
abbrev pub sheet_height : List Section → ℕ
sheet_height sections = 48 + sum_by (λ s. chart_height s.chart) sections

abbrev pub sheet_elements : List Section → List Element
sheet_elements sections =
    shape Paper (record { x = 0; y = 0; width = 1240; height = sheet_height sections }) ∷ (keys ++ sections_from 48 sections)

-- ---- the text

-- the colours, by day and by night
unfoldable pub style : List ℕ
style = codes "<style>text{fill:#1f2328}.heading{font-size:14px;font-weight:bold}.lane{font-weight:bold}.inside{fill:#ffffff;text-anchor:middle}.number{fill:#57606a;text-anchor:middle}.paper{fill:#ffffff}.line{fill:#8c959f}.grid{fill:#e4e8ec}.round{fill:#b6d4f5}.slot{fill:#1f5fa8}.window{fill:#f3c97b}.sent{fill:#1f5fa8}.run{fill:#2c7a4b}@media (prefers-color-scheme:dark){text{fill:#e6edf3}.inside{fill:#ffffff}.number{fill:#9198a1}.paper{fill:#0d1117}.line{fill:#656c76}.grid{fill:#262c36}.round{fill:#23436b}.slot{fill:#3d7fd0}.window{fill:#7a5a1c}.sent{fill:#3d7fd0}.run{fill:#3fa869}}</style>\n"

unfoldable pub head : ℕ → List ℕ
head height = (codes "<svg xmlns=\"http://www.w3.org/2000/svg\" viewBox=\"0 0 1240 " ++ spelled height) ++ ((codes "\" width=\"1240\" height=\"" ++ spelled height) ++ (codes "\" font-family=\"monospace\" font-size=\"11\">\n" ++ style))

-- the text of a sheet
abbrev pub sheet_text : List Section → List ℕ
sheet_text sections = head (sheet_height sections) ++ svg (sheet_elements sections) ++ codes "</svg>\n"
