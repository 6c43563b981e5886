-- Every element lies within the canvas
use Rattle.std.proofs.Common.{◌≤◌, ◌+◌, ◌*◌, ◌-◌, ◌/◌, ℕ, List, [], ◌∷◌, ◌++◌, length, map, arith}
use Rattle.std.specs.Prelude.{Bool, true, false, min, max, nat_le, sum_by, Option, Some, None, if◌then◌else◌}
use Rattle.std.specs.List.{AllByRecursion, flat_map}
use Rattle.std.proofs.lemmas.List.Elements.{All-from_recursion}
use Rattle.std.proofs.lemmas.List.Sums.{sum_by-cons}
use Rattle.std.proofs.lemmas.Grind.{common_steps}
use Rattle.time_chart.specs.declared.canvas.Place.{Place}
use Rattle.time_chart.specs.declared.chart.Span.{Span}
use Rattle.time_chart.specs.declared.chart.Row.{Row}
use Rattle.time_chart.specs.declared.chart.Chart.{Chart}
use Rattle.time_chart.specs.declared.chart.Section.{Section}
use Rattle.time_chart.specs.declared.elements.Look.{Look}
use Rattle.time_chart.specs.declared.elements.Look.TheVariants.{Paper, Line, Grid, Round, Slot, Window, Sent, Run}
use Rattle.time_chart.specs.declared.elements.Lettering.TheVariants.{Inside}
use Rattle.time_chart.specs.Canvas.{IsWithin, across, rows_height}
use Rattle.time_chart.specs.Elements.{Element, words, place_of, inset}
use Rattle.time_chart.specs.Drawing.{below, bar_place, inside, inside_of, part, lasting, moment, repeats, recurring, lane_elements, name_elements, row_elements, rows_from, grid, grid_line, tick_number, axis, hyper_of, chart_elements, part_elements, section_elements, chart_height, sections_from, keys, sheet_elements, sheet_height}
use Rattle.time_chart.specs.Within.{ElementsAreWithin}

-- an element within a canvas that is so high
abbrev Fits : ℕ → Element → Type 0
Fits h e = IsWithin h (place_of e)

abbrev AllFit : ℕ → List Element → Type 0
AllFit h es = AllByRecursion (Fits h) es

-- ---- lists

joined : {X : Type 0} (P : X → Type 0) (xs ys : List X) → AllByRecursion P xs → AllByRecursion P ys → AllByRecursion P (xs ++ ys)
joined P [] ys a b = b
joined P (x ∷ xs) ys a b = (a.0, joined P xs ys a.1 b)

each : {X : Type 0} (h : ℕ) (f : X → List Element) → ((x : X) → AllFit h (f x)) → (xs : List X) → AllFit h (flat_map f xs)
each h f k [] = tt
each h f k (x ∷ xs) = joined (Fits h) (f x) (flat_map f xs) (k x) (each h f k xs)

mapped : (h : ℕ) (f : ℕ → Element) → ((n : ℕ) → Fits h (f n)) → (ns : List ℕ) → AllFit h (map f ns)
mapped h f k [] = tt
mapped h f k (n ∷ ns) = (k n, mapped h f k ns)

-- ---- ticks

scaled : (t h : ℕ) → t ≤ h → t * 960 / h ≤ 960
scaled t h l = grind (arith, common_steps)

across_most : (h t : ℕ) → across h t ≤ 1180
unfolding across
across_most h t = let k = scaled (min t h) h (omega arith) in omega arith

-- ---- bars

inset_most : (look : Look) → inset look ≤ 8
inset_most Paper = omega arith
inset_most Line = omega arith
inset_most Grid = omega arith
inset_most Round = omega arith
inset_most Slot = omega arith
inset_most Window = omega arith
inset_most Sent = omega arith
inset_most Run = omega arith

bar_right : (x u : ℕ) → x ≤ 1180 → u ≤ 1180 → x + max 2 (u - x) ≤ 1240
bar_right x u a b = omega arith

bar_down : (y i h : ℕ) → i ≤ 8 → y + 24 ≤ h → (y + i) + (24 - (i + i)) ≤ h
bar_down y i h a b = omega arith

bar_within : (h hyper y from until : ℕ) (look : Look) → y + 24 ≤ h → IsWithin h (bar_place hyper y look from until)
bar_within h hyper y from until look l = record {
  across = bar_right (across hyper from) (across hyper until) (across_most hyper from) (across_most hyper until);
  down = bar_down y (inset look) h (inset_most look) l;
}

inside_within : (h y : ℕ) (p : Place) (name : List ℕ) → y + 24 ≤ h → IsWithin h p → AllFit h (inside y p name)
inside_within h y p name l w = by_test (nat_le (length name) (p.width / 7))
  where
    by_test : (b : Bool) → AllFit h (if b then words Inside (record { x = p.x; y = y; width = p.width; height = 24 }) name ∷ [] else [])
    by_test true = (record { across = w.across; down = l }, tt)
    by_test false = tt

inside_of_within : (look : Look) (h y : ℕ) (p : Place) (name : List ℕ) → y + 24 ≤ h → IsWithin h p → AllFit h (inside_of look y p name)
inside_of_within Slot h y p name l w = inside_within h y p name l w
inside_of_within Paper h y p name l w = tt
inside_of_within Line h y p name l w = tt
inside_of_within Grid h y p name l w = tt
inside_of_within Round h y p name l w = tt
inside_of_within Window h y p name l w = tt
inside_of_within Sent h y p name l w = tt
inside_of_within Run h y p name l w = tt

part_within : (h hyper y : ℕ) (s : Span) (m from until : ℕ) → y + 24 ≤ h → AllFit h (part hyper y s m from until)
part_within h hyper y s m from until l =
    let w = bar_within h hyper y from until s.look l in
    (w, inside_of_within s.look h y (bar_place hyper y s.look from until) s.name l w)

lasting_within : (h hyper y : ℕ) (s : Span) (m : ℕ) → y + 24 ≤ h → AllFit h (lasting hyper y s m)
lasting_within h hyper y s m l = by_test (nat_le (m + min s.length hyper) hyper)
  where
    by_test : (b : Bool) → AllFit h (if b then part hyper y s m m (m + min s.length hyper) else part hyper y s m m hyper ++ part hyper y s m 0 ((m + min s.length hyper) - hyper))
    by_test true = part_within h hyper y s m m (m + min s.length hyper) l
    by_test false = joined (Fits h) (part hyper y s m m hyper) (part hyper y s m 0 ((m + min s.length hyper) - hyper)) (part_within h hyper y s m m hyper l) (part_within h hyper y s m 0 ((m + min s.length hyper) - hyper) l)

recurring_within : (h hyper y : ℕ) → y + 24 ≤ h → (s : Span) → AllFit h (recurring hyper y s)
recurring_within h hyper y l s = each h (λ k. lasting hyper y s (moment hyper s k)) (λ k. lasting_within h hyper y s (moment hyper s k) l) (below (repeats hyper s))

-- ---- rows

lane_within : (h y : ℕ) (name : List ℕ) → y + 24 ≤ h → AllFit h (lane_elements y name)
lane_within h y [] l = tt
lane_within h y (c ∷ name) l = (record { across = omega arith; down = omega arith }, (record { across = omega arith; down = l }, tt))

name_within : (h y : ℕ) (name : List ℕ) → y + 24 ≤ h → AllFit h (name_elements y name)
name_within h y [] l = tt
name_within h y (c ∷ name) l = (record { across = omega arith; down = l }, tt)

row_within : (h hyper y : ℕ) (row : Row) → y + 24 ≤ h → AllFit h (row_elements hyper y row)
row_within h hyper y row l =
    joined (Fits h) (lane_elements y row.lane) (name_elements y row.name ++ flat_map (recurring hyper y) row.spans) (lane_within h y row.lane l)
    (joined (Fits h) (name_elements y row.name) (flat_map (recurring hyper y) row.spans) (name_within h y row.name l)
    (each h (recurring hyper y) (recurring_within h hyper y l) row.spans))

rows_within : (h hyper y : ℕ) (rows : List Row) → y + length rows * 24 ≤ h → AllFit h (rows_from hyper y rows)
rows_within h hyper y [] l = tt
rows_within h hyper y (row ∷ rows) l =
    joined (Fits h) (row_elements hyper y row) (rows_from hyper (y + 24) rows) (row_within h hyper y row (omega (arith, l))) (rows_within h hyper (y + 24) rows (omega (arith, l)))

-- ---- the axis

grid_within : (h hyper y height : ℕ) → y + height ≤ h → (i : ℕ) → Fits h (grid_line hyper y height i)
grid_within h hyper y height l i = let a = across_most hyper (i * hyper / 10) in record { across = omega (arith, a); down = l }

tick_within : (h hyper y : ℕ) → y + 24 ≤ h → (i : ℕ) → Fits h (tick_number hyper y i)
tick_within h hyper y l i = let a = across_most hyper (i * hyper / 10) in record { across = omega (arith, a); down = l }

axis_within : (h hyper y : ℕ) → y + 24 ≤ h → AllFit h (axis hyper y)
axis_within h hyper y l = (record { across = omega arith; down = l }, mapped h (tick_number hyper y) (tick_within h hyper y l) (below 11))

-- ---- charts and sheets

chart_within : (h y : ℕ) (chart : Chart) → (y + length chart.rows * 24) + 24 ≤ h → AllFit h (chart_elements y chart)
chart_within h y chart l =
    let height = rows_height (length chart.rows) in
    let hyper = hyper_of chart in
    let l' : y + length chart.rows * 24 ≤ h = omega (arith, l) in
    joined (Fits h) (grid hyper y height) (rows_from hyper y chart.rows ++ axis hyper (y + height)) (mapped h (grid_line hyper y height) (grid_within h hyper y height l') (below 11))
    (joined (Fits h) (rows_from hyper y chart.rows) (axis hyper (y + height)) (rows_within h hyper y chart.rows l') (axis_within h hyper (y + height) l))

part_of_within : (h y : ℕ) (chart : Option Chart) → y + chart_height chart ≤ h → AllFit h (part_elements (y + 32) chart)
part_of_within h y None l = tt
part_of_within h y (Some chart) l = chart_within h (y + 32) chart (omega (arith, l))

heading_fits : (h y : ℕ) (chart : Option Chart) → y + chart_height chart ≤ h → y + 24 ≤ h
heading_fits h y None l = omega (arith, l)
heading_fits h y (Some chart) l = omega (arith, l)

section_within : (h y : ℕ) (s : Section) → y + chart_height s.chart ≤ h → AllFit h (section_elements y s)
section_within h y s l = (record { across = omega arith; down = heading_fits h y s.chart l }, part_of_within h y s.chart l)

sections_within : (h y : ℕ) (ss : List Section) → y + sum_by (λ s. chart_height s.chart) ss ≤ h → AllFit h (sections_from y ss)
sections_within h y [] l = tt
sections_within h y (s ∷ ss) l =
    let split = sum_by-cons (λ (s : Section). chart_height s.chart) s ss in
    joined (Fits h) (section_elements y s) (sections_from (y + chart_height s.chart) ss) (section_within h y s (omega (arith, l, split)))
    (sections_within h (y + chart_height s.chart) ss (omega (arith, l, split)))

keys_within : (h : ℕ) → 48 ≤ h → AllFit h keys
keys_within h l =
    let fits : (x y w t : ℕ) → x + w ≤ 1240 → y + t ≤ 48 → IsWithin h (record { x = x; y = y; width = w; height = t })
    = λ x y w t a b. record { across = a; down = omega (arith, l, b) } in (
      fits 220 10 24 20 (omega arith) (omega arith),
      (
        fits 252 8 112 24 (omega arith) (omega arith),
        (
          fits 370 12 24 16 (omega arith) (omega arith),
          (
            fits 402 8 112 24 (omega arith) (omega arith),
            (
              fits 520 16 24 8 (omega arith) (omega arith),
              (
                fits 552 8 112 24 (omega arith) (omega arith),
                (fits 670 12 24 16 (omega arith) (omega arith), (fits 702 8 112 24 (omega arith) (omega arith), tt)),
              ),
            ),
          ),
        ),
      ),
    )

pub elements_within : ElementsAreWithin
elements_within sections =
    let h = sheet_height sections in
    All-from_recursion (λ element. IsWithin h (place_of element)) (sheet_elements sections) (
      record { across = omega arith; down = omega arith },
      joined (Fits h) keys (sections_from 48 sections) (keys_within h (omega arith)) (sections_within h 48 sections (omega arith)),
    )
