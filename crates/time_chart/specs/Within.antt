-- Every element of a sheet lies within its canvas
use Rattle.std.specs.Prelude.{List, All}
use Rattle.time_chart.specs.declared.chart.Section.{Section}
use Rattle.time_chart.specs.Canvas.{IsWithin}
use Rattle.time_chart.specs.Elements.{place_of}
use Rattle.time_chart.specs.Drawing.{sheet_elements, sheet_height}

abbrev pub ElementsAreWithin : Type 0
ElementsAreWithin = (sections : List Section) → All (λ element. IsWithin (sheet_height sections) (place_of element)) (sheet_elements sections)
