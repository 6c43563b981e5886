use Rattle.std.specs.Prelude.{codes}
use Rattle.time_chart.specs.Elements.{bar_text, rectangle_text, told}
use Rattle.time_chart.proofs.Joined.{four_texts}
use Rattle.time_chart.proofs.elements.write_bar.Goals as goal

pub returns : goal.returns
unfolding bar_text
returns c =
    four_texts c.args.out.now (rectangle_text c.args.look c.args.place) (codes "><title>") (told c.args.name.now c.args.from c.args.until) (codes "</title></rect>\n")
    c.write_rectangle.new.out c.put.new.self c.write_told.new.out c.put-2.new.self c.put-2.result c.in_ok-write_rectangle.ensures c.in_ok-put.ensures.ok c.in_ok-write_told.ensures c.put-2.ensures.ok
