use Rattle.std.proofs.Common.{◌++◌}
use Rattle.std.specs.Prelude.{codes}
use Rattle.ttw_text.specs.Numbers.{spelled}
use Rattle.time_chart.specs.Drawing.{head, style}
use Rattle.time_chart.proofs.Joined.{four_texts}
use Rattle.time_chart.proofs.sheet.write_head.Goals as goal

pub returns : goal.returns
unfolding head
returns c =
    four_texts c.args.out.now (codes "<svg xmlns=\"http://www.w3.org/2000/svg\" viewBox=\"0 0 1240 " ++ spelled c.args.height) (codes "\" width=\"1240\" height=\"" ++ spelled c.args.height) (codes "\" font-family=\"monospace\" font-size=\"11\">\n") style
    c.write_numbered.new.out c.write_numbered-2.new.out c.put.new.self c.write_style.new.out c.write_style.result c.in_ok-write_numbered.ensures c.in_ok-write_numbered-2.ensures c.in_ok-put.ensures.ok c.write_style.ensures
