use Rattle.std.proofs.Common.{◌∙◌, ap, arith, length, length-drop, length-take, ◌-◌, drop}
use Rattle.ttw_io.specs.LineReading.{ReadLines, handed_out}
use Rattle.ttw_io.proofs.LineReaderLemmas.{handed_view}
use Rattle.ttw_io.proofs.line_reader.LineReader.hand_out.Goals as goal

pub returns : goal.returns
returns c =
    let i = c.self.inside in
    let ahead = ap (λ (r : ReadLines). length r.ahead) c.self.view_is in
    handed_view i.most i.next i.end c.args.len i.handed i.buffer.items i.ended i.refusal
    (omega (arith, length-take (i.end - i.next) (drop i.next i.buffer.items), length-drop i.next i.buffer.items))
    ∙ ap (λ (r : ReadLines). handed_out r c.args.len) c.self.view_is
