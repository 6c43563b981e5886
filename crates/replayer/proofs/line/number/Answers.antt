use Rattle.std.proofs.Common.{sym, ◌∙◌, arith}
use Rattle.ttw_text.proofs.Spellings.{spelled-decimal}
use Rattle.replayer.proofs.line.number.Goals as goal

pub returns : goal.returns
returns c = c.as_bytes.ensures.value ∙ c.format.ensures.text ∙ sym (spelled-decimal c.args.n (omega arith))
