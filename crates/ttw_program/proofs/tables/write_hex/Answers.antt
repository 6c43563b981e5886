use Rattle.std.proofs.Common.{◌∙◌, ◌++◌, List, ℕ, ap, arith}
use Rattle.std.specs.declared.slice.Chunks.{Chunks}
use Rattle.ttw_program.specs.Tables.{hex_text}
use Rattle.ttw_program.proofs.TableAnswers.{hex_more, hex_end}
use Rattle.ttw_program.proofs.tables.write_hex.Goals as goal

pub loop-line-init : goal.loop-line-init
loop-line-init c =
    let same = c.into_iter-line-iterator.ensures.into_iter_gives in (
      ap (λ (it : Chunks ℕ). c.args.out.now ++ hex_text it.rest.now) same ∙ ap (λ (bytes : List ℕ). c.args.out.now ++ hex_text bytes) c.chunks-line-items.ensures.rest,
      ap (λ (it : Chunks ℕ). it.size) same ∙ c.chunks-line-items.ensures.size,
    )

pub loop-line-preserved : goal.loop-line-preserved
loop-line-preserved c =
    let steps = c.in-Some.ensures.steps in (
      hex_more c.loop-line.out c.write_hex_line.new.out c.in-Some.line.now c.next.new.self.rest.now c.loop-line.line-iterator.rest.now _ c.in_ok-write_hex_line.ensures steps.1.0
          (omega (arith, steps.1.1, c.loop-line.invariant.1)) steps.1.2 c.loop-line.invariant.0,
      steps.0 ∙ c.loop-line.invariant.1,
    )

pub returns : goal.returns
returns c = hex_end c.loop-line.out c.loop-line.line-iterator.rest.now _ c.in-None.ensures.steps.1.0 c.loop-line.invariant.0
