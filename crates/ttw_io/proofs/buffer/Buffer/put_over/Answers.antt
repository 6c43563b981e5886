use Rattle.std.proofs.Common.{◌∙◌, ◌<◌, ap, arith, length, subst, sym, List, ℕ, Option}
use Rattle.std.proofs.lemmas.Result.{on_ok_weaker, on_err_weaker}
use Rattle.std.specs.Io.KnownBytes.{append_known}
use Rattle.ttw_io.specs.Buffering.{HeldBack}
use Rattle.ttw_io.specs.Outside.{AddsFront}
use Rattle.ttw_io.proofs.WritingLemmas.{append_known-append_known}
use Rattle.ttw_io.proofs.BufferLemmas.{front_through, left_through, puts_through, written_through}
use Rattle.ttw_io.proofs.buffer.Buffer.put_over.Goals as goal

pub returns-clause-put : goal.returns-clause-put
returns-clause-put g c =
    let long : c.args.self.now.room < length c.args.text.now = omega (arith, c.if-text-self.false, ap (λ (b : HeldBack). b.room) c.self.view_is, c.in_ok-empty.ensures.room) in
    record {
      ok = on_ok_weaker c.write_all.result (λ added. puts_through _ _ _ c.args.self.now _ c.args.text.now long c.in_ok-empty.ensures.ok added c.in_ok-empty.ensures.none_left) c.write_all.ensures.ok;
      err = on_err_weaker c.write_all.result (λ front. front_through _ _ _ c.args.self.now.bytes c.args.text.now c.in_ok-empty.ensures.ok front) c.write_all.ensures.err;
      room = c.in_ok-empty.ensures.room;
    }

pub returns-clause-at_need : goal.returns-clause-at_need
returns-clause-at_need g c =
    let long : c.args.self.now.room < length c.args.text.now = omega (arith, c.if-text-self.false, ap (λ (b : HeldBack). b.room) c.self.view_is, c.in_ok-empty.ensures.room) in
    let whole = written_through c.args.self.now c.args.text.now long in
    let both = append_known-append_known _ c.args.self.now.bytes c.args.text.now in
    record {
      added = on_ok_weaker c.write_all.result
          (λ added. added ∙ ap (λ (known : Option (List ℕ)). append_known known c.args.text.now) c.in_ok-empty.ensures.ok ∙ both ∙ ap (append_known _) whole)
          c.write_all.ensures.ok;
      kept = on_ok_weaker c.write_all.result (λ added. c.in_ok-empty.ensures.none_left ∙ sym (left_through c.args.self.now c.args.text.now long)) c.write_all.ensures.ok;
      front = on_err_weaker c.write_all.result (λ front. subst (AddsFront _ _) whole (front_through _ _ _ c.args.self.now.bytes c.args.text.now c.in_ok-empty.ensures.ok front)) c.write_all.ensures.err;
    }
