use Rattle.std.proofs.Common.{subst, ap, List, ℕ, map, Err}
use Rattle.ttw_io.specs.Outside.{Rose}
use Rattle.file_answers.specs.declared.status.Status.TheVariants.{ReadFault}
use Rattle.file_answers.specs.Endings.{Counts, Finishes}
use Rattle.file_answers.proofs.EndingLemmas.{ends_answer, ends_read}
use Rattle.plan_picture.specs.Due.{Due}
use Rattle.plan_picture.proofs.DrawingLemmas.{due_answered}
use Rattle.plan_picture.proofs.drawing.draw.Goals as goal

pub returns-in-Ok-clause-end : goal.returns-in-Ok-clause-end
returns-in-Ok-clause-end g c =
    let words : List (List ℕ) = map (λ w. w.now) c.args.words.now in
    let told = g.F.Files.contents c.args.files.now in
    let old = g.S.Sink.held c.args.out.now in
    let new = g.S.Sink.held c.finish.new.out in
    let counts : Counts = record { reads_before = g.F.Files.faults c.args.files.now; reads_now = g.F.Files.faults c.draw_words.new.files; sink = record { faults_before = g.S.Sink.faults c.args.out.now; faults_now = g.S.Sink.faults c.finish.new.out; flushes_before = g.S.Sink.flushes c.args.out.now; flushes_now = g.S.Sink.flushes c.finish.new.out; unflushed = g.S.Sink.unflushed c.finish.new.out } } in
    let answer = c.in-Ok.answer in
    let f = subst (λ (text : List ℕ). Finishes answer.status text counts.sink old new c.finish.result) c.bytes.ensures c.finish.ensures.end in
    ends_answer (Due words told) counts old new answer.status c.finish.result answer.text
    (due_answered words told answer.status answer.text c.in-Ok.ensures.due) c.in-Ok.ensures.due f

pub returns-in-Err-Read-clause-end : goal.returns-in-Err-Read-clause-end
returns-in-Err-Read-clause-end g c =
    let words : List (List ℕ) = map (λ w. w.now) c.args.words.now in
    let told = g.F.Files.contents c.args.files.now in
    let old = g.S.Sink.held c.args.out.now in
    let new = g.S.Sink.held c.finish-in-Err-Read.new.out in
    let counts : Counts = record { reads_before = g.F.Files.faults c.args.files.now; reads_now = g.F.Files.faults c.draw_words.new.files; sink = record { faults_before = g.S.Sink.faults c.args.out.now; faults_now = g.S.Sink.faults c.finish-in-Err-Read.new.out; flushes_before = g.S.Sink.flushes c.args.out.now; flushes_now = g.S.Sink.flushes c.finish-in-Err-Read.new.out; unflushed = g.S.Sink.unflushed c.finish-in-Err-Read.new.out } } in
    let rose : Rose counts.reads_before counts.reads_now = c.in-Err-Read.ensures.read (ap (λ e. Err e) c.in-Err-Read.field-0-is) in
    let f = subst (λ (text : List ℕ). Finishes ReadFault text counts.sink old new c.finish-in-Err-Read.result) c.as_bytes.ensures.value c.finish-in-Err-Read.ensures.end in
    ends_read (Due words told) counts old new c.finish-in-Err-Read.result rose f
