use Rattle.std.proofs.Common.{subst, ap, List, ℕ, map, Err}
use Rattle.ttw_io.specs.Outside.{Rose}
use Rattle.file_answers.specs.declared.status.Status.TheVariants.{ReadFault}
use Rattle.ttw_program.specs.Commands.{command}
use Rattle.file_answers.specs.Endings.{Counts, Finishes}
use Rattle.ttw_program.specs.Due.{Due}
use Rattle.ttw_program.specs.Replays.{IsReply}
use Rattle.ttw_program.proofs.EndingLemmas.{due_answered, ends_trace}
use Rattle.file_answers.proofs.EndingLemmas.{ends_answer, ends_read}
use Rattle.ttw_program.proofs.program.run.Goals as goal

pub returns-in-Ok-Text-clause-end : goal.returns-in-Ok-Text-clause-end
returns-in-Ok-Text-clause-end g c =
    let words : List (List ℕ) = map (λ w. w.now) c.args.words.now in
    let told = g.F.Files.contents c.args.files.now in
    let made = map (λ b. (goal.TaskBody-dyn g (b.vtable, b.value)).seen b.value) c.args.bodies.items in
    let old = g.S.Sink.held c.args.out.now in
    let new = g.S.Sink.held c.finish.new.out in
    let counts : Counts = record { reads_before = g.F.Files.faults c.args.files.now; reads_now = g.F.Files.faults c.reply_words.new.files; sink = record { faults_before = g.S.Sink.faults c.args.out.now; faults_now = g.S.Sink.faults c.finish.new.out; flushes_before = g.S.Sink.flushes c.args.out.now; flushes_now = g.S.Sink.flushes c.finish.new.out; unflushed = g.S.Sink.unflushed c.finish.new.out } } in
    let now = map (λ b. (goal.TaskBody-dyn g (b.vtable, b.value)).seen b.value) c.reply_words.new.bodies.items in
    let d = subst (IsReply now (Due words told made)) c.in-Ok-Text.field-0-is c.in-Ok-Text.ensures.due in
    let f = subst (λ (text : List ℕ). Finishes c.in-Ok-Text.answer.status text counts.sink old new c.finish.result) c.bytes.ensures c.finish.ensures.end in
    ends_answer (Due words told made) counts old new c.in-Ok-Text.answer.status c.finish.result c.in-Ok-Text.answer.text
    (due_answered (command words) told made c.in-Ok-Text.answer.status c.in-Ok-Text.answer.text d) d f

pub returns-in-Ok-Trace-clause-end : goal.returns-in-Ok-Trace-clause-end
returns-in-Ok-Trace-clause-end g c =
    let words : List (List ℕ) = map (λ w. w.now) c.args.words.now in
    let told = g.F.Files.contents c.args.files.now in
    let made = map (λ b. (goal.TaskBody-dyn g (b.vtable, b.value)).seen b.value) c.args.bodies.items in
    let counts : Counts = record { reads_before = g.F.Files.faults c.args.files.now; reads_now = g.F.Files.faults c.reply_words.new.files; sink = record { faults_before = g.S.Sink.faults c.args.out.now; faults_now = g.S.Sink.faults c.finish_replay.new.out; flushes_before = g.S.Sink.flushes c.args.out.now; flushes_now = g.S.Sink.flushes c.finish_replay.new.out; unflushed = g.S.Sink.unflushed c.finish_replay.new.out } } in
    let now = map (λ b. (goal.TaskBody-dyn g (b.vtable, b.value)).seen b.value) c.reply_words.new.bodies.items in
    ends_trace (Due words told made) counts (g.S.Sink.held c.args.out.now) (g.S.Sink.held c.finish_replay.new.out) c.finish_replay.result now c.in-Ok-Trace.due (subst (IsReply now (Due words told made)) c.in-Ok-Trace.field-0-is c.in-Ok-Trace.ensures.due) c.finish_replay.ensures.end

pub returns-in-Err-Read-clause-end : goal.returns-in-Err-Read-clause-end
returns-in-Err-Read-clause-end g c =
    let words : List (List ℕ) = map (λ w. w.now) c.args.words.now in
    let told = g.F.Files.contents c.args.files.now in
    let made = map (λ b. (goal.TaskBody-dyn g (b.vtable, b.value)).seen b.value) c.args.bodies.items in
    let old = g.S.Sink.held c.args.out.now in
    let new = g.S.Sink.held c.finish-in-Err-Read.new.out in
    let counts : Counts = record { reads_before = g.F.Files.faults c.args.files.now; reads_now = g.F.Files.faults c.reply_words.new.files; sink = record { faults_before = g.S.Sink.faults c.args.out.now; faults_now = g.S.Sink.faults c.finish-in-Err-Read.new.out; flushes_before = g.S.Sink.flushes c.args.out.now; flushes_now = g.S.Sink.flushes c.finish-in-Err-Read.new.out; unflushed = g.S.Sink.unflushed c.finish-in-Err-Read.new.out } } in
    let rose : Rose counts.reads_before counts.reads_now = c.in-Err-Read.ensures.read (ap (λ e. Err e) c.in-Err-Read.field-0-is) in
    let f = subst (λ (text : List ℕ). Finishes ReadFault text counts.sink old new c.finish-in-Err-Read.result) c.as_bytes.ensures.value c.finish-in-Err-Read.ensures.end in
    ends_read (Due words told made) counts old new c.finish-in-Err-Read.result rose f
