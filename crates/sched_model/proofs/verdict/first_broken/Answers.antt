use Rattle.std.proofs.Common.{length}
use Rattle.sched_model.specs.PlainMode.{plain_at}
use Rattle.sched_model.specs.FirstBroken.{Keeps}
use Rattle.sched_model.specs.OneHyperperiod.{ServedOnce, EntriesFit}
use Rattle.sched_model.proofs.KeptSets.{mode_at_valid}
use Rattle.sched_model.proofs.Verdicts.{broken, breaks4, breaks5, breaks6, breaks7, breaks8}
use Rattle.sched_model.proofs.verdict.first_broken.Goals as goal

pub returns-then-not-messages_fit-clause-err : goal.returns-then-not-messages_fit-clause-err
returns-then-not-messages_fit-clause-err c =
    let m = plain_at c.args.set.now c.args.mode in
    let s = c.args.s.now in
    let s1 = c.rounds_fit.ensures.0 c.if-not-rounds_fit.false in
    let s2 = c.gaps_fit.ensures.0 c.if-not-gaps_fit.false in
    let s3 = c.offsets_fit.ensures.0 c.if-not-offsets_fit.false in
    breaks4 m s s1 s2 s3 (broken c.messages_fit.result (Keeps m s 4) c.messages_fit.ensures c.if-not-messages_fit.true)

pub returns-then-not-chains_fit-clause-err : goal.returns-then-not-chains_fit-clause-err
returns-then-not-chains_fit-clause-err c =
    let m = plain_at c.args.set.now c.args.mode in
    let s = c.args.s.now in
    let s1 = c.rounds_fit.ensures.0 c.if-not-rounds_fit.false in
    let s2 = c.gaps_fit.ensures.0 c.if-not-gaps_fit.false in
    let s3 = c.offsets_fit.ensures.0 c.if-not-offsets_fit.false in
    let s4 = c.messages_fit.ensures.0 c.if-not-messages_fit.false in
    breaks5 m s s1 s2 s3 s4 (broken c.chains_fit.result (Keeps m s 5) c.chains_fit.ensures c.if-not-chains_fit.true)

pub returns-then-not-nodes_fit-clause-err : goal.returns-then-not-nodes_fit-clause-err
returns-then-not-nodes_fit-clause-err c =
    let m = plain_at c.args.set.now c.args.mode in
    let s = c.args.s.now in
    let s1 = c.rounds_fit.ensures.0 c.if-not-rounds_fit.false in
    let s2 = c.gaps_fit.ensures.0 c.if-not-gaps_fit.false in
    let s3 = c.offsets_fit.ensures.0 c.if-not-offsets_fit.false in
    let s4 = c.messages_fit.ensures.0 c.if-not-messages_fit.false in
    let s5 = c.chains_fit.ensures.0 c.if-not-chains_fit.false in
    breaks6 m s s1 s2 s3 s4 s5 (broken c.nodes_fit.result (Keeps m s 6) c.nodes_fit.ensures c.if-not-nodes_fit.true)

pub returns-then-not-served_once-clause-err : goal.returns-then-not-served_once-clause-err
returns-then-not-served_once-clause-err c =
    let m = plain_at c.args.set.now c.args.mode in
    let s = c.args.s.now in
    let s1 = c.rounds_fit.ensures.0 c.if-not-rounds_fit.false in
    let s2 = c.gaps_fit.ensures.0 c.if-not-gaps_fit.false in
    let s3 = c.offsets_fit.ensures.0 c.if-not-offsets_fit.false in
    let s4 = c.messages_fit.ensures.0 c.if-not-messages_fit.false in
    let s5 = c.chains_fit.ensures.0 c.if-not-chains_fit.false in
    let s6 = c.nodes_fit.ensures.0 c.if-not-nodes_fit.false in
    let law = c.one_hyperperiod_decides.ensures m (length s.starts) s (mode_at_valid c.args.set.now c.requires.case.rules c.args.mode c.requires.case.known) c.requires.case.shape s1 s3 s4 in
    breaks7 m s s1 s2 s3 s4 s5 s6 (λ f. broken c.served_once.result (ServedOnce m s) c.served_once.ensures c.if-not-served_once.true (law.1.0 f))

pub returns-then-not-entries_fit-clause-err : goal.returns-then-not-entries_fit-clause-err
returns-then-not-entries_fit-clause-err c =
    let m = plain_at c.args.set.now c.args.mode in
    let s = c.args.s.now in
    let s1 = c.rounds_fit.ensures.0 c.if-not-rounds_fit.false in
    let s2 = c.gaps_fit.ensures.0 c.if-not-gaps_fit.false in
    let s3 = c.offsets_fit.ensures.0 c.if-not-offsets_fit.false in
    let s4 = c.messages_fit.ensures.0 c.if-not-messages_fit.false in
    let s5 = c.chains_fit.ensures.0 c.if-not-chains_fit.false in
    let s6 = c.nodes_fit.ensures.0 c.if-not-nodes_fit.false in
    let law = c.one_hyperperiod_decides.ensures m (length s.starts) s (mode_at_valid c.args.set.now c.requires.case.rules c.args.mode c.requires.case.known) c.requires.case.shape s1 s3 s4 in
    let s7 = law.1.1 (c.served_once.ensures.0 c.if-not-served_once.false) in
    breaks8 m s s1 s2 s3 s4 s5 s6 s7 (λ f. broken c.entries_fit.result (EntriesFit m s) c.entries_fit.ensures c.if-not-entries_fit.true (law.2.0 f))

pub returns-clause-ok : goal.returns-clause-ok
returns-clause-ok c =
    let m = plain_at c.args.set.now c.args.mode in
    let s = c.args.s.now in
    let s1 = c.rounds_fit.ensures.0 c.if-not-rounds_fit.false in
    let s2 = c.gaps_fit.ensures.0 c.if-not-gaps_fit.false in
    let s3 = c.offsets_fit.ensures.0 c.if-not-offsets_fit.false in
    let s4 = c.messages_fit.ensures.0 c.if-not-messages_fit.false in
    let s5 = c.chains_fit.ensures.0 c.if-not-chains_fit.false in
    let s6 = c.nodes_fit.ensures.0 c.if-not-nodes_fit.false in
    let law = c.one_hyperperiod_decides.ensures m (length s.starts) s (mode_at_valid c.args.set.now c.requires.case.rules c.args.mode c.requires.case.known) c.requires.case.shape s1 s3 s4 in
    let s7 = law.1.1 (c.served_once.ensures.0 c.if-not-served_once.false) in
    let s8 = law.2.1 (c.entries_fit.ensures.0 c.if-not-entries_fit.false) in
    record { shape = c.requires.case.shape; s1 = s1; s2 = s2; s3 = s3; s4 = s4; s5 = s5; s6 = s6; s7 = s7; s8 = s8 }
