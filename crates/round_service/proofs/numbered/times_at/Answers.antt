use Rattle.std.proofs.Common.{arith}
use Rattle.sched_model.specs.PlainMode.{plain_at}
use Rattle.sched_model.proofs.Hyperperiods.{hyper_some}
use Rattle.round_service.proofs.numbered.times_at.Goals as goal

pub returns-clause-servable : goal.returns-clause-servable
returns-clause-servable c =
    let lim = (c.kept_modes_are_limited.ensures c.args.set.now c.requires.rules).1 c.args.mode c.requires.mode in
    let ok = (c.kept_modes_are_valid.ensures c.args.set.now c.requires.rules).1 c.args.mode c.requires.mode in
    let l = c.message_row-row.ensures.limits in
    record {
      rounds = c.requires.rounds;
      round = (omega (arith, c.round_of.ensures, lim.round.0), omega (arith, c.round_of.ensures, lim.round.1));
      hyper = (omega (arith, c.ticks_of.ensures, hyper_some (plain_at c.args.set.now c.args.mode)), omega (arith, c.ticks_of.ensures, ok.hyper_limit));
      period = (l.0, l.1);
      deadline = l.2;
      copies = omega (arith, c.message_row-row.ensures.copies, ok.copies c.args.place c.requires.place);
    }
