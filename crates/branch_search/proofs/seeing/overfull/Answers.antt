use Rattle.std.proofs.Common.{sym, ◌∙◌, arith}
use Rattle.branch_search.proofs.Tallies.{room_unnamed, room_named, too_full}
use Rattle.branch_search.proofs.seeing.overfull.Goals as goal

pub returns-in_default : goal.returns-in_default
returns-in_default g c =
    room_unnamed (g.P.Posed.mode c.args.problem.now) (g.P.Posed.rounds c.args.problem.now) c.args.prefix.now c.args.loads.now c.requires.tally c.requires.few c.requires.roomy (sym c.last.ensures.last ∙ c.in_default.is)

pub returns-then-load-slots : goal.returns-then-load-slots
returns-then-load-slots g c =
    too_full (g.P.Posed.mode c.args.problem.now) (g.P.Posed.rounds c.args.problem.now) c.args.prefix.now c.args.loads.now c.in-Some.round c.requires.tally c.requires.few c.requires.roomy (sym c.last.ensures.last ∙ c.in-Some.is) c.in-Some.ensures.within
    (omega (arith, c.if-load-slots.true, c.load.ensures, c.slots.ensures))

pub returns : goal.returns
returns g c =
    room_named (g.P.Posed.mode c.args.problem.now) (g.P.Posed.rounds c.args.problem.now) c.args.prefix.now c.args.loads.now c.in-Some.round c.requires.tally c.requires.few c.requires.roomy (sym c.last.ensures.last ∙ c.in-Some.is)
    (omega (arith, c.if-load-slots.false, c.load.ensures, c.slots.ensures))
