use Rattle.std.proofs.Common.{refl, rules}
use Rattle.std.proofs.lemmas.Int.{to_z-of_z}
use Rattle.std.specs.Int.{w128}
use mir.Val.{SFits}
use Rattle.ttw_program.proofs.DrillAnswers.{offsets_sum, rounds_count, summary_text}
use Rattle.ttw_program.proofs.drilling.drill_schedules.Goals as goal

pub rounds_of-requires : goal.rounds_of-requires
rounds_of-requires g c = rounds_count c.args.set.now c.args.schedules.now c.requires.rules c.requires.schedules

pub offsets_of-requires : goal.offsets_of-requires
offsets_of-requires g c = offsets_sum c.args.set.now c.args.schedules.now c.requires.rules c.requires.schedules

pub returns : goal.returns
returns g c =
    let fits : SFits w128 c.in_ok-counts.counts.values = search rules in
    let text = summary_text c.args.seed c.args.visited c.rounds_of.result c.offsets_of.result c.args.schedules.now c.in_ok-counts.counts c.make-text.result c.write.new.out
    c.rounds_of.ensures c.offsets_of.ensures c.make-text.ensures (simp to_z-of_z at c.in_ok-write.ensures) in
    (c.args.visited, c.in_ok-counts.counts, c.requires.visited, c.in_ok-counts.ensures, refl, text)
