use Rattle.std.proofs.Common.{◌∙◌, List, subst, sym}
use Rattle.app_graph.specs.declared.mode_set.ModeSet.{ModeSet}
use Rattle.replay_script.specs.Fitting.{FitsScript}
use Rattle.replay_script.specs.declared.line.Line.{Line}
use Rattle.drill.specs.Generated.{drill_set}
use Rattle.ttw_program.proofs.DrillAnswers.{counts_run}
use Rattle.ttw_program.proofs.drilling.run_script.Goals as goal

pub replay-requires-clause-fits : goal.replay-requires-clause-fits
replay-requires-clause-fits g c =
    subst (λ (s : ModeSet). FitsScript s c.as_slice.result.now) (sym c.requires.set)
    (subst (λ (ls : List Line). FitsScript (drill_set c.args.seed) ls) (sym c.as_slice.ensures.value) (c.in_ok-lines.ensures.fits c.args.seed))

pub replay-requires-clause-new : goal.replay-requires-clause-new
replay-requires-clause-new g c = (c.args.schedules.now, record { right = c.requires.schedules; have = c.requires.bodies; stands = c.in_ok-world.ensures })

pub returns-in-Ok : goal.returns-in-Ok
returns-in-Ok g c =
    let fits = subst (λ (s : ModeSet). FitsScript s c.as_slice.result.now) (sym c.requires.set)
    (subst (λ (ls : List Line). FitsScript (drill_set c.args.seed) ls) (sym c.as_slice.ensures.value) (c.in_ok-lines.ensures.fits c.args.seed)) in
    counts_run c.args.set.now c.args.schedules.now _ c.requires.rules c.requires.schedules c.scripts_spell_once.ensures c.as_slice.result.now _ _ _ _ _ c.in-Ok.counts
    (c.as_slice.ensures.value ∙ c.in_ok-lines.ensures.lines) fits (record { right = c.requires.schedules; have = c.requires.bodies; stands = c.in_ok-world.ensures }) c.in-Ok.ensures.whole
