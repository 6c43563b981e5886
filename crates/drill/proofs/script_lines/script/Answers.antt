use Rattle.std.proofs.Common.{◌≡◌, ℕ, ◌-◌, ◌≤◌, ◌∷◌, ◌∙◌, ap, arith, append_assoc}
use Rattle.replay_script.specs.declared.line.Line.TheVariants.{Go}
use Rattle.drill.specs.Script.{visits, drill_script}
use Rattle.drill.proofs.Visits.{visits_more, script_fits}
use Rattle.drill.proofs.script_lines.script.Goals as goal

pub loop-mode-preserved : goal.loop-mode-preserved
loop-mode-preserved c =
    let some : 1 ≤ c.loop-mode.mode = omega arith in
    let more = visits_more c.loop-mode.mode some in
    simp (more, c.in_ok-push-3.ensures.items, c.in_ok-push-2.ensures.items, c.loop-mode.invariant, append_assoc)

pub returns-clause-fits : goal.returns-clause-fits
returns-clause-fits c seed =
    let last : c.loop-mode.mode - 1 ≡ 7 = omega arith in
    let whole : c.loop-mode.lines.items ≡ drill_script = c.loop-mode.invariant ∙ ap (λ (n : ℕ). Go 336 ∷ visits n) last in
    rw whole (script_fits seed)
