use Rattle.std.proofs.Common.{◌≡◌, ℕ, ◌+◌, [], ◌∷◌, ◌++◌, List, map, suc, ap, sym, ◌∙◌, arith}
use Rattle.std.specs.Prelude.{slice_index_or, None}
use Rattle.std.proofs.lemmas.List.{get_or_default, map-append}
use Rattle.sched_model.specs.Numbers.{below}
use Rattle.sched_model.proofs.TaskNumbers.{few_modes}
use Rattle.time_chart.specs.declared.chart.Section.{Section}
use Rattle.plan_picture.specs.Picture.{mode_section}
use Rattle.plan_picture.proofs.charts.sections_of.Goals as goal

pub overflow_cast-mode-end : goal.overflow_cast-mode-end
overflow_cast-mode-end c = omega (arith, c.requires.each, few_modes c.args.set.now c.requires.rules)

pub loop-mode-preserved : goal.loop-mode-preserved
loop-mode-preserved c =
    let l = c.loop-mode in
    let set = c.args.set.now in
    let plans = c.args.plans.now in
    let of : ℕ → Section = λ i. mode_section set i (slice_index_or plans i None) in
    let plan : c.index-plans-mode.result ≡ slice_index_or plans l.mode None = c.index-plans-mode.is ∙ get_or_default plans l.mode c.index-plans-mode.result None c.loop-mode-test.true in
    let section : c.in_ok-section_of.field-0 ≡ of l.mode = c.in_ok-section_of.ensures ∙ ap (mode_section set l.mode) plan in
    let next : l.mode + 1 ≡ suc l.mode = omega arith in
    let more : map of (below (l.mode + 1)) ≡ map of (below l.mode) ++ of l.mode ∷ [] = ap (λ (n : ℕ). map of (below n)) next ∙ map-append of (below l.mode) (l.mode ∷ []) in
    c.in_ok-push.ensures.items ∙ ap (λ (s : Section). l.sections.items ++ s ∷ []) section ∙ ap (λ (ss : List Section). ss ++ of l.mode ∷ []) l.invariant ∙ sym more
