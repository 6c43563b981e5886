use Rattle.std.proofs.Common.{◌≡◌, ◌↔◌, ◌∙◌, ◌∷◌, ◌+◌, List, ℕ, drop, ap, sym, subst, arith, rules}
use Rattle.std.proofs.lemmas.List.{drop_more, drop_all}
use Rattle.app_graph.specs.declared.mode_set.Mode.{Mode}
use Rattle.app_graph.specs.Reaching.{EndsBetween, Reaches, mode_edge}
use Rattle.app_graph.proofs.Reached.{Left, any_edge, next_left, here_reached, none_reached}
use Rattle.app_graph.proofs.reaching.set_reaches.Goals as goal

pub mode_reaches-requires-clause-ends : goal.mode_reaches-requires-clause-ends
mode_reaches-requires-clause-ends c =
    let modes = c.as_slice-mode-items.result.now in
    let at = drop_more modes c.loop-mode.mode-index c.mode-item.result c.loop-mode-test.true ∙ ap (λ (m : Mode). m ∷ drop (c.loop-mode.mode-index + 1) modes) (sym c.mode-item.is) in
    let left = subst (λ (rest : List Mode). Left modes rest c.loop-mode.first c.args.from) at c.loop-mode.invariant in
    subst (λ (n : ℕ). EndsBetween c.loop-mode.first (c.loop-mode.first + n) c.mode-item.result) (sym c.count_tasks.ensures) left.numbered.2

pub returns-then-from-end : goal.returns-then-from-end
returns-then-from-end c =
    let modes = c.as_slice-mode-items.result.now in
    let at = drop_more modes c.loop-mode.mode-index c.mode-item.result c.loop-mode-test.true ∙ ap (λ (m : Mode). m ∷ drop (c.loop-mode.mode-index + 1) modes) (sym c.mode-item.is) in
    let left = subst (λ (rest : List Mode). Left modes rest c.loop-mode.first c.args.from) at c.loop-mode.invariant in
    let r = here_reached modes (drop (c.loop-mode.mode-index + 1) modes) c.mode-item.result c.loop-mode.first c.args.from c.args.to left (omega (arith, c.if-from-end.true, c.count_tasks.ensures)) in
    let s = subst (λ (ms : List Mode). Reaches (mode_edge c.mode-item.result) c.args.from c.args.to ↔ Reaches (any_edge ms) c.args.from c.args.to) c.as_slice-mode-items.ensures r in
    (λ e. s.0 (c.mode_reaches.ensures.0 e), λ w. c.mode_reaches.ensures.1 (s.1 w))

pub loop-mode-preserved : goal.loop-mode-preserved
loop-mode-preserved c =
    let modes = c.as_slice-mode-items.result.now in
    let at = drop_more modes c.loop-mode.mode-index c.mode-item.result c.loop-mode-test.true ∙ ap (λ (m : Mode). m ∷ drop (c.loop-mode.mode-index + 1) modes) (sym c.mode-item.is) in
    let left = subst (λ (rest : List Mode). Left modes rest c.loop-mode.first c.args.from) at c.loop-mode.invariant in
    subst (λ (n : ℕ). Left modes (drop (c.loop-mode.mode-index + 1) modes) (c.loop-mode.first + n) c.args.from) (sym c.count_tasks.ensures)
    (next_left modes (drop (c.loop-mode.mode-index + 1) modes) c.mode-item.result c.loop-mode.first c.args.from left (omega (arith, c.if-from-end.false, c.count_tasks.ensures)))

pub returns : goal.returns
returns c =
    let modes = c.as_slice-mode-items.result.now in
    let left = subst (λ (rest : List Mode). Left modes rest c.loop-mode.first c.args.from) (drop_all c.loop-mode.mode-index modes (omega (arith, c.loop-mode-test.false))) c.loop-mode.invariant in
    let other : c.args.from ≡ c.args.to → ⊥ = search rules in
    let none = none_reached modes c.loop-mode.first c.args.from c.args.to left other in
    (λ e. absurd cc, λ w. absurd (none (subst (λ (ms : List Mode). Reaches (any_edge ms) c.args.from c.args.to) (sym c.as_slice-mode-items.ensures) w)))
