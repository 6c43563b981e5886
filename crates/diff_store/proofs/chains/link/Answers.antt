use Rattle.std.proofs.Common.{rules, ◌≡◌, None, Some, List, length, set, refl, subst, sym, ap, ◌∙◌}
use Rattle.std.specs.Vec.{with_item}
use Rattle.std.proofs.lemmas.List.{length-set}
use Rattle.tick_num.specs.declared.differences.Diff.{Diff}
use Rattle.diff_store.specs.declared.chains.Links.{Links}
use Rattle.diff_store.specs.Chains.{Chained}
use Rattle.diff_store.proofs.Linking.{set_first, set_behind}
use Rattle.diff_store.proofs.chains.link.Goals as goal

pub returns-in_default-clause-chained : goal.returns-in_default-clause-chained
returns-in_default-clause-chained c =
    let links = c.args.links.now in
    let ds = c.args.list.now.items in
    let x = c.args.d.x in
    let p = c.len-position.result in
    let end : p ≡ length ds = search rules in
    let n = length links.firsts.items in
    let after : Links = record { firsts = with_item links.firsts x (Some p); lasts = with_item links.lasts x (Some p); newer = with_item links.newer p None; older = with_item links.older p c.last-before.result } in
    let size : length (set links.firsts.items x (Some p)) ≡ n = length-set links.firsts.items x (Some p) in
    subst (λ m. Chained m c.push_reserved.new.self.items after) (sym size)
    (subst (λ (es : List Diff). Chained n es after) (sym c.push_reserved.ensures.items)
    (set_first n ds c.args.d links after c.requires.chained c.requires.x c.requires.newer c.requires.older
    (ap (λ p. set links.lasts.items x (Some p)) end)
    (ap (λ p. set links.older.items p c.last-before.result) end ∙ ap (λ o. set links.older.items (length ds) o) c.last-before.ensures)
    (sym c.last-before.ensures ∙ c.in_default.is)
    (ap (λ p. set links.firsts.items x (Some p)) end)
    (ap (λ p. set links.newer.items p None) end)))

pub returns-clause-chained : goal.returns-clause-chained
returns-clause-chained c =
    let links = c.args.links.now in
    let ds = c.args.list.now.items in
    let x = c.args.d.x in
    let p = c.len-position.result in
    let end : p ≡ length ds = search rules in
    let n = length links.firsts.items in
    let after : Links = record { firsts = links.firsts; lasts = with_item links.lasts x (Some p); newer = with_item (with_item links.newer p None) c.in-Some.last (Some p); older = with_item links.older p c.last-before.result } in
    subst (λ (es : List Diff). Chained n es after) (sym c.push_reserved.ensures.items)
    (set_behind n ds c.args.d links after c.requires.chained c.requires.x c.requires.newer c.requires.older
    (ap (λ p. set links.lasts.items x (Some p)) end)
    (ap (λ p. set links.older.items p c.last-before.result) end ∙ ap (λ o. set links.older.items (length ds) o) c.last-before.ensures)
    c.in-Some.last
    (sym c.last-before.ensures ∙ c.in-Some.is)
    refl
    (ap (λ p. set (set links.newer.items p None) c.in-Some.last (Some p)) end))
