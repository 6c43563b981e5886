use Rattle.std.proofs.Common.{◌≡◌, suc, List, FitsSigned, w64, length, ap, sym, ◌∙◌, add-one, ◌-ℤ◌, rules}
use Rattle.std.proofs.lemmas.Int.{to_z-of_z}
use Rattle.world_core.specs.declared.state.State.{State}
use Rattle.world_core.specs.Nodes.{all_after}
use Rattle.world_core.specs.Worlds.{WorldSeen}
use Rattle.world_core.specs.WorldSteps.{moved}
use Rattle.world_core.specs.contracts.kept.Kept.{the_view}
use Rattle.world_core.proofs.KeptLemmas.{written_over}
use Rattle.world_core.proofs.kept.Kept.go_to.Goals as goal

pub returns : goal.returns
returns c =
    let from : FitsSigned w64 c.self.inside.moment = search rules in
    let ticks : FitsSigned w64 c.ticks_between.result = search rules in
    let old = c.deref_mut.ensures.value in
    let nodes : c.pass.new.nodes ≡ all_after c.self.inside.nodes.items (c.args.moment -ℤ c.self.inside.moment) =
    (simp (to_z-of_z, ticks) at c.pass.ensures)
    ∙ ap (λ (l : List State). all_after l c.ticks_between.result) old
    ∙ ap (λ t. all_after c.self.inside.nodes.items t) (simp (to_z-of_z, c.ranges.moment, from) at c.ticks_between.ensures) in
    let with : List State → WorldSeen = λ nodes. record (the_view c.self.inside) { nodes = nodes; place = suc c.self.inside.place; moment = c.args.moment } in
    simp (to_z-of_z, c.ranges.moment, add-one) (
    ap with (written_over c.self.inside.nodes.items c.pass.new.nodes c.self.inside.nodes.len (sym (ap length old) ∙ c.deref_mut.ensures.len) (c.pass.auto.nodes ∙ c.deref_mut.ensures.len) ∙ nodes)
    ∙ ap (λ w. moved w c.args.moment) c.self.view_is)
