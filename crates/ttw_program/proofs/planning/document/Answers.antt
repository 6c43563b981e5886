use Rattle.std.proofs.Common.{◌≡◌, ◌∙◌, ◌++◌, List, ℕ, ap, sym, inl, subst}
use Rattle.std.proofs.lemmas.Slice.Zip.{AllZip-long}
use Rattle.proof_tree.specs.OwnDocument.{OwnDoc}
use Rattle.proof_tree.specs.PlanText.{plan_text}
use Rattle.ttw_program.specs.Plans.{PlansMode}
use Rattle.ttw_program.proofs.PlanAnswers.{own_document}
use Rattle.ttw_program.proofs.planning.document.Goals as goal

pub write_plan-requires : goal.write_plan-requires
write_plan-requires c = AllZip-long (PlansMode c.args.set.now c.args.budget) c.args.set.now.modes c.args.parts.now c.requires.parts

pub returns : goal.returns
returns c =
    let text : c.write_plan.new.out ≡ plan_text c.args.set.now c.args.parts.now = c.in_ok-write_plan.ensures.ok ∙ ap (λ (t : List ℕ). t ++ plan_text c.args.set.now c.args.parts.now) c.make-text.ensures in
    let own = own_document c.args.set.now c.args.budget c.own_documents_have_room.ensures c.requires.rules c.requires.budget c.args.parts.now c.requires.parts in
    inl (c.args.parts.now, c.requires.parts, c.status_of.ensures, text, subst (OwnDoc c.args.set.now) (sym text) own)
