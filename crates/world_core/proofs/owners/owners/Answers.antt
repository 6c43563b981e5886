use Rattle.std.proofs.Common.{◌≡◌, List, ℕ, sym, ◌∙◌, ap, subst}
use Rattle.std.proofs.lemmas.Result.{IfOk-weaker}
use Rattle.world_core.specs.Owners.{AreOwners, owners_in}
use Rattle.world_core.proofs.OwnerLemmas.{are_owners}
use Rattle.world_core.proofs.owners.owners.Goals as goal

pub returns : goal.returns
returns c = IfOk-weaker c.owners_of.result (λ v. v.items ≡ owners_in c.as_slice.result.now) (λ v. AreOwners c.args.set.now v.items)
    (λ v e. subst (λ (xs : List ℕ). AreOwners c.args.set.now xs) (sym (e ∙ ap owners_in c.as_slice.ensures)) (are_owners c.args.set.now c.requires)) c.owners_of.ensures
