-- An error that is handed on
use Rattle.std.proofs.Common.{◌≡◌, Result, Ok, Err, IfErr, sym, subst}
use Rattle.std.specs.Prelude.{Option, Some, None, IfSome}
use Rattle.std.specs.Result.{IsErrAnd}
use Rattle.proof_tree.specs.Reading.{Refusal, Read}
use Rattle.cert_checker.specs.declared.refused.Refused.{Refused}
use Rattle.cert_checker.specs.Refusals.{said, Fails}

pub handed_on : {T E : Type 0} (r : Result T E) (x : E) (P : E → Type 0) → IsErrAnd r (λ e. e ≡ x) → P x → IfErr r P
handed_on (Ok v) x P h p = tt
handed_on (Err e) x P h p = subst P (sym h) p

pub some_weaker : {X : Type 0} (o : Option X) (P Q : X → Type 0) → ((x : X) → P x → Q x) → IfSome o P → IfSome o Q
some_weaker None P Q h p = tt
some_weaker (Some x) P Q h p = h x p

-- what fails makes what stands on it fail
pub fails_with : {A B : Type 0} (e : Refused) (read : Read A) (whole : Read B) → ((f : Refusal) → read ≡ Err f → whole ≡ Err f) → Fails e read → Fails e whole
fails_with e read whole h fails = some_weaker (said e) (λ f. read ≡ Err f) (λ f. whole ≡ Err f) h fails
