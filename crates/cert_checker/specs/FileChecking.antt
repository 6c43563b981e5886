-- What the check of a file's document says of the file
use Rattle.std.specs.Prelude.{ℕ, List, IfSome}
use Rattle.ttw_io.specs.Outside.{Told, IsWhole, Rose}
use Rattle.app_graph.specs.declared.mode_set.ModeSet.{ModeSet}
use Rattle.proof_tree.specs.Refusing.{Refuses}
use Rattle.cert_checker.specs.declared.files.CheckEnd.{CheckEnd}
use Rattle.cert_checker.specs.declared.files.CheckEnd.TheVariants as ends
use Rattle.cert_checker.specs.Refusals.{said}

-- it is so of the file's bytes or, where nothing is told of the file, of some bytes
abbrev pub OfBytes : Told → (List ℕ → Type 0) → Type 0
OfBytes told P = (bytes : List ℕ) × IsWhole told bytes × P bytes

-- the document is refused so, where a refusal is said; or the count of faults rose
abbrev pub EndsCheck : Told → ModeSet → ℕ → ℕ → CheckEnd → Type 0
EndsCheck told set before now (ends.Refused e) = IfSome (said e) (λ f. OfBytes told (λ bytes. Refuses set bytes f))
EndsCheck told set before now ends.ReadFault = Rose before now
