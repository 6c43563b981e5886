-- What a refusal says
use Rattle.std.specs.Prelude.{◌≡◌, ◌≤◌, true, length, Option, Some, None, Err, IfSome}
use Rattle.proof_tree.specs.Items.{Item, other_words}
use Rattle.proof_tree.specs.Spelled.{is_writable}
use Rattle.proof_tree.specs.Reading.{Refusal, Grammar, Names, Clause, BadLeaf, Extra, MissingCount, Unfinished, Read}
use Rattle.cert_checker.specs.declared.refused.Refused.{Refused}
use Rattle.cert_checker.specs.declared.refused.Refused.TheVariants as refused

-- the refusal of a document that is said; none where memory ran out
abbrev pub said : Refused → Option Refusal
said (refused.Grammar line) = Some (Grammar line)
said (refused.Names line) = Some (Names line)
said (refused.Schedule mode clause) = Some (Clause mode clause)
said (refused.BadLeaf line) = Some (BadLeaf line)
said (refused.Extra line) = Some (Extra line)
said (refused.MissingCount mode rounds) = Some (MissingCount mode rounds)
said (refused.Unfinished mode) = Some (Unfinished mode)
said refused.Memory = None

-- what is read is refused so, where a refusal is said
abbrev pub Fails : {A : Type 0} → Refused → Read A → Type 0
Fails refused read = IfSome (said refused) (λ f. read ≡ Err f)

-- what a line says has numbers within the limit, and not too many words
pub record FitsLine (item : Item) : Type 0 where
  pub writable : is_writable item ≡ true
  pub short : length (other_words item) ≤ 4096
