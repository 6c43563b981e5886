use Rattle.proof_tree.proofs.OwnParts.{own_parts_make_documents}
use Rattle.proof_tree.proofs.laws.own_parts_make_documents.Goals as goal

pub returns : goal.returns
returns c = own_parts_make_documents
