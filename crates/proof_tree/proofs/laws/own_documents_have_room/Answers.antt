use Rattle.proof_tree.proofs.DocumentRoom.{own_documents_have_room}
use Rattle.proof_tree.proofs.laws.own_documents_have_room.Goals as goal

pub returns : goal.returns
returns c = own_documents_have_room c.own_trees_count_visits.ensures
