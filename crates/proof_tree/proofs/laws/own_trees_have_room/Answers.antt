use Rattle.proof_tree.proofs.LineRoom.{own_trees_have_room}
use Rattle.proof_tree.proofs.laws.own_trees_have_room.Goals as goal

pub returns : goal.returns
returns c = own_trees_have_room
