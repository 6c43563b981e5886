use Rattle.std.proofs.Common.{◌≡◌, ◌++◌, take, map}
use Rattle.std.specs.List.{flat_map}
use Rattle.proof_tree.specs.Names.{name_of, messages_in}
use Rattle.proof_tree.specs.WordSpelling.{after_space}
use Rattle.proof_tree.proofs.words.write_names.Given as goal

abbrev pub invariant-loop-number : goal.invariant-loop-number
invariant-loop-number l = l.out ≡ l.initial.out ++ flat_map after_space (map (name_of (messages_in l.apps)) (take l.number-index l.numbers))
