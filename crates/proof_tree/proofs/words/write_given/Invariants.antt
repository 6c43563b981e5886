use Rattle.std.proofs.Common.{◌≡◌, ◌++◌, take, map}
use Rattle.std.specs.List.{flat_map}
use Rattle.proof_tree.specs.WordSpelling.{spelling_of, after_space}
use Rattle.proof_tree.proofs.words.write_given.Given as goal

abbrev pub invariant-loop-word : goal.invariant-loop-word
invariant-loop-word l = l.out ≡ l.initial.out ++ flat_map after_space (map spelling_of (take l.word-index l.words))
