use Rattle.std.proofs.lemmas.List.Splits.{join_with_byte-slice_split}
use Rattle.ttw_text.proofs.WordLemmas.{parts-append, parts_alone, name_is_word, spelled_is_word}
use Rattle.ttw_text.proofs.laws.words_law.Goals as goal

pub returns-clause-joined : goal.returns-clause-joined
returns-clause-joined c = join_with_byte-slice_split 32

pub returns-clause-first : goal.returns-clause-first
returns-clause-first c = parts-append

pub returns-clause-last : goal.returns-clause-last
returns-clause-last c = parts_alone

pub returns-clause-names : goal.returns-clause-names
returns-clause-names c = name_is_word

pub returns-clause-numbers : goal.returns-clause-numbers
returns-clause-numbers c = spelled_is_word
