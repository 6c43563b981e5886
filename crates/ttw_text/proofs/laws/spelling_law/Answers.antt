use Rattle.ttw_text.proofs.Spellings.{number_of-spelled, number_of-only, spelled_injective, signed_spelled_injective}
use Rattle.ttw_text.proofs.laws.spelling_law.Goals as goal

pub returns-clause-read_back : goal.returns-clause-read_back
returns-clause-read_back c = number_of-spelled

pub returns-clause-only_spelling : goal.returns-clause-only_spelling
returns-clause-only_spelling c = λ text n read. (number_of-only text n read).0

pub returns-clause-one_number : goal.returns-clause-one_number
returns-clause-one_number c = spelled_injective

pub returns-clause-one_signed : goal.returns-clause-one_signed
returns-clause-one_signed c = signed_spelled_injective
