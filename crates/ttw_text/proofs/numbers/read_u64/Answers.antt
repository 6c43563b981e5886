use Rattle.std.proofs.Common.{arith}
use Rattle.std.proofs.lemmas.Grind.{common_steps}
use Rattle.ttw_text.proofs.Spellings.{reads_spelling}
use Rattle.ttw_text.proofs.numbers.read_u64.Goals as goal

pub returns-in_default-clause-spelling : goal.returns-in_default-clause-spelling
returns-in_default-clause-spelling c = reads_spelling c.args.text.now _ (grind (arith, common_steps))

pub returns-in-empty-clause-spelling : goal.returns-in-empty-clause-spelling
returns-in-empty-clause-spelling c = reads_spelling c.args.text.now _ (grind (arith, common_steps))

pub returns-in-empty-2-clause-spelling : goal.returns-in-empty-2-clause-spelling
returns-in-empty-2-clause-spelling c = reads_spelling c.args.text.now _ (grind (arith, common_steps))
