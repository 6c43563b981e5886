use Rattle.std.proofs.Common.{rules}
use Rattle.file_answers.proofs.PlanFileLemmas.{accepted_plan, refused_plan}
use Rattle.file_answers.proofs.plan_files.read_plan_file.Goals as goal

pub returns-in-Ok-clause-says : goal.returns-in-Ok-clause-says
returns-in-Ok-clause-says g c = accepted_plan (g.F.Files.contents c.args.files.now c.args.plan.now) c.args.set.now c.in-Ok.accepted c.in-Ok.ensures.accepted c.in-Ok.ensures.best
