use Rattle.std.proofs.Common.{subst, List, ℕ}
use Rattle.ttw_program.specs.ScriptFiles.{ScriptSaid}
use Rattle.file_answers.proofs.ModeFileLemmas.{longer_at}
use Rattle.ttw_program.proofs.ReplayAnswers.{long_script}
use Rattle.ttw_program.proofs.script_files.read_script_file.Goals as goal

pub returns-in_ok-read_bytes-in-Err-Long-clause-says : goal.returns-in_ok-read_bytes-in-Err-Long-clause-says
returns-in_ok-read_bytes-in-Err-Long-clause-says g c =
    let said = (c.in_ok-read_bytes-in-Err-Long).field-0 in
    long_script _ c.args.set.now c.in-Err-Long.bytes.items said
    (longer_at _ _ _ _ c.in-Err-Long.field-0 c.in-Err-Long.bytes c.in-Err-Long.ensures.end c.in-Err-Long.field-0-is)
    (subst (λ (b : List ℕ). ScriptSaid c.args.set.now b said) c.as_slice-in-Err-Long.ensures.value (c.in_ok-read_bytes-in-Err-Long).ensures)
