use Rattle.file_answers.proofs.ModeFileLemmas.{longer_at, says_longer}
use Rattle.file_answers.proofs.mode_files.read_mode_file.Goals as goal

pub returns-in_ok-refused-in-Err-Long-clause-says : goal.returns-in_ok-refused-in-Err-Long-clause-says
returns-in_ok-refused-in-Err-Long-clause-says g c =
    let r = c.in_ok-refused-in-Err-Long.ensures in
    says_longer _ c.in-Err-Long._bytes.items c.in_ok-refused-in-Err-Long.field-0 (longer_at _ _ _ _ c.in-Err-Long.field-0 c.in-Err-Long._bytes c.in-Err-Long.ensures.end c.in-Err-Long.field-0-is) r.1 r.2
