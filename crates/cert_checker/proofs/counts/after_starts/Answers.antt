use Rattle.std.proofs.Common.{rules, IsTrue}
use Rattle.cert_checker.proofs.Drafts.{whole_follows}
use Rattle.cert_checker.proofs.counts.after_starts.Goals as goal

pub returns-then-is_whole : goal.returns-then-is_whole
returns-then-is_whole c =
    let yes : IsTrue c.is_whole.result = search rules in
    λ o line d hand. whole_follows o line d c.args.draft c.finish.result hand (c.is_whole.ensures.yes yes d hand) c.finish.ensures.starts c.finish.ensures.tasks c.finish.ensures.messages c.finish.ensures.tables
