use Rattle.cert_checker.proofs.Lookups.{number_more}
use Rattle.cert_checker.proofs.entries.numbers_of.Goals as goal

pub loop-name-preserved : goal.loop-name-preserved
loop-name-preserved c =
    let some = c.in-Some-number_of.ensures.some in
    number_more c.args.set.now c.args.mode c.args.names.now c.loop-name.left c.next.new.self c.loop-name.numbers.items c.push.new.self.items c.in-Some.name.now c.in-Some-number_of.number
    c.loop-name.invariant c.in-Some.ensures.steps some.0 some.1 some.2 c.in_ok-push-in-Some-number_of.ensures.items
