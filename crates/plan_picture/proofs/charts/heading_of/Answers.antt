use Rattle.std.proofs.Common.{◌≡◌, ◌++◌, rules}
use Rattle.std.specs.Prelude.{codes}
use Rattle.ttw_text.specs.Numbers.{spelled}
use Rattle.sched_model.specs.PlainMode.{hyper, mode_at, plain_at}
use Rattle.plan_picture.specs.Picture.{rounds_told}
use Rattle.plan_picture.proofs.Loops.{five_texts}
use Rattle.plan_picture.proofs.charts.heading_of.Goals as goal

pub returns : goal.returns
returns c =
    let set = c.args.set.now in
    let mode = mode_at set c.args.mode in
    let one : c.put.new.self ≡ codes "mode " ++ mode.name = search rules in
    let two : c.put-2.new.self ≡ c.put.new.self ++ codes ": hyperperiod " = c.in_ok-put-2.ensures.ok in
    let three : c.number.new.self ≡ c.put-2.new.self ++ spelled (hyper (plain_at set c.args.mode)) = search rules in
    let four : c.put-3.new.self ≡ c.number.new.self ++ rounds_told c.args.plan.now = search rules in
    five_texts (codes "mode ") mode.name (codes ": hyperperiod ") (spelled (hyper (plain_at set c.args.mode))) (rounds_told c.args.plan.now) _ _ _ _ one two three four
