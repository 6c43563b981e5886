use Rattle.std.proofs.Common.{rules, ◌-◌, ◌*◌, ◌/◌, pos, ◌-ℤ◌, ◌∙◌, ap, w64, to_z, of_z, FitsSigned}
use Rattle.std.proofs.lemmas.Int.{to_z-of_z}
use Rattle.std.specs.Int.RustNames.{unsigned_abs}
use Rattle.round_service.proofs.Numbers.{natural_abs, same_served}
use Rattle.round_service.proofs.choices.serve_diffs.Goals as goal

pub returns : goal.returns
returns c =
    let moved : FitsSigned w64 c.shift-moved.result = search rules in
    let room : FitsSigned w64 c.room_for-room.result = search rules in
    let choice = natural_abs c.args.g c.unsigned_abs-before.result c.requires.least (c.unsigned_abs-before.ensures.value ∙ ap unsigned_abs (to_z-of_z w64 c.args.g c.ranges.g)) in
    same_served c.args.opens c.args.closes c.args.times c.args.copy c.unsigned_abs-before.result c.args.g
    (to_z w64 (of_z w64 c.shift-moved.result)) (to_z w64 (of_z w64 c.room_for-room.result)) choice
    (to_z-of_z w64 c.shift-moved.result moved ∙ c.shift-moved.ensures.value ∙ ap (λ w. pos ((c.unsigned_abs-before.result - 1) / c.args.times.rounds * c.args.times.hyper) -ℤ pos (w * c.args.times.period)) c.window_of-window.ensures.value) (to_z-of_z w64 c.room_for-room.result room ∙ c.room_for-room.ensures)
