use Rattle.std.proofs.Common.{◌≡◌, [], ◌∷◌, ◌++◌, List, length, ap, ◌∙◌}
use Rattle.std.specs.List.{zip}
use Rattle.std.proofs.lemmas.List.{length_push}
use Rattle.std.proofs.lemmas.Iterator.{YieldsList-from_slice, YieldsList-from_zip}
use Rattle.std.proofs.lemmas.Iterator.Consumers.{YieldsList-turn, YieldsList-end}
use Rattle.time_chart.specs.declared.chart.Row.{Row}
use Rattle.plan_picture.specs.Picture.{window_row}
use Rattle.plan_picture.proofs.Loops.{maps, mapped}
use Rattle.plan_picture.proofs.windows_lane.add_app.Goals as goal

pub loop-message-preserved : goal.loop-message-preserved
loop-message-preserved c =
    let l = c.loop-message in
    let pairs = YieldsList-from_zip (YieldsList-from_slice c.args.messages.now (cc)) (YieldsList-from_slice c.args.windows.now (cc)) in
    let t = YieldsList-turn pairs l.yielded l.message-iterator l.yielded_by c.next.result c.next.new.self (c.in-Some.message, c.in-Some.window) c.in-Some.is c.next.ensures.steps in
    maps (window_row c.args.period) (zip c.args.messages.now c.args.windows.now) _ _ _ (length l.yielded) _ (c.in-Some.message.now, c.in-Some.window.now) t (length_push l.yielded _) l.invariant
    (c.in_ok-push.ensures.items ∙ ap (λ (row : Row). l.rows.items ++ row ∷ []) c.in_ok-window_row.ensures)

pub returns : goal.returns
returns c =
    let l = c.loop-message in
    let pairs = YieldsList-from_zip (YieldsList-from_slice c.args.messages.now (cc)) (YieldsList-from_slice c.args.windows.now (cc)) in
    let t = YieldsList-end pairs l.yielded l.message-iterator l.yielded_by c.next.result c.next.new.self c.in-None.is c.next.ensures.steps in
    mapped (window_row c.args.period) (zip c.args.messages.now c.args.windows.now) _ _ (length l.yielded) t.1 l.invariant
