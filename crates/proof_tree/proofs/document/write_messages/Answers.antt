use Rattle.std.proofs.Common.{◌≡◌, rules, refl, ap, length}
use Rattle.std.specs.Prelude.{unsigned_abs}
use Rattle.std.specs.List.{zip}
use Rattle.std.proofs.lemmas.List.{length_push}
use Rattle.std.proofs.lemmas.Iterator.{YieldsList-from_slice, YieldsList-from_zip}
use Rattle.std.proofs.lemmas.Iterator.Adapters.{YieldsList-from_flat_map}
use Rattle.std.proofs.lemmas.Iterator.Consumers.{YieldsList-turn, YieldsList-end}
use Rattle.app_graph.specs.declared.mode_set.App.{App}
use Rattle.proof_tree.specs.Items.{line_of}
use Rattle.proof_tree.specs.Names.{messages_in}
use Rattle.proof_tree.specs.PlanText.{message_item}
use Rattle.proof_tree.proofs.WrittenLemmas.{on_err, goes_on_in_loop, ends_loop, stops_in_loop}
use Rattle.proof_tree.proofs.document.write_messages.Goals as goal

pub loop-message-preserved : goal.loop-message-preserved
loop-message-preserved c =
    let t = YieldsList-turn (YieldsList-from_zip (YieldsList-from_flat_map _ _ _ (λ y. y.now) (λ (app : App). app.messages) _ (λ x u q k. (refl, λ j e. YieldsList-from_slice x.now.messages (search rules))) (YieldsList-from_slice c.args.apps.now (cc)) (cc) (cc) (cc) (cc)) (YieldsList-from_slice c.args.windows.now (cc))) c.loop-message.yielded c.loop-message.message-iterator c.loop-message.yielded_by c.next.result c.next.new.self (c.in-Some.message, c.in-Some.window) c.in-Some.is c.next.ensures.steps in
    let name : c.as_bytes.result.now ≡ c.in-Some.message.now.name = search rules in
    let opens : c.unsigned_abs.result ≡ unsigned_abs c.in-Some.window.now.0 = search rules in
    let closes : c.unsigned_abs-in-loop-message.result ≡ unsigned_abs c.in-Some.window.now.1 = search rules in
    goes_on_in_loop _ _ _ _ line_of message_item (zip (messages_in c.args.apps.now) c.args.windows.now) (length c.loop-message.yielded) _ (c.in-Some.message.now, c.in-Some.window.now) t (length_push c.loop-message.yielded _) c.loop-message.invariant (rw (name, opens, closes) refl) c.in_ok-write_line.ensures.ok

pub returns-clause-ok : goal.returns-clause-ok
returns-clause-ok c =
    let t = YieldsList-end (YieldsList-from_zip (YieldsList-from_flat_map _ _ _ (λ y. y.now) (λ (app : App). app.messages) _ (λ x u q k. (refl, λ j e. YieldsList-from_slice x.now.messages (search rules))) (YieldsList-from_slice c.args.apps.now (cc)) (cc) (cc) (cc) (cc)) (YieldsList-from_slice c.args.windows.now (cc))) c.loop-message.yielded c.loop-message.message-iterator c.loop-message.yielded_by c.next.result c.next.new.self c.in-None.is c.next.ensures.steps in
    ends_loop _ _ line_of message_item (zip (messages_in c.args.apps.now) c.args.windows.now) (length c.loop-message.yielded) t.1 c.loop-message.invariant

pub returns-in_err-write_line-clause-err : goal.returns-in_err-write_line-clause-err
returns-in_err-write_line-clause-err c =
    let t = YieldsList-turn (YieldsList-from_zip (YieldsList-from_flat_map _ _ _ (λ y. y.now) (λ (app : App). app.messages) _ (λ x u q k. (refl, λ j e. YieldsList-from_slice x.now.messages (search rules))) (YieldsList-from_slice c.args.apps.now (cc)) (cc) (cc) (cc) (cc)) (YieldsList-from_slice c.args.windows.now (cc))) c.loop-message.yielded c.loop-message.message-iterator c.loop-message.yielded_by c.next.result c.next.new.self (c.in-Some.message, c.in-Some.window) c.in-Some.is c.next.ensures.steps in
    let name : c.as_bytes.result.now ≡ c.in-Some.message.now.name = search rules in
    let opens : c.unsigned_abs.result ≡ unsigned_abs c.in-Some.window.now.0 = search rules in
    let closes : c.unsigned_abs-in-loop-message.result ≡ unsigned_abs c.in-Some.window.now.1 = search rules in
    on_err _ (stops_in_loop line_of message_item (zip (messages_in c.args.apps.now) c.args.windows.now) (length c.loop-message.yielded) (c.in-Some.message.now, c.in-Some.window.now) t.0 c.loop-message.invariant (rw (name, opens, closes) (ap (λ p. line_of (message_item p)) t.1)) c.in_err-write_line.ensures.err)
