use Rattle.std.proofs.Common.{ℕ, List, length, map, arith, ◌∙◌, ap}
use Rattle.app_graph.specs.declared.mode_set.Message.{Message}
use Rattle.sched_model.specs.declared.links.Link.{Link}
use Rattle.sched_model.specs.PlainMode.{plain_at, message_at}
use Rattle.sched_model.specs.Rows.{tasks_in, place_in}
use Rattle.sched_model.specs.Links.{set_of}
use Rattle.sched_model.proofs.RowPlaces.{how_many, few_tasks, tasks_are, from_known, to_known, message_shown}
use Rattle.sched_model.proofs.links.link_at.Goals as goal

pub find_message-requires : goal.find_message-requires
find_message-requires c = omega (arith, c.requires.place, how_many c.args.set.now c.args.mode c.apps_of-apps.result.now c.apps_of-apps.ensures)

pub mask-requires-clause-few : goal.mask-requires-clause-few
mask-requires-clause-few c = few_tasks c.args.set.now c.args.mode c.apps_of-apps.result.now c.apps_of-apps.ensures c.requires.rules c.requires.mode

pub mask-requires-clause-known : goal.mask-requires-clause-known
mask-requires-clause-known c =
    from_known c.args.set.now c.args.mode c.apps_of-apps.result.now c.apps_of-apps.ensures c.requires.rules c.requires.mode c.args.place c.requires.place
    c.as_slice.result.now (c.as_slice.ensures ∙ ap (λ (x : Message). x.from) c.find_message.ensures.message)

pub mask-requires-2-clause-few : goal.mask-requires-2-clause-few
mask-requires-2-clause-few c = few_tasks c.args.set.now c.args.mode c.apps_of-apps.result.now c.apps_of-apps.ensures c.requires.rules c.requires.mode

pub mask-requires-2-clause-known : goal.mask-requires-2-clause-known
mask-requires-2-clause-known c =
    to_known c.args.set.now c.args.mode c.apps_of-apps.result.now c.apps_of-apps.ensures c.requires.rules c.requires.mode c.args.place c.requires.place
    c.as_slice-2.result.now (c.as_slice-2.ensures ∙ ap (λ (x : Message). x.to) c.find_message.ensures.message)

pub returns : goal.returns
returns c =
    let xs = c.apps_of-apps.result.now in
    let m = plain_at c.args.set.now c.args.mode in
    let shown = message_shown c.args.set.now c.args.mode xs c.apps_of-apps.ensures c.requires.rules c.requires.mode c.args.place c.requires.place in
    let count = tasks_are c.args.set.now c.args.mode xs c.apps_of-apps.ensures in
    let from = c.mask.ensures ∙ ap (λ (l : List ℕ). set_of (length (tasks_in xs)) (map (place_in (tasks_in xs)) l)) (c.as_slice.ensures ∙ ap (λ (x : Message). x.from) c.find_message.ensures.message)
    ∙ ap (set_of (length (tasks_in xs))) shown.from ∙ ap (λ n. set_of n (message_at m c.args.place).from) count in
    let to = c.mask-2.ensures ∙ ap (λ (l : List ℕ). set_of (length (tasks_in xs)) (map (place_in (tasks_in xs)) l)) (c.as_slice-2.ensures ∙ ap (λ (x : Message). x.to) c.find_message.ensures.message)
    ∙ ap (set_of (length (tasks_in xs))) shown.to ∙ ap (λ n. set_of n (message_at m c.args.place).to) count in
    ap (λ n. let l : Link = record { from = n; to = c.mask-2.result } in l) from ∙ ap (λ n. let l : Link = record { from = set_of (length m.tasks) (message_at m c.args.place).from; to = n } in l) to
