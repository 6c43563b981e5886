use Rattle.std.proofs.Common.{List, not, ◌∙◌, ap}
use Rattle.std.specs.List.{list_any}
use Rattle.sched_model.specs.declared.links.Link.{Link}
use Rattle.sched_model.specs.Links.{in_set}
use Rattle.sched_model.proofs.Sources.{last_is}
use Rattle.sched_model.proofs.links.TaskGraph.is_last.Goals as goal

pub returns : goal.returns
returns c = λ m e.
    ap not (c.some_comes_from.ensures ∙ ap (λ (ls : List Link). list_any (λ (l : Link). in_set l.from c.args.place) ls) c.links.ensures.value)
    ∙ last_is m c.args.self.now c.args.place e c.requires c.links.ensures.few
