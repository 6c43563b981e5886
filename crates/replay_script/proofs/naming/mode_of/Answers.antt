use Rattle.std.proofs.Common.{List, sym, ap, ◌∙◌}
use Rattle.std.specs.List.{position}
use Rattle.std.specs.Str.{bytes_eq}
use Rattle.app_graph.specs.declared.mode_set.Mode.{Mode}
use Rattle.replay_script.proofs.naming.mode_of.Goals as goal

pub returns-in-Some : goal.returns-in-Some
returns-in-Some c = sym c.in-Some.is ∙ c.mode_place.ensures ∙ ap (λ (modes : List Mode). position (λ mode. bytes_eq c.args.name.now mode.name) modes) c.as_slice.ensures
