use Rattle.std.proofs.Common.{ℕ, List, sym, ap, ◌∙◌}
use Rattle.std.specs.List.{position}
use Rattle.std.specs.Str.{bytes_eq}
use Rattle.replay_script.proofs.naming.node_of.Goals as goal

pub returns-in-Some : goal.returns-in-Some
returns-in-Some c = sym c.in-Some.is ∙ c.node_place.ensures ∙ ap (λ (nodes : List (List ℕ)). position (bytes_eq c.args.name.now) nodes) c.as_slice.ensures
