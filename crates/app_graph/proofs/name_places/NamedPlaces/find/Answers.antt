use Rattle.std.proofs.Common.{◌∙◌, ◌<◌, ◌^◌, List, ℕ, Option, length, ap, sym, subst, position, unwrap_or}
use Rattle.std.specs.Str.{bytes_eq}
use Rattle.app_graph.proofs.FirstPlaces.{place_small}
use Rattle.app_graph.proofs.name_places.NamedPlaces.find.Goals as goal

pub returns-clause-place : goal.returns-clause-place
returns-clause-place g c =
    let f = g.T.Named.name in
    c.unwrap_or.ensures
    ∙ ap (λ (o : Option ℕ). unwrap_or o 0) (
    c.copied.ensures ∙ c.get.ensures.value
    ∙ c.self.invariant.0 c.as_bytes.result.now
    ∙ ap (λ (name : List ℕ). position (λ x. bytes_eq name (f x)) c.self.inside.items.now) c.as_bytes.ensures
    ∙ ap (position (λ x. bytes_eq c.args.name.now (f x))) c.self.view_is
    )

pub returns-clause-small : goal.returns-clause-small
returns-clause-small g c =
    subst (λ (n : ℕ). n < 2 ^ 31) (sym (returns-clause-place g c))
    (place_small (λ x. bytes_eq c.args.name.now (g.T.Named.name x)) c.args.self.now (2 ^ 31) (subst (λ xs. length xs < 2 ^ 31) c.self.view_is c.self.invariant.1))
