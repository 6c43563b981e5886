use Rattle.std.proofs.Common.{◌≡◌, ◌∙◌, List, ℕ, is_some, true, false, sym, ap, rules}
use Rattle.std.specs.Map.{lookup}
use Rattle.app_graph.specs.Places.{named}
use Rattle.app_graph.proofs.FirstPlaces.{place_new, place_old}
use Rattle.app_graph.proofs.name_places.first_places.Goals as goal
use Rattle.app_graph.proofs.name_places.first_places.Goals.{then-not-contains_key+in_ok-insert, else-not-contains_key}

pub loop-i-preserved : goal.loop-i-preserved
loop-i-preserved g c = λ name.
    let f = g.T.Named.name in
    let item = c.index-items-i.result in
    let es = c.loop-i.places.entries in
    let test : is_some (lookup (named (f item)) es) ≡ c.contains_key.result = ap (λ (n : List ℕ). is_some (lookup (named n) es)) (sym c.name_bytes.ensures) ∙ sym c.contains_key.ensures in
    elim c.if-not-contains_key.branch [
      | then-not-contains_key+in_ok-insert w ↦
          let absent : c.contains_key.result ≡ false = search rules in
          ap (λ m. lookup (named name) m.entries) w.places-is
          ∙ place_new f c.args.items.now c.loop-i.i item w.name_bytes-then-not-contains_key.result es w.insert.new.self.entries c.loop-i-test.true c.index-items-i.is w.name_bytes-then-not-contains_key.ensures (test ∙ absent) w.in_ok-insert.ensures.entries c.loop-i.invariant name
      | else-not-contains_key w ↦
          let some : c.contains_key.result ≡ true = search rules in
          ap (λ m. lookup (named name) m.entries) w.places-is
          ∙ place_old f c.args.items.now c.loop-i.i item es c.loop-i-test.true c.index-items-i.is (test ∙ some) c.loop-i.invariant name
    ]
