use Rattle.std.proofs.Common.{rules, SFits, w64, ℕ, subst, sym}
use Rattle.std.proofs.lemmas.Int.{to_z-of_z}
use Rattle.node_core.specs.Lookup.{mode_at}
use Rattle.node_core.specs.Fits.{InsFit}
use Rattle.node_core.proofs.RegisterLemmas.{emptied_room}
use Rattle.node_core.proofs.NodeLemmas.{emptied_fit}
use Rattle.node_core.proofs.running.Running.hear.Goals as goal
use Rattle.node_core.proofs.running.Running.hear.Goals.{then-spot-self, else-spot-self}

pub invariant_of-self : goal.invariant_of-self
invariant_of-self c =
    let start : SFits w64 c.spot_of-spot.result.start = search rules in
    elim c.if-spot-self.branch [
      | then-spot-self w ↦ rw w.self-inside-is (record {
        table = c.self.invariant.table;
        spot = simp to_z-of_z c.spot_of-spot.ensures.in_range;
        ins = emptied_fit (mode_at c.self.inside.table c.spot_of-spot.result.mode).messages w.empty.new.self w.empty.ensures;
        room = emptied_room w.empty.new.self w.empty.ensures;
      })
      | else-spot-self w ↦ rw w.self-inside-is (record {
        table = c.self.invariant.table;
        spot = simp to_z-of_z c.spot_of-spot.ensures.in_range;
        ins = subst (λ (i : ℕ). InsFit (mode_at c.self.inside.table i).messages c.self.inside.registers.ins) (sym w.if-spot-self.false) c.self.invariant.ins;
        room = c.self.invariant.room;
      })
    ]
