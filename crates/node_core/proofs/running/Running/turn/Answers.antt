use Rattle.std.proofs.Common.{sym, subst, ◌<ℤ◌, arith}
use Rattle.std.proofs.lemmas.Int.{ints}
use Rattle.node_core.specs.Lookup.{mode_at}
use Rattle.node_core.specs.Running.{RunningNode, mode_of}
use Rattle.node_core.proofs.RegisterLemmas.{emptied_room}
use Rattle.node_core.proofs.NodeLemmas.{emptied_fit}
use Rattle.node_core.proofs.running.Running.turn.Goals as goal
use Rattle.node_core.proofs.running.Running.turn.Goals.{then-self, else-self}

pub invariant_of-self : goal.invariant_of-self
invariant_of-self c =
    let high : c.args.tick <ℤ (mode_at c.self.inside.table c.self.inside.mode).hyper = subst (λ (n : RunningNode). c.args.tick <ℤ (mode_of n).hyper) (sym c.self.view_is) c.requires.high in
    elim c.if-self.branch [
      | then-self w ↦ rw w.self-inside-is (record {
        table = c.self.invariant.table;
        spot = record { mode_known = c.self.invariant.spot.mode_known; round_known = c.self.invariant.spot.round_known; from_zero = omega (arith, ints, c.requires.low); below = omega (arith, ints, high) };
        ins = emptied_fit (mode_at c.self.inside.table c.self.inside.mode).messages w.empty.new.self w.empty.ensures;
        room = emptied_room w.empty.new.self w.empty.ensures;
      })
      | else-self w ↦ rw w.self-inside-is (record {
        table = c.self.invariant.table;
        spot = record { mode_known = c.self.invariant.spot.mode_known; round_known = c.self.invariant.spot.round_known; from_zero = omega (arith, ints, c.requires.low); below = omega (arith, ints, high) };
        ins = c.self.invariant.ins;
        room = c.self.invariant.room;
      })
    ]
