use Rattle.std.proofs.Common.{◌≡◌, ◌≤◌, ◌+◌, ◌-◌, ◌++◌, List, ℕ, length, take, drop, arith, ap, ◌∙◌, rules, length-append}
use Rattle.std.proofs.lemmas.List.{length-take, take-append-le}
use Rattle.ttw_io.specs.Outside.{Told, ReadsAt}
use Rattle.ttw_io.proofs.ReadingLemmas.{Begins-append}
use Rattle.ttw_io.proofs.reading.read_all.Goals as goal

pub loop-piece-preserved : goal.loop-piece-preserved
loop-piece-preserved g c =
    let before = c.loop-piece.bytes.items in
    let now = c.extend_from_slice.new.self.items in
    let into = c.read_at.new.into in
    let n = c.in_ok-n.n in
    let n_fits : n ≤ length into = c.in_ok-n.ensures.room in
    let added : now ≡ before ++ take n (into ++ drop c.min-room.result c.loop-piece.piece) = search rules in
    let read : now ≡ before ++ take n into = rw take-append-le at added in
    let at : c.len-at.result ≡ length before = search rules in
    let same_file = ap (λ (f : List ℕ → Told). f c.args.name.now) c.loop-piece.invariant.kept in
    let reads : ReadsAt (g.F.Files.contents c.args.files.now c.args.name.now) (length before) n into = rw (← same_file, ← at) c.in_ok-n.ensures.read in
    let longer : length now ≡ length before + length (take n into) = rw read (length-append before (take n into)) in
    let room : length into ≤ c.min-room.result = omega (arith, c.read_at.auto.into, length-take c.min-room.result c.loop-piece.piece) in
    let left : c.min-room.result ≤ c.args.most + 1 - length before = omega (arith, c.min-room.ensures) in
    record {
      room = omega (arith, length-take n into);
      front = rw read (Begins-append _ _ _ _ n_fits c.loop-piece.invariant.front reads);
      kept = c.in_ok-n.ensures.kept ∙ c.loop-piece.invariant.kept;
      counted = omega (arith, c.in_ok-n.ensures.counted);
    }
