use Rattle.std.proofs.Common.{refl, ◌≡◌, ◌<◌, ◌+◌, ◌-◌, ◌++◌, ◌∙◌, ap, subst, arith, ℕ, List, length, take, drop, length-take, length-drop}
use borrow.Rule.Slice.PartMut.{put_mid}
use Rattle.ttw_io.specs.Outside.{ReadsAt}
use Rattle.ttw_io.specs.LineReading.{ReadLines}
use Rattle.ttw_io.proofs.LineReaderLemmas.{moved_then, reads_more}
use Rattle.ttw_io.proofs.line_reader.LineReader.fill.Goals as goal

pub returns-clause-on : goal.returns-clause-on
returns-clause-on g c =
    let old = c.args.self.now in
    let told = g.F.Files.contents c.args.files.now c.args.name.now in
    let inside = c.self.inside in
    let items = inside.buffer.items in
    let e = inside.end - inside.next in
    let n = c.in_ok-n.n in
    let into = c.read_at.new.into in
    let view = c.self.view_is in
    let ahead = ap (λ (r : ReadLines). r.ahead) view in
    let handed = ap (λ (r : ReadLines). r.handed) view in
    let kept = c.copy_within.ensures.len in
    let long = c.deref_mut.ensures.len in
    let some = c.in_ok-n.ensures.room in
    let place : inside.handed + e ≡ old.handed + length old.ahead = omega (arith, ap length ahead, length-take e (drop inside.next items), length-drop inside.next items) in
    let room : length into ≡ length c.deref_mut.result.now - e = omega (arith, c.read_at.auto.into, length-drop e c.deref_mut.result.now) in
    let most = ap (λ (r : ReadLines). r.most) view in
    let free : e < length c.deref_mut.result.now = omega (arith, ap length ahead, length-take e (drop inside.next items), length-drop inside.next items, c.requires.room) in
    let start : e + n - 0 ≡ e + n = omega arith in
    let ws = put_mid e (length c.deref_mut.result.now - e) c.deref_mut.result.now into in
    let more = drop (length ws) c.copy_within.new.self.items in
    reads_more told old _ into n c.requires.of_file c.requires.not_ended (omega arith) (subst (λ at. ReadsAt told at n into) place c.in_ok-n.ensures.read)
    most
    handed
    (ap (λ (r : ReadLines). r.refusal) view)
    (ap (λ m. take m (take c.copy_within.new.self.len (ws ++ more))) start ∙ moved_then items into more c.deref_mut.result.now inside.next e (length c.deref_mut.result.now - e) n c.copy_within.new.self.len (c.deref_mut.ensures.value ∙ c.copy_within.ensures.items) (omega arith) (omega arith) some (omega arith) ∙ ap (λ (xs : List ℕ). xs ++ take n into) ahead)
    refl
