use Rattle.std.proofs.Common.{◌≡◌, ◌∙◌, ◌∷◌, ap, arith, length, refl, rules, subst, sym, ℕ, List, true, false}
use Rattle.std.specs.Prelude.{IfSome}
use Rattle.ttw_io.specs.Outside.{Told}
use Rattle.ttw_io.specs.LineReading.{IsLong, IsOf, ReadLines}
use Rattle.cert_checker.specs.Machine.{leads}
use Rattle.cert_checker.specs.FileChecking.{OfBytes}
use Rattle.proof_tree.specs.Refusing.{Refuses}
use Rattle.cert_checker.specs.declared.files.CheckEnd.TheVariants as ends
use Rattle.cert_checker.specs.declared.refused.Refused.{Refused}
use Rattle.cert_checker.specs.DocumentStages.{Refutes}
use Rattle.cert_checker.specs.Refusals.{said}
use Rattle.cert_checker.proofs.Errors.{handed_on}
use Rattle.cert_checker.proofs.FileLines.{IsFresh, accepts_end, ends_at, follows_fresh, follows_more, fresh_is_of, hands_at, refuses_end, refuses_line, refuses_long}
use Rattle.cert_checker.proofs.files.check_from.Goals as goal

pub loop-checker-init : goal.loop-checker-init
loop-checker-init g c =
    let told = g.F.Files.contents c.args.files.now c.args.name.now in
    let reader = c.in_ok-reader.reader in
    let made = c.in_ok-reader.ensures in
    let fresh : IsFresh reader = record {
      handed = ap (λ (r : ReadLines). r.handed) made;
      ahead = ap (λ (r : ReadLines). r.ahead) made;
      ended = ap (λ (r : ReadLines). r.ended) made;
    } in
    record {
      ready = c.begin-checker.ensures.ready c.args.set.now;
      of_file = fresh_is_of told reader fresh;
      place = fresh.handed ∙ sym c.begin-checker.ensures.place;
      most = ap (λ (r : ReadLines). r.most) made;
      refusal = ap (λ (r : ReadLines). r.refusal) made;
      goes = follows_fresh told c.args.set.now c.begin-checker.result reader fresh (c.begin-checker.ensures.leads c.args.set.now);
      kept = refl;
      counted = omega arith;
    }

pub loop-checker-preserved : goal.loop-checker-preserved
loop-checker-preserved g c =
    let told = g.F.Files.contents c.args.files.now c.args.name.now in
    let set = c.args.set.now in
    let l = c.loop-checker in
    let new = c.advance.new.self in
    let more = c.in_ok-take-in-Ok-true in
    let next = c.take.new.self in
    let all_kept = c.in-Ok-true.ensures.kept ∙ l.invariant.kept in
    let before = ap (λ (f : List ℕ → Told). f c.args.name.now) l.invariant.kept in
    let behind = ap (λ (f : List ℕ → Told). f c.args.name.now) all_kept in
    let is : c.in-Ok-true.field-0 ≡ true = search rules in
    let hands = hands_at (g.F.Files.contents l.files c.args.name.now) told l.reader new (g.F.Files.faults l.files) (g.F.Files.faults c.advance.new.files) c.in-Ok-true.field-0 before is (c.in-Ok-true.ensures.answer l.invariant.refusal) in
    let line : c.line.result.now ≡ new.line = c.line.ensures in
    record {
      ready = more.ensures.ready;
      of_file = subst (λ (t : Told). IsOf t new) behind c.in-Ok-true.ensures.of_file;
      place = omega (arith, hands.handed, l.invariant.place, more.ensures.place, ap length line);
      most = c.in-Ok-true.ensures.most ∙ l.invariant.most;
      refusal = c.in-Ok-true.ensures.ok;
      goes = follows_more told set l.checker next l.reader new l.invariant.goes hands (λ rest. ap (λ (b : List ℕ). leads set l.checker (b ∷ rest)) (sym line) ∙ more.ensures.leads rest);
      kept = all_kept;
      counted = omega (arith, c.in-Ok-true.ensures.counted, l.invariant.counted);
    }

pub returns-in_err-take-in-Ok-true-clause-refused : goal.returns-in_err-take-in-Ok-true-clause-refused
returns-in_err-take-in-Ok-true-clause-refused g c =
    let told = g.F.Files.contents c.args.files.now c.args.name.now in
    let set = c.args.set.now in
    let l = c.loop-checker in
    let new = c.advance.new.self in
    let e = c.in_err-take-in-Ok-true.field-0.0 in
    let before = ap (λ (f : List ℕ → Told). f c.args.name.now) l.invariant.kept in
    let behind = ap (λ (f : List ℕ → Told). f c.args.name.now) (c.in-Ok-true.ensures.kept ∙ l.invariant.kept) in
    let is : c.in-Ok-true.field-0 ≡ true = search rules in
    let hands = hands_at (g.F.Files.contents l.files c.args.name.now) told l.reader new (g.F.Files.faults l.files) (g.F.Files.faults c.advance.new.files) c.in-Ok-true.field-0 before is (c.in-Ok-true.ensures.answer l.invariant.refusal) in
    let of_file = subst (λ (t : Told). IsOf t new) behind c.in-Ok-true.ensures.of_file in
    let line : c.line.result.now ≡ new.line = c.line.ensures in
    handed_on c.from_residual-in_err-take-in-Ok-true.result (ends.Refused e) _ c.from_residual-in_err-take-in-Ok-true.ensures.1
    (refuses_line told set l.checker e l.reader new l.invariant.goes hands of_file (λ rest. subst (λ (b : List ℕ). Refutes set e (leads set l.checker (b ∷ rest))) line (c.in_err-take-in-Ok-true.ensures.err rest)))

pub returns-in-Err-Long-clause-refused : goal.returns-in-Err-Long-clause-refused
returns-in-Err-Long-clause-refused g c =
    let told = g.F.Files.contents c.args.files.now c.args.name.now in
    let set = c.args.set.now in
    let l = c.loop-checker in
    let new = c.advance.new.self in
    let before = ap (λ (f : List ℕ → Told). f c.args.name.now) l.invariant.kept in
    let behind = ap (λ (f : List ℕ → Told). f c.args.name.now) (c.in-Err-Long.ensures.kept ∙ l.invariant.kept) in
    let answer = rw c.in-Err-Long.field-0-is at (c.in-Err-Long.ensures.answer l.invariant.refusal) in
    let long : IsLong told l.reader new = subst (λ (t : Told). IsLong t l.reader new) before answer in
    let of_file = subst (λ (t : Told). IsOf t new) behind c.in-Err-Long.ensures.of_file in
    subst (λ (e : Refused). IfSome (said e) (λ f. OfBytes told (λ bytes. Refuses set bytes f))) (sym c.no_form.ensures)
    (refuses_long told set l.checker l.reader new l.invariant.goes l.invariant.ready l.invariant.most long of_file)

pub returns-in_err-end-clause-refused : goal.returns-in_err-end-clause-refused
returns-in_err-end-clause-refused g c =
    let told = g.F.Files.contents c.args.files.now c.args.name.now in
    let set = c.args.set.now in
    let l = c.loop-checker in
    let e = c.in_err-end.field-0.0 in
    let before = ap (λ (f : List ℕ → Told). f c.args.name.now) l.invariant.kept in
    let is : c.in-Ok-false.field-0 ≡ false = search rules in
    let left = ends_at (g.F.Files.contents l.files c.args.name.now) told l.reader c.advance.new.self (g.F.Files.faults l.files) (g.F.Files.faults c.advance.new.files) c.in-Ok-false.field-0 before is (c.in-Ok-false.ensures.answer l.invariant.refusal) in
    handed_on c.from_residual-in_err-end.result (ends.Refused e) _ c.from_residual-in_err-end.ensures.1
    (refuses_end told set l.checker e l.reader l.invariant.goes left (c.in_err-end.ensures.err set l.invariant.ready))

pub returns-clause-accepted : goal.returns-clause-accepted
returns-clause-accepted g c =
    let told = g.F.Files.contents c.args.files.now c.args.name.now in
    let set = c.args.set.now in
    let l = c.loop-checker in
    let before = ap (λ (f : List ℕ → Told). f c.args.name.now) l.invariant.kept in
    let is : c.in-Ok-false.field-0 ≡ false = search rules in
    let left = ends_at (g.F.Files.contents l.files c.args.name.now) told l.reader c.advance.new.self (g.F.Files.faults l.files) (g.F.Files.faults c.advance.new.files) c.in-Ok-false.field-0 before is (c.in-Ok-false.ensures.answer l.invariant.refusal) in
    accepts_end told set l.checker l.reader c.in_ok-end.field-0.modes l.invariant.goes left (λ text. c.in_ok-end.ensures.accepted set text l.invariant.ready)

pub returns-clause-best : goal.returns-clause-best
returns-clause-best g c =
    let told = g.F.Files.contents c.args.files.now c.args.name.now in
    let set = c.args.set.now in
    let l = c.loop-checker in
    let before = ap (λ (f : List ℕ → Told). f c.args.name.now) l.invariant.kept in
    let is : c.in-Ok-false.field-0 ≡ false = search rules in
    let left = ends_at (g.F.Files.contents l.files c.args.name.now) told l.reader c.advance.new.self (g.F.Files.faults l.files) (g.F.Files.faults c.advance.new.files) c.in-Ok-false.field-0 before is (c.in-Ok-false.ensures.answer l.invariant.refusal) in
    let all = accepts_end told set l.checker l.reader c.in_ok-end.field-0.modes l.invariant.goes left (λ text. c.in_ok-end.ensures.accepted set text l.invariant.ready) in
    c.accepted_are_best.ensures set all.0 c.in_ok-end.field-0.modes c.requires all.2
