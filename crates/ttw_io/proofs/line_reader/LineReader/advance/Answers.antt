use Rattle.std.proofs.Common.{ap, subst, sym, ℕ, List}
use Rattle.ttw_io.specs.LineReading.{IsOf, ReadLines}
use Rattle.ttw_io.specs.Outside.{Told}
use Rattle.ttw_io.proofs.LineReaderLemmas.{answers_found, answers_refused, of_handed}
use Rattle.ttw_io.proofs.line_reader.LineReader.advance.Goals as goal

pub returns-in-Ok-clause-answer : goal.returns-in-Ok-clause-answer
returns-in-Ok-clause-answer g c =
    let told = g.F.Files.contents c.args.files.now c.args.name.now in
    λ _. answers_found told c.args.self.now c.find.new.self c.hand_out.new.self (g.F.Files.faults c.args.files.now) (g.F.Files.faults c.find.new.files) c.in-Ok.len c.in-Ok.ensures.on c.in-Ok.ensures.ok c.hand_out.ensures

pub returns-in-Ok-clause-of_file : goal.returns-in-Ok-clause-of_file
returns-in-Ok-clause-of_file g c =
    let told = g.F.Files.contents c.args.files.now c.args.name.now in
    let of_file = of_handed told c.find.new.self c.in-Ok.len c.in-Ok.ensures.on.of_file c.in-Ok.ensures.ok.within in
    subst (λ (f : List ℕ → Told). IsOf (f c.args.name.now) c.hand_out.new.self) (sym c.in-Ok.ensures.kept)
    (subst (IsOf told) (sym c.hand_out.ensures) of_file)

pub returns-in-Err-clause-answer : goal.returns-in-Err-clause-answer
returns-in-Err-clause-answer g c =
    let told = g.F.Files.contents c.args.files.now c.args.name.now in
    let view = c.self-in-Err.view_is in
    λ _. answers_refused told c.args.self.now c.find.new.self _ (g.F.Files.faults c.args.files.now) (g.F.Files.faults c.find.new.files) c.in-Err.end c.in-Err.ensures.on c.in-Err.ensures.err
    (ap (λ (r : ReadLines). r.most) view)
    (ap (λ (r : ReadLines). r.handed) view)
    (ap (λ (r : ReadLines). r.ahead) view)
    (ap (λ (r : ReadLines). r.ended) view)
