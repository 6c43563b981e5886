use Rattle.std.proofs.Common.{◌≡◌, ◌++◌, [], ◌∷◌, filter_map, length, subst, sym, rules}
use Rattle.std.proofs.lemmas.Result.{err_from_is_err_and}
use Rattle.replay_script.specs.Fitting.{FitsScript}
use Rattle.replay_script.proofs.Limits.{kept_fits}
use Rattle.replay_script.proofs.ReadSoFar.{read_more, read_faulty, whole_fits}
use Rattle.replay_script.proofs.script.read_script.Goals as goal

pub read_line-requires-clause-fits : goal.read_line-requires-clause-fits
read_line-requires-clause-fits c = kept_fits c.args.set.now c.requires

pub returns-in_err-read-clause-exact : goal.returns-in_err-read-clause-exact
returns-in_err-read-clause-exact c =
    let p = err_from_is_err_and c.from_residual.result c.from_residual.ensures.1 in
    let l = c.loop-line in
    rw (p.1, p.2)
    (read_faulty c.args.set.now c.args.text.now l.from l.number l.sum l.script.items l.invariant c.in-Some.line.now c.in-Some.next c.in_err-read.field-0.0
    c.in-Some.ensures.line c.in-Some.ensures.next c.in_err-read.ensures.err)

pub loop-line-preserved : goal.loop-line-preserved
loop-line-preserved c =
    let l = c.loop-line in
    let r = c.in_ok-read in
    read_more c.args.set.now c.args.text.now l.from l.number l.sum l.script.items l.invariant c.in-Some.line.now c.in-Some.next r.read.sum c.put.new.script.items
    c.in-Some.ensures.line c.in-Some.ensures.next c.in-Some.ensures.within r.ensures.within.0 r.ensures.within.1 r.ensures.sum r.ensures.ok
    (subst (λ o. c.put.new.script.items ≡ l.script.items ++ filter_map (λ l. l) (o ∷ [])) r.ensures.line c.in_ok-put.ensures.ok)

pub returns-clause-fits : goal.returns-clause-fits
returns-clause-fits c =
    let l = c.loop-line in
    let end : l.from ≡ length c.args.text.now = search rules in
    subst (FitsScript c.args.set.now) (sym c.from_vec.ensures)
    (whole_fits c.args.set.now c.args.text.now l.from l.number l.sum l.script.items l.invariant end)
