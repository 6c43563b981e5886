use Rattle.std.proofs.Common.{◌-◌, sym, ◌∙◌, arith}
use Rattle.std.proofs.lemmas.Result.{err_from_is_err_and}
use Rattle.node_tables.proofs.ListLemmas.{prefixed_fault}
use Rattle.node_tables.proofs.entries.read_list.Goals as goal

pub returns-in_err-item-clause-err : goal.returns-in_err-item-clause-err
returns-in_err-item-clause-err g c =
    let l = c.loop in
    let fault = c.in_err-item.field-0.0 in
    let p = err_from_is_err_and c.from_residual.result c.from_residual.ensures.1 in
    rw (p.1, p.2)
    (λ known. sym l.invariant.so_far ∙ prefixed_fault (g.T.Entry.reading c.args.version) l.items.items (c.args.count - l.counter) l.reader fault (omega arith) (c.in_err-item.ensures.err known))
