use Rattle.std.proofs.Common.{◌≡◌, ◌≢◌, Result, Ok, Err, IfOk, IfErr, arith}
use Rattle.std.proofs.lemmas.Grind.{common_steps}
use Rattle.node_tables.specs.Reading as reads
use Rattle.node_tables.specs.declared.fault.ImageFault.{ImageFault}
use Rattle.node_tables.specs.declared.fault.ImageFault.TheVariants.{Trailing, Memory}
use Rattle.node_tables.specs.declared.tables.NodeTable.{NodeTable}
use Rattle.node_tables.proofs.Images.{image-read, in_range-read, only_image}
use Rattle.node_tables.proofs.image.read_image.Goals as goal

pub returns-in_err-table-clause-only : goal.returns-in_err-table-clause-only
returns-in_err-table-clause-only c =
    let r = c.from_residual.result in
    let ok : IfOk r (λ t. reads.read c.args.bytes.now ≡ Ok t) = grind (arith, common_steps) in
    let err : IfErr r (λ fault. fault ≢ Memory → reads.read c.args.bytes.now ≡ Err fault) = grind (arith, common_steps) in
    only_image c.args.bytes.now r ok err

pub returns-then-not-is_at_end-clause-only : goal.returns-then-not-is_at_end-clause-only
returns-then-not-is_at_end-clause-only c =
    let r : Result NodeTable ImageFault = Err Trailing in
    let err : reads.read c.args.bytes.now ≡ Err Trailing = grind (arith, common_steps) in
    only_image c.args.bytes.now r tt (λ known. err)

pub returns-clause-image : goal.returns-clause-image
returns-clause-image c =
    let ok : reads.read c.args.bytes.now ≡ Ok c.in_ok-table.table = grind (arith, common_steps) in
    image-read c.args.bytes.now (λ i. (c.type_inv.bytes i).fits) c.in_ok-table.table ok

pub returns-clause-only : goal.returns-clause-only
returns-clause-only c =
    let r : Result NodeTable ImageFault = Ok c.in_ok-table.table in
    let ok : reads.read c.args.bytes.now ≡ Ok c.in_ok-table.table = grind (arith, common_steps) in
    only_image c.args.bytes.now r ok tt

pub returns-clause-in_range : goal.returns-clause-in_range
returns-clause-in_range c =
    let ok : reads.read c.args.bytes.now ≡ Ok c.in_ok-table.table = grind (arith, common_steps) in
    in_range-read c.args.bytes.now (λ i. (c.type_inv.bytes i).fits) c.in_ok-table.table ok
