use Rattle.std.proofs.Common.{◌≡◌, ◌∙◌, ℕ, List, length, take, drop, refl, sym, ap, subst, arith, rules}
use Rattle.std.proofs.lemmas.List.{drop_at, take_all, length-append}
use Rattle.tick_num.specs.Differences.{MeetsAll, NegativeCycle}
use Rattle.sched_model.specs.ConstraintProblem.{in_force}
use Rattle.branch_search.specs.Forcing.{before_last, with_last}
use Rattle.branch_search.proofs.Forces.{whole_force, cycle_forced}
use Rattle.branch_search.proofs.seeing.force.Goals as goal

pub returns-in-Solvable-clause-seen : goal.returns-in-Solvable-clause-seen
returns-in-Solvable-clause-seen g c =
    let m = g.P.Posed.mode c.args.problem.now in
    let r = g.P.Posed.rounds c.args.problem.now in
    let w = c.in-Solvable.ensures.pushes in
    let forced = w.0 ∙ sym (whole_force m r c.args.prefix.now c.requires.few) in
    (record { slots = c.requires.slots; loads = c.requires.roomy; values = (w.1.0, subst (MeetsAll w.1.0) forced w.1.1) }, forced, refl)

pub returns-in_ok-extend_from_slice-in-Closed-clause-seen : goal.returns-in_ok-extend_from_slice-in-Closed-clause-seen
returns-in_ok-extend_from_slice-in-Closed-clause-seen g c =
    let m = g.P.Posed.mode c.args.problem.now in
    let r = g.P.Posed.rounds c.args.problem.now in
    let p = c.args.prefix.now in
    let w = c.in-Closed.ensures.pushes in
    let old = c.args.refs.now.items in
    let numbers = c.cycle-numbers.result.now in
    let refs = c.extend_from_slice.new.self.items in
    let put = c.in_ok-extend_from_slice-in-Closed.ensures.items in
    let from : length old ≡ c.len-from.result = search rules in
    let read : take (length numbers) (drop c.len-from.result refs) ≡ numbers =
    ap (λ (l : List ℕ). take (length numbers) (drop c.len-from.result l)) put ∙ ap (take (length numbers)) (drop_at old numbers c.len-from.result from) ∙ take_all (length numbers) numbers (omega arith) in
    let cycle = cycle_forced (in_force m r p) (before_last m r p) (with_last m r p) c.go_down.new.store.list w.0 numbers (whole_force m r p c.requires.few) w.1 c.cycle-numbers.ensures.cycle in (
      (λ n rest. (
        c.requires.slots,
        c.requires.roomy,
        omega (arith, ap (λ (l : List ℕ). length l) read, c.cycle-numbers.ensures.size, c.in-Closed.ensures.variables, c.requires.variables),
        subst (NegativeCycle (in_force m r p)) (sym read) cycle,
        refl,
      )),
      omega (arith, from, ap (λ (l : List ℕ). length l) put, length-append old numbers),
      (numbers, put),
      (take w.0 (with_last m r p), w.1),
    )
