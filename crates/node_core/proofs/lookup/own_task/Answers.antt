use Rattle.std.proofs.Common.{◌≡◌, ◌<◌, List, length, get_or, rules, subst, sym, ℕ, Ok, Err, Some, pos}
use Rattle.std.specs.List.Sorted.{IsBinarySearchResult}
use Rattle.std.specs.Ordering.{nat_cmp}
use Rattle.std.proofs.lemmas.List.Sorted.{answers_always}
use Rattle.node_tables.specs.declared.tables.OwnTask.{OwnTask}
use Rattle.node_core.specs.Lookup.{own_task}
use Rattle.node_core.proofs.SearchLemmas.{found_at, found_err}
use Rattle.node_core.proofs.lookup.own_task.Goals as goal

abbrev number_of : OwnTask → ℕ
number_of t = t.number

pub returns-in-Ok : goal.returns-in-Ok
returns-in-Ok c =
    let answer : IsBinarySearchResult (λ y. nat_cmp (number_of y) c.args.number) c.as_slice-tasks.result.now (Ok c.in-Ok.place) = c.in-Ok.ensures.position number_of (answers_always _ _ _ (λ f a r q k. search rules)) in
    let found = subst (λ (xs : List OwnTask). IsBinarySearchResult (λ y. nat_cmp (number_of y) c.args.number) xs (Ok c.in-Ok.place)) c.as_slice-tasks.ensures answer in
    let at = subst (λ (xs : List OwnTask). c.in-Ok.place < length xs) c.as_slice-tasks.ensures c.in-Ok.ensures.bound in
    let none : OwnTask = record { number = 0; period = pos 0; offset = pos 0; wcet = pos 0 } in
    subst (λ (xs : List OwnTask). Some (get_or xs c.in-Ok.place none) ≡ own_task c.args.mode.now.tasks c.args.number) (sym c.as_slice-tasks.ensures)
    (found_at number_of c.args.mode.now.tasks c.args.number c.in-Ok.place none c.requires found at)

pub returns-in-Err : goal.returns-in-Err
returns-in-Err c =
    let answer : IsBinarySearchResult (λ y. nat_cmp (number_of y) c.args.number) c.as_slice-tasks.result.now (Err c.in-Err.field-0) = c.in-Err.ensures.position number_of (answers_always _ _ _ (λ f a r q k. search rules)) in
    found_err number_of c.args.mode.now.tasks c.args.number c.in-Err.field-0 c.requires
    (subst (λ (xs : List OwnTask). IsBinarySearchResult (λ y. nat_cmp (number_of y) c.args.number) xs (Err c.in-Err.field-0)) c.as_slice-tasks.ensures answer)
