use Rattle.std.proofs.Common.{◌≡◌, ◌<◌, List, length, get_or, rules, subst, ℕ, Ok, Err}
use Rattle.std.specs.List.Sorted.{IsBinarySearchResult}
use Rattle.std.specs.Ordering.{nat_cmp}
use Rattle.std.proofs.lemmas.List.Sorted.{answers_always}
use Rattle.node_tables.specs.declared.tables.OwnMessage.{OwnMessage}
use Rattle.node_core.proofs.SearchLemmas.{found_read, found_err}
use Rattle.node_core.proofs.lookup.own_message.Goals as goal

abbrev number_of : OwnMessage → ℕ
number_of m = m.number

pub returns-in-Ok : goal.returns-in-Ok
returns-in-Ok c =
    let at = subst (λ (xs : List OwnMessage). c.in-Ok.place < length xs) c.as_slice-messages.ensures c.in-Ok.ensures.bound in
    let read = subst (λ (xs : List OwnMessage). c.index-messages-place.result ≡ get_or xs c.in-Ok.place c.index-messages-place.result) c.as_slice-messages.ensures c.index-messages-place.is in
    let answer : IsBinarySearchResult (λ y. nat_cmp (number_of y) c.args.number) c.as_slice-messages.result.now (Ok c.in-Ok.place) = c.in-Ok.ensures.position number_of (answers_always _ _ _ (λ f a r q k. search rules)) in
    let found = subst (λ (xs : List OwnMessage). IsBinarySearchResult (λ y. nat_cmp (number_of y) c.args.number) xs (Ok c.in-Ok.place)) c.as_slice-messages.ensures answer in
    found_read number_of c.args.mode.now.messages c.args.number c.in-Ok.place c.index-messages-place.result c.requires found at read

pub returns-in-Err : goal.returns-in-Err
returns-in-Err c =
    let answer : IsBinarySearchResult (λ y. nat_cmp (number_of y) c.args.number) c.as_slice-messages.result.now (Err c.in-Err.field-0) = c.in-Err.ensures.position number_of (answers_always _ _ _ (λ f a r q k. search rules)) in
    found_err number_of c.args.mode.now.messages c.args.number c.in-Err.field-0 c.requires
    (subst (λ (xs : List OwnMessage). IsBinarySearchResult (λ y. nat_cmp (number_of y) c.args.number) xs (Err c.in-Err.field-0)) c.as_slice-messages.ensures answer)
