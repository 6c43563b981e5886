-- The next tick in which something is due
use Rattle.std.proofs.Common.{◌≡◌, ℕ, ◌+◌, ◌-◌, ◌*◌, ◌/◌, ◌%◌, ◌<◌, ◌≤◌, List, length, get_or, take, ◌∙◌, ap, arith, ⊎_elim, ℤ, unsigned_abs}
use Rattle.std.proofs.lemmas.Bool.{cases_lt, ne_eqb}
use Rattle.std.proofs.lemmas.List.Elements.{All-more}
use Rattle.std.proofs.lemmas.Nat.{div-add-mod', mod-mul-add}
use Rattle.world_core.specs.declared.due.DueTask.{DueTask}
use Rattle.world_core.specs.Due.{IsIdle, NeverAt, NoTask, NoRound}

-- the place of tick u, of a tick before it within one period
same_period : (t u period : ℕ) → t ≤ u → t % period + (u - t) < period → u % period ≡ t % period + (u - t)
same_period t u period l h =
    let d = div-add-mod' t period in
    ap (λ z. z % period) (let e : u ≡ t / period * period + (t % period + (u - t)) = omega (arith, d, l) in e) ∙ mod-mul-add (t / period) period (t % period + (u - t)) h

-- and one period later
next_period : (t u period : ℕ) → t ≤ u → period ≤ t % period + (u - t) → t % period + (u - t) - period < period → u % period ≡ t % period + (u - t) - period
next_period t u period l low h =
    let d = div-add-mod' t period in
    ap (λ z. z % period) (let e : u ≡ (t / period + 1) * period + (t % period + (u - t) - period) = omega (arith, d, l, low) in e) ∙ mod-mul-add (t / period + 1) period (t % period + (u - t) - period) h

pub never_soon : (t place period : ℕ) → t % period ≤ place → place < period → NeverAt t (t + (place - t % period)) place period
never_soon t place period past h u l b =
    let e = same_period t u period l (omega (arith, l, b, past, h)) in
    ne_eqb place (u % period) (λ same. omega (arith, e, same, b, l, past))

pub never_later : (t place period : ℕ) → place < t % period → t % period < period → NeverAt t (t + (period - t % period + place)) place period
never_later t place period past h u l b =
    ⊎_elim
    (λ (less : t % period + (u - t) < period).
    let e = same_period t u period l less in
    ne_eqb place (u % period) (λ same. omega (arith, e, same, past)))
    (λ (more : period ≤ t % period + (u - t)).
    let e = next_period t u period l more (omega (arith, l, b, past, h, more)) in
    ne_eqb place (u % period) (λ same. omega (arith, e, same, b, l, past, h, more)))
    (cases_lt (t % period + (u - t)) period)

-- one task more
pub no_task_more : (tasks : List DueTask) (k from old next : ℕ) (d : DueTask) → k < length tasks → next ≤ old → NoTask (take k tasks) from old
    → NeverAt from next (get_or tasks k d).end (get_or tasks k d).period → NeverAt from next (get_or tasks k d).start (get_or tasks k d).period
    → NoTask (take (k + 1) tasks) from next
no_task_more tasks k from old next d l le quiet ends starts u lu bu =
    All-more (IsIdle u) tasks k d l (quiet u lu (omega (arith, bu, le))) (ends u lu bu, starts u lu bu)

-- one round more
pub no_round_more : (starts : List ℤ) (k from old next : ℕ) (d : ℤ) → k < length starts → next ≤ old → NoRound (take k starts) from old
    → (from ≤ unsigned_abs (get_or starts k d) → next ≤ unsigned_abs (get_or starts k d)) → NoRound (take (k + 1) starts) from next
no_round_more starts k from old next d l le quiet one =
    All-more (λ z. from ≤ unsigned_abs z → next ≤ unsigned_abs z) starts k d l (λ j e h late. omega (arith, quiet j e h late, le)) one
