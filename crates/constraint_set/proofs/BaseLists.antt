-- The parts of the base list, one after another, and the sizes of the durations in it
use Rattle.std.proofs.Common.{◌≡◌, ℕ, suc, ◌+◌, ◌-◌, ◌<◌, ◌≤◌, List, [], ◌∷◌, ◌++◌, length, get_or, take, map, Contains, sym, ◌∙◌, ap, subst, arith}
use Rattle.std.specs.List.{flat_map}
use Rattle.std.proofs.lemmas.List.{take_more}
use Rattle.std.proofs.lemmas.Grind.{flat_map-append}
use Rattle.std.proofs.Common.{append_assoc, append-nil}
use Rattle.sched_model.specs.Numbers.{below}
use Rattle.sched_model.specs.PlainMode.{PlainMode, task_at, message_at}
use Rattle.sched_model.specs.ValidMode.{IsValid}
use Rattle.sched_model.specs.ModeLimits.{IsLimited}
use Rattle.tick_num.specs.declared.differences.Diff.{Diff}
use Rattle.sched_model.specs.ConstraintProblem.{base, next_round, turn, of_task, of_message, of_first, Decision, decisions, serves, orders}
use Rattle.std.proofs.lemmas.List.Elements.{Contains-get_or}
use Rattle.sched_model.proofs.Graph.{message_edge}
use Rattle.sched_model.proofs.Lists.{flat_below-suc, length-below, get_or-map_below}
use Rattle.std.proofs.lemmas.List.{length-map, map-append}

-- one part more
pub below_step : {X : Type 0} (f : ℕ → List X) (n : ℕ) (start old new : List X) → old ≡ start ++ flat_map f (below n) → new ≡ old ++ f n → new ≡ start ++ flat_map f (below (n + 1))
below_step {X} f n start old new h s =
    s ∙ ap (λ (l : List X). l ++ f n) h ∙ append_assoc start (flat_map f (below n)) (f n)
    ∙ ap (λ (l : List X). start ++ l) (sym (flat_below-suc f n))
    ∙ ap (λ k. start ++ flat_map f (below k)) (let o : suc n ≡ n + 1 = omega arith in o)

pub take_step : {X A : Type 0} (f : A → List X) (xs : List A) (i : ℕ) (x : A) (start old new : List X) → i < length xs → x ≡ get_or xs i x
    → old ≡ start ++ flat_map f (take i xs) → new ≡ old ++ f x → new ≡ start ++ flat_map f (take (i + 1) xs)
take_step {X} {A} f xs i x start old new l e h s =
    s ∙ ap (λ (y : List X). y ++ f x) h ∙ append_assoc start (flat_map f (take i xs)) (f x)
    ∙ ap (λ (y : List X). start ++ (flat_map f (take i xs) ++ y)) (sym (append-nil (f x)))
    ∙ ap (λ (y : List X). start ++ y) (sym (flat_map-append f (take i xs) (x ∷ [])))
    ∙ ap (λ (y : A). start ++ flat_map f (take i xs ++ y ∷ [])) e
    ∙ ap (λ (y : List A). start ++ flat_map f y) (sym (take_more xs i x l))

-- the durations of a task
pub task_times : (m : PlainMode) (a : ℕ) → IsValid m → IsLimited m → a < length m.tasks
    → ((task_at m a).period ≤ 1000000000) × ((task_at m a).wcet ≤ 1000000000) × ((task_at m a).deadline ≤ 1000000000000)
task_times m a ok lim l =
    let p = (lim.periods _ (ok.task_period a l)).1 in
    (p, omega (arith, p, (ok.wcet a l).1), omega (arith, ok.deadline a l, ok.hyper_limit))

pub message_times : (m : PlainMode) (i : ℕ) → IsValid m → IsLimited m → i < length m.messages → (message_at m i).period ≤ 1000000000
message_times m i ok lim l = (lim.periods _ (ok.message_period i l)).1

-- the places of a message's producers and consumers are those of tasks
pub producers_within : (m : PlainMode) (i : ℕ) (xs : List ℕ) → IsValid m → i < length m.messages → xs ≡ (message_at m i).from
    → (k d : ℕ) → k < length xs → get_or xs k d < length m.tasks
producers_within m i xs ok l e k d h =
    let a = get_or xs k d in
    let t = ok.consumer i l in
    let here : Contains (message_at m i).from a = subst (λ (ys : List ℕ). Contains ys a) e (Contains-get_or xs k d h) in
    (ok.edges a t.0 (message_edge m i a t.0 l here t.1)).from

pub consumers_within : (m : PlainMode) (i : ℕ) (xs : List ℕ) → IsValid m → i < length m.messages → xs ≡ (message_at m i).to
    → (k d : ℕ) → k < length xs → get_or xs k d < length m.tasks
consumers_within m i xs ok l e k d h =
    let b = get_or xs k d in
    let a = ok.producer i l in
    let here : Contains (message_at m i).to b = subst (λ (ys : List ℕ). Contains ys b) e (Contains-get_or xs k d h) in
    (ok.edges a.0 b (message_edge m i a.0 b l a.1 here)).to

-- ---- the whole list
regroup : {X : Type 0} (a b c d e : List X) → (((a ++ b) ++ c) ++ d) ++ e ≡ a ++ (b ++ (c ++ (d ++ e)))
regroup a b c d e = simp append_assoc

pub five_parts : (m : PlainMode) (r : ℕ) (l0 l1 l2 l3 l4 l5 : List Diff) → l0 ≡ [] → l1 ≡ l0 ++ flat_map (next_round m) (below (r - 1)) → l2 ≡ l1 ++ turn m r
    → l3 ≡ l2 ++ flat_map (of_task m r) (below (length m.tasks)) → l4 ≡ l3 ++ flat_map (of_message m r) (below (length m.messages))
    → l5 ≡ l4 ++ flat_map (of_first m r) (below (length m.tasks)) → l5 ≡ base m r
unfolding base
five_parts m r l0 l1 l2 l3 l4 l5 e0 e1 e2 e3 e4 e5 =
    let a = flat_map (next_round m) (below (r - 1)) in
    let c = flat_map (of_task m r) (below (length m.tasks)) in
    let d = flat_map (of_message m r) (below (length m.messages)) in
    let e = flat_map (of_first m r) (below (length m.tasks)) in
    e5
    ∙ ap (λ (l : List Diff). l ++ e) (e4 ∙ ap (λ (l : List Diff). l ++ d) (e3 ∙ ap (λ (l : List Diff). l ++ c) (e2 ∙ ap (λ (l : List Diff). l ++ turn m r) (e1 ∙ ap (λ (l : List Diff). l ++ a) e0))))
    ∙ regroup a (turn m r) c d e

-- ---- the decisions
pub map_step : {X : Type 0} (f : ℕ → X) (n : ℕ) (start old new : List X) → old ≡ start ++ map f (below n) → new ≡ old ++ f n ∷ [] → new ≡ start ++ map f (below (n + 1))
map_step {X} f n start old new h s =
    s ∙ ap (λ (l : List X). l ++ f n ∷ []) h ∙ append_assoc start (map f (below n)) (f n ∷ [])
    ∙ ap (λ (l : List X). start ++ l) (sym (map-append f (below n) (n ∷ [])))
    ∙ ap (λ k. start ++ map f (below k)) (let o : suc n ≡ n + 1 = omega arith in o)

pub two_parts : (m : PlainMode) (l0 l1 l2 : List Decision) → l0 ≡ [] → l1 ≡ l0 ++ flat_map (serves m) (below (length m.messages))
    → l2 ≡ l1 ++ flat_map (orders m) (below (length m.tasks)) → l2 ≡ decisions m
unfolding decisions
two_parts m l0 l1 l2 e0 e1 e2 =
    e2 ∙ ap (λ (l : List Decision). l ++ flat_map (orders m) (below (length m.tasks))) (e1 ∙ ap (λ (l : List Decision). l ++ flat_map (serves m) (below (length m.messages))) e0)

-- ---- a list with a value for each of the numbers below n
pub listed_length : {X : Type 0} (f : ℕ → X) (n : ℕ) (xs : List X) → xs ≡ map f (below n) → length xs ≡ n
listed_length f n xs e = ap length e ∙ length-map (below n) f ∙ length-below n

pub listed_at : {X : Type 0} (f : ℕ → X) (n : ℕ) (xs : List X) (i : ℕ) (d : X) → xs ≡ map f (below n) → i < n → get_or xs i d ≡ f i
listed_at {X} f n xs i d e l = ap (λ (ys : List X). get_or ys i d) e ∙ get_or-map_below f n i d l

pub message_some : (m : PlainMode) (i : ℕ) → IsValid m → i < length m.messages → 0 < (message_at m i).period
message_some m i ok l = let p = ok.periods _ (ok.message_period i l) in omega (arith, p)
