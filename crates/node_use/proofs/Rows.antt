-- Pairs of tasks by their rows
use Rattle.std.proofs.Common.{◌≡◌, ℕ, zero, suc, ◌+◌, ◌<◌, refl, sym, ◌∙◌, ap, arith, List, [], ◌∷◌, ◌++◌, append_assoc, append-nil, length, map, drop, drop-cons, get_or, Bool, true, false, cond, ltb, eqb, ◌&&◌, add-one}
use Rattle.std.specs.List.{flat_map}
use Rattle.std.proofs.lemmas.Grind.{flat_map-append}
use Rattle.app_graph.specs.declared.mode_set.App.{App}
use Rattle.app_graph.specs.declared.mode_set.Task.{Task}
use Rattle.sched_model.specs.Numbers.{below}
use Rattle.sched_model.specs.PlainMode.{PlainMode, TaskOfApp, plain_task, no_task, task_at, tasks_of}
use Rattle.sched_model.specs.ConstraintProblem.{order, orders, ordered}
use Rattle.node_use.specs.declared.sharing.TaskRow.{TaskRow}
use Rattle.node_use.specs.Pairs.{numbers_of, pairs_of, pair_at, pairs_with, row_at, row_of}

-- one more number below n
pub flat_below-suc : {X : Type 0} (f : ℕ → List X) (n : ℕ) → flat_map f (below (suc n)) ≡ flat_map f (below n) ++ f n
flat_below-suc f n = flat_map-append f (below n) (n ∷ []) ∙ ap (λ l. flat_map f (below n) ++ l) (append-nil (f n))

pub one_more : {X : Type 0} (f : ℕ → List X) (n : ℕ) (xs ys zs : List X) → ys ≡ xs ++ flat_map f (below n) → zs ≡ ys ++ f n → zs ≡ xs ++ flat_map f (below (n + 1))
one_more f n xs ys zs e h = rw add-one (h ∙ ap (λ l. l ++ f n) e ∙ append_assoc xs (flat_map f (below n)) (f n) ∙ ap (λ l. xs ++ l) (sym (flat_below-suc f n)))

-- the same, from none
pub first_more : {X : Type 0} (f : ℕ → List X) (n : ℕ) (ys zs : List X) → ys ≡ flat_map f (below n) → zs ≡ ys ++ f n → zs ≡ flat_map f (below (n + 1))
first_more f n ys zs e h = rw add-one (h ∙ ap (λ l. l ++ f n) e ∙ sym (flat_below-suc f n))

map_both : {X Y : Type 0} (h : X → Y) (xs ys : List X) → map h (xs ++ ys) ≡ map h xs ++ map h ys
map_both h [] ys = refl
map_both h (x ∷ xs) ys = ap (λ l. h x ∷ l) (map_both h xs ys)

map_flat : {W X Y : Type 0} (h : X → Y) (f : W → List X) (ws : List W) → map h (flat_map f ws) ≡ flat_map (λ w. map h (f w)) ws
map_flat h f [] = refl
map_flat h f (w ∷ ws) = map_both h (f w) (flat_map f ws) ∙ ap (λ l. map h (f w) ++ l) (map_flat h f ws)

same_below : {X : Type 0} (f g : ℕ → List X) (n : ℕ) → ((i : ℕ) → i < n → f i ≡ g i) → flat_map f (below n) ≡ flat_map g (below n)
same_below f g zero e = refl
same_below f g (suc n) e =
    flat_below-suc f n ∙ ap (λ l. l ++ f n) (same_below f g n (λ i l. e i (omega arith))) ∙ ap (λ l. flat_map g (below n) ++ l) (e n (omega arith)) ∙ sym (flat_below-suc g n)

number_at : (ts : List TaskOfApp) (a : ℕ) → a < length ts → (row_at (map row_of ts) a).number ≡ (get_or (map plain_task ts) a no_task).number
number_at [] a l = absurd (omega arith)
number_at (t ∷ ts) zero l = refl
number_at (t ∷ ts) (suc a) l = number_at ts a (omega arith)

node_at : (ts : List TaskOfApp) (a : ℕ) → a < length ts → (row_at (map row_of ts) a).node ≡ (get_or (map plain_task ts) a no_task).node
node_at [] a l = absurd (omega arith)
node_at (t ∷ ts) zero l = refl
node_at (t ∷ ts) (suc a) l = node_at ts a (omega arith)

length-rows : (ts : List TaskOfApp) → length (map row_of ts) ≡ length ts
length-rows [] = refl
length-rows (t ∷ ts) = ap suc (length-rows ts)

length-plain : (ts : List TaskOfApp) → length (map plain_task ts) ≡ length ts
length-plain [] = refl
length-plain (t ∷ ts) = ap suc (length-plain ts)

map_cond : {X Y : Type 0} (h : X → Y) (t : Bool) (x : X) → map h (cond t (x ∷ []) []) ≡ cond t (h x ∷ []) []
map_cond h true x = refl
map_cond h false x = refl

-- the pair of numbers u and v, where a is before b and n and k are one node
abbrev met : ℕ → ℕ → ℕ → ℕ → ℕ → ℕ → List (ℕ × ℕ)
met a b n k u v = cond (ltb a b && eqb n k) ((u, v) ∷ []) []

same_pair : (a b n k u v n' k' u' v' : ℕ) → n ≡ n' → k ≡ k' → u ≡ u' → v ≡ v' → met a b n k u v ≡ met a b n' k' u' v'
same_pair a b n k u v n' k' u' v' p q r s = rw (p, q, r, s)

pair_is : (m : PlainMode) (ts : List TaskOfApp) → m.tasks ≡ map plain_task ts → (a b : ℕ) → a < length ts → b < length ts → pair_at (map row_of ts) a b ≡ map (numbers_of m) (ordered m a b)
pair_is m ts e a b l k =
    same_pair a b (row_at (map row_of ts) a).node (row_at (map row_of ts) b).node (row_at (map row_of ts) a).number (row_at (map row_of ts) b).number
    (task_at m a).node (task_at m b).node (task_at m a).number (task_at m b).number
    (node_at ts a l ∙ ap (λ us. (get_or us a no_task).node) (sym e)) (node_at ts b k ∙ ap (λ us. (get_or us b no_task).node) (sym e))
    (number_at ts a l ∙ ap (λ us. (get_or us a no_task).number) (sym e)) (number_at ts b k ∙ ap (λ us. (get_or us b no_task).number) (sym e))
    ∙ sym (map_cond (numbers_of m) (ltb a b && eqb (task_at m a).node (task_at m b).node) (order a b))

-- the pairs among the rows of a mode's tasks are its pairs
pub pairs_are : (m : PlainMode) (ts : List TaskOfApp) → m.tasks ≡ map plain_task ts → flat_map (pairs_with (map row_of ts)) (below (length (map row_of ts))) ≡ pairs_of m
pairs_are m ts e =
    let n : length (map row_of ts) ≡ length m.tasks = length-rows ts ∙ sym (length-plain ts) ∙ ap length (sym e) in
    let inner = λ (a : ℕ) (l : a < length (map row_of ts)).
    same_below (pair_at (map row_of ts) a) (λ b. map (numbers_of m) (ordered m a b)) (length (map row_of ts))
    (λ b k. pair_is m ts e a b (omega (arith, l, length-rows ts)) (omega (arith, k, length-rows ts)))
    ∙ ap (λ k. flat_map (λ b. map (numbers_of m) (ordered m a b)) (below k)) n ∙ sym (map_flat (numbers_of m) (ordered m a) (below (length m.tasks))) in
    same_below (pairs_with (map row_of ts)) (λ a. map (numbers_of m) (orders m a)) (length (map row_of ts)) inner
    ∙ ap (λ k. flat_map (λ a. map (numbers_of m) (orders m a)) (below k)) n ∙ sym (map_flat (numbers_of m) (orders m) (below (length m.tasks)))

-- ---- the rows of the tasks of applications
abbrev pub shown : Task → TaskRow
shown t = record { number = t.number; node = t.node }

map_row : (i : ℕ) (app : App) (ts : List Task) → map row_of (map (λ t. record { place = i; app = app; task = t }) ts) ≡ map shown ts
map_row i app [] = refl
map_row i app (t ∷ ts) = ap (λ l. shown t ∷ l) (map_row i app ts)

rows_next : (i : ℕ) (app : App) (rest : List App) → map row_of (tasks_of i (app ∷ rest)) ≡ map shown app.tasks ++ map row_of (tasks_of (i + 1) rest)
rows_next i app rest =
    rw add-one (map_both row_of (map (λ t. record { place = i; app = app; task = t }) app.tasks) (tasks_of (suc i) rest)
    ∙ ap (λ l. l ++ map row_of (tasks_of (suc i) rest)) (map_row i app app.tasks))

pub rows_step : (apps : List App) (i : ℕ) (app : App) (xs ys whole : List TaskRow) → i < length apps → app ≡ get_or apps i app → ys ≡ xs ++ map shown app.tasks →
    xs ++ map row_of (tasks_of i (drop i apps)) ≡ whole → ys ++ map row_of (tasks_of (i + 1) (drop (i + 1) apps)) ≡ whole
rows_step apps i app xs ys whole l is e h =
    let d : drop i apps ≡ app ∷ drop (i + 1) apps = rw add-one (drop-cons apps i app l ∙ ap (λ a. a ∷ drop (suc i) apps) (sym is)) in
    ap (λ zs. zs ++ map row_of (tasks_of (i + 1) (drop (i + 1) apps))) e
    ∙ append_assoc xs (map shown app.tasks) (map row_of (tasks_of (i + 1) (drop (i + 1) apps)))
    ∙ ap (λ zs. xs ++ zs) (sym (rows_next i app (drop (i + 1) apps)))
    ∙ ap (λ as'. xs ++ map row_of (tasks_of i as')) (sym d)
    ∙ h
