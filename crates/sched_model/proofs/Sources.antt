-- The tasks that reach another one, as sets
use Rattle.std.proofs.Common.{◌≡◌, ℕ, suc, ◌+◌, ◌*◌, ◌%◌, ◌^◌, ◌<◌, ◌≤◌, Bool, true, false, cond, not, eqb, ◌&&◌, ◌||◌, List, [], ◌∷◌, length, map, refl, sym, ◌∙◌, ap, arith, bit_and, bit_or}
use Rattle.std.specs.List.{list_any}
use Rattle.app_graph.specs.Masks.{mask_of}
use Rattle.app_graph.proofs.Marks.{and_masks, or_masks, mask_of-zero, mask_same}
use Rattle.sched_model.specs.Numbers.{below, has}
use Rattle.sched_model.specs.PlainMode.{PlainMode, PlainMessage}
use Rattle.sched_model.specs.TaskGraph.{reaches_in, first, last}
use Rattle.sched_model.specs.declared.links.Link.{Link}
use Rattle.sched_model.specs.Links.{TaskLinks, in_set, set_of, link_of, graph_of, back_from}
use Rattle.sched_model.proofs.TaskSets.{or_false, and_true, and_false, single, is_in}

-- ---- tests
or_assoc : (a b c : Bool) → ((a || b) || c) ≡ (a || (b || c))
or_assoc true b c = refl
or_assoc false b c = refl

any_none : {X : Type 0} (xs : List X) → list_any (λ x. false) xs ≡ false
any_none [] = refl
any_none (x ∷ xs) = any_none xs

any_same : {X : Type 0} (p q : X → Bool) (xs : List X) → ((x : X) → p x ≡ q x) → list_any p xs ≡ list_any q xs
any_same p q [] h = refl
any_same p q (x ∷ xs) h = ap (λ b. b || list_any p xs) (h x) ∙ ap (λ b. q x || b) (any_same p q xs h)

four : (a b c d : Bool) → ((a || b) || (c || d)) ≡ ((a || c) || (b || d))
four true b c d = refl
four false true true d = refl
four false true false d = refl
four false false c d = refl

any_or : {X : Type 0} (p q : X → Bool) (xs : List X) → list_any (λ x. p x || q x) xs ≡ (list_any p xs || list_any q xs)
any_or p q [] = refl
any_or p q (x ∷ xs) = ap (λ b. (p x || q x) || b) (any_or p q xs) ∙ four (p x) (q x) (list_any p xs) (list_any q xs)

any_and : {X : Type 0} (b : Bool) (p : X → Bool) (xs : List X) → list_any (λ x. b && p x) xs ≡ (b && list_any p xs)
any_and true p xs = refl
any_and false p xs = any_none xs

spread : (f t x p : Bool) → (((f && t) || x) && p) ≡ ((f && (t && p)) || (x && p))
spread false t x p = refl
spread true false x p = refl
spread true true true true = refl
spread true true true false = refl
spread true true false true = refl
spread true true false false = refl

-- ---- edges
abbrev goes : (ℕ → Bool) → List ℕ → ℕ → PlainMessage → Bool
goes p cs a msg = has msg.from a && list_any (λ c. has msg.to c && p c) cs

-- some task that passes is at the end of an edge, and some message goes to one that passes
by_message : (p : ℕ → Bool) (cs : List ℕ) (a : ℕ) (ms : List PlainMessage)
    → list_any (λ c. list_any (λ msg. has msg.from a && has msg.to c) ms && p c) cs ≡ list_any (goes p cs a) ms
by_message p cs a [] = any_none cs
by_message p cs a (msg ∷ ms) =
    any_same (λ c. ((has msg.from a && has msg.to c) || list_any (λ (n : PlainMessage). has n.from a && has n.to c) ms) && p c)
    (λ c. (has msg.from a && (has msg.to c && p c)) || (list_any (λ (n : PlainMessage). has n.from a && has n.to c) ms && p c)) cs
    (λ c. spread (has msg.from a) (has msg.to c) (list_any (λ (n : PlainMessage). has n.from a && has n.to c) ms) (p c))
    ∙ any_or (λ c. has msg.from a && (has msg.to c && p c)) (λ c. list_any (λ (n : PlainMessage). has n.from a && has n.to c) ms && p c) cs
    ∙ ap (λ b. b || list_any (λ c. list_any (λ (n : PlainMessage). has n.from a && has n.to c) ms && p c) cs) (any_and (has msg.from a) (λ c. has msg.to c && p c) cs)
    ∙ ap (λ b. goes p cs a msg || b) (by_message p cs a ms)

module _ (n : ℕ) (p : ℕ → Bool) where
  one_link : (q : ℕ → Bool) (msg : PlainMessage)
      → cond (eqb (bit_and (link_of n msg).to (mask_of p (below n))) 0) (mask_of q (below n)) (bit_or (mask_of q (below n)) (link_of n msg).from)
      ≡ mask_of (λ a. q a || goes p (below n) a msg) (below n)
  one_link q msg =
      let test : eqb (bit_and (link_of n msg).to (mask_of p (below n))) 0 ≡ not (list_any (λ c. has msg.to c && p c) (below n))
      = ap (λ k. eqb k 0) (and_masks (has msg.to) p (below n)) ∙ mask_of-zero (λ c. has msg.to c && p c) (below n) in
      ap (λ b. cond b (mask_of q (below n)) (bit_or (mask_of q (below n)) (link_of n msg).from)) test ∙ by_hit (list_any (λ c. has msg.to c && p c) (below n))
    where
      by_hit : (h : Bool) → cond (not h) (mask_of q (below n)) (bit_or (mask_of q (below n)) (mask_of (has msg.from) (below n))) ≡ mask_of (λ a. q a || (has msg.from a && h)) (below n)
      by_hit true = or_masks q (has msg.from) (below n) ∙ mask_same (λ a. q a || has msg.from a) (λ a. q a || (has msg.from a && true)) (below n) (λ a. ap (λ b. q a || b) (sym (and_true (has msg.from a))))
      by_hit false = mask_same q (λ a. q a || (has msg.from a && false)) (below n) (λ a. sym (or_false (q a)) ∙ ap (λ b. q a || b) (sym (and_false (has msg.from a))))

  all_links : (q : ℕ → Bool) (ms : List PlainMessage) → back_from (map (link_of n) ms) (mask_of p (below n)) (mask_of q (below n)) ≡ mask_of (λ a. q a || list_any (goes p (below n) a) ms) (below n)
  all_links q [] = mask_same q (λ a. q a || false) (below n) (λ a. sym (or_false (q a)))
  all_links q (msg ∷ ms) =
      ap (λ k. back_from (map (link_of n) ms) (mask_of p (below n)) k) (one_link q msg)
      ∙ all_links (λ a. q a || goes p (below n) a msg) ms
      ∙ mask_same (λ a. (q a || goes p (below n) a msg) || list_any (goes p (below n) a) ms) (λ a. q a || (goes p (below n) a msg || list_any (goes p (below n) a) ms)) (below n)
      (λ a. or_assoc (q a) (goes p (below n) a msg) (list_any (goes p (below n) a) ms))

-- ---- walks of more and more edges
pub no_edge : (m : PlainMode) (n b : ℕ) → length m.tasks ≡ n → b < n → n ≤ 128 → 1 * 2 ^ b % 2 ^ 128 ≡ mask_of (λ a. reaches_in 0 m a b) (below (length m.tasks))
no_edge m n b e l most = single n b l most ∙ ap (λ k. mask_of (λ a. reaches_in 0 m a b) (below k)) (sym e)

pub edge_more : (m : PlainMode) (n b k : ℕ) (links : List Link) (marked own next : ℕ) → length m.tasks ≡ n → links ≡ map (link_of n) m.messages
    → own ≡ mask_of (λ a. reaches_in 0 m a b) (below (length m.tasks)) → marked ≡ mask_of (λ a. reaches_in k m a b) (below (length m.tasks)) → next ≡ back_from links marked own
    → next ≡ mask_of (λ a. reaches_in (k + 1) m a b) (below (length m.tasks))
edge_more m count b k links marked own next size e o h s =
    let n = length m.tasks in
    s
    ∙ ap (λ (l : List Link). back_from l marked own) (e ∙ ap (λ j. map (link_of j) m.messages) (sym size))
    ∙ ap (λ x. back_from (map (link_of n) m.messages) x own) h
    ∙ ap (λ x. back_from (map (link_of n) m.messages) (mask_of (λ a. reaches_in k m a b) (below n)) x) o
    ∙ all_links n (λ a. reaches_in k m a b) (λ a. eqb a b) m.messages
    ∙ mask_same (λ a. eqb a b || list_any (goes (λ c. reaches_in k m c b) (below n) a) m.messages) (λ a. reaches_in (suc k) m a b) (below n)
    (λ a. ap (λ t. eqb a b || t) (sym (by_message (λ c. reaches_in k m c b) (below n) a m.messages)))
    ∙ ap (λ j. mask_of (λ a. reaches_in j m a b) (below n)) (let one : suc k ≡ k + 1 = omega arith in one)

-- ---- first and last tasks
goes_to : (n a : ℕ) → a < n → n ≤ 128 → (ms : List PlainMessage) → list_any (λ (l : Link). in_set l.to a) (map (link_of n) ms) ≡ list_any (λ (msg : PlainMessage). has msg.to a) ms
goes_to n a l most [] = refl
goes_to n a l most (msg ∷ ms) =
    ap (λ b. b || list_any (λ (l : Link). in_set l.to a) (map (link_of n) ms)) (is_in (set_of n msg.to) a (has msg.to) n l most refl)
    ∙ ap (λ b. has msg.to a || b) (goes_to n a l most ms)

comes_from : (n a : ℕ) → a < n → n ≤ 128 → (ms : List PlainMessage) → list_any (λ (l : Link). in_set l.from a) (map (link_of n) ms) ≡ list_any (λ (msg : PlainMessage). has msg.from a) ms
comes_from n a l most [] = refl
comes_from n a l most (msg ∷ ms) =
    ap (λ b. b || list_any (λ (l : Link). in_set l.from a) (map (link_of n) ms)) (is_in (set_of n msg.from) a (has msg.from) n l most refl)
    ∙ ap (λ b. has msg.from a || b) (comes_from n a l most ms)

pub first_is : (m : PlainMode) (g : TaskLinks) (a : ℕ) → g ≡ graph_of m → a < g.tasks → g.tasks ≤ 128 → not (list_any (λ (l : Link). in_set l.to a) g.links) ≡ first m a
first_is m g a e l most =
    let size = ap (λ (x : TaskLinks). x.tasks) e in
    ap (λ (x : TaskLinks). not (list_any (λ (y : Link). in_set y.to a) x.links)) e
    ∙ ap not (goes_to (length m.tasks) a (omega (arith, l, size)) (omega (arith, most, size)) m.messages)

pub last_is : (m : PlainMode) (g : TaskLinks) (a : ℕ) → g ≡ graph_of m → a < g.tasks → g.tasks ≤ 128 → not (list_any (λ (l : Link). in_set l.from a) g.links) ≡ last m a
last_is m g a e l most =
    let size = ap (λ (x : TaskLinks). x.tasks) e in
    ap (λ (x : TaskLinks). not (list_any (λ (y : Link). in_set y.from a) x.links)) e
    ∙ ap not (comes_from (length m.tasks) a (omega (arith, l, size)) (omega (arith, most, size)) m.messages)
