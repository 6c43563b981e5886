-- Walks in the graph of a mode, and the times along them
use Rattle.std.proofs.Common.{◌≡◌, ℕ, zero, suc, ◌+◌, ◌<◌, ◌≤◌, true, false, eqb, ◌&&◌, List, length, get_or, Contains, refl, sym, ◌∙◌, ap, subst, arith, ⊎_elim, ℤ, pos, ◌+ℤ◌, ◌≤ℤ◌, ◌<ℤ◌}
use Rattle.std.specs.List.{list_any}
use Rattle.std.proofs.lemmas.Int.{ints}
use Rattle.std.proofs.lemmas.Bool.{cases_Bool, eqb-true, eq-eqb, and_parts, and_from, or_cases, or_left, or_right, not-false}
use Rattle.sched_model.specs.PlainMode.{PlainMode, PlainMessage, task_at, message_at, no_message}
use Rattle.sched_model.specs.Numbers.{below, has}
use Rattle.sched_model.specs.TaskGraph.{edge, IsEdge, Walk, Reaches, first, last, reaches, reaches_in}
use Rattle.sched_model.specs.ConstraintProblem.{latest}
use Rattle.sched_model.specs.ValidMode.{IsValid}
use Rattle.sched_model.proofs.Tests.{passed, passes, passed_below, passes_below}

pub has_contains : (xs : List ℕ) (x : ℕ) → has xs x ≡ true → Contains xs x
has_contains xs x e = let k = passed (eqb x) xs x e in (k.0, k.1, sym (eqb-true x (get_or xs k.0 x) k.2))

pub contains_has : (xs : List ℕ) (x : ℕ) → Contains xs x → has xs x ≡ true
contains_has xs x c = passes (eqb x) xs x c.0 c.1 (eq-eqb x (get_or xs c.0 x) (sym c.2))

pub message_edge : (m : PlainMode) (i a b : ℕ) → i < length m.messages → Contains (message_at m i).from a → Contains (message_at m i).to b → IsEdge m a b
message_edge m i a b l p q = passes (λ (msg : PlainMessage). has msg.from a && has msg.to b) m.messages no_message i l
    (and_from (has (message_at m i).from a) (has (message_at m i).to b) (contains_has _ a p) (contains_has _ b q))

pub edge_message : (m : PlainMode) (a b : ℕ) → IsEdge m a b → (i : ℕ) × (i < length m.messages) × Contains (message_at m i).from a × Contains (message_at m i).to b
edge_message m a b e =
    let k = passed (λ (msg : PlainMessage). has msg.from a && has msg.to b) m.messages no_message e in
    let w = and_parts (has (message_at m k.0).from a) (has (message_at m k.0).to b) k.2 in
    (k.0, k.1, has_contains _ a w.0, has_contains _ b w.1)

pub walk_more : (m : PlainMode) (n a c b : ℕ) → Walk m a c n → IsEdge m c b → Walk m a b (suc n)
walk_more m zero a c b w e = (b, subst (λ x. IsEdge m x b) (sym w) e, refl)
walk_more m (suc n) a c b w e = (w.0, w.1, walk_more m n w.0 c b w.2 e)

pub reaches_walk : (m : PlainMode) (k a b : ℕ) → reaches_in k m a b ≡ true → Reaches m a b
reaches_walk m zero a b e = (zero, eqb-true a b e)
reaches_walk m (suc k) a b e =
    let go = λ (c : ℕ). edge m a c && reaches_in k m c b in
    ⊎_elim
    (λ (h : eqb a b ≡ true). (zero, eqb-true a b h))
    (λ (h : list_any go (below (length m.tasks)) ≡ true).
    let c = passed_below go (length m.tasks) h in
    let w = and_parts (edge m a c.0) (reaches_in k m c.0 b) c.2 in
    let r = reaches_walk m k c.0 b w.1 in
    (suc r.0, (c.0, w.0, r.1)))
    (or_cases (eqb a b) (list_any go (below (length m.tasks))) e)

module _ (m : PlainMode) (ok : IsValid m) where
  walk_rank : (n a b : ℕ) → Walk m a b n → ok.rank a + n ≤ ok.rank b
  walk_rank zero a b w = omega (arith, ap ok.rank w)
  walk_rank (suc n) a b w = omega (arith, walk_rank n w.0 b w.2, (ok.edges a w.0 w.1).later)

  walk_reaches : (n k a b : ℕ) → n ≤ k → Walk m a b n → reaches_in k m a b ≡ true
  walk_reaches zero zero a b le w = eq-eqb a b w
  walk_reaches (suc n) zero a b le w = absurd (omega arith)
  walk_reaches zero (suc k) a b le w = or_left (eqb a b) _ (eq-eqb a b w)
  walk_reaches (suc n) (suc k) a b le w = or_right (eqb a b) _
      (passes_below (λ (c : ℕ). edge m a c && reaches_in k m c b) (length m.tasks) w.0 (ok.edges a w.0 w.1).to
      (and_from (edge m a w.0) (reaches_in k m w.0 b) w.1 (walk_reaches n k w.0 b (omega arith) w.2)))

  pub reached : (a b : ℕ) → b < length m.tasks → Reaches m a b → reaches m a b ≡ true
  reached a b l w = walk_reaches w.0 (length m.tasks) a b (omega (arith, walk_rank w.0 a b w.1, ok.ranks b l)) w.1

  -- each task is reached from a first one, and reaches a last one
  first_within : (k a : ℕ) → ok.rank a < k → a < length m.tasks → (f : ℕ) × (f < length m.tasks) × (first m f ≡ true) × Reaches m f a
  first_within zero a h l = absurd (omega arith)
  first_within (suc k) a h l =
      let t = list_any (λ (msg : PlainMessage). has msg.to a) m.messages in
      ⊎_elim
      (λ (yes : first m a ≡ true). (a, l, yes, (zero, refl)))
      (λ (no : first m a ≡ false).
      let i = passed (λ (msg : PlainMessage). has msg.to a) m.messages no_message (not-false t no) in
      let c = ok.producer i.0 i.1 in
      let e = message_edge m i.0 c.0 a i.1 c.1 (has_contains _ a i.2) in
      let j = ok.edges c.0 a e in
      let r = first_within k c.0 (omega (arith, j.later)) j.from in
      (r.0, r.1, r.2, (suc r.3.0, walk_more m r.3.0 r.0 c.0 a r.3.1 e)))
      (cases_Bool (first m a))

  last_within : (k a : ℕ) → length m.tasks ≤ ok.rank a + k → a < length m.tasks → (t : ℕ) × (t < length m.tasks) × (last m t ≡ true) × Reaches m a t
  last_within zero a h l = absurd (omega (arith, ok.ranks a l))
  last_within (suc k) a h l =
      let t = list_any (λ (msg : PlainMessage). has msg.from a) m.messages in
      ⊎_elim
      (λ (yes : last m a ≡ true). (a, l, yes, (zero, refl)))
      (λ (no : last m a ≡ false).
      let i = passed (λ (msg : PlainMessage). has msg.from a) m.messages no_message (not-false t no) in
      let c = ok.consumer i.0 i.1 in
      let e = message_edge m i.0 a c.0 i.1 (has_contains _ a i.2) c.1 in
      let j = ok.edges a c.0 e in
      let r = last_within k c.0 (omega (arith, j.later)) j.to in
      (r.0, r.1, r.2, (suc r.3.0, (c.0, e, r.3.1))))
      (cases_Bool (last m a))

  walk_app : (n a b : ℕ) → Walk m a b n → ((task_at m a).period ≡ (task_at m b).period) × ((task_at m a).deadline ≡ (task_at m b).deadline)
  walk_app zero a b w = (ap (λ x. (task_at m x).period) w, ap (λ x. (task_at m x).deadline) w)
  walk_app (suc n) a b w =
      let j = ok.edges a w.0 w.1 in
      let r = walk_app n w.0 b w.2 in
      (j.period ∙ r.0, j.deadline ∙ r.1)

  -- times that rise along each edge rise along each walk
  walk_times : (t : ℕ → ℤ) → ((a b : ℕ) → IsEdge m a b → (t a +ℤ pos (task_at m a).wcet) ≤ℤ t b) → (n a b : ℕ) → Walk m a b n → (t a ≤ℤ t b) × ((t a +ℤ pos (task_at m a).wcet) ≤ℤ (t b +ℤ pos (task_at m b).wcet))
  walk_times t up zero a b w = let e = ap t w in let f = ap (λ x. (task_at m x).wcet) w in (omega (arith, ints, e), omega (arith, ints, e, f))
  walk_times t up (suc n) a b w =
      let r = walk_times t up n w.0 b w.2 in
      let e = up a w.0 w.1 in
      (omega (arith, ints, r, e), omega (arith, ints, r, e))

  -- no task starts after its latest time
  pub never_late : (t : ℕ → ℤ) → ((a b : ℕ) → IsEdge m a b → (t a +ℤ pos (task_at m a).wcet) ≤ℤ t b)
      → ((f : ℕ) → f < length m.tasks → first m f ≡ true → t f <ℤ pos (task_at m f).period)
      → ((f l : ℕ) → f < length m.tasks → l < length m.tasks → first m f ≡ true → last m l ≡ true → Reaches m f l → (t l +ℤ pos (task_at m l).wcet) ≤ℤ (t f +ℤ pos (task_at m f).deadline))
      → (a : ℕ) → a < length m.tasks → t a ≤ℤ latest (task_at m a)
  never_late t up early chain a l =
      let f = first_within (suc (ok.rank a)) a (omega arith) l in
      let z = last_within (length m.tasks) a (omega arith) l in
      let whole = joined f.3.0 f.0 a z.0 f.3.1 z.3 in
      let app = walk_app f.3.0 f.0 a f.3.1 in
      omega (arith, ints, early f.0 f.1 f.2, chain f.0 z.0 f.1 z.1 f.2 z.2 whole, walk_times t up z.3.0 a z.0 z.3.1, app)
    where
      joined : (n a b c : ℕ) → Walk m a b n → Reaches m b c → Reaches m a c
      joined zero a b c w r = subst (λ x. Reaches m x c) (sym w) r
      joined (suc n) a b c w r = let s = joined n w.0 b c w.2 r in (suc s.0, (w.0, w.1, s.1))
