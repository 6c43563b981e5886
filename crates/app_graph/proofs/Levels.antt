-- Walks of a number of edges, and the cycles that long ones have
use Rattle.std.proofs.Common.{◌≡◌, ℕ, zero, suc, pos, ◌+◌, ◌-◌, ◌^◌, ◌<◌, ◌≤◌, Bool, true, false, cond, not, eqb, ◌&&◌, ◌||◌, List, [], ◌∷◌, length, get_or, map, Contains, refl, sym, ◌∙◌, ap, subst, arith, pos, ⊎_elim, bit_and, bit_or}
use Rattle.std.specs.List.{fold, list_any}
use Rattle.std.proofs.lemmas.Bool.{and_parts, and_from, or_cases, or_left, or_right}
use Rattle.std.proofs.lemmas.List.Elements.{Contains-get_or}
use Rattle.std.proofs.lemmas.List.Folds.{list_any_at}
use Rattle.app_graph.specs.declared.cycle_rule.Link.{Link}
use Rattle.app_graph.specs.declared.raw.RawTask.{RawTask}
use Rattle.app_graph.specs.declared.raw.RawMessage.{RawMessage}
use Rattle.app_graph.specs.declared.raw.RawApp.{RawApp}
use Rattle.app_graph.specs.ValueRules.{among, goes, goes_in, has_cycle}
use Rattle.app_graph.specs.Cycles.{Walk, OnCycle, CycleLaw}
use Rattle.app_graph.specs.Masks.{mask_of, link_of, back_from}
use Rattle.app_graph.proofs.Marks.{and_masks, or_masks, and_ones, mask_of-zero, mask_same, mask_none}
use Rattle.app_graph.proofs.Pigeons.{two_alike}

-- the message goes from the task to one that passes
abbrev pub reaches_by : List RawTask → (RawTask → Bool) → RawTask → RawMessage → Bool
reaches_by tasks p t m = among t.name m.from && list_any (λ v. among v.name m.to && p v) tasks

-- a walk of n edges begins at the task
abbrev pub begins : RawApp → ℕ → RawTask → Bool
begins app zero t = true
begins app (suc n) t = list_any (reaches_by app.tasks (begins app n) t) app.messages

-- ---- with masks
module _ (tasks : List RawTask) (p : RawTask → Bool) (marked : ℕ) (is : (a : RawTask → Bool) → bit_and (mask_of a tasks) marked ≡ mask_of (λ v. a v && p v) tasks) where
  one_link : (q : RawTask → Bool) (m : RawMessage)
      → cond (eqb (bit_and (link_of tasks m).to marked) 0) (mask_of q tasks) (bit_or (mask_of q tasks) (link_of tasks m).from)
      ≡ mask_of (λ t. q t || reaches_by tasks p t m) tasks
  one_link q m =
      let test : eqb (bit_and (link_of tasks m).to marked) 0 ≡ not (list_any (λ v. among v.name m.to && p v) tasks)
      = ap (λ n. eqb n 0) (is (λ v. among v.name m.to)) ∙ mask_of-zero (λ v. among v.name m.to && p v) tasks in
      ap (λ b. cond b (mask_of q tasks) (bit_or (mask_of q tasks) (link_of tasks m).from)) test ∙ by_hit (list_any (λ v. among v.name m.to && p v) tasks)
    where
      by_hit : (h : Bool) → cond (not h) (mask_of q tasks) (bit_or (mask_of q tasks) (mask_of (λ t. among t.name m.from) tasks)) ≡ mask_of (λ t. q t || (among t.name m.from && h)) tasks
      by_hit true = or_masks q (λ t. among t.name m.from) tasks
          ∙ mask_same (λ t. q t || among t.name m.from) (λ t. q t || (among t.name m.from && true)) tasks (λ t. ap (λ b. q t || b) (sym (and_true (among t.name m.from))))
        where
          and_true : (b : Bool) → (b && true) ≡ b
          and_true true = refl
          and_true false = refl
      by_hit false = mask_same q (λ t. q t || (among t.name m.from && false)) tasks (λ t. same (q t) (among t.name m.from))
        where
          same : (a b : Bool) → a ≡ (a || (b && false))
          same true b = refl
          same false true = refl
          same false false = refl

  all_links : (q : RawTask → Bool) (ms : List RawMessage)
      → fold (λ next link. cond (eqb (bit_and link.to marked) 0) next (bit_or next link.from)) (mask_of q tasks) (map (link_of tasks) ms)
      ≡ mask_of (λ t. q t || list_any (reaches_by tasks p t) ms) tasks
  all_links q [] = mask_same q (λ t. q t || false) tasks (λ t. sym (or_false (q t)))
    where
      or_false : (b : Bool) → (b || false) ≡ b
      or_false true = refl
      or_false false = refl
  all_links q (m ∷ ms) =
      ap (λ n. fold (λ next (link : Link). cond (eqb (bit_and link.to marked) 0) next (bit_or next link.from)) n (map (link_of tasks) ms)) (one_link q m)
      ∙ all_links (λ t. q t || reaches_by tasks p t m) ms
      ∙ mask_same (λ t. (q t || reaches_by tasks p t m) || list_any (reaches_by tasks p t) ms) (λ t. q t || (reaches_by tasks p t m || list_any (reaches_by tasks p t) ms)) tasks
      (λ t. or_assoc (q t) (reaches_by tasks p t m) (list_any (reaches_by tasks p t) ms))
    where
      or_assoc : (a b c : Bool) → ((a || b) || c) ≡ (a || (b || c))
      or_assoc true b c = refl
      or_assoc false b c = refl

  pub back_is : (ms : List RawMessage) → back_from (map (link_of tasks) ms) marked ≡ mask_of (λ t. list_any (reaches_by tasks p t) ms) tasks
  back_is ms =
      ap (λ n. fold (λ next (link : Link). cond (eqb (bit_and link.to marked) 0) next (bit_or next link.from)) n (map (link_of tasks) ms)) (sym (mask_none tasks))
      ∙ all_links (λ _. false) ms

pub back_first : (app : RawApp) → length app.tasks ≤ 128 → back_from (map (link_of app.tasks) app.messages) (2 ^ 128 - 1) ≡ mask_of (begins app 1) app.tasks
back_first app l = back_is app.tasks (λ _. true) (2 ^ 128 - 1)
    (λ a. and_ones a app.tasks l ∙ mask_same a (λ v. a v && true) app.tasks (λ v. same (a v))) app.messages
  where
    same : (b : Bool) → b ≡ (b && true)
    same true = refl
    same false = refl

pub back_more : (app : RawApp) (n : ℕ) → back_from (map (link_of app.tasks) app.messages) (mask_of (begins app n) app.tasks) ≡ mask_of (begins app (suc n)) app.tasks
back_more app n = back_is app.tasks (begins app n) (mask_of (begins app n) app.tasks) (λ a. and_masks a (begins app n) app.tasks) app.messages

-- ---- walks
passed : {A : Type 0} (p : A → Bool) (xs : List A) (d : A) → list_any p xs ≡ true → (k : ℕ) × (k < length xs) × (p (get_or xs k d) ≡ true)
passed p [] d e = absurd (cc)
passed p (x ∷ xs) d e = ⊎_elim
    (λ (h : p x ≡ true). (0, omega arith, h))
    (λ (h : list_any p xs ≡ true). let r = passed p xs d h in (suc r.0, omega (arith, r.1), r.2))
    (or_cases (p x) (list_any p xs) e)

found : {A : Type 0} (p : A → Bool) (xs : List A) (x : A) → Contains xs x → p x ≡ true → list_any p xs ≡ true
found p xs x c e = list_any_at p xs c.0 x c.1 (ap p c.2 ∙ e)

module _ (app : RawApp) where
  begins_step : (k : ℕ) (t d : RawTask) → begins app (suc k) t ≡ true
      → (i : ℕ) × (i < length app.tasks) × (goes app t (get_or app.tasks i d) ≡ true) × (begins app k (get_or app.tasks i d) ≡ true)
  begins_step k t d e =
      let m = passed (reaches_by app.tasks (begins app k) t) app.messages (record { name = []; from = []; to = []; copies = pos 0 }) e in
      let msg = get_or app.messages m.0 (record { name = []; from = []; to = []; copies = pos 0 }) in
      let w = and_parts (among t.name msg.from) (list_any (λ v. among v.name msg.to && begins app k v) app.tasks) m.2 in
      let v = passed (λ v. among v.name msg.to && begins app k v) app.tasks d w.1 in
      let x = get_or app.tasks v.0 d in
      let z = and_parts (among x.name msg.to) (begins app k x) v.2 in
      (v.0, v.1, list_any_at (λ m. among t.name m.from && among x.name m.to) app.messages m.0 _ m.1 (and_from (among t.name msg.from) (among x.name msg.to) w.0 z.0), z.1)

  begins_more : (k : ℕ) (t v : RawTask) → Contains app.tasks v → goes app t v ≡ true → begins app k v ≡ true → begins app (suc k) t ≡ true
  begins_more k t v c g b =
      let m = passed (λ m. among t.name m.from && among v.name m.to) app.messages (record { name = []; from = []; to = []; copies = pos 0 }) g in
      let msg = get_or app.messages m.0 (record { name = []; from = []; to = []; copies = pos 0 }) in
      let w = and_parts (among t.name msg.from) (among v.name msg.to) m.2 in
      list_any_at (reaches_by app.tasks (begins app k) t) app.messages m.0 _ m.1
      (and_from (among t.name msg.from) _ w.0 (found (λ u. among u.name msg.to && begins app k u) app.tasks v c (and_from (among v.name msg.to) (begins app k v) w.1 b)))

  walk_more : (n : ℕ) (a c b : RawTask) → Walk app n a c → Contains app.tasks b → goes app c b ≡ true → Walk app (suc n) a b
  walk_more zero a c b w i g = (b, i, subst (λ (x : RawTask). goes app x b ≡ true) (sym w) g, refl)
  walk_more (suc n) a c b w i g = (w.0, w.1, w.2, walk_more n w.0 c b w.3 i g)

  -- from a task on a cycle begin walks of any length
  cycle_begins : (k : ℕ) (t : RawTask) → OnCycle app t → begins app k t ≡ true
  cycle_begins zero t o = refl
  cycle_begins (suc k) t o =
      let w = o.1.1 in
      begins_more k t w.0 w.1 w.2 (cycle_begins k w.0 (w.1, (o.1.0, walk_more o.1.0 w.0 t w.0 w.3 w.1 w.2)))

  -- the places of a walk of k edges
  record Trace (d : RawTask) (k a : ℕ) : Type 0 where
    pub f : ℕ → ℕ
    pub start : f 0 ≡ a
    pub within : (i : ℕ) → i ≤ k → f i < length app.tasks
    pub along : (i : ℕ) → i < k → goes app (get_or app.tasks (f i) d) (get_or app.tasks (f (suc i)) d) ≡ true

  before : ℕ → (ℕ → ℕ) → ℕ → ℕ
  before a f zero = a
  before a f (suc i) = f i

  trace : (d : RawTask) (k a : ℕ) → a < length app.tasks → begins app k (get_or app.tasks a d) ≡ true → Trace d k a
  unfolding before
  trace d zero a l e = record { f = λ _. a; start = refl; within = λ _ _. l; along = λ i h. absurd (omega arith) }
  trace d (suc k) a l e =
      let s = begins_step k (get_or app.tasks a d) d e in
      let r = trace d k s.0 s.1 s.3 in
      record {
        f = before a r.f;
        start = refl;
        within = inside s.0 r;
        along = steps s.0 s.2 r;
      }
    where
      inside : (b : ℕ) (r : Trace d k b) (i : ℕ) → i ≤ suc k → before a r.f i < length app.tasks
      inside b r zero h = l
      inside b r (suc i) h = r.within i (omega arith)

      steps : (b : ℕ) → goes app (get_or app.tasks a d) (get_or app.tasks b d) ≡ true → (r : Trace d k b) (i : ℕ) → i < suc k
          → goes app (get_or app.tasks (before a r.f i) d) (get_or app.tasks (before a r.f (suc i)) d) ≡ true
      steps b g r zero h = subst (λ (j : ℕ). goes app (get_or app.tasks a d) (get_or app.tasks j d) ≡ true) (sym r.start) g
      steps b g r (suc i) h = r.along i (omega arith)

  -- a stretch of a walk is found by the test of short walks
  stretch : (d : RawTask) (k a : ℕ) (r : Trace d k a) (n i j : ℕ) → suc j ≤ n → i + suc j ≤ k
      → goes_in n app (get_or app.tasks (r.f i) d) (get_or app.tasks (r.f (i + suc j)) d) ≡ true
  stretch d k a r zero i j h l = absurd (omega arith)
  stretch d k a r (suc n) i zero h l = or_left _ _
      (subst (λ (x : ℕ). goes app (get_or app.tasks (r.f i) d) (get_or app.tasks (r.f x) d) ≡ true) (let s : suc i ≡ i + 1 = omega arith in s) (r.along i (omega arith)))
  stretch d k a r (suc n) i (suc j) h l = or_right (goes app (get_or app.tasks (r.f i) d) (get_or app.tasks (r.f (i + suc (suc j))) d)) _
      (list_any_at (λ v. goes app (get_or app.tasks (r.f i) d) v && goes_in n app v (get_or app.tasks (r.f (i + suc (suc j))) d)) app.tasks (r.f (suc i)) d (r.within (suc i) (omega arith))
      (and_from (goes app (get_or app.tasks (r.f i) d) (get_or app.tasks (r.f (suc i)) d)) _ (r.along i (omega arith))
      (subst (λ (x : ℕ). goes_in n app (get_or app.tasks (r.f (suc i)) d) (get_or app.tasks (r.f x) d) ≡ true) (let s : suc i + suc j ≡ i + suc (suc j) = omega arith in s)
      (stretch d k a r n (suc i) j (omega arith) (omega arith)))))

  -- a walk with more edges than there are tasks passes a task twice
  long_cycle : (t : RawTask) → Contains app.tasks t → begins app (suc (length app.tasks)) t ≡ true → has_cycle app ≡ true
  long_cycle t c e =
      let n = length app.tasks in
      let r = trace t (suc n) c.0 c.1 (subst (λ (x : RawTask). begins app (suc n) x ≡ true) (sym c.2) e) in
      let w = two_alike n r.f (λ i l. r.within i (omega arith)) in
      let j = w.1 - suc w.0 in
      let end : w.0 + suc j ≡ w.1 = omega (arith, w.2) in
      let x = get_or app.tasks (r.f w.0) t in
      let s = stretch t (suc n) c.0 r n w.0 j (omega (arith, w.2, w.3)) (omega (arith, w.2, w.3)) in
      list_any_at (λ u. goes_in n app u u) app.tasks (r.f w.0) t (r.within w.0 (omega (arith, w.2, w.3)))
      (subst (λ (k : ℕ). goes_in n app x (get_or app.tasks k t) ≡ true) (ap r.f {x = w.0 + suc j} end ∙ sym w.4) s)

  short_walk : (n : ℕ) (t u : RawTask) → Contains app.tasks u → goes_in n app t u ≡ true → (k : ℕ) × Walk app (suc k) t u
  short_walk zero t u c e = absurd (cc)
  short_walk (suc n) t u c e = ⊎_elim
      (λ (h : goes app t u ≡ true). (0, (u, c, h, refl)))
      (λ (h : list_any (λ v. goes app t v && goes_in n app v u) app.tasks ≡ true).
      let v = passed (λ v. goes app t v && goes_in n app v u) app.tasks t h in
      let x = get_or app.tasks v.0 t in
      let z = and_parts (goes app t x) (goes_in n app x u) v.2 in
      let r = short_walk n x u c z.1 in
      (suc r.0, (x, Contains-get_or app.tasks v.0 t v.1, z.0, r.1)))
      (or_cases (goes app t u) _ e)

  cycle_found : has_cycle app ≡ true → (d : RawTask) → (t : RawTask) × OnCycle app t
  cycle_found e d =
      let v = passed (λ u. goes_in (length app.tasks) app u u) app.tasks d e in
      let x = get_or app.tasks v.0 d in
      let c = Contains-get_or app.tasks v.0 d v.1 in
      (x, (c, short_walk (length app.tasks) x x c v.2))

pub cycle_law : CycleLaw
cycle_law app = (
  λ e. cycle_found app e (record { name = []; node = []; wcet = pos 0; body = [] }),
  λ o. long_cycle app o.0 o.1.0 (cycle_begins app (suc (length app.tasks)) o.0 o.1),
)

same_bool : (a b : Bool) → (a ≡ true → b ≡ true) → (b ≡ true → a ≡ true) → a ≡ b
same_bool true b f g = sym (f refl)
same_bool false true f g = g refl
same_bool false false f g = refl

-- there is a cycle exactly where a walk has more edges than there are tasks
pub cycle_by_levels : (app : RawApp) → list_any (begins app (suc (length app.tasks))) app.tasks ≡ has_cycle app
cycle_by_levels app = same_bool _ _
    (λ e. let v = passed (begins app (suc (length app.tasks))) app.tasks (record { name = []; node = []; wcet = pos 0; body = [] }) e in
    long_cycle app _ (Contains-get_or app.tasks v.0 _ v.1) v.2)
    (λ e. let o = (cycle_law app).0 e in found (begins app (suc (length app.tasks))) app.tasks o.0 o.1.0 (cycle_begins app (suc (length app.tasks)) o.0 o.1))

-- ---- the rounds of the test
pub round_first : (app : RawApp) (links : List Link) (marked : ℕ) → length app.tasks ≤ 128 → links ≡ map (link_of app.tasks) app.messages
    → marked ≡ back_from links (2 ^ 128 - 1) → marked ≡ mask_of (begins app 1) app.tasks
round_first app links marked l e h = h ∙ ap (λ (ls : List Link). back_from ls (2 ^ 128 - 1)) e ∙ back_first app l

pub round_more : (app : RawApp) (links : List Link) (n k old marked : ℕ) → suc n ≡ k → links ≡ map (link_of app.tasks) app.messages
    → old ≡ mask_of (begins app n) app.tasks → marked ≡ back_from links old → marked ≡ mask_of (begins app k) app.tasks
round_more app links n k old marked s e o h = h ∙ ap (λ (ls : List Link). back_from ls old) e ∙ ap (back_from (map (link_of app.tasks) app.messages)) o ∙ back_more app n
    ∙ ap (λ i. mask_of (begins app i) app.tasks) s

pub round_last : (app : RawApp) (n marked : ℕ) → n ≡ length app.tasks → marked ≡ mask_of (begins app (suc n)) app.tasks → not (eqb marked 0) ≡ has_cycle app
round_last app n marked l e =
    ap (λ m. not (eqb m 0)) (e ∙ ap (λ k. mask_of (begins app (suc k)) app.tasks) l)
    ∙ ap not (mask_of-zero (begins app (suc (length app.tasks))) app.tasks)
    ∙ not_not (list_any (begins app (suc (length app.tasks))) app.tasks) ∙ cycle_by_levels app
  where
    not_not : (b : Bool) → not (not b) ≡ b
    not_not true = refl
    not_not false = refl
