-- The set of tasks that the code marks has exactly the tasks that are reached
use Rattle.std.proofs.Common.{◌≡◌, ℕ, zero, suc, ◌+◌, ◌-◌, ◌*◌, ◌%◌, ◌^◌, ◌<◌, ◌≤◌, Bool, true, false, cond, eqb, eq-eqb, ◌&&◌, ◌||◌, List, [], ◌∷◌, fold, refl, sym, ◌∙◌, ap, subst, arith, ⊎_elim, bit_or, ◌↔◌}
use Rattle.std.specs.Int.{w128, bit_at}
use Rattle.std.specs.List.{list_any, AllByRecursion}
use Rattle.std.proofs.lemmas.Bool.{cases_eq, and_parts, or_cases, eqb-true}
use Rattle.std.proofs.lemmas.List.Elements.{recursion_from_All}
use Rattle.std.proofs.lemmas.Nat.{le_or_l}
use Rattle.std.proofs.lemmas.Nat.Bits.{bit_at-zero, bit_at_set_same, bit_at_set_other}
use Rattle.app_graph.specs.declared.mode_set.Message.{Message}
use Rattle.app_graph.specs.declared.mode_set.App.{App}
use Rattle.app_graph.specs.declared.mode_set.Mode.{Mode}
use Rattle.app_graph.specs.Queries.{produces, consumes}
use Rattle.app_graph.specs.Reaching.{mode_edge, Walk, Reaches, is_marked, with_tasks, after_message, after_app, after_mode, after_times, Between, HasEnds, EndsWithin, EndsBetween, count_of, Numbered}

-- ---- tests of lists
-- what passes a test is one of which all have a property
any_all : {X : Type 0} (p : X → Bool) (P : X → Type 0) (xs : List X) → AllByRecursion P xs → list_any p xs ≡ true → (x : X) × P x × (p x ≡ true)
any_all p P [] all e = absurd cc
any_all p P (x ∷ xs) all e = ⊎_elim
    (λ (here : p x ≡ true). (x, all.0, here))
    (λ (there : list_any p xs ≡ true). any_all p P xs all.1 there)
    (or_cases (p x) (list_any p xs) e)

or_left : (a b : Bool) → a ≡ true → (a || b) ≡ true
or_left true b e = refl
or_left false b e = absurd cc

or_right : (a b : Bool) → b ≡ true → (a || b) ≡ true
or_right true b e = refl
or_right false b e = e

all_map : {X : Type 0} {P Q : X → Type 0} (xs : List X) → ((x : X) → P x → Q x) → AllByRecursion P xs → AllByRecursion Q xs
all_map [] f h = tt
all_map (x ∷ xs) f h = (f x h.0, all_map xs f h.1)

all_both : {X : Type 0} (P Q : X → Type 0) (xs : List X) → AllByRecursion P xs → AllByRecursion Q xs → AllByRecursion (λ x. P x × Q x) xs
all_both P Q [] g h = tt
all_both P Q (x ∷ xs) g h = ((g.0, h.0), all_both P Q xs g.1 h.1)

-- each that passes makes the test of the list pass
each_any : {X : Type 0} (p : X → Bool) (xs : List X) → AllByRecursion (λ x. p x ≡ true → list_any p xs ≡ true) xs
each_any p [] = tt
each_any {X} p (x ∷ xs) = (
  or_left (p x) (list_any p xs),
  all_map {P = λ (y : X). p y ≡ true → list_any p xs ≡ true} xs (λ y f e. or_right (p x) (list_any p xs) (f e)) (each_any p xs),
)

-- a listed number has what all listed ones have, and makes the test pass that it passes
listed_has : (P : ℕ → Type 0) (ts : List ℕ) (a : ℕ) → list_any (λ t. eqb t a) ts ≡ true → AllByRecursion P ts → P a
listed_has P ts a e all = let w = any_all (λ t. eqb t a) P ts all e in subst P (eqb-true w.0 a w.2) w.1

listed_passes : (p : ℕ → Bool) (ts : List ℕ) (a : ℕ) → list_any (λ t. eqb t a) ts ≡ true → p a ≡ true → list_any p ts ≡ true
listed_passes p ts a e passes = listed_has (λ t. p t ≡ true → list_any p ts ≡ true) ts a e (each_any p ts) passes

eqb_refl : (t : ℕ) → eqb t t ≡ true
eqb_refl t = eq-eqb t t refl

-- a list is no longer by one more step
fold_grows : {X : Type 0} (f : ℕ → X → ℕ) → ((n : ℕ) (x : X) → n ≤ f n x) → (xs : List X) (n : ℕ) → n ≤ fold f n xs
fold_grows f grows [] n = omega arith
fold_grows f grows (x ∷ xs) n = omega (arith, grows n x, fold_grows f grows xs (f n x))

-- where steps that never fall end where they began, each of them changes nothing
fold_fixed : {X : Type 0} (f : ℕ → X → ℕ) → ((n : ℕ) (x : X) → n ≤ f n x) → (xs : List X) (n : ℕ) → fold f n xs ≡ n → AllByRecursion (λ x. f n x ≡ n) xs
fold_fixed f grows [] n e = tt
fold_fixed f grows (x ∷ xs) n e =
    let here : f n x ≡ n = omega (arith, grows n x, fold_grows f grows xs (f n x), e) in
    (here, fold_fixed f grows xs n (ap (λ k. fold f k xs) (sym here) ∙ e))

-- ---- one task more
module _ (first : ℕ) where
  abbrev InSet : ℕ → ℕ → Type 0
  InSet marks t = is_marked first marks t ≡ true

  abbrev one_more : ℕ → ℕ → ℕ
  one_more marks task = bit_or marks (1 * 2 ^ (task - first) % 2 ^ 128)

  has_it : (marks t : ℕ) → t < first + 128 → first ≤ t → InSet (one_more marks t) t
  has_it marks t l low = eq-eqb _ 1 (bit_at_set_same w128 marks (t - first) (omega (arith, l, low)))

  keeps_it : (marks t u : ℕ) → t < first + 128 → first ≤ t → InSet marks u → InSet (one_more marks t) u
  keeps_it marks t u l low h = ⊎_elim
      (λ (same : u - first ≡ t - first). subst (λ k. eqb (bit_at (one_more marks t) k) 1 ≡ true) (sym same) (has_it marks t l low))
      (λ (other : u - first ≡ t - first → ⊥). ap (λ b. eqb b 1) (bit_at_set_other w128 marks (t - first) (omega (arith, l, low)) (u - first) other) ∙ h)
      (cases_eq (u - first) (t - first))

  only_it : (P : ℕ → Type 0) (marks t u : ℕ) → t < first + 128 → first ≤ t → first ≤ u → P t → (InSet marks u → P u) → InSet (one_more marks t) u → P u
  only_it P marks t u l low low' here old h = ⊎_elim
      (λ (same : u - first ≡ t - first). subst P (let s : t ≡ u = omega (arith, same, low, low') in s) here)
      (λ (other : u - first ≡ t - first → ⊥). old (sym (ap (λ b. eqb b 1) (bit_at_set_other w128 marks (t - first) (omega (arith, l, low)) (u - first) other)) ∙ h))
      (cases_eq (u - first) (t - first))

  -- ---- some tasks more
  abbrev Low : ℕ → Type 0
  Low t = (first ≤ t) × (t < first + 128)

  keeps_all : (ts : List ℕ) → AllByRecursion Low ts → (marks u : ℕ) → InSet marks u → InSet (with_tasks first marks ts) u
  keeps_all [] low marks u h = h
  keeps_all (t ∷ ts) low marks u h = keeps_all ts low.1 (one_more marks t) u (keeps_it marks t u low.0.1 low.0.0 h)

  has_all : (ts : List ℕ) → AllByRecursion Low ts → (marks : ℕ) → AllByRecursion (InSet (with_tasks first marks ts)) ts
  has_all [] low marks = tt
  has_all (t ∷ ts) low marks = (keeps_all ts low.1 (one_more marks t) t (has_it marks t low.0.1 low.0.0), has_all ts low.1 (one_more marks t))

  -- all tasks of the set have the property
  abbrev Has : (ℕ → Type 0) → ℕ → Type 0
  Has P marks = (u : ℕ) → first ≤ u → InSet marks u → P u

  only_those : (P : ℕ → Type 0) (ts : List ℕ) → AllByRecursion Low ts → AllByRecursion P ts → (marks : ℕ) → Has P marks → Has P (with_tasks first marks ts)
  only_those P [] low all marks h = h
  only_those P (t ∷ ts) low all marks h = only_those P ts low.1 all.1 (one_more marks t) (λ u l i. only_it P marks t u low.0.1 low.0.0 l all.0 (h u l) i)

  -- ---- messages, applications, a mode
  tasks_grow : (ts : List ℕ) (marks : ℕ) → marks ≤ with_tasks first marks ts
  tasks_grow ts marks = fold_grows one_more (λ n t. le_or_l n _) ts marks

  message_grows : (marks : ℕ) (m : Message) → marks ≤ after_message first marks m
  message_grows marks m = by_test (list_any (is_marked first marks) m.from)
    where
      by_test : (b : Bool) → marks ≤ cond b (with_tasks first marks m.to) marks
      by_test true = tasks_grow m.to marks
      by_test false = omega arith

  app_grows : (marks : ℕ) (app : App) → marks ≤ after_app first marks app
  app_grows marks app = fold_grows (after_message first) message_grows app.messages marks

  pub mode_grows : (marks : ℕ) (mode : Mode) → marks ≤ after_mode first marks mode
  mode_grows marks mode = fold_grows (after_app first) app_grows mode.apps marks

  -- a property that goes along the edges of a message
  abbrev Goes : (ℕ → Type 0) → Message → Type 0
  Goes P m = (a b : ℕ) → produces m a ≡ true → consumes m b ≡ true → P a → P b

  listed_each : (ts : List ℕ) → AllByRecursion (λ t. list_any (λ u. eqb u t) ts ≡ true) ts
  listed_each [] = tt
  listed_each (t ∷ ts) = (
    or_left (eqb t t) (list_any (λ u. eqb u t) ts) (eqb_refl t),
    all_map {P = λ t'. list_any (λ u. eqb u t') ts ≡ true} ts (λ t' e. or_right (eqb t t') (list_any (λ u. eqb u t') ts) e) (listed_each ts),
  )

  only_message : (P : ℕ → Type 0) (m : Message) → HasEnds first (first + 128) m → Goes P m → (marks : ℕ) → Has P marks → Has P (after_message first marks m)
  only_message P m ends goes marks h = by_test (list_any (is_marked first marks) m.from) refl
    where
      from : AllByRecursion Low m.from
      from = recursion_from_All Low m.from ends.from

      to : AllByRecursion Low m.to
      to = recursion_from_All Low m.to ends.to

      by_test : (b : Bool) → list_any (is_marked first marks) m.from ≡ b → Has P (cond b (with_tasks first marks m.to) marks)
      by_test false e = h
      by_test true e =
          let w = any_all (is_marked first marks) (λ t. Low t × (produces m t ≡ true)) m.from (all_both Low (λ t. produces m t ≡ true) m.from from (listed_each m.from)) e in
          only_those P m.to to (all_map m.to (λ b listed. goes w.0 b w.1.1 listed (h w.0 w.1.0.0 w.2)) (listed_each m.to)) marks h

  only_app : (P : ℕ → Type 0) (ms : List Message) → AllByRecursion (λ m. HasEnds first (first + 128) m × Goes P m) ms → (marks : ℕ) → Has P marks → Has P (fold (after_message first) marks ms)
  only_app P [] all marks h = h
  only_app P (m ∷ ms) all marks h = only_app P ms all.1 (after_message first marks m) (only_message P m all.0.0 all.0.1 marks h)

  only_mode : (P : ℕ → Type 0) (apps : List App) → AllByRecursion (λ a. AllByRecursion (λ m. HasEnds first (first + 128) m × Goes P m) a.messages) apps → (marks : ℕ) → Has P marks → Has P (fold (after_app first) marks apps)
  only_mode P [] all marks h = h
  only_mode P (a ∷ apps) all marks h = only_mode P apps all.1 (after_app first marks a) (only_app P a.messages all.0 marks h)

  only_times : (P : ℕ → Type 0) (mode : Mode) → AllByRecursion (λ a. AllByRecursion (λ m. HasEnds first (first + 128) m × Goes P m) a.messages) mode.apps → (n marks : ℕ) → Has P marks → Has P (after_times n first marks mode)
  only_times P mode all zero marks h = h
  only_times P mode all (suc n) marks h = only_mode P mode.apps all (after_times n first marks mode) (only_times P mode all n marks h)

  -- what is in the set stays in it
  keeps_message : (m : Message) → HasEnds first (first + 128) m → (marks u : ℕ) → InSet marks u → InSet (after_message first marks m) u
  keeps_message m ends marks u h = by_test (list_any (is_marked first marks) m.from)
    where
      by_test : (b : Bool) → InSet (cond b (with_tasks first marks m.to) marks) u
      by_test true = keeps_all m.to (recursion_from_All Low m.to ends.to) marks u h
      by_test false = h

  keeps_app : (ms : List Message) → AllByRecursion (HasEnds first (first + 128)) ms → (marks u : ℕ) → InSet marks u → InSet (fold (after_message first) marks ms) u
  keeps_app [] ends marks u h = h
  keeps_app (m ∷ ms) ends marks u h = keeps_app ms ends.1 (after_message first marks m) u (keeps_message m ends.0 marks u h)

  keeps_mode : (apps : List App) → AllByRecursion (EndsWithin first (first + 128)) apps → (marks u : ℕ) → InSet marks u → InSet (fold (after_app first) marks apps) u
  keeps_mode [] ends marks u h = h
  keeps_mode (a ∷ apps) ends marks u h = keeps_mode apps ends.1 (after_app first marks a) u (keeps_app a.messages (recursion_from_All (HasEnds first (first + 128)) a.messages ends.0.messages) marks u h)

  keeps_times : (mode : Mode) → AllByRecursion (EndsWithin first (first + 128)) mode.apps → (n marks u : ℕ) → InSet marks u → InSet (after_times n first marks mode) u
  keeps_times mode ends zero marks u h = h
  keeps_times mode ends (suc n) marks u h = keeps_mode mode.apps ends (after_times n first marks mode) u (keeps_times mode ends n marks u h)

  -- a set that a message does not change has its consumers, where it has a producer
  fixed_message : (marks : ℕ) (m : Message) → HasEnds first (first + 128) m → after_message first marks m ≡ marks → Goes (InSet marks) m
  fixed_message marks m ends e a b from to h =
      let test : list_any (is_marked first marks) m.from ≡ true = listed_passes (is_marked first marks) m.from a from h in
      let same : with_tasks first marks m.to ≡ marks = sym (ap (λ t. cond t (with_tasks first marks m.to) marks) test) ∙ e in
      listed_has (InSet marks) m.to b to (subst (λ k. AllByRecursion (InSet k) m.to) same (has_all m.to (recursion_from_All Low m.to ends.to) marks))

-- ---- edges
-- the message of an edge of a mode
edge_message : (mode : Mode) (P : Message → Type 0) → AllByRecursion (λ a. AllByRecursion P a.messages) mode.apps → (a b : ℕ) → mode_edge mode a b ≡ true
    → (m : Message) × P m × (produces m a ≡ true) × (consumes m b ≡ true)
edge_message mode P all a b e =
    let w = any_all (λ app. list_any (λ m. produces m a && consumes m b) app.messages) (λ app. AllByRecursion P app.messages) mode.apps all e in
    let v = any_all (λ m. produces m a && consumes m b) P w.0.messages w.1 w.2 in
    let p = and_parts (produces v.0 a) (consumes v.0 b) v.2 in
    (v.0, v.1, p.0, p.1)

all_ends : (first end : ℕ) (mode : Mode) → EndsBetween first end mode → AllByRecursion (λ a. AllByRecursion (HasEnds first end) a.messages) mode.apps
all_ends first end mode ends =
    all_map mode.apps (λ a (w : EndsWithin first end a). recursion_from_All (HasEnds first end) a.messages w.messages) (recursion_from_All (EndsWithin first end) mode.apps ends)

abbrev pub In : ℕ → ℕ → ℕ → Type 0
In first end t = (first ≤ t) × (t < end)

pub edge_ends : (first end : ℕ) (mode : Mode) → EndsBetween first end mode → (a b : ℕ) → mode_edge mode a b ≡ true → In first end a × In first end b
edge_ends first end mode ends a b e =
    let w = edge_message mode (HasEnds first end) (all_ends first end mode ends) a b e in (
      listed_has (In first end) w.0.from a w.2 (recursion_from_All (In first end) w.0.from w.1.from),
      listed_has (In first end) w.0.to b w.3 (recursion_from_All (In first end) w.0.to w.1.to),
    )

-- a wider range
wider_ends : (first end more : ℕ) (ts : List ℕ) → end ≤ more → Between first end ts → Between first more ts
wider_ends first end more ts l h i d low = let w = h i d low in (w.0, omega (arith, w.1, l))

wider_message : (first end more : ℕ) (m : Message) → end ≤ more → HasEnds first end m → HasEnds first more m
wider_message first end more m l h = record { from = wider_ends first end more m.from l h.from; to = wider_ends first end more m.to l h.to }

pub wider : (first end more : ℕ) (mode : Mode) → end ≤ more → EndsBetween first end mode → EndsBetween first more mode
wider first end more mode l h i d low = record { messages = λ j e low'. wider_message first end more _ l ((h i d low).messages j e low') }

-- the edges that each message of a mode makes
all_swap : {I X : Type 0} (P : I → X → Type 0) (xs : List X) → ((i : I) → AllByRecursion (P i) xs) → AllByRecursion (λ x. (i : I) → P i x) xs
all_swap P [] h = tt
all_swap P (x ∷ xs) h = ((λ i. (h i).0), all_swap P xs (λ i. (h i).1))

messages_make : (mode : Mode) → AllByRecursion (λ app. AllByRecursion (λ m. (e : ℕ × ℕ) → (produces m e.0 && consumes m e.1) ≡ true → mode_edge mode e.0 e.1 ≡ true) app.messages) mode.apps
messages_make mode = all_map {P = λ (app : App). (e : ℕ × ℕ) → list_any (λ m. produces m e.0 && consumes m e.1) app.messages ≡ true → mode_edge mode e.0 e.1 ≡ true} mode.apps
    (λ app h. all_swap (λ (e : ℕ × ℕ) (m : Message). (produces m e.0 && consumes m e.1) ≡ true → mode_edge mode e.0 e.1 ≡ true) app.messages
    (λ e. all_map {P = λ (m : Message). (produces m e.0 && consumes m e.1) ≡ true → list_any (λ m. produces m e.0 && consumes m e.1) app.messages ≡ true} app.messages
    (λ m f p. h e (f p)) (each_any (λ m. produces m e.0 && consumes m e.1) app.messages)))
    (all_swap (λ (e : ℕ × ℕ) (app : App). list_any (λ m. produces m e.0 && consumes m e.1) app.messages ≡ true → mode_edge mode e.0 e.1 ≡ true) mode.apps
    (λ e. each_any (λ app. list_any (λ m. produces m e.0 && consumes m e.1) app.messages) mode.apps))

-- ---- walks
walk_more : (goes : ℕ → ℕ → Bool) (n a b c : ℕ) → Walk goes n a b → goes b c ≡ true → Walk goes (suc n) a c
walk_more goes zero a b c w e = (c, subst (λ x. goes x c ≡ true) (sym w) e, refl)
walk_more goes (suc n) a b c (via, g, w) e = (via, g, walk_more goes n via b c w e)

-- walks with the same edges, where both stay within a range
walk_same : (f g : ℕ → ℕ → Bool) (P : ℕ → Type 0) → ((a b : ℕ) → P a → f a b ≡ true → (g a b ≡ true) × P b) → (n a b : ℕ) → P a → Walk f n a b → Walk g n a b
walk_same f g P h zero a b p w = w
walk_same f g P h (suc n) a b p (via, e, w) = let k = h a via p e in (via, k.0, walk_same f g P h n via b k.1 w)

walk_stays : (g : ℕ → ℕ → Bool) (P : ℕ → Type 0) → ((a b : ℕ) → P a → g a b ≡ true → P b) → (n a b : ℕ) → P a → Walk g n a b → P b
walk_stays g P h zero a b p w = subst P w p
walk_stays g P h (suc n) a b p (via, e, w) = walk_stays g P h n via b (h a via p e) w

-- ---- one mode
-- no walk leads out of the numbers of the mode
pub stays_within : (first end : ℕ) (mode : Mode) → EndsBetween first end mode → (from to : ℕ) → In first end from → Reaches (mode_edge mode) from to → In first end to
stays_within first end mode ends from to low (n, w) = walk_stays (mode_edge mode) (In first end) (λ a b p e. (edge_ends first end mode ends a b e).1) n from to low w

pub marked_are_reached : (first end : ℕ) (mode : Mode) (from to marks : ℕ) → end ≤ first + 128 → EndsBetween first end mode → In first end from → first ≤ to
    → ((n : ℕ) × (marks ≡ after_times n first (with_tasks first 0 (from ∷ [])) mode)) → after_mode first marks mode ≡ marks
    → (is_marked first marks to ≡ true) ↔ Reaches (mode_edge mode) from to
marked_are_reached first end mode from to marks few ends low low' (n, is) fixed = (sound, complete)
  where
    all : EndsBetween first (first + 128) mode
    all = wider first end (first + 128) mode few ends

    own : AllByRecursion (Low first) (from ∷ [])
    own = ((low.0, omega (arith, low.1, few)), tt)

    P : ℕ → Type 0
    P t = Reaches (mode_edge mode) from t

    goes : AllByRecursion (λ a. AllByRecursion (λ m. HasEnds first (first + 128) m × Goes first P m) a.messages) mode.apps
    goes = all_map mode.apps (λ a (h : AllByRecursion (HasEnds first (first + 128)) a.messages × AllByRecursion (λ m. (e : ℕ × ℕ) → (produces m e.0 && consumes m e.1) ≡ true → mode_edge mode e.0 e.1 ≡ true) a.messages).
        all_both (HasEnds first (first + 128)) (Goes first P) a.messages h.0 (all_map {P = λ (m : Message). (e : ℕ × ℕ) → (produces m e.0 && consumes m e.1) ≡ true → mode_edge mode e.0 e.1 ≡ true} a.messages (λ m f x y p q r. (suc r.0, walk_more (mode_edge mode) r.0 from x y r.1 (f (x, y) (both (produces m x) (consumes m y) p q)))) h.1))
        (all_both (λ (a : App). AllByRecursion (HasEnds first (first + 128)) a.messages) (λ (a : App). AllByRecursion (λ m. (e : ℕ × ℕ) → (produces m e.0 && consumes m e.1) ≡ true → mode_edge mode e.0 e.1 ≡ true) a.messages) mode.apps (all_ends first (first + 128) mode all) (messages_make mode))
      where
        both : (a b : Bool) → a ≡ true → b ≡ true → (a && b) ≡ true
        both true b e f = f
        both false b e f = absurd cc

    empty : Has first P 0
    empty u l i = absurd (none u i)
      where
        none : (u : ℕ) → is_marked first 0 u ≡ true → ⊥
        none u i = let z = sym (ap (λ k. eqb k 1) (bit_at-zero (u - first))) ∙ i in absurd cc

    start : Has first P (with_tasks first 0 (from ∷ []))
    start = only_those first P (from ∷ []) own ((0, refl), tt) 0 empty

    sound : is_marked first marks to ≡ true → Reaches (mode_edge mode) from to
    sound h = only_times first P mode goes n (with_tasks first 0 (from ∷ [])) start to low' (subst (λ k. is_marked first k to ≡ true) is h)

    begun : InSet first marks from
    begun = subst (λ k. InSet first k from) (sym is)
        (keeps_times first mode (recursion_from_All (EndsWithin first (first + 128)) mode.apps all) n (with_tasks first 0 (from ∷ [])) from (has_all first (from ∷ []) own 0).0)

    still : AllByRecursion (λ a. AllByRecursion (Goes first (InSet first marks)) a.messages) mode.apps
    still = all_map mode.apps (λ a (h : AllByRecursion (HasEnds first (first + 128)) a.messages × (after_app first marks a ≡ marks)).
        all_map a.messages (λ m (k : HasEnds first (first + 128) m × (after_message first marks m ≡ marks)). fixed_message first marks m k.0 k.1)
        (all_both (HasEnds first (first + 128)) (λ m. after_message first marks m ≡ marks) a.messages h.0 (fold_fixed (after_message first) (message_grows first) a.messages marks h.1)))
        (all_both (λ (a : App). AllByRecursion (HasEnds first (first + 128)) a.messages) (λ (a : App). after_app first marks a ≡ marks) mode.apps (all_ends first (first + 128) mode all) (fold_fixed (after_app first) (app_grows first) mode.apps marks fixed))

    complete : Reaches (mode_edge mode) from to → is_marked first marks to ≡ true
    complete (k, w) = walk_stays (mode_edge mode) (InSet first marks) (λ a b p e. let m = edge_message mode (Goes first (InSet first marks)) still a b e in m.1 a b m.2 m.3 p) k from to begun w

-- ---- all modes
abbrev pub any_edge : List Mode → ℕ → ℕ → Bool
any_edge modes a b = list_any (λ mode. mode_edge mode a b) modes

-- edges of later modes begin at later numbers
later_edge : (modes : List Mode) (first : ℕ) → Numbered first modes → (a b : ℕ) → any_edge modes a b ≡ true → first ≤ a
later_edge [] first numbered a b e = absurd cc
later_edge (mode ∷ modes) first numbered a b e = ⊎_elim
    (λ (here : mode_edge mode a b ≡ true). (edge_ends first (first + count_of mode) mode numbered.2 a b here).0.0)
    (λ (there : any_edge modes a b ≡ true). let l = later_edge modes (first + count_of mode) numbered.3 a b there in omega (arith, l))
    (or_cases (mode_edge mode a b) (any_edge modes a b) e)

-- the modes from the one whose first task has the number `first` on have the edges of all modes from there on
pub record Left (modes rest : List Mode) (first from : ℕ) : Type 0 where
  pub numbered : Numbered first rest
  pub low : first ≤ from
  pub edges : (a b : ℕ) → first ≤ a → any_edge modes a b ≡ any_edge rest a b

not_true : (b : Bool) → (b ≡ true → ⊥) → b ≡ false
not_true true n = absurd (n refl)
not_true false n = refl

pub next_left : (modes rest : List Mode) (mode : Mode) (first from : ℕ) → Left modes (mode ∷ rest) first from → first + count_of mode ≤ from → Left modes rest (first + count_of mode) from
next_left modes rest mode first from left l = record {
  numbered = left.numbered.3;
  low = l;
  edges = λ a b low. left.edges a b (omega (arith, low)) ∙ ap (λ t. t || any_edge rest a b) (not_true (mode_edge mode a b)
      (λ e. let w = (edge_ends first (first + count_of mode) mode left.numbered.2 a b e).0.1 in absurd (omega (arith, w, low))));
}

or_false : (b c : Bool) → c ≡ false → (b || c) ≡ b
or_false true c e = refl
or_false false c e = e

pub here_reached : (modes rest : List Mode) (mode : Mode) (first from to : ℕ) → Left modes (mode ∷ rest) first from → from < first + count_of mode
    → Reaches (mode_edge mode) from to ↔ Reaches (any_edge modes) from to
here_reached modes rest mode first from to left l = (
  λ r. (r.0, walk_same (mode_edge mode) (any_edge modes) (In first end) (λ a b p e. (same a b p ∙ e, (edge_ends first end mode left.numbered.2 a b e).1)) r.0 from to (left.low, l) r.1),
  λ r. (r.0, walk_same (any_edge modes) (mode_edge mode) (In first end) (λ a b p e. let e' = sym (same a b p) ∙ e in (e', (edge_ends first end mode left.numbered.2 a b e').1)) r.0 from to (left.low, l) r.1),
)
  where
    end : ℕ
    end = first + count_of mode

    same : (a b : ℕ) → In first end a → any_edge modes a b ≡ mode_edge mode a b
    same a b p = left.edges a b p.0 ∙ or_false (mode_edge mode a b) (any_edge rest a b)
        (not_true (any_edge rest a b) (λ e. let w = later_edge rest end left.numbered.3 a b e in absurd (omega (arith, w, p.1))))

pub none_reached : (modes : List Mode) (first from to : ℕ) → Left modes [] first from → (from ≡ to → ⊥) → Reaches (any_edge modes) from to → ⊥
none_reached modes first from to left other (zero, w) = other w
none_reached modes first from to left other (suc n, (via, e, w)) = let z = sym (left.edges from via left.low) ∙ e in absurd cc

pub all_left : (modes : List Mode) (from : ℕ) → Numbered 0 modes → Left modes modes 0 from
all_left modes from numbered = record { numbered = numbered; low = omega arith; edges = λ a b l. refl }
