-- The first task whose body is missing
use Rattle.std.proofs.Common.{◌≡◌, ◌↔◌, not, ⊎_elim, ℕ, suc, ◌+◌, ◌<◌, ◌≤◌, Bool, true, false, cond, List, [], ◌∷◌, ◌++◌, length, get_or, map, drop, refl, sym, ◌∙◌, ap, subst, arith}
use Rattle.std.specs.Prelude.{nat_lt, Option, Some, None, option_map, unwrap_or}
use Rattle.std.specs.List.{find, flat_map, position_from, position_or_len}
use Rattle.std.specs.Str.{bytes_eq}
use Rattle.std.proofs.lemmas.List.Sums.{fails_before_first, passes_at_first, prefix_len-le-length}
use borrow.Author.Tests.{ltb-true}
use Rattle.std.proofs.lemmas.Iterator.Adapters.{position_from-zero}
use Rattle.std.specs.Option.{option_or}
use Rattle.std.proofs.lemmas.Bool.{cases_lt, cond-true, cond-false, eqb-false, eqb-true}
use Rattle.std.proofs.lemmas.List.{drop_more}
use Rattle.std.proofs.lemmas.List.{drop_all}
use Rattle.std.proofs.lemmas.List.Folds.{find-append}
use Rattle.app_graph.specs.declared.mode_set.App.{App}
use Rattle.app_graph.specs.declared.mode_set.Mode.{Mode}
use Rattle.app_graph.specs.declared.mode_set.ModeSet.{ModeSet}
use Rattle.app_graph.specs.declared.mode_set.Task.{Task}
use Rattle.app_graph.specs.Validation.{KeepsRules}
use Rattle.task_body.specs.Body.{BodySeen}
use Rattle.world_core.specs.StandsFor.{HaveBodies, body_names, place_of_body}
use Rattle.world_core.specs.TaskBodies.{bodies_of_mode, is_missing, missing, missing_among, tasks_in}
use Rattle.world_core.proofs.EntryLists.{map_flat, flat_eq}
use Rattle.world_core.proofs.TaskNames.{NumberedFrom, set_numbers}

-- of tasks in two lists
either_of : (f : Task → ℕ) (x y : Option Task) → option_map f (option_or x y) ≡ option_or (option_map f x) (option_map f y)
either_of f None y = refl
either_of f (Some t) y = refl

pub missing_append : (bodies : List BodySeen) (xs ys : List Task) → missing_among bodies (xs ++ ys) ≡ option_or (missing_among bodies xs) (missing_among bodies ys)
missing_append bodies xs ys =
    ap (option_map (λ (t : Task). t.number)) (find-append (λ (t : Task). is_missing bodies t.body) xs ys)
    ∙ either_of (λ (t : Task). t.number) (find (λ (t : Task). is_missing bodies t.body) xs) (find (λ (t : Task). is_missing bodies t.body) ys)

-- of a first task and others
pub missing_here : (bodies : List BodySeen) (t : Task) (ts : List Task) → is_missing bodies t.body ≡ true → missing_among bodies (t ∷ ts) ≡ Some t.number
missing_here bodies t ts e = ap (option_map (λ (t : Task). t.number)) (cond-true (is_missing bodies t.body) (Some t) (find (λ (t : Task). is_missing bodies t.body) ts) e)

pub missing_later : (bodies : List BodySeen) (t : Task) (ts : List Task) → is_missing bodies t.body ≡ false → missing_among bodies (t ∷ ts) ≡ missing_among bodies ts
missing_later bodies t ts e = ap (option_map (λ (t : Task). t.number)) (cond-false (is_missing bodies t.body) (Some t) (find (λ (t : Task). is_missing bodies t.body) ts) e)

-- ---- in numbered tasks it is a place among the names

abbrev names_of : List Task → List (List ℕ)
names_of ts = map (λ t. t.body) ts

by_numbers : (bodies : List BodySeen) (n : ℕ) (ts : List Task) → NumberedFrom n ts → missing_among bodies ts ≡ position_from (is_missing bodies) n (names_of ts)
by_numbers bodies n [] h = refl
by_numbers bodies n (t ∷ ts) h = by_test (is_missing bodies t.body) (by_numbers bodies (n + 1) ts (subst (λ (k : ℕ). NumberedFrom k ts) (let e : suc n ≡ n + 1 = omega arith in e) h.1))
  where
    by_test : (b : Bool) → missing_among bodies ts ≡ position_from (is_missing bodies) (n + 1) (names_of ts) →
        option_map (λ (t : Task). t.number) (cond b (Some t) (find (λ (t : Task). is_missing bodies t.body) ts)) ≡ cond b (Some n) (position_from (is_missing bodies) (n + 1) (names_of ts))
    by_test true e = ap Some h.0
    by_test false e = e

names_same : (modes : List Mode) → names_of (flat_map tasks_in modes) ≡ flat_map bodies_of_mode modes
names_same modes =
    map_flat (λ (t : Task). t.body) tasks_in modes
    ∙ flat_eq (λ (m : Mode). names_of (tasks_in m)) bodies_of_mode modes (λ (m : Mode). map_flat (λ (t : Task). t.body) (λ (a : App). a.tasks) m.apps)

pub missing_is : (bodies : List BodySeen) (set : ModeSet) → KeepsRules set → missing_among bodies (flat_map tasks_in set.modes) ≡ missing bodies set
missing_is bodies set keeps =
    by_numbers bodies 0 (flat_map tasks_in set.modes) (set_numbers set keeps)
    ∙ ap (position_from (is_missing bodies) 0) (names_same set.modes)
    ∙ sym (position_from-zero (is_missing bodies) (body_names set))

-- ---- the rest of a list

-- the rest after this place, and what stands there
pub rest_tasks : (bodies : List BodySeen) (ts : List Task) (i : ℕ) (t : Task) (b : Bool) → i < length ts → t ≡ get_or ts i t → is_missing bodies t.body ≡ b →
    missing_among bodies (drop i ts) ≡ cond b (Some t.number) (missing_among bodies (drop (i + 1) ts))
rest_tasks bodies ts i t b l e m =
    ap (missing_among bodies) (drop_more ts i t l ∙ ap (λ (x : Task). x ∷ drop (i + 1) ts) (sym e)) ∙ by_test b m
  where
    by_test : (b : Bool) → is_missing bodies t.body ≡ b → missing_among bodies (t ∷ drop (i + 1) ts) ≡ cond b (Some t.number) (missing_among bodies (drop (i + 1) ts))
    by_test true q = missing_here bodies t (drop (i + 1) ts) q
    by_test false q = missing_later bodies t (drop (i + 1) ts) q

pub rest_parts : {X : Type 0} (part : X → List Task) (bodies : List BodySeen) (xs : List X) (i : ℕ) (x : X) (r : Option ℕ) → i < length xs → x ≡ get_or xs i x → r ≡ missing_among bodies (part x) →
    missing_among bodies (flat_map part (drop i xs)) ≡ option_or r (missing_among bodies (flat_map part (drop (i + 1) xs)))
rest_parts {X} part bodies xs i x r l e m =
    ap (λ (ys : List X). missing_among bodies (flat_map part ys)) (drop_more xs i x l ∙ ap (λ (y : X). y ∷ drop (i + 1) xs) (sym e))
    ∙ missing_append bodies (part x) (flat_map part (drop (i + 1) xs))
    ∙ ap (λ (o : Option ℕ). option_or o (missing_among bodies (flat_map part (drop (i + 1) xs)))) (sym m)

-- after the last one nothing is left
pub none_left : (bodies : List BodySeen) (ts : List Task) (i : ℕ) → length ts ≤ i → missing_among bodies (drop i ts) ≡ None
none_left bodies ts i l = ap (missing_among bodies) (drop_all i ts l)

pub no_parts_left : {X : Type 0} (part : X → List Task) (bodies : List BodySeen) (xs : List X) (i : ℕ) → length xs ≤ i → missing_among bodies (flat_map part (drop i xs)) ≡ None
no_parts_left {X} part bodies xs i l = ap (λ (ys : List X). missing_among bodies (flat_map part ys)) (drop_all i xs l)

-- ---- nothing is missing exactly where every task has a body

place_most : (bodies : List BodySeen) (name : List ℕ) → place_of_body bodies name ≤ length bodies
place_most bodies name = by_test (nat_lt (position_or_len (λ (b : BodySeen). bytes_eq name b.name) bodies) (length bodies)) (prefix_len-le-length (λ (b : BodySeen). not (bytes_eq name b.name)) bodies)
  where
    by_test : (t : Bool) → position_or_len (λ (b : BodySeen). bytes_eq name b.name) bodies ≤ length bodies →
        unwrap_or (cond t (Some (position_or_len (λ (b : BodySeen). bytes_eq name b.name) bodies)) None) (length bodies) ≤ length bodies
    by_test true l = l
    by_test false l = omega arith

module _ (bodies : List BodySeen) (set : ModeSet) where
  abbrev at : ℕ
  at = position_or_len (is_missing bodies) (body_names set)

  all_have : missing bodies set ≡ None → HaveBodies set bodies
  all_have e task l = by_test (nat_lt at (length (body_names set))) refl e
    where
      by_test : (t : Bool) → nat_lt at (length (body_names set)) ≡ t → cond t (Some at) None ≡ None → place_of_body bodies (get_or (body_names set) task []) < length bodies
      by_test true q h = absurd (let x : Some at ≡ None = h in cc)
      by_test false q h =
          let past : length (body_names set) ≤ at = grind (arith, q) in
          let fails = fails_before_first (is_missing bodies) (body_names set) task [] (omega (arith, past, l)) in
          ⊎_elim
          (λ (b : place_of_body bodies (get_or (body_names set) task []) < length bodies). b)
          (λ (b : length bodies ≤ place_of_body bodies (get_or (body_names set) task [])).
          absurd (eqb-false (place_of_body bodies (get_or (body_names set) task [])) (length bodies) fails (omega (arith, b, place_most bodies (get_or (body_names set) task [])))))
          (cases_lt (place_of_body bodies (get_or (body_names set) task [])) (length bodies))

  none_missing : HaveBodies set bodies → missing bodies set ≡ None
  none_missing h = by_test (nat_lt at (length (body_names set))) refl
    where
      by_test : (t : Bool) → nat_lt at (length (body_names set)) ≡ t → cond t (Some at) None ≡ None
      by_test true q =
          let here : at < length (body_names set) = ltb-true at (length (body_names set)) q in
          let passes = passes_at_first (is_missing bodies) (body_names set) [] here in
          absurd (omega (arith, h at here, eqb-true (place_of_body bodies (get_or (body_names set) at [])) (length bodies) passes))
      by_test false q = refl

  pub missing_none : missing bodies set ≡ None ↔ HaveBodies set bodies
  missing_none = (all_have, none_missing)
