-- The chains of a mode, found once, and their constraints for a number of rounds
use Rattle.std.proofs.Common.{◌≡◌, ℕ, ◌+◌, ◌<◌, ◌≤◌, Bool, true, false, cond, ◌&&◌, List, [], ◌∷◌, ◌++◌, length, map, All, refl, sym, ◌∙◌, ap, subst, arith, zero-add, ℤ, pos, ◌-ℤ◌}
use Rattle.std.specs.List.{AllByRecursion, flat_map}
use Rattle.std.proofs.lemmas.List.{map-append}
use Rattle.std.proofs.lemmas.List.Elements.{All-from_recursion}
use Rattle.tick_num.specs.declared.differences.Diff.{Diff}
use Rattle.tick_num.specs.Differences.{diff}
use Rattle.sched_model.specs.Numbers.{below}
use Rattle.sched_model.specs.PlainMode.{PlainMode, task_at}
use Rattle.sched_model.specs.TaskGraph.{first, last, reaches}
use Rattle.sched_model.specs.ConstraintProblem.{of_chain, of_first}
use Rattle.sched_model.proofs.Lists.{flat_all, below_all, cond_all}
use Rattle.constraint_set.specs.Posed.{behind, chains_of}

map-flat_map : {X A B : Type 0} (g : A → B) (f : X → List A) (h : X → List B) → ((x : X) → map g (f x) ≡ h x) → (xs : List X) → map g (flat_map f xs) ≡ flat_map h xs
map-flat_map g f h e [] = refl
map-flat_map g f h e (x ∷ xs) = map-append g (f x) (flat_map f xs) ∙ ap (λ l. l ++ map g (flat_map f xs)) (e x) ∙ ap (λ l. h x ++ l) (map-flat_map g f h e xs)

map-cond : {A B : Type 0} (g : A → B) (b : Bool) (xs : List A) (ys : List B) → map g xs ≡ ys → map g (cond b xs []) ≡ cond b ys []
map-cond g true xs ys e = e
map-cond g false xs ys e = refl

moved : (r f l : ℕ) (c : ℤ) → behind r (diff (0 + l) (0 + f) c) ≡ diff (r + l) (r + f) c
moved r f l c = ap (λ x. diff (r + x) (r + (0 + f)) c) (zero-add l) ∙ ap (λ y. diff (r + l) (r + y) c) (zero-add f)

module _ (m : PlainMode) (r : ℕ) where
  chain_behind : (f l : ℕ) → map (behind r) (of_chain m 0 f l) ≡ of_chain m r f l
  chain_behind f l =
      let c = pos (task_at m f).deadline -ℤ pos (task_at m l).wcet in
      map-cond (behind r) (last m l && reaches m f l) (diff (0 + l) (0 + f) c ∷ []) (diff (r + l) (r + f) c ∷ []) (ap (λ d. d ∷ []) (moved r f l c))

  first_behind : (f : ℕ) → map (behind r) (of_first m 0 f) ≡ of_first m r f
  first_behind f =
      let n = length m.tasks in
      map-cond (behind r) (first m f) (flat_map (of_chain m 0 f) (below n)) (flat_map (of_chain m r f) (below n)) (map-flat_map (behind r) (of_chain m 0 f) (of_chain m r f) (chain_behind f) (below n))

  -- behind the variables of r rounds they are the chains of the base list
  pub chains_behind : (cs : List Diff) → cs ≡ chains_of m → map (behind r) cs ≡ flat_map (of_first m r) (below (length m.tasks))
  chains_behind cs e = ap (map (behind r)) e ∙ map-flat_map (behind r) (of_first m 0) (of_first m r) first_behind (below (length m.tasks))

abbrev IsOfTasks : Diff → Type 0
IsOfTasks d = (d.x < 128) × (d.y < 128)

-- they are of tasks
pub chains_within : (m : PlainMode) (cs : List Diff) → length m.tasks ≤ 128 → cs ≡ chains_of m → All (λ d. (d.x < 128) × (d.y < 128)) cs
chains_within m cs few e =
    let n = length m.tasks in
    All-from_recursion IsOfTasks cs
    (subst (AllByRecursion IsOfTasks) (sym e)
    (flat_all IsOfTasks (of_first m 0) (below n)
    (below_all (λ f. AllByRecursion IsOfTasks (of_first m 0 f)) n (λ f lf.
    cond_all IsOfTasks (first m f) (flat_map (of_chain m 0 f) (below n)) (λ is.
    flat_all IsOfTasks (of_chain m 0 f) (below n)
    (below_all (λ l. AllByRecursion IsOfTasks (of_chain m 0 f l)) n (λ l ll.
    cond_all IsOfTasks (last m l && reaches m f l) (diff (0 + l) (0 + f) (pos (task_at m f).deadline -ℤ pos (task_at m l).wcet) ∷ []) (λ ends.
    ((omega (arith, few, ll), omega (arith, few, lf)), tt)))))))))
