-- What a step does to the bodies that are handed in
use Rattle.std.proofs.Common.{◌≡◌, ℕ, ◌<◌, Bool, true, false, cond, List, [], ◌∷◌, length, get_or, map, filter, refl, sym, ◌∙◌, ap, subst, arith, ⊎_elim, pos, ℤ}
use Rattle.std.specs.Prelude.{fold, nat_eq, Option, slice_set}
use Rattle.std.specs.List.{AllByRecursion, flat_map}
use Rattle.std.proofs.lemmas.Bool.{cases_Bool, cond-true, cond-false, eq-eqb, eqb-true, eqb-false}
use Rattle.std.proofs.lemmas.List.{ext_get_or, get_or-map, get_or-set_same, get_or-set_other, length-map, length-set}
use Rattle.app_graph.specs.declared.mode_set.ModeSet.{ModeSet}
use Rattle.app_graph.specs.Validation.{KeepsRules}
use Rattle.sched_model.specs.declared.schedule.Schedule.{Schedule}
use Rattle.sched_model.specs.Numbers.{below}
use Rattle.sched_model.specs.PlainMode.{PlainTask, plain_at, task_at}
use Rattle.sched_model.proofs.Lists.{below_all, get_or-map_below, length-below}
use Rattle.node_tables.proofs.PlainParts.{map_same}
use Rattle.task_body.specs.Body.{BodySeen, body_at, fired, no_body, reset_for}
use Rattle.runtime_model.specs.Bodies.{Bodies, reset_all, state, state_after, tasks_on}
use Rattle.runtime_model.specs.Outcomes.{Outcome, beaconed, sent, silent, started, off, finished, void, requested, restarted, Step}
use Rattle.runtime_model.specs.Plans.{Plan, plans_of}
use Rattle.runtime_model.specs.System.{no_plan}
use Rattle.world_core.specs.Owners.{owners_in}
use Rattle.world_core.specs.StandsFor.{HaveBodies, bodies_after, bodies_of, body_names, place_of_body, system_with}
use Rattle.world_core.specs.WorldSteps.{answer_at, reset_one}
use Rattle.world_core.proofs.TaskNumbers.{names_count, number_below, owners_of_plans, tasks_by_owners}

-- the values at the numbers below n, where that at i is replaced
set_below : {X : Type 0} (f g : ℕ → X) (n i : ℕ) (x d : X) → (i < n → x ≡ g i) → ((k : ℕ) → k < n → nat_eq i k ≡ false → f k ≡ g k) → slice_set (map f (below n)) i x ≡ map g (below n)
set_below f g n i x d here other =
    let size : length (map f (below n)) ≡ n = length-map (below n) f ∙ length-below n in
    let set_size : length (slice_set (map f (below n)) i x) ≡ n = length-set (map f (below n)) i x ∙ size in
    ext_get_or d (slice_set (map f (below n)) i x) (map g (below n)) (set_size ∙ sym (length-map (below n) g ∙ length-below n))
    (λ k l.
    let l' : k < n = omega (arith, l, set_size) in
    ⊎_elim
    (λ (e : nat_eq i k ≡ true).
    let same = eqb-true i k e in
    let i' : i < n = omega (arith, l', same) in
    subst (λ (z : ℕ). get_or (slice_set (map f (below n)) i x) z d ≡ g z) same (get_or-set_same (map f (below n)) i x d (omega (arith, i', size)) ∙ here i')
    ∙ sym (get_or-map_below g n k d l'))
    (λ (e : nat_eq i k ≡ false).
    get_or-set_other (map f (below n)) i k x d (λ q. eqb-false i k e (sym q)) ∙ get_or-map_below f n k d l' ∙ other k l' e ∙ sym (get_or-map_below g n k d l'))
    (cases_Bool (nat_eq i k)))

-- whether an outcome changes bodies
abbrev pub changes_bodies : Outcome → Bool
changes_bodies (started v a k ins x) = true
changes_bodies (restarted v) = true
changes_bodies o = false

module _ (plans : List Plan) (bodies : Bodies) where
  -- the bodies with these numbers
  abbrev with_numbers : (ℕ → List ℤ) → List BodySeen
  with_numbers s = map (λ b. record (body_at bodies.each b) { numbers = s b }) (below (length bodies.each))

  numbers_same : (s t : ℕ → List ℤ) → ((b : ℕ) → s b ≡ t b) → with_numbers s ≡ with_numbers t
  numbers_same s t h =
      let made = λ (b : ℕ) (ns : List ℤ). let x : BodySeen = record (body_at bodies.each b) { numbers = ns } in x in
      map_same (λ b. made b (s b)) (λ b. made b (t b)) (length bodies.each) (λ b l. ap (made b) (h b))

  -- one of them
  pub body_with : (s : ℕ → List ℤ) (b : ℕ) → b < length bodies.each → body_at (with_numbers s) b ≡ record (body_at bodies.each b) { numbers = s b }
  body_with s b l = get_or-map_below (λ c. let x : BodySeen = record (body_at bodies.each c) { numbers = s c } in x) (length bodies.each) b no_body l

  -- the bodies where one has these numbers
  one_changes : (s t : ℕ → List ℤ) (b : ℕ) (x : BodySeen) → (b < length bodies.each → x ≡ record (body_at bodies.each b) { numbers = t b }) → ((c : ℕ) → nat_eq b c ≡ false → s c ≡ t c) →
      slice_set (with_numbers s) b x ≡ with_numbers t
  one_changes s t b x here other =
      let made = λ (b : ℕ) (ns : List ℤ). let x : BodySeen = record (body_at bodies.each b) { numbers = ns } in x in
      set_below (λ c. made c (s c)) (λ c. made c (t c)) (length bodies.each) b x no_body here (λ c l e. ap (made c) (other c e))

  -- ---- every event but a start that was performed and a restart

  state_kept : (b : ℕ) (p : Plan) (o : Outcome) (s : List ℤ) → changes_bodies o ≡ false → state_after plans bodies b p o s ≡ s
  state_kept b p (beaconed c hs) s e = refl
  state_kept b p (sent v i k xs ts) s e = refl
  state_kept b p (silent i) s e = refl
  state_kept b p (started v a k ins x) s e = absurd cc
  state_kept b p (off v a) s e = refl
  state_kept b p (finished v a k x) s e = refl
  state_kept b p (void v a) s e = refl
  state_kept b p (requested m) s e = refl
  state_kept b p (restarted v) s e = absurd cc

  pub bodies_kept : (d : Step) (ds : List Step) → changes_bodies d.out ≡ false → bodies_after plans bodies (d ∷ ds) ≡ bodies_after plans bodies ds
  bodies_kept d ds e =
      numbers_same (λ b. state plans bodies b (d ∷ ds)) (λ b. state plans bodies b ds)
      (λ b. state_kept b (get_or plans d.spot.hyper.mode no_plan) d.out (state plans bodies b ds) e)

  -- ---- a start

  pub bodies_started : (d : Step) (ds : List Step) (v a k : ℕ) (ins : List (Option ℤ)) (x : ℤ) → d.out ≡ started v a k ins x →
      let number = (task_at (get_or plans d.spot.hyper.mode no_plan).mode a).number in
      let b = bodies.place number in
      let now = bodies_after plans bodies ds in
      bodies_after plans bodies (d ∷ ds) ≡ slice_set now b (fired (body_at now b) number ins)
  bodies_started d ds v a k ins x out =
      let p = get_or plans d.spot.hyper.mode no_plan in
      let number = (task_at p.mode a).number in
      let b = bodies.place number in
      let now = bodies_after plans bodies ds in
      let s = λ (c : ℕ). state plans bodies c ds in
      let t = λ (c : ℕ). state_after plans bodies c p (started v a k ins x) (s c) in
      let after = λ (c : ℕ). (body_at bodies.each c).after_fire (s c) number ins in
      numbers_same (λ c. state plans bodies c (d ∷ ds)) t (λ c. ap (λ (o : Outcome). state_after plans bodies c p o (s c)) out)
      ∙ sym (one_changes s t b (fired (body_at now b) number ins)
      (λ l. ap (λ (z : BodySeen). fired z number ins) (body_with s b l)
      ∙ ap (λ (ns : List ℤ). let z : BodySeen = record (body_at bodies.each b) { numbers = ns } in z) (sym (cond-true (nat_eq b b) (after b) (s b) (eq-eqb b b refl))))
      (λ c e. sym (cond-false (nat_eq b c) (after c) (s c) e)))

  -- ---- a restart

  module _ (owners places : List ℕ) (v : ℕ) where
    -- the task is one of node v
    abbrev is_owned : ℕ → Bool
    is_owned a = nat_eq (get_or owners a 0) v

    one_reset : (a : ℕ) (s : ℕ → List ℤ) → get_or places a 0 ≡ bodies.place a →
        let now = with_numbers s in
        let b = get_or places a 0 in
        slice_set now b (reset_for (body_at now b) a) ≡ with_numbers (λ c. cond (nat_eq (bodies.place a) c) (slice_set (s c) a (pos 0)) (s c))
    one_reset a s e =
        let now = with_numbers s in
        let b = bodies.place a in
        let zeroed = λ (c : ℕ). slice_set (s c) a (pos 0) in
        let t = λ (c : ℕ). cond (nat_eq b c) (zeroed c) (s c) in
        ap (λ (z : ℕ). slice_set now z (reset_for (body_at now z) a)) e
        ∙ one_changes s t b (reset_for (body_at now b) a)
        (λ l. ap (λ (z : BodySeen). reset_for z a) (body_with s b l)
        ∙ ap (λ (ns : List ℤ). let z : BodySeen = record (body_at bodies.each b) { numbers = ns } in z) (sym (cond-true (nat_eq b b) (zeroed b) (s b) (eq-eqb b b refl))))
        (λ c f. sym (cond-false (nat_eq b c) (zeroed c) (s c) f))

    tasks_reset : (tasks : List ℕ) (s : ℕ → List ℤ) → AllByRecursion (λ a. get_or places a 0 ≡ bodies.place a) tasks →
        fold (reset_one owners places v) (with_numbers s) tasks ≡ with_numbers (λ c. reset_all bodies c (filter is_owned tasks) (s c))
    tasks_reset [] s h = refl
    tasks_reset (a ∷ rest) s h = by_test (is_owned a) (λ t. tasks_reset rest t h.1)
      where
        by_test : (o : Bool) →
            ((t : ℕ → List ℤ) → fold (reset_one owners places v) (with_numbers t) rest ≡ with_numbers (λ c. reset_all bodies c (filter is_owned rest) (t c))) →
            let now = with_numbers s in let b = get_or places a 0 in
            fold (reset_one owners places v) (cond o (slice_set now b (reset_for (body_at now b) a)) now) rest
            ≡ with_numbers (λ c. reset_all bodies c (cond o (a ∷ filter is_owned rest) (filter is_owned rest)) (s c))
        by_test true ih =
            ap (λ (now : List BodySeen). fold (reset_one owners places v) now rest) (one_reset a s h.0)
            ∙ ih (λ c. cond (nat_eq (bodies.place a) c) (slice_set (s c) a (pos 0)) (s c))
        by_test false ih = ih s

-- ---- the bodies of a set

module _ (set : ModeSet) (made : List BodySeen) where
  -- the place of a task's body
  pub place_is : (places : List ℕ) → places ≡ map (place_of_body made) (body_names set) → (number : ℕ) → number < length (body_names set) → get_or places number 0 ≡ (bodies_of set made).place number
  place_is places e number l = ap (λ (xs : List ℕ). get_or xs number 0) e ∙ get_or-map (place_of_body made) (body_names set) number [] 0 l

  module _ (keeps : KeepsRules set) where
    -- each task has a body's name
    pub number_named : (i a : ℕ) → i < length set.modes → a < length (plain_at set i).tasks → (task_at (plain_at set i) a).number < length (body_names set)
    number_named i a l h = omega (arith, number_below set keeps i a l h, names_count set)

    -- where each task has a body, its place is one of the bodies'
    pub body_there : HaveBodies set made → (i a : ℕ) → i < length set.modes → a < length (plain_at set i).tasks → (bodies_of set made).place (task_at (plain_at set i) a).number < length made
    body_there have i a l h = have (task_at (plain_at set i) a).number (number_named i a l h)

    pub bodies_restarted : (schedules : List Schedule) (owners places : List ℕ) → owners ≡ flat_map (λ (p : Plan). map (λ (t : PlainTask). t.node) p.mode.tasks) (plans_of set schedules) →
        places ≡ map (place_of_body made) (body_names set) → (d : Step) (ds : List Step) (v : ℕ) → d.out ≡ restarted v →
        let plans = plans_of set schedules in
        let bodies = bodies_of set made in
        bodies_after plans bodies (d ∷ ds) ≡ fold (reset_one owners places v) (bodies_after plans bodies ds) (below (length owners))
    bodies_restarted schedules owners places os ps d ds v out =
        let plans = plans_of set schedules in
        let bodies = bodies_of set made in
        let p = get_or plans d.spot.hyper.mode no_plan in
        let s = λ (c : ℕ). state plans bodies c ds in
        let own : owners ≡ owners_in set.modes = os ∙ owners_of_plans set schedules in
        let on : filter (λ k. nat_eq (get_or owners k 0) v) (below (length owners)) ≡ tasks_on plans v =
        ap (λ (xs : List ℕ). filter (λ k. nat_eq (get_or xs k 0) v) (below (length xs))) own ∙ tasks_by_owners set keeps schedules v in
        let found = below_all (λ a. get_or places a 0 ≡ bodies.place a) (length owners) (λ a l. place_is places ps a (omega (arith, l, ap length own, names_count set))) in
        numbers_same plans bodies (λ c. state plans bodies c (d ∷ ds)) (λ c. reset_all bodies c (filter (λ k. nat_eq (get_or owners k 0) v) (below (length owners))) (s c))
        (λ c. ap (λ (o : Outcome). state_after plans bodies c p o (s c)) out ∙ ap (λ (tasks : List ℕ). reset_all bodies c tasks (s c)) (sym on))
        ∙ sym (tasks_reset plans bodies owners places v (below (length owners)) s found)

  -- ---- answers

  pub answers_are : (schedules : List Schedule) (ds : List Step) (number : ℕ) (ins : List (Option ℤ)) → (bodies_of set made).place number < length made →
      (system_with set schedules made).answers ds number ins ≡ answer_at (bodies_after (plans_of set schedules) (bodies_of set made) ds) ((bodies_of set made).place number) number ins
  answers_are schedules ds number ins l =
      let plans = plans_of set schedules in
      let bodies = bodies_of set made in
      let b = bodies.place number in
      ap (λ (z : BodySeen). z.answer z.numbers number ins) (sym (body_with plans bodies (λ c. state plans bodies c ds) b l))
