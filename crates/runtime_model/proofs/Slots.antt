-- At a placed slot the out registers are those of its window
use Rattle.std.proofs.Common.{◌≡◌, ℕ, suc, ◌*◌, ◌≤◌, Bool, true, false, cond, ◌&&◌, List, [], ◌∷◌, length, map, Contains, refl, sym, ◌∙◌, ap, subst, arith, ℤ, pos}
use Rattle.std.specs.Prelude.{nat_eq, Option, Some, None}
use Rattle.std.proofs.lemmas.Int.{ints}
use Rattle.std.proofs.lemmas.Bool.{cond-true, eq-eqb}
use Rattle.sched_model.specs.PlainMode.{message_at}
use Rattle.sched_model.specs.Rounds.{round_start}
use Rattle.runtime_model.specs.Entries.{Action, slot}
use Rattle.runtime_model.specs.History.{history, spot_next, entries, entry_at}
use Rattle.runtime_model.specs.Laws.{RegistersHold}
use Rattle.runtime_model.specs.LookingBack.{recall, or_else, runs}
use Rattle.runtime_model.specs.Outcomes.{PlainEvent, Step, Outcome, beaconed, sent, silent, started, off, finished, void, requested, restarted, ended_run, advance}
use Rattle.runtime_model.specs.Packets.{all_present}
use Rattle.runtime_model.specs.Placement.{placed, own_slot, window_at}
use Rattle.runtime_model.specs.Plans.{node_of, RightPlan, Carried}
use Rattle.runtime_model.specs.Registers.{last_end, out_register, value_of}
use Rattle.runtime_model.specs.System.{System, plan_at}
use Rattle.runtime_model.specs.Timeline.{drains}
use Rattle.sched_model.proofs.Graph.{message_edge}
use Rattle.runtime_model.proofs.Cycles.{entry_right, RightAt}
use Rattle.runtime_model.proofs.Spots.{moves, stands}
use Rattle.runtime_model.proofs.Registers.{or_first}
use Rattle.runtime_model.proofs.Times.{natural_is, offset_is, task_fits, slot_window, round_from_zero}
use Rattle.runtime_model.proofs.OutRegisters.{Is, full_is_current, index_fits, start_place}

-- ---- one end against another
no_end : (a k : ℕ) (o : Outcome) → last_end a o ≡ None → ended_run a k o ≡ None
no_end a k (finished v b l x) e = by_test (nat_eq b a) (nat_eq l k) e
  where
    by_test : (p q : Bool) → cond {A = Option (ℕ × ℤ)} p (Some (l, x)) None ≡ None → cond (p && q) (Some x) None ≡ None
    by_test true q e = absurd (grind (arith, e))
    by_test false q e = refl
no_end a k (beaconed b hs) e = refl
no_end a k (sent v j l xs ts) e = refl
no_end a k (silent j) e = refl
no_end a k (started v b l ins x) e = refl
no_end a k (off v b) e = refl
no_end a k (void v b) e = refl
no_end a k (requested m) e = refl
no_end a k (restarted v) e = refl

same_end : (a k : ℕ) (x : ℤ) (o : Outcome) → last_end a o ≡ Some (k, x) → ended_run a k o ≡ Some x
same_end a k x (finished v b l z) e = by_test (nat_eq b a) refl e
  where
    by_test : (p : Bool) → nat_eq b a ≡ p → cond {A = Option (ℕ × ℤ)} p (Some (l, z)) None ≡ Some (k, x) → cond (p && nat_eq l k) (Some z) None ≡ Some x
    by_test true h e =
        let q : (l, z) ≡ (k, x) = grind (arith, e) in
        cond-true (nat_eq l k) (Some z) None (eq-eqb l k (ap (λ (w : ℕ × ℤ). w.0) q)) ∙ ap (λ (w : ℕ × ℤ). Some w.1) q
    by_test false h e = absurd (grind (arith, e))
same_end a k x (beaconed b hs) e = absurd (grind (arith, e))
same_end a k x (sent v j l xs ts) e = absurd (grind (arith, e))
same_end a k x (silent j) e = absurd (grind (arith, e))
same_end a k x (started v b l ins z) e = absurd (grind (arith, e))
same_end a k x (off v b) e = absurd (grind (arith, e))
same_end a k x (void v b) e = absurd (grind (arith, e))
same_end a k x (requested m) e = absurd (grind (arith, e))
same_end a k x (restarted v) e = absurd (grind (arith, e))

pub none_step : {X Y : Type 0} (b : Bool) (x w : Option X) (z u : Option Y) → (x ≡ None → z ≡ None) → (w ≡ None → u ≡ None) → cond b (or_else x w) None ≡ None → cond b (or_else z u) None ≡ None
none_step true (Some x) w z u f g e = absurd (grind (arith, e))
none_step true None w None u f g e = g e
none_step true None w (Some z) u f g e = absurd (let q = f refl in grind (arith, q))
none_step false x w z u f g e = refl

or_second : {Y : Type 0} (z u : Option Y) (s : Y) → z ≡ None → u ≡ Some s → or_else z u ≡ Some s
or_second (Some y) u s h g = absurd (grind (arith, h))
or_second None u s h g = g

pub some_step : {X Y : Type 0} (b : Bool) (x w : Option X) (z u : Option Y) (t : X) (s : Y) → (x ≡ Some t → z ≡ Some s) → (x ≡ None → z ≡ None) → (w ≡ Some t → u ≡ Some s) → cond b (or_else x w) None ≡ Some t → cond b (or_else z u) None ≡ Some s
some_step true (Some x) w z u t s f n g e = or_first z u s (f e)
some_step true None w z u t s f n g e = or_second z u s (n refl) (g e)
some_step false x w z u t s f n g e = absurd (grind (arith, e))

none_recalled : (v st a k : ℕ) (ds : List Step) → recall v st (last_end a) ds ≡ None → recall v st (ended_run a k) ds ≡ None
none_recalled v st a k [] e = refl
none_recalled v st a k (d ∷ ds) e = none_step (runs v (d ∷ ds) && nat_eq d.spot.stay st) (last_end a d.out) (recall v st (last_end a) ds) (ended_run a k d.out) (recall v st (ended_run a k) ds) (no_end a k d.out) (none_recalled v st a k ds) e

same_recalled : (v st a k : ℕ) (x : ℤ) (ds : List Step) → recall v st (last_end a) ds ≡ Some (k, x) → recall v st (ended_run a k) ds ≡ Some x
same_recalled v st a k x [] e = absurd (grind (arith, e))
same_recalled v st a k x (d ∷ ds) e = some_step (runs v (d ∷ ds) && nat_eq d.spot.stay st) (last_end a d.out) (recall v st (last_end a) ds) (ended_run a k d.out) (recall v st (ended_run a k) ds) (k, x) x (same_end a k x d.out) (no_end a k d.out) (same_recalled v st a k x ds) e

-- where the last end is of run k, it is what is held of run k
recall_value : (v st a k : ℕ) (ds : List Step) → ((l : ℕ) (x : ℤ) → recall v st (last_end a) ds ≡ Some (l, x) → l ≡ k) → recall v st (ended_run a k) ds ≡ value_of (recall v st (last_end a) ds)
recall_value v st a k ds f = by_case (recall v st (last_end a) ds) refl
  where
    by_case : (o : Option (ℕ × ℤ)) → recall v st (last_end a) ds ≡ o → recall v st (ended_run a k) ds ≡ value_of o
    by_case None e = none_recalled v st a k ds e
    by_case (Some z) e = same_recalled v st a k z.1 ds (e ∙ ap (λ l. Some (l, z.1)) (f z.0 z.1 e))

-- ---- at a slot
all_same : {X Y : Type 0} (f g : X → Y) (xs : List X) → ((x : X) → Contains xs x → f x ≡ g x) → map f xs ≡ map g xs
all_same f g [] h = refl
all_same {X = X} f g (x ∷ xs) h = ap (λ y. y ∷ map f xs) (h x (0, omega arith, refl)) ∙ ap (λ ys. g x ∷ ys) (all_same f g xs (λ z c. h z (suc c.0, omega (arith, c.1), c.2)))

module _ (y : System) (es : List PlainEvent) (j i : ℕ) (ok : RightPlan y.nodes (plan_at y (spot_next y (history y es)).hyper.mode)) (c : Carried (plan_at y (spot_next y (history y es)).hyper.mode) j i)
    (here : (entry_at y (spot_next y (history y es))).action ≡ slot j i) (pl : placed (spot_next y (history y es)).hyper.opening (spot_next y (history y es)).hyper.phase (own_slot (plan_at y (spot_next y (history y es)).hyper.mode) j i) ≡ true) where
  register_at : (a : ℕ) → Contains (message_at (plan_at y (spot_next y (history y es)).hyper.mode).mode i).from a →
      let ds = history y es in let s = spot_next y ds in let p = plan_at y s.hyper.mode in
      recall (node_of p a) s.stay (ended_run a (window_at p s.turn j i)) ds ≡ value_of (out_register p s.stay a ds)
  register_at a in_from =
      let ds = history y es in
      let s = spot_next y ds in
      let md = s.hyper.mode in
      let p = plan_at y md in
      let k = window_at p s.turn j i in
      let t = entry_at y s in
      let st = moves y ds (stands y es) in
      let now = stands y (advance 0 ∷ es) in
      let b = ok.valid.consumer i c.1 in
      let e = ok.valid.edges a b.0 (message_edge p.mode i a b.0 c.1 in_from b.1) in
      let fit = task_fits y.nodes p ok a e.from in
      let some : 1 ≤ length (entries y md) = let w = start_place y md a fit 0 in omega (arith, w.3.0) in
      let l = index_fits y md a fit some ds s st refl in
      let is : Is y md s.index t.tick (slot j i) = (l, ap (λ (w : Action). record { tick = t.tick; action = w }) here) in
      let r = subst (λ (w : Action). RightAt p t.tick w) here (entry_right y.nodes p s.index l).1 in
      let w = slot_window y.nodes p ok s.turn j i s.hyper.opening s.hyper.phase c now.turn (calm s.hyper.opening (drains s.hyper.phase) now.opening) pl in
      let m = ok.right.s4 i c.1 in
      let o = offset_is y.nodes p ok a e.from in
      let at = natural_is (round_start p.schedule j) (round_from_zero y.nodes p ok j c.0) in
      let at' = ap (λ (z : ℕ). pos z) r.1 in
      let app = e.period ∙ (ok.valid.consumer_app i b.0 c.1 b.1).0 in
      let per = ap (λ z. k * z) app in
      recall_value (node_of p a) s.stay a k ds (λ l x h.
      full_is_current y md a fit some es t.tick k l (slot j i) x refl is refl h
      (omega (arith, ints, m.sent a in_from, w.after, o, at, at', per))
      (omega (arith, ints, m.kept a in_from, w.before, o, at, at', per, app, ok.valid.round))
      (λ d. omega (arith, w.released d, per)))
    where
      calm : (b d : Bool) → (b ≡ true → d ≡ false) → d ≡ true → b ≡ false
      calm true d f e = absurd (let q : true ≡ false = sym e ∙ f refl in cc)
      calm false d f e = refl

pub registers_hold : RegistersHold
registers_hold y es j i ok c here pl =
    let ds = history y es in
    let s = spot_next y ds in
    let p = plan_at y s.hyper.mode in
    ap all_present (all_same (λ a. recall (node_of p a) s.stay (ended_run a (window_at p s.turn j i)) ds) (λ a. value_of (out_register p s.stay a ds)) (message_at p.mode i).from (register_at y es j i ok c here pl))
