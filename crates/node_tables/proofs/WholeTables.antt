-- The parts of the modes, one after another
use Rattle.std.proofs.Common.{◌≡◌, ℕ, zero, suc, ◌+◌, ◌<◌, ◌≤◌, List, [], ◌∷◌, ◌++◌, length, get_or, drop, map, refl, sym, ◌∙◌, ap, arith, append_assoc, append-nil}
use Rattle.std.proofs.Math.Seq.{drop-cons}
use Rattle.app_graph.specs.declared.mode_set.ModeSet.{ModeSet}
use Rattle.sched_model.specs.declared.schedule.Schedule.{Schedule}
use Rattle.sched_model.specs.Numbers.{below}
use Rattle.sched_model.specs.PlainMode.{plain_at}
use Rattle.sched_model.proofs.Lists.{length-below, get_or-map_below}
use Rattle.std.proofs.lemmas.List.{length-map}
use Rattle.runtime_model.specs.NodeTables.{PlainOwnTask, PlainOwnMessage, PlainOwnSlot, PlainOwnRound, PlainModeTable, PlainNodeTable, mode_tables}
use Rattle.runtime_model.specs.Plans.{Plan, no_schedule, plan_of, plans_of}
use Rattle.node_tables.specs.declared.tables.ModeTable.{ModeTable}
use Rattle.node_tables.specs.Parts.{part_in, plain_task, plain_message, plain_slot, plain_round, plain_mode, plain_table, typed_task, typed_message, typed_slot, typed_round, typed_mode, typed_table}

-- the parts of the modes from place k on
abbrev pub parts_from : ℕ → ℕ → ℕ → List Plan → List ModeTable
parts_from v first k ps = map typed_mode (mode_tables v first (drop k ps))

pub parts_step : (set : ModeSet) (schedules : List Schedule) (v k first next : ℕ) (old new : List ModeTable) (x : ModeTable) (s : Schedule) → k < length set.modes
    → s ≡ get_or schedules k no_schedule → x ≡ typed_mode (part_in first v (record { mode = plain_at set k; schedule = s })) → next ≡ first + length s.starts → new ≡ old ++ x ∷ []
    → (whole : List ModeTable) → old ++ parts_from v first k (plans_of set schedules) ≡ whole → new ++ parts_from v next (k + 1) (plans_of set schedules) ≡ whole
parts_step set schedules v k first next old new x s l same is sum add whole h =
    let ps = plans_of set schedules in
    let p : Plan = record { mode = plain_at set k; schedule = s } in
    let len : length ps ≡ length set.modes = length-map (below (length set.modes)) (plan_of set schedules) ∙ length-below (length set.modes) in
    let at : get_or ps k p ≡ p = get_or-map_below (plan_of set schedules) (length set.modes) k p l ∙ ap (λ (y : Schedule). let z : Plan = record { mode = plain_at set k; schedule = y } in z) (sym same) in
    let cons : drop k ps ≡ p ∷ drop (suc k) ps = drop-cons ps k p (omega (arith, l, len)) ∙ ap (λ (y : Plan). y ∷ drop (suc k) ps) at in
    ap (λ (n : ℕ). new ++ map typed_mode (mode_tables v next (drop n ps))) (let o : k + 1 ≡ suc k = omega arith in o)
    ∙ ap (λ (n : ℕ). new ++ map typed_mode (mode_tables v n (drop (suc k) ps))) sum
    ∙ ap (λ (y : List ModeTable). y ++ map typed_mode (mode_tables v (first + length s.starts) (drop (suc k) ps))) add
    ∙ append_assoc old (x ∷ []) (map typed_mode (mode_tables v (first + length s.starts) (drop (suc k) ps)))
    ∙ ap (λ (y : ModeTable). old ++ y ∷ map typed_mode (mode_tables v (first + length s.starts) (drop (suc k) ps))) is
    ∙ ap (λ (y : List Plan). old ++ map typed_mode (mode_tables v first y)) (sym cons)
    ∙ h

pub parts_end : (set : ModeSet) (schedules : List Schedule) (v k first : ℕ) (old whole : List ModeTable) → length set.modes ≤ k → old ++ parts_from v first k (plans_of set schedules) ≡ whole → old ≡ whole
parts_end set schedules v k first old whole l h =
    let ps = plans_of set schedules in
    let len : length ps ≡ length set.modes = length-map (below (length set.modes)) (plan_of set schedules) ∙ length-below (length set.modes) in
    sym (append-nil old) ∙ ap (λ (y : List Plan). old ++ map typed_mode (mode_tables v first y)) (sym (past ps k (omega (arith, len, l)))) ∙ h
  where
    past : (xs : List Plan) (n : ℕ) → length xs ≤ n → drop n xs ≡ []
    past [] zero h = refl
    past [] (suc n) h = refl
    past (y ∷ ys) zero h = absurd (omega (arith, h))
    past (y ∷ ys) (suc n) h = past ys n (omega (arith, h))

-- ---- typed, and plain again
back : {X Y : Type 0} (f : X → Y) (g : Y → X) → ((x : X) → g (f x) ≡ x) → (xs : List X) → map g (map f xs) ≡ xs
back f g h [] = refl
back {X} f g h (x ∷ xs) = ap (λ (y : X). y ∷ map g (map f xs)) (h x) ∙ ap (λ (ys : List X). x ∷ ys) (back f g h xs)

plain_round_is : (r : PlainOwnRound) → plain_round (typed_round r) ≡ r
plain_round_is r = ap (λ (xs : List PlainOwnSlot). let y : PlainOwnRound = record { start = r.start; slots = xs } in y) (back typed_slot plain_slot (λ x. refl) r.slots)

plain_mode_is : (m : PlainModeTable) → plain_mode (typed_mode m) ≡ m
plain_mode_is m =
    let made = λ (ts : List PlainOwnTask) (ms : List PlainOwnMessage) (rs : List PlainOwnRound). let y : PlainModeTable = record { hyper = m.hyper; first_round = m.first_round; tasks = ts; messages = ms; rounds = rs } in y in
    ap (λ (x : List PlainOwnTask). made x (map plain_message (map typed_message m.messages)) (map plain_round (map typed_round m.rounds))) (back typed_task plain_task (λ x. refl) m.tasks)
    ∙ ap (λ (x : List PlainOwnMessage). made m.tasks x (map plain_round (map typed_round m.rounds))) (back typed_message plain_message (λ x. refl) m.messages)
    ∙ ap (λ (x : List PlainOwnRound). made m.tasks m.messages x) (back typed_round plain_round plain_round_is m.rounds)

pub plain_typed : (t : PlainNodeTable) → plain_table (typed_table t) ≡ t
plain_typed t = ap (λ (xs : List PlainModeTable). let y : PlainNodeTable = record { node = t.node; modes = xs } in y) (back typed_mode plain_mode plain_mode_is t.modes)
