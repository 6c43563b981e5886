-- What is still to be read of a document, as its lines are read
use Rattle.std.proofs.Common.{◌≡◌, ℕ, suc, ◌+◌, ◌-◌, ◌<◌, ◌≤◌, cond, List, [], ◌∷◌, ◌++◌, length, drop, drop-cons, get_or, Result, Ok, Err, refl, sym, ap, subst, ◌∙◌, arith, inl, inr, append_assoc, length-append}
use Rattle.std.specs.Prelude.{Option, Some, None}
use Rattle.std.specs.List.{enumerate_from, AllZip}
use Rattle.std.proofs.lemmas.Bool.{leb-true, ne_eqb}
use Rattle.std.proofs.lemmas.List.{drop_all, length-map, get_or-map}
use Rattle.std.proofs.lemmas.List.FromFn.{length-enumerate_from, get_or-enumerate_from}
use Rattle.app_graph.specs.declared.faults.GraphFault.TheVariants.{TooMany}
use Rattle.app_graph.specs.declared.keys.Key.TheVariants.{KMode}
use Rattle.app_graph.specs.declared.raw.RawMode.{RawMode}
use Rattle.app_graph.specs.declared.raw.RawSet.{RawSet}
use Rattle.app_graph.specs.declared.mode_set.ModeSet.{ModeSet}
use Rattle.app_graph.specs.ValueRules.{set_rules, value_rules, at_most}
use Rattle.app_graph.specs.Numbering.{modes_from, set_of, task_count, message_count}
use Rattle.app_graph.specs.Validation.{KeepsRules}
use Rattle.app_graph.proofs.Kept.{all_kept, unless_kept}
use Rattle.sched_model.specs.PlainMode.{most_rounds}
use Rattle.sched_model.specs.FirstBroken.{BreaksFirst}
use Rattle.sched_model.specs.declared.schedule.Schedule.{Schedule}
use Rattle.proof_tree.specs.Accepting.{DocMode, doc_mode, doc_modes, IsRight}
use Rattle.proof_tree.specs.Items.{Item}
use Rattle.proof_tree.specs.TreeLines.{Items}
use Rattle.proof_tree.specs.Reading.{Refusal, Clause, Grammar, Place, Read, ◌>>=◌, Reading, next_item, counts_at, mode_line, mode, fixed, is_head, is_end, with_mode, read_modes, close_at, close, behind_head}
use Rattle.proof_tree.specs.Refusing.{RefusedFrom}
use Rattle.cert_checker.specs.declared.refused.Refused.{Refused}
use Rattle.cert_checker.specs.declared.counts.Inside.{Inside}
use Rattle.cert_checker.specs.declared.counts.Inside.TheVariants.{Count}
use Rattle.cert_checker.specs.declared.stages.Stage.{Stage}
use Rattle.cert_checker.specs.declared.stages.Stage.TheVariants.{Head, Mode, Within, Nothing}
use Rattle.cert_checker.specs.DraftReading.{doc_at}
use Rattle.cert_checker.specs.ModeReading.{inside_due}
use Rattle.cert_checker.specs.Refusals.{said, Fails}
use Rattle.cert_checker.specs.DocumentStages.{modes_due, stage_due, document_due, FrontRight, Refutes, Halts, BreaksSo}
use Rattle.cert_checker.proofs.Errors.{some_weaker}

-- ---- a set that keeps the rules has at most 8 modes

length-modes : (nodes : List (List ℕ)) (t m : ℕ) (modes : List RawMode) → length (modes_from nodes t m modes) ≡ length modes
length-modes nodes t m [] = refl
length-modes nodes t m (mode ∷ modes) = ap suc (length-modes nodes (t + task_count mode) (m + message_count mode) modes)

raw_few : (raw : RawSet) → value_rules raw ≡ None → length raw.modes ≤ 8
raw_few raw e = let k = all_kept (set_rules raw) e in leb-true (length raw.modes) 8 (unless_kept (at_most 8 raw.modes) (TooMany KMode) k.1.1.1.0)

pub few_modes : (set : ModeSet) → KeepsRules set → length set.modes ≤ 8
few_modes set (raw, e, same) =
    let l : length (set_of raw).modes ≤ 8 = omega (arith, length-modes raw.nodes 0 0 raw.modes, raw_few raw e) in
    subst (λ (s : ModeSet). length s.modes ≤ 8) (sym same) l

-- ---- the plans that were read

refused_behind : (o : ℕ) (modes : List DocMode) (plans : List (Option Schedule)) (f : Refusal) → FrontRight modes plans → RefusedFrom o modes (plans ++ []) (Err f) f
refused_behind o modes [] f right = refl
refused_behind o [] (p ∷ plans) f right = absurd right
refused_behind o (d ∷ modes) (None ∷ plans) f right = refused_behind (o + 1) modes plans f right.1
refused_behind o (d ∷ modes) (Some s ∷ plans) f right = inl (right.0, refused_behind (o + 1) modes plans f right.1)

clause_behind : (o : ℕ) (modes : List DocMode) (plans more : List (Option Schedule)) (s : Schedule) (d none : DocMode) (ended : Result Place Refusal) (clause n : ℕ) → FrontRight modes plans → length plans < length modes
    → get_or modes (length plans) none ≡ d → BreaksFirst d.mode s clause → n ≡ o + length plans → RefusedFrom o modes (plans ++ Some s ∷ more) ended (Clause n clause)
clause_behind o [] plans more s d none ended clause n right l e breaks en = absurd (omega (arith, l))
clause_behind o (a ∷ modes) [] more s d none ended clause n right l e breaks en =
    inr (clause, subst (λ (x : DocMode). BreaksFirst x.mode s clause) (sym e) breaks, ap (λ k. Clause k clause) (let z : n ≡ o = omega (arith, en) in z))
clause_behind o (a ∷ modes) (None ∷ plans) more s d none ended clause n right l e breaks en =
    clause_behind (o + 1) modes plans more s d none ended clause n right.1 (omega (arith, l)) e breaks (omega (arith, en))
clause_behind o (a ∷ modes) (Some t ∷ plans) more s d none ended clause n right l e breaks en =
    inl (right.0, clause_behind (o + 1) modes plans more s d none ended clause n right.1 (omega (arith, l)) e breaks (omega (arith, en)))

front_push : (modes : List DocMode) (plans : List (Option Schedule)) (p : Option Schedule) (d none : DocMode) → FrontRight modes plans → length plans < length modes → get_or modes (length plans) none ≡ d → IsRight d p → FrontRight modes (plans ++ p ∷ [])
front_push [] plans p d none right l e is = absurd (omega (arith, l))
front_push (a ∷ modes) [] p d none right l e is = (subst (λ (x : DocMode). IsRight x p) (sym e) is, tt)
front_push (a ∷ modes) (q ∷ plans) p d none right l e is = (right.0, front_push modes plans p d none right.1 (omega (arith, l)) e is)

pub front_all : (modes : List DocMode) (plans : List (Option Schedule)) → FrontRight modes plans → length plans ≡ length modes → AllZip IsRight modes plans
front_all [] [] right l = tt
front_all (d ∷ modes) [] right l = absurd (omega (arith, l))
front_all [] (p ∷ plans) right l = absurd right
front_all (d ∷ modes) (p ∷ plans) right l = (right.0, front_all modes plans right.1 (omega (arith, l)))

pub length-doc_modes : (set : ModeSet) → length (doc_modes set) ≡ length set.modes
length-doc_modes set = length-map set.modes (doc_mode set)

doc_here : (set : ModeSet) (k : ℕ) → k < length set.modes → get_or (doc_modes set) k (doc_mode set (record { name = []; apps = [] })) ≡ doc_at set k
doc_here set k l = get_or-map (doc_mode set) set.modes k (record { name = []; apps = [] }) (doc_mode set (record { name = []; apps = [] })) l

-- ---- a refusal

-- reading that stops refutes the document
pub halts_refutes : (set : ModeSet) (plans : List (Option Schedule)) (stage : Stage) (at : Place) (e : Refused) → FrontRight (doc_modes set) plans → Halts e (stage_due set (length plans) stage at) → Refutes set e (document_due set plans stage at)
halts_refutes set plans stage at e right h =
    some_weaker (said e) _ _ (λ f is. subst (λ (r : Reading). RefusedFrom 0 (doc_modes set) (plans ++ r.plans) r.ended f) (sym is) (refused_behind 0 (doc_modes set) plans f right)) h

-- ---- the head

pub head_goes : (set : ModeSet) (at to : Place) → fixed is_head at ≡ Ok (tt, to) → stage_due set 0 Head at ≡ stage_due set 0 Mode to
head_goes set at to e = ap (λ (r : Read (Unit {0})). behind_head r (doc_modes set)) e

pub head_halts : (set : ModeSet) (k : ℕ) (at : Place) (e : Refused) → Fails e (fixed is_head at) → Halts e (stage_due set k Head at)
head_halts set k at e h = some_weaker (said e) _ _ (λ f is. ap (λ (r : Read (Unit {0})). behind_head r (doc_modes set)) is) h

-- ---- a mode

closing : (r : Read (Option Schedule)) (rest : Place → Reading) →
    ◌≡◌ {A = Reading} (record { plans = (with_mode r rest).plans; ended = close (with_mode r rest).ended }) (with_mode r (λ x. record { plans = (rest x).plans; ended = close (rest x).ended }))
closing (Ok x) rest = refl
closing (Err f) rest = refl

-- the modes from this one on
one_mode : (modes : List DocMode) (k : ℕ) (d none : DocMode) (at : Place) → k < length modes → get_or modes k none ≡ d → modes_due modes k at ≡ with_mode (mode (k, d) at) (modes_due modes (k + 1))
one_mode modes k d none at l e =
    let all = enumerate_from 0 modes in
    let here : drop k all ≡ (k, d) ∷ drop (k + 1) all =
    drop-cons all k (0, none) (omega (arith, l, length-enumerate_from 0 modes))
    ∙ ap (λ (p : ℕ × DocMode). p ∷ drop (suc k) all) (get_or-enumerate_from 0 modes k (0, none) l ∙ ap (λ (i : ℕ). (i, get_or modes k none)) (let z : 0 + k ≡ k = omega arith in z) ∙ ap (λ (x : DocMode). (k, x)) e)
    ∙ ap (λ i. (k, d) ∷ drop i all) (let z : suc k ≡ k + 1 = omega arith in z) in
    ap (λ (ps : List (ℕ × DocMode)). record { plans = (read_modes ps at).plans; ended = close (read_modes ps at).ended }) here
    ∙ closing (mode (k, d) at) (read_modes (drop (k + 1) all))

no_mode : (modes : List DocMode) (k : ℕ) (at : Place) → length modes ≤ k → modes_due modes k at ≡ record { plans = []; ended = close_at (fixed is_end at) }
no_mode modes k at l =
    ap (λ (ps : List (ℕ × DocMode)). record { plans = (read_modes ps at).plans; ended = close (read_modes ps at).ended }) (drop_all k (enumerate_from 0 modes) (omega (arith, l, length-enumerate_from 0 modes)))

pub name_goes : (set : ModeSet) (k : ℕ) (at to : Place) → k < length set.modes → mode_line (doc_at set k) at (next_item at.rest) ≡ Ok (tt, to) → stage_due set k Mode at ≡ stage_due set k (Within (Count 1)) to
name_goes set k at to l e =
    let d = doc_at set k in
    one_mode (doc_modes set) k d _ at (omega (arith, l, length-doc_modes set)) (doc_here set k l)
    ∙ ap (λ (r : Read (Unit {0})). with_mode (r >>= λ x. counts_at k d (most_rounds d.mode) 1 x.1 (next_item x.1.rest)) (modes_due (doc_modes set) (k + 1))) e
    ∙ ap (λ n. with_mode (counts_at k d n 1 to (next_item to.rest)) (modes_due (doc_modes set) (k + 1))) (let z : most_rounds d.mode ≡ most_rounds d.mode + 1 - 1 = omega arith in z)

pub name_halts : (set : ModeSet) (k : ℕ) (at : Place) (e : Refused) → k < length set.modes → Fails e (mode_line (doc_at set k) at (next_item at.rest)) → Halts e (stage_due set k Mode at)
name_halts set k at e l h =
    let d = doc_at set k in
    some_weaker (said e) _ _ (λ f is. one_mode (doc_modes set) k d _ at (omega (arith, l, length-doc_modes set)) (doc_here set k l)
    ∙ ap (λ (r : Read (Unit {0})). with_mode (r >>= λ x. counts_at k d (most_rounds d.mode) 1 x.1 (next_item x.1.rest)) (modes_due (doc_modes set) (k + 1))) is) h

pub end_goes : (set : ModeSet) (k : ℕ) (at to : Place) → length set.modes ≤ k → fixed is_end at ≡ Ok (tt, to) → stage_due set k Mode at ≡ stage_due set k Nothing to
end_goes set k at to l e =
    no_mode (doc_modes set) k at (omega (arith, l, length-doc_modes set)) ∙ ap (λ (r : Read (Unit {0})). record { plans = []; ended = close_at r }) e

pub end_halts : (set : ModeSet) (k : ℕ) (at : Place) (e : Refused) → length set.modes ≤ k → Fails e (fixed is_end at) → Halts e (stage_due set k Mode at)
end_halts set k at e l h =
    some_weaker (said e) _ _ (λ f is. no_mode (doc_modes set) k at (omega (arith, l, length-doc_modes set)) ∙ ap (λ (r : Read (Unit {0})). record { plans = []; ended = close_at r }) is) h

-- ---- inside a mode

pub within_goes : (set : ModeSet) (plans : List (Option Schedule)) (a b : Inside) (at to : Place) → inside_due (length plans) (doc_at set (length plans)) a at ≡ inside_due (length plans) (doc_at set (length plans)) b to
    → document_due set plans (Within a) at ≡ document_due set plans (Within b) to
within_goes set plans a b at to e =
    ap (λ (r : Read (Option Schedule)). record {
      plans = plans ++ (with_mode r (modes_due (doc_modes set) (length plans + 1))).plans;
      ended = (with_mode r (modes_due (doc_modes set) (length plans + 1))).ended;
    }) e

pub within_halts : (set : ModeSet) (k : ℕ) (a : Inside) (at : Place) (e : Refused) → Fails e (inside_due k (doc_at set k) a at) → Halts e (stage_due set k (Within a) at)
within_halts set k a at e h = some_weaker (said e) _ _ (λ f is. ap (λ (r : Read (Option Schedule)). with_mode r (modes_due (doc_modes set) (k + 1))) is) h

pub plan_goes : (set : ModeSet) (plans new : List (Option Schedule)) (p : Option Schedule) (a : Inside) (at to : Place) → inside_due (length plans) (doc_at set (length plans)) a at ≡ Ok (p, to) → new ≡ plans ++ p ∷ []
    → document_due set plans (Within a) at ≡ document_due set new Mode to
plan_goes set plans new p a at to e en =
    let behind = modes_due (doc_modes set) (length plans + 1) in
    ap (λ (r : Read (Option Schedule)). record { plans = plans ++ (with_mode r behind).plans; ended = (with_mode r behind).ended }) e
    ∙ ap (λ (l : List (Option Schedule)). record { plans = l; ended = (behind to).ended }) (sym (append_assoc plans (p ∷ []) (behind to).plans))
    ∙ ap (λ n. record { plans = (plans ++ p ∷ []) ++ (modes_due (doc_modes set) n to).plans; ended = (modes_due (doc_modes set) n to).ended }) (sym (length-append plans (p ∷ [])))
    ∙ ap (λ (l : List (Option Schedule)). document_due set l Mode to) (sym en)

pub plan_right : (set : ModeSet) (plans new : List (Option Schedule)) (p : Option Schedule) → FrontRight (doc_modes set) plans → length plans < length set.modes → IsRight (doc_at set (length plans)) p → new ≡ plans ++ p ∷ []
    → FrontRight (doc_modes set) new
plan_right set plans new p right l is en =
    subst (λ (x : List (Option Schedule)). FrontRight (doc_modes set) x) (sym en)
    (front_push (doc_modes set) plans p (doc_at set (length plans)) _ right (omega (arith, l, length-doc_modes set)) (doc_here set (length plans) l) is)

pub plan_breaks : (set : ModeSet) (plans : List (Option Schedule)) (p : Option Schedule) (a : Inside) (at to : Place) (e : Refused) → FrontRight (doc_modes set) plans → length plans < length set.modes
    → inside_due (length plans) (doc_at set (length plans)) a at ≡ Ok (p, to) → BreaksSo (length plans) (doc_at set (length plans)) p e → Refutes set e (document_due set plans (Within a) at)
plan_breaks set plans None a at to e right l is b = absurd b
plan_breaks set plans (Some s) a at to e right l is b =
    let behind = modes_due (doc_modes set) (length plans + 1) in
    let clause = b.0 in
    let d = doc_at set (length plans) in
    let whole : document_due set plans (Within a) at ≡ record { plans = plans ++ Some s ∷ (behind to).plans; ended = (behind to).ended } =
    ap (λ (r : Read (Option Schedule)). record { plans = plans ++ (with_mode r behind).plans; ended = (with_mode r behind).ended }) is in
    subst (λ (x : Refused). Refutes set x (document_due set plans (Within a) at)) (sym b.2)
    (subst (λ (r : Reading). RefusedFrom 0 (doc_modes set) r.plans r.ended (Clause (length plans) clause)) (sym whole)
    (clause_behind 0 (doc_modes set) plans (behind to).plans s d _ (behind to).ended clause (length plans) right (omega (arith, l, length-doc_modes set)) (doc_here set (length plans) l) b.1 (omega arith)))

-- ---- behind the end

pub past_end : (set : ModeSet) (k line : ℕ) (item : Option Item) (rest : Items) → stage_due set k Nothing (record { line = line; rest = item ∷ rest }) ≡ record { plans = []; ended = Err (Grammar line) }
past_end set k line item rest = ap (λ b. record { plans = []; ended = cond b (Ok (record { line = line; rest = item ∷ rest })) (Err (Grammar line)) }) (ne_eqb (suc (length rest)) 0 (λ e. absurd (omega (arith, e))))
