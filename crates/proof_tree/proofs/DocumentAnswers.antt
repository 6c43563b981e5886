-- A document has one answer.
use Rattle.std.proofs.Common.{◌≡◌, ℕ, suc, ◌+◌, List, [], ◌∷◌, length, Option, Some, None, Result, Ok, Err, refl, sym, ap, subst, ◌∙◌, arith, ◌⊎◌, inl, inr, ⊎_elim}
use Rattle.std.specs.List.{AllZip, AllByRecursion}
use Rattle.sched_model.specs.ValidMode.{IsValid}
use Rattle.sched_model.specs.declared.schedule.Schedule.{Schedule}
use Rattle.sched_model.proofs.Decided.{decided, keeps_all, one_clause}
use Rattle.proof_tree.specs.TreeLines.{Items}
use Rattle.proof_tree.specs.Accepting.{DocMode, doc_modes, EachIs, IsMode, IsRight, AcceptedFor, Accepts, items_of}
use Rattle.proof_tree.specs.Reading.{Refusal, Clause, Place, read_document}
use Rattle.proof_tree.specs.Refusing.{RefusedFrom, RefusedFor, Refuses}
use Rattle.proof_tree.specs.Fewest.{IsBest}
use Rattle.proof_tree.specs.DocumentLaws.{OneAnswers, AcceptedAreBest}
use Rattle.proof_tree.proofs.DocumentReading.{document_is}
use Rattle.proof_tree.proofs.DocumentWriting.{document_reads}
use Rattle.proof_tree.proofs.FewestRounds.{mode_is_best}
use Rattle.proof_tree.proofs.ReadShapes.{IsNamed, Shaped, modes_named, document_shaped, as_many}

same_refusal : (f g : Refusal) → ◌≡◌ {A = Result Place Refusal} (Err f) (Err g) → f ≡ g
same_refusal f g e = cc

refusals_are_one : (o : ℕ) (modes : List DocMode) (plans : List (Option Schedule)) (ended : Result Place Refusal) (f g : Refusal) → RefusedFrom o modes plans ended f → RefusedFrom o modes plans ended g → f ≡ g
refusals_are_one o modes [] ended f g a b = same_refusal f g (sym a ∙ b)
refusals_are_one o [] (p ∷ ps) ended f g a b = same_refusal f g (sym a ∙ b)
refusals_are_one o (d ∷ modes) (None ∷ ps) ended f g a b = refusals_are_one (o + 1) modes ps ended f g a b
refusals_are_one o (d ∷ modes) (Some s ∷ ps) ended f g a b =
    ⊎_elim
    (λ x. ⊎_elim
    (λ y. refusals_are_one (o + 1) modes ps ended f g x.1 y.1)
    (λ y. absurd (y.1.broken (keeps_all d.mode (length s.starts) s x.0 y.0)))
    b)
    (λ x. ⊎_elim
    (λ y. absurd (x.1.broken (keeps_all d.mode (length s.starts) s y.0 x.0)))
    (λ y. x.2 ∙ ap (λ (k : ℕ). Clause o k) (one_clause d.mode s x.0 y.0 x.1 y.1) ∙ sym y.2)
    b)
    a

no_end : (f : Refusal) (at : Place) → ◌≡◌ {A = Result Place Refusal} (Ok at) (Err f) → ⊥
no_end f at e = absurd cc

right_is_not_refused : (o : ℕ) (modes : List DocMode) (plans : List (Option Schedule)) (at : Place) (f : Refusal) → AllZip IsRight modes plans → RefusedFrom o modes plans (Ok at) f → ⊥
right_is_not_refused o [] [] at f right a = no_end f at a
right_is_not_refused o (d ∷ modes) [] at f right a = no_end f at a
right_is_not_refused o [] (p ∷ ps) at f right a = no_end f at a
right_is_not_refused o (d ∷ modes) (None ∷ ps) at f right a = right_is_not_refused (o + 1) modes ps at f right.1 a
right_is_not_refused o (d ∷ modes) (Some s ∷ ps) at f right a =
    ⊎_elim
    (λ x. right_is_not_refused (o + 1) modes ps at f right.1 x.1)
    (λ x. x.1.broken (keeps_all d.mode (length s.starts) s right.0 x.0))
    a

-- all schedules that were read are right, or one is the first that is not
walk : (o : ℕ) (modes : List DocMode) (plans : List (Option Schedule)) (ended : Result Place Refusal) → AllByRecursion IsNamed modes → Shaped modes plans → ((at : Place) → ended ≡ Ok at → length plans ≡ length modes)
    → ((at : Place) × (ended ≡ Ok at) × AllZip IsRight modes plans) ⊎ ((f : Refusal) × RefusedFrom o modes plans ended f)
walk o [] [] (Ok at) is shaped same = inl (at, refl, tt)
walk o [] [] (Err f) is shaped same = inr (f, refl)
walk o (d ∷ modes) [] (Ok at) is shaped same = absurd (omega (arith, same at refl))
walk o (d ∷ modes) [] (Err f) is shaped same = inr (f, refl)
walk o [] (p ∷ ps) (Ok at) is shaped same = absurd (omega (arith, same at refl))
walk o [] (p ∷ ps) (Err f) is shaped same = inr (f, refl)
walk o (d ∷ modes) (None ∷ ps) ended is shaped same =
    ⊎_elim (λ x. inl (x.0, x.1, (tt, x.2))) (λ x. inr (x.0, x.1)) (walk (o + 1) modes ps ended is.1 shaped (λ at e. let l : suc (length ps) ≡ suc (length modes) = same at e in omega arith))
walk o (d ∷ modes) (Some s ∷ ps) ended is shaped same =
    ⊎_elim
    (λ right. ⊎_elim (λ x. inl (x.0, x.1, (right, x.2))) (λ x. inr (x.0, inl (right, x.1))) (walk (o + 1) modes ps ended is.1 shaped.1 (λ at e. let l : suc (length ps) ≡ suc (length modes) = same at e in omega arith)))
    (λ broken. inr (Clause o broken.0, inr (broken.0, broken.1, refl)))
    (decided d.mode s is.0.valid shaped.0)

each_valid : (modes : List DocMode) → AllByRecursion IsNamed modes → AllByRecursion (λ d. IsValid d.mode) modes
each_valid [] is = tt
each_valid (d ∷ ds) is = (is.0.valid, each_valid ds is.1)

-- a document of named modes is accepted or refused
answered : (modes : List DocMode) (bytes : List ℕ) → AllByRecursion IsNamed modes → ((plans : List (Option Schedule)) × AcceptedFor modes bytes plans) ⊎ ((f : Refusal) × RefusedFor modes bytes f)
answered modes bytes is =
    let items = items_of bytes in
    let read = read_document modes items in
    ⊎_elim
    (λ x. inl (read.plans, record { told = document_is modes items x.0 x.1; right = x.2 }))
    (λ x. inr x)
    (walk 0 modes read.plans read.ended is (document_shaped modes items is) (λ at e. let plan = document_is modes items at e in as_many IsMode modes read.plans plan.0 _ plan.2))

plans_are_one : (modes : List DocMode) (bytes : List ℕ) (p q : List (Option Schedule)) → AllByRecursion (λ d. IsValid d.mode) modes → AcceptedFor modes bytes p → AcceptedFor modes bytes q → p ≡ q
plans_are_one modes bytes p q ok a b =
    let x = document_reads modes (items_of bytes) p ok a.right a.told in
    let y = document_reads modes (items_of bytes) q ok b.right b.told in
    sym x.1 ∙ y.1

not_both : (modes : List DocMode) (bytes : List ℕ) (p : List (Option Schedule)) (f : Refusal) → AllByRecursion (λ d. IsValid d.mode) modes → AcceptedFor modes bytes p → RefusedFor modes bytes f → ⊥
not_both modes bytes p f ok a b =
    let x = document_reads modes (items_of bytes) p ok a.right a.told in
    right_is_not_refused 0 modes p x.0 f a.right
    (subst (λ (e : Result Place Refusal). RefusedFrom 0 modes p e f) x.2
    (subst (λ (l : List (Option Schedule)). RefusedFrom 0 modes l (read_document modes (items_of bytes)).ended f) x.1 b))

pub one_answers : OneAnswers
one_answers set bytes keeps =
    let modes = doc_modes set in
    let is = modes_named set keeps in
    let ok = each_valid modes is in
    let read = read_document modes (items_of bytes) in
    ⊎_elim
    (λ (x : (plans : List (Option Schedule)) × Accepts set bytes plans). inl ((x.0, x.1, λ q a. plans_are_one modes bytes q x.0 ok a x.1), λ f b. not_both modes bytes x.0 f ok x.1 b))
    (λ (x : (f : Refusal) × Refuses set bytes f). inr ((x.0, x.1, λ g b. refusals_are_one 0 modes read.plans read.ended g x.0 b x.1), λ p a. not_both modes bytes p x.0 ok a x.1))
    (answered modes bytes is)

all_best : (modes : List DocMode) (plans : List (Option Schedule)) (ls rest : Items) → AllByRecursion (λ d. IsValid d.mode) modes → AllZip IsRight modes plans → EachIs IsMode modes plans ls rest → AllZip IsBest modes plans
all_best [] [] ls rest ok right e = tt
all_best [] (p ∷ ps) ls rest ok right e = absurd e
all_best (d ∷ ds) [] ls rest ok right e = absurd e
all_best (d ∷ ds) (p ∷ ps) ls rest ok right e = (mode_is_best d p ls e.0 ok.0 e.1 right.0, all_best ds ps e.0 rest ok.1 right.1 e.2)

pub accepted_are_best : AcceptedAreBest
accepted_are_best set bytes plans keeps a = all_best (doc_modes set) plans a.told.0 _ (each_valid (doc_modes set) (modes_named set keeps)) a.right a.told.2
