-- The parts that the search makes are right.
use Rattle.std.proofs.Common.{◌≡◌, ℕ, suc, ◌+◌, ◌≤◌, List, [], ◌∷◌, length, get_or, map, Option, Some, None, refl, subst, arith}
use Rattle.std.specs.Prelude.{codes}
use Rattle.std.specs.List.{AllByRecursion, AllZip, flat_map, zip, enumerate_from, join_with_byte}
use Rattle.std.proofs.lemmas.List.Elements.{recursion_from_All, Contains-get_or}
use Rattle.app_graph.specs.declared.mode_set.ModeSet.{ModeSet}
use Rattle.app_graph.specs.declared.mode_set.Mode.{Mode}
use Rattle.sched_model.specs.PlainMode.{PlainMode, most_rounds, plain_mode}
use Rattle.sched_model.specs.RefutationTree.{node_of}
use Rattle.sched_model.specs.ModeLimits.{IsLimited}
use Rattle.sched_model.specs.ValidMode.{IsValid}
use Rattle.sched_model.specs.declared.schedule.Schedule.{Schedule}
use Rattle.sched_model.proofs.Refutations.{own_tree_valid}
use Rattle.sched_model.proofs.Leasts.{printed_right}
use Rattle.proof_tree.specs.declared.tree.Tree.{Tree}
use Rattle.proof_tree.specs.declared.tree.ModePart.{ModePart}
use Rattle.proof_tree.specs.Items.{Head, ModeNamed, Absent, End}
use Rattle.proof_tree.specs.PlanText.{refuted_items, answer_items, part_items, plan_items}
use Rattle.proof_tree.specs.Accepting.{doc_mode}
use Rattle.proof_tree.specs.OwnDocument.{OwnTreesFrom, OwnAnswer, OwnPart}
use Rattle.proof_tree.specs.DocumentLaws.{HasRoom, ValidTreesFrom, RightAnswer, IsRightPart, OwnPartsMakeDocuments}
use Rattle.proof_tree.proofs.ReadShapes.{IsNamed, modes_named}
use Rattle.sched_model.proofs.LimitedModes.{modes_limited}
use Rattle.proof_tree.proofs.FewestRounds.{few}
use Rattle.proof_tree.proofs.LineRoom.{joined_length, own_trees_have_room}
use Rattle.proof_tree.proofs.GoodNames.{IsName, HasNames, all_append, modes_have_names}
use Rattle.proof_tree.proofs.ScheduleRoom.{name_short, schedule_fits}
use Rattle.proof_tree.proofs.PartsStanding.{right_parts_are_accepted}

trees_valid : (m : PlainMode) (r : ℕ) (trees : List Tree) → OwnTreesFrom m r trees → ValidTreesFrom m r trees
trees_valid m r [] own = tt
trees_valid m r (t ∷ ts) own = (
  record { stored = own.0.stored; tree = own_tree_valid m r (map (node_of t.refs) t.nodes) own.0.tree },
  subst (λ (k : ℕ). ValidTreesFrom m k ts) (let e : suc r ≡ r + 1 = omega arith in e) (trees_valid m (suc r) ts own.2),
)

answer_right : (m : PlainMode) (r : ℕ) (plan : Option Schedule) → IsValid m → 1 ≤ r → OwnAnswer m r plan → RightAnswer m r plan
answer_right m r None ok some own = own
answer_right m r (Some s) ok some own = printed_right m r s ok some own.1

parts_right : (set : ModeSet) (modes : List Mode) (parts : List ModePart) → AllByRecursion IsNamed (map (doc_mode set) modes) → AllZip (OwnPart set) modes parts → AllZip (IsRightPart set) modes parts
parts_right set [] [] is own = tt
parts_right set [] (p ∷ ps) is own = absurd own
parts_right set (m ∷ ms) [] is own = absurd own
parts_right set (m ∷ ms) (p ∷ ps) is own =
    let plain = plain_mode set m in
    (record { trees = trees_valid plain 1 p.refuted own.0.trees; answer = answer_right plain (length p.refuted + 1) p.schedule is.0.valid (omega arith) own.0.answer }, parts_right set ms ps is.1 own.1)

-- ---- their lines are within the limits

head_room : HasRoom Head
head_room = record { writable = refl; short = let l : length (join_with_byte 32 (codes "ttw" ∷ codes "1" ∷ [])) ≡ 5 = refl in omega (arith, l) }

absent_room : HasRoom Absent
absent_room = record { writable = refl; short = let l : length (join_with_byte 32 (codes "none" ∷ [])) ≡ 4 = refl in omega (arith, l) }

end_room : HasRoom End
end_room = record { writable = refl; short = let l : length (join_with_byte 32 (codes "end" ∷ [])) ≡ 3 = refl in omega (arith, l) }

mode_room : (text : List ℕ) → IsName text → HasRoom (ModeNamed text)
mode_room text h = record {
  writable = h;
  short = let l = joined_length 33 (codes "mode") (text ∷ []) (name_short text h, tt) in let w : length (codes "mode") ≡ 4 = refl in omega (arith, l, w);
}

trees_fit : (m : PlainMode) (r : ℕ) (trees : List Tree) → IsValid m → IsLimited m → 1 ≤ r → r + length trees ≤ most_rounds m + 1 → OwnTreesFrom m r trees → AllByRecursion HasRoom (flat_map refuted_items (enumerate_from r trees))
trees_fit m r [] ok limited some le own = tt
trees_fit m r (t ∷ ts) ok limited some le own =
    all_append HasRoom (refuted_items (r, t)) (flat_map refuted_items (enumerate_from (r + 1) ts)) (own_trees_have_room m r t ok limited some (omega (arith, le)) own.0)
    (trees_fit m (r + 1) ts ok limited (omega arith) (omega (arith, le)) (subst (λ (k : ℕ). OwnTreesFrom m k ts) (let e : suc r ≡ r + 1 = omega arith in e) own.2))

-- as many rounds are due as there is room for, and one more at most
rounds_due : (m : PlainMode) (r : ℕ) (plan : Option Schedule) → IsValid m → RightAnswer m r plan → r ≤ most_rounds m + 1
rounds_due m r None ok right = omega (arith, right)
rounds_due m r (Some s) ok right = omega (arith, few m r s ok right)

answer_fits : (set : ModeSet) (mode : Mode) (r : ℕ) (plan : Option Schedule) → HasNames mode → IsValid (plain_mode set mode) → IsLimited (plain_mode set mode) → RightAnswer (plain_mode set mode) r plan → AllByRecursion HasRoom (answer_items mode plan)
answer_fits set mode r None names ok limited right = (absent_room, tt)
answer_fits set mode r (Some s) names ok limited right = schedule_fits set mode r s names ok limited (omega (arith, few (plain_mode set mode) r s ok right, limited.rounds)) right

part_fits : (set : ModeSet) (mode : Mode) (part : ModePart) → HasNames mode → IsValid (plain_mode set mode) → IsLimited (plain_mode set mode) → OwnPart set mode part → AllByRecursion HasRoom (part_items (mode, part))
part_fits set mode part names ok limited own =
    let m = plain_mode set mode in
    let r = length part.refuted + 1 in
    let right = answer_right m r part.schedule ok (omega arith) own.answer in (
      mode_room mode.name names.own,
      all_append HasRoom (flat_map refuted_items (enumerate_from 1 part.refuted)) (answer_items mode part.schedule)
          (trees_fit m 1 part.refuted ok limited (omega arith) (omega (arith, rounds_due m r part.schedule ok right)) own.trees)
          (answer_fits set mode r part.schedule names ok limited right),
    )

parts_fit : (set : ModeSet) (modes : List Mode) (parts : List ModePart) → AllByRecursion IsNamed (map (doc_mode set) modes) → AllByRecursion HasNames modes → AllByRecursion (λ mode. IsLimited (plain_mode set mode)) modes
    → AllZip (OwnPart set) modes parts → AllByRecursion HasRoom (flat_map part_items (zip modes parts))
parts_fit set [] [] is names limited own = tt
parts_fit set [] (p ∷ ps) is names limited own = absurd own
parts_fit set (m ∷ ms) [] is names limited own = absurd own
parts_fit set (m ∷ ms) (p ∷ ps) is names limited own =
    all_append HasRoom (part_items (m, p)) (flat_map part_items (zip ms ps)) (part_fits set m p names.0 is.0.valid limited.0 own.0) (parts_fit set ms ps is.1 names.1 limited.1 own.1)

pub own_parts_make_documents : OwnPartsMakeDocuments
own_parts_make_documents set parts keeps own =
    let is = modes_named set keeps in
    let right = parts_right set set.modes parts is own in
    let limited = recursion_from_All (λ mode. IsLimited (plain_mode set mode)) set.modes (λ i d l. modes_limited set keeps (get_or set.modes i d) (Contains-get_or set.modes i d l)) in
    let lines = flat_map part_items (zip set.modes parts) in
    let room : AllByRecursion HasRoom (plan_items set parts) = (head_room, all_append HasRoom lines (End ∷ []) (parts_fit set set.modes parts is (modes_have_names set keeps) limited own) (end_room, tt)) in (
      right,
      room,
      λ le. record { parts = parts; own = own; text = refl; plans = map (λ part. part.schedule) parts; accepted = right_parts_are_accepted set parts keeps right room le },
    )
