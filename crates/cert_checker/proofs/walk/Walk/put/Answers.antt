use Rattle.std.proofs.Common.{◌≡◌, List, [], ◌∷◌, ◌++◌, length, get_or, ap, ◌∙◌, arith, rules, ℤ, FitsSigned, w64, to_z, of_z}
use Rattle.std.proofs.lemmas.Int.{to_z-of_z}
use Rattle.tick_num.specs.declared.differences.Diff.{Diff}
use Rattle.sched_model.specs.ConstraintProblem.{order, decisions}
use Rattle.constraint_set.specs.Loads.{Tally, round_of, with_one}
use Rattle.cert_checker.proofs.Levels.{put_chosen, last_diffs, named_length, stands_put}
use Rattle.cert_checker.proofs.walk.Walk.put.Goals as goal

pub diffs_of_last-diffs-requires-clause-chosen : goal.diffs_of_last-diffs-requires-clause-chosen
diffs_of_last-diffs-requires-clause-chosen c =
    let w = c.args.self.now in
    let v = c.args.choice in
    let fits : FitsSigned w64 v = search rules in
    let e : c.push.new.self.items ≡ w.prefix.items ++ v ∷ [] = simp to_z-of_z at c.in_ok-push.ensures.items in
    put_chosen w.problem.mode w.problem.rounds w.prefix.items w.highs.items _ w.constraints.items w.loads v c.args.high c.requires.kept c.requires.among (c.as_slice.ensures.value ∙ e)

pub count-requires-clause-room : goal.count-requires-clause-room
count-requires-clause-room c =
    let w = c.args.self.now in
    let named = named_length w.problem.mode w.problem.rounds w.prefix.items w.highs.items w.constraints.items w.loads c.requires.kept in
    let room = ap (λ (t : Tally). t.room) c.requires.kept.tally in
    omega (arith, named, room, c.requires.more)

pub returns-clause-kept : goal.returns-clause-kept
returns-clause-kept c =
    let w = c.args.self.now in
    let m = w.problem.mode in
    let r = w.problem.rounds in
    let v = c.args.choice in
    let h = c.args.high in
    let d = get_or (decisions m) (length w.prefix.items) (order 0 0) in
    let fits : FitsSigned w64 v = search rules in
    let fits-h : FitsSigned w64 h = search rules in
    let e : c.push.new.self.items ≡ w.prefix.items ++ v ∷ [] = simp to_z-of_z at c.in_ok-push.ensures.items in
    let f : c.push-2.new.self.items ≡ w.highs.items ++ h ∷ [] = simp to_z-of_z at c.in_ok-push-2.ensures.items in
    let diffs = c.diffs_of_last-diffs.ensures ∙ last_diffs m r w.prefix.items _ v (c.as_slice.ensures.value ∙ e) in
    let len : c.len-at.result ≡ length w.prefix.items = search rules in
    let round = c.round_of-round.ensures.round ∙ ap (λ n. round_of r (get_or (decisions m) n (order 0 0)) (to_z w64 (of_z w64 v))) len ∙ ap (λ (z : ℤ). round_of r d z) (to_z-of_z w64 v fits) in
    stands_put m r w.prefix.items w.highs.items _ _ w.constraints.items _ w.loads _ v h c.requires.kept c.requires.more c.requires.among e f
    (c.in_ok-extend_from_slice.ensures.items ∙ ap (λ (l : List Diff). w.constraints.items ++ l) diffs) (c.count.ensures ∙ ap (with_one w.loads) round)
