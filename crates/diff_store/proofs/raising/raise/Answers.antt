use Rattle.std.proofs.Common.{◌≢◌, ◌+◌, ◌≤◌, ℤ, pos, ◌-ℤ◌, List, Bool, set, refl, subst, sym, ◌∙◌, arith}
use Rattle.std.proofs.lemmas.Bool.{both_ways}
use Rattle.std.proofs.lemmas.List.{get_or-set_other}
use Rattle.tick_num.specs.Differences.{diff, listed}
use Rattle.diff_store.specs.Leasts.{at}
use Rattle.diff_store.specs.Causes.{beside, marked}
use Rattle.diff_store.specs.Raising.{Raising, left_to_do}
use Rattle.diff_store.proofs.Ticks.{modest_fits, modest_is, test_met, test_broken, value_is}
use Rattle.diff_store.proofs.Efforts.{raise_falls}
use Rattle.diff_store.proofs.Raises.{modest, forced_top, value_top, value_zero, met_state, stopped_home, rises_state}
use Rattle.diff_store.proofs.raising.raise.Goals as goal

pub overflow_sub-forced : goal.overflow_sub-forced
overflow_sub-forced c = modest_fits _ _ (modest c.args.list.now c.args.position c.args.values.now c.args.causes.now c.args.chain.now c.args.worklist.now c.requires.within c.requires.state c.requires.small)

pub returns-then-forced-value-clause-state : goal.returns-then-forced-value-clause-state
returns-then-forced-value-clause-state c =
    let d = at c.args.list.now c.args.position in
    let v = listed c.args.values.now in
    met_state c.args.list.now c.args.position c.args.values.now c.args.causes.now c.args.chain.now c.args.worklist.now c.requires.within c.requires.state
    (test_met (v d.x) d.c (v d.y) (modest c.args.list.now c.args.position c.args.values.now c.args.causes.now c.args.chain.now c.args.worklist.now c.requires.within c.requires.state c.requires.small) (value_zero c.args.list.now c.args.position c.args.values.now c.args.causes.now c.args.chain.now c.args.worklist.now c.requires.within c.requires.state c.requires.small d.y) (value_top c.args.list.now c.args.position c.args.values.now c.args.causes.now c.args.chain.now c.args.worklist.now c.requires.within c.requires.state c.requires.small d.y) c.if-forced-value.true)

pub has-requires : goal.has-requires
has-requires c =
    let l = (c.requires.range c.args.position (diff 0 0 (pos 0)) c.requires.within).1 in
    let e = c.requires.chain in
    omega (arith, l, e)

pub bounds-causes-d : goal.bounds-causes-d
bounds-causes-d c =
    let l = (c.requires.range c.args.position (diff 0 0 (pos 0)) c.requires.within).1 in
    let e = c.requires.state.causes_size in
    omega (arith, l, e)

pub returns-then-has-clause-home : goal.returns-then-has-clause-home
returns-then-has-clause-home c =
    let d = at c.args.list.now c.args.position in
    let v = listed c.args.values.now in
    stopped_home c.args.list.now c.args.position c.args.values.now c.args.causes.now c.args.chain.now c.args.worklist.now c.requires.within c.requires.state
    (test_broken (v d.x) d.c (v d.y) (modest c.args.list.now c.args.position c.args.values.now c.args.causes.now c.args.chain.now c.args.worklist.now c.requires.within c.requires.state c.requires.small) (value_zero c.args.list.now c.args.position c.args.values.now c.args.causes.now c.args.chain.now c.args.worklist.now c.requires.within c.requires.state c.requires.small d.y) (value_top c.args.list.now c.args.position c.args.values.now c.args.causes.now c.args.chain.now c.args.worklist.now c.requires.within c.requires.state c.requires.small d.y) c.if-forced-value.false)
    c.requires.small (sym c.has.ensures ∙ c.if-has.true)

pub returns-clause-state : goal.returns-clause-state
returns-clause-state c =
    let ds = c.args.list.now in
    let d = at ds c.args.position in
    let vs = c.args.values.now in
    let v = listed vs in
    let cs' = set c.args.causes.now d.y c.args.position in
    let is = modest_is (v d.x) d.c (modest c.args.list.now c.args.position c.args.values.now c.args.causes.now c.args.chain.now c.args.worklist.now c.requires.within c.requires.state c.requires.small) in
    subst (λ (z : ℤ). Raising ds (set vs d.y z) cs' c.args.chain.now c.add.new.self d.x (c.args.position + 1)) (sym is)
    (subst (λ (ws : List Bool). Raising ds (set vs d.y (v d.x -ℤ d.c)) cs' c.args.chain.now ws d.x (c.args.position + 1)) (sym c.add.ensures)
    (rises_state c.args.list.now c.args.position c.args.values.now c.args.causes.now c.args.chain.now c.args.worklist.now c.requires.within c.requires.state
    (test_broken (v d.x) d.c (v d.y) (modest c.args.list.now c.args.position c.args.values.now c.args.causes.now c.args.chain.now c.args.worklist.now c.requires.within c.requires.state c.requires.small) (value_zero c.args.list.now c.args.position c.args.values.now c.args.causes.now c.args.chain.now c.args.worklist.now c.requires.within c.requires.state c.requires.small d.y) (value_top c.args.list.now c.args.position c.args.values.now c.args.causes.now c.args.chain.now c.args.worklist.now c.requires.within c.requires.state c.requires.small d.y) c.if-forced-value.false)
    (λ on. both_ways (marked c.args.chain.now d.y) (sym c.has.ensures ∙ c.if-has.false) on)
    (c.requires.range c.args.position (diff 0 0 (pos 0)) c.requires.within).1))

pub returns-clause-falls : goal.returns-clause-falls
returns-clause-falls c =
    let ds = c.args.list.now in
    let d = at ds c.args.position in
    let vs = c.args.values.now in
    let v = listed vs in
    let ws = c.args.worklist.now in
    let is = modest_is (v d.x) d.c (modest c.args.list.now c.args.position c.args.values.now c.args.causes.now c.args.chain.now c.args.worklist.now c.requires.within c.requires.state c.requires.small) in
    subst (λ (z : ℤ). left_to_do (set vs d.y z) c.add.new.self ≤ left_to_do vs ws) (sym is)
    (subst (λ (us : List Bool). left_to_do (set vs d.y (v d.x -ℤ d.c)) us ≤ left_to_do vs ws) (sym c.add.ensures)
    (raise_falls vs ws d.y (v d.x -ℤ d.c)
    (c.requires.range c.args.position (diff 0 0 (pos 0)) c.requires.within).1
    c.requires.state.waits_size
    (test_broken (v d.x) d.c (v d.y) (modest c.args.list.now c.args.position c.args.values.now c.args.causes.now c.args.chain.now c.args.worklist.now c.requires.within c.requires.state c.requires.small) (value_zero c.args.list.now c.args.position c.args.values.now c.args.causes.now c.args.chain.now c.args.worklist.now c.requires.within c.requires.state c.requires.small d.y) (value_top c.args.list.now c.args.position c.args.values.now c.args.causes.now c.args.chain.now c.args.worklist.now c.requires.within c.requires.state c.requires.small d.y) c.if-forced-value.false)
    (forced_top c.args.list.now c.args.position c.args.values.now c.args.causes.now c.args.chain.now c.args.worklist.now c.requires.within c.requires.state c.requires.small)))

pub returns-clause-past : goal.returns-clause-past
returns-clause-past c =
    let y = (at c.args.list.now c.args.position).y in
    let v = listed c.args.values.now in
    let is = value_is (v y) (value_zero c.args.list.now c.args.position c.args.values.now c.args.causes.now c.args.chain.now c.args.worklist.now c.requires.within c.requires.state c.requires.small y) (value_top c.args.list.now c.args.position c.args.values.now c.args.causes.now c.args.chain.now c.args.worklist.now c.requires.within c.requires.state c.requires.small y) in
    c.keep.ensures v _ (beside c.args.causes.now) _ (record {
      value_was = sym is;
      cause_was = refl;
      values = λ x ne. let ne' : x ≢ y = ne in get_or-set_other c.args.values.now y x _ (pos 0) ne';
      causes = λ x ne. let ne' : x ≢ y = ne in get_or-set_other c.args.causes.now y x c.args.position 0 ne';
    })
