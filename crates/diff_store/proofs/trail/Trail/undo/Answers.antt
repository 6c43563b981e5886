use Rattle.std.proofs.Common.{◌≡◌, ◌+◌, ◌-◌, ◌<◌, length, subst, sym, ◌∙◌, arith}
use Rattle.std.proofs.lemmas.List.{get_or_default}
use Rattle.tick_num.specs.Differences.{listed}
use Rattle.diff_store.specs.Causes.{beside}
use Rattle.diff_store.specs.Trails.{Trailing, SamePast}
use Rattle.diff_store.proofs.TrailLemmas.{undone_past}
use Rattle.diff_store.proofs.trail.Trail.undo.Goals as goal

pub returns-clause-past : goal.returns-clause-past
returns-clause-past c =
    let s = c.self.inside in
    let starts = s.starts.items in
    let t : Trailing = record { pushes = s.pushes; entries = s.entries.items; starts = starts; kept = s.kept } in
    let last = c.len-last.result - 1 in
    let some : 0 < length starts = subst (λ (u : Trailing). 0 < length u.starts) (sym c.self.view_is) c.requires.some in
    let size : length starts ≡ last + 1 = omega (arith, c.len-last.ensures, some) in
    let is = c.index-start.ensures ∙ get_or_default starts last c.index-start.result.now 0 (omega (arith, size)) in
    let left = c.truncate.ensures.items in
    let past = undone_past (length s.kept) t c.self.invariant.0 c.put_back.new.entries.items c.truncate.new.self.items s.kept
    (listed c.args.values.now) (listed c.put_back.new.values) (beside c.args.causes.now) (beside c.put_back.new.causes)
    last c.index-start.result.now size is left c.put_back.ensures.entries c.put_back.ensures.values c.put_back.ensures.causes in
    subst (λ (u : Trailing). SamePast (length c.truncate.new.self.items) u (record { pushes = s.pushes; entries = c.put_back.new.entries.items; starts = c.truncate.new.self.items; kept = s.kept })
    (listed c.args.values.now) (listed c.put_back.new.values) (beside c.args.causes.now) (beside c.put_back.new.causes)) c.self.view_is past
