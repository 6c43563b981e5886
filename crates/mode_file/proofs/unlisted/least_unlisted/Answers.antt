use Rattle.std.proofs.Common.{◌≡◌, List, map, ap, ◌∙◌, rules, String}
use Rattle.std.specs.declared.alloc.Global.{Global}
use Rattle.toml.specs.declared.value.Value.{Value}
use Rattle.std.specs.Map.Iter.{deref_pair}
use Rattle.std.proofs.lemmas.Map.Iter.{iter_end}
use Rattle.toml.specs.View.{members_view}
use Rattle.mode_file.specs.Tables.{keys, least_unlisted}
use Rattle.mode_file.proofs.Keys.{keys_shown}
use Rattle.mode_file.proofs.unlisted.least_unlisted.Goals as goal

pub returns : goal.returns
returns c =
    let e : map deref_pair c.loop-key.yielded ≡ c.args.table.now.entries = search (rules, iter_end) in
    c.loop-key.invariant ∙ ap (least_unlisted c.args.listed.now) (keys_shown c.loop-key.yielded) ∙ ap (λ (es : List (String Global × Value)). least_unlisted c.args.listed.now (keys (members_view es))) e
