-- Pairs of tasks on one node
use Rattle.std.proofs.Common.{◌≡◌, ℕ, ◌+◌, ◌<◌, ◌≤◌, cond, List, [], ◌∷◌, ◌++◌, length, get_or, drop, count_by, sum_by, sym, ◌∙◌, ap, arith}
use Rattle.std.specs.List.{flat_map}
use Rattle.std.specs.Str.{bytes_eq}
use Rattle.std.proofs.lemmas.List.{drop_more}
use Rattle.app_graph.specs.declared.raw.RawTask.{RawTask}
use Rattle.app_graph.specs.declared.raw.RawApp.{RawApp}
use Rattle.app_graph.specs.ValueRules.{pairs_in}
use Rattle.app_graph.proofs.Joined.{sum_joined}

-- the pairs of one more task
pub pairs_more : (ts : List RawTask) (apps : List RawApp) (i : ℕ) (t : RawTask) → i < length ts → t ≡ get_or ts i t
    → pairs_in (drop i ts ++ flat_map (λ a. a.tasks) apps)
    ≡ count_by (λ u. bytes_eq t.node u.node) (drop (i + 1) ts) + sum_by (λ a. count_by (λ u. bytes_eq t.node u.node) a.tasks) apps
    + pairs_in (drop (i + 1) ts ++ flat_map (λ a. a.tasks) apps)
pairs_more ts apps i t l e =
    let later = flat_map (λ (a : RawApp). a.tasks) apps in
    ap (λ (us : List RawTask). pairs_in (us ++ later)) (drop_more ts i t l)
    ∙ ap (λ (x : RawTask). count_by (λ u. bytes_eq x.node u.node) (drop (i + 1) ts ++ later) + pairs_in (drop (i + 1) ts ++ later)) (sym e)
    ∙ ap (λ n. n + pairs_in (drop (i + 1) ts ++ later)) (sum_joined (λ (u : RawTask). cond (bytes_eq t.node u.node) 1 0) (λ (a : RawApp). a.tasks) (drop (i + 1) ts) apps)

pub pairs_end : (ts later : List RawTask) → pairs_in later ≤ pairs_in (ts ++ later)
pairs_end [] later = omega arith
pairs_end (t ∷ ts) later = omega (arith, pairs_end ts later)
