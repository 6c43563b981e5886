-- Each mode of a set that keeps the rules is valid
use Rattle.std.proofs.Common.{◌≡◌, ℕ, zero, suc, ◌+◌, ◌<◌, List, [], ◌∷◌, length, Contains, None, sym, subst, arith}
use Rattle.std.specs.List.{AllByRecursion}
use Rattle.std.proofs.lemmas.List.Elements.{Contains-get_or}
use Rattle.app_graph.specs.declared.raw.RawMode.{RawMode}
use Rattle.app_graph.specs.declared.raw.RawSet.{RawSet}
use Rattle.app_graph.specs.declared.mode_set.Mode.{Mode}
use Rattle.app_graph.specs.declared.mode_set.ModeSet.{ModeSet}
use Rattle.app_graph.specs.ValueRules.{value_rules}
use Rattle.app_graph.specs.Numbering.{apps_from, task_count, message_count, modes_from, set_of}
use Rattle.app_graph.specs.Validation.{KeepsRules}
use Rattle.sched_model.specs.PlainMode.{plain_mode, mode_at, plain_at}
use Rattle.sched_model.specs.ValidMode.{IsValid}
use Rattle.sched_model.proofs.KeptRules.{KeptMode, kept_set}
use Rattle.sched_model.proofs.KeptModes.{mode_valid}

-- a mode of the set comes from one of the file
pub mode_found : (set : RawSet) (nodes : List (List ℕ)) (t n : ℕ) (raws : List RawMode) → AllByRecursion (KeptMode set) raws → (mode : Mode) → Contains (modes_from nodes t n raws) mode →
    (raw : RawMode) × KeptMode set raw × (k l : ℕ) × (record { name = raw.name; apps = apps_from nodes k l raw.apps } ≡ mode)
mode_found set nodes t n [] kept mode (k, l, e) = absurd (omega (arith, l))
mode_found set nodes t n (raw ∷ raws) kept mode (zero, l, e) = (raw, kept.0, t, n, e)
mode_found set nodes t n (raw ∷ raws) kept mode (suc k, l, e) = mode_found set nodes (t + task_count raw) (n + message_count raw) raws kept.1 mode (k, omega (arith, l), e)

read_valid : (raw : RawSet) → value_rules raw ≡ None → (mode : Mode) → Contains (set_of raw).modes mode → IsValid (plain_mode (set_of raw) mode)
read_valid raw e mode c =
    let kept = kept_set raw e in
    let f = mode_found raw raw.nodes 0 0 raw.modes kept.modes mode c in
    subst (λ (x : Mode). IsValid (plain_mode (set_of raw) x)) f.4 (mode_valid raw (set_of raw) raw.nodes f.0 f.2 f.3 kept.round.0 f.1)

pub modes_valid : (set : ModeSet) → KeepsRules set → (mode : Mode) → Contains set.modes mode → IsValid (plain_mode set mode)
modes_valid set (raw, e, same) mode c =
    subst (λ (x : ModeSet). IsValid (plain_mode x mode)) (sym same) (read_valid raw e mode (subst (λ (x : ModeSet). Contains x.modes mode) same c))

pub mode_at_valid : (set : ModeSet) → KeepsRules set → (i : ℕ) → i < length set.modes → IsValid (plain_at set i)
mode_at_valid set keeps i l = modes_valid set keeps (mode_at set i) (Contains-get_or set.modes i (record { name = []; apps = [] }) l)
