-- The generated file breaks no rule
use Rattle.std.proofs.Common.{◌≡◌, ℕ, ◌<◌, [], None, refl, ap, ◌∙◌}
use Rattle.app_graph.specs.Hyperperiod.{hyperperiod}
use Rattle.app_graph.specs.declared.faults.GraphFault.TheVariants.{OutOfRange, TooMany}
use Rattle.app_graph.specs.declared.keys.Key.TheVariants.{KApp, KMode}
use Rattle.app_graph.specs.Rules.{unless, each_after}
use Rattle.app_graph.specs.ValueRules.{named, has_some, at_most, is_mode, app_values, hyper_of, sizes_at, round_values, node_values, mode_rules, mode_values, set_rules, value_rules, slots_of}
use Rattle.ttw_text.specs.Numbers.{spelled}
use Rattle.drill.specs.Generated.{below, raw_app, raw_mode, drill_raw}
use Rattle.drill.proofs.Tables.{each_none}
use Rattle.drill.proofs.AppsKept.{app_kept}
use Rattle.drill.proofs.KeptRules.{first_of_kept, below_kept}

rounds_kept : (seed : ℕ) → round_values (drill_raw seed) ≡ None
unfolding drill_raw
rounds_kept seed = refl

nodes_kept : (seed : ℕ) → node_values (drill_raw seed) ≡ None
unfolding drill_raw below spelled
nodes_kept seed = refl

name_kept : (seed m : ℕ) → m < 8
    → named (raw_mode seed m).name (is_mode (below m (raw_mode seed)) (raw_mode seed m).name) ≡ None
unfolding raw_mode below spelled
name_kept seed = each_none _ 8 refl

hyper_is : (seed m : ℕ) → hyper_of (raw_mode seed m) ≡ 1000
unfolding raw_mode below hyperperiod
hyper_is seed m = refl

sizes_kept : (seed m : ℕ) → sizes_at 1000 (drill_raw seed) (raw_mode seed m) ≡ None
unfolding drill_raw raw_mode below spelled slots_of
sizes_kept seed m = refl

some_apps : (seed m : ℕ) → unless (has_some (raw_mode seed m).apps) (OutOfRange KApp) ≡ None
unfolding raw_mode below
some_apps seed m = refl

apps_kept : (seed m : ℕ) → each_after (app_values (drill_raw seed)) [] (raw_mode seed m).apps ≡ None
unfolding raw_mode
apps_kept seed m = below_kept (app_values (drill_raw seed)) (raw_app seed m) 32 (app_kept seed m)

some_modes : (seed : ℕ) → unless (has_some (drill_raw seed).modes) (OutOfRange KMode) ≡ None
unfolding drill_raw below
some_modes seed = refl

few_modes : (seed : ℕ) → unless (at_most 8 (drill_raw seed).modes) (TooMany KMode) ≡ None
unfolding drill_raw below
few_modes seed = refl

mode_kept : (seed m : ℕ) → m < 8 → mode_values (drill_raw seed) (below m (raw_mode seed)) (raw_mode seed m) ≡ None
mode_kept seed m l =
    let sizes = ap (λ h. sizes_at h (drill_raw seed) (raw_mode seed m)) (hyper_is seed m) ∙ sizes_kept seed m in
    first_of_kept (mode_rules (drill_raw seed) (below m (raw_mode seed)) (raw_mode seed m)) (name_kept seed m l, (some_apps seed m, (apps_kept seed m, (sizes, tt))))

modes_kept : (seed : ℕ) → each_after (mode_values (drill_raw seed)) [] (drill_raw seed).modes ≡ None
unfolding drill_raw
modes_kept seed = below_kept (mode_values (drill_raw seed)) (raw_mode seed) 8 (mode_kept seed)

pub file_kept : (seed : ℕ) → value_rules (drill_raw seed) ≡ None
file_kept seed =
    first_of_kept (set_rules (drill_raw seed)) (rounds_kept seed, (nodes_kept seed, (some_modes seed, (few_modes seed, (modes_kept seed, tt)))))
