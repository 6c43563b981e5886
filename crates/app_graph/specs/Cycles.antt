-- Walks in the graph of an application
use Rattle.std.specs.Prelude.{◌≡◌, ℕ, zero, suc, true, Contains, ◌↔◌}
use Rattle.app_graph.specs.declared.raw.RawTask.{RawTask}
use Rattle.app_graph.specs.declared.raw.RawApp.{RawApp}
use Rattle.app_graph.specs.ValueRules.{goes, has_cycle}

-- a walk of n edges from one task to another
abbrev pub Walk : RawApp → ℕ → RawTask → RawTask → Type 0
Walk app zero t u = t ≡ u
Walk app (suc n) t u = (v : RawTask) × Contains app.tasks v × (goes app t v ≡ true) × Walk app n v u

-- the task is one of the application, and a walk of one or more edges leads from it back to it
abbrev pub OnCycle : RawApp → RawTask → Type 0
OnCycle app t = Contains app.tasks t × ((n : ℕ) × Walk app (suc n) t t)

-- the test of a cycle, which looks at short walks only, finds walks of any length
abbrev pub CycleLaw : Type 0
CycleLaw = (app : RawApp) → (has_cycle app ≡ true) ↔ ((t : RawTask) × OnCycle app t)
