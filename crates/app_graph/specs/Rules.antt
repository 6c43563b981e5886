-- A rule gives a fault where it is broken. Of a list of rules the first that is broken decides.
use Rattle.std.specs.Prelude.{List, [], ◌∷◌, ◌++◌, Bool, Option, Some, None, if◌then◌else◌}

-- none where the rule is kept
abbrev pub Rule : Type 0 → Type 0
Rule Fault = Option Fault

-- broken with the fault where the test fails
abbrev pub unless : {Fault : Type 0} → Bool → Fault → Rule Fault
unless test fault = if test then None else Some fault

-- the fault of the first rule that is broken
abbrev pub first_of : {Fault : Type 0} → List (Rule Fault) → Rule Fault
first_of [] = None
first_of (None ∷ rules) = first_of rules
first_of (Some fault ∷ rules) = Some fault

-- a rule for each, in order
abbrev pub each : {Fault A : Type 0} → (A → Rule Fault) → List A → Rule Fault
each rule [] = None
each rule (x ∷ xs) = first_of (rule x ∷ each rule xs ∷ [])

-- the same, where a rule looks at the earlier ones too
abbrev pub each_after : {Fault A : Type 0} → (List A → A → Rule Fault) → List A → List A → Rule Fault
each_after rule earlier [] = None
each_after rule earlier (x ∷ xs) = first_of (rule earlier x ∷ each_after rule (earlier ++ x ∷ []) xs ∷ [])
