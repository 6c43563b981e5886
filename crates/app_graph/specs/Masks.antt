-- Sets of tasks as numbers, one bit for each task
use Rattle.std.specs.Prelude.{ℕ, ◌+◌, ◌*◌, Bool, List, [], ◌∷◌, if◌then◌else◌, nat_eq, fold, bit_and, bit_or}
use Rattle.app_graph.specs.declared.cycle_rule.Link.{Link}
use Rattle.app_graph.specs.declared.raw.RawTask.{RawTask}
use Rattle.app_graph.specs.declared.raw.RawMessage.{RawMessage}
use Rattle.app_graph.specs.ValueRules.{among}

-- the number whose bit at each place says whether the element there passes the test
abbrev pub mask_of : {A : Type 0} → (A → Bool) → List A → ℕ
mask_of p [] = 0
mask_of p (x ∷ xs) = (if p x then 1 else 0) + 2 * mask_of p xs

-- the producers and the consumers of a message
abbrev pub link_of : List RawTask → RawMessage → Link
link_of tasks m = record { from = mask_of (λ t. among t.name m.from) tasks; to = mask_of (λ t. among t.name m.to) tasks }

-- the producers of the messages that go to a task of the set
abbrev pub back_from : List Link → ℕ → ℕ
back_from links marked = fold (λ next link. if nat_eq (bit_and link.to marked) 0 then next else bit_or next link.from) 0 links
