-- The texts of lines, as they are put and as the definitions group them.
use Rattle.std.proofs.Common.{◌≡◌, ℕ, List, [], ◌∷◌, ◌++◌, sym, ap, ◌∙◌, append_assoc, append-nil}

-- a number, words, and what follows
pub line_of : (tick spelled words text whole : List ℕ) → tick ≡ spelled → text ≡ whole → tick ++ (words ++ text) ≡ spelled ++ (words ++ whole)
line_of tick spelled words text whole e f = cc

-- a word, a name
pub named_line : (tick spelled word name : List ℕ) → tick ≡ spelled → tick ++ (word ++ (name ++ 10 ∷ [])) ≡ spelled ++ ((word ++ name) ++ 10 ∷ [])
named_line tick spelled word name e =
    ap (λ (t : List ℕ). t ++ (word ++ (name ++ 10 ∷ []))) e ∙ ap (λ (t : List ℕ). spelled ++ t) (sym (append_assoc word name (10 ∷ [])))

-- a word, a node, a task
pub task_line : (tick spelled word node node_name task task_name : List ℕ) → tick ≡ spelled → node ≡ node_name → task ≡ task_name →
    tick ++ (word ++ (32 ∷ (node ++ (32 ∷ (task ++ 10 ∷ []))))) ≡ spelled ++ ((word ++ 32 ∷ (node_name ++ 32 ∷ task_name)) ++ 10 ∷ [])
task_line tick spelled word node node_name task task_name e f h =
    let grouped : (word ++ 32 ∷ (node_name ++ 32 ∷ task_name)) ++ 10 ∷ [] ≡ word ++ (32 ∷ (node_name ++ (32 ∷ (task_name ++ 10 ∷ [])))) =
    append_assoc word (32 ∷ (node_name ++ 32 ∷ task_name)) (10 ∷ []) ∙ ap (λ (t : List ℕ). word ++ 32 ∷ t) (append_assoc node_name (32 ∷ task_name) (10 ∷ [])) in
    cc

-- a node, a task, a value
pub ended_text : (node node_name task task_name value spelled : List ℕ) → node ≡ node_name → task ≡ task_name → value ≡ spelled →
    node ++ (32 ∷ (task ++ (32 ∷ (value ++ 10 ∷ [])))) ≡ ((node_name ++ 32 ∷ task_name) ++ 32 ∷ spelled) ++ 10 ∷ []
ended_text node node_name task task_name value spelled e f h =
    let grouped : ((node_name ++ 32 ∷ task_name) ++ 32 ∷ spelled) ++ 10 ∷ [] ≡ node_name ++ (32 ∷ (task_name ++ (32 ∷ (spelled ++ 10 ∷ [])))) =
    append_assoc (node_name ++ 32 ∷ task_name) (32 ∷ spelled) (10 ∷ []) ∙ append_assoc node_name (32 ∷ task_name) (32 ∷ (spelled ++ 10 ∷ [])) in
    cc

-- behind a blank
pub blank_text : (text spelled : List ℕ) → text ≡ spelled → 32 ∷ (text ++ []) ≡ 32 ∷ spelled
blank_text text spelled e = ap (λ (t : List ℕ). 32 ∷ t) (append-nil text ∙ e)

-- two names
pub two_names : (node node_name task task_name : List ℕ) → node ≡ node_name → task ≡ task_name → node ++ (32 ∷ (task ++ [])) ≡ node_name ++ 32 ∷ task_name
two_names node node_name task task_name e f = let g : task ++ [] ≡ task_name = append-nil task ∙ f in cc

-- a start's words, inputs and end
pub started_text : (tick words inputs end : List ℕ) → ((tick ++ words) ++ inputs) ++ end ≡ tick ++ ((words ++ inputs) ++ end)
started_text tick words inputs end = simp append_assoc

pub packet_text : (tick words node message values taken : List ℕ) →
    ((tick ++ (words ++ (node ++ 32 ∷ message))) ++ values) ++ taken ≡ tick ++ (words ++ (node ++ 32 ∷ (message ++ (values ++ taken))))
packet_text tick words node message values taken = simp append_assoc

pub sent_text : (tick words node message values taken nodes end : List ℕ) →
    ((tick ++ (words ++ (node ++ 32 ∷ (message ++ (values ++ taken))))) ++ nodes) ++ end ≡ tick ++ ((words ++ (node ++ 32 ∷ (message ++ (values ++ (taken ++ nodes))))) ++ end)
sent_text tick words node message values taken nodes end = simp append_assoc

-- a beacon's words
pub beacon_words : (round r mode m flags f heard : List ℕ) → round ≡ r → mode ≡ m → flags ≡ f →
    round ++ (32 ∷ (mode ++ (32 ∷ (flags ++ heard)))) ≡ r ++ (32 ∷ (m ++ (32 ∷ (f ++ heard))))
beacon_words round r mode m flags f heard a b c = cc

pub beacon_text : (tick words round mode flags heard nodes end : List ℕ) →
    ((tick ++ (words ++ (round ++ 32 ∷ (mode ++ 32 ∷ (flags ++ heard))))) ++ nodes) ++ end ≡ tick ++ ((words ++ (round ++ 32 ∷ (mode ++ 32 ∷ (flags ++ (heard ++ nodes))))) ++ end)
beacon_text tick words round mode flags heard nodes end = simp append_assoc
