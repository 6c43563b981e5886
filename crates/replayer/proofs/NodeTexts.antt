-- The nodes in a set, a bit at a time.
use Rattle.std.proofs.Common.{◌≡◌, ℕ, ◌+◌, ◌/◌, ◌%◌, ◌^◌, ◌<◌, Bool, true, false, cond, List, [], ◌∷◌, ◌++◌, length, get_or, take, refl, sym, ap, ◌∙◌, arith, ◌≤◌}
use Rattle.std.specs.Prelude.{nat_eq}
use Rattle.std.proofs.Math.Nat.{div-div-eq-div-mul}
use Rattle.std.proofs.lemmas.Grind.{pow_more}
use Rattle.std.proofs.lemmas.List.{take_all}
use Rattle.std.specs.List.{filter, flat_map}
use Rattle.app_graph.specs.declared.mode_set.ModeSet.{ModeSet}
use Rattle.sched_model.specs.Numbers.{below}
use Rattle.sched_model.proofs.Lists.{get_or-below, length-below}
use Rattle.runtime_model.specs.Packets.{in_set}
use Rattle.replayer.specs.Trace.{node_name, nodes_text}

-- what is put for a node
abbrev pub node_part : ModeSet → ℕ → ℕ → List ℕ
node_part set bits v = cond (in_set bits v) (32 ∷ node_name set v) []

flat_filter : {X Y : Type 0} (f : X → List Y) (t : X → Bool) (xs : List X) → flat_map f (filter t xs) ≡ flat_map (λ x. cond (t x) (f x) []) xs
flat_filter f t [] = refl
flat_filter {Y = Y} f t (x ∷ xs) = by_test (t x) ∙ ap (λ (ys : List Y). cond (t x) (f x) [] ++ ys) (flat_filter f t xs)
  where
    by_test : (b : Bool) → flat_map f (cond b (x ∷ filter t xs) (filter t xs)) ≡ cond b (f x) [] ++ flat_map f (filter t xs)
    by_test true = refl
    by_test false = refl

pub nodes_in_parts : (set : ModeSet) (bits : ℕ) → flat_map (node_part set bits) (below (length set.nodes)) ≡ nodes_text set bits
nodes_in_parts set bits = sym (flat_filter (λ v. 32 ∷ node_name set v) (in_set bits) (below (length set.nodes)))

-- the bits from the next node on
pub next_bits : (bits left k : ℕ) → left ≡ bits / 2 ^ k → left / 2 ≡ bits / 2 ^ (k + 1)
next_bits bits left k e = ap (λ (n : ℕ). n / 2) e ∙ div-div-eq-div-mul bits (2 ^ k) 2 ∙ ap (λ (n : ℕ). bits / n) (sym (pow_more 2 k))

-- what is put for a node by the bits from it on
pub node_here : (set : ModeSet) (bits left k : ℕ) → k < length (below (length set.nodes)) → left ≡ bits / 2 ^ k →
    cond (nat_eq (left % 2) 1) (32 ∷ node_name set k) [] ≡ node_part set bits (get_or (below (length set.nodes)) k 0)
node_here set bits left k within e =
    ap (λ (n : ℕ). cond (nat_eq (n % 2) 1) (32 ∷ node_name set k) []) e
    ∙ sym (ap (node_part set bits) (get_or-below (length set.nodes) k 0 (omega (arith, length-below (length set.nodes)))))

-- no node is left
pub all_nodes : (set : ModeSet) (bits k : ℕ) → length set.nodes ≤ k → flat_map (node_part set bits) (take k (below (length set.nodes))) ≡ nodes_text set bits
all_nodes set bits k past = ap (flat_map (node_part set bits)) (take_all k (below (length set.nodes)) (omega (arith, length-below (length set.nodes)))) ∙ nodes_in_parts set bits
