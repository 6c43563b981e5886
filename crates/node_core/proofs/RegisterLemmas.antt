-- Lists of registers
use Rattle.std.proofs.Common.{◌≡◌, ℕ, zero, suc, ◌+◌, ◌-◌, ◌≤◌, sym, Bool, true, false, ◌&&◌, ◌⊎◌, inl, inr, Bor, cond, List, [], ◌∷◌, ◌++◌, map, fold, replicate, Option, Some, None, ℤ, refl, ap, ◌∙◌, length, ◌<◌, drop, slice_set, arith}
use Rattle.std.specs.Prelude.{is_some}
use Rattle.std.specs.List.{list_all}
use Rattle.std.specs.Option.{option_copied}
use Rattle.std.proofs.lemmas.Bool.{cases_lt}
use Rattle.std.proofs.lemmas.List.Folds.{list_all-append}
use Rattle.sched_model.specs.Numbers.{below}
use Rattle.std.proofs.lemmas.List.{length-replicate, length-set, drop-set-lt, drop-drop, drop-replicate, replicate-append-replicate}
use Rattle.node_tables.specs.declared.tables.OwnMessage.{OwnMessage}
use Rattle.node_core.specs.Lookup.{consumer_place}
use Rattle.node_core.specs.Registers.{InRow, RegistersSeen, no_outs, no_ins, no_registers, filled, row_of, emptied_at, emptied_for, begun, ended_with}
use Rattle.node_core.specs.Fits.{HasRoom}

-- registers that are all full with one packet
pub map-replicate_full : (values : List ℤ) (n : ℕ) → map (λ f. cond f (Some values) None) (replicate n true) ≡ replicate n (Some values)
map-replicate_full values zero = refl
map-replicate_full values (suc n) = ap (λ rest. Some values ∷ rest) (map-replicate_full values n)

-- whether a register is full, read through a reference
pub copied_some : {X : Type 0} (o : Option (Bor X)) → is_some (option_copied o) ≡ is_some o
copied_some None = refl
copied_some (Some x) = refl

-- the first numbers pass a test where those before the last one and the last one do
pub all_below_more : (t : ℕ → Bool) (n : ℕ) → list_all t (below n) ≡ true → t n ≡ true → list_all t (below (n + 1)) ≡ true
all_below_more t n all last =
    ap (λ m. list_all t (below m)) (let next : n + 1 ≡ suc n = omega arith in next)
    ∙ list_all-append t (below n) (n ∷ [])
    ∙ ap (λ b. b && (t n && true)) all
    ∙ ap (λ b. b && true) last

-- they do not where one of them does not
pub one_fails : (t : ℕ → Bool) (n k : ℕ) → k < n → t k ≡ false → list_all t (below n) ≡ false
one_fails t zero k l e = absurd (omega (arith, l))
one_fails t (suc n) k l e = list_all-append t (below n) (n ∷ []) ∙ by_place (cases_lt k n) (λ before. one_fails t n k before e)
  where
    off : (b c : Bool) → b ≡ false → (b && c) ≡ false
    off true c h = absurd cc
    off false c h = refl

    last_off : (b c : Bool) → c ≡ false → (b && (c && true)) ≡ false
    last_off true true h = absurd cc
    last_off true false h = refl
    last_off false c h = refl

    by_place : (k < n) ⊎ (n ≤ k) → (k < n → list_all t (below n) ≡ false) → (list_all t (below n) && (t n && true)) ≡ false
    by_place (inl before) earlier = off (list_all t (below n)) (t n && true) (earlier before)
    by_place (inr at) earlier = last_off (list_all t (below n)) (t n) (ap t (let same : n ≡ k = omega (arith, l, at) in same) ∙ e)

-- so are registers with these values and flags
pub all_full : (values vs : List ℤ) (full : List Bool) (n : ℕ) → full ≡ replicate n true → vs ≡ values → map (λ f. cond f (Some vs) None) full ≡ replicate n (Some values)
all_full values vs full n e h = ap (λ (w : List ℤ). map (λ f. cond f (Some w) None) full) h ∙ (ap (λ (fs : List Bool). map (λ f. cond f (Some values) None) fs) e ∙ map-replicate_full values n)

-- registers that are all empty, with no run
pub emptied_is : (outs : List (Option ℤ)) (ins : List InRow) → outs ≡ no_outs → ins ≡ no_ins → ◌≡◌ {A = RegistersSeen} (record { outs = outs; ins = ins; run = None }) no_registers
emptied_is outs ins e f =
    ap (λ (xs : List (Option ℤ)). record { outs = xs; ins = ins; run = None }) e
    ∙ ap (λ (ys : List InRow). record { outs = no_outs; ins = ys; run = None }) f

-- two lists of the same length of the same register
pub same_replicate : {X : Type 0} (xs : List X) (m n : ℕ) (x : X) → xs ≡ replicate m x → m ≡ n → xs ≡ replicate n x
same_replicate xs m n x e h = e ∙ ap (λ (k : ℕ). replicate k x) h

pub outs_are : (xs : List (Option ℤ)) (m : ℕ) → xs ≡ replicate m None → m ≡ 1024 → xs ≡ no_outs
unfolding no_outs
outs_are xs m e h = same_replicate xs m 1024 None e h

pub ins_are : (xs : List InRow) (m : ℕ) → xs ≡ replicate m [] → m ≡ 512 → xs ≡ no_ins
unfolding no_ins
ins_are xs m e h = same_replicate xs m 512 [] e h

pub length-no_outs : length no_outs ≡ 1024
unfolding no_outs
length-no_outs = length-replicate {A = Option ℤ} 1024 None

pub no_outs_is : no_outs ≡ replicate 1024 None
unfolding no_outs
no_outs_is = refl

-- where the first ones are emptied and the rest is empty, all are
pub first_emptied : (new old xs : List (Option ℤ)) (used : ℕ) → new ≡ replicate used None ++ drop used old → old ≡ xs →
    drop used xs ≡ replicate (1024 - used) None → used ≤ 1024 → new ≡ no_outs
first_emptied new old xs used e same rest few =
    e
    ∙ ap (λ (ys : List (Option ℤ)). replicate used None ++ drop used ys) same
    ∙ ap (λ (ys : List (Option ℤ)). replicate used None ++ ys) rest
    ∙ replicate-append-replicate used (1024 - used) None
    ∙ ap (λ (k : ℕ). replicate {A = Option ℤ} k None) (let all : used + (1024 - used) ≡ 1024 = omega arith in all)
    ∙ sym no_outs_is

-- what is past the used ones stays empty where one of these is filled
pub rest_stays : (xs : List (Option ℤ)) (used task most : ℕ) (x : Option ℤ) → drop used xs ≡ replicate (1024 - used) None → used ≤ most → task < most →
    drop most (slice_set xs task x) ≡ replicate (1024 - most) None
rest_stays xs used task most x rest more within =
    let apart : most ≡ used + (most - used) = omega arith in
    let left : (1024 - used) - (most - used) ≡ 1024 - most = omega arith in
    drop-set-lt most xs task x within
    ∙ ap (λ (k : ℕ). drop k xs) apart
    ∙ sym (drop-drop (most - used) used xs)
    ∙ ap (λ (ys : List (Option ℤ)). drop (most - used) ys) rest
    ∙ drop-replicate (most - used) (1024 - used) None
    ∙ ap (λ (k : ℕ). replicate {A = Option ℤ} k None) left

pub length-no_ins : length no_ins ≡ 512
unfolding no_ins
length-no_ins = length-replicate {A = InRow} 512 []

-- empty registers have room
pub emptied_room : (g : RegistersSeen) → g ≡ no_registers → HasRoom g
emptied_room g e = record {
  outs = ap (λ (x : RegistersSeen). length x.outs) e ∙ length-no_outs;
  rows = ap (λ (x : RegistersSeen). length x.ins) e ∙ length-no_ins;
}

-- so have registers after a packet
pub filled_room : (m : OwnMessage) (values : List ℤ) (g : RegistersSeen) → HasRoom g → HasRoom (filled m values g)
filled_room m values g room = record { outs = room.outs; rows = length-set g.ins m.number (replicate (length m.consumers) (Some values)) ∙ room.rows }

-- taking registers keeps how many rows there are
pub length-emptied_at : (ins : List InRow) (m : OwnMessage) (o : Option ℕ) → length (emptied_at ins m o) ≡ length ins
length-emptied_at ins m None = refl
length-emptied_at ins m (Some c) = length-set ins m.number (slice_set (row_of ins m.number) c None)

length-taken : (task : ℕ) (ins : List InRow) (messages : List OwnMessage) → length (fold (emptied_for task) ins messages) ≡ length ins
length-taken task ins [] = refl
length-taken task ins (m ∷ messages) = length-taken task (emptied_for task ins m) messages ∙ length-emptied_at ins m (consumer_place task m)

-- after a start
pub begun_room : (task : ℕ) (value : ℤ) (messages : List OwnMessage) (g : RegistersSeen) → HasRoom g → HasRoom (begun task value messages g)
begun_room task value messages g room = record { outs = room.outs; rows = length-taken task g.ins messages ∙ room.rows }

-- and after an end
pub ended_room : (task : ℕ) (o : Option ℤ) (g : RegistersSeen) → HasRoom g → HasRoom (ended_with task o g)
ended_room task None g room = room
ended_room task (Some value) g room = record { outs = length-set g.outs task (Some value) ∙ room.outs; rows = room.rows }

-- one more place of a list is written with x
pub written_more : {X : Type 0} (x : X) (old : List X) (i : ℕ) → i < length old → slice_set (replicate i x ++ drop i old) i x ≡ replicate (suc i) x ++ drop (suc i) old
written_more x [] i l = absurd (omega (arith, l))
written_more x (y ∷ old) zero l = refl
written_more x (y ∷ old) (suc i) l = ap (λ rest. x ∷ rest) (written_more x old i (omega (arith, l)))

-- values before others, where the others are all there
abbrev pub before : List ℤ → Option (List ℤ) → Option (List ℤ)
before xs None = None
before xs (Some ys) = Some (xs ++ ys)
