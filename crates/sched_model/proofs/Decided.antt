-- Each schedule of a mode's shape is right or breaks a first clause
use Rattle.std.proofs.Common.{◌≡◌, ℕ, zero, suc, ◌<◌, ◌≤◌, Bool, true, false, List, [], ◌∷◌, length, get_or, Contains, refl, sym, ◌∙◌, subst, arith, ◌⊎◌, inl, inr, ⊎_elim, ℤ, pos, ◌+ℤ◌, ◌≤ℤ◌, ◌<ℤ◌}
use Rattle.std.specs.List.{AllByRecursion}
use Rattle.std.proofs.lemmas.Int.{ints, by_lt_z}
use Rattle.std.proofs.lemmas.Bool.{cases_lt, cases_eq}
use Rattle.std.proofs.lemmas.List.Elements.{All-from_recursion, recursion_from_All, All-contains, Contains-get_or}
use borrow.Author.Differences.{same_in}
use Rattle.sched_model.specs.declared.schedule.Schedule.{Schedule}
use Rattle.sched_model.specs.Numbers.{distinct}
use Rattle.sched_model.specs.PlainMode.{PlainMode, hyper, task_at, message_at, instance_count}
use Rattle.sched_model.specs.TaskGraph.{first, last, Reaches, reaches}
use Rattle.sched_model.specs.Rounds.{round_start, task_start, opens, closes}
use Rattle.sched_model.specs.RightSchedule.{HasShape, RoundsFit, GapsFit, OffsetFits, MessageFits, ChainFits, RunsApart, TableFits, Exactly, AllServed, IsSchedule}
use Rattle.sched_model.specs.OneHyperperiod.{Lists, window_then, EndsInWindow, ServesFirst, ServedOnce, EntriesFit}
use Rattle.sched_model.specs.FirstBroken.{Keeps, BreaksFirst}
use Rattle.sched_model.specs.ServedCounts.{how_many}
use Rattle.sched_model.specs.ValidMode.{IsValid}
use Rattle.sched_model.proofs.Graph.{reached, reaches_walk}
use Rattle.sched_model.proofs.OneTurn.{classes_apart, windows, entries}
use Rattle.sched_model.proofs.Exactly.{also, counted, one_count}

-- it holds or it does not
abbrev Decidable : Type 0 → Type 0
Decidable P = P ⊎ (P → ⊥)

dec_map : {P Q : Type 0} → (P → Q) → (Q → P) → Decidable P → Decidable Q
dec_map f g (inl p) = inl (f p)
dec_map f g (inr fails) = inr (λ q. fails (g q))

dec_both : {P Q : Type 0} → Decidable P → Decidable Q → Decidable (P × Q)
dec_both (inl p) (inl q) = inl (p, q)
dec_both (inl p) (inr fails) = inr (λ w. fails w.1)
dec_both (inr fails) d = inr (λ w. fails w.0)

dec_if : {P Q : Type 0} → Decidable P → Decidable Q → Decidable (P → Q)
dec_if d (inl q) = inl (λ p. q)
dec_if (inl p) (inr fails) = inr (λ f. fails (f p))
dec_if (inr fails) d = inl (λ p. absurd (fails p))

dec_le : (x y : ℤ) → Decidable (x ≤ℤ y)
dec_le x y = by_lt_z {P = Decidable (x ≤ℤ y)} y x (λ less. inr (λ h. omega (arith, ints, less, h))) (λ le. inl le)

dec_lt : (x y : ℤ) → Decidable (x <ℤ y)
dec_lt x y = by_lt_z {P = Decidable (x <ℤ y)} x y (λ less. inl less) (λ le. inr (λ h. omega (arith, ints, le, h)))

dec_same : (x y : ℤ) → Decidable (x ≡ y)
dec_same x y = dec_map (λ w. same_in x y (omega (arith, ints, w.0, w.1))) (λ e. (omega (arith, ints, e), omega (arith, ints, e))) (dec_both (dec_le x y) (dec_le y x))

dec_true : (b : Bool) → Decidable (b ≡ true)
dec_true true = inl refl
dec_true false = inr (λ e. absurd cc)

dec_nat : (x y : ℕ) → Decidable (x ≡ y)
dec_nat x y = cases_eq x y

dec_less : (x y : ℕ) → Decidable (x < y)
dec_less x y = ⊎_elim (λ (l : x < y). inl l) (λ (g : y ≤ x). inr (λ l. omega (arith, g, l))) (cases_lt x y)

-- of all numbers below n
dec_below : (P : ℕ → Type 0) (n : ℕ) → ((i : ℕ) → i < n → Decidable (P i)) → Decidable ((i : ℕ) → i < n → P i)
dec_below P zero d = inl (λ i l. absurd (omega (arith, l)))
dec_below P (suc n) d =
    dec_map {P = ((i : ℕ) → i < n → P i) × P n} {Q = (i : ℕ) → i < suc n → P i}
    (λ w i l. ⊎_elim (λ (less : i < n). w.0 i less) (λ (le : n ≤ i). subst P (let e : n ≡ i = omega (arith, le, l) in e) w.1) (cases_lt i n))
    (λ f. (λ i l. f i (omega (arith, l)), f n (omega arith)))
    (dec_both (dec_below P n (λ i l. d i (omega (arith, l)))) (d n (omega arith)))

-- of all items of a list
dec_items : {X : Type 0} (P : X → Type 0) → ((x : X) → Decidable (P x)) → (xs : List X) → Decidable (AllByRecursion P xs)
dec_items P d [] = inl tt
dec_items P d (x ∷ xs) = dec_both (d x) (dec_items P d xs)

dec_members : (P : ℕ → Type 0) → ((x : ℕ) → Decidable (P x)) → (xs : List ℕ) → Decidable ((x : ℕ) → Contains xs x → P x)
dec_members P d xs =
    dec_map {P = AllByRecursion P xs} {Q = (x : ℕ) → Contains xs x → P x}
    (λ a x c. All-contains P xs x (All-from_recursion P xs a) c)
    (λ f. recursion_from_All P xs (λ k e l. f (get_or xs k e) (Contains-get_or xs k e l)))
    (dec_items P d xs)

-- one of the numbers below n
dec_some : (P : ℕ → Type 0) (n : ℕ) → ((i : ℕ) → Decidable (P i)) → ((i : ℕ) × (i < n) × P i) ⊎ ((i : ℕ) → i < n → P i → ⊥)
dec_some P zero d = inr (λ i l p. omega (arith, l))
dec_some P (suc n) d =
    ⊎_elim
    (λ (p : P n). inl (n, omega arith, p))
    (λ (fails : P n → ⊥). ⊎_elim
    (λ (w : (i : ℕ) × (i < n) × P i). inl (w.0, omega (arith, w.1), w.2))
    (λ (none : (i : ℕ) → i < n → P i → ⊥). inr (λ i l p. ⊎_elim (λ (less : i < n). none i less p) (λ (le : n ≤ i). fails (subst P (let e : i ≡ n = omega (arith, le, l) in e) p)) (cases_lt i n)))
    (dec_some P n d))
    (d n)

-- ---- exactly so many numbers
abbrev is_left : {A B : Type 0} → A ⊎ B → Bool
is_left (inl a) = true
is_left (inr b) = false

left_true : {A : Type 0} (d : Decidable A) → A → is_left d ≡ true
left_true (inl a) h = refl
left_true (inr f) h = absurd (f h)

true_left : {A : Type 0} (d : Decidable A) → is_left d ≡ true → A
true_left (inl a) e = a
true_left (inr f) e = absurd cc

dec_exactly : (c : ℕ) (P : ℕ → Type 0) (n : ℕ) → ((i : ℕ) → Decidable (P i)) → ((i : ℕ) → P i → i < n) → Decidable (Exactly c P)
dec_exactly c P n d low =
    let t = λ (i : ℕ). is_left (d i) in
    let count = how_many t n in
    let e = also count (λ j. (j < n) × (t j ≡ true)) P (λ g w. true_left (d g) w.1) (λ g p. (low g p, left_true (d g) p)) (counted t n) in
    dec_map {P = count ≡ c} {Q = Exactly c P} (λ same. subst (λ x. Exactly x P) same e) (λ f. one_count count c P e f) (dec_nat count c)

-- ---- the clauses
module _ (m : PlainMode) (s : Schedule) (ok : IsValid m) (shape : HasShape m (length s.starts) s) where
  dec_rounds : Decidable (RoundsFit m s)
  dec_rounds =
      let n = length s.starts in
      let A = λ (j : ℕ). suc j < n → (round_start s j +ℤ pos m.round) ≤ℤ round_start s (suc j) in
      let B = λ (j : ℕ). suc j ≡ n → (round_start s j +ℤ pos m.round) ≤ℤ pos (hyper m) in
      dec_map {P = (round_start s 0 ≡ pos 0) × (((j : ℕ) → j < n → A j) × ((j : ℕ) → j < n → B j))} {Q = RoundsFit m s}
      (λ w. record { begin = w.0; apart = λ j l. w.1.0 j (omega (arith, l)) l; end = λ j e. w.1.1 j (omega (arith, e)) e })
      (λ f. (f.begin, (λ j l. f.apart j, λ j l. f.end j)))
      (dec_both (dec_same (round_start s 0) (pos 0)) (dec_both
      (dec_below A n (λ j l. dec_if (dec_less (suc j) n) (dec_le (round_start s j +ℤ pos m.round) (round_start s (suc j)))))
      (dec_below B n (λ j l. dec_if (dec_nat (suc j) n) (dec_le (round_start s j +ℤ pos m.round) (pos (hyper m)))))))

  dec_gaps : Decidable (GapsFit m s)
  dec_gaps =
      let n = length s.starts in
      let A = λ (j : ℕ). suc j < n → round_start s (suc j) ≤ℤ (round_start s j +ℤ pos m.gap) in
      let B = λ (j : ℕ). suc j ≡ n → pos (hyper m) ≤ℤ (round_start s j +ℤ pos m.gap) in
      dec_map {P = ((j : ℕ) → j < n → A j) × ((j : ℕ) → j < n → B j)} {Q = GapsFit m s}
      (λ w. record { within = λ j l. w.0 j (omega (arith, l)) l; across = λ j e. w.1 j (omega (arith, e)) e })
      (λ f. (λ j l. f.within j, λ j l. f.across j))
      (dec_both
      (dec_below A n (λ j l. dec_if (dec_less (suc j) n) (dec_le (round_start s (suc j)) (round_start s j +ℤ pos m.gap))))
      (dec_below B n (λ j l. dec_if (dec_nat (suc j) n) (dec_le (pos (hyper m)) (round_start s j +ℤ pos m.gap)))))

  dec_offset : (a : ℕ) → Decidable (OffsetFits m s a)
  dec_offset a =
      dec_map {P = (pos 0 ≤ℤ task_start s a) × (first m a ≡ true → task_start s a <ℤ pos (task_at m a).period)} {Q = OffsetFits m s a}
      (λ w. record { from_zero = w.0; early = w.1 }) (λ f. (f.from_zero, f.early))
      (dec_both (dec_le (pos 0) (task_start s a)) (dec_if (dec_true (first m a)) (dec_lt (task_start s a) (pos (task_at m a).period))))

  dec_message : (i : ℕ) → Decidable (MessageFits m s i)
  dec_message i =
      let msg = message_at m i in
      let A = λ (a : ℕ). (task_start s a +ℤ pos (task_at m a).wcet) ≤ℤ opens s i in
      let B = λ (a : ℕ). closes s i ≤ℤ (task_start s a +ℤ pos (task_at m a).wcet +ℤ pos msg.period) in
      let C = λ (b : ℕ). closes s i ≤ℤ task_start s b in
      let D = λ (b : ℕ). task_start s b <ℤ (opens s i +ℤ pos msg.period) in
      dec_map {P = (((a : ℕ) → Contains msg.from a → A a) × ((a : ℕ) → Contains msg.from a → B a)) × ((opens s i <ℤ closes s i) × (((b : ℕ) → Contains msg.to b → C b) × ((b : ℕ) → Contains msg.to b → D b)))} {Q = MessageFits m s i}
      (λ w. record { sent = w.0.0; kept = w.0.1; lasts = w.1.0; taken = w.1.1.0; next = w.1.1.1 }) (λ f. ((f.sent, f.kept), (f.lasts, (f.taken, f.next))))
      (dec_both
      (dec_both (dec_members A (λ a. dec_le (task_start s a +ℤ pos (task_at m a).wcet) (opens s i)) msg.from) (dec_members B (λ a. dec_le (closes s i) (task_start s a +ℤ pos (task_at m a).wcet +ℤ pos msg.period)) msg.from))
      (dec_both (dec_lt (opens s i) (closes s i)) (dec_both (dec_members C (λ b. dec_le (closes s i) (task_start s b)) msg.to) (dec_members D (λ b. dec_lt (task_start s b) (opens s i +ℤ pos msg.period)) msg.to))))

  dec_chains : Decidable ((f l : ℕ) → f < length m.tasks → l < length m.tasks → first m f ≡ true → last m l ≡ true → Reaches m f l → ChainFits m s f l)
  dec_chains =
      let n = length m.tasks in
      let P = λ (f l : ℕ). first m f ≡ true → last m l ≡ true → reaches m f l ≡ true → ChainFits m s f l in
      dec_map {P = (f : ℕ) → f < n → (l : ℕ) → l < n → P f l}
      (λ w f l lf ll a b r. w f lf l ll a b (reached m ok f l ll r)) (λ w f lf l ll a b r. w f l lf ll a b (reaches_walk m n f l r))
      (dec_below (λ f. (l : ℕ) → l < n → P f l) n (λ f lf. dec_below (P f) n (λ l ll.
      dec_if (dec_true (first m f)) (dec_if (dec_true (last m l)) (dec_if (dec_true (reaches m f l)) (dec_le (task_start s l +ℤ pos (task_at m l).wcet) (task_start s f +ℤ pos (task_at m f).deadline)))))))

  module _ (rounds : RoundsFit m s) (offsets : (a : ℕ) → a < length m.tasks → OffsetFits m s a) (messages : (i : ℕ) → i < length m.messages → MessageFits m s i) where
    dec_apart : Decidable ((a b : ℕ) → a < b → b < length m.tasks → (task_at m a).node ≡ (task_at m b).node → RunsApart m s a b)
    dec_apart =
        let n = length m.tasks in
        let P = λ (a b : ℕ). (task_at m a).node ≡ (task_at m b).node → RunsApart m s a b in
        dec_map {P = (b : ℕ) → b < n → (a : ℕ) → a < b → P a b} (λ w a b l lb. w b lb a l) (λ w b lb a l. w a b l lb)
        (dec_below (λ b. (a : ℕ) → a < b → P a b) n (λ b lb. dec_below (λ a. P a b) b (λ a l.
        let law = classes_apart m (length s.starts) s ok shape rounds offsets messages a b (omega (arith, l, lb)) lb in
        dec_if (dec_nat (task_at m a).node (task_at m b).node) (dec_map law.1 law.0 (dec_both (dec_le _ _) (dec_le _ _))))))

    dec_served : Decidable (AllServed m s)
    dec_served =
        let n = length s.starts in
        let law = windows m (length s.starts) s ok shape rounds offsets messages in
        let W = λ (i : ℕ). (k : ℕ) → k < instance_count m (message_at m i) → Exactly (message_at m i).copies (ServesFirst m s i k) in
        dec_map law.1 law.0 (dec_map {P = AllByRecursion (TableFits m) s.tables × ((i : ℕ) → i < length m.messages → W i)} {Q = ServedOnce m s}
        (λ w. record { tables = All-from_recursion (TableFits m) s.tables w.0; windows = λ i k l lk. w.1 i l k lk }) (λ o. (recursion_from_All (TableFits m) s.tables o.tables, λ i l k lk. o.windows i k l lk))
        (dec_both
        (dec_items (TableFits m) (λ t. dec_map {P = (length t < suc m.slots) × (distinct t ≡ true)} {Q = TableFits m t} (λ w. record { slots = omega (arith, w.0); once = w.1 }) (λ f. (omega (arith, f.slots), f.once)) (dec_both (dec_less (length t) (suc m.slots)) (dec_true (distinct t)))) s.tables)
        (dec_below W (length m.messages) (λ i l. dec_below (λ k. Exactly (message_at m i).copies (ServesFirst m s i k)) (instance_count m (message_at m i)) (λ k lk.
        dec_exactly (message_at m i).copies (ServesFirst m s i k) n (λ j. dec_map {P = (j < n) × ((Lists m s i j) × ((window_then m s i j ≡ k) × EndsInWindow m s i j))} {Q = ServesFirst m s i k j}
        (λ w. record { within = w.0; lists = w.1.0; which = w.1.1.0; ends = w.1.1.1 }) (λ f. (f.within, (f.lists, (f.which, f.ends))))
        (dec_both (dec_less j n) (dec_both (dec_true _) (dec_both (dec_nat (window_then m s i j) k) (dec_le _ _))))) (λ j f. f.within))))))

    dec_timely : Decidable (Keeps m s 8)
    dec_timely =
        let law = entries m (length s.starts) s ok shape rounds offsets messages in
        let E = λ (i j : ℕ). Lists m s i j → EndsInWindow m s i j in
        dec_map law.1 law.0 (dec_map {P = (i : ℕ) → i < length m.messages → (j : ℕ) → j < length s.starts → E i j} {Q = EntriesFit m s} (λ w i j l lj. w i l j lj) (λ w i l j lj. w i j l lj)
        (dec_below (λ i. (j : ℕ) → j < length s.starts → E i j) (length m.messages) (λ i l. dec_below (E i) (length s.starts) (λ j lj. dec_if (dec_true _) (dec_le _ _)))))

-- ---- the first broken clause
pub one_more : (m : PlainMode) (s : Schedule) (c : ℕ) → ((k : ℕ) → k < c → Keeps m s k) → Keeps m s c → (k : ℕ) → k < suc c → Keeps m s k
one_more m s c f h k l = ⊎_elim (λ (less : k < c). f k less) (λ (le : c ≤ k). subst (Keeps m s) (let e : c ≡ k = omega (arith, le, l) in e) h) (cases_lt k c)

pub decided : (m : PlainMode) (s : Schedule) → IsValid m → HasShape m (length s.starts) s → IsSchedule m (length s.starts) s ⊎ ((clause : ℕ) × BreaksFirst m s clause)
decided m s ok shape =
    let k1 : (k : ℕ) → k < 1 → Keeps m s k = one_more m s 0 (λ k l. absurd (omega (arith, l))) tt in
    ⊎_elim (λ (s1 : Keeps m s 1). let k2 = one_more m s 1 k1 s1 in
    ⊎_elim (λ (s2 : Keeps m s 2). let k3 = one_more m s 2 k2 s2 in
    ⊎_elim (λ (s3 : Keeps m s 3). let k4 = one_more m s 3 k3 s3 in
    ⊎_elim (λ (s4 : Keeps m s 4). let k5 = one_more m s 4 k4 s4 in
    ⊎_elim (λ (s5 : Keeps m s 5). let k6 = one_more m s 5 k5 s5 in
    ⊎_elim (λ (s6 : Keeps m s 6). let k7 = one_more m s 6 k6 s6 in
    ⊎_elim (λ (s7 : Keeps m s 7). let k8 = one_more m s 7 k7 s7 in
    ⊎_elim (λ (s8 : Keeps m s 8). inl (record { shape = shape; s1 = s1; s2 = s2; s3 = s3; s4 = s4; s5 = s5; s6 = s6; s7 = s7; s8 = s8 }))
    (λ (b : Keeps m s 8 → ⊥). inr (8, record { kept = k8; broken = b })) (dec_timely m s ok shape s1 s3 s4))
    (λ (b : Keeps m s 7 → ⊥). inr (7, record { kept = k7; broken = b })) (dec_served m s ok shape s1 s3 s4))
    (λ (b : Keeps m s 6 → ⊥). inr (6, record { kept = k6; broken = b })) (dec_apart m s ok shape s1 s3 s4))
    (λ (b : Keeps m s 5 → ⊥). inr (5, record { kept = k5; broken = b })) (dec_chains m s ok shape))
    (λ (b : Keeps m s 4 → ⊥). inr (4, record { kept = k4; broken = b })) (dec_below (λ i. MessageFits m s i) (length m.messages) (λ i l. dec_message m s ok shape i)))
    (λ (b : Keeps m s 3 → ⊥). inr (3, record { kept = k3; broken = b })) (dec_below (λ a. OffsetFits m s a) (length m.tasks) (λ a l. dec_offset m s ok shape a)))
    (λ (b : Keeps m s 2 → ⊥). inr (2, record { kept = k2; broken = b })) (dec_gaps m s ok shape))
    (λ (b : Keeps m s 1 → ⊥). inr (1, record { kept = k1; broken = b })) (dec_rounds m s ok shape)

pub keeps_all : (m : PlainMode) (r : ℕ) (s : Schedule) → IsSchedule m r s → (clause : ℕ) → Keeps m s clause
keeps_all m r s is zero = tt
keeps_all m r s is (suc zero) = is.s1
keeps_all m r s is (suc (suc zero)) = is.s2
keeps_all m r s is (suc (suc (suc zero))) = is.s3
keeps_all m r s is (suc (suc (suc (suc zero)))) = is.s4
keeps_all m r s is (suc (suc (suc (suc (suc zero))))) = is.s5
keeps_all m r s is (suc (suc (suc (suc (suc (suc zero)))))) = is.s6
keeps_all m r s is (suc (suc (suc (suc (suc (suc (suc zero))))))) = is.s7
keeps_all m r s is (suc (suc (suc (suc (suc (suc (suc (suc zero)))))))) = is.s8
keeps_all m r s is (suc (suc (suc (suc (suc (suc (suc (suc (suc n))))))))) = tt

pub one_clause : (m : PlainMode) (s : Schedule) (c d : ℕ) → BreaksFirst m s c → BreaksFirst m s d → c ≡ d
one_clause m s c d a b =
    ⊎_elim (λ (less : c < d). absurd (a.broken (b.kept c less)))
    (λ (le : d ≤ c). ⊎_elim (λ (more : d < c). absurd (b.broken (a.kept d more))) (λ (ge : c ≤ d). let e : c ≡ d = omega (arith, le, ge) in e) (cases_lt d c))
    (cases_lt c d)
