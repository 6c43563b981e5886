-- Each part of an image is read back as it was written, and nothing else is taken for it.
use Rattle.std.proofs.Common.{◌≡◌, ℕ, zero, suc, ◌≤◌, ℤ, pos, negsuc, ◌≤ℤ◌, ◌≢◌, ◌⊎◌, IfOk, IfErr, List, [], ◌∷◌, ◌++◌, length, Result, Ok, Err, refl, sym, ap, subst, ◌∙◌, inl, inr, eqb, arith, append_assoc, append-nil, FitsSigned, w64}
use Rattle.std.proofs.lemmas.Bool.{cases_Bool, cond-true, cond-false, eqb-true}
use Rattle.std.proofs.lemmas.Int.{ints}
use Rattle.std.specs.List.{flat_map}
use Rattle.node_tables.specs.Fields.{Field, Byte, Short, Long, Known, bytes_of, bytes, AreInRange}
use Rattle.node_tables.specs.Image.{number_of, copy_field, slot_fields, round_fields, task_field, message_fields, task_fields, mode_fields, table_fields, Image, OldImage, ImageIn, IsInRange}
use Rattle.node_tables.specs.Left.{Left}
use Rattle.node_tables.specs.Reading.{Reads, byte, short, long, give, after, counted, copy, slot, round, task_number, message, task, mode, version, version_of, table_in, table, whole, read}
use Rattle.node_tables.specs.declared.fault.ImageFault.{ImageFault}
use Rattle.node_tables.specs.declared.fault.ImageFault.TheVariants as faults
use Rattle.node_tables.specs.declared.version.Version.{Version}
use Rattle.node_tables.specs.declared.version.Version.TheVariants.{First, Second}
use Rattle.node_tables.specs.declared.tables.NodeTable.{NodeTable}
use Rattle.node_tables.specs.declared.tables.ModeTable.{ModeTable}
use Rattle.node_tables.specs.declared.tables.OwnTask.{OwnTask}
use Rattle.node_tables.specs.declared.tables.OwnMessage.{OwnMessage}
use Rattle.node_tables.specs.declared.tables.OwnRound.{OwnRound}
use Rattle.node_tables.specs.declared.tables.OwnSlot.{OwnSlot}
use Rattle.node_tables.proofs.Codecs.{AreBytes, Back, back_give, back_after, byte_back, short_back, long_back, bytes-append, ranges-append, ranges_front, ranges_rest, Took, took_more, Takes, Rest, undo, rest_after, rest_give, takes_from, byte_takes, short_takes, long_takes}

-- ---- lists

pub counted_back : {X : Type 0} (reading : Reads X) (fields : X → List Field) → ((x : X) → AreInRange (fields x) → Back reading x (bytes (fields x))) →
    (xs : List X) → AreInRange (flat_map fields xs) → Back (counted (length xs) reading) xs (bytes (flat_map fields xs))
counted_back reading fields item [] ranges = back_give []
counted_back {X} reading fields item (x ∷ xs) ranges =
    let others = counted_back reading fields item xs (ranges_rest (fields x) (flat_map fields xs) ranges) in
    let all = back_after reading (λ y. after (counted (length xs) reading) (λ ys. give (y ∷ ys))) x (x ∷ xs) (bytes (fields x)) (bytes (flat_map fields xs) ++ [])
    (item x (ranges_front (fields x) (flat_map fields xs) ranges))
    (back_after (counted (length xs) reading) (λ ys. give (x ∷ ys)) xs (x ∷ xs) (bytes (flat_map fields xs)) [] others (back_give (x ∷ xs))) in
    let same : bytes (fields x) ++ (bytes (flat_map fields xs) ++ []) ≡ bytes (flat_map fields (x ∷ xs)) =
    ap (λ (bs : List ℕ). bytes (fields x) ++ bs) (append-nil _) ∙ sym (bytes-append (fields x) (flat_map fields xs)) in
    let P : List ℕ → Type 0 = λ bs. Back (counted (length (x ∷ xs)) reading) (x ∷ xs) bs in
    subst P same all

pub record Counted {X : Type 0} (fields : X → List Field) (n : ℕ) (xs : List X) (s t : Left) : Type 0 where
  pub count : length xs ≡ n
  pub took : Took (flat_map fields xs) s t

pub counted_took : {X : Type 0} (reading : Reads X) (fields : X → List Field) → Takes reading fields →
    (n : ℕ) (s : Left) (xs : List X) (t : Left) → AreBytes s.bytes → counted n reading s ≡ Ok (xs, t) → Counted fields n xs s t
counted_took {X} reading fields item zero s xs t are e =
    let here : List X × Left = ([], s) in
    let there : List X × Left = (xs, t) in
    let pair : here ≡ there = cc in
    let P : List X × Left → Type 0 = λ p. Counted fields zero p.0 s p.1 in
    subst P pair (record { count = refl; took = record { ranges = tt; split = refl; are_bytes = are } })
counted_took {X} reading fields item (suc n) s xs t are e =
    let a = undo (reading s) (λ y. after (counted n reading) (λ ys. give (y ∷ ys))) (xs, t) e in
    let x = a.0.0 in
    let one = item.took s x a.0.1 are a.1 in
    let b = undo (counted n reading a.0.1) (λ ys. give (x ∷ ys)) (xs, t) a.2 in
    let others = counted_took reading fields item n a.0.1 b.0.0 b.0.1 one.are_bytes b.1 in
    let here : List X × Left = (x ∷ b.0.0, b.0.1) in
    let there : List X × Left = (xs, t) in
    let last : give (x ∷ b.0.0) b.0.1 ≡ Ok (xs, t) = b.2 in
    let pair : here ≡ there = cc in
    let P : List X × Left → Type 0 = λ p. Counted fields (suc n) p.0 s p.1 in
    subst P pair (record { count = ap suc others.count; took = took_more (fields x) (flat_map fields b.0.0) s a.0.1 b.0.1 one others.took })

pub rest_counted : {X Y : Type 0} (n : ℕ) (reading : Reads X) (next : List X → Reads Y) (fields : X → List Field) (before : List Field) (whole : Y → List Field) →
    Takes reading fields → ((xs : List X) → length xs ≡ n → Rest (next xs) (before ++ flat_map fields xs) whole) → Rest (after (counted n reading) next) before whole
rest_counted n reading next fields before whole item others = record {
  rest = λ s y t are e.
      let u = undo (counted n reading s) next (y, t) e in
      let a = counted_took reading fields item n s u.0.0 u.0.1 are u.1 in
      let b = (others u.0.0 a.count).rest u.0.1 y t a.took.are_bytes u.2 in
      (flat_map fields u.0.0 ++ b.0, took_more (flat_map fields u.0.0) b.0 s u.0.1 t a.took b.1, sym (append_assoc before (flat_map fields u.0.0) b.0) ∙ b.2);
}

-- ---- numbers of the range of a time

pub fits_between : (z : ℤ) → negsuc 1999999999999 ≤ℤ z → z ≤ℤ pos 2000000000000 → FitsSigned w64 z
fits_between (pos n) low high = record { sfits = omega (arith, ints) }
fits_between (negsuc n) low high = record { sfits = omega (arith, ints) }

-- ---- slots

copy_back : (v : Version) (n : ℕ) → AreInRange (copy_field v n ∷ []) → Back (copy v) n (bytes_of (copy_field v n))
copy_back First n r = subst (λ (x : ℕ). Back (copy First) x []) (sym r.0) (back_give 1)
copy_back Second n r = byte_back 1 4 n r.0

copy_takes : (v : Version) → Takes (copy v) (λ n. copy_field v n ∷ [])
copy_takes First = record {
  took = λ s n t are e.
      let here : ℕ × Left = (1, s) in
      let there : ℕ × Left = (n, t) in
      let pair : here ≡ there = cc in
      let P : ℕ × Left → Type 0 = λ p. Took (Known 1 p.0 ∷ []) s p.1 in
      subst P pair (record { ranges = (refl, tt); split = refl; are_bytes = are });
}
copy_takes Second = byte_takes 1 4

pub slot_back : (v : Version) (s : OwnSlot) → AreInRange (slot_fields v s) → Back (slot v) s (bytes (slot_fields v s))
slot_back v s r =
    back_after (byte 1 32) _ s.slot s _ _ (byte_back 1 32 s.slot r.0)
    (back_after (short 0 511) _ s.message s _ _ (short_back 0 511 s.message (omega arith) r.1.0)
    (back_after (long (negsuc 999999999999) (pos 1000000000000)) _ s.release s _ _ (long_back _ _ s.release (fits_between s.release (omega (arith, ints)) (omega (arith, ints))) r.1.1.0)
    (back_after (copy v) _ s.copy s _ [] (copy_back v s.copy r.1.1.1)
    (back_give s))))

pub slot_takes : (v : Version) → Takes (slot v) (slot_fields v)
slot_takes v =
    takes_from (slot v) (slot_fields v)
    (rest_after (byte 1 32) _ (λ n. Byte 1 32 n ∷ []) [] (slot_fields v) (byte_takes 1 32) (λ number.
    rest_after (short 0 511) _ (λ n. Short 0 511 n ∷ []) _ (slot_fields v) (short_takes 0 511) (λ message.
    rest_after (long (negsuc 999999999999) (pos 1000000000000)) _ (λ z. Long (negsuc 999999999999) (pos 1000000000000) z ∷ []) _ (slot_fields v) (long_takes (negsuc 999999999999) (pos 1000000000000)) (λ release.
    rest_after (copy v) _ (λ n. copy_field v n ∷ []) _ (slot_fields v) (copy_takes v) (λ copy.
    rest_give (record { slot = number; message = message; release = release; copy = copy }) _ (slot_fields v) refl)))))

-- ---- rounds

pub round_back : (v : Version) (r : OwnRound) → AreInRange (round_fields v r) → Back (round v) r (bytes (round_fields v r))
round_back v r in_range =
    let all = back_after (long (pos 0) (pos 1000000000000)) _ r.start r _ _ (long_back _ _ r.start (fits_between r.start (omega (arith, ints)) (omega (arith, ints))) in_range.0)
    (back_after (byte 0 32) _ (length r.slots) r _ _ (byte_back 0 32 (length r.slots) in_range.1.0)
    (back_after (counted (length r.slots) (slot v)) _ r.slots r _ [] (counted_back (slot v) (slot_fields v) (slot_back v) r.slots in_range.1.1)
    (back_give r))) in
    let P : List ℕ → Type 0 = λ bs. Back (round v) r (bytes_of (Long (pos 0) (pos 1000000000000) r.start) ++ (bytes_of (Byte 0 32 (length r.slots)) ++ bs)) in
    subst P (append-nil (bytes (flat_map (slot_fields v) r.slots))) all

pub round_takes : (v : Version) → Takes (round v) (round_fields v)
round_takes v =
    takes_from (round v) (round_fields v)
    (rest_after (long (pos 0) (pos 1000000000000)) _ (λ z. Long (pos 0) (pos 1000000000000) z ∷ []) [] (round_fields v) (long_takes (pos 0) (pos 1000000000000)) (λ start.
    rest_after (byte 0 32) _ (λ n. Byte 0 32 n ∷ []) _ (round_fields v) (byte_takes 0 32) (λ count.
    rest_counted count (slot v) _ (slot_fields v) _ (round_fields v) (slot_takes v) (λ slots same.
    rest_give (record { start = start; slots = slots }) _ (round_fields v)
    (ap (λ (n : ℕ). Long (pos 0) (pos 1000000000000) start ∷ Byte 0 32 n ∷ flat_map (slot_fields v) slots) (sym same))))))

-- ---- tasks

pub number_back : (n : ℕ) → AreInRange (task_field n) → Back task_number n (bytes (task_field n))
number_back n r =
    let P : List ℕ → Type 0 = λ bs. Back task_number n bs in
    subst P (sym (append-nil (bytes_of (Short 0 1023 n)))) (short_back 0 1023 n (omega arith) r.0)

pub number_takes : Takes task_number task_field
number_takes = short_takes 0 1023

pub task_back : (t : OwnTask) → AreInRange (task_fields t) → Back task t (bytes (task_fields t))
task_back t r =
    back_after task_number _ t.number t _ _ (short_back 0 1023 t.number (omega arith) r.0)
    (back_after (long (pos 1) (pos 1000000000)) _ t.period t _ _ (long_back _ _ t.period (fits_between t.period (omega (arith, ints)) (omega (arith, ints))) r.1.0)
    (back_after (long (pos 0) (pos 2000000000000)) _ t.offset t _ _ (long_back _ _ t.offset (fits_between t.offset (omega (arith, ints)) (omega (arith, ints))) r.1.1.0)
    (back_after (long (pos 1) t.period) _ t.wcet t _ _ (long_back _ _ t.wcet (fits_between t.wcet (omega (arith, ints)) (omega (arith, ints))) r.1.1.1.0)
    (back_give t))))

pub task_takes : Takes task task_fields
task_takes =
    takes_from task task_fields
    (rest_after task_number _ task_field [] task_fields number_takes (λ number.
    rest_after (long (pos 1) (pos 1000000000)) _ (λ z. Long (pos 1) (pos 1000000000) z ∷ []) _ task_fields (long_takes (pos 1) (pos 1000000000)) (λ period.
    rest_after (long (pos 0) (pos 2000000000000)) _ (λ z. Long (pos 0) (pos 2000000000000) z ∷ []) _ task_fields (long_takes (pos 0) (pos 2000000000000)) (λ offset.
    rest_after (long (pos 1) period) _ (λ z. Long (pos 1) period z ∷ []) _ task_fields (long_takes (pos 1) period) (λ wcet.
    rest_give (record { number = number; period = period; offset = offset; wcet = wcet }) _ task_fields refl)))))

-- ---- messages

pub message_back : (m : OwnMessage) → AreInRange (message_fields m) → Back message m (bytes (message_fields m))
message_back m r =
    let producers = flat_map task_field m.producers in
    let consumers = flat_map task_field m.consumers in
    let count = Byte 0 16 (length m.consumers) in
    let front = ranges_front producers (count ∷ consumers) r.1.1.1 in
    let others = ranges_rest producers (count ∷ consumers) r.1.1.1 in
    let all = back_after (short 0 511) _ m.number m _ _ (short_back 0 511 m.number (omega arith) r.0)
    (back_after (byte 1 3) _ m.role m _ _ (byte_back 1 3 m.role r.1.0)
    (back_after (byte 1 4) _ (length m.producers) m _ _ (byte_back 1 4 (length m.producers) r.1.1.0)
    (back_after (counted (length m.producers) task_number) _ m.producers m _ _ (counted_back task_number task_field number_back m.producers front)
    (back_after (byte 0 16) _ (length m.consumers) m _ _ (byte_back 0 16 (length m.consumers) others.0)
    (back_after (counted (length m.consumers) task_number) _ m.consumers m _ [] (counted_back task_number task_field number_back m.consumers others.1)
    (back_give m)))))) in
    let same : bytes producers ++ (bytes_of count ++ (bytes consumers ++ [])) ≡ bytes (producers ++ count ∷ consumers) =
    ap (λ (bs : List ℕ). bytes producers ++ (bytes_of count ++ bs)) (append-nil (bytes consumers)) ∙ sym (bytes-append producers (count ∷ consumers)) in
    let P : List ℕ → Type 0 = λ bs. Back message m (bytes_of (Short 0 511 m.number) ++ (bytes_of (Byte 1 3 m.role) ++ (bytes_of (Byte 1 4 (length m.producers)) ++ bs))) in
    subst P same all

pub message_takes : Takes message message_fields
message_takes =
    takes_from message message_fields
    (rest_after (short 0 511) _ (λ n. Short 0 511 n ∷ []) [] message_fields (short_takes 0 511) (λ number.
    rest_after (byte 1 3) _ (λ n. Byte 1 3 n ∷ []) _ message_fields (byte_takes 1 3) (λ role.
    rest_after (byte 1 4) _ (λ n. Byte 1 4 n ∷ []) _ message_fields (byte_takes 1 4) (λ count.
    rest_counted count task_number _ task_field _ message_fields number_takes (λ producers same.
    rest_after (byte 0 16) _ (λ n. Byte 0 16 n ∷ []) _ message_fields (byte_takes 0 16) (λ others.
    rest_counted others task_number _ task_field _ message_fields number_takes (λ consumers also.
    rest_give (record { number = number; role = role; producers = producers; consumers = consumers }) _ message_fields
    (let front = flat_map task_field producers in
    let back = flat_map task_field consumers in
    ap (λ (fs : List Field). Short 0 511 number ∷ Byte 1 3 role ∷ Byte 1 4 count ∷ fs) (append_assoc front (Byte 0 16 others ∷ []) back)
    ∙ ap (λ (n : ℕ). Short 0 511 number ∷ Byte 1 3 role ∷ Byte 1 4 n ∷ (front ++ Byte 0 16 others ∷ back)) (sym same)
    ∙ ap (λ (n : ℕ). Short 0 511 number ∷ Byte 1 3 role ∷ Byte 1 4 (length producers) ∷ (front ++ Byte 0 16 n ∷ back)) (sym also)))))))))

-- ---- modes

pub mode_back : (v : Version) (m : ModeTable) → AreInRange (mode_fields v m) → Back (mode v) m (bytes (mode_fields v m))
mode_back v m r =
    let tasks = flat_map task_fields m.tasks in
    let messages = flat_map message_fields m.messages in
    let rounds = flat_map (round_fields v) m.rounds in
    let count = Short 0 64 (length m.messages) in
    let front = ranges_front tasks (count ∷ (messages ++ rounds)) r.1.1.1.1 in
    let others = ranges_rest tasks (count ∷ (messages ++ rounds)) r.1.1.1.1 in
    let all = back_after (long (pos 1) (pos 1000000000000)) _ m.hyper m _ _ (long_back _ _ m.hyper (fits_between m.hyper (omega (arith, ints)) (omega (arith, ints))) r.0)
    (back_after (short 1 2048) _ m.first_round m _ _ (short_back 1 2048 m.first_round (omega arith) r.1.0)
    (back_after (short 1 256) _ (length m.rounds) m _ _ (short_back 1 256 (length m.rounds) (omega arith) r.1.1.0)
    (back_after (short 0 128) _ (length m.tasks) m _ _ (short_back 0 128 (length m.tasks) (omega arith) r.1.1.1.0)
    (back_after (counted (length m.tasks) task) _ m.tasks m _ _ (counted_back task task_fields task_back m.tasks front)
    (back_after (short 0 64) _ (length m.messages) m _ _ (short_back 0 64 (length m.messages) (omega arith) others.0)
    (back_after (counted (length m.messages) message) _ m.messages m _ _ (counted_back message message_fields message_back m.messages (ranges_front messages rounds others.1))
    (back_after (counted (length m.rounds) (round v)) _ m.rounds m _ [] (counted_back (round v) (round_fields v) (round_back v) m.rounds (ranges_rest messages rounds others.1))
    (back_give m)))))))) in
    let same : bytes tasks ++ (bytes_of count ++ (bytes messages ++ (bytes rounds ++ []))) ≡ bytes (tasks ++ count ∷ (messages ++ rounds)) =
    ap (λ (bs : List ℕ). bytes tasks ++ (bytes_of count ++ (bytes messages ++ bs))) (append-nil (bytes rounds))
    ∙ ap (λ (bs : List ℕ). bytes tasks ++ (bytes_of count ++ bs)) (sym (bytes-append messages rounds))
    ∙ sym (bytes-append tasks (count ∷ (messages ++ rounds))) in
    let P : List ℕ → Type 0 = λ bs. Back (mode v) m (bytes_of (Long (pos 1) (pos 1000000000000) m.hyper) ++ (bytes_of (Short 1 2048 m.first_round) ++ (bytes_of (Short 1 256 (length m.rounds)) ++ (bytes_of (Short 0 128 (length m.tasks)) ++ bs)))) in
    subst P same all

pub mode_takes : (v : Version) → Takes (mode v) (mode_fields v)
mode_takes v =
    takes_from (mode v) (mode_fields v)
    (rest_after (long (pos 1) (pos 1000000000000)) _ (λ z. Long (pos 1) (pos 1000000000000) z ∷ []) [] (mode_fields v) (long_takes (pos 1) (pos 1000000000000)) (λ hyper.
    rest_after (short 1 2048) _ (λ n. Short 1 2048 n ∷ []) _ (mode_fields v) (short_takes 1 2048) (λ first_round.
    rest_after (short 1 256) _ (λ n. Short 1 256 n ∷ []) _ (mode_fields v) (short_takes 1 256) (λ rounds_count.
    rest_after (short 0 128) _ (λ n. Short 0 128 n ∷ []) _ (mode_fields v) (short_takes 0 128) (λ tasks_count.
    rest_counted tasks_count task _ task_fields _ (mode_fields v) task_takes (λ tasks one.
    rest_after (short 0 64) _ (λ n. Short 0 64 n ∷ []) _ (mode_fields v) (short_takes 0 64) (λ messages_count.
    rest_counted messages_count message _ message_fields _ (mode_fields v) message_takes (λ messages two.
    rest_counted rounds_count (round v) _ (round_fields v) _ (mode_fields v) (round_takes v) (λ rounds three.
    rest_give (record { hyper = hyper; first_round = first_round; tasks = tasks; messages = messages; rounds = rounds }) _ (mode_fields v)
    (let ts = flat_map task_fields tasks in
    let ms = flat_map message_fields messages in
    let rs = flat_map (round_fields v) rounds in
    let start = λ (r t : ℕ) (fs : List Field). Long (pos 1) (pos 1000000000000) hyper ∷ Short 1 2048 first_round ∷ Short 1 256 r ∷ Short 0 128 t ∷ fs in
    ap (start rounds_count tasks_count) (append_assoc (ts ++ Short 0 64 messages_count ∷ []) ms rs ∙ append_assoc ts (Short 0 64 messages_count ∷ []) (ms ++ rs))
    ∙ ap (λ (n : ℕ). start n tasks_count (ts ++ Short 0 64 messages_count ∷ (ms ++ rs))) (sym three)
    ∙ ap (λ (n : ℕ). start (length rounds) n (ts ++ Short 0 64 messages_count ∷ (ms ++ rs))) (sym one)
    ∙ ap (λ (n : ℕ). start (length rounds) (length tasks) (ts ++ Short 0 64 n ∷ (ms ++ rs))) (sym two)))))))))))

-- ---- tables

version_back : (v : Version) → Back version v (number_of v ∷ [])
version_back First = back_after (byte 1 2) (λ n. give (version_of n)) 1 First (1 ∷ []) [] (byte_back 1 2 1 (omega arith, omega arith)) (back_give First)
version_back Second = back_after (byte 1 2) (λ n. give (version_of n)) 2 Second (2 ∷ []) [] (byte_back 1 2 2 (omega arith, omega arith)) (back_give Second)

pub table_back : (v : Version) (t : NodeTable) → AreInRange (table_fields v t) → Back table t (bytes (table_fields v t))
table_back v t r =
    let all = back_after version table_in v t (number_of v ∷ []) _ (version_back v)
    (back_after (byte 0 63) _ t.node t _ _ (byte_back 0 63 t.node r.1.0)
    (back_after (byte 1 8) _ (length t.modes) t _ _ (byte_back 1 8 (length t.modes) r.1.1.0)
    (back_after (counted (length t.modes) (mode v)) _ t.modes t _ [] (counted_back (mode v) (mode_fields v) (mode_back v) t.modes r.1.1.1)
    (back_give t)))) in
    let P : List ℕ → Type 0 = λ bs. Back table t (number_of v ∷ t.node ∷ length t.modes ∷ bs) in
    subst P (append-nil (bytes (flat_map (mode_fields v) t.modes))) all

-- the field of a version
abbrev version_field : Version → Field
version_field v = Byte (number_of v) (number_of v) (number_of v)

version_number : (n : ℕ) → 1 ≤ n → n ≤ 2 → number_of (version_of n) ≡ n
version_number zero some most = absurd (omega (arith, some))
version_number (suc zero) some most = refl
version_number (suc (suc zero)) some most = refl
version_number (suc (suc (suc n))) some most = absurd (omega (arith, most))

version_takes : Takes version (λ v. version_field v ∷ [])
version_takes = record {
  took = λ s v t are e.
      let u = undo (byte 1 2 s) (λ n. give (version_of n)) (v, t) e in
      let n = u.0.0 in
      let a = (byte_takes 1 2).took s n u.0.1 are u.1 in
      let range = a.ranges.0 in
      let here : Version × Left = (version_of n, u.0.1) in
      let there : Version × Left = (v, t) in
      let last : give (version_of n) u.0.1 ≡ Ok (v, t) = u.2 in
      let pair : here ≡ there = cc in
      let same : number_of (version_of n) ≡ n = version_number n range.0 range.1 in
      let one : Took (version_field (version_of n) ∷ []) s u.0.1 = record {
        ranges = ((omega arith, omega arith), tt);
        split = a.split ∙ ap (λ (k : ℕ). k ∷ u.0.1.bytes) (sym same);
        are_bytes = a.are_bytes;
      } in
      let P : Version × Left → Type 0 = λ p. Took (version_field p.0 ∷ []) s p.1 in
      subst P pair one;
}

-- behind the version of the fields
table_rest : (v : Version) → Rest (table_in v) (version_field v ∷ []) (table_fields v)
table_rest v =
    rest_after (byte 0 63) _ (λ n. Byte 0 63 n ∷ []) _ (table_fields v) (byte_takes 0 63) (λ node.
    rest_after (byte 1 8) _ (λ n. Byte 1 8 n ∷ []) _ (table_fields v) (byte_takes 1 8) (λ count.
    rest_counted count (mode v) _ (mode_fields v) _ (table_fields v) (mode_takes v) (λ modes same.
    rest_give (record { node = node; modes = modes }) _ (table_fields v)
    (ap (λ (n : ℕ). version_field v ∷ Byte 0 63 node ∷ Byte 1 8 n ∷ flat_map (mode_fields v) modes) (sym same)))))

-- the fields that were read are those of some version
table_took : (s : Left) (x : NodeTable) (t : Left) → AreBytes s.bytes → table s ≡ Ok (x, t) → (v : Version) × Took (table_fields v x) s t
table_took s x t are e =
    let u = undo (version s) table_in (x, t) e in
    let v = u.0.0 in
    let one = version_takes.took s v u.0.1 are u.1 in
    let others = (table_rest v).rest u.0.1 x t one.are_bytes u.2 in
    let P : List Field → Type 0 = λ fs. Took fs s t in
    (v, subst P others.2 (took_more (version_field v ∷ []) others.0 s u.0.1 t one others.1))

-- ---- whole images

pub read-image : (v : Version) (t : NodeTable) (image : List ℕ) → ImageIn v t image → read image ≡ Ok t
read-image v t image is =
    let back = (table_back v t is.ranges).reads 0 [] in
    let all : table (record { at = 0; bytes = image }) ≡ Ok (t, record { at = back.0; bytes = [] }) =
    ap (λ (bs : List ℕ). table (record { at = 0; bytes = bs })) (is.fields ∙ sym (append-nil (bytes (table_fields v t)))) ∙ back.1 in
    ap whole all

-- the table's image in some version
abbrev IsImage : NodeTable → List ℕ → Type 0
IsImage t image = Image t image ⊎ OldImage t image

of_version : (v : Version) (t : NodeTable) (image : List ℕ) → ImageIn v t image → IsImage t image
of_version First t image is = inr is
of_version Second t image is = inl is

whole_image : (image : List ℕ) → AreBytes image → (t : NodeTable) (r : Result (NodeTable × Left) ImageFault) → table (record { at = 0; bytes = image }) ≡ r → whole r ≡ Ok t → IsImage t image
whole_image image are t (Err fault) e w = let fails : Result NodeTable ImageFault = Err fault in let bad : fails ≡ Ok t = w in absurd cc
whole_image image are t (Ok g) e w =
    elim (cases_Bool (eqb (length g.1.bytes) 0)) [
      | inl done ↦
          let both : Ok g.0 ≡ Ok t = sym (cond-true _ _ _ done) ∙ w in
          let same : g.0 ≡ t = cc in
          let a = table_took (record { at = 0; bytes = image }) g.0 g.1 are e in
          let P : NodeTable → Type 0 = λ x. ImageIn a.0 x image in
          let none : g.1.bytes ≡ [] = empty g.1.bytes (eqb-true _ _ done) in
          of_version a.0 t image
          (subst P same (record { ranges = a.1.ranges; fields = a.1.split ∙ ap (λ (bs : List ℕ). bytes (table_fields a.0 g.0) ++ bs) none ∙ append-nil (bytes (table_fields a.0 g.0)) }))
      | inr more ↦ let fails : Result NodeTable ImageFault = Err faults.Trailing in let bad : fails ≡ Ok t = sym (cond-false _ _ _ more) ∙ w in absurd cc
    ]
  where
    empty : (bs : List ℕ) → length bs ≡ 0 → bs ≡ []
    empty [] none = refl
    empty (b ∷ bs) none = absurd (omega arith)

pub image-read : (image : List ℕ) → AreBytes image → (t : NodeTable) → read image ≡ Ok t → Image t image ⊎ OldImage t image
image-read image are t e = whole_image image are t (table (record { at = 0; bytes = image })) refl e

-- ---- what version 1 has in range, version 2 has

each_wider : {X : Type 0} (fs gs : X → List Field) → ((x : X) → AreInRange (fs x) → AreInRange (gs x)) → (xs : List X) → AreInRange (flat_map fs xs) → AreInRange (flat_map gs xs)
each_wider fs gs wider [] r = tt
each_wider fs gs wider (x ∷ xs) r =
    ranges-append (gs x) (flat_map gs xs) (wider x (ranges_front (fs x) (flat_map fs xs) r)) (each_wider fs gs wider xs (ranges_rest (fs x) (flat_map fs xs) r))

slot_wider : (s : OwnSlot) → AreInRange (slot_fields First s) → AreInRange (slot_fields Second s)
slot_wider s r = (r.0, (r.1.0, (r.1.1.0, ((omega (arith, r.1.1.1.0), omega (arith, r.1.1.1.0)), tt))))

round_wider : (r : OwnRound) → AreInRange (round_fields First r) → AreInRange (round_fields Second r)
round_wider r h = (h.0, (h.1.0, each_wider (slot_fields First) (slot_fields Second) slot_wider r.slots h.1.1))

mode_wider : (m : ModeTable) → AreInRange (mode_fields First m) → AreInRange (mode_fields Second m)
mode_wider m r =
    let tasks = flat_map task_fields m.tasks in
    let messages = flat_map message_fields m.messages in
    let old = flat_map (round_fields First) m.rounds in
    let new = flat_map (round_fields Second) m.rounds in
    let count = Short 0 64 (length m.messages) in
    let front = ranges_front tasks (count ∷ (messages ++ old)) r.1.1.1.1 in
    let others = ranges_rest tasks (count ∷ (messages ++ old)) r.1.1.1.1 in
    let rounds = each_wider (round_fields First) (round_fields Second) round_wider m.rounds (ranges_rest messages old others.1) in
    let behind = ranges-append messages new (ranges_front messages old others.1) rounds in
    (r.0, (r.1.0, (r.1.1.0, (r.1.1.1.0, ranges-append tasks (count ∷ (messages ++ new)) front (others.0, behind)))))

pub table_wider : (t : NodeTable) → AreInRange (table_fields First t) → IsInRange t
table_wider t r = ((omega arith, omega arith), (r.1.0, (r.1.1.0, each_wider (mode_fields First) (mode_fields Second) mode_wider t.modes r.1.1.1)))

pub in_range-read : (image : List ℕ) → AreBytes image → (t : NodeTable) → read image ≡ Ok t → IsInRange t
in_range-read image are t e = by_version (image-read image are t e)
  where
    by_version : IsImage t image → IsInRange t
    by_version (inl is) = is.ranges
    by_version (inr is) = table_wider t is.ranges

-- ---- what `read_image` answers

read-some : (image : List ℕ) (t : NodeTable) → IsImage t image → read image ≡ Ok t
read-some image t (inl is) = read-image Second t image is
read-some image t (inr is) = read-image First t image is

no_image : (image : List ℕ) (t : NodeTable) (fault : ImageFault) → IsImage t image → read image ≡ Err fault → ⊥
no_image image t fault is e = let good : Result NodeTable ImageFault = Ok t in let bad : good ≡ Err fault = sym (read-some image t is) ∙ e in cc

pub only_image : (image : List ℕ) (r : Result NodeTable ImageFault) → IfOk r (λ t. read image ≡ Ok t) → IfErr r (λ fault. fault ≢ faults.Memory → read image ≡ Err fault) →
    (t : NodeTable) → Image t image ⊎ OldImage t image → (r ≡ Ok t) ⊎ (r ≡ Err faults.Memory)
only_image image (Ok x) ok err t is = inl (sym ok ∙ read-some image t is)
only_image image (Err faults.Memory) ok err t is = inr refl
only_image image (Err faults.Short) ok err t is = absurd (no_image image t faults.Short is (err (λ e. cc)))
only_image image (Err (faults.Range at)) ok err t is = absurd (no_image image t (faults.Range at) is (err (λ e. cc)))
only_image image (Err faults.Trailing) ok err t is = absurd (no_image image t faults.Trailing is (err (λ e. cc)))
