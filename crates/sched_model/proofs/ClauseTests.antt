-- The tests of single tasks and messages
use Rattle.std.proofs.Common.{◌≡◌, ℕ, ◌+◌, ◌<◌, ◌≤◌, Bool, true, false, leb, ltb, ◌↔◌, IsTrue, length, Contains, arith, ap, pos, ◌+ℤ◌, ◌≤ℤ◌}
use Rattle.std.proofs.lemmas.Bool.{both_ways, ltb-true, lt-ltb}
use Rattle.sched_model.specs.declared.schedule.Schedule.{Schedule}
use Rattle.sched_model.specs.Numbers.{has}
use Rattle.sched_model.specs.PlainMode.{PlainMode, task_at, message_at}
use Rattle.sched_model.specs.TaskGraph.{first, last, Reaches}
use Rattle.sched_model.specs.Rounds.{task_start, opens, closes}
use Rattle.sched_model.specs.RightSchedule.{OffsetFits, MessageFits, ChainFits}
use Rattle.sched_model.specs.Judged.{SenderFits, TakerFits, ChainsTo}
use Rattle.sched_model.specs.ValidMode.{IsValid}
use Rattle.sched_model.proofs.Graph.{has_contains, contains_has, message_edge, reached, reaches_walk}
use Rattle.sched_model.proofs.Passing.{holds_so, fails_so}
use Rattle.sched_model.proofs.TimeTests.{le_test, lt_test, le_is, le_from, later}

module _ (m : PlainMode) (s : Schedule) where
  -- ---- offsets
  pub no_first : (a : ℕ) → pos 0 ≤ℤ task_start s a → first m a ≡ false → IsTrue true ↔ OffsetFits m s a
  no_first a z lacks = holds_so (OffsetFits m s a) (record { from_zero = z; early = λ holds. absurd (both_ways (first m a) lacks holds) })

  pub first_task : (a x p : ℕ) → pos 0 ≤ℤ task_start s a → first m a ≡ true → pos x ≡ task_start s a → p ≡ (task_at m a).period → IsTrue (ltb x p) ↔ OffsetFits m s a
  first_task a x p z holds e q =
      let t = lt_test x p (task_start s a) (pos (task_at m a).period) e (ap (λ (n : ℕ). pos n) q) in
      (λ h. record { from_zero = z; early = λ y. t.0 h }, λ f. t.1 (f.early holds))

  -- ---- producers
  pub no_sender : (i a : ℕ) → has (message_at m i).from a ≡ false → IsTrue true ↔ SenderFits m s i a
  no_sender i a lacks = holds_so (SenderFits m s i a) (record { sent = λ holds. absurd (both_ways (has (message_at m i).from a) lacks holds); kept = λ holds. absurd (both_ways (has (message_at m i).from a) lacks holds) })

  pub sender_late : (i a x e o : ℕ) → has (message_at m i).from a ≡ true → pos x ≡ task_start s a → e ≡ (task_at m a).wcet → pos o ≡ opens s i → o < x + e → IsTrue false ↔ SenderFits m s i a
  sender_late i a x e o holds p q r l = fails_so (SenderFits m s i a) (λ f.
      let h = le_from (x + e) o (task_start s a +ℤ pos (task_at m a).wcet) (opens s i) (later x e (task_at m a).wcet (task_start s a) p q) r (f.sent holds) in omega (arith, h, l))

  pub sender_last : (i a x e o k d : ℕ) → has (message_at m i).from a ≡ true → pos x ≡ task_start s a → e ≡ (task_at m a).wcet → pos o ≡ opens s i → x + e ≤ o
      → pos k ≡ closes s i → d ≡ (message_at m i).period → IsTrue (leb k (x + e + d)) ↔ SenderFits m s i a
  sender_last i a x e o k d holds p q r l c u =
      let end = later x e (task_at m a).wcet (task_start s a) p q in
      let t = le_test k (x + e + d) (closes s i) _ c (later (x + e) d (message_at m i).period (task_start s a +ℤ pos (task_at m a).wcet) end u) in (
        λ h. record { sent = λ y. le_is (x + e) o _ (opens s i) end r l; kept = λ y. t.0 h },
        λ f. t.1 (f.kept holds),
      )

  -- ---- consumers
  pub no_taker : (i b : ℕ) → has (message_at m i).to b ≡ false → IsTrue true ↔ TakerFits m s i b
  no_taker i b lacks = holds_so (TakerFits m s i b) (record { taken = λ holds. absurd (both_ways (has (message_at m i).to b) lacks holds); next = λ holds. absurd (both_ways (has (message_at m i).to b) lacks holds) })

  pub taker_early : (i b x k : ℕ) → has (message_at m i).to b ≡ true → pos x ≡ task_start s b → pos k ≡ closes s i → x < k → IsTrue false ↔ TakerFits m s i b
  taker_early i b x k holds p c l = fails_so (TakerFits m s i b) (λ f. let h = le_from k x (closes s i) (task_start s b) c p (f.taken holds) in omega (arith, h, l))

  pub taker_last : (i b x o k d : ℕ) → has (message_at m i).to b ≡ true → pos x ≡ task_start s b → pos k ≡ closes s i → k ≤ x → pos o ≡ opens s i → d ≡ (message_at m i).period
      → IsTrue (ltb x (o + d)) ↔ TakerFits m s i b
  taker_last i b x o k d holds p c l r u =
      let t = lt_test x (o + d) (task_start s b) _ p (later o d (message_at m i).period (opens s i) r u) in
      (λ h. record { taken = λ y. le_is k x (closes s i) (task_start s b) c p l; next = λ y. t.0 h }, λ f. t.1 (f.next holds))

  -- ---- windows
  pub window_empty : (i o k : ℕ) → pos o ≡ opens s i → pos k ≡ closes s i → k ≤ o → IsTrue false ↔ MessageFits m s i
  window_empty i o k r c l = fails_so (MessageFits m s i) (λ f. let h = ltb-true o k ((lt_test o k (opens s i) (closes s i) r c).1 f.lasts) in omega (arith, h, l))

  module _ (ok : IsValid m) (i : ℕ) (l : i < length m.messages) where
    sender_low : (a : ℕ) → Contains (message_at m i).from a → a < length m.tasks
    sender_low a c = let b = ok.consumer i l in (ok.edges a b.0 (message_edge m i a b.0 l c b.1)).from

    taker_low : (b : ℕ) → Contains (message_at m i).to b → b < length m.tasks
    taker_low b c = let a = ok.producer i l in (ok.edges a.0 b (message_edge m i a.0 b l a.1 c)).to

    pub senders_of : MessageFits m s i → (a : ℕ) → a < length m.tasks → SenderFits m s i a
    senders_of f a h = record { sent = λ holds. f.sent a (has_contains _ a holds); kept = λ holds. f.kept a (has_contains _ a holds) }

    pub window_whole : (o k : ℕ) (b : Bool) → pos o ≡ opens s i → pos k ≡ closes s i → o < k → ((a : ℕ) → a < length m.tasks → SenderFits m s i a)
        → (IsTrue b ↔ ((a : ℕ) → a < length m.tasks → TakerFits m s i a)) → IsTrue b ↔ MessageFits m s i
    window_whole o k b r c le senders t = (
      λ h. record {
        sent = λ a x. (senders a (sender_low a x)).sent (contains_has _ a x);
        kept = λ a x. (senders a (sender_low a x)).kept (contains_has _ a x);
        lasts = (lt_test o k (opens s i) (closes s i) r c).0 (lt-ltb o k le);
        taken = λ a x. (t.0 h a (taker_low a x)).taken (contains_has _ a x);
        next = λ a x. (t.0 h a (taker_low a x)).next (contains_has _ a x);
      },
      λ f. t.1 (λ a x. record { taken = λ holds. f.taken a (has_contains _ a holds); next = λ holds. f.next a (has_contains _ a holds) }),
    )

  -- ---- chains
  pub chain_last : (f l x e y d : ℕ) → pos x ≡ task_start s l → e ≡ (task_at m l).wcet → pos y ≡ task_start s f → d ≡ (task_at m f).deadline → IsTrue (leb (x + e) (y + d)) ↔ ChainFits m s f l
  chain_last f l x e y d p q r u = le_test (x + e) (y + d) _ _ (later x e (task_at m l).wcet (task_start s l) p q) (later y d (task_at m f).deadline (task_start s f) r u)

  pub chains_are : IsValid m → (((l : ℕ) → l < length m.tasks → last m l ≡ true → ChainsTo m s l) →
      (f l : ℕ) → f < length m.tasks → l < length m.tasks → first m f ≡ true → last m l ≡ true → Reaches m f l → ChainFits m s f l)
      × (((f l : ℕ) → f < length m.tasks → l < length m.tasks → first m f ≡ true → last m l ≡ true → Reaches m f l → ChainFits m s f l) →
      (l : ℕ) → l < length m.tasks → last m l ≡ true → ChainsTo m s l)
  chains_are ok = (
    λ h f l lf ll a b r. h l ll b f lf a (reached m ok f l ll r),
    λ h l ll b f lf a e. h f l lf ll a b (reaches_walk m (length m.tasks) f l e),
  )
