-- The base list, constraint by constraint
use Rattle.std.proofs.Common.{◌≡◌, ℕ, ◌+◌, ◌-◌, ◌<◌, true, ◌&&◌, List, length, get_or, Contains, ℤ, pos, negsuc, ◌-ℤ◌, neg_ℤ}
use Rattle.std.specs.List.{AllByRecursion, flat_map}
use Rattle.std.proofs.lemmas.Bool.{and_parts, and_from}
use Rattle.std.proofs.lemmas.List.Elements.{recursion_from_All, All-from_recursion, All-contains, Contains-get_or}
use Rattle.tick_num.specs.declared.differences.Diff.{Diff}
use Rattle.sched_model.specs.PlainMode.{PlainMode, hyper, task_at, message_at}
use Rattle.sched_model.specs.Numbers.{below}
use Rattle.sched_model.specs.TaskGraph.{first, last, reaches}
use Rattle.tick_num.specs.Differences.{diff, Meets}
use Rattle.sched_model.specs.ConstraintProblem.{base, next_round, turn, of_task, of_producer, of_consumer, of_message, of_chain, of_first, task_var, opens_var, closes_var}
use Rattle.sched_model.proofs.Lists.{all_left, all_right, all_both, all_flat, flat_all, all_below, below_all, all_cond, cond_all}

-- each constraint has the property
pub record MessageEach (M : Diff → Type 0) (m : PlainMode) (r : ℕ) (i : ℕ) : Type 0 where
  pub from : (a : ℕ) → Contains (message_at m i).from a →
      M (diff (task_var r a) (opens_var m r i) (neg_ℤ (pos (task_at m a).wcet))) × M (diff (closes_var m r i) (task_var r a) (pos ((task_at m a).wcet + (message_at m i).period)))
  pub lasts : M (diff (opens_var m r i) (closes_var m r i) (negsuc 0))
  pub to : (b : ℕ) → Contains (message_at m i).to b →
      M (diff (closes_var m r i) (task_var r b) (pos 0)) × M (diff (task_var r b) (opens_var m r i) (pos (message_at m i).period -ℤ pos 1))

pub record BaseEach (M : Diff → Type 0) (m : PlainMode) (r : ℕ) : Type 0 where
  pub rounds : (j : ℕ) → j < r - 1 → M (diff j (j + 1) (neg_ℤ (pos m.round))) × M (diff (j + 1) j (pos m.gap))
  pub turn : M (diff (r - 1) 0 (pos (hyper m) -ℤ pos m.round)) × M (diff 0 (r - 1) (pos m.gap -ℤ pos (hyper m)))
  pub tasks : (a : ℕ) → a < length m.tasks → M (diff 0 (task_var r a) (pos 0)) × (first m a ≡ true → M (diff (task_var r a) 0 (pos (task_at m a).period -ℤ pos 1)))
  pub messages : (i : ℕ) → i < length m.messages → MessageEach M m r i
  pub deadlines : (f : ℕ) → f < length m.tasks → first m f ≡ true → (l : ℕ) → l < length m.tasks → last m l ≡ true → reaches m f l ≡ true →
      M (diff (task_var r l) (task_var r f) (pos (task_at m f).deadline -ℤ pos (task_at m l).wcet))

at_member : {X : Type 0} (P : X → Type 0) (xs : List X) → AllByRecursion P xs → (x : X) → Contains xs x → P x
at_member P xs h x c = All-contains P xs x (All-from_recursion P xs h) c

from_members : {X : Type 0} (P : X → Type 0) (xs : List X) → ((x : X) → Contains xs x → P x) → AllByRecursion P xs
from_members P xs h = recursion_from_All P xs (λ k d l. h (get_or xs k d) (Contains-get_or xs k d l))

message_facts : (M : Diff → Type 0) (m : PlainMode) (r i : ℕ) → AllByRecursion M (of_message m r i) → MessageEach M m r i
message_facts M m r i h =
    let msg = message_at m i in
    let senders = all_flat M (of_producer m r i) msg.from (all_left M (flat_map (of_producer m r i) msg.from) _ h) in
    let rest = all_right M (flat_map (of_producer m r i) msg.from) _ h in
    let takers = all_flat M (of_consumer m r i) msg.to rest.1 in
    record {
      from = λ a c. let x = at_member (λ a. AllByRecursion M (of_producer m r i a)) msg.from senders a c in (x.0, x.1.0);
      lasts = rest.0;
      to = λ b c. let x = at_member (λ b. AllByRecursion M (of_consumer m r i b)) msg.to takers b c in (x.0, x.1.0);
    }

message_all : (M : Diff → Type 0) (m : PlainMode) (r i : ℕ) → MessageEach M m r i → AllByRecursion M (of_message m r i)
message_all M m r i f =
    let msg = message_at m i in
    all_both M (flat_map (of_producer m r i) msg.from) _
    (flat_all M (of_producer m r i) msg.from (from_members (λ a. AllByRecursion M (of_producer m r i a)) msg.from (λ a c. let x = f.from a c in (x.0, (x.1, tt)))))
    (f.lasts, flat_all M (of_consumer m r i) msg.to (from_members (λ b. AllByRecursion M (of_consumer m r i b)) msg.to (λ b c. let x = f.to b c in (x.0, (x.1, tt)))))

pub each_of : (M : Diff → Type 0) (m : PlainMode) (r : ℕ) → AllByRecursion M (base m r) → BaseEach M m r
unfolding base
each_of M m r all =
    let n = length m.tasks in
    let h1 = all_left M (flat_map (next_round m) (below (r - 1))) _ all in
    let t1 = all_right M (flat_map (next_round m) (below (r - 1))) _ all in
    let h2 = all_left M (turn m r) _ t1 in
    let t2 = all_right M (turn m r) _ t1 in
    let h3 = all_left M (flat_map (of_task m r) (below n)) _ t2 in
    let t3 = all_right M (flat_map (of_task m r) (below n)) _ t2 in
    let h4 = all_left M (flat_map (of_message m r) (below (length m.messages))) _ t3 in
    let t4 = all_right M (flat_map (of_message m r) (below (length m.messages))) _ t3 in
    record {
      rounds = λ j l. let h = all_below (λ j. AllByRecursion M (next_round m j)) (r - 1) (all_flat M (next_round m) (below (r - 1)) h1) j l in (h.0, h.1.0);
      turn = (h2.0, h2.1.0);
      tasks = λ a l. let h = all_below (λ a. AllByRecursion M (of_task m r a)) n (all_flat M (of_task m r) (below n) h3) a l in (h.0, λ e. (all_cond M (first m a) _ h.1 e).0);
      messages = λ i l. message_facts M m r i (all_below (λ i. AllByRecursion M (of_message m r i)) (length m.messages) (all_flat M (of_message m r) (below (length m.messages)) h4) i l);
      deadlines = λ f lf ef l ll el er.
          let h = all_below (λ f. AllByRecursion M (of_first m r f)) n (all_flat M (of_first m r) (below n) t4) f lf in
          let k = all_below (λ l. AllByRecursion M (of_chain m r f l)) n (all_flat M (of_chain m r f) (below n) (all_cond M (first m f) _ h ef)) l ll in
          (all_cond M (last m l && reaches m f l) _ k (and_from (last m l) (reaches m f l) el er)).0;
    }

pub base_all : (M : Diff → Type 0) (m : PlainMode) (r : ℕ) → BaseEach M m r → AllByRecursion M (base m r)
unfolding base
base_all M m r f =
    let n = length m.tasks in
    all_both M (flat_map (next_round m) (below (r - 1))) _
    (flat_all M (next_round m) (below (r - 1)) (below_all (λ j. AllByRecursion M (next_round m j)) (r - 1) (λ j l. let x = f.rounds j l in (x.0, (x.1, tt)))))
    (all_both M (turn m r) _ (f.turn.0, (f.turn.1, tt))
    (all_both M (flat_map (of_task m r) (below n)) _
    (flat_all M (of_task m r) (below n) (below_all (λ a. AllByRecursion M (of_task m r a)) n (λ a l. let x = f.tasks a l in (x.0, cond_all M (first m a) _ (λ e. (x.1 e, tt))))))
    (all_both M (flat_map (of_message m r) (below (length m.messages))) _
    (flat_all M (of_message m r) (below (length m.messages)) (below_all (λ i. AllByRecursion M (of_message m r i)) (length m.messages) (λ i l. message_all M m r i (f.messages i l))))
    (flat_all M (of_first m r) (below n) (below_all (λ f'. AllByRecursion M (of_first m r f')) n (λ f' lf. cond_all M (first m f') _ (λ ef.
    flat_all M (of_chain m r f') (below n) (below_all (λ l. AllByRecursion M (of_chain m r f' l)) n (λ l ll. cond_all M (last m l && reaches m f' l) _ (λ e.
    let ab = and_parts (last m l) (reaches m f' l) e in (f.deadlines f' lf ef l ll ab.0 ab.1, tt)))))))))))

-- ---- values that meet the list
abbrev pub MessageFacts : PlainMode → ℕ → (ℕ → ℤ) → ℕ → Type 0
MessageFacts m r v i = MessageEach (Meets v) m r i

abbrev pub BaseFacts : PlainMode → ℕ → (ℕ → ℤ) → Type 0
BaseFacts m r v = BaseEach (Meets v) m r

pub facts_of : (m : PlainMode) (r : ℕ) (v : ℕ → ℤ) → AllByRecursion (Meets v) (base m r) → BaseFacts m r v
facts_of m r v h = each_of (Meets v) m r h

pub base_met : (m : PlainMode) (r : ℕ) (v : ℕ → ℤ) → BaseFacts m r v → AllByRecursion (Meets v) (base m r)
base_met m r v f = base_all (Meets v) m r f
