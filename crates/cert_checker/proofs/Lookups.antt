-- The number of the message of a name
use Rattle.std.proofs.Common.{◌≡◌, ℕ, suc, ◌+◌, ◌<◌, Bool, true, false, cond, List, [], ◌∷◌, ◌++◌, length, get_or, map, All, refl, sym, ap, subst, ◌∙◌, arith, append_assoc}
use Rattle.std.specs.Prelude.{Option, Some, None, unwrap_or, position, find, ◌&&◌}
use Rattle.std.specs.List.{list_any, list_all, position_or_len}
use Rattle.std.specs.Str.{bytes_eq}
use Rattle.std.proofs.lemmas.Bool.{lt-ltb}
use Rattle.std.proofs.lemmas.List.{length-map, get_or-map}
use Rattle.std.proofs.lemmas.List.Elements.{All-append, All-cons, All-nil}
use Rattle.app_graph.specs.declared.mode_set.ModeSet.{ModeSet}
use Rattle.app_graph.specs.declared.mode_set.Message.{Message}
use Rattle.app_graph.specs.declared.mode_set.App.{App}
use Rattle.sched_model.specs.PlainMode.{no_message, tasks_of, plain_messages, mode_at, message_at}
use Rattle.sched_model.specs.RightSchedule.{IsMessage}
use Rattle.proof_tree.specs.Accepting.{is_message, number_of}
use Rattle.proof_tree.specs.Names.{messages_in}
use Rattle.proof_tree.proofs.DistinctNames.{name, number, plain_number, plain_numbers}
use Rattle.cert_checker.specs.DraftReading.{doc_at}

-- the message of this name, among these
abbrev pub named : List ℕ → List Message → Option Message
named nm ms = find (λ message. bytes_eq nm message.name) ms

record FoundAt (nm : List ℕ) (ms : List Message) (n : ℕ) : Type 0 where
  known : list_any (bytes_eq nm) (map name ms) ≡ true
  place : position_or_len (bytes_eq nm) (map name ms) < length ms
  number_is : get_or (map number ms) (position_or_len (bytes_eq nm) (map name ms)) 0 ≡ n

no_message_named : (m : Message) → ◌≡◌ {A = Option Message} None (Some m) → ⊥
no_message_named m e = absurd cc

one_message : (x m : Message) → Some x ≡ Some m → x ≡ m
one_message x m e = cc

found_at : (nm : List ℕ) (ms : List Message) (m : Message) → named nm ms ≡ Some m → FoundAt nm ms m.number
found_at nm [] m e = absurd (no_message_named m e)
found_at nm (x ∷ ms) m e = here (bytes_eq nm x.name) refl (λ f. found_at nm ms m f) e
  where
    here : (b : Bool) → bytes_eq nm x.name ≡ b → (named nm ms ≡ Some m → FoundAt nm ms m.number) → cond b (Some x) (named nm ms) ≡ Some m → FoundAt nm (x ∷ ms) m.number
    here true is more f = record { known = rw is refl; place = rw is (omega arith); number_is = rw is (ap number (one_message x m f)) }
    here false is more f = let r = more f in record { known = rw is r.known; place = rw is (omega (arith, r.place)); number_is = rw is (shifted _ m.number r.number_is) }
      where
        shifted : (i n : ℕ) → get_or (map number ms) i 0 ≡ n → get_or (map number (x ∷ ms)) (1 + i) 0 ≡ n
        shifted i n h = let o : 1 + i ≡ suc i = omega arith in ap (λ k. get_or (map number (x ∷ ms)) k 0) o ∙ h

lost : (nm : List ℕ) (ms : List Message) → named nm ms ≡ None → list_any (bytes_eq nm) (map name ms) ≡ false
lost nm [] e = refl
lost nm (x ∷ ms) e = here (bytes_eq nm x.name) refl (λ f. lost nm ms f) e
  where
    some_message : (m : Message) → ◌≡◌ {A = Option Message} (Some m) None → ⊥
    some_message m e = absurd cc

    here : (b : Bool) → bytes_eq nm x.name ≡ b → (named nm ms ≡ None → list_any (bytes_eq nm) (map name ms) ≡ false) → cond b (Some x) (named nm ms) ≡ None → list_any (bytes_eq nm) (map name (x ∷ ms)) ≡ false
    here true is more f = absurd (some_message x f)
    here false is more f = rw is (more f)

module _ (set : ModeSet) (mode : ℕ) where
  abbrev apps : List App
  apps = (mode_at set mode).apps

  pub none_named : (nm : List ℕ) → named nm (messages_in (mode_at set mode).apps) ≡ None → is_message (doc_at set mode) nm ≡ false
  none_named nm e = lost nm (messages_in apps) e

  -- the number of a message of the mode that has this name
  pub record IsNumbered (nm : List ℕ) (n : ℕ) : Type 0 where
    pub known : is_message (doc_at set mode) nm ≡ true
    pub number_is : n ≡ number_of (doc_at set mode) nm
    pub stands : IsMessage (doc_at set mode).mode n

  pub one_named : (nm : List ℕ) (m : Message) → named nm (messages_in (mode_at set mode).apps) ≡ Some m → IsNumbered nm m.number
  one_named nm m e =
      let ms = messages_in apps in
      let f = found_at nm ms m e in
      let i = position_or_len (bytes_eq nm) (map name ms) in
      let plain = plain_messages (tasks_of 0 apps) apps in
      let numbers : map plain_number plain ≡ map number ms = plain_numbers (tasks_of 0 apps) apps in
      let many : length plain ≡ length ms = sym (length-map plain plain_number) ∙ ap (λ (l : List ℕ). length l) numbers ∙ length-map ms number in
      let within : i < length plain = omega (arith, f.place, many) in
      let here : i < length (map name ms) = omega (arith, f.place, length-map ms name) in
      let at : position (bytes_eq nm) (map name ms) ≡ Some i = ap (λ b. cond b (Some i) None) (lt-ltb i (length (map name ms)) here) in
      let value : (get_or plain i no_message).number ≡ m.number = sym (get_or-map plain_number plain i no_message 0 within) ∙ ap (λ (l : List ℕ). get_or l i 0) numbers ∙ f.number_is in
      record {
        known = f.known;
        number_is = sym (ap (λ (o : Option ℕ). (message_at (doc_at set mode).mode (unwrap_or o 0)).number) at ∙ value);
        stands = (i, omega (arith, within, length-map plain plain_number), get_or-map plain_number plain i no_message m.number within ∙ value);
      }

-- ---- the numbers of several names

-- what was found of the names so far, and what is still to be found
pub record Numbered (set : ModeSet) (mode : ℕ) (names left : List (List ℕ)) (numbers : List ℕ) : Type 0 where
  pub known : list_all (is_message (doc_at set mode)) left ≡ list_all (is_message (doc_at set mode)) names
  pub numbers_are : numbers ++ map (number_of (doc_at set mode)) left ≡ map (number_of (doc_at set mode)) names
  pub stand : All (IsMessage (doc_at set mode).mode) numbers

pub number_more : (set : ModeSet) (mode : ℕ) (names left rest : List (List ℕ)) (numbers new : List ℕ) (nm : List ℕ) (n : ℕ) → Numbered set mode names left numbers → left ≡ nm ∷ rest
    → is_message (doc_at set mode) nm ≡ true → n ≡ number_of (doc_at set mode) nm → IsMessage (doc_at set mode).mode n → new ≡ numbers ++ n ∷ [] → Numbered set mode names rest new
number_more set mode names left rest numbers new nm n w e known is stands en =
    let d = doc_at set mode in
    let all : List (List ℕ) → Bool = λ l. list_all (is_message d) l in
    record {
      known = sym (ap (λ b. b && all rest) known) ∙ sym (ap all e) ∙ w.known;
      numbers_are =
          ap (λ (l : List ℕ). l ++ map (number_of d) rest) en ∙ append_assoc numbers (n ∷ []) (map (number_of d) rest)
          ∙ ap (λ k. numbers ++ k ∷ map (number_of d) rest) is ∙ sym (ap (λ (l : List (List ℕ)). numbers ++ map (number_of d) l) e) ∙ w.numbers_are;
      stand = subst (λ (l : List ℕ). All (IsMessage d.mode) l) (sym en) (All-append (IsMessage d.mode) numbers (n ∷ []) w.stand (All-cons (IsMessage d.mode) n [] stands (All-nil (IsMessage d.mode))));
    }
