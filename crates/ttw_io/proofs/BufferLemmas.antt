-- What passes a buffer, text after text.
use Rattle.std.proofs.Common.{◌≡◌, ℕ, ◌+◌, ◌<◌, ◌≤◌, List, [], ◌∷◌, ◌++◌, length, take, drop, get_or, Option, Result, Ok, Err, true, false, refl, sym, ap, ◌∙◌, append_assoc, arith, length-append, subst}
use Rattle.std.specs.Prelude.{IsErr, nat_le}
use Rattle.std.proofs.lemmas.Result.{on_ok_weaker, on_err_weaker}
use Rattle.std.proofs.lemmas.Bool.{cond-false, lt-leb}
use Rattle.std.proofs.Math.Seq.{take-append-add}
use Rattle.std.proofs.lemmas.Grind.{flat_map-append}
use Rattle.std.proofs.lemmas.List.{take-append-le, take-append-drop, append-nil, take_more}
use Rattle.std.specs.Io.KnownBytes.{append_known}
use Rattle.std.specs.List.{flat_map}
use Rattle.ttw_io.specs.Buffering.{HasPut, HeldBack, Passes, Puts, left, written}
use Rattle.ttw_io.specs.Outside.{AddsFront}
use Rattle.ttw_io.proofs.WritingLemmas.{append_known-append_known, append_known-nil}

-- nothing is written
pub passes_none : (old : Option (List ℕ)) (all : List ℕ) → Passes old old all all
passes_none old all = ([], refl, sym (append_known-nil old))

-- all is written
pub passes_all : (old new : Option (List ℕ)) (all rest : List ℕ) → new ≡ append_known old all → rest ≡ [] → Passes old new all rest
passes_all old new all rest added none = (all, sym (ap (λ (xs : List ℕ). all ++ xs) none ∙ append-nil all), added)

-- a text behind a front and a rest
behind : (all front rest text : List ℕ) → all ≡ front ++ rest → all ++ text ≡ front ++ (rest ++ text)
behind all front rest text e = ap (λ (xs : List ℕ). xs ++ text) e ∙ append_assoc front rest text

-- two texts, one behind the other
pub Passes-Passes : (old mid new : Option (List ℕ)) (all between text rest : List ℕ) → Passes old mid all between → Passes mid new (between ++ text) rest → Passes old new (all ++ text) rest
Passes-Passes old mid new all between text rest first second = (
  first.0 ++ second.0,
  behind all first.0 between text first.1 ∙ ap (λ (xs : List ℕ). first.0 ++ xs) second.1 ∙ sym (append_assoc first.0 second.0 rest),
  second.2 ∙ ap (λ (known : Option (List ℕ)). append_known known second.0) first.2 ∙ append_known-append_known old first.0 second.0,
)

-- a text passes, and then a front of what is left and of the next text is added
pub Passes-AddsFront : (old mid new : Option (List ℕ)) (all between text : List ℕ) → Passes old mid all between → AddsFront mid new (between ++ text) → AddsFront old new (all ++ text)
Passes-AddsFront old mid new all between text first second =
    let whole : all ++ text ≡ first.0 ++ (between ++ text) = behind all first.0 between text first.1 in (
      length first.0 + second.0,
      omega (arith, second.1, ap length whole, length-append first.0 (between ++ text)),
      second.2
          ∙ ap (λ (known : Option (List ℕ)). append_known known (take second.0 (between ++ text))) first.2
          ∙ append_known-append_known old first.0 (take second.0 (between ++ text))
          ∙ ap (append_known old) (sym (ap (take (length first.0 + second.0)) whole ∙ take-append-add first.0 (between ++ text) second.0)),
    )

-- a front of a text is one of a longer text
pub AddsFront-append : (old new : Option (List ℕ)) (all more : List ℕ) → AddsFront old new all → AddsFront old new (all ++ more)
AddsFront-append old new all more front =
    (front.0, omega (arith, length-append all more, front.1), front.2 ∙ ap (append_known old) (sym (take-append-le front.0 all more front.1)))

-- ---- texts behind what is held back

-- the same text
pub puts_same : (old new : Option (List ℕ)) (before after : HeldBack) (text whole : List ℕ) → text ≡ whole → Puts old new before after text → Puts old new before after whole
puts_same old new before after text whole e puts = subst (Puts old new before after) e puts

pub front_same : (old new : Option (List ℕ)) (start text whole : List ℕ) → text ≡ whole → AddsFront old new (start ++ text) → AddsFront old new (start ++ whole)
front_same old new start text whole e front = let P : List ℕ → Type 0 = λ ys. AddsFront old new (start ++ ys) in subst P e front

-- no text
pub puts_none : (held : Option (List ℕ)) (b : HeldBack) → Puts held held b b []
puts_none held b = record {
  passed = ([], append-nil b.bytes, sym (append_known-nil held));
  held = λ fits. sym (append-nil b.bytes);
}

-- a text and the next
pub puts_then : (old mid new : Option (List ℕ)) (before between after : HeldBack) (text next : List ℕ) → between.room ≡ before.room →
    Puts old mid before between text → Puts mid new between after next → Puts old new before after (text ++ next)
puts_then old mid new before between after text next room first second =
    let both = Passes-Passes old mid new (before.bytes ++ text) between.bytes next after.bytes first.passed second.passed in
    let length_both = length-append text next in
    record {
      passed = (both.0, sym (append_assoc before.bytes text next) ∙ both.1, both.2);
      held = λ fits.
          let one = first.held (omega (arith, fits, length_both)) in
          second.held (omega (arith, fits, length_both, ap length one, length-append before.bytes text, room)) ∙ ap (λ (xs : List ℕ). xs ++ next) one ∙ append_assoc before.bytes text next;
    }

-- a text, and a front of the next
pub front_then : (old mid new : Option (List ℕ)) (before between : HeldBack) (text next : List ℕ) → Puts old mid before between text → AddsFront mid new (between.bytes ++ next) → AddsFront old new (before.bytes ++ (text ++ next))
front_then old mid new before between text next first second =
    let P : List ℕ → Type 0 = λ ys. AddsFront old new ys in
    subst P (append_assoc before.bytes text next) (Passes-AddsFront old mid new (before.bytes ++ text) between.bytes next first.passed second)

-- a front of a text with more behind it
pub front_longer : (old new : Option (List ℕ)) (start text more : List ℕ) → AddsFront old new (start ++ text) → AddsFront old new (start ++ (text ++ more))
front_longer old new start text more front =
    let P : List ℕ → Type 0 = λ ys. AddsFront old new ys in
    subst P (append_assoc start text more) (AddsFront-append old new (start ++ text) more front)

-- ---- answers of calls that put

-- the same text
pub has_put_same : {A E : Type 0} (r : Result A E) (old new : Option (List ℕ)) (before after : HeldBack) (text whole : List ℕ) → text ≡ whole → HasPut r old new before after text → HasPut r old new before after whole
has_put_same r old new before after text whole e has = subst (HasPut r old new before after) e has

-- a text, and the answer to the next
pub has_put_then : {A E : Type 0} (r : Result A E) (old mid new : Option (List ℕ)) (before between after : HeldBack) (text next : List ℕ) → between.room ≡ before.room →
    Puts old mid before between text → HasPut r mid new between after next → HasPut r old new before after (text ++ next)
has_put_then r old mid new before between after text next room first second = record {
  ok = on_ok_weaker r (puts_then old mid new before between after text next room first) second.ok;
  err = on_err_weaker r (front_then old mid new before between text next first) second.err;
  room = second.room ∙ room;
}

-- a call that failed with a front
pub has_put_front : {A E : Type 0} (r : Result A E) (old new : Option (List ℕ)) (before after : HeldBack) (text : List ℕ) → IsErr r → after.room ≡ before.room → AddsFront old new (before.bytes ++ text) → HasPut r old new before after text
has_put_front (Ok x) old new before after text e room front = absurd (false_is_true e)
  where
    false_is_true : false ≡ true → ⊥
    false_is_true e = grind (arith, e)
has_put_front (Err x) old new before after text e room front = record { ok = tt; err = front; room = room }

-- ---- a text that is longer than the room

-- all is written
pub puts_through : (old mid new : Option (List ℕ)) (before after : HeldBack) (text : List ℕ) → before.room < length text →
    mid ≡ append_known old before.bytes → new ≡ append_known mid text → after.bytes ≡ [] → Puts old new before after text
puts_through old mid new before after text long first second none = record {
  passed = Passes-Passes old mid new before.bytes [] text after.bytes (passes_all old mid before.bytes [] first refl) (passes_all mid new text after.bytes second none);
  held = λ fits. absurd (omega (arith, long, fits));
}

pub front_through : (old mid new : Option (List ℕ)) (bytes text : List ℕ) → mid ≡ append_known old bytes → AddsFront mid new text → AddsFront old new (bytes ++ text)
front_through old mid new bytes text first front = Passes-AddsFront old mid new bytes [] text (passes_all old mid bytes [] first refl) front

pub written_through : (b : HeldBack) (text : List ℕ) → b.room < length text → b.bytes ++ text ≡ written b text
written_through b text long =
    sym (cond-false (nat_le (length b.bytes + length text) b.room) [] _ (lt-leb _ _ (omega (arith, long))) ∙ cond-false (nat_le (length text) b.room) b.bytes (b.bytes ++ text) (lt-leb _ _ long))

pub left_through : (b : HeldBack) (text : List ℕ) → b.room < length text → left b text ≡ []
left_through b text long =
    cond-false (nat_le (length b.bytes + length text) b.room) (b.bytes ++ text) _ (lt-leb _ _ (omega (arith, long))) ∙ cond-false (nat_le (length text) b.room) text [] (lt-leb _ _ long)

-- ---- the parts of a list, one after the other

-- what a loop that puts texts keeps
pub record Putting (old new : Option (List ℕ)) (before after : HeldBack) (faults now flushes flushed : ℕ) (text : List ℕ) : Type 0 where
  pub puts : Puts old new before after text
  pub room : after.room ≡ before.room
  pub counted : faults ≤ now
  pub same_flushes : flushed ≡ flushes

-- one part more
parts_more : {X : Type 0} (f : X → List ℕ) (xs : List X) (i : ℕ) (d : X) → i < length xs → flat_map f (take i xs) ++ f (get_or xs i d) ≡ flat_map f (take (i + 1) xs)
parts_more f xs i d within =
    sym (ap (flat_map f) (take_more xs i d within)
    ∙ flat_map-append f (take i xs) (get_or xs i d ∷ [])
    ∙ ap (λ (ys : List ℕ). flat_map f (take i xs) ++ ys) (append-nil (f (get_or xs i d))))

pub puts_more : {X : Type 0} (f : X → List ℕ) (old mid new : Option (List ℕ)) (before between after : HeldBack) (xs : List X) (i : ℕ) (d : X) → i < length xs → between.room ≡ before.room →
    Puts old mid before between (flat_map f (take i xs)) → Puts mid new between after (f (get_or xs i d)) → Puts old new before after (flat_map f (take (i + 1) xs))
puts_more f old mid new before between after xs i d within room first second =
    puts_same old new before after _ _ (parts_more f xs i d within) (puts_then old mid new before between after (flat_map f (take i xs)) (f (get_or xs i d)) room first second)

pub front_more : {X : Type 0} (f : X → List ℕ) (old mid new : Option (List ℕ)) (before between : HeldBack) (xs : List X) (i : ℕ) (d : X) → i < length xs →
    Puts old mid before between (flat_map f (take i xs)) → AddsFront mid new (between.bytes ++ f (get_or xs i d)) → AddsFront old new (before.bytes ++ flat_map f xs)
front_more f old mid new before between xs i d within first second =
    let n = i + 1 in
    let here = front_same old new before.bytes _ (flat_map f (take n xs)) (parts_more f xs i d within) (front_then old mid new before between (flat_map f (take i xs)) (f (get_or xs i d)) first second) in
    let whole : flat_map f (take n xs) ++ flat_map f (drop n xs) ≡ flat_map f xs = sym (ap (flat_map f) (sym (take-append-drop n xs)) ∙ flat_map-append f (take n xs) (drop n xs)) in
    front_same old new before.bytes _ (flat_map f xs) whole (front_longer old new before.bytes (flat_map f (take n xs)) (flat_map f (drop n xs)) here)
