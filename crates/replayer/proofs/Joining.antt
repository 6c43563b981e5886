-- The texts of a line, one behind the other.
use Rattle.std.proofs.Common.{◌≡◌, ℕ, List, [], ◌++◌, Option, Result, sym, ap, ◌∙◌, append_assoc, append-nil, subst}
use Rattle.std.specs.Prelude.{IsErr}
use Rattle.ttw_io.specs.Buffering.{HasPut, HeldBack, Passes, Puts}
use Rattle.ttw_io.specs.Outside.{AddsFront}
use Rattle.ttw_io.proofs.BufferLemmas.{Passes-AddsFront, front_longer, front_same, front_then, has_put_front, has_put_same, has_put_then, puts_then}

-- ---- a head, a middle and a last text, which are the whole

-- a head that is the same text
pub headed : (head words mid last whole : List ℕ) → head ≡ words → (words ++ mid) ++ last ≡ whole → (head ++ mid) ++ last ≡ whole
headed head words mid last whole e f = ap (λ (h : List ℕ). (h ++ mid) ++ last) e ∙ f

pub three : {A E : Type 0} (r : Result A E) (old first second new : Option (List ℕ)) (b0 b1 b2 b3 : HeldBack) (head mid last whole : List ℕ) →
    b1.room ≡ b0.room → Puts old first b0 b1 head → b2.room ≡ b1.room → Puts first second b1 b2 mid → HasPut r second new b2 b3 last →
    (head ++ mid) ++ last ≡ whole → HasPut r old new b0 b3 whole
three r old first second new b0 b1 b2 b3 head mid last whole room1 puts1 room2 puts2 has e =
    has_put_same r old new b0 b3 ((head ++ mid) ++ last) whole e
    (has_put_then r old second new b0 b2 b3 (head ++ mid) last (room2 ∙ room1) (puts_then old first second b0 b1 b2 head mid room1 puts1 puts2) has)

pub mid_fails : {A E : Type 0} (r : Result A E) (old first new : Option (List ℕ)) (b0 b1 b2 : HeldBack) (head mid last whole : List ℕ) → IsErr r →
    b1.room ≡ b0.room → Puts old first b0 b1 head → b2.room ≡ b1.room → AddsFront first new (b1.bytes ++ mid) →
    (head ++ mid) ++ last ≡ whole → HasPut r old new b0 b2 whole
mid_fails r old first new b0 b1 b2 head mid last whole fails room1 puts room2 front e =
    has_put_front r old new b0 b2 whole fails (room2 ∙ room1)
    (front_same old new b0.bytes ((head ++ mid) ++ last) whole e (front_longer old new b0.bytes (head ++ mid) last (front_then old first new b0 b1 head mid puts front)))

pub head_fails : {A E : Type 0} (r : Result A E) (old new : Option (List ℕ)) (b0 b1 : HeldBack) (head mid last whole : List ℕ) → IsErr r →
    b1.room ≡ b0.room → AddsFront old new (b0.bytes ++ head) → (head ++ mid) ++ last ≡ whole → HasPut r old new b0 b1 whole
head_fails r old new b0 b1 head mid last whole fails room front e =
    has_put_front r old new b0 b1 whole fails room
    (front_same old new b0.bytes (head ++ (mid ++ last)) whole (sym (append_assoc head mid last) ∙ e) (front_longer old new b0.bytes head (mid ++ last) front))

-- all passes, and then a front of what is left
pub front_rest : (old mid new : Option (List ℕ)) (all between : List ℕ) → Passes old mid all between → AddsFront mid new between → AddsFront old new all
front_rest old mid new all between passed front =
    let P : List ℕ → Type 0 = λ ys. AddsFront old new ys in
    let Q : List ℕ → Type 0 = λ ys. AddsFront mid new ys in
    subst P (append-nil all) (Passes-AddsFront old mid new all between [] passed (subst Q (sym (append-nil between)) front))
