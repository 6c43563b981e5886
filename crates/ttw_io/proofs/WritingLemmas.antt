-- A text that is written from its front on, piece by piece.
use Rattle.std.proofs.Common.{◌≡◌, ℕ, ◌+◌, ◌≤◌, List, [], ◌++◌, length, take, drop, Option, Some, None, refl, sym, ap, ◌∙◌, append_assoc}
use Rattle.std.proofs.Math.Seq.{take-add}
use Rattle.std.proofs.lemmas.List.{take_all, append-nil}
use Rattle.std.specs.Io.KnownBytes.{append_known}

pub append_known-append_known : (known : Option (List ℕ)) (a b : List ℕ) → append_known (append_known known a) b ≡ append_known known (a ++ b)
append_known-append_known None a b = refl
append_known-append_known (Some xs) a b = ap (λ (ys : List ℕ). Some ys) (append_assoc xs a b)

pub append_known-nil : (known : Option (List ℕ)) → append_known known [] ≡ known
append_known-nil None = refl
append_known-nil (Some xs) = ap (λ (ys : List ℕ). Some ys) (append-nil xs)

-- after `done` bytes of the text, n more were added
pub added_more : (old mid new : Option (List ℕ)) (text : List ℕ) (done n : ℕ) → mid ≡ append_known old (take done text) → new ≡ append_known mid (take n (drop done text)) → new ≡ append_known old (take (done + n) text)
added_more old mid new text done n before more =
    more ∙ ap (λ (known : Option (List ℕ)). append_known known (take n (drop done text))) before ∙ append_known-append_known old (take done text) (take n (drop done text)) ∙ ap (append_known old) (sym (take-add done n text))

-- a prefix as long as the text is the text
pub added_all : (old new : Option (List ℕ)) (text : List ℕ) (done : ℕ) → length text ≤ done → new ≡ append_known old (take done text) → new ≡ append_known old text
added_all old new text done all added = added ∙ ap (append_known old) (take_all done text all)
