-- A rule is kept or broken, and not both
use Rattle.std.proofs.Common.{◌≡◌, ℕ, List, Option, Some, None, ◌⊎◌, inl, inr, refl, sym, ◌∙◌}
use Rattle.std.proofs.lemmas.Option.{same_Some}
use Rattle.app_graph.specs.Numbering.{set_of}
use Rattle.mode_file.specs.Reading.{file_rules, raw_of, HasOneReading}

decided : {F : Type 0} (r : Option F) → (r ≡ None) ⊎ ((f : F) × (r ≡ Some f))
decided None = inl refl
decided (Some f) = inr (f, refl)

pub one_reading : (bytes : List ℕ) → HasOneReading bytes
one_reading bytes = record {
  some = elim (decided (file_rules bytes)) [
    | inl kept ↦ inl (set_of (raw_of bytes), (kept, refl))
    | inr broken ↦ inr (broken.0, broken.1)
  ];
  one_set = λ a b ra rb. ra.1 ∙ sym rb.1;
  one_fault = λ a b ba bb. same_Some a b (sym ba ∙ bb);
  not_both = λ set fault reads broken. let e : None ≡ Some fault = sym reads.0 ∙ broken in cc;
}
