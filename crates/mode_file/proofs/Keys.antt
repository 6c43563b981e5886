-- The keys of a table, as a loop over it sees them.
use Rattle.std.proofs.Common.{◌≡◌, ℕ, List, [], ◌∷◌, map, ap, refl, Bor, String, string_bytes}
use Rattle.std.specs.Map.Iter.{deref_pair}
use Rattle.std.specs.declared.alloc.Global.{Global}
use Rattle.toml.specs.View.{members_view}
use Rattle.toml.specs.declared.value.Value.{Value}
use Rattle.mode_file.specs.Tables.{keys}

pub keys_shown : (xs : List (Bor (String Global) × Bor Value)) → map (λ e. string_bytes e.0.now) xs ≡ keys (members_view (map deref_pair xs))
keys_shown [] = refl
keys_shown (x ∷ xs) = ap (λ (ks : List (List ℕ)). string_bytes x.0.now ∷ ks) (keys_shown xs)
