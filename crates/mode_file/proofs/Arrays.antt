-- The arrays of a table, beside the values that the code sees
use Rattle.std.proofs.Common.{◌≡◌, ℕ, ◌+◌, ◌<◌, List, [], ◌∷◌, ◌++◌, map, length, get_or, take, drop, Option, Some, None, is_some, refl, sym, ap, ◌∙◌}
use Rattle.std.specs.List.{list_all, filter_map}
use Rattle.std.proofs.lemmas.List.{append-nil, map-append, map_more, take-append-drop}
use Rattle.std.proofs.lemmas.List.Folds.{list_all-map}
use Rattle.std.proofs.lemmas.List.Elements.{filter_map-append}
use Rattle.std.proofs.lemmas.Option.{same_Some}
use Rattle.toml.specs.Data.{Data, array, as_str, as_array, as_table}
use Rattle.toml.specs.View.{view, items_view}
use Rattle.toml.specs.declared.value.Value.{Value}
use Rattle.mode_file.specs.Tables.{TextArray, TableArray, has_kind, items, array_items}

-- the items of an array are its values as data
pub items_seen : (vs : List Value) → items (items_view vs) ≡ map view vs
items_seen [] = refl
items_seen (v ∷ vs) = ap (λ (ds : List Data). view v ∷ ds) (items_seen vs)

-- an array is of texts, or of tables, where each of its values is one
pub texts_kind : (d : Data) (vs : List Value) → Some (items_view vs) ≡ as_array d → has_kind TextArray d ≡ list_all (λ v. is_some (as_str (view v))) vs
texts_kind (array ds) vs e = rw (← same_Some _ _ e, items_seen vs) (list_all-map (λ d. is_some (as_str d)) view vs)
texts_kind _ vs e = cc

pub tables_kind : (d : Data) (vs : List Value) → Some (items_view vs) ≡ as_array d → has_kind TableArray d ≡ list_all (λ v. is_some (as_table (view v))) vs
tables_kind (array ds) vs e = rw (← same_Some _ _ e, items_seen vs) (list_all-map (λ d. is_some (as_table d)) view vs)
tables_kind _ vs e = cc

-- one more value
data_more : (vs : List Value) (i : ℕ) (v : Value) → i < length vs → v ≡ get_or vs i v → map view (take (i + 1) vs) ≡ map view (take i vs) ++ view v ∷ []
data_more vs i v h e = map_more view vs i v h ∙ ap (λ (w : Value). map view (take i vs) ++ view w ∷ []) (sym e)

found_more : {X : Type 0} (find : Data → Option X) (vs : List Value) (i : ℕ) (v : Value) → i < length vs → v ≡ get_or vs i v → filter_map find (map view (take (i + 1) vs)) ≡ filter_map find (map view (take i vs)) ++ filter_map find (view v ∷ [])
found_more find vs i v h e = ap (filter_map find) (data_more vs i v h e) ∙ filter_map-append find (map view (take i vs)) (view v ∷ [])

-- what is found in the values with one more, where something is found in that one, and where nothing is
pub found_next : {X : Type 0} (find : Data → Option X) (vs : List Value) (i : ℕ) (v : Value) (x : X) → i < length vs → v ≡ get_or vs i v → Some x ≡ find (view v) → filter_map find (map view (take (i + 1) vs)) ≡ filter_map find (map view (take i vs)) ++ x ∷ []
found_next find vs i v x h e found = found_more find vs i v h e ∙ rw (← found) refl

pub found_none : {X : Type 0} (find : Data → Option X) (vs : List Value) (i : ℕ) (v : Value) → i < length vs → v ≡ get_or vs i v → None ≡ find (view v) → filter_map find (map view (take (i + 1) vs)) ≡ filter_map find (map view (take i vs))
found_none find vs i v h e none = found_more find vs i v h e ∙ rw (← none, append-nil) refl

-- what is found in all values: before one, in it, and after it
pub found_around : {X : Type 0} (find : Data → Option X) (vs : List Value) (i : ℕ) (v : Value) (x : X) → i < length vs → v ≡ get_or vs i v → Some x ≡ find (view v)
    → filter_map find (map view vs) ≡ (filter_map find (map view (take i vs)) ++ x ∷ []) ++ filter_map find (map view (drop (i + 1) vs))
found_around {X} find vs i v x h e found =
    ap (λ (ws : List Value). filter_map find (map view ws)) (sym (take-append-drop (i + 1) vs))
    ∙ ap (filter_map find) (map-append view (take (i + 1) vs) (drop (i + 1) vs))
    ∙ filter_map-append find (map view (take (i + 1) vs)) (map view (drop (i + 1) vs))
    ∙ ap (λ (xs : List X). xs ++ filter_map find (map view (drop (i + 1) vs))) (found_next find vs i v x h e found)

-- an array's values, as the data of its items
pub array_seen : (d : Data) (vs : List Value) → Some (items_view vs) ≡ as_array d → array_items d ≡ map view vs
array_seen d vs e = rw (← e) (items_seen vs)
