-- The chains with one constraint more
use Rattle.std.proofs.Common.{pos, inl, inr, ◌≡◌, ◌≢◌, ℕ, ◌+◌, ◌<◌, ◌≤◌, List, [], ◌∷◌, ◌++◌, length, set, Option, None, Some, refl, sym, ◌∙◌, ap, subst, arith, ◌⊎◌, ⊎_elim}
use Rattle.std.proofs.lemmas.Bool.{cases_lt, cases_eq}
use Rattle.std.proofs.lemmas.List.{length_push, length-set, get_or_push, get_or_append_left, get_or-set_same, get_or-set_other}
use Rattle.tick_num.specs.declared.differences.Diff.{Diff}
use Rattle.tick_num.specs.Differences.{diff}
use Rattle.diff_store.specs.declared.chains.Links.{Links}
use Rattle.diff_store.specs.Leasts.{at}
use Rattle.diff_store.specs.Chains.{IsLatest, IsEarliest, Chained, linked}

module _ (ds : List Diff) (d : Diff) where
  abbrev more : List Diff
  more = ds ++ d ∷ []

  size : length more ≡ length ds + 1
  size = length_push ds d

  older_at : (i : ℕ) → i < length ds → at more i ≡ at ds i
  older_at i l = get_or_append_left ds (d ∷ []) (diff 0 0 (pos 0)) i l

  newest_at : at more (length ds) ≡ d
  newest_at = get_or_push ds d (diff 0 0 (pos 0)) (length ds) refl

  -- the constraint at a place, and its x
  x_older : (i : ℕ) → i < length ds → (at more i).x ≡ (at ds i).x
  x_older i l = ap (λ (e : Diff). e.x) (older_at i l)

  x_newest : (at more (length ds)).x ≡ d.x
  x_newest = ap (λ (e : Diff). e.x) newest_at

  latest_more : (x b : ℕ) (o : Option ℕ) → b ≤ length ds → IsLatest ds x b o → IsLatest more x b o
  latest_more x b None l h = record {
    within = h.within;
    same = tt;
    none_between = λ i a u e. h.none_between i a u (sym (x_older i (omega (arith, u, l))) ∙ e);
  }
  latest_more x b (Some k) l h = record {
    within = h.within;
    same = let w = h.within in x_older k (omega (arith, w, l)) ∙ h.same;
    none_between = λ i a u e. h.none_between i a u (sym (x_older i (omega (arith, u, l))) ∙ e);
  }

  latest_other : (x : ℕ) (o : Option ℕ) → (x ≡ d.x → ⊥) → IsLatest ds x (length ds) o → IsLatest more x (length more) o
  latest_other x o ne h =
      let g = latest_more x (length ds) o (omega arith) h in
      record {
        within = let w = h.within in let s = size in omega (arith, w, s);
        same = g.same;
        none_between = λ i a u e. ⊎_elim
            (λ (less : i < length ds). g.none_between i a less e)
            (λ (ge : length ds ≤ i). ne (sym e ∙ subst (λ j. (at more j).x ≡ d.x) (let s = size in let r : length ds ≡ i = omega (arith, s, u, ge) in r) x_newest))
            (cases_lt i (length ds));
      }

  latest_here : IsLatest more d.x (length more) (Some (length ds))
  latest_here = record {
    within = let s = size in omega (arith, s);
    same = x_newest;
    none_between = λ i a u e. let s = size in omega (arith, s, a, u);
  }

  earliest_some : (x b k : ℕ) → IsEarliest ds x b (Some k) → IsEarliest more x b (Some k)
  earliest_some x b k h = record {
    within = let w = h.within in let s = size in omega (arith, w, s);
    from = h.from;
    same = x_older k h.within ∙ h.same;
    none_between = λ i a u e. let w = h.within in h.none_between i a u (sym (x_older i (omega (arith, w, u))) ∙ e);
  }

  earliest_other : (x b : ℕ) (o : Option ℕ) → (x ≡ d.x → ⊥) → IsEarliest ds x b o → IsEarliest more x b o
  earliest_other x b (Some k) ne h = earliest_some x b k h
  earliest_other x b None ne h = record {
    within = tt;
    from = let f = h.from in let s = size in omega (arith, f, s);
    same = tt;
    none_between = λ i a u e. ⊎_elim
        (λ (less : i < length ds). h.none_between i a less (sym (x_older i less) ∙ e))
        (λ (ge : length ds ≤ i). ne (sym e ∙ subst (λ j. (at more j).x ≡ d.x) (let s = size in let r : length ds ≡ i = omega (arith, s, u, ge) in r) x_newest))
        (cases_lt i (length ds));
  }

  -- one that has another of its x after it stands
  earliest_before : (x b l : ℕ) (o : Option ℕ) → b ≤ l → l < length ds → (at ds l).x ≡ x → IsEarliest ds x b o → IsEarliest more x b o
  earliest_before x b l (Some k) lo hi e h = earliest_some x b k h
  earliest_before x b l None lo hi e h = absurd (h.none_between l lo hi e)

  earliest_new : (b : ℕ) → b ≤ length ds → ((i : ℕ) → b ≤ i → i < length ds → (at ds i).x ≡ d.x → ⊥) → IsEarliest more d.x b (Some (length ds))
  earliest_new b l none = record {
    within = let s = size in omega (arith, s);
    from = l;
    same = x_newest;
    none_between = λ i a u e. none i a u (sym (x_older i u) ∙ e);
  }

  earliest_end : IsEarliest more (at more (length ds)).x (length ds + 1) None
  earliest_end = record {
    within = tt;
    from = let s = size in omega (arith, s);
    same = tt;
    none_between = λ i a u e. let s = size in omega (arith, s, a, u);
  }

-- the lists of links after a constraint was added, place by place
pub record Adds (n p x : ℕ) (last : Option ℕ) (links links' : Links) : Type 0 where
  pub firsts_size : length links'.firsts.items ≡ n
  pub lasts_size : length links'.lasts.items ≡ n
  pub newer_room : p + 1 ≤ length links'.newer.items
  pub older_room : p + 1 ≤ length links'.older.items
  pub firsts : (z : ℕ) → (z ≡ x → ⊥) → linked links'.firsts.items z ≡ linked links.firsts.items z
  pub lasts : (z : ℕ) → (z ≡ x → ⊥) → linked links'.lasts.items z ≡ linked links.lasts.items z
  pub last_now : linked links'.lasts.items x ≡ Some p
  pub older : (i : ℕ) → i < p → linked links'.older.items i ≡ linked links.older.items i
  pub older_now : linked links'.older.items p ≡ last
  pub newer_now : linked links'.newer.items p ≡ None

module _ (n : ℕ) (ds : List Diff) (d : Diff) (links links' : Links) (h : Chained n ds links) (low : d.x < n) where
  abbrev Added : Option ℕ → Type 0
  Added last = Adds n (length ds) d.x last links links'

  lasts_more : (last : Option ℕ) → Added last → (x : ℕ) → x < n → IsLatest (more ds d) x (length (more ds d)) (linked links'.lasts.items x)
  lasts_more last a x l = ⊎_elim
      (λ (e : x ≡ d.x). subst (λ z. IsLatest (more ds d) z (length (more ds d)) (linked links'.lasts.items z)) (sym e)
      (subst (IsLatest (more ds d) d.x (length (more ds d))) (sym a.last_now) (latest_here ds d)))
      (λ (ne : x ≡ d.x → ⊥). subst (IsLatest (more ds d) x (length (more ds d))) (sym (a.lasts x ne)) (latest_other ds d x (linked links.lasts.items x) ne (h.last x l)))
      (cases_eq x d.x)

  by_place : (i : ℕ) → i < length (more ds d) → (i < length ds) ⊎ (length ds ≡ i)
  by_place i l = ⊎_elim
      (λ (less : i < length ds). inl less)
      (λ (ge : length ds ≤ i). let s = size ds d in inr (omega (arith, s, l, ge)))
      (cases_lt i (length ds))

  olders_more : (last : Option ℕ) → last ≡ linked links.lasts.items d.x → Added last → (i : ℕ) → i < length (more ds d) → IsLatest (more ds d) (at (more ds d) i).x i (linked links'.older.items i)
  olders_more last is a i l = ⊎_elim
      (λ (less : i < length ds).
      subst (λ x. IsLatest (more ds d) x i (linked links'.older.items i)) (sym (x_older ds d i less))
      (subst (IsLatest (more ds d) (at ds i).x i) (sym (a.older i less))
      (latest_more ds d (at ds i).x i (linked links.older.items i) (omega (arith, less)) (h.older i less))))
      (λ (e : length ds ≡ i).
      subst (λ j. IsLatest (more ds d) (at (more ds d) j).x j (linked links'.older.items j)) e
      (subst (λ x. IsLatest (more ds d) x (length ds) (linked links'.older.items (length ds))) (sym (x_newest ds d))
      (subst (IsLatest (more ds d) d.x (length ds)) (sym (a.older_now ∙ is))
      (latest_more ds d d.x (length ds) (linked links.lasts.items d.x) (omega arith) (h.last d.x low)))))
      (by_place i l)

  newer_at_end : (last : Option ℕ) → Added last → (i : ℕ) → length ds ≡ i → IsEarliest (more ds d) (at (more ds d) i).x (i + 1) (linked links'.newer.items i)
  newer_at_end last a i e =
      subst (λ j. IsEarliest (more ds d) (at (more ds d) j).x (j + 1) (linked links'.newer.items j)) e
      (subst (IsEarliest (more ds d) (at (more ds d) (length ds)).x (length ds + 1)) (sym a.newer_now) (earliest_end ds d))

  -- the first constraint from its x
  pub linked_first : Added None → linked links.lasts.items d.x ≡ None → linked links'.firsts.items d.x ≡ Some (length ds) → ((i : ℕ) → i < length ds → linked links'.newer.items i ≡ linked links.newer.items i) → Chained n (more ds d) links'
  linked_first a none first newer =
      let no : (i : ℕ) → i < length ds → (at ds i).x ≡ d.x → ⊥ = (λ i l e. (subst (IsLatest ds d.x (length ds)) none (h.last d.x low)).none_between i (omega arith) l e) in
      record {
        firsts_size = a.firsts_size;
        lasts_size = a.lasts_size;
        newer_room = let s = size ds d in let r = a.newer_room in omega (arith, s, r);
        older_room = let s = size ds d in let r = a.older_room in omega (arith, s, r);
        first = λ x l. ⊎_elim
            (λ (e : x ≡ d.x). subst (λ z. IsEarliest (more ds d) z 0 (linked links'.firsts.items z)) (sym e)
            (subst (IsEarliest (more ds d) d.x 0) (sym first) (earliest_new ds d 0 (omega arith) (λ i b u. no i u))))
            (λ (ne : x ≡ d.x → ⊥). subst (IsEarliest (more ds d) x 0) (sym (a.firsts x ne)) (earliest_other ds d x 0 (linked links.firsts.items x) ne (h.first x l)))
            (cases_eq x d.x);
        last = lasts_more None a;
        older = olders_more None (sym none) a;
        newer = λ i l. ⊎_elim
            (λ (less : i < length ds).
            subst (λ x. IsEarliest (more ds d) x (i + 1) (linked links'.newer.items i)) (sym (x_older ds d i less))
            (subst (IsEarliest (more ds d) (at ds i).x (i + 1)) (sym (newer i less))
            (earliest_other ds d (at ds i).x (i + 1) (linked links.newer.items i) (no i less) (h.newer i less))))
            (λ (e : length ds ≡ i). newer_at_end None a i e)
            (by_place i l);
      }

  -- behind the last one from its x
  module _ (k : ℕ) (a : Added (Some k)) (last : linked links.lasts.items d.x ≡ Some k) (here : linked links'.newer.items k ≡ Some (length ds)) (first : linked links'.firsts.items d.x ≡ linked links.firsts.items d.x) (newer : (i : ℕ) → i < length ds → (i ≡ k → ⊥) → linked links'.newer.items i ≡ linked links.newer.items i) where
    latest : IsLatest ds d.x (length ds) (Some k)
    latest = subst (IsLatest ds d.x (length ds)) last (h.last d.x low)

    newer_before : (i : ℕ) → i < length ds → IsEarliest (more ds d) (at ds i).x (i + 1) (linked links'.newer.items i)
    newer_before i less = ⊎_elim
        (λ (e : i ≡ k).
        subst (λ j. IsEarliest (more ds d) (at ds j).x (j + 1) (linked links'.newer.items j)) (sym e)
        (subst (λ x. IsEarliest (more ds d) x (k + 1) (linked links'.newer.items k)) (sym latest.same)
        (subst (IsEarliest (more ds d) d.x (k + 1)) (sym here) (earliest_new ds d (k + 1) latest.within latest.none_between))))
        (λ (ne : i ≡ k → ⊥).
        subst (IsEarliest (more ds d) (at ds i).x (i + 1)) (sym (newer i less ne))
        (⊎_elim
        (λ (e : (at ds i).x ≡ d.x). earliest_before ds d (at ds i).x (i + 1) k (linked links.newer.items i)
        (⊎_elim
        (λ (l : i < k). omega (arith, l))
        (λ (g : k ≤ i). absurd (latest.none_between i (let ne' : i ≢ k = ne in omega (arith, g, ne')) less e))
        (cases_lt i k))
        (let w = latest.within in omega (arith, w)) (latest.same ∙ sym e) (h.newer i less))
        (λ (o : (at ds i).x ≡ d.x → ⊥). earliest_other ds d (at ds i).x (i + 1) (linked links.newer.items i) o (h.newer i less))
        (cases_eq (at ds i).x d.x)))
        (cases_eq i k)

    pub linked_behind : Chained n (more ds d) links'
    linked_behind = record {
      firsts_size = a.firsts_size;
      lasts_size = a.lasts_size;
      newer_room = let s = size ds d in let r = a.newer_room in omega (arith, s, r);
      older_room = let s = size ds d in let r = a.older_room in omega (arith, s, r);
      first = λ x l. ⊎_elim
          (λ (e : x ≡ d.x). subst (λ z. IsEarliest (more ds d) z 0 (linked links'.firsts.items z)) (sym e)
          (subst (IsEarliest (more ds d) d.x 0) (sym first)
          (earliest_before ds d d.x 0 k (linked links.firsts.items d.x) (omega arith) (let w = latest.within in omega (arith, w)) latest.same (h.first d.x low))))
          (λ (ne : x ≡ d.x → ⊥). subst (IsEarliest (more ds d) x 0) (sym (a.firsts x ne)) (earliest_other ds d x 0 (linked links.firsts.items x) ne (h.first x l)))
          (cases_eq x d.x);
      last = lasts_more (Some k) a;
      older = olders_more (Some k) (sym last) a;
      newer = λ i l. ⊎_elim
          (λ (less : i < length ds).
          subst (λ x. IsEarliest (more ds d) x (i + 1) (linked links'.newer.items i)) (sym (x_older ds d i less)) (newer_before i less))
          (λ (e : length ds ≡ i). newer_at_end (Some k) a i e)
          (by_place i l);
    }

-- the lists of links as they are written
module _ (n : ℕ) (ds : List Diff) (d : Diff) (links links' : Links) (h : Chained n ds links) (low : d.x < n) (room : length ds < length links.newer.items) (room' : length ds < length links.older.items) (lasts : links'.lasts.items ≡ set links.lasts.items d.x (Some (length ds))) where
  elsewhere : (os os' : List (Option ℕ)) (y : ℕ) (o : Option ℕ) → os' ≡ set os y o → (z : ℕ) → (z ≡ y → ⊥) → linked os' z ≡ linked os z
  elsewhere os os' y o e z ne = let ne' : z ≢ y = ne in ap (λ us. linked us z) e ∙ get_or-set_other os y z o None ne'

  there : (os os' : List (Option ℕ)) (y : ℕ) (o : Option ℕ) → os' ≡ set os y o → y < length os → linked os' y ≡ o
  there os os' y o e l = ap (λ us. linked us y) e ∙ get_or-set_same os y o None l

  length_of : (os os' : List (Option ℕ)) (y : ℕ) (o : Option ℕ) → os' ≡ set os y o → length os' ≡ length os
  length_of os os' y o e = ap length e ∙ length-set os y o

  not_end : (i : ℕ) → i < length ds → i ≡ length ds → ⊥
  not_end i l e = omega (arith, l, e)

  abbrev end : ℕ
  end = length ds

  module _ (older : links'.older.items ≡ set links.older.items end (linked links.lasts.items d.x)) where
    -- the first constraint from its x
    pub set_first : linked links.lasts.items d.x ≡ None → links'.firsts.items ≡ set links.firsts.items d.x (Some end) → links'.newer.items ≡ set links.newer.items end None → Chained n (more ds d) links'
    set_first none firsts newer = linked_first n ds d links links' h low (record {
      firsts_size = length_of links.firsts.items links'.firsts.items d.x (Some end) firsts ∙ h.firsts_size;
      lasts_size = length_of links.lasts.items links'.lasts.items d.x (Some end) lasts ∙ h.lasts_size;
      newer_room = let s = length_of links.newer.items links'.newer.items end None newer in omega (arith, s, room);
      older_room = let s = length_of links.older.items links'.older.items end (linked links.lasts.items d.x) older in omega (arith, s, room');
      firsts = elsewhere links.firsts.items links'.firsts.items d.x (Some end) firsts;
      lasts = elsewhere links.lasts.items links'.lasts.items d.x (Some end) lasts;
      last_now = there links.lasts.items links'.lasts.items d.x (Some end) lasts (let s = h.lasts_size in omega (arith, s, low));
      older = λ i l. elsewhere links.older.items links'.older.items end (linked links.lasts.items d.x) older i (not_end i l);
      older_now = there links.older.items links'.older.items end (linked links.lasts.items d.x) older room' ∙ none;
      newer_now = there links.newer.items links'.newer.items end None newer room;
    }) none
        (there links.firsts.items links'.firsts.items d.x (Some end) firsts (let s = h.firsts_size in omega (arith, s, low)))
        (λ i l. elsewhere links.newer.items links'.newer.items end None newer i (not_end i l))

    -- behind the last one from its x
    pub set_behind : (k : ℕ) → linked links.lasts.items d.x ≡ Some k → links'.firsts.items ≡ links.firsts.items → links'.newer.items ≡ set (set links.newer.items end None) k (Some end) → Chained n (more ds d) links'
    set_behind k last firsts newer =
        let w = (subst (IsLatest ds d.x (length ds)) last (h.last d.x low)).within in
        let before : k < length ds = omega (arith, w) in
        let size : length (set links.newer.items end None) ≡ length links.newer.items = length-set links.newer.items end None in
        let other : (i : ℕ) → (i ≡ k → ⊥) → linked links'.newer.items i ≡ linked (set links.newer.items end None) i = elsewhere (set links.newer.items end None) links'.newer.items k (Some end) newer in
        linked_behind n ds d links links' h low k (record {
          firsts_size = ap length firsts ∙ h.firsts_size;
          lasts_size = length_of links.lasts.items links'.lasts.items d.x (Some end) lasts ∙ h.lasts_size;
          newer_room = let s = length_of (set links.newer.items end None) links'.newer.items k (Some end) newer in omega (arith, s, size, room);
          older_room = let s = length_of links.older.items links'.older.items end (linked links.lasts.items d.x) older in omega (arith, s, room');
          firsts = λ z ne. ap (λ os. linked os z) firsts;
          lasts = elsewhere links.lasts.items links'.lasts.items d.x (Some end) lasts;
          last_now = there links.lasts.items links'.lasts.items d.x (Some end) lasts (let s = h.lasts_size in omega (arith, s, low));
          older = λ i l. elsewhere links.older.items links'.older.items end (linked links.lasts.items d.x) older i (not_end i l);
          older_now = there links.older.items links'.older.items end (linked links.lasts.items d.x) older room' ∙ last;
          newer_now = other end (λ e. omega (arith, before, e)) ∙ get_or-set_same links.newer.items end None None room;
        }) last
        (there (set links.newer.items end None) links'.newer.items k (Some end) newer (omega (arith, size, before, room)))
        (ap (λ os. linked os d.x) firsts)
        (λ i l ne. other i ne ∙ elsewhere links.newer.items (set links.newer.items end None) end None refl i (not_end i l))
