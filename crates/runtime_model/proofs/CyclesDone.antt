-- The entries that were done are the cycles of the timeline, one after the other
use Rattle.std.proofs.Common.{◌≡◌, ℕ, suc, ◌+◌, ◌<◌, ◌≤◌, Bool, true, false, cond, not, List, [], ◌∷◌, ◌++◌, length, take, refl, sym, ◌∙◌, ap, subst, arith, ⊎_elim}
use Rattle.std.specs.Prelude.{nat_lt}
use Rattle.std.proofs.Math.Seq.{take-suc}
use Rattle.std.proofs.lemmas.List.{take_all, append_assoc}
use Rattle.runtime_model.specs.Timeline.{Hyperperiod, Mark, begins, ended, timeline_of}
use Rattle.runtime_model.specs.Entries.{Entry}
use Rattle.runtime_model.specs.Outcomes.{PlainEvent, advance, request, restart}
use Rattle.runtime_model.specs.System.{System}
use Rattle.runtime_model.specs.History.{history, last_spot, next_place, marks_of, turns, arrival, marks_next, spot_next, entries, entry_at, is_first_beacon}
use Rattle.runtime_model.specs.Laws.{RequestsFit, EntriesAreCycles, entries_done, cycles_of, ticks_of}
use Rattle.runtime_model.proofs.Cycles.{none}
use Rattle.runtime_model.proofs.Spots.{stands}
use Rattle.runtime_model.proofs.Modes.{AllRight, all_right}
use Rattle.runtime_model.proofs.Beacons.{index_now}
use Rattle.runtime_model.proofs.OutRegisters.{H}
use Rattle.runtime_model.proofs.FirstTicks.{Stays, Turns, onward}
use Rattle.runtime_model.proofs.NewStay.{request_mode}

-- the hyperperiods before the last one, after what the timeline sees of an Advance
before_with : (b c : Bool) (ms : List Mark) → let t = timeline_of ms in (timeline_of ((cond b (begins ∷ []) [] ++ cond c (ended ∷ []) []) ++ ms)).before ≡ cond c (t.last ∷ t.before) t.before
before_with true true ms = refl
before_with true false ms = refl
before_with false true ms = refl
before_with false false ms = refl

module _ (y : System) (right : AllRight y) where
  abbrev Done : List PlainEvent → Type 0
  Done es = let ds = history y es in let t = timeline_of (marks_of ds) in
      (entries_done y es ≡ cycles_of y t.before ++ take (next_place ds) (entries y t.last.mode)) × ((last_spot ds).begin ≡ ticks_of y t.before)

  done : (es : List PlainEvent) → RequestsFit y es → Done es
  done [] f = (refl, refl)
  done (request m ∷ es) f =
      let ds = history y es in
      let t = timeline_of (marks_of ds) in
      let h = done es f.1 in
      (h.0 ∙ ap (λ (z : ℕ). cycles_of y t.before ++ take (next_place ds) (entries y z)) (sym (request_mode t.last m)), h.1)
  done (restart v ∷ es) f = done es f
  done (advance lost ∷ es) f =
      let ds = history y es in
      let s = spot_next y ds in
      let e = entry_at y s in
      let t = timeline_of (marks_of ds) in
      let first = is_first_beacon (entry_at y (arrival y ds)).action in
      let n = timeline_of (marks_next y ds ++ marks_of ds) in
      let h = done es f in
      let mode = (stands y es).alike.mode in
      let before = before_with first (turns y ds) (marks_of ds) in
      let one = take-suc (entries y s.hyper.mode) s.index none (index_now y right es f lost) in
      ⊎_elim
      (λ (x : Stays y ds).
      let m = x.same in
      let stays : n.before ≡ t.before = before ∙ ap (λ (c : Bool). cond c (t.last ∷ t.before) t.before) (goes_on (next_place ds) (length (entries y (last_spot ds).hyper.mode)) m.inside) in
      let same = m.alike.mode ∙ sym mode in
      let now = ap (λ (z : ℕ). take (next_place ds) (entries y z)) (sym same) ∙ ap (λ (i : ℕ). take i (entries y s.hyper.mode)) (sym m.index) in (
        ap (λ (xs : List Entry). xs ++ e ∷ []) (h.0 ∙ ap (λ (xs : List Entry). cycles_of y t.before ++ xs) now)
            ∙ append_assoc (cycles_of y t.before) (take s.index (entries y s.hyper.mode)) (e ∷ [])
            ∙ ap (λ (xs : List Entry). cycles_of y t.before ++ xs) (sym one)
            ∙ ap (λ (hs : List Hyperperiod). cycles_of y hs ++ take (suc s.index) (entries y s.hyper.mode)) (sym stays),
        m.begin ∙ h.1 ∙ ap (ticks_of y) (sym stays),
      ))
      (λ (x : Turns y ds).
      let turn : n.before ≡ t.last ∷ t.before = before ∙ ap (λ (c : Bool). cond c (t.last ∷ t.before) t.before) (is_over (next_place ds) (length (entries y (last_spot ds).hyper.mode)) x.over) in
      let whole = take_all (next_place ds) (entries y t.last.mode) (subst (λ (z : ℕ). length (entries y z) ≤ next_place ds) (sym mode) x.over) in
      let none_yet = ap (λ (i : ℕ). take i (entries y s.hyper.mode)) x.index in (
        ap (λ (xs : List Entry). xs ++ e ∷ []) (h.0 ∙ ap (λ (xs : List Entry). cycles_of y t.before ++ xs) whole)
            ∙ ap (λ (xs : List Entry). cycles_of y (t.last ∷ t.before) ++ xs) (ap (λ (xs : List Entry). xs ++ e ∷ []) (sym none_yet) ∙ sym one)
            ∙ ap (λ (hs : List Hyperperiod). cycles_of y hs ++ take (suc s.index) (entries y s.hyper.mode)) (sym turn),
        x.begin ∙ adds (last_spot ds).begin (ticks_of y t.before) (H y (last_spot ds).hyper.mode) (H y t.last.mode) h.1 (ap (H y) (sym mode)) ∙ ap (ticks_of y) (sym turn),
      ))
      (onward y right es f)
    where
      goes_on : (m n : ℕ) → m < n → not (nat_lt m n) ≡ false
      goes_on m n l = grind (arith, l)

      is_over : (m n : ℕ) → n ≤ m → not (nat_lt m n) ≡ true
      is_over m n l = grind (arith, l)

      adds : (b c h k : ℕ) → b ≡ c → h ≡ k → b + h ≡ c + k
      adds b c h k e f = omega (arith, e, f)

pub entries_are_cycles : EntriesAreCycles
entries_are_cycles y plans es f = done y (all_right y plans) es f
