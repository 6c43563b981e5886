-- Lists made place by place
use Rattle.std.proofs.Common.{◌≡◌, ℕ, suc, ◌+◌, ◌-◌, ◌<◌, ◌≤◌, All, List, ◌++◌, length, get_or, refl, sym, ◌∙◌, ap, subst, arith, ℤ, pos, negsuc, ◌+ℤ◌, ◌-ℤ◌, ◌≤ℤ◌, ◌<ℤ◌, to_z, of_z, w64, FitsSigned}
use Rattle.std.proofs.lemmas.Int.{ints, to_z-of_z}
use Rattle.std.proofs.lemmas.List.Elements.{All-get_or}
use Rattle.std.specs.Int.{int_div_euclid}
use Rattle.tick_num.proofs.Floor.{floor_low, floor_high, sum-times}
use Rattle.node_tables.specs.PartLimits.{IsMessageRow}
use Rattle.sched_model.specs.TimeLimits.{HasTimes, IsTime}
use Rattle.sched_model.specs.declared.schedule.Schedule.{Schedule}
use Rattle.node_tables.specs.declared.rows.MessageRow.{MessageRow}
use Rattle.node_tables.specs.declared.tables.OwnSlot.{OwnSlot}
use Rattle.runtime_model.specs.Copies.{copy_of}
use Rattle.node_tables.specs.OwnParts.{first_message, no_message_row, release_in, slot_kept}
use Rattle.node_tables.proofs.Images.{fits_between}
use Rattle.std.specs.List.{flat_map}
use Rattle.sched_model.specs.Numbers.{below}
use Rattle.sched_model.proofs.Lists.{flat_below-suc}

-- one part more
pub below_step : {X : Type 0} (f : ℕ → List X) (n : ℕ) (old new : List X) → old ≡ flat_map f (below n) → new ≡ old ++ f n → new ≡ flat_map f (below (n + 1))
below_step {X} f n old new h s =
    s ∙ ap (λ (l : List X). l ++ f n) h ∙ sym (flat_below-suc f n) ∙ ap (λ k. flat_map f (below k)) (let o : suc n ≡ n + 1 = omega arith in o)

-- a number of this range fits a word
fits_wide : (z : ℤ) → negsuc 3999999999999 ≤ℤ z → z ≤ℤ pos 4000000000000 → FitsSigned w64 z
fits_wide (pos n) low high = record { sfits = omega (arith, ints) }
fits_wide (negsuc n) low high = record { sfits = omega (arith, ints) }

-- a time of a schedule fits a word
pub time_fits : (z : ℤ) → IsTime z → FitsSigned w64 z
time_fits z t = fits_between z (omega (arith, ints, t.0)) t.1

pub same_time : (z : ℤ) → IsTime z → to_z w64 (of_z w64 z) ≡ z
same_time z t = to_z-of_z w64 z (time_fits z t)

-- a slot whose message stands at this place
pub slot_is : (messages : List MessageRow) (s : Schedule) (hyper j slot n place : ℕ) (start opens release : ℤ) (copy : ℕ) → place ≡ n - first_message messages
    → start ≡ get_or s.starts j (pos 0) → opens ≡ (get_or s.messages place (pos 0, pos 0)).0
    → release ≡ release_in start opens (get_or messages place no_message_row).period → copy ≡ copy_of s hyper n (opens +ℤ release) start
    → let x : OwnSlot = record { slot = slot; message = n; release = release; copy = copy } in x ≡ slot_kept messages s hyper j slot n
slot_is messages s hyper j slot n place start opens release copy e starts opening released copied =
    let made = λ (t o r : ℤ). let x : OwnSlot = record { slot = slot; message = n; release = r; copy = copy_of s hyper n (o +ℤ r) t } in x in
    let at = λ (t o : ℤ) (i : ℕ). made t o (release_in t o (get_or messages i no_message_row).period) in
    ap (λ (c : ℕ). let x : OwnSlot = record { slot = slot; message = n; release = release; copy = c } in x) copied
    ∙ ap (λ (r : ℤ). made start opens r) released
    ∙ ap (λ (o : ℤ). at start o place) opening
    ∙ ap (λ (t : ℤ). at t (get_or s.messages place (pos 0, pos 0)).0 place) starts
    ∙ ap (λ (i : ℕ). at (get_or s.starts j (pos 0)) (get_or s.messages i (pos 0, pos 0)).0 i) e

-- a release is the last multiple of the period that is at most the time since the first window opened
release_near : (start opens : ℤ) (period : ℕ) → 1 ≤ period →
    (release_in start opens period ≤ℤ (start -ℤ opens)) × ((start -ℤ opens) <ℤ (release_in start opens period +ℤ pos period))
release_near start opens period some =
    let q = int_div_euclid (start -ℤ opens) (pos period) in
    let one : pos 1 ≤ℤ pos period = omega (arith, ints, some) in
    (floor_low (start -ℤ opens) (pos period) q one refl, omega (arith, ints, floor_high (start -ℤ opens) (pos period) q one refl, sum-times q (pos 1) (pos period)))

-- a slot as the code makes it: the moment at which its window opened fits a word
pub slot_made : (messages : List MessageRow) (s : Schedule) (hyper j slot n place : ℕ) (starts : List ℤ) (windows : List (ℤ × ℤ)) (release : ℤ)
    → j < length s.starts → length s.messages ≡ length messages → HasTimes s → All IsMessageRow messages
    → (place ≡ n - first_message messages) × (place < length messages) → starts ≡ s.starts → windows ≡ s.messages
    → let start = to_z w64 (of_z w64 (get_or starts j (pos 0))) in
    let opens = to_z w64 (of_z w64 (get_or windows place (pos 0, pos 0)).0) in
    let r = to_z w64 (of_z w64 release) in
    release ≡ release_in start opens (get_or messages place no_message_row).period
    → FitsSigned w64 (opens +ℤ r)
    × (let x : OwnSlot = record { slot = slot; message = n; release = r; copy = copy_of s hyper n (to_z w64 (of_z w64 (opens +ℤ r))) start } in x ≡ slot_kept messages s hyper j slot n)
slot_made messages s hyper j slot n place starts windows release l same times rows at e1 e2 is =
    let per = (get_or messages place no_message_row).period in
    let start = to_z w64 (of_z w64 (get_or starts j (pos 0))) in
    let opens = to_z w64 (of_z w64 (get_or windows place (pos 0, pos 0)).0) in
    let r = to_z w64 (of_z w64 release) in
    let one : IsTime (get_or s.starts j (pos 0)) = All-get_or IsTime s.starts j (pos 0) l times.starts in
    let two : IsTime (get_or s.messages place (pos 0, pos 0)).0 =
    (All-get_or (λ w. IsTime w.0 × IsTime w.1) s.messages place (pos 0, pos 0) (omega (arith, at.1, same)) times.messages).0 in
    let row : IsMessageRow (get_or messages place no_message_row) = All-get_or IsMessageRow messages place no_message_row at.1 rows in
    let s1 : start ≡ get_or s.starts j (pos 0) = ap (λ (l : List ℤ). to_z w64 (of_z w64 (get_or l j (pos 0)))) e1 ∙ same_time _ one in
    let s2 : opens ≡ (get_or s.messages place (pos 0, pos 0)).0 = ap (λ (l : List (ℤ × ℤ)). to_z w64 (of_z w64 (get_or l place (pos 0, pos 0)).0)) e2 ∙ same_time _ two in
    let near = release_near start opens per row.0 in
    let here : IsTime start = subst IsTime (sym s1) one in
    let there : IsTime opens = subst IsTime (sym s2) two in
    let fit : FitsSigned w64 release = bounds start opens release per here there row.1 (subst (λ (z : ℤ). (z ≤ℤ (start -ℤ opens)) × ((start -ℤ opens) <ℤ (z +ℤ pos per))) (sym is) near) in
    let s3 : r ≡ release = to_z-of_z w64 release fit in
    let sum = opened_fits start opens r per here there row.1 (subst (λ (z : ℤ). (z ≤ℤ (start -ℤ opens)) × ((start -ℤ opens) <ℤ (z +ℤ pos per))) (sym (s3 ∙ is)) near) in (
      sum,
      slot_is messages s hyper j slot n place start opens r _ at.0 s1 s2 (s3 ∙ is) (ap (λ (z : ℤ). copy_of s hyper n z start) (to_z-of_z w64 (opens +ℤ r) sum)),
    )
  where
    bounds : (t o z : ℤ) (per : ℕ) → IsTime t → IsTime o → per ≤ 1000000000 → (z ≤ℤ (t -ℤ o)) × ((t -ℤ o) <ℤ (z +ℤ pos per)) → FitsSigned w64 z
    bounds t o z per h1 h2 few near = fits_wide z (omega (arith, ints, h1.0, h2.1, few, near.1)) (omega (arith, ints, h1.1, h2.0, near.0))

    opened_fits : (t o z : ℤ) (per : ℕ) → IsTime t → IsTime o → per ≤ 1000000000 → (z ≤ℤ (t -ℤ o)) × ((t -ℤ o) <ℤ (z +ℤ pos per)) → FitsSigned w64 (o +ℤ z)
    opened_fits t o z per h1 h2 few near = fits_wide (o +ℤ z) (omega (arith, ints, h1.0, few, near.1)) (omega (arith, ints, h1.1, near.0))
