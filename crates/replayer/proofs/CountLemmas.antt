-- One event more is counted.
use Rattle.std.proofs.Common.{ℤ, pos, ◌≡◌, ℕ, ◌+◌, List, [], ◌∷◌, ◌++◌, length, Option, refl, sym, ◌∙◌, ap, arith, append-nil, length-append}
use Rattle.std.specs.Prelude.{filter, if◌then◌else◌, ◌+ℤ◌, Bool, true, false}
use Rattle.std.specs.List.{flat_map}
use Rattle.std.proofs.lemmas.List.Elements.{filter-append}
use Rattle.std.proofs.lemmas.List.Sums.{fold-append}
use Rattle.std.proofs.lemmas.Grind.{flat_map-append}
use Rattle.world_core.specs.declared.happened.Done.{Done}
use Rattle.world_core.specs.declared.happened.Done.TheVariants.{Beacon as DoneBeacon, Sent as DoneSent, Silent as DoneSilent, Started as DoneStarted, Off as DoneOff, Ended as DoneEnded, Void as DoneVoid, Requested as DoneRequested, Restarted as DoneRestarted}
use Rattle.world_core.specs.declared.happened.Happened.{Happened}
use Rattle.world_core.specs.Done.{whole}
use Rattle.replayer.specs.Counting.{CountsOneMore, counts_of, is_send, is_start, sent_values, sum_from}
use Rattle.replayer.specs.declared.counts.Counts.{Counts}

-- the counts with one event more
abbrev pub with_one : Counts → Happened → Counts
with_one c h = record {
  events = c.events + 1;
  sent = c.sent + (if is_send h then 1 else 0);
  started = c.started + (if is_start h then 1 else 0);
  values = sum_from c.values (sent_values h);
}

-- how many of one more pass a test
passed_more : (p : Happened → Bool) (hs : List Happened) (h : Happened) (b : Bool) → p h ≡ b → length (filter p hs) + (if b then 1 else 0) ≡ length (filter p (hs ++ h ∷ []))
passed_more p hs h b e =
    let whole = ap length (filter-append p hs (h ∷ [])) in
    let parts = length-append (filter p hs) (filter p (h ∷ [])) in
    let one : length (filter p (h ∷ [])) ≡ (if b then 1 else 0) = ap (λ (t : Bool). length (if t then h ∷ [] else [])) e ∙ by_test b in
    omega (arith, whole, parts, one)
  where
    by_test : (b : Bool) → length {A = Happened} (if b then h ∷ [] else []) ≡ (if b then 1 else 0)
    by_test true = refl
    by_test false = refl

abbrev counted : Counts → Counts
counted c = c

-- one more is counted
pub counts_more : (hs : List Happened) (h : Happened) → with_one (counts_of hs) h ≡ counts_of (hs ++ h ∷ [])
counts_more hs h =
    let c = counts_of hs in
    let d = with_one c h in
    let all = hs ++ h ∷ [] in
    let values : d.values ≡ (counts_of all).values =
    sym (ap (λ (xs : List ℤ). sum_from (pos 0) xs) (flat_map-append sent_values hs (h ∷ []) ∙ ap (λ (xs : List ℤ). flat_map sent_values hs ++ xs) (append-nil (sent_values h)))
    ∙ fold-append (λ sum x. sum +ℤ x) (pos 0) (flat_map sent_values hs) (sent_values h)) in
    ap (λ (n : ℕ). counted (record { events = n; sent = d.sent; started = d.started; values = d.values })) (sym (length-append hs (h ∷ [])))
    ∙ ap (λ (n : ℕ). counted (record { events = length all; sent = n; started = d.started; values = d.values })) (passed_more is_send hs h (is_send h) refl)
    ∙ ap (λ (n : ℕ). counted (record { events = length all; sent = length (filter is_send all); started = n; values = d.values })) (passed_more is_start hs h (is_start h) refl)
    ∙ ap (λ (n : ℤ). counted (record { events = length all; sent = length (filter is_send all); started = length (filter is_start all); values = n })) values

pub one_more_counted : (before now : Counts) (h : Happened) → now ≡ with_one before h → CountsOneMore before h now
one_more_counted before now h one hs are = one ∙ ap (λ (c : Counts). with_one c h) are ∙ counts_more hs h

-- the inputs of a start are not counted
abbrev parts_of : Happened → Bool × Bool × List ℤ
parts_of h = (is_send h, is_start h, sent_values h)

same_parts : (d : Done) (xs ys : List (Option ℤ)) → parts_of (whole d xs) ≡ parts_of (whole d ys)
same_parts (DoneBeacon at beacon heard) xs ys = refl
same_parts (DoneSent at v packet taken) xs ys = refl
same_parts (DoneSilent at message) xs ys = refl
same_parts (DoneStarted at v task) xs ys = refl
same_parts (DoneOff at v task) xs ys = refl
same_parts (DoneEnded at v task value) xs ys = refl
same_parts (DoneVoid at v task) xs ys = refl
same_parts (DoneRequested at mode) xs ys = refl
same_parts (DoneRestarted at v) xs ys = refl

pub counted_whole : (before now : Counts) (d : Done) (xs ys : List (Option ℤ)) → CountsOneMore before (whole d xs) now → CountsOneMore before (whole d ys) now
counted_whole before now d xs ys one hs are =
    let with : Bool × Bool × List ℤ → Counts = λ p. record {
      events = before.events + 1;
      sent = before.sent + (if p.0 then 1 else 0);
      started = before.started + (if p.1 then 1 else 0);
      values = sum_from before.values p.2;
    } in
    let whole_now = λ (zs : List (Option ℤ)). ap (λ (c : Counts). with_one c (whole d zs)) are ∙ counts_more hs (whole d zs) in
    one hs are ∙ sym (whole_now xs) ∙ ap with (same_parts d xs ys) ∙ whole_now ys
