-- What lines make of events: the same events with more in front, the latest first
use Rattle.std.proofs.Common.{◌≡◌, ℕ, ◌+◌, ◌-◌, ◌<◌, ◌≤◌, false, List, [], ◌∷◌, ◌++◌, length, refl, sym, ◌∙◌, ap, subst, arith, length-append}
use Rattle.std.specs.Prelude.{replicate}
use Rattle.std.proofs.lemmas.List.{append_assoc, length-replicate}
use Rattle.runtime_model.specs.Outcomes.{PlainEvent, advance, request, restart}
use Rattle.runtime_model.specs.System.{System}
use Rattle.runtime_model.specs.History.{history, now_after}
use Rattle.runtime_model.specs.Script.{ScriptLine, go, until_beacon, lose, asks, restarts_node, beacon_next, Until, Makes, LeadTo}
use Rattle.runtime_model.specs.Laws.{RequestsFit}
use Rattle.runtime_model.proofs.Modes.{AllRight}
use Rattle.runtime_model.proofs.FirstTicks.{moments_rise, request_now, restart_now}
use Rattle.replayer.proofs.Searches.{after, after_both}
use Rattle.replayer.proofs.Spelling.{lead_once}

-- so many Advances, of which m are made, are those and the rest
pub after_rest : (m n : ℕ) (es : List PlainEvent) → m ≤ n → after n es ≡ after (n - m) (after m es)
after_rest m n es le = sym (after_both (n - m) m es ∙ ap (λ (k : ℕ). after k es) (let e : n - m + m ≡ n = omega (arith, le) in e))

pub length-after : (n : ℕ) (es : List PlainEvent) → length (after n es) ≡ n + length es
length-after n es = omega (arith, length-append (replicate n (advance 0)) es, length-replicate n (advance 0))

module _ (y : System) where
  pub fits_back : (more es : List PlainEvent) → RequestsFit y (more ++ es) → RequestsFit y es
  fits_back [] es f = f
  fits_back (request m ∷ more) es f = fits_back more es f.1
  fits_back (restart v ∷ more) es f = fits_back more es f
  fits_back (advance lost ∷ more) es f = fits_back more es f

  -- no tick is earlier than that of events before it
  pub now_more : AllRight y → (more es : List PlainEvent) → RequestsFit y (more ++ es) → now_after y (history y es) ≤ now_after y (history y (more ++ es))
  now_more right [] es f = omega arith
  now_more right (request m ∷ more) es f = omega (arith, now_more right more es f.1, request_now y right (more ++ es) m f)
  now_more right (restart v ∷ more) es f = omega (arith, now_more right more es f, restart_now y right (more ++ es) v f)
  now_more right (advance lost ∷ more) es f = omega (arith, now_more right more es f, (moments_rise y right (more ++ es) lost f).0)

  -- ---- what lines make

  pub makes_more : (l : ScriptLine) (es fs : List PlainEvent) → Makes y l es fs → (more : List PlainEvent) × (fs ≡ more ++ es)
  makes_more (go n) es fs e = (replicate n (advance 0), e)
  makes_more until_beacon es fs w = (replicate w.0 (advance 0), w.2)
  makes_more (lose bits) es fs e = (advance bits ∷ [], e)
  makes_more (asks m) es fs e = (request m ∷ [], e)
  makes_more (restarts_node v) es fs e = (restart v ∷ [], e)

  pub lead_more : (ls : List ScriptLine) (es fs : List PlainEvent) → LeadTo y ls es fs → (more : List PlainEvent) × (fs ≡ more ++ es)
  lead_more [] es fs e = ([], e)
  lead_more (l ∷ ls) es fs lead =
      let a = makes_more l es lead.0 lead.1 in
      let b = lead_more ls lead.0 fs lead.2 in
      (b.0 ++ a.0, b.1 ∙ ap (λ (z : List PlainEvent). b.0 ++ z) a.1 ∙ sym (append_assoc b.0 a.0 es))

  pub lead_both : (ls ms : List ScriptLine) (es mid fs : List PlainEvent) → LeadTo y ls es mid → LeadTo y ms mid fs → LeadTo y (ls ++ ms) es fs
  lead_both [] ms es mid fs a b = subst (λ (z : List PlainEvent). LeadTo y ms z fs) a b
  lead_both (l ∷ ls) ms es mid fs a b = (a.0, a.1, lead_both ls ms a.0 mid fs a.2 b)

  pub lead_apart : (ls ms : List ScriptLine) (es fs : List PlainEvent) → LeadTo y (ls ++ ms) es fs → (mid : List PlainEvent) × LeadTo y ls es mid × LeadTo y ms mid fs
  lead_apart [] ms es fs a = (es, refl, a)
  lead_apart (l ∷ ls) ms es fs a = let r = lead_apart ls ms a.0 fs a.2 in (r.0, (a.0, a.1, r.1), r.2)

  -- where lines lead to fs and the first of them to mid, the others lead on from there
  pub lead_rest : (ls ms : List ScriptLine) (es mid fs : List PlainEvent) → LeadTo y (ls ++ ms) es fs → LeadTo y ls es mid → LeadTo y ms mid fs
  lead_rest ls ms es mid fs a b = let r = lead_apart ls ms es fs a in subst (λ (z : List PlainEvent). LeadTo y ms z fs) (lead_once y ls es r.0 mid r.1 b) r.2

  -- ---- in the middle of a line

  -- a `go` of which m Advances are made makes the rest of them
  pub go_rest : (m n : ℕ) (es : List PlainEvent) → m ≤ n → Makes y (go (n - m)) (after m es) (after n es)
  go_rest m n es le = after_rest m n es le

  -- a wait for a beacon of which m Advances are made waits for the rest of them
  pub until_rest : (m n : ℕ) (es : List PlainEvent) → m ≤ n → Until y es n → Until y (after m es) (n - m)
  until_rest m n es le u = record {
    comes = ap (beacon_next y) (sym (after_rest m n es le)) ∙ u.comes;
    not_before = λ k l. ap (beacon_next y) (after_both k m es) ∙ u.not_before (k + m) (omega (arith, l, le));
  }

  -- before the wait is over no beacon is next
  pub until_open : (m n : ℕ) (es : List PlainEvent) → m < n → Until y es n → beacon_next y (after m es) ≡ false
  until_open m n es l u = u.not_before m l
