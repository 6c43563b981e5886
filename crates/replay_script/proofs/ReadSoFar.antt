-- What is known between two lines
use Rattle.std.proofs.Common.{◌≡◌, ℕ, ◌+◌, ◌≤◌, List, [], ◌∷◌, ◌++◌, length, drop, sum_by, filter_map, Some, None, Ok, Err, sym, ap, ◌∙◌, arith, subst, length-append, append_assoc}
use Rattle.std.specs.List.{concat}
use Rattle.std.proofs.lemmas.List.{append-nil, drop_all}
use Rattle.std.proofs.lemmas.List.Elements.{filter_map-append}
use Rattle.std.proofs.lemmas.List.Folds.{concat-append}
use Rattle.std.proofs.lemmas.List.Sums.{sum_by_push}
use Rattle.app_graph.specs.declared.mode_set.ModeSet.{ModeSet}
use Rattle.app_graph.specs.Rules.{each_after}
use Rattle.app_graph.proofs.Walks.{first_of_kept, first_of_broken, first_of_last}
use Rattle.ttw_text.specs.Lines.{lines}
use Rattle.replay_script.specs.declared.line.Line.{Line}
use Rattle.replay_script.specs.declared.fault.ScriptFault.{ScriptFault}
use Rattle.replay_script.specs.declared.fault.ScriptFault.TheVariants.{BadLine, Unknown, HostNamed, TooMany, Memory}
use Rattle.replay_script.specs.Fitting.{FitsScript}
use Rattle.replay_script.proofs.FittingLines.{script_fits}
use Rattle.replay_script.specs.Script.{Reads, asked, fault_at, fault_behind, first_fault, given, given_by, steps}

-- the lines before this place are read: none of them is faulty, and they give these lines
pub record HasRead (set : ModeSet) (text : List ℕ) (from number sum : ℕ) (script : List Line) : Type 0 where
  pub earlier : List (List ℕ)
  pub within : from ≤ length text
  pub few : number ≤ 10001
  pub fits : sum ≤ 1000000
  pub all : lines text ≡ earlier ++ lines (drop from text)
  pub number_is : number ≡ length earlier + 1
  pub place_is : from ≡ length (concat earlier)
  pub sum_is : sum ≡ sum_by steps earlier
  pub gives : script ≡ given_by set earlier
  pub rest : first_fault set text ≡ each_after (fault_behind set) earlier (lines (drop from text))

-- the fault of the next line, by what is known of the earlier ones
next_fault : (set : ModeSet) (earlier : List (List ℕ)) (line : List ℕ) (number next total : ℕ) → number ≡ length earlier + 1 → next ≡ length (concat earlier) + length line
    → total ≡ sum_by steps earlier + steps line → fault_behind set earlier line ≡ fault_at set number next total line
next_fault set earlier line number next total number_is next_is total_is =
    let end : length (concat (earlier ++ line ∷ [])) ≡ next =
    ap length (concat-append earlier (line ∷ [])) ∙ length-append (concat earlier) (concat (line ∷ [])) ∙ omega (arith, ap length (append-nil line), next_is) in
    let sum : sum_by steps (earlier ++ line ∷ []) ≡ total = sum_by_push steps earlier line ∙ sym total_is in
    ap (λ n. fault_at set n (length (concat (earlier ++ line ∷ []))) (sum_by steps (earlier ++ line ∷ [])) line) (sym number_is)
    ∙ ap (λ n. fault_at set number n (sum_by steps (earlier ++ line ∷ [])) line) end
    ∙ ap (λ n. fault_at set number next n line) sum

-- a line without a fault
pub read_more : (set : ModeSet) (text : List ℕ) (from number sum : ℕ) (script : List Line) → HasRead set text from number sum script
    → (line : List ℕ) (next total : ℕ) (more : List Line)
    → lines (drop from text) ≡ line ∷ lines (drop next text) → next ≡ from + length line → next ≤ length text
    → number ≤ 10000 → total ≤ 1000000 → total ≡ sum + steps line → fault_at set number next total line ≡ None
    → more ≡ script ++ filter_map (λ l. l) (given set (asked line) ∷ [])
    → HasRead set text next (number + 1) total more
read_more set text from number sum script h line next total more cut next_is within few fits total_is right more_is =
    let ls = lines (drop next text) in
    let next_at : next ≡ length (concat h.earlier) + length line = omega (arith, next_is, h.place_is) in
    let total_at : total ≡ sum_by steps h.earlier + steps line = omega (arith, total_is, h.sum_is) in
    let kept : fault_behind set h.earlier line ≡ None = next_fault set h.earlier line number next total h.number_is next_at total_at ∙ right in
    record {
      earlier = h.earlier ++ line ∷ [];
      within = within;
      few = omega (arith, few);
      fits = fits;
      all = h.all ∙ ap (λ (xs : List (List ℕ)). h.earlier ++ xs) cut ∙ sym (append_assoc h.earlier (line ∷ []) ls);
      number_is = omega (arith, h.number_is, length-append h.earlier (line ∷ []));
      place_is = next_at ∙ sym (ap length (concat-append h.earlier (line ∷ [])) ∙ length-append (concat h.earlier) (concat (line ∷ [])) ∙ ap (λ n. length (concat h.earlier) + n) (ap length (append-nil line)));
      sum_is = total_at ∙ sym (sum_by_push steps h.earlier line);
      gives = more_is ∙ ap (λ (xs : List Line). xs ++ filter_map (λ l. l) (given set (asked line) ∷ [])) h.gives
          ∙ sym (filter_map-append (λ l. given set (asked l)) h.earlier (line ∷ []));
      rest = h.rest ∙ ap (each_after (fault_behind set) h.earlier) cut
          ∙ first_of_kept (fault_behind set h.earlier line) (each_after (fault_behind set) (h.earlier ++ line ∷ []) ls ∷ []) kept
          ∙ first_of_last (each_after (fault_behind set) (h.earlier ++ line ∷ []) ls);
    }

reads_fault : (set : ModeSet) (text : List ℕ) (fault : ScriptFault) → first_fault set text ≡ Some fault → Reads set text (Err fault)
reads_fault set text (BadLine n) e = e
reads_fault set text (Unknown n) e = e
reads_fault set text (HostNamed n) e = e
reads_fault set text (TooMany n) e = e
reads_fault set text Memory e = tt

-- a faulty line
pub read_faulty : (set : ModeSet) (text : List ℕ) (from number sum : ℕ) (script : List Line) → HasRead set text from number sum script
    → (line : List ℕ) (next : ℕ) (fault : ScriptFault)
    → lines (drop from text) ≡ line ∷ lines (drop next text) → next ≡ from + length line
    → fault_at set number next (sum + steps line) line ≡ Some fault
    → Reads set text (Err fault)
read_faulty set text from number sum script h line next fault cut next_is wrong =
    let ls = lines (drop next text) in
    let next_at : next ≡ length (concat h.earlier) + length line = omega (arith, next_is, h.place_is) in
    let total_at : sum + steps line ≡ sum_by steps h.earlier + steps line = ap (λ n. n + steps line) h.sum_is in
    reads_fault set text fault (h.rest ∙ ap (each_after (fault_behind set) h.earlier) cut
    ∙ first_of_broken (fault_behind set h.earlier line) (each_after (fault_behind set) (h.earlier ++ line ∷ []) ls ∷ []) fault
    (next_fault set h.earlier line number next (sum + steps line) h.number_is next_at total_at ∙ wrong))

-- the end of the text
pub read_whole : (set : ModeSet) (text : List ℕ) (from number sum : ℕ) (script : List Line) → HasRead set text from number sum script
    → from ≡ length text → Reads set text (Ok script)
read_whole set text from number sum script h end =
    let none : lines (drop from text) ≡ [] = ap lines (drop_all from text (omega (arith, end))) in
    let all : lines text ≡ h.earlier = h.all ∙ ap (λ (xs : List (List ℕ)). h.earlier ++ xs) none ∙ append-nil h.earlier in
    (h.rest ∙ ap (each_after (fault_behind set) h.earlier) none, h.gives ∙ sym (ap (given_by set) all))

pub whole_fits : (set : ModeSet) (text : List ℕ) (from number sum : ℕ) (script : List Line) → HasRead set text from number sum script
    → from ≡ length text → FitsScript set script
whole_fits set text from number sum script h end =
    let none : lines (drop from text) ≡ [] = ap lines (drop_all from text (omega (arith, end))) in
    let all : lines text ≡ h.earlier = h.all ∙ ap (λ (xs : List (List ℕ)). h.earlier ++ xs) none ∙ append-nil h.earlier in
    let right : each_after (fault_behind set) [] h.earlier ≡ None =
    ap (each_after (fault_behind set) []) (sym all) ∙ h.rest ∙ ap (each_after (fault_behind set) h.earlier) none in
    subst (FitsScript set) (sym h.gives) (script_fits set h.earlier right (omega (arith, h.number_is, h.few)) (subst (λ (n : ℕ). n ≤ 1000000) h.sum_is h.fits))
