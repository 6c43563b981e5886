-- The script grows by one visit after the other, and its lines fit the generated set
use Rattle.std.proofs.Common.{◌≡◌, ℕ, zero, suc, ◌+◌, ◌-◌, ◌<◌, ◌≤◌, List, [], ◌∷◌, ◌++◌, refl, ap, length, arith, ◌∙◌}
use Rattle.std.specs.List.{flat_map, range_with_len}
use Rattle.std.proofs.lemmas.List.Elements.{All-from_recursion}
use Rattle.std.proofs.lemmas.Grind.{flat_map-append}
use Rattle.replay_script.specs.declared.line.Line.TheVariants.{Go, Request}
use Rattle.replay_script.specs.Fitting.{FitsScript, FitsLine}
use Rattle.drill.specs.Generated.{drill_set, below}
use Rattle.drill.specs.Script.{visit, visits, drill_script}

range_more : (a n : ℕ) → range_with_len a (suc n) ≡ range_with_len a n ++ (a + n) ∷ []
range_more a zero = let e : a ≡ a + 0 = omega arith in ap (λ (x : ℕ). x ∷ []) e
range_more a (suc n) =
    let e : a + 1 + n ≡ a + suc n = omega arith in
    ap (λ (l : List ℕ). a ∷ l) (range_more (a + 1) n ∙ ap (λ (x : ℕ). range_with_len (a + 1) n ++ x ∷ []) e)

pub visits_none : visits 0 ≡ []
unfolding visits
visits_none = refl

pub visits_more : (m : ℕ) → 1 ≤ m → visits (m + 1 - 1) ≡ visits (m - 1) ++ Request m ∷ Go 504 ∷ []
unfolding visits
visits_more m some =
    let next : m + 1 - 1 ≡ suc (m - 1) = omega arith in
    let last : 1 + (m - 1) ≡ m = omega arith in
    ap (λ (n : ℕ). flat_map visit (range_with_len 1 n)) next
    ∙ ap (flat_map visit) (range_more 1 (m - 1))
    ∙ flat_map-append visit (range_with_len 1 (m - 1)) ((1 + (m - 1)) ∷ [])
    ∙ ap (λ (n : ℕ). flat_map visit (range_with_len 1 (m - 1)) ++ visit n) last

modes_eight : (seed : ℕ) → length (drill_set seed).modes ≡ 8
unfolding drill_set below
modes_eight seed = refl

pub script_fits : (seed : ℕ) → FitsScript (drill_set seed) drill_script
unfolding visits
script_fits seed =
    let go : 336 ≤ 1000000 = omega arith in
    let stay : 504 ≤ 1000000 = omega arith in
    let one : (m : ℕ) → m < 8 → m < length (drill_set seed).modes = λ m h. omega (arith, modes_eight seed) in
    record {
      lines = All-from_recursion (FitsLine (drill_set seed)) drill_script (
        go,
        (
          one 1 (omega arith),
          (
            stay,
            (
              one 2 (omega arith),
              (
                stay,
                (
                  one 3 (omega arith),
                  (
                    stay,
                    (
                      one 4 (omega arith),
                      (
                        stay,
                        (one 5 (omega arith), (stay, (one 6 (omega arith), (stay, (one 7 (omega arith), (stay, tt)))))),
                      ),
                    ),
                  ),
                ),
              ),
            ),
          ),
        ),
      );
      few = omega arith;
      advances_few = omega arith;
    }
