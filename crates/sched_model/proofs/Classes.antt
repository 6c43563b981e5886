-- Numbers of round instances that name one round
use Rattle.std.proofs.Common.{◌≡◌, ℕ, ◌+◌, ◌-◌, ◌*◌, ◌/◌, ◌%◌, ◌≤◌, ◌∙◌, ap, arith}
use Rattle.std.proofs.lemmas.Nat.{div-add-mod', mod_below, div-mul-add, mod-mul-add, le-div}

-- g + n * R is in the same round, n hyperperiods later
pub later_round : (r g n : ℕ) → 1 ≤ r → 1 ≤ g → (g + n * r - 1) % r ≡ (g - 1) % r
later_round r g n h k =
    let e = div-add-mod' (g - 1) r in
    let b = mod_below (g - 1) r h in
    ap (λ x. x % r) (let s : g + n * r - 1 ≡ ((g - 1) / r + n) * r + (g - 1) % r = omega (arith, e) in s) ∙ mod-mul-add ((g - 1) / r + n) r ((g - 1) % r) b

pub later_turn : (r g n : ℕ) → 1 ≤ r → 1 ≤ g → (g + n * r - 1) / r ≡ (g - 1) / r + n
later_turn r g n h k =
    let e = div-add-mod' (g - 1) r in
    let b = mod_below (g - 1) r h in
    ap (λ x. x / r) (let s : g + n * r - 1 ≡ ((g - 1) / r + n) * r + (g - 1) % r = omega (arith, e) in s) ∙ div-mul-add ((g - 1) / r + n) r ((g - 1) % r) b

-- two numbers of one round differ by hyperperiods
pub apart_by : (r g h : ℕ) → 1 ≤ r → 1 ≤ g → g ≤ h → (g - 1) % r ≡ (h - 1) % r → (n : ℕ) × (h ≡ g + n * r)
apart_by r g h p q le e =
    let n = (h - 1) / r - (g - 1) / r in
    let eg = div-add-mod' (g - 1) r in
    let eh = div-add-mod' (h - 1) r in
    let up : (g - 1) / r ≤ (h - 1) / r = le-div ((g - 1) / r) (h - 1) r p (omega (arith, eg)) in
    let split : (h - 1) / r ≡ (g - 1) / r + n = omega (arith, up) in
    (n, omega (arith, ap (λ x. x * r) split, eg, eh))
