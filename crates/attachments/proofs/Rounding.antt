-- What is rounded up is the least multiple that is not below the number.
use Rattle.std.proofs.Common.{◌≡◌, ℕ, ◌+◌, ◌-◌, ◌*◌, ◌/◌, ◌%◌, ◌<◌, ap, ◌∙◌, inl, inr, mod-lt, mod-eq_of_lt, div-add-mod', arith}
use native.Mathlib.Nat.{sub-zero, mod_self, mul-mod_left}
use Rattle.std.proofs.lemmas.Bool.{cases_eq}
use Rattle.attachments.specs.Bytes.{round_up, Rounding}

-- of a multiple: itself
at_multiple : (n a : ℕ) → n % a ≡ 0 → round_up n a ≡ n
at_multiple n a e =
    let z : (a - n % a) % a ≡ 0 = ap (λ (k : ℕ). (a - k) % a) e ∙ ap (λ (k : ℕ). k % a) (sub-zero a) ∙ mod_self a in
    omega arith

-- of any other number: the multiple after it
between : (n a : ℕ) → 0 < a → (n % a ≡ 0 → ⊥) → (round_up n a ≡ n + (a - n % a)) × (round_up n a ≡ (n / a + 1) * a)
between n a h k =
    let l : n % a < a = mod-lt n h in
    let s : (a - n % a) % a ≡ a - n % a = mod-eq_of_lt (omega arith) in
    let e : n + (a - n % a) ≡ (n / a + 1) * a = omega (arith, div-add-mod' n a) in
    (omega arith, omega arith)

pub rounding : Rounding
rounding n a h =
    elim (cases_eq (n % a) 0) [
      | inl e ↦ let r = at_multiple n a e in (ap (λ (k : ℕ). k % a) r ∙ e, omega arith, omega arith)
      | inr k ↦
          let w = between n a h k in
          let l : n % a < a = mod-lt n h in
          let v = w.0 in
          (ap (λ (m : ℕ). m % a) w.1 ∙ mul-mod_left (n / a + 1) a, omega arith, omega arith)
    ]
