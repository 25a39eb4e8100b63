-- What is left of a loop's answer, from its state and the rest of its list, and one turn of it.
use Rattle.std.proofs.Common.{◌≡◌, ℕ, ◌+◌, ◌<◌, Bool, List, length, get_or, drop, Ok, Err, Option, Result, sym, refl, ap, ◌∙◌, arith}
use Rattle.std.proofs.lemmas.List.{at_drop_more}
use Rattle.faults.specs.Faults.{first_of, answer}
use Rattle.faults.proofs.Order.{lists_refused, lists_passed}
use Rattle.device.specs.declared.Device.{Device}
use Rattle.descriptor.specs.declared.vertex.VertexAttribute.{VertexAttribute}
use Rattle.descriptor.specs.declared.vertex.VertexBufferLayout.{VertexBufferLayout}
use Rattle.vertex.specs.declared.error.VertexStateError.{VertexStateError}
use Rattle.vertex.specs.Order.{attributes_verdicts, greatest_end, claim_verdicts, claims_verdicts, mark, mark_all, ranges_verdicts, slots_verdicts}

-- the answer of a check that has no value
abbrev pub passes : Option VertexStateError → Result (Unit {0}) VertexStateError
passes o = answer o tt

-- the first round over a slot's attributes, with the greatest end so far
abbrev pub attributes_answer : Device → ℕ → ℕ → List VertexAttribute → Result ℕ VertexStateError
attributes_answer d most last part = answer (first_of (attributes_verdicts d most part)) (greatest_end last part)

-- the ranges of the slots from an index on
abbrev pub ranges_answer : ℕ → ℕ → List (Option VertexBufferLayout) → Result (Unit {0}) VertexStateError
ranges_answer n index slots = passes (first_of (ranges_verdicts n index slots))

-- the second round over a slot's attributes, beside the locations that are used
abbrev pub claims_answer : Device → (ℕ → Bool) → List VertexAttribute → Result (Unit {0}) VertexStateError
claims_answer d used part = passes (first_of (claims_verdicts d used part))

module _ (d : Device) (used : ℕ → Bool) (part : List VertexAttribute) (i : ℕ) (a : VertexAttribute) (h : i < length part)
    (whole : Result (Unit {0}) VertexStateError) (q : whole ≡ claims_answer d used (drop i part)) where
  abbrev claimant : VertexAttribute
  claimant = get_or part i a

  abbrev others : List VertexAttribute
  others = drop (i + 1) part

  pub claims_refused : (e : VertexStateError) → Err e ≡ passes (first_of (claim_verdicts d used claimant)) → Err e ≡ whole
  claims_refused e p = lists_refused (claims_answer d used) part i a (claim_verdicts d used claimant) (claims_verdicts d (mark used claimant) others) tt refl h whole q tt e p

  pub claims_passed : (next : ℕ → Bool) → next ≡ mark used claimant → Ok tt ≡ passes (first_of (claim_verdicts d used claimant)) → whole ≡ claims_answer d next others
  claims_passed next n p =
      lists_passed (claims_answer d used) part i a (claim_verdicts d used claimant) (claims_verdicts d (mark used claimant) others) tt refl h whole q tt tt p ∙ ap (λ u. claims_answer d u others) (sym n)

  -- what is claimed in the end, from what is claimed after one more
  pub marks_more : (all next : ℕ → Bool) → all ≡ mark_all used (drop i part) → next ≡ mark used claimant → all ≡ mark_all next others
  marks_more all next p n = let turn = at_drop_more (mark_all used) part i a h in grind (arith, turn)

-- the slots from an index on, beside the locations that are used
abbrev pub slots_answer : Device → List VertexAttribute → ℕ → (ℕ → Bool) → List (Option VertexBufferLayout) → Result (Unit {0}) VertexStateError
slots_answer d attributes index used slots = passes (first_of (slots_verdicts d attributes index used slots))
