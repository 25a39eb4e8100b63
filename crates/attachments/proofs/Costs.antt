-- The loop over the attachments, and what the verdicts on their bytes mean.
use Rattle.std.proofs.Common.{◌≡◌, ℕ, ◌+◌, false, List, [], ◌∷◌, Some, None, All, Contains, Option, Result, sym, refl, ap, ◌∙◌}
use Rattle.std.proofs.lemmas.List.Elements.{All-nil, All-cons, All-head, All-tail, All-weaker, All-contains, All-contains_itself}
use Rattle.std.proofs.lemmas.Bool.{not-false, not_from_true, ltb-false, le-ltb}
use Rattle.faults.specs.Faults.{or_else, first_of, answer, Judged}
use Rattle.faults.proofs.Order.{or_none, both_none, none_both, not_if, if_not, judged}
use Rattle.formats.specs.declared.texture.TextureFormat.{TextureFormat}
use Rattle.device.specs.declared.Device.{Device}
use Rattle.attachments.specs.Bytes.{unpriced, cost_verdict, cost_verdicts, bytes_from, bytes_of, total_verdict, bytes_verdicts, BytesLawful}
use Rattle.attachments.specs.declared.error.ColorAttachmentError.{ColorAttachmentError}

-- the attachments from an index on, beside the bytes so far
abbrev pub costs_answer : ℕ → ℕ → List (Option TextureFormat) → Result ℕ ColorAttachmentError
costs_answer index total colors = answer (first_of (cost_verdicts index colors)) (bytes_from total colors)

-- each attachment has a byte cost
abbrev Priced : Option TextureFormat → Type 0
Priced color = unpriced color ≡ false

or_none_parts : {E : Type 0} (o p : Option E) → or_else o p ≡ None → (o ≡ None) × (p ≡ None)
or_none_parts (Some e) p h = (cc, cc)
or_none_parts None p h = (refl, h)

costs_none : (index : ℕ) (colors : List (Option TextureFormat)) → first_of (cost_verdicts index colors) ≡ None → All Priced colors
costs_none index [] h = All-nil Priced
costs_none index (color ∷ rest) h =
    let p = or_none_parts (cost_verdict index color) (first_of (cost_verdicts (index + 1) rest)) h in
    All-cons Priced color rest (not_if _ _ p.0) (costs_none (index + 1) rest p.1)

none_costs : (index : ℕ) (colors : List (Option TextureFormat)) → All Priced colors → first_of (cost_verdicts index colors) ≡ None
none_costs index [] h = refl
none_costs index (color ∷ rest) h =
    ap (λ o. or_else o (first_of (cost_verdicts (index + 1) rest))) (if_not _ _ (All-head Priced color rest h))
    ∙ none_costs (index + 1) rest (All-tail Priced color rest h)

module _ (d : Device) (colors : List (Option TextureFormat)) where
  lawful : first_of (bytes_verdicts d colors) ≡ None → BytesLawful d colors
  lawful h =
      let k = both_none (cost_verdicts 0 colors) (total_verdict d colors ∷ []) h in
      record {
        priced = λ f w. not-false _ (All-contains Priced colors (Some f) (costs_none 0 colors k.0) w);
        total = ltb-false _ _ (not_if _ _ (sym (or_none (total_verdict d colors)) ∙ k.1));
      }

  priced_all : BytesLawful d colors → (color : Option TextureFormat) → Contains colors color → Priced color
  priced_all l None w = refl
  priced_all l (Some f) w = not_from_true _ (l.priced f w)

  passes : BytesLawful d colors → first_of (bytes_verdicts d colors) ≡ None
  passes l =
      none_both (cost_verdicts 0 colors) (total_verdict d colors ∷ [])
      (none_costs 0 colors (All-weaker (Contains colors) Priced (priced_all l) colors (All-contains_itself colors)))
      (or_none (total_verdict d colors) ∙ if_not _ _ (le-ltb _ _ l.total))

  -- all that the judging answers, from its value
  pub bytes_judged : (r : Result ℕ ColorAttachmentError) → r ≡ answer (first_of (bytes_verdicts d colors)) (bytes_of colors) → Judged (bytes_verdicts d colors) (bytes_of colors) (BytesLawful d colors) r
  bytes_judged = judged (bytes_verdicts d colors) (bytes_of colors) (BytesLawful d colors) lawful passes
