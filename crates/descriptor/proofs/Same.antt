-- Two targets that write alike, by the places of their factors and operations, are those with one write mask and one blend state.
use Rattle.std.proofs.Common.{◌≡◌, ℕ, Bool, eqb, Some, None, Decides, Option, refl, ap, rules}
use Rattle.std.specs.Option.{option_eq}
use Rattle.std.proofs.lemmas.Bool.Decides.{Decides-and, Decides-at, Decides-eqb, Decides-like}
use Rattle.descriptor.specs.Blend.{same_factor, same_operation, same_component, same_state, same_blend, writes_like, Alike}
use Rattle.descriptor.specs.declared.blend.BlendFactor.{BlendFactor}
use Rattle.descriptor.specs.declared.blend.BlendOperation.{BlendOperation}
use Rattle.descriptor.specs.declared.blend.BlendComponent.{BlendComponent}
use Rattle.descriptor.specs.declared.blend.BlendState.{BlendState}
use Rattle.descriptor.specs.declared.blend.ColorTargetState.{ColorTargetState}
use Rattle.descriptor.specs.declared.blend.ColorWrites.{ColorWrites}
use Rattle.descriptor.specs.contracts.blend.BlendComponentPartialEq.TheImpl as Component
use Rattle.descriptor.specs.contracts.blend.BlendStatePartialEq.TheImpl as State

factor : (a b : BlendFactor) → Decides (same_factor a b) (a ≡ b)
factor a b = search rules

operation : (a b : BlendOperation) → Decides (same_operation a b) (a ≡ b)
operation a b = search rules

-- the derived equality of records is the sameness by places
pub derived_component : (a b : BlendComponent) → Component.eq-value.it a b ≡ same_component a b
derived_component a b = refl

pub derived_state : (a b : BlendState) → State.eq-value.it a b ≡ same_state a b
derived_state a b = refl

pub derived_blend : (a b : Option BlendState) → option_eq State.eq-value.it a b ≡ same_blend a b
derived_blend None None = refl
derived_blend None (Some b) = refl
derived_blend (Some a) None = refl
derived_blend (Some a) (Some b) = derived_state a b

-- a record is known by its fields
component_of : (s t d e : BlendFactor) (o p : BlendOperation) → s ≡ t → d ≡ e → o ≡ p → ◌≡◌ {A = BlendComponent} (record { src_factor = s; dst_factor = d; operation = o }) (record { src_factor = t; dst_factor = e; operation = p })
component_of s t d e o p h k l = rw (h, k, l) refl

component : (a b : BlendComponent) → Decides (same_component a b) (a ≡ b)
component a b =
    Decides-like (same_component a b) (λ e. component_of _ _ _ _ _ _ e.0 e.1.0 e.1.1) (λ e. (ap (λ c. c.src_factor) e, (ap (λ c. c.dst_factor) e, ap (λ c. c.operation) e)))
    (Decides-and (same_factor a.src_factor b.src_factor) _ (factor a.src_factor b.src_factor)
    (Decides-and (same_factor a.dst_factor b.dst_factor) (same_operation a.operation b.operation) (factor a.dst_factor b.dst_factor) (operation a.operation b.operation)))

state_of : (c d a b : BlendComponent) → c ≡ d → a ≡ b → ◌≡◌ {A = BlendState} (record { color = c; alpha = a }) (record { color = d; alpha = b })
state_of c d a b h k = rw (h, k) refl

state : (a b : BlendState) → Decides (same_state a b) (a ≡ b)
state a b =
    Decides-like (same_state a b) (λ e. state_of _ _ _ _ e.0 e.1) (λ e. (ap (λ s. s.color) e, ap (λ s. s.alpha) e))
    (Decides-and (same_component a.color b.color) (same_component a.alpha b.alpha) (component a.color b.color) (component a.alpha b.alpha))

blend : (a b : Option BlendState) → Decides (same_blend a b) (a ≡ b)
blend None None = (λ h. refl, λ e. refl)
blend None (Some b) = (λ h. cc, λ e. cc)
blend (Some a) None = (λ h. cc, λ e. cc)
blend (Some a) (Some b) = Decides-like (same_state a b) (ap Some) (λ e. cc) (state a b)

mask_of : (a b : ℕ) → a ≡ b → ◌≡◌ {A = ColorWrites} (record { bits = a }) (record { bits = b })
mask_of a b h = rw h refl

mask : (a b : ColorWrites) → Decides (eqb a.bits b.bits) (a ≡ b)
mask a b = Decides-like (eqb a.bits b.bits) (mask_of a.bits b.bits) (ap (λ w. w.bits)) (Decides-eqb a.bits b.bits)

pub alike : (s t : ColorTargetState) → Decides (writes_like s t) (Alike s t)
alike s t =
    Decides-and (eqb s.write_mask.bits t.write_mask.bits) (same_blend s.blend t.blend) (mask s.write_mask t.write_mask) (blend s.blend t.blend)

pub alike_at : (s t : ColorTargetState) (r : Bool) → r ≡ writes_like s t → Decides r (Alike s t)
alike_at s t r e = Decides-at r (writes_like s t) e (alike s t)
