-- Sameness of factors, operations, components and blend states is reflexive and symmetric, and goes along a chain.
use Rattle.std.specs.Cmp.{IsEquivalence, nat_eq_equiv, on_equiv, and_equiv}
use Rattle.descriptor.specs.Blend.{factor_place, operation_place, same_factor, same_operation, same_component, same_state}
use Rattle.descriptor.specs.declared.blend.BlendComponent.{BlendComponent}
use Rattle.descriptor.specs.declared.blend.BlendState.{BlendState}

pub same_factor_equiv : IsEquivalence same_factor
same_factor_equiv = on_equiv factor_place nat_eq_equiv

pub same_operation_equiv : IsEquivalence same_operation
same_operation_equiv = on_equiv operation_place nat_eq_equiv

pub same_component_equiv : IsEquivalence same_component
same_component_equiv =
    and_equiv (on_equiv (λ (c : BlendComponent). c.src_factor) same_factor_equiv)
    (and_equiv (on_equiv (λ (c : BlendComponent). c.dst_factor) same_factor_equiv) (on_equiv (λ (c : BlendComponent). c.operation) same_operation_equiv))

pub same_state_equiv : IsEquivalence same_state
same_state_equiv =
    and_equiv (on_equiv (λ (s : BlendState). s.color) same_component_equiv) (on_equiv (λ (s : BlendState). s.alpha) same_component_equiv)
