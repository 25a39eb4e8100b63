-- The color targets of a style: what blend factors and operations ask for.
use Rattle.std.specs.Prelude.{◌≡◌, ℕ, Bool, true, false, ◌&&◌, ◌||◌, Some, None, Option, ◌==◌, nat_lt}
use Rattle.descriptor.specs.declared.blend.BlendFactor.{BlendFactor}
use Rattle.descriptor.specs.declared.blend.BlendFactor.TheVariants.{Zero, One, Src, OneMinusSrc, SrcAlpha, OneMinusSrcAlpha, Dst, OneMinusDst, DstAlpha, OneMinusDstAlpha, SrcAlphaSaturated, Constant, OneMinusConstant, Src1, OneMinusSrc1, Src1Alpha, OneMinusSrc1Alpha}
use Rattle.descriptor.specs.declared.blend.BlendOperation.{BlendOperation}
use Rattle.descriptor.specs.declared.blend.BlendOperation.TheVariants.{Add, Subtract, ReverseSubtract, Min, Max}
use Rattle.descriptor.specs.declared.blend.BlendComponent.{BlendComponent}
use Rattle.descriptor.specs.declared.blend.BlendState.{BlendState}
use Rattle.descriptor.specs.declared.blend.ColorTargetState.{ColorTargetState}
use Rattle.descriptor.specs.declared.blend.ColorWrites.{ColorWrites}

-- the place of a factor among the seventeen
abbrev pub factor_place : BlendFactor → ℕ
factor_place Zero = 0
factor_place One = 1
factor_place Src = 2
factor_place OneMinusSrc = 3
factor_place SrcAlpha = 4
factor_place OneMinusSrcAlpha = 5
factor_place Dst = 6
factor_place OneMinusDst = 7
factor_place DstAlpha = 8
factor_place OneMinusDstAlpha = 9
factor_place SrcAlphaSaturated = 10
factor_place Constant = 11
factor_place OneMinusConstant = 12
factor_place Src1 = 13
factor_place OneMinusSrc1 = 14
factor_place Src1Alpha = 15
factor_place OneMinusSrc1Alpha = 16

-- a factor that reads the second color that a shader gives
abbrev pub second_source : BlendFactor → Bool
second_source Zero = false
second_source One = false
second_source Src = false
second_source OneMinusSrc = false
second_source SrcAlpha = false
second_source OneMinusSrcAlpha = false
second_source Dst = false
second_source OneMinusDst = false
second_source DstAlpha = false
second_source OneMinusDstAlpha = false
second_source SrcAlphaSaturated = false
second_source Constant = false
second_source OneMinusConstant = false
second_source Src1 = true
second_source OneMinusSrc1 = true
second_source Src1Alpha = true
second_source OneMinusSrc1Alpha = true

-- a factor that is the pass's blend constant, or what is left of one
abbrev pub is_constant : BlendFactor → Bool
is_constant Zero = false
is_constant One = false
is_constant Src = false
is_constant OneMinusSrc = false
is_constant SrcAlpha = false
is_constant OneMinusSrcAlpha = false
is_constant Dst = false
is_constant OneMinusDst = false
is_constant DstAlpha = false
is_constant OneMinusDstAlpha = false
is_constant SrcAlphaSaturated = false
is_constant Constant = true
is_constant OneMinusConstant = true
is_constant Src1 = false
is_constant OneMinusSrc1 = false
is_constant Src1Alpha = false
is_constant OneMinusSrc1Alpha = false

abbrev pub is_one : BlendFactor → Bool
is_one Zero = false
is_one One = true
is_one Src = false
is_one OneMinusSrc = false
is_one SrcAlpha = false
is_one OneMinusSrcAlpha = false
is_one Dst = false
is_one OneMinusDst = false
is_one DstAlpha = false
is_one OneMinusDstAlpha = false
is_one SrcAlphaSaturated = false
is_one Constant = false
is_one OneMinusConstant = false
is_one Src1 = false
is_one OneMinusSrc1 = false
is_one Src1Alpha = false
is_one OneMinusSrc1Alpha = false

-- the operations that take no factors
abbrev pub is_min_max : BlendOperation → Bool
is_min_max Add = false
is_min_max Subtract = false
is_min_max ReverseSubtract = false
is_min_max Min = true
is_min_max Max = true

-- a factor of the component is the pass's blend constant, or what is left of one
abbrev pub uses_constant : BlendComponent → Bool
uses_constant c = is_constant c.src_factor || is_constant c.dst_factor

-- a factor of the component reads the second color
abbrev pub reads_second : BlendComponent → Bool
reads_second c = second_source c.src_factor || second_source c.dst_factor

-- a bit is set that is no channel's: there are four channels
abbrev pub unknown_bits : ColorWrites → Bool
unknown_bits w = nat_lt 15 w.bits

-- the place of an operation among the five
abbrev pub operation_place : BlendOperation → ℕ
operation_place Add = 0
operation_place Subtract = 1
operation_place ReverseSubtract = 2
operation_place Min = 3
operation_place Max = 4

-- two factors are one if their places are, and so for operations
abbrev pub same_factor : BlendFactor → BlendFactor → Bool
same_factor a b = factor_place a == factor_place b

abbrev pub same_operation : BlendOperation → BlendOperation → Bool
same_operation a b = operation_place a == operation_place b

abbrev pub same_component : BlendComponent → BlendComponent → Bool
same_component a b =
    same_factor a.src_factor b.src_factor
    && (same_factor a.dst_factor b.dst_factor && same_operation a.operation b.operation)

abbrev pub same_state : BlendState → BlendState → Bool
same_state a b = same_component a.color b.color && same_component a.alpha b.alpha

abbrev pub same_blend : Option BlendState → Option BlendState → Bool
same_blend None None = true
same_blend None (Some b) = false
same_blend (Some a) None = false
same_blend (Some a) (Some b) = same_state a b

-- two targets write the same channels, blended in the same way
abbrev pub writes_like : ColorTargetState → ColorTargetState → Bool
writes_like s t = s.write_mask.bits == t.write_mask.bits && same_blend s.blend t.blend

abbrev pub Alike : ColorTargetState → ColorTargetState → Type 0
Alike s t = (s.write_mask ≡ t.write_mask) × (s.blend ≡ t.blend)
