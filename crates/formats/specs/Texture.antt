-- The texture formats: a row for each, and what follows from it.
use Rattle.std.specs.Prelude.{◌≡◌, ℕ, ◌%◌, ◌≤◌, Bool, true, false, not, ◌||◌, Some, None, Option, ◌==◌}
use Rattle.formats.specs.Features.{includes, no_features, float32_blendable, rg11b10ufloat_renderable, depth32float_stencil8}
use Rattle.formats.specs.declared.features.Features.{Features}
use Rattle.formats.specs.declared.format_features.TextureFormatFeatureFlags.{TextureFormatFeatureFlags}
use Rattle.formats.specs.declared.format_features.TextureFormatFeatures.{TextureFormatFeatures}
use Rattle.formats.specs.declared.rows.Given.{Given}
use Rattle.formats.specs.declared.rows.Given.TheVariants.{Never, Always, With}
use Rattle.formats.specs.declared.rows.Uses.{Uses}
use Rattle.formats.specs.declared.rows.Row.{Row}
use Rattle.formats.specs.declared.texture.FormatAspects.{FormatAspects}
use Rattle.formats.specs.declared.texture.TargetCost.{TargetCost}
use Rattle.formats.specs.declared.texture.TextureFormat.{TextureFormat}
use Rattle.formats.specs.declared.texture.TextureFormat.TheVariants.{R8Unorm, R8Uint, R8Sint, Rg8Unorm, Rg8Uint, Rg8Sint, Rgba8Uint, Rgba8Sint, Rgba8Unorm, Rgba8UnormSrgb, Bgra8Unorm, Bgra8UnormSrgb, R16Uint, R16Sint, R16Float, Rg16Uint, Rg16Sint, Rg16Float, Rgba16Uint, Rgba16Sint, Rgba16Float, R32Uint, R32Sint, R32Float, Rg32Uint, Rg32Sint, Rg32Float, Rgba32Uint, Rgba32Sint, Rgba32Float, Rgb10a2Uint, Rgb10a2Unorm, Rg11b10Ufloat, Rgb9e5Ufloat, Stencil8, Depth16Unorm, Depth24Plus, Depth24PlusStencil8, Depth32Float, Depth32FloatStencil8}

-- renderable, blendable, with four samples: each never, always, or with a feature
abbrev pub uses_of : Given → Given → Given → Uses
uses_of renderable blendable four = record { renderable = renderable; blendable = blendable; multisample_x4 = four }

-- renderable, and no more
abbrev pub drawn : Uses
drawn = uses_of Always Never Never

-- renderable, with four samples
abbrev pub sampled : Uses
sampled = uses_of Always Never Always

-- renderable and blendable, with four samples
abbrev pub blended : Uses
blended = uses_of Always Always Always

-- renderable; blendable with FLOAT32_BLENDABLE
abbrev pub float32 : Uses
float32 = uses_of Always (With float32_blendable) Never

-- the same, with four samples
abbrev pub float32_sampled : Uses
float32_sampled = uses_of Always (With float32_blendable) Always

-- all three, with RG11B10UFLOAT_RENDERABLE
abbrev pub rg11b10ufloat : Uses
rg11b10ufloat = uses_of (With rg11b10ufloat_renderable) (With rg11b10ufloat_renderable) (With rg11b10ufloat_renderable)

-- nothing can be done
abbrev pub unused : Uses
unused = uses_of Never Never Never

-- a color format, of which a target has this cost, or none
abbrev pub colored : Option TargetCost → Uses → Row
colored cost uses =
    record {
      aspects = record { color = true; depth = false; stencil = false };
      cost = cost;
      required_features = no_features;
      uses = uses;
    }

-- a color format: the byte cost of a pixel of a target, the alignment of a component, and what can be done with it
abbrev pub target : ℕ → ℕ → Uses → Row
target cost alignment uses = colored (Some (record { pixel_byte_cost = cost; component_alignment = alignment })) uses

-- a format with depth, with stencil, or with both, that needs these features
abbrev pub depth_stencil_row : Bool → Bool → Features → Row
depth_stencil_row depth stencil needed =
    record {
      aspects = record { color = false; depth = depth; stencil = stencil };
      cost = None;
      required_features = needed;
      uses = sampled;
    }

-- the table
abbrev pub row_of : TextureFormat → Row
row_of R8Unorm = target 1 1 blended
row_of R8Uint = target 1 1 sampled
row_of R8Sint = target 1 1 sampled
row_of Rg8Unorm = target 2 1 blended
row_of Rg8Uint = target 2 1 sampled
row_of Rg8Sint = target 2 1 sampled
row_of Rgba8Uint = target 4 1 sampled
row_of Rgba8Sint = target 4 1 sampled
row_of Rgba8Unorm = target 8 1 blended
row_of Rgba8UnormSrgb = target 8 1 blended
row_of Bgra8Unorm = target 8 1 blended
row_of Bgra8UnormSrgb = target 8 1 blended
row_of R16Uint = target 2 2 sampled
row_of R16Sint = target 2 2 sampled
row_of R16Float = target 2 2 blended
row_of Rg16Uint = target 4 2 sampled
row_of Rg16Sint = target 4 2 sampled
row_of Rg16Float = target 4 2 blended
row_of Rgba16Uint = target 8 2 sampled
row_of Rgba16Sint = target 8 2 sampled
row_of Rgba16Float = target 8 2 blended
row_of R32Uint = target 4 4 drawn
row_of R32Sint = target 4 4 drawn
row_of R32Float = target 4 4 float32_sampled
row_of Rg32Uint = target 8 4 drawn
row_of Rg32Sint = target 8 4 drawn
row_of Rg32Float = target 8 4 float32
row_of Rgba32Uint = target 16 4 drawn
row_of Rgba32Sint = target 16 4 drawn
row_of Rgba32Float = target 16 4 float32
row_of Rgb10a2Uint = target 8 4 sampled
row_of Rgb10a2Unorm = target 8 4 blended
row_of Rg11b10Ufloat = target 8 4 rg11b10ufloat
row_of Rgb9e5Ufloat = colored None unused
row_of Stencil8 = depth_stencil_row false true no_features
row_of Depth16Unorm = depth_stencil_row true false no_features
row_of Depth24Plus = depth_stencil_row true false no_features
row_of Depth24PlusStencil8 = depth_stencil_row true true no_features
row_of Depth32Float = depth_stencil_row true false no_features
row_of Depth32FloatStencil8 = depth_stencil_row true true depth32float_stencil8

-- what a texture of the format holds
abbrev pub aspects_of : TextureFormat → FormatAspects
aspects_of f = (row_of f).aspects

-- what a color target of the format costs
abbrev pub cost_of : TextureFormat → Option TargetCost
cost_of f = (row_of f).cost

-- the features without which there is no texture of the format
abbrev pub required_of : TextureFormat → Features
required_of f = (row_of f).required_features

-- whether devices with these features have it
abbrev pub given : Features → Given → Bool
given fs Never = false
given fs Always = true
given fs (With gs) = includes fs gs

-- what can be done with the format on every device with these features
abbrev pub guaranteed : Features → TextureFormat → TextureFormatFeatures
guaranteed fs f =
    record {
      renderable = given fs (row_of f).uses.renderable;
      flags =
          record {
            blendable = given fs (row_of f).uses.blendable;
            multisample_x2 = false;
            multisample_x4 = given fs (row_of f).uses.multisample_x4;
            multisample_x8 = false;
            multisample_x16 = false;
          };
    }

-- there is no color exactly if there is depth or stencil
abbrev pub ColorApart : FormatAspects → Type 0
ColorApart s = s.color ≡ not (s.depth || s.stencil)

-- a cost is a positive multiple of its alignment, or there is none
abbrev pub Multiple : Option TargetCost → Type 0
Multiple None = Unit {0}
Multiple (Some t) =
    (1 ≤ t.component_alignment) × (1 ≤ t.pixel_byte_cost) × (t.pixel_byte_cost % t.component_alignment ≡ 0)

-- no alignment is above 4, and no cost above 16
abbrev pub Small : Option TargetCost → Type 0
Small None = Unit {0}
Small (Some t) = (t.component_alignment ≤ 4) × (t.pixel_byte_cost ≤ 16)

-- of the counts above one, four or none
abbrev pub OnlyFour : TextureFormatFeatureFlags → Type 0
OnlyFour s = (s.multisample_x2 ≡ false) × (s.multisample_x8 ≡ false) × (s.multisample_x16 ≡ false)

-- the place of a format among the forty
abbrev pub place_of : TextureFormat → ℕ
place_of R8Unorm = 0
place_of R8Uint = 1
place_of R8Sint = 2
place_of Rg8Unorm = 3
place_of Rg8Uint = 4
place_of Rg8Sint = 5
place_of Rgba8Uint = 6
place_of Rgba8Sint = 7
place_of Rgba8Unorm = 8
place_of Rgba8UnormSrgb = 9
place_of Bgra8Unorm = 10
place_of Bgra8UnormSrgb = 11
place_of R16Uint = 12
place_of R16Sint = 13
place_of R16Float = 14
place_of Rg16Uint = 15
place_of Rg16Sint = 16
place_of Rg16Float = 17
place_of Rgba16Uint = 18
place_of Rgba16Sint = 19
place_of Rgba16Float = 20
place_of R32Uint = 21
place_of R32Sint = 22
place_of R32Float = 23
place_of Rg32Uint = 24
place_of Rg32Sint = 25
place_of Rg32Float = 26
place_of Rgba32Uint = 27
place_of Rgba32Sint = 28
place_of Rgba32Float = 29
place_of Rgb10a2Uint = 30
place_of Rgb10a2Unorm = 31
place_of Rg11b10Ufloat = 32
place_of Rgb9e5Ufloat = 33
place_of Stencil8 = 34
place_of Depth16Unorm = 35
place_of Depth24Plus = 36
place_of Depth24PlusStencil8 = 37
place_of Depth32Float = 38
place_of Depth32FloatStencil8 = 39

-- two formats are one if their places are
abbrev pub same_format : TextureFormat → TextureFormat → Bool
same_format a b = place_of a == place_of b
