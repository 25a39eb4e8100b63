-- Sets of features and of downlevel flags: the place of each name, and when one set is part of another.
use Rattle.std.specs.Prelude.{ℕ, ◌^◌, Bool}
use Rattle.formats.specs.Flags.{holds}
use Rattle.formats.specs.declared.features.Features.{Features}
use Rattle.formats.specs.declared.features.DownlevelFlags.{DownlevelFlags}

-- each feature of the second set is in the first
abbrev pub includes : Features → Features → Bool
includes fs gs = holds fs.bits gs.bits

abbrev pub includes_flags : DownlevelFlags → DownlevelFlags → Bool
includes_flags fs gs = holds fs.bits gs.bits

abbrev pub no_features : Features
no_features = record { bits = 0 }

-- the set of the one feature at a place
abbrev pub feature_at : ℕ → Features
feature_at place = record { bits = 2 ^ place }

-- depths that are not clipped
abbrev pub depth_clip_control : Features
depth_clip_control = feature_at 0

-- polygons drawn as lines
abbrev pub polygon_mode_line : Features
polygon_mode_line = feature_at 1

-- polygons drawn as points
abbrev pub polygon_mode_point : Features
polygon_mode_point = feature_at 2

-- pixels drawn that a primitive only touches
abbrev pub conservative_rasterization : Features
conservative_rasterization = feature_at 3

-- 64-bit vertex formats
abbrev pub vertex_attribute_64bit : Features
vertex_attribute_64bit = feature_at 4

-- blending by a second color
abbrev pub dual_source_blending : Features
dual_source_blending = feature_at 5

-- blending on 32-bit float formats
abbrev pub float32_blendable : Features
float32_blendable = feature_at 6

-- drawing on Rg11b10Ufloat
abbrev pub rg11b10ufloat_renderable : Features
rg11b10ufloat_renderable = feature_at 7

-- the format Depth32FloatStencil8
abbrev pub depth32float_stencil8 : Features
depth32float_stencil8 = feature_at 8

-- formats as the adapter answers
abbrev pub texture_adapter_specific_format_features : Features
texture_adapter_specific_format_features = feature_at 9

-- several views drawn at once
abbrev pub multiview : Features
multiview = feature_at 10

-- any choice of views, and not only the first ones
abbrev pub selective_multiview : Features
selective_multiview = feature_at 11

-- the set of the one flag at a place
abbrev pub flag_at : ℕ → DownlevelFlags
flag_at place = record { bits = 2 ^ place }

-- targets that are written or blended each in its own way
abbrev pub independent_blend : DownlevelFlags
independent_blend = flag_at 0

-- a bias of depths that is clamped
abbrev pub depth_bias_clamp : DownlevelFlags
depth_bias_clamp = flag_at 1

-- formats can do all that WebGPU says
abbrev pub webgpu_texture_format_support : DownlevelFlags
webgpu_texture_format_support = flag_at 2
