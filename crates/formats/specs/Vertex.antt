-- The size of a vertex format: its component width in bytes times its component count.
use Rattle.std.specs.Prelude.{ℕ, ◌*◌, Bool, List, [], ◌∷◌, ◌++◌, map, ◌==◌, slice_index}
use Rattle.formats.specs.declared.vertex.VertexFormat.{VertexFormat}
use Rattle.formats.specs.declared.vertex.VertexFormat.TheVariants.{Uint8, Uint8x2, Uint8x4, Sint8, Sint8x2, Sint8x4, Unorm8, Unorm8x2, Unorm8x4, Snorm8, Snorm8x2, Snorm8x4, Uint16, Uint16x2, Uint16x4, Sint16, Sint16x2, Sint16x4, Unorm16, Unorm16x2, Unorm16x4, Snorm16, Snorm16x2, Snorm16x4, Float16, Float16x2, Float16x4, Float32, Float32x2, Float32x3, Float32x4, Uint32, Uint32x2, Uint32x3, Uint32x4, Sint32, Sint32x2, Sint32x3, Sint32x4, Float64, Float64x2, Float64x3, Float64x4, Unorm10_10_10_2, Unorm8x4Bgra}

-- how many bytes a component has, and how many components there are
pub record Shape : Type 0 where
  pub width : ℕ
  pub count : ℕ

-- the formats of one kind: components of so many bytes, and how many there are in each of its formats
abbrev pub kind : ℕ → List ℕ → List Shape
kind width counts = map (λ n. record { width = width; count = n }) counts

abbrev pub one_two_four : List ℕ
one_two_four = 1 ∷ 2 ∷ 4 ∷ []

abbrev pub one_to_four : List ℕ
one_to_four = 1 ∷ 2 ∷ 3 ∷ 4 ∷ []

-- 8-bit Uint, Sint, Unorm, Snorm; 16-bit Uint, Sint, Unorm, Snorm, Float; Float32, Uint32, Sint32; Float64;
-- Unorm10_10_10_2, one packed word, and Unorm8x4Bgra
abbrev pub shapes : List Shape
shapes =
    kind 1 one_two_four ++ (kind 1 one_two_four ++ (kind 1 one_two_four ++ (kind 1 one_two_four
    ++ (kind 2 one_two_four ++ (kind 2 one_two_four ++ (kind 2 one_two_four ++ (kind 2 one_two_four ++ (kind 2 one_two_four
    ++ (kind 4 one_to_four ++ (kind 4 one_to_four ++ (kind 4 one_to_four
    ++ (kind 8 one_to_four
    ++ (kind 4 (1 ∷ []) ++ kind 1 (4 ∷ []))))))))))))))

abbrev pub sizes : List ℕ
sizes = map (λ s. s.width * s.count) shapes

abbrev pub size_at : ℕ → ℕ
size_at place = slice_index sizes place

abbrev pub width_at : ℕ → ℕ
width_at place = slice_index (map (λ s. s.width) shapes) place

-- the place of a format in the tables
abbrev pub place_of : VertexFormat → ℕ
place_of Uint8 = 0
place_of Uint8x2 = 1
place_of Uint8x4 = 2
place_of Sint8 = 3
place_of Sint8x2 = 4
place_of Sint8x4 = 5
place_of Unorm8 = 6
place_of Unorm8x2 = 7
place_of Unorm8x4 = 8
place_of Snorm8 = 9
place_of Snorm8x2 = 10
place_of Snorm8x4 = 11
place_of Uint16 = 12
place_of Uint16x2 = 13
place_of Uint16x4 = 14
place_of Sint16 = 15
place_of Sint16x2 = 16
place_of Sint16x4 = 17
place_of Unorm16 = 18
place_of Unorm16x2 = 19
place_of Unorm16x4 = 20
place_of Snorm16 = 21
place_of Snorm16x2 = 22
place_of Snorm16x4 = 23
place_of Float16 = 24
place_of Float16x2 = 25
place_of Float16x4 = 26
place_of Float32 = 27
place_of Float32x2 = 28
place_of Float32x3 = 29
place_of Float32x4 = 30
place_of Uint32 = 31
place_of Uint32x2 = 32
place_of Uint32x3 = 33
place_of Uint32x4 = 34
place_of Sint32 = 35
place_of Sint32x2 = 36
place_of Sint32x3 = 37
place_of Sint32x4 = 38
place_of Float64 = 39
place_of Float64x2 = 40
place_of Float64x3 = 41
place_of Float64x4 = 42
place_of Unorm10_10_10_2 = 43
place_of Unorm8x4Bgra = 44

abbrev pub size_of : VertexFormat → ℕ
size_of f = size_at (place_of f)

-- of the formats, those with components of eight bytes: the Float64 ones
abbrev pub is64bit : VertexFormat → Bool
is64bit f = width_at (place_of f) == 8
