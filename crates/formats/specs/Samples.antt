-- The sample counts of a texture.
use Rattle.std.specs.Prelude.{ℕ, ◌+◌, Bool, cond, ◌&&◌, ◌||◌, List, [], ◌∷◌, ◌==◌}
use Rattle.formats.specs.declared.format_features.TextureFormatFeatureFlags.{TextureFormatFeatureFlags}

-- one sample always, and of 2, 4, 8 and 16 those that are flagged
abbrev pub supports : TextureFormatFeatureFlags → ℕ → Bool
supports s n =
    (n == 1)
    || (n == 2 && s.multisample_x2)
    || (n == 4 && s.multisample_x4)
    || (n == 8 && s.multisample_x8)
    || (n == 16 && s.multisample_x16)

-- the counts that a texture can have at all
abbrev pub counts : List ℕ
counts = 1 ∷ 2 ∷ 4 ∷ 8 ∷ 16 ∷ []

-- the sum of those numbers of a list that pass
abbrev pub sum_of : (ℕ → Bool) → List ℕ → ℕ
sum_of p [] = 0
sum_of p (n ∷ ns) = cond (p n) n 0 + sum_of p ns

abbrev pub sum_of_counts : TextureFormatFeatureFlags → ℕ
sum_of_counts s = sum_of (supports s) counts
