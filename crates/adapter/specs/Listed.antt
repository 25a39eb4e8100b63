-- The map of a list of rows.
use Rattle.std.specs.Prelude.{◌≡◌, ℕ, ◌<◌, false, cond, List, [], ◌∷◌, length, ◌≢◌, slice_index_or}
use Rattle.formats.specs.Texture.{same_format}
use Rattle.formats.specs.declared.format_features.TextureFormatFeatures.{TextureFormatFeatures}
use Rattle.formats.specs.declared.texture.TextureFormat.{TextureFormat}
use Rattle.formats.specs.declared.texture.TextureFormat.TheVariants.{R8Unorm}
use Rattle.adapter.specs.declared.listed.FormatRow.{FormatRow}

-- not renderable, not blendable, no count above one
abbrev pub nothing : TextureFormatFeatures
nothing =
    record {
      renderable = false;
      flags = record { blendable = false; multisample_x2 = false; multisample_x4 = false; multisample_x8 = false; multisample_x16 = false };
    }

-- the first row of the format answers; without one, nothing is granted
abbrev pub listed : List FormatRow → TextureFormat → TextureFormatFeatures
listed [] f = nothing
listed (row ∷ rows) f = cond (same_format row.format f) row.features (listed rows f)

-- the row at a place of the list
abbrev pub row_at : List FormatRow → ℕ → FormatRow
row_at rows k = slice_index_or rows k (record { format = R8Unorm; features = nothing })

-- no row before place k is of the format
abbrev pub NoneBefore : List FormatRow → ℕ → TextureFormat → Type 0
NoneBefore rows k f = (j : ℕ) → j < k → (row_at rows j).format ≢ f

-- a row of the format answers if it is the first; and if there is none, nothing is granted
pub record FirstRowAnswers (rows : List FormatRow) (f : TextureFormat) (r : TextureFormatFeatures) : Type 0 where
  pub first : (k : ℕ) → k < length rows → (row_at rows k).format ≡ f → NoneBefore rows k f → r ≡ (row_at rows k).features
  pub missing : NoneBefore rows (length rows) f → r ≡ nothing
