-- The first row of a format answers.
use Rattle.std.proofs.Common.{◌≡◌, Bor, Some, None, Option, ℕ, zero, suc, ◌<◌, cond, List, [], ◌∷◌, length, find, refl, ap, ◌∙◌, le_of_suc-le-suc, not-suc-le-zero, arith, inl, inr}
use Rattle.std.specs.Option.{option_map_or, option_copied, MatchOption}
use Rattle.std.proofs.lemmas.Bool.{cases_Bool}
use Rattle.formats.specs.Texture.{same_format}
use Rattle.formats.proofs.Same.{means_same, differ}
use Rattle.formats.specs.declared.format_features.TextureFormatFeatures.{TextureFormatFeatures}
use Rattle.formats.specs.declared.texture.TextureFormat.{TextureFormat}
use Rattle.adapter.specs.Listed.{nothing, listed, row_at, NoneBefore, FirstRowAnswers}
use Rattle.adapter.specs.declared.listed.FormatRow.{FormatRow}

-- what the list answers is what its first row of the format grants
pub found : (f : TextureFormat) (rows : List FormatRow) → option_map_or (λ (row : FormatRow). row.features) (find (λ (row : FormatRow). same_format row.format f) rows) nothing ≡ listed rows f
found f [] = refl
found f (row ∷ rows) =
    elim (cases_Bool (same_format row.format f)) [
      | inl t ↦ rw t refl
      | inr n ↦ rw n (found f rows)
    ]

-- the same, of a search that answered a reference
pub answered : (f : TextureFormat) (rows : List FormatRow) (o : Option (Bor FormatRow)) (r : TextureFormatFeatures) → option_copied o ≡ find (λ row. same_format row.format f) rows → MatchOption o (r ≡ nothing) (λ row. r ≡ row.now.features) → r ≡ listed rows f
answered f rows (Some row) r e m = m ∙ ap (λ o. option_map_or (λ (row : FormatRow). row.features) o nothing) e ∙ found f rows
answered f rows None r e m = m ∙ ap (λ o. option_map_or (λ (row : FormatRow). row.features) o nothing) e ∙ found f rows

-- a row of another format leaves the answer to the rows after it
past : (f : TextureFormat) (row : FormatRow) (rows : List FormatRow) → (row.format ≡ f → ⊥) → listed (row ∷ rows) f ≡ listed rows f
past f row rows n = ap (λ b. cond b row.features (listed rows f)) (differ row.format f n)

first : (f : TextureFormat) (rows : List FormatRow) (k : ℕ) → k < length rows → (row_at rows k).format ≡ f → NoneBefore rows k f → listed rows f ≡ (row_at rows k).features
first f [] k h e n = absurd (not-suc-le-zero h)
first f (row ∷ rows) zero h e n = ap (λ b. cond b row.features (listed rows f)) (means_same row.format f e)
first f (row ∷ rows) (suc k) h e n =
    past f row rows (n 0 (omega arith))
    ∙ first f rows k (le_of_suc-le-suc h) e (λ j l. n (suc j) (omega arith))

missing : (f : TextureFormat) (rows : List FormatRow) → NoneBefore rows (length rows) f → listed rows f ≡ nothing
missing f [] n = refl
missing f (row ∷ rows) n = past f row rows (n 0 (omega arith)) ∙ missing f rows (λ j l. n (suc j) (omega arith))

pub first_row_answers : (f : TextureFormat) (rows : List FormatRow) (r : TextureFormatFeatures) → r ≡ listed rows f → FirstRowAnswers rows f r
first_row_answers f rows r e = record { first = λ k h s n. e ∙ first f rows k h s n; missing = λ n. e ∙ missing f rows n }
