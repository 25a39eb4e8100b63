-- Two texture formats are the same exactly if their places are.
use Rattle.std.proofs.Common.{◌≡◌, false, true, Decides, inl, inr, rules}
use Rattle.std.proofs.lemmas.Bool.{cases_Bool}
use Rattle.formats.specs.Texture.{same_format}
use Rattle.formats.specs.declared.texture.TextureFormat.{TextureFormat}

pub decides : (a b : TextureFormat) → Decides (same_format a b) (a ≡ b)
decides a b = search rules

pub same_means : (a b : TextureFormat) → same_format a b ≡ true → a ≡ b
same_means a b = (decides a b).0

pub means_same : (a b : TextureFormat) → a ≡ b → same_format a b ≡ true
means_same a b = (decides a b).1

pub differ : (a b : TextureFormat) → (a ≡ b → ⊥) → same_format a b ≡ false
differ a b n = elim (cases_Bool (same_format a b)) [ inl t ↦ absurd (n (same_means a b t)) | inr f ↦ f ]
