-- When one set of flags is part of another.
use Rattle.std.specs.Prelude.{ℕ, Bool, ◌==◌, bit_and}

-- each of the bits is set in the word
abbrev pub holds : ℕ → ℕ → Bool
holds word bits = bit_and word bits == bits
