-- The range of a table of sizes, by one test that is computed over all of it.
use Rattle.std.proofs.Common.{◌≡◌, ℕ, ◌<◌, ◌≤◌, Bool, true, ◌&&◌, leb, List, length, get_or, sym, ◌∙◌, inl, inr}
use Rattle.std.specs.List.{list_all}
use Rattle.std.proofs.lemmas.Bool.{and_parts, cases_Bool, false≢true, leb-true}
use Rattle.std.proofs.lemmas.List.Folds.{list_all_at}

abbrev pub inside : ℕ → Bool
inside n = leb 1 n && leb n 32

pub in_range : (sizes : List ℕ) (place : ℕ) → list_all inside sizes ≡ true → place < length sizes → (1 ≤ get_or sizes place 0) × (get_or sizes place 0 ≤ 32)
in_range sizes place all h =
    elim (cases_Bool (inside (get_or sizes place 0))) [
      | inl t ↦ let b = and_parts (leb 1 (get_or sizes place 0)) _ t in (leb-true 1 (get_or sizes place 0) b.0, leb-true (get_or sizes place 0) 32 b.1)
      | inr f ↦ absurd (false≢true (sym (list_all_at inside sizes place 0 h f) ∙ all))
    ]
