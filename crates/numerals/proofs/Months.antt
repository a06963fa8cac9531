-- When a text is a month.
use mathlib.Core.Path.{◌≡◌}
use mathlib.Core.Bool.{true, false}
use mathlib.Core.List.{List, []}
use Prim.Native.Nat.{ℕ, ◌-◌}
use borrow.Author.Tests.{eq-eqb, ne_eqb}
use lib.ListN.{length, get_or, take, drop}
use Rattle.numerals.specs.Numerals.{value_of, is_number, is_month, month_in}
use Rattle.numerals.specs.Joining.{month_from}
use Rattle.std.proofs.lemmas.List.{take_rest}

module _ (l : List ℕ) where
  pub month_length_lem : (length l ≡ 7 → ⊥) → month_in l ≡ []
  unfolding month_in is_month
  month_length_lem h = simp (ne_eqb _ _ h)

  pub month_dash : length l ≡ 7 → (get_or l 4 0 ≡ 45 → ⊥) → month_in l ≡ []
  unfolding month_in is_month
  month_dash e h = simp (eq-eqb _ _ e, ne_eqb _ _ h)

  pub month_year : length l ≡ 7 → get_or l 4 0 ≡ 45 → is_number (take 4 l) ≡ false → month_in l ≡ []
  unfolding month_in is_month
  month_year e d h = simp (eq-eqb _ _ e, eq-eqb _ _ d, h)

  pub month_of_year_lem : length l ≡ 7 → get_or l 4 0 ≡ 45 → is_number (take 4 l) ≡ true
      → is_number (take (length l - 5) (drop 5 l)) ≡ false → month_in l ≡ []
  unfolding month_in is_month
  month_of_year_lem e d y h =
      let k = rw (take_rest l 5) at h in
      simp (eq-eqb _ _ e, eq-eqb _ _ d, y, k)

  pub month_is : (year k : ℕ) → length l ≡ 7 → get_or l 4 0 ≡ 45 → is_number (take 4 l) ≡ true
      → is_number (take (length l - 5) (drop 5 l)) ≡ true → year ≡ value_of (take 4 l) → k ≡ value_of (take (length l - 5) (drop 5 l))
      → month_from year k ≡ month_in l
  unfolding month_in is_month month_from
  month_is year k e d y m p q =
      let n = rw (take_rest l 5) at m in
      rw (p, q, take_rest l 5) (simp (eq-eqb _ _ e, eq-eqb _ _ d, y, n))
