-- The month and the critical days of a call have 32 bits.
use mathlib.Core.Path.{◌≡◌}
use mathlib.Core.Bool.{true, ◌&&◌}
use mathlib.Core.List.{List}
use Prim.Native.Nat.{ℕ, ◌^◌, ◌<◌}
use borrow.Author.Tests.{ltb-true}
use lib.Dec.{ltb}
use lib.ListN.{get_or}
use Rattle.std.proofs.lemmas.Bool.{and_parts}
use Rattle.records.specs.Sections.{known_terms}
use Rattle.records.specs.Records.{opening_kind, billing_kind, kind_of, terms_place, first_month_place, month_place, critical_place}
use Rattle.records.specs.Records.{opening_codes, billing_codes, is_call}

module _ (w : List ℕ) where
  pub month_fits : is_call w ≡ true → kind_of w ≡ opening_kind → get_or w first_month_place 0 < 2 ^ 32
  unfolding is_call opening_codes
  month_fits e k =
      let codes : (known_terms w terms_place && ltb (get_or w first_month_place 0) (2 ^ 32)) ≡ true = rw k at e in
      ltb-true _ _ (and_parts (known_terms w terms_place) (ltb (get_or w first_month_place 0) (2 ^ 32)) codes).1

  pub billing_fits : is_call w ≡ true → kind_of w ≡ billing_kind → (get_or w month_place 0 < 2 ^ 32) × (get_or w critical_place 0 < 2 ^ 32)
  unfolding is_call billing_codes
  billing_fits e k =
      let codes : (ltb (get_or w month_place 0) (2 ^ 32) && ltb (get_or w critical_place 0) (2 ^ 32)) ≡ true = rw k at e in
      let (m, x) = and_parts (ltb (get_or w month_place 0) (2 ^ 32)) (ltb (get_or w critical_place 0) (2 ^ 32)) codes in
      (ltb-true _ _ m, ltb-true _ _ x)
