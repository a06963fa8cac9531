-- The numbers of a day view, empty or of a day.
use mathlib.Core.Path.{◌≡◌, refl}
use mathlib.Core.Bool.{Bool, true, false}
use mathlib.Core.List.{List, [], ◌∷◌}
use Prim.Native.Nat.{ℕ}
use denote.Ref.{Bor}
use Rattle.std.specs.Prelude.{unwrap_or}
use Rattle.registers.specs.DayView.{empty_view, part_shown, view_of}
use Rattle.kozempil.specs.Interface.{part_numbers}

-- The numbers of what `registers::part_shown` answers.
module _ (delivered received : Bor (List ℕ)) (m d k : ℕ) where
  abbrev pub shown : ℕ × ℕ
  shown = unwrap_or (part_shown delivered.now received.now m d k) (0, 0)

  pub shown_numbers : part_numbers (view_of delivered received m d k) ≡ shown.0 ∷ shown.1 ∷ []
  unfolding part_numbers view_of part_shown
  shown_numbers = by (empty_view delivered.now received.now m d k) refl
    where
      by : (b : Bool) → empty_view delivered.now received.now m d k ≡ b → part_numbers (view_of delivered received m d k) ≡ shown.0 ∷ shown.1 ∷ []
      by true e = rw e
      by false e = rw e
