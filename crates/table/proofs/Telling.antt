-- What holds for each kind of line holds whatever its first byte is.
use mathlib.Core.Path.{◌≡◌, refl}
use mathlib.Core.Bool.{Bool, true, false}
use Prim.Native.Nat.{ℕ}
use borrow.Author.Tests.{eqb-true}
use lib.Dec.{eqb}
use Rattle.table.specs.Numbers.{opening, month, stop}

pub by_kind : (P : ℕ → Type 0) → P stop → P opening → P month
    → ((b : ℕ) → eqb b stop ≡ false → eqb b opening ≡ false → eqb b month ≡ false → P b)
    → (b : ℕ) → P b
by_kind P s o m other b = by (eqb b stop) (eqb b opening) (eqb b month) refl refl refl
  where
    by : (x y z : Bool) → eqb b stop ≡ x → eqb b opening ≡ y → eqb b month ≡ z → P b
    by true y z p q r = rw (eqb-true b stop p) s
    by false true z p q r = rw (eqb-true b opening q) o
    by false false true p q r = rw (eqb-true b month r) m
    by false false false p q r = other b p q r
