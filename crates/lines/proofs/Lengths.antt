-- What a line gives is told by the bytes that are kept of it, and each text fits where there is room.
use mathlib.Core.Path.{◌≡◌, refl}
use mathlib.Core.Bool.{Bool, true, false}
use mathlib.Core.List.{List}
use Prim.Native.Nat.{ℕ, ◌≤◌, ◌<◌}
use native.Mathlib.Omega.{arith}
use borrow.Author.Tests.{leb-true, leb-false}
use lib.Dec.{leb}
use lib.ListN.{length, take}
use lib.Seq.{length-take-le, take_all}
use Rattle.grammar.specs.Grammar.{longest_line}
use Rattle.grammar.proofs.Laws.{opening_short, bill_short, critical_short, run_short}
use Rattle.printing.proofs.Laws.{bill_fits, open_fits, line_fits}
use Rattle.lines.specs.Statement.{State, counted, run_or_bill_read, expected_read, line_read, at_end}
use Rattle.lines.proofs.Printed.{OfTexts, line_prints, end_prints}
use Rattle.lines.specs.Feeding.{kept_bytes}

-- All lines longer than the longest are read alike: they are unreadable.
long_alike : (l m : List ℕ) (s : State) → longest_line < length l → longest_line < length m → line_read l s ≡ line_read m s
unfolding line_read expected_read run_or_bill_read
long_alike l m s h k =
    simp (
      opening_short (counted s).expected l h,
      bill_short l h,
      critical_short l h,
      run_short l h,
      opening_short (counted s).expected m k,
      bill_short m k,
      critical_short m k,
      run_short m k,
    )

-- So of a line the bytes kept are enough.
pub line_cut : (l : List ℕ) (s : State) → line_read (take kept_bytes l) s ≡ line_read l s
line_cut l s = by (leb (length l) kept_bytes) refl
  where
    by : (t : Bool) → leb (length l) kept_bytes ≡ t → line_read (take kept_bytes l) s ≡ line_read l s
    by true e = rw (take_all kept_bytes l (leb-true _ _ e))
    by false e =
        let h : kept_bytes < length l = leb-false _ _ e in
        long_alike (take kept_bytes l) l s (omega (arith, length-take-le kept_bytes l (omega arith))) (omega arith)

-- A text that is printed fits.
texts_fit : OfTexts (λ (t : List ℕ). length t ≤ 1024)
texts_fit = record {
  none = omega arith;
  opening = λ n. omega (arith, open_fits n);
  month = bill_fits;
  stop = λ n. omega (arith, line_fits n);
}

pub text_fits : (l : List ℕ) (s : State) → length (line_read l s).text ≤ 1024
text_fits = line_prints texts_fit

-- The same of what the end of the input prints.
pub end_fits : (s : State) → length (at_end s) ≤ 1024
end_fits = end_prints texts_fit
