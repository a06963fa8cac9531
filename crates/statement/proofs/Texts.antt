-- What is printed are whole lines.
use mathlib.Core.Path.{◌≡◌, refl, ◌∙◌}
use mathlib.Core.Bool.{Bool, true, false, cond}
use mathlib.Core.List.{List, [], ◌∷◌, ◌++◌}
use Prim.Native.Nat.{ℕ}
use native.Mathlib.Omega.{arith}
use borrow.Author.Tests.{eqb-true}
use lib.Dec.{eqb}
use Rattle.std.proofs.lemmas.Bool.{cond_both}
use Rattle.text.specs.Text.{bytes_of}
use Rattle.billing.specs.declared.Bill.{Bill}
use Rattle.printing.specs.Text.{decimal, mark, filled_in}
use Rattle.printing.specs.Printing.{bill_template, bill_text, open_text, line_text}
use Rattle.lines.proofs.Printed.{OfTexts, line_prints}
use Rattle.lines.specs.Feeding.{SoFar, after_byte, byte_text, printed}

-- Whether a text ends with a newline; one without a byte does where the text before it did.
unfoldable pub ends_line : Bool → List ℕ → Bool
ends_line before [] = before
ends_line before (b ∷ l) = ends_line (eqb b 10) l

pub ends_append : (t : Bool) (xs ys : List ℕ) → ends_line t (xs ++ ys) ≡ ends_line (ends_line t xs) ys
unfolding ends_line
ends_append t [] ys = refl
ends_append t (x ∷ xs) ys = ends_append (eqb x 10) xs ys

-- A mark is no newline.
no_newline_lem : (b : ℕ) → eqb b 35 ≡ true → eqb b 10 ≡ true → ⊥
no_newline_lem b e f = omega (arith, eqb-true b 35 e, eqb-true b 10 f)

-- A template that ends with a newline does so when it is filled in.
filled_ends : (t ns : List ℕ) (u v : Bool) → ends_line u t ≡ true → (u ≡ true → v ≡ true) → ends_line v (filled_in t ns) ≡ true
unfolding ends_line filled_in
filled_ends [] ns u v h k = k h
filled_ends (b ∷ t) [] u v h k =
    by (eqb b mark) refl (λ e. filled_ends t [] (eqb b 10) v h (λ f. absurd (no_newline_lem b e f))) (filled_ends t [] (eqb b 10) (eqb b 10) h (λ f. f))
  where
    by : (m : Bool) → eqb b mark ≡ m → (eqb b mark ≡ true → ends_line v (filled_in t []) ≡ true) → (ends_line (eqb b 10) (filled_in t []) ≡ true)
        → ends_line v (cond m (filled_in t []) (b ∷ filled_in t [])) ≡ true
    by true e p q = p e
    by false e p q = q
filled_ends (b ∷ t) (n ∷ ns) u v h k =
    by (eqb b mark) refl (λ e. filled_ends t ns (eqb b 10) (ends_line v (decimal n)) h (λ f. absurd (no_newline_lem b e f)))
    (filled_ends t (n ∷ ns) (eqb b 10) (eqb b 10) h (λ f. f))
  where
    by : (m : Bool) → eqb b mark ≡ m → (eqb b mark ≡ true → ends_line (ends_line v (decimal n)) (filled_in t ns) ≡ true)
        → (ends_line (eqb b 10) (filled_in t (n ∷ ns)) ≡ true)
        → ends_line v (cond m (decimal n ++ filled_in t ns) (b ∷ filled_in t (n ∷ ns))) ≡ true
    by true e p q = ends_append v (decimal n) (filled_in t ns) ∙ p e
    by false e p q = q

pub bill_ends : (m n : ℕ) (b : Bill) → ends_line true (bill_text m n b) ≡ true
unfolding bill_text ends_line
bill_ends m n b = filled_ends bill_template _ true true refl (λ f. f)

pub open_ends : (n : ℕ) → ends_line true (open_text n) ≡ true
unfolding open_text ends_line
open_ends n = filled_ends (bytes_of "open=#\n") _ true true refl (λ f. f)

pub line_ends : (n : ℕ) → ends_line true (line_text n) ≡ true
unfolding line_text ends_line
line_ends n = filled_ends (bytes_of "line=#\n") _ true true refl (λ f. f)

-- A line prints one of these, or nothing.
texts_end : OfTexts (λ (t : List ℕ). ends_line true t ≡ true)
unfolding ends_line
texts_end = record { none = refl; opening = open_ends; month = bill_ends; stop = line_ends }

-- So does a byte, and so do bytes.
byte_ends : (x : SoFar) (b : ℕ) → ends_line true (byte_text x b) ≡ true
unfolding byte_text ends_line
byte_ends x b =
    cond_both (eqb b 10) _ _ (λ (t : List ℕ). ends_line true t ≡ true) (λ _. line_prints texts_end x.line x.state) (λ _. refl)

pub printed_ends : (x : SoFar) (bytes : List ℕ) → ends_line true (printed x bytes) ≡ true
unfolding printed ends_line
printed_ends x [] = refl
printed_ends x (b ∷ bytes) =
    ends_append true (byte_text x b) (printed (after_byte x b) bytes) ∙ rw (byte_ends x b) (printed_ends (after_byte x b) bytes)
