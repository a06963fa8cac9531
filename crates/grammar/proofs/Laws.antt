-- What every readable line has: it is short, and it gives as many numbers as its key asks for.
use mathlib.Core.Path.{◌≡◌, refl}
use mathlib.Core.List.{List, [], ◌∷◌}
use mathlib.Core.Logic.{◌⊎◌, inl}
use Prim.Native.Nat.{ℕ, zero, suc, ◌≤◌, ◌<◌}
use native.Mathlib.Omega.{arith}
use lib.ListN.{length, get_or, drop, set}
use lib.Seq.{get_or-set_other}
use Rattle.text.specs.Text.{bytes_of}
use Rattle.numerals.specs.Numerals.{number_in, month_in, numbers_in, numbers_up_to}
use Rattle.numerals.proofs.Digits.{number_long}
use Rattle.numerals.proofs.Sizes.{Reader, Short, Few, number_few, month_short, month_few}
use Rattle.numerals.proofs.Sizes.{numbers_short, numbers_all, up_to_short, up_to_few}
use Rattle.grammar.specs.Grammar.{choice_in, keyed}
use Rattle.grammar.specs.Grammar.{opening_lines, opening_line, bill_line, critical_line, run_line, longest_line}
use Rattle.grammar.proofs.Sizes.{choice_short, choice_few, keyed_either, keyed_short, keyed_few}

-- A line that is read by a key.
abbrev Readable : Reader → Type 0
Readable read = Short longest_line read

module _ (key : List ℕ) where
  a_number : length key ≤ 40 → Readable (keyed key number_in)
  a_number h = keyed_short key number_in 10 longest_line (omega arith) number_long

  a_month : length key ≤ 40 → Readable (keyed key month_in)
  a_month h = keyed_short key month_in 7 longest_line (omega arith) month_short

  a_choice : (first second : List ℕ) → length key ≤ 40 → length first ≤ 10 → length second ≤ 10
      → Readable (keyed key (choice_in first second))
  a_choice first second h p q = keyed_short key (choice_in first second) 10 longest_line (omega arith) (choice_short 10 first second p q)

  some_numbers : (n : ℕ) → length key ≤ 7 → n ≤ 4 → Readable (keyed key (numbers_in n))
  some_numbers n h p = keyed_short key (numbers_in n) 43 longest_line (omega arith) (λ l long. numbers_short n l (omega arith))

nameplates : Readable (keyed (bytes_of "nameplate=") (numbers_up_to 8))
nameplates = keyed_short (bytes_of "nameplate=") (numbers_up_to 8) 87 longest_line (omega arith) (up_to_short 8)

-- What holds of each of some readers and of none holds of the one at a place.
abbrev All : (Reader → Type 0) → List Reader → Type 0
All P [] = Unit
All P (read ∷ reads) = P read × All P reads

all_at : (P : Reader → Type 0) (reads : List Reader) → All P reads → P (λ l. []) → (k : ℕ) → P (get_or reads k (λ l. []))
all_at P [] all none k = none
all_at P (read ∷ reads) all none zero = all.0
all_at P (read ∷ reads) all none (suc k) = all_at P reads all.1 none k

opening_readable : (k : ℕ) → Readable (get_or opening_lines k (λ l. []))
opening_readable =
    all_at Readable opening_lines (
      a_month _ (omega arith),
      (
        a_choice _ _ _ (omega arith) (omega arith) (omega arith),
        (
          a_choice _ _ _ (omega arith) (omega arith) (omega arith),
          (
            nameplates,
            (
              a_number _ (omega arith),
              (
                a_choice _ _ _ (omega arith) (omega arith) (omega arith),
                (
                  some_numbers _ 4 (omega arith) (omega arith),
                  (
                    a_number _ (omega arith),
                    (
                      a_number _ (omega arith),
                      (
                        a_number _ (omega arith),
                        (
                          a_number _ (omega arith),
                          (
                            a_number _ (omega arith),
                            (
                              a_number _ (omega arith),
                              (a_number _ (omega arith), tt),
                            ),
                          ),
                        ),
                      ),
                    ),
                  ),
                ),
              ),
            ),
          ),
        ),
      ),
    )
    (λ l h. refl)

bill_readable : Readable bill_line
unfolding bill_line
bill_readable = a_month (bytes_of "bill=") (omega arith)

critical_readable : Readable critical_line
unfolding critical_line
critical_readable = a_number (bytes_of "critical=") (omega arith)

run_readable : Readable run_line
unfolding run_line
run_readable = some_numbers (bytes_of "run=") 3 (omega arith) (omega arith)

-- A line longer than the longest is unreadable.
pub opening_short : (k : ℕ) (l : List ℕ) → longest_line < length l → opening_line k l ≡ []
unfolding opening_line
opening_short k = opening_readable k

pub bill_short : (l : List ℕ) → longest_line < length l → bill_line l ≡ []
bill_short = bill_readable

pub critical_short : (l : List ℕ) → longest_line < length l → critical_line l ≡ []
critical_short = critical_readable

pub run_short : (l : List ℕ) → longest_line < length l → run_line l ≡ []
run_short = run_readable

-- Nameplates are up to eight numbers, prices are four or none, and every other line of the opening gives one or none.
pub opening_count : (k : ℕ) (l : List ℕ) → (k ≡ 6 → ⊥) → (k ≡ 3 → ⊥) → length (opening_line k l) ≤ 1
unfolding opening_line
opening_count k l prices plates =
    let others = set opening_lines 6 (λ l. []) in
    rw (← (get_or-set_other opening_lines 6 k (λ l. []) (λ l. []) prices), ← (get_or-set_other others 3 k (λ l. []) (λ l. []) plates))
    (all_at (Few 1) (set others 3 (λ l. [])) (
      keyed_few _ month_in 1 month_few,
      (
        keyed_few _ _ 1 (choice_few _ _),
        (
          keyed_few _ _ 1 (choice_few _ _),
          (
            (λ l. omega arith),
            (
              keyed_few _ number_in 1 number_few,
              (
                keyed_few _ _ 1 (choice_few _ _),
                (
                  (λ l. omega arith),
                  (
                    keyed_few _ number_in 1 number_few,
                    (
                      keyed_few _ number_in 1 number_few,
                      (
                        keyed_few _ number_in 1 number_few,
                        (
                          keyed_few _ number_in 1 number_few,
                          (
                            keyed_few _ number_in 1 number_few,
                            (
                              keyed_few _ number_in 1 number_few,
                              (keyed_few _ number_in 1 number_few, tt),
                            ),
                          ),
                        ),
                      ),
                    ),
                  ),
                ),
              ),
            ),
          ),
        ),
      ),
    )
    (λ l. omega arith) k l)

pub nameplates_count : (l : List ℕ) → length (opening_line 3 l) ≤ 8
unfolding opening_line
nameplates_count = keyed_few (bytes_of "nameplate=") (numbers_up_to 8) 8 (up_to_few 8)

pub prices_count : (l : List ℕ) → (length (opening_line 6 l) ≡ 0) ⊎ (length (opening_line 6 l) ≡ 4)
unfolding opening_line
prices_count l =
    keyed_either (λ xs. (length xs ≡ 0) ⊎ (length xs ≡ 4)) (bytes_of "prices=") (numbers_in 4) l (inl refl) (numbers_all 4 (drop 7 l))
