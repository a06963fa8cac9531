-- Numbers as texts, and texts with numbers in them.
use Rattle.std.specs.Prelude.{cond, List, [], ◌∷◌, ◌++◌, ℕ, zero, suc, ◌+◌, ◌/◌, ◌%◌, eqb, ltb}

-- The byte of a decimal digit.
abbrev pub digit_byte : ℕ → ℕ
digit_byte d = 48 + d

-- A number in decimal, without leading zeros, where it has at most k digits.
unfoldable pub digits : ℕ → ℕ → List ℕ
digits zero n = []
digits (suc k) n = cond (ltb n 10) (digit_byte n ∷ []) (digits k (n / 10) ++ digit_byte (n % 10) ∷ [])

-- A number of 64 bits has at most this many digits.
abbrev pub most_digits : ℕ
most_digits = 20

abbrev pub decimal : ℕ → List ℕ
decimal n = digits most_digits n

-- The byte of a template in whose place a number stands: `#`.
abbrev pub mark : ℕ
mark = 35

-- A template with numbers in decimal in the places of its marks, in their order. Where no number is left, nothing is put.
unfoldable pub filled_in : List ℕ → List ℕ → List ℕ
filled_in [] ns = []
filled_in (b ∷ t) [] = cond (eqb b mark) (filled_in t []) (b ∷ filled_in t [])
filled_in (b ∷ t) (n ∷ ns) = cond (eqb b mark) (decimal n ++ filled_in t ns) (b ∷ filled_in t (n ∷ ns))

-- The most bytes that a template has once it is filled in.
unfoldable pub most_bytes : List ℕ → ℕ
most_bytes [] = 0
most_bytes (b ∷ t) = cond (eqb b mark) most_digits 1 + most_bytes t
