-- A printed line as its kind and its numbers. l is any line, with its newline or without, as the numbers of its bytes.
use Rattle.std.specs.Prelude.{Bool, true, false, cond, ◌&&◌, List, [], ◌∷◌, ℕ, zero, suc, ◌+◌, ◌-◌, ◌*◌, min, eqb, leb, get_or}
use Rattle.numerals.specs.Numerals.{is_digit}

-- A number that 64 bits can't hold stays at their largest.
abbrev pub capped : ℕ → ℕ
capped n = min n 18446744073709551615

-- Whether 64 bits hold each of some numbers.
unfoldable pub all_fit : List ℕ → Bool
all_fit [] = true
all_fit (n ∷ ns) = leb n 18446744073709551615 && all_fit ns

-- A digit is read after those of value v.
unfoldable pub with_digit : ℕ → ℕ → ℕ
with_digit v b = capped (v * 10 + (b - 48))

-- The values of a line's runs of digits, in their order; inside a run v is the value of its digits so far.
unfoldable pub numbers_after : Bool → ℕ → List ℕ → List ℕ
numbers_after inside v [] = cond inside (v ∷ []) []
numbers_after inside v (b ∷ l) =
    cond (is_digit b) (numbers_after true (with_digit v b) l) (cond inside (v ∷ numbers_after false 0 l) (numbers_after false 0 l))

-- The first k of some numbers, with 0 for each that is missing.
unfoldable pub first_of : ℕ → List ℕ → List ℕ
first_of zero ns = []
first_of (suc k) [] = 0 ∷ first_of k []
first_of (suc k) (n ∷ ns) = n ∷ first_of k ns

-- A month's line has 33: year, month, answer, 28 amounts, energy and due. More are not looked at.
unfoldable pub numbers_of : List ℕ → List ℕ
numbers_of l = first_of 33 (numbers_after false 0 l)

-- The kind of a line is its first byte: `o` of `open=`, `b` of `bill=`, `l` of `line=`. An empty one has none.
unfoldable pub kind_of : List ℕ → ℕ
kind_of l = get_or l 0 0

abbrev pub opening : ℕ
opening = 111

abbrev pub month : ℕ
month = 98

abbrev pub stop : ℕ
stop = 108

-- The number of the refusal that a line with numbers ns tells: an opening's number, a month's answer. 0 is none.
unfoldable pub refusal_of : ℕ → List ℕ → ℕ
refusal_of kind ns = cond (eqb kind opening) (get_or ns 0 0) (cond (eqb kind month) (get_or ns 2 0) 0)
