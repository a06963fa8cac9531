-- Texts, as the numbers of their bytes.
use Rattle.std.specs.Prelude.{cond, List, [], ◌∷◌, ◌++◌, ℕ, zero, suc, eqb, length}
use Prim.Native.Char.{code}
use Prim.Native.String.{String}

-- The bytes of a quoted text; all of ours are ASCII.
abbrev pub bytes_of : String → List ℕ
bytes_of Prim.Native.String.[] = []
bytes_of (Prim.Native.String.◌∷◌ c s) = code c ∷ bytes_of s

-- The place where a byte first stands, or the length of a text that doesn't have it.
unfoldable pub place_of : ℕ → List ℕ → ℕ
place_of b [] = zero
place_of b (x ∷ l) = cond (eqb x b) zero (suc (place_of b l))

-- Lines are the bytes between newline bytes. Document 01 and, of a load, 02 No. 7: the last line may lack its newline. No bytes after the last newline are no
-- line. l are the bytes of the first line that have been passed.
unfoldable pub lines_from : List ℕ → List ℕ → List (List ℕ)
lines_from l [] = cond (eqb (length l) 0) [] (l ∷ [])
lines_from l (b ∷ bs) = cond (eqb b 10) (l ∷ lines_from [] bs) (lines_from (l ++ b ∷ []) bs)
