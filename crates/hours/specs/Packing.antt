-- 02 No. 2: "Hold the schedule in 96 bytes, four periods to a byte, in place of the 384 entries." What the private functions that read these bytes promise each
-- other. No public contract cites this file: that of `fixed_schedule` says that the entries are those of the windows, as before.
use Rattle.std.specs.Prelude.{List, [], ◌∷◌, ◌++◌, ℕ, zero, suc, ◌*◌, ◌/◌, ◌%◌, ◌^◌, get_or}

-- Byte b of words of eight bytes, of which the first one is the lowest.
unfoldable pub byte_at : List ℕ → ℕ → ℕ
byte_at words b = get_or words (b / 8) 0 / 2 ^ (8 * (b % 8)) % 256

-- Entry k of a byte, from 0 to 3, stands in its bits 2k and 2k + 1.
unfoldable pub entry_of : ℕ → ℕ → ℕ
entry_of byte k = byte / 2 ^ (2 * k) % 4

-- The entries of the first n bytes: those of byte b are entries 4 × b to 4 × b + 3.
unfoldable pub unpacked : List ℕ → ℕ → List ℕ
unpacked words zero = []
unpacked words (suc n) =
    unpacked words n
    ++ entry_of (byte_at words n) 0 ∷ entry_of (byte_at words n) 1 ∷ entry_of (byte_at words n) 2 ∷ entry_of (byte_at words n) 3 ∷ []
