use mathlib.Core.Path.{◌≡◌}
use Prim.Native.Nat.{◌<◌, ◌^◌}
use lib.ListN.{drop}
use Rattle.numerals.specs.Numerals.{all_digits, value_after, value_of}
use Rattle.numerals.proofs.number_in.Given as goal

abbrev pub invariant-loop-byte : goal.invariant-loop-byte
invariant-loop-byte l = (all_digits l.text ≡ all_digits (drop l.byte-index l.text)) × (value_of l.text ≡ value_after l.value (drop l.byte-index l.text)) × (l.value < 2 ^ 32)
