-- `printing::put_number` copies what `itoa` writes: the digits of the definition.
use mathlib.Core.Path.{◌∙◌}
use native.Mathlib.Omega.{arith}
use Rattle.printing.proofs.Writing.{std_digits, digits_length, wrote_front, put_short, put_long}
use Rattle.printing.proofs.put_number.Goals as goal

pub returns-then-out-lt-MOST_DIGITS : goal.returns-then-out-lt-MOST_DIGITS
returns-then-out-lt-MOST_DIGITS c = put_short 20 c.args.out.now c.if-out-lt-MOST_DIGITS.true

pub returns : goal.returns
returns c = let number = c.args.number in
    put_long 20 c.args.out.now c.if-out-lt-MOST_DIGITS.false
    (wrote_front c.copy_from_slice.ensures.after
    (c.as_bytes-digits.ensures.value ∙ c.format.ensures.text ∙ std_digits number (omega arith))
    (omega (arith, digits_length 20 number)))
