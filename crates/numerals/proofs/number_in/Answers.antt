-- `numerals::number_in` reads one digit after the other: `Digits` has the step.
use Rattle.std.proofs.Common.{◌≡◌, ◌+◌, ◌-◌, ◌*◌, ◌^◌, ◌≤◌, get_or, drop, sym, ◌∙◌, refl, arith}
use Rattle.numerals.specs.Numerals.{value_of}
use Rattle.numerals.proofs.Digits.{digits_at, digits_end, value_next, value_end, value_grows}
use Rattle.numerals.proofs.Digits.{number_empty, number_long, number_no_digits, number_large, number_is}
use Rattle.numerals.proofs.number_in.Goals as goal
use Rattle.numerals.proofs.number_in.Goals.{then-is_empty-via-then-is_empty, then-is_empty-via-else-is_empty+then-text-gt-MOST_DIGITS}

pub returns-then-is_empty : goal.returns-then-is_empty
returns-then-is_empty c = elim c.then-is_empty.branch [
  | then-is_empty-via-then-is_empty w ↦ rw (number_empty c.args.text.now (grind arith))
  | then-is_empty-via-else-is_empty+then-text-gt-MOST_DIGITS w ↦ rw (number_long c.args.text.now (omega arith))
]

pub loop-byte-init : goal.loop-byte-init
unfolding value_of
loop-byte-init c = (refl, refl, omega arith)

pub returns-then-not-is_ascii_digit : goal.returns-then-not-is_ascii_digit
returns-then-not-is_ascii_digit c =
    let other = sym c.is_ascii_digit.ensures.value ∙ c.if-not-is_ascii_digit.true in
    rw (number_no_digits c.args.text.now (c.loop-byte.invariant.0 ∙ digits_at c.loop-byte.byte-index c.args.text.now (omega arith) ∙ rw other))

pub returns-in_err-checked_mul : goal.returns-in_err-checked_mul
returns-in_err-checked_mul c =
    let text = c.args.text.now in
    let lp = c.loop-byte in
    let value = lp.invariant.1 ∙ value_next lp.byte-index text lp.value (omega arith) in
    let large : 2 ^ 32 ≤ value_of text = omega (arith, c.in_err-checked_mul.ensures, value_grows (lp.value * 10 + (get_or text lp.byte-index 0 - 48)) (drop (lp.byte-index + 1) text)) in
    rw (c.from_residual.ensures, number_large text large)

pub returns-in_err-value : goal.returns-in_err-value
returns-in_err-value c =
    let text = c.args.text.now in
    let lp = c.loop-byte in
    let value = lp.invariant.1 ∙ value_next lp.byte-index text lp.value (omega arith) in
    let large : 2 ^ 32 ≤ value_of text = omega (arith, c.in_err-value.ensures, c.in_ok-checked_mul.ensures, value_grows (lp.value * 10 + (get_or text lp.byte-index 0 - 48)) (drop (lp.byte-index + 1) text)) in
    rw (c.from_residual-in_err-value.ensures, number_large text large)

pub loop-byte-preserved : goal.loop-byte-preserved
loop-byte-preserved c =
    let text = c.args.text.now in
    let lp = c.loop-byte in
    let digit = sym c.is_ascii_digit.ensures.value ∙ c.if-not-is_ascii_digit.false in
    let more : c.in_ok-value.value ≡ lp.value * 10 + (get_or text lp.byte-index 0 - 48) = omega (arith, c.in_ok-value.ensures, c.in_ok-checked_mul.ensures) in (
      lp.invariant.0 ∙ digits_at lp.byte-index text (omega arith) ∙ rw digit,
      lp.invariant.1 ∙ value_next lp.byte-index text lp.value (omega arith) ∙ rw more,
      omega (arith, c.in_ok-value.ensures),
    )

pub returns : goal.returns
returns c =
    let text = c.args.text.now in
    let lp = c.loop-byte in
    let digits = lp.invariant.0 ∙ digits_end lp.byte-index text (omega arith) in
    let value = lp.invariant.1 ∙ value_end lp.byte-index text lp.value (omega arith) in
    rw (number_is text (grind arith) (omega arith) digits (omega arith), value)
