-- `registers::tally_of` refuses a register of another length, and else counts the month.
use native.Mathlib.Omega.{arith}
use Rattle.registers.proofs.Counting.{power_fits, wrong_tally, right_tally}
use Rattle.registers.proofs.tally_of.Goals as goal

pub returns-then-register-month_length : goal.returns-then-register-month_length
returns-then-register-month_length c = record {
  value = wrong_tally _ _ _ _ (λ e. c.if-register-month_length.true (omega (arith, c.month_length.ensures)));
}

pub overflow_mul-result : goal.overflow_mul-result
overflow_mul-result c = omega (arith, power_fits _ _ _ _ (λ i. omega (arith, c.type_inv.register i)) _ c.count_month-count.ensures)

pub returns : goal.returns
returns c = record {
  value = right_tally _ _ _ _ _ (omega (arith, c.month_length.ensures)) c.first_lost.ensures c.count_month-count.ensures;
}
