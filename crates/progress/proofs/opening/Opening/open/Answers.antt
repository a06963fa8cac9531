-- `progress::opening::Opening::open`: the numbers stand for the terms, the prices and the month that are kept.
use native.Mathlib.Omega.{arith}
use Rattle.progress.proofs.Kept.{account_answers}
use Rattle.progress.proofs.opening.Opening.open.Goals as goal

pub returns : goal.returns
returns c = account_answers c.args.account c.args.self _ (omega arith) c.opening.ensures
