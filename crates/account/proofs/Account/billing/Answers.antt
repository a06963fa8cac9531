-- A bill is made only where the account's next month is one that can be billed.
use Rattle.std.proofs.Common.{sym}
use Rattle.account.proofs.Accepted.{billing_accepted}
use Rattle.account.proofs.Account.billing.Goals as goal

pub after_bill-requires : goal.after_bill-requires
after_bill-requires c = (billing_accepted _ _ _ _ _ (sym c.in-Ok.ensures.number)).next
