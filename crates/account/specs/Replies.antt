-- What a reply of the code says in the words of the calls: a refusal its number, and zeros in every amount.
use Rattle.std.specs.Result.{result_unwrap_or}
use Rattle.billing.specs.Billing.{no_bill}
use Rattle.billing.specs.declared.Bill.{Bill}
pub use Rattle.refusals.specs.Numbers.{number_of}
use Rattle.account.specs.declared.ClosingAmounts.{ClosingAmounts}
use Rattle.account.specs.declared.Reply.{Reply}
use Rattle.account.specs.Account.{PlainReply, BillingReply, ClosingReply, no_amounts}

-- The reply to an opening or a repricing.
abbrev pub plain_reply : Reply (Unit {0}) → PlainReply
plain_reply r = record { number = number_of r.answer; account = r.account }

abbrev pub reply_with_bill : Reply Bill → BillingReply
reply_with_bill r = record { number = number_of r.answer; bill = result_unwrap_or r.answer no_bill; account = r.account }

abbrev pub reply_with_amounts : Reply ClosingAmounts → ClosingReply
reply_with_amounts r = record { number = number_of r.answer; amounts = result_unwrap_or r.answer no_amounts; account = r.account }
