-- Demand 3: the balances over every list of calls from a fresh account, refused ones included. "In every period exported = own + moved out +
-- paid + forfeited + left and delivered = own + moved in + billed; summed, moved out = moved in; granted = used + refunded + standing; every bill
-- that charges a watt-hour in a period has left 0 and paid 0 there and in each dearer period." Document 01 says of the totals: "each total of
-- demand 3 is a sum over the answers returned: forfeited from bills and closings, refunded from closings, the others from bills. Exported and
-- delivered are instead summed as in step 2 from the registers of the bills answered 0. Left (the carried Wh) and standing are those of the
-- account after the list." 02 No. 3: "The balances hold for accounts with any such set" of nameplates; the openings of a list have any terms.
use Rattle.std.specs.Prelude.{◌≡◌, cond, List, [], ◌∷◌, ℕ, ◌+◌, ◌≤◌, ◌<◌, eqb}
use Rattle.hours.specs.Hours.{critical, on_peak, off_peak, discount}
use Rattle.hours.specs.declared.ByPeriod.{ByPeriod}
use Rattle.registers.specs.Registers.{sum_of}
use Rattle.billing.specs.Billing.{none}
use Rattle.billing.specs.declared.Bill.{Bill}
use Rattle.account.specs.declared.Stage.TheVariants.{Fresh}
use Rattle.account.specs.declared.Account.{Account}
use Rattle.account.specs.Account.{schedule_of}
use Rattle.records.specs.declared.Answer.{Answer}
use Rattle.balances.specs.Calls.{Call, opening, repricing, billing, closing, answer_of, account_after, answers_of, last_of}

-- The four periods, and the amount of one of them.
pub data Period : Type 0 where
  Critical : Period
  OnPeak : Period
  OffPeak : Period
  Discount : Period

abbrev pub number_of : Period → ℕ
number_of Critical = critical
number_of OnPeak = on_peak
number_of OffPeak = off_peak
number_of Discount = discount

abbrev pub amount_of : Period → ByPeriod → ℕ
amount_of Critical a = a.critical
amount_of OnPeak a = a.onpeak
amount_of OffPeak a = a.offpeak
amount_of Discount a = a.discount

-- A total over answers, of an amount of each.
unfoldable pub total_by : (Answer → ℕ) → List Answer → ℕ
total_by f [] = 0
total_by f (x ∷ xs) = f x + total_by f xs

-- The same of an amount of each bill, in one period; and summed over the four.
abbrev pub bill_total : Period → (Bill → ByPeriod) → List Answer → ℕ
bill_total p f xs = total_by (λ x. amount_of p (f x.bill)) xs

abbrev pub all_periods : (Bill → ByPeriod) → List Answer → ℕ
all_periods f xs = bill_total Critical f xs + bill_total OnPeak f xs + bill_total OffPeak f xs + bill_total Discount f xs

-- Forfeited Wh of bills and closings.
abbrev pub forfeited_total : Period → List Answer → ℕ
forfeited_total p xs = total_by (λ x. amount_of p x.bill.forfeited + amount_of p x.amounts.forfeited) xs

-- Step 2 on the registers of one call on an account, by 02 No. 4 "from the filled readings": what was delivered, and what was received and so
-- exported.
abbrev pub delivered_by : Period → Account → Call → ℕ
delivered_by p a (opening t l m) = 0
delivered_by p a (repricing l) = 0
delivered_by p a (billing m delivered received x) = sum_of (schedule_of a) m x delivered (number_of p)
delivered_by p a closing = 0

abbrev pub exported_by : Period → Account → Call → ℕ
exported_by p a (opening t l m) = 0
exported_by p a (repricing l) = 0
exported_by p a (billing m delivered received x) = sum_of (schedule_of a) m x received (number_of p)
exported_by p a closing = 0

-- The same over a list, "of the bills answered 0".
unfoldable pub register_total : (Account → Call → ℕ) → Account → List Call → ℕ
register_total f a [] = 0
register_total f a (c ∷ cs) = cond (eqb (answer_of a c).number 0) (f a c) 0 + register_total f (account_after a c) cs

-- Each answer has a property.
unfoldable pub Each : (Answer → Type 0) → List Answer → Type 0
Each P [] = Unit {0}
Each P (x ∷ xs) = P x × Each P xs

-- A bill that charges a watt-hour in period p has left 0 and paid 0 there and in each dearer period q: "left and paid are that bill's own; a
-- dearer period is one of lower number".
abbrev pub ChargedLast : Answer → Type 0
ChargedLast x =
    (p q : Period) → 0 < amount_of p x.bill.billed → number_of q ≤ number_of p
    → (amount_of q x.bill.left ≡ 0) × (amount_of q x.bill.paid ≡ 0)

-- "The fresh account that a list starts from has 0 carried and 0 standing." Our reading: its terms, price list and next month may be anything.
pub record StartsFresh (a : Account) : Type 0 where
  pub stage : a.stage ≡ Fresh
  pub carried : a.carried ≡ none
  pub standing : a.standing ≡ 0

-- The balances of a list from account a, which hold where a starts fresh.
pub record Balanced (a : Account) (cs : List Call) : Type 0 where
  -- "exported = own + moved out + paid + forfeited + left"
  pub exported : (p : Period) →
      register_total (exported_by p) a cs
      ≡ bill_total p (λ b. b.own) (answers_of a cs) + bill_total p (λ b. b.out) (answers_of a cs)
      + bill_total p (λ b. b.paid) (answers_of a cs) + forfeited_total p (answers_of a cs)
      + amount_of p (last_of a cs).carried
  -- "delivered = own + moved in + billed"
  pub delivered : (p : Period) →
      register_total (delivered_by p) a cs
      ≡ bill_total p (λ b. b.own) (answers_of a cs) + bill_total p (λ b. b.into) (answers_of a cs)
      + bill_total p (λ b. b.billed) (answers_of a cs)
  -- "summed, moved out = moved in"
  pub moved : all_periods (λ b. b.out) (answers_of a cs) ≡ all_periods (λ b. b.into) (answers_of a cs)
  -- "granted = used + refunded + standing"
  pub money :
      total_by (λ x. x.bill.charges.granted) (answers_of a cs)
      ≡ total_by (λ x. x.bill.charges.used) (answers_of a cs)
      + total_by (λ x. x.amounts.refunded) (answers_of a cs) + (last_of a cs).standing
  -- "every bill that charges a watt-hour .."
  pub charged : Each ChargedLast (answers_of a cs)
