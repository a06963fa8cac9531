-- An account's row, part by part: that it is known to be an account, and that it is read back as that account.
use mathlib.Core.Path.{◌≡◌, refl}
use mathlib.Core.Bool.{true}
use mathlib.Core.List.{List, [], ◌∷◌, ◌++◌, append_assoc}
use Prim.Native.Nat.{ℕ, ◌+◌, ◌^◌, ◌<◌}
use native.Mathlib.Omega.{arith}
use borrow.Author.Tests.{lt-ltb}
use lib.Dec.{leb}
use lib.ListN.{length, get_or, length-append}
use Rattle.hours.specs.Hours.{four}
use Rattle.tariff.specs.Tariff.{most_nameplates}
use Rattle.account.specs.declared.Stage.{Stage}
use Rattle.account.specs.declared.Stage.TheVariants.{Fresh, Open, Closed}
use Rattle.account.specs.declared.Account.{Account}
use Rattle.account.specs.Codes.{stage_code, stage_at}
use Rattle.records.specs.Sections.{terms_numbers, terms_at, known_terms, prices_numbers, prices_at}
use Rattle.records.proofs.Sections.{later, terms_long, terms_back, terms_known, prices_long, prices_back}
use Rattle.kozempil.specs.Interface.{account_row, is_account, account_at}
use Rattle.kozempil.specs.Interface.{stage_place, terms_place, prices_place, next_place, account_length}

stage_known : (s : Stage) → leb (stage_code s) 2 ≡ true
stage_known Fresh = refl
stage_known Open = refl
stage_known Closed = refl

stage_back : (s : Stage) → stage_at (stage_code s) ≡ s
stage_back Fresh = refl
stage_back Open = refl
stage_back Closed = refl

-- The parts of an account's row.
module _ (a : Account) where
  abbrev stage : List ℕ
  stage = stage_code a.stage ∷ []

  abbrev terms : List ℕ
  terms = terms_numbers a.terms

  abbrev prices : List ℕ
  prices = prices_numbers a.prices

  abbrev rest : List ℕ
  rest = a.next ∷ four a.carried (a.standing ∷ [])

  before_prices : length (stage ++ terms) ≡ prices_place
  before_prices = omega (arith, terms_long a.terms)

  before_next : length (stage ++ terms ++ prices) ≡ next_place
  before_next = rw length-append (omega (arith, before_prices, prices_long a.prices))

  terms_known_here : known_terms (account_row a) terms_place ≡ true
  unfolding account_row
  terms_known_here = rw (append_assoc (stage ++ terms) prices rest) (terms_known stage terms_place refl a.terms (prices ++ rest))

  terms_here : length a.terms.nameplates ≡ most_nameplates → terms_at (account_row a) terms_place ≡ a.terms
  unfolding account_row
  terms_here eight = rw (append_assoc (stage ++ terms) prices rest) (terms_back stage terms_place refl a.terms (prices ++ rest) eight)

  prices_here : prices_at (account_row a) prices_place ≡ a.prices
  unfolding account_row
  prices_here = prices_back (stage ++ terms) prices_place before_prices a.prices rest

  rest_here : (n : ℕ) → get_or (account_row a) (next_place + n) 0 ≡ get_or rest n 0
  unfolding account_row
  rest_here n = later (stage ++ terms ++ prices) next_place before_next rest n

  row_long : length (account_row a) ≡ account_length
  unfolding account_row
  row_long = rw (length-append (stage ++ terms ++ prices) rest, before_next)

  stage_here : get_or (account_row a) stage_place 0 ≡ stage_code a.stage
  unfolding account_row
  stage_here = refl

-- What is written of an account is read back as that one. The terms of every account have eight places for nameplates in the code,
read_back : (a : Account) → length a.terms.nameplates ≡ most_nameplates → account_at (account_row a) ≡ a
unfolding account_at
read_back a eight =
    rw (
      stage_here a,
      stage_back a.stage,
      terms_here a eight,
      prices_here a,
      rest_here a 0,
      rest_here a 1,
      rest_here a 2,
      rest_here a 3,
      rest_here a 4,
      rest_here a 5,
    )

-- and its next month has 32 bits: so both are asked here.
known : (a : Account) → a.next < 2 ^ 32 → is_account (account_row a) ≡ true
unfolding is_account
known a h =
    rw (row_long a, stage_here a, stage_known a.stage, terms_known_here a, rest_here a 0, lt-ltb a.next (2 ^ 32) h)

pub row_reads_back : (a : Account) → a.next < 2 ^ 32 → length a.terms.nameplates ≡ most_nameplates
    → (is_account (account_row a) ≡ true) × (account_at (account_row a) ≡ a)
row_reads_back a h eight = (known a h, read_back a eight)
