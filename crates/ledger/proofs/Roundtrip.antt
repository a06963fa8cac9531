-- A list of calls, lent by its records and registers, is read back as that list: each call by its own case.
use mathlib.Core.Path.{◌≡◌, refl}
use mathlib.Core.Bool.{Bool, true, false, cond}
use mathlib.Core.List.{List, [], ◌∷◌, ◌++◌, append_assoc}
use Prim.Native.Nat.{ℕ, zero, suc, ◌*◌, ◌/◌, ◌^◌, ◌≤◌}
use native.Mathlib.Omega.{arith}
use borrow.Author.Tests.{lt-ltb, eqb-true}
use lib.Dec.{eqb}
use lib.ListN.{length, get_or, take, drop, replicate, length-append, length-replicate}
use lib.Seq.{take-append_seam, drop-append_seam, take_at, drop_at, get_or_at}
use Rattle.tariff.specs.declared.Terms.{Terms}
use Rattle.tariff.specs.declared.PriceList.{PriceList}
use Rattle.tariff.specs.Tariff.{most_nameplates}
use Rattle.records.specs.Sections.{terms_length, terms_numbers, terms_at, known_terms, prices_numbers, prices_at}
use Rattle.records.specs.Records.{opening_kind, repricing_kind, billing_kind, kind_of, count_at, opening_codes, billing_codes, is_call}
use Rattle.records.specs.Records.{terms_place, prices_place, first_month_place, month_place, delivered_place, received_place, critical_place, record_length}
use Rattle.records.proofs.Laws.{month_fits, billing_fits}
use Rattle.records.proofs.Sections.{terms_long, eight_read, terms_back, terms_known, prices_long, prices_back}
use Rattle.balances.specs.Calls.{Call, opening, repricing, billing, closing}
use Rattle.ledger.specs.Encoding.{call_of, decode, calls_in, with_zeros, record_of, delivered_of, received_of, joined, Fits, AllFit}

-- What an opening's record has after its kind.
module _ (t : Terms) (l : PriceList) (m : ℕ) where
  opening_known : known_terms (record_of (opening t l m)) terms_place ≡ true
  unfolding record_of
  opening_known =
      rw (append_assoc (opening_kind ∷ terms_numbers t) (prices_numbers l) (m ∷ []))
      (terms_known (opening_kind ∷ []) terms_place refl t (prices_numbers l ++ m ∷ []))

  opening_terms_lem : length t.nameplates ≡ most_nameplates → terms_at (record_of (opening t l m)) terms_place ≡ t
  unfolding record_of
  opening_terms_lem eight =
      rw (append_assoc (opening_kind ∷ terms_numbers t) (prices_numbers l) (m ∷ []))
      (terms_back (opening_kind ∷ []) terms_place refl t (prices_numbers l ++ m ∷ []) eight)

  opening_prices_lem : prices_at (record_of (opening t l m)) prices_place ≡ l
  unfolding record_of
  opening_prices_lem = prices_back (opening_kind ∷ terms_numbers t) prices_place (omega (arith, terms_long t)) l (m ∷ [])

  before_month : length (opening_kind ∷ terms_numbers t ++ prices_numbers l) ≡ first_month_place
  before_month = rw length-append (omega (arith, terms_long t, prices_long l))

  opening_month_lem : get_or (record_of (opening t l m)) first_month_place 0 ≡ m
  unfolding record_of
  opening_month_lem = get_or_at (opening_kind ∷ terms_numbers t ++ prices_numbers l) m [] 0 first_month_place before_month

repricing_prices : (l : PriceList) → prices_at (record_of (repricing l)) prices_place ≡ l
unfolding record_of with_zeros
repricing_prices l = prices_back (repricing_kind ∷ replicate terms_length 0) prices_place refl l _

-- The record of a call is a call, and with the call's registers that call.
known : (c : Call) → Fits c → is_call (record_of c) ≡ true
unfolding record_of with_zeros is_call opening_codes billing_codes
known (opening t l m) h = rw (opening_known t l m, opening_month_lem t l m, lt-ltb m (2 ^ 32) h.1)
known (repricing l) h = refl
known (billing m delivered received x) h = rw (lt-ltb m (2 ^ 32) h.0, lt-ltb x (2 ^ 32) h.1)
known closing h = refl

back : (c : Call) → Fits c → call_of (record_of c) (delivered_of c) (received_of c) ≡ c
unfolding record_of with_zeros call_of
back (opening t l m) h = rw (opening_terms_lem t l m h.0, opening_prices_lem t l m, opening_month_lem t l m)
back (repricing l) h = rw (repricing_prices l)
back (billing m delivered received x) h = refl
back closing h = refl

-- It takes its own registers from the front of what is lent.
delivered_count : (c : Call) → count_at (record_of c) delivered_place ≡ length (delivered_of c)
unfolding record_of with_zeros count_at
delivered_count (opening t l m) = refl
delivered_count (repricing l) = refl
delivered_count (billing m delivered received x) = refl
delivered_count closing = refl

received_count : (c : Call) → count_at (record_of c) received_place ≡ length (received_of c)
unfolding record_of with_zeros count_at
received_count (opening t l m) = refl
received_count (repricing l) = refl
received_count (billing m delivered received x) = refl
received_count closing = refl

-- It has a record's length.
zeros_size : (xs : List ℕ) → length xs ≤ record_length → length (with_zeros xs) ≡ record_length
unfolding with_zeros
zeros_size xs h = rw (length-append, length-replicate) (omega arith)

record_size : (c : Call) → length (record_of c) ≡ record_length
unfolding record_of
record_size (opening t l m) = rw length-append (omega (arith, before_month t l m))
record_size (repricing l) =
    zeros_size (repricing_kind ∷ replicate terms_length 0 ++ prices_numbers l) (rw length-append (omega (arith, prices_long l)))
record_size (billing m delivered received x) = zeros_size _ (omega arith)
record_size closing = zeros_size _ (omega arith)

size : (cs : List Call) → length (joined record_of cs) ≡ record_length * length cs
unfolding joined
size [] = refl
size (c ∷ cs) = rw (length-append (record_of c) (joined record_of cs), record_size c) (omega (arith, size cs))

decoded : (cs : List Call) → AllFit cs → decode (length cs) (joined record_of cs) (joined delivered_of cs) (joined received_of cs) ≡ cs
unfolding decode joined AllFit
decoded [] h = refl
decoded (c ∷ cs) h =
    rw (
      take_at (record_of c) (joined record_of cs) record_length (record_size c),
      drop_at (record_of c) (joined record_of cs) record_length (record_size c),
      known c h.0,
      delivered_count c,
      received_count c,
      take-append_seam (delivered_of c) (joined delivered_of cs),
      drop-append_seam (delivered_of c) (joined delivered_of cs),
      take-append_seam (received_of c) (joined received_of cs),
      drop-append_seam (received_of c) (joined received_of cs),
      back c h.0,
      decoded cs h.1,
    )

pub read_back : (cs : List Call) → AllFit cs → calls_in (joined record_of cs) (joined delivered_of cs) (joined received_of cs) ≡ cs
unfolding calls_in
read_back cs h =
    let e : length (joined record_of cs) / record_length ≡ length cs = omega (arith, size cs) in
    rw e (decoded cs h)

-- The calls that a lent list is read as fit, so that the promise on every list of calls is one on all that can be lent.
one_fits : (w delivered received : List ℕ) → is_call w ≡ true → Fits (call_of w delivered received)
unfolding call_of
one_fits w delivered received e = by (eqb (kind_of w) opening_kind) refl
  where
    other : (t : Bool) → eqb (kind_of w) billing_kind ≡ t
        → Fits (cond t (billing (get_or w month_place 0) delivered received (get_or w critical_place 0)) closing)
    other true k = billing_fits w e (eqb-true _ _ k)
    other false k = tt

    later : (t : Bool) → Fits
        (cond t (repricing (prices_at w prices_place))
        (cond (eqb (kind_of w) billing_kind) (billing (get_or w month_place 0) delivered received (get_or w critical_place 0)) closing))
    later true = tt
    later false = other (eqb (kind_of w) billing_kind) refl

    by : (t : Bool) → eqb (kind_of w) opening_kind ≡ t → Fits
        (cond t (opening (terms_at w terms_place) (prices_at w prices_place) (get_or w first_month_place 0))
        (cond (eqb (kind_of w) repricing_kind) (repricing (prices_at w prices_place))
        (cond (eqb (kind_of w) billing_kind) (billing (get_or w month_place 0) delivered received (get_or w critical_place 0)) closing)))
    by true k = (eight_read w terms_place, month_fits w e (eqb-true _ _ k))
    by false k = later (eqb (kind_of w) repricing_kind)

read_fit : (n : ℕ) (ws delivered received : List ℕ) → AllFit (decode n ws delivered received)
unfolding decode AllFit
read_fit zero ws delivered received = tt
read_fit (suc n) ws delivered received = by (is_call (take record_length ws)) refl (read_fit n _ _ _)
  where
    by : (t : Bool) → is_call (take record_length ws) ≡ t
        → AllFit
        (decode
        n
        (drop record_length ws)
        (drop (count_at (take record_length ws) delivered_place) delivered)
        (drop (count_at (take record_length ws) received_place) received))
        → AllFit
        (cond t
        (call_of
        (take record_length ws)
        (take (count_at (take record_length ws) delivered_place) delivered)
        (take (count_at (take record_length ws) received_place) received)
        ∷ decode
        n
        (drop record_length ws)
        (drop (count_at (take record_length ws) delivered_place) delivered)
        (drop (count_at (take record_length ws) received_place) received))
        [])
    by true e rest = (one_fits (take record_length ws) _ _ e, rest)
    by false e rest = tt

pub calls_fit : (ws delivered received : List ℕ) → AllFit (calls_in ws delivered received)
unfolding calls_in
calls_fit ws delivered received = read_fit (length ws / record_length) ws delivered received
