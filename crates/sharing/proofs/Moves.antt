-- What six moves in turn make is what `shared_of` gives. So a law about it needs to be shown of six moves alone.
use mathlib.Core.Path.{◌≡◌, refl, subst}
use Prim.Native.Nat.{ℕ, ◌+◌, ◌-◌, ◌<◌, min}
use native.Mathlib.Omega.{arith}
use Rattle.hours.specs.declared.ByPeriod.{ByPeriod}
use Rattle.sharing.specs.declared.Shared.{Shared}
use Rattle.sharing.specs.Sharing.{Moves, moves_of, moved_out, moved_in, less, shared_of}

-- One move: what is moved, and what the credit and the need still have.
pub record Moved : Type 0 where
  pub moved : ℕ
  pub credit : ℕ
  pub need : ℕ

-- The six moves, each named by the number of the credit's period and that of the need's.
pub record SixMoves : Type 0 where
  pub m01 : Moved
  pub m02 : Moved
  pub m03 : Moved
  pub m12 : Moved
  pub m13 : Moved
  pub m23 : Moved

-- r is one move from a credit to a need: "the smaller of what that credit and that need still have", and what both have after it.
pub record Moving (credit need : ℕ) (r : Moved) : Type 0 where
  pub moved : r.moved ≡ min credit need
  pub spent : r.moved + r.credit ≡ credit
  pub met : r.moved + r.need ≡ need

-- r is the six moves in the order of the text, each from what the moves before it left.
pub record InTurn (credit need : ByPeriod) (r : SixMoves) : Type 0 where
  pub m01 : Moving credit.critical need.onpeak r.m01
  pub m02 : Moving r.m01.credit need.offpeak r.m02
  pub m03 : Moving r.m02.credit need.discount r.m03
  pub m12 : Moving credit.onpeak r.m02.need r.m12
  pub m13 : Moving r.m12.credit r.m03.need r.m13
  pub m23 : Moving credit.offpeak r.m13.need r.m23

-- In each period a and b add up to c, so b is what is left of c without a.
pub record Sums (a b c : ByPeriod) : Type 0 where
  pub critical : a.critical + b.critical ≡ c.critical
  pub onpeak : a.onpeak + b.onpeak ≡ c.onpeak
  pub offpeak : a.offpeak + b.offpeak ≡ c.offpeak
  pub discount : a.discount + b.discount ≡ c.discount

less_is : {a b c : ByPeriod} → Sums a b c → less c a ≡ b
less_is {a} {b} {c} h =
    let critical : c.critical - a.critical ≡ b.critical = omega arith in
    let onpeak : c.onpeak - a.onpeak ≡ b.onpeak = omega arith in
    let offpeak : c.offpeak - a.offpeak ≡ b.offpeak = omega arith in
    let discount : c.discount - a.discount ≡ b.discount = omega arith in
    rw (critical, onpeak, offpeak, discount)

-- One move: what is left, and that a need which still has something leaves nothing of the credit that met it.
credit_left : {c n : ℕ} {r : Moved} → Moving c n r → c - r.moved ≡ r.credit
credit_left h = omega arith

need_left : {c n : ℕ} {r : Moved} → Moving c n r → n - r.moved ≡ r.need
need_left h = omega arith

pub used : {c n : ℕ} {r : Moved} → Moving c n r → 0 < r.need → r.credit ≡ 0
used h l = omega arith

-- Six moves: what is moved, and what they make, read off the last move of each credit and of each need.
abbrev amounts : SixMoves → Moves
amounts r =
    record {
      from0to1 = r.m01.moved;
      from0to2 = r.m02.moved;
      from0to3 = r.m03.moved;
      from1to2 = r.m12.moved;
      from1to3 = r.m13.moved;
      from2to3 = r.m23.moved;
    }

abbrev pub made : ByPeriod → ByPeriod → SixMoves → Shared
made credit need r =
    record {
      out = moved_out (amounts r);
      into = moved_in (amounts r);
      unspent = record { critical = r.m03.credit; onpeak = r.m13.credit; offpeak = r.m23.credit; discount = credit.discount };
      billed = record { critical = need.critical; onpeak = r.m01.need; offpeak = r.m12.need; discount = r.m23.need };
    }

-- Each credit is moved out or left over, each need moved in or left over; and this is what the definition gives.
module _ {credit need : ByPeriod} {r : SixMoves} (h : InTurn credit need r) where
  pub made_spent : Sums (made credit need r).out (made credit need r).unspent credit
  made_spent = record { critical = omega arith; onpeak = omega arith; offpeak = omega arith; discount = omega arith }

  pub made_met : Sums (made credit need r).into (made credit need r).billed need
  made_met = record { critical = omega arith; onpeak = omega arith; offpeak = omega arith; discount = omega arith }

  amounts_are : amounts r ≡ moves_of credit need
  unfolding moves_of
  amounts_are =
      rw (
        ← h.m01.moved,
        credit_left h.m01,
        ← h.m02.moved,
        credit_left h.m02,
        need_left h.m02,
        ← h.m03.moved,
        need_left h.m03,
        ← h.m12.moved,
        credit_left h.m12,
        ← h.m13.moved,
        need_left h.m13,
        ← h.m23.moved,
      )

  pub made_is : made credit need r ≡ shared_of credit need
  unfolding shared_of
  made_is = rw (← amounts_are, less_is made_spent, less_is made_met)

-- Every credit and need have six such moves.
move_of : ℕ → ℕ → Moved
move_of c n = record { moved = min c n; credit = c - min c n; need = n - min c n }

moving : (c n : ℕ) → Moving c n (move_of c n)
unfolding move_of
moving c n = record { moved = refl; spent = omega arith; met = omega arith }

in_turn_of : ByPeriod → ByPeriod → SixMoves
in_turn_of credit need =
    let m01 : Moved = move_of credit.critical need.onpeak in
    let m02 : Moved = move_of m01.credit need.offpeak in
    let m03 : Moved = move_of m02.credit need.discount in
    let m12 : Moved = move_of credit.onpeak m02.need in
    let m13 : Moved = move_of m12.credit m03.need in
    let m23 : Moved = move_of credit.offpeak m13.need in
    record { m01 = m01; m02 = m02; m03 = m03; m12 = m12; m13 = m13; m23 = m23 }

in_turn_lem : (credit need : ByPeriod) → InTurn credit need (in_turn_of credit need)
unfolding in_turn_of
in_turn_lem credit need =
    record {
      m01 = moving _ _;
      m02 = moving _ _;
      m03 = moving _ _;
      m12 = moving _ _;
      m13 = moving _ _;
      m23 = moving _ _;
    }

-- What holds of all that six moves make holds of the definition.
pub by_moves : (P : Shared → Type 0) (credit need : ByPeriod) → ((r : SixMoves) → InTurn credit need r → P (made credit need r)) → P (shared_of credit need)
by_moves P credit need h = subst P (made_is (in_turn_lem credit need)) (h _ (in_turn_lem credit need))
