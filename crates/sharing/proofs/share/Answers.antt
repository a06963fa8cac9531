-- `sharing::share` makes six moves, each of what the moves before it left: `Moves` has what they come to.
use Rattle.sharing.proofs.Moves.{made_is}
use Rattle.sharing.proofs.share.Goals as goal

pub returns : goal.returns
returns c =
    made_is
    {
    r = record {
      m01 = record { moved = c.move_credit-m01.result; credit = c.move_credit-m01.new.credit; need = c.move_credit-m01.new.need };
      m02 = record { moved = c.move_credit-m02.result; credit = c.move_credit-m02.new.credit; need = c.move_credit-m02.new.need };
      m03 = record { moved = c.move_credit-m03.result; credit = c.move_credit-m03.new.credit; need = c.move_credit-m03.new.need };
      m12 = record { moved = c.move_credit-m12.result; credit = c.move_credit-m12.new.credit; need = c.move_credit-m12.new.need };
      m13 = record { moved = c.move_credit-m13.result; credit = c.move_credit-m13.new.credit; need = c.move_credit-m13.new.need };
      m23 = record { moved = c.move_credit-m23.result; credit = c.move_credit-m23.new.credit; need = c.move_credit-m23.new.need };
    }
    }
    (record {
      m01 = record { moved = c.move_credit-m01.ensures.moved; spent = c.move_credit-m01.ensures.spent; met = c.move_credit-m01.ensures.met };
      m02 = record { moved = c.move_credit-m02.ensures.moved; spent = c.move_credit-m02.ensures.spent; met = c.move_credit-m02.ensures.met };
      m03 = record { moved = c.move_credit-m03.ensures.moved; spent = c.move_credit-m03.ensures.spent; met = c.move_credit-m03.ensures.met };
      m12 = record { moved = c.move_credit-m12.ensures.moved; spent = c.move_credit-m12.ensures.spent; met = c.move_credit-m12.ensures.met };
      m13 = record { moved = c.move_credit-m13.ensures.moved; spent = c.move_credit-m13.ensures.spent; met = c.move_credit-m13.ensures.met };
      m23 = record { moved = c.move_credit-m23.ensures.moved; spent = c.move_credit-m23.ensures.spent; met = c.move_credit-m23.ensures.met };
    })
