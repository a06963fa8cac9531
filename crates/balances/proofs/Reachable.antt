-- An account reached from a fresh one whose next month is in bounds never meets refusal 3's: it holds at most 1,200 months' export,
-- 3,571,200,000,000 Wh and cents together.
use mathlib.Core.Path.{◌≡◌}
use mathlib.Core.Bool.{false}
use mathlib.Core.List.{List, [], ◌∷◌}
use Prim.Native.Nat.{◌≤◌}
use native.Mathlib.Omega.{arith}
use borrow.Author.Tests.{le-ltb}
use Rattle.charges.specs.Charges.{carried_limit, standing_limit}
use Rattle.billing.specs.Netting.{AtMost}
use Rattle.billing.proofs.Limits.{none_over}
use Rattle.account.specs.declared.Account.{Account}
use Rattle.account.specs.Refusals.{cant_arise, highest_next}
use Rattle.balances.specs.Calls.{Call, account_after, last_of}
use Rattle.balances.specs.Balances.{StartsFresh}
use Rattle.balances.proofs.Steps.{Reached, fresh_reached, step}

reached_from : (a : Account) (cs : List Call) → Reached a → Reached (last_of a cs)
unfolding last_of
reached_from a [] r = r
reached_from a (c ∷ cs) r = reached_from (account_after a c) cs (step a c r).reached

next_from : (a : Account) (cs : List Call) → Reached a → a.next ≤ highest_next → (last_of a cs).next ≤ highest_next
unfolding last_of
next_from a [] r h = h
next_from a (c ∷ cs) r h = next_from (account_after a c) cs (step a c r).reached ((step a c r).next h)

arises : (a : Account) → Reached a → a.next ≤ highest_next → cant_arise a ≡ false
unfolding cant_arise
arises a r h =
    let carried : AtMost carried_limit a.carried = omega (arith, r.held) in
    rw (none_over _ _ carried, le-ltb standing_limit a.standing (omega arith), le-ltb highest_next a.next h) r.contents

pub reachable : (a : Account) → StartsFresh a → a.next ≤ highest_next → (cs : List Call) → cant_arise (last_of a cs) ≡ false
reachable a f h cs =
    let r : Reached a = fresh_reached a f in
    arises (last_of a cs) (reached_from a cs r) (next_from a cs r h)
