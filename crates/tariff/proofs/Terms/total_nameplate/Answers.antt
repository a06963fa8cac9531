-- `tariff::Terms::total_nameplate` adds up the nameplates, up to the largest number of 64 bits.
use mathlib.Core.Path.{◌≡◌}
use native.Mathlib.Omega.{arith}
use Rattle.std.proofs.Common.{rules}
use Rattle.std.specs.List.{fold}
use Rattle.tariff.specs.Tariff.{nameplates_of, total_nameplate}
use Rattle.tariff.proofs.Nameplates.{capped, capped_sum}
use Rattle.tariff.proofs.Terms.total_nameplate.Goals as goal

pub returns : goal.returns
unfolding total_nameplate
returns c = let sum : c.fold.result ≡ fold capped 0 (nameplates_of c.args.self.now) = search rules in
    omega (arith, sum, capped_sum 0 (nameplates_of c.args.self.now) (omega arith))
