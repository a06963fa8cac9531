-- `progress::readings::Readings::add` fills the places behind the readings.
use mathlib.Core.Path.{◌≡◌, ap₂}
use native.Mathlib.Omega.{arith}
use lib.ListN.{length, length-take}
use Rattle.lines.specs.Feeding.{registers_of}
use Rattle.progress.proofs.Storing.{filled_front, filled_past}
use Rattle.progress.proofs.readings.Readings.add.Goals as goal

pub returns : goal.returns
returns c =
    let x = c.args.self.now in
    let run = c.args.run in
    let long : length x.delivered ≡ 2976 = omega arith in
    let wide : length x.received ≡ 2976 = omega arith in
    let d = c.fill.ensures.after (λ y h. h) in
    let e = c.fill-2.ensures.after (λ y h. h) in
    record {
      added =
          record {
            fits = omega (arith, length-take x.count x.delivered);
            delivered = filled_front x.delivered _ x.count run.count run.delivered (omega arith) d;
            received = filled_front x.received _ x.count run.count run.received (omega arith) e;
            registers =
                ap₂ registers_of (filled_past x.delivered _ x.count run.count run.delivered (omega arith) d)
                (filled_past x.received _ x.count run.count run.received (omega arith) e);
          };
      refused = tt;
    }
