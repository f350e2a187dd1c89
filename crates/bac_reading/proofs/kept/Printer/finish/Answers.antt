use Rattle.std.proofs.Common.{◌≡◌, inl, inr, refl, true, false, rules}
use Rattle.bac_reading.specs.Report.{goes_on}
use Rattle.bac_reading.proofs.kept.Printer.finish.Goals as goal

pub returns-then-not-goes_on : goal.returns-then-not-goes_on
returns-then-not-goes_on g c =
    let ended : goes_on c.args.self.now.report ≡ false = search rules in
    inl (ended, refl, refl)

pub returns : goal.returns
returns g c =
    let on : goes_on c.args.self.now.report ≡ true = search rules in
    inr (on, c.sent-printed.ensures.kept, (c.sent-printed.result, c.sent-printed.ensures.sent, c.settle.ensures))
