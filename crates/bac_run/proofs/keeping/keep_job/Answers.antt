use Rattle.std.proofs.Common.{◌≡◌, None, false, refl, true}
use Rattle.bac_run.proofs.keeping.keep_job.Goals as goal

pub returns-then-asked-clause-ran : goal.returns-then-asked-clause-ran
returns-then-asked-clause-ran g c =
    let asked : c.args.asked.quiet ≡ true = c.if-asked.true in
    let same = refl {a = g.O.Write.contents c.args.console.now.output} in
    (None, None, rw asked same, c.keep_devices.ensures.ran)

pub returns-clause-ran : goal.returns-clause-ran
returns-clause-ran g c =
    let asked : c.args.asked.quiet ≡ false = c.if-asked.false in
    let before = g.O.Write.contents c.args.console.now.output in
    let after = g.O.Write.contents c.keep_devices-2.new.output in
    (before, after, rw asked (refl {a = before}, refl {a = after}), c.keep_devices-2.ensures.ran)
