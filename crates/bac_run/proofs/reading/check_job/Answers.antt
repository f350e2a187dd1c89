use Rattle.std.proofs.Common.{◌≡◌, None, false, refl, true}
use Rattle.bac_run.proofs.reading.check_job.Goals as goal

pub returns-then-asked : goal.returns-then-asked
returns-then-asked g c =
    let asked : c.args.asked.now.quiet ≡ true = c.if-asked.true in
    let same = refl {a = g.O.Write.contents c.args.output.now} in
    rw asked (None, None, same, c.check_and_tell.ensures)

pub returns : goal.returns
returns g c =
    let asked : c.args.asked.now.quiet ≡ false = c.if-asked.false in
    rw asked (
      g.O.Write.contents c.args.output.now,
      g.O.Write.contents c.check_and_tell-2.new.output,
      (refl, refl),
      c.check_and_tell-2.ensures,
    )
