use Rattle.std.proofs.Common.{◌≡◌, sym}
use Rattle.bac_run.proofs.keeping.run_and_tell.Goals as goal

pub returns-clause-ran : goal.returns-clause-ran
returns-clause-ran g c =
    let done = c.run_keep-done in
    let lent = done.ensures.machine in
    let output : c.output-1.given.0 ≡ done.new.machine.output.now = c.output-1.given.1 (sym lent.output) in
    let errors : c.errors-1.given.0 ≡ done.new.machine.errors.now = c.errors-1.given.1 (sym lent.errors) in
    let ends = rw errors at c.ended.ensures in
    rw output (
      done.new.machine.clock.now,
      done.result,
      g.E.Write.contents done.new.machine.errors.now,
      done.ensures.runs,
      ends,
    )
