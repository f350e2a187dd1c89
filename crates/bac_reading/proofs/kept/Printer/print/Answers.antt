use Rattle.std.proofs.Common.{inr}
use Rattle.sqlite.specs.Held.{state}
use Rattle.bac_reading.proofs.FoundLemmas.{as_found, printed_so}
use Rattle.bac_reading.proofs.kept.Printer.print.Goals as goal

pub returns-clause-printed : goal.returns-clause-printed
returns-clause-printed g c =
    let old = state g.A.Store c.args.conn.now in
    let mid = state g.A.Store c.take.new.conn in
    let new = state g.A.Store c.print_taken.new.conn in
    inr (printed_so old mid new (λ clean. (c.in_ok-take.ensures.archive (c.print_taken.ensures.clean clean)).1.0.now_is) c.print_taken.result c.args.self.now c.print_taken.new.self (g.O.Write.contents c.args.output.now)
    (g.O.Write.contents c.print_taken.new.output) c.print_taken.ensures.printed)

pub returns-clause-left : goal.returns-clause-left
returns-clause-left g c clean held =
    let taken = c.in_ok-take.ensures.archive (c.print_taken.ensures.clean clean) in
    as_found g.A.Store c.args.conn.now c.take.new.conn c.print_taken.new.conn taken.1 taken.2 (c.print_taken.ensures.left clean) held
