use Rattle.sqlite.specs.Held.{state}
use Rattle.bac_files.specs.Parts.{reading}
use Rattle.bac_reading.proofs.KeptLemmas.{noted}
use Rattle.bac_reading.proofs.kept.PrinterReader.read.Goals as goal

pub returns : goal.returns
returns g c =
    let it = c.print-self.ensures in
    let found = reading (state g.A.Store c.args.conn.now) (state g.A.Store c.print-self.new.conn) in (
      it.same.0,
      it.same.1,
      it.left,
      noted c.args.self.now found (g.O.Write.contents c.args.output.now) (g.O.Write.contents c.print-self.new.output) c.print-self.new.self c.print-self.result c.print-self.result it.printed,
    )
