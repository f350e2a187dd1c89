use Rattle.std.proofs.Common.{refl}
use Rattle.sqlite.specs.Held.{state}
use Rattle.bac_files.specs.Parts.{reading}
use Rattle.bac_reading.proofs.SeekLemmas.{search_noted}
use Rattle.bac_reading.proofs.last.SeekerReader.read.Goals as goal

pub returns : goal.returns
returns g c =
    let it = c.seek-self.ensures in
    let found = reading (state g.A.Store c.args.conn.now) (state g.A.Store c.seek-self.new.conn) in
    (it.same.0, it.same.1, it.left, search_noted c.args.self.now found c.seek-self.new.self c.seek-self.result c.seek-self.result it.sought, refl)
