use Rattle.std.proofs.Common.{ℕ, Bool, cond, List, IfOk, ap₂, subst}
use Rattle.sqlite_disk.specs.Events.{Event, replay}
use Rattle.sqlite_wal.specs.Recovery.{Image}
use Rattle.bac_files.specs.Files.{IsOpenedBy}
use Rattle.bac_files.proofs.opening.connect.Goals as goal

abbrev image : List ℕ → List ℕ → Image
image log db = record { log = log; db = db }

abbrev seen : List ℕ → List ℕ → Bool → List Event → List ℕ
seen log db is_log history = (replay (cond is_log log db) history).seen

pub returns-in-Ok-clause-opened : goal.returns-in-Ok-clause-opened
returns-in-Ok-clause-opened g c =
    let (log, db) = c.in-Ok.ensures.fresh in
    let start = g.F.Start in
    let same = ap₂ image (ap₂ (seen start.log start.db) log.0 log.1) (ap₂ (seen start.log start.db) db.0 db.1) in
    subst (λ i. IfOk c.open_in.result (IsOpenedBy i)) same c.open_in.ensures.opened
