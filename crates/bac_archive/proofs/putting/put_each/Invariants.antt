use Rattle.std.proofs.Common.{◌≡◌, ◌++◌, IsTrue, List, length}
use Rattle.sqlite.specs.State.{HasCleanDisk, Survives, KeepsCommit}
use Rattle.sqlite.specs.Held.{state}
use Rattle.bac_archive.specs.Schema.{HasArchive}
use Rattle.bac_archive.specs.Put.{Puts}
use Rattle.bac_archive.specs.declared.row.Put.{Put}
use Rattle.bac_archive.proofs.putting.put_each.Given as goal

abbrev pub invariant-loop-behind : goal.invariant-loop-behind
invariant-loop-behind g l =
    (l.tx.conn.ghost_name ≡ l.fn.tx.conn.ghost_name)
    × (HasCleanDisk (state g.S.Store l.tx.conn.now) → IsTrue (state g.S.Store l.fn.tx.conn.now).in_transaction → HasArchive (state g.S.Store l.fn.tx.conn.now).now.schema
    → (done : List Put) × (l.fn.puts ≡ done ++ l.behind) × Puts (state g.S.Store l.fn.tx.conn.now) (state g.S.Store l.tx.conn.now) done)
    × Survives (state g.S.Store l.fn.tx.conn.now) (state g.S.Store l.tx.conn.now) (λ _. ⊥)
    × (HasCleanDisk (state g.S.Store l.tx.conn.now) → IsTrue (state g.S.Store l.fn.tx.conn.now).in_transaction → HasArchive (state g.S.Store l.fn.tx.conn.now).now.schema
    → KeepsCommit (state g.S.Store l.fn.tx.conn.now) (state g.S.Store l.tx.conn.now))

abbrev pub decreases-loop-behind : goal.decreases-loop-behind
decreases-loop-behind g l = length l.behind
