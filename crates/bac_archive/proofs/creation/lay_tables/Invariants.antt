use Rattle.std.proofs.Common.{◌≡◌, IsTrue, drop}
use Rattle.sqlite.specs.State.{HasCleanDisk, Survives, KeepsCommit}
use Rattle.sqlite.specs.Held.{state}
use Rattle.bac_archive.specs.Making.{steps}
use Rattle.bac_archive.specs.Schema.{no_schema}
use Rattle.bac_archive.proofs.CreateLemmas.{stands_before, AreTexts}
use Rattle.bac_archive.proofs.creation.lay_tables.Given as goal

abbrev pub invariant-loop-statement : goal.invariant-loop-statement
invariant-loop-statement g l = record {
  texts : AreTexts l.statement-items;
  same_reference : l.tx.conn.ghost_name ≡ l.fn.tx.conn.ghost_name;
  laid : HasCleanDisk (state g.S.Store l.tx.conn.now) → IsTrue (state g.S.Store l.fn.tx.conn.now).in_transaction → (state g.S.Store l.fn.tx.conn.now).now.schema ≡ no_schema
      → stands_before (drop l.statement-index steps) (state g.S.Store l.fn.tx.conn.now) (state g.S.Store l.tx.conn.now);
  crash : Survives (state g.S.Store l.fn.tx.conn.now) (state g.S.Store l.tx.conn.now) (λ _. ⊥);
  kept : HasCleanDisk (state g.S.Store l.tx.conn.now) → IsTrue (state g.S.Store l.fn.tx.conn.now).in_transaction → (state g.S.Store l.fn.tx.conn.now).now.schema ≡ no_schema
      → KeepsCommit (state g.S.Store l.fn.tx.conn.now) (state g.S.Store l.tx.conn.now);
}
