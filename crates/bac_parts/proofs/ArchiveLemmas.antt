-- A database that is taken as an archive, and what is left of it.
use Rattle.std.proofs.Common.{◌≡◌, ◌⊎◌, ◌∙◌, ◌++◌, ap, arith, inl, inr, IsTrue, List, ℕ, sym}
use Rattle.sqlite_trees.specs.Tree.{Trees}
use Rattle.sqlite.specs.Effect.{Database}
use Rattle.sqlite.specs.State.{HasCleanDisk, IsUnchanged, State, Survives}
use Rattle.sqlite_schema.specs.declared.schema.Schema.{Schema}
use Rattle.bac_archive.proofs.AroundLemmas.{made_is}
use Rattle.bac_archive.specs.Ask.{IsLeft}
use Rattle.bac_archive.specs.Making.{IsMadeOf}
use Rattle.bac_archive.specs.Schema.{HasArchive, archive_tables, no_schema}
use Rattle.bac_archive.specs.declared.row.Put.{Put}

-- what has nothing is no archive
pub not_both : (s : Schema) → s ≡ no_schema → HasArchive s → ⊥
not_both s none has = let e : no_schema.tables ≡ archive_tables ++ has.tables.others = ap (λ (x : Schema). x.tables) (sym none) ∙ has.tables.are in absurd (cc)

-- what was made is one by its tables
pub made_has : (moment : List ℕ) (db : Database) (puts : List Put) → IsMadeOf moment db puts → HasArchive db.schema
made_has moment db puts (made, is, put) = made_is db.schema (put.schema ∙ is.schema)

-- no fault is forgotten
pub clean_before : (old new : State) (P : Trees → Type 0) → Survives old new P → HasCleanDisk new → HasCleanDisk old
clean_before old new P survives clean = omega (arith, survives.clean, clean)

-- what changed nothing, twice
pub unchanged_twice : (a b c : State) → IsUnchanged a b → IsUnchanged b c → IsUnchanged a c
unchanged_twice a b c one two = (
  record {
    was_open = one.0.was_open;
    is_open = two.0.is_open;
    now_is = two.0.now_is ∙ one.0.now_is;
    committed_is = two.0.committed_is ∙ one.0.committed_is;
    mode = two.0.mode ∙ one.0.mode;
  },
  record { changes = two.1.changes ∙ one.1.changes; last_rowid = two.1.last_rowid ∙ one.1.last_rowid },
  two.2 ∙ one.2,
)

-- what was committed stays where a question failed
pub still_committed : (a b : State) → IsLeft a b → IsTrue b.is_open → b.committed ≡ a.committed
still_committed a b (inl same) is = same.0.committed_is
still_committed a b (inr back) is = (back.undone is).1
