-- A run loses nothing.
use Rattle.std.proofs.Common.{◌≡◌, inl, inr, ℕ, List, [], ◌++◌, IsTrue, refl, sym, ap, subst, ◌∙◌}
use Rattle.sqlite.specs.Effect.{Database}
use Rattle.sqlite.specs.Held.{Held, state}
use Rattle.sqlite_schema.specs.declared.schema.Schema.{Schema}
use Rattle.sqlite_trees.specs.Tree.{Trees}
use Rattle.sqlite_trees.specs.declared.store.Store.{Ghosts}
use Rattle.bac_archive.specs.Archive.{HasId}
use Rattle.bac_archive.specs.Put.{IsPut, LoseNothing, PutsJoin, PutsLoseNothing}
use Rattle.bac_archive.specs.Schema.{HasArchive, archive_tables, no_schema}
use Rattle.bac_archive.specs.declared.row.Put.{Put}
use Rattle.bac_drive.specs.Happens.{Acts, Scene}
use Rattle.bac_drive.specs.Laws.{RunsPut, puts_of}
use Rattle.bac_batch.specs.Batch.{Batched}
use Rattle.bac_site_poller.specs.Site.{SiteState}
use Rattle.bac_plan.specs.Told.{PutsKeepIds}
use Rattle.bac_keeping.specs.Keeping.{Around, Halts, HaltsEarly, IsNamed, IsOpened, Remains, RemainsEarly, at_first}
use Rattle.bac_keeping.specs.RecordLaws.{KeepRecord}
use Rattle.bac_keeping.specs.Laws.{EndLosesNothing, FaultLosesNothing, KillLosesNothing}
use Rattle.bac_keeping.specs.declared.run.KeepFault.{KeepFault}
use Rattle.bac_keeping.specs.declared.run.KeepFault.TheVariants as fault
use Rattle.bac_keeping.specs.declared.run.Run.{Run}
use Rattle.bac_keeping.proofs.Records.{has_named}
use Rattle.bac_keeping.proofs.Untouched.{opened_there}

-- what has tables isn't empty
never : (s : Schema) → HasArchive s → s ≡ no_schema → ⊥
never s has is =
    let e : [] ≡ archive_tables ++ has.tables.others = ap (λ (x : Schema). x.tables) (sym is) ∙ has.tables.are in cc

as_was : (old new : Trees) → new ≡ old → LoseNothing old new
as_was old new is =
    let same : LoseNothing old old = record { items = λ row there. there; ids = λ row id there is. (row, there, is); beginnings = λ own row there uncounted. there } in
    subst (LoseNothing old) (sym is) same

-- an archive that was there is opened as it was
pub opened_same : (moment : List ℕ) (old new : Database) → HasArchive old.schema → IsOpened moment old new → new ≡ old
opened_same moment old new has = opened_there moment old new (never old.schema has)

-- and rows come to it, if words name what isn't on record
pub named_put : (run : Run) (old new : Database) → HasArchive old.schema → IsNamed run old new → (puts : List Put) × IsPut old new puts
named_put run old new has named = (named.put.0, subst (λ (db : Database). IsPut db new named.put.0) (opened_same _ old named.opened has named.is_told.0) named.put.2)

early_loses : (run : Run) (old : Database) (trees : Trees) → PutsLoseNothing → HasArchive old.schema → RemainsEarly run old trees → LoseNothing old.trees trees
early_loses run old trees none_lost has (inl made) = absurd (never old.schema has made.0)
early_loses run old trees none_lost has (inr named) =
    let it = named_put run old named.0 has named.1 in subst (LoseNothing old.trees) (sym named.2) (none_lost old named.0 it.0 has it.1)

-- a kill leaves an archive that was there with rows that were put
pub remains_put : {P C : Type 0} (acts : Acts (Batched SiteState) P C) → PutsJoin → RunsPut acts → (run : Run) (by : Around P C) (old : Database) (trees : Trees) → HasArchive old.schema → Remains acts run by old trees
    → (puts : List Put) × (db : Database) × IsPut old db puts × (trees ≡ db.trees)
remains_put acts join runs_put run by old trees has (inl (inl made)) = absurd (never old.schema has made.0)
remains_put acts join runs_put run by old trees has (inl (inr named)) = let it = named_put run old named.0 has named.1 in (it.0, named.0, it.1, named.2)
remains_put acts join runs_put run by old trees has (inr (begun, site, set, (es, last, chain, is))) =
    let it = named_put run old begun has set.named in
    let on : IsPut begun last.database (puts_of es) = runs_put (at_first by site begun) last es chain in
    (it.0 ++ puts_of es, last.database, join old begun last.database it.0 (puts_of es) it.1 on, is)

pub kill_loses : {P C : Type 0} (acts : Acts (Batched SiteState) P C) → PutsJoin → PutsLoseNothing → RunsPut acts → KillLosesNothing acts
kill_loses acts join none_lost runs_put = λ run by old trees has remains.
    let it = remains_put acts join runs_put run by old trees has remains in
    subst (LoseNothing old.trees) (sym it.3) (none_lost old it.1 it.0 has it.2)

pub end_loses : {P C : Type 0} (acts : Acts (Batched SiteState) P C) → KillLosesNothing acts → EndLosesNothing acts
end_loses {P = P} {C = C} acts killed = λ run by left old new status has (begun, site, last, set, (es, end, chain, ends), is).
    killed run by old new.trees has (inr (begun, site, set, (es, end, chain, ap (λ (s : Scene (Batched SiteState) P C). s.database.trees) ends.1)))

-- what a fault before the poll leaves
early_remains : {S : Type 0} (g : Ghosts S) (run : Run) (old new : Held S) (why : KeepFault) → PutsLoseNothing → HasArchive (state g old).now.schema → IsTrue (state g new).is_open
    → HaltsEarly g run old new why → LoseNothing (state g old).now.trees (state g new).now.trees
early_remains g run old new (fault.Refused why) none_lost has is_open halts = as_was _ _ (ap (λ (d : Database). d.trees) (halts.left is_open))
early_remains g run old new (fault.Untold e) none_lost has is_open (inl halts) =
    as_was _ _ (ap (λ (d : Database). d.trees) (halts.3 is_open ∙ opened_same _ (state g old).now (state g halts.0).now has halts.1))
early_remains g run old new (fault.Untold e) none_lost has is_open (inr halts) =
    early_loses run _ _ none_lost has (inr ((state g halts.0).now, halts.1, ap (λ (d : Database). d.trees) (halts.3 is_open)))
early_remains g run old new (fault.Naming e) none_lost has is_open halts =
    as_was _ _ (ap (λ (d : Database). d.trees) (opened_same _ (state g old).now (state g new).now has halts.1.0))
early_remains g run old new (fault.Unput e) none_lost has is_open (at, told, is_told, (puts, rows, fails, left)) =
    as_was _ _ (ap (λ (d : Database). d.trees) (left is_open ∙ opened_same _ (state g old).now (state g at).now has is_told.0))
early_remains g run old new (fault.Plan e) none_lost has is_open halts = early_loses run _ _ none_lost has (inr ((state g new).now, halts.0, refl))
early_remains g run old new (fault.Poll e) none_lost has is_open halts = absurd halts

pub fault_loses : {P C S : Type 0} (g : Ghosts S) (acts : Acts (Batched SiteState) P C) → PutsLoseNothing → KillLosesNothing acts → FaultLosesNothing g acts
fault_loses {P = P} {C = C} {S = S} g acts none_lost killed = go
  where
    go : (run : Run) (by left : Around P C) (old new : Held S) (why : KeepFault) → HasArchive (state g old).now.schema → Halts g acts run by left old new why → IsTrue (state g new).is_open
        → LoseNothing (state g old).now.trees (state g new).now.trees
    go run by left old new why has (inl early) is_open = early_remains g run old new why none_lost has is_open early.0
    go run by left old new why has (inr (fault, is, (begun, site, last, set, (es, at, chain, stopped, unending)))) is_open =
        killed run by (state g old).now (state g new).now.trees has (inr (begun, site, set, (es, at, chain, ap (λ (d : Database). d.trees) (stopped.1 is_open))))

-- what is on record stays there
pub keep_record : {P C : Type 0} (acts : Acts (Batched SiteState) P C) → PutsKeepIds → RunsPut acts → KeepRecord acts
keep_record acts keep runs_put run by old begun site trees id set (es, last, chain, is) =
    let on : IsPut begun last.database (puts_of es) = runs_put (at_first by site begun) last es chain in
    let both = keep begun last.database (puts_of es) id (has_named run old begun set.named) on in (
      λ there. subst (λ (t : Trees). HasId (t 1) id) (sym is) (both.0 there),
      λ there. subst (λ (t : Trees). HasId (t 3) id) (sym is) (both.1 there),
    )
