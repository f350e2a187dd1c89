-- What a run over an open database leaves.
use Rattle.std.proofs.Common.{◌≡◌, ◌≢◌, ◌⊎◌, ◌∙◌, inl, inr, refl, ℕ, List, Option, None, Some, String, Global, IsTrue, OnOk, Result, Ok, Err, ap, arith, subst, sym}
use Rattle.sqlite_disk.specs.declared.Disk as disk
use Rattle.sqlite_disk.specs.declared.start.Start as start
use Rattle.sqlite_trees.specs.Tree.{Trees}
use Rattle.sqlite_trees.specs.declared.store.Store.{Ghosts}
use Rattle.sqlite_wal.specs.Recovery.{Image}
use Rattle.sqlite.specs.Effect.{Database}
use Rattle.sqlite.specs.Held.{Held, state}
use Rattle.sqlite.specs.State.{HasCleanDisk, State, Survives}
use Rattle.sqlite.proofs.StateLemmas.{survives_then}
use Rattle.bac_archive.specs.Put.{IsPut, PutsJoin, PutsLoseNothing}
use Rattle.bac_archive.specs.Schema.{HasArchive, no_schema}
use Rattle.bac_archive.specs.declared.row.Put.{Put}
use Rattle.bac_batch.specs.Batch.{Batched}
use Rattle.bac_drive.specs.Happens.{Acts}
use Rattle.bac_drive.specs.Laws.{RunsPut}
use Rattle.bac_files.specs.Files.{FileOf}
use Rattle.bac_files.specs.declared.disk_files.DiskFiles.{DiskFiles}
use Rattle.bac_keeping.proofs.Losing.{remains_put}
use Rattle.bac_keeping.specs.Keeping.{Around, IsOpened, Remains}
use Rattle.bac_keeping.specs.declared.run.Run.{Run}
use Rattle.bac_parts.proofs.ArchiveLemmas.{not_both}
use Rattle.bac_parts.specs.Begun.{Begins}
use Rattle.bac_plan.specs.Told.{PutsKeepIds}
use Rattle.bac_site_poller.specs.Site.{SiteState}
use Rattle.bac_historian.specs.Kept.{FollowsOne, IsLeftFrom, IsReady, IsReadyIn, RemainsFrom}
use Rattle.bac_historian.specs.Laws.{KeepsAll, LosesNothing}

-- what begins where there is a part before follows on that
pub follows_one : {G : Type 0} {t : start.Ghosts G} (g : disk.Ghosts (FileOf t)) (image : Image) (made : List ℕ) (before : Option (String Global)) (parts : DiskFiles G t) (found part : Database)
    → (before ≡ None → ⊥) → found.schema ≡ no_schema → Begins g image made before parts part → FollowsOne g image before parts found part
follows_one g image made None parts found part some none begins = absurd (some refl)
follows_one g image made (Some path) parts found part some none begins = (none, begins)

-- what is committed is what was, or what a kill leaves
pub left_by : (old new : State) (remains : Trees → Type 0) → ((db : Trees) → IsTrue old.is_open → old.may_leave db → db ≡ old.committed.trees) → (IsTrue new.is_open → new.may_leave new.committed.trees)
    → Survives old new remains → HasCleanDisk new → IsTrue old.is_open → old.committed ≡ old.now → IsTrue new.is_open → (new.committed.trees ≡ old.now.trees) ⊎ remains new.committed.trees
left_by old new remains settled stays survives clean was same is = elim (survives.crash clean new.committed.trees (stays is)) [
  | inl before ↦ inl (settled new.committed.trees was before ∙ ap (λ (d : Database). d.trees) same)
  | inr after ↦ inr after
]

pub on_ok_two : {T E : Type 0} (r : Result T E) (X Y Z : Type 0) → (X → Y → Z) → OnOk r X → OnOk r Y → OnOk r Z
on_ok_two (Ok value) X Y Z f x y = f x y
on_ok_two (Err error) X Y Z f x y = tt

module _ {S G : Type 0} {t : start.Ghosts G} (g : disk.Ghosts (FileOf t)) (image : Image) (s : Ghosts S) (before : Option (String Global)) (parts : DiskFiles G t) (old ready : Held S) where
  -- what is ready over a connection
  pub ready_in : IsReadyIn g image s before parts old ready → IsReady g image before parts (state s old).now (state s ready).now
  ready_in (inl same) = inl (ap (λ (h : Held S). (state s h).now) same.0, same.1)
  ready_in (inr follows) = inr follows.0

  -- is committed, if all was
  pub ready_committed : IsReadyIn g image s before parts old ready → (state s old).committed ≡ (state s old).now → (state s ready).committed ≡ (state s ready).now
  ready_committed (inl same) was = subst (λ (h : Held S). (state s h).committed ≡ (state s h).now) (sym same.0) was
  ready_committed (inr follows) was = follows.1

-- a kill amid a run leaves what is told of it
pub run_crash : {P C G : Type 0} {t : start.Ghosts G} (g : disk.Ghosts (FileOf t)) (image : Image) (acts : Acts (Batched SiteState) P C) (run : Run) (before : Option (String Global)) (parts : DiskFiles G t) (by : Around P C) (old mid new : State)
    → (HasCleanDisk mid → IsReady g image before parts old.now mid.now) → Survives old mid (λ trees. (part : Database) × FollowsOne g image before parts old.now part × (trees ≡ part.trees))
    → Survives mid new (Remains acts run by mid.now) → Survives old new (RemainsFrom g image acts run before parts by old.now)
run_crash g image acts run before parts by old mid new ready one two =
    survives_then old mid new _ _ _ (λ clean trees it. inl it)
    (λ clean trees it.
    let early : HasCleanDisk mid = omega (arith, clean, two.clean) in
    inr (mid.now, ready early, it))
    one two

all_itself : (trees : Trees) → KeepsAll trees trees
all_itself trees = record {
  devices = λ id there. there;
  logs = λ id there. there;
  rows = record { items = λ row there. there; ids = λ row id there is. (row, there, is); beginnings = λ own row there uncounted. there };
}

-- where rows were put all is there
put_all : PutsKeepIds → PutsLoseNothing → (found db : Database) (puts : List Put) (left : Trees) → HasArchive found.schema → IsPut found db puts → left ≡ db.trees → KeepsAll found.trees left
put_all keep_ids lose_nothing found db puts left has put is =
    let all : KeepsAll found.trees db.trees = record {
      devices = λ id. (keep_ids found db puts id has put).0;
      logs = λ id. (keep_ids found db puts id has put).1;
      rows = lose_nothing found db puts has put;
    } in
    subst (KeepsAll found.trees) (sym is) all

-- no other database than an archive, or one that had nothing, is opened
opened_some : (moment : List ℕ) (found opened : Database) → ¬ HasArchive found.schema → found.schema ≢ no_schema → IsOpened moment found opened → ⊥
opened_some moment found opened other some (inl here) = other here.0
opened_some moment found opened other some (inr made) = some made.0

module _ {P C : Type 0} (acts : Acts (Batched SiteState) P C) (run : Run) (by : Around P C) where
  remains_some : (found : Database) (trees : Trees) → ¬ HasArchive found.schema → found.schema ≢ no_schema → Remains acts run by found trees → ⊥
  remains_some found trees other some (inl (inl made)) = some made.0
  remains_some found trees other some (inl (inr named)) = opened_some _ found named.1.opened other some named.1.is_told.0
  remains_some found trees other some (inr (begun, site, set, leaves)) = opened_some _ found set.named.opened other some set.named.is_told.0

  -- so nothing is lost
  pub loses_nothing : PutsKeepIds → PutsLoseNothing → PutsJoin → RunsPut acts → {G : Type 0} {t : start.Ghosts G} (g : disk.Ghosts (FileOf t)) (image : Image) (before : Option (String Global)) (parts : DiskFiles G t)
      (found : Database) (left : Trees) → IsLeftFrom g image acts run before parts by found left → LosesNothing found left
  loses_nothing keep_ids lose_nothing join runs_put g image before parts found left (inl same) =
      ((λ has. subst (KeepsAll found.trees) (sym same) (all_itself found.trees)), λ other some. same)
  loses_nothing keep_ids lose_nothing join runs_put g image before parts found left (inr (inl (part, follows, is))) =
      ((λ has. absurd (not_both found.schema follows.0 has)), λ other some. absurd (some follows.0))
  loses_nothing keep_ids lose_nothing join runs_put g image before parts found left (inr (inr (ready, inr follows, remains))) =
      ((λ has. absurd (not_both found.schema follows.0 has)), λ other some. absurd (some follows.0))
  loses_nothing keep_ids lose_nothing join runs_put g image before parts found left (inr (inr (ready, inl it, remains))) =
      let over : Remains acts run by found left = subst (λ (d : Database). Remains acts run by d left) it.0 remains in (
        (λ has.
            let put = remains_put acts join runs_put run by found left has over in
            put_all keep_ids lose_nothing found put.1 put.0 left has put.2 put.3),
        λ other some. absurd (remains_some found left other some over),
      )
