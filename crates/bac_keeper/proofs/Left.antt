-- What the tool leaves in its files.
use Rattle.std.proofs.Common.{◌≡◌, ◌∙◌, ℕ, List, Result, ap, inl, inr, subst, sym}
use Rattle.sqlite_disk.specs.declared.Disk as disk
use Rattle.sqlite_disk.specs.declared.start.Start as start
use Rattle.sqlite_wal.specs.Recovery.{Image}
use Rattle.sqlite.specs.Effect.{Database}
use Rattle.bac_batch.specs.Batch.{Batched}
use Rattle.bac_drive.specs.Happens.{Acts}
use Rattle.bac_files.specs.Files.{FileOf, IsUnused}
use Rattle.bac_files.specs.declared.disk_files.DiskFiles.{DiskFiles}
use Rattle.bac_historian.specs.Laws.{KeepsAll, KillLosesNothing, LosesNothing, LosesNothingAt}
use Rattle.bac_keep_command_line.specs.declared.orders.Order.{Order}
use Rattle.bac_files.specs.declared.folder.Place.{Place}
use Rattle.bac_parts.proofs.FileLemmas.{done_so, none_closed}
use Rattle.bac_ports.specs.Sockets.{SocketRules}
use Rattle.bac_site_poller.specs.Site.{SiteState}
use Rattle.bac_wire.specs.Stamp.{CivilTime}
use Rattle.bac_command_line.specs.declared.job.Keep.{Keep}
use Rattle.bac_keeping.specs.RecordLaws as keeping
use Rattle.bac_plan.specs.declared.named.Named.{Named}
use Rattle.sqlite_trees.specs.Tree.{Trees}
use Rattle.bac_plan.specs.Told.{PutsKeepIds}
use Rattle.bac_keeper.specs.Machine.{Hands, hands}
use Rattle.bac_keeper.specs.Runs.{RunsOrder, RunsPlaced, RunsTool}
use Rattle.bac_keeper.specs.Stops.{IsLeftStopped, StopsTool, StopsNamed, Texts}
use Rattle.bac_keeper.specs.declared.fault.Fault.{Fault}

module _ {S P C F G : Type 0} {s : start.Ghosts F} {t : start.Ghosts G} (rules : SocketRules S P) (acts : Acts (Batched SiteState) P C) (f : disk.Ghosts (FileOf s)) (file : Image) (g : disk.Ghosts (FileOf t)) (part : Image)
    (law : KillLosesNothing g part acts) where
  placed_loses : (order : Order) (place : Place) (old new : Hands S C s t) (result : Result ℕ Fault) → RunsPlaced rules acts f file g part order place old new result → LosesNothingAt f file old.files new.files
  placed_loses order place old new result (inl none) unused = none_closed new.files.closed _ (ap (λ (h : Hands S C s t). h.files.closed) none.1.1 ∙ unused)
  placed_loses order place old new result (inr runs) unused =
      let over = runs.3.4 in
      done_so f file _ (λ found left. LosesNothing found left.trees) (λ found left it. law order.run place.before new.parts _ found left.trees it) new.files.closed (over.left unused)

  order_loses : (keep : Keep) (order : Order) (old new : Hands S C s t) (result : Result ℕ Fault) → RunsOrder rules acts f file g part keep order old new result → LosesNothingAt f file old.files new.files
  order_loses keep order old new result (inl none) unused = none_closed new.files.closed _ (none.0.0.0 ∙ unused)
  order_loses keep order old new result (inr runs) unused = placed_loses order runs.0 (hands old.room runs.2 old.parts) new result runs.4 (runs.3.0 ∙ unused)

  -- nothing is lost, whatever comes of it
  pub tool_loses : (keep : Keep) (begun : CivilTime) (old new : Hands S C s t) (result : Result ℕ Fault) → RunsTool rules acts f file g part keep begun old new result → LosesNothingAt f file old.files new.files
  tool_loses keep begun old new result (inl refused) unused = none_closed new.files.closed _ (ap (λ (h : Hands S C s t). h.files.closed) refused.1 ∙ unused)
  tool_loses keep begun old new result (inr runs) unused = order_loses keep runs.0 old new result runs.2 unused

all_itself : (trees : Trees) → KeepsAll trees trees
all_itself trees = record {
  devices = λ id there. there;
  logs = λ id there. there;
  rows = record { items = λ row there. there; ids = λ row id there is. (row, there, is); beginnings = λ own row there uncounted. there };
}

-- what words stop loses nothing, of an archive alone
stopped_loses : PutsKeepIds → keeping.StopLosesNothing → (named : List Named) (found left : Database) → IsLeftStopped named found left → LosesNothing found left.trees
stopped_loses keep_ids lose_nothing named found left (inl same) = ((λ has. subst (KeepsAll found.trees) (sym same) (all_itself found.trees)), λ other some. same)
stopped_loses keep_ids lose_nothing named found left (inr (stopped, db, stops, is)) =
    let all : KeepsAll found.trees db.trees = record {
      devices = λ id. (keep_ids found db stopped.rows.items id stops.archive stops.put).0;
      logs = λ id. (keep_ids found db stopped.rows.items id stops.archive stops.put).1;
      rows = lose_nothing named stopped found db stops;
    } in
    ((λ has. subst (KeepsAll found.trees) (sym is) all), λ other some. absurd (other stops.archive))

module _ {F : Type 0} {s : start.Ghosts F} (g : disk.Ghosts (FileOf s)) (image : Image) (keep_ids : PutsKeepIds) (law : keeping.StopLosesNothing) where
  named_loses : (file : List ℕ) (named : List Named) (old new : DiskFiles F s) (before after : Texts) (result : Result ℕ Fault) → StopsNamed g image file named old new before after result → LosesNothingAt g image old new
  named_loses file named old new before after result (inl none) unused = none_closed new.closed _ (none.0.0.0 ∙ unused)
  named_loses file named old new before after result (inr stops) unused =
      done_so g image (IsLeftStopped named) (λ found left. LosesNothing found left.trees) (stopped_loses keep_ids law named) new.closed (stops.4.left (stops.3.0 ∙ unused))

  -- nothing is lost, whatever comes of it
  pub stop_loses : (keep : Keep) (old new : DiskFiles F s) (before after : Texts) (result : Result ℕ Fault) → StopsTool g image keep old new before after result → LosesNothingAt g image old new
  stop_loses keep old new before after result (inl refused) unused = none_closed new.closed _ (ap (λ (files : DiskFiles F s). files.closed) refused.1 ∙ unused)
  stop_loses keep old new before after result (inr stops) unused = named_loses keep.file stops.0 old new before after result stops.2 unused
