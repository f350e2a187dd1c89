use Rattle.std.proofs.Common.{take}
use Rattle.bac_archive.specs.Schema.{HasView}
use Rattle.bac_archive.proofs.shape.has_view.Given as goal

abbrev pub invariant-loop-view : goal.invariant-loop-view
invariant-loop-view l = HasView l.name l.sql (take l.view-index l.views) → ⊥
