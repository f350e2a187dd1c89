use Rattle.std.proofs.Common.{◌≡◌, ◌∙◌, [], sym, subst}
use Rattle.sqlite.specs.Held.{state}
use Rattle.bac_archive.specs.Put.{IsPut}
use Rattle.bac_archive.proofs.PutLemmas.{put_nothing}
use Rattle.bac_drive.proofs.Leaving.{is_none, settled_by}
use Rattle.bac_drive.proofs.driving.keep.Goals as goal

pub returns-then-is_empty-clause-kept : goal.returns-then-is_empty-clause-kept
returns-then-is_empty-clause-kept g c clean =
    let db = (state g.S.Store c.args.conn.now).now in
    let empty : c.args.puts.now ≡ [] = is_none c.args.puts.now (sym c.is_empty.ensures ∙ c.if-is_empty.true) in
    subst (IsPut db db) (sym empty) (put_nothing db)

pub returns-clause-settled : goal.returns-clause-settled
returns-clause-settled g c =
    settled_by _ (state g.S.Store c.args.conn.now) (state g.S.Store c.put.new.conn) c.put.result
    (λ clean. c.put.ensures.all clean (c.requires (c.put.ensures.clean clean)))
    (λ clean is_open. c.put.ensures.neither clean is_open (c.requires (c.put.ensures.clean clean)))
