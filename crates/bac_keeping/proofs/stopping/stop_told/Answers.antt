use Rattle.std.proofs.Common.{List, refl, subst}
use Rattle.sqlite.specs.Held.{state}
use Rattle.sqlite.specs.State.{HasCleanDisk}
use Rattle.bac_archive.specs.Put.{FailsToPut}
use Rattle.bac_archive.specs.declared.row.Put.{Put}
use Rattle.std.proofs.Common.{sym, ◌∙◌}
use Rattle.bac_keeping.proofs.Untouched.{stopped_crash}
use Rattle.bac_keeping.proofs.stopping.stop_told.Goals as goal

pub returns-in-Ok-put-clause-crash : goal.returns-in-Ok-put-clause-crash
returns-in-Ok-put-clause-crash g c =
    stopped_crash c.args.named.now (record { told = c.args.told; rows = c.in-Ok.rows }) (state g.S.Store c.args.conn.now) (state g.S.Store c.put.new.conn) _ c.as_slice.ensures.value c.put.ensures.clean
    c.requires.archive c.requires.told c.in-Ok.ensures.ok c.put.ensures.crash

pub returns-in-Err-put-clause-crash : goal.returns-in-Err-put-clause-crash
returns-in-Err-put-clause-crash g c =
    stopped_crash c.args.named.now (record { told = c.args.told; rows = c.in-Ok.rows }) (state g.S.Store c.args.conn.now) (state g.S.Store c.put.new.conn) _ c.as_slice.ensures.value c.put.ensures.clean
    c.requires.archive c.requires.told c.in-Ok.ensures.ok c.put.ensures.crash

pub returns-in-Err-put-clause-neither : goal.returns-in-Err-put-clause-neither
returns-in-Err-put-clause-neither g c clean =
    let early : HasCleanDisk (state g.S.Store c.args.conn.now) = c.put.ensures.clean clean in (
      c.args.told,
      c.requires.told early,
      (
        c.in-Ok.rows.items,
        c.in-Ok.ensures.ok.1,
        subst (λ (p : List Put). FailsToPut g.S.Store c.args.conn.now p c.in-Err-put.error) c.as_slice.ensures.value (c.in-Err-put.ensures.cause clean (c.requires.archive early)),
      ),
      λ is_open. (c.in-Err-put.ensures.neither clean is_open (c.requires.archive early)).0,
    )

pub returns-in-Err-clause-neither : goal.returns-in-Err-clause-neither
returns-in-Err-clause-neither g c clean = (refl, (c.args.told, c.requires.told clean, c.in-Err.ensures.err))

pub returns-in-Ok-put-clause-settled : goal.returns-in-Ok-put-clause-settled
returns-in-Ok-put-clause-settled g c clean was =
    let early : HasCleanDisk (state g.S.Store c.args.conn.now) = c.put.ensures.clean clean in
    (c.in-Ok-put.ensures.all clean (c.requires.archive early)).1

pub returns-in-Err-put-clause-settled : goal.returns-in-Err-put-clause-settled
returns-in-Err-put-clause-settled g c clean was is_open =
    let early : HasCleanDisk (state g.S.Store c.args.conn.now) = c.put.ensures.clean clean in
    let same = c.in-Err-put.ensures.neither clean is_open (c.requires.archive early) in
    same.1 ∙ was ∙ sym same.0
