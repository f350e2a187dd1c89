use Rattle.std.proofs.Common.{◌∙◌, inl, refl}
use Rattle.sqlite_wal.specs.Files.{image_at}
use Rattle.bac_parts.proofs.BegunLemmas.{err_is, ok_is}
use Rattle.bac_parts.proofs.FileLemmas.{left_so, none_closed, told_so, untold_so}
use Rattle.bac_parts.proofs.begun.told_in.Goals as goal

pub returns-in-Ok-clause-told : goal.returns-in-Ok-clause-told
returns-in-Ok-clause-told g c =
    let it = c.in-Ok.ensures in
    ok_is _ _ _ c.and_shut.ensures
    (told_so (image_at g.G.Start) c.args.before.now c.args.parts.now c.work_in.new.files it.opened it.last it.is it.named c.in-Ok.done.came c.in-Ok.done.closed it.did it.shut)

pub returns-in-Ok-clause-why : goal.returns-in-Ok-clause-why
returns-in-Ok-clause-why g c =
    let it = c.in-Ok.ensures in
    err_is _ _ _ c.and_shut.ensures
    (untold_so (image_at g.G.Start) c.args.before.now c.args.parts.now c.work_in.new.files it.opened it.last it.is it.named c.in-Ok.done.came c.in-Ok.done.closed it.did it.shut)

pub returns-in-Ok-clause-alone : goal.returns-in-Ok-clause-alone
returns-in-Ok-clause-alone g c unused =
    let it = c.in-Ok.ensures in
    left_so (image_at g.G.Start) c.args.before.now c.args.parts.now c.work_in.new.files it.opened it.last it.is it.named c.in-Ok.done.came c.in-Ok.done.closed it.did it.shut unused

pub returns-in-Err-clause-why : goal.returns-in-Err-clause-why
returns-in-Err-clause-why g c = inl (c.in-Err.why, refl, c.in-Err.ensures.reason)

pub returns-in-Err-clause-alone : goal.returns-in-Err-clause-alone
returns-in-Err-clause-alone g c unused = none_closed c.work_in.new.files.closed _ (c.in-Err.ensures.closed.0 ∙ unused)
