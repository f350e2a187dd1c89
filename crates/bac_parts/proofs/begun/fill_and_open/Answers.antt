use Rattle.std.proofs.Common.{◌≡◌, inl, inr, refl}
use Rattle.sqlite.proofs.StateLemmas.{survives_then}
use Rattle.sqlite.specs.Held.{state}
use Rattle.bac_parts.proofs.ArchiveLemmas.{clean_before, made_has, not_both}
use Rattle.bac_parts.proofs.BegunLemmas.{filled_as, if_err_so, on_ok_so}
use Rattle.bac_parts.proofs.begun.fill_and_open.Goals as goal

pub returns-in-Ok-clause-archive : goal.returns-in-Ok-clause-archive
returns-in-Ok-clause-archive g c clean =
    let old = state g.A.Store c.args.conn.now in
    let mid = state g.A.Store c.fill.new.conn in
    let new = state g.A.Store c.open_archive.new.conn in
    let made = c.in-Ok.ensures.filled (clean_before mid new _ c.open_archive.ensures.crash clean) in
    on_ok_so c.open_archive.result _ _ (filled_as c.args.told c.args.made.now old.now mid.now new.now c.requires made) (c.open_archive.ensures.archive clean)

pub returns-in-Ok-clause-refused : goal.returns-in-Ok-clause-refused
returns-in-Ok-clause-refused g c =
    let mid = state g.A.Store c.fill.new.conn in
    let new = state g.A.Store c.open_archive.new.conn in
    if_err_so c.open_archive.result _ _ (λ why it. inr (c.fill.new.conn, (λ clean. c.in-Ok.ensures.filled (clean_before mid new _ c.open_archive.ensures.crash clean)), it)) c.open_archive.ensures.refused

pub returns-in-Err-clause-refused : goal.returns-in-Err-clause-refused
returns-in-Err-clause-refused g c = inl (c.in-Err.error, refl, λ clean. c.in-Err.ensures.cause clean)

pub returns-in-Ok-clause-crash : goal.returns-in-Ok-clause-crash
returns-in-Ok-clause-crash g c =
    let old = state g.A.Store c.args.conn.now in
    let mid = state g.A.Store c.fill.new.conn in
    let new = state g.A.Store c.open_archive.new.conn in
    survives_then old mid new _ _ _ (λ clean trees it. it)
    (λ clean trees it. absurd (not_both mid.now.schema it.0 (made_has _ mid.now _ (c.in-Ok.ensures.filled (clean_before mid new _ c.open_archive.ensures.crash clean)))))
    c.fill.ensures.crash c.open_archive.ensures.crash
