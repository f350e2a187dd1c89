use Rattle.std.proofs.Common.{◌≡◌, None, OnOk, Option, subst, sym}
use Rattle.sqlite.proofs.StateLemmas.{survives_weaker}
use Rattle.sqlite.specs.Held.{state}
use Rattle.bac_archive.specs.Schema.{no_schema}
use Rattle.bac_archive.specs.declared.standing.Standing.{Standing}
use Rattle.bac_parts.proofs.ArchiveLemmas.{not_both}
use Rattle.bac_parts.proofs.BegunLemmas.{on_ok_so, taken_as}
use Rattle.bac_parts.specs.Begun.{BeginsAs}
use Rattle.bac_parts.proofs.begun.begin_from.Goals as goal

pub returns-in-None-clause-archive : goal.returns-in-None-clause-archive
returns-in-None-clause-archive g c clean =
    let found = (state g.A.Store c.args.conn.now).now in
    let archive = (state g.A.Store c.open_archive.new.conn).now in
    subst (λ (t : Option Standing). OnOk c.open_archive.result (BeginsAs t c.args.made.now found archive)) (sym c.in-None.is)
    (on_ok_so c.open_archive.result _ _ (taken_as c.args.made.now found archive) (c.open_archive.ensures.archive clean))

pub returns-in-Some-clause-same : goal.returns-in-Some-clause-same
returns-in-Some-clause-same g c clean has =
    let none : (state g.A.Store c.args.conn.now).now.schema ≡ no_schema = rw c.in-Some.is at c.requires in
    absurd (not_both (state g.A.Store c.args.conn.now).now.schema none has)

pub returns-in-Some-clause-left : goal.returns-in-Some-clause-left
returns-in-Some-clause-left g c clean held some =
    let none : (state g.A.Store c.args.conn.now).now.schema ≡ no_schema = rw c.in-Some.is at c.requires in
    absurd (some none)

pub returns-in-Some-clause-crash : goal.returns-in-Some-clause-crash
returns-in-Some-clause-crash g c =
    let none : (state g.A.Store c.args.conn.now).now.schema ≡ no_schema = rw c.in-Some.is at c.requires in
    rw c.in-Some.is
    (survives_weaker (state g.A.Store c.args.conn.now) (state g.A.Store c.fill_and_open.new.conn) _ _ (λ _ trees it. (none, it)) c.fill_and_open.ensures.crash)
