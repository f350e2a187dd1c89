use Rattle.std.proofs.Common.{◌≡◌, subst, ◌∙◌, arith}
use Rattle.sqlite.specs.Effect.{Database}
use Rattle.sqlite.specs.Held.{state}
use Rattle.sqlite.specs.State.{HasCleanDisk}
use Rattle.sqlite.proofs.StateLemmas.{survives_then}
use Rattle.bac_archive.proofs.RowsLemmas.{if_err}
use Rattle.bac_archive.specs.Schema.{no_schema}
use Rattle.bac_keeping.specs.Stopping.{MayHaveStopped, StopsNothing}
use Rattle.bac_keeping.proofs.Settled.{settled_behind, settled_left, settled_same}
use Rattle.bac_keeping.proofs.Opened.{left_is}
use Rattle.bac_keeping.proofs.Untouched.{has_some, opened_there, stops_behind}
use Rattle.bac_keeping.proofs.stopping.stop_named.Goals as goal

pub returns-in-Ok-clause-neither : goal.returns-in-Ok-clause-neither
returns-in-Ok-clause-neither g c clean =
    let old = state g.S.Store c.args.conn.now in
    let mid = state g.S.Store c.open_at.new.conn in
    let now = state g.S.Store c.stands.new.conn in
    let later : HasCleanDisk now = omega (arith, clean, c.stop_told.ensures.crash.clean) in
    let early : HasCleanDisk mid = c.stands.ensures.clean later in
    let some : old.now.schema ≡ no_schema → ⊥ = has_some c.is_nothing.result c.schema.result.now old.now.schema c.schema.ensures.value c.if-is_nothing.false c.is_nothing.ensures in
    let same : now.now ≡ old.now = (c.in-Ok.ensures.same later).0.now_is ∙ opened_there _ old.now mid.now some (c.in_default.ensures.opened early) in
    if_err c.stop_told.result _ (StopsNothing g.S.Store c.args.named.now c.args.conn.now c.stop_told.new.conn) (c.stop_told.ensures.neither clean)
    (λ why halts. stops_behind g.S.Store c.args.named.now c.args.conn.now c.stands.new.conn c.stop_told.new.conn why same halts)

pub returns-in-Ok-clause-crash : goal.returns-in-Ok-clause-crash
returns-in-Ok-clause-crash g c =
    let old = state g.S.Store c.args.conn.now in
    let mid = state g.S.Store c.open_at.new.conn in
    let now = state g.S.Store c.stands.new.conn in
    let some : old.now.schema ≡ no_schema → ⊥ = has_some c.is_nothing.result c.schema.result.now old.now.schema c.schema.ensures.value c.if-is_nothing.false c.is_nothing.ensures in
    survives_then old now (state g.S.Store c.stop_told.new.conn) _ _ _ (λ clean trees it. it)
    (λ clean trees it.
    let later : HasCleanDisk now = omega (arith, clean, c.stop_told.ensures.crash.clean) in
    let early : HasCleanDisk mid = c.stands.ensures.clean later in
    let same : now.now ≡ old.now = (c.in-Ok.ensures.same later).0.now_is ∙ opened_there _ old.now mid.now some (c.in_default.ensures.opened early) in
    subst (λ (db : Database). MayHaveStopped c.args.named.now db trees) same it)
    (survives_then old mid now _ _ (MayHaveStopped c.args.named.now old.now) (λ clean trees it. absurd (some it.0)) (λ clean trees none. absurd none) c.open_at.ensures.crash c.stands.ensures.crash)
    c.stop_told.ensures.crash

pub returns-in-Err-stands-clause-neither : goal.returns-in-Err-stands-clause-neither
returns-in-Err-stands-clause-neither g c clean =
    let old = state g.S.Store c.args.conn.now in
    let mid = state g.S.Store c.open_at.new.conn in
    let early : HasCleanDisk mid = c.stands.ensures.clean clean in
    let some : old.now.schema ≡ no_schema → ⊥ = has_some c.is_nothing.result c.schema.result.now old.now.schema c.schema.ensures.value c.if-is_nothing.false c.is_nothing.ensures in (
      c.open_at.new.conn,
      opened_there _ old.now mid.now some (c.in_default.ensures.opened early),
      c.in-Err-stands.ensures.cause clean,
      left_is mid (state g.S.Store c.stands.new.conn) (c.in_default.ensures.committed early) (c.in-Err-stands.ensures.left clean),
    )

pub returns-in-Err-stands-clause-settled : goal.returns-in-Err-stands-clause-settled
returns-in-Err-stands-clause-settled g c clean was is_open =
    let mid = state g.S.Store c.open_at.new.conn in
    let early : HasCleanDisk mid = c.stands.ensures.clean clean in
    settled_left mid (state g.S.Store c.stands.new.conn) (c.in_default.ensures.committed early) (c.in-Err-stands.ensures.left clean) is_open

pub returns-in-Ok-clause-settled : goal.returns-in-Ok-clause-settled
returns-in-Ok-clause-settled g c =
    let mid = state g.S.Store c.open_at.new.conn in
    let now = state g.S.Store c.stands.new.conn in
    settled_behind c.stop_told.result (state g.S.Store c.args.conn.now) now (state g.S.Store c.stop_told.new.conn)
    (λ clean.
    let later : HasCleanDisk now = omega (arith, clean, c.stop_told.ensures.crash.clean) in
    settled_same mid now (c.in_default.ensures.committed (c.stands.ensures.clean later)) (c.in-Ok.ensures.same later))
    c.stop_told.ensures.settled
