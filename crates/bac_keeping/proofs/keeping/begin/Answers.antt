use Rattle.std.proofs.Common.{ℕ, List, rules, subst, arith}
use Rattle.sqlite.specs.Held.{state}
use Rattle.sqlite.specs.State.{HasCleanDisk}
use Rattle.bac_archive.proofs.RowsLemmas.{because}
use Rattle.bac_plan.specs.declared.named.Named.{Named}
use Rattle.bac_keeping.specs.Keeping.{IsTold}
use Rattle.bac_keeping.specs.Parts.{HaltsNaming, HaltsOpening}
use Rattle.bac_keeping.proofs.Settled.{settled_as}
use Rattle.bac_keeping.proofs.Begun.{begun_crash, named_by, not_named, not_opened}
use Rattle.bac_keeping.proofs.keeping.begin.Goals as goal

pub returns-in_err-told-clause-halts : goal.returns-in_err-told-clause-halts
returns-in_err-told-clause-halts g c clean =
    because c.from_residual.result c.in_err-told.field-0.0 _ (search rules)
    (not_opened g.S.Store c.args.run.now c.args.conn.now c.open_told.new.conn c.in_err-told.field-0.0
    (subst (λ (m : List ℕ). HaltsOpening g.S.Store m c.args.conn.now c.open_told.new.conn c.in_err-told.field-0.0) c.as_str.ensures.value (c.in_err-told.ensures.halts clean)))

pub returns-in_err-told-2-clause-halts : goal.returns-in_err-told-2-clause-halts
returns-in_err-told-2-clause-halts g c clean =
    let old = (state g.S.Store c.args.conn.now).now in
    let mid = (state g.S.Store c.open_told.new.conn).now in
    let early : HasCleanDisk (state g.S.Store c.open_told.new.conn) = omega (arith, clean, c.name_told.ensures.crash.clean) in
    because c.from_residual-in_err-told-2.result c.in_err-told-2.field-0.0 _ (search rules)
    (not_named g.S.Store c.args.run.now c.args.conn.now c.open_told.new.conn c.name_told.new.conn c.in_ok-told.told c.in_err-told-2.field-0.0
    (subst (λ (m : List ℕ). IsTold m old mid c.in_ok-told.told) c.as_str.ensures.value (c.in_ok-told.ensures.told early))
    (subst (λ (n : List Named). HaltsNaming g.S.Store n c.in_ok-told.told c.open_told.new.conn c.name_told.new.conn c.in_err-told-2.field-0.0) c.as_slice.ensures.value (c.in_err-told-2.ensures.halts clean)))

pub returns-in_err-told-2-clause-crash : goal.returns-in_err-told-2-clause-crash
returns-in_err-told-2-clause-crash g c =
    begun_crash c.args.run.now _ (state g.S.Store c.open_told.new.conn) _ c.in_ok-told.told _ _ c.as_str.ensures.value c.as_slice.ensures.value c.in_ok-told.ensures.told
    c.open_told.ensures.crash c.name_told.ensures.crash

pub returns-in-Ok-clause-set : goal.returns-in-Ok-clause-set
returns-in-Ok-clause-set g c clean =
    let old = (state g.S.Store c.args.conn.now).now in
    let mid = (state g.S.Store c.open_told.new.conn).now in
    let new = (state g.S.Store c.name_told.new.conn).now in
    let early : HasCleanDisk (state g.S.Store c.open_told.new.conn) = omega (arith, clean, c.name_told.ensures.crash.clean) in
    let both = c.in_ok-told-2.ensures.told clean in
    record {
      named = named_by c.args.run.now old mid new c.in_ok-told.told _ _ c.as_str.ensures.value c.as_slice.ensures.value (c.in_ok-told.ensures.told early) both.0;
      told = c.in_ok-told-2.told;
      stands = both.1;
      site_is = c.in-Ok.ensures.ok;
    }

pub returns-in-Ok-clause-crash : goal.returns-in-Ok-clause-crash
returns-in-Ok-clause-crash g c =
    begun_crash c.args.run.now _ (state g.S.Store c.open_told.new.conn) _ c.in_ok-told.told _ _ c.as_str.ensures.value c.as_slice.ensures.value c.in_ok-told.ensures.told
    c.open_told.ensures.crash c.name_told.ensures.crash

pub returns-in-Err-clause-halts : goal.returns-in-Err-clause-halts
returns-in-Err-clause-halts g c clean =
    let old = (state g.S.Store c.args.conn.now).now in
    let mid = (state g.S.Store c.open_told.new.conn).now in
    let new = (state g.S.Store c.name_told.new.conn).now in
    let early : HasCleanDisk (state g.S.Store c.open_told.new.conn) = omega (arith, clean, c.name_told.ensures.crash.clean) in
    let both = c.in_ok-told-2.ensures.told clean in (
      named_by c.args.run.now old mid new c.in_ok-told.told _ _ c.as_str.ensures.value c.as_slice.ensures.value (c.in_ok-told.ensures.told early) both.0,
      (c.in_ok-told-2.told, both.1, c.in-Err.ensures.err),
    )

pub returns-in-Err-clause-crash : goal.returns-in-Err-clause-crash
returns-in-Err-clause-crash g c =
    begun_crash c.args.run.now _ (state g.S.Store c.open_told.new.conn) _ c.in_ok-told.told _ _ c.as_str.ensures.value c.as_slice.ensures.value c.in_ok-told.ensures.told
    c.open_told.ensures.crash c.name_told.ensures.crash

pub returns-in_err-told-clause-settled : goal.returns-in_err-told-clause-settled
returns-in_err-told-clause-settled g c =
    settled_as c.from_residual.result c.in_err-told.field-0.0 (state g.S.Store c.args.conn.now) (state g.S.Store c.open_told.new.conn) (search rules) c.in_err-told.ensures.settled

pub returns-in_err-told-2-clause-settled : goal.returns-in_err-told-2-clause-settled
returns-in_err-told-2-clause-settled g c =
    settled_as c.from_residual-in_err-told-2.result c.in_err-told-2.field-0.0 (state g.S.Store c.args.conn.now) (state g.S.Store c.name_told.new.conn) (search rules)
    (λ clean was is_open.
    let early : HasCleanDisk (state g.S.Store c.open_told.new.conn) = omega (arith, clean, c.name_told.ensures.crash.clean) in
    c.in_err-told-2.ensures.settled clean (c.in_ok-told.ensures.committed early) is_open)

pub returns-in-Ok-clause-committed : goal.returns-in-Ok-clause-committed
returns-in-Ok-clause-committed g c clean =
    let early : HasCleanDisk (state g.S.Store c.open_told.new.conn) = omega (arith, clean, c.name_told.ensures.crash.clean) in
    c.in_ok-told-2.ensures.settled clean (c.in_ok-told.ensures.committed early)

pub returns-in-Ok-clause-settled : goal.returns-in-Ok-clause-settled
returns-in-Ok-clause-settled g c clean was =
    let early : HasCleanDisk (state g.S.Store c.open_told.new.conn) = omega (arith, clean, c.name_told.ensures.crash.clean) in
    c.in_ok-told-2.ensures.settled clean (c.in_ok-told.ensures.committed early)

pub returns-in-Err-clause-settled : goal.returns-in-Err-clause-settled
returns-in-Err-clause-settled g c clean was is_open =
    let early : HasCleanDisk (state g.S.Store c.open_told.new.conn) = omega (arith, clean, c.name_told.ensures.crash.clean) in
    c.in_ok-told-2.ensures.settled clean (c.in_ok-told.ensures.committed early)
