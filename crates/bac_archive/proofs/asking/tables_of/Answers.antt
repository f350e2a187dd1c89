use Rattle.std.proofs.Common.{subst, rules}
use Rattle.sqlite.specs.Effect.{Database}
use Rattle.sqlite.specs.Held.{state}
use Rattle.sqlite.proofs.Callers.{unchanged_then}
use Rattle.bac_archive.specs.Ask.{IsAnswer}
use Rattle.bac_archive.specs.declared.asking.Question.TheVariants.{Archive, Devices, Logs, Beginnings}
use Rattle.bac_archive.proofs.AskLemmas.{answer_behind, crash_then, has_still, left_then, one_of_two}
use Rattle.bac_archive.proofs.RowsLemmas.{because}
use Rattle.bac_archive.proofs.asking.tables_of.Goals as goal

pub returns-clause-told : goal.returns-clause-told
returns-clause-told g c clean =
    let early = c.rows_of_two-2.ensures.clean clean in
    let has = c.requires (c.rows_of_two.ensures.clean early) in
    let same = c.in_ok-first.ensures.same early has in
    let one = same.0.now_is in
    let first = c.in_ok-first.ensures.told early has in
    let second = c.in_ok-second.ensures.told clean (has_still (state g.S.Store c.args.conn.now) (state g.S.Store c.rows_of_two.new.conn) same has) in
    record {
      archive = first.0;
      devices = first.1;
      logs = subst (λ (d : Database). IsAnswer Logs d.trees c.in_ok-second.second.0.items) one second.0;
      beginnings = subst (λ (d : Database). IsAnswer Beginnings d.trees c.in_ok-second.second.1.items) one second.1;
    }

pub returns-clause-same : goal.returns-clause-same
returns-clause-same g c clean =
    let early = c.rows_of_two-2.ensures.clean clean in
    let has = c.requires (c.rows_of_two.ensures.clean early) in
    let same = c.in_ok-first.ensures.same early has in
    unchanged_then (state g.S.Store c.args.conn.now) (state g.S.Store c.rows_of_two.new.conn) (state g.S.Store c.rows_of_two-2.new.conn) same
    (c.in_ok-second.ensures.same clean (has_still (state g.S.Store c.args.conn.now) (state g.S.Store c.rows_of_two.new.conn) same has))

pub returns-clause-left : goal.returns-clause-left
returns-clause-left g c clean =
    let early = c.rows_of_two-2.ensures.clean clean in
    let has = c.requires (c.rows_of_two.ensures.clean early) in
    let same = c.in_ok-first.ensures.same early has in
    left_then (state g.S.Store c.args.conn.now) (state g.S.Store c.rows_of_two.new.conn) (state g.S.Store c.rows_of_two-2.new.conn) same
    (c.rows_of_two-2.ensures.left clean (has_still (state g.S.Store c.args.conn.now) (state g.S.Store c.rows_of_two.new.conn) same has))

pub returns-clause-crash : goal.returns-clause-crash
returns-clause-crash g c =
    crash_then (state g.S.Store c.args.conn.now) (state g.S.Store c.rows_of_two.new.conn) (state g.S.Store c.rows_of_two-2.new.conn) c.requires c.in_ok-first.ensures.same c.rows_of_two.ensures.crash c.rows_of_two-2.ensures.crash

pub returns-in_err-second-clause-left : goal.returns-in_err-second-clause-left
returns-in_err-second-clause-left g c clean =
    let early = c.rows_of_two-2.ensures.clean clean in
    let has = c.requires (c.rows_of_two.ensures.clean early) in
    let same = c.in_ok-first.ensures.same early has in
    left_then (state g.S.Store c.args.conn.now) (state g.S.Store c.rows_of_two.new.conn) (state g.S.Store c.rows_of_two-2.new.conn) same
    (c.rows_of_two-2.ensures.left clean (has_still (state g.S.Store c.args.conn.now) (state g.S.Store c.rows_of_two.new.conn) same has))

pub returns-in_err-second-clause-crash : goal.returns-in_err-second-clause-crash
returns-in_err-second-clause-crash g c =
    crash_then (state g.S.Store c.args.conn.now) (state g.S.Store c.rows_of_two.new.conn) (state g.S.Store c.rows_of_two-2.new.conn) c.requires c.in_ok-first.ensures.same c.rows_of_two.ensures.crash c.rows_of_two-2.ensures.crash

pub returns-in_err-second-clause-cause : goal.returns-in_err-second-clause-cause
returns-in_err-second-clause-cause g c clean =
    let early = c.rows_of_two-2.ensures.clean clean in
    let has = c.requires (c.rows_of_two.ensures.clean early) in
    let same = c.in_ok-first.ensures.same early has in
    let why = c.in_err-second.ensures.cause clean (has_still (state g.S.Store c.args.conn.now) (state g.S.Store c.rows_of_two.new.conn) same has) in
    because c.from_residual-in_err-second.result c.in_err-second.field-0.0 _ (search rules) (answer_behind g.S.Store c.args.conn.now c.rows_of_two.new.conn c.rows_of_two-2.new.conn c.in_err-second.field-0.0 same (one_of_two g.S.Store c.rows_of_two.new.conn c.rows_of_two-2.new.conn Logs Beginnings c.in_err-second.field-0.0 why))

pub returns-in_err-first-clause-cause : goal.returns-in_err-first-clause-cause
returns-in_err-first-clause-cause g c clean =
    let has = c.requires (c.rows_of_two.ensures.clean clean) in
    because c.from_residual.result c.in_err-first.field-0.0 _ (search rules) (one_of_two g.S.Store c.args.conn.now c.rows_of_two.new.conn Archive Devices c.in_err-first.field-0.0 (c.in_err-first.ensures.cause clean has))
