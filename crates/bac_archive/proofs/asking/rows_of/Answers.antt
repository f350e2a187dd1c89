use Rattle.std.proofs.Common.{[], inl}
use Rattle.sqlite.specs.Held.{state}
use Rattle.bac_archive.specs.Ask.{asked}
use Rattle.bac_archive.proofs.AskLemmas.{answers, left_by, commits_nothing, plain, shown_same}
use Rattle.bac_archive.proofs.asking.rows_of.Goals as goal

pub returns-in_err-rows-clause-left : goal.returns-in_err-rows-clause-left
returns-in_err-rows-clause-left g c clean has =
    let old = state g.S.Store c.args.conn.now in
    left_by (asked c.args.question) [] old (state g.S.Store c.query_all.new.self) c.in_err-rows.field-0.0 (plain c.args.question old has) (rw c.asked.ensures at (c.in_err-rows.ensures.err clean))

pub returns-in_err-rows-clause-crash : goal.returns-in_err-rows-clause-crash
returns-in_err-rows-clause-crash g c has =
    let old = state g.S.Store c.args.conn.now in
    commits_nothing (asked c.args.question) [] old (state g.S.Store c.query_all.new.self) (λ early. plain c.args.question old (has early)) (rw c.asked.ensures at c.query_all.ensures.survives)

pub returns-clause-told : goal.returns-clause-told
returns-clause-told g c clean has =
    answers c.args.question (state g.S.Store c.args.conn.now) (state g.S.Store c.query_all.new.self) c.in_ok-rows.rows.items has (rw c.asked.ensures at (c.in_ok-rows.ensures.ok clean))

pub returns-clause-same : goal.returns-clause-same
returns-clause-same g c clean has =
    let old = state g.S.Store c.args.conn.now in
    shown_same (asked c.args.question) [] old (state g.S.Store c.query_all.new.self) c.in_ok-rows.rows.items (plain c.args.question old has) (rw c.asked.ensures at (c.in_ok-rows.ensures.ok clean))

pub returns-clause-left : goal.returns-clause-left
returns-clause-left g c clean has =
    let old = state g.S.Store c.args.conn.now in
    inl (shown_same (asked c.args.question) [] old (state g.S.Store c.query_all.new.self) c.in_ok-rows.rows.items (plain c.args.question old has) (rw c.asked.ensures at (c.in_ok-rows.ensures.ok clean)))

pub returns-clause-crash : goal.returns-clause-crash
returns-clause-crash g c has =
    let old = state g.S.Store c.args.conn.now in
    commits_nothing (asked c.args.question) [] old (state g.S.Store c.query_all.new.self) (λ early. plain c.args.question old (has early)) (rw c.asked.ensures at c.query_all.ensures.survives)
