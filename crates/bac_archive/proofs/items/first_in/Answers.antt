use Rattle.std.proofs.Common.{inl, Ok, Err, subst₂, arith}
use Rattle.sqlite.specs.Held.{state}
use Rattle.sqlite.specs.State.{QueriesRow}
use Rattle.bac_archive.specs.Items.{bound_for, range_text}
use Rattle.bac_archive.proofs.AskLemmas.{left_by}
use Rattle.bac_archive.proofs.ItemsLemmas.{failed_told, first_told, items_commit_nothing, none_told, plain_items, told_same}
use Rattle.bac_archive.proofs.items.first_in.Goals as goal

pub returns-in-Ok-clause-first : goal.returns-in-Ok-clause-first
returns-in-Ok-clause-first g c clean has = first_told c.args.range (state g.S.Store c.args.conn.now) (state g.S.Store c.query_row.new.self) c.in-Ok.row has
    (subst₂ (λ t p. QueriesRow t p (state g.S.Store c.args.conn.now) (state g.S.Store c.query_row.new.self) (Ok c.in-Ok.row)) c.text_of.ensures c.bound_for-count.ensures.values (c.in-Ok.ensures.row clean))

pub returns-in-Ok-clause-same : goal.returns-in-Ok-clause-same
returns-in-Ok-clause-same g c clean has = told_same c.args.range (state g.S.Store c.args.conn.now) (state g.S.Store c.query_row.new.self) c.in-Ok.row has
    (subst₂ (λ t p. QueriesRow t p (state g.S.Store c.args.conn.now) (state g.S.Store c.query_row.new.self) (Ok c.in-Ok.row)) c.text_of.ensures c.bound_for-count.ensures.values (c.in-Ok.ensures.row clean))

pub returns-in-Ok-clause-left : goal.returns-in-Ok-clause-left
returns-in-Ok-clause-left g c clean has = inl (told_same c.args.range (state g.S.Store c.args.conn.now) (state g.S.Store c.query_row.new.self) c.in-Ok.row has
    (subst₂ (λ t p. QueriesRow t p (state g.S.Store c.args.conn.now) (state g.S.Store c.query_row.new.self) (Ok c.in-Ok.row)) c.text_of.ensures c.bound_for-count.ensures.values (c.in-Ok.ensures.row clean)))

pub returns-in-Ok-clause-crash : goal.returns-in-Ok-clause-crash
returns-in-Ok-clause-crash g c has = items_commit_nothing c.args.range _ _ (state g.S.Store c.args.conn.now) (state g.S.Store c.query_row.new.self) c.text_of.ensures has c.in-Ok.ensures.survives

pub returns-in-QueryReturnedNoRows-clause-first : goal.returns-in-QueryReturnedNoRows-clause-first
returns-in-QueryReturnedNoRows-clause-first g c clean has = (none_told c.args.range (state g.S.Store c.args.conn.now) (state g.S.Store c.query_row.new.self) c.in-Err.error c.in-QueryReturnedNoRows.is has
    (subst₂ (λ t p. QueriesRow t p (state g.S.Store c.args.conn.now) (state g.S.Store c.query_row.new.self) (Err c.in-Err.error)) c.text_of.ensures c.bound_for-count.ensures.values (c.in-Err.ensures.row clean))).0

pub returns-in-QueryReturnedNoRows-clause-same : goal.returns-in-QueryReturnedNoRows-clause-same
returns-in-QueryReturnedNoRows-clause-same g c clean has = (none_told c.args.range (state g.S.Store c.args.conn.now) (state g.S.Store c.query_row.new.self) c.in-Err.error c.in-QueryReturnedNoRows.is has
    (subst₂ (λ t p. QueriesRow t p (state g.S.Store c.args.conn.now) (state g.S.Store c.query_row.new.self) (Err c.in-Err.error)) c.text_of.ensures c.bound_for-count.ensures.values (c.in-Err.ensures.row clean))).1

pub returns-in-QueryReturnedNoRows-clause-left : goal.returns-in-QueryReturnedNoRows-clause-left
returns-in-QueryReturnedNoRows-clause-left g c clean has = inl (none_told c.args.range (state g.S.Store c.args.conn.now) (state g.S.Store c.query_row.new.self) c.in-Err.error c.in-QueryReturnedNoRows.is has
    (subst₂ (λ t p. QueriesRow t p (state g.S.Store c.args.conn.now) (state g.S.Store c.query_row.new.self) (Err c.in-Err.error)) c.text_of.ensures c.bound_for-count.ensures.values (c.in-Err.ensures.row clean))).1

pub returns-in-QueryReturnedNoRows-clause-crash : goal.returns-in-QueryReturnedNoRows-clause-crash
returns-in-QueryReturnedNoRows-clause-crash g c has = items_commit_nothing c.args.range _ _ (state g.S.Store c.args.conn.now) (state g.S.Store c.query_row.new.self) c.text_of.ensures has c.in-Err.ensures.survives

pub returns-in_default : goal.returns-in_default
returns-in_default g c = record {
  first = λ clean has. tt;
  same = λ clean has. tt;
  cause = λ clean. failed_told c.args.range (state g.S.Store c.args.conn.now) (state g.S.Store c.query_row.new.self) c.in-Err.error c.in_default.not-QueryReturnedNoRows
      (subst₂ (λ t p. QueriesRow t p (state g.S.Store c.args.conn.now) (state g.S.Store c.query_row.new.self) (Err c.in-Err.error)) c.text_of.ensures c.bound_for-count.ensures.values (c.in-Err.ensures.row clean));
  left = λ clean has. left_by (range_text c.args.range) (bound_for c.args.range) (state g.S.Store c.args.conn.now) (state g.S.Store c.query_row.new.self) c.in-Err.error (plain_items c.args.range (state g.S.Store c.args.conn.now) has)
      (failed_told c.args.range (state g.S.Store c.args.conn.now) (state g.S.Store c.query_row.new.self) c.in-Err.error c.in_default.not-QueryReturnedNoRows
      (subst₂ (λ t p. QueriesRow t p (state g.S.Store c.args.conn.now) (state g.S.Store c.query_row.new.self) (Err c.in-Err.error)) c.text_of.ensures c.bound_for-count.ensures.values (c.in-Err.ensures.row clean)));
  crash = λ has. items_commit_nothing c.args.range _ _ (state g.S.Store c.args.conn.now) (state g.S.Store c.query_row.new.self) c.text_of.ensures has c.in-Err.ensures.survives;
  clean = λ clean. omega (arith, c.query_row.ensures.survives.clean, clean);
}
