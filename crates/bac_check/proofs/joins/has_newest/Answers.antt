use Rattle.std.proofs.Common.{[], inl, inr, refl, subst, Some, None}
use Rattle.sqlite.specs.Held.{state}
use Rattle.bac_archive.specs.Items.{IsFirst}
use Rattle.bac_archive.proofs.AskLemmas.{on_ok}
use Rattle.bac_check.proofs.AskedLemmas.{if_err_then, if_ok_then}
use Rattle.bac_check.proofs.joins.has_newest.Goals as goal

pub returns-in-Ok-Some-clause-told : goal.returns-in-Ok-Some-clause-told
returns-in-Ok-Some-clause-told g c clean has =
    let old = state g.A.Store c.args.conn.now in
    if_ok_then c.is_it.result _ _ c.is_it.ensures.told
    (λ so is. (Some c.in-Ok-Some.row, subst (λ r. IsFirst r (old.now.trees 5) (Some c.in-Ok-Some.row)) c.between.ensures (rw c.in-Ok-Some.field-0-is at (c.in-Ok-Some.ensures.first clean has)), is))

pub returns-in-Ok-Some-clause-same : goal.returns-in-Ok-Some-clause-same
returns-in-Ok-Some-clause-same g c clean has = on_ok c.is_it.result _ (c.in-Ok-Some.ensures.same clean has)

pub returns-in-Ok-Some-clause-uncounted : goal.returns-in-Ok-Some-clause-uncounted
returns-in-Ok-Some-clause-uncounted g c clean has =
    if_err_then c.is_it.result _ _ c.is_it.ensures.only
    (λ why it. rw it.1 (record { left = inr (inl (c.in-Ok-Some.ensures.same clean has)); cause = inr (inr (inl (_, [], c.in-Ok-Some.row, rw c.in-Ok-Some.field-0-is at (c.in-Ok-Some.ensures.first clean has), it.2))) }))

pub returns-in-Ok-None-clause-told : goal.returns-in-Ok-None-clause-told
returns-in-Ok-None-clause-told g c clean has =
    let old = state g.A.Store c.args.conn.now in
    (None, subst (λ r. IsFirst r (old.now.trees 5) None) c.between.ensures (rw c.in-Ok-None.field-0-is at (c.in-Ok-None.ensures.first clean has)), refl)

pub returns-in-Err-clause-uncounted : goal.returns-in-Err-clause-uncounted
returns-in-Err-clause-uncounted g c clean has = record {
  left = inr (c.first_in.ensures.left clean has);
  cause = inr (inl (_, c.args.conn.now, inl refl, c.in-Err.ensures.cause clean));
}
