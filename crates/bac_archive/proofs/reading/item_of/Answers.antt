use Rattle.std.proofs.Common.{refl, rules}
use Rattle.bac_archive.specs.Read.{below, octets, or_none, real, numbers, item_kinds}
use Rattle.bac_archive.proofs.ReadLemmas.{got, got_by}
use Rattle.bac_archive.proofs.reading.item_of.Goals as goal

pub returns-in_err-id-clause-cause : goal.returns-in_err-id-clause-cause
returns-in_err-id-clause-cause c = got_by c.from_residual.result item_kinds 0 (below 9223372036854775808) c.args.row.now c.in_err-id.field-0.0 (search rules) refl c.in_err-id.ensures.cause

pub returns-in_err-last-clause-cause : goal.returns-in_err-last-clause-cause
returns-in_err-last-clause-cause c = got c.from_residual-in_err-last.result item_kinds 1 (or_none (below numbers)) c.args.row.now _ c.in_err-last.field-0.0 (search rules) refl (λ is. is) c.in_err-last.ensures.named c.in_err-last.ensures.kind

pub returns-in_err-stamp-clause-cause : goal.returns-in_err-stamp-clause-cause
returns-in_err-stamp-clause-cause c = got_by c.from_residual-in_err-stamp.result item_kinds 2 (or_none octets) c.args.row.now c.in_err-stamp.field-0.0 (search rules) refl c.in_err-stamp.ensures.cause

pub returns-in_err-value-clause-cause : goal.returns-in_err-value-clause-cause
returns-in_err-value-clause-cause c = got_by c.from_residual-in_err-value.result item_kinds 3 (or_none real) c.args.row.now c.in_err-value.field-0.0 (search rules) refl c.in_err-value.ensures.cause

pub returns-in_err-datum-clause-cause : goal.returns-in_err-datum-clause-cause
returns-in_err-datum-clause-cause c = got_by c.from_residual-in_err-datum.result item_kinds 4 (or_none octets) c.args.row.now c.in_err-datum.field-0.0 (search rules) refl c.in_err-datum.ensures.cause

pub returns-in_err-flags-clause-cause : goal.returns-in_err-flags-clause-cause
returns-in_err-flags-clause-cause c = got_by c.from_residual-in_err-flags.result item_kinds 5 (or_none octets) c.args.row.now c.in_err-flags.field-0.0 (search rules) refl c.in_err-flags.ensures.cause
