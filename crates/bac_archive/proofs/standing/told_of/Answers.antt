use Rattle.std.proofs.Common.{rules, inl, inr}
use Rattle.bac_archive.proofs.RowsLemmas.{because}
use Rattle.bac_archive.proofs.ReadLemmas.{no_moment}
use Rattle.bac_archive.proofs.standing.told_of.Goals as goal

pub returns-in_err-made-clause-cause : goal.returns-in_err-made-clause-cause
returns-in_err-made-clause-cause c =
    because c.from_residual.result c.in_err-made.field-0.0 _ (search rules) (no_moment c.args.tables.now c.in_err-made.field-0.0 (rw c.as_slice.ensures.value at c.in_err-made.ensures.cause))

pub returns-in_err-devices-clause-cause : goal.returns-in_err-devices-clause-cause
returns-in_err-devices-clause-cause c =
    because c.from_residual-in_err-devices.result c.in_err-devices.field-0.0 _ (search rules) (inr (inr (inl (rw c.as_slice-2.ensures.value at c.in_err-devices.ensures.cause))))

pub returns-in_err-logs-clause-cause : goal.returns-in_err-logs-clause-cause
returns-in_err-logs-clause-cause c =
    because c.from_residual-in_err-logs.result c.in_err-logs.field-0.0 _ (search rules) (inr (inr (inr (rw c.as_slice-3.ensures.value at c.in_err-logs.ensures.cause))))
