use Rattle.std.proofs.Common.{refl, rules}
use Rattle.bac_archive.specs.Read.{below, characters, or_none, numbers, log_kinds}
use Rattle.bac_archive.proofs.ReadLemmas.{got, got_by}
use Rattle.bac_archive.proofs.reading.log_of.Goals as goal

pub returns-in_err-id-clause-cause : goal.returns-in_err-id-clause-cause
returns-in_err-id-clause-cause c = got_by c.from_residual.result log_kinds 0 (below 65536) c.args.row.now c.in_err-id.field-0.0 (search rules) refl c.in_err-id.ensures.cause

pub returns-in_err-device-clause-cause : goal.returns-in_err-device-clause-cause
returns-in_err-device-clause-cause c = got_by c.from_residual-in_err-device.result log_kinds 1 (below 65536) c.args.row.now c.in_err-device.field-0.0 (search rules) refl c.in_err-device.ensures.cause

pub returns-in_err-instance-clause-cause : goal.returns-in_err-instance-clause-cause
returns-in_err-instance-clause-cause c = got c.from_residual-in_err-instance.result log_kinds 2 (below numbers) c.args.row.now _ c.in_err-instance.field-0.0 (search rules) refl (λ is. is) c.in_err-instance.ensures.named c.in_err-instance.ensures.kind

pub returns-in_err-name-clause-cause : goal.returns-in_err-name-clause-cause
returns-in_err-name-clause-cause c = got c.from_residual-in_err-name.result log_kinds 3 (or_none characters) c.args.row.now _ c.in_err-name.field-0.0 (search rules) refl (λ is. is) c.in_err-name.ensures.named c.in_err-name.ensures.kind

pub returns-in_err-source-clause-cause : goal.returns-in_err-source-clause-cause
returns-in_err-source-clause-cause c = got c.from_residual-in_err-source.result log_kinds 4 (or_none characters) c.args.row.now _ c.in_err-source.field-0.0 (search rules) refl (λ is. is) c.in_err-source.ensures.named c.in_err-source.ensures.kind

pub returns-in_err-units-clause-cause : goal.returns-in_err-units-clause-cause
returns-in_err-units-clause-cause c = got c.from_residual-in_err-units.result log_kinds 5 (or_none characters) c.args.row.now _ c.in_err-units.field-0.0 (search rules) refl (λ is. is) c.in_err-units.ensures.named c.in_err-units.ensures.kind

pub returns-in_err-description-clause-cause : goal.returns-in_err-description-clause-cause
returns-in_err-description-clause-cause c = got c.from_residual-in_err-description.result log_kinds 6 (or_none characters) c.args.row.now _ c.in_err-description.field-0.0 (search rules) refl (λ is. is) c.in_err-description.ensures.named c.in_err-description.ensures.kind

pub returns-in_err-restart-clause-cause : goal.returns-in_err-restart-clause-cause
returns-in_err-restart-clause-cause c = got c.from_residual-in_err-restart.result log_kinds 7 (or_none characters) c.args.row.now _ c.in_err-restart.field-0.0 (search rules) refl (λ is. is) c.in_err-restart.ensures.named c.in_err-restart.ensures.kind

pub returns-in_err-revision-clause-cause : goal.returns-in_err-revision-clause-cause
returns-in_err-revision-clause-cause c = got c.from_residual-in_err-revision.result log_kinds 8 (or_none (below numbers)) c.args.row.now _ c.in_err-revision.field-0.0 (search rules) refl (λ is. is) c.in_err-revision.ensures.named c.in_err-revision.ensures.kind

pub returns-in_err-stopped-clause-cause : goal.returns-in_err-stopped-clause-cause
returns-in_err-stopped-clause-cause c = got_by c.from_residual-in_err-stopped.result log_kinds 9 (below 2) c.args.row.now c.in_err-stopped.field-0.0 (search rules) refl c.in_err-stopped.ensures.cause
