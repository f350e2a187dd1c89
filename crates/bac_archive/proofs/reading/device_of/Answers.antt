use Rattle.std.proofs.Common.{refl, rules}
use Rattle.bac_archive.specs.Read.{below, characters, or_none, whole, numbers, device_kinds}
use Rattle.bac_archive.proofs.ReadLemmas.{got, got_by}
use Rattle.bac_archive.proofs.reading.device_of.Goals as goal

pub returns-in_err-id-clause-cause : goal.returns-in_err-id-clause-cause
returns-in_err-id-clause-cause c = got_by c.from_residual.result device_kinds 0 (below 65536) c.args.row.now c.in_err-id.field-0.0 (search rules) refl c.in_err-id.ensures.cause

pub returns-in_err-address-clause-cause : goal.returns-in_err-address-clause-cause
returns-in_err-address-clause-cause c = got c.from_residual-in_err-address.result device_kinds 1 (characters) c.args.row.now _ c.in_err-address.field-0.0 (search rules) refl (λ is. is) c.in_err-address.ensures.named c.in_err-address.ensures.kind

pub returns-in_err-dnet-clause-cause : goal.returns-in_err-dnet-clause-cause
returns-in_err-dnet-clause-cause c = got_by c.from_residual-in_err-dnet.result device_kinds 2 (below 65536) c.args.row.now c.in_err-dnet.field-0.0 (search rules) refl c.in_err-dnet.ensures.cause

pub returns-in_err-dadr-clause-cause : goal.returns-in_err-dadr-clause-cause
returns-in_err-dadr-clause-cause c = got c.from_residual-in_err-dadr.result device_kinds 3 (characters) c.args.row.now _ c.in_err-dadr.field-0.0 (search rules) refl (λ is. is) c.in_err-dadr.ensures.named c.in_err-dadr.ensures.kind

pub returns-in_err-instance-clause-cause : goal.returns-in_err-instance-clause-cause
returns-in_err-instance-clause-cause c = got c.from_residual-in_err-instance.result device_kinds 4 (or_none (below numbers)) c.args.row.now _ c.in_err-instance.field-0.0 (search rules) refl (λ is. is) c.in_err-instance.ensures.named c.in_err-instance.ensures.kind

pub returns-in_err-name-clause-cause : goal.returns-in_err-name-clause-cause
returns-in_err-name-clause-cause c = got c.from_residual-in_err-name.result device_kinds 5 (or_none characters) c.args.row.now _ c.in_err-name.field-0.0 (search rules) refl (λ is. is) c.in_err-name.ensures.named c.in_err-name.ensures.kind

pub returns-in_err-revision-clause-cause : goal.returns-in_err-revision-clause-cause
returns-in_err-revision-clause-cause c = got c.from_residual-in_err-revision.result device_kinds 6 (or_none (below numbers)) c.args.row.now _ c.in_err-revision.field-0.0 (search rules) refl (λ is. is) c.in_err-revision.ensures.named c.in_err-revision.ensures.kind

pub returns-in_err-whole-clause-cause : goal.returns-in_err-whole-clause-cause
returns-in_err-whole-clause-cause c = got_by c.from_residual-in_err-whole.result device_kinds 7 (below 2) c.args.row.now c.in_err-whole.field-0.0 (search rules) refl c.in_err-whole.ensures.cause

pub returns-in_err-stopped-clause-cause : goal.returns-in_err-stopped-clause-cause
returns-in_err-stopped-clause-cause c = got_by c.from_residual-in_err-stopped.result device_kinds 8 (below 2) c.args.row.now c.in_err-stopped.field-0.0 (search rules) refl c.in_err-stopped.ensures.cause

pub returns-in_err-answered-clause-cause : goal.returns-in_err-answered-clause-cause
returns-in_err-answered-clause-cause c = got c.from_residual-in_err-answered.result device_kinds 9 (or_none characters) c.args.row.now _ c.in_err-answered.field-0.0 (search rules) refl (λ is. is) c.in_err-answered.ensures.named c.in_err-answered.ensures.kind

pub returns-in_err-offset-clause-cause : goal.returns-in_err-offset-clause-cause
returns-in_err-offset-clause-cause c = got c.from_residual-in_err-offset.result device_kinds 10 (or_none whole) c.args.row.now _ c.in_err-offset.field-0.0 (search rules) refl (λ is. is) c.in_err-offset.ensures.named c.in_err-offset.ensures.kind
