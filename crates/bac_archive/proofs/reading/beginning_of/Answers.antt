use Rattle.std.proofs.Common.{refl, rules}
use Rattle.bac_archive.specs.Read.{below, characters, or_none, numbers, beginning_kinds}
use Rattle.bac_archive.proofs.ReadLemmas.{got}
use Rattle.bac_archive.proofs.reading.beginning_of.Goals as goal

pub returns-in_err-id-clause-cause : goal.returns-in_err-id-clause-cause
returns-in_err-id-clause-cause c = got c.from_residual.result beginning_kinds 0 (below numbers) c.args.row.now _ c.in_err-id.field-0.0 (search rules) refl (λ is. is) c.in_err-id.ensures.named c.in_err-id.ensures.kind

pub returns-in_err-number-clause-cause : goal.returns-in_err-number-clause-cause
returns-in_err-number-clause-cause c = got c.from_residual-in_err-number.result beginning_kinds 1 (below numbers) c.args.row.now _ c.in_err-number.field-0.0 (search rules) refl (λ is. is) c.in_err-number.ensures.named c.in_err-number.ensures.kind

pub returns-in_err-why-clause-cause : goal.returns-in_err-why-clause-cause
returns-in_err-why-clause-cause c = got c.from_residual-in_err-why.result beginning_kinds 2 (or_none characters) c.args.row.now _ c.in_err-why.field-0.0 (search rules) refl (λ is. is) c.in_err-why.ensures.named c.in_err-why.ensures.kind
