use Rattle.std.proofs.Common.{refl, rules}
use Rattle.bac_archive.specs.Read.{below, item_kinds}
use Rattle.bac_archive.proofs.ReadLemmas.{got_by}
use Rattle.bac_archive.proofs.reading.epoch_at.Goals as goal

pub returns-in_err-id-clause-cause : goal.returns-in_err-id-clause-cause
returns-in_err-id-clause-cause c = got_by c.from_residual.result item_kinds 0 (below 9223372036854775808) c.args.row.now c.in_err-id.field-0.0 (search rules) refl c.in_err-id.ensures.cause
