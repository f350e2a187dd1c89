use Rattle.std.proofs.Common.{refl, rules, sym, arith, inl, inr}
use Rattle.sqlite.specs.declared.error.Error.TheVariants.{IntegralValueOutOfRange}
use Rattle.bac_archive.specs.Read.{below}
use Rattle.bac_archive.proofs.RowsLemmas.{because}
use Rattle.bac_archive.proofs.ReadLemmas.{too_great, unread}
use Rattle.bac_archive.proofs.reading.short_at.Goals as goal

pub returns-in_err-wide-clause-cause : goal.returns-in_err-wide-clause-cause
returns-in_err-wide-clause-cause c =
    because c.from_residual.result c.in_err-wide.field-0.0 _ (search rules) (unread (below 65536) c.args.at c.args.row.now _ c.in_err-wide.field-0.0 (λ is. (is.0, is.1, omega (arith, is.2))) c.in_err-wide.ensures.named c.in_err-wide.ensures.kind)

pub returns-in-Err-clause-cause : goal.returns-in-Err-clause-cause
returns-in-Err-clause-cause c =
    inr (too_great 65536 c.args.at c.in_ok-wide.wide c.args.row.now (IntegralValueOutOfRange c.args.at) (sym c.in_ok-wide.ensures.ok.1) (omega (arith, c.in-Err.ensures)) (inr (inr (inl refl))))
