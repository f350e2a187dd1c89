use Rattle.std.proofs.Common.{refl, rules, sym, arith, inl, inr}
use Rattle.sqlite.specs.declared.error.Error.TheVariants.{IntegralValueOutOfRange}
use Rattle.bac_archive.specs.Read.{below}
use Rattle.bac_archive.proofs.RowsLemmas.{because}
use Rattle.bac_archive.proofs.ReadLemmas.{too_great, unread}
use Rattle.bac_archive.proofs.reading.flag_at.Goals as goal

pub returns-in_err-number-clause-cause : goal.returns-in_err-number-clause-cause
returns-in_err-number-clause-cause c =
    because c.from_residual.result c.in_err-number.field-0.0 _ (search rules) (unread (below 2) c.args.at c.args.row.now _ c.in_err-number.field-0.0 (λ is. (is.0, is.1, omega (arith, is.2))) c.in_err-number.ensures.named c.in_err-number.ensures.kind)

pub returns-in_default-clause-cause : goal.returns-in_default-clause-cause
returns-in_default-clause-cause c =
    inr (too_great 2 c.args.at c.in_ok-number.number c.args.row.now (IntegralValueOutOfRange c.args.at) (sym c.in_ok-number.ensures.ok.1) (omega arith) (inr (inr (inl refl))))
