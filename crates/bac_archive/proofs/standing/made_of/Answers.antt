use Rattle.std.proofs.Common.{◌≡◌, refl, rules, inr, slice_get, Some}
use Rattle.bac_archive.specs.Read.{archive_kinds, characters}
use Rattle.bac_archive.proofs.RowsLemmas.{because}
use Rattle.bac_archive.proofs.ReadLemmas.{first_there, row_unread, unread}
use Rattle.bac_archive.proofs.standing.made_of.Goals as goal

pub returns-in_err-made-clause-cause : goal.returns-in_err-made-clause-cause
returns-in_err-made-clause-cause c =
    let at : slice_get c.args.rows.now 0 ≡ Some c.in-Some.row.now = search rules in
    because c.from_residual.result c.in_err-made.field-0.0 _ (search rules)
    (inr (
      c.in-Some.row.now,
      first_there c.args.rows.now c.in-Some.row.now at,
      row_unread archive_kinds 1 characters c.in-Some.row.now c.in_err-made.field-0.0 refl
          (unread characters 1 c.in-Some.row.now _ c.in_err-made.field-0.0 (λ is. is) c.in_err-made.ensures.named c.in_err-made.ensures.kind),
    ))
