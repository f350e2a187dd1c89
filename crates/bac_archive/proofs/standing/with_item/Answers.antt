use Rattle.std.proofs.Common.{◌+◌, ap, refl, arith}
use Rattle.bac_archive.proofs.standing.with_item.Goals as goal

pub returns-clause-meets : goal.returns-clause-meets
returns-clause-meets c = record {
  at = refl;
  more = λ less. (ap (λ (k : _). k + 1) c.met-before.ensures, rw c.is_last_from-told.ensures at c.in_ok-rows.ensures.rows);
  full = λ le. absurd (omega (arith, le, c.met-before.ensures, c.if-before-ge-NEWEST.false));
}
