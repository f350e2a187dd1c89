use Rattle.std.proofs.Common.{Err, inl, inr, refl}
use Rattle.bac_tools.proofs.program.run_read.Goals as goal

pub returns-in-Err-Usage : goal.returns-in-Err-Usage
returns-in-Err-Usage g c =
    rw (c.in-Err-Usage.is, c.in-Err-Usage.field-0-is) (elim c.explain.ensures [
      | inl told ↦ inl (told.0, told.1, (refl, refl, refl))
      | inr said ↦ inr (said, (refl, refl, refl))
    ])

pub returns-in-Err : goal.returns-in-Err
returns-in-Err g c =
    rw c.in-Ok.is (inr (
      Err c.in-Err.fault,
      g.E.Write.contents c.work.new.errors,
      rw c.in-Err.is at c.work.ensures,
      rw c.passed.ensures at c.tell_after.ensures,
    ))
