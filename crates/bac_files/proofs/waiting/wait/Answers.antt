use Rattle.std.proofs.Common.{inl, inr, refl}
use Rattle.bac_files.proofs.waiting.wait.Goals as goal

pub returns-in-Ok : goal.returns-in-Ok
returns-in-Ok g c =
    inl (c.in-Ok.port, c.ask_again-still.new.port, c.«open».new.self, c.in-Ok.ensures, c.ask_again-still.ensures, c.close.ensures)

pub returns-in-Err : goal.returns-in-Err
returns-in-Err g c = inr (c.in-Err.field-0, c.in-Err.ensures, refl, refl)
