-- What was committed is so still.
use Rattle.std.proofs.Common.{◌≡◌, inl, inr, IsTrue, Result, Ok, Err, subst, sym, ◌∙◌}
use Rattle.sqlite.specs.State.{HasCleanDisk, IsUnchanged, State}
use Rattle.bac_archive.specs.Ask.{IsLeft}
use Rattle.bac_drive.specs.Happens.{StaysSettled}

-- behind an answer
pub settled_same : (mid new : State) → mid.committed ≡ mid.now → IsUnchanged mid new → new.committed ≡ new.now
settled_same mid new settled same = same.0.committed_is ∙ settled ∙ sym same.0.now_is

-- behind a question that failed
pub settled_left : (mid new : State) → mid.committed ≡ mid.now → IsLeft mid new → IsTrue new.is_open → new.committed ≡ new.now
settled_left mid new settled (inl same) is_open = settled_same mid new settled same
settled_left mid new settled (inr undone) is_open = (undone.undone is_open).1 ∙ sym (undone.undone is_open).0

-- of the fault that a call is
pub settled_as : {T E : Type 0} (r : Result T E) (error : E) (old new : State) → r ≡ Err error → StaysSettled {T = T} {E = E} old new (Err error) → StaysSettled old new r
settled_as r error old new is it = subst (λ x. StaysSettled old new x) (sym is) it

-- behind what was done before, which is committed
pub settled_behind : {T E : Type 0} (r : Result T E) (old mid new : State) → (HasCleanDisk new → mid.committed ≡ mid.now) → StaysSettled mid new r → StaysSettled old new r
settled_behind (Ok value) old mid new settled stays = λ clean was. stays clean (settled clean)
settled_behind (Err error) old mid new settled stays = λ clean was is_open. stays clean (settled clean) is_open
