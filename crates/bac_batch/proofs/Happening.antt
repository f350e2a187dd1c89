-- What happens while a machine is driven, as steps of the machine.
use Rattle.std.proofs.Common.{List, [], ◌∷◌, ap}
use Rattle.bac_drive.specs.Chain.{Chain}
use Rattle.bac_drive.specs.Event.{Event}
use Rattle.bac_drive.specs.Happens.{Acts, Happens, Scene, Steps}
use Rattle.bac_batch.specs.Laws.{StepsHappen}

pub steps_happen : {M P C : Type 0} (acts : Acts M P C) → StepsHappen acts
steps_happen {M = M} {P = P} {C = C} acts = go
  where
    go : (old new : Scene M P C) (es : List Event) → Chain (Happens acts) old es new →
        Chain (Steps acts.gives acts.hears acts.reads) old.machine es new.machine
    go old new [] same = ap (λ (s : Scene M P C). s.machine) same
    go old new (e ∷ es) (mid, (wanted, half, gives, does, told, changes), more) =
        (mid.machine, (wanted, half, gives, does, told), go mid new es more)
