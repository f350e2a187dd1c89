-- What the batches of a run come to.
use Rattle.std.proofs.Common.{List, [], ◌∷◌, sym, subst}
use Rattle.bac_archive.specs.Put.{IsPut, LoseNothing, PutsJoin, PutsLoseNothing}
use Rattle.bac_archive.proofs.PutLemmas.{put_nothing}
use Rattle.bac_drive.specs.Chain.{Chain}
use Rattle.bac_drive.specs.Event.{Event, Kept, Printed, Read, Sent, Waited, Warned}
use Rattle.bac_drive.specs.Happens.{Acts, Changes, Happens, Scene}
use Rattle.bac_drive.specs.Laws.{LosesNothing, RunsPut, puts_of}

-- those of one event, and those behind it
step_put : {M P C : Type 0} (acts : Acts M P C) (old mid new : Scene M P C) (e : Event) (es : List Event) → PutsJoin → Changes acts old e mid →
    IsPut mid.database new.database (puts_of es) → IsPut old.database new.database (puts_of (e ∷ es))
step_put {M = M} {P = P} {C = C} acts old mid new (Sent octets to answer) es join changes more = subst (λ (s : Scene M P C). IsPut s.database new.database (puts_of es)) changes.1 more
step_put {M = M} {P = P} {C = C} acts old mid new (Waited within heard) es join changes more = subst (λ (s : Scene M P C). IsPut s.database new.database (puts_of es)) changes.1 more
step_put {M = M} {P = P} {C = C} acts old mid new (Read ms) es join changes more = subst (λ (s : Scene M P C). IsPut s.database new.database (puts_of es)) changes.1 more
step_put acts old mid new (Kept puts) es join changes more = join old.database mid.database new.database puts (puts_of es) changes.0 more
step_put {M = M} {P = P} {C = C} acts old mid new (Printed text) es join changes more = subst (λ (s : Scene M P C). IsPut s.database new.database (puts_of es)) changes.1 more
step_put {M = M} {P = P} {C = C} acts old mid new (Warned text) es join changes more = subst (λ (s : Scene M P C). IsPut s.database new.database (puts_of es)) changes.1 more

pub runs_put : {M P C : Type 0} (acts : Acts M P C) → PutsJoin → RunsPut acts
runs_put {M = M} {P = P} {C = C} acts join = go
  where
    go : (old new : Scene M P C) (es : List Event) → Chain (Happens acts) old es new → IsPut old.database new.database (puts_of es)
    go old new [] same = subst (λ (s : Scene M P C). IsPut old.database s.database []) (sym same) (put_nothing old.database)
    go old new (e ∷ es) (mid, (wanted, half, gives, does, is, changes), more) = step_put acts old mid new e es join changes (go mid new es more)

pub loses_nothing : {M P C : Type 0} (acts : Acts M P C) → PutsJoin → PutsLoseNothing → LosesNothing acts
loses_nothing acts join none_lost = λ old trees has leaves.
    subst (LoseNothing old.database.trees) (sym leaves.3)
    (none_lost old.database leaves.1.database (puts_of leaves.0) has (runs_put acts join old leaves.1 leaves.0 leaves.2))
