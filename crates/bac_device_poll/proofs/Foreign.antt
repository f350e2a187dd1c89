-- Nothing of a device that isn't the one on record is kept.
use Rattle.std.proofs.Common.{◌≡◌, Bool, true, false, if◌then◌else◌, List, [], ◌∷◌, map, Option}
use Rattle.std.proofs.Common.{Some, sym, refl, subst}
use Rattle.std.specs.Bool.{Decides}
use Rattle.std.specs.Str.{bytes_eq}
use Rattle.std.proofs.lemmas.Bool.Decides.{Decides-eqb}
use Rattle.std.proofs.lemmas.Slice.Eq.{bytes_eq-Decides}
use Rattle.bac_device_poll.specs.Identity.{met, met_as, whose}
use Rattle.bac_device_poll.specs.Laws.{IsForeign, IsLeft, KeepsNoOther, PutsNone}
use Rattle.bac_device_poll.specs.State.{DeviceState, LogAs}
use Rattle.bac_device_poll.specs.Turns.{not_asked}
use Rattle.bac_answers.specs.declared.who.Who.{Who}
use Rattle.bac_answers.specs.declared.who.Who.TheVariants.{Address, Device, Name}
use Rattle.bac_answers.specs.declared.who.Whose.{Whose}
use Rattle.bac_answers.specs.declared.who.Whose.TheVariants.{Another, Same, Untold}

-- a test of what isn't so fails
fails : {P : Type 0} (b : Bool) → Decides b P → (P → ⊥) → b ≡ false
fails true d never = absurd (never (d.0 refl))
fails false d never = refl

-- the lines of logs that aren't asked are told
pub told_all : (logs : List LogAs) → PutsNone (map not_asked logs)
told_all [] = tt
told_all (task ∷ logs) = (refl, told_all logs)

-- it is another one, or it isn't known
another_left : (p : DeviceState) (who : Who) → IsLeft (met_as p who Another)
another_left p who = record {
  told = (refl, told_all p.logs);
  records = refl;
  ended = refl;
  unasked = refl;
  logs = refl;
}

untold_left : (p : DeviceState) (who : Who) → IsLeft (met_as p who Untold)
untold_left p who = record {
  told = (refl, told_all p.logs);
  records = refl;
  ended = refl;
  unasked = refl;
  logs = refl;
}

-- whose answers these are, by who is on record and who answers
by_whose : (was now : Who) → IsForeign was now → (P : Whose → Type 0) → P Another → P Untold → P (whose (Some was) now)
by_whose (Device was) (Device now) foreign P another untold =
    subst (λ (b : Bool). P (if b then Same else Another)) (sym (fails _ (Decides-eqb was.instance now.instance) foreign)) another
by_whose (Device was) (Name now) foreign P another untold = untold
by_whose (Device was) Address foreign P another untold = untold
by_whose (Name was) (Device now) foreign P another untold = absurd foreign
by_whose (Name was) (Name now) foreign P another untold =
    subst (λ (b : Bool). P (if b then Same else Another)) (sym (fails _ (bytes_eq-Decides was now) foreign)) another
by_whose (Name was) Address foreign P another untold = untold
by_whose Address now foreign P another untold = absurd foreign

-- one that isn't the one on record
foreign_left : (p : DeviceState) (was now : Who) → p.who ≡ Some was → IsForeign was now → IsLeft (met p now)
foreign_left p was now is foreign =
    subst (λ (w : Option Who). IsLeft (met_as p now (whose w now))) (sym is)
    (by_whose was now foreign (λ (w : Whose). IsLeft (met_as p now w)) (another_left p now) (untold_left p now))

pub keeps_no_other : KeepsNoOther
keeps_no_other p was is = (
  λ device foreign. (foreign_left p was (Device device) is foreign, foreign_left p was (Device device) is foreign),
  λ name foreign. foreign_left p was (Name name) is foreign,
  λ foreign. foreign_left p was Address is foreign,
)
