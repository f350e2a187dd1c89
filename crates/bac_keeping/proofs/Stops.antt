-- What is stopped stays so, and the rest goes on.
use Rattle.std.proofs.Common.{◌≡◌, ◌&&◌, ◌||◌, not, Bool, true, false, if◌then◌else◌, [], ◌∷◌, refl, ap, subst, ◌∙◌}
use Rattle.std.proofs.lemmas.Bool.{cond-false}
use Rattle.bac_archive.specs.Put.{PutsLoseNothing, log_columns}
use Rattle.bac_archive.specs.declared.row.LogRow.{LogRow}
use Rattle.bac_device_poller.specs.Rows.{DeviceAs, device_as}
use Rattle.bac_plan.specs.Changes.{names_whole, with_stopped}
use Rattle.bac_plan.specs.Stopping.{stops}
use Rattle.bac_plan.specs.StoppingLaws.{NamedAreStopped, OthersGoOn}
use Rattle.bac_plan.specs.Told.{StoppedAreTold, TellsDevice, TellsLog}
use Rattle.bac_plan.proofs.Stored.{at, bit_same, int_same}
use Rattle.bac_keeping.specs.RecordLaws.{OthersStand, StopLosesNothing, StopStops}

pub stop_loses : PutsLoseNothing → StopLosesNothing
stop_loses none_lost named stopped old new is = none_lost old new stopped.rows.items is.archive is.put

same_id : (b : Bool) (d : DeviceAs) → (if b then record d { stopped = true } else d).id ≡ d.id
same_id true d = refl
same_id false d = refl

log_id : (m l : LogRow) (b : Bool) → log_columns m ≡ (if b then with_stopped true l else log_columns l) → m.id ≡ l.id
log_id m l true is = int_same m.id l.id (at 0 is)
log_id m l false is = int_same m.id l.id (at 0 is)

or_none : (b : Bool) → (b || false) ≡ true → b ≡ true
or_none true is = refl
or_none false is = is

log_stops : (m l : LogRow) (b : Bool) → log_columns m ≡ (if b then with_stopped true l else log_columns l) → (l.stopped || b) ≡ true → m.stopped ≡ true
log_stops m l true is either = bit_same m.stopped true (at 9 is)
log_stops m l false is either = bit_same m.stopped l.stopped (at 9 is) ∙ or_none l.stopped either

pub stop_stops : StoppedAreTold → NamedAreStopped → StopStops
stop_stops are_told are_stopped named stopped old new t n d is rise stands there has where_it_is =
    let tells = are_told named old new stopped.told t stopped.rows.items is.archive rise is.told is.rows is.put stands in
    let law = are_stopped named stopped.told.devices.items n d there where_it_is in (
      λ whole.
          let e = tells.devices d has in
          (e.0, e.1, ap (λ (x : DeviceAs). x.id) e.2 ∙ same_id (names_whole named (device_as d) && not d.stopped) (device_as d), ap (λ (x : DeviceAs). x.stopped) e.2 ∙ law.0 whole),
      λ l log_there of either.
          let m = tells.logs l log_there in
          (m.0, m.1, log_id m.0 l (stops named stopped.told.devices.items l) m.2, log_stops m.0 l (stops named stopped.told.devices.items l) m.2 (law.1 l of either)),
    )

-- a list that has nothing is made by a test that fails
fails : {X : Type 0} (b : Bool) (x : X) → (if b then x ∷ [] else []) ≡ [] → b ≡ false
fails false x is = refl
fails true x is = absurd (let e : x ∷ [] ≡ [] = is in cc)

pub others_stand : StoppedAreTold → OthersGoOn → OthersStand
others_stand are_told go_on named stopped old new t d is rise stands has none =
    let tells = are_told named old new stopped.told t stopped.rows.items is.archive rise is.told is.rows is.put stands in
    let law = go_on named stopped.told.devices.items d none in (
      subst (TellsDevice t) (cond-false (names_whole named (device_as d) && not d.stopped) (record (device_as d) { stopped = true }) (device_as d) (fails (names_whole named (device_as d) && not d.stopped) _ law.0)) (tells.devices d has),
      λ l log_there of.
          subst (TellsLog t) (cond-false (stops named stopped.told.devices.items l) (with_stopped true l) (log_columns l) (fails (stops named stopped.told.devices.items l) _ (law.1 l of))) (tells.logs l log_there),
    )
