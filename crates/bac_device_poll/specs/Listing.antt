-- The Object_List of a device (clause 12.11): which trend logs it has.
use Rattle.std.specs.Prelude.{ℕ, ◌+◌, ◌==◌, ◌&&◌, ◌||◌, nat_le, not, Bool, true, if◌then◌else◌, List, [], ◌∷◌}
use Rattle.std.specs.Prelude.{◌++◌, map}
use Rattle.std.specs.Prelude.{Option, None, Some}
use Rattle.std.specs.List.{fold, list_any}
use Rattle.bac_wire.specs.Primitive.{Id}
use Rattle.bac_link.specs.declared.exchanges.Verdict.{Verdict}
use Rattle.bac_link.specs.declared.exchanges.Verdict.TheVariants.{Ack, BadReply, Refused}
use Rattle.bac_walk.specs.declared.outcome.WalkFault.{WalkFault}
use Rattle.bac_walk.specs.declared.outcome.WalkFault.TheVariants as walk
use Rattle.bac_poll.specs.Poll.{nothing_told}
use Rattle.bac_device_poll.specs.Naming.{names}
use Rattle.bac_device_poll.specs.Refusals.{is_too_long}
use Rattle.bac_device_poll.specs.State.{DeviceState, LogAs, Starting}
use Rattle.bac_device_poll.specs.Turns.{Turned, asks}
use Rattle.bac_answers.specs.declared.entry.Entry.{Entry}
use Rattle.bac_answers.specs.declared.entry.Entry.TheVariants.{Added, Unlisted}
use Rattle.bac_device_poll.specs.declared.stage.Stage.TheVariants.{Count, Element, Objects}
pub use Rattle.bac_answers.specs.Listing.{may_differ, is_object, count_of, others_in, are_same, told_others}

-- ---- whether it is asked for

-- The list is asked for of a device that is kept whole, where it may be another one.
abbrev pub lists : DeviceState → List Entry → Turned
lists p entries =
    if p.whole && may_differ p.revision p.told.revision
    then asks (record p { stage = Objects }) entries
    else names p entries

-- ---- the trend logs in it

-- one of these logs
abbrev pub is_polled : Id → List LogAs → Bool
is_polled object logs = list_any (λ (t : LogAs). is_object object t.log) logs

-- a log that is on record: one of these, or one that is stopped
abbrev pub is_known : List LogAs → (stopped : List Id) → Id → Bool
is_known logs stopped object = is_polled object logs || list_any (is_object object) stopped

-- a trend log (type 20) that is not, behind those that were found
abbrev pub add_new : List LogAs → (stopped : List Id) → (found : List Id) → Id → List Id
add_new logs stopped found object =
    if object.kind == 20 && not (is_known logs stopped object || list_any (is_object object) found)
    then found ++ object ∷ [] else found

-- The trend logs among objects that aren't on record, each once.
abbrev pub new_among : List LogAs → (stopped : List Id) → (objects : List Id) → List Id
new_among logs stopped objects = fold (add_new logs stopped) [] objects

-- one of which nothing is kept yet
abbrev pub new_log : Id → LogAs
new_log object = record { log = object; begin = Starting None nothing_told }

-- ---- what each answer makes of it

-- The list has these objects: its new trend logs are polled, too.
abbrev pub listed : DeviceState → List Id → Turned
listed p objects =
    names (record p {
      read = true;
      objects = [];
      unnamed = new_among p.logs p.stopped objects;
      logs = p.logs ++ map new_log (new_among p.logs p.stopped objects);
    }) (map Added (new_among p.logs p.stopped objects) ++ told_others p.others (others_in objects))

-- the list isn't told, and that is: its logs are those on record
abbrev pub unlisted : DeviceState → WalkFault → Turned
unlisted p why = names (record p { objects = [] }) (Unlisted why ∷ [])

-- why it isn't: it was refused, or the reply tells none
abbrev pub list_fault : Verdict → WalkFault
list_fault Ack = walk.BadReply
list_fault (Refused refusal) = walk.Refused refusal
list_fault BadReply = walk.BadReply

-- The whole list; where it is too long for one answer it is asked for by index, of which 0 tells how long it is.
abbrev pub after_objects : DeviceState → Verdict → Option (List Id) → Turned
after_objects p verdict None =
    if is_too_long verdict then asks (record p { stage = Count }) [] else unlisted p (list_fault verdict)
after_objects p verdict (Some objects) = listed p objects

-- how long it is
abbrev pub after_count : DeviceState → Verdict → Option ℕ → Turned
after_count p verdict None = unlisted p (list_fault verdict)
after_count p verdict (Some count) =
    if count == 0 then listed p [] else asks (record p { stage = Element 1 count; objects = [] }) []

-- an element of so many
abbrev pub after_element : DeviceState → (index : ℕ) → (count : ℕ) → Verdict → Option Id → Turned
after_element p index count verdict None = unlisted p (list_fault verdict)
after_element p index count verdict (Some object) =
    if nat_le count index
    then listed p (p.objects ++ object ∷ [])
    else asks (record p { stage = Element (index + 1) count; objects = p.objects ++ object ∷ [] }) []
