-- No log of a device is left out.
use Rattle.std.proofs.Common.{◌≡◌, ◌∙◌, ℕ, ◌+◌, ◌==◌, ◌&&◌, nat_le, Bool, true, false, if◌then◌else◌, List, [], ◌∷◌}
use Rattle.std.proofs.Common.{◌++◌, map, Option, None, Some, ap, sym, refl, subst, append-nil}
use Rattle.std.proofs.lemmas.Grind.{flat_map-append}
use Rattle.std.proofs.lemmas.List.{map-append}
use Rattle.bac_wire.specs.Primitive.{Id}
use Rattle.bac_wire.specs.Stamp.{CivilTime}
use Rattle.bac_wire.specs.declared.stamp.Date4.{Date4}
use Rattle.bac_link.specs.declared.exchanges.Verdict.{Verdict}
use Rattle.bac_walk.specs.declared.outcome.WalkFault.{WalkFault}
use Rattle.bac_walk.specs.declared.outcome.WalkFault.TheVariants as walk
use Rattle.bac_poll.specs.Turns.{Turned as LogTurned}
use Rattle.bac_poll_steps.specs.declared.turn.PollEnd.{PollEnd}
use Rattle.bac_device_poll.specs.Clock.{after_clock, after_date, clocks}
use Rattle.bac_device_poll.specs.Identity.{after_i_am, after_instance, after_name, met_as, whose}
use Rattle.bac_device_poll.specs.Laws.{added_by, added_in, at_stage, ended_by, ended_in, left, not_asked_by}
use Rattle.bac_device_poll.specs.Laws.{not_asked_in, waiting}
use Rattle.bac_device_poll.specs.Listing.{after_count, after_element, after_objects, are_same, listed, lists}
use Rattle.bac_device_poll.specs.Listing.{list_fault, may_differ, new_among, new_log, others_in, told_others, unlisted}
use Rattle.bac_device_poll.specs.Logs.{begins_with, halved, has_ended, left_behind, log_at}
use Rattle.bac_device_poll.specs.Logs.{polled_behind, stage_behind, with_log}
use Rattle.bac_device_poll.specs.Naming.{after_description, is_changed, is_other, names, names_next, names_with}
use Rattle.bac_device_poll.specs.Naming.{read_at, told_read, unnamed}
use Rattle.bac_device_poll.specs.Loss.{after_loss, is_last, loss_at, passed_over, unread}
use Rattle.bac_device_poll.specs.Poll.{Answers, after_revision}
use Rattle.bac_device_poll.specs.declared.poll.Known.{Known}
use Rattle.bac_device_poll.specs.Refusals.{is_too_long}
use Rattle.bac_device_poll.specs.Rejects.{after_reject, lost_log}
use Rattle.bac_device_poll.specs.State.{DeviceState, LogAs}
use Rattle.bac_device_poll.specs.Turns.{Turned, asks, leaves, not_asked}
use Rattle.bac_answers.specs.declared.entry.Entry.{Entry}
use Rattle.bac_answers.specs.declared.entry.Entry.TheVariants as entry
use Rattle.bac_device_poll.specs.Values.{number_of, value_by}
use Rattle.bac_answers.specs.declared.entry.Offset.{Offset}
use Rattle.bac_answers.specs.declared.entry.Others.{Others}
use Rattle.bac_answers.specs.declared.reject.NoRoute.{NoRoute}
use Rattle.bac_device_poll.specs.declared.stage.Stage.{Stage}
use Rattle.bac_device_poll.specs.declared.stage.Stage.TheVariants as stage
use Rattle.bac_device_poll.specs.declared.task.Polled.{Polled}
use Rattle.bac_device_poll.specs.declared.turn.DeviceEnd.{DeviceEnd}
use Rattle.bac_device_poll.specs.declared.turn.DeviceEnd.TheVariants.{Silent, Unreached}
use Rattle.bac_answers.specs.declared.who.Who.{Who}
use Rattle.bac_answers.specs.declared.who.Who.TheVariants as who
use Rattle.bac_answers.specs.declared.who.Whose.{Whose}
use Rattle.bac_answers.specs.declared.who.Whose.TheVariants as whose_is

-- ---- where none is polled

none_at : (s : Stage) → at_stage s None ≡ []
none_at stage.Instance = refl
none_at stage.IAm = refl
none_at stage.Name = refl
none_at stage.Restart = refl
none_at stage.Revision = refl
none_at stage.Date = refl
none_at (stage.Time date) = refl
none_at stage.Objects = refl
none_at stage.Count = refl
none_at (stage.Element index count) = refl
none_at (stage.LogName log) = refl
none_at (stage.Source log) = refl
none_at (stage.Units log) = refl
none_at (stage.Description log) = refl
none_at stage.Log = refl
none_at stage.Between = refl
none_at stage.Ended = refl

left_none : (p : DeviceState) → p.polled ≡ None → left p ≡ waiting p
left_none p none =
    ap (λ (q : Option Polled). at_stage p.stage q ++ waiting p) none ∙ ap (λ (l : List Id). l ++ waiting p) (none_at p.stage)

-- a log is polled at its stage, and before that none is; at the end none waits
abbrev pub IsApt : Stage → DeviceState → Type 0
IsApt stage.Log p = (q : Polled) × (p.polled ≡ Some q)
IsApt stage.Between p = Unit {0}
IsApt stage.Ended p = p.logs ≡ []
IsApt other p = p.polled ≡ None

-- none is left out: those whose poll ended, then those that are told as not asked and those that are still polled, are
-- those that were, with the new ones behind them
abbrev pub Accounts : DeviceState → Turned → Type 0
Accounts p t =
    ended_in t.log p.polled ++ (not_asked_in t.entries ++ left t.device) ≡ left p ++ added_in t.entries

-- what accounts for the logs of a device of which none was polled
pub record Goes (p : DeviceState) (t : Turned) : Type 0 where
  pub apt : IsApt t.device.stage t.device
  pub log : t.log ≡ None
  pub all : not_asked_in t.entries ++ left t.device ≡ waiting p ++ added_in t.entries

pub accounts : (p : DeviceState) (t : Turned) → p.polled ≡ None → Goes p t → Accounts p t
accounts p t none goes =
    ap (λ (l : Option LogTurned). ended_in l p.polled ++ (not_asked_in t.entries ++ left t.device)) goes.log
    ∙ goes.all ∙ ap (λ (l : List Id). l ++ added_in t.entries) (sym (left_none p none))

-- ---- entries that tell of no log

record IsQuiet (es : List Entry) : Type 0 where
  asked : not_asked_in es ≡ []
  old : added_in es ≡ []

quiet_if : (b : Bool) (revision : ℕ) → IsQuiet (if b then entry.Read revision ∷ [] else [])
quiet_if true revision = record { asked = refl; old = refl }
quiet_if false revision = record { asked = refl; old = refl }

quiet_at : (was now : Option ℕ) → IsQuiet (read_at was now)
quiet_at was None = record { asked = refl; old = refl }
quiet_at was (Some now) = quiet_if (is_other was now) now

quiet_read_if : (b : Bool) (es : List Entry) → IsQuiet es → IsQuiet (if b then es else [])
quiet_read_if true es quiet = quiet
quiet_read_if false es quiet = record { asked = refl; old = refl }

quiet_read : (p : DeviceState) → IsQuiet (told_read p)
quiet_read p = quiet_read_if p.read (read_at p.revision p.told.revision) (quiet_at p.revision p.told.revision)

-- ---- the next log

-- all else that is known of the device is as it was
abbrev pub IsAsItWas : DeviceState → DeviceState → Type 0
IsAsItWas p new = new ≡ record p {
  stage = new.stage;
  objects = new.objects;
  unnamed = new.unnamed;
  naming = new.naming;
  polled = new.polled;
  logs = new.logs;
}

-- these entries, and the logs that wait are still polled
pub record Stays (p : DeviceState) (es : List Entry) (t : Turned) : Type 0 where
  pub apt : p.polled ≡ None → IsApt t.device.stage t.device
  pub same : IsAsItWas p t.device
  pub log : t.log ≡ None
  pub left : left t.device ≡ waiting p
  pub asked : not_asked_in t.entries ≡ not_asked_in es
  pub added : added_in t.entries ≡ added_in es

pub begun : (p : DeviceState) (logs : List LogAs) (es : List Entry) → p.logs ≡ logs → Stays p es (begins_with p logs es)
begun p [] es is = record { apt = λ none. is; same = refl; log = refl; left = refl; asked = refl; added = refl }
begun p (task ∷ logs) es is = record {
  apt = λ none. (_, refl);
  same = refl;
  log = refl;
  left = ap (map (λ (t : LogAs). t.log)) (sym is);
  asked = refl;
  added = refl;
}

-- quiet entries behind others change nothing
behind : (p : DeviceState) (es more : List Entry) (t : Turned) → IsQuiet more → Stays p (es ++ more) t → Stays p es t
behind p es more t quiet stays = record {
  apt = stays.apt;
  same = stays.same;
  log = stays.log;
  left = stays.left;
  asked = stays.asked ∙ flat_map-append not_asked_by es more
      ∙ ap (λ (l : List Id). not_asked_in es ++ l) quiet.asked ∙ append-nil (not_asked_in es);
  added = stays.added ∙ flat_map-append added_by es more
      ∙ ap (λ (l : List Id). added_in es ++ l) quiet.old ∙ append-nil (added_in es);
}

pub named : (p : DeviceState) (logs : List Id) (es : List Entry) → Stays p es (names_with p logs es)
named p [] es = behind p es (told_read p) _ (quiet_read p) (begun p p.logs (es ++ told_read p) refl)
named p (log ∷ logs) es =
    record { apt = λ none. none; same = refl; log = refl; left = refl; asked = refl; added = refl }

-- the same device with other logs whose names are to be asked for
unnamed_as : (p : DeviceState) (logs : List Id) (es : List Entry) (t : Turned) → Stays (record p { unnamed = logs }) es t → Stays p es t
unnamed_as p logs es t stays = record {
  apt = stays.apt;
  same = stays.same;
  log = stays.log;
  left = stays.left;
  asked = stays.asked;
  added = stays.added;
}

named_if : (b : Bool) (p : DeviceState) (logs : List Id) (es : List Entry) →
    Stays p es (if b then names_next (record p { unnamed = logs }) es else names_next p es)
named_if true p logs es = unnamed_as p logs es _ (named (record p { unnamed = logs }) logs es)
named_if false p logs es = named p p.unnamed es

pub names_stay : (p : DeviceState) (es : List Entry) → Stays p es (names p es)
names_stay p es = named_if (is_changed p.revision p.told.revision) p (waiting p) es

lists_if : (b : Bool) (p : DeviceState) (es : List Entry) →
    Stays p es (if b then asks (record p { stage = stage.Objects }) es else names p es)
lists_if true p es =
    record { apt = λ none. none; same = refl; log = refl; left = refl; asked = refl; added = refl }
lists_if false p es = names_stay p es

pub lists_stay : (p : DeviceState) (es : List Entry) → Stays p es (lists p es)
lists_stay p es = lists_if (p.whole && may_differ p.revision p.told.revision) p es

clocks_if : (b : Bool) (p : DeviceState) →
    Stays p [] (if b then asks (record p { stage = stage.Date }) [] else lists p [])
clocks_if true p =
    record { apt = λ none. none; same = refl; log = refl; left = refl; asked = refl; added = refl }
clocks_if false p = lists_stay p []

pub clocks_stay : (p : DeviceState) → Stays p [] (clocks p)
clocks_stay p = clocks_if p.clock p

-- with quiet entries none is left out
goes_of : (p : DeviceState) (es : List Entry) (t : Turned) → IsQuiet es → Stays p es t → p.polled ≡ None → Goes p t
goes_of p es t quiet stays none = record {
  apt = stays.apt none;
  log = stays.log;
  all = ap (λ (l : List Id). l ++ left t.device) (stays.asked ∙ quiet.asked) ∙ stays.left
      ∙ sym (append-nil (waiting p)) ∙ ap (λ (l : List Id). waiting p ++ l) (sym (stays.added ∙ quiet.old));
}

nothing : IsQuiet []
nothing = record { asked = refl; old = refl }

-- ---- new logs

added_asked : (logs : List Id) → not_asked_in (map entry.Added logs) ≡ []
added_asked [] = refl
added_asked (log ∷ logs) = added_asked logs

added_all : (logs : List Id) → added_in (map entry.Added logs) ≡ logs
added_all [] = refl
added_all (log ∷ logs) = ap (λ (l : List Id). log ∷ l) (added_all logs)

new_all : (logs : List Id) → map (λ (t : LogAs). t.log) (map new_log logs) ≡ logs
new_all [] = refl
new_all (log ∷ logs) = ap (λ (l : List Id). log ∷ l) (new_all logs)

quiet_others : (b : Bool) (now : Others) → IsQuiet (if b then [] else entry.Others now ∷ [])
quiet_others true now = record { asked = refl; old = refl }
quiet_others false now = record { asked = refl; old = refl }

listed_goes : (p : DeviceState) (objects : List Id) → p.polled ≡ None → Goes p (listed p objects)
listed_goes p objects none =
    let new : List Id = new_among p.logs p.stopped objects in
    let es : List Entry = map entry.Added new in
    let more : List Entry = told_others p.others (others_in objects) in
    let q : DeviceState = record p { read = true; objects = []; unnamed = new; logs = p.logs ++ map new_log new } in
    let stays : Stays q es (names q (es ++ more)) = behind q es more _ (quiet_others (are_same p.others (others_in objects)) (others_in objects)) (names_stay q (es ++ more)) in
    let waits : waiting q ≡ waiting p ++ new = map-append (λ (t : LogAs). t.log) p.logs (map new_log new) ∙ ap (λ (l : List Id). waiting p ++ l) (new_all new) in
    let t : Turned = names q (es ++ more) in
    record {
      apt = stays.apt none;
      log = stays.log;
      all = ap (λ (l : List Id). l ++ left t.device) (stays.asked ∙ added_asked new) ∙ stays.left ∙ waits
          ∙ ap (λ (l : List Id). waiting p ++ l) (sym (stays.added ∙ added_all new));
    }

-- ---- a device that is left

pub not_asked_all : (logs : List LogAs) → not_asked_in (map not_asked logs) ≡ map (λ (t : LogAs). t.log) logs
not_asked_all [] = refl
not_asked_all (task ∷ logs) = ap (λ (l : List Id). task.log ∷ l) (not_asked_all logs)

pub not_asked_old : (logs : List LogAs) → added_in (map not_asked logs) ≡ []
not_asked_old [] = refl
not_asked_old (task ∷ logs) = not_asked_old logs

leaves_goes : (p : DeviceState) (es : List Entry) (why : DeviceEnd) → IsQuiet es → Goes p (leaves p es why)
leaves_goes p es why quiet = record {
  apt = refl;
  log = refl;
  all = append-nil _ ∙ flat_map-append not_asked_by es (map not_asked p.logs)
      ∙ ap (λ (l : List Id). l ++ not_asked_in (map not_asked p.logs)) quiet.asked ∙ not_asked_all p.logs
      ∙ sym (append-nil (waiting p))
      ∙ ap (λ (l : List Id). waiting p ++ l)
      (sym (flat_map-append added_by es (map not_asked p.logs) ∙ ap (λ (l : List Id). l ++ added_in (map not_asked p.logs)) quiet.old ∙ not_asked_old p.logs));
}

-- ---- who answers

asks_goes : (p q : DeviceState) (es : List Entry) → left q ≡ waiting p → IsApt q.stage q → IsQuiet es → Goes p (asks q es)
asks_goes p q es same apt quiet = record {
  apt = apt;
  log = refl;
  all = ap (λ (l : List Id). l ++ left q) quiet.asked ∙ same ∙ sym (append-nil (waiting p))
      ∙ ap (λ (l : List Id). waiting p ++ l) (sym quiet.old);
}

met_goes : (p : DeviceState) (w : Who) (is : Whose) → p.polled ≡ None → Goes p (met_as p w is)
met_goes p w whose_is.New none = asks_goes p _ (entry.Known w ∷ []) refl none (record { asked = refl; old = refl })
met_goes p w whose_is.Same none = asks_goes p _ [] refl none nothing
met_goes p w whose_is.Now none = asks_goes p _ (entry.KnownNow w ∷ []) refl none (record { asked = refl; old = refl })
met_goes p w whose_is.Another none = leaves_goes p (entry.Another w ∷ []) _ (record { asked = refl; old = refl })
met_goes p w whose_is.Untold none = leaves_goes p (entry.Untold ∷ []) _ (record { asked = refl; old = refl })

instance_goes : (p : DeviceState) (device : Option Id) → p.polled ≡ None → Goes p (after_instance p device)
instance_goes p None none = asks_goes p _ [] refl none nothing
instance_goes p (Some device) none = met_goes p (who.Device device) (whose p.who (who.Device device)) none

pub i_am_goes : (p : DeviceState) (device : Option Id) → p.polled ≡ None → Goes p (after_i_am p device)
i_am_goes p None none = asks_goes p _ [] refl none nothing
i_am_goes p (Some device) none = met_goes p (who.Device device) (whose p.who (who.Device device)) none

name_goes : (p : DeviceState) (name : Option (List ℕ)) → p.polled ≡ None → Goes p (after_name p name)
name_goes p None none = met_goes p who.Address (whose p.who who.Address) none
name_goes p (Some name) none = met_goes p (who.Name name) (whose p.who (who.Name name)) none

-- ---- its clock, its list and its logs' names

clock_goes : (p : DeviceState) (offset : Option Offset) → p.polled ≡ None → Goes p (after_clock p offset)
clock_goes p offset none = goes_of p (entry.Clock offset ∷ []) _ (record { asked = refl; old = refl }) (lists_stay p (entry.Clock offset ∷ [])) none

date_goes : (p : DeviceState) (date : Option Date4) → p.polled ≡ None → Goes p (after_date p date)
date_goes p None none = clock_goes p None none
date_goes p (Some date) none = asks_goes p _ [] refl none nothing

pub unlisted_stays : (p : DeviceState) (why : WalkFault) → Stays p (entry.Unlisted why ∷ []) (unlisted p why)
unlisted_stays p why =
    let es : List Entry = entry.Unlisted why ∷ [] in
    let stays : Stays (record p { objects = [] }) es (unlisted p why) = names_stay (record p { objects = [] }) es in
    record {
      apt = stays.apt;
      same = stays.same;
      log = stays.log;
      left = stays.left;
      asked = stays.asked;
      added = stays.added;
    }

unlisted_goes : (p : DeviceState) (why : WalkFault) → p.polled ≡ None → Goes p (unlisted p why)
unlisted_goes p why none =
    goes_of p (entry.Unlisted why ∷ []) _ (record { asked = refl; old = refl }) (unlisted_stays p why) none

long_goes : (b : Bool) (p : DeviceState) (why : WalkFault) → p.polled ≡ None →
    Goes p (if b then asks (record p { stage = stage.Count }) [] else unlisted p why)
long_goes true p why none = asks_goes p _ [] refl none nothing
long_goes false p why none = unlisted_goes p why none

objects_go : (p : DeviceState) (v : Verdict) (objects : Option (List Id)) → p.polled ≡ None → Goes p (after_objects p v objects)
objects_go p v None none = long_goes (is_too_long v) p (list_fault v) none
objects_go p v (Some objects) none = listed_goes p objects none

count_if : (b : Bool) (p : DeviceState) (count : ℕ) → p.polled ≡ None →
    Goes p (if b then listed p [] else asks (record p { stage = stage.Element 1 count; objects = [] }) [])
count_if true p count none = listed_goes p [] none
count_if false p count none = asks_goes p _ [] refl none nothing

count_goes : (p : DeviceState) (v : Verdict) (count : Option ℕ) → p.polled ≡ None → Goes p (after_count p v count)
count_goes p v None none = unlisted_goes p (list_fault v) none
count_goes p v (Some count) none = count_if (count == 0) p count none

element_if : (b : Bool) (p : DeviceState) (index count : ℕ) (objects : List Id) → p.polled ≡ None →
    Goes p (if b then listed p objects else asks (record p { stage = stage.Element index count; objects = objects }) [])
element_if true p index count objects none = listed_goes p objects none
element_if false p index count objects none = asks_goes p _ _ refl none nothing

element_goes : (p : DeviceState) (index count : ℕ) (v : Verdict) (object : Option Id) → p.polled ≡ None →
    Goes p (after_element p index count v object)
element_goes p index count v None none = unlisted_goes p (list_fault v) none
element_goes p index count v (Some object) none =
    element_if (nat_le count index) p (index + 1) count (p.objects ++ object ∷ []) none

description_goes : (p : DeviceState) (log : Id) (text : Option (List ℕ)) → p.polled ≡ None → Goes p (after_description p log text)
description_goes p log text none =
    let stays = named (record p { naming = unnamed }) p.unnamed (entry.Named log (record p.naming { description = text }) ∷ []) in
    record {
      apt = stays.apt none;
      log = stays.log;
      all = (goes_of (record p { naming = unnamed }) (entry.Named log (record p.naming { description = text }) ∷ []) _ (record { asked = refl; old = refl }) stays none).all;
    }

revision_goes : (p : DeviceState) (revision : Option ℕ) → p.polled ≡ None → Goes p (after_revision p revision)
revision_goes p revision none =
    let q : DeviceState = record p { told = record p.told { revision = revision } } in
    let goes : Goes q (clocks q) = goes_of q [] _ nothing (clocks_stay q) none in
    record { apt = goes.apt; log = goes.log; all = goes.all }

-- ---- all answers before its logs are polled

-- one that changes nothing
idle_goes : (p : DeviceState) → p.polled ≡ None → IsApt p.stage p → Goes p (asks p [])
idle_goes p none apt = asks_goes p p [] (left_none p none) apt nothing

pub answers_go : (p : DeviceState) (s : Stage) (v : Verdict) (datagram : List ℕ) (now : CivilTime) (t : Turned) →
    p.polled ≡ None → IsApt p.stage p → Answers p s v datagram now t → Goes p t
answers_go p stage.Instance v d now t none apt is = subst (Goes p) (sym is) (instance_goes p _ none)
answers_go p stage.IAm v d now t none apt is = subst (Goes p) (sym is) (idle_goes p none apt)
answers_go p stage.Name v d now t none apt is = subst (Goes p) (sym is.2) (name_goes p is.0 none)
answers_go p stage.Restart v d now t none apt is = subst (Goes p) (sym is) (asks_goes p _ [] refl none nothing)
answers_go p stage.Revision v d now t none apt is = subst (Goes p) (sym is) (revision_goes p (number_of (value_by v d)) none)
answers_go p stage.Date v d now t none apt is = subst (Goes p) (sym is) (date_goes p _ none)
answers_go p (stage.Time date) v d now t none apt is = subst (Goes p) (sym is.2) (clock_goes p is.0 none)
answers_go p stage.Objects v d now t none apt is = subst (Goes p) (sym is) (objects_go p v _ none)
answers_go p stage.Count v d now t none apt is = subst (Goes p) (sym is) (count_goes p v (number_of (value_by v d)) none)
answers_go p (stage.Element index count) v d now t none apt is = subst (Goes p) (sym is) (element_goes p index count v _ none)
answers_go p (stage.LogName log) v d now t none apt is = subst (Goes p) (sym is.2) (asks_goes p _ [] refl none nothing)
answers_go p (stage.Source log) v d now t none apt is = subst (Goes p) (sym is) (asks_goes p _ [] refl none nothing)
answers_go p (stage.Units log) v d now t none apt is = subst (Goes p) (sym is) (asks_goes p _ [] refl none nothing)
answers_go p (stage.Description log) v d now t none apt is = subst (Goes p) (sym is.2) (description_goes p log is.0 none)
answers_go p stage.Log v d now t none apt is =
    subst (Goes p) (sym is) (subst (λ (q : Option Polled). Goes p (log_at p q v d)) (sym none) (idle_goes p none apt))
answers_go p stage.Between v d now t none apt is = subst (Goes p) (sym is) (idle_goes p none apt)
answers_go p stage.Ended v d now t none apt is = subst (Goes p) (sym is) (idle_goes p none apt)

-- no answer
unread_goes : (p : DeviceState) (log : Id) → p.polled ≡ None → Goes p (after_description (unread p) log None)
unread_goes p log none =
    let goes : Goes (unread p) _ = description_goes (unread p) log None none in
    record { apt = goes.apt; log = goes.log; all = goes.all }

passed_goes : (s : Stage) (p : DeviceState) → p.polled ≡ None → Goes p (passed_over s p)
passed_goes stage.Instance p none = leaves_goes p [] _ nothing
passed_goes stage.IAm p none = leaves_goes p [] _ nothing
passed_goes stage.Name p none = leaves_goes p [] _ nothing
passed_goes stage.Restart p none = asks_goes p _ [] refl none nothing
passed_goes stage.Revision p none = revision_goes p None none
passed_goes stage.Date p none = date_goes p None none
passed_goes (stage.Time date) p none = clock_goes p None none
passed_goes stage.Objects p none = asks_goes p _ [] refl none nothing
passed_goes stage.Count p none = unlisted_goes p walk.Lost none
passed_goes (stage.Element index count) p none = unlisted_goes p walk.Lost none
passed_goes (stage.LogName log) p none = asks_goes p _ [] refl none nothing
passed_goes (stage.Source log) p none = unread_goes p log none
passed_goes (stage.Units log) p none = asks_goes p _ [] refl none nothing
passed_goes (stage.Description log) p none = unread_goes p log none
passed_goes stage.Log p none = leaves_goes p [] _ nothing
passed_goes stage.Between p none = leaves_goes p [] _ nothing
passed_goes stage.Ended p none = leaves_goes p [] _ nothing

doubted_goes : (b : Bool) (p : DeviceState) → p.polled ≡ None →
    Goes p (if b then leaves p [] Silent else passed_over p.stage (record p { doubt = true }))
doubted_goes true p none = leaves_goes p [] _ nothing
doubted_goes false p none =
    let goes : Goes (record p { doubt = true }) _ = passed_goes p.stage (record p { doubt = true }) none in
    record { apt = goes.apt; log = goes.log; all = goes.all }

pub loss_goes : (p : DeviceState) → p.polled ≡ None → Goes p (after_loss p)
loss_goes p none = subst (λ (q : Option Polled). Goes p (loss_at p q)) (sym none) (doubted_goes (is_last p) p none)

-- ---- while a log is polled

-- this accounts for the logs, with one that is polled or none
abbrev Polls : DeviceState → Option Polled → Stage → Turned → Type 0
Polls p o s t = ended_in t.log o ++ (not_asked_in t.entries ++ left t.device) ≡ (at_stage s o ++ waiting p) ++ added_in t.entries

goes_or_ends : (e : Bool) (r : Polled) (l : List Id) →
    ended_by e r.log ++ (at_stage (stage_behind e) (Some r) ++ l) ≡ r.log ∷ l
goes_or_ends false r l = refl
goes_or_ends true r l = refl

-- the same, and what is polled then
abbrev pub PollsOn : DeviceState → Option Polled → Stage → Turned → Type 0
PollsOn p o s t = Polls p o s t × IsApt t.device.stage t.device

apt_behind : (e : Bool) (p : DeviceState) (r : Polled) → p.polled ≡ Some r → IsApt (stage_behind e) p
apt_behind false p r is = (r, is)
apt_behind true p r is = tt

log_polls : (p : DeviceState) (q : Polled) (t : LogTurned) → PollsOn p (Some q) stage.Log (with_log p q t)
log_polls p q t = (
  goes_or_ends (has_ended t.end (left_behind q.left t.records)) (polled_behind q t) (waiting p) ∙ sym (append-nil (q.log ∷ waiting p)),
  apt_behind (has_ended t.end (left_behind q.left t.records)) (with_log p q t).device (polled_behind q t) refl,
)

halved_polls : (p : DeviceState) (q : Polled) → p.stage ≡ stage.Log → PollsOn p (Some q) stage.Log (halved p q)
halved_polls p q at =
    let d : DeviceState = (halved p q).device in (
      ap (λ (s : Stage). at_stage s d.polled ++ waiting p) at ∙ sym (append-nil (q.log ∷ waiting p)),
      subst (λ (s : Stage). IsApt s d) (sym at) (_, refl),
    )

pub answer_polls : (b : Bool) (p : DeviceState) (q : Polled) (t : LogTurned) → p.stage ≡ stage.Log →
    PollsOn p (Some q) stage.Log (if b then halved p q else with_log p q t)
answer_polls true p q t at = halved_polls p q at
answer_polls false p q t at = log_polls p q t

pub lost_if : (b : Bool) (p : DeviceState) (q : Polled) (t : LogTurned) (why : DeviceEnd) (e : PollEnd) → t.end ≡ Some e →
    PollsOn p (Some q) stage.Log (if b then record (leaves (record p { polled = Some q }) [] why) { log = Some t } else with_log (record p { doubt = true }) q t)
lost_if true p q t why e is = (
  ap (λ (o : Option PollEnd). ended_by (has_ended o (left_behind q.left t.records)) q.log ++ (not_asked_in (map not_asked p.logs) ++ [])) is
      ∙ ap (λ (l : List Id). q.log ∷ l) (append-nil _ ∙ not_asked_all p.logs)
      ∙ sym (append-nil (q.log ∷ waiting p)) ∙ ap (λ (l : List Id). (q.log ∷ waiting p) ++ l) (sym (not_asked_old p.logs)),
  refl,
)
lost_if false p q t why e is = log_polls (record p { doubt = true }) q t

-- ---- a router has no route to its network

-- nothing more is asked of it
pub rejected_goes : (p : DeviceState) (reject : NoRoute) → p.polled ≡ None → Goes p (after_reject p reject)
rejected_goes p reject none =
    let goes : Goes p _ = leaves_goes p (entry.Rejected reject ∷ []) Unreached (record { asked = refl; old = refl }) in
    record { apt = goes.apt; log = ap lost_log none; all = goes.all }

-- the log that is polled is lost with it
pub rejected_polls : (p : DeviceState) (q : Polled) (reject : NoRoute) →
    PollsOn p (Some q) stage.Log (record (leaves p (entry.Rejected reject ∷ []) Unreached) { log = lost_log (Some q) })
rejected_polls p q reject = (
  ap (λ (l : List Id). q.log ∷ l) (append-nil _ ∙ not_asked_all p.logs)
      ∙ sym (append-nil (q.log ∷ waiting p)) ∙ ap (λ (l : List Id). (q.log ∷ waiting p) ++ l) (sym (not_asked_old p.logs)),
  refl,
)
