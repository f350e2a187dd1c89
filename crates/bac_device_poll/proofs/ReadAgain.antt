-- Behind a question that isn't answered no revision is put on record.
use Rattle.std.proofs.Common.{◌≡◌, ◌∙◌, ◌⊎◌, ◌&&◌, ℕ, nat_lt, Bool, true, false, if◌then◌else◌, List, [], ◌∷◌, ◌++◌, map}
use Rattle.std.proofs.Common.{Option, None, Some, ap, ap₂, sym, refl, subst, append-nil, inl, inr}
use Rattle.std.proofs.lemmas.Grind.{flat_map-append}
use Rattle.std.specs.List.{flat_map}
use Rattle.bac_wire.specs.Primitive.{Id}
use Rattle.bac_wire.specs.Stamp.{CivilTime}
use Rattle.bac_link.specs.Datagrams.{apdu_in}
use Rattle.bac_link.specs.declared.exchanges.Verdict.{Verdict}
use Rattle.bac_walk.specs.declared.outcome.WalkFault.{WalkFault}
use Rattle.bac_walk.specs.declared.outcome.WalkFault.TheVariants as walk
use Rattle.bac_poll.specs.Turns.{Turned as LogTurned, ends}
use Rattle.bac_poll_steps.specs.declared.turn.PollEnd.TheVariants.{Fault}
use Rattle.bac_answers.specs.declared.entry.Entry.{Entry}
use Rattle.bac_answers.specs.declared.entry.Entry.TheVariants as entry
use Rattle.bac_device_poll.specs.Laws.{AsksAgain, ComesAt, IsHeard, IsListing, IsNaming, IsRejected, Runs, read_by, read_in}
use Rattle.bac_device_poll.specs.Listing.{unlisted}
use Rattle.bac_device_poll.specs.Logs.{begins_with, halved, has_ended, is_too_many, left_behind, log_after, log_at}
use Rattle.bac_device_poll.specs.Logs.{lost, stage_behind, with_log}
use Rattle.bac_device_poll.specs.Loss.{after_loss, is_last, loss_at, passed_over}
use Rattle.bac_device_poll.specs.Naming.{after_description, is_changed, names, names_next, names_with, read_at, told_read, unnamed}
use Rattle.bac_device_poll.specs.Poll.{Answers, Takes, answered, asked_of_device, later, verdict_to}
use Rattle.bac_device_poll.specs.Refusals.{is_busy}
use Rattle.bac_device_poll.specs.State.{DeviceState, LogAs}
use Rattle.bac_device_poll.specs.Turns.{Turned, asks, leaves, not_asked}
use Rattle.bac_device_poll.specs.declared.stage.Stage.{Stage}
use Rattle.bac_device_poll.specs.declared.stage.Stage.TheVariants as stage
use Rattle.bac_device_poll.specs.declared.task.Polled.{Polled}
use Rattle.bac_device_poll.specs.declared.turn.DeviceEnd.{DeviceEnd}
use Rattle.bac_device_poll.specs.declared.turn.DeviceEnd.TheVariants.{Silent}
use Rattle.bac_device_poll.proofs.LeftOutRuns.{matched}

-- the list isn't asked for any more
abbrev IsPast : Stage → Type 0
IsPast (stage.LogName log) = Unit {0}
IsPast (stage.Source log) = Unit {0}
IsPast (stage.Units log) = Unit {0}
IsPast (stage.Description log) = Unit {0}
IsPast stage.Log = Unit {0}
IsPast stage.Between = Unit {0}
IsPast stage.Ended = Unit {0}
IsPast other = ⊥

-- revisions of entries
abbrev of_entries : List Entry → List ℕ
of_entries entries = flat_map read_by entries

-- no revision is put, nor will one be
record Unread (t : Turned) : Type 0 where
  none : of_entries t.entries ≡ []
  read : t.device.read ≡ false
  past : IsPast t.device.stage

-- ---- the next log

begins_unread : (d : DeviceState) (logs : List LogAs) (es : List Entry) → of_entries es ≡ [] → d.read ≡ false → Unread (begins_with d logs es)
begins_unread d [] es none read = record { none = none; read = read; past = tt }
begins_unread d (task ∷ logs) es none read = record { none = none; read = read; past = tt }

told_none : (d : DeviceState) → d.read ≡ false → told_read d ≡ []
told_none d read = ap (λ (b : Bool). if b then read_at d.revision d.told.revision else []) read

named_unread : (d : DeviceState) (logs : List Id) (es : List Entry) → of_entries es ≡ [] → d.read ≡ false → Unread (names_with d logs es)
named_unread d [] es none read =
    begins_unread d d.logs (es ++ told_read d)
    (ap of_entries (ap (λ (l : List Entry). es ++ l) (told_none d read) ∙ append-nil es) ∙ none) read
named_unread d (log ∷ logs) es none read = record { none = none; read = read; past = tt }

names_if : (b : Bool) (d : DeviceState) (logs : List Id) (es : List Entry) → of_entries es ≡ [] → d.read ≡ false →
    Unread (if b then names_next (record d { unnamed = logs }) es else names_next d es)
names_if true d logs es none read = named_unread (record d { unnamed = logs }) logs es none read
names_if false d logs es none read = named_unread d d.unnamed es none read

names_unread : (d : DeviceState) (es : List Entry) → of_entries es ≡ [] → d.read ≡ false → Unread (names d es)
names_unread d es none read = names_if (is_changed d.revision d.told.revision) d (map (λ (t : LogAs). t.log) d.logs) es none read

unlisted_unread : (d : DeviceState) (why : WalkFault) → d.read ≡ false → Unread (unlisted d why)
unlisted_unread d why read = names_unread (record d { objects = [] }) (entry.Unlisted why ∷ []) refl read

description_unread : (d : DeviceState) (log : Id) (text : Option (List ℕ)) → d.read ≡ false → Unread (after_description d log text)
description_unread d log text read =
    named_unread (record d { naming = unnamed }) d.unnamed (entry.Named log (record d.naming { description = text }) ∷ []) refl read

-- ---- nothing more is asked

not_asked_none : (logs : List LogAs) → of_entries (map not_asked logs) ≡ []
not_asked_none [] = refl
not_asked_none (task ∷ logs) = not_asked_none logs

leaves_unread : (d : DeviceState) (why : DeviceEnd) → d.read ≡ false → Unread (leaves d [] why)
leaves_unread d why read = record { none = not_asked_none d.logs; read = read; past = tt }

-- ---- the log that is polled

past_behind : (ended : Bool) → IsPast (stage_behind ended)
past_behind true = tt
past_behind false = tt

turn_unread : (d : DeviceState) (q : Polled) (t : LogTurned) → d.read ≡ false → Unread (with_log d q t)
turn_unread d q t read = record { none = refl; read = read; past = past_behind (has_ended t.end (left_behind q.left t.records)) }

log_if : (b : Bool) (d : DeviceState) (q : Polled) (t : LogTurned) → d.read ≡ false → IsPast d.stage →
    Unread (if b then halved d q else with_log d q t)
log_if true d q t read past = record { none = refl; read = read; past = past }
log_if false d q t read past = turn_unread d q t read

log_unread : (d : DeviceState) (o : Option Polled) (v : Verdict) (datagram : List ℕ) → d.read ≡ false → IsPast d.stage → Unread (log_at d o v datagram)
log_unread d None v datagram read past = record { none = refl; read = read; past = past }
log_unread d (Some q) v datagram read past = log_if (is_too_many q.poll v) d q (log_after q.poll v datagram) read past

lost_if : (b : Bool) (d : DeviceState) (q : Polled) (t : LogTurned) → d.read ≡ false →
    Unread (if b then record (leaves (record d { polled = Some q }) [] Silent) { log = Some t } else with_log (record d { doubt = true }) q t)
lost_if true d q t read = record { none = not_asked_none d.logs; read = read; past = tt }
lost_if false d q t read = turn_unread (record d { doubt = true }) q t read

-- ---- no answer

passed_unread : (s : Stage) (d : DeviceState) → IsPast s → d.read ≡ false → Unread (passed_over s d)
passed_unread (stage.LogName log) d past read = record { none = refl; read = refl; past = tt }
passed_unread (stage.Source log) d past read = description_unread (record d { read = false }) log None refl
passed_unread (stage.Units log) d past read = record { none = refl; read = refl; past = tt }
passed_unread (stage.Description log) d past read = description_unread (record d { read = false }) log None refl
passed_unread stage.Log d past read = leaves_unread d Silent read
passed_unread stage.Between d past read = leaves_unread d Silent read
passed_unread stage.Ended d past read = leaves_unread d Silent read
passed_unread stage.Instance d past read = absurd past
passed_unread stage.IAm d past read = absurd past
passed_unread stage.Name d past read = absurd past
passed_unread stage.Restart d past read = absurd past
passed_unread stage.Revision d past read = absurd past
passed_unread stage.Date d past read = absurd past
passed_unread (stage.Time date) d past read = absurd past
passed_unread stage.Objects d past read = absurd past
passed_unread stage.Count d past read = absurd past
passed_unread (stage.Element index count) d past read = absurd past

silent_if : (b : Bool) (d : DeviceState) → d.read ≡ false → Unread (passed_over d.stage (record d { doubt = true })) →
    Unread (if b then leaves d [] Silent else passed_over d.stage (record d { doubt = true }))
silent_if true d read on = leaves_unread d Silent read
silent_if false d read on = on

lost_unread : (d : DeviceState) (o : Option Polled) → d.read ≡ false → IsPast d.stage → Unread (loss_at d o)
lost_unread d None read past = silent_if (is_last d) d read (passed_unread d.stage (record d { doubt = true }) past read)
lost_unread d (Some q) read past = lost_if d.doubt d q (ends q.poll (Fault walk.Lost)) read

-- ---- whatever comes

answer_unread : (s : Stage) (d : DeviceState) (v : Verdict) (datagram : List ℕ) (now : CivilTime) (t : Turned) → IsPast s → IsPast d.stage → d.read ≡ false →
    Answers d s v datagram now t → Unread t
answer_unread (stage.LogName log) d v datagram now t at past read is = subst Unread (sym is.2) (record { none = refl; read = read; past = tt })
answer_unread (stage.Source log) d v datagram now t at past read is = subst Unread (sym is) (record { none = refl; read = read; past = tt })
answer_unread (stage.Units log) d v datagram now t at past read is = subst Unread (sym is) (record { none = refl; read = read; past = tt })
answer_unread (stage.Description log) d v datagram now t at past read is = subst Unread (sym is.2) (description_unread d log is.0 read)
answer_unread stage.Log d v datagram now t at past read is = subst Unread (sym is) (log_unread d d.polled v datagram read past)
answer_unread stage.Between d v datagram now t at past read is = subst Unread (sym is) (record { none = refl; read = read; past = past })
answer_unread stage.Ended d v datagram now t at past read is = subst Unread (sym is) (record { none = refl; read = read; past = past })
answer_unread stage.Instance d v datagram now t at past read is = absurd at
answer_unread stage.IAm d v datagram now t at past read is = absurd at
answer_unread stage.Name d v datagram now t at past read is = absurd at
answer_unread stage.Restart d v datagram now t at past read is = absurd at
answer_unread stage.Revision d v datagram now t at past read is = absurd at
answer_unread stage.Date d v datagram now t at past read is = absurd at
answer_unread (stage.Time date) d v datagram now t at past read is = absurd at
answer_unread stage.Objects d v datagram now t at past read is = absurd at
answer_unread stage.Count d v datagram now t at past read is = absurd at
answer_unread (stage.Element index count) d v datagram now t at past read is = absurd at

comes_unread : (d : DeviceState) (t : Turned) → IsPast d.stage → d.read ≡ false → IsHeard d t ⊎ IsRejected d t → Unread t
comes_unread d t past read (inl (inl came)) =
    let v : Verdict = verdict_to (asked_of_device d) (apdu_in came.0) in
    matched (is_busy v && nat_lt d.busy d.retries) came.2
    (λ same. subst Unread (sym same) (record { none = refl; read = read; past = past }))
    (λ same. answer_unread d.stage (answered d) v came.0 came.1 t past past read same)
comes_unread d t past read (inl (inr lost)) = subst Unread (sym lost) (lost_unread d d.polled read past)
comes_unread d t past read (inr rejected) =
    subst Unread (sym rejected.1) (record { none = not_asked_none d.logs; read = read; past = tt })

step_unread : (s : Stage) (d : DeviceState) (t : Turned) → IsPast s → IsPast d.stage → d.read ≡ false → ComesAt s d t → Unread t
step_unread (stage.LogName log) d t at past read comes = comes_unread d t past read comes
step_unread (stage.Source log) d t at past read comes = comes_unread d t past read comes
step_unread (stage.Units log) d t at past read comes = comes_unread d t past read comes
step_unread (stage.Description log) d t at past read comes = comes_unread d t past read comes
step_unread stage.Log d t at past read comes = comes_unread d t past read comes
step_unread stage.Between d t at past read comes = subst Unread (sym comes) (begins_unread d d.logs [] refl read)
step_unread stage.Ended d t at past read comes = absurd comes
step_unread stage.Instance d t at past read comes = absurd at
step_unread stage.IAm d t at past read comes = absurd at
step_unread stage.Name d t at past read comes = absurd at
step_unread stage.Restart d t at past read comes = absurd at
step_unread stage.Revision d t at past read comes = absurd at
step_unread stage.Date d t at past read comes = absurd at
step_unread (stage.Time date) d t at past read comes = absurd at
step_unread stage.Objects d t at past read comes = absurd at
step_unread stage.Count d t at past read comes = absurd at
step_unread (stage.Element index count) d t at past read comes = absurd at

-- ---- a run

none_read : (d : DeviceState) (turns : List Turned) → IsPast d.stage → d.read ≡ false → Runs d turns → read_in turns ≡ []
none_read d [] past read run = refl
none_read d (t ∷ turns) past read run =
    let u : Unread t = step_unread d.stage d t past past read run.0 in
    ap₂ (λ (a b : List ℕ). a ++ b) u.none (none_read t.device turns u.past u.read run.1)

-- the question that isn't answered
naming_unread : (s : Stage) (d : DeviceState) → IsNaming s → Unread (passed_over s d)
naming_unread (stage.LogName log) d naming = record { none = refl; read = refl; past = tt }
naming_unread (stage.Source log) d naming = description_unread (record d { read = false }) log None refl
naming_unread (stage.Units log) d naming = record { none = refl; read = refl; past = tt }
naming_unread (stage.Description log) d naming = description_unread (record d { read = false }) log None refl
naming_unread stage.Instance d naming = absurd naming
naming_unread stage.IAm d naming = absurd naming
naming_unread stage.Name d naming = absurd naming
naming_unread stage.Restart d naming = absurd naming
naming_unread stage.Revision d naming = absurd naming
naming_unread stage.Date d naming = absurd naming
naming_unread (stage.Time date) d naming = absurd naming
naming_unread stage.Objects d naming = absurd naming
naming_unread stage.Count d naming = absurd naming
naming_unread (stage.Element index count) d naming = absurd naming
naming_unread stage.Log d naming = absurd naming
naming_unread stage.Between d naming = absurd naming
naming_unread stage.Ended d naming = absurd naming

listing_unread : (s : Stage) (d : DeviceState) → IsListing s → d.read ≡ false → Unread (passed_over s d)
listing_unread stage.Count d listing read = unlisted_unread d walk.Lost read
listing_unread (stage.Element index count) d listing read = unlisted_unread d walk.Lost read
listing_unread (stage.LogName log) d listing read = absurd listing
listing_unread (stage.Source log) d listing read = absurd listing
listing_unread (stage.Units log) d listing read = absurd listing
listing_unread (stage.Description log) d listing read = absurd listing
listing_unread stage.Instance d listing read = absurd listing
listing_unread stage.IAm d listing read = absurd listing
listing_unread stage.Name d listing read = absurd listing
listing_unread stage.Restart d listing read = absurd listing
listing_unread stage.Revision d listing read = absurd listing
listing_unread stage.Date d listing read = absurd listing
listing_unread (stage.Time date) d listing read = absurd listing
listing_unread stage.Objects d listing read = absurd listing
listing_unread stage.Log d listing read = absurd listing
listing_unread stage.Between d listing read = absurd listing
listing_unread stage.Ended d listing read = absurd listing

by_asked : (p : DeviceState) → IsNaming p.stage ⊎ (IsListing p.stage × (p.read ≡ false)) → Unread (passed_over p.stage (record p { doubt = true }))
by_asked p (inl naming) = naming_unread p.stage (record p { doubt = true }) naming
by_asked p (inr listing) = listing_unread p.stage (record p { doubt = true }) listing.0 listing.1

-- the run behind it: nothing is asked where the device is silent
behind_none : (b : Bool) (p : DeviceState) (turns : List Turned) → Unread (passed_over p.stage (record p { doubt = true })) →
    Runs (if b then leaves p [] Silent else passed_over p.stage (record p { doubt = true })).device turns →
    read_in ((if b then leaves p [] Silent else passed_over p.stage (record p { doubt = true })) ∷ turns) ≡ []
behind_none true p [] on run = ap (λ (l : List ℕ). l ++ []) (not_asked_none p.logs)
behind_none true p (t ∷ turns) on run = absurd run.0
behind_none false p turns on run = ap₂ (λ (a b : List ℕ). a ++ b) on.none (none_read _ turns on.past on.read run)

pub asks_again : AsksAgain
asks_again p turns none asked run =
    subst (λ (o : Option Polled). Runs (loss_at p o).device turns → read_in (loss_at p o ∷ turns) ≡ []) (sym none)
    (behind_none (is_last p) p turns (by_asked p asked)) run
