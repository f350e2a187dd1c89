-- A refusal ends what was asked, and nothing else.
use Rattle.std.proofs.Common.{◌≡◌, ◌∙◌, ℕ, ◌&&◌, nat_lt, Bool, true, false, if◌then◌else◌, List, [], ◌∷◌, ◌++◌}
use Rattle.std.proofs.Common.{MatchBool, Option, None, Some, ap, sym, refl, subst}
use Rattle.std.proofs.lemmas.Bool.{false≢true}
use Rattle.bac_wire.specs.Primitive.{Id}
use Rattle.bac_wire.specs.Stamp.{CivilTime}
use Rattle.bac_link.specs.declared.exchanges.Refusal.{Refusal}
use Rattle.bac_link.specs.declared.exchanges.Verdict.{Verdict}
use Rattle.bac_link.specs.declared.exchanges.Verdict.TheVariants.{Refused}
use Rattle.bac_poll.specs.State.{PollState, ToldAs}
use Rattle.bac_poll.specs.Turns.{ends}
use Rattle.bac_poll_steps.specs.declared.turn.PollEnd.TheVariants.{Fault}
use Rattle.bac_walk.specs.declared.outcome.WalkFault.{WalkFault}
use Rattle.bac_walk.specs.declared.outcome.WalkFault.TheVariants as walk
use Rattle.bac_device_poll.proofs.LeftOut.{Stays, clocks_stay, lists_stay, named, unlisted_stays}
use Rattle.bac_device_poll.specs.Clock.{after_clock}
use Rattle.bac_device_poll.specs.Identity.{after_name}
use Rattle.bac_device_poll.specs.Laws.{EndsLog, IsKnownStill, RefusalsEndOne, RefusedAt, StaysUnknown, added_in}
use Rattle.bac_device_poll.specs.Laws.{not_asked_in, unknown, untold}
use Rattle.bac_device_poll.specs.Listing.{unlisted}
use Rattle.bac_device_poll.specs.Logs.{begins_with, halved, is_records, is_too_many, log_after, log_at, read_as}
use Rattle.bac_device_poll.specs.Logs.{wanted_at, with_log, with_records}
use Rattle.bac_device_poll.specs.Naming.{after_description, names_with, told_read, unnamed}
use Rattle.bac_device_poll.specs.Poll.{Answers, answered, later}
use Rattle.bac_device_poll.specs.Refusals.{is_busy, is_long, is_passing}
use Rattle.bac_device_poll.specs.State.{DeviceState, LogAs}
use Rattle.bac_device_poll.specs.Turns.{Turned, asks}
use Rattle.bac_answers.specs.declared.entry.Entry.{Entry}
use Rattle.bac_answers.specs.declared.entry.Entry.TheVariants as entry
use Rattle.bac_answers.specs.declared.entry.Offset.{Offset}
use Rattle.bac_device_poll.specs.declared.logs.Wanted.{Wanted}
use Rattle.bac_device_poll.specs.declared.logs.Wanted.TheVariants.{Count, Records, Restart, Revision}
use Rattle.bac_device_poll.specs.declared.stage.Stage.{Stage}
use Rattle.bac_device_poll.specs.declared.stage.Stage.TheVariants as stage
use Rattle.bac_device_poll.specs.declared.task.Polled.{Polled}

-- ---- a property

-- what stays as it was, with entries that tell of no log
pub unknown_as : (s : Stage) (p : DeviceState) (es : List Entry) (t : Turned) → Stays (record p { told = untold s p.told }) es t →
    not_asked_in es ≡ [] → added_in es ≡ [] → IsKnownStill s (unknown s p.naming) t → StaysUnknown s p t
unknown_as s p es t stays asked added known = record {
  device = stays.same;
  naming = known;
  logs = stays.left;
  told = ap (λ (l : List Id). l ++ added_in t.entries) (stays.asked ∙ asked) ∙ stays.added ∙ added;
  records = stays.log;
}

pub clock_unknown : (s : Stage) (p : DeviceState) (offset : Option Offset) → untold s p.told ≡ p.told →
    IsKnownStill s (unknown s p.naming) (after_clock p offset) → StaysUnknown s p (after_clock p offset)
clock_unknown s p offset same known =
    unknown_as s p (entry.Clock offset ∷ []) _
    (subst (λ (x : ToldAs). Stays (record p { told = x }) (entry.Clock offset ∷ []) (after_clock p offset)) (sym same) (lists_stay p (entry.Clock offset ∷ [])))
    refl refl known

pub list_unknown : (s : Stage) (p : DeviceState) (why : WalkFault) → untold s p.told ≡ p.told →
    IsKnownStill s (unknown s p.naming) (unlisted p why) → StaysUnknown s p (unlisted p why)
list_unknown s p why same known =
    let es : List Entry = entry.Unlisted why ∷ [] in
    unknown_as s p es _ (subst (λ (x : ToldAs). Stays (record p { told = x }) es (unlisted p why)) (sym same) (unlisted_stays p why)) refl refl known

long_unknown : (b : Bool) (p : DeviceState) (why : WalkFault) →
    StaysUnknown stage.Objects p (if b then asks (record p { stage = stage.Count }) [] else unlisted p why)
long_unknown true p why = record { device = refl; naming = tt; logs = refl; told = refl; records = refl }
long_unknown false p why = list_unknown stage.Objects p why refl tt

-- the entries as the next log is begun
begun_with : (p : DeviceState) (logs : List LogAs) (es : List Entry) → (begins_with p logs es).entries ≡ es
begun_with p [] es = refl
begun_with p (task ∷ logs) es = refl

named_first : (p : DeviceState) (logs : List Id) (e : Entry) → (others : List Entry) × ((names_with p logs (e ∷ [])).entries ≡ e ∷ others)
named_first p [] e = (told_read p, begun_with p p.logs (e ∷ told_read p))
named_first p (log ∷ logs) e = ([], refl)

pub description_unknown : (p : DeviceState) (log : Id) →
    StaysUnknown (stage.Description log) p (names_with (record p { naming = unnamed }) p.unnamed (entry.Named log (record p.naming { description = None }) ∷ []))
description_unknown p log =
    let e : Entry = entry.Named log (record p.naming { description = None }) in
    let stays : Stays (record p { naming = unnamed }) (e ∷ []) _ = named (record p { naming = unnamed }) p.unnamed (e ∷ []) in
    record {
      device = stays.same;
      naming = named_first (record p { naming = unnamed }) p.unnamed e;
      logs = stays.left;
      told = ap (λ (l : List Id). l ++ added_in (names_with (record p { naming = unnamed }) p.unnamed (e ∷ [])).entries) stays.asked ∙ stays.added;
      records = stays.log;
    }

-- ---- a log

-- records that are refused end it, whether the refusal passes or not
by_records : (b : Bool) (w : Wanted) (q : PollState) (r : Refusal) (d : List ℕ) → is_records w ≡ true →
    (if b then with_records q (Refused r) d else read_as q w (Refused r) d) ≡ ends q (Fault (walk.Refused r))
by_records true w q r d is = refl
by_records false Records q r d is = refl
by_records false Count q r d is = absurd (false≢true is)
by_records false Revision q r d is = absurd (false≢true is)
by_records false Restart q r d is = absurd (false≢true is)

log_ends : (b : Bool) (p : DeviceState) (q : Polled) (r : Refusal) (d : List ℕ) → is_too_many q.poll (Refused r) ≡ b →
    EndsLog p q r (if b then halved p q else with_log p q (log_after q.poll (Refused r) d))
log_ends true p q r d is = record {
  device = refl;
  entries = refl;
  log = λ wanted not. absurd (false≢true (sym not ∙ is));
  fewer = λ many. refl;
}
log_ends false p q r d is = record {
  device = refl;
  entries = refl;
  log = λ wanted not. ap Some (by_records (is_passing r) (wanted_at q.poll.stage) q.poll r d wanted);
  fewer = λ many. absurd (false≢true (sym is ∙ many));
}

log_refused : (p : DeviceState) (q : Polled) (r : Refusal) (d : List ℕ) → p.polled ≡ Some q → EndsLog p q r (log_at p p.polled (Refused r) d)
log_refused p q r d is =
    subst (λ (o : Option Polled). EndsLog p q r (log_at p o (Refused r) d)) (sym is) (log_ends (is_too_many q.poll (Refused r)) p q r d refl)

-- ---- by what was asked

refused_at : (p : DeviceState) (s : Stage) (r : Refusal) (d : List ℕ) (now : CivilTime) (t : Turned) →
    Answers p s (Refused r) d now t → RefusedAt s p r t
refused_at p stage.Instance r d now t is = is
refused_at p stage.IAm r d now t is = tt
refused_at p stage.Name r d now t is = is.2 ∙ ap (after_name p) is.1
refused_at p stage.Restart r d now t is =
    subst (StaysUnknown stage.Restart p) (sym is) (record { device = refl; naming = tt; logs = refl; told = refl; records = refl })
refused_at p stage.Revision r d now t is =
    subst (StaysUnknown stage.Revision p) (sym is) (unknown_as stage.Revision p [] _ (clocks_stay (record p { told = record p.told { revision = None } })) refl refl tt)
refused_at p stage.Date r d now t is = subst (StaysUnknown stage.Date p) (sym is) (clock_unknown stage.Date p None refl tt)
refused_at p (stage.Time date) r d now t is =
    subst (StaysUnknown (stage.Time date) p) (sym is.2) (clock_unknown (stage.Time date) p is.0 refl tt)
refused_at p stage.Objects r d now t is = subst (StaysUnknown stage.Objects p) (sym is) (long_unknown (is_long r) p (walk.Refused r))
refused_at p stage.Count r d now t is = subst (StaysUnknown stage.Count p) (sym is) (list_unknown stage.Count p (walk.Refused r) refl tt)
refused_at p (stage.Element index count) r d now t is =
    subst (StaysUnknown (stage.Element index count) p) (sym is) (list_unknown (stage.Element index count) p (walk.Refused r) refl tt)
refused_at p (stage.LogName log) r d now t is =
    subst (StaysUnknown (stage.LogName log) p) (sym (is.2 ∙ ap (λ (x : Option (List ℕ)). asks (record p { stage = stage.Source log; naming = record p.naming { name = x } }) []) is.1))
    (record { device = refl; naming = refl; logs = refl; told = refl; records = refl })
refused_at p (stage.Source log) r d now t is =
    subst (StaysUnknown (stage.Source log) p) (sym is) (record { device = refl; naming = refl; logs = refl; told = refl; records = refl })
refused_at p (stage.Units log) r d now t is =
    subst (StaysUnknown (stage.Units log) p) (sym is) (record { device = refl; naming = refl; logs = refl; told = refl; records = refl })
refused_at p (stage.Description log) r d now t is =
    subst (StaysUnknown (stage.Description log) p) (sym (is.2 ∙ ap (λ (x : Option (List ℕ)). after_description p log x) is.1)) (description_unknown p log)
refused_at p stage.Log r d now t is = λ q polled. subst (EndsLog p q r) (sym is) (log_refused p q r d polled)
refused_at p stage.Between r d now t is = tt
refused_at p stage.Ended r d now t is = tt

-- or it passes
by_case : (A B C : Type 0) (b : Bool) → MatchBool b A B → (B → C) → MatchBool b A C
by_case A B C true m f = m
by_case A B C false m f = f m

pub refusals_end_one : RefusalsEndOne
refusals_end_one p r datagram now t is takes =
    by_case _ _ _ (is_passing r && nat_lt p.busy p.retries)
    (subst (λ (v : Verdict). MatchBool (is_busy v && nat_lt p.busy p.retries) (t ≡ later p) (Answers (answered p) p.stage v datagram now t)) is takes)
    (λ answers. refused_at (answered p) p.stage r datagram now t answers)
