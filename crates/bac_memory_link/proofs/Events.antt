-- What events keep of a device.
use Rattle.std.proofs.Common.{◌≡◌, inl, ℕ, Bool, true, false, nat_lt, if◌then◌else◌, List, [], ◌∷◌, Option, Some, None, Result, Ok, Err, refl, sym, ap, subst, ◌∙◌}
use Rattle.std.specs.Option.{unwrap_or}
use Rattle.bac_wire.specs.Stamp.{CivilTime, ticks_of}
use Rattle.bac_log.specs.TrendLog.{Log, empty_log}
use Rattle.bac_objects.specs.Sampling.{log_of, sampled, samples, ticked}
use Rattle.bac_objects.specs.State.{State}
use Rattle.bac_objects.specs.declared.sampling.SampleFault.{SampleFault}
use Rattle.bac_device.specs.Clock.{advanced}
use Rattle.bac_device.specs.Logs.{Keeps, StepsTo}
use Rattle.bac_device.proofs.Moves.{answers_keep, samples_keep, ticks_keep}
use Rattle.bac_memory_link.specs.Ahead.{log_with, IsThere}
use Rattle.bac_device.specs.Run.{after_clock, after_sample}
use Rattle.bac_memory_link.specs.Events.{happens, played}
use Rattle.bac_memory_link.specs.declared.event.LinkEvent.{LinkEvent}
use Rattle.bac_memory_link.specs.declared.event.LinkEvent.TheVariants.{Sample, Advance, Handle, Answer, Lose}

-- ---- one event

pub stays : (d : State) → Keeps d d
stays d = record { reply_size = refl; instance = refl; ids = refl; logs = λ n log e. (log, e, inl refl); lacks = λ n e. e; has = λ h. h }

sample_keeps : (d : State) (n : ℕ) (r : Result (ℕ × State) SampleFault) → sampled d n ≡ r → Keeps d (after_sample d r).1
sample_keeps d n (Ok said) e = samples_keep d n said e
sample_keeps d n (Err fault) e = stays d

advance_keeps : (d : State) (stamp : CivilTime) (back : Bool) → Keeps d (after_clock d (if back then None else Some (samples d stamp, ticked d stamp))).1
advance_keeps d stamp true = stays d
advance_keeps d stamp false = ticks_keep d stamp

advanced_keeps : (d : State) (stamp : CivilTime) → Keeps d (after_clock d (advanced d stamp)).1
unfolding advanced
advanced_keeps d stamp = advance_keeps d stamp (nat_lt (ticks_of stamp) (ticks_of d.clock))

pub event_keeps : (event : LinkEvent) (d : State) → Keeps d (happens event d)
event_keeps (Sample n) d = sample_keeps d n (sampled d n) refl
event_keeps (Advance stamp) d = advanced_keeps d stamp
event_keeps (Handle datagram) d = answers_keep d datagram
event_keeps Answer d = stays d
event_keeps Lose d = stays d

-- ---- one log

pub log_there : (d : State) (n : ℕ) (log : Log) → log_of d n ≡ Some log → log_with d n ≡ log
log_there d n log e = ap (λ (o : Option Log). unwrap_or o (empty_log 1 0)) e

log_missing : (d : State) (n : ℕ) → log_of d n ≡ None → log_with d n ≡ empty_log 1 0
log_missing d n e = ap (λ (o : Option Log). unwrap_or o (empty_log 1 0)) e

log_steps : (d new : State) (n : ℕ) (o : Option Log) → log_of d n ≡ o → Keeps d new → StepsTo (log_with d n) (log_with new n)
log_steps d new n (Some log) e k =
    let after = k.logs n log e in
    subst (λ (x : Log). StepsTo x (log_with new n)) (sym (log_there d n log e))
    (subst (λ (x : Log). StepsTo log x) (sym (log_there new n after.0 after.1)) after.2)
log_steps d new n None e k = inl (log_missing new n (k.lacks n e) ∙ sym (log_missing d n e))

pub event_steps : (event : LinkEvent) (d : State) (n : ℕ) → StepsTo (log_with d n) (log_with (happens event d) n)
event_steps event d n = log_steps d (happens event d) n (log_of d n) refl (event_keeps event d)

-- ---- events up to an answer

-- the device keeps its logs and its reply size, and gets no log
pub record Remains (d new : State) : Type 0 where
  pub reply_size : new.reply_size ≡ d.reply_size
  pub there : (n : ℕ) → IsThere d n → IsThere new n
  pub lacks : (n : ℕ) → log_of d n ≡ None → log_of new n ≡ None

remains_of : (d new : State) → Keeps d new → Remains d new
remains_of d new k = record {
  reply_size = k.reply_size;
  there = λ n h. let after = k.logs n h.0 h.1 in (after.0, after.1);
  lacks = k.lacks;
}

remains_on : (a b c : State) → Remains a b → Remains b c → Remains a c
remains_on a b c r s = record {
  reply_size = s.reply_size ∙ r.reply_size;
  there = λ n h. s.there n (r.there n h);
  lacks = λ n h. s.lacks n (r.lacks n h);
}

pub played_remains : (d : State) (events : List LinkEvent) → Remains d (played d events).device
played_remains d [] = remains_of d d (stays d)
played_remains d (Answer ∷ events) = remains_of d d (stays d)
played_remains d (Lose ∷ events) = remains_of d d (stays d)
played_remains d (Sample n ∷ events) = remains_on d _ _ (remains_of d _ (event_keeps (Sample n) d)) (played_remains (happens (Sample n) d) events)
played_remains d (Advance stamp ∷ events) = remains_on d _ _ (remains_of d _ (event_keeps (Advance stamp) d)) (played_remains (happens (Advance stamp) d) events)
played_remains d (Handle datagram ∷ events) = remains_on d _ _ (remains_of d _ (event_keeps (Handle datagram) d)) (played_remains (happens (Handle datagram) d) events)
