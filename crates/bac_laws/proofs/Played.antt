-- What `replay` prints, by what `run` does for its words.
use Rattle.std.proofs.Common.{◌≡◌, ◌⊎◌, ℕ, Bool, List, [], Option, None, Some, Result, Ok, Err, inl, inr, refl, sym, subst, ◌∙◌}
use Rattle.std.specs.Io.KnownBytes.{Appends, Keeps}
use Rattle.sqlite_disk.specs.declared.Disk as disk
use Rattle.sqlite_disk.specs.declared.start.Start as start
use Rattle.sqlite_wal.specs.Recovery.{Image}
use Rattle.bac_batch.specs.Batch.{Batched}
use Rattle.bac_drive.specs.Happens.{Acts}
use Rattle.bac_files.specs.Files.{FileOf}
use Rattle.bac_files.specs.Parts.{PartRules}
use Rattle.bac_socket_notes.specs.declared.notes.Passed.{Passed}
use Rattle.bac_laws.proofs.Statuses.{Ended, done_so, ended, failed, kept_none, same_keeps, told_fails, told_memory}
use Rattle.bac_laws.specs.Played.{PlaysScript, limit}
use Rattle.bac_ports.specs.Sockets.{SocketRules}
use Rattle.bac_print.specs.Output.{AppendsPart, Held}
use Rattle.bac_run.specs.Run.{RunsAll}
use Rattle.bac_run.specs.Setup.{Setup, with_sockets}
use Rattle.bac_script.proofs.EndLemmas.{Replays-unwritten}
use Rattle.bac_script.specs.Reason.{without_reason}
use Rattle.bac_script.specs.Replay.{Ends as EndsScript, Replays, fault_of_script, text_of}
use Rattle.bac_script.specs.declared.replay.fault.Refused.{Refused}
use Rattle.bac_script.specs.declared.replay.fault.ReplayFault.{ReplayFault}
use Rattle.bac_script.specs.declared.replay.fault.ReplayFault.TheVariants as replay
use Rattle.bac_site_poller.specs.Site.{SiteState}
use Rattle.bac_tools.specs.Ending.{Ending}
use Rattle.bac_tools.specs.Playing.{Plays, of_replay}
use Rattle.bac_tools.specs.Run.{Ends, IsTold, Runs}
use Rattle.bac_tools.specs.Status.{script_status}
use Rattle.bac_tools.specs.Streams.{Streams}
use Rattle.bac_tools.specs.declared.fault.Fault.TheVariants as fault
use Rattle.bac_wire.specs.Stamp.{CivilTime}
use Rattle.bac_command_line.specs.declared.job.Job.TheVariants as job

-- no memory to tell a fault is no fault of a script
not_five : (status : ℕ) → status ≡ 5 → status ≡ 1 → ⊥
not_five status five one = absurd (let e : 5 ≡ 1 = sym five ∙ one in cc)

-- the statuses that there are
abbrev Known : ℕ → Type 0
Known status = (status ≡ 0) ⊎ ((status ≡ 1) ⊎ ((status ≡ 2) ⊎ (status ≡ 5)))

known : (f : ReplayFault) (status : ℕ) → Ended (script_status f) status → Known status
known f status (inr (more, five)) = inr (inr (inr five))
known (replay.BadLine number) status (inl is) = inr (inl is)
known (replay.Build why) status (inl is) = inr (inl is)
known replay.TooLong status (inl is) = inr (inl is)
known replay.Read status (inl is) = inr (inr (inl is))
known replay.Write status (inl is) = inr (inr (inl is))
known replay.Memory status (inl is) = inr (inr (inr is))

-- ---- a script that the input has

front : (script : List ℕ) (left old new : Held) (r : Result (Unit {0}) ReplayFault) → Replays limit (Some script) left old new r
    → Replays limit (Some script) left old new (Err replay.Write)
front script left old new r is = Replays-unwritten limit (Some script) left old new new r is (same_keeps new new refl)

part : (script : List ℕ) (left old new : Held) (r : Result (Unit {0}) ReplayFault) → Replays limit (Some script) left old new r
    → AppendsPart old new (text_of limit script)
unfolding Replays EndsScript
part script left old new r is = front script left old new r is

whole : (script : List ℕ) (left old new : Held) (x : Unit {0}) → Replays limit (Some script) left old new (Ok x)
    → (fault_of_script limit script ≡ None) × Appends old new (text_of limit script)
unfolding Replays EndsScript
whole script left old new x is = is

faulty : (script : List ℕ) (left old new : Held) (f : ReplayFault) → Replays limit (Some script) left old new (Err f) → script_status f ≡ 1
    → (fault : ReplayFault) × (fault_of_script limit script ≡ Some fault) × Appends old new (text_of limit script)
unfolding Replays EndsScript
faulty script left old new (replay.BadLine number) (is, text) one = (replay.BadLine number, is, text)
faulty script left old new (replay.Build why) (is, text) one = (replay.Build why, is, text)
faulty script left old new replay.TooLong (long, is, text) one = (replay.TooLong, is, text)
faulty script left old new replay.Read is one = absurd (let e : 2 ≡ 1 = one in cc)
faulty script left old new replay.Write is one = absurd (let e : 2 ≡ 1 = one in cc)
faulty script left old new replay.Memory is one = absurd (let e : 5 ≡ 1 = one in cc)

-- nothing is printed, as there is no memory for the words
nothing : (script : List ℕ) (errors now before after : Held) (status : ℕ) → IsTold fault.Memory errors now status → Keeps before after
    → PlaysScript script before after status
nothing script errors now before after status told keeps = record {
  part = ([], text_of limit script, refl, kept_none before after keeps);
  done = λ zero. absurd (told_fails fault.Memory errors now status told zero);
  faulty = λ one. absurd (elim told [ inl is ↦ not_five status is.0 one | inr is ↦ not_five status is.0 one ]);
  other = inr (inr (inr (told_memory errors now status told)));
}

module _ (passed : Passed) (script : List ℕ) (left before after said now : Held) (status : ℕ) where
  done_if : (played : Result (Unit {0}) Refused) (result : Ending) → Replays limit (Some script) left before after (without_reason played)
      → result ≡ of_replay played → Ends passed result said now status → status ≡ 0
      → (fault_of_script limit script ≡ None) × Appends before after (text_of limit script)
  done_if (Ok x) result is how ends zero = whole script left before after x is
  done_if (Err refused) result is how ends zero = absurd (failed passed result (fault.Script refused) said now status how ends zero)

  by_ended : (refused : Refused) → Replays limit (Some script) left before after (Err refused.fault) → Ended (script_status refused.fault) status → status ≡ 1
      → (why : ReplayFault) × (fault_of_script limit script ≡ Some why) × Appends before after (text_of limit script)
  by_ended refused is (inl so) one = faulty script left before after refused.fault is (sym so ∙ one)
  by_ended refused is (inr (more, five)) one = absurd (not_five status five one)

  faulty_if : (played : Result (Unit {0}) Refused) (result : Ending) → Replays limit (Some script) left before after (without_reason played)
      → result ≡ of_replay played → Ends passed result said now status → status ≡ 1
      → (why : ReplayFault) × (fault_of_script limit script ≡ Some why) × Appends before after (text_of limit script)
  faulty_if (Ok x) result is how ends one = absurd (let e : 0 ≡ 1 = sym (done_so passed result said now status how ends) ∙ one in cc)
  faulty_if (Err refused) result is how ends one =
      by_ended refused is (ended passed result (fault.Script refused) said now status how ends) one

  known_by : (played : Result (Unit {0}) Refused) (result : Ending) → result ≡ of_replay played → Ends passed result said now status → Known status
  known_by (Ok x) result how ends = inl (done_so passed result said now status how ends)
  known_by (Err refused) result how ends = known refused.fault status (ended passed result (fault.Script refused) said now status how ends)

  plays : (input : Held) (result : Ending) → Plays input left before after result → input ≡ Some script → Ends passed result said now status
      → PlaysScript script before after status
  plays input result (played, is, explained, how) has ends =
      let it : Replays limit (Some script) left before after (without_reason played) =
      subst (λ (i : Held). Replays limit i left before after (without_reason played)) has is in
      record {
        part = part script left before after (without_reason played) it;
        done = λ zero. done_if played result it how ends zero;
        faulty = λ one. faulty_if played result it how ends one;
        other = known_by played result how ends;
      }

module _ {S P C W Q F G : Type 0} {s : start.Ghosts F} {t : start.Ghosts G} (rules : SocketRules S P) (acts : Acts (Batched SiteState) P W)
    (f : disk.Ghosts (FileOf s)) (file : Image) (g : disk.Ghosts (FileOf t)) (part : Image) (folders : PartRules Q) (passes : S → Passed)
    (tells : C → Option CivilTime → C → Type 0) (waits : W) (switches : S → Bool → S → Type 0) where
  runs : (script : List ℕ) (old : Streams S C) (status : ℕ) (new : Streams S C) → Runs rules passes tells job.Replay old status new
      → old.input ≡ Some script → PlaysScript script old.output new.output status
  runs script old status new (inl (told, keeps, untouched)) has = nothing script old.errors new.errors old.output new.output status told keeps
  runs script old status new (inr (result, said, (is, idle), ends)) has =
      plays (passes new.sockets) script new.input old.output new.output said new.errors status old.input result is has ends

  pub replay_ran : (script : List ℕ) (old : Setup S C Q s t) (status : ℕ) (new : Setup S C Q s t)
      → RunsAll rules acts f file g part folders passes tells waits switches job.Replay old status new → old.streams.input ≡ Some script
      → PlaysScript script old.streams.output new.streams.output status
  replay_ran script old status new (inl ((told, keeps, untouched), off)) has =
      nothing script old.streams.errors new.streams.errors old.streams.output new.streams.output status told keeps
  replay_ran script old status new (inr (sockets, switched, (ran, off))) has =
      runs script (with_sockets sockets old).streams status new.streams ran has

  pub replay_leaves : (old : Setup S C Q s t) (status : ℕ) (new : Setup S C Q s t)
      → RunsAll rules acts f file g part folders passes tells waits switches job.Replay old status new
      → (new.files ≡ old.files) × (new.folders ≡ old.folders)
  replay_leaves old status new (inl (told, off)) = (off.0.0, off.1)
  replay_leaves old status new (inr (sockets, switched, (ran, off))) = (off.0.0, off.1)
