-- Where no datagram comes no device is found.
use Rattle.std.proofs.Common.{◌≡◌, ◌∙◌, ℕ, Bool, true, false, List, [], ◌∷◌, Option, Some, None, Ok, Err, inl, inr, refl, sym, subst, append-nil}
use Rattle.std.specs.Io.KnownBytes.{Appends, Keeps}
use Rattle.bac_socket_notes.specs.Notes.{nothing as never_asked}
use Rattle.bac_socket_notes.specs.declared.notes.Passed.{Passed}
use Rattle.bac_query.specs.Announcements.{Announcement}
use Rattle.bac_query.specs.Finding.{Console, Finds, told_of}
use Rattle.bac_query.specs.Hearing.{Found, Held, PortRules, port_rules}
use Rattle.bac_query.specs.Requests.{who_is_octets}
use Rattle.bac_query.specs.Turns.{Along, Fails, IsLast, Turn, Sent, Received, came_in, has_device, lines_of}
use Rattle.bac_query.specs.declared.find_fault.FindFault.{FindFault}
use Rattle.bac_query.specs.declared.find_fault.FindFault.TheVariants as find
use Rattle.bac_query.specs.declared.search.Search.{Search}
use Rattle.bac_ports.specs.declared.port.Heard.{Heard}
use Rattle.bac_tools.specs.Faults.{unanswered}
use Rattle.bac_tools.specs.Finding.{of_found}
use Rattle.bac_tools.specs.declared.fault.Unanswered.{Unanswered}
use Rattle.bac_tools.specs.Run.{Runs}
use Rattle.bac_ports.specs.Sockets.{SocketRules}
use Rattle.bac_tools.specs.Streams.{Streams}
use Rattle.bac_tools.specs.declared.fault.Fault.TheVariants as fault
use Rattle.bac_tools_tests.proofs.Logged.{not_told}
use Rattle.bac_tools_tests.specs.Silence.{IsSilent, IsSilentWithin}
use Rattle.bac_wire.specs.Stamp.{CivilTime}
use Rattle.bac_command_line.specs.declared.job.Discovery.{Discovery}
use Rattle.bac_command_line.specs.declared.job.Job.TheVariants.{Wi}
use Rattle.bac_command_line.specs.declared.job.Stations.TheVariants.{Listed}

-- what is done at a silent port brings nothing
none_came : {P : Type 0} (rules : PortRules P) → IsSilent rules.receives → IsSilentWithin rules.receives_within → (octets : List ℕ)
    (turns : List Turn) (port new : P) → Along rules octets turns port new → came_in turns ≡ []
none_came rules silent still octets [] port new along = refl
none_came rules silent still octets (Sent address sent ∷ turns) port new along =
    none_came rules silent still octets turns along.0 new along.2
none_came rules silent still octets (Received wait (Err why) ∷ turns) port new along =
    none_came rules silent still octets turns along.0 new along.2
none_came rules silent still octets (Received None (Ok heard) ∷ turns) port new along =
    absurd (silent port along.0 heard along.1)
none_came rules silent still octets (Received (Some wait) (Ok heard) ∷ turns) port new along =
    absurd (still port along.0 wait heard along.1)

keeps_none : (old new : Held) → Appends old new [] → Keeps old new
keeps_none None new appends = tt
keeps_none (Some xs) None appends = absurd appends
keeps_none (Some xs) (Some ys) appends = appends ∙ append-nil xs

not_last : (said : Announcement) (came : List Heard) (old new : Held) → came ≡ [] → IsLast said came old new → ⊥
not_last said came old new none ([], last, is, says, more) = let e = sym none ∙ is in cc
not_last said came old new none (x ∷ earlier, last, is, says, more) = let e = sym none ∙ is in cc

failed : (came : List Heard) (old : Held) (why : FindFault) (new : Held) → came ≡ [] → Fails came old why new → Keeps old new
failed came old find.Socket new none fails =
    let P : List Heard → Type 0 = λ l. Appends old new (lines_of l) in keeps_none old new (subst P none fails)
failed came old find.Write new none (said, between, last, part) = absurd (not_last said came old between none last)
failed came old find.Memory new none (said, last) = absurd (not_last said came old new none last)
failed came old find.NoAnswer new none fails = absurd fails
failed came old (find.Refused address) new none fails = absurd fails

not_done : (left : ℕ) (refused : Option (List ℕ)) (taken : Bool) → taken ≡ false → told_of (Ok left) refused taken ≡ Ok tt → ⊥
not_done left (Some address) taken none is = cc
not_done left None true none is = cc
not_done left None false none is = cc

-- a search that was done found a device, and prints only what came
unfound : {P : Type 0} (rules : PortRules P) → IsSilent rules.receives → IsSilentWithin rules.receives_within → (limit : ℕ) (search : Search)
    (addresses : List (List ℕ)) (old : Console P) (found : Found) (new : Console P) →
    Finds rules limit search addresses old found new → (found ≡ Ok tt → ⊥) × Keeps old.held new.held
unfound rules silent still limit search addresses old found new (Ok left, then, seeks, (turns, along, comes), holds, is) =
    let none = none_came rules silent still (who_is_octets search) turns old.port new.port along in
    let T : List Heard → Type 0 = λ l. then.taken ≡ (has_device l) in
    let A : List Heard → Type 0 = λ l. Appends old.held then.held (lines_of l) in
    let K : Held → Type 0 = λ h. Keeps old.held h in (
      λ good. not_done left then.refused then.taken (subst T none comes.2) (sym is ∙ good),
      subst K (sym holds) (keeps_none old.held then.held (subst A none comes.3)),
    )
unfound rules silent still limit search addresses old found new (Err why, then, seeks, (turns, along, comes), holds, is) =
    let none = none_came rules silent still (who_is_octets search) turns old.port new.port along in
    let K : Held → Type 0 = λ h. Keeps old.held h in (
      λ good. (let e = sym is ∙ good in cc),
      subst K (sym holds) (failed (came_in turns) old.held why then.held none comes.2),
    )

found_end : (asked : Unanswered) (found : Found) (done : ℕ) → Ok done ≡ of_found asked found → (found ≡ Ok tt → ⊥) → ⊥
found_end asked (Ok tt) done is never = never refl
found_end asked (Err why) done is never = cc

pub no_wi : {S P C : Type 0} (rules : SocketRules S P) (passes : S → Passed) (tells : C → Option CivilTime → C → Type 0)
    (said : Discovery) (addresses : List (List ℕ)) (old new : Streams S C)
    (status : ℕ) → Runs rules passes tells (Wi (record said { stations = Listed addresses })) old status new → IsSilent rules.receives →
    IsSilentWithin rules.receives_within → (status ≡ 0 → ⊥) × Keeps old.output new.output
no_wi rules passes tells said addresses old new status (inl told) silent still =
    (λ none. not_told never_asked fault.Memory old.errors new.errors status told.0 none, told.1)
no_wi rules passes tells said addresses old new status (inr (Err why, told, ((kept, (inl (shut, opens, is_shut, closed))), quiet), ends)) silent still =
    (λ none. not_told (passes new.sockets) why told new.errors status ends none, closed)
no_wi rules passes tells said addresses old new status (inr (Ok done, told, ((kept, (inl (shut, opens, is_shut, closed))), quiet), ends)) silent still =
    absurd (let e = is_shut in cc)
no_wi rules passes tells said addresses old new status (inr (Err why, told, ((kept, (inr (port, between, last, opens, (found, finds, is), closes))), quiet), ends)) silent still =
    let both = unfound (port_rules rules.sends rules.receives rules.receives_within) silent still 4096 _ addresses _ found _ finds in
    (λ none. not_told (passes new.sockets) why told new.errors status ends none, both.1)
no_wi rules passes tells said addresses old new status (inr (Ok done, told, ((kept, (inr (port, between, last, opens, (found, finds, is), closes))), quiet), ends)) silent still =
    let both = unfound (port_rules rules.sends rules.receives rules.receives_within) silent still 4096 _ addresses _ found _ finds in
    absurd (found_end (unanswered said.local addresses) found done is both.0)
