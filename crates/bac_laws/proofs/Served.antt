-- What `bac serve` does, as the program: its device is that of the script on its input.
use Rattle.std.proofs.Common.{◌≡◌, ◌≢◌, ◌⊎◌, ℕ, true, false, List, [], Option, None, Some, Result, Ok, Err, inl, inr, refl, sym, subst, ap, ◌∙◌, append-nil, arith}
use Rattle.std.specs.Prelude.{Bool, length}
use Rattle.std.specs.Io.KnownBytes.{Keeps}
use Rattle.std.specs.Str.Lines.{lines}
use Rattle.bac_socket_notes.specs.Ports.{Event, came_in}
use Rattle.bac_socket_notes.specs.declared.notes.Passed.{Passed}
use Rattle.bac_laws.proofs.Captured.{captured_over, captured_unopened, nothing_captured}
use Rattle.bac_laws.proofs.Serves.{Over, served}
use Rattle.bac_laws.proofs.Statuses.{Ended, done_so, ended, failed, told_fails, told_memory}
use Rattle.bac_laws.specs.Events.{IsCaptured}
use Rattle.bac_laws.specs.Served.{AnswersOnly, Describes, IsThrough, IsUnserved, Replies, ServesDevice}
use Rattle.bac_objects.specs.Build.{build_fault, built}
use Rattle.bac_objects.specs.declared.build.BuildFault.{BuildFault}
use Rattle.bac_objects.specs.declared.lines.DeviceLine.{DeviceLine}
use Rattle.bac_objects.specs.declared.lines.ObjectLine.{ObjectLine}
use Rattle.bac_ports.specs.Sockets.{SocketRules}
use Rattle.bac_print.specs.Output.{Held}
use Rattle.bac_script.specs.Configuration.{Configures, Plan, plan_of}
use Rattle.bac_script.specs.declared.replay.fault.ReplayFault.{ReplayFault}
use Rattle.bac_script.specs.declared.replay.fault.ReplayFault.TheVariants as replay
use Rattle.bac_serve.specs.Serving.{Done, server}
use Rattle.bac_tools.specs.Ending.{Ending}
use Rattle.bac_tools.specs.Run.{Ends, IsTold}
use Rattle.bac_tools.specs.Serving as tool
use Rattle.bac_tools.specs.Status.{exit_status, script_status}
use Rattle.bac_tools.specs.Streams.{Streams}
use Rattle.bac_tools.specs.declared.fault.Fault.{Fault}
use Rattle.bac_tools.specs.declared.fault.Fault.TheVariants as fault
use Rattle.bac_wire.specs.Stamp.{CivilTime}
use Rattle.bac_command_line.specs.declared.job.ServedDevice.{ServedDevice}

-- ---- nothing is served

abbrev DescribesNone : List ℕ → Type 0
DescribesNone script = (device : DeviceLine) (objects : List ObjectLine) → Describes script device objects → ⊥

one : (script : List ℕ) (status : ℕ) → DescribesNone script → Ended 1 status → IsUnserved script status
one script status none (inl is) = inl (is, none)
one script status none (inr (more, five)) = inr (inr five)

two : (script : List ℕ) (status : ℕ) → Ended 2 status → IsUnserved script status
two script status (inl is) = inr (inl is)
two script status (inr (more, five)) = inr (inr five)

five : (script : List ℕ) (status : ℕ) → Ended 5 status → IsUnserved script status
five script status (inl is) = inr (inr is)
five script status (inr (more, is)) = inr (inr is)

abbrev has_plan : Result Plan ℕ → Bool
has_plan (Ok (Some plan)) = true
has_plan (Ok None) = false
has_plan (Err number) = false

abbrev fault_in : Option BuildFault → Result Plan ℕ → Option BuildFault
fault_in other (Ok (Some plan)) = build_fault plan.0 plan.1
fault_in other (Ok None) = other
fault_in other (Err number) = other

-- what is read isn't the plan of any device
unlike : (script : List ℕ) (other : Result Plan ℕ) → plan_of 1 None (lines script) ≡ other
    → ((device : DeviceLine) (objects : List ObjectLine) → other ≡ Ok (Some (device, objects)) → ⊥) → DescribesNone script
unlike script other is none = λ device objects so. none device objects (sym is ∙ so.1)

unread_by : (script : List ℕ) (left : Held) (why : ReplayFault) (status : ℕ) → Configures 1048576 (Some script) left (Err why)
    → Ended (script_status why) status → IsUnserved script status
unread_by script left (replay.BadLine number) status (fits, is) ends =
    one script status (unlike script (Err number) is (λ device objects so. absurd (let e : false ≡ true = ap has_plan so in cc))) ends
unread_by script left (replay.Build why) status (fits, is) ends = absurd is
unread_by script left replay.TooLong status is ends =
    one script status (λ device objects so. (let l = so.0 in absurd (omega (arith, is, l)))) ends
unread_by script left replay.Read status is ends = two script status ends
unread_by script left replay.Write status (fits, is) ends = absurd is
unread_by script left replay.Memory status is ends = five script status ends

unread : (script : List ℕ) (left : Held) (why : Fault) (status : ℕ) → tool.IsConfigured (Some script) left (Err why)
    → Ended (exit_status why) status → IsUnserved script status
unread script left fault.NotText status is ends = absurd is
unread script left (fault.BadValue word) status is ends = absurd is
unread script left (fault.LongNumber word) status is ends = absurd is
unread script left fault.OtherTool status is ends = absurd is
unread script left fault.NoDevice status (fits, is) ends =
    one script status (unlike script (Ok None) is (λ device objects so. absurd (let e : false ≡ true = ap has_plan so in cc))) ends
unread script left (fault.Script refused) status (is, explained) ends = unread_by script left refused.fault status is ends
unread script left (fault.Unopened why) status is ends = absurd is
unread script left fault.Socket status is ends = absurd is
unread script left (fault.Refused address) status is ends = absurd is
unread script left (fault.NoAnswer asked) status is ends = absurd is
unread script left (fault.List why) status is ends = absurd is
unread script left (fault.Exchange address why) status is ends = absurd is
unread script left (fault.Flawed flaw) status is ends = absurd is
unread script left (fault.Silent address) status is ends = absurd is
unread script left (fault.Declined refusal) status is ends = absurd is
unread script left fault.Clock status is ends = absurd is
unread script left fault.Write status is ends = absurd is
unread script left fault.Memory status is ends = absurd is

faulty_fault : (device : DeviceLine) (objects : List ObjectLine) (why : BuildFault) (script : List ℕ)
    → plan_of 1 None (lines script) ≡ Ok (Some (device, objects)) → build_fault device objects ≡ Some why → DescribesNone script
faulty_fault device objects why script plan faulty = λ other others so.
    let e : Some why ≡ None = sym faulty ∙ ap (fault_in (build_fault device objects)) (sym plan ∙ so.1) ∙ so.2 in
    absurd cc

unbuilt : (script : List ℕ) (input : Held) (device : DeviceLine) (objects : List ObjectLine) (why : Fault) (status : ℕ)
    → plan_of 1 None (lines script) ≡ Ok (Some (device, objects)) → tool.IsUnbuilt input device objects why → Ended (exit_status why) status
    → IsUnserved script status
unbuilt script input device objects why status plan (inl (none, is)) ends =
    five script status (subst (λ (f : Fault). Ended (exit_status f) status) is ends)
unbuilt script input device objects why status plan (inr (unfit, misfit, faulty, numbers, is)) ends =
    one script status (faulty_fault device objects unfit.misfit.fault script plan faulty) (subst (λ (f : Fault). Ended (exit_status f) status) is ends)

-- ---- it is served

two_or_five : (status : ℕ) → Ended 2 status → (status ≡ 2) ⊎ (status ≡ 5)
two_or_five status (inl is) = inl is
two_or_five status (inr (more, is)) = inr is

through : (said : ServedDevice) (passed : Passed) (es : List Event) (done : Done) (result : Ending) (told now : Held) (status : ℕ)
    → result ≡ tool.of_served done → Ends passed result told now status → (done ≡ Ok tt → length (came_in es) ≡ said.count)
    → Over es done → IsThrough said es status
through said passed es done result told now status is ends all (inl so) =
    inl (done_so passed result told now status (is ∙ ap tool.of_served so) ends, all so)
through said passed es done result told now status is ends all (inr ((why, so), cut)) =
    inr (two_or_five status (ended passed result fault.Socket told now status (is ∙ ap tool.of_served so) ends), cut)

of_zero : (passed : Passed) (done : Done) (result : Ending) (told now : Held) (status : ℕ) → result ≡ tool.of_served done
    → Ends passed result told now status → status ≡ 0 → done ≡ Ok tt
of_zero passed (Ok done) result told now status is ends none = refl
of_zero passed (Err why) result told now status is ends none = absurd (failed passed result fault.Socket told now status is ends none)

-- what is sent and what comes; and of a script that the input has, its device is served
abbrev pub Serving : ServedDevice → Held → List Event → Held → Held → ℕ → Type 0
Serving said input es before after status =
    AnswersOnly said es before after status × ((script : List ℕ) → input ≡ Some script → ServesDevice said script es status)

module _ {S P C : Type 0} (rules : SocketRules S P) (traces : S → Bool → S → Type 0) (tells : C → Option CivilTime → C → Type 0) where
  abbrev pub Served : ServedDevice → S → S → Held → Held → Held → ℕ → Type 0
  Served said old new input before after status =
      (es : List Event) × IsCaptured rules traces old new es × Serving said input es before after status

  nothing_served : (said : ServedDevice) (old new : S) (input before after : Held) (status : ℕ) → IsCaptured rules traces old new []
      → Keeps before after → status ≢ 0 → ((script : List ℕ) → input ≡ Some script → IsUnserved script status)
      → Served said old new input before after status
  nothing_served said old new input before after status same keeps more why =
      ([], same, ((tt, omega arith, (λ is. absurd (more is)), keeps), λ script there. inl (refl, why script there)))

  pub serve_nothing : (said : ServedDevice) (old new : S) (input before after errors now : Held) (status : ℕ) → new ≡ old
      → Keeps before after → IsTold fault.Memory errors now status → Served said old new input before after status
  serve_nothing said old new input before after errors now status same keeps told =
      nothing_served said old new input before after status (nothing_captured rules traces old new same) keeps
      (told_fails fault.Memory errors now status told) (λ script there. inr (inr (told_memory errors now status told)))

  pub serve : (passed : Passed) (said : ServedDevice) (old : Streams S C) (result : Ending) (new : Streams S C) (told now : Held) (status : ℕ)
      → tool.Serves rules tells said.address said.count old result new → Keeps old.output new.output → Ends passed result told now status
      → Served said old.sockets new.sockets old.input old.output new.output status
  serve passed said old result new told now status (inl (why, configured, is, (quiet, same))) keeps ends =
      nothing_served said old.sockets new.sockets old.input old.output new.output status (nothing_captured rules traces old.sockets new.sockets same) keeps
      (failed passed result why told now status is ends)
      (λ script there. unread script new.input why status
      (subst (λ (held : Held). tool.IsConfigured held new.input (Err why)) there configured) (ended passed result why told now status is ends))
  serve passed said old result new told now status (inr (c, configured, inl (why, unfit, is, (quiet, same)))) keeps ends =
      nothing_served said old.sockets new.sockets old.input old.output new.output status (nothing_captured rules traces old.sockets new.sockets same) keeps
      (failed passed result why told now status is ends)
      (λ script there. let plan = subst (λ (held : Held). Configures 1048576 held new.input (Ok (Some c))) there configured in
      unbuilt script old.input c.device c.objects.items why status plan.1 unfit (ended passed result why told now status is ends))
  serve passed said old result new told now status (inr (c, configured, inr (built_so, inl (is, (quiet, same))))) keeps ends =
      nothing_served said old.sockets new.sockets old.input old.output new.output status (nothing_captured rules traces old.sockets new.sockets same) keeps
      (failed passed result fault.Memory told now status is ends)
      (λ script there. five script status (ended passed result fault.Memory told now status is ends))
  serve passed said old result new told now status (inr (c, configured, inr (built_so, inr (inl (why, opens, is, quiet))))) keeps ends =
      nothing_served said old.sockets new.sockets old.input old.output new.output status
      (captured_unopened rules traces old.sockets new.sockets said.address (tool.wait_of c.objects.items) why opens) keeps
      (failed passed result (fault.Unopened why) told now status is ends)
      (λ script there. two script status (ended passed result (fault.Unopened why) told now status is ends))
  serve passed said old result new told now status
      (inr (c, configured, inr (built_so, inr (inr (port, between, last, opens, (done, after, line, serves, how), closes))))) keeps ends =
      let device = built c.device c.objects.items in
      let it = served rules tells said.count (server port device old.clock) done (server last after new.clock) serves in (
        it.0,
        captured_over rules traces it.0 old.sockets between new.sockets said.address (tool.wait_of c.objects.items) port last opens it.1 closes,
        (
          (it.2, it.3, (λ none. it.4 (of_zero passed done result told now status how ends none)), keeps),
          λ script there. let plan = subst (λ (held : Held). Configures 1048576 held new.input (Ok (Some c))) there configured in inr (
            c.device,
            c.objects.items,
            (plan.0, plan.1, built_so),
            subst (λ (es : List Event). Replies device None es) (append-nil it.0) (it.5 [] tt),
            through said passed it.0 done result told now status how ends it.4 it.6,
          ),
        ),
      )
