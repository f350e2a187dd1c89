-- What `run` does for the words of a tool, as events.
use Rattle.std.proofs.Common.{◌≡◌, ◌≢◌, ℕ, Bool, List, [], Option, inl, inr, refl}
use Rattle.sqlite_disk.specs.declared.Disk as disk
use Rattle.sqlite_disk.specs.declared.start.Start as start
use Rattle.sqlite_wal.specs.Recovery.{Image}
use Rattle.bac_batch.specs.Batch.{Batched}
use Rattle.bac_drive.specs.Happens.{Acts}
use Rattle.bac_files.specs.Files.{FileOf}
use Rattle.bac_files.specs.Parts.{PartRules}
use Rattle.bac_socket_notes.specs.Ports.{Event}
use Rattle.bac_socket_notes.specs.declared.notes.Passed.{Passed}
use Rattle.bac_laws.proofs.Captured.{captured_behind, nothing_captured}
use Rattle.bac_laws.proofs.Few.{Few, few_none, said_few}
use Rattle.bac_laws.proofs.Finds.{wi, wi_nothing}
use Rattle.bac_laws.proofs.Listed.{Listed, logs, logs_nothing}
use Rattle.bac_laws.proofs.Once.{rp_all, wp}
use Rattle.bac_laws.proofs.Served.{Serving, serve, serve_nothing}
use Rattle.bac_laws.proofs.Statuses.{told_fails, unasked_memory}
use Rattle.bac_laws.specs.Asked.{PrintsWhatCame, ReadsOnce, WritesOnce}
use Rattle.bac_laws.specs.Events.{IsCaptured}
use Rattle.bac_laws.specs.Found.{FindsWhatCame}
use Rattle.bac_ports.specs.Sockets.{SocketRules}
use Rattle.bac_print.specs.Output.{Held}
use Rattle.bac_run.specs.Run.{RunsAll}
use Rattle.bac_run.specs.Setup.{Setup, with_sockets}
use Rattle.bac_site_poller.specs.Site.{SiteState}
use Rattle.bac_tools.specs.Run.{Runs}
use Rattle.bac_tools.specs.Streams.{Streams, outlets_of, outside_of, pipes_of, with_errors}
use Rattle.bac_tools.specs.declared.fault.Fault.TheVariants as fault
use Rattle.bac_wire.specs.Stamp.{CivilTime}
use Rattle.bac_command_line.specs.Jobs.{is_traced}
use Rattle.bac_command_line.specs.declared.job.Discovery.{Discovery}
use Rattle.bac_command_line.specs.declared.job.Job.{Job}
use Rattle.bac_command_line.specs.declared.job.Job.TheVariants as job
use Rattle.bac_command_line.specs.declared.job.LogListing.{LogListing}
use Rattle.bac_command_line.specs.declared.job.LogReading.{LogReading}
use Rattle.bac_command_line.specs.declared.job.PropertyReading.{PropertyReading}
use Rattle.bac_command_line.specs.declared.job.PropertyWriting.{PropertyWriting}
use Rattle.bac_command_line.specs.declared.job.ServedDevice.{ServedDevice}

module _ {S P : Type 0} (rules : SocketRules S P) (switches : S → Bool → S → Type 0) where
  -- what a tool does over its sockets and its output, and how it ends
  abbrev Of : (List Event → Held → Held → ℕ → Type 0) → S → S → Held → Held → ℕ → Type 0
  Of law old new before after status = (es : List Event) × IsCaptured rules switches old new es × law es before after status

  module _ {C : Type 0} (passes : S → Passed) (tells : C → Option CivilTime → C → Type 0) where
    wp_runs : (said : PropertyWriting) (old : Streams S C) (status : ℕ) (new : Streams S C) → Runs rules passes tells (job.Wp said) old status new
        → Of (WritesOnce said) old.sockets new.sockets old.output new.output status
    wp_runs said old status new (inl (told, keeps, (input, same, clock))) =
        ([], nothing_captured rules switches old.sockets new.sockets same, inl (refl, keeps, unasked_memory old.errors new.errors status told))
    wp_runs said old status new (inr (result, errors, (is, quiet, unread), ends)) =
        wp rules switches said (passes new.sockets) (outside_of old) result (outside_of (with_errors errors new)) errors new.errors status is ends

    rp_runs : (said : PropertyReading) (old : Streams S C) (status : ℕ) (new : Streams S C) → Runs rules passes tells (job.Rp said) old status new
        → Of (λ es before after status. ReadsOnce said es before after status × (status ≡ 0 → PrintsWhatCame said es before after))
        old.sockets new.sockets old.output new.output status
    rp_runs said old status new (inl (told, keeps, (input, same, clock))) =
        let more = told_fails fault.Memory old.errors new.errors status told in
        ([], nothing_captured rules switches old.sockets new.sockets same, (inl (refl, keeps, unasked_memory old.errors new.errors status told), λ is. absurd (more is)))
    rp_runs said old status new (inr (result, errors, (is, quiet, unread), ends)) =
        rp_all rules switches said (passes new.sockets) (outside_of old) result (outside_of (with_errors errors new)) errors new.errors status is ends

    wi_runs : (said : Discovery) (old : Streams S C) (status : ℕ) (new : Streams S C) → Runs rules passes tells (job.Wi said) old status new
        → Of (FindsWhatCame said) old.sockets new.sockets old.output new.output status
    wi_runs said old status new (inl (told, keeps, (input, same, clock))) = (
      [],
      nothing_captured rules switches old.sockets new.sockets same,
      wi_nothing rules switches said old.output new.output status keeps (told_fails fault.Memory old.errors new.errors status told),
    )
    wi_runs said old status new (inr (result, errors, (is, quiet), ends)) =
        wi rules switches (passes new.sockets) said (pipes_of old) result (pipes_of (with_errors errors new)) errors new.errors status is ends

    serve_runs : (said : ServedDevice) (old : Streams S C) (status : ℕ) (new : Streams S C) → Runs rules passes tells (job.Serve said) old status new
        → Of (Serving said old.input) old.sockets new.sockets old.output new.output status
    serve_runs said old status new (inl (told, keeps, (input, same, clock))) =
        serve_nothing rules switches tells said old.sockets new.sockets old.input old.output new.output old.errors new.errors status same keeps told
    serve_runs said old status new (inr (result, errors, (is, keeps), ends)) =
        serve rules switches tells (passes new.sockets) said old result (with_errors errors new) errors new.errors status is keeps ends

    log_runs : (said : LogReading) (old : Streams S C) (status : ℕ) (new : Streams S C) → Runs rules passes tells (job.Log said) old status new
        → Few rules switches said old.sockets new.sockets
    log_runs said old status new (inl (told, keeps, (input, same, clock))) = few_none rules switches said old.sockets new.sockets same
    log_runs said old status new (inr (result, errors, (is, quiet, unread), ends)) =
        said_few rules switches said (outlets_of old) result (outlets_of (with_errors errors new)) is

    logs_runs : (said : LogListing) → said.instances ≢ [] → (old : Streams S C) (status : ℕ) (new : Streams S C)
        → Runs rules passes tells (job.Logs said) old status new → Listed rules switches said old.sockets new.sockets old.output new.output status
    logs_runs said named old status new (inl (told, keeps, (input, same, clock))) =
        logs_nothing rules switches said old.sockets new.sockets old.output new.output status same keeps (unasked_memory old.errors new.errors status told)
    logs_runs said named old status new (inr (result, errors, (is, quiet, unread), ends)) =
        logs rules switches said named (passes new.sockets) (outside_of old) result (outside_of (with_errors errors new)) errors new.errors status is ends

module _ {S P C W Q F G : Type 0} {s : start.Ghosts F} {t : start.Ghosts G} (rules : SocketRules S P) (acts : Acts (Batched SiteState) P W)
    (f : disk.Ghosts (FileOf s)) (file : Image) (g : disk.Ghosts (FileOf t)) (part : Image) (folders : PartRules Q) (passes : S → Passed)
    (tells : C → Option CivilTime → C → Type 0) (waits : W) (switches : S → Bool → S → Type 0) where
  abbrev Ran : Job → Setup S C Q s t → ℕ → Setup S C Q s t → Type 0
  Ran asked old status new = RunsAll rules acts f file g part folders passes tells waits switches asked old status new

  -- the sockets were switched first
  behind : (law : List Event → Held → Held → ℕ → Type 0) (first old new : S) (on : Bool) (before after : Held) (status : ℕ) → switches first on old
      → Of rules switches law old new before after status → Of rules switches law first new before after status
  behind law first old new on before after status switched (es, captured, is) =
      (es, captured_behind rules switches first old new on es switched captured, is)

  pub wp_ran : (said : PropertyWriting) (old : Setup S C Q s t) (status : ℕ) (new : Setup S C Q s t)
      → Ran (job.Wp said) old status new → Of rules switches (WritesOnce said) old.streams.sockets new.streams.sockets old.streams.output new.streams.output status
  wp_ran said old status new (inl (told, off)) = wp_runs rules switches passes tells said old.streams status new.streams (inl told)
  wp_ran said old status new (inr (sockets, switched, (ran, off))) =
      behind (WritesOnce said) old.streams.sockets sockets new.streams.sockets (is_traced (job.Wp said)) old.streams.output new.streams.output status switched
      (wp_runs rules switches passes tells said (with_sockets sockets old).streams status new.streams ran)

  rp_ran : (said : PropertyReading) (old : Setup S C Q s t) (status : ℕ) (new : Setup S C Q s t)
      → Ran (job.Rp said) old status new
      → Of rules switches (λ es before after status. ReadsOnce said es before after status × (status ≡ 0 → PrintsWhatCame said es before after))
      old.streams.sockets new.streams.sockets old.streams.output new.streams.output status
  rp_ran said old status new (inl (told, off)) = rp_runs rules switches passes tells said old.streams status new.streams (inl told)
  rp_ran said old status new (inr (sockets, switched, (ran, off))) =
      behind (λ es before after status. ReadsOnce said es before after status × (status ≡ 0 → PrintsWhatCame said es before after))
      old.streams.sockets sockets new.streams.sockets (is_traced (job.Rp said)) old.streams.output new.streams.output status switched
      (rp_runs rules switches passes tells said (with_sockets sockets old).streams status new.streams ran)

  pub rp_asks : (said : PropertyReading) (old : Setup S C Q s t) (status : ℕ) (new : Setup S C Q s t)
      → Ran (job.Rp said) old status new → Of rules switches (ReadsOnce said) old.streams.sockets new.streams.sockets old.streams.output new.streams.output status
  rp_asks said old status new ran = let it = rp_ran said old status new ran in (it.0, it.1, it.2.0)

  pub rp_prints : (said : PropertyReading) (old : Setup S C Q s t) (status : ℕ) (new : Setup S C Q s t)
      → Ran (job.Rp said) old status new → status ≡ 0
      → (es : List Event) × IsCaptured rules switches old.streams.sockets new.streams.sockets es × PrintsWhatCame said es old.streams.output new.streams.output
  rp_prints said old status new ran none = let it = rp_ran said old status new ran in (it.0, it.1, it.2.1 none)

  pub wi_ran : (said : Discovery) (old : Setup S C Q s t) (status : ℕ) (new : Setup S C Q s t)
      → Ran (job.Wi said) old status new → Of rules switches (FindsWhatCame said) old.streams.sockets new.streams.sockets old.streams.output new.streams.output status
  wi_ran said old status new (inl (told, off)) = wi_runs rules switches passes tells said old.streams status new.streams (inl told)
  wi_ran said old status new (inr (sockets, switched, (ran, off))) =
      behind (FindsWhatCame said) old.streams.sockets sockets new.streams.sockets (is_traced (job.Wi said)) old.streams.output new.streams.output status switched
      (wi_runs rules switches passes tells said (with_sockets sockets old).streams status new.streams ran)

  pub serve_ran : (said : ServedDevice) (old : Setup S C Q s t) (status : ℕ) (new : Setup S C Q s t)
      → Ran (job.Serve said) old status new → Of rules switches (Serving said old.streams.input) old.streams.sockets new.streams.sockets old.streams.output new.streams.output status
  serve_ran said old status new (inl (told, off)) = serve_runs rules switches passes tells said old.streams status new.streams (inl told)
  serve_ran said old status new (inr (sockets, switched, (ran, off))) =
      behind (Serving said old.streams.input) old.streams.sockets sockets new.streams.sockets (is_traced (job.Serve said)) old.streams.output new.streams.output status switched
      (serve_runs rules switches passes tells said (with_sockets sockets old).streams status new.streams ran)

  pub log_ran : (said : LogReading) (old : Setup S C Q s t) (status : ℕ) (new : Setup S C Q s t)
      → Ran (job.Log said) old status new → Few rules switches said old.streams.sockets new.streams.sockets
  log_ran said old status new (inl (told, off)) = log_runs rules switches passes tells said old.streams status new.streams (inl told)
  log_ran said old status new (inr (sockets, switched, (ran, off))) =
      let it = log_runs rules switches passes tells said (with_sockets sockets old).streams status new.streams ran in
      (it.0, captured_behind rules switches old.streams.sockets sockets new.streams.sockets (is_traced (job.Log said)) it.0 switched it.1, it.2)

  pub logs_ran : (said : LogListing) → said.instances ≢ [] → (old : Setup S C Q s t) (status : ℕ) (new : Setup S C Q s t)
      → Ran (job.Logs said) old status new → Listed rules switches said old.streams.sockets new.streams.sockets old.streams.output new.streams.output status
  logs_ran said named old status new (inl (told, off)) = logs_runs rules switches passes tells said named old.streams status new.streams (inl told)
  logs_ran said named old status new (inr (sockets, switched, (ran, off))) =
      let it = logs_runs rules switches passes tells said named (with_sockets sockets old).streams status new.streams ran in
      (it.0, captured_behind rules switches old.streams.sockets sockets new.streams.sockets (is_traced (job.Logs said)) it.0 switched it.1, it.2)
