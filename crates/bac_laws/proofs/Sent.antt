-- What the whole program leaves whole.
use Rattle.std.proofs.Common.{◌≡◌, ℕ, Bool, true, List, [], ◌∷◌, map, Option, None, Some, Ok, Err, inl, inr, refl, sym, subst}
use Rattle.std.specs.List.{Contains}
use Rattle.std.proofs.lemmas.List.Elements.{Contains-append_left, Contains-append_right, Contains-push}
use Rattle.sqlite_disk.specs.declared.Disk as disk
use Rattle.sqlite_disk.specs.declared.start.Start as start
use Rattle.sqlite_wal.specs.Recovery.{Image}
use Rattle.bac_files.specs.Files.{FileOf}
use Rattle.bac_files.specs.Parts.{PartRules}
use Rattle.bac_socket_notes.specs.declared.notes.Passed.{Passed}
use Rattle.bac_laws.proofs.Keeps.{keep_stops, keep_whole, site_over}
use Rattle.bac_laws.proofs.Over.{StaysWhole, still}
use Rattle.bac_laws.proofs.Tools.{done_over, fetches, lists, reads, writes}
use Rattle.bac_laws.specs.Sends.{AreSwitched, GaveBack, IsBound, IsStation, MaySend, Seal, SendsOnly}
use Rattle.bac_ports.specs.Port.{Receiving}
use Rattle.bac_ports.specs.Sockets.{SocketRules, own_address}
use Rattle.bac_query.specs.Ahead.{errand}
use Rattle.bac_query.specs.Finding.{unasked}
use Rattle.bac_query.specs.Hearing.{Left, ReceivesBy, Standing, port_rules}
use Rattle.bac_query.specs.Requests.{who_is_octets}
use Rattle.bac_query.specs.Turns.{Along, ComesTo, Received, Sent, Turn, asked_in}
use Rattle.bac_run.specs.Run.{DoesAll, RunsAll}
use Rattle.bac_run.specs.Setup.{Setup, with_output, with_sockets}
use Rattle.bac_tools.specs.Ending.{Ending}
use Rattle.bac_tools.specs.Finding.{Finds, Inquiry, Searches, inquiry, search_of}
use Rattle.bac_tools.specs.Run.{Runs, Works, question, reals_of, trend_log, walk_from}
use Rattle.bac_tools.specs.Sockets.{Outside, Pipes, binding, outside}
use Rattle.bac_tools.specs.Streams.{Streams, outlets_of, outside_of, pipes_of, with_errors}
use Rattle.bac_wire.specs.Stamp.{CivilTime}
use Rattle.bac_command_line.specs.Jobs.{is_traced}
use Rattle.bac_command_line.specs.declared.job.Job.{Job}
use Rattle.bac_command_line.specs.declared.job.Job.TheVariants as job
use Rattle.bac_command_line.specs.declared.job.Keep.{Keep as KeepWords}
use Rattle.bac_command_line.specs.declared.job.Stations.{Stations}
use Rattle.bac_command_line.specs.declared.job.Stations.TheVariants.{Listed, Input}

first_of : (x : List ℕ) (xs : List (List ℕ)) → Contains (x ∷ xs) x
first_of x xs = Contains-append_left (x ∷ []) xs x (Contains-push [] x)

-- a front part of addresses is among all
among : (limit : ℕ) (addresses : List (List ℕ)) (turns : List Turn) (old : Standing) (result : Left) (new : Standing)
    → ComesTo limit addresses turns old result new → (a : List ℕ) → Contains (asked_in turns) a → Contains addresses a
among limit addresses turns old (Ok left) new is a has = subst (λ (xs : List (List ℕ)). Contains xs a) is.0 has
among limit addresses turns old (Err fault) new ((rest, is), few, fails) a has =
    subst (λ (xs : List (List ℕ)). Contains xs a) (sym is) (Contains-append_left (asked_in turns) rest a has)

-- ---- bac wi

module _ {S P : Type 0} {rules : SocketRules S P} {changes : S → S → Type 0} {may : List ℕ → List ℕ → Type 0}
    (seal : Seal rules changes may) where
  received : (wait : Option ℕ) (old : P) (heard : Receiving) (new : P)
      → ReceivesBy (port_rules rules.sends rules.receives rules.receives_within) wait old heard new → StaysWhole seal old new
  received None old heard new is whole = seal.receives old new heard whole is
  received (Some ms) old heard new is whole = seal.waits old new ms heard whole is

  along : (octets : List ℕ) (turns : List Turn) (old new : P) → ((a : List ℕ) → Contains (asked_in turns) a → may octets a)
      → Along (port_rules rules.sends rules.receives rules.receives_within) octets turns old new → StaysWhole seal old new
  along octets [] old new ok is = still seal old new is
  along octets (Sent address sent ∷ turns) old new ok (mid, sends, rest) =
      λ whole. along octets turns mid new (λ a has. ok a (Contains-append_right (address ∷ []) (asked_in turns) a has)) rest
      (seal.sends old mid octets address sent (ok address (first_of address (asked_in turns))) whole sends)
  along octets (Received wait heard ∷ turns) old new ok (mid, receives, rest) =
      λ whole. along octets turns mid new ok rest (received wait old heard mid receives whole)

  searches : (wanted : Inquiry) (addresses : List (List ℕ)) (old : Outside S) (result : Ending) (new : Outside S)
      → ((a : List ℕ) → Contains addresses a → may (who_is_octets wanted.search) a)
      → Searches rules wanted addresses old result new → seal.sockets old.sockets ≡ true → seal.sockets new.sockets ≡ true
  searches wanted addresses old result new ok is whole =
      done_over seal (binding (own_address wanted.local) wanted.timeout) old.sockets new.sockets result _ _
      (λ port last did. let tells = did.1.3 in
      along (who_is_octets wanted.search) tells.0 port last
      (λ a has. ok a (among 4096 addresses tells.0 (unasked old.output) did.1.0 did.1.1 tells.2 a has)) tells.1) is whole

  finds : (wanted : Inquiry) (stations : Stations) (old : Pipes S) (result : Ending) (new : Pipes S)
      → ((a : List ℕ) → IsStation stations a → may (who_is_octets wanted.search) a)
      → Finds rules wanted stations old result new → seal.sockets old.sockets ≡ true → seal.sockets new.sockets ≡ true
  finds wanted (Listed addresses) old result new ok (input, is) whole =
      searches wanted addresses (outside old.sockets old.output) result (outside new.sockets new.output) ok is whole
  finds wanted Input old result new ok (Ok addresses, list, is) whole =
      searches wanted addresses (outside old.sockets old.output) result (outside new.sockets new.output) (λ a has. ok a tt) is whole
  finds wanted Input old result new ok (Err fault, list, is) whole =
      subst (λ (o : Outside S). seal.sockets o.sockets ≡ true) (sym is.1) whole

-- ---- any tool

module _ {S P : Type 0} {rules : SocketRules S P} {changes : S → S → Type 0} where
  pub same_sockets : {may : List ℕ → List ℕ → Type 0} (seal : Seal rules changes may) (old new : S) → new ≡ old
      → seal.sockets old ≡ true → seal.sockets new ≡ true
  same_sockets seal old new is whole = subst (λ (s : S). seal.sockets s ≡ true) (sym is) whole

  works : {C : Type 0} (tells : C → Option CivilTime → C → Type 0) (asked : Job) → IsBound asked
      → (seal : Seal rules changes (MaySend asked)) (old : Streams S C) (result : Ending) (new : Streams S C)
      → Works rules tells asked old result new → seal.sockets old.sockets ≡ true → seal.sockets new.sockets ≡ true
  works tells job.Replay bound seal old result new is whole = same_sockets seal old.sockets new.sockets is.1.1 whole
  works tells (job.Rp said) bound seal old result new (inl (none, (why, keeps, same)), quiet, unread) whole =
      same_sockets seal old.sockets new.sockets same whole
  works tells (job.Rp said) bound seal old result new (inr is, quiet, unread) whole =
      reads seal said.asked (question said) (reals_of said.numbers) (outside_of old) result (outside_of new) (λ octets r. (r, refl)) is whole
  works tells (job.Wp said) bound seal old result new (inl (none, (why, keeps, same)), quiet, unread) whole =
      same_sockets seal old.sockets new.sockets same whole
  works tells (job.Wp said) bound seal old result new (inr (w, same, is), quiet, unread) whole =
      writes seal said.asked w (outside_of old) result (outside_of new) (λ octets r. (r, refl)) is whole
  works tells (job.Log said) bound seal old result new (inl (fault, none, keeps, same), quiet, unread) whole =
      same_sockets seal old.sockets new.sockets same whole
  works tells (job.Log said) bound seal old result new (inr is, quiet, unread) whole =
      fetches seal said.asked (errand said.form (walk_from said.instance said.from said.count) said.steps)
      (outlets_of old) result (outlets_of new) (λ octets r. (r, refl)) is whole
  works tells (job.Logs said) bound seal old result new (inl (fault, none, keeps, same), quiet, unread) whole =
      same_sockets seal old.sockets new.sockets same whole
  works tells (job.Logs said) bound seal old result new (inr is, quiet, unread) whole =
      lists seal said.asked (map trend_log said.instances) (outside_of old) result (outside_of new) (λ octets r. (r, refl)) is whole
  works tells (job.Serve said) bound seal old result new is whole = absurd bound
  works tells (job.Wi said) bound seal old result new (is, quiet) whole =
      finds seal (inquiry (search_of said) said.local said.timeout) said.stations (pipes_of old) result (pipes_of new)
      (λ a has. ((search_of said, refl), has)) is whole
  works tells (job.Keep asked) bound seal old result new is whole = same_sockets seal old.sockets new.sockets is.3.1 whole
  works tells (job.Kept asked) bound seal old result new is whole = same_sockets seal old.sockets new.sockets is.3.1 whole
  works tells (job.Check asked) bound seal old result new is whole = same_sockets seal old.sockets new.sockets is.3.1 whole

  runs : {C : Type 0} (passes : S → Passed) (tells : C → Option CivilTime → C → Type 0) (asked : Job) → IsBound asked
      → (seal : Seal rules changes (MaySend asked)) (old : Streams S C) (status : ℕ) (new : Streams S C)
      → Runs rules passes tells asked old status new → seal.sockets old.sockets ≡ true → seal.sockets new.sockets ≡ true
  runs passes tells asked bound seal old status new (inl (told, keeps, (input, same, clock))) whole =
      same_sockets seal old.sockets new.sockets same whole
  runs passes tells asked bound seal old status new (inr (result, said, is, ends)) whole =
      works tells asked bound seal old result (with_errors said new) is whole

module _ {S P C W Q F G : Type 0} {s : start.Ghosts F} {t : start.Ghosts G} (rules : SocketRules S P) (f : disk.Ghosts (FileOf s)) (file : Image)
    (g : disk.Ghosts (FileOf t)) (part : Image) (folders : PartRules Q) (passes : S → Passed) (tells : C → Option CivilTime → C → Type 0)
    (waits : W) (reads' : W → ℕ → W → Type 0) (switches : S → Bool → S → Type 0) where
  abbrev Does : Job → Setup S C Q s t → ℕ → Setup S C Q s t → Type 0
  Does asked old status new = DoesAll rules (site_over rules reads') f file g part folders passes tells waits asked old status new

  abbrev Ran : Job → Setup S C Q s t → ℕ → Setup S C Q s t → Type 0
  Ran asked old status new = RunsAll rules (site_over rules reads') f file g part folders passes tells waits switches asked old status new

  does_all : (asked : Job) → IsBound asked → (seal : Seal rules (AreSwitched switches) (MaySend asked)) (old : Setup S C Q s t) (status : ℕ)
      (new : Setup S C Q s t) → Does asked old status new → seal.sockets old.streams.sockets ≡ true → seal.sockets new.streams.sockets ≡ true
  does_all (job.Keep asked) bound seal old status new ran whole =
      same_sockets seal old.streams.sockets new.streams.sockets
      (keep_stops rules f file g part waits reads' tells asked (with_output ran.0 old) status (with_output ran.1 new) bound ran.3) whole
  does_all (job.Kept asked) bound seal old status new (ran, (untouched, files)) whole =
      same_sockets seal old.streams.sockets new.streams.sockets untouched.1 whole
  does_all (job.Check asked) bound seal old status new (ran, (untouched, files)) whole =
      same_sockets seal old.streams.sockets new.streams.sockets untouched.1 whole
  does_all job.Replay bound seal old status new (ran, off) whole = runs passes tells job.Replay bound seal old.streams status new.streams ran whole
  does_all (job.Rp said) bound seal old status new (ran, off) whole = runs passes tells (job.Rp said) bound seal old.streams status new.streams ran whole
  does_all (job.Wp said) bound seal old status new (ran, off) whole = runs passes tells (job.Wp said) bound seal old.streams status new.streams ran whole
  does_all (job.Log said) bound seal old status new (ran, off) whole = runs passes tells (job.Log said) bound seal old.streams status new.streams ran whole
  does_all (job.Logs said) bound seal old status new (ran, off) whole = runs passes tells (job.Logs said) bound seal old.streams status new.streams ran whole
  does_all (job.Wi said) bound seal old status new (ran, off) whole = runs passes tells (job.Wi said) bound seal old.streams status new.streams ran whole
  does_all (job.Serve said) bound seal old status new is whole = absurd bound

  pub sends_only : (asked : Job) → IsBound asked → (old : Setup S C Q s t) (status : ℕ) (new : Setup S C Q s t) → Ran asked old status new
      → SendsOnly rules (AreSwitched switches) (MaySend asked) old.streams.sockets new.streams.sockets
  sends_only asked bound old status new (inl ((told, keeps, (input, same, clock)), off)) =
      λ seal whole. same_sockets seal old.streams.sockets new.streams.sockets same whole
  sends_only asked bound old status new (inr (sockets, switched, is)) =
      λ seal whole. does_all asked bound seal (with_sockets sockets old) status new is
      (seal.changed old.streams.sockets sockets whole (is_traced asked, switched))

  -- `keep` only reads
  pub only_reads : (asked : KeepWords) (old : Setup S C Q s t) (status : ℕ) (new : Setup S C Q s t) → Ran (job.Keep asked) old status new
      → GaveBack f new.files → SendsOnly rules (AreSwitched switches) (MaySend (job.Keep asked)) old.streams.sockets new.streams.sockets
  only_reads asked old status new (inl ((told, keeps, (input, same, clock)), off)) honest =
      λ seal whole. same_sockets seal old.streams.sockets new.streams.sockets same whole
  only_reads asked old status new (inr (sockets, switched, ran)) honest =
      λ seal whole. keep_whole rules f file g part waits reads' tells seal (λ octets to may. may) asked (with_output ran.0 (with_sockets sockets old)) status (with_output ran.1 new) ran.3 honest
      (seal.changed old.streams.sockets sockets whole (is_traced (job.Keep asked), switched))
