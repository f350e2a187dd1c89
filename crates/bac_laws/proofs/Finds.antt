-- What `bac wi` does, as events.
use Rattle.std.proofs.Common.{◌≡◌, ◌≢◌, ◌++◌, ℕ, Bool, true, false, List, [], ◌∷◌, map, Option, None, Some, Ok, Err, inl, inr, refl, sym, subst, ap, ◌∙◌, append-nil, append_assoc}
use Rattle.std.specs.Io.KnownBytes.{Appends, Keeps}
use Rattle.bac_socket_notes.specs.Ports.{Event, came_in}
use Rattle.bac_socket_notes.specs.Ports as event
use Rattle.bac_socket_notes.specs.declared.notes.Passed.{Passed}
use Rattle.bac_laws.proofs.Captured.{Goes, captured_over, captured_unopened, nothing_captured}
use Rattle.bac_laws.proofs.Statuses.{failed, kept_part, same_keeps}
use Rattle.bac_laws.proofs.Taken.{AllTaken, seeks_taken}
use Rattle.bac_laws.specs.Events.{IsCaptured, sent_in}
use Rattle.bac_laws.specs.Found.{AreStations, AreTaken, FindsWhatCame}
use Rattle.bac_ports.specs.Sockets.{SocketRules, own_address}
use Rattle.bac_ports.specs.declared.port.Heard.{Heard}
use Rattle.bac_print.specs.Output.{AppendsPart, Held}
use Rattle.bac_query.specs.Announcements.{Announcement, announced}
use Rattle.bac_query.specs.Finding.{told_of, unasked}
use Rattle.bac_query.specs.Hearing.{Left, PortRules, Standing, port_rules}
use Rattle.bac_query.specs.Lines.{device_line}
use Rattle.bac_query.specs.Requests.{who_is_octets}
use Rattle.bac_query.specs.Turns as turn
use Rattle.bac_query.specs.Turns.{Along, ComesTo, Fails, Turn, asked_in, has_device, line_of, lines_of}
use Rattle.bac_query.specs.declared.find_fault.FindFault.{FindFault}
use Rattle.bac_query.specs.declared.find_fault.FindFault.TheVariants as find
use Rattle.bac_tools.specs.Ending.{Ending}
use Rattle.bac_tools.specs.Faults.{of_find, unanswered}
use Rattle.bac_tools.specs.Finding.{Finds, Searches, inquiry, of_found, search_of}
use Rattle.bac_tools.specs.Run.{Ends}
use Rattle.bac_tools.specs.Sockets.{Outside, Pipes, outside}
use Rattle.bac_tools.specs.declared.fault.Fault.TheVariants as fault
use Rattle.bac_tools.specs.declared.fault.Unanswered.{Unanswered}
use Rattle.bac_command_line.specs.declared.job.Discovery.{Discovery}
use Rattle.bac_command_line.specs.declared.job.Stations.{Stations}
use Rattle.bac_command_line.specs.declared.job.Stations.TheVariants.{Listed, Input}

-- ---- turns as events

abbrev pub events : List ℕ → List Turn → List Event
events octets [] = []
events octets (turn.Sent address sent ∷ turns) = event.Sent octets address sent ∷ events octets turns
events octets (turn.Received wait heard ∷ turns) = event.Received heard ∷ events octets turns

sent_turns : (octets : List ℕ) (turns : List Turn) → sent_in (events octets turns) ≡ map (λ to. (octets, to)) (asked_in turns)
sent_turns octets [] = refl
sent_turns octets (turn.Sent address sent ∷ turns) = ap (λ (xs : List (List ℕ × List ℕ)). (octets, address) ∷ xs) (sent_turns octets turns)
sent_turns octets (turn.Received wait heard ∷ turns) = sent_turns octets turns

came_turns : (octets : List ℕ) (turns : List Turn) → came_in (events octets turns) ≡ turn.came_in turns
came_turns octets [] = refl
came_turns octets (turn.Sent address sent ∷ turns) = came_turns octets turns
came_turns octets (turn.Received wait (Ok heard) ∷ turns) = ap (λ (xs : List Heard). heard ∷ xs) (came_turns octets turns)
came_turns octets (turn.Received wait (Err why) ∷ turns) = came_turns octets turns

taken_turns : (octets : List ℕ) (turns : List Turn) → AllTaken turns → AreTaken (events octets turns)
taken_turns octets [] is = tt
taken_turns octets (turn.Sent address (Ok done) ∷ turns) is = taken_turns octets turns is
taken_turns octets (turn.Sent address (Err fault) ∷ turns) is = absurd is
taken_turns octets (turn.Received wait heard ∷ turns) is = taken_turns octets turns is

module _ {S P : Type 0} (rules : SocketRules S P) where
  abbrev By : PortRules P
  By = port_rules rules.sends rules.receives rules.receives_within

  along_goes : (octets : List ℕ) (turns : List Turn) (old new : P) → Along By octets turns old new
      → Goes rules.sends rules.receives rules.receives_within (events octets turns) old new
  along_goes octets [] old new same = same
  along_goes octets (turn.Sent address sent ∷ turns) old new (mid, sends, rest) = (mid, sends, along_goes octets turns mid new rest)
  along_goes octets (turn.Received None heard ∷ turns) old new (mid, receives, rest) = (mid, inl receives, along_goes octets turns mid new rest)
  along_goes octets (turn.Received (Some ms) heard ∷ turns) old new (mid, receives, rest) = (mid, inr (ms, receives), along_goes octets turns mid new rest)

-- ---- the lines

lines_on : (came more : List Heard) → lines_of (came ++ more) ≡ lines_of came ++ lines_of more
lines_on [] more = refl
lines_on (heard ∷ came) more = ap (λ (l : List ℕ). line_of (announced heard) ++ l) (lines_on came more)
    ∙ sym (append_assoc (line_of (announced heard)) (lines_of came) (lines_of more))

-- the lines of all are those of the earlier ones, and the last one's
last_lines : (said : Announcement) (came earlier : List Heard) (last : Heard) → came ≡ earlier ++ last ∷ [] → announced last ≡ Some said
    → lines_of came ≡ lines_of earlier ++ device_line said
last_lines said came earlier last is announces = ap lines_of is ∙ lines_on earlier (last ∷ [])
    ∙ ap (λ (l : List ℕ). lines_of earlier ++ l) (append-nil (line_of (announced last)) ∙ ap line_of announces)

part_all : (old new : Held) (text : List ℕ) → Appends old new text → AppendsPart old new text
part_all old new text is = (text, [], sym (append-nil text), is)

-- one text behind another
appends_on : (old mid new : Held) (first rest : List ℕ) → Appends old mid first → Appends mid new rest → Appends old new (first ++ rest)
appends_on None mid new first rest is more = tt
appends_on (Some xs) None new first rest is more = absurd is
appends_on (Some xs) (Some ys) None first rest is more = absurd more
appends_on (Some xs) (Some ys) (Some zs) first rest is more =
    more ∙ ap (λ (l : List ℕ). l ++ rest) is ∙ append_assoc xs first rest

part_on : (old mid new : Held) (first rest : List ℕ) → Appends old mid first → AppendsPart mid new rest → AppendsPart old new (first ++ rest)
part_on old mid new first rest is (written, left, shape, more) =
    (first ++ written, left, ap (λ (l : List ℕ). first ++ l) shape ∙ sym (append_assoc first written left), appends_on old mid new first written is more)

fails_part : (came : List Heard) (old : Held) (why : FindFault) (new : Held) → Fails came old why new → AppendsPart old new (lines_of came)
fails_part came old find.Socket new is = part_all old new (lines_of came) is
fails_part came old find.Write new (said, between, (earlier, last, shape, announces, appends), part) =
    subst (λ (l : List ℕ). AppendsPart old new l) (sym (last_lines said came earlier last shape announces))
    (part_on old between new (lines_of earlier) (device_line said) appends part)
fails_part came old find.Memory new (said, (earlier, last, shape, announces, appends)) =
    subst (λ (l : List ℕ). AppendsPart old new l) (sym (last_lines said came earlier last shape announces))
    (lines_of earlier, device_line said, refl, appends)
fails_part came old find.NoAnswer new is = absurd is
fails_part came old (find.Refused address) new is = absurd is

-- ---- the whole

-- a front part of the stations was asked, and this is there of the lines
record IsFound (octets : List ℕ) (addresses : List (List ℕ)) (es : List Event) (before after : Held) (status : ℕ) : Type 0 where
  pub asked : List (List ℕ)
  pub rest : List (List ℕ)
  pub stations : addresses ≡ asked ++ rest
  pub sent : sent_in es ≡ map (λ to. (octets, to)) asked
  pub lines : AppendsPart before after (lines_of (came_in es))
  pub done : status ≡ 0 → (rest ≡ []) × AreTaken es × (has_device (came_in es) ≡ true) × Appends before after (lines_of (came_in es))

nothing_found : (octets : List ℕ) (addresses : List (List ℕ)) (before after : Held) (status : ℕ) → Keeps before after → status ≢ 0
    → IsFound octets addresses [] before after status
nothing_found octets addresses before after status keeps more = record {
  asked = [];
  rest = addresses;
  stations = refl;
  sent = refl;
  lines = kept_part before after keeps;
  done = λ is. absurd (more is);
}

told_zero : (passed : Passed) (asked : Unanswered) (left : ℕ) (refused : Option (List ℕ)) (taken : Bool) (result : Ending) (said now : Held) (status : ℕ)
    → result ≡ of_found asked (told_of (Ok left) refused taken) → Ends passed result said now status → status ≡ 0
    → (refused ≡ None) × (taken ≡ true)
told_zero passed asked left (Some address) taken result said now status is ends none =
    absurd (failed passed result (fault.Refused address) said now status is ends none)
told_zero passed asked left None true result said now status is ends none = (refl, refl)
told_zero passed asked left None false result said now status is ends none =
    absurd (failed passed result (fault.NoAnswer asked) said now status is ends none)

found_by : (passed : Passed) (octets : List ℕ) (addresses : List (List ℕ)) (turns : List Turn) (before : Held) (sought : Left) (then : Standing)
    (result : Ending) (said now : Held) (status : ℕ) (asked : Unanswered) → ComesTo 4096 addresses turns (unasked before) sought then
    → (then.refused ≡ None → AllTaken turns)
    → result ≡ of_found asked (told_of sought then.refused then.taken) → Ends passed result said now status
    → IsFound octets addresses (events octets turns) before then.held status
found_by passed octets addresses turns before (Ok left) then result said now status asked (all, count, taken, appends) went is ends =
    let came = came_turns octets turns in
    let text : Appends before then.held (lines_of (came_in (events octets turns))) =
    subst (λ (l : List Heard). Appends before then.held (lines_of l)) (sym came) appends in
    record {
      asked = asked_in turns;
      rest = [];
      stations = sym all ∙ sym (append-nil (asked_in turns));
      sent = sent_turns octets turns;
      lines = part_all before then.held (lines_of (came_in (events octets turns))) text;
      done = λ none. let told = told_zero passed asked left then.refused then.taken result said now status is ends none in
          (refl, taken_turns octets turns (went told.0), ap has_device came ∙ sym taken ∙ told.1, text);
    }
found_by passed octets addresses turns before (Err why) then result said now status asked ((rest, shape), few, fails) went is ends = record {
  asked = asked_in turns;
  rest = rest;
  stations = shape;
  sent = sent_turns octets turns;
  lines = subst (λ (l : List Heard). AppendsPart before then.held (lines_of l)) (sym (came_turns octets turns)) (fails_part (turn.came_in turns) before why then.held fails);
  done = λ none. absurd (failed passed result (of_find asked why) said now status is ends none);
}

module _ {S P : Type 0} (rules : SocketRules S P) (traces : S → Bool → S → Type 0) where
  searched : (passed : Passed) (said : Discovery) (addresses : List (List ℕ)) (old : Outside S) (result : Ending) (new : Outside S) (told now : Held) (status : ℕ)
      → Searches rules (inquiry (search_of said) said.local said.timeout) addresses old result new → Ends passed result told now status
      → (es : List Event) × IsCaptured rules traces old.sockets new.sockets es
      × IsFound (who_is_octets (search_of said)) addresses es old.output new.output status
  searched passed said addresses old result new told now status (inl (why, opens, is, keeps)) ends = (
    [],
    captured_unopened rules traces old.sockets new.sockets (own_address said.local) said.timeout why opens,
    nothing_found (who_is_octets (search_of said)) addresses old.output new.output status keeps (failed passed result (fault.Unopened why) told now status is ends),
  )
  searched passed said addresses old result new told now status
      (inr (port, between, last, opens, (found, (sought, then, seeks, tells, held, is), how), closes)) ends =
      let octets = who_is_octets (search_of said) in
      let (turns, along, comes, went) = seeks_taken (By rules) octets addresses 4096 port last (unasked old.output) then sought seeks in (
        events octets turns,
        captured_over rules traces (events octets turns) old.sockets between new.sockets (own_address said.local) said.timeout port last opens
            (along_goes rules octets turns port last along) closes,
        subst (λ (h : Held). IsFound octets addresses (events octets turns) old.output h status) (sym held)
            (found_by passed octets addresses turns old.output sought then result told now status (unanswered said.local addresses) comes went
            (how ∙ ap (of_found (unanswered said.local addresses)) is) ends),
      )

  with_stations : (said : Discovery) (addresses : List (List ℕ)) (es : List Event) (before after : Held) (status : ℕ)
      → ((all : List (List ℕ)) → addresses ≡ all → AreStations said.stations all)
      → IsFound (who_is_octets (search_of said)) addresses es before after status → FindsWhatCame said es before after status
  with_stations said addresses es before after status are is = record {
    asked = is.asked;
    rest = is.rest;
    stations = are (is.asked ++ is.rest) is.stations;
    sent = is.sent;
    lines = is.lines;
    done = is.done;
  }

  found_at : (passed : Passed) (said : Discovery) (stations : Stations) → said.stations ≡ stations
      → (old : Pipes S) (result : Ending) (new : Pipes S) (told now : Held) (status : ℕ)
      → Finds rules (inquiry (search_of said) said.local said.timeout) stations old result new → Ends passed result told now status
      → (es : List Event) × IsCaptured rules traces old.sockets new.sockets es × FindsWhatCame said es old.output new.output status
  found_at passed said (Listed addresses) at old result new told now status (input, is) ends =
      let it = searched passed said addresses (outside old.sockets old.output) result (outside new.sockets new.output) told now status is ends in (
        it.0,
        it.1,
        with_stations said addresses it.0 old.output new.output status
            (λ all same. subst (λ (s : Stations). AreStations s all) (sym at) (sym same)) it.2,
      )
  found_at passed said Input at old result new told now status (Ok addresses, list, is) ends =
      let it = searched passed said addresses (outside old.sockets old.output) result (outside new.sockets new.output) told now status is ends in (
        it.0,
        it.1,
        with_stations said addresses it.0 old.output new.output status
            (λ all same. subst (λ (s : Stations). AreStations s all) (sym at) tt) it.2,
      )
  found_at passed said Input at old result new told now status (Err why, list, (is, same)) ends = (
    [],
    nothing_captured rules traces old.sockets new.sockets (ap (λ (o : Outside S). o.sockets) same),
    with_stations said [] [] old.output new.output status (λ all like. subst (λ (s : Stations). AreStations s all) (sym at) tt)
        (nothing_found (who_is_octets (search_of said)) [] old.output new.output status
        (same_keeps old.output new.output (ap (λ (o : Outside S). o.output) same)) (failed passed result (fault.List why) told now status is ends)),
  )

  pub wi : (passed : Passed) (said : Discovery) (old : Pipes S) (result : Ending) (new : Pipes S) (told now : Held) (status : ℕ)
      → Finds rules (inquiry (search_of said) said.local said.timeout) said.stations old result new → Ends passed result told now status
      → (es : List Event) × IsCaptured rules traces old.sockets new.sockets es × FindsWhatCame said es old.output new.output status
  wi passed said old result new told now status is ends = found_at passed said said.stations refl old result new told now status is ends

  nothing_at : (said : Discovery) (stations : Stations) → said.stations ≡ stations → (before after : Held) (status : ℕ) → Keeps before after → status ≢ 0
      → FindsWhatCame said [] before after status
  nothing_at said (Listed addresses) at before after status keeps more =
      with_stations said addresses [] before after status (λ all same. subst (λ (s : Stations). AreStations s all) (sym at) (sym same))
      (nothing_found (who_is_octets (search_of said)) addresses before after status keeps more)
  nothing_at said Input at before after status keeps more =
      with_stations said [] [] before after status (λ all same. subst (λ (s : Stations). AreStations s all) (sym at) tt)
      (nothing_found (who_is_octets (search_of said)) [] before after status keeps more)

  -- nothing was asked
  pub wi_nothing : (said : Discovery) (before after : Held) (status : ℕ) → Keeps before after → status ≢ 0
      → FindsWhatCame said [] before after status
  wi_nothing said before after status keeps more = nothing_at said said.stations refl before after status keeps more
