-- What `bac rp` and `bac wp` do, as events.
use Rattle.std.proofs.Common.{◌≡◌, ◌⊎◌, ◌++◌, ℕ, Bool, List, [], ◌∷◌, Option, None, Some, Result, Ok, Err, inl, inr, refl, sym, subst, ap, ◌∙◌}
use Rattle.std.specs.Prelude.{codes}
use Rattle.std.specs.Io.KnownBytes.{Appends, Keeps}
use Rattle.bac_apdu.specs.Service.WriteProperty.{write_of_code}
use Rattle.bac_apdu.specs.declared.service.write_property.WriteProperty.{WriteProperty}
use Rattle.bac_socket_notes.specs.Ports.{Event}
use Rattle.bac_socket_notes.specs.declared.notes.Passed.{Passed}
use Rattle.bac_laws.proofs.Captured.{captured_over, captured_unopened, nothing_captured}
use Rattle.bac_laws.proofs.Exchange.{Comes, Runs, exchanged}
use Rattle.bac_laws.proofs.Statuses.{Ended, done_so, ended, failed, unasked_one, unasked_two}
use Rattle.bac_laws.specs.Asked.{AsksOnce, ComesTo, IsUnasked, PrintsWhatCame, ReadsOnce, WritesOnce}
use Rattle.bac_laws.specs.Events.{IsCaptured}
use Rattle.bac_link.specs.Datagrams.{apdu_in}
use Rattle.bac_link.specs.declared.exchanges.ExchangeFault.{ExchangeFault}
use Rattle.bac_link.specs.declared.exchanges.ExchangeFault.TheVariants as exchange
use Rattle.bac_link.specs.declared.exchanges.Verdict.{Verdict}
use Rattle.bac_link.specs.declared.request.Request.{Request}
use Rattle.bac_link.specs.declared.request.Request.TheVariants as request
use Rattle.bac_ports.specs.Sockets.{SocketRules, link_over, own_address}
use Rattle.bac_print.specs.Output.{AppendsPart, Held}
use Rattle.bac_query.specs.Answers.{values_in}
use Rattle.bac_query.specs.Reading.{Answer, Prints, PrintsAnswer, PrintsValues, next_way}
use Rattle.bac_query.specs.Values.{IsShown}
use Rattle.bac_query.specs.Writing.{PrintsIfDone}
use Rattle.bac_query.specs.declared.fault.QueryFault.TheVariants.{Exchange, Write, Memory}
use Rattle.bac_query.specs.declared.reals.Reals.{Reals}
use Rattle.bac_tools.specs.Asking.{of_answer}
use Rattle.bac_tools.specs.Ending.{Ending}
use Rattle.bac_tools.specs.Run.{Ends, ReadsAsSaid, WritesAsSaid, question, reals_of, setting}
use Rattle.bac_tools.specs.Sockets.{Outside, transactions_with}
use Rattle.bac_tools.specs.declared.fault.Fault.TheVariants as fault
use Rattle.bac_command_line.specs.declared.job.Asked.{Asked}
use Rattle.bac_command_line.specs.declared.job.PropertyReading.{PropertyReading}
use Rattle.bac_command_line.specs.declared.job.PropertyWriting.{PropertyWriting}
use Rattle.bac_command_line.specs.declared.word.Word.TheVariants as word

-- ---- one request

module _ {S P : Type 0} (rules : SocketRules S P) where
  -- what comes of it, by what its exchange brought
  once : (asked : Asked) (is : Request → Type 0) (r : Request) → is r → (done : ℕ → Type 0) (es : List Event) (before after : Held)
      (passed : Passed) (result : Ending) (said now : Held) (status : ℕ) (answer : Result (List ℕ) ExchangeFault)
      → Comes rules (next_way (transactions_with asked)) r asked.address es answer → Ends passed result said now status
      → ((why : ExchangeFault) → answer ≡ Err why → (result ≡ Err (fault.Exchange asked.address why)) × Keeps before after)
      → ((datagram : List ℕ) → answer ≡ Ok datagram → (ending : ℕ) × Ended ending status × done ending)
      → AsksOnce asked is done es before after status
  once asked is r ok done es before after passed result said now status (Ok datagram) (shape, verdict) ends not got =
      let it = got datagram refl in
      inr (
        r,
        ok,
        Some datagram,
        shape,
        it.0,
        it.1,
        subst (λ (v : Verdict). ComesTo (Some v) done before after it.0) (sym verdict) it.2,
      )
  once asked is r ok done es before after passed result said now status (Err (exchange.Refused refusal)) (datagram, shape, verdict) ends not got =
      let it = not (exchange.Refused refusal) refl in
      inr (
        r,
        ok,
        Some datagram,
        shape,
        3,
        ended passed result (fault.Exchange asked.address (exchange.Refused refusal)) said now status it.0 ends,
        subst (λ (v : Verdict). ComesTo (Some v) done before after 3) (sym verdict) (it.1, refl),
      )
  once asked is r ok done es before after passed result said now status (Err exchange.BadReply) (datagram, shape, verdict) ends not got =
      let it = not exchange.BadReply refl in
      inr (
        r,
        ok,
        Some datagram,
        shape,
        4,
        ended passed result (fault.Exchange asked.address exchange.BadReply) said now status it.0 ends,
        subst (λ (v : Verdict). ComesTo (Some v) done before after 4) (sym verdict) (it.1, refl),
      )
  once asked is r ok done es before after passed result said now status (Err exchange.Lost) shape ends not got =
      let it = not exchange.Lost refl in
      inr (r, ok, None, shape, 2, ended passed result (fault.Exchange asked.address exchange.Lost) said now status it.0 ends, (it.1, refl))
  once asked is r ok done es before after passed result said now status (Err exchange.TooLong) shape ends not got =
      let it = not exchange.TooLong refl in
      inl (shape, it.1, unasked_one status (ended passed result (fault.Exchange asked.address exchange.TooLong) said now status it.0 ends))

-- ---- bac wp

-- what was done is told, or its write was refused
wrote : (address : List ℕ) (passed : Passed) (answer : Answer) (result : Ending) (said now : Held) (status : ℕ) (before after : Held) (line : List ℕ)
    → Prints line answer before after → result ≡ of_answer address answer → Ends passed result said now status
    → (ending : ℕ) × Ended ending status × (((ending ≡ 0) × Appends before after line) ⊎ ((ending ≡ 2) × AppendsPart before after line))
wrote address passed (Ok done) result said now status before after line prints is ends =
    (0, inl (done_so passed result said now status is ends), inl (refl, prints))
wrote address passed (Err Write) result said now status before after line prints is ends =
    (2, ended passed result fault.Write said now status is ends, inr (refl, prints))
wrote address passed (Err Memory) result said now status before after line prints is ends = absurd prints
wrote address passed (Err (Exchange why)) result said now status before after line prints is ends = absurd prints

module _ {S P : Type 0} (rules : SocketRules S P) (traces : S → Bool → S → Type 0) where
  -- this was done over the sockets, and this holds of it
  abbrev pub Does : (List Event → Type 0) → S → S → Type 0
  Does is old new = (es : List Event) × IsCaptured rules traces old new es × is es

  -- nothing was sent or printed
  pub nothing : (asked : Asked) (is : Request → Type 0) (done : ℕ → Type 0) (before after : Held) (old new : S) (status : ℕ)
      → IsCaptured rules traces old new [] → Keeps before after → IsUnasked status
      → Does (λ es. AsksOnce asked is done es before after status) old new
  nothing asked is done before after old new status same keeps more = ([], same, inl (refl, keeps, more))

  -- ---- bac wp

  wp_prints : (said : PropertyWriting) (passed : Passed) (answer : Answer) (came_so : Result (List ℕ) ExchangeFault) (result : Ending)
      (told now : Held) (status : ℕ) (before after : Held) (is : Request → Type 0) (r : Request) (es : List Event) → is r
      → Comes rules (next_way (transactions_with said.asked)) r said.asked.address es came_so
      → PrintsIfDone came_so answer before after → result ≡ of_answer said.asked.address answer → Ends passed result told now status
      → AsksOnce said.asked is
      (λ ending. ((ending ≡ 0) × Appends before after (codes "written" ++ 10 ∷ []))
      ⊎ ((ending ≡ 2) × AppendsPart before after (codes "written" ++ 10 ∷ []))) es before after status
  wp_prints said passed answer (Ok datagram) result told now status before after is r es ok comes prints how ends =
      once rules said.asked is r ok _ es before after passed result told now status (Ok datagram) comes ends
      (λ why not. absurd (let e : Ok datagram ≡ Err why = not in cc))
      (λ other same. wrote said.asked.address passed answer result told now status before after (codes "written" ++ 10 ∷ []) prints how ends)
  wp_prints said passed answer (Err fault) result told now status before after is r es ok comes (same, keeps) how ends =
      once rules said.asked is r ok _ es before after passed result told now status (Err fault) comes ends
      (λ why this. (
        how ∙ ap (of_answer said.asked.address) same
            ∙ ap (λ (f : ExchangeFault). of_answer said.asked.address (Err (Exchange f))) (let e : Err fault ≡ Err why = this in let f : fault ≡ why = cc in f),
        keeps,
      ))
      (λ datagram not. absurd (let e : Err fault ≡ Ok datagram = not in cc))

  pub wp : (said : PropertyWriting) (passed : Passed) (old : Outside S) (result : Ending) (new : Outside S) (told now : Held) (status : ℕ)
      → WritesAsSaid rules said old result new → Ends passed result told now status
      → Does (λ es. WritesOnce said es old.output new.output status) old.sockets new.sockets
  wp said passed old result new told now status (inl (none, (why, keeps, same))) ends =
      nothing said.asked _ _ old.output new.output old.sockets new.sockets status (nothing_captured rules traces old.sockets new.sockets same) keeps
      (unasked_one status (ended passed result (fault.BadValue word.Instance) told now status why ends))
  wp said passed old result new told now status (inr (w, same, inl (why, opens, is, keeps))) ends =
      nothing said.asked _ _ old.output new.output old.sockets new.sockets status
      (captured_unopened rules traces old.sockets new.sockets (own_address said.asked.local) said.asked.timeout why opens) keeps
      (unasked_two status (ended passed result (fault.Unopened why) told now status is ends))
  wp said passed old result new told now status
      (inr (w, same, inr (port, between, last, opens, (answer, left, (came_so, exchanges, prints), at, how), closes))) ends =
      let it = exchanged rules (next_way (transactions_with said.asked)) (request.WriteProperty w) (link_over said.asked.address port) came_so left exchanges in (
        it.1,
        captured_over rules traces it.1 old.sockets between new.sockets (own_address said.asked.local) said.asked.timeout port last opens
            (subst (λ (p : P). Runs rules it.1 port p) (sym at) it.2) closes,
        wp_prints said passed answer came_so result told now status old.output new.output
            (λ r. (v : WriteProperty) × (r ≡ request.WriteProperty v) × (write_of_code v ≡ setting said)) (request.WriteProperty w) it.1 (w, refl, same) it.3 prints how ends,
      )

  -- ---- bac rp

  -- of an ACK: its values, or that it can't be read, or that its text was refused
  abbrev Reading : Held → Held → ℕ → Type 0
  Reading before after ending = (ending ≡ 0) ⊎ (((ending ≡ 2) × (text : List ℕ) × AppendsPart before after text)
      ⊎ (Keeps before after × ((ending ≡ 4) ⊎ (ending ≡ 5))))

  rp_shows : (address : List ℕ) (passed : Passed) (reals : Reals) (values : Option (List ℕ)) (answer : Answer) (result : Ending)
      (told now : Held) (status : ℕ) (before after : Held) → PrintsValues reals values answer before after
      → result ≡ of_answer address answer → Ends passed result told now status
      → (ending : ℕ) × Ended ending status × Reading before after ending
  rp_shows address passed reals None answer result told now status before after (same, keeps) how ends = (
    4,
    ended passed result (fault.Exchange address exchange.BadReply) told now status (how ∙ ap (of_answer address) same) ends,
    inr (inr (keeps, inl refl)),
  )
  rp_shows address passed reals (Some values) (Ok done) result told now status before after prints how ends =
      (0, inl (done_so passed result told now status how ends), inl refl)
  rp_shows address passed reals (Some values) (Err Write) result told now status before after (text, shown, part) how ends =
      (2, ended passed result fault.Write told now status how ends, inr (inl (refl, text, part)))
  rp_shows address passed reals (Some values) (Err Memory) result told now status before after keeps how ends =
      (5, ended passed result fault.Memory told now status how ends, inr (inr (keeps, inr refl)))
  rp_shows address passed reals (Some values) (Err (Exchange why)) result told now status before after prints how ends = absurd prints

  rp_prints : (said : PropertyReading) (passed : Passed) (answer : Answer) (came_so : Result (List ℕ) ExchangeFault) (result : Ending)
      (told now : Held) (status : ℕ) (before after : Held) (es : List Event)
      → Comes rules (next_way (transactions_with said.asked)) (request.ReadProperty (question said)) said.asked.address es came_so
      → PrintsAnswer (reals_of said.numbers) came_so answer before after → result ≡ of_answer said.asked.address answer → Ends passed result told now status
      → ReadsOnce said es before after status
  rp_prints said passed answer (Ok datagram) result told now status before after es comes prints how ends =
      once rules said.asked (λ r. r ≡ request.ReadProperty (question said)) (request.ReadProperty (question said)) refl (Reading before after) es before after
      passed result told now status (Ok datagram) comes ends
      (λ why not. absurd (let e : Ok datagram ≡ Err why = not in cc))
      (λ other same. rp_shows said.asked.address passed (reals_of said.numbers) (values_in (apdu_in datagram)) answer result told now status before after prints how ends)
  rp_prints said passed answer (Err fault) result told now status before after es comes (same, keeps) how ends =
      once rules said.asked (λ r. r ≡ request.ReadProperty (question said)) (request.ReadProperty (question said)) refl (Reading before after) es before after
      passed result told now status (Err fault) comes ends
      (λ why this. (
        how ∙ ap (of_answer said.asked.address) same
            ∙ ap (λ (f : ExchangeFault). of_answer said.asked.address (Err (Exchange f))) (let e : Err fault ≡ Err why = this in let f : fault ≡ why = cc in f),
        keeps,
      ))
      (λ datagram not. absurd (let e : Err fault ≡ Ok datagram = not in cc))

  -- the text of a status of 0
  zero_shows : (address : List ℕ) (passed : Passed) (reals : Reals) (values : Option (List ℕ)) (answer : Answer) (result : Ending)
      (told now : Held) (status : ℕ) (before after : Held) → PrintsValues reals values answer before after
      → result ≡ of_answer address answer → Ends passed result told now status → status ≡ 0
      → (octets : List ℕ) × (values ≡ Some octets) × (text : List ℕ) × IsShown reals octets text × Appends before after text
  zero_shows address passed reals None answer result told now status before after (same, keeps) how ends none =
      absurd (failed passed result (fault.Exchange address exchange.BadReply) told now status (how ∙ ap (of_answer address) same) ends none)
  zero_shows address passed reals (Some values) (Ok done) result told now status before after prints how ends none = (values, refl, prints.0, prints.1, prints.2)
  zero_shows address passed reals (Some values) (Err Write) result told now status before after prints how ends none =
      absurd (failed passed result fault.Write told now status how ends none)
  zero_shows address passed reals (Some values) (Err Memory) result told now status before after keeps how ends none =
      absurd (failed passed result fault.Memory told now status how ends none)
  zero_shows address passed reals (Some values) (Err (Exchange why)) result told now status before after prints how ends none = absurd prints

  rp_zero : (said : PropertyReading) (passed : Passed) (answer : Answer) (came_so : Result (List ℕ) ExchangeFault) (result : Ending)
      (told now : Held) (status : ℕ) (before after : Held) (es : List Event)
      → Comes rules (next_way (transactions_with said.asked)) (request.ReadProperty (question said)) said.asked.address es came_so
      → PrintsAnswer (reals_of said.numbers) came_so answer before after → result ≡ of_answer said.asked.address answer → Ends passed result told now status
      → status ≡ 0 → PrintsWhatCame said es before after
  rp_zero said passed answer (Ok datagram) result told now status before after es (shape, verdict) prints how ends none =
      let it = zero_shows said.asked.address passed (reals_of said.numbers) (values_in (apdu_in datagram)) answer result told now status before after prints how ends none in
      (shape.2, datagram, shape.3, it.0, it.1, it.2, it.3, it.4)
  rp_zero said passed answer (Err why) result told now status before after es comes (same, keeps) how ends none =
      absurd (failed passed result (fault.Exchange said.asked.address why) told now status (how ∙ ap (of_answer said.asked.address) same) ends none)

  pub rp_all : (said : PropertyReading) (passed : Passed) (old : Outside S) (result : Ending) (new : Outside S) (told now : Held) (status : ℕ)
      → ReadsAsSaid rules said old result new → Ends passed result told now status
      → Does (λ es. ReadsOnce said es old.output new.output status × (status ≡ 0 → PrintsWhatCame said es old.output new.output))
      old.sockets new.sockets
  rp_all said passed old result new told now status (inl (none, (why, keeps, same))) ends =
      let more = failed passed result (fault.BadValue word.Instance) told now status why ends in
      let so = unasked_one status (ended passed result (fault.BadValue word.Instance) told now status why ends) in
      ([], nothing_captured rules traces old.sockets new.sockets same, (inl (refl, keeps, so), λ is. absurd (more is)))
  rp_all said passed old result new told now status (inr (inl (why, opens, is, keeps))) ends =
      let more = failed passed result (fault.Unopened why) told now status is ends in
      let so = unasked_two status (ended passed result (fault.Unopened why) told now status is ends) in (
        [],
        captured_unopened rules traces old.sockets new.sockets (own_address said.asked.local) said.asked.timeout why opens,
        (inl (refl, keeps, so), λ is. absurd (more is)),
      )
  rp_all said passed old result new told now status
      (inr (inr (port, between, last, opens, (answer, left, (came_so, exchanges, prints), at, how), closes))) ends =
      let it = exchanged rules (next_way (transactions_with said.asked)) (request.ReadProperty (question said)) (link_over said.asked.address port) came_so left exchanges in (
        it.1,
        captured_over rules traces it.1 old.sockets between new.sockets (own_address said.asked.local) said.asked.timeout port last opens
            (subst (λ (p : P). Runs rules it.1 port p) (sym at) it.2) closes,
        (
          rp_prints said passed answer came_so result told now status old.output new.output it.1 it.3 prints how ends,
          λ is. rp_zero said passed answer came_so result told now status old.output new.output it.1 it.3 prints how ends is,
        ),
      )
