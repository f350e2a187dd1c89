-- What a site puts of items is what came, or a gap.
use Rattle.std.proofs.Common.{◌≡◌, ◌∙◌, ◌+◌, inl, inr, ℕ, Bool, true, false, if◌then◌else◌, max, map, List, [], ◌∷◌, ◌++◌, All, remove}
use Rattle.std.proofs.Common.{Option, None, Some, Ok, Err, refl, sym, ap, subst, append_assoc, append-nil, nat_le, nat_lt}
use Rattle.std.proofs.lemmas.List.Elements.{All-map, All-nil, All-push, All-weaker}
use Rattle.sqlite_value.specs.declared.value.Value.{Value}
use Rattle.bac_device_poller.specs.declared.ids.Ids.{Ids}
use Rattle.bac_wire.specs.Stamp.{CivilTime}
use Rattle.bac_archive.specs.declared.row.Put.{Put}
use Rattle.bac_device_poller.specs.Poller.{PollerAs, heard_by, hearing, is_answer, missed, seeks}
use Rattle.bac_device_poller.specs.Poller.{given_up, sought_again, without_answer}
use Rattle.bac_device_poller.specs.Puts.{PutAs, put_as}
use Rattle.bac_device_poller.specs.declared.doing.Doing.{Doing}
use Rattle.bac_device_poller.specs.declared.doing.Doing.TheVariants as doing
use Rattle.bac_drive.specs.Chain.{Chain}
use Rattle.bac_drive.specs.Event.{Event, Kept, Printed, Read, Sent, Waited, Warned}
use Rattle.bac_drive.specs.Happens.{Does}
use Rattle.bac_drive.specs.Laws.{puts_of}
use Rattle.bac_drive.specs.declared.machine.Next.{Next}
use Rattle.bac_drive.specs.declared.machine.Next.TheVariants as next
use Rattle.bac_link.specs.declared.transactions.Pending.{Pending}
use Rattle.bac_ports.specs.Port.{Receiving}
use Rattle.bac_site_poller.proofs.Places.{at_place, but_one}
use Rattle.bac_site_poller.proofs.Seated.{Queues, Seated, Sits, sits_sent, told_seated, unasked_seated, wants_seated}
use Rattle.bac_site_poller.proofs.Sound.{lent_sound}
use Rattle.bac_site_poller.proofs.Strays.{all_heeded}
use Rattle.bac_site_poller.proofs.Told.{ToldSite, told_site}
use Rattle.bac_site_poller.specs.Seat.{is_due, lent, seat_heard, seat_read, sent_at}
use Rattle.bac_site_poller.specs.Site.{GivesFrom, GivesNews, GivesWaiting, Rests, SiteState, due_from, given, is_asked_at, noted, put_by, site_heard, site_read}
use Rattle.bac_site_poller.specs.News.{news_line}
use Rattle.bac_site_poller.specs.SiteLaws.{SiteSteps}
use Rattle.bac_site_poller.specs.declared.news.News.{News}
use Rattle.bac_site_poller.specs.declared.seat.Seat.{Seat}
use Rattle.bac_laws.proofs.DeviceFits.{CameIn, FineNext, Fits, came_later, fits_later, grown, grown_fits, moved, read_fine, sound_later, text_fine, wants_fits}
use Rattle.bac_laws.proofs.RowsFit.{Sound, sound_on}

module _ (K : ℕ → ℕ → ℕ → Type 0) (V : ℕ → Value → Type 0) where
  -- ---- all devices of a site

  -- so it is of each of its devices
  pub record AllFit (events : List Event) (puts : List PutAs) (s : SiteState) : Type 0 where
    pub active : All (λ seat. Fits K V events puts seat.poller) s.active
    pub waiting : All (λ seat. Fits K V events puts seat.poller) s.waiting

  site_later : (events more : List Event) (puts : List PutAs) (s : SiteState) → AllFit events puts s → AllFit (events ++ more) puts s
  site_later events more puts s all = record {
    active = All-weaker (λ seat. Fits K V events puts seat.poller) (λ seat. Fits K V (events ++ more) puts seat.poller) (λ seat fits. fits_later K V events more puts seat.poller fits) s.active all.active;
    waiting = All-weaker (λ seat. Fits K V events puts seat.poller) (λ seat. Fits K V (events ++ more) puts seat.poller) (λ seat fits. fits_later K V events more puts seat.poller fits) s.waiting all.waiting;
  }

  site_grown : (events : List Event) (puts : List PutAs) (wanted : Next) (s : SiteState) → AllFit events puts s → AllFit events (grown K V puts wanted) s
  site_grown events puts wanted s all = record {
    active = All-weaker (λ seat. Fits K V events puts seat.poller) (λ seat. Fits K V events (grown K V puts wanted) seat.poller) (λ seat fits. grown_fits K V events puts wanted seat.poller fits) s.active all.active;
    waiting = All-weaker (λ seat. Fits K V events puts seat.poller) (λ seat. Fits K V events (grown K V puts wanted) seat.poller) (λ seat fits. grown_fits K V events puts wanted seat.poller fits) s.waiting all.waiting;
  }

  module _ (events : List Event) (before : List PutAs) where
    active_more : (s : SiteState) (seat : Seat) → AllFit events before s → Fits K V events before seat.poller → AllFit events before (record s { active = s.active ++ seat ∷ [] })
    active_more s seat all fits = record { active = All-push (λ x. Fits K V events before x.poller) s.active seat all.active fits; waiting = all.waiting }

    put_fits : (what : Doing) (s : SiteState) (seat : Seat) → AllFit events before s → Fits K V events before seat.poller → AllFit events before (put_by what s seat)
    put_fits doing.Asks s seat all fits =
        let again : Seat = record seat { is_repeated = false; stray = None } in
        record { active = all.active; waiting = All-push (λ x. Fits K V events before x.poller) s.waiting again all.waiting fits }
    put_fits doing.Waits s seat all fits = active_more s (record seat { due = due_from s }) all fits
    put_fits (doing.Resends datagram) s seat all fits = active_more s seat all fits
    put_fits (doing.Hears came) s seat all fits = active_more s seat all fits
    put_fits doing.Loses s seat all fits = active_more s seat all fits
    put_fits (doing.Tells end) s seat all fits = active_more s seat all fits
    put_fits (doing.Ended why) s seat all fits = record { active = all.active; waiting = all.waiting }

    lent_fits : (ids : Ids) (p : PollerAs) → Fits K V events before p → Fits K V events before (lent ids p)
    lent_fits ids p fits = record { device = fits.device; held = fits.held; empty = fits.empty; logs = fits.logs; own = fits.own; at = fits.at }

    heard_fits : (from datagram : List ℕ) (now : CivilTime) (p : PollerAs) → Fits K V events before p → Fits K V events before (heard_by from datagram now p)
    heard_fits from datagram now p fits = by (is_answer p from datagram)
      where
        by : (b : Bool) → Fits K V events before (if b then hearing from datagram now p else p)
        by true = record { device = fits.device; held = fits.held; empty = fits.empty; logs = fits.logs; own = fits.own; at = fits.at }
        by false = fits

    both_fit : (b : Bool) (p q : PollerAs) → Fits K V events before p → Fits K V events before q → Fits K V events before (if b then p else q)
    both_fit true p q f g = f
    both_fit false p q f g = g

    again_fits : (p q : PollerAs) → q.poll ≡ p.poll → q.way ≡ p.way → q.rows ≡ p.rows → Fits K V events before p → Fits K V events before q
    again_fits p q poll way rows fits = moved K V events before p q poll way rows fits

    without_fits : (p : PollerAs) (pending : Option Pending) → Fits K V events before p → Fits K V events before (without_answer p pending)
    without_fits p None fits = again_fits p (given_up p) refl refl refl fits
    without_fits p (Some request) fits =
        let again : PollerAs = record p {
          transactions = record p.transactions { pending = Some (record request { repeats = request.repeats + 1 }) };
          doing = doing.Resends request.request;
        } in
        both_fit (nat_le p.transactions.retries request.repeats) (given_up p) again
        (again_fits p (given_up p) refl refl refl fits) (again_fits p again refl refl refl fits)

    missed_fits : (p : PollerAs) → Fits K V events before p → Fits K V events before (missed p)
    missed_fits p fits =
        let again : PollerAs = record p { sought = p.sought + 1; doing = doing.Resends (Rattle.bac_device_poll.specs.Way.who_is_octets p.way.route) } in
        both_fit (seeks p) (sought_again p) (if p.poll.doubt then given_up p else without_answer p p.transactions.pending)
        (both_fit (nat_lt p.sought p.retries) again (given_up p) (again_fits p again refl refl refl fits) (again_fits p (given_up p) refl refl refl fits))
        (both_fit p.poll.doubt (given_up p) (without_answer p p.transactions.pending) (again_fits p (given_up p) refl refl refl fits) (without_fits p p.transactions.pending fits))

    read_fits : (now : ℕ) (s : Seat) → Fits K V events before s.poller → Fits K V events before (seat_read now s).poller
    read_fits now s fits = by (is_due now s)
      where
        by : (b : Bool) → Fits K V events before (if b then record s { poller = missed s.poller; is_repeated = true } else s).poller
        by true = missed_fits s.poller fits
        by false = fits

    site_read_fits : (ms : ℕ) (s : SiteState) → AllFit events before s → AllFit events before (site_read ms s)
    site_read_fits ms s all = record {
      active = All-map (λ x. Fits K V events before x.poller) (seat_read (max s.time ms)) s.active
          (All-weaker (λ x. Fits K V events before x.poller) (λ x. Fits K V events before (seat_read (max s.time ms) x).poller) (λ x fits. read_fits (max s.time ms) x fits) s.active all.active);
      waiting = all.waiting;
    }

    site_heard_fits : (now : CivilTime) (heard : Receiving) (s : SiteState) → AllFit events before s → AllFit events before (site_heard now heard s)
    site_heard_fits now (Err fault) s all = record { active = all.active; waiting = all.waiting }
    site_heard_fits now (Ok heard) s all = record { active = by heard.datagram; waiting = all.waiting }
      where
        by : (o : Option (List ℕ)) → All (λ x. Fits K V events before x.poller) (given (is_asked_at s heard.from) heard.from o now s.active)
        by None = all.active
        by (Some datagram) =
            all_heeded (λ x. Fits K V events before x.poller) heard.from datagram (λ x fits. fits) (is_asked_at s heard.from) (map (seat_heard heard.from datagram now) s.active)
            (All-map (λ x. Fits K V events before x.poller) (seat_heard heard.from datagram now) s.active
            (All-weaker (λ x. Fits K V events before x.poller) (λ x. Fits K V events before (seat_heard heard.from datagram now x).poller) (λ x fits. heard_fits heard.from datagram now x.poller fits) s.active all.active))

    site_told_fits : (e : Event) (mid new : SiteState) → AllFit events before mid → ToldSite mid e new → AllFit events before new
    site_told_fits (Waited within heard) mid new all (now, moment, is) = subst (AllFit events before) (sym is) (site_heard_fits now heard mid all)
    site_told_fits (Read ms) mid new all is = subst (AllFit events before) (sym is) (site_read_fits ms mid all)
    site_told_fits (Sent octets to answer) mid new all is = subst (AllFit events before) (sym is) all
    site_told_fits (Kept puts) mid new all is = subst (AllFit events before) (sym is) all
    site_told_fits (Printed text) mid new all is = subst (AllFit events before) (sym is) all
    site_told_fits (Warned text) mid new all is = subst (AllFit events before) (sym is) all

    -- what is wanted, and the site then
    abbrev SiteWanted : Next → SiteState → Type 0
    SiteWanted wanted new = FineNext K V events before wanted × AllFit events (grown K V before wanted) new

  module _ (events : List Event) (before : List PutAs) where
    from_fits : (start : List Seat) (old : SiteState) (s : Seat) (wanted : Next) (new : SiteState) → AllFit events before old → Fits K V events before s.poller → Sits start events s
        → GivesFrom old s wanted new → SiteWanted events before wanted new
    from_fits start old s wanted new all fits sits (p, gives, is) =
        let it = wants_fits K V events before s.poller.doing (lent old.ids s.poller) p wanted (lent_sound old.ids events s.poller s.poller.doing sits.sound)
        (lent_fits events before old.ids s.poller fits) gives in
        let less : SiteState = record old { ids = p.rows.ids } in
        let same : AllFit events before less = record { active = all.active; waiting = all.waiting } in
        let seat : Seat = record s { poller = p } in
        (it.0, subst (AllFit events (grown K V before wanted)) (sym is) (put_fits events (grown K V before wanted) p.doing less seat (site_grown events before wanted less same) it.1))

    rest_fine : (s : SiteState) (wanted : Next) → Rests s wanted → FineNext K V events before wanted
    rest_fine s (next.Wait most) rests = tt
    rest_fine s next.End rests = tt
    rest_fine s (next.Keep puts) rests = absurd rests
    rest_fine s (next.Send octets to) rests = tt
    rest_fine s next.Read rests = tt
    rest_fine s (next.Print text) rests = tt
    rest_fine s (next.Warn text) rests = tt

    waiting_fits : (start : List Seat) (stale : Bool) (old : SiteState) (wanted : Next) (new : SiteState) → AllFit events before old → Seated start events old
        → GivesWaiting stale old wanted new → SiteWanted events before wanted new
    waiting_fits start true old wanted new all seated (is, same) =
        (read_fine K V events before wanted is, subst (AllFit events (grown K V before wanted)) (sym same) (site_grown events before wanted old all))
    waiting_fits start false old wanted new all seated (inl (place, s, there, asked, gives)) =
        let less : SiteState = record old { waiting = remove old.waiting place } in
        let fewer : AllFit events before less = record { active = all.active; waiting = but_one (λ x. Fits K V events before x.poller) old.waiting place all.waiting } in
        from_fits start less (sent_at old.time s) wanted new fewer (at_place (λ x. Fits K V events before x.poller) old.waiting place s all.waiting there)
        (sits_sent start events old.time s (at_place (Queues start) old.waiting place s seated.waiting there)) gives
    waiting_fits start false old wanted new all seated (inr (none, rests, same)) =
        (rest_fine old wanted rests, subst (AllFit events (grown K V before wanted)) (sym same) (site_grown events before wanted old all))

    news_fits : (start : List Seat) (l : List News) (old : SiteState) (wanted : Next) (new : SiteState) → AllFit events before old → Seated start events old
        → GivesNews l old wanted new → SiteWanted events before wanted new
    news_fits start (news ∷ others) old wanted new all seated (told, is) =
        let less : SiteState = record old { news = others } in
        let same : AllFit events before less = record { active = all.active; waiting = all.waiting } in
        (text_fine K V events before false (news_line news) wanted told, subst (AllFit events (grown K V before wanted)) (sym is) (site_grown events before wanted less same))
    news_fits start [] old wanted new all seated (inl (place, s, there, not, gives)) =
        let less : SiteState = noted (record old { active = remove old.active place }) s in
        let fewer : AllFit events before less = record { active = but_one (λ x. Fits K V events before x.poller) old.active place all.active; waiting = all.waiting } in
        from_fits start less s wanted new fewer (at_place (λ x. Fits K V events before x.poller) old.active place s all.active there)
        (at_place (Sits start events) old.active place s seated.active there) gives
    news_fits start [] old wanted new all seated (inr (none, gives)) = waiting_fits start old.is_stale old wanted new all seated gives

  -- ---- one event after the other

  -- what an event puts
  event_fine : (events : List Event) (before : List PutAs) (e : Event) (wanted : Next) → FineNext K V events before wanted → Does wanted e
      → Sound K V (CameIn K V events) before (map put_as (puts_of (e ∷ []))) × (grown K V before wanted ≡ before ++ map put_as (puts_of (e ∷ [])))
  event_fine events before (Sent octets to answer) (next.Send sent peer) fine does = (tt, sym (append-nil before))
  event_fine events before (Sent octets to answer) wanted fine does = absurd does
  event_fine events before (Waited within heard) (next.Wait most) fine does = (tt, sym (append-nil before))
  event_fine events before (Waited within heard) wanted fine does = absurd does
  event_fine events before (Read ms) next.Read fine does = (tt, sym (append-nil before))
  event_fine events before (Read ms) wanted fine does = absurd does
  event_fine events before (Printed text) (next.Print line) fine does = (tt, sym (append-nil before))
  event_fine events before (Printed text) wanted fine does = absurd does
  event_fine events before (Warned text) (next.Warn line) fine does = (tt, sym (append-nil before))
  event_fine events before (Warned text) wanted fine does = absurd does
  event_fine events before (Kept puts) (next.Keep all) fine does =
      let same : all.items ≡ puts ++ [] = sym does ∙ sym (append-nil puts) in (
        subst (λ (l : List Put). Sound K V (CameIn K V events) before (map put_as l)) same fine,
        ap (λ (l : List Put). before ++ map put_as l) same,
      )
  event_fine events before (Kept puts) wanted fine does = absurd does

  first_puts : (e : Event) (es : List Event) → puts_of (e ∷ es) ≡ puts_of (e ∷ []) ++ puts_of es
  first_puts (Sent octets to answer) es = refl
  first_puts (Waited within heard) es = refl
  first_puts (Read ms) es = refl
  first_puts (Kept puts) es = ap (λ (l : List Put). l ++ puts_of es) (sym (append-nil puts))
  first_puts (Printed text) es = refl
  first_puts (Warned text) es = refl

  pub mapped : (xs ys : List Put) → map put_as (xs ++ ys) ≡ map put_as xs ++ map put_as ys
  mapped [] ys = refl
  mapped (x ∷ xs) ys = ap (λ (l : List PutAs). put_as x ∷ l) (mapped xs ys)

  chain_fits : (start : List Seat) (front : List Event) (before : List PutAs) (es : List Event) (old new : SiteState) → Seated start front old → AllFit front before old
      → Chain SiteSteps old es new → Sound K V (CameIn K V (front ++ es)) before (map put_as (puts_of es))
  chain_fits start front before [] old new seated all same = tt
  chain_fits start front before (e ∷ es) old new seated all (mid, (wanted, half, gives, does, is), more) =
      let told = told_site half mid e is in
      let one = told_seated start front e half mid (wants_seated start front e old wanted half seated gives does) told in
      let wants = news_fits front before start old.news old wanted half all seated gives in
      let first = event_fine front before e wanted wants.0 does in
      let now : List PutAs = before ++ map put_as (puts_of (e ∷ [])) in
      let half_fits : AllFit front now half = subst (λ (l : List PutAs). AllFit front l half) first.1 wants.1 in
      let next_fits : AllFit (front ++ e ∷ []) now mid = site_later front (e ∷ []) now mid (site_told_fits front now e half mid half_fits told) in
      let rest : Sound K V (CameIn K V (front ++ e ∷ es)) now (map put_as (puts_of es)) =
      subst (λ (l : List Event). Sound K V (CameIn K V l) now (map put_as (puts_of es))) (append_assoc front (e ∷ []) es)
      (chain_fits start (front ++ e ∷ []) now es mid new one next_fits more) in
      let this : Sound K V (CameIn K V (front ++ e ∷ es)) before (map put_as (puts_of (e ∷ []))) =
      sound_later K V (CameIn K V front) (CameIn K V (front ++ e ∷ es)) (λ device instance held came. came_later K V front (e ∷ es) device instance held came) before (map put_as (puts_of (e ∷ []))) first.0 in
      subst (λ (l : List Put). Sound K V (CameIn K V (front ++ e ∷ es)) before (map put_as l)) (sym (first_puts e es))
      (subst (Sound K V (CameIn K V (front ++ e ∷ es)) before) (sym (mapped (puts_of (e ∷ [])) (puts_of es)))
      (sound_on K V (CameIn K V (front ++ e ∷ es)) before (map put_as (puts_of (e ∷ []))) (map put_as (puts_of es)) this rest))

  -- what a site puts is sound
  pub site_fits : (old new : SiteState) (es : List Event) → Rattle.bac_site_poller.specs.SiteLaws.IsUnasked old → All (λ seat. Fits K V [] [] seat.poller) old.waiting → Chain SiteSteps old es new
      → Sound K V (CameIn K V es) [] (map put_as (puts_of es))
  site_fits old new es unasked fits chain =
      chain_fits old.waiting [] [] es old new (unasked_seated old unasked)
      (record { active = subst (λ (l : List Seat). All (λ seat. Fits K V [] [] seat.poller) l) (sym unasked.0) (All-nil (λ seat. Fits K V [] [] seat.poller)); waiting = fits }) chain
