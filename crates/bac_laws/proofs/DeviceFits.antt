-- What the poll of a device puts of items is what came, or a gap.
use Rattle.std.proofs.Common.{◌≡◌, ◌∙◌, ◌&&◌, ◌||◌, inl, inr, ℕ, Bool, true, false, if◌then◌else◌, is_some, map, List, [], ◌∷◌, ◌++◌}
use Rattle.std.proofs.Common.{Option, None, Some, Ok, refl, sym, ap, subst, append-nil}
use Rattle.std.specs.List.{Contains}
use Rattle.std.specs.Str.{bytes_eq}
use Rattle.std.proofs.lemmas.Bool.{and_parts}
use Rattle.std.proofs.lemmas.List.Elements.{Contains-append_left, Contains-append_right}
use Rattle.std.proofs.lemmas.Slice.Eq.{bytes_eq-Decides}
use Rattle.sqlite_value.specs.Order.{Row as Values}
use Rattle.sqlite_value.specs.declared.value.Value.{Value}
use Rattle.sqlite_value.specs.declared.value.Value.TheVariants.{Text}
use Rattle.bac_answers.specs.declared.reject.NoRoute.{NoRoute}
use Rattle.bac_answers.specs.declared.way.Way.{Way}
use Rattle.bac_plan.specs.Addresses.{peer_in}
use Rattle.bac_wire.specs.Primitive.{Id}
use Rattle.bac_archive.specs.declared.row.Put.{Put}
use Rattle.bac_device_poll.specs.Logs.{after_end}
use Rattle.bac_device_poll.specs.Poll.{asked_of_device}
use Rattle.bac_device_poll.specs.Rejects.{reject_by}
use Rattle.bac_device_poll.specs.State.{DeviceState}
use Rattle.bac_device_poll.specs.Turns.{Turned}
use Rattle.bac_device_poll.specs.Way.{i_am_by}
use Rattle.bac_device_poll.specs.declared.question.Question.{Question}
use Rattle.bac_device_poll.specs.declared.question.Question.TheVariants.{Confirmed, Nothing, WhoIs}
use Rattle.bac_device_poll.specs.declared.task.Polled.{Polled}
use Rattle.bac_device_poll.specs.declared.turn.DeviceEnd.{DeviceEnd}
use Rattle.bac_device_poll.specs.declared.turn.Step.{Step}
use Rattle.bac_device_poll.specs.declared.turn.Step.TheVariants.{Ask, AskLater, End, GoOn}
use Rattle.bac_device_poller.specs.Entries.{RowsAs, with_entries}
use Rattle.bac_device_poller.specs.Poller.{AsksNext, Comes, ComesBy, PollerAs, Settles, TellsNext, lost_of, rows_with, seeks}
use Rattle.bac_device_poller.specs.Poller.{doing_with, is_none_told, stepped}
use Rattle.bac_device_poller.specs.Puts.{PutAs, put_as}
use Rattle.bac_device_poller.specs.Telling.{IsToldBy, LineAs}
use Rattle.bac_device_poller.specs.declared.doing.Came.{Came}
use Rattle.bac_device_poller.specs.declared.doing.Doing.{Doing}
use Rattle.bac_device_poller.specs.declared.doing.Doing.TheVariants as doing
use Rattle.bac_drive.specs.Event.{Event, Waited}
use Rattle.bac_drive.specs.declared.machine.Next.{Next}
use Rattle.bac_drive.specs.declared.machine.Next.TheVariants as next
use Rattle.bac_link.specs.Datagrams.{answers_to}
use Rattle.bac_site_poller.proofs.Sound.{IsSound}
use Rattle.bac_site_poller.specs.Asked.{DidCome, WasAnswered, is_told_by, question_of}
use Rattle.bac_site_poller.specs.Seat.{Wants}
use Rattle.bac_walk.specs.declared.batch.Numbered.{Numbered}
use Rattle.bac_laws.proofs.Answered.{HoldsAt, TurnFits, begins_fits, i_am_fits, loss_fits, reject_fits, takes_fit}
use Rattle.bac_laws.proofs.Replies.{reply_shows}
use Rattle.bac_laws.proofs.RowsFit.{AreLogsOf, Good, IsItemOf, RowsFine, Sound, at_fine, entries_fine, logs_on, turn_rows}
use Rattle.bac_laws.specs.Printed.{HasRecord}
use Rattle.bac_laws.proofs.Shown.{Each}

-- of two the second isn't so
no_other : (b : Bool) → (b || false) ≡ true → b ≡ true
no_other true is = refl
no_other false is = is

module _ (K : ℕ → ℕ → ℕ → Type 0) (V : ℕ → Value → Type 0) where
  -- a record came from the address of a device, of the log with this instance there
  abbrev pub CameIn : List Event → ℕ → ℕ → Numbered → Type 0
  CameIn events device instance held = (address : List ℕ) × V device (Text address) × (from : List ℕ) × (peer_in address ≡ Some from)
      × (datagram : List ℕ) × DidCome events from datagram
      × ((object : Id) × (object.instance ≡ instance) × HasRecord object datagram held.number held.entry)

  -- ---- behind more events

  pub came_later : (events more : List Event) (device instance : ℕ) (held : Numbered) → CameIn events device instance held → CameIn (events ++ more) device instance held
  came_later events more device instance held (address, known, from, peer, datagram, (within, heard, there, at, same), rest) = (
    address,
    known,
    from,
    peer,
    datagram,
    (within, heard, Contains-append_left events more (Waited within (Ok heard)) there, at, same),
    rest,
  )

  pub each_later : (P Q : Numbered → Type 0) → ((h : Numbered) → P h → Q h) → (rs : List Numbered) → Each P rs → Each Q rs
  each_later P Q to [] all = tt
  each_later P Q to (r ∷ rs) all = (to r all.0, each_later P Q to rs all.1)

  abbrev pub Later : (P Q : ℕ → ℕ → Numbered → Type 0) → Type 0
  Later P Q = (device instance : ℕ) (held : Numbered) → P device instance held → Q device instance held

  item_later : (P Q : ℕ → ℕ → Numbered → Type 0) → Later P Q → (log device instance : ℕ) (columns : Values) → IsItemOf K V P log device instance columns
      → IsItemOf K V Q log device instance columns
  item_later P Q to log device instance columns (inl gap) = inl gap
  item_later P Q to log device instance columns (inr (epoch, held, came, same)) = inr (epoch, held, to device instance held came, same)

  good_later : (P Q : ℕ → ℕ → Numbered → Type 0) → Later P Q → (before : List PutAs) (put : PutAs) → Good K V P before put → Good K V Q before put
  good_later P Q to before put good = record {
    item = λ is. let it = good.item is in (it.0, it.1, it.2, it.3, item_later P Q to it.0 it.1 it.2 put.columns it.4);
    log = good.log;
    device = good.device;
  }

  pub sound_later : (P Q : ℕ → ℕ → Numbered → Type 0) → Later P Q → (before puts : List PutAs) → Sound K V P before puts → Sound K V Q before puts
  sound_later P Q to before [] all = tt
  sound_later P Q to before (put ∷ puts) all = (good_later P Q to before put all.0, sound_later P Q to (before ++ put ∷ []) puts all.1)

  -- ---- one device

  -- what the poll of a device holds back came from it, it has nothing to put, and its logs are known, behind such events
  -- and puts
  pub record Fits (events : List Event) (puts : List PutAs) (p : PollerAs) : Type 0 where
    pub device : ℕ
    pub held : HoldsAt (λ log. CameIn events device log.instance) p.poll.polled
    pub empty : p.rows.puts ≡ []
    pub logs : AreLogsOf K V (CameIn events) puts device p.rows.logs
    pub own : (p.rows.device.id ≡ device) × V device p.rows.device.address
    pub at : (address : List ℕ) × V device (Text address) × (peer_in address ≡ Some p.way.peer)

  holds_later : (P Q : Id → Numbered → Type 0) → ((log : Id) (h : Numbered) → P log h → Q log h) → (polled : Option Polled) → HoldsAt P polled → HoldsAt Q polled
  holds_later P Q to None held = tt
  holds_later P Q to (Some q) held = (each_later (P q.log) (Q q.log) (to q.log) q.poll.held held.0, held.1)

  pub fits_later : (events more : List Event) (puts : List PutAs) (p : PollerAs) → Fits events puts p → Fits (events ++ more) puts p
  fits_later events more puts p fits = record {
    device = fits.device;
    held = holds_later (λ log. CameIn events fits.device log.instance) (λ log. CameIn (events ++ more) fits.device log.instance)
        (λ log h came. came_later events more fits.device log.instance h came) p.poll.polled fits.held;
    empty = fits.empty;
    logs = fits.logs;
    own = fits.own;
    at = fits.at;
  }

  fits_behind : (events : List Event) (puts more : List PutAs) (p : PollerAs) → Fits events puts p → Fits events (puts ++ more) p
  fits_behind events puts more p fits = record {
    device = fits.device;
    held = fits.held;
    empty = fits.empty;
    logs = logs_on K V (CameIn events) puts more fits.device p.rows.logs fits.logs;
    own = fits.own;
    at = fits.at;
  }

  -- what is put then
  abbrev pub grown : List PutAs → Next → List PutAs
  grown puts (next.Keep more) = puts ++ map put_as more.items
  grown puts (next.Send octets to) = puts
  grown puts (next.Wait most) = puts
  grown puts next.Read = puts
  grown puts (next.Print text) = puts
  grown puts (next.Warn text) = puts
  grown puts next.End = puts

  pub grown_fits : (events : List Event) (puts : List PutAs) (wanted : Next) (p : PollerAs) → Fits events puts p → Fits events (grown puts wanted) p
  grown_fits events puts (next.Keep more) p fits = fits_behind events puts (map put_as more.items) p fits
  grown_fits events puts (next.Send octets to) p fits = fits
  grown_fits events puts (next.Wait most) p fits = fits
  grown_fits events puts next.Read p fits = fits
  grown_fits events puts (next.Print text) p fits = fits
  grown_fits events puts (next.Warn text) p fits = fits
  grown_fits events puts next.End p fits = fits

  module _ (events : List Event) (before : List PutAs) where
    abbrev P : ℕ → ℕ → Numbered → Type 0
    P = CameIn events

    -- what is to be put is sound
    abbrev pub FineNext : Next → Type 0
    FineNext (next.Keep puts) = Sound K V P before (map put_as puts.items)
    FineNext (next.Send octets to) = Unit {0}
    FineNext (next.Wait most) = Unit {0}
    FineNext next.Read = Unit {0}
    FineNext (next.Print text) = Unit {0}
    FineNext (next.Warn text) = Unit {0}
    FineNext next.End = Unit {0}

    -- what is wanted, and the poll then
    abbrev Wanted : Next → PollerAs → Type 0
    Wanted wanted q = FineNext wanted × Fits events (grown before wanted) q

    step_fits : (Q : Id → Numbered → Type 0) (step : Step) (d : DeviceState) → HoldsAt Q d.polled → HoldsAt Q (stepped step d).device.polled
    step_fits Q GoOn d held = (begins_fits Q d []).1
    step_fits Q Ask d held = held
    step_fits Q AskLater d held = held
    step_fits Q (End why) d held = held

    settled : (t : Turned) (p q : PollerAs) (puts : List Put) (fits : Fits events before p) → TurnFits (λ log. P fits.device log.instance) t → Settles t p puts q
        → Sound K V P before (map put_as puts) × Fits events (before ++ map put_as puts) q
    settled t p q puts fits turn (mid, takes, (put, is)) =
        let D : ℕ = fits.device in
        let u : Turned = stepped t.step t.device in
        let r : RowsAs = rows_with t.entries u (is_some t.device.polled) mid in
        let none : List PutAs = [] in
        let rows : RowsFine K V P before D p.rows = (
          subst (Sound K V P before) (sym fits.empty) tt,
          subst (λ (l : List PutAs). AreLogsOf K V P l D p.rows.logs) (sym (append-nil before) ∙ ap (λ (l : List PutAs). before ++ l) (sym fits.empty)) fits.logs,
          fits.own,
        ) in
        let first : RowsFine K V P before D mid = turn_rows K V P before D t.log t.device.polled p.rows mid rows turn.0 takes in
        let all : RowsFine K V P before D r = at_fine K V P before D u.step (is_some t.device.polled) (with_entries (with_entries mid t.entries) u.entries)
        (entries_fine K V P before D (with_entries mid t.entries) u.entries (entries_fine K V P before D mid t.entries first)) in (
          subst (Sound K V P before) (sym put) all.0,
          subst (λ (x : PollerAs). Fits events (before ++ map put_as puts) x) (sym is) (record {
            device = D;
            held = step_fits (λ log. P D log.instance) t.step t.device turn.1;
            empty = refl;
            logs = subst (λ (l : List PutAs). AreLogsOf K V P (before ++ l) D r.logs) (sym put) all.1;
            own = all.2;
            at = fits.at;
          }),
        )

    -- an answer of the device
    told_fits : (p : PollerAs) (came : Came) (t : Turned) (fits : Fits events before p) → DidCome events came.from came.datagram
        → is_told_by p came.from came.datagram ≡ true → Comes (seeks p) p came t → TurnFits (λ log. P fits.device log.instance) t
    told_fits p came t fits (within, heard, there, at, same) told comes = by (seeks p) refl comes told
      where
        by : (b : Bool) → seeks p ≡ b → Comes b p came t
            → (if b then is_some (i_am_by p.way came.from came.datagram) else (bytes_eq came.from p.way.peer && answers_to (question_of p) came.datagram)) ≡ true
            → TurnFits (λ log. P fits.device log.instance) t
        by true is_so comes fit = subst (TurnFits (λ log. P fits.device log.instance)) (sym comes) (i_am_fits (λ log. P fits.device log.instance) p.poll (i_am_by p.way came.from came.datagram) fits.held)
        by false is_so comes fit =
            let both = and_parts (bytes_eq came.from p.way.peer) (answers_to (question_of p) came.datagram) fit in
            let peer : came.from ≡ p.way.peer = (bytes_eq-Decides came.from p.way.peer).0 both.0 in
            let came_so : DidCome events p.way.peer came.datagram = (within, heard, there, at ∙ peer, same) in
            takes_fit (λ log. P fits.device log.instance) p.poll came.datagram came.at t fits.held
            (λ q L log_is. reply_shows (P fits.device L.instance) q came.datagram
            (λ number entry has. (fits.at.0, fits.at.1, p.way.peer, fits.at.2, came.datagram, came_so, (q.walk.log, ap (λ (x : Id). x.instance) log_is, has)))) comes

    -- what came: that, or its router's word
    came_fits : (p : PollerAs) (came : Came) (t : Turned) (fits : Fits events before p) → WasAnswered events p came.from came.datagram
        → ComesBy (reject_by p.way came.from came.datagram) p came t → TurnFits (λ log. P fits.device log.instance) t
    came_fits p came t fits (front, behind, is, asked, (within, heard, there, at, same), answers) comes =
        by (reject_by p.way came.from came.datagram) answers comes
      where
        all : Contains events (Waited within (Ok heard))
        all = subst (λ (es : List Event). Contains es (Waited within (Ok heard))) (sym is) (Contains-append_right front behind (Waited within (Ok heard)) there)

        by : (o : Option NoRoute) → (is_told_by p came.from came.datagram || is_some o) ≡ true → ComesBy o p came t → TurnFits (λ log. P fits.device log.instance) t
        by None some comes = told_fits p came t fits (within, heard, all, at, same) (no_other (is_told_by p came.from came.datagram) some) comes
        by (Some reject) some comes = subst (TurnFits (λ log. P fits.device log.instance)) (sym comes) (reject_fits (λ log. P fits.device log.instance) p.poll reject fits.held)

    lost_fits : (p : PollerAs) (fits : Fits events before p) → TurnFits (λ log. P fits.device log.instance) (lost_of p)
    lost_fits p fits = by (seeks p)
      where
        by : (b : Bool) → TurnFits (λ log. P fits.device log.instance) (if b then Rattle.bac_device_poll.specs.Identity.after_i_am p.poll None else Rattle.bac_device_poll.specs.Loss.after_loss p.poll)
        by true = i_am_fits (λ log. P fits.device log.instance) p.poll None fits.held
        by false = loss_fits (λ log. P fits.device log.instance) p.poll fits.held

    same_fits : (wanted : Next) (q x : PollerAs) → q ≡ x → Fits events (grown before wanted) x → Fits events (grown before wanted) q
    same_fits wanted q x is fits = subst (λ (y : PollerAs). Fits events (grown before wanted) y) (sym is) fits

    -- the same poll, at something else
    as_was : (wanted : Next) (p : PollerAs) → Fits events before p → Fits events (grown before wanted) p
    as_was wanted p fits = grown_fits events before wanted p fits

    pub read_fine : (wanted : Next) → wanted ≡ next.Read → FineNext wanted
    read_fine wanted is = subst FineNext (sym is) tt

    pub text_fine : (good : Bool) (text : List ℕ) (wanted : Next) → IsToldBy good text wanted → FineNext wanted
    text_fine true text (next.Print line) told = tt
    text_fine true text wanted told = absurd told
    text_fine false text (next.Warn line) told = tt
    text_fine false text wanted told = absurd told

    pub moved : (p q : PollerAs) → q.poll ≡ p.poll → q.way ≡ p.way → q.rows ≡ p.rows → Fits events before p → Fits events before q
    moved p q poll way rows fits = record {
      device = fits.device;
      held = subst (λ (x : DeviceState). HoldsAt (λ log. P fits.device log.instance) x.polled) (sym poll) fits.held;
      empty = ap (λ (x : RowsAs). x.puts) rows ∙ fits.empty;
      logs = subst (λ (x : RowsAs). AreLogsOf K V P before fits.device x.logs) (sym rows) fits.logs;
      own = subst (λ (x : RowsAs). (x.device.id ≡ fits.device) × V fits.device x.device.address) (sym rows) fits.own;
      at = (fits.at.0, fits.at.1, fits.at.2 ∙ ap (λ (x : Way). Some x.peer) (sym way));
    }

    asks_fits : (k : Question) (p q : PollerAs) (wanted : Next) → Fits events before p → AsksNext k p wanted q → Wanted wanted q
    asks_fits (Confirmed request) p q (next.Send octets to) fits g =
        (tt, moved p q (ap (λ (x : PollerAs). x.poll) g.2) (ap (λ (x : PollerAs). x.way) g.2) (ap (λ (x : PollerAs). x.rows) g.2) fits)
    asks_fits (Confirmed request) p q wanted fits g = absurd g
    asks_fits WhoIs p q (next.Send octets to) fits g =
        (tt, moved p q (ap (λ (x : PollerAs). x.poll) g.2) (ap (λ (x : PollerAs). x.way) g.2) (ap (λ (x : PollerAs). x.rows) g.2) fits)
    asks_fits WhoIs p q wanted fits g = absurd g
    asks_fits Nothing p q (next.Keep puts) fits g =
        settled (after_end p.poll) p q puts.items fits (begins_fits (λ log. P fits.device log.instance) p.poll []) g
    asks_fits Nothing p q wanted fits g = absurd g

    -- a line is told, or nothing
    lines_fits : (lines : List LineAs) (p : PollerAs) (what : Doing) → Fits events before p → Fits events before (record p { doing = what; rows = record p.rows { lines = lines } })
    lines_fits lines p what fits = record { device = fits.device; held = fits.held; empty = fits.empty; logs = fits.logs; own = fits.own; at = fits.at }

    tells_fits : (lines : List LineAs) (end : Option DeviceEnd) (p q : PollerAs) (wanted : Next) → Fits events before p → TellsNext lines end p wanted q
        → Wanted wanted q
    tells_fits (line ∷ lines) end p q wanted fits g = (
      text_fine line.good line.text wanted g.0,
      same_fits wanted q _ g.1 (as_was wanted (record p { doing = doing_with end (is_none_told lines); rows = record p.rows { lines = lines } }) (lines_fits lines p (doing_with end (is_none_told lines)) fits)),
    )
    tells_fits [] end p q wanted fits g = (
      read_fine wanted g.0,
      as_was wanted q (moved p q (ap (λ (x : PollerAs). x.poll) g.1) (ap (λ (x : PollerAs). x.way) g.1) (ap (λ (x : PollerAs). x.rows) g.1) fits),
    )

    pub wants_fits : (what : Doing) (p q : PollerAs) (wanted : Next) → IsSound events p what → Fits events before p → Wants what p wanted q → Wanted wanted q
    wants_fits doing.Asks p q wanted sound fits g = asks_fits (asked_of_device p.poll) p q wanted fits g
    wants_fits (doing.Resends datagram) p q (next.Send octets to) sound fits g =
        (tt, moved p q (ap (λ (x : PollerAs). x.poll) g.2) (ap (λ (x : PollerAs). x.way) g.2) (ap (λ (x : PollerAs). x.rows) g.2) fits)
    wants_fits (doing.Resends datagram) p q wanted sound fits g = absurd g
    wants_fits doing.Waits p q wanted sound fits g = (read_fine wanted g.0, same_fits wanted q p g.1 (as_was wanted p fits))
    wants_fits (doing.Hears came) p q (next.Keep puts) sound fits (t, comes, settles) = settled t p q puts.items fits (came_fits p came t fits sound.1 comes) settles
    wants_fits (doing.Hears came) p q wanted sound fits g = absurd g
    wants_fits doing.Loses p q (next.Keep puts) sound fits g = settled (lost_of p) p q puts.items fits (lost_fits p fits) g
    wants_fits doing.Loses p q wanted sound fits g = absurd g
    wants_fits (doing.Tells end) p q wanted sound fits g = tells_fits p.rows.lines end p q wanted fits g
    wants_fits (doing.Ended why) p q wanted sound fits g = (read_fine wanted g.0, same_fits wanted q p g.1 (as_was wanted p fits))
