-- The status of a device's poll rises by what is told, and by why it is left.
use Rattle.std.proofs.Common.{◌≡◌, ◌⊎◌, ◌∙◌, ◌≤◌, ◌<◌, inl, inr, ℕ, min, nat_lt, Bool, true, false, if◌then◌else◌, List, [], ◌∷◌}
use Rattle.std.proofs.Common.{◌++◌, Option, Some, None, refl, sym, ap, subst, arith, is_some}
use Rattle.std.proofs.lemmas.Bool.{ltb-false, ltb-true}
use Rattle.std.proofs.lemmas.List.Elements.{Contains-append_left, Contains-push}
use Rattle.bac_wire.specs.Primitive.{Id}
use Rattle.bac_archive.specs.declared.row.Put.{Put}
use Rattle.bac_answers.specs.declared.entry.Entry.{Entry}
use Rattle.bac_answers.specs.declared.entry.Entry.TheVariants.{Added, Another, Clock, Known, KnownNow, Named}
use Rattle.bac_answers.specs.declared.entry.Entry.TheVariants.{NotAsked, Others, Read, Rejected, Unlisted, Untold}
use Rattle.bac_answers.specs.declared.entry.Naming.{Naming}
use Rattle.bac_answers.specs.declared.who.Who.{Who}
use Rattle.bac_answers.specs.declared.who.Who.TheVariants.{Address, Device, Name}
use Rattle.bac_wire.specs.Stamp.{CivilTime}
use Rattle.bac_poll.specs.State.{ToldAs}
use Rattle.bac_poll.specs.Turns.{Turned as LogTurned}
use Rattle.bac_poll_steps.specs.declared.turn.Line.{Line}
use Rattle.bac_poll_steps.specs.declared.turn.PollEnd.TheVariants.{CaughtUp, Contradicts, Fault, NoneByNumber}
use Rattle.bac_poll_steps.specs.declared.turn.PollEnd.TheVariants.{SaysMore, ShowsNone}
use Rattle.bac_drive.specs.declared.machine.Next.{Next}
use Rattle.bac_drive.specs.declared.machine.Next.TheVariants as next
use Rattle.bac_device_poll.specs.Logs.{after_end}
use Rattle.bac_device_poll.specs.Poll.{asked_of_device}
use Rattle.bac_device_poll.specs.Turns.{Turned}
use Rattle.bac_device_poll.specs.declared.question.Question.{Question}
use Rattle.bac_device_poll.specs.declared.question.Question.TheVariants.{Confirmed, Nothing, WhoIs}
use Rattle.bac_device_poll.specs.declared.task.Polled.{Polled}
use Rattle.bac_device_poll.specs.declared.turn.DeviceEnd.{DeviceEnd}
use Rattle.bac_device_poll.specs.declared.turn.DeviceEnd.TheVariants.{Done as IsDone, Foreign, Silent, Unreached}
use Rattle.bac_device_poll.specs.declared.turn.Step.{Step}
use Rattle.bac_device_poll.specs.declared.turn.Step.TheVariants.{Ask, AskLater, End, GoOn}
use Rattle.bac_device_poller.specs.Ending.{ended_line, is_caught_up, reason_line}
use Rattle.bac_device_poller.specs.Entries.{RowsAs, added_as, failing, log_in, raising, renaming, telling, with_entries}
use Rattle.bac_device_poller.specs.Entries.{knowing, putting_log, telling_any, telling_known, with_entry, with_log, without}
use Rattle.bac_device_poller.specs.Ids.{free_id}
use Rattle.bac_device_poller.specs.Naming.{has_word, with_word}
use Rattle.bac_device_poller.specs.Poller.{Settles, doing_with, end_at, is_none_told, left_at, left_by, lost_of, putting_answered}
use Rattle.bac_device_poller.specs.Poller.{AsksNext, GivesBy, PollerAs, TellsNext, rows_with, stepped}
use Rattle.bac_device_poller.specs.Puts.{PlaceAs, PutAs}
use Rattle.bac_device_poller.specs.Rows.{LogAs}
use Rattle.bac_device_poller.specs.Status.{code, greater_of, status_at, status_of}
use Rattle.bac_device_poller.specs.StatusLaws.{HasWarning, LogsAreCounted, RisesAsTold, StatusIsTold, end_status, left_status}
use Rattle.bac_device_poller.specs.Telling.{LineAs, unlisted_line, unlisted_reason}
use Rattle.bac_device_poller.specs.Turns.{TakesLog, TakesOf, ended_by, ending_of, keeping, next_behind, retelling}
use Rattle.bac_device_poller.specs.Turns.{telling_any_end, telling_end, telling_ending, telling_line, telling_turn, turning}
use Rattle.bac_device_poller.specs.declared.doing.Doing.{Doing}
use Rattle.bac_device_poller.specs.declared.doing.Doing.TheVariants as doing
use Rattle.bac_device_poller.specs.declared.ending.Ending.{Ending}
use Rattle.bac_device_poller.specs.declared.ending.Ending.TheVariants.{Epochs, NotAsked as LogNotAsked, Poll}
use Rattle.bac_device_poller.specs.declared.ending.Ending.TheVariants.{StepLimit as AtLimit}
use Rattle.bac_device_poller.specs.declared.status.Status.{Status}
use Rattle.bac_device_poller.specs.declared.status.Status.TheVariants.{BadReply, Done, File, NoReply, Refused, StepLimit}

-- ---- the greater one of two

pub greater_left : (a b : Status) → code a ≤ code (greater_of a b)
greater_left a b = by (nat_lt (code a) (code b)) refl
  where
    by : (t : Bool) → nat_lt (code a) (code b) ≡ t → code a ≤ code (if t then b else a)
    by true less = omega (arith, ltb-true (code a) (code b) less)
    by false less = omega arith

pub greater_right : (a b : Status) → code b ≤ code (greater_of a b)
greater_right a b = by (nat_lt (code a) (code b)) refl
  where
    by : (t : Bool) → nat_lt (code a) (code b) ≡ t → code b ≤ code (if t then b else a)
    by true less = omega arith
    by false less = omega (arith, ltb-false (code a) (code b) less)

greater_done : (a : Status) → greater_of a Done ≡ a
greater_done Done = refl
greater_done NoReply = refl
greater_done Refused = refl
greater_done BadReply = refl
greater_done File = refl
greater_done StepLimit = refl

-- ---- rows

-- some rows became others: a status rises with a line that goes to the errors alone, and lines stay
record Grows (r s : RowsAs) : Type 0 where
  pub rises : code r.status ≤ code s.status
  pub told : (s.status ≡ r.status) ⊎ HasWarning s.lines
  pub lines : HasWarning r.lines → HasWarning s.lines

chained : {r s t : RowsAs} → Grows r s → Grows s t → Grows r t
chained {r = r} {s = s} {t = t} a b = record {
  rises = let x = a.rises in let y = b.rises in omega (arith, x, y);
  told = by b.told a.told;
  lines = λ w. b.lines (a.lines w);
}
  where
    by : (t.status ≡ s.status) ⊎ HasWarning t.lines → (s.status ≡ r.status) ⊎ HasWarning s.lines → (t.status ≡ r.status) ⊎ HasWarning t.lines
    by (inl same) (inl before) = inl (same ∙ before)
    by (inl same) (inr warned) = inr (b.lines warned)
    by (inr warned) before = inr warned

-- the same status, and the same lines
still : (r s : RowsAs) → s.status ≡ r.status → s.lines ≡ r.lines → Grows r s
still r s same lines = record {
  rises = let e = ap code same in omega (arith, e);
  told = inl same;
  lines = λ w. subst HasWarning (sym lines) w;
}

more : (lines others : List LineAs) → HasWarning lines → HasWarning (lines ++ others)
more lines others (line, within, bad) = (line, Contains-append_left lines others line within, bad)

tells : (r : RowsAs) (good : Bool) (text : List ℕ) → Grows r (telling r good text)
tells r good text = record {
  rises = omega arith;
  told = inl refl;
  lines = λ w. more r.lines (record { good = good; text = text } ∷ []) w;
}

fails : (r : RowsAs) (status : Status) (text : List ℕ) → Grows r (failing r status text)
fails r status text =
    let line : LineAs = record { good = false; text = text } in
    record {
      rises = greater_left r.status status;
      told = inr (line, Contains-push r.lines line, refl);
      lines = λ w. more r.lines (line ∷ []) w;
    }

-- ---- entries

added_grows : (id : Option ℕ) (r : RowsAs) (log : Id) → Grows r (added_as id r log)
added_grows None r log = fails r File _
added_grows (Some id) r log = record { rises = omega arith; told = inl refl; lines = λ w. more r.lines _ w }

renaming_grows : (o : Option LogAs) (r : RowsAs) (naming : Naming) → Grows r (renaming o r naming)
renaming_grows None r naming = still r r refl refl
renaming_grows (Some l) r naming = still r (renaming (Some l) r naming) refl refl

-- the device is known by this
known_grows : (r : RowsAs) (who : Who) → Grows r (telling_known r who)
known_grows r (Device device) = still r r refl refl
known_grows r (Name name) = still r r refl refl
known_grows r Address = tells r false _

-- a line more, if there is one
any_grows : (r : RowsAs) (text : Option (List ℕ)) → Grows r (telling_any r text)
any_grows r None = still r r refl refl
any_grows r (Some text) = tells r false text

entry_grows : (r : RowsAs) (e : Entry) → Grows r (with_entry r e)
entry_grows r (Known who) = chained (still r (knowing r who) refl refl) (known_grows (knowing r who) who)
entry_grows r (KnownNow who) = chained (still r (knowing r who) refl refl) (tells (knowing r who) true _)
entry_grows r (Another who) = tells r false _
entry_grows r Untold = tells r false _
entry_grows r (Rejected reject) = tells r false _
entry_grows r (Clock offset) = still r (with_entry r (Clock offset)) refl refl
entry_grows r (Added log) = added_grows (free_id r.ids) r log
entry_grows r (Unlisted why) =
    let s : RowsAs = failing r (status_of (Poll (Fault why))) (unlisted_line r.called why) in
    chained (fails r (status_of (Poll (Fault why))) (unlisted_line r.called why)) (any_grows s (unlisted_reason r.called why))
entry_grows r (Others others) = tells r false _
entry_grows r (Named log naming) = chained (still r (without log r) refl refl) (renaming_grows (log_in log r.logs) (without log r) naming)
entry_grows r (Read revision) = still r (with_entry r (Read revision)) refl refl
entry_grows r (NotAsked log) = fails r NoReply _

entries_grow : (r : RowsAs) (es : List Entry) → Grows r (with_entries r es)
entries_grow r [] = still r r refl refl
entries_grow r (e ∷ es) = chained (entry_grows r e) (entries_grow (with_entry r e) es)

-- ---- a turn of a log

ended_grows : (r : RowsAs) (called : List ℕ) (why : Ending) (next : ℕ) → Grows r (telling_end r called why next)
ended_grows r called why next = record {
  rises = greater_left r.status (status_of why);
  told = by why;
  lines = λ w. more r.lines _ w;
}
  where
    bad : (w : Ending) → is_caught_up w ≡ false → HasWarning (telling_end r called w next).lines
    bad w is =
        let line : LineAs = record { good = is_caught_up w; text = ended_line called r.kept w next } in
        (line, Contains-push r.lines line, is)

    by : (w : Ending) → (greater_of r.status (status_of w) ≡ r.status) ⊎ HasWarning (telling_end r called w next).lines
    by (Poll CaughtUp) = inl (greater_done r.status)
    by (Poll SaysMore) = inr (bad (Poll SaysMore) refl)
    by (Poll ShowsNone) = inr (bad (Poll ShowsNone) refl)
    by (Poll NoneByNumber) = inr (bad (Poll NoneByNumber) refl)
    by (Poll Contradicts) = inr (bad (Poll Contradicts) refl)
    by (Poll (Fault fault)) = inr (bad (Poll (Fault fault)) refl)
    by AtLimit = inr (bad AtLimit refl)
    by Epochs = inr (bad Epochs refl)
    by LogNotAsked = inr (bad LogNotAsked refl)

ending_grows : (r : RowsAs) (called : List ℕ) (why : Ending) (next : ℕ) → Grows r (telling_ending r called why next)
ending_grows r called why next = chained (ended_grows r called why next) (any_grows (telling_end r called why next) (reason_line called why))

any_end_grows : (r : RowsAs) (called : List ℕ) (behind : Option PlaceAs) (end : Option Ending) (next : ℕ) → Grows r (telling_any_end r called behind end next)
any_end_grows r called behind None next = still r r refl refl
any_end_grows r called behind (Some why) next = ending_grows r called (ending_of behind why) next

line_grows : (r : RowsAs) (called : List ℕ) (line : Option Line) → Grows r (telling_line r called line)
line_grows r called None = still r r refl refl
line_grows r called (Some line) = tells r false _

retold_grows : (r : RowsAs) (l : LogAs) (word : ToldAs) → Grows r (retelling r l word)
retold_grows r l word = by (has_word word l)
  where
    by : (b : Bool) → Grows r (if b then with_log r l else putting_log r (with_word word l))
    by true = still r (with_log r l) refl refl
    by false = still r (putting_log r (with_word word l)) refl refl

turning_grows : (r : RowsAs) (l : LogAs) (behind : Option PlaceAs) (puts : List PutAs) (left : Option ℕ) (t : LogTurned) → Grows r (turning r l behind puts left t)
turning_grows r l behind puts left t =
    let kept = keeping r behind puts t in
    let lined = telling_line kept l.called t.line in
    let next : ℕ = next_behind behind l.next t.poll.next in
    let told = telling_turn kept l.called behind left next t in
    chained (still r kept refl refl)
    (chained (line_grows kept l.called t.line)
    (chained (any_end_grows lined l.called behind (ended_by t.end left) next) (retold_grows told (record l { place = behind; next = next }) t.poll.word)))

of_grows : (o : Option LogAs) (left : Option ℕ) (old : RowsAs) (t : LogTurned) (new : RowsAs) → TakesOf o left old t new → Grows old new
of_grows None left old t new same = let G : RowsAs → Type 0 = λ r. Grows old r in subst G (sym same) (still old old refl refl)
of_grows (Some l) left old t new (behind, puts, placed, is) = let G : RowsAs → Type 0 = λ r. Grows old r in subst G (sym is) (turning_grows old l behind puts left t)

log_grows : (o : Option LogTurned) (polled : Option Polled) (old new : RowsAs) → TakesLog o polled old new → Grows old new
log_grows None polled old new same = let G : RowsAs → Type 0 = λ r. Grows old r in subst G (sym same) (still old old refl refl)
log_grows (Some t) None old new same = let G : RowsAs → Type 0 = λ r. Grows old r in subst G (sym same) (still old old refl refl)
log_grows (Some t) (Some q) old new takes = chained (still old (without q.log old) refl refl) (of_grows (log_in q.log old.logs) q.left (without q.log old) t new takes)

-- ---- the end

answered_grows : (o : Option CivilTime) (r : RowsAs) → Grows r (putting_answered o r)
answered_grows None r = still r r refl refl
answered_grows (Some at) r = still r (putting_answered (Some at) r) refl refl

left_grows : (why : DeviceEnd) (polled : Bool) (r : RowsAs) → Grows r (left_by why polled r)
left_grows IsDone polled r = answered_grows r.answered r
left_grows Unreached polled r = answered_grows r.answered r
left_grows Foreign polled r = still r r refl refl
left_grows Silent true r = answered_grows r.answered r
left_grows Silent false r = chained (answered_grows r.answered r) (tells (putting_answered r.answered r) false _)

-- some rows became others, and how it goes on: a status rises by why the device is left, too
record Ends (end : Option DeviceEnd) (r s : RowsAs) : Type 0 where
  pub rises : code r.status ≤ code s.status
  pub told : (s.status ≡ r.status) ⊎ (HasWarning s.lines ⊎ (0 < code (end_status end)))
  pub counts : code (end_status end) ≤ code s.status

on : (r s : RowsAs) → Grows r s → Ends None r s
on r s g = record { rises = g.rises; told = by g.told; counts = omega arith }
  where
    by : (s.status ≡ r.status) ⊎ HasWarning s.lines → (s.status ≡ r.status) ⊎ (HasWarning s.lines ⊎ (0 < code (end_status None)))
    by (inl same) = inl same
    by (inr warned) = inr (inl warned)

why_ends : (why : DeviceEnd) (polled : Bool) (r : RowsAs) → Ends (Some why) r (left_by why polled (raising r (status_at why)))
why_ends why polled r = record {
  rises = let x = greater_left r.status (status_at why) in let y = g.rises in omega (arith, x, y);
  told = by why g.told refl;
  counts = let x = greater_right r.status (status_at why) in let y = g.rises in omega (arith, x, y);
}
  where
    mid : RowsAs
    mid = raising r (status_at why)

    new : RowsAs
    new = left_by why polled mid

    g : Grows mid new
    g = left_grows why polled mid

    Told : DeviceEnd → Type 0
    Told w = (new.status ≡ r.status) ⊎ (HasWarning new.lines ⊎ (0 < code (status_at w)))

    by : (w : DeviceEnd) → (new.status ≡ mid.status) ⊎ HasWarning new.lines → why ≡ w → Told w
    by IsDone (inl same) is = inl (same ∙ ap (λ (w : DeviceEnd). greater_of r.status (status_at w)) is ∙ greater_done r.status)
    by IsDone (inr warned) is = inr (inl warned)
    by Foreign told is = inr (inr (omega arith))
    by Silent told is = inr (inr (omega arith))
    by Unreached told is = inr (inr (omega arith))

step_ends : (step : Step) (polled : Bool) (r : RowsAs) → Ends (end_at step) r (left_at step polled r)
step_ends (End why) polled r = why_ends why polled r
step_ends Ask polled r = on r r (still r r refl refl)
step_ends AskLater polled r = on r r (still r r refl refl)
step_ends GoOn polled r = on r r (still r r refl refl)

before : (end : Option DeviceEnd) (r s t : RowsAs) → Grows r s → Ends end s t → (HasWarning s.lines → HasWarning t.lines) → Ends end r t
before end r s t a b lines = record {
  rises = let x = a.rises in let y = b.rises in omega (arith, x, y);
  told = by b.told a.told;
  counts = b.counts;
}
  where
    by : (t.status ≡ s.status) ⊎ (HasWarning t.lines ⊎ (0 < code (end_status end))) → (s.status ≡ r.status) ⊎ HasWarning s.lines →
        (t.status ≡ r.status) ⊎ (HasWarning t.lines ⊎ (0 < code (end_status end)))
    by (inl same) (inl earlier) = inl (same ∙ earlier)
    by (inl same) (inr warned) = inr (inl (lines warned))
    by (inr why) earlier = inr why

step_lines : (step : Step) (polled : Bool) (r : RowsAs) → HasWarning r.lines → HasWarning (left_at step polled r).lines
step_lines (End why) polled r w = (left_grows why polled (raising r (status_at why))).lines w
step_lines Ask polled r w = w
step_lines AskLater polled r w = w
step_lines GoOn polled r w = w

-- what it is at then tells why
with_end : (end : Option DeviceEnd) (b : Bool) → left_status (doing_with end b) ≡ end_status end
with_end None true = refl
with_end (Some why) true = refl
with_end end false = refl

pub settled : (t : Turned) (p q : PollerAs) (puts : List Put) → Settles t p puts q → RisesAsTold p q
settled t p q puts (mid, takes, ended) =
    let u : Turned = stepped t.step t.device in
    let polled = is_some t.device.polled in
    let inner = with_entries (with_entries mid t.entries) u.entries in
    let r : RowsAs = rows_with t.entries u polled mid in
    let grows = chained (log_grows t.log t.device.polled p.rows mid takes) (chained (entries_grow mid t.entries) (entries_grow (with_entries mid t.entries) u.entries)) in
    let e : Ends (end_at u.step) p.rows r = before (end_at u.step) p.rows inner r grows (step_ends u.step polled inner) (step_lines u.step polled inner) in
    let T : PollerAs → Type 0 = λ x. RisesAsTold p x in
    subst T (sym ended.1) (by (end_at u.step) (is_none_told r.lines) r e)
  where
    by : (end : Option DeviceEnd) (b : Bool) (r : RowsAs) → Ends end p.rows r → RisesAsTold p (record p { poll = (stepped t.step t.device).device; doing = doing_with end b; rows = record r { puts = [] } })
    by end b r e =
        let is : code (left_status (doing_with end b)) ≡ code (end_status end) = ap code (with_end end b) in
        record {
          grows = e.rises;
          told = either e.told;
          counts = λ counted. let c = e.counts in omega (arith, is, c);
        }
      where
        either : (r.status ≡ p.rows.status) ⊎ (HasWarning r.lines ⊎ (0 < code (end_status end))) → (r.status ≡ p.rows.status) ⊎ (HasWarning r.lines ⊎ (0 < code (left_status (doing_with end b))))
        either (inl same) = inl same
        either (inr (inl warned)) = inr (inl warned)
        either (inr (inr why)) = inr (inr (let is : code (left_status (doing_with end b)) ≡ code (end_status end) = ap code (with_end end b) in omega (arith, is, why)))

-- ---- what it wants

same : (p q : PollerAs) → q.rows ≡ p.rows → left_status q.doing ≡ Done → RisesAsTold p q
same p q rows done =
    let is : q.rows.status ≡ p.rows.status = ap (λ (r : RowsAs). r.status) rows in
    let e : code q.rows.status ≡ code p.rows.status = ap code is in
    let d : code (left_status q.doing) ≡ 0 = ap code done in
    record { grows = omega (arith, e); told = inl is; counts = λ counted. omega (arith, d) }

told_next : (lines : List LineAs) (end : Option DeviceEnd) (p q : PollerAs) (wanted : Next) → p.doing ≡ doing.Tells end → TellsNext lines end p wanted q → RisesAsTold p q
told_next (line ∷ lines) end p q wanted was g =
    let T : PollerAs → Type 0 = λ x. RisesAsTold p x in
    let b = is_none_told lines in
    let e : code (left_status p.doing) ≡ code (end_status end) = ap (λ (d : Doing). code (left_status d)) was in
    let f : code (left_status (doing_with end b)) ≡ code (end_status end) = ap code (with_end end b) in
    subst T (sym g.1) (record { grows = omega arith; told = inl refl; counts = λ counted. omega (arith, e, f, counted) })
told_next [] end p q wanted was g =
    let T : PollerAs → Type 0 = λ x. RisesAsTold p x in
    let e : code (left_status p.doing) ≡ code (end_status end) = ap (λ (d : Doing). code (left_status d)) was in
    let f : code (left_status (doing_with end true)) ≡ code (end_status end) = ap code (with_end end true) in
    subst T (sym g.1) (record { grows = omega arith; told = inl refl; counts = λ counted. omega (arith, e, f, counted) })

asked : (question : Question) (p q : PollerAs) (wanted : Next) → AsksNext question p wanted q → RisesAsTold p q
asked (Confirmed request) p q (next.Send octets to) g = same p q (ap (λ (x : PollerAs). x.rows) g.2) (ap (λ (x : PollerAs). left_status x.doing) g.2)
asked (Confirmed request) p q wanted g = absurd g
asked WhoIs p q (next.Send octets to) g = same p q (ap (λ (x : PollerAs). x.rows) g.2) (ap (λ (x : PollerAs). left_status x.doing) g.2)
asked WhoIs p q wanted g = absurd g
asked Nothing p q (next.Keep puts) g = settled (after_end p.poll) p q puts.items g
asked Nothing p q wanted g = absurd g

as_it_was : (p q : PollerAs) → q ≡ p → RisesAsTold p q
as_it_was p q is =
    let T : PollerAs → Type 0 = λ x. RisesAsTold p x in
    subst T (sym is) (record { grows = omega arith; told = inl refl; counts = λ counted. counted })

pub wants : (what : Doing) (p q : PollerAs) (wanted : Next) → p.doing ≡ what → GivesBy what p wanted q → RisesAsTold p q
wants doing.Asks p q wanted was g = asked (asked_of_device p.poll) p q wanted g
wants (doing.Resends datagram) p q (next.Send octets to) was g = same p q (ap (λ (x : PollerAs). x.rows) g.2) (ap (λ (x : PollerAs). left_status x.doing) g.2)
wants (doing.Resends datagram) p q wanted was g = absurd g
wants doing.Waits p q wanted was g = as_it_was p q g.1
wants (doing.Hears came) p q (next.Keep puts) was (t, comes, settles) = settled t p q puts.items settles
wants (doing.Hears came) p q wanted was g = absurd g
wants doing.Loses p q (next.Keep puts) was g = settled (lost_of p) p q puts.items g
wants doing.Loses p q wanted was g = absurd g
wants (doing.Tells end) p q wanted was g = told_next p.rows.lines end p q wanted was g
wants (doing.Ended why) p q wanted was g = as_it_was p q g.1

pub status_is_told : StatusIsTold
status_is_told p q wanted g = wants p.doing p q wanted refl g

-- ---- logs

-- no more than that of a log without an epoch, unless it ended at the limit
abbrev least : Ending → ℕ
least w = min (code (status_of w)) (code File)

end_counts : (r : RowsAs) (called : List ℕ) (behind : Option PlaceAs) (why : Ending) (next : ℕ) →
    least why ≤ code (telling_any_end r called behind (Some why) next).status
end_counts r called behind why next =
    let e : Ending = ending_of behind why in
    let g = any_grows (telling_end r called e next) (reason_line called e) in
    let x = g.rises in
    let y = at behind in
    omega (arith, x, y)
  where
    at : (o : Option PlaceAs) → least why ≤ code (telling_end r called (ending_of o why) next).status
    at None = let x = greater_right r.status File in omega (arith, x)
    at (Some place) = let x = greater_right r.status (status_of why) in omega (arith, x)

turn_counts : (r : RowsAs) (l : LogAs) (behind : Option PlaceAs) (puts : List PutAs) (left : Option ℕ) (u : LogTurned) (why : Ending) →
    ended_by u.end left ≡ Some why → least why ≤ code (turning r l behind puts left u).status
turn_counts r l behind puts left u why is =
    let lined = telling_line (keeping r behind puts u) l.called u.line in
    let next : ℕ = next_behind behind l.next u.poll.next in
    let C : Option Ending → Type 0 = λ o. least why ≤ code (telling_any_end lined l.called behind o next).status in
    let told : C (ended_by u.end left) = subst C (sym is) (end_counts lined l.called behind why next) in
    let g = retold_grows (telling_turn (keeping r behind puts u) l.called behind left next u) (record l { place = behind; next = next }) u.poll.word in
    let h = g.rises in
    omega (arith, told, h)

pub logs_are_counted : LogsAreCounted
logs_are_counted t p q puts u why polled l (mid, takes, ended) log one end held =
    let v : Turned = stepped t.step t.device in
    let still_polled = is_some t.device.polled in
    let inner = with_entries (with_entries mid t.entries) v.entries in
    let r : RowsAs = rows_with t.entries v still_polled mid in
    let e : code q.rows.status ≡ code r.status = ap (λ (x : PollerAs). code x.rows.status) ended.1 in
    let first : TakesLog (Some u) t.device.polled p.rows mid = let L : Option LogTurned → Type 0 = λ o. TakesLog o t.device.polled p.rows mid in subst L log takes in
    let second : TakesLog (Some u) (Some polled) p.rows mid = let L : Option Polled → Type 0 = λ o. TakesLog (Some u) o p.rows mid in subst L one first in
    let third : TakesOf (Some l) polled.left (without polled.log p.rows) u mid =
    let L : Option LogAs → Type 0 = λ o. TakesOf o polled.left (without polled.log p.rows) u mid in subst L held second in
    let counts : least why ≤ code mid.status = at third in
    let a = entries_grow mid t.entries in
    let b = entries_grow (with_entries mid t.entries) v.entries in
    let c = step_ends v.step still_polled inner in
    let x = a.rises in let y = b.rises in let z = c.rises in
    omega (arith, e, counts, x, y, z)
  where
    at : TakesOf (Some l) polled.left (without polled.log p.rows) u mid → least why ≤ code mid.status
    at (behind, rows, placed, is) =
        let n : code mid.status ≡ code (turning (without polled.log p.rows) l behind rows polled.left u).status = ap (λ (x : RowsAs). code x.status) is in
        let m = turn_counts (without polled.log p.rows) l behind rows polled.left u why end in
        omega (arith, n, m)
