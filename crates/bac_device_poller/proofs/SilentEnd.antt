-- A silent device: what is told of the logs that wait.
use Rattle.std.proofs.Common.{◌≡◌, ◌∙◌, ℕ, Bool, true, false, if◌then◌else◌, List, [], ◌∷◌, ◌++◌, map, Option, None, Some}
use Rattle.std.proofs.Common.{ap, sym, refl, subst, append_assoc, append-nil}
use Rattle.bac_wire.specs.Stamp.{CivilTime}
use Rattle.bac_archive.specs.declared.row.Put.{Put}
use Rattle.bac_drive.specs.declared.machine.Next.TheVariants as next
use Rattle.bac_poll.specs.State.{ToldAs}
use Rattle.bac_poll.specs.Turns.{Turned as LogTurned, ends}
use Rattle.bac_poll_steps.specs.declared.turn.Line.{Line}
use Rattle.bac_poll_steps.specs.declared.turn.PollEnd.TheVariants.{Fault}
use Rattle.bac_walk.specs.declared.outcome.WalkFault.TheVariants as walk
use Rattle.bac_device_poll.specs.Laws.{left}
use Rattle.bac_device_poll.specs.Loss.{after_loss}
use Rattle.bac_device_poll.specs.State.{DeviceState, LogAs}
use Rattle.bac_device_poll.specs.Turns.{Turned, not_asked}
use Rattle.bac_device_poll.specs.declared.task.Polled.{Polled}
use Rattle.bac_device_poller.specs.Ending.{reason_line}
use Rattle.bac_device_poller.specs.Entries.{RowsAs, log_in, putting_log, raising, telling_any, with_entries, with_log}
use Rattle.bac_device_poller.specs.Entries.{without}
use Rattle.bac_device_poller.specs.Naming.{has_word, with_word}
use Rattle.bac_device_poller.specs.Poller.{PollerAs, Settles, end_at, putting_answered}
use Rattle.bac_device_poller.specs.Puts.{PlaceAs}
use Rattle.bac_device_poller.specs.Rows.{LogAs as LogRowAs}
use Rattle.bac_device_poller.specs.Silence.{EndsSilent, end_of, not_asked_as}
use Rattle.bac_device_poller.specs.Status.{greater_of}
use Rattle.bac_device_poller.specs.Telling.{LineAs}
use Rattle.bac_device_poller.specs.Turns.{TakesOf, ended_by, ending_of, keeping, next_behind, retelling}
use Rattle.bac_device_poller.specs.Turns.{telling_any_end}
use Rattle.bac_device_poller.specs.Turns.{telling_end, telling_line, telling_turn}
use Rattle.bac_device_poller.specs.declared.ending.Ending.{Ending}
use Rattle.bac_device_poller.specs.declared.status.Status.TheVariants.{NoReply}
use Rattle.bac_device_poller.proofs.LogTurns.{at_log, behind}
use Rattle.bac_device_poller.proofs.Silence.{Settled, by_log, end_with, lost_is, settled}
use Rattle.bac_device_poller.proofs.WaitedOnce.{ends_silent as silent_end}

-- ---- how lines call the device

line_called : (r : RowsAs) (called : List ℕ) (o : Option Line) → (telling_line r called o).called ≡ r.called
line_called r called None = refl
line_called r called (Some line) = refl

any_called : (r : RowsAs) (o : Option (List ℕ)) → (telling_any r o).called ≡ r.called
any_called r None = refl
any_called r (Some text) = refl

end_called : (r : RowsAs) (called : List ℕ) (behind : Option PlaceAs) (o : Option Ending) (n : ℕ) →
    (telling_any_end r called behind o n).called ≡ r.called
end_called r called behind None n = refl
end_called r called behind (Some why) n = any_called (telling_end r called (ending_of behind why) n) (reason_line called (ending_of behind why))

retold_called : (b : Bool) (r : RowsAs) (l : LogRowAs) (word : ToldAs) →
    (if b then with_log r l else putting_log r (with_word word l)).called ≡ r.called
retold_called true r l word = refl
retold_called false r l word = refl

turn_called : (r : RowsAs) (l : LogRowAs) (behind : Option PlaceAs) (rest : Option ℕ) (next : ℕ) (t : LogTurned) (word : ToldAs) (to : LogRowAs) →
    (retelling (telling_turn r l.called behind rest next t) to word).called ≡ r.called
turn_called r l behind rest next t word to =
    retold_called (has_word word to) (telling_turn r l.called behind rest next t) to word
    ∙ end_called (telling_line r l.called t.line) l.called behind (ended_by t.end rest) next ∙ line_called r l.called t.line

taken_called : (o : Option LogRowAs) (rest : Option ℕ) (old : RowsAs) (t : LogTurned) (new : RowsAs) → TakesOf o rest old t new →
    new.called ≡ old.called
taken_called None rest old t new is = ap (λ (r : RowsAs). r.called) is
taken_called (Some l) rest old t new (behind, puts, placed, is) =
    let next : ℕ = next_behind behind l.next t.poll.next in
    ap (λ (r : RowsAs). r.called) is ∙ turn_called (keeping old behind puts t) l behind rest next t t.poll.word (record l { place = behind; next = next })

-- ---- those that wait

told_lines : (r : RowsAs) (logs : List LogAs) →
    (with_entries r (map not_asked logs)).lines ≡ r.lines ++ map (not_asked_as r.called) logs
told_lines r [] = sym (append-nil r.lines)
told_lines r (task ∷ logs) =
    told_lines (record r { lines = r.lines ++ not_asked_as r.called task ∷ []; status = greater_of r.status NoReply }) logs
    ∙ append_assoc r.lines (not_asked_as r.called task ∷ []) (map (not_asked_as r.called) logs)

answered_lines : (o : Option CivilTime) (r : RowsAs) → (putting_answered o r).lines ≡ r.lines
answered_lines None r = refl
answered_lines (Some at) r = refl

silent_lines : (doubt : Bool) (p : DeviceState) (q : Polled) (old : PollerAs) (puts : List Put) (new : PollerAs) → doubt ≡ true →
    Settles (after_loss (at_log p q doubt)) old puts new →
    (front : List LineAs) × (new.rows.lines ≡ front ++ map (not_asked_as old.rows.called) p.logs)
silent_lines false p q old puts new sure settles = absurd (cc)
silent_lines true p q old puts new sure (mid, takes, (are, is)) = (
  mid.lines,
  ap (λ (x : PollerAs). x.rows.lines) is ∙ answered_lines (with_entries mid (map not_asked p.logs)).answered (raising (with_entries mid (map not_asked p.logs)) NoReply)
      ∙ told_lines mid p.logs
      ∙ ap (λ (called : List ℕ). mid.lines ++ map (not_asked_as called) p.logs)
      (taken_called (log_in q.log old.rows.logs) q.left (without q.log old.rows) (lost_turn p q) mid takes),
)
  where
    lost_turn : DeviceState → Polled → LogTurned
    lost_turn p q = ends q.poll (Fault walk.Lost)

none_left : (doubt : Bool) (p : DeviceState) (q : Polled) → doubt ≡ true → left (behind (after_loss (at_log p q doubt))).device ≡ []
none_left true p q sure = refl
none_left false p q sure = absurd (cc)

pub ends_silent : EndsSilent
ends_silent old new q (next.Keep puts) on sure settles =
    let t : Turned = after_loss old.poll in
    let now : Settles t old puts.items new = subst (λ (t : Turned). Settles t old puts.items new) (lost_is old q on) settles in
    let s : Settled t old new = settled t old puts.items new now in
    let told : (front : List LineAs) × (new.rows.lines ≡ front ++ map (not_asked_as old.rows.called) old.poll.logs) =
    by_log (λ (d : DeviceState). d.doubt ≡ true → Settles (after_loss d) old puts.items new →
    (front : List LineAs) × (new.rows.lines ≡ front ++ map (not_asked_as old.rows.called) d.logs)) old q on
    (silent_lines old.poll.doubt old.poll q old puts.items new) sure now in (
      ap end_of s.doing ∙ end_with (end_at (behind t).step) s.told ∙ silent_end old q on sure,
      ap left s.poll ∙ by_log (λ (d : DeviceState). d.doubt ≡ true → left (behind (after_loss d)).device ≡ []) old q on (none_left old.poll.doubt old.poll q) sure,
      told.0,
      told.1,
    )
ends_silent old new q wanted on sure gives = absurd gives
