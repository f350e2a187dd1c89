-- All that is put of a turn is rows of a log.
use Rattle.std.proofs.Common.{◌≡◌, ◌∙◌, ℕ, ◌+◌, ◌-◌, nat_le, Bool, true, false, if◌then◌else◌, codes, List, [], ◌∷◌, ◌++◌}
use Rattle.std.proofs.Common.{Option, None, Some, refl, sym, ap}
use Rattle.std.proofs.lemmas.List.Elements.{filter-append}
use Rattle.sqlite_value.specs.Order.{Row as Values}
use Rattle.bac_link.specs.declared.item.Item.{Item}
use Rattle.bac_link.specs.declared.item.Item.TheVariants.{Gap, Logged}
use Rattle.bac_walk.specs.declared.batch.Numbered.{Numbered}
use Rattle.bac_poll.specs.Turns.{Turned}
use Rattle.bac_poll_steps.specs.declared.turn.Beginning.{Beginning}
use Rattle.bac_poll_steps.specs.declared.turn.Line.{Line}
use Rattle.bac_device_poller.specs.Puts.{PutAs, Puts, with_anew, with_epoch, with_first, with_gap, with_gap_row, with_gaps}
use Rattle.bac_device_poller.specs.Puts.{with_item, with_put, with_record, with_records, with_rest, with_round, with_turn, why_anew}
use Rattle.bac_site_laws.specs.Own.{is_of_log, rows_in}

-- all of them are
AreRows : Puts → Type 0
AreRows s = rows_in s.puts ≡ s.puts

put_rows : (s : Puts) (put : PutAs) → rows_in (put ∷ []) ≡ put ∷ [] → AreRows s → AreRows (with_put s put)
unfolding AreRows
put_rows s put one all =
    filter-append is_of_log s.puts (put ∷ []) ∙ ap (λ (l : List PutAs). l ++ rows_in (put ∷ [])) all ∙ ap (λ (l : List PutAs). s.puts ++ l) one

either : (b : Bool) (s t : Puts) → AreRows s → AreRows t → AreRows (if b then s else t)
either true s t f g = f
either false s t f g = g

epoch_rows : (s : Puts) (why : List ℕ) → AreRows s → AreRows (with_epoch s why)
unfolding AreRows
epoch_rows s why all = put_rows (record s { epoch = s.epoch + 1; full = false }) _ refl all

round_rows : (s : Puts) → AreRows s → AreRows (with_round s)
round_rows s all = either s.full _ s (epoch_rows s (codes "numbers came round") all) all

item_rows : (s : Puts) (columns : Values) (last : ℕ) → AreRows s → AreRows (with_item s columns last)
unfolding AreRows
item_rows s columns last all = put_rows s _ refl all

gap_row_rows : (doubtful : Bool) (s : Puts) (first last : ℕ) → AreRows s → AreRows (with_gap_row doubtful s first last)
gap_row_rows doubtful s first last all = item_rows (with_round s) _ last (round_rows s all)

first_rows : (s : Puts) (o : Option Beginning) → AreRows s → AreRows (with_first s o)
first_rows s None all = all
first_rows s (Some begins) all = put_rows (with_round s) _ refl (round_rows s all)

rest_rows : (doubtful : Bool) (s : Puts) (before : ℕ) → AreRows s → AreRows (with_rest doubtful s before)
rest_rows doubtful s before all = either (nat_le before 1) s _ all (gap_row_rows doubtful s 1 (before - 1) all)

gap_rows : (doubtful : Bool) (s : Puts) (first before : ℕ) → AreRows s → AreRows (with_gap doubtful s first before)
gap_rows doubtful s first before all =
    either (nat_le before first) _ _ (rest_rows doubtful _ before (gap_row_rows doubtful s first 4294967295 all))
    (gap_row_rows doubtful s first (before - 1) all)

gaps_rows : (doubtful : Bool) (s : Puts) (items : List Item) → AreRows s → AreRows (with_gaps doubtful s items)
gaps_rows doubtful s [] all = all
gaps_rows doubtful s (Gap first before ∷ items) all = gaps_rows doubtful (with_gap doubtful s first before) items (gap_rows doubtful s first before all)
gaps_rows doubtful s (Logged number entry ∷ items) all = gaps_rows doubtful s items all

anew_rows : (s : Puts) (anew : Bool) (line : Option Line) → AreRows s → AreRows (with_anew s anew line)
anew_rows s anew line all = either anew _ s (epoch_rows s (why_anew line) all) all

record_rows : (s : Puts) (held : Numbered) → AreRows s → AreRows (with_record s held)
record_rows s held all = item_rows (with_round s) _ held.number (round_rows s all)

records_rows : (s : Puts) (rs : List Numbered) → AreRows s → AreRows (with_records s rs)
records_rows s [] all = all
records_rows s (held ∷ others) all = records_rows (with_record s held) others (record_rows s held all)

pub turn_rows : (log epoch : ℕ) (full : Bool) (t : Turned) →
    rows_in (with_turn (record { log = log; epoch = epoch; full = full; puts = [] }) t).puts
    ≡ (with_turn (record { log = log; epoch = epoch; full = full; puts = [] }) t).puts
unfolding AreRows
turn_rows log epoch full t =
    let s : Puts = record { log = log; epoch = epoch; full = full; puts = [] } in
    records_rows _ t.records
    (gaps_rows false _ t.gap (anew_rows _ t.anew t.line (gaps_rows t.doubtful _ t.missing (first_rows s t.begins (empty s refl)))))
  where
    empty : (s : Puts) → s.puts ≡ [] → AreRows s
    empty s none = ap rows_in none ∙ sym none
