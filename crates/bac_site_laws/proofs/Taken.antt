-- What of the log that is polled a turn puts, and where it stands then.
use Rattle.std.proofs.Common.{◌≡◌, ◌∙◌, ℕ, ◌==◌, true}
use Rattle.std.proofs.Common.{List, [], ◌∷◌, ◌++◌, position, Option, sym, ap, subst}
use Rattle.bac_wire.specs.Primitive.{Id}
use Rattle.bac_poll.specs.Turns.{Turned as LogTurned}
use Rattle.bac_device_poller.specs.Entries.{RowsAs, is_log, log_in, logs_beside}
use Rattle.bac_device_poller.specs.Entries.{without}
use Rattle.bac_device_poller.specs.Naming.{has_word}
use Rattle.bac_device_poller.specs.Puts.{PlaceAs, PutAs}
use Rattle.bac_device_poller.specs.Rows.{LogAs}
use Rattle.bac_device_poller.specs.Turns.{IsPlaced, TakesOf, ended_by, keeping, next_behind, telling_line, telling_turn, turning}
use Rattle.bac_site_laws.specs.Own.{HasNone, IsOnRecord, rows_in}
use Rattle.bac_site_laws.proofs.Has.{beside_last, found_is, found_last}
use Rattle.bac_site_laws.proofs.Beside.{end_beside, line_beside, placed_rows, word_beside}

module _ (log : Id) where
  -- what of a log is put, and where it stands then
  pub record Taken (o : Option PlaceAs) (t : LogTurned) (r : RowsAs) : Type 0 where
    pub behind : Option PlaceAs
    pub puts : List PutAs
    pub placed : IsPlaced o t behind puts
    pub rows : rows_in r.puts ≡ puts
    pub on : IsOnRecord log behind r.logs

  on_last : (xs : List LogAs) (m : LogAs) (o : Option PlaceAs) (logs : List LogAs) → HasNone log xs → is_log log m ≡ true → m.place ≡ o → logs ≡ xs ++ m ∷ [] → IsOnRecord log o logs
  on_last xs m o logs none is stands same =
      let X : List LogAs → Type 0 = λ l. IsOnRecord log o l in
      let Y : List LogAs → Type 0 = λ l. HasNone log l in
      subst X (sym same) (record {
        row = m;
        found = found_last log xs m none is;
        stands = stands;
        once = subst Y (sym (beside_last log xs m none is)) none;
      })

  turn_taken : (old : RowsAs) (row : LogAs) (behind : Option PlaceAs) (puts : List PutAs) (m : Option ℕ) (t : LogTurned) → old.puts ≡ [] → is_log log row ≡ true →
      HasNone log (logs_beside (position (is_log log) old.logs) old.logs) → rows_in puts ≡ puts →
      let r : RowsAs = turning (without log old) row behind puts m t in
      (rows_in r.puts ≡ puts) × IsOnRecord log behind r.logs
  turn_taken old row behind puts m t empty is once all =
      let a : RowsAs = keeping (without log old) behind puts t in
      let next : ℕ = next_behind behind row.next t.poll.next in
      let b : RowsAs = telling_turn a row.called behind m next t in
      let line = line_beside a row.called t.line in
      let end = end_beside (telling_line a row.called t.line) row.called behind (ended_by t.end m) next in
      let l : LogAs = record row { place = behind; next = next } in
      let w = word_beside (has_word t.poll.word l) b l t.poll.word in
      let puts_is : b.puts ≡ a.puts = end.0 ∙ line.0 in
      let logs_is : b.logs ≡ a.logs = end.1 ∙ line.1 in (
        w.rows ∙ ap rows_in puts_is ∙ ap (λ (x : List PutAs). rows_in (x ++ puts)) empty ∙ all,
        on_last (logs_beside (position (is_log log) old.logs) old.logs) w.row behind _ once
            (ap (λ (n : ℕ). n == log.instance) w.instance ∙ is) w.place
            (w.logs ∙ ap (λ (x : List LogAs). x ++ w.row ∷ []) logs_is),
      )

  pub taken : (o : Option PlaceAs) (m : Option ℕ) (old r : RowsAs) (t : LogTurned) → IsOnRecord log o old.logs → old.puts ≡ [] →
      TakesOf (log_in log old.logs) m (without log old) t r → Taken o t r
  taken o m old r t on empty takes =
      let X : Option LogAs → Type 0 = λ x. TakesOf x m (without log old) t r in
      let (behind, puts, placed, is) = subst X on.found takes in
      let Y : Option PlaceAs → Type 0 = λ x. IsPlaced x t behind puts in
      let placed_at = subst Y on.stands placed in
      let all = turn_taken old on.row behind puts m t empty (found_is log on.row old.logs on.found) on.once (placed_rows o t behind puts placed_at) in
      let Z : RowsAs → Type 0 = λ x. (rows_in x.puts ≡ puts) × IsOnRecord log behind x.logs in
      let both = subst Z (sym is) all in
      record { behind = behind; puts = puts; placed = placed_at; rows = both.0; on = both.1 }
