-- The rows that a device's poll puts: each item is a gap, or a record that its turn brought.
use Rattle.std.proofs.Common.{◌≡◌, ◌∙◌, ◌⊎◌, inl, inr, ℕ, pos, ◌+◌, ◌-◌, nat_le, Bool, true, false, if◌then◌else◌, codes}
use Rattle.std.proofs.Common.{Option, None, Some, List, [], ◌∷◌, ◌++◌, position, refl, sym, ap, subst, append_assoc, append-nil, arith, remove, slice_get, suc, zero, ◌*◌}
use Rattle.std.proofs.lemmas.Bool.{eqb-true}
use Rattle.std.proofs.lemmas.List.Quantifiers.{position-Some}
use Rattle.std.proofs.lemmas.Option.{get_or_from_slice_get}
use Rattle.sqlite_value.specs.declared.value.Value.{Value}
use Rattle.sqlite_value.specs.declared.value.Value.TheVariants.{Int}
use Rattle.sqlite_value.specs.Order.{Row as Values}
use Rattle.bac_wire.specs.Primitive.{Id}
use Rattle.bac_wire.specs.Stamp.{CivilTime}
use Rattle.bac_answers.specs.declared.entry.Entry.{Entry}
use Rattle.bac_answers.specs.declared.entry.Entry.TheVariants.{Added, Another, Clock, Known, KnownNow, Named, NotAsked, Others, Read, Rejected, Unlisted, Untold}
use Rattle.bac_answers.specs.declared.entry.Naming.{Naming}
use Rattle.bac_answers.specs.declared.who.Who.{Who}
use Rattle.bac_answers.specs.declared.who.Who.TheVariants.{Address, Device, Name}
use Rattle.bac_device_poll.specs.declared.task.Polled.{Polled}
use Rattle.bac_device_poll.specs.declared.turn.DeviceEnd.{DeviceEnd}
use Rattle.bac_device_poll.specs.declared.turn.DeviceEnd.TheVariants.{Done, Foreign, Silent, Unreached}
use Rattle.bac_device_poll.specs.declared.turn.Step.{Step}
use Rattle.bac_device_poll.specs.declared.turn.Step.TheVariants.{Ask, AskLater, End, GoOn}
use Rattle.bac_device_poller.specs.Ending.{reason_line}
use Rattle.bac_device_poller.specs.Entries.{RowsAs, added_as, is_log, knowing, log_at, log_in, logs_beside, new_log, putting_device, putting_log, renaming}
use Rattle.bac_device_poller.specs.Entries.{telling_any, telling_known, with_entries, with_entry, with_log, without}
use Rattle.bac_device_poller.specs.Ids.{free_id}
use Rattle.bac_device_poller.specs.Naming.{answered_at, has_word, known_as, named_as, offset_of, with_word}
use Rattle.bac_device_poller.specs.Poller.{left_at, left_by, putting_answered}
use Rattle.bac_device_poller.specs.Puts.{PlaceAs, PutAs, Puts, era_of, gap_columns, record_columns, with_anew}
use Rattle.bac_device_poller.specs.Puts.{with_beginning, with_epoch, with_first, with_gap, with_gap_row, with_gaps, with_item}
use Rattle.bac_device_poller.specs.Puts.{with_record, with_records, with_rest, with_round, with_turn, why_anew, why_first}
use Rattle.bac_device_poller.specs.Rows.{LogAs, device_put, log_put}
use Rattle.bac_device_poller.specs.Turns.{IsPlaced, TakesLog, TakesOf, ended_by, ending_of, keeping, next_behind, retelling, telling_any_end, telling_end}
use Rattle.bac_device_poller.specs.Turns.{telling_line, telling_turn}
use Rattle.bac_device_poller.specs.declared.ending.Ending.{Ending}
use Rattle.bac_link.specs.declared.item.Item.{Item}
use Rattle.bac_link.specs.declared.item.Item.TheVariants.{Gap, Logged}
use Rattle.bac_poll.specs.State.{ToldAs}
use Rattle.bac_poll.specs.Turns.{Turned}
use Rattle.bac_poll_steps.specs.declared.turn.Beginning.{Beginning}
use Rattle.bac_poll_steps.specs.declared.turn.Line.{Line}
use Rattle.bac_walk.specs.declared.batch.Numbered.{Numbered}
use Rattle.bac_laws.proofs.Answered.{BringsAt}
use Rattle.bac_laws.proofs.Shown.{Each}

-- ---- what is known of logs and devices

-- a put is the row of a new log, with this id, of this device, with this instance
abbrev pub IsNewLog : ℕ → ℕ → ℕ → PutAs → Type 0
IsNewLog log device instance put = (put.tree ≡ 3) × (put.is_new ≡ true)
    × ((rest : Values) × (put.columns ≡ Int (pos log) ∷ Int (pos device) ∷ Int (pos instance) ∷ rest))

-- one of these puts is
abbrev pub IsNewIn : List PutAs → ℕ → ℕ → ℕ → Type 0
IsNewIn [] log device instance = ⊥
IsNewIn (put ∷ puts) log device instance = IsNewLog log device instance put ⊎ IsNewIn puts log device instance

module _ (K : ℕ → ℕ → ℕ → Type 0) (V : ℕ → Value → Type 0) where
  -- a log is known: it was there, or was put
  abbrev pub IsKnown : List PutAs → ℕ → ℕ → ℕ → Type 0
  IsKnown puts log device instance = K log device instance ⊎ IsNewIn puts log device instance

  new_left : (xs ys : List PutAs) (log device instance : ℕ) → IsNewIn xs log device instance → IsNewIn (xs ++ ys) log device instance
  new_left [] ys log device instance is = absurd is
  new_left (x ∷ xs) ys log device instance (inl is) = inl is
  new_left (x ∷ xs) ys log device instance (inr is) = inr (new_left xs ys log device instance is)

  new_right : (xs ys : List PutAs) (log device instance : ℕ) → IsNewIn ys log device instance → IsNewIn (xs ++ ys) log device instance
  new_right [] ys log device instance is = is
  new_right (x ∷ xs) ys log device instance is = inr (new_right xs ys log device instance is)

  pub known_on : (xs ys : List PutAs) (log device instance : ℕ) → IsKnown xs log device instance → IsKnown (xs ++ ys) log device instance
  known_on xs ys log device instance (inl is) = inl is
  known_on xs ys log device instance (inr is) = inr (new_left xs ys log device instance is)

  module _ (P : ℕ → ℕ → Numbered → Type 0) where
    -- the row of a gap, or of a record that came of this log
    abbrev pub IsItemOf : ℕ → ℕ → ℕ → Values → Type 0
    IsItemOf log device instance columns = ((era : ℕ) × (first : ℕ) × (last : ℕ) × (doubtful : Bool) × (columns ≡ gap_columns era first last doubtful))
        ⊎ ((epoch : ℕ) × (held : Numbered) × P device instance held × (columns ≡ record_columns (log * 32768 + epoch) held))

    -- a put behind others is good: an item is of a log that is known; a log's row is of one that is known, or new; and a
    -- device's row is in place of its own
    pub record Good (before : List PutAs) (put : PutAs) : Type 0 where
      pub item : put.tree ≡ 5 → (log : ℕ) × (device : ℕ) × (instance : ℕ) × IsKnown before log device instance × IsItemOf log device instance put.columns
      pub log : put.tree ≡ 3 → (log : ℕ) × (device : ℕ) × (instance : ℕ) × (rest : Values)
          × (put.columns ≡ Int (pos log) ∷ Int (pos device) ∷ Int (pos instance) ∷ rest) × (put.is_new ≡ false → IsKnown before log device instance)
      pub device : put.tree ≡ 1 → (put.is_new ≡ false) × ((device : ℕ) × (address : Value) × (rest : Values) × V device address
          × (put.columns ≡ Int (pos device) ∷ address ∷ rest))

    -- each of these is, behind those before it
    abbrev pub Sound : List PutAs → List PutAs → Type 0
    Sound before [] = Unit {0}
    Sound before (put ∷ puts) = Good before put × Sound (before ++ put ∷ []) puts

    pub sound_on : (before xs ys : List PutAs) → Sound before xs → Sound (before ++ xs) ys → Sound before (xs ++ ys)
    sound_on before [] ys all more = subst (λ (l : List PutAs). Sound l ys) (append-nil before) more
    sound_on before (x ∷ xs) ys all more =
        (all.0, sound_on (before ++ x ∷ []) xs ys all.1 (subst (λ (l : List PutAs). Sound l ys) (sym (append_assoc before (x ∷ []) xs)) more))

    pub sound_front : (before xs ys : List PutAs) → Sound before (xs ++ ys) → Sound before xs
    sound_front before [] ys all = tt
    sound_front before (x ∷ xs) ys all = (all.0, sound_front (before ++ x ∷ []) xs ys all.1)

    sound_push : (before xs : List PutAs) (put : PutAs) → Sound before xs → Good (before ++ xs) put → Sound before (xs ++ put ∷ [])
    sound_push before xs put all good = sound_on before xs (put ∷ []) all (good, tt)

    no : (m n : ℕ) → m ≡ n → (m ≡ 5) ⊎ ((m ≡ 3) ⊎ (m ≡ 1)) → (n ≡ 6) → ⊥
    no m n is (inl five) six = omega (arith, is, five, six)
    no m n is (inr (inl three)) six = omega (arith, is, three, six)
    no m n is (inr (inr one)) six = omega (arith, is, one, six)

    never : {A : Type 0} (m n : ℕ) → (m ≡ n → ⊥) → m ≡ n → A
    never m n not is = absurd (not is)

    -- ---- a turn of a log

    module _ (L D I : ℕ) where
      abbrev One : Numbered → Type 0
      One = P D I

      -- an item of this log, or a beginning
      abbrev Own : PutAs → Type 0
      Own put = ((put.tree ≡ 5) × IsItemOf L D I put.columns) ⊎ (put.tree ≡ 6)

      abbrev AllOwn : List PutAs → Type 0
      AllOwn [] = Unit {0}
      AllOwn (put ∷ puts) = Own put × AllOwn puts

      -- what is put so far is of this log
      abbrev Fine : Puts → Type 0
      Fine s = AllOwn s.puts × (s.log ≡ L)

      own_push : (xs : List PutAs) (put : PutAs) → AllOwn xs → Own put → AllOwn (xs ++ put ∷ [])
      own_push [] put all one = (one, tt)
      own_push (x ∷ xs) put all one = (all.0, own_push xs put all.1 one)

      beginning_fine : (s : Puts) (new : Bool) (number : ℕ) (why : Option (List ℕ)) → Fine s → Fine (with_beginning s new number why)
      beginning_fine s new number why all = (own_push s.puts _ all.0 (inr refl), all.1)

      epoch_fine : (s : Puts) (why : List ℕ) → Fine s → Fine (with_epoch s why)
      epoch_fine s why all = beginning_fine (record s { epoch = s.epoch + 1; full = false }) true 1 (Some why) all

      round_fine : (s : Puts) → Fine s → Fine (with_round s)
      round_fine s all = by s.full
        where
          by : (full : Bool) → Fine (if full then with_epoch s (codes "numbers came round") else s)
          by true = epoch_fine s (codes "numbers came round") all
          by false = all

      item_fine : (s : Puts) (columns : Values) (last : ℕ) → Fine s → IsItemOf L D I columns → Fine (with_item s columns last)
      item_fine s columns last all one = (own_push s.puts _ all.0 (inl (refl, one)), all.1)

      gap_row_fine : (doubtful : Bool) (s : Puts) (first last : ℕ) → Fine s → Fine (with_gap_row doubtful s first last)
      gap_row_fine doubtful s first last all =
          let t : Puts = with_round s in
          item_fine t (gap_columns (era_of t) first last doubtful) last (round_fine s all) (inl (era_of t, first, last, doubtful, refl))

      rest_fine : (doubtful : Bool) (s : Puts) (before : ℕ) → Fine s → Fine (with_rest doubtful s before)
      rest_fine doubtful s before all = by (nat_le before 1)
        where
          by : (b : Bool) → Fine (if b then s else with_gap_row doubtful s 1 (before - 1))
          by true = all
          by false = gap_row_fine doubtful s 1 (before - 1) all

      gap_fine : (doubtful : Bool) (s : Puts) (first before : ℕ) → Fine s → Fine (with_gap doubtful s first before)
      gap_fine doubtful s first before all = by (nat_le before first)
        where
          by : (b : Bool) → Fine (if b then with_rest doubtful (with_gap_row doubtful s first 4294967295) before else with_gap_row doubtful s first (before - 1))
          by true = rest_fine doubtful (with_gap_row doubtful s first 4294967295) before (gap_row_fine doubtful s first 4294967295 all)
          by false = gap_row_fine doubtful s first (before - 1) all

      gaps_fine : (doubtful : Bool) (s : Puts) (items : List Item) → Fine s → Fine (with_gaps doubtful s items)
      gaps_fine doubtful s [] all = all
      gaps_fine doubtful s (Gap first before ∷ items) all =
          gaps_fine doubtful (with_gap doubtful s first before) items (gap_fine doubtful s first before all)
      gaps_fine doubtful s (Logged number entry ∷ items) all = gaps_fine doubtful s items all

      records_fine : (s : Puts) (rs : List Numbered) → Fine s → Each One rs → Fine (with_records s rs)
      records_fine s [] all each = all
      records_fine s (held ∷ rs) all each =
          let t : Puts = with_round s in
          let round : Fine t = round_fine s all in
          let era : era_of t ≡ L * 32768 + t.epoch = ap (λ (n : ℕ). n * 32768 + t.epoch) round.1 in
          records_fine (with_record s held) rs
          (item_fine t (record_columns (era_of t) held) held.number round
          (inr (t.epoch, held, each.0, ap (λ (n : ℕ). record_columns n held) era))) each.1

      first_fine : (s : Puts) (begins : Option Beginning) → Fine s → Fine (with_first s begins)
      first_fine s None all = all
      first_fine s (Some begins) all = beginning_fine (with_round s) begins.counted begins.number (why_first begins.counted) (round_fine s all)

      anew_fine : (s : Puts) (anew : Bool) (line : Option Line) → Fine s → Fine (with_anew s anew line)
      anew_fine s true line all = epoch_fine s (why_anew line) all
      anew_fine s false line all = all

      turn_fine : (s : Puts) (t : Turned) → Fine s → Each One t.records → Fine (with_turn s t)
      turn_fine s t all each =
          records_fine _ t.records
          (gaps_fine false _ t.gap (anew_fine _ t.anew t.line (gaps_fine t.doubtful _ t.missing (first_fine s t.begins all)))) each

      -- where a log stands, if it has a place, is its own
      abbrev pub IsOwnPlace : Option PlaceAs → Type 0
      IsOwnPlace None = Unit {0}
      IsOwnPlace (Some place) = place.log ≡ L

      placed_fine : (place : Option PlaceAs) (t : Turned) (behind : Option PlaceAs) (puts : List PutAs) → IsOwnPlace place → Each One t.records
          → IsPlaced place t behind puts → AllOwn puts × IsOwnPlace behind
      placed_fine None t behind puts at each is = (subst AllOwn (sym is.1) tt, subst IsOwnPlace (sym is.0) tt)
      placed_fine (Some place) t None puts at each is = (subst AllOwn (sym is) tt, tt)
      placed_fine (Some place) t (Some behind) puts at each is =
          (subst AllOwn (sym is.0) (turn_fine (record { log = place.log; epoch = place.epoch; full = place.full; puts = [] }) t (tt, at) each).0, is.2 ∙ at)

      -- so they are sound
      own_sound : (before puts : List PutAs) → IsKnown before L D I → AllOwn puts → Sound before puts
      own_sound before [] known all = tt
      own_sound before (put ∷ puts) known all = (
        good all.0,
        own_sound (before ++ put ∷ []) puts (known_on before (put ∷ []) L D I known) all.1,
      )
        where
          good : Own put → Good before put
          good (inl (five, item)) = record {
            item = λ is. (L, D, I, known, item);
            log = λ is. absurd (let x : 5 ≡ 3 = sym five ∙ is in omega (arith, x));
            device = λ is. absurd (let x : 5 ≡ 1 = sym five ∙ is in omega (arith, x));
          }
          good (inr six) = record {
            item = λ is. absurd (let x : 6 ≡ 5 = sym six ∙ is in omega (arith, x));
            log = λ is. absurd (let x : 6 ≡ 3 = sym six ∙ is in omega (arith, x));
            device = λ is. absurd (let x : 6 ≡ 1 = sym six ∙ is in omega (arith, x));
          }

    -- ---- the rows of a device

    -- a log is known, of this device, and stands at its own place
    abbrev pub IsLogOf : List PutAs → ℕ → LogAs → Type 0
    IsLogOf puts device l = (l.device ≡ device) × IsKnown puts l.id l.device l.instance × IsOwnPlace l.id l.device l.instance l.place

    abbrev pub AreLogsOf : List PutAs → ℕ → List LogAs → Type 0
    AreLogsOf puts device [] = Unit {0}
    AreLogsOf puts device (l ∷ logs) = IsLogOf puts device l × AreLogsOf puts device logs

    pub logs_on : (xs ys : List PutAs) (device : ℕ) (logs : List LogAs) → AreLogsOf xs device logs → AreLogsOf (xs ++ ys) device logs
    logs_on xs ys device [] all = tt
    logs_on xs ys device (l ∷ logs) all = ((all.0.0, known_on xs ys l.id l.device l.instance all.0.1, all.0.2), logs_on xs ys device logs all.1)

    logs_push : (puts : List PutAs) (device : ℕ) (logs : List LogAs) (l : LogAs) → AreLogsOf puts device logs → IsLogOf puts device l → AreLogsOf puts device (logs ++ l ∷ [])
    logs_push puts device [] l all one = (one, tt)
    logs_push puts device (m ∷ logs) l all one = (all.0, logs_push puts device logs l all.1 one)

    logs_less : (puts : List PutAs) (device : ℕ) (logs : List LogAs) (place : ℕ) → AreLogsOf puts device logs → AreLogsOf puts device (remove logs place)
    logs_less puts device [] place all = subst (AreLogsOf puts device) (sym (none_left place)) tt
      where
        none_left : (n : ℕ) → let none : List LogAs = [] in remove none n ≡ none
        none_left zero = refl
        none_left (suc n) = refl
    logs_less puts device (m ∷ logs) zero all = all.1
    logs_less puts device (m ∷ logs) (suc n) all = (all.0, logs_less puts device logs n all.1)

    logs_get : (puts : List PutAs) (device : ℕ) (logs : List LogAs) (place : ℕ) (l : LogAs) → AreLogsOf puts device logs → slice_get logs place ≡ Some l → IsLogOf puts device l
    logs_get puts device [] place l all is = absurd (let e : None ≡ Some l = is in cc)
    logs_get puts device (m ∷ logs) zero l all is = let same : m ≡ l = (let e : Some m ≡ Some l = is in cc) in subst (IsLogOf puts device) same all.0
    logs_get puts device (m ∷ logs) (suc n) l all is = logs_get puts device logs n l all.1 is

    -- the rows of a device: what they have to put, behind what was put, is sound; its logs are known; and so is itself
    abbrev pub RowsFine : List PutAs → ℕ → RowsAs → Type 0
    RowsFine before device r = Sound before r.puts × AreLogsOf (before ++ r.puts) device r.logs
        × ((r.device.id ≡ device) × V device r.device.address)

    -- one put more
    put_fine : (before : List PutAs) (device : ℕ) (r : RowsAs) (put : PutAs) → RowsFine before device r → Good (before ++ r.puts) put
        → Sound before (r.puts ++ put ∷ []) × AreLogsOf (before ++ (r.puts ++ put ∷ [])) device r.logs
    put_fine before device r put all good = (
      sound_push before r.puts put all.0 good,
      subst (λ (l : List PutAs). AreLogsOf l device r.logs) (append_assoc before r.puts (put ∷ [])) (logs_on (before ++ r.puts) (put ∷ []) device r.logs all.1),
    )

    -- the row of a log that is known is put again
    log_fine : (before : List PutAs) (device : ℕ) (r : RowsAs) (l : LogAs) → RowsFine before device r → IsLogOf (before ++ r.puts) device l
        → RowsFine before device (putting_log r l)
    log_fine before device r l all one =
        let good : Good (before ++ r.puts) (log_put false l) = record {
          item = λ is. absurd (let x : 3 ≡ 5 = is in omega (arith, x));
          log = λ is. (l.id, l.device, l.instance, _, refl, λ old. one.1);
          device = λ is. absurd (let x : 3 ≡ 1 = is in omega (arith, x));
        } in
        let put = put_fine before device r (log_put false l) all good in
        let own : IsLogOf (before ++ (r.puts ++ log_put false l ∷ [])) device l =
        (one.0, subst (λ (x : List PutAs). IsKnown x l.id l.device l.instance) (append_assoc before r.puts (log_put false l ∷ [])) (known_on (before ++ r.puts) (log_put false l ∷ []) l.id l.device l.instance one.1), one.2) in
        (put.0, logs_push (before ++ (r.puts ++ log_put false l ∷ [])) device r.logs l put.1 own, all.2)

    -- the row of the device
    device_fine : (before : List PutAs) (device : ℕ) (r : RowsAs) → RowsFine before device r → RowsFine before device (putting_device r)
    device_fine before device r all =
        let put : PutAs = device_put (answered_at r.answered r.device) in
        let good : Good (before ++ r.puts) put = record {
          item = λ is. absurd (let x : 1 ≡ 5 = is in omega (arith, x));
          log = λ is. absurd (let x : 1 ≡ 3 = is in omega (arith, x));
          device = λ is. (refl, (r.device.id, r.device.address, _, subst (λ (n : ℕ). V n r.device.address) (sym all.2.0) all.2.1, refl));
        } in
        let it = put_fine before device r put all good in
        (it.0, it.1, all.2)

    -- ---- what is told changes none of them

    any_fine : (before : List PutAs) (device : ℕ) (r : RowsAs) (text : Option (List ℕ)) → RowsFine before device r → RowsFine before device (telling_any r text)
    any_fine before device r None all = all
    any_fine before device r (Some text) all = all

    line_fine : (before : List PutAs) (device : ℕ) (r : RowsAs) (called : List ℕ) (line : Option Line) → RowsFine before device r → RowsFine before device (telling_line r called line)
    line_fine before device r called None all = all
    line_fine before device r called (Some line) all = all

    end_fine : (before : List PutAs) (device : ℕ) (r : RowsAs) (called : List ℕ) (behind : Option PlaceAs) (why : Option Ending) (next : ℕ) → RowsFine before device r
        → RowsFine before device (telling_any_end r called behind why next)
    end_fine before device r called behind None next all = all
    end_fine before device r called behind (Some why) next all =
        any_fine before device (telling_end r called (ending_of behind why) next) (reason_line called (ending_of behind why)) all

    told_fine : (before : List PutAs) (device : ℕ) (r : RowsAs) (called : List ℕ) (behind : Option PlaceAs) (left : Option ℕ) (next : ℕ) (t : Turned) → RowsFine before device r
        → RowsFine before device (telling_turn r called behind left next t)
    told_fine before device r called behind left next t all =
        end_fine before device (telling_line r called t.line) called behind (ended_by t.end left) next (line_fine before device r called t.line all)

    -- a log behind what it is told of changes its puts and its logs alone
    any_puts : (r : RowsAs) (text : Option (List ℕ)) → (telling_any r text).puts ≡ r.puts
    any_puts r None = refl
    any_puts r (Some text) = refl

    line_puts : (r : RowsAs) (called : List ℕ) (line : Option Line) → (telling_line r called line).puts ≡ r.puts
    line_puts r called None = refl
    line_puts r called (Some line) = refl

    end_puts : (r : RowsAs) (called : List ℕ) (behind : Option PlaceAs) (why : Option Ending) (next : ℕ) → (telling_any_end r called behind why next).puts ≡ r.puts
    end_puts r called behind None next = refl
    end_puts r called behind (Some why) next =
        any_puts (telling_end r called (ending_of behind why) next) (reason_line called (ending_of behind why))

    told_puts : (r : RowsAs) (called : List ℕ) (behind : Option PlaceAs) (left : Option ℕ) (next : ℕ) (t : Turned)
        → (telling_turn r called behind left next t).puts ≡ r.puts
    told_puts r called behind left next t =
        end_puts (telling_line r called t.line) called behind (ended_by t.end left) next ∙ line_puts r called t.line

    -- ---- a turn

    retold_fine : (before : List PutAs) (device : ℕ) (r : RowsAs) (l : LogAs) (word : ToldAs) → RowsFine before device r → IsLogOf (before ++ r.puts) device l
        → RowsFine before device (retelling r l word)
    retold_fine before device r l word all one = by (has_word word l)
      where
        by : (b : Bool) → RowsFine before device (if b then with_log r l else putting_log r (with_word word l))
        by true = (all.0, logs_push (before ++ r.puts) device r.logs l all.1 one, all.2)
        by false = log_fine before device r (with_word word l) all one

    of_fine : (before : List PutAs) (device : ℕ) (log : Option LogAs) (left : Option ℕ) (old : RowsAs) (t : Turned) (new : RowsAs) → RowsFine before device old
        → ((l : LogAs) → log ≡ Some l → IsLogOf (before ++ old.puts) device l × Each (P l.device l.instance) t.records)
        → TakesOf log left old t new → RowsFine before device new
    of_fine before device None left old t new all one is = subst (RowsFine before device) (sym is) all
    of_fine before device (Some l) left old t new all one (behind, puts, placed, is) =
        let it = one l refl in
        let next : ℕ = next_behind behind l.next t.poll.next in
        let own = placed_fine l.id l.device l.instance l.place t behind puts it.0.2 it.1 placed in
        let sound : Sound (before ++ old.puts) puts = own_sound l.id l.device l.instance (before ++ old.puts) puts it.0.1 own.0 in
        let same : (before ++ old.puts) ++ puts ≡ before ++ (old.puts ++ puts) = append_assoc before old.puts puts in
        let kept : RowsFine before device (keeping old behind puts t) = (
          sound_on before old.puts puts all.0 sound,
          subst (λ (x : List PutAs). AreLogsOf x device old.logs) same (logs_on (before ++ old.puts) puts device old.logs all.1),
          all.2,
        ) in
        let told : RowsAs = telling_turn (keeping old behind puts t) l.called behind left next t in
        let known : IsLogOf (before ++ (old.puts ++ puts)) device (record l { place = behind; next = next }) =
        (it.0.0, subst (λ (x : List PutAs). IsKnown x l.id l.device l.instance) same (known_on (before ++ old.puts) puts l.id l.device l.instance it.0.1), own.1) in
        let known_told : IsLogOf (before ++ told.puts) device (record l { place = behind; next = next }) =
        subst (λ (x : List PutAs). IsLogOf (before ++ x) device (record l { place = behind; next = next })) (sym (told_puts (keeping old behind puts t) l.called behind left next t)) known in
        subst (RowsFine before device) (sym is)
        (retold_fine before device told (record l { place = behind; next = next }) t.poll.word
        (told_fine before device (keeping old behind puts t) l.called behind left next t kept) known_told)

    beside_fine : (puts : List PutAs) (device : ℕ) (place : Option ℕ) (logs : List LogAs) → AreLogsOf puts device logs → AreLogsOf puts device (logs_beside place logs)
    beside_fine puts device None logs all = all
    beside_fine puts device (Some place) logs all = logs_less puts device logs place all

    without_fine : (before : List PutAs) (device : ℕ) (log : Id) (r : RowsAs) → RowsFine before device r → RowsFine before device (without log r)
    without_fine before device log r all = (all.0, beside_fine (before ++ r.puts) device (position (is_log log) r.logs) r.logs all.1, all.2)

    -- a log that is found by its instance has it, and is one of them
    found_fine : (puts : List PutAs) (device : ℕ) (log : Id) (logs : List LogAs) (l : LogAs) → AreLogsOf puts device logs → log_in log logs ≡ Some l
        → IsLogOf puts device l × (l.instance ≡ log.instance)
    found_fine puts device log logs l all is = by (position (is_log log) logs) refl is
      where
        by : (place : Option ℕ) → position (is_log log) logs ≡ place → log_at place logs ≡ Some l → IsLogOf puts device l × (l.instance ≡ log.instance)
        by None at there = absurd (let e : None ≡ Some l = there in cc)
        by (Some place) at there =
            let is_it : is_log log l ≡ true = subst (λ (x : LogAs). is_log log x ≡ true) (get_or_from_slice_get logs place l l there) (position-Some (is_log log) logs place l at).1 in
            (logs_get puts device logs place l all there, eqb-true l.instance log.instance is_it)

    -- of a log by its instance
    abbrev pub OfLog : ℕ → Id → Numbered → Type 0
    OfLog device log = P device log.instance

    pub turn_rows : (before : List PutAs) (device : ℕ) (t : Option Turned) (polled : Option Polled) (old new : RowsAs) → RowsFine before device old
        → BringsAt (OfLog device) t polled → TakesLog t polled old new → RowsFine before device new
    turn_rows before device None polled old new all brings is = subst (RowsFine before device) (sym is) all
    turn_rows before device (Some t) None old new all brings is = subst (RowsFine before device) (sym is) all
    turn_rows before device (Some t) (Some q) old new all brings is =
        of_fine before device (log_in q.log old.logs) q.left (without q.log old) t new (without_fine before device q.log old all) one is
      where
        one : (l : LogAs) → log_in q.log old.logs ≡ Some l → IsLogOf (before ++ old.puts) device l × Each (P l.device l.instance) t.records
        one l at =
            let it = found_fine (before ++ old.puts) device q.log old.logs l all.1 at in (
              it.0,
              subst (λ (d : ℕ). Each (P d l.instance) t.records) (sym it.0.0) (subst (λ (n : ℕ). Each (P device n) t.records) (sym it.1) brings),
            )

    -- ---- entries

    added_fine : (before : List PutAs) (device : ℕ) (id : Option ℕ) (r : RowsAs) (log : Id) → RowsFine before device r → RowsFine before device (added_as id r log)
    added_fine before device None r log all = all
    added_fine before device (Some id) r log all =
        let l : LogAs = new_log r id log in
        let put : PutAs = log_put true l in
        let good : Good (before ++ r.puts) put = record {
          item = λ is. absurd (let x : 3 ≡ 5 = is in omega (arith, x));
          log = λ is. (id, r.device.id, log.instance, _, refl, λ old. absurd (let x : true ≡ false = old in cc));
          device = λ is. absurd (let x : 3 ≡ 1 = is in omega (arith, x));
        } in
        let it = put_fine before device r put all good in
        let new : IsNewLog id r.device.id log.instance put = (refl, refl, (_, refl)) in
        let known : IsKnown (before ++ (r.puts ++ put ∷ [])) id r.device.id log.instance =
        inr (new_right before (r.puts ++ put ∷ []) id r.device.id log.instance (new_right r.puts (put ∷ []) id r.device.id log.instance (inl new))) in
        (it.0, logs_push (before ++ (r.puts ++ put ∷ [])) device r.logs l it.1 (all.2.0, known, refl), all.2)

    renamed_fine : (before : List PutAs) (device : ℕ) (o : Option LogAs) (r : RowsAs) (naming : Naming) → RowsFine before device r
        → ((l : LogAs) → o ≡ Some l → IsLogOf (before ++ r.puts) device l) → RowsFine before device (renaming o r naming)
    renamed_fine before device None r naming all one = all
    renamed_fine before device (Some l) r naming all one = log_fine before device r (named_as naming l) all (one l refl)

    known_fine : (before : List PutAs) (device : ℕ) (r : RowsAs) (one : Who) → RowsFine before device r → RowsFine before device (telling_known r one)
    known_fine before device r (Device id) all = all
    known_fine before device r (Name name) all = all
    known_fine before device r Address all = all

    knowing_fine : (before : List PutAs) (device : ℕ) (r : RowsAs) (one : Who) → RowsFine before device r → RowsFine before device (knowing r one)
    knowing_fine before device r (Device id) all = let q : RowsAs = record r { device = known_as (Device id) r.device } in device_fine before device q all
    knowing_fine before device r (Name name) all = let q : RowsAs = record r { device = known_as (Name name) r.device } in device_fine before device q all
    knowing_fine before device r Address all = device_fine before device r all

    entry_fine : (before : List PutAs) (device : ℕ) (r : RowsAs) (e : Entry) → RowsFine before device r → RowsFine before device (with_entry r e)
    entry_fine before device r (Known one) all = known_fine before device (knowing r one) one (knowing_fine before device r one all)
    entry_fine before device r (KnownNow one) all = knowing_fine before device r one all
    entry_fine before device r (Another one) all = all
    entry_fine before device r Untold all = all
    entry_fine before device r (Rejected reject) all = all
    entry_fine before device r (Clock offset) all =
        let q : RowsAs = record r { device = record r.device { offset = offset_of offset } } in device_fine before device q all
    entry_fine before device r (Added log) all = added_fine before device (free_id r.ids) r log all
    entry_fine before device r (Unlisted why) all = any_fine before device _ _ all
    entry_fine before device r (Others others) all = all
    entry_fine before device r (Named log naming) all =
        renamed_fine before device (log_in log r.logs) (without log r) naming (without_fine before device log r all)
        (λ l at. (found_fine (before ++ r.puts) device log r.logs l all.1 at).0)
    entry_fine before device r (Read revision) all =
        let q : RowsAs = record r { device = record r.device { revision = Some revision } } in device_fine before device q all
    entry_fine before device r (NotAsked log) all = all

    pub entries_fine : (before : List PutAs) (device : ℕ) (r : RowsAs) (es : List Entry) → RowsFine before device r → RowsFine before device (with_entries r es)
    entries_fine before device r [] all = all
    entries_fine before device r (e ∷ es) all = entries_fine before device (with_entry r e) es (entry_fine before device r e all)

    -- ---- the end

    answered_fine : (before : List PutAs) (device : ℕ) (at : Option CivilTime) (r : RowsAs) → RowsFine before device r → RowsFine before device (putting_answered at r)
    answered_fine before device None r all = all
    answered_fine before device (Some at) r all = device_fine before device r all

    left_fine : (before : List PutAs) (device : ℕ) (why : DeviceEnd) (polled : Bool) (r : RowsAs) → RowsFine before device r → RowsFine before device (left_by why polled r)
    left_fine before device Done polled r all = answered_fine before device r.answered r all
    left_fine before device Unreached polled r all = answered_fine before device r.answered r all
    left_fine before device Foreign polled r all = all
    left_fine before device Silent true r all = answered_fine before device r.answered r all
    left_fine before device Silent false r all = answered_fine before device r.answered r all

    pub at_fine : (before : List PutAs) (device : ℕ) (step : Step) (polled : Bool) (r : RowsAs) → RowsFine before device r → RowsFine before device (left_at step polled r)
    at_fine before device (End why) polled r all = left_fine before device why polled _ all
    at_fine before device Ask polled r all = all
    at_fine before device AskLater polled r all = all
    at_fine before device GoOn polled r all = all
