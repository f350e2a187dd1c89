-- What the rows of a log say that are put one after the other, from where it stands: each number comes once. Read
-- `GoOn`.
use Rattle.std.specs.Prelude.{◌≡◌, ◌≤◌, ◌⊎◌, ℕ, ◌+◌, ◌*◌, pos, Bool, true, false, if◌then◌else◌, List, [], ◌∷◌, Option}
use Rattle.sqlite_value.specs.declared.value.Value.TheVariants.{Int, Text}
use Rattle.sqlite.specs.Values.{or_null}
use Rattle.bac_walk.specs.declared.batch.Numbered.{Numbered}
use Rattle.bac_device_poller.specs.Puts.{PutAs, gap_columns, record_columns, why_first}

-- where the next row of a log stands: in which epoch, and the number that comes next
pub record Stand : Type 0 where
  pub epoch : ℕ
  pub next : ℕ

-- the sequence number that comes next there: 1 of the next epoch, where the last number of the epoch is put
abbrev pub number_at : (full : Bool) → (next : ℕ) → ℕ
number_at full next = if full then 1 else next

-- what a row of a log says: a record; that records are missing, up to a number; that the next epoch begins; or where
-- the first one begins, and whether that is known by the count alone
pub data Says : Type 0 where
  Recorded : Numbered → Says
  Missing : (last : ℕ) → (doubtful : Bool) → Says
  Renewed : (why : Option (List ℕ)) → Says
  Begins : (counted : Bool) → (number : ℕ) → Says

-- of each epoch of each log its own number
abbrev pub era : (log : ℕ) → (epoch : ℕ) → ℕ
era log epoch = log * 32768 + epoch

-- the row of a beginning
abbrev pub beginning_row : (is_new : Bool) → (era : ℕ) → (number : ℕ) → Option (List ℕ) → PutAs
beginning_row is_new era number why =
    record { tree = 6; is_new = is_new; columns = Int (pos era) ∷ Int (pos number) ∷ or_null Text why ∷ [] }

-- the row that says so, of a log that stands there
abbrev pub row_of : (log : ℕ) → Stand → Says → PutAs
row_of log s (Recorded held) =
    record { tree = 5; is_new = true; columns = record_columns (era log s.epoch) held }
row_of log s (Missing last doubtful) =
    record { tree = 5; is_new = true; columns = gap_columns (era log s.epoch) s.next last doubtful }
row_of log s (Renewed why) = beginning_row true (era log (s.epoch + 1)) 1 why
row_of log s (Begins counted number) = beginning_row counted (era log s.epoch) number (why_first counted)

-- where the log stands behind it
abbrev pub behind : Stand → Says → Stand
behind s (Recorded held) = record s { next = s.next + 1 }
behind s (Missing last doubtful) = record s { next = last + 1 }
behind s (Renewed why) = record { epoch = s.epoch + 1; next = 1 }
behind s (Begins counted number) = record s { next = if counted then s.next else number }

-- It may be said there: a record has the number that comes next, and this holds of it. A gap is from there on, up to a
-- number that isn't before it, or the last that there is; and this holds of the number at which it ends, if it isn't
-- doubtful. A first epoch begins where nothing of it is kept.
abbrev pub IsSaid : (Numbered → Type 0) → (ℕ → Type 0) → Stand → Says → Type 0
IsSaid P F s (Recorded held) = P held × (held.number ≡ s.next) × (s.next ≤ 4294967295)
IsSaid P F s (Missing last doubtful) =
    (last ≤ 4294967295) × ((s.next ≤ last) ⊎ (last ≡ 4294967295))
    × (doubtful ≡ false → F (last + 1) ⊎ (last ≡ 4294967295))
IsSaid P F s (Renewed why) = Unit {0}
IsSaid P F s (Begins counted number) = s.next ≡ 1

-- Rows of a log go on, one after the other: each says what may be said where the one before it ended.
abbrev pub GoOn : (Numbered → Type 0) → (ℕ → Type 0) → (log : ℕ) → Stand → List PutAs → Stand → Type 0
GoOn P F log s [] t = t ≡ s
GoOn P F log s (put ∷ puts) t =
    (says : Says) × IsSaid P F s says × (put ≡ row_of log s says) × GoOn P F log (behind s says) puts t

-- a record has a sequence number (clause 12.25): 1 to 4294967295
abbrev pub IsNumbered : Numbered → Type 0
IsNumbered held = (1 ≤ held.number) × (held.number ≤ 4294967295)
