-- A machine around a machine, which holds its rows. Read `GivesBatched`, `HearsBatched` and `ReadsBatched`.
use Rattle.std.specs.Prelude.{◌≡◌, ◌⊎◌, ℕ, ◌-◌, ◌<◌, ◌==◌, ◌&&◌, ◌||◌, nat_le, Bool, true, false, max, min, List, []}
use Rattle.std.specs.Prelude.{◌∷◌, ◌++◌, is_err, if◌then◌else◌}
use Rattle.bac_archive.specs.declared.row.Put.{Put}
use Rattle.bac_ports.specs.Port.{Receiving}
use Rattle.bac_drive.specs.declared.machine.Next.{Next}
use Rattle.bac_drive.specs.declared.machine.Next.TheVariants as next

-- What is known of a machine whose rows are held.
pub record Batched (M : Type 0) : Type 0 where
  pub machine : M
  pub puts : List Put  -- rows that it wants to be put, and that aren't yet: the batch
  pub room : ℕ  -- how many replies more the batch takes
  pub since : ℕ  -- what the clock had told last as the first of them came, in milliseconds
  pub time : ℕ  -- what it has told last
  pub behind : List Next  -- what is to be done behind the batch: lines, and at last a wait or the end
  pub quiet : Bool  -- the last wait brought no datagram

-- around a machine that has said nothing yet
abbrev pub fresh_batch : {M : Type 0} → M → Batched M
fresh_batch machine =
    record { machine = machine; puts = []; room = 64; since = 0; time = 0; behind = []; quiet = false }

-- rows are held
abbrev pub HoldsRows : {M : Type 0} → Batched M → Type 0
HoldsRows b = b.puts ≡ [] → ⊥

-- how many milliseconds more they are: 100, by the clock as it was read last
abbrev pub left : {M : Type 0} → Batched M → ℕ
left b = 100 - (b.time - b.since)

-- it is nearly full: it has 48 replies
abbrev pub is_nearly_full : {M : Type 0} → Batched M → Bool
is_nearly_full b = nat_le b.room 16

-- it is to be put before a wait: its rows may be held no longer, or it is nearly full and nothing is there to be heard
abbrev pub is_due : {M : Type 0} → Batched M → Bool
is_due b = (left b == 0) || (is_nearly_full b && b.quiet)

-- how long it is waited: no longer than rows may be held; where it is nearly full, only for what is there already
abbrev pub cut_short : {M : Type 0} → ℕ → Batched M → ℕ
cut_short most b = if is_nearly_full b then 0 else min most (left b)

-- what is to be done is that these rows are put
abbrev pub IsKeep : List Put → Next → Type 0
IsKeep puts (next.Keep all) = all.items ≡ puts
IsKeep puts other = ⊥

-- this is to be done, and nothing is held for it
abbrev pub IsDone : {M : Type 0} → Next → Batched M → Next → Batched M → Type 0
IsDone wanted old given new = (given ≡ wanted) × (new ≡ old)

-- nothing is to be done yet: a batch without rows
abbrev pub IsLater : {M : Type 0} → Batched M → Next → Batched M → Type 0
IsLater now given new = IsKeep [] given × (new ≡ now)

-- the batch is to be put
abbrev pub IsBatch : {M : Type 0} → Batched M → Next → Batched M → Type 0
IsBatch old given new = IsKeep old.puts given × (new ≡ record old { puts = [] })

-- and this is to be done behind it
abbrev pub IsBatchBefore : {M : Type 0} → Next → Batched M → Next → Batched M → Type 0
IsBatchBefore wanted old given new =
    IsKeep old.puts given × (new ≡ record old { puts = []; behind = old.behind ++ wanted ∷ [] })

-- ---- what is made of what the machine inside wants

-- rows of one more reply are held: the first of a batch, or more of it
abbrev pub IsHeld : {M : Type 0} → List Put → Batched M → Batched M → Type 0
IsHeld rows old new =
    ((old.puts ≡ []) × (new ≡ record old { puts = rows; room = 63; since = old.time }))
    ⊎ (HoldsRows old × (new ≡ record old { puts = old.puts ++ rows; room = old.room - 1 }))

-- they stay so while the batch takes more
abbrev pub IsFilled : {M : Type 0} → Batched M → Next → Batched M → Type 0
IsFilled mid given new = ((0 < mid.room) × IsLater mid given new) ⊎ ((mid.room ≡ 0) × IsBatch mid given new)

-- Rows are held. A reply without rows counts as none.
abbrev pub Gathers : {M : Type 0} → List Put → Batched M → Next → Batched M → Type 0
Gathers {M = M} rows old given new =
    ((rows ≡ []) × IsLater old given new)
    ⊎ ((rows ≡ [] → ⊥) × ((mid : Batched M) × IsHeld rows old mid × IsFilled mid given new))

-- A line is told, behind the rows that are held.
abbrev pub Tells : {M : Type 0} → Next → Batched M → Next → Batched M → Type 0
Tells line old given new =
    ((old.puts ≡ []) × IsDone line old given new)
    ⊎ (HoldsRows old × IsLater (record old { behind = old.behind ++ line ∷ [] }) given new)

-- It waits, cut short; if the batch is due, behind that.
abbrev pub WaitsHolding : {M : Type 0} → ℕ → Batched M → Next → Batched M → Type 0
WaitsHolding most old given new =
    ((is_due old ≡ true) × IsBatchBefore (next.Wait most) old given new)
    ⊎ ((is_due old ≡ false) × IsDone (next.Wait (cut_short most old)) old given new)

-- It waits.
abbrev pub Waits : {M : Type 0} → ℕ → Batched M → Next → Batched M → Type 0
Waits most old given new =
    ((old.puts ≡ []) × IsDone (next.Wait most) old given new) ⊎ (HoldsRows old × WaitsHolding most old given new)

-- It ends, behind the batch.
abbrev pub Ends : {M : Type 0} → Batched M → Next → Batched M → Type 0
Ends old given new =
    ((old.puts ≡ []) × IsDone next.End old given new) ⊎ (HoldsRows old × IsBatchBefore next.End old given new)

-- By what it wants: a send and a reading of the clock wait for no batch.
abbrev pub Answers : {M : Type 0} → Next → Batched M → Next → Batched M → Type 0
Answers (next.Keep all) old given new = Gathers all.items old given new
Answers (next.Print text) old given new = Tells (next.Print text) old given new
Answers (next.Warn text) old given new = Tells (next.Warn text) old given new
Answers (next.Wait most) old given new = Waits most old given new
Answers next.End old given new = Ends old given new
Answers (next.Send datagram to) old given new = IsDone (next.Send datagram to) old given new
Answers next.Read old given new = IsDone next.Read old given new

-- ---- what it wants, hears and reads

-- the first of what stands behind a batch that was given is to be done
abbrev pub IsFreed : {M : Type 0} → Batched M → Next → Batched M → Type 0
IsFreed old given new =
    (others : List Next) × (old.puts ≡ []) × (old.behind ≡ given ∷ others) × (new ≡ record old { behind = others })

-- nothing does
abbrev pub NoneFreed : {M : Type 0} → Batched M → Type 0
NoneFreed b = b.puts ≡ [] → b.behind ≡ []

-- the machine inside is asked
abbrev pub Asks : {M : Type 0} → (M → Next → M → Type 0) → Batched M → Next → Batched M → Type 0
Asks {M = M} gives old given new =
    (wanted : Next) × (mid : M) × gives old.machine wanted mid × Answers wanted (record old { machine = mid }) given new

-- What is to be done: first what stands behind a batch that was given; then the machine inside is asked.
abbrev pub GivesBatched : {M : Type 0} → (M → Next → M → Type 0) → Batched M → Next → Batched M → Type 0
GivesBatched gives old given new = IsFreed old given new ⊎ (NoneFreed old × Asks gives old given new)

-- What came is for the machine inside; whether something did is noted.
abbrev pub HearsBatched : {M : Type 0} → (M → Receiving → M → Type 0) → Batched M → Receiving → Batched M → Type 0
HearsBatched {M = M} hears old heard new =
    (mid : M) × hears old.machine heard mid × (new ≡ record old { machine = mid; quiet = is_err heard })

-- So is what the clock tells, which doesn't go back.
abbrev pub ReadsBatched : {M : Type 0} → (M → ℕ → M → Type 0) → Batched M → ℕ → Batched M → Type 0
ReadsBatched {M = M} reads old ms new =
    (mid : M) × reads old.machine ms mid × (new ≡ record old { machine = mid; time = max old.time ms })
