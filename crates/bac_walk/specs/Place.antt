-- Where a walk of a log is.
use Rattle.std.specs.Prelude.{ℕ, Bool, true, false, ◌≡◌, ◌<◌}
use Rattle.bac_wire.specs.Primitive.{Id}
use Rattle.bac_link.specs.Standard.{IsCount}

-- the log, the next number, whether the walk begins at the oldest record and had no batch yet, whether the oldest
-- records are asked for in place of the next, and how many records a question asks for
pub record WalkPlace : Type 0 where
  pub log : Id
  pub next : ℕ
  pub fresh : Bool
  pub asks_oldest : Bool
  pub count : ℕ

-- what holds of the log, the next number, the beginning and the count of each walk: the log is a trend log, object type
-- 20, a walk that begins at the oldest record says 1 until its first batch, and a question asks for 1 to 100 records
pub record IsWalk (log : Id) (next : ℕ) (fresh : Bool) (count : ℕ) : Type 0 where
  pub kind : log.kind ≡ 20
  pub some : 0 < next
  pub first : fresh ≡ true → next ≡ 1
  pub asks : IsCount count

-- where a walk from a number begins; it asks for a hundred records if nothing else is said
abbrev pub walk_at : Id → ℕ → WalkPlace
walk_at log s = record { log = log; next = s; fresh = false; asks_oldest = false; count = 100 }

-- the same for a walk from the oldest record
abbrev pub walk_from_oldest : Id → WalkPlace
walk_from_oldest log = record { log = log; next = 1; fresh = true; asks_oldest = false; count = 100 }

-- the same walk, whose questions ask for so many records
abbrev pub asking : (count : ℕ) → WalkPlace → WalkPlace
asking count w = record w { count = count }

-- a walk that begins anew where another ended, and asks for as many records
abbrev pub resumed : WalkPlace → WalkPlace
resumed w = record w { fresh = false; asks_oldest = false }
