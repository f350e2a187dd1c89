-- A file that may have so many octets, and what is refused of it.
use Rattle.std.specs.Prelude.{◌≡◌, ℕ, ◌+◌, ◌-◌, ◌^◌, min, Bool, true, false, nat_lt, Option, Some, None, Result}
use Rattle.std.specs.declared.io.Error.{Error}
use Rattle.sqlite_disk.specs.Disk.{StaysFrozen}
use Rattle.sqlite_disk.specs.Refusal.{finds_no_room}
use Rattle.sqlite_disk.specs.declared.Disk as disk
use Rattle.sqlite_disk.specs.declared.tally.Tally.{Tally}
use Rattle.bac_files.specs.declared.limited.Limited.{Limited}

-- so many octets are more than a file may have
abbrev pub exceeds : Option ℕ → ℕ → Bool
exceeds (Some most) octets = nat_lt most octets
exceeds None octets = false

-- one more, up to the top of a `u64`
abbrev pub one_more : ℕ → ℕ
one_more n = min (n + 1) (2 ^ 64 - 1)

module _ {D : Type 0} where
  -- the disk that calls are handed on to
  abbrev pub inner_of : Limited D → D
  inner_of file = file.inner

  -- how many octets the file may have
  abbrev pub most_of : Limited D → Option ℕ
  most_of file = file.most

  -- how many calls weren't handed on
  abbrev pub refused_of : Limited D → ℕ
  refused_of file = file.refused

  -- only the disk below was called
  abbrev pub IsHandedOn : Limited D → Limited D → Type 0
  IsHandedOn old new = new ≡ record old { inner = new.inner }

  -- the call found no room and the disk below wasn't called; that is counted
  abbrev pub IsKeptBack : {T : Type 0} → Result T Error → Limited D → Limited D → Type 0
  IsKeptBack result old new = (finds_no_room result ≡ true) × (new ≡ record old { refused = one_more old.refused })

module _ {D : Type 0} (g : disk.Ghosts D) where
  -- the calls that failed: those of the disk below, and those that weren't handed on
  abbrev pub faults_in : Limited D → ℕ
  faults_in file = g.faults file.inner + file.refused

  -- what they met: those that weren't handed on found no room
  abbrev pub tally_in : Limited D → Tally
  tally_in file = record {
    caught = (g.tally_of file.inner).caught;
    refused = min ((g.tally_of file.inner).refused + file.refused) (2 ^ 64 - 1);
  }

  -- the disk below has stopped
  abbrev pub StaysStill : Limited D → Limited D → Type 0
  StaysStill = StaysFrozen (λ f. g.seen f.inner) (λ f. g.may_leave f.inner) (λ f. g.is_clean f.inner)
      (λ f. g.is_frozen f.inner)
