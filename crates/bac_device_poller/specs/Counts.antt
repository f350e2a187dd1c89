-- How much was kept of a log in a run.
use Rattle.std.specs.Prelude.{◌+◌, min, Bool, false, count_by, is_none, is_some}
use Rattle.bac_archive.specs.declared.row.Put.{Put}
use Rattle.bac_archive.specs.declared.row.Put.TheVariants.{Item}
use Rattle.bac_drive.specs.declared.machine.Next.{Next}
use Rattle.bac_drive.specs.declared.machine.Next.TheVariants as next
use Rattle.bac_device_poller.specs.declared.counts.Counts.{Counts}

-- whether a put is a record: an item of one number
abbrev pub is_record : Put → Bool
is_record (Item row) = is_none row.last
is_record other = false

-- whether it is a gap: an item up to a last number
abbrev pub is_gap : Put → Bool
is_gap (Item row) = is_some row.last
is_gap other = false

-- nothing
abbrev pub no_counts : Counts
no_counts = record { records = 0; gaps = 0 }

-- with what is put, if that is wanted; at the greatest number a count stays
abbrev pub counts_with : Next → Counts → Counts
counts_with (next.Keep puts) c = record {
  records = min (c.records + count_by is_record puts.items) 18446744073709551615;
  gaps = min (c.gaps + count_by is_gap puts.items) 18446744073709551615;
}
counts_with other c = c
