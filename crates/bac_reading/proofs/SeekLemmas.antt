-- What comes of an archive that is looked into.
use Rattle.std.proofs.Common.{inl, inr, ap, Ok, Err}
use Rattle.sqlite.specs.declared.error.Error.{Error}
use Rattle.bac_files.specs.Parts.{Reading}
use Rattle.bac_kept.specs.Records.{FailsBy}
use Rattle.bac_kept.specs.declared.fault.Fault.{Fault as KeptFault}
use Rattle.bac_reading.specs.Fault.{stop_of}
use Rattle.bac_reading.specs.Last.{FailsToLook, SeeksBy}
use Rattle.bac_reading.specs.Taking.{Read}
use Rattle.bac_reading.specs.declared.last.Seeker.{Seeker}

-- a record isn't found, for a cause
pub fails_so : (cause : Error → Type 0) (why : KeptFault) → FailsBy cause why → FailsToLook (stop_of why)
fails_so cause why (inl is) = inl (ap stop_of is)
fails_so cause why (inr (e, is, so)) = inr (e, ap stop_of is)

module _ (old : Seeker) (found : Reading) (new : Seeker) where
  -- what came of it is noted
  pub search_noted : (read came : Read) → SeeksBy read old found new → SeeksBy read old found (record new { came = came })
  search_noted (Ok none) came (inl it) = inl it
  search_noted (Ok none) came (inr it) = inr (λ clean. let s = it clean in record {
    archive = s.archive;
    begun = s.begun;
    begins = s.begins;
    lasts = s.lasts;
    now = s.now;
    known = s.known;
    looks = s.looks;
    seeks = s.seeks;
  })
  search_noted (Err why) came it = it
