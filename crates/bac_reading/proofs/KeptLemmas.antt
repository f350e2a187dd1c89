-- An archive that is printed, or not to its end.
use Rattle.std.proofs.Common.{◌≡◌, [], false, inl, inr, refl, sym, subst, append-nil, Ok, Err}
use Rattle.sqlite.specs.declared.error.Error.{Error}
use Rattle.bac_archive.specs.Archive.{IsArchive}
use Rattle.bac_files.specs.Parts.{Reading}
use Rattle.bac_kept.specs.Csv.{names_text}
use Rattle.bac_kept.specs.Faults.{EndsBy, EndsText}
use Rattle.bac_kept.specs.declared.fault.Fault.{Fault as KeptFault}
use Rattle.bac_kept.specs.declared.fault.Fault.TheVariants.{Database, Memory, NoLog, Write}
use Rattle.bac_print.specs.Output.{AppendsPart, Held}
use Rattle.bac_reading.specs.Fault.{stop_of}
use Rattle.bac_reading.specs.Kept.{PrintsBy, PrintsLess, PrintsTaken}
use Rattle.bac_reading.specs.Taking.{IsClean, Read}
use Rattle.bac_reading.specs.declared.fault.Stop.TheVariants.{Fault as Faulty, Trouble as Troubled}
use Rattle.bac_reading.specs.declared.kept.Printer.{Printer}

-- none of its logs isn't told there
no_log : (why : Error → Type 0) → EndsBy why NoLog → ⊥
no_log why (inl (inl is)) = absurd (let it = is in cc)
no_log why (inl (inr is)) = absurd (let it = is in cc)
no_log why (inr (e, is, cause)) = absurd (let it = is in cc)

module _ (old : Printer) (found : Reading) (before after : Held) (new : Printer) where
  -- the row of names, or a front of it
  pub names_less : IsArchive found.found → AppendsPart before after (names_text old.names) → PrintsLess old found before after
  names_less archive part = record { archive = archive; text = []; is = inl refl; printed = subst (AppendsPart before after) (sym (append-nil (names_text old.names))) part }

  -- so it ends at a text that isn't written
  pub unwritten : (why : KeptFault) → EndsText why → new.has_any ≡ old.has_any → (IsClean found → PrintsLess old found before after) → PrintsTaken (Err (stop_of why)) old found before after new
  unwritten why (inl is) any less = subst (λ w. PrintsTaken (Err (stop_of w)) old found before after new) (sym is) (any, less)
  unwritten why (inr is) any less = subst (λ w. PrintsTaken (Err (stop_of w)) old found before after new) (sym is) (any, less)

  -- or as its database fails
  pub unprinted : (why : KeptFault) (cause : Error → Type 0) → (IsClean found → EndsBy cause why) → new.has_any ≡ old.has_any → new.names ≡ false → (IsClean found → PrintsLess old found before after)
      → PrintsTaken (Err (stop_of why)) old found before after new
  unprinted Memory cause ends any names less = (any, less)
  unprinted Write cause ends any names less = (any, less)
  unprinted NoLog cause ends any names less = (any, names, λ clean. absurd (no_log cause (ends clean)))
  unprinted (Database e) cause ends any names less = (any, names, λ clean. ((e, refl), less clean))

  -- what came of it is noted
  pub noted : (read came : Read) → PrintsBy read old found before after new → PrintsBy read old found before after (record new { came = came })
  noted (Ok none) came (inl it) = inl it
  noted (Ok none) came (inr it) = inr (λ clean. let p = it clean in record {
    archive = p.archive;
    known = p.known;
    told = p.told;
    text = p.text;
    is = p.is;
    printed = p.printed;
    any = p.any;
    names = p.names;
  })
  noted (Err (Troubled trouble)) came it = it
  noted (Err (Faulty fault)) came it = it
