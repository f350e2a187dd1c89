use Rattle.bac_files.proofs.opening.open_in.Goals as goal

pub returns-in-Ok-open_files_with-clause-opened : goal.returns-in-Ok-open_files_with-clause-opened
returns-in-Ok-open_files_with-clause-opened g c =
    let is = c.in-Ok-open_files_with.ensures in
    record {
      fresh = is.fresh;
      opened = is.opened;
      found = λ clean. let found = is.found clean in record { holds = found.holds; reads = found.reads };
    }
