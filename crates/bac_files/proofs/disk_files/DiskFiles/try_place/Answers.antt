use Rattle.bac_files.proofs.disk_files.DiskFiles.try_place.Goals as goal

pub returns-clause-refused : goal.returns-clause-refused
returns-clause-refused g c = c.place_of.ensures.why c.args.may_make
