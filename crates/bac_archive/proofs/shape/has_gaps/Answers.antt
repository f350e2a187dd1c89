use Rattle.bac_archive.proofs.shape.has_gaps.Goals as goal

pub returns : goal.returns
returns c = rw c.as_bytes.ensures.value at c.has_view.ensures
