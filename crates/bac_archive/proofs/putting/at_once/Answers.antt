use Rattle.std.proofs.Common.{◌≡◌, ◌<◌, ◌∙◌, length, slice_get, Some, arith, refl, sym}
use Rattle.std.proofs.lemmas.Option.{slice_get_within, slice_get_read}
use Rattle.bac_archive.proofs.ManyLemmas.{items_next}
use Rattle.bac_archive.proofs.putting.at_once.Goals as goal

pub loop-at-preserved : goal.loop-at-preserved
loop-at-preserved c =
    let lookup = c.in-Some.ensures.lookup in
    let there = slice_get_read c.args.puts.now (length c.args.puts.now) c.loop-at.at c.in-Some.put.now refl lookup.3.0 lookup.1 in
    let within : c.loop-at.at < length c.args.puts.now = slice_get_within c.args.puts.now c.loop-at.at _ there in
    (omega (arith, within), items_next c.args.puts.now c.loop-at.at c.in-Some.put.now there (sym c.is_record.ensures ∙ c.if-not-is_record.false) c.loop-at.invariant.1)
