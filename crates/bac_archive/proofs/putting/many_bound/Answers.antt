use Rattle.std.proofs.Common.{◌≡◌, ◌<◌, ◌∙◌, flat_map, length, take, arith, refl, subst}
use Rattle.std.proofs.lemmas.List.{length-set, take_all}
use Rattle.std.proofs.lemmas.Option.{slice_get_read}
use Rattle.sqlite.specs.Values.{bound}
use Rattle.bac_archive.specs.Put.{given_record}
use Rattle.bac_archive.proofs.ManyLemmas.{bound_next}
use Rattle.bac_archive.proofs.putting.many_bound.Goals as goal

pub loop-at-preserved : goal.loop-at-preserved
loop-at-preserved c =
    let len = c.loop-at.invariant.0 in
    let there : c.loop-at.at < length c.args.these.now = omega (arith, c.loop-at-test.true, c.requires) in
    let within : c.loop-at.at < length c.loop-at.rows = omega (arith, c.loop-at-test.true, len) in
    let got = slice_get_read c.args.these.now (length c.args.these.now) c.loop-at.at c.index-these-at.result refl there c.index-these-at.is in (
      length-set c.loop-at.rows c.loop-at.at c.record_or_nulls.result ∙ len,
      bound_next c.loop-at.rows c.args.these.now c.loop-at.at c.record_or_nulls.result c.index-these-at.result within got c.record_or_nulls.ensures c.loop-at.invariant.1,
    )

pub returns : goal.returns
returns c =
    let done : c.loop-at.at ≡ 32 = omega (arith, c.loop-at-test.false, c.loop-at.auto.at-end) in
    let all = subst (λ n. bound (flat_map (λ r. r) (take n c.loop-at.rows)) ≡ flat_map given_record (take n c.args.these.now)) done c.loop-at.invariant.1 in
    rw (take_all 32 c.loop-at.rows (omega (arith, c.loop-at.invariant.0)), take_all 32 c.args.these.now (omega (arith, c.requires))) at all
