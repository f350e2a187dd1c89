use Rattle.std.proofs.Common.{◌≡◌, ◌≢◌, ◌∙◌, flat_map, length, arith, sym, ap, subst₂}
use Rattle.sqlite.specs.State.{ExecutesInside}
use Rattle.sqlite.specs.Held.{state}
use Rattle.sqlite.specs.Values.{bound}
use Rattle.bac_archive.specs.Put.{given_all, given_record, many_text, text_of_all}
use Rattle.bac_archive.proofs.ManyLemmas.{many_given, many_of, many_said}
use Rattle.bac_archive.proofs.putting.put_these.Goals as goal

pub returns-clause-runs : goal.returns-clause-runs
returns-clause-runs g c clean inside =
    let several : length c.args.these.now ≢ 1 = λ one. omega (arith, one, c.if-these-eq1.false) in
    let many = many_of c.args.these.now c.requires several in
    let values : bound c.as_flattened.result.now ≡ given_all c.args.these.now =
    ap bound c.as_flattened.ensures.value ∙ c.many_bound.ensures ∙ ap (flat_map given_record) many.3 ∙ sym (many_given many.0 many.1) ∙ ap given_all (sym many.3) in
    let said : many_text ≡ text_of_all c.args.these.now = sym (ap text_of_all many.3 ∙ many_said many.0 many.1) in
    subst₂ (λ t p. ExecutesInside 0 t p (state g.S.Store c.args.tx.now.conn.now) (state g.S.Store c.execute.new.self.conn.now) c.execute.result)
    said values (c.execute.ensures.runs clean inside)
