use Rattle.std.proofs.Common.{rules, ◌≡◌, ◌∙◌, ◌-◌, sym, ap, ◌++◌, take, drop, length}
use Rattle.std.proofs.lemmas.Bool.{eqb-true}
use Rattle.hex.specs.Hex.{encode_lower}
use Rattle.bac_print.proofs.Pieces.{hex_more, hex_done}
use Rattle.bac_print.proofs.numbers.push_hex.Goals as goal

pub loop-rest-preserved : goal.loop-rest-preserved
loop-rest-preserved c =
    let rest = c.loop-rest.rest.now in
    let n = c.min-count.result in
    let written : c.push_some_hex.new.text.items ≡ c.loop-rest.text.items ++ encode_lower (take n rest) = search rules in
    ap (λ l. l ++ encode_lower (take (length rest - n) (drop n rest))) written ∙ hex_more c.loop-rest.text.items rest n ∙ c.loop-rest.invariant

pub returns : goal.returns
returns c = sym (hex_done c.loop-rest.text.items c.loop-rest.rest.now (eqb-true _ _ (sym c.is_empty.ensures ∙ c.loop-rest-test.false))) ∙ c.loop-rest.invariant
