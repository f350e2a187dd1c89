use Rattle.std.proofs.Common.{◌*◌, ◌+◌, ℕ, List, [], ◌∷◌, ◌++◌, length, encode_utf8, encode_utf8_all, append-nil, ap, sym, ◌∙◌, arith}
use Rattle.std.proofs.lemmas.Str.{encodes-append}
use Rattle.bac_print.proofs.TextsLemmas.{no_text, one_more}
use Rattle.bac_print.proofs.texts.of_pairs.Goals as goal

pub returns-in_default-character_of : goal.returns-in_default-character_of
returns-in_default-character_of c = λ codes some all.
    no_text c.loop-taken.invariant.0 c.args.octets.now c.loop-taken.rest.now c.in-Some.after.now codes c.in-Some.high c.in-Some.low
    (c.in-Some.ensures {u = tt}).some c.loop-taken.invariant.2 (c.in_default-character_of.ensures {u = tt}).none some all

pub loop-taken-preserved : goal.loop-taken-preserved
loop-taken-preserved c =
    let done : List ℕ = c.loop-taken.invariant.0 in
    let n : ℕ = c.in-Some.high * 256 + c.in-Some.low in
    let is = (c.in-Some.ensures {u = tt}).some in
    let found = (c.in-Some-character_of.ensures {u = tt}).found in (
      done ++ n ∷ [],
      (c.in_ok-push.ensures {u = tt}).bytes
          ∙ ap (λ l. l ++ encode_utf8 c.in-Some-character_of.character) c.loop-taken.invariant.1
          ∙ ap (λ x. encode_utf8_all done ++ encode_utf8 x) found.0
          ∙ ap (λ l. encode_utf8_all done ++ l) (sym (append-nil (encode_utf8 n)))
          ∙ sym (encodes-append done (n ∷ [])),
      one_more done c.args.octets.now c.loop-taken.rest.now c.in-Some.after.now c.in-Some.high c.in-Some.low is c.loop-taken.invariant.2,
      omega (arith, c.loop-taken.invariant.3, ap length is),
    )
