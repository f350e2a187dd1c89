use Rattle.std.proofs.Common.{rules, ◌≡◌, ◌∙◌, ap, length, take, ◌++◌}
use Rattle.bac_print.proofs.Pieces.{bits_cut, bits_there}
use Rattle.bac_print.proofs.numbers.push_bits.Goals as goal

pub overflow_sub-len : goal.overflow_sub-len
overflow_sub-len c =
    let written : c.push_all_bits.new.text.items ≡ c.args.text.now.items ++ _ = search rules in
    let counted : c.len.result ≡ length c.push_all_bits.new.text.items = search rules in
    bits_there c.args.text.now.items c.args.octets.now c.args.unused c.len.result c.requires (counted ∙ ap length written)

pub returns : goal.returns
returns c =
    let written : c.push_all_bits.new.text.items ≡ c.args.text.now.items ++ _ = search rules in
    let counted : c.len.result ≡ length c.push_all_bits.new.text.items = search rules in
    c.truncate.ensures.items ∙ ap (take _) written ∙ bits_cut c.args.text.now.items c.args.octets.now c.args.unused c.len.result c.requires (counted ∙ ap length written)
