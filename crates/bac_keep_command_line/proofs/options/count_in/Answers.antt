use Rattle.std.proofs.Common.{◌∙◌, sym, arith}
use Rattle.bac_keep_command_line.proofs.Ranges.{from_low, is_said, up_to_high}
use Rattle.bac_keep_command_line.proofs.options.count_in.Goals as goal

pub returns-in-None : goal.returns-in-None
returns-in-None c =
    let read = is_said _ _ _ (sym c.octet.ensures ∙ c.in_ok-number.was) in
    let none = c.in-None.ensures.is_some.1 (record {
      some = omega (arith, from_low 1 100 _ _ read);
      most = up_to_high 1 100 _ _ read;
    }) in
    grind (arith, none)
