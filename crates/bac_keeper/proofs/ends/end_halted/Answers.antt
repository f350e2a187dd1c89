use Rattle.std.proofs.Common.{subst}
use Rattle.std.specs.String.{string_bytes}
use Rattle.bac_print.specs.Output.{AppendsPart}
use Rattle.bac_keeper.proofs.ends.end_halted.Goals as goal

pub returns-in-Ok : goal.returns-in-Ok
returns-in-Ok g c =
    let told = subst (AppendsPart (g.E.Write.contents c.args.errors.now) (g.E.Write.contents c.say.new.errors)) c.as_bytes.ensures.value c.say.ensures in
    rw c.in-File.is (c.status.ensures, (string_bytes c.in-Ok.text, c.in-Ok.ensures, told))
