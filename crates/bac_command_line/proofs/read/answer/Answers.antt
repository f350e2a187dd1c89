use Rattle.clap.specs.Words.{subcommand_rows_of}
use Rattle.bac_command_line.proofs.Answering.{wrong_answers}
use Rattle.bac_command_line.proofs.read.answer.Goals as goal

pub returns-in-Err-BadValue : goal.returns-in-Err-BadValue
returns-in-Err-BadValue c =
    let made = rw c.in-Err-BadValue.field-0-is at c.in-Err-BadValue.ensures in
    wrong_answers (subcommand_rows_of c.args.matches.now) c.in-Err-BadValue.word c.wrong.result made c.wrong.ensures.long c.wrong.ensures.other
