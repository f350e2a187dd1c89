use Rattle.std.proofs.Common.{sym, subst}
use Rattle.std.specs.Str.{IsUtf8}
use Rattle.bac_resume.proofs.Written.{stamp_utf8}
use Rattle.bac_resume.proofs.texts.read.Goals as goal

pub returns-in-Err : goal.returns-in-Err
returns-in-Err c date time d t is = absurd (c.in-Err.ensures.cases.0 (subst IsUtf8 (sym is) (stamp_utf8 date time d t)))
