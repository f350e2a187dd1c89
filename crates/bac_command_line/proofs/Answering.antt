-- What is answered to words that clap takes.
use Rattle.std.proofs.Common.{◌≡◌, Bool, List, [], Option, Result, Ok, Err, IfOk, IfErr, true, false, refl, subst, sym}
use Rattle.clap.specs.Words.{Row, Text, subcommand_of, is_simple, is_simple_and_free}
use Rattle.clap.proofs.OnLiterals.{clap_on_literals}
use Rattle.bac_command_line.specs.declared.job.Job.{Job}
use Rattle.bac_command_line.specs.declared.word.Word.{Word}
use Rattle.bac_command_line.specs.declared.fault.WordsFault.{WordsFault}
use Rattle.bac_command_line.specs.declared.fault.WordsFault.TheVariants.{Usage, BadValue, LongNumber, Memory}
use Rattle.bac_command_line.specs.Commands.{bac_app}
use Rattle.bac_command_line.specs.Jobs.{job_of}
use Rattle.bac_command_line.specs.Outcome.{mistakes_of, is_long_of, job_in, Answers, IsRefused}

-- clap's contracts are exact for our command
pub is_exact : is_simple_and_free bac_app ≡ true
unfolding clap_on_literals
is_exact = refl

pub is_simple_app : is_simple bac_app ≡ true
unfolding clap_on_literals
is_simple_app = refl

pub answered : (words : List Text) (result : Result Job WordsFault) → mistakes_of words ≡ [] → Answers (subcommand_of bac_app words) result
    → IfOk result (λ job. (mistakes_of words ≡ []) × (job_in words ≡ Ok job)) × IfErr result (IsRefused words)
answered words (Ok job) none answers = ((none, answers), tt)
answered words (Err (BadValue w)) none answers = (tt, (none, answers.0, answers.1))
answered words (Err (LongNumber w)) none answers = (tt, (none, answers.0, answers.1))
answered words (Err Memory) none answers = (tt, tt)
answered words (Err (Usage e)) none answers = absurd answers

either_way : (rows : Option (Text × List Row)) (w : Word) (fault : WordsFault) → job_of rows ≡ Err w → (is_long_of w rows ≡ true → fault ≡ LongNumber w)
    → (is_long_of w rows ≡ false → fault ≡ BadValue w) → (b : Bool) → is_long_of w rows ≡ b → Answers rows (Err fault)
either_way rows w fault wrong long other true is = subst (λ (f : WordsFault). Answers rows (Err f)) (sym (long is)) (wrong, is)
either_way rows w fault wrong long other false is = subst (λ (f : WordsFault). Answers rows (Err f)) (sym (other is)) (wrong, is)

-- what is answered if a word is wrong
pub wrong_answers : (rows : Option (Text × List Row)) (w : Word) (fault : WordsFault) → job_of rows ≡ Err w → (is_long_of w rows ≡ true → fault ≡ LongNumber w)
    → (is_long_of w rows ≡ false → fault ≡ BadValue w) → Answers rows (Err fault)
wrong_answers rows w fault wrong long other =
    let either : (b : Bool) → is_long_of w rows ≡ b → Answers rows (Err fault) = either_way rows w fault wrong long other in
    either (is_long_of w rows) refl
