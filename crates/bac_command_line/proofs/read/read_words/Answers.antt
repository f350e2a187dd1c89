use Rattle.std.proofs.Common.{map, ap, subst, sym, inl, inr, true, true≢false, ◌≡◌, ◌∙◌}
use Rattle.std.specs.String.{string_bytes}
use Rattle.clap.specs.Words.{is_simple, is_simple_and_free, fault_of, subcommand_of, kind_of, IsAmong}
use Rattle.clap.specs.declared.error.kind.ErrorKind.TheVariants.{OutOfMemory}
use Rattle.bac_command_line.specs.Outcome.{Answers}
use Rattle.bac_command_line.proofs.Answering.{is_exact, is_simple_app, answered}
use Rattle.bac_command_line.proofs.read.read_words.Goals as goal

pub returns-in-Ok-clause-ok : goal.returns-in-Ok-clause-ok
returns-in-Ok-clause-ok c =
    let words = map string_bytes c.args.words.now in
    let app = c.in_ok-command.ensures.app in
    let none = sym (ap (λ a. fault_of a words) app) ∙ c.in-Ok.ensures.kinds (ap is_simple_and_free app ∙ is_exact) in
    let rows = (c.in-Ok.ensures.matches (ap is_simple app ∙ is_simple_app)).1 in
    let answers = subst (λ x. Answers x c.answer.result) (rows ∙ ap (λ a. subcommand_of a words) app) c.answer.ensures in
    (answered words c.answer.result none answers).0

pub returns-in-Ok-clause-err : goal.returns-in-Ok-clause-err
returns-in-Ok-clause-err c =
    let words = map string_bytes c.args.words.now in
    let app = c.in_ok-command.ensures.app in
    let none = sym (ap (λ a. fault_of a words) app) ∙ c.in-Ok.ensures.kinds (ap is_simple_and_free app ∙ is_exact) in
    let rows = (c.in-Ok.ensures.matches (ap is_simple app ∙ is_simple_app)).1 in
    let answers = subst (λ x. Answers x c.answer.result) (rows ∙ ap (λ a. subcommand_of a words) app) c.answer.ensures in
    (answered words c.answer.result none answers).1

pub returns-in-Err-2-clause-err : goal.returns-in-Err-2-clause-err
returns-in-Err-2-clause-err c =
    let words = map string_bytes c.args.words.now in
    let app = c.in_ok-command.ensures.app in
    elim (c.in-Err.ensures.kinds (ap is_simple_and_free app ∙ is_exact)) [
      | inl memory ↦
          let kind : c.kind.result ≡ OutOfMemory = c.kind.ensures ∙ memory in
          let same : c.eq.result ≡ true = rw kind at c.eq.ensures in
          absurd (true≢false (sym same ∙ c.if-eq.false))
      | inr among ↦ subst (λ a. IsAmong (kind_of c.in-Err.error) (fault_of a words)) app among
    ]
