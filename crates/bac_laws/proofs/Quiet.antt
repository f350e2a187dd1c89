-- Words that ask for no tool leave the sockets as they were.
use Rattle.std.proofs.Common.{◌≡◌, ℕ, List, [], ◌∷◌, Result, Ok, Err, inl, inr, refl, sym, ◌∙◌}
use Rattle.clap.specs.Words.{Text}
use Rattle.clap.specs.declared.error.kind.ErrorKind.{ErrorKind}
use Rattle.bac_tools.specs.Run.{AnswersWords, AreWrong, AskFor, OnlyTells, wrong_fault}
use Rattle.bac_tools.specs.Streams.{Streams}
use Rattle.bac_command_line.specs.Outcome.{job_in, mistakes_of}
use Rattle.bac_command_line.specs.declared.job.Job.{Job}
use Rattle.bac_command_line.specs.declared.word.Word.{Word}

module _ {S C : Type 0} (words : List Text) (none : (asked : Job) → AskFor words asked → ⊥) (old new : Streams S C) (status : ℕ)
    (wrong : (word : Word) → AreWrong words word → OnlyTells (wrong_fault words word) old status new)
    (explained : (mistakes_of words ≡ [] → ⊥) → AnswersWords words old status new) where
  answered : AnswersWords words old status new → new.sockets ≡ old.sockets
  answered (inl (told, keeps, (input, same, clock))) = same
  answered (inr (kind, is, explains, (input, same, clock))) = same

  by_job : mistakes_of words ≡ [] → (found : Result Job Word) → job_in words ≡ found → new.sockets ≡ old.sockets
  by_job clear (Ok asked) is = absurd (none asked (clear, is))
  by_job clear (Err word) is = (wrong word (clear, is)).2.1

  by_mistakes : (found : List ErrorKind) → mistakes_of words ≡ found → new.sockets ≡ old.sockets
  by_mistakes [] is = by_job is (job_in words) refl
  by_mistakes (kind ∷ more) is = answered (explained (λ clear. absurd (let e : kind ∷ more ≡ [] = sym is ∙ clear in cc)))

  pub no_job : new.sockets ≡ old.sockets
  no_job = by_mistakes (mistakes_of words) refl
