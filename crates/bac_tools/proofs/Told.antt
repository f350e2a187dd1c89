-- What is done of words, by what was done of them as they were read.
use Rattle.std.proofs.Common.{◌≡◌, ℕ, List, [], inl, inr, Option, Result, Ok, Err, IfOk, IfErr, refl, subst, sym}
use Rattle.clap.specs.Words.{Text, IsAmong, kind_of}
use Rattle.bac_socket_notes.specs.declared.notes.Passed.{Passed}
use Rattle.bac_ports.specs.Sockets.{SocketRules}
use Rattle.bac_tools.specs.Run.{AnswersWords, AreWrong, AskFor, OnlyTells, Runs, RunsRead, wrong_fault}
use Rattle.bac_tools.specs.Streams.{Streams}
use Rattle.bac_tools.specs.declared.fault.Fault.{Fault}
use Rattle.bac_tools.specs.declared.fault.Fault.TheVariants as fault
use Rattle.bac_wire.specs.Stamp.{CivilTime}
use Rattle.bac_command_line.specs.Outcome.{mistakes_of, job_in, IsRefused}
use Rattle.bac_command_line.specs.declared.fault.WordsFault.{WordsFault}
use Rattle.bac_command_line.specs.declared.fault.WordsFault.TheVariants.{Usage, BadValue, LongNumber, Memory}
use Rattle.bac_command_line.specs.declared.job.Job.{Job}
use Rattle.bac_command_line.specs.declared.word.Word.{Word}

-- words that bac takes have no mistake
unmistaken : {A : Type 0} (words : List Text) (e : _) → mistakes_of words ≡ [] → IsAmong (kind_of e) (mistakes_of words) → A
unmistaken words e none among = absurd (subst (λ kinds. IsAmong (kind_of e) kinds) none among)

-- words say one thing
pub one_job : (said : Result Job Word) (a b : Job) → said ≡ Ok a → said ≡ Ok b → a ≡ b
one_job said a b p q = cc

one_word : (said : Result Job Word) (v w : Word) → said ≡ Err v → said ≡ Err w → v ≡ w
one_word said v w p q = cc

pub never_both : {A : Type 0} (said : Result Job Word) (a : Job) (w : Word) → said ≡ Ok a → said ≡ Err w → A
never_both said a w p q = absurd (cc)

-- out of memory may be told in place of any fault
memory_for : {S C : Type 0} (f : Fault) (old : Streams S C) (status : ℕ) (new : Streams S C) → OnlyTells fault.Memory old status new
    → OnlyTells f old status new
memory_for f old status new told = elim (told.0) [
  | inl it ↦ (inr it, told.1, told.2)
  | inr it ↦ (inr it, told.1, told.2)
]

pub done_of : {S P C : Type 0} (rules : SocketRules S P) (passes : S → Passed) (tells : C → Option CivilTime → C → Type 0) (words : List Text)
    (read : Result Job WordsFault) (old : Streams S C) (status : ℕ) (new : Streams S C)
    → IfOk read (λ job. (mistakes_of words ≡ []) × (job_in words ≡ Ok job)) → IfErr read (IsRefused words)
    → RunsRead rules passes tells read old status new → (asked : Job) → AskFor words asked → Runs rules passes tells asked old status new
done_of rules passes tells words (Ok job) old status new ok err ran asked ask =
    subst (λ j. Runs rules passes tells j old status new) (one_job (job_in words) job asked ok.1 ask.1) ran
done_of rules passes tells words (Err (Usage e)) old status new ok err ran asked ask = unmistaken words e ask.0 err
done_of rules passes tells words (Err (BadValue w)) old status new ok err ran asked ask = never_both (job_in words) asked w ask.1 err.1
done_of rules passes tells words (Err (LongNumber w)) old status new ok err ran asked ask = never_both (job_in words) asked w ask.1 err.1
done_of rules passes tells words (Err Memory) old status new ok err ran asked ask = inl ran

pub wrong_of : {S P C : Type 0} (rules : SocketRules S P) (passes : S → Passed) (tells : C → Option CivilTime → C → Type 0) (words : List Text)
    (read : Result Job WordsFault) (old : Streams S C) (status : ℕ) (new : Streams S C)
    → IfOk read (λ job. (mistakes_of words ≡ []) × (job_in words ≡ Ok job)) → IfErr read (IsRefused words)
    → RunsRead rules passes tells read old status new → (word : Word) → AreWrong words word → OnlyTells (wrong_fault words word) old status new
wrong_of rules passes tells words (Ok job) old status new ok err ran word wrong = never_both (job_in words) job word ok.1 wrong.1
wrong_of rules passes tells words (Err (Usage e)) old status new ok err ran word wrong = unmistaken words e wrong.0 err
wrong_of rules passes tells words (Err (BadValue w)) old status new ok err ran word wrong =
    let same = one_word (job_in words) w word err.1 wrong.1 in
    let told : wrong_fault words word ≡ fault.BadValue w = rw (sym same, err.2) refl in
    subst (λ f. OnlyTells f old status new) (sym told) ran
wrong_of rules passes tells words (Err (LongNumber w)) old status new ok err ran word wrong =
    let same = one_word (job_in words) w word err.1 wrong.1 in
    let told : wrong_fault words word ≡ fault.LongNumber w = rw (sym same, err.2) refl in
    subst (λ f. OnlyTells f old status new) (sym told) ran
wrong_of rules passes tells words (Err Memory) old status new ok err ran word wrong = memory_for (wrong_fault words word) old status new ran

pub explained_of : {S P C : Type 0} (rules : SocketRules S P) (passes : S → Passed) (tells : C → Option CivilTime → C → Type 0) (words : List Text)
    (read : Result Job WordsFault) (old : Streams S C) (status : ℕ) (new : Streams S C)
    → IfOk read (λ job. (mistakes_of words ≡ []) × (job_in words ≡ Ok job)) → IfErr read (IsRefused words)
    → RunsRead rules passes tells read old status new → (mistakes_of words ≡ [] → ⊥) → AnswersWords words old status new
explained_of rules passes tells words (Ok job) old status new ok err ran mistaken = absurd (mistaken ok.0)
explained_of rules passes tells words (Err (Usage e)) old status new ok err ran mistaken = elim ran [
  | inl told ↦ inl told
  | inr said ↦ inr (kind_of e, err, said.0, said.1)
]
explained_of rules passes tells words (Err (BadValue w)) old status new ok err ran mistaken = absurd (mistaken err.0)
explained_of rules passes tells words (Err (LongNumber w)) old status new ok err ran mistaken = absurd (mistaken err.0)
explained_of rules passes tells words (Err Memory) old status new ok err ran mistaken = inl ran
