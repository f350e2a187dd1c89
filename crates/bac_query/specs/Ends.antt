-- The line that says how a walk of a trend log ended.
use Rattle.std.specs.Prelude.{ℕ, List, [], ◌∷◌, ◌++◌, ◌==◌, ◌||◌, if◌then◌else◌, codes, decimal, slice_index_or}
use Rattle.bac_print.specs.Causes.{abort_reasons, error_code_text, reject_reasons}
use Rattle.bac_link.specs.declared.exchanges.Refusal.{Refusal}
use Rattle.bac_link.specs.declared.exchanges.Refusal.TheVariants.{Error, Reject, Abort}
use Rattle.bac_walk.specs.declared.outcome.WalkFault.TheVariants.{Lost, Refused, BadReply}
use Rattle.bac_walk.specs.declared.outcome.Why.{Why}
use Rattle.bac_walk.specs.declared.outcome.Why.TheVariants.{CaughtUp, StepLimit, Fault, Memory}

-- a word and a number after a blank
abbrev pub numbered_word : List ℕ → ℕ → List ℕ
numbered_word word n = word ++ (32 ∷ decimal n)

-- how a device refused: the class and code of an Error, or the reason of a Reject or an Abort
unfoldable pub refusal_text : Refusal → List ℕ
refusal_text (Error class code) = codes "refused: " ++ (numbered_word (codes "error") class ++ (32 ∷ decimal code))
refusal_text (Reject reason) = codes "refused: " ++ numbered_word (codes "reject") reason
refusal_text (Abort reason) = codes "refused: " ++ numbered_word (codes "abort") reason

-- the answer is too long for one datagram, of an array or of a log's records
abbrev pub too_long : List ℕ
too_long =
    codes ": the answer is too long for one datagram; --index=0 and on reads an array in parts, --count=20 a log"

-- a name of the standard's, or that it has none
unfoldable pub named : List ℕ → List ℕ
named [] = codes "the standard has no name for it"
named (octet ∷ octets) = octet ∷ octets

-- what can be done where an answer is too long for one datagram: an Abort for reason 1, 4 or 11
unfoldable pub advice : ℕ → List ℕ
advice reason = if (reason == 1) || ((reason == 4) || (reason == 11)) then too_long else []

-- what a refusal means, in the standard's words (clauses 18.3 to 18.10)
unfoldable pub cause_text : Refusal → List ℕ
cause_text (Error class code) = named (error_code_text code)
cause_text (Reject reason) = named (slice_index_or reject_reasons reason [])
cause_text (Abort reason) = named (slice_index_or abort_reasons reason []) ++ advice reason

-- why a walk ended
unfoldable pub why_text : Why → List ℕ
why_text CaughtUp = codes "caught up"
why_text StepLimit = codes "step limit"
why_text (Fault Lost) = codes "lost"
why_text (Fault (Refused refusal)) = refusal_text refusal
why_text (Fault BadReply) = codes "bad reply"
why_text Memory = codes "out of memory"

-- why, and the sequence number that comes next
unfoldable pub end_line : Why → ℕ → List ℕ
end_line why next = why_text why ++ (codes ", next " ++ (decimal next ++ 10 ∷ []))
