-- Octets that are written in parts.
use Rattle.std.proofs.Common.{◌≡◌, ℕ, ◌-◌, List, [], ◌++◌, length, take, drop, sym, ap, ◌∙◌, append_assoc, take-append-drop}
use Rattle.std.proofs.lemmas.List.{append-nil, take_rest}
use Rattle.std.proofs.KnownBytes.{Appends-trans}
use Rattle.std.specs.Io.KnownBytes.{Appends}
use Rattle.bac_print.specs.Output.{AppendsPart, Held}

-- of the octets those before the rest were written
abbrev pub IsWrittenTo : Held → Held → List ℕ → List ℕ → Type 0
IsWrittenTo old new octets rest = (done : List ℕ) × (octets ≡ done ++ rest) × Appends old new done

-- n octets more are, and what is left then is behind them
pub writes_on : (old mid new : Held) (octets rest : List ℕ) (n : ℕ) → IsWrittenTo old mid octets rest → Appends mid new (take n rest) →
    IsWrittenTo old new octets (take (length rest - n) (drop n rest))
writes_on old mid new octets rest n (done, split, appended) more = (
  done ++ take n rest,
  split ∙ ap (λ l. done ++ l) (sym (take-append-drop n rest) ∙ ap (λ l. take n rest ++ l) (sym (take_rest rest n)))
      ∙ sym (append_assoc done (take n rest) (take (length rest - n) (drop n rest))),
  Appends-trans old mid new done (take n rest) appended more,
)

-- the whole is a front part too
pub whole_part : (old new : Held) (text : List ℕ) → Appends old new text → AppendsPart old new text
whole_part old new text all = (text, [], sym (append-nil text), all)
