use Rattle.std.proofs.Common.{◌≡◌, ◌∙◌, ◌+◌, ◌<◌, ℕ, false, List, [], ◌∷◌, arith, drop, get_or, length, refl, sym}
use Rattle.std.proofs.lemmas.List.{at_drop_more}
use Rattle.bac_command_line.specs.Dates.{is_front}
use Rattle.bac_command_line.proofs.dates.is_front.Goals as goal

-- a text goes on behind the end of its form
too_long : (form : List ℕ) (octet : ℕ) (octets : List ℕ) → length form < 1 → is_front form (octet ∷ octets) ≡ false
too_long [] octet octets none = refl
too_long (mark ∷ marks) octet octets none = absurd (omega arith)

pub returns-in_default : goal.returns-in_default
returns-in_default c =
    let text = c.args.text.now in
    let rest = c.loop-octet.rest.now in
    let i = c.loop-octet.octet-index in
    let past = too_long rest (get_or text i 0) (drop (i + 1) text) c.in_default.len_below in
    sym (c.loop-octet.invariant ∙ at_drop_more (is_front rest) text i 0 c.loop-octet-test.true ∙ past)
