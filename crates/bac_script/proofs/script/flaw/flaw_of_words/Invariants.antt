use Rattle.std.proofs.Common.{◌≡◌, ◌+◌, drop}
use Rattle.std.specs.Option.{option_map}
use Rattle.bac_script.specs.Flaw.{flaw_from, words_left, words_wanted}
use Rattle.bac_script.proofs.script.flaw.flaw_of_words.Given as goal

abbrev pub invariant-loop-wanted : goal.invariant-loop-wanted
invariant-loop-wanted l =
    (flaw_from l.kind 2 (words_wanted l.kind) (words_left (option_map (λ rest. rest.now) l.words)) ≡ flaw_from l.kind l.place (drop l.wanted-index (words_wanted l.kind)) (words_left (option_map (λ rest. rest.now) l.rest))) × (l.place ≡ l.wanted-index + 2)
