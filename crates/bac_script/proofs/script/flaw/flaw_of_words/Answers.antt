use Rattle.std.proofs.Common.{[], arith, ap, sym, ◌∙◌, ◌<◌, ◌≤◌, drop, length, subst}
use Rattle.std.specs.Option.{option_map}
use Rattle.bac_script.specs.Flaw.{flaw_from, words_left, words_wanted}
use Rattle.bac_script.specs.Script.Words.{words_of}
use Rattle.bac_script.proofs.Flaws.{flaw-next, flaw-none_left, flaw-past}
use Rattle.bac_script.proofs.script.flaw.flaw_of_words.Goals as goal

pub returns-in_default : goal.returns-in_default
returns-in_default c =
    let all = words_wanted c.args.kind in
    let more : c.loop-wanted.wanted-index < length all = subst (λ l. c.loop-wanted.wanted-index < length l) c.words_wanted-wanted-items.ensures c.loop-wanted-test.true in
    sym (c.loop-wanted.invariant.0
    ∙ ap (λ rest. flaw_from c.args.kind c.loop-wanted.place (drop c.loop-wanted.wanted-index all) (words_left (option_map (λ text. text.now) rest))) c.in_default.is
    ∙ flaw-none_left c.args.kind c.loop-wanted.place c.loop-wanted.wanted-index all more)

pub returns-in-Some-rest : goal.returns-in-Some-rest
returns-in-Some-rest c =
    let all = words_wanted c.args.kind in
    let past : length all ≤ c.loop-wanted.wanted-index = subst (λ l. length l ≤ c.loop-wanted.wanted-index) c.words_wanted-wanted-items.ensures c.loop-wanted-test.false in
    c.extra_word.ensures
    ∙ sym (c.loop-wanted.invariant.0
    ∙ ap (λ rest. flaw_from c.args.kind c.loop-wanted.place (drop c.loop-wanted.wanted-index all) (words_left (option_map (λ text. text.now) rest))) c.in-Some-rest.is
    ∙ flaw-past c.args.kind c.loop-wanted.place c.loop-wanted.wanted-index all (words_of c.in-Some-rest.text.now) past)

pub loop-wanted-preserved : goal.loop-wanted-preserved
loop-wanted-preserved c =
    let left = ap (λ rest. words_left (option_map (λ text. text.now) rest)) c.in-Some.is ∙ c.first_word.ensures in (
      c.loop-wanted.invariant.0
          ∙ flaw-next c.args.kind c.loop-wanted.place c.loop-wanted.wanted-index (words_wanted c.args.kind) _ _ _ _ _ c.words_wanted-wanted-items.ensures c.loop-wanted-test.true left
          (sym c.is_wanted.ensures ∙ c.if-not-is_wanted.false),
      omega (arith, c.loop-wanted.invariant.1),
    )

pub returns-in-None : goal.returns-in-None
returns-in-None c =
    let all = words_wanted c.args.kind in
    let past : length all ≤ c.loop-wanted.wanted-index = subst (λ l. length l ≤ c.loop-wanted.wanted-index) c.words_wanted-wanted-items.ensures c.loop-wanted-test.false in
    sym (c.loop-wanted.invariant.0
    ∙ ap (λ rest. flaw_from c.args.kind c.loop-wanted.place (drop c.loop-wanted.wanted-index all) (words_left (option_map (λ text. text.now) rest))) c.in-None.is
    ∙ flaw-past c.args.kind c.loop-wanted.place c.loop-wanted.wanted-index all [] past)
