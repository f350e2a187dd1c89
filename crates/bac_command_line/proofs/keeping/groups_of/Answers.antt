use Rattle.std.proofs.Common.{◌≡◌, ℕ, ◌+◌, ◌<◌, List, ◌∷◌, ◌++◌, ◌∙◌, length, get_or, drop, map, ap, sym}
use Rattle.std.proofs.lemmas.List.{at_drop_more, drop_all}
use Rattle.clap.specs.Words.{Text}
use Rattle.bac_command_line.specs.Groups.{groups_from}
use Rattle.bac_command_line.specs.declared.group.Group.{Group}
use Rattle.bac_command_line.proofs.keeping.groups_of.Goals as goal

-- one word on
one_on : {X : Type 0} (whole : List Group) (words : List X) (f : X → Text) (i : ℕ) (d : X) (done new : List Group) (group next : Group) → i < length words
    → whole ≡ done ++ groups_from group (map f (drop i words))
    → ((more : List Text) → done ++ groups_from group (f (get_or words i d) ∷ more) ≡ new ++ groups_from next more)
    → whole ≡ new ++ groups_from next (map f (drop (i + 1) words))
one_on {X} whole words f i d done new group next below before step =
    before ∙ at_drop_more (λ (ws : List X). done ++ groups_from group (map f ws)) words i d below ∙ step (map f (drop (i + 1) words))

pub loop-word-preserved : goal.loop-word-preserved
loop-word-preserved c =
    one_on _ c.args.words.now (λ word. word.now) c.loop-word.word-index _ c.loop-word.list.items c.add_word.new.list.items c.loop-word.group c.add_word.new.group
    c.loop-word-test.true c.loop-word.invariant c.in_ok-add_word.ensures

pub returns : goal.returns
returns c =
    let done = c.loop-word.list.items in
    c.of.ensures ∙ c.in_ok-push.ensures.items
    ∙ sym (c.loop-word.invariant ∙ ap (λ words. done ++ groups_from c.loop-word.group (map (λ word. word.now) words)) (drop_all c.loop-word.word-index c.args.words.now c.loop-word-test.false))
