use Rattle.std.proofs.Common.{◌≡◌, IfOk, sym, ◌∙◌, arith}
use Rattle.bac_script.proofs.Walks.{walk_told}
use Rattle.bac_script.proofs.replay.walk.print_walk.Goals as goal

pub returns-clause-text : goal.returns-clause-text
returns-clause-text c =
    let link : _ = c.new-link.result in
    walk_told c.args.device.now link.device.now link.events.now c.args.words.log c.args.words.from c.in-Some.walk c.args.words.steps
    (λ t. IfOk c.walk_over.result (λ text. text.items ≡ t))
    (sym c.begin.ensures ∙ c.in-Some.is) (omega (arith, c.next_number-next.ensures.next)) c.new-link.ensures.ours c.new-link.ensures.lacks
    (λ r m H k lies is near. c.walk_over.ensures.rests r m H k (c.new-link.ensures.events, c.local.invariant) lies is near)
    (λ none. c.walk_over.ensures.missing none (c.new-link.ensures.events, c.local.invariant))
