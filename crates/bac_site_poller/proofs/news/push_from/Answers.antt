use Rattle.std.proofs.Common.{◌≡◌, ◌∙◌, ◌++◌, ℕ, List, codes, ap, append_assoc}
use Rattle.std.proofs.lemmas.Result.{on_ok_weaker}
use Rattle.bac_print.specs.Addresses.{address_text}
use Rattle.bac_site_poller.proofs.news.push_from.Goals as goal

pub returns : goal.returns
returns c =
    let old = c.args.text.now.items in
    let from = address_text c.args.from in
    on_ok_weaker c.push_address.result
    (λ is.
    is ∙ ap (λ (l : List ℕ). l ++ from) c.in_ok-extend_from_slice.ensures.items
    ∙ append_assoc old (codes ": no answer, but one from ") from)
    c.push_address.ensures
