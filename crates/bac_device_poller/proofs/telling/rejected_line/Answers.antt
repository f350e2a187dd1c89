use Rattle.std.proofs.Common.{◌≡◌, ◌∙◌, ◌++◌, ◌∷◌, [], ℕ, List, codes, decimal, ap, append_assoc}
use Rattle.bac_device_poller.proofs.telling.rejected_line.Goals as goal

pub returns : goal.returns
returns c =
    let words = codes ": the router has no route to network " in
    let device = c.args.device.now in
    let network = decimal c.args.reject.network in
    let first : c.extend_from_slice.new.self.items ≡ device =
    c.in_ok-extend_from_slice.ensures.items ∙ ap (λ (l : List ℕ). l ++ device) c.new-line.ensures.items in
    c.in_ok-extend_from_slice-3.ensures.items
    ∙ ap (λ (l : List ℕ). l ++ 10 ∷ []) (c.in_ok-push_number.ensures ∙ ap (λ (n : ℕ). c.extend_from_slice-2.new.self.items ++ decimal n) c.from.ensures ∙ ap (λ (l : List ℕ). l ++ network) (c.in_ok-extend_from_slice-2.ensures.items ∙ ap (λ (l : List ℕ). l ++ words) first))
    ∙ append_assoc (device ++ words) network (10 ∷ [])
    ∙ append_assoc device words (network ++ 10 ∷ [])
