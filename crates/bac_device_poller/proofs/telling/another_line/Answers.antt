use Rattle.std.proofs.Common.{◌≡◌, ◌∙◌, ◌++◌, ◌∷◌, [], ℕ, List, codes, ap, append_assoc}
use Rattle.bac_device_poller.specs.Telling.{other_text}
use Rattle.bac_device_poller.proofs.telling.another_line.Goals as goal

pub returns : goal.returns
returns c =
    let words = codes ": another device answers: " in
    let device = c.args.device.now in
    let other = other_text c.args.who.now c.args.was in
    let first : c.extend_from_slice.new.self.items ≡ device =
    c.in_ok-extend_from_slice.ensures.items ∙ ap (λ (l : List ℕ). l ++ device) c.new-line.ensures.items in
    c.in_ok-extend_from_slice-3.ensures.items
    ∙ ap (λ (l : List ℕ). l ++ 10 ∷ []) (c.in_ok-push_other.ensures ∙ ap (λ (l : List ℕ). l ++ other) (c.in_ok-extend_from_slice-2.ensures.items ∙ ap (λ (l : List ℕ). l ++ words) first))
    ∙ append_assoc (device ++ words) other (10 ∷ [])
    ∙ append_assoc device words (other ++ 10 ∷ [])
