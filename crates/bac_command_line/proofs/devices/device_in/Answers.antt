use Rattle.std.proofs.Common.{◌≡◌, ◌==◌, IfOk, ap, map, ◌∙◌, rules, tests}
use Rattle.std.specs.List.{slice_split}
use Rattle.std.proofs.lemmas.Iterator.Consumers.{map_from_collect}
use Rattle.std.proofs.lemmas.Iterator.Splits.{YieldsList-from_slice_split}
use Rattle.bac_command_line.specs.Devices.{device_of}
use Rattle.bac_command_line.proofs.devices.device_in.Goals as goal

pub returns : goal.returns
returns c =
    let parts : IfOk c.collect.result (λ words. map (λ word. word.now) words.items ≡ slice_split (λ d. d == 32) c.args.line.now) =
    map_from_collect _ c.collect.ensures.ran (YieldsList-from_slice_split _ _ c.args.line.now c.split.ensures.rest c.split.ensures.done c.split.ensures.closure (λ x r q k. search (rules, tests))) in
    let split = rw c.in_ok-words.was at parts in
    c.device_of.ensures ∙ ap device_of (ap (map (λ word. word.now)) c.deref.ensures.value ∙ split)
