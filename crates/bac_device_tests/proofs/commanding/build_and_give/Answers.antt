use Rattle.std.proofs.Common.{◌≡◌, ◌∙◌, List, ℕ, map, sym, ap, subst}
use Rattle.bac_objects.specs.Build.{built, id_of}
use Rattle.bac_objects.specs.State.{State}
use Rattle.bac_device.specs.History.{IsCommanded, after, writes}
use Rattle.bac_device_tests.proofs.commanding.build_and_give.Goals as goal

pub returns : goal.returns
returns c = λ i object default there is.
    let first = built c.args.line.now c.args.lines.now in
    let all : List (List ℕ) = map (λ datagram. datagram.now) c.args.datagrams.now in
    let made = c.in_ok-device.ensures.built in
    let law = c.built_objects_are_commanded.ensures c.args.line.now c.args.lines.now all i object default made.0 there is in
    let same : c.give_all.new.device ≡ after first all = c.give_all.ensures ∙ ap (λ d. after d all) made.1 in
    let P : State → Type 0 = λ d. IsCommanded d (id_of object) (writes first all) default in
    subst P (sym same) law
