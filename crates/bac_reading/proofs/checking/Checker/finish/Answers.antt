use Rattle.std.proofs.Common.{◌≡◌, ◌⊎◌, ◌∙◌, List, Some, ap, inl, inr, refl, true, false, rules}
use Rattle.bac_check.specs.Lines.{check_text, has_all}
use Rattle.bac_check.specs.declared.checking.Unprinted.{Unprinted}
use Rattle.bac_check.specs.declared.checking.Unprinted.TheVariants as unprinted
use Rattle.bac_print.specs.Output.{AppendsPart, Held}
use Rattle.bac_reading.specs.Checking.{FinishesCheck}
use Rattle.bac_reading.specs.Fault.{of_unprinted}
use Rattle.bac_reading.specs.Report.{goes_on}
use Rattle.bac_reading.specs.declared.checking.Checker.{Checker}
use Rattle.bac_reading.specs.declared.fault.Fault.{Fault}
use Rattle.bac_reading.proofs.checking.Checker.finish.Goals as goal

-- what was counted isn't printed, for this reason
refused : (name : List _) (old new : Checker) (before after : Held) (why : Unprinted) → goes_on old.report ≡ true → new.report ≡ record old.report { fault = Some (of_unprinted why) }
    → ((why ≡ unprinted.Memory) × (after ≡ before)) ⊎ ((why ≡ unprinted.Write) × AppendsPart before after (check_text old.counts)) → FinishesCheck name old new before after
refused name old new before after why on is (inl (memory, same)) =
    inr (on, inr (inr (inl (is ∙ ap (λ w. record old.report { fault = Some (of_unprinted w) }) memory, same))))
refused name old new before after why on is (inr (write, part)) =
    inr (on, inr (inr (inr (is ∙ ap (λ w. record old.report { fault = Some (of_unprinted w) }) write, part))))

pub returns-then-not-goes_on : goal.returns-then-not-goes_on
returns-then-not-goes_on g c =
    let ended : goes_on c.args.self.now.report ≡ false = search rules in
    inl (ended, refl, refl)

pub returns-in-Ok-true : goal.returns-in-Ok-true
returns-in-Ok-true g c =
    let on : goes_on c.args.self.now.report ≡ true = search rules in
    let all : has_all c.args.self.now.counts ≡ true = search rules in
    inr (on, inl (all, refl, c.in-Ok-true.ensures.printed))

pub returns-in-Ok-false : goal.returns-in-Ok-false
returns-in-Ok-false g c =
    let on : goes_on c.args.self.now.report ≡ true = search rules in
    let all : has_all c.args.self.now.counts ≡ false = search rules in
    inr (on, inr (inl (all, c.tell.ensures, c.in-Ok-false.ensures.printed)))

pub returns-in-Err : goal.returns-in-Err
returns-in-Err g c =
    let old = c.args.self.now in
    let on : goes_on old.report ≡ true = search rules in
    let new : Checker = record old { report = c.stop.new.self } in
    let is : c.stop.new.self ≡ record old.report { fault = Some (of_unprinted c.in-Err.why) } = c.stop.ensures ∙ ap (λ (f : Fault). record old.report { fault = Some f }) c.of_unprinted.ensures in
    refused c.args.name.now old new (g.O.Write.contents c.args.output.now) (g.O.Write.contents c.print.new.output) c.in-Err.why on is c.in-Err.ensures.refused
