use Rattle.std.proofs.Common.{◌≡◌, ℕ, List, Option, None, OnOk, ◌++◌, ◌∙◌, refl, subst}
use Rattle.bac_objects.specs.declared.build.BuildFault.{BuildFault}
use Rattle.bac_objects.specs.declared.build.BuildFault.TheVariants as build
use Rattle.bac_objects.specs.declared.lines.LineId.{LineId}
use Rattle.bac_tools.specs.Reasons.{fitting_text}
use Rattle.bac_tools.proofs.Parts.{grown}
use Rattle.bac_tools.proofs.reason.push_fitting.Goals as goal

-- of most faults no other line tells more
alone_is : (fault : BuildFault) (kind : ℕ) (namesake : Option LineId) (rival : Option ℕ) → (fault ≡ build.DuplicateName → ⊥) → (fault ≡ build.DuplicateId → ⊥)
    → fitting_text fault kind None None ≡ fitting_text fault kind namesake rival
alone_is build.BadInstance kind namesake rival name id = refl
alone_is build.DuplicateId kind namesake rival name id = absurd (id refl)
alone_is build.BadName kind namesake rival name id = refl
alone_is build.DuplicateName kind namesake rival name id = absurd (name refl)
alone_is build.BadStates kind namesake rival name id = refl
alone_is build.BadDefault kind namesake rival name id = refl
alone_is build.BadCapacity kind namesake rival name id = refl
alone_is build.BadInterval kind namesake rival name id = refl
alone_is build.BadReplySize kind namesake rival name id = refl
alone_is build.Memory kind namesake rival name id = refl

pub returns-in_default : goal.returns-in_default
returns-in_default c =
    let said = c.as_bytes.ensures.value ∙ c.fitting_of.ensures
    ∙ alone_is c.args.fault c.args.object_type c.args.namesake c.args.rival c.in_default.not-DuplicateName c.in_default.not-DuplicateId in
    subst (λ (t : List ℕ). OnOk c.extend_from_slice-in_default.result (c.extend_from_slice-in_default.new.self.items ≡ c.args.text.now.items ++ t)) said
    (grown c.extend_from_slice-in_default.result c.args.text.now.items c.as_bytes.result.now c.extend_from_slice-in_default.new.self.items
    c.extend_from_slice-in_default.ensures.items)
