use mir.Syntax.{w128}
use Rattle.std.proofs.Common.{◌≡◌, ◌∙◌, inr, ℕ, Option, Some, None, IfNone, IfSome, SFits, rules}
use Rattle.std.proofs.lemmas.Int.{to_z-of_z}
use Rattle.std.specs.Option.{SomeIff}
use Rattle.jiff_core.specs.declared.civil.datetime.DateTime.{DateTime}
use Rattle.bac_wire.specs.Stamp.{CivilTime, moment_of}
use Rattle.bac_site_poller.specs.Moment.{HasYear, IsBeyond, IsMoment, IsShown}
use Rattle.bac_site_poller.proofs.moment.shown_after.Goals as goal

-- by what shows it, if a stamp does
shown : (begun : CivilTime) (ms : ℕ) (civil : DateTime) (o : Option CivilTime) → IsShown begun ms civil → SomeIff o (HasYear civil) (moment_of civil) → IfSome o (λ moment. IsMoment begun ms moment)
shown begun ms civil None is iff = tt
shown begun ms civil (Some moment) is iff = (civil, is, iff.0, iff.1)

beyond : (begun : CivilTime) (ms : ℕ) (civil : DateTime) (o : Option CivilTime) → IsShown begun ms civil → SomeIff o (HasYear civil) (moment_of civil) → IfNone o (IsBeyond begun ms)
beyond begun ms civil None is iff = inr (civil, is, iff)
beyond begun ms civil (Some moment) is iff = tt

pub returns-in-Ok-clause-some : goal.returns-in-Ok-clause-some
returns-in-Ok-clause-some c =
    let fits : SFits w128 c.nanos_after.result = search rules in
    shown c.args.begun c.args.ms c.in-Ok.civil c.of_civil.result (c.in-Ok.ensures.value ∙ to_z-of_z w128 c.nanos_after.result fits ∙ c.nanos_after.ensures) c.of_civil.ensures

pub returns-in-Ok-clause-none : goal.returns-in-Ok-clause-none
returns-in-Ok-clause-none c =
    let fits : SFits w128 c.nanos_after.result = search rules in
    beyond c.args.begun c.args.ms c.in-Ok.civil c.of_civil.result (c.in-Ok.ensures.value ∙ to_z-of_z w128 c.nanos_after.result fits ∙ c.nanos_after.ensures) c.of_civil.ensures
