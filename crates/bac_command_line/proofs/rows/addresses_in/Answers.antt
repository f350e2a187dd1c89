use Rattle.std.proofs.Common.{◌∙◌, Ok, ap, refl, sym}
use Rattle.std.specs.Option.{option_map}
use Rattle.bac_command_line.specs.Networks.{said_stations, stations_of}
use Rattle.bac_command_line.specs.Rows.{addresses_in}
use Rattle.bac_command_line.proofs.Gathering.{all_read, ended, no_stations, one_on, stations_first}
use Rattle.bac_command_line.proofs.rows.addresses_in.Goals as goal

pub loop-text-preserved : goal.loop-text-preserved
loop-text-preserved c =
    one_on addresses_in _ c.args.texts.now (λ text. text.now) c.loop-text.text-index _ c.loop-text.list.items c.push_to.new.list.items _ c.loop-text-test.true c.loop-text.invariant
    (stations_first _ _ (ap stations_of (sym c.as_bytes.ensures.value) ∙ sym c.in-Some.ensures)) c.in_ok-push_to.ensures

pub returns-in_default : goal.returns-in_default
returns-in_default c =
    ended addresses_in _ c.args.texts.now (λ text. text.now) c.loop-text.text-index _ c.loop-text.list.items _ c.loop-text-test.true c.loop-text.invariant
    (no_stations _ (ap stations_of (sym c.as_bytes.ensures.value) ∙ sym c.stations.ensures ∙ ap (option_map said_stations) c.in_default.is))

pub returns : goal.returns
returns c =
    all_read addresses_in _ c.args.texts.now (λ text. text.now) c.loop-text.text-index c.loop-text.list.items c.loop-text-test.false refl c.loop-text.invariant
    ∙ ap Ok (sym c.of.ensures)
