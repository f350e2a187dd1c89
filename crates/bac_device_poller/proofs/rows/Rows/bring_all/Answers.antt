use Rattle.std.proofs.Common.{◌∙◌, ap}
use Rattle.bac_answers.specs.declared.entry.Entry.{Entry}
use Rattle.bac_device_poller.specs.Entries.{with_entry}
use Rattle.bac_device_poller.proofs.EntryLemmas.{no_more, one_more}
use Rattle.bac_device_poller.proofs.rows.Rows.bring_all.Goals as goal

pub loop-entry-preserved : goal.loop-entry-preserved
loop-entry-preserved c =
    one_more c.loop-entry.self c.bring.new.self _ c.args.entries.now c.loop-entry.entry-index c.entry-item.result c.loop-entry-test.true
    (c.in_ok-bring.ensures ∙ ap (λ (entry : Entry). with_entry c.loop-entry.self entry) c.entry-item.is) c.loop-entry.invariant

pub returns : goal.returns
returns c = no_more c.loop-entry.self _ c.args.entries.now c.loop-entry.entry-index c.loop-entry-test.false c.loop-entry.invariant
