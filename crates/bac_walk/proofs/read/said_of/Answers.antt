use Rattle.std.proofs.Common.{Some, Ok, Err, sym, ap, ◌∙◌, refl}
use Rattle.bac_link.specs.Heard.{records_in}
use Rattle.bac_walk.proofs.Heards.{heard_none, heard_other, heard_read}
use Rattle.bac_walk.proofs.Spellings.{data_fields}
use Rattle.bac_walk.proofs.read.said_of.Goals as goal

pub returns-in_default : goal.returns-in_default
returns-in_default c = heard_none c.args.log c.args.parameters.now (c.in_default.ensures {u = tt}).exact

pub returns-then-not-is_of : goal.returns-then-not-is_of
returns-then-not-is_of c = heard_other c.args.log c.args.parameters.now c.in-Some.ack (c.in-Some.ensures {u = tt}).exact (sym c.is_of.ensures ∙ c.if-not-is_of.true)

pub returns-in_default-count_of : goal.returns-in_default-count_of
returns-in_default-count_of c =
    let bad = c.in_default-count_of.ensures {u = tt} in
    heard_read c.args.log c.args.parameters.now c.in-Some.ack (Err bad.0) (c.in-Some.ensures {u = tt}).exact (sym c.is_of.ensures ∙ c.if-not-is_of.false) bad.1

pub returns : goal.returns
returns c =
    let good = c.in-Some-count_of.ensures {u = tt} in
    let items = data_fields c.args.parameters.now (Some c.in-Some.ack) (c.in-Some.ensures {u = tt}).named in (
      record { first = c.in-Some.ack.first_number; count = c.in-Some.ack.count; entries = good.0 },
      heard_read c.args.log c.args.parameters.now c.in-Some.ack (Ok good.0) (c.in-Some.ensures {u = tt}).exact (sym c.is_of.ensures ∙ c.if-not-is_of.false) good.1,
      refl,
      refl,
      good.2,
      ap records_in items ∙ good.1,
      sym items,
    )
