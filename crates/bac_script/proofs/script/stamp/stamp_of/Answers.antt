use Rattle.bac_wire.specs.Stamp.{moment}
use Rattle.bac_script.proofs.Moments.{is_checked}
use Rattle.bac_script.proofs.script.stamp.stamp_of.Goals as goal

pub returns : goal.returns
returns c = is_checked (moment c.args.year c.args.month c.args.day c.args.hour c.args.minute c.args.second c.args.hundredth) c.new.result c.new.ensures
