use Rattle.std.proofs.Common.{rules, refl, sym}
use Rattle.bac_apdu.specs.Service.WriteProperty.{write_of_code}
use Rattle.bac_objects.proofs.Kept.{found_sound}
use Rattle.bac_objects.proofs.Writes.{missing, writes}
use Rattle.bac_objects.proofs.database.Database.write.Goals as goal

pub returns-clause-written : goal.returns-clause-written
returns-clause-written c =
    rw (← c.self.view_is) (writes _ (write_of_code c.args.write.now) _ _ _ _ (search rules) (sym (c.in-Some.ensures {u = tt}).value) ((c.get_mut.follows.holds c.write.new.self).0) c.write.ensures.written)

pub returns-in_default-clause-written : goal.returns-in_default-clause-written
returns-in_default-clause-written c =
    rw (← c.self.view_is) (missing _ (write_of_code c.args.write.now) (search rules) (sym (c.in_default.ensures {u = tt}).value), rw c.get_mut.follows.holds-at-none refl)

pub invariant_of-self-2 : goal.invariant_of-self-2
invariant_of-self-2 c =
    found_sound _ c.self.inside.due c.args.write.now.object c.in-Some.object.now c.write.new.self _ c.self.invariant c.write.ensures.keeps
    (sym (c.in-Some.ensures {u = tt}).value) ((c.get_mut.follows.holds c.write.new.self).0)

pub returns-clause-sound : goal.returns-clause-sound
returns-clause-sound c =
    (found_sound _ c.self.inside.due c.args.write.now.object c.in-Some.object.now c.write.new.self _ c.self.invariant c.write.ensures.keeps
    (sym (c.in-Some.ensures {u = tt}).value) ((c.get_mut.follows.holds c.write.new.self).0)).0
