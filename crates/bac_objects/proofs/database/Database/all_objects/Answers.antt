use Rattle.std.proofs.Common.{rules, ◌≡◌, ◌<◌, ◌+◌, ◌∷◌, [], List, length, map, ap, subst, sym, ◌∙◌, ◌++◌}
use Rattle.bac_apdu.specs.Adding.{value_octets}
use Rattle.std.specs.Map.{keys_of}
use Rattle.bac_wire.specs.Primitive.{Id, Object}
use Rattle.bac_objects.specs.Properties.{object_list, device_id}
use Rattle.bac_objects.specs.Reading.{values_octets}
use Rattle.bac_objects.proofs.Encodings.{done, start, one_more, object_long}
use Rattle.bac_objects.proofs.database.Database.all_objects.Goals as goal

pub returns-in-Err : goal.returns-in-Err
returns-in-Err c =
    let w = c.in-Err.ensures {u = tt} in
    let d = c.args.self.now in
    object_long (Object (device_id d)) (map (λ id. Object id) (keys_of d.objects)) (object_list d) c.args.out.now c.in-Err.fault (start (object_list d) c.args.out.now c.requires) w.0 (subst (λ (id : Id). 1501 < length c.args.out.now + length (value_octets (Object id))) c.id.ensures w.1)

pub loop-id-init : goal.loop-id-init
loop-id-init c =
    let w = c.in_default.ensures {u = tt} in
    let d = c.args.self.now in
    let keys : c.into_iter-id-iterator.result ≡ keys_of d.objects = search rules in
    let text = one_more (Object (device_id d)) (map (λ id. Object id) (keys_of d.objects)) c.args.out.now c.add.new.out (values_octets (object_list d)) (start (object_list d) c.args.out.now c.requires)
    (w.0 ∙ ap (λ (id : Id). c.args.out.now ++ value_octets (Object id)) c.id.ensures) in
    (tt, tt, ap (λ (l : List Id). c.add.new.out ++ values_octets (map (λ id. Object id) l)) keys ∙ text, w.1)

pub returns-in-Err-add : goal.returns-in-Err-add
returns-in-Err-add c =
    let w = c.in-Err-add.ensures {u = tt} in
    let d = c.args.self.now in
    let next : c.loop-id.id-iterator ≡ c.in-Some.id.now ∷ c.next.new.self = search rules in
    object_long (Object c.in-Some.id.now) (map (λ id. Object id) c.next.new.self) (object_list d) c.loop-id.out c.in-Err-add.fault
    (sym (ap (λ (l : List Id). c.loop-id.out ++ values_octets (map (λ id. Object id) l)) next) ∙ c.loop-id.invariant.2) w.0 w.1

pub loop-id-preserved : goal.loop-id-preserved
loop-id-preserved c =
    let w = c.in_default-add.ensures {u = tt} in
    let d = c.args.self.now in
    let next : c.loop-id.id-iterator ≡ c.in-Some.id.now ∷ c.next.new.self = search rules in (
      tt,
      tt,
      one_more (Object c.in-Some.id.now) (map (λ id. Object id) c.next.new.self) c.loop-id.out c.add-in-loop-id.new.out (values_octets (object_list d))
          (sym (ap (λ (l : List Id). c.loop-id.out ++ values_octets (map (λ id. Object id) l)) next) ∙ c.loop-id.invariant.2) w.0,
      w.1,
    )

pub returns : goal.returns
returns c =
    let d = c.args.self.now in
    let end : c.loop-id.id-iterator ≡ [] = search rules in
    done (object_list d) c.loop-id.out (sym (ap (λ (l : List Id). c.loop-id.out ++ values_octets (map (λ id. Object id) l)) end) ∙ c.loop-id.invariant.2) c.loop-id.invariant.3
