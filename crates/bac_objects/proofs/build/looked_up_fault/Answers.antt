use Rattle.std.proofs.Common.{◌≡◌, ap, refl, sym, ◌∙◌, ℕ, List, take}
use Rattle.bac_wire.specs.Primitive.{Id}
use Rattle.bac_objects.specs.Build.{has_id, has_name, id_of, name_of}
use Rattle.bac_objects.specs.declared.lines.ObjectLine.{ObjectLine}
use Rattle.bac_objects.proofs.Tables.{before_more, first_more, ids_more, is_faulty, is_new, line_fault, names_more, no_id}
use Rattle.bac_objects.proofs.build.looked_up_fault.Goals as goal

pub returns-in_default : goal.returns-in_default
returns-in_default c no_ids no_names =
    let was = c.loop-place.invariant no_ids no_names in
    let line = c.index-lines-place.result in
    let i = c.loop-place.place in
    let fault = no_id c.args.device.now (take i c.args.lines.now) line c.kind.result c.instance.result c.kind.ensures.bound c.instance.ensures (c.in_default.ensures {u = tt}).none in
    is_faulty c.args.device.now c.args.lines.now (take i c.args.lines.now) i line _ refl c.loop-place-test.true c.index-lines-place.is was.first fault

pub returns-in-Some-fault : goal.returns-in-Some-fault
returns-in-Some-fault c no_ids no_names =
    let was = c.loop-place.invariant no_ids no_names in
    let line = c.index-lines-place.result in
    let i = c.loop-place.place in
    let before = take i c.args.lines.now in
    let same : c.in-Some.id ≡ id_of line = rw (c.kind.ensures.value, c.instance.ensures) at c.in-Some.ensures.some.0 in
    let same_id : c.contains.result ≡ has_id (id_of line) before = c.contains.ensures ∙ was.ids c.in-Some.id ∙ ap (λ (x : Id). has_id x before) same in
    let same_name : c.contains-in-loop-place.result ≡ has_name (name_of line) before =
    c.contains-in-loop-place.ensures ∙ was.names c.text-name.result.now ∙ ap (λ (x : List ℕ). has_name x before) (c.text-name.ensures ∙ c.name.ensures) in
    let fault = line_fault c.args.device.now before line c.contains.result c.contains-in-loop-place.result c.fault.result same_id same_name c.fault.ensures ∙ c.in-Some-fault.is in
    is_faulty c.args.device.now c.args.lines.now before i line c.in-Some-fault.fault refl c.loop-place-test.true c.index-lines-place.is was.first fault

pub loop-place-preserved : goal.loop-place-preserved
loop-place-preserved c no_ids no_names =
    let was = c.loop-place.invariant no_ids no_names in
    let line = c.index-lines-place.result in
    let i = c.loop-place.place in
    let lines = c.args.lines.now in
    let before = take i lines in
    let same : c.in-Some.id ≡ id_of line = rw (c.kind.ensures.value, c.instance.ensures) at c.in-Some.ensures.some.0 in
    let same_id : c.contains.result ≡ has_id (id_of line) before = c.contains.ensures ∙ was.ids c.in-Some.id ∙ ap (λ (x : Id). has_id x before) same in
    let named : c.text-name.result.now ≡ name_of line = c.text-name.ensures ∙ c.name.ensures in
    let same_name : c.contains-in-loop-place.result ≡ has_name (name_of line) before =
    c.contains-in-loop-place.ensures ∙ was.names c.text-name.result.now ∙ ap (λ (x : List ℕ). has_name x before) named in
    let fault = line_fault c.args.device.now before line c.contains.result c.contains-in-loop-place.result c.fault.result same_id same_name c.fault.ensures ∙ c.in_default-fault.is in
    let new = is_new c.args.device.now before line fault in
    let more = before_more lines i line c.loop-place-test.true c.index-lines-place.is in
    record {
      first = first_more c.args.device.now lines i line c.loop-place-test.true c.index-lines-place.is was.first fault;
      ids = λ x. ids_more c.loop-place.ids.keys c.note.new.ids.keys before line c.in-Some.id same was.ids new.0 (c.note.ensures.ids c.if-not-note.false) x ∙ ap (λ (l : List ObjectLine). has_id x l) (sym more);
      names = λ x. names_more c.loop-place.names.keys c.note.new.names.keys before line c.text-name.result named was.names new.1 (c.note.ensures.names c.if-not-note.false) x ∙ ap (λ (l : List ObjectLine). has_name x l) (sym more);
    }
