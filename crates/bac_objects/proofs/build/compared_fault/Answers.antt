use Rattle.std.proofs.Common.{◌≡◌, ap, refl, ◌∙◌, ℕ, List, take}
use Rattle.bac_objects.specs.Build.{has_id, has_name, id_of, name_of}
use Rattle.bac_objects.proofs.Tables.{first_more, is_faulty, line_fault}
use Rattle.bac_objects.proofs.build.compared_fault.Goals as goal

pub returns-in-Some : goal.returns-in-Some
returns-in-Some c =
    let line = c.index-lines-place.result in
    let i = c.loop-place.place in
    let before = take i c.args.lines.now in
    let same_id : c.has_id-same_id.result ≡ has_id (id_of line) before = rw (c.kind.ensures.value, c.instance.ensures) at c.has_id-same_id.ensures in
    let same_name : c.has_name-same_name.result ≡ has_name (name_of line) before = c.has_name-same_name.ensures ∙ ap (λ (x : List ℕ). has_name x before) (c.octets.ensures ∙ c.name.ensures) in
    let fault = line_fault c.args.device.now before line c.has_id-same_id.result c.has_name-same_name.result c.fault.result same_id same_name c.fault.ensures ∙ c.in-Some.is in
    is_faulty c.args.device.now c.args.lines.now before i line c.in-Some.fault refl c.loop-place-test.true c.index-lines-place.is c.loop-place.invariant fault

pub loop-place-preserved : goal.loop-place-preserved
loop-place-preserved c =
    let line = c.index-lines-place.result in
    let i = c.loop-place.place in
    let before = take i c.args.lines.now in
    let same_id : c.has_id-same_id.result ≡ has_id (id_of line) before = rw (c.kind.ensures.value, c.instance.ensures) at c.has_id-same_id.ensures in
    let same_name : c.has_name-same_name.result ≡ has_name (name_of line) before = c.has_name-same_name.ensures ∙ ap (λ (x : List ℕ). has_name x before) (c.octets.ensures ∙ c.name.ensures) in
    let fault = line_fault c.args.device.now before line c.has_id-same_id.result c.has_name-same_name.result c.fault.result same_id same_name c.fault.ensures ∙ c.in_default.is in
    first_more c.args.device.now c.args.lines.now i line c.loop-place-test.true c.index-lines-place.is c.loop-place.invariant fault
