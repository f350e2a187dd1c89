use Rattle.std.proofs.Common.{ℕ, ◌+◌, ◌-◌, ◌%◌, ◌<◌, sym, ◌∙◌, arith}
use Rattle.bac_link.proofs.Client.{one_invoke}
use Rattle.bac_invoke_ids.proofs.Moved.{answers_taken}
use Rattle.bac_invoke_ids.proofs.laws.late_answers_are_none.Goals as goal

pub returns : goal.returns
returns c = λ path way r q number asked first n datagram ways others r_fits q_fits lt le near octets late own.
    let shift : ℕ = (asked % 256 + 257 - first) % 256 in
    let id : (first + n) % 256 < 256 = omega arith in
    let less : shift < 256 = omega arith in
    let sent = sym (answers_taken way q ((first + n) % 256) shift datagram others q_fits id less octets) ∙ own in
    let same = one_invoke path way r q (number % 256) (((first + n) % 256 + shift) % 256) datagram ways others r_fits q_fits late sent in
    omega (arith, same, lt, le, near)
