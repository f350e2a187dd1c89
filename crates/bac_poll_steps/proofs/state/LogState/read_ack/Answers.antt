use Rattle.std.proofs.Common.{◌≡◌, ℕ, Bool, true, false, Some, List, length, refl, sym, ap, subst, ◌∙◌}
use Rattle.bac_apdu.specs.Service.ReadRangeAck.{RangeAck, range_ack_of}
use Rattle.bac_link.specs.Heard.{heard_of}
use Rattle.bac_walk.specs.declared.batch.Numbered.{Numbered}
use Rattle.bac_poll_steps.specs.Asked.{reply_from}
use Rattle.bac_poll_steps.specs.Reading.{is_taken, number_told, numbered_in}
use Rattle.bac_poll_steps.specs.State.{PollState}
use Rattle.bac_poll_steps.specs.contracts.state.LogState.{the_view}
use Rattle.bac_poll_steps.proofs.Taken.{heard_one, reply_if}
use Rattle.bac_poll_steps.proofs.state.LogState.read_ack.Goals as goal

pub returns-then-not-takes : goal.returns-then-not-takes
returns-then-not-takes c =
    let q : PollState = the_view c.self.inside in
    let now : PollState = c.args.self.now in
    let a : RangeAck = range_ack_of c.args.ack.now in
    let records : List Numbered = c.in-Some.records.items in
    let came : numbered_in c.number_told-first.result a.items ≡ Some records = rw c.in-Some.is at c.in_ok-records.ensures in
    let numbered : numbered_in (number_told a.first_number) a.items ≡ Some records = ap (λ (f : ℕ). numbered_in f a.items) (sym c.number_told-first.ensures) ∙ came in
    let taken : is_taken q (number_told a.first_number) a.count (length records) ≡ false =
    ap (λ (r : PollState). is_taken r (number_told a.first_number) a.count (length records)) c.self.view_is
    ∙ ap (λ (f : ℕ). is_taken now f a.count (length records)) (sym c.number_told-first.ensures)
    ∙ ap (λ (n : ℕ). is_taken now c.number_told-first.result a.count n) (sym (ap (λ (l : List Numbered). length l) c.as_slice.ensures.value))
    ∙ sym c.takes.ensures ∙ c.if-not-takes.true in
    let read = heard_one q a records a.last_item a.more_items refl (sym c.is_of.ensures ∙ c.if-not-is_of.false) numbered in
    sym (subst (λ (r : PollState). reply_from r (heard_of r.walk.log a) a.last_item a.more_items ≡ reply_if false records a.last_item a.more_items) c.self.view_is (read ∙ ap (λ (b : Bool). reply_if b records a.last_item a.more_items) taken))

pub returns : goal.returns
returns c =
    let q : PollState = the_view c.self.inside in
    let now : PollState = c.args.self.now in
    let a : RangeAck = range_ack_of c.args.ack.now in
    let records : List Numbered = c.in-Some.records.items in
    let came : numbered_in c.number_told-first.result a.items ≡ Some records = rw c.in-Some.is at c.in_ok-records.ensures in
    let numbered : numbered_in (number_told a.first_number) a.items ≡ Some records = ap (λ (f : ℕ). numbered_in f a.items) (sym c.number_told-first.ensures) ∙ came in
    let taken : is_taken q (number_told a.first_number) a.count (length records) ≡ true =
    ap (λ (r : PollState). is_taken r (number_told a.first_number) a.count (length records)) c.self.view_is
    ∙ ap (λ (f : ℕ). is_taken now f a.count (length records)) (sym c.number_told-first.ensures)
    ∙ ap (λ (n : ℕ). is_taken now c.number_told-first.result a.count n) (sym (ap (λ (l : List Numbered). length l) c.as_slice.ensures.value))
    ∙ sym c.takes.ensures ∙ c.if-not-takes.false in
    let read = heard_one q a records a.last_item a.more_items refl (sym c.is_of.ensures ∙ c.if-not-is_of.false) numbered in
    ap (λ (l : Bool). reply_if true records l c.says_more.result) c.says_last.ensures
    ∙ ap (λ (m : Bool). reply_if true records a.last_item m) c.says_more.ensures
    ∙ subst (λ (r : PollState). reply_if true records a.last_item a.more_items ≡ reply_from r (heard_of r.walk.log a) a.last_item a.more_items) c.self.view_is (sym (read ∙ ap (λ (b : Bool). reply_if b records a.last_item a.more_items) taken))
