-- What is put, one after the other; all of it is of one log.
use Rattle.std.proofs.Common.{◌≡◌, ◌<◌, ◌≤◌, ℕ, suc, zero, ◌+◌, ◌==◌, nat_le, arith, length, Bool, true, false}
use Rattle.std.proofs.Common.{if◌then◌else◌, List, [], ◌∷◌, drop, drop-cons, Option, Some, None, get_or, refl, sym, ap}
use Rattle.std.proofs.Common.{◌∙◌}
use Rattle.bac_link.specs.declared.item.Item.{Item}
use Rattle.bac_link.specs.declared.item.Item.TheVariants.{Gap, Logged}
use Rattle.bac_walk.specs.declared.batch.Numbered.{Numbered}
use Rattle.bac_poll.specs.Turns.{Turned}
use Rattle.bac_poll_steps.specs.declared.turn.Beginning.{Beginning}
use Rattle.bac_poll_steps.specs.declared.turn.Line.{Line}
use Rattle.bac_device_poller.specs.Puts.{Puts, with_anew, with_first, with_gap, with_gap_row, with_gaps, with_record}
use Rattle.bac_device_poller.specs.Puts.{with_records, with_rest, with_round, with_turn}

pub one_more : (s t u : Puts) (rs : List Numbered) (k : ℕ) (d : Numbered) → k < length rs → t ≡ with_record s (get_or rs k d) → with_records s (drop k rs) ≡ u →
    with_records t (drop (k + 1) rs) ≡ u
one_more s t u rs k d below put all =
    let next : suc k ≡ k + 1 = omega arith in
    let e : drop k rs ≡ get_or rs k d ∷ drop (k + 1) rs = drop-cons rs k d below ∙ ap (λ (n : ℕ). get_or rs k d ∷ drop n rs) next in
    ap (λ (q : Puts). with_records q (drop (k + 1) rs)) put ∙ ap (λ (l : List Numbered). with_records s l) (sym e) ∙ all

drop_all : (n : ℕ) (l : List Numbered) → length l ≤ n → drop n l ≡ []
drop_all zero [] h = refl
drop_all (suc n) [] h = refl
drop_all zero (x ∷ l) h = absurd (omega (arith, h))
drop_all (suc n) (x ∷ l) h = drop_all n l (omega (arith, h))

pub no_more : (s u : Puts) (rs : List Numbered) (k : ℕ) → length rs ≤ k → with_records s (drop k rs) ≡ u → s ≡ u
no_more s u rs k past all = ap (λ (l : List Numbered). with_records s l) (sym (drop_all k rs past)) ∙ all

-- ---- of one log

either : (b : Bool) (n : ℕ) (s t : Puts) → s.log ≡ n → t.log ≡ n → (if b then s else t).log ≡ n
either true n s t is also = is
either false n s t is also = also

round_log : (s : Puts) → (with_round s).log ≡ s.log
round_log s = either s.full s.log _ s refl refl

first_log : (s : Puts) (o : Option Beginning) → (with_first s o).log ≡ s.log
first_log s None = refl
first_log s (Some begins) = round_log s

rest_log : (doubtful : Bool) (s : Puts) (before : ℕ) → (with_rest doubtful s before).log ≡ s.log
rest_log doubtful s before = either (nat_le before 1) s.log s _ refl (round_log s)

gap_log : (doubtful : Bool) (s : Puts) (first before : ℕ) → (with_gap doubtful s first before).log ≡ s.log
gap_log doubtful s first before =
    either (nat_le before first) s.log _ _ (rest_log doubtful (with_gap_row doubtful s first 4294967295) before ∙ round_log s) (round_log s)

gaps_log : (doubtful : Bool) (s : Puts) (items : List Item) → (with_gaps doubtful s items).log ≡ s.log
gaps_log doubtful s [] = refl
gaps_log doubtful s (Gap first before ∷ items) =
    gaps_log doubtful (with_gap doubtful s first before) items ∙ gap_log doubtful s first before
gaps_log doubtful s (Logged number entry ∷ items) = gaps_log doubtful s items

anew_log : (s : Puts) (anew : Bool) (line : Option Line) → (with_anew s anew line).log ≡ s.log
anew_log s anew line = either anew s.log _ s refl refl

record_log : (s : Puts) (held : Numbered) → (with_record s held).log ≡ s.log
record_log s held = round_log s

records_log : (s : Puts) (rs : List Numbered) → (with_records s rs).log ≡ s.log
records_log s [] = refl
records_log s (held ∷ others) = records_log (with_record s held) others ∙ record_log s held

pub turn_log : (s : Puts) (t : Turned) → (with_turn s t).log ≡ s.log
turn_log s t =
    let a = with_first s t.begins in
    let b = with_gaps t.doubtful a t.missing in
    let c = with_anew b t.anew t.line in
    records_log (with_gaps false c t.gap) t.records ∙ gaps_log false c t.gap ∙ anew_log b t.anew t.line ∙ gaps_log t.doubtful a t.missing ∙ first_log s t.begins
