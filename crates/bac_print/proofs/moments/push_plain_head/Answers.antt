use Rattle.std.proofs.Common.{rules, ◌≡◌, ℕ, ◌-◌, List, ◌++◌, length, take, drop, ap, subst, refl, sym, ◌∙◌}
use Rattle.std.specs.Prelude.{OnOk}
use Rattle.std.proofs.lemmas.Fmt.{length-decimal-le}
use Rattle.std.proofs.lemmas.List.{take_rest}
use Rattle.bac_print.proofs.PlainMoments.{moment_is}
use Rattle.bac_print.proofs.moments.push_plain_head.Goals as goal

pub write_digits-start-requires : goal.write_digits-start-requires
write_digits-start-requires c = search (rules, length-decimal-le 10)

pub returns : goal.returns
returns c =
    let r = c.requires in
    let is = moment_is c.args.date.year c.args.date.month c.args.date.day c.args.date.weekday c.args.time.hour c.args.time.minute c.args.time.second c.args.time.hundredth r.year r.month r.day r.hour r.minute r.second r.hundredth in
    let head = c.write_digits-start.new.buf in
    let start = c.write_digits-start.result in
    let size : length head ≡ 34 = search rules in
    let whole : take (34 - start) (drop start head) ≡ drop start head = ap (λ n. take (n - start) (drop start head)) (sym size) ∙ take_rest head start in
    let P : List ℕ → Type 0 = λ l. OnOk c.extend_from_slice.result (c.extend_from_slice.new.self.items ≡ c.args.text.now.items ++ l) in
    subst P (whole ∙ c.write_digits-start.ensures.written
    ∙ rw (
      is,
      c.pair-century.ensures,
      c.pair-years.ensures,
      c.pair-month.ensures,
      c.pair-day.ensures,
      c.pair-hour.ensures,
      c.pair-minute.ensures,
      c.pair-second.ensures,
      c.pair-centi.ensures,
    ) refl) (search rules)
