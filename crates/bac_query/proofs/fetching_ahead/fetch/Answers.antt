use Rattle.std.proofs.Common.{Bool, false, ℕ, ◌≡◌, ◌≢◌, ◌+◌, ◌++◌, List, [], Some, Err, refl, sym, ap, subst, ◌∙◌, arith}
use Rattle.bac_link.specs.Path.{towards}
use Rattle.bac_link.specs.declared.item.Item.{Item}
use Rattle.bac_ports.specs.declared.udp_link.UdpLink.{UdpLink}
use Rattle.bac_walk.specs.Outcomes.{why_of}
use Rattle.bac_walk.specs.declared.outcome.Ended.{Ended}
use Rattle.bac_walk.specs.declared.outcome.Ended.TheVariants.{StepLimit, Stopped}
use Rattle.bac_walk.specs.declared.outcome.Why.TheVariants as why
use Rattle.bac_walk.proofs.Runs.{ends_run, goes_on, not_limit}
use Rattle.bac_walk.proofs.Told.{Asking}
use Rattle.bac_query.specs.Ahead.{IsRunOver, PrintsLast, PrintsLeft, closing, port_asks}
use Rattle.bac_form.specs.declared.form.Form.{Form}
use Rattle.bac_walk.specs.declared.outcome.WalkFault.TheVariants.{BadReply}
use Rattle.bac_query.specs.Flaws.{IsBadlyFetched, log_place}
use Rattle.bac_query.proofs.Delivered.{runs_on}
use Rattle.bac_query.proofs.Flaws.{badly, last_is, no_flaw, no_last_flaw, why_bad}
use Rattle.bac_query.proofs.Laid.{laid_kept, laid_none, laid_then}
use Rattle.bac_query.proofs.RunsAhead.{Learns, fails, finishes, limit_on, none_over, over_early, over_joins, whole_ahead, without_lines}
use Rattle.bac_query.proofs.fetching_ahead.fetch.Goals as goal
use Rattle.bac_query.specs.Fetching.{course}
use Rattle.bac_link.specs.Exchanges.{client}

pub loop-done-init : goal.loop-done-init
loop-done-init g c =
    let asks : Asking (UdpLink g.row.P.Denot) = port_asks g.P.Port.sends g.P.Port.receives in
    let y = c.args.ahead.now.layout in
    let t = c.args.transactions.now in
    let link = c.args.ahead.now.link.now in
    let failures = link.failures in
    let old = g.W.Write.contents c.args.ahead.now.out.now in
    let none = none_over asks t link c.args.walk c.args.ahead.now.said_more in
    let P : List Item → Type 0 = λ l. IsRunOver asks (client link t) c.args.walk (course l 0 StepLimit c.args.walk) (client link t) c.args.ahead.now.said_more c.args.ahead.now.said_more in
    let B : Bool → Type 0 = λ b. IsRunOver asks (client link t) c.args.walk (course [] 0 StepLimit c.args.walk) (client link t) b c.args.ahead.now.said_more in
    record {
      well = c.requires.well;
      same_link = refl;
      layout = refl;
      same_out = refl;
      retries = refl;
      route = refl;
      begun = omega arith;
      log = refl;
      so_far = ([], 0, 0, t, link, c.args.walk, c.args.ahead.now.said_more, subst B c.requires.unsaid none, subst P (sym c.requires.none) none, omega arith, omega arith, c.next_number-told.ensures.next, laid_none y old);
    }

pub returns-in-Err-Memory : goal.returns-in-Err-Memory
returns-in-Err-Memory g c =
    let asks : Asking (UdpLink g.row.P.Denot) = port_asks g.P.Port.sends g.P.Port.receives in
    let y = c.args.ahead.now.layout in
    let t = c.args.transactions.now in
    let link = c.args.ahead.now.link.now in
    let failures = link.failures in
    let old = g.W.Write.contents c.args.ahead.now.out.now in
    let (items, n, k, u, mid, w, was, first, last, sum, one, told, printed) = c.loop-done.invariant.so_far in
    let half = c.loop-done.ahead.link.now in
    let left = c.loop-done.ahead.left.now.items in
    let now = g.W.Write.contents c.loop-done.ahead.out.now in
    let new = c.turn.new.ahead.link.now in
    let out = g.W.Write.contents c.turn.new.ahead.out.now in
    let (ended, brought, is, ran) = c.turn.ensures.ran in
    let v = c.loop-done.transactions in
    let z = c.turn.new.transactions in
    let whole = over_joins asks t u c.loop-done.transactions link mid half c.args.walk w c.loop-done.walk n k items left StepLimit false was c.loop-done.ahead.said_more first last in
    let kept = rw (c.in-Err-Memory.is, c.in-Err-Memory.field-0-is) at c.turn.ensures.prints in
    let P : UdpLink g.row.P.Denot → Type 0 = λ x. Learns y asks t link c.args.walk c.args.steps c.end.result failures x.failures z x old (g.W.Write.contents c.end.new.self.out.now) in
    let rest = over_joins asks u v z mid half new w c.loop-done.walk c.turn.new.walk k 1 left brought ended was c.loop-done.ahead.said_more c.turn.new.ahead.said_more last ran in
    let both = without_lines y asks t u z link mid new c.args.walk w c.turn.new.walk c.args.steps n (k + 1) items (left ++ brought) ended c.loop-done.told c.end.result failures new.failures
    old out (g.W.Write.contents c.end.new.self.out.now) was c.turn.new.ahead.said_more c.turn.new.ahead.said_more first (omega (arith, sum, c.loop-done-test.true)) told rest (omega (arith, one))
    (laid_kept y items old now out printed kept.1) (rw (c.turn.ensures.layout, c.loop-done.invariant.layout) at c.end.ensures.prints) c.end.ensures.more in
    let all = subst P (sym c.end.ensures.link) both in
    record {
      printed = all.1;
      came = all.0;
      begun = omega (arith, c.turn.ensures.begun, c.loop-done.invariant.begun, c.loop-done-test.true);
      flaw = no_flaw c.turn.new.ahead.layout why.Memory c.loop-done.told c.end.result _ _ _ (λ e. cc) c.end.ensures.prints;
      same_link = c.end.ensures.same_link ∙ c.turn.ensures.same_link ∙ c.loop-done.invariant.same_link;
      same_out = c.end.ensures.same_out ∙ c.turn.ensures.same_out ∙ c.loop-done.invariant.same_out;
    }

pub returns-in-Err : goal.returns-in-Err
returns-in-Err g c =
    let asks : Asking (UdpLink g.row.P.Denot) = port_asks g.P.Port.sends g.P.Port.receives in
    let y = c.args.ahead.now.layout in
    let t = c.args.transactions.now in
    let link = c.args.ahead.now.link.now in
    let failures = link.failures in
    let old = g.W.Write.contents c.args.ahead.now.out.now in
    let (items, n, k, u, mid, w, was, first, last, sum, one, told, printed) = c.loop-done.invariant.so_far in
    let half = c.loop-done.ahead.link.now in
    let left = c.loop-done.ahead.left.now.items in
    let now = g.W.Write.contents c.loop-done.ahead.out.now in
    let new = c.turn.new.ahead.link.now in
    let out = g.W.Write.contents c.turn.new.ahead.out.now in
    let (ended, brought, is, ran) = c.turn.ensures.ran in
    let v = c.loop-done.transactions in
    let z = c.turn.new.transactions in
    let whole = over_joins asks t u c.loop-done.transactions link mid half c.args.walk w c.loop-done.walk n k items left StepLimit false was c.loop-done.ahead.said_more first last in
    let L : Form → Type 0 = λ l. PrintsLeft {A = Ended} l left (Err c.in-Err.fault) now out in
    let all = fails y asks t u v z link mid half new c.args.walk w c.loop-done.walk c.turn.new.walk c.args.steps n k items left brought ended c.loop-done.told c.in-Err.fault failures new.failures
    old now out was c.loop-done.ahead.said_more c.turn.new.ahead.said_more first last ran (omega (arith, sum, c.loop-done-test.true)) one told printed (subst L c.loop-done.invariant.layout (rw c.in-Err.is at c.turn.ensures.prints)) in
    record { printed = all.1; came = all.0; begun = omega (arith, c.turn.ensures.begun, c.loop-done.invariant.begun, c.loop-done-test.true); flaw = tt; same_link = c.turn.ensures.same_link ∙ c.loop-done.invariant.same_link; same_out = c.turn.ensures.same_out ∙ c.loop-done.invariant.same_out }

pub returns-in-Stopped : goal.returns-in-Stopped
returns-in-Stopped g c =
    let asks : Asking (UdpLink g.row.P.Denot) = port_asks g.P.Port.sends g.P.Port.receives in
    let y = c.args.ahead.now.layout in
    let t = c.args.transactions.now in
    let link = c.args.ahead.now.link.now in
    let failures = link.failures in
    let old = g.W.Write.contents c.args.ahead.now.out.now in
    let (items, n, k, u, mid, w, was, first, last, sum, one, told, printed) = c.loop-done.invariant.so_far in
    let half = c.loop-done.ahead.link.now in
    let left = c.loop-done.ahead.left.now.items in
    let now = g.W.Write.contents c.loop-done.ahead.out.now in
    let new = c.turn.new.ahead.link.now in
    let out = g.W.Write.contents c.turn.new.ahead.out.now in
    let (ended, brought, is, ran) = c.turn.ensures.ran in
    let v = c.loop-done.transactions in
    let z = c.turn.new.transactions in
    let whole = over_joins asks t u c.loop-done.transactions link mid half c.args.walk w c.loop-done.walk n k items left StepLimit false was c.loop-done.ahead.said_more first last in
    let lines = laid_then y items left old now out printed (rw (c.in-Ok.is, c.loop-done.invariant.layout) at c.turn.ensures.prints) in
    let ok = rw c.in-Ok.is at is in
    let P : UdpLink g.row.P.Denot → Type 0 = λ x. Learns y asks t link c.args.walk c.args.steps c.end-in-Stopped.result failures x.failures z x old (g.W.Write.contents c.end-in-Stopped.new.self.out.now) in
    let both = without_lines y asks t v z link half new c.args.walk c.loop-done.walk c.turn.new.walk c.args.steps (n + k) 1 (items ++ left) brought ended c.next_number-before.result
    c.end-in-Stopped.result failures new.failures old out (g.W.Write.contents c.end-in-Stopped.new.self.out.now) c.loop-done.ahead.said_more c.turn.new.ahead.said_more c.turn.new.ahead.said_more whole (omega (arith, sum, c.loop-done-test.true)) c.next_number-before.ensures.next ran (omega arith)
    lines (rw (c.turn.ensures.layout, c.loop-done.invariant.layout) at c.end-in-Stopped.ensures.prints) c.end-in-Stopped.ensures.more in
    let all = subst P (sym c.end-in-Stopped.ensures.link) both in
    record {
      printed = all.1;
      came = all.0;
      begun = omega (arith, c.turn.ensures.begun, c.loop-done.invariant.begun, c.loop-done-test.true);
      flaw = no_flaw c.turn.new.ahead.layout why.Memory c.next_number-before.result c.end-in-Stopped.result _ _ _ (λ e. cc) c.end-in-Stopped.ensures.prints;
      same_link = c.end-in-Stopped.ensures.same_link ∙ c.turn.ensures.same_link ∙ c.loop-done.invariant.same_link;
      same_out = c.end-in-Stopped.ensures.same_out ∙ c.turn.ensures.same_out ∙ c.loop-done.invariant.same_out;
    }

pub returns-in-Some : goal.returns-in-Some
returns-in-Some g c =
    let asks : Asking (UdpLink g.row.P.Denot) = port_asks g.P.Port.sends g.P.Port.receives in
    let y = c.args.ahead.now.layout in
    let t = c.args.transactions.now in
    let link = c.args.ahead.now.link.now in
    let failures = link.failures in
    let old = g.W.Write.contents c.args.ahead.now.out.now in
    let (items, n, k, u, mid, w, was, first, last, sum, one, told, printed) = c.loop-done.invariant.so_far in
    let half = c.loop-done.ahead.link.now in
    let left = c.loop-done.ahead.left.now.items in
    let now = g.W.Write.contents c.loop-done.ahead.out.now in
    let new = c.turn.new.ahead.link.now in
    let out = g.W.Write.contents c.turn.new.ahead.out.now in
    let (ended, brought, is, ran) = c.turn.ensures.ran in
    let v = c.loop-done.transactions in
    let z = c.turn.new.transactions in
    let whole = over_joins asks t u c.loop-done.transactions link mid half c.args.walk w c.loop-done.walk n k items left StepLimit false was c.loop-done.ahead.said_more first last in
    let lines = laid_then y items left old now out printed (rw (c.in-Ok.is, c.loop-done.invariant.layout) at c.turn.ensures.prints) in
    let ok = rw c.in-Ok.is at is in
    let on : ended ≢ Stopped = λ e. c.in_default.not-Stopped (ok.0 ∙ e) in
    let some : why_of ended ≡ Some c.in-Some.why = sym (ap why_of ok.0) ∙ sym c.why-why.ensures ∙ c.in-Some.is in
    let end = g.W.Write.contents c.finish.new.self.out.now in
    let P : UdpLink g.row.P.Denot → Type 0 = λ x. Learns y asks t link c.args.walk c.args.steps c.finish.result failures x.failures z x old (g.W.Write.contents c.finish.new.self.out.now) in
    let Q : List Item → Type 0 = λ l. PrintsLast y (closing l c.in-Some.why c.next_number.result c.next_number-before.result) c.finish.result out end in
    let more = over_joins asks t v z link half new c.args.walk c.loop-done.walk c.turn.new.walk (n + k) 1 (items ++ left) brought ended false c.loop-done.ahead.said_more c.turn.new.ahead.said_more whole ran in
    let early = over_early asks t z link new c.args.walk c.turn.new.walk (n + k + 1) c.args.steps ((items ++ left) ++ brought) ended false c.turn.new.ahead.said_more (not_limit ended c.in-Some.why some) (omega (arith, sum, c.loop-done-test.true)) more in
    let both = finishes y asks t v z link half new c.args.walk c.loop-done.walk c.turn.new.walk c.args.steps (n + k) 1 c.args.steps (items ++ left) brought ended c.in-Some.why c.next_number.result
    c.next_number-before.result c.finish.result failures new.failures old out end c.loop-done.ahead.said_more c.turn.new.ahead.said_more whole ran on early c.finish.ensures.more (omega arith) (ends_run ended c.in-Some.why c.args.steps (runs_on ended on) some)
    (whole_ahead asks z new c.turn.new.walk ended c.in-Some.why (runs_on ended on) some) (omega (arith, sum, c.loop-done-test.true)) (omega arith) c.next_number.ensures.next
    c.next_number-before.ensures.next lines (subst Q (ok.1 on) (rw (c.turn.ensures.layout, c.loop-done.invariant.layout) at c.finish.ensures.prints)) in
    let all = subst P (sym c.finish.ensures.link) both in
    let flawed = rw c.in-Ok.is at c.turn.ensures.flaw in
    let N : ℕ → Type 0 = λ next. IsBadlyFetched asks (towards t.route) t.retries (log_place c.args.walk.log next) c.finish.new.self.flaw c.finish.new.self.link.now in
    let badly_told = λ (bad : c.in-Some.why ≡ why.Fault BadReply).
    badly asks (towards t.route) (towards c.loop-done.transactions.route) t.retries c.loop-done.transactions.retries c.turn.new.walk c.args.walk.log c.next_number.result c.finish.new.self.flaw
    c.turn.new.ahead.flaw c.finish.new.self.link.now new (ap towards c.loop-done.invariant.route) c.loop-done.invariant.retries (c.turn.ensures.log ∙ c.loop-done.invariant.log)
    c.next_number.ensures.next c.finish.ensures.flaw c.finish.ensures.link (flawed (ok.0 ∙ why_bad ended (some ∙ ap Some bad))) in
    let told_flaw = last_is c.turn.new.ahead.layout c.turn.new.ahead.left.now.items c.in-Some.why c.next_number.result c.next_number-before.result c.finish.result _ _ N badly_told c.finish.ensures.prints in
    record { printed = all.1; came = all.0; begun = omega (arith, c.turn.ensures.begun, c.loop-done.invariant.begun, c.loop-done-test.true); flaw = told_flaw; same_link = c.finish.ensures.same_link ∙ c.turn.ensures.same_link ∙ c.loop-done.invariant.same_link; same_out = c.finish.ensures.same_out ∙ c.turn.ensures.same_out ∙ c.loop-done.invariant.same_out }

pub loop-done-preserved : goal.loop-done-preserved
loop-done-preserved g c =
    let asks : Asking (UdpLink g.row.P.Denot) = port_asks g.P.Port.sends g.P.Port.receives in
    let y = c.args.ahead.now.layout in
    let t = c.args.transactions.now in
    let link = c.args.ahead.now.link.now in
    let failures = link.failures in
    let old = g.W.Write.contents c.args.ahead.now.out.now in
    let (items, n, k, u, mid, w, was, first, last, sum, one, told, printed) = c.loop-done.invariant.so_far in
    let half = c.loop-done.ahead.link.now in
    let left = c.loop-done.ahead.left.now.items in
    let now = g.W.Write.contents c.loop-done.ahead.out.now in
    let new = c.turn.new.ahead.link.now in
    let out = g.W.Write.contents c.turn.new.ahead.out.now in
    let (ended, brought, is, ran) = c.turn.ensures.ran in
    let v = c.loop-done.transactions in
    let z = c.turn.new.transactions in
    let whole = over_joins asks t u c.loop-done.transactions link mid half c.args.walk w c.loop-done.walk n k items left StepLimit false was c.loop-done.ahead.said_more first last in
    let lines = laid_then y items left old now out printed (rw (c.in-Ok.is, c.loop-done.invariant.layout) at c.turn.ensures.prints) in
    let ok = rw c.in-Ok.is at is in
    let on : ended ≢ Stopped = λ e. c.in_default.not-Stopped (ok.0 ∙ e) in
    let limit : ended ≡ StepLimit = goes_on ended (sym (ap why_of ok.0) ∙ sym c.why-why.ensures ∙ c.in_default-why.is) in
    let R : Ended → Type 0 = λ e. IsRunOver asks (client half v) c.loop-done.walk (course brought 1 e c.turn.new.walk) (client new z) c.loop-done.ahead.said_more c.turn.new.ahead.said_more in
    let Q : List Item → Type 0 = λ l. IsRunOver asks (client half v) c.loop-done.walk (course l 1 StepLimit c.turn.new.walk) (client new z) c.loop-done.ahead.said_more c.turn.new.ahead.said_more in
    record {
      well = rw c.in-Ok.is at c.turn.ensures.well;
      same_link = c.turn.ensures.same_link ∙ c.loop-done.invariant.same_link;
      layout = c.turn.ensures.layout ∙ c.loop-done.invariant.layout;
      same_out = c.turn.ensures.same_out ∙ c.loop-done.invariant.same_out;
      retries = c.turn.ensures.retries ∙ c.loop-done.invariant.retries;
      route = c.turn.ensures.route ∙ c.loop-done.invariant.route;
      begun = omega (arith, c.turn.ensures.begun, c.loop-done.invariant.begun);
      log = c.turn.ensures.log ∙ c.loop-done.invariant.log;
      so_far = (
        items ++ left,
        n + k,
        1,
        v,
        half,
        c.loop-done.walk,
        c.loop-done.ahead.said_more,
        whole,
        subst Q (sym (ok.1 on)) (subst R limit ran),
        omega (arith, sum),
        omega arith,
        c.next_number-before.ensures.next,
        lines,
      );
    }

pub returns : goal.returns
returns g c =
    let asks : Asking (UdpLink g.row.P.Denot) = port_asks g.P.Port.sends g.P.Port.receives in
    let y = c.args.ahead.now.layout in
    let t = c.args.transactions.now in
    let link = c.args.ahead.now.link.now in
    let failures = link.failures in
    let old = g.W.Write.contents c.args.ahead.now.out.now in
    let (items, n, k, u, mid, w, was, first, last, sum, one, told, printed) = c.loop-done.invariant.so_far in
    let half = c.loop-done.ahead.link.now in
    let left = c.loop-done.ahead.left.now.items in
    let now = g.W.Write.contents c.loop-done.ahead.out.now in
    let whole = over_joins asks t u c.loop-done.transactions link mid half c.args.walk w c.loop-done.walk n k items left StepLimit false was c.loop-done.ahead.said_more first last in
    let end = g.W.Write.contents c.finish-2.new.self.out.now in
    let P : UdpLink g.row.P.Denot → Type 0 = λ x. Learns y asks t link c.args.walk c.args.steps c.finish-2.result failures x.failures c.loop-done.transactions x old (g.W.Write.contents c.finish-2.new.self.out.now) in
    let both = finishes y asks t u c.loop-done.transactions link mid half c.args.walk w c.loop-done.walk c.args.steps n k (n + k) items left StepLimit why.StepLimit c.next_number-2.result c.loop-done.told
    c.finish-2.result failures half.failures old now end was c.loop-done.ahead.said_more first last limit_on whole c.finish-2.ensures.more (omega (arith, sum)) (omega (arith, sum), refl) (refl, refl) (omega (arith, sum)) one c.next_number-2.ensures.next told printed (rw c.loop-done.invariant.layout at c.finish-2.ensures.prints) in
    let all = subst P (sym c.finish-2.ensures.link) both in
    record {
      printed = all.1;
      came = all.0;
      begun = omega (arith, c.loop-done.invariant.begun);
      flaw = no_last_flaw c.loop-done.ahead.layout c.loop-done.ahead.left.now.items why.StepLimit c.next_number-2.result c.loop-done.told c.finish-2.result _ _ _ (λ e. cc) c.finish-2.ensures.prints;
      same_link = c.finish-2.ensures.same_link ∙ c.loop-done.invariant.same_link;
      same_out = c.finish-2.ensures.same_out ∙ c.loop-done.invariant.same_out;
    }
