use Rattle.std.proofs.Common.{[], ◌∷◌, refl, subst}
use Rattle.sqlite.specs.Held.{state}
use Rattle.sqlite.proofs.StateLemmas.{survives_weaker}
use Rattle.bac_drive.specs.Event.{Kept, Printed, Read, Sent, Waited, Warned}
use Rattle.bac_drive.specs.Happens.{scene}
use Rattle.bac_drive.specs.declared.machine.Next.{Next}
use Rattle.bac_drive.specs.declared.machine.Next.TheVariants as next
use Rattle.bac_drive.proofs.driving.step.Goals as goal

pub returns-in-Ok-Send-clause-takes : goal.returns-in-Ok-Send-clause-takes
returns-in-Ok-Send-clause-takes g c clean =
    let G : Next → Type 0 = λ n. g.M.Machine.gives c.args.machine.now n c.next.new.self in (
      Sent c.octets.result.now c.in-Ok-Send.to c.send-answer.result,
      (
        next.Send c.in-Ok-Send.datagram c.in-Ok-Send.to,
        c.next.new.self,
        subst G c.in-Ok-Send.field-0-is c.in-Ok-Send.ensures,
        (c.octets.ensures.value, refl),
        refl,
        (c.send-answer.ensures, refl),
      ),
    )

pub returns-in-Ok-Wait-clause-takes : goal.returns-in-Ok-Wait-clause-takes
returns-in-Ok-Wait-clause-takes g c clean =
    let G : Next → Type 0 = λ n. g.M.Machine.gives c.args.machine.now n c.next.new.self in (
      Waited c.in-Ok-Wait.within c.receive_within.result,
      (
        next.Wait c.in-Ok-Wait.within,
        c.next.new.self,
        subst G c.in-Ok-Wait.field-0-is c.in-Ok-Wait.ensures,
        refl,
        c.hear.ensures,
        (c.receive_within.ensures, refl),
      ),
    )

pub returns-in-Ok-Read-clause-takes : goal.returns-in-Ok-Read-clause-takes
returns-in-Ok-Read-clause-takes g c clean =
    let G : Next → Type 0 = λ n. g.M.Machine.gives c.args.machine.now n c.next.new.self in (
      Read c.now.result,
      (
        next.Read,
        c.next.new.self,
        subst G c.in-Ok-Read.field-0-is c.in-Ok-Read.ensures,
        tt,
        c.read.ensures,
        (c.now.ensures, refl),
      ),
    )

pub returns-in-Ok-clause-takes : goal.returns-in-Ok-clause-takes
returns-in-Ok-clause-takes g c clean =
    let G : Next → Type 0 = λ n. g.M.Machine.gives c.args.machine.now n c.next.new.self in (
      Kept c.as_slice.result.now,
      (
        next.Keep c.in-Ok-Keep.puts,
        c.next.new.self,
        subst G c.in-Ok-Keep.field-0-is c.in-Ok-Keep.ensures,
        c.as_slice.ensures.value,
        refl,
        (c.in-Ok.ensures.kept clean, refl),
      ),
    )

pub returns-in-Ok-show-clause-takes : goal.returns-in-Ok-show-clause-takes
returns-in-Ok-show-clause-takes g c clean =
    let G : Next → Type 0 = λ n. g.M.Machine.gives c.args.machine.now n c.next.new.self in (
      Printed c.as_slice-in-Ok-Print.result.now,
      (
        next.Print c.in-Ok-Print.text,
        c.next.new.self,
        subst G c.in-Ok-Print.field-0-is c.in-Ok-Print.ensures,
        c.as_slice-in-Ok-Print.ensures.value,
        refl,
        (c.in-Ok-show.ensures.ok, refl),
      ),
    )

pub returns-in-Ok-write_text-clause-takes : goal.returns-in-Ok-write_text-clause-takes
returns-in-Ok-write_text-clause-takes g c clean =
    let G : Next → Type 0 = λ n. g.M.Machine.gives c.args.machine.now n c.next.new.self in (
      Warned c.as_slice-in-Ok-Warn.result.now,
      (
        next.Warn c.in-Ok-Warn.text,
        c.next.new.self,
        subst G c.in-Ok-Warn.field-0-is c.in-Ok-Warn.ensures,
        c.as_slice-in-Ok-Warn.ensures.value,
        refl,
        (c.in-Ok-write_text.ensures.ok, refl),
      ),
    )

pub returns-in-Ok-clause-crash : goal.returns-in-Ok-clause-crash
returns-in-Ok-clause-crash g c =
    let G : Next → Type 0 = λ n. g.M.Machine.gives c.args.machine.now n c.next.new.self in
    survives_weaker (state g.S.Store c.args.conn.now) (state g.S.Store c.keep.new.conn) _ _ (λ clean db it.
    let last = scene c.next.new.self c.args.port.now c.args.clock.now it.0 (g.W.Write.contents c.args.output.now) (g.V.Write.contents c.args.errors.now) in
    (Kept c.as_slice.result.now ∷ [], last, (last, (next.Keep c.in-Ok-Keep.puts, c.next.new.self, subst G c.in-Ok-Keep.field-0-is c.in-Ok-Keep.ensures, c.as_slice.ensures.value, refl, (it.1, refl)), refl), it.2)) c.keep.ensures.crash

pub returns-in-Ok-Keep-clause-crash : goal.returns-in-Ok-Keep-clause-crash
returns-in-Ok-Keep-clause-crash g c =
    let G : Next → Type 0 = λ n. g.M.Machine.gives c.args.machine.now n c.next.new.self in
    survives_weaker (state g.S.Store c.args.conn.now) (state g.S.Store c.keep.new.conn) _ _ (λ clean db it.
    let last = scene c.next.new.self c.args.port.now c.args.clock.now it.0 (g.W.Write.contents c.args.output.now) (g.V.Write.contents c.args.errors.now) in
    (Kept c.as_slice.result.now ∷ [], last, (last, (next.Keep c.in-Ok-Keep.puts, c.next.new.self, subst G c.in-Ok-Keep.field-0-is c.in-Ok-Keep.ensures, c.as_slice.ensures.value, refl, (it.1, refl)), refl), it.2)) c.keep.ensures.crash

pub returns-in-Ok-Keep-clause-stops : goal.returns-in-Ok-Keep-clause-stops
returns-in-Ok-Keep-clause-stops g c clean =
    let G : Next → Type 0 = λ n. g.M.Machine.gives c.args.machine.now n c.next.new.self in (
      (
        refl,
        (
          next.Keep c.in-Ok-Keep.puts,
          c.next.new.self,
          c.as_slice.result.now,
          subst G c.in-Ok-Keep.field-0-is c.in-Ok-Keep.ensures,
          c.as_slice.ensures.value,
          (c.args.conn.now, refl, c.in-Err-keep.ensures.cause clean),
        ),
      ),
      λ is_open. c.in-Err-keep.ensures.neither clean is_open,
    )

pub returns-in-Ok-Print-clause-stops : goal.returns-in-Ok-Print-clause-stops
returns-in-Ok-Print-clause-stops g c clean =
    let G : Next → Type 0 = λ n. g.M.Machine.gives c.args.machine.now n c.next.new.self in (
      (
        refl,
        (
          next.Print c.in-Ok-Print.text,
          c.next.new.self,
          c.as_slice-in-Ok-Print.result.now,
          subst G c.in-Ok-Print.field-0-is c.in-Ok-Print.ensures,
          c.as_slice-in-Ok-Print.ensures.value,
          c.in-Err-show.ensures.err,
        ),
      ),
      λ is_open. refl,
    )

pub returns-in-Ok-Warn-clause-stops : goal.returns-in-Ok-Warn-clause-stops
returns-in-Ok-Warn-clause-stops g c clean =
    let G : Next → Type 0 = λ n. g.M.Machine.gives c.args.machine.now n c.next.new.self in (
      (
        refl,
        (
          next.Warn c.in-Ok-Warn.text,
          c.next.new.self,
          c.as_slice-in-Ok-Warn.result.now,
          subst G c.in-Ok-Warn.field-0-is c.in-Ok-Warn.ensures,
          c.as_slice-in-Ok-Warn.ensures.value,
          c.in-Err-write_text.ensures.err,
        ),
      ),
      λ is_open. refl,
    )
