use Rattle.std.proofs.Common.{ap, inl, inr, refl, ◌∙◌}
use Rattle.std.proofs.lemmas.Result.{err_from_is_err_and}
use Rattle.bac_tools.proofs.Parts.{placed}
use Rattle.bac_tools.specs.Serving.{wait_of}
use Rattle.bac_tools.proofs.serving.serve.Goals as goal

pub returns-in_err-device : goal.returns-in_err-device
returns-in_err-device g c =
    let p = err_from_is_err_and c.from_residual-in_err-device.result c.from_residual-in_err-device.ensures.1 in
    inr (
      c.in_ok-read.read.0,
      c.in_ok-read.ensures.ok.0,
      inl (
        c.in_err-device.field-0.0,
        placed (g.I.Read.remaining c.args.input.now) c.in_ok-read.read.1.items c.in_ok-read.read.0.device c.in_ok-read.read.0.objects.items
            c.in_err-device.field-0.0 c.in_ok-read.ensures.ok.1 c.in_err-device.ensures.err,
        rw (p.1, p.2) refl,
        ((refl, refl), refl),
      ),
    )

pub returns : goal.returns
returns g c =
    let wait = c.idle_wait-wait.ensures ∙ ap wait_of c.deref.ensures.value in
    inr (
      c.in_ok-read.read.0,
      c.in_ok-read.ensures.ok.0,
      inr (c.in_ok-device.ensures.ok.0, rw (wait, c.in_ok-device.ensures.ok.1) at c.serve_at.ensures),
    )
