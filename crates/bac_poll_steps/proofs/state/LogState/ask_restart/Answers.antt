-- A restart is on record: it is asked for again.
use Rattle.std.proofs.Common.{◌≡◌, ℕ, ◌==◌, Bool, false, List, [], ◌∷◌, length, ap, refl, sym, subst, ◌∙◌}
use Rattle.bac_walk.specs.declared.batch.Numbered.{Numbered}
use Rattle.bac_poll_steps.specs.Gone.{asks_restart}
use Rattle.bac_poll_steps.specs.State.{PollState}
use Rattle.bac_poll_steps.specs.Turns.{asks_at, turned}
use Rattle.bac_poll_steps.specs.contracts.state.LogState.{the_view}
use Rattle.bac_poll_steps.specs.declared.stage.Stage.TheVariants.{Restart}
use Rattle.bac_poll_steps.proofs.state.LogState.ask_restart.Goals as goal

told : (p : PollState) (held : List Numbered) (restart : List ℕ) (none : Bool) → none ≡ (length restart == 0) → none ≡ false →
    asks_restart p held restart ≡ asks_at (record p { held = held }) Restart p.reference
told p held [] none is some = absurd (cc)
told p held (octet ∷ octets) none is some = refl

pub returns : goal.returns
returns c =
    let p : PollState = the_view c.self.inside in
    let asks = told p c.args.held.items p.word.restart c.is_empty.result (c.is_empty.ensures ∙ ap (λ (l : List ℕ). length l == 0) c.as_slice.ensures.value) c.if-is_empty.false in
    let same : c.ask_at.inside.reference ≡ c.self.inside.reference = ap (λ (q : PollState). q.reference) c.ask_at.view_is in
    let asked = c.ask_at-2.ensures ∙ ap (λ (n : ℕ). asks_at (record p { held = c.args.held.items }) Restart n) same in
    subst (λ (q : PollState). turned c.ask_at-2.new.self c.ask_at-2.result ≡ asks_restart q c.args.held.items q.word.restart) c.self.view_is (asked ∙ sym asks)
