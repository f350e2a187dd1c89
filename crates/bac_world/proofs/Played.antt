-- Events that are played one after the other.
use Rattle.std.proofs.Common.{◌≡◌, ℕ, Bool, ◌+◌, ◌<◌, ◌≤◌, if◌then◌else◌, List, [], ◌∷◌, ◌++◌, length, take, get_or, refl, sym, ap, subst, ◌∙◌, arith}
use Rattle.std.proofs.lemmas.List.{take_more, take_all}
use Rattle.bac_world.specs.declared.event.WorldEvent.{WorldEvent}
use Rattle.bac_world.specs.Network.{Network, happens, happens_all, moves, moves_all}
use Rattle.bac_world.specs.Runs.{AreSane, IsSane}

happens_all-push : (w : Network) (es : List WorldEvent) (e : WorldEvent) → happens_all w (es ++ e ∷ []) ≡ happens (happens_all w es) e
happens_all-push w [] e = refl
happens_all-push w (x ∷ es) e = happens_all-push (happens w x) es e

moves_all-push : (w : Network) (es : List WorldEvent) (e : WorldEvent) →
    moves_all w (es ++ e ∷ []) ≡ moves_all w es + (if moves (happens_all w es) e then 1 else 0)
moves_all-push w [] e = omega arith
moves_all-push w (x ∷ es) e = omega (arith, moves_all-push (happens w x) es e)

sane-push : (w : Network) (es : List WorldEvent) (e : WorldEvent) → AreSane w es → IsSane (happens (happens_all w es) e) → AreSane w (es ++ e ∷ [])
sane-push w [] e are is = (are, is)
sane-push w (x ∷ es) e are is = (are.0, sane-push (happens w x) es e are.1 is)

pub played_more : (w now after : Network) (es : List WorldEvent) (i : ℕ) (e d : WorldEvent) → i < length es → get_or es i d ≡ e →
    now ≡ happens_all w (take i es) → after ≡ happens now e → after ≡ happens_all w (take (i + 1) es)
played_more w now after es i e d below is before step =
    step ∙ ap (λ s. happens s e) before ∙ sym (happens_all-push w (take i es) e)
    ∙ ap (λ x. happens_all w (take i es ++ x ∷ [])) (sym is) ∙ ap (λ l. happens_all w l) (sym (take_more es i d below))

pub counted_more : (w now : Network) (es : List WorldEvent) (i n : ℕ) (e d : WorldEvent) (b : Bool) → i < length es → get_or es i d ≡ e →
    now ≡ happens_all w (take i es) → b ≡ moves now e → n ≡ moves_all w (take i es) →
    n + (if b then 1 else 0) ≡ moves_all w (take (i + 1) es)
counted_more w now es i n e d b below is before moved count =
    ap (λ k. k + (if b then 1 else 0)) count
    ∙ ap (λ v. moves_all w (take i es) + (if v then 1 else 0)) (moved ∙ ap (λ s. moves s e) before)
    ∙ sym (moves_all-push w (take i es) e)
    ∙ ap (λ x. moves_all w (take i es ++ x ∷ [])) (sym is) ∙ ap (λ l. moves_all w l) (sym (take_more es i d below))

pub sane_more : (w now after : Network) (es : List WorldEvent) (i : ℕ) (e d : WorldEvent) → i < length es → get_or es i d ≡ e →
    now ≡ happens_all w (take i es) → after ≡ happens now e → AreSane w (take i es) → IsSane after → AreSane w (take (i + 1) es)
sane_more w now after es i e d below is before step are here =
    let P : List WorldEvent → Type 0 = λ l. AreSane w l in
    let Q : Network → Type 0 = λ s. IsSane s in
    let R : WorldEvent → Type 0 = λ x. AreSane w (take i es ++ x ∷ []) in
    subst P (sym (take_more es i d below)) (subst R (sym is)
    (sane-push w (take i es) e are (subst Q (step ∙ ap (λ s. happens s e) before) here)))

pub played_end : (es : List WorldEvent) (i : ℕ) → length es ≤ i → take i es ≡ es
played_end es i le = take_all i es le

pub add_zero : (n : ℕ) → n + 0 ≡ n
add_zero n = omega arith
