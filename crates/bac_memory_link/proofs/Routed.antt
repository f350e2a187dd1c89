-- An ask through a router, over a link whose asks tell that it is ours.
use Rattle.std.proofs.Common.{◌≡◌, ℕ, Option, Some, None, false, Result, Ok, Err, List, refl, sym, subst, ◌∙◌}
use Rattle.std.specs.Result.{result_ok}
use Rattle.bac_wire.specs.Primitive.{Id}
use Rattle.bac_apdu.specs.Apdu.{Complex}
use Rattle.bac_apdu.specs.Npdu.{Place}
use Rattle.bac_apdu.specs.Route.{IsRoute}
use Rattle.bac_apdu.specs.declared.service.extent.Extent.{Extent}
use Rattle.bac_log.specs.Ack.{read_range_service}
use Rattle.bac_link.specs.Delivery.{History, Moment, now}
use Rattle.bac_link.specs.Links.{IsAsked, IsQuestion, IsReply, TellsOurs, reply_parameters, our_question}
use Rattle.bac_link.specs.Moments.{AreServed, log_at}
use Rattle.bac_link.specs.Path.{Path, back, towards}
use Rattle.bac_link.specs.declared.link.Lost.{Lost}
use Rattle.bac_memory_link.specs.Routing.{handed_on, IsHandedBack, PassesOn}
use Rattle.bac_memory_link.proofs.Routing.{fits_back, question_handed, reply_back}
use Rattle.bac_memory_link.proofs.Fitting.{reply_small}

no_datagram : (datagram : List ℕ) (o : Option (List ℕ)) → Some datagram ≡ o → o ≡ None → ⊥
no_datagram datagram o is none = absurd (let e = is ∙ none in cc)

come_back : {S : Type 0} (ours : S → Id → ℕ → List Moment → History → Type 0) (far near : Place) → IsRoute far →
    (new : S) (answer reply : Result (List ℕ) Lost) (id : Id) (r : ℕ) (M : List Moment) (H : History) (extent : Extent) (path : Path) (invoke : ℕ) → AreServed r M H → path ≡ towards (Some far) →
    IsAsked (λ N. ours new id r N H) (our_question r M H id extent (back (towards (Some near)))) invoke reply → IsHandedBack far near reply answer →
    IsAsked (λ N. ours new id r N H) (our_question r M H id extent path) invoke answer
come_back ours far near far_is new (Ok datagram) (Err lost) id r M H extent path invoke served way told handed = absurd (no_datagram datagram None handed refl)
come_back ours far near far_is new (Err other) (Err lost) id r M H extent path invoke served way told handed = told
come_back ours far near far_is new (Ok datagram) (Ok reply) id r M H extent path invoke served way told handed =
    let m = Complex false invoke read_range_service (reply_parameters id (log_at (now M) H) extent r) in
    (subst (λ (p : Path). IsReply (our_question r M H id extent p) invoke datagram) (sym way) (told.0.0, reply_back far near reply datagram m far_is told.0.1 (sym handed)), told.1)
come_back ours far near far_is new (Err lost) (Ok reply) id r M H extent path invoke served way told handed =
    absurd (fits_back far near reply invoke read_range_service (reply_parameters id (log_at (now M) H) extent r) far_is told.0.1 (reply_small r M H id extent served told.0.0) (sym handed))

pub tells_routed : {S : Type 0} (asks : S → List ℕ → Result (List ℕ) Lost → S → Type 0) (ours : S → Id → ℕ → List Moment → History → Type 0) →
    ((link : S) (id : Id) (r : ℕ) (M : List Moment) (H : History) → ours link id r M H → AreServed r M H) → TellsOurs asks ours → (far near : Place) → IsRoute far → IsRoute near →
    TellsOurs (λ old octets answer new. PassesOn asks far near (handed_on far near octets) old answer new) ours
tells_routed {S = S} asks ours serves tells far near far_is near_is = λ old new octets answer id r M H extent path invoke is_ours is passes.
    on old new octets answer id r M H extent path invoke (handed_on far near octets) refl is_ours is passes
  where
    none : (old new : S) (answer : Result (List ℕ) Lost) (id : Id) (r : ℕ) (M : List Moment) (H : History) (extent : Extent) (path : Path) (invoke : ℕ) →
        ours old id r M H → result_ok answer ≡ None → new ≡ old → IsAsked (λ N. ours new id r N H) (our_question r M H id extent path) invoke answer
    none old new (Ok datagram) id r M H extent path invoke is_ours lost same = absurd (no_datagram datagram None lost refl)
    none old new (Err e) id r M H extent path invoke is_ours lost same = subst (λ x. ours x id r M H) (sym same) is_ours

    on : (old new : S) (octets : List ℕ) (answer : Result (List ℕ) Lost) (id : Id) (r : ℕ) (M : List Moment) (H : History) (extent : Extent) (path : Path) (invoke : ℕ) →
        (o : Option (List ℕ)) → handed_on far near octets ≡ o → ours old id r M H → IsQuestion id extent path invoke octets → PassesOn asks far near o old answer new →
        IsAsked (λ N. ours new id r N H) (our_question r M H id extent path) invoke answer
    on old new octets answer id r M H extent path invoke None handed is_ours is passes =
        none old new answer id r M H extent path invoke is_ours passes.0 passes.1
    on old new octets answer id r M H extent path invoke (Some inner) handed is_ours is (reply, asked, back_is) =
        let q = question_handed far near path id extent invoke octets inner near_is is handed in
        come_back ours far near far_is new answer reply id r M H extent path invoke (serves old id r M H is_ours) q.1
        (tells old new inner reply id r M H extent (back (towards (Some near))) invoke is_ours q.0 asked) back_is
