-- What batches of a site put of items is what came over their port, or a gap.
use Rattle.std.proofs.Common.{◌≡◌, ◌∙◌, ◌⊎◌, inl, inr, ℕ, true, false, map, List, [], ◌∷◌, ◌++◌, All, Ok, arith, refl, sym, ap, subst}
use Rattle.std.specs.List.{Contains}
use Rattle.std.proofs.lemmas.List.Elements.{Contains-append_cases, Contains-append_left, Contains-append_right, Contains-push, Contains-push_cases}
use Rattle.sqlite_value.specs.declared.value.Value.{Value}
use Rattle.bac_archive.specs.declared.row.Put.{Put}
use Rattle.bac_batch.proofs.Inside.{loses_nothing}
use Rattle.bac_batch.specs.Batch.{Batched}
use Rattle.bac_batch.specs.Laws.{AreCutShort, HoldsNothing, IsCutShort, is_traffic, traffic_of}
use Rattle.bac_device_poller.specs.Puts.{put_as}
use Rattle.bac_drive.specs.Chain.{Chain}
use Rattle.bac_drive.specs.Event.{Event, Kept, Printed, Read, Sent, Waited, Warned}
use Rattle.bac_drive.specs.Laws.{puts_of}
use Rattle.bac_ports.specs.Port.{Receiving, Sending}
use Rattle.bac_site_poller.specs.Site.{GivesSite, SiteHears, SiteState}
use Rattle.bac_site_poller.specs.SiteLaws.{IsUnasked, SiteBatchSteps, SiteReads}
use Rattle.bac_laws.proofs.RowsFit.{Sound, sound_front}
use Rattle.bac_laws.proofs.DeviceFits.{CameIn, Fits, Later, sound_later}
use Rattle.bac_laws.proofs.SiteFits.{mapped, site_fits}

-- ---- an event among others

abbrev pub IsIn : Event → List Event → Type 0
IsIn x [] = ⊥
IsIn x (e ∷ es) = (e ≡ x) ⊎ IsIn x es

nothing_in : (x : Event) → Contains [] x → ⊥
nothing_in x (k, less, is) = absurd (omega (arith, less))

alone : (e x : Event) → Contains [] x ⊎ (e ≡ x) → e ≡ x
alone e x (inl none) = absurd (nothing_in x none)
alone e x (inr same) = same

first_or : (e : Event) (es : List Event) (x : Event) → (Contains es x → IsIn x es) → Contains (e ∷ []) x ⊎ Contains es x → (e ≡ x) ⊎ IsIn x es
first_or e es x to (inl one) = inl (alone e x (Contains-push_cases [] e x one))
first_or e es x to (inr rest) = inr (to rest)

pub to_in : (es : List Event) (x : Event) → Contains es x → IsIn x es
to_in [] x has = absurd (nothing_in x has)
to_in (e ∷ es) x has = first_or e es x (λ rest. to_in es x rest) (Contains-append_cases (e ∷ []) es x has)

pub from_in : (es : List Event) (x : Event) → IsIn x es → Contains es x
from_in [] x is = absurd is
from_in (e ∷ es) x (inl same) = subst (Contains (e ∷ es)) same (Contains-append_left (e ∷ []) es e (Contains-push [] e))
from_in (e ∷ es) x (inr is) = Contains-append_right (e ∷ []) es x (from_in es x is)

-- ---- traffic

not_so : (e x : Event) → e ≡ x → is_traffic e ≡ false → is_traffic x ≡ true → ⊥
not_so e x same not is_one = absurd (let f : false ≡ true = sym not ∙ ap is_traffic same ∙ is_one in cc)

in_traffic : (es : List Event) (x : Event) → is_traffic x ≡ true → IsIn x es → IsIn x (traffic_of es)
in_traffic [] x is_one is = is
in_traffic (Sent octets to answer ∷ es) x is_one (inl same) = inl same
in_traffic (Sent octets to answer ∷ es) x is_one (inr is) = inr (in_traffic es x is_one is)
in_traffic (Waited within heard ∷ es) x is_one (inl same) = inl same
in_traffic (Waited within heard ∷ es) x is_one (inr is) = inr (in_traffic es x is_one is)
in_traffic (Read ms ∷ es) x is_one (inl same) = inl same
in_traffic (Read ms ∷ es) x is_one (inr is) = inr (in_traffic es x is_one is)
in_traffic (Kept puts ∷ es) x is_one (inl same) = absurd (not_so (Kept puts) x same refl is_one)
in_traffic (Kept puts ∷ es) x is_one (inr is) = in_traffic es x is_one is
in_traffic (Printed text ∷ es) x is_one (inl same) = absurd (not_so (Printed text) x same refl is_one)
in_traffic (Printed text ∷ es) x is_one (inr is) = in_traffic es x is_one is
in_traffic (Warned text ∷ es) x is_one (inl same) = absurd (not_so (Warned text) x same refl is_one)
in_traffic (Warned text ∷ es) x is_one (inr is) = in_traffic es x is_one is

out_traffic : (es : List Event) (x : Event) → IsIn x (traffic_of es) → IsIn x es
out_traffic [] x is = is
out_traffic (Sent octets to answer ∷ es) x (inl same) = inl same
out_traffic (Sent octets to answer ∷ es) x (inr is) = inr (out_traffic es x is)
out_traffic (Waited within heard ∷ es) x (inl same) = inl same
out_traffic (Waited within heard ∷ es) x (inr is) = inr (out_traffic es x is)
out_traffic (Read ms ∷ es) x (inl same) = inl same
out_traffic (Read ms ∷ es) x (inr is) = inr (out_traffic es x is)
out_traffic (Kept puts ∷ es) x is = inr (out_traffic es x is)
out_traffic (Printed text ∷ es) x is = inr (out_traffic es x is)
out_traffic (Warned text ∷ es) x is = inr (out_traffic es x is)

-- a send is the same
cut_send : (e f : Event) (octets to : List ℕ) (answer : Sending) → IsCutShort e f → f ≡ Sent octets to answer → e ≡ Sent octets to answer
cut_send (Sent o t a) f octets to answer is same = is ∙ same
cut_send (Waited within heard) (Waited most other) octets to answer is same = absurd (let g : Waited most other ≡ Sent octets to answer = same in cc)
cut_send (Waited within heard) (Sent o t a) octets to answer is same = is ∙ same
cut_send (Waited within heard) (Read ms) octets to answer is same = is ∙ same
cut_send (Waited within heard) (Kept puts) octets to answer is same = is ∙ same
cut_send (Waited within heard) (Printed text) octets to answer is same = is ∙ same
cut_send (Waited within heard) (Warned text) octets to answer is same = is ∙ same
cut_send (Read ms) f octets to answer is same = is ∙ same
cut_send (Kept puts) f octets to answer is same = is ∙ same
cut_send (Printed text) f octets to answer is same = is ∙ same
cut_send (Warned text) f octets to answer is same = is ∙ same

-- a wait brings the same
cut_wait : (e f : Event) (within : ℕ) (heard : Receiving) → IsCutShort e f → f ≡ Waited within heard → (less : ℕ) × (e ≡ Waited less heard)
cut_wait (Waited less came) (Waited most other) within heard is same =
    let e : other ≡ heard = (let g : Waited most other ≡ Waited within heard = same in cc) in
    (less, ap (λ (h : Receiving). Waited less h) (is.1 ∙ e))
cut_wait (Waited less came) (Sent o t a) within heard is same = absurd (let g : Sent o t a ≡ Waited within heard = same in cc)
cut_wait (Waited less came) (Read ms) within heard is same = absurd (let g : Read ms ≡ Waited within heard = same in cc)
cut_wait (Waited less came) (Kept puts) within heard is same = absurd (let g : Kept puts ≡ Waited within heard = same in cc)
cut_wait (Waited less came) (Printed text) within heard is same = absurd (let g : Printed text ≡ Waited within heard = same in cc)
cut_wait (Waited less came) (Warned text) within heard is same = absurd (let g : Warned text ≡ Waited within heard = same in cc)
cut_wait (Sent o t a) f within heard is same = (within, is ∙ same)
cut_wait (Read ms) f within heard is same = (within, is ∙ same)
cut_wait (Kept puts) f within heard is same = (within, is ∙ same)
cut_wait (Printed text) f within heard is same = (within, is ∙ same)
cut_wait (Warned text) f within heard is same = (within, is ∙ same)

sent_cut : (es fs : List Event) (octets to : List ℕ) (answer : Sending) → AreCutShort es fs → IsIn (Sent octets to answer) fs → IsIn (Sent octets to answer) es
sent_cut [] [] octets to answer cut is = is
sent_cut (e ∷ es) (f ∷ fs) octets to answer cut (inl same) = inl (cut_send e f octets to answer cut.0 same)
sent_cut (e ∷ es) (f ∷ fs) octets to answer cut (inr is) = inr (sent_cut es fs octets to answer cut.1 is)
sent_cut [] (f ∷ fs) octets to answer cut is = absurd cut
sent_cut (e ∷ es) [] octets to answer cut is = absurd cut

came_cut : (es fs : List Event) (within : ℕ) (heard : Receiving) → AreCutShort es fs → IsIn (Waited within heard) fs
    → (less : ℕ) × IsIn (Waited less heard) es
came_cut [] [] within heard cut is = absurd is
came_cut (e ∷ es) (f ∷ fs) within heard cut (inl same) = let it = cut_wait e f within heard cut.0 same in (it.0, inl it.1)
came_cut (e ∷ es) (f ∷ fs) within heard cut (inr is) = let it = came_cut es fs within heard cut.1 is in (it.0, inr it.1)
came_cut [] (f ∷ fs) within heard cut is = absurd cut
came_cut (e ∷ es) [] within heard cut is = absurd cut

module _ (K : ℕ → ℕ → ℕ → Type 0) (V : ℕ → Value → Type 0) where
  came_out : (es fs : List Event) → AreCutShort (traffic_of es) (traffic_of fs) → Later K V (CameIn K V fs) (CameIn K V es)
  came_out es fs cut device instance held (address, known, from, peer, datagram, (within, heard, there, at, same), rest) =
      let w = came_cut (traffic_of es) (traffic_of fs) within (Ok heard) cut (in_traffic fs (Waited within (Ok heard)) refl (to_in fs (Waited within (Ok heard)) there)) in (
        address,
        known,
        from,
        peer,
        datagram,
        (w.0, heard, from_in es (Waited w.0 (Ok heard)) (out_traffic es (Waited w.0 (Ok heard)) w.1), at, same),
        rest,
      )

  -- ---- batches

  pub batches_fit : (old new : Batched SiteState) (es : List Event) → HoldsNothing old → IsUnasked old.machine → All (λ seat. Fits K V [] [] seat.poller) old.machine.waiting
      → Chain SiteBatchSteps old es new → Sound K V (CameIn K V es) [] (map put_as (puts_of es))
  batches_fit old new es nothing unasked fits chain =
      let (inner, last, inside) = loses_nothing GivesSite SiteHears SiteReads old new es nothing chain in
      let all : Sound K V (CameIn K V inner) [] (map put_as (puts_of inner)) = site_fits K V old.machine last inner unasked fits inside.run in
      let both : Sound K V (CameIn K V inner) [] (map put_as (puts_of es) ++ map put_as new.puts) =
      subst (Sound K V (CameIn K V inner) []) (ap (λ (l : List Put). map put_as l) inside.rows ∙ mapped K V (puts_of es) new.puts) all in
      sound_later K V (CameIn K V inner) (CameIn K V es) (came_out es inner inside.traffic) [] (map put_as (puts_of es))
      (sound_front K V (CameIn K V inner) [] (map put_as (puts_of es)) (map put_as new.puts) both)
