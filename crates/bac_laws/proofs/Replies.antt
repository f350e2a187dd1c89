-- The records of a reply stand in its datagram.
use Rattle.std.proofs.Common.{◌≡◌, ℕ, ◌==◌, ◌&&◌, Bool, true, false, if◌then◌else◌, Option, None, Some, List, [], ◌∷◌, length, refl}
use Rattle.std.specs.List.{Contains}
use Rattle.std.proofs.lemmas.List.Elements.{Contains-append_left, Contains-append_right, Contains-push}
use Rattle.bac_link.specs.Heard.{AckParameters, heard_in}
use Rattle.bac_link.specs.Ordinals.{number_after}
use Rattle.bac_link.specs.declared.item.Item.TheVariants.{Logged}
use Rattle.bac_log.specs.declared.entry.Entry.{Entry}
use Rattle.bac_walk.specs.Walks.{Ask, Bring, End, NextAct, Refuse, asks_oldest_now, fits, is_past, shown_from, verdict, with_numbers}
use Rattle.bac_walk.specs.declared.batch.Numbered.{Numbered}
use Rattle.bac_poll.specs.Poll.{ack_in, are_asked, has_last, has_more, reply_from, reply_in, reply_of}
use Rattle.bac_poll.specs.State.{PollState}
use Rattle.bac_poll.specs.Turns.{first_number}
use Rattle.bac_laws.specs.Printed.{HasRecord}
use Rattle.bac_laws.proofs.Shown.{Each, Shows}

module _ (Q : Numbered → Type 0) where
  each_shown : (n : ℕ) (es : List Entry) → ((number : ℕ) (entry : Entry) → Contains (shown_from n es) (Logged number entry) → Q (record { number = number; entry = entry }))
      → Each Q (with_numbers n es)
  each_shown n [] all = tt
  each_shown n (e ∷ es) all = (
    all n e (Contains-append_left (Logged n e ∷ []) (shown_from (number_after n 1) es) (Logged n e) (Contains-push [] (Logged n e))),
    each_shown (number_after n 1) es
        (λ number entry has. all number entry (Contains-append_right (Logged n e ∷ []) (shown_from (number_after n 1) es) (Logged number entry) has)),
  )

  asked_shows : (b : Bool) (records : List Numbered) (last more : Bool) → Each Q records
      → Shows Q (if b then Some (record { records = records; last = last; more = more }) else None)
  asked_shows true records last more all = all
  asked_shows false records last more all = tt

  act_split : (T : NextAct → Type 0) (b : Bool) (x y : NextAct) → T x → T y → T (if b then x else y)
  act_split T true x y f g = f
  act_split T false x y f g = g

  first_shows : (p : PollState) (first : Option ℕ) (count : ℕ) (es : List Entry) (last more : Bool)
      → ((n : ℕ) → first ≡ Some n → Each Q (with_numbers n es)) → Shows Q (reply_of p (verdict p.walk first count es) es last more)
  first_shows p first count [] last more all =
      act_split (λ act. Shows Q (reply_of p act [] last more)) (asks_oldest_now p.walk) End Ask tt tt
  first_shows p None count (e ∷ es) last more all = tt
  first_shows p (Some first) count (e ∷ es) last more all =
      act_split (λ act. Shows Q (reply_of p act (e ∷ es) last more)) (is_past p.walk first) End
      (if (count == length (e ∷ es)) && fits p.walk first (length (e ∷ es)) then Bring first else Refuse) tt
      (act_split (λ act. Shows Q (reply_of p act (e ∷ es) last more))
      ((count == length (e ∷ es)) && fits p.walk first (length (e ∷ es))) (Bring first) Refuse
      (asked_shows (are_asked p p.stage (first_number (with_numbers first (e ∷ es))) (length (with_numbers first (e ∷ es)))) (with_numbers first (e ∷ es)) last more (all first refl))
      tt)

  pub reply_shows : (p : PollState) (datagram : List ℕ)
      → ((number : ℕ) (entry : Entry) → HasRecord p.walk.log datagram number entry → Q (record { number = number; entry = entry }))
      → Shows Q (reply_in p datagram)
  reply_shows p datagram all = by (heard_in p.walk.log datagram) refl
    where
      by : (heard : Option AckParameters) → heard_in p.walk.log datagram ≡ heard → Shows Q (reply_from p heard (has_last (ack_in datagram)) (has_more (ack_in datagram)))
      by None is = tt
      by (Some said) is =
          first_shows p said.first said.count said.entries (has_last (ack_in datagram)) (has_more (ack_in datagram))
          (λ n at. each_shown n said.entries (λ number entry has. all number entry (said, is, n, at, has)))
