-- Which statement was sent where, and what was answered to it in both worlds.
use Rattle.std.specs.Prelude.{◌≡◌, Bool, true, false, Option, Some, None}
use Rattle.std.proofs.Common.{refl, sym, ap, ◌∙◌, subst}
use Rattle.private_model.specs.Names.{LinkId, MessageName}
use Rattle.private_model.proofs.Maps.{at_each, link_ids, messages, no_other, put-other, put-same}
use Rattle.private_model.proofs.Stands.{AreAnswered, message_on, ran_on}
use Rattle.private_model.specs.Commands.{Reply}
use Rattle.private_model.specs.Story.{Capture, End, Own, Prep, Statement, Sync, is_link_id, is_message, put}
use Rattle.private_model.specs.View.{Asked, Link, Quiet, Stage}
use Rattle.private_model.specs.Worlds.{Peer}
use Rattle.server_rule.specs.Servers.{fresh}

module _ (links : LinkId → Link) (peers : LinkId → Peer) (carriers : MessageName → Option LinkId) (replies answers : MessageName → Option Reply) (are : AreAnswered links peers carriers replies answers) (number : LinkId) where
  -- a message on another link is another message
  other_message : (key : MessageName) → carriers key ≡ Some number → (j : LinkId) → is_link_id j number ≡ false → (m : MessageName) → carriers m ≡ Some j → is_message m key ≡ false
  other_message key here j other m there = go (is_message m key) refl
    where
      go : (b : Bool) → is_message m key ≡ b → is_message m key ≡ false
      go true e = absurd (no_other (carriers key) number here j other (subst (λ x. carriers x ≡ Some j) (messages.of m key e) there))
      go false e = e

  -- and a message that wasn't sent is on none
  unsent_message : (key : MessageName) → carriers key ≡ None → (j : LinkId) (m : MessageName) → carriers m ≡ Some j → is_message m key ≡ false
  unsent_message key here j m there = go (is_message m key) refl
    where
      go : (b : Bool) → is_message m key ≡ b → is_message m key ≡ false
      go true e = let same : carriers key ≡ Some j = subst (λ x. carriers x ≡ Some j) (messages.of m key e) there in absurd (cc)
      go false e = e

  -- what is so of each message on the other links, and of the one on this link now, is so on all
  on_each : (of : Stage → Option MessageName) (link : Link) (P : LinkId → MessageName → Type 0) → ((m : MessageName) → of link.stage ≡ Some m → P number m) → ((j : LinkId) → is_link_id j number ≡ false → (m : MessageName) → of (links j).stage ≡ Some m → P j m)
      → (j : LinkId) (m : MessageName) → of (put is_link_id links number link j).stage ≡ Some m → P j m
  on_each of link P here others = at_each link_ids (λ j. (m : MessageName) → of (put is_link_id links number link j).stage ≡ Some m → P j m) number
      (λ m e. here m (ap (λ l. of l.stage) (sym (put-same link_ids links number link)) ∙ e))
      (λ j f m e. others j f m (ap (λ l. of l.stage) (sym (put-other link_ids links number link j f)) ∙ e))

  carried_on : (link : Link) → ((m : MessageName) → message_on link.stage ≡ Some m → message_on (links number).stage ≡ Some m)
      → (j : LinkId) (m : MessageName) → message_on (put is_link_id links number link j).stage ≡ Some m → carriers m ≡ Some j
  carried_on link on = on_each message_on link (λ j m. carriers m ≡ Some j) (λ m e. are.carried number m (on m e)) (λ j f m e. are.carried j m e)

  unread_on : (link : Link) → ((m : MessageName) → message_on link.stage ≡ Some m → message_on (links number).stage ≡ Some m)
      → (j : LinkId) (m : MessageName) → message_on (put is_link_id links number link j).stage ≡ Some m → replies m ≡ None
  unread_on link on = on_each message_on link (λ j m. replies m ≡ None) (λ m e. are.unread number m (on m e)) (λ j f m e. are.unread j m e)

  -- a link whose stage says no more than before, and peers whose answers are the same where they ran
  are_moved : (link : Link) (after : LinkId → Peer) → ((m : MessageName) → message_on link.stage ≡ Some m → message_on (links number).stage ≡ Some m)
      → ((m : MessageName) → ran_on link.stage ≡ Some m → (ran_on (links number).stage ≡ Some m) × ((peers number).answer ≡ (after number).answer))
      → ((j : LinkId) → is_link_id j number ≡ false → (peers j).answer ≡ (after j).answer)
      → AreAnswered (put is_link_id links number link) after carriers replies answers
  are_moved link after on ran others = record {
    carried = carried_on link on;
    unread = unread_on link on;
    unsent = are.unsent;
    answered = on_each ran_on link (λ j m. answers m ≡ Some (after j).answer) (λ m e. let was = ran m e in are.answered number m was.0 ∙ ap Some was.1) (λ j f m e. are.answered j m e ∙ ap Some (others j f));
    replied = are.replied;
  }

  -- with its peer
  pub are_still : (link : Link) (peer : Peer) → ((m : MessageName) → message_on link.stage ≡ Some m → message_on (links number).stage ≡ Some m)
      → ((m : MessageName) → ran_on link.stage ≡ Some m → (ran_on (links number).stage ≡ Some m) × ((peers number).answer ≡ peer.answer))
      → AreAnswered (put is_link_id links number link) (put is_link_id peers number peer) carriers replies answers
  are_still link peer on ran = are_moved link (put is_link_id peers number peer) on
      (λ m e. let was = ran m e in (was.0, was.1 ∙ ap (λ x. x.answer) (sym (put-same link_ids peers number peer))))
      (λ j f. ap (λ x. x.answer) (sym (put-other link_ids peers number peer j f)))

  -- and alone
  pub are_linked : (link : Link) → ((m : MessageName) → message_on link.stage ≡ Some m → message_on (links number).stage ≡ Some m) → ((m : MessageName) → ran_on link.stage ≡ Some m → ran_on (links number).stage ≡ Some m)
      → AreAnswered (put is_link_id links number link) peers carriers replies answers
  are_linked link on ran = are_moved link peers on (λ m e. (ran m e, refl)) (λ j f. refl)

  -- a statement goes out
  pub are_sent : (link : Link) (key : MessageName) → message_on link.stage ≡ Some key → ran_on link.stage ≡ None → carriers key ≡ None
      → AreAnswered (put is_link_id links number link) peers (put is_message carriers key (Some number)) replies answers
  are_sent link key on not_ran fresh = record {
    carried = on_each message_on link (λ j m. put is_message carriers key (Some number) m ≡ Some j)
        (λ m e. let is : key ≡ m = cc in subst (λ x. put is_message carriers key (Some number) x ≡ Some number) is (put-same messages carriers key (Some number)))
        (λ j f m e. let was = are.carried j m e in put-other messages carriers key (Some number) m (unsent_message key fresh j m was) ∙ was);
    unread = on_each message_on link (λ j m. replies m ≡ None) (λ m e. let is : key ≡ m = cc in subst (λ x. replies x ≡ None) is (are.unsent key fresh)) (λ j f m e. are.unread j m e);
    unsent = at_each messages (λ m. put is_message carriers key (Some number) m ≡ None → replies m ≡ None) key
        (λ e. are.unsent key fresh)
        (λ m f e. are.unsent m (sym (put-other messages carriers key (Some number) m f) ∙ e));
    answered = on_each ran_on link (λ j m. answers m ≡ Some (peers j).answer) (λ m e. cc) (λ j f m e. are.answered j m e);
    replied = are.replied;
  }

  -- it runs, in both worlds alike
  pub are_ran : (link : Link) (peer : Peer) (key : MessageName) (reply : Reply) → message_on (links number).stage ≡ Some key → message_on link.stage ≡ Some key → reply ≡ peer.answer
      → ((m : MessageName) → ran_on link.stage ≡ Some m → m ≡ key)
      → AreAnswered (put is_link_id links number link) (put is_link_id peers number peer) carriers replies (put is_message answers key (Some reply))
  are_ran link peer key reply was on same ran = record {
    carried = carried_on link to_key;
    unread = unread_on link to_key;
    unsent = are.unsent;
    answered = on_each ran_on link (λ j m. put is_message answers key (Some reply) m ≡ Some (put is_link_id peers number peer j).answer)
        (λ m e. subst (λ x. put is_message answers key (Some reply) x ≡ Some (put is_link_id peers number peer number).answer) (sym (ran m e))
        (put-same messages answers key (Some reply) ∙ ap Some same ∙ ap (λ x. Some x.answer) (sym (put-same link_ids peers number peer))))
        (λ j f m e. put-other messages answers key (Some reply) m (other_message key (are.carried number key was) j f m (are.carried j m (is_on (links j).stage m e)))
        ∙ are.answered j m e ∙ ap (λ x. Some x.answer) (sym (put-other link_ids peers number peer j f)));
    replied = at_each messages (λ m. (r : Reply) → replies m ≡ Some r → put is_message answers key (Some reply) m ≡ Some r) key
        (λ r e. let none : replies key ≡ None = are.unread number key was in cc)
        (λ m f r e. put-other messages answers key (Some reply) m f ∙ are.replied m r e);
  }
    where
      is_on : (stage : Stage) (m : MessageName) → ran_on stage ≡ Some m → message_on stage ≡ Some m
      is_on (Asked (Statement n due)) m e = cc
      is_on (Asked (Prep n key text)) m e = e
      is_on (Asked (Sync n c)) m e = e
      is_on (Asked (Own c)) m e = e
      is_on (Asked (End n)) m e = e
      is_on (Asked (Capture n)) m e = e
      is_on Quiet m e = e
      is_on _ m e = e

      to_key : (m : MessageName) → message_on link.stage ≡ Some m → message_on (links number).stage ≡ Some m
      to_key m e = was ∙ sym on ∙ e

  -- its reply is read
  pub are_heard : (link : Link) (key : MessageName) → ran_on (links number).stage ≡ Some key → message_on (links number).stage ≡ Some key → message_on link.stage ≡ None → ran_on link.stage ≡ None
      → AreAnswered (put is_link_id links number link) peers carriers (put is_message replies key (Some (peers number).answer)) answers
  are_heard link key ran on off not_ran = record {
    carried = on_each message_on link (λ j m. carriers m ≡ Some j) (λ m e. cc) (λ j f m e. are.carried j m e);
    unread = on_each message_on link (λ j m. put is_message replies key (Some (peers number).answer) m ≡ None) (λ m e. cc)
        (λ j f m e. put-other messages replies key (Some (peers number).answer) m (other_message key (are.carried number key on) j f m (are.carried j m e)) ∙ are.unread j m e);
    unsent = at_each messages (λ m. carriers m ≡ None → put is_message replies key (Some (peers number).answer) m ≡ None) key
        (λ e. let sent : carriers key ≡ Some number = are.carried number key on in cc)
        (λ m f e. put-other messages replies key (Some (peers number).answer) m f ∙ are.unsent m e);
    answered = on_each ran_on link (λ j m. answers m ≡ Some (peers j).answer) (λ m e. cc) (λ j f m e. are.answered j m e);
    replied = at_each messages (λ m. (r : Reply) → put is_message replies key (Some (peers number).answer) m ≡ Some r → answers m ≡ Some r) key
        (λ r e. are.answered number key ran ∙ sym (put-same messages replies key (Some (peers number).answer)) ∙ e)
        (λ m f r e. are.replied m r (sym (put-other messages replies key (Some (peers number).answer) m f) ∙ e));
  }
