-- What happens at the router: a question goes out, a reply is read, a link is given back.
use Rattle.std.specs.Prelude.{if◌then◌else◌, ◌||◌, List, ◌≡◌, ◌⊎◌, ℕ, Bool, true, false, Option, Some, None}
use Rattle.std.proofs.Common.{refl, sym, ap, ◌∙◌, subst, inl, inr}
use Rattle.private_model.specs.Names.{LinkId, SessionName}
use Rattle.private_model.proofs.Maps.{IsElsewhere, at_each, frame, link_ids, names, no_home, no_other, put-other, put-same, still_resting}
use Rattle.private_model.proofs.Sessions.{harmless_shallow, suits_plain}
use Rattle.private_model.proofs.Stands.{IfAlive, IsAskedFree, IsAskedJoined, IsAskedLent, IsAt, IsAtBy, IsFree, IsFreeLink, IsJoined, IsJoinedLink, IsLentLink, IsPlain, IsPreparing, IsResting, Stands, soon_pin, heard, quieted, soon_id, soon_told, heard_now}
use Rattle.private_model.specs.Commands.{Account, Command, Reply, is_err}
use Rattle.private_model.specs.Honest.{IsAnswer}
use Rattle.private_model.specs.Lawful.{BeginsThere, GoesOnThere, IsOwn, MayFree, MayLend, MaySend, PreparesFirst, PreparesThere}
use Rattle.private_model.specs.Story.{Capture, Due, End, Freed, Heard, Own, Prep, Question, Sent, Statement, Sync, is_link_id, is_name, put}
use Rattle.private_model.specs.View.{Answered, Asked, Carried, Held, Joined, Lent, Link, Nobody, Quiet, Setup, View, asked, carried_for, freed, held_by, held_for, held_freed, held_heard, view_step, view_heard}
use Rattle.private_model.specs.Worlds.{Private, Real}
use Rattle.server_rule.specs.Servers.{Tests}
use Rattle.server_rule.specs.declared.session.Session.{Session}
use Rattle.session_state.specs.Pins.{needs_reset}
use Rattle.session_state.specs.declared.pin.Pin.{Pin}
use Rattle.session_state.specs.declared.place.Told.{Told}

-- a table of names in which one entry of what is held changes
held_elsewhere : (key : SessionName) (held : SessionName → Held) (sessions : SessionName → Session) (h : Held) → IsElsewhere key held sessions (put is_name held key h) sessions
held_elsewhere key held sessions h = record { keeps_held = λ n e. put-other names held key h n e; keeps_session = λ n e. refl }

module _ (setup : Setup) (tests : Tests) (view : View) (real : Real) (private : Private) (stands : Stands setup tests view real private) (number : LinkId) where
  -- one link changes, and what is held of one name
  pub moved : (to : View) (link : Link) (held : SessionName → Held)
      → IsAt setup tests number link (real.peers number) held private.sessions
      → ((j : LinkId) → is_link_id j number ≡ false → IsAt setup tests j (view.links j) (real.peers j) held private.sessions)
      → ((n : SessionName) → (held n).home ≡ None → IsResting (held n) (private.sessions n))
      → Stands setup tests (record to { links = put is_link_id view.links number link; held = held }) real private
  moved to link held here others resting = record {
    accepted = stands.accepted;
    stored = stands.stored;
    owners = stands.owners;
    resting = resting;
    links = at_each link_ids (λ j. IsAt setup tests j (put is_link_id view.links number link j) (real.peers j) held private.sessions) number
        (subst (λ l. IsAt setup tests number l (real.peers number) held private.sessions) (sym (put-same link_ids view.links number link)) here)
        (λ j e. subst (λ l. IsAt setup tests j l (real.peers j) held private.sessions) (sym (put-other link_ids view.links number link j e)) (others j e));
  }

  -- A question goes out.

  at_joined : (n : SessionName) → (view.links number).carries ≡ Joined n → IsJoinedLink setup tests number n (view.links number) (real.peers number) (view.held n) (private.sessions n)
  at_joined n carries = subst (λ c. IsAtBy setup tests c number (view.links number) (real.peers number) view.held private.sessions) carries (stands.links number)

  at_nobody : (view.links number).carries ≡ Nobody → IsFreeLink setup (view.links number) (real.peers number)
  at_nobody free = subst (λ c. IsAtBy setup tests c number (view.links number) (real.peers number) view.held private.sessions) free (stands.links number)

  quiet_free : (view.links number).carries ≡ Nobody → (view.links number).stage ≡ Quiet
      → IfAlive (real.peers number).alive (IsFree (view.links number).account (view.links number).told (view.links number).id (real.peers number).session) (Unit {0})
  quiet_free free quiet =
      let l = view.links number in
      let a = (real.peers number).answer in
      subst (λ st. IfAlive (real.peers number).alive (IsFree l.account (soon_told setup.reads st a l.told) (soon_id setup.reads st a l.id) (real.peers number).session) (Unit {0})) quiet (at_nobody free).session

  quiet_joined : (n : SessionName) → (view.links number).carries ≡ Joined n → (view.links number).stage ≡ Quiet
      → IsJoined tests (real.peers number).alive (view.links number).account (view.links number).marked (view.links number).told (view.links number).id (view.held n).pin (view.held n).id (real.peers number).session (private.sessions n)
  quiet_joined n carries quiet =
      let l = view.links number in
      let a = (real.peers number).answer in
      subst (λ st. IsJoined tests (real.peers number).alive l.account l.marked (soon_told setup.reads st a l.told) (soon_id setup.reads st a l.id) (soon_pin setup.reads st a (view.held n).pin) (soon_id setup.reads st a (view.held n).id) (real.peers number).session (private.sessions n))
      quiet (at_joined n carries).joined

  at_lent : (n : SessionName) → (view.links number).carries ≡ Lent n → IsLentLink setup number n (view.links number) (real.peers number) (view.held n) (private.sessions n)
  at_lent n carries = subst (λ c. IsAtBy setup tests c number (view.links number) (real.peers number) view.held private.sessions) carries (stands.links number)

  quiet_lent : (n : SessionName) → (view.links number).carries ≡ Lent n → (view.links number).stage ≡ Quiet
      → IfAlive (real.peers number).alive (IsFree (view.links number).account (view.links number).told (view.links number).id (real.peers number).session) (Unit {0})
  quiet_lent n carries quiet =
      let l = view.links number in
      let a = (real.peers number).answer in
      subst (λ st. IfAlive (real.peers number).alive (IsFree l.account (soon_told setup.reads st a l.told) (soon_id setup.reads st a l.id) (real.peers number).session) (Unit {0})) quiet (at_lent n carries).session

  -- what a link has for the session to which it is lent, or is to be
  abbrev ToLend : SessionName → Question → Type 0
  ToLend n question = IsLentLink setup number n (asked question (view.links number)) (real.peers number) (record (view.held n) { home = Some number }) (private.sessions n)

  to_lend : (n : SessionName) (question : Question) → MayLend n (view.links number) (view.held n) → (view.links number).stage ≡ Quiet
      → IsAskedLent setup n (Asked question) (view.links number).account (view.links number).told (view.links number).id (view.links number).live (record (view.held n) { home = Some number }) → ToLend n question
  to_lend n question lends quiet fits = elim lends [
    | inl vacant ↦ let rest = stands.resting n vacant.homeless in record { home = refl; unmarked = (at_nobody vacant.free).unmarked; asked = fits; session = quiet_free vacant.free quiet; plain = rest.plain; id = rest.id }
    | inr lent ↦ let is = at_lent n lent in record { home = refl; unmarked = is.unmarked; asked = fits; session = quiet_lent n lent quiet; plain = is.plain; id = is.id }
  ]

  sent_lent : (n : SessionName) (question : Question) → MayLend n (view.links number) (view.held n) → (view.links number).stage ≡ Quiet → carried_for question Nobody ≡ Lent n → carried_for question (Lent n) ≡ Lent n
      → IsAskedLent setup n (Asked question) (view.links number).account (view.links number).told (view.links number).id (view.links number).live (record (view.held n) { home = Some number })
      → IsAt setup tests number (asked question (view.links number)) (real.peers number) (put is_name view.held n (record (view.held n) { home = Some number })) private.sessions
  sent_lent n question lends quiet first again fits =
      let l = asked question (view.links number) in
      let h : Held = record (view.held n) { home = Some number } in
      let carries : l.carries ≡ Lent n = elim lends [ inl vacant ↦ ap (carried_for question) vacant.free ∙ first | inr lent ↦ ap (carried_for question) lent ∙ again ] in
      subst (λ c. IsAtBy setup tests c number l (real.peers number) (put is_name view.held n h) private.sessions) (sym carries)
      (subst (λ x. IsLentLink setup number n l (real.peers number) x (private.sessions n)) (sym (put-same names view.held n h)) (to_lend n question lends quiet fits))

  sent_joined : (n : SessionName) (question : Question) (held : SessionName → Held) → (view.links number).carries ≡ Joined n → (view.links number).stage ≡ Quiet → carried_for question (Joined n) ≡ Joined n
      → held n ≡ view.held n → IsAskedJoined setup n (Asked question) (view.links number).marked (view.links number).told (view.links number).id (view.links number).live (view.held n)
      → IsAt setup tests number (asked question (view.links number)) (real.peers number) held private.sessions
  sent_joined n question held carries quiet stays same fits =
      let l = asked question (view.links number) in
      let joined : IsJoinedLink setup tests number n l (real.peers number) (view.held n) (private.sessions n) =
      record { home = (at_joined n carries).home; asked = fits; joined = quiet_joined n carries quiet } in
      subst (λ c. IsAtBy setup tests c number l (real.peers number) held private.sessions) (sym (ap (carried_for question) carries ∙ stays))
      (subst (λ h. IsJoinedLink setup tests number n l (real.peers number) h (private.sessions n)) (sym same) joined)

  sent_own : (command : Command) → IsOwn setup command (view.links number) → (view.links number).stage ≡ Quiet
      → IsAt setup tests number (asked (Own command) (view.links number)) (real.peers number) view.held private.sessions
  sent_own command own quiet = elim own.free [
    | inl free ↦
        let l = asked (Own command) (view.links number) in
        let there : IsFreeLink setup l (real.peers number) = record { asked = own.fits; unmarked = (at_nobody free).unmarked; session = quiet_free free quiet } in
        subst (λ c. IsAtBy setup tests c number l (real.peers number) view.held private.sessions) (sym free) there
    | inr lent ↦
        let l = asked (Own command) (view.links number) in
        let is = at_lent lent.0 lent.1 in
        let there : IsLentLink setup number lent.0 l (real.peers number) (view.held lent.0) (private.sessions lent.0) =
        record { home = is.home; unmarked = is.unmarked; asked = own.fits; session = quiet_lent lent.0 lent.1 quiet; plain = is.plain; id = is.id } in
        subst (λ c. IsAtBy setup tests c number l (real.peers number) view.held private.sessions) (sym lent.1) there
  ]

  kept_home : (n : SessionName) → (view.links number).carries ≡ Joined n → put is_name view.held n (record (view.held n) { home = Some number }) n ≡ view.held n
  kept_home n carries = put-same names view.held n _ ∙ ap (λ h. record (view.held n) { home = h }) (sym (at_joined n carries).home)

  -- what a link without this name holds
  others_but : (key : SessionName) (h : Held) → ((j : LinkId) → is_link_id j number ≡ false → (view.held key).home ≡ Some j → ⊥)
      → (j : LinkId) → is_link_id j number ≡ false → IsAt setup tests j (view.links j) (real.peers j) (put is_name view.held key h) private.sessions
  others_but key h not_key j other = frame setup tests key view.held private.sessions (put is_name view.held key h) private.sessions (held_elsewhere key view.held private.sessions h) j (view.links j) (real.peers j) (not_key j other) (stands.links j)

  resting_but : (key : SessionName) (h : Held) → (h.home ≡ None → IsResting h (private.sessions key)) → (n : SessionName) → (put is_name view.held key h n).home ≡ None → IsResting (put is_name view.held key h n) (private.sessions n)
  resting_but key h here = still_resting setup tests key view.held private.sessions (put is_name view.held key h) private.sessions (held_elsewhere key view.held private.sessions h) stands.resting
      (subst (λ x. x.home ≡ None → IsResting x (private.sessions key)) (sym (put-same names view.held key h)) here)

  -- one for which its session gets a home
  sent_named : (to : View) (n : SessionName) (question : Question) → IsAt setup tests number (asked question (view.links number)) (real.peers number) (put is_name view.held n (record (view.held n) { home = Some number })) private.sessions
      → ((j : LinkId) → is_link_id j number ≡ false → (view.held n).home ≡ Some j → ⊥)
      → Stands setup tests (record to { links = put is_link_id view.links number (asked question (view.links number)); held = put is_name view.held n (record (view.held n) { home = Some number }) }) real private
  sent_named to n question here not_key =
      let h : Held = record (view.held n) { home = Some number } in
      moved to (asked question (view.links number)) (put is_name view.held n h) here (others_but n h not_key) (resting_but n h (λ e. cc))

  lent_key : (n : SessionName) → MayLend n (view.links number) (view.held n) → (j : LinkId) → is_link_id j number ≡ false → (view.held n).home ≡ Some j → ⊥
  lent_key n lends = elim lends [
    | inl vacant ↦ λ j other. no_home (view.held n).home vacant.homeless j
    | inr lent ↦ no_other (view.held n).home number (at_lent n lent).home
  ]

  sent_statement : (n : SessionName) (due : Due) → BeginsThere setup n due (view.links number) (view.held n) ⊎ GoesOnThere setup n due (view.links number) (view.held n) → (view.links number).stage ≡ Quiet → Stands setup tests (view_step setup view (Sent number (Statement n due))) real private
  sent_statement n due how quiet = elim how [
    | inl there ↦ sent_named (view_step setup view (Sent number (Statement n due))) n (Statement n due) (sent_lent n (Statement n due) there.lends quiet refl refl (record { same = refl; begins = there.begins })) (lent_key n there.lends)
    | inr there ↦ sent_named (view_step setup view (Sent number (Statement n due))) n (Statement n due)
        (sent_joined n (Statement n due) (held_for (Statement n due) number view.held) there.carries quiet refl (kept_home n there.carries) (record { same = refl; goes_on = there.goes_on }))
        (no_other (view.held n).home number (at_joined n there.carries).home)
  ]

  sent_prep : (n : SessionName) (key : ℕ) (text : List ℕ) → PreparesFirst setup n key text (view.links number) (view.held n) ⊎ PreparesThere setup n key text (view.links number) (view.held n) → (view.links number).stage ≡ Quiet → Stands setup tests (view_step setup view (Sent number (Prep n key text))) real private
  sent_prep n key text how quiet = elim how [
    | inl first ↦ sent_named (view_step setup view (Sent number (Prep n key text))) n (Prep n key text) (sent_lent n (Prep n key text) first.lends quiet refl refl (record { told_key = first.told; same = refl; unpinned = first.unpinned })) (lent_key n first.lends)
    | inr there ↦ sent_named (view_step setup view (Sent number (Prep n key text))) n (Prep n key text)
        (sent_joined n (Prep n key text) (held_for (Prep n key text) number view.held) there.carries quiet refl (kept_home n there.carries) (record { same = refl; pinned = there.pinned; fits = there.told }))
        (no_other (view.held n).home number (at_joined n there.carries).home)
  ]

  -- one that leaves what is held
  sent_other : (to : View) (question : Question) → IsAt setup tests number (asked question (view.links number)) (real.peers number) view.held private.sessions
      → Stands setup tests (record to { links = put is_link_id view.links number (asked question (view.links number)); held = view.held }) real private
  sent_other to question here = moved to (asked question (view.links number)) view.held here (λ j other. stands.links j) stands.resting

  pub sent : (question : Question) → MaySend setup view (view.links number) question → Stands setup tests (view_step setup view (Sent number question)) real private
  sent (Statement n due) may = sent_statement n due may.fits.how may.quiet
  sent (Prep n key text) may = sent_prep n key text may.fits may.quiet
  sent (Sync n command) may = sent_other (view_step setup view (Sent number (Sync n command))) (Sync n command) (sent_joined n (Sync n command) view.held may.fits.carries may.quiet refl refl (record { same = refl; pinned = may.fits.pinned; fits = may.fits.fits }))
  sent (Own command) may = sent_other (view_step setup view (Sent number (Own command))) (Own command) (sent_own command may.fits may.quiet)
  sent (End n) may = sent_other (view_step setup view (Sent number (End n))) (End n) (sent_joined n (End n) view.held may.fits.carries may.quiet refl refl refl)
  sent (Capture n) may = sent_other (view_step setup view (Sent number (Capture n))) (Capture n) (sent_joined n (Capture n) view.held may.fits.carries may.quiet refl refl (record { same = refl; unpinned = may.fits.unpinned; unknown = may.fits.unknown }))

  -- A reply is read: what is known now is what was foreseen.

  heard_own : (question : Question) → (view.links number).stage ≡ Answered question → (view.links number).carries ≡ Nobody → IsAskedFree setup.reads (Answered question)
      → IsAt setup tests number (heard setup.reads (real.peers number).answer (view.links number)) (real.peers number) view.held private.sessions
  heard_own question ran free own =
      let l = view.links number in
      let a = (real.peers number).answer in
      let l' = heard setup.reads a l in
      let facts = (at_nobody free).session in
      let next : IfAlive (real.peers number).alive (IsFree l.account (soon_told setup.reads (quieted l.stage) a (soon_told setup.reads l.stage a l.told)) (soon_id setup.reads (quieted l.stage) a (soon_id setup.reads l.stage a l.id)) (real.peers number).session) (Unit {0}) =
      subst (λ st. IfAlive (real.peers number).alive (IsFree l.account (soon_told setup.reads (quieted st) a (soon_told setup.reads st a l.told)) (soon_id setup.reads (quieted st) a (soon_id setup.reads st a l.id)) (real.peers number).session) (Unit {0})) (sym ran)
      (subst (λ st. IfAlive (real.peers number).alive (IsFree l.account (soon_told setup.reads st a l.told) (soon_id setup.reads st a l.id) (real.peers number).session) (Unit {0})) ran facts) in
      let free_link : IsFreeLink setup l' (real.peers number) = record { asked = subst (λ st. IsAskedFree setup.reads (quieted st)) (sym ran) tt; unmarked = (at_nobody free).unmarked; session = next } in
      subst (λ c. IsAtBy setup tests c number l' (real.peers number) view.held private.sessions) (sym free) free_link

  heard_joined : (n m : SessionName) (question : Question) → (view.links number).stage ≡ Answered question → (view.links number).carries ≡ Joined n → m ≡ n
      → IsAt setup tests number (heard setup.reads (real.peers number).answer (view.links number)) (real.peers number) (put is_name view.held m (held_heard setup.reads question (real.peers number).answer (view.held m))) private.sessions
  heard_joined n m question ran carries same =
      let l = view.links number in
      let a = (real.peers number).answer in
      let l' = heard setup.reads a l in
      let s = (real.peers number).session in
      let p = private.sessions n in
      let h' : Held = held_heard setup.reads question a (view.held n) in
      let before = subst (λ st. IsJoined tests (real.peers number).alive l.account l.marked (soon_told setup.reads st a l.told) (soon_id setup.reads st a l.id) (soon_pin setup.reads st a (view.held n).pin) (soon_id setup.reads st a (view.held n).id) s p) ran (at_joined n carries).joined in
      let next : IsJoined tests (real.peers number).alive l.account l.marked (soon_told setup.reads (quieted l.stage) a (soon_told setup.reads l.stage a l.told)) (soon_id setup.reads (quieted l.stage) a (soon_id setup.reads l.stage a l.id)) (soon_pin setup.reads (quieted l.stage) a h'.pin) (soon_id setup.reads (quieted l.stage) a h'.id) s p =
      subst (λ st. IsJoined tests (real.peers number).alive l.account l.marked (soon_told setup.reads (quieted st) a (soon_told setup.reads st a l.told)) (soon_id setup.reads (quieted st) a (soon_id setup.reads st a l.id)) (soon_pin setup.reads (quieted st) a h'.pin) (soon_id setup.reads (quieted st) a h'.id) s p) (sym ran) before in
      let joined : IsJoinedLink setup tests number n l' (real.peers number) h' p = record { home = (at_joined n carries).home; asked = subst (λ st. IsAskedJoined setup n (quieted st) l'.marked l'.told l'.id l'.live h') (sym ran) tt; joined = next } in
      subst (λ x. IsAt setup tests number l' (real.peers number) (put is_name view.held x (held_heard setup.reads question a (view.held x))) private.sessions) (sym same)
      (subst (λ c. IsAtBy setup tests c number l' (real.peers number) (put is_name view.held n h') private.sessions) (sym carries)
      (subst (λ h. IsJoinedLink setup tests number n l' (real.peers number) h p) (sym (put-same names view.held n h')) joined))

  heard_name : (to : View) (n m : SessionName) (question : Question) → (view.links number).stage ≡ Answered question → (view.links number).carries ≡ Joined n → m ≡ n
      → Stands setup tests (record to { links = put is_link_id view.links number (heard setup.reads (real.peers number).answer (view.links number)); held = put is_name view.held m (held_heard setup.reads question (real.peers number).answer (view.held m)) }) real private
  heard_name to n m question ran carries same =
      let a = (real.peers number).answer in
      let h : Held = held_heard setup.reads question a (view.held m) in
      let home : (view.held m).home ≡ Some number = subst (λ x. (view.held x).home ≡ Some number) (sym same) (at_joined n carries).home in
      moved to (heard setup.reads a (view.links number)) (put is_name view.held m h) (heard_joined n m question ran carries same)
      (others_but m h (no_other (view.held m).home number home))
      (resting_but m h (λ e. cc))

  heard_lent : (n : SessionName) (question : Question) (held : SessionName → Held) → (view.links number).stage ≡ Answered question → (view.links number).carries ≡ Lent n → held n ≡ view.held n
      → IsAt setup tests number (heard setup.reads (real.peers number).answer (view.links number)) (real.peers number) held private.sessions
  heard_lent n question held ran carries same =
      let l = view.links number in
      let a = (real.peers number).answer in
      let l' = heard setup.reads a l in
      let is = at_lent n carries in
      let next : IfAlive (real.peers number).alive (IsFree l.account (soon_told setup.reads (quieted l.stage) a (soon_told setup.reads l.stage a l.told)) (soon_id setup.reads (quieted l.stage) a (soon_id setup.reads l.stage a l.id)) (real.peers number).session) (Unit {0}) =
      subst (λ st. IfAlive (real.peers number).alive (IsFree l.account (soon_told setup.reads (quieted st) a (soon_told setup.reads st a l.told)) (soon_id setup.reads (quieted st) a (soon_id setup.reads st a l.id)) (real.peers number).session) (Unit {0})) (sym ran)
      (subst (λ st. IfAlive (real.peers number).alive (IsFree l.account (soon_told setup.reads st a l.told) (soon_id setup.reads st a l.id) (real.peers number).session) (Unit {0})) ran is.session) in
      let lent : IsLentLink setup number n l' (real.peers number) (view.held n) (private.sessions n) =
      record { home = is.home; unmarked = is.unmarked; asked = subst (λ st. IsAskedLent setup n (quieted st) l'.account l'.told l'.id l'.live (view.held n)) (sym ran) tt; session = next; plain = is.plain; id = is.id } in
      subst (λ c. IsAtBy setup tests c number l' (real.peers number) held private.sessions) (sym carries)
      (subst (λ h. IsLentLink setup number n l' (real.peers number) h (private.sessions n)) (sym same) lent)

  heard_lent_prep : (to : View) (n m : SessionName) (key : ℕ) (text : List ℕ) → (view.links number).stage ≡ Answered (Prep m key text) → (view.links number).carries ≡ Lent n → IsPreparing setup n m key text (view.links number).told (view.held n)
      → Stands setup tests (record to { links = put is_link_id view.links number (heard setup.reads (real.peers number).answer (view.links number)); held = put is_name view.held m (held_heard setup.reads (Prep m key text) (real.peers number).answer (view.held m)) }) real private
  heard_lent_prep to n m key text ran carries preparing =
      let a = (real.peers number).answer in
      let h : SessionName → Held = λ x. held_heard setup.reads (Prep m key text) a (view.held x) in
      let same : h n ≡ view.held n = ap (λ b. record (view.held n) { pin = if b then record (view.held n).pin { after_err = (view.held n).pin.after_err || is_err a } else (view.held n).pin }) preparing.unpinned in
      subst (λ x. Stands setup tests (record to { links = put is_link_id view.links number (heard setup.reads a (view.links number)); held = put is_name view.held x (h x) }) real private) (sym preparing.same)
      (moved to (heard setup.reads a (view.links number)) (put is_name view.held n (h n)) (heard_lent n (Prep m key text) (put is_name view.held n (h n)) ran carries (put-same names view.held n (h n) ∙ same))
      (others_but n (h n) (no_other (view.held n).home number (at_lent n carries).home))
      (resting_but n (h n) (λ e. let home : (view.held n).home ≡ Some number = (at_lent n carries).home in cc)))

  heard_by_stage : (to : View) (question : Question) → (view.links number).stage ≡ Answered question
      → (carried : Carried) → (view.links number).carries ≡ carried → IsAtBy setup tests carried number (view.links number) (real.peers number) view.held private.sessions
      → Stands setup tests (record to { links = put is_link_id view.links number (heard setup.reads (real.peers number).answer (view.links number)); held = held_by setup.reads question (real.peers number).answer view.held }) real private
  heard_by_stage to (Own command) ran (Lent n) carries at =
      moved to (heard setup.reads (real.peers number).answer (view.links number)) view.held (heard_lent n (Own command) view.held ran carries refl) (λ j other. stands.links j) stands.resting
  heard_by_stage to (Prep m key text) ran (Lent n) carries at = heard_lent_prep to n m key text ran carries (subst (λ st. IsAskedLent setup n st (view.links number).account (view.links number).told (view.links number).id (view.links number).live (view.held n)) ran at.asked)
  heard_by_stage to _ ran (Lent n) carries at = absurd (subst (λ st. IsAskedLent setup n st (view.links number).account (view.links number).told (view.links number).id (view.links number).live (view.held n)) ran at.asked)
  heard_by_stage to (Own command) ran Nobody carries at =
      moved to (heard setup.reads (real.peers number).answer (view.links number)) view.held (heard_own (Own command) ran carries tt) (λ j other. stands.links j) stands.resting
  heard_by_stage to _ ran Nobody carries at = absurd (subst (IsAskedFree setup.reads) ran at.asked)
  heard_by_stage to (Own command) ran (Joined n) carries at = absurd (subst (λ st. IsAskedJoined setup n st (view.links number).marked (view.links number).told (view.links number).id (view.links number).live (view.held n)) ran at.asked)
  heard_by_stage to (Statement m due) ran (Joined n) carries at = heard_name to n m (Statement m due) ran carries (subst (λ st. IsAskedJoined setup n st (view.links number).marked (view.links number).told (view.links number).id (view.links number).live (view.held n)) ran at.asked)
  heard_by_stage to (Prep m key text) ran (Joined n) carries at = heard_name to n m (Prep m key text) ran carries (subst (λ st. IsAskedJoined setup n st (view.links number).marked (view.links number).told (view.links number).id (view.links number).live (view.held n)) ran at.asked)
  heard_by_stage to (Sync m command) ran (Joined n) carries at = heard_name to n m (Sync m command) ran carries (subst (λ st. IsAskedJoined setup n st (view.links number).marked (view.links number).told (view.links number).id (view.links number).live (view.held n)) ran at.asked)
  heard_by_stage to (End m) ran (Joined n) carries at = heard_name to n m (End m) ran carries (subst (λ st. IsAskedJoined setup n st (view.links number).marked (view.links number).told (view.links number).id (view.links number).live (view.held n)) ran at.asked)
  heard_by_stage to (Capture m) ran (Joined n) carries at = heard_name to n m (Capture m) ran carries (subst (λ st. IsAskedJoined setup n st (view.links number).marked (view.links number).told (view.links number).id (view.links number).live (view.held n)) ran at.asked)

  pub heard_so : (reply : Reply) → IsAnswer (view.links number) (real.peers number).answer reply → Stands setup tests (view_step setup view (Heard number reply)) real private
  heard_so reply is =
      let a = (real.peers number).answer in
      subst (λ r. Stands setup tests (view_step setup view (Heard number r)) real private) (sym is.same)
      (subst (λ st. Stands setup tests (view_heard setup view number a st) real private) (sym is.ran)
      (subst (λ l. Stands setup tests (record (view_heard setup view number a (Answered is.question)) { links = put is_link_id view.links number l }) real private) (heard_now setup.reads is.question a (view.links number) is.ran)
      (heard_by_stage (view_heard setup view number a (Answered is.question)) is.question is.ran (view.links number).carries refl (stands.links number))))

  -- A link is given back.

  free_of : (alive : Bool) (user : Account) (marked : Bool) (told : Told) (link_id : Option ℕ) (pin : Pin) (id : Option ℕ) (s p : Session) → needs_reset pin ≡ false → IsJoined tests alive user marked told link_id pin id s p
      → IfAlive alive (IsFree user told link_id s) (Unit {0})
  free_of false user marked told link_id pin id s p harmless joined = tt
  free_of true user marked told link_id pin id s p harmless joined =
      let plain = suits_plain pin p harmless joined.session.suits in
      let rest = joined.session.rest in
      record {
        account = joined.session.account;
        plain = record { tx = sym (ap (λ (x : Session). x.tx) rest) ∙ plain.tx; locks = sym (ap (λ (x : Session). x.locks) rest) ∙ plain.locks; deep = sym (ap (λ (x : Session). x.deep) rest) ∙ plain.deep };
        follows = joined.session.follows (harmless_shallow pin harmless);
        knows = joined.session.knows;
      }

  resting_of : (alive : Bool) (user : Account) (marked : Bool) (told : Told) (link_id : Option ℕ) (pin : Pin) (id : Option ℕ) (s p : Session) → needs_reset pin ≡ false → IsJoined tests alive user marked told link_id pin id s p → IsPlain p
  resting_of false user marked told link_id pin id s p harmless joined = joined.session
  resting_of true user marked told link_id pin id s p harmless joined = suits_plain pin p harmless joined.session.suits

  freed_by : (to : View) (n : SessionName) → (view.links number).carries ≡ Joined n → (view.links number).stage ≡ Quiet → needs_reset (view.held n).pin ≡ false
      → Stands setup tests (record to { links = put is_link_id view.links number (freed (view.links number)); held = held_freed (Joined n) view.held }) real private
  freed_by to n carries quiet harmless =
      let l = view.links number in
      let a = (real.peers number).answer in
      let h : Held = record (view.held n) { home = None } in
      let joined = quiet_joined n carries quiet in
      let facts = free_of (real.peers number).alive l.account l.marked l.told l.id (view.held n).pin (view.held n).id (real.peers number).session (private.sessions n) harmless joined in
      let free : IsFreeLink setup (freed l) (real.peers number) = record {
        asked = subst (IsAskedFree setup.reads) (sym quiet) tt;
        unmarked = refl;
        session = subst (λ st. IfAlive (real.peers number).alive (IsFree l.account (soon_told setup.reads st a l.told) (soon_id setup.reads st a l.id) (real.peers number).session) (Unit {0})) (sym quiet) facts;
      } in
      moved to (freed l) (held_freed (Joined n) view.held) free
      (others_but n h (no_other (view.held n).home number (at_joined n carries).home))
      (resting_but n h (λ e. record { plain = resting_of (real.peers number).alive l.account l.marked l.told l.id (view.held n).pin (view.held n).id (real.peers number).session (private.sessions n) harmless joined; id = joined.knows }))

  freed_lent : (to : View) (n : SessionName) → (view.links number).carries ≡ Lent n → (view.links number).stage ≡ Quiet
      → Stands setup tests (record to { links = put is_link_id view.links number (freed (view.links number)); held = held_freed (Lent n) view.held }) real private
  freed_lent to n carries quiet =
      let l = view.links number in
      let a = (real.peers number).answer in
      let h : Held = record (view.held n) { home = None } in
      let is = at_lent n carries in
      let free : IsFreeLink setup (freed l) (real.peers number) = record { asked = subst (IsAskedFree setup.reads) (sym quiet) tt; unmarked = refl; session = is.session } in
      moved to (freed l) (held_freed (Lent n) view.held) free (others_but n h (no_other (view.held n).home number is.home)) (resting_but n h (λ e. record { plain = is.plain; id = is.id }))

  pub freed_so : MayFree view (view.links number) → Stands setup tests (view_step setup view (Freed number)) real private
  freed_so may = elim may.carries [
    | inl joined ↦ subst (λ c. Stands setup tests (record (view_step setup view (Freed number)) { held = held_freed c view.held }) real private) (sym joined) (freed_by (view_step setup view (Freed number)) may.who joined may.quiet may.harmless)
    | inr lent ↦ subst (λ c. Stands setup tests (record (view_step setup view (Freed number)) { held = held_freed c view.held }) real private) (sym lent) (freed_lent (view_step setup view (Freed number)) may.who lent may.quiet)
  ]
