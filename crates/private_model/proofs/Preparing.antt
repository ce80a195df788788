-- What is prepared, at each kind of happening.
use Rattle.std.specs.Prelude.{Bool, None, Option, Some, false, nat_eq, true, ℕ, ◌≡◌}
use Rattle.std.proofs.Common.{refl, sym, ap, ◌∙◌, subst, inl, inr}
use Rattle.private_model.specs.Names.{LinkId, ServerId, SessionName}
use Rattle.private_model.proofs.Maps.{at_each, link_ids, names, no_home, no_other, put-back, put-other, put-same}
use Rattle.private_model.proofs.Sessions.{harmless_shallow}
use Rattle.private_model.proofs.Stands.{AreKept, AreMatched, AreTabled, AreTabledBy, IfAlive, IsAskedFree, IsAskedJoined, IsAskedLent, IsAtBy, IsUsual, Stands, soon_pin, heard, quieted, soon_live, heard_now}
use Rattle.private_model.proofs.Tabling.{kept_without, matched_without, tabled_frame, tabled_moved, without}
use Rattle.private_model.specs.Commands.{Account, Reply}
use Rattle.private_model.specs.Honest.{IsAnswer}
use Rattle.private_model.specs.Lawful.{MayFree, MayLend, MaySend}
use Rattle.private_model.specs.Story.{Capture, End, Freed, Heard, Key, Own, Prep, Question, Sent, Statement, Sync, Unprepared, is_link_id, is_name, put}
use Rattle.private_model.specs.View.{Stage, Answered, Asked, Carried, Held, Joined, Lent, Nobody, Quiet, Setup, View, asked, carried_for, closed_number, freed, held_by, held_freed, held_heard, new_link, view_heard, view_step}
use Rattle.private_model.specs.Worlds.{Peer, Private, Real, new_peer}
use Rattle.server_rule.specs.Servers.{Tests}
use Rattle.server_rule.specs.declared.session.Session.{Session}

abbrev pub Tabled : Setup → View → Real → Private → Type 0
Tabled setup view real private = AreTabled setup view.links real.peers view.held private.tables

-- what a STMT_CLOSE on a quiet link leaves of what is known there
closed_kept : (setup : Setup) (n : ℕ) (alive : Bool) (stage : Stage) → stage ≡ Quiet → (answer : Reply) (live : ℕ → Option ℕ) (table : ℕ → Option Key) → IfAlive alive (AreKept setup (soon_live stage answer live) table) (Unit {0})
    → IfAlive alive (AreKept setup (soon_live stage answer (λ key. without n (live key))) (put nat_eq table n None)) (Unit {0})
closed_kept setup n alive stage quiet answer live table x =
    subst (λ st. IfAlive alive (AreKept setup (soon_live st answer (λ key. without n (live key))) (put nat_eq table n None)) (Unit {0})) (sym quiet)
    (go alive (subst (λ st. IfAlive alive (AreKept setup (soon_live st answer live) table) (Unit {0})) quiet x))
  where
    go : (b : Bool) → IfAlive b (AreKept setup live table) (Unit {0}) → IfAlive b (AreKept setup (λ key. without n (live key)) (put nat_eq table n None)) (Unit {0})
    go true y = kept_without setup live table n y
    go false y = tt

closed_matched : (setup : Setup) (n : ℕ) (alive : Bool) (stage : Stage) → stage ≡ Quiet → (answer : Reply) (live : ℕ → Option ℕ) (deep : Bool) (table here : ℕ → Option Key)
    → IfAlive alive (AreMatched setup (soon_live stage answer live) deep table here) (deep ≡ false → IsUsual setup here)
    → IfAlive alive (AreMatched setup (soon_live stage answer (λ key. without n (live key))) deep (put nat_eq table n None) here) (deep ≡ false → IsUsual setup here)
closed_matched setup n alive stage quiet answer live deep table here x =
    subst (λ st. IfAlive alive (AreMatched setup (soon_live st answer (λ key. without n (live key))) deep (put nat_eq table n None) here) (deep ≡ false → IsUsual setup here)) (sym quiet)
    (go alive (subst (λ st. IfAlive alive (AreMatched setup (soon_live st answer live) deep table here) (deep ≡ false → IsUsual setup here)) quiet x))
  where
    go : (b : Bool) → IfAlive b (AreMatched setup live deep table here) (deep ≡ false → IsUsual setup here) → IfAlive b (AreMatched setup (λ key. without n (live key)) deep (put nat_eq table n None) here) (deep ≡ false → IsUsual setup here)
    go true y = matched_without setup live deep table here n y
    go false y = y

module _ (setup : Setup) (tests : Tests) (view : View) (real : Real) (private : Private) (stands : Stands setup tests view real private) (are : AreTabled setup view.links real.peers view.held private.tables) (number : LinkId) where
  pub tabled_at : (carried : Carried) → (view.links number).carries ≡ carried → AreTabledBy setup carried (view.links number) (real.peers number) view.held private.tables
  tabled_at carried is = subst (λ c. AreTabledBy setup c (view.links number) (real.peers number) view.held private.tables) is (are.on number)

  pub stands_at : (carried : Carried) → (view.links number).carries ≡ carried → IsAtBy setup tests carried number (view.links number) (real.peers number) view.held private.sessions
  stands_at carried is = subst (λ c. IsAtBy setup tests c number (view.links number) (real.peers number) view.held private.sessions) is (stands.links number)

  pub others_held : (key : SessionName) (h : Held) → ((j : LinkId) → is_link_id j number ≡ false → (view.held key).home ≡ Some j → ⊥)
      → (j : LinkId) → is_link_id j number ≡ false → AreTabledBy setup (view.links j).carries (view.links j) (real.peers j) (put is_name view.held key h) private.tables
  others_held key h not_key j other = tabled_frame setup tests key view.held (put is_name view.held key h) private.tables private.tables private.sessions (λ n e. put-other names view.held key h n e) (λ n e. refl) (view.links j).carries j (view.links j) (real.peers j) (not_key j other) (stands.links j) (are.on j)

  pub others_table : (key : SessionName) (t : ℕ → Option Key) → ((j : LinkId) → is_link_id j number ≡ false → (view.held key).home ≡ Some j → ⊥)
      → (j : LinkId) → is_link_id j number ≡ false → AreTabledBy setup (view.links j).carries (view.links j) (real.peers j) view.held (put is_name private.tables key t)
  others_table key t not_key j other = tabled_frame setup tests key view.held view.held private.tables (put is_name private.tables key t) private.sessions (λ n e. refl) (λ n e. put-other names private.tables key t n e) (view.links j).carries j (view.links j) (real.peers j) (not_key j other) (stands.links j) (are.on j)

  resting_held : (key : SessionName) (h : Held) → (h.home ≡ None → IsUsual setup (private.tables key)) → (n : SessionName) → (put is_name view.held key h n).home ≡ None → IsUsual setup (private.tables n)
  resting_held key h here = at_each names (λ n. (put is_name view.held key h n).home ≡ None → IsUsual setup (private.tables n)) key
      (λ e. here (ap (λ x. x.home) (sym (put-same names view.held key h)) ∙ e))
      (λ n f e. are.resting n (ap (λ x. x.home) (sym (put-other names view.held key h n f)) ∙ e))

  pub resting_table : (key : SessionName) (t : ℕ → Option Key) → ((view.held key).home ≡ None → ⊥) → (n : SessionName) → (view.held n).home ≡ None → IsUsual setup (put is_name private.tables key t n)
  resting_table key t here = at_each names (λ n. (view.held n).home ≡ None → IsUsual setup (put is_name private.tables key t n)) key
      (λ e. absurd (here e))
      (λ n f e. subst (IsUsual setup) (sym (put-other names private.tables key t n f)) (are.resting n e))

  -- A question goes out.

  quiet_by : (carried : Carried) (question : Question) → (view.links number).stage ≡ Quiet → AreTabledBy setup carried (view.links number) (real.peers number) view.held private.tables → AreTabledBy setup carried (asked question (view.links number)) (real.peers number) view.held private.tables
  quiet_by Nobody question quiet x = subst (λ st. IfAlive (real.peers number).alive (AreKept setup (soon_live st (real.peers number).answer (view.links number).live) (real.peers number).table) (Unit {0})) quiet x
  quiet_by (Lent n) question quiet x = (subst (λ st. IfAlive (real.peers number).alive (AreKept setup (soon_live st (real.peers number).answer (view.links number).live) (real.peers number).table) (Unit {0})) quiet x.0, x.1)
  quiet_by (Joined n) question quiet x =
      subst (λ st. IfAlive (real.peers number).alive (AreMatched setup (soon_live st (real.peers number).answer (view.links number).live) (soon_pin setup.reads st (real.peers number).answer (view.held n).pin).deep (real.peers number).table (private.tables n))
      ((soon_pin setup.reads st (real.peers number).answer (view.held n).pin).deep ≡ false → IsUsual setup (private.tables n))) quiet x

  sent_still : (question : Question) → (view.links number).stage ≡ Quiet → carried_for question (view.links number).carries ≡ (view.links number).carries
      → AreTabled setup (put is_link_id view.links number (asked question (view.links number))) real.peers view.held private.tables
  sent_still question quiet same = tabled_moved setup view.links real.peers view.held private.tables are number (asked question (view.links number)) real.peers view.held private.tables
      (subst (λ c. AreTabledBy setup c (asked question (view.links number)) (real.peers number) view.held private.tables) (sym same) (quiet_by (view.links number).carries question quiet (are.on number)))
      (λ j e. refl) (λ j e. are.on j) are.resting

  sent_home : (n : SessionName) (question : Question) → (carried : Carried) → carried_for question (view.links number).carries ≡ carried
      → AreTabledBy setup carried (asked question (view.links number)) (real.peers number) (put is_name view.held n (record (view.held n) { home = Some number })) private.tables
      → ((j : LinkId) → is_link_id j number ≡ false → (view.held n).home ≡ Some j → ⊥)
      → AreTabled setup (put is_link_id view.links number (asked question (view.links number))) real.peers (put is_name view.held n (record (view.held n) { home = Some number })) private.tables
  sent_home n question carried is here not_key =
      let h : Held = record (view.held n) { home = Some number } in
      tabled_moved setup view.links real.peers view.held private.tables are number (asked question (view.links number)) real.peers (put is_name view.held n h) private.tables
      (subst (λ c. AreTabledBy setup c (asked question (view.links number)) (real.peers number) (put is_name view.held n h) private.tables) (sym is) here)
      (λ j e. refl) (others_held n h not_key) (resting_held n h (λ e. cc))

  sent_lent : (n : SessionName) (question : Question) → MayLend n (view.links number) (view.held n) → (view.links number).stage ≡ Quiet → carried_for question Nobody ≡ Lent n → carried_for question (Lent n) ≡ Lent n
      → AreTabled setup (put is_link_id view.links number (asked question (view.links number))) real.peers (put is_name view.held n (record (view.held n) { home = Some number })) private.tables
  sent_lent n question lends quiet first again = elim lends [
    | inl vacant ↦ sent_home n question (Lent n) (ap (carried_for question) vacant.free ∙ first) (quiet_by Nobody question quiet (tabled_at Nobody vacant.free), are.resting n vacant.homeless) (λ j other. no_home (view.held n).home vacant.homeless j)
    | inr lent ↦ sent_home n question (Lent n) (ap (carried_for question) lent ∙ again) (quiet_by (Lent n) question quiet (tabled_at (Lent n) lent)) (no_other (view.held n).home number (stands_at (Lent n) lent).home)
  ]

  sent_joined : (n : SessionName) (question : Question) → (view.links number).carries ≡ Joined n → (view.links number).stage ≡ Quiet → carried_for question (Joined n) ≡ Joined n
      → AreTabled setup (put is_link_id view.links number (asked question (view.links number))) real.peers (put is_name view.held n (record (view.held n) { home = Some number })) private.tables
  sent_joined n question carries quiet stays =
      let l = view.links number in
      let h : Held = record (view.held n) { home = Some number } in
      sent_home n question (Joined n) (ap (carried_for question) carries ∙ stays)
      (subst (λ x. IfAlive (real.peers number).alive (AreMatched setup l.live x.pin.deep (real.peers number).table (private.tables n)) (x.pin.deep ≡ false → IsUsual setup (private.tables n))) (sym (put-same names view.held n h)) (quiet_by (Joined n) question quiet (tabled_at (Joined n) carries)))
      (no_other (view.held n).home number (stands_at (Joined n) carries).home)

  pub tabled_sent : (question : Question) → MaySend setup view (view.links number) question → Tabled setup (view_step setup view (Sent number question)) real private
  tabled_sent (Statement n due) may = elim may.fits.how [
    | inl there ↦ sent_lent n (Statement n due) there.lends may.quiet refl refl
    | inr there ↦ sent_joined n (Statement n due) there.carries may.quiet refl
  ]
  tabled_sent (Prep n key text) may = elim may.fits [
    | inl first ↦ sent_lent n (Prep n key text) first.lends may.quiet refl refl
    | inr there ↦ sent_joined n (Prep n key text) there.carries may.quiet refl
  ]
  tabled_sent (Sync n c) may = sent_still (Sync n c) may.quiet refl
  tabled_sent (Own c) may = sent_still (Own c) may.quiet refl
  tabled_sent (End n) may = sent_still (End n) may.quiet refl
  tabled_sent (Capture n) may = sent_still (Capture n) may.quiet refl

  -- A reply is read.

  heard_kept : (question : Question) → (view.links number).stage ≡ Answered question
      → IfAlive (real.peers number).alive (AreKept setup (soon_live (view.links number).stage (real.peers number).answer (view.links number).live) (real.peers number).table) (Unit {0})
      → IfAlive (real.peers number).alive (AreKept setup (soon_live (quieted (view.links number).stage) (real.peers number).answer (soon_live (view.links number).stage (real.peers number).answer (view.links number).live)) (real.peers number).table) (Unit {0})
  heard_kept question ran x =
      let l = view.links number in
      let a = (real.peers number).answer in
      subst (λ st. IfAlive (real.peers number).alive (AreKept setup (soon_live (quieted st) a (soon_live st a l.live)) (real.peers number).table) (Unit {0})) (sym ran) (subst (λ st. IfAlive (real.peers number).alive (AreKept setup (soon_live st a l.live) (real.peers number).table) (Unit {0})) ran x)

  heard_still : (carried : Carried) → (view.links number).carries ≡ carried → AreTabledBy setup carried (heard setup.reads (real.peers number).answer (view.links number)) (real.peers number) view.held private.tables
      → AreTabled setup (put is_link_id view.links number (heard setup.reads (real.peers number).answer (view.links number))) real.peers view.held private.tables
  heard_still carried carries here = tabled_moved setup view.links real.peers view.held private.tables are number (heard setup.reads (real.peers number).answer (view.links number)) real.peers view.held private.tables
      (subst (λ c. AreTabledBy setup c (heard setup.reads (real.peers number).answer (view.links number)) (real.peers number) view.held private.tables) (sym carries) here)
      (λ j e. refl) (λ j e. are.on j) are.resting

  heard_named : (m : SessionName) (question : Question) (carried : Carried) → (view.links number).carries ≡ carried → (view.held m).home ≡ Some number
      → AreTabledBy setup carried (heard setup.reads (real.peers number).answer (view.links number)) (real.peers number) (put is_name view.held m (held_heard setup.reads question (real.peers number).answer (view.held m))) private.tables
      → AreTabled setup (put is_link_id view.links number (heard setup.reads (real.peers number).answer (view.links number))) real.peers (put is_name view.held m (held_heard setup.reads question (real.peers number).answer (view.held m))) private.tables
  heard_named m question carried carries home here =
      let h : Held = held_heard setup.reads question (real.peers number).answer (view.held m) in
      tabled_moved setup view.links real.peers view.held private.tables are number (heard setup.reads (real.peers number).answer (view.links number)) real.peers (put is_name view.held m h) private.tables
      (subst (λ c. AreTabledBy setup c (heard setup.reads (real.peers number).answer (view.links number)) (real.peers number) (put is_name view.held m h) private.tables) (sym carries) here)
      (λ j e. refl) (others_held m h (no_other (view.held m).home number home)) (resting_held m h (λ e. cc))

  heard_joined : (n m : SessionName) (question : Question) → (view.links number).stage ≡ Answered question → (view.links number).carries ≡ Joined n → m ≡ n
      → AreTabled setup (put is_link_id view.links number (heard setup.reads (real.peers number).answer (view.links number))) real.peers (put is_name view.held m (held_heard setup.reads question (real.peers number).answer (view.held m))) private.tables
  heard_joined n m question ran carries same =
      let l = view.links number in
      let a = (real.peers number).answer in
      let t = (real.peers number).table in
      let h : Held = held_heard setup.reads question a (view.held n) in
      let before = subst (λ st. IfAlive (real.peers number).alive (AreMatched setup (soon_live st a l.live) (soon_pin setup.reads st a (view.held n).pin).deep t (private.tables n)) ((soon_pin setup.reads st a (view.held n).pin).deep ≡ false → IsUsual setup (private.tables n))) ran (tabled_at (Joined n) carries) in
      let next = subst (λ st. IfAlive (real.peers number).alive (AreMatched setup (soon_live (quieted st) a (soon_live st a l.live)) (soon_pin setup.reads (quieted st) a h.pin).deep t (private.tables n)) ((soon_pin setup.reads (quieted st) a h.pin).deep ≡ false → IsUsual setup (private.tables n))) (sym ran) before in
      subst (λ x. AreTabled setup (put is_link_id view.links number (heard setup.reads a l)) real.peers (put is_name view.held x (held_heard setup.reads question a (view.held x))) private.tables) (sym same)
      (heard_named n question (Joined n) carries (stands_at (Joined n) carries).home
      (subst (λ x. IfAlive (real.peers number).alive (AreMatched setup (soon_live (quieted l.stage) a (soon_live l.stage a l.live)) (soon_pin setup.reads (quieted l.stage) a x.pin).deep t (private.tables n)) ((soon_pin setup.reads (quieted l.stage) a x.pin).deep ≡ false → IsUsual setup (private.tables n))) (sym (put-same names view.held n h)) next))

  heard_tabled : (question : Question) → (view.links number).stage ≡ Answered question → (carried : Carried) → (view.links number).carries ≡ carried → IsAtBy setup tests carried number (view.links number) (real.peers number) view.held private.sessions
      → AreTabled setup (put is_link_id view.links number (heard setup.reads (real.peers number).answer (view.links number))) real.peers (held_by setup.reads question (real.peers number).answer view.held) private.tables
  heard_tabled (Own c) ran Nobody carries at = heard_still Nobody carries (heard_kept (Own c) ran (tabled_at Nobody carries))
  heard_tabled _ ran Nobody carries at = absurd (subst (IsAskedFree setup.reads) ran at.asked)
  heard_tabled (Own c) ran (Lent n) carries at = let was = tabled_at (Lent n) carries in heard_still (Lent n) carries (heard_kept (Own c) ran was.0, was.1)
  heard_tabled (Prep m key text) ran (Lent n) carries at =
      let was = tabled_at (Lent n) carries in
      let preparing = subst (λ st. IsAskedLent setup n st (view.links number).account (view.links number).told (view.links number).id (view.links number).live (view.held n)) ran at.asked in
      heard_named m (Prep m key text) (Lent n) carries (subst (λ x. (view.held x).home ≡ Some number) (sym preparing.same) at.home) (heard_kept (Prep m key text) ran was.0, was.1)
  heard_tabled _ ran (Lent n) carries at = absurd (subst (λ st. IsAskedLent setup n st (view.links number).account (view.links number).told (view.links number).id (view.links number).live (view.held n)) ran at.asked)
  heard_tabled (Own c) ran (Joined n) carries at = absurd (subst (λ st. IsAskedJoined setup n st (view.links number).marked (view.links number).told (view.links number).id (view.links number).live (view.held n)) ran at.asked)
  heard_tabled (Statement m due) ran (Joined n) carries at = heard_joined n m (Statement m due) ran carries (subst (λ st. IsAskedJoined setup n st (view.links number).marked (view.links number).told (view.links number).id (view.links number).live (view.held n)) ran at.asked)
  heard_tabled (Prep m key text) ran (Joined n) carries at = heard_joined n m (Prep m key text) ran carries (subst (λ st. IsAskedJoined setup n st (view.links number).marked (view.links number).told (view.links number).id (view.links number).live (view.held n)) ran at.asked)
  heard_tabled (Sync m c) ran (Joined n) carries at = heard_joined n m (Sync m c) ran carries (subst (λ st. IsAskedJoined setup n st (view.links number).marked (view.links number).told (view.links number).id (view.links number).live (view.held n)) ran at.asked)
  heard_tabled (End m) ran (Joined n) carries at = heard_joined n m (End m) ran carries (subst (λ st. IsAskedJoined setup n st (view.links number).marked (view.links number).told (view.links number).id (view.links number).live (view.held n)) ran at.asked)
  heard_tabled (Capture m) ran (Joined n) carries at = heard_joined n m (Capture m) ran carries (subst (λ st. IsAskedJoined setup n st (view.links number).marked (view.links number).told (view.links number).id (view.links number).live (view.held n)) ran at.asked)

  pub tabled_heard : (reply : Reply) → IsAnswer (view.links number) (real.peers number).answer reply → Tabled setup (view_step setup view (Heard number reply)) real private
  tabled_heard reply is =
      let a = (real.peers number).answer in
      subst (λ r. Tabled setup (view_step setup view (Heard number r)) real private) (sym is.same)
      (subst (λ st. Tabled setup (view_heard setup view number a st) real private) (sym is.ran)
      (subst (λ l. AreTabled setup (put is_link_id view.links number l) real.peers (held_by setup.reads is.question a view.held) private.tables) (heard_now setup.reads is.question a (view.links number) is.ran)
      (heard_tabled is.question is.ran (view.links number).carries refl (stands.links number))))

  -- A link is given back, dropped, lost or closed; a login.

  matched_kept : (alive : Bool) (live : ℕ → Option ℕ) (deep : Bool) (there here : ℕ → Option Key) → deep ≡ false → IfAlive alive (AreMatched setup live deep there here) (deep ≡ false → IsUsual setup here) → IfAlive alive (AreKept setup live there) (Unit {0}) × IsUsual setup here
  matched_kept true live deep there here shallow x = (x.kept shallow, x.usual shallow)
  matched_kept false live deep there here shallow x = (tt, x shallow)

  freed_tabled : (n : SessionName) (carried : Carried) → IfAlive (real.peers number).alive (AreKept setup (soon_live (view.links number).stage (real.peers number).answer (view.links number).live) (real.peers number).table) (Unit {0}) → IsUsual setup (private.tables n) → (view.held n).home ≡ Some number
      → AreTabled setup (put is_link_id view.links number (freed (view.links number))) real.peers (put is_name view.held n (record (view.held n) { home = None })) private.tables
  freed_tabled n carried kept usual home =
      let h : Held = record (view.held n) { home = None } in
      tabled_moved setup view.links real.peers view.held private.tables are number (freed (view.links number)) real.peers (put is_name view.held n h) private.tables kept
      (λ j e. refl) (others_held n h (no_other (view.held n).home number home)) (resting_held n h (λ e. usual))

  pub tabled_freed : MayFree view (view.links number) → Tabled setup (view_step setup view (Freed number)) real private
  tabled_freed may = elim may.carries [
    | inl joined ↦
        let l = view.links number in
        let a = (real.peers number).answer in
        let pin = (view.held may.who).pin in
        let shallow : (soon_pin setup.reads l.stage a pin).deep ≡ false = ap (λ st. (soon_pin setup.reads st a pin).deep) may.quiet ∙ harmless_shallow pin may.harmless in
        let both = matched_kept (real.peers number).alive (soon_live l.stage a l.live) (soon_pin setup.reads l.stage a pin).deep (real.peers number).table (private.tables may.who) shallow (tabled_at (Joined may.who) joined) in
        subst (λ c. AreTabled setup (put is_link_id view.links number (freed (view.links number))) real.peers (held_freed c view.held) private.tables) (sym joined) (freed_tabled may.who (Joined may.who) both.0 both.1 (stands_at (Joined may.who) joined).home)
    | inr lent ↦
        let both = tabled_at (Lent may.who) lent in
        subst (λ c. AreTabled setup (put is_link_id view.links number (freed (view.links number))) real.peers (held_freed c view.held) private.tables) (sym lent) (freed_tabled may.who (Lent may.who) both.0 both.1 (stands_at (Lent may.who) lent).home)
  ]

  dead_matched : (alive : Bool) (live : ℕ → Option ℕ) (deep : Bool) (there here : ℕ → Option Key) → IfAlive alive (AreMatched setup live deep there here) (deep ≡ false → IsUsual setup here) → deep ≡ false → IsUsual setup here
  dead_matched true live deep there here x = x.usual
  dead_matched false live deep there here x = x

  abbrev dropped_peer : Session → Peer
  dropped_peer session = record (real.peers number) { session = session; alive = false }

  dead_by : (carried : Carried) (session : Session) → AreTabledBy setup carried (view.links number) (real.peers number) view.held private.tables → AreTabledBy setup carried (view.links number) (dropped_peer session) view.held private.tables
  dead_by Nobody session x = tt
  dead_by (Lent n) session x = (tt, x.1)
  dead_by (Joined n) session x =
      let l = view.links number in
      dead_matched (real.peers number).alive (soon_live l.stage (real.peers number).answer l.live) (soon_pin setup.reads l.stage (real.peers number).answer (view.held n).pin).deep (real.peers number).table (private.tables n) x

  pub tabled_dropped : (session : Session) → AreTabled setup view.links (put is_link_id real.peers number (dropped_peer session)) view.held private.tables
  tabled_dropped session =
      let peers = put is_link_id real.peers number (dropped_peer session) in
      subst (λ links. AreTabled setup links peers view.held private.tables) (put-back view.links number)
      (tabled_moved setup view.links real.peers view.held private.tables are number (view.links number) peers view.held private.tables
      (subst (λ x. AreTabledBy setup (view.links number).carries (view.links number) x view.held private.tables) (sym (put-same link_ids real.peers number (dropped_peer session))) (dead_by (view.links number).carries session (are.on number)))
      (λ j e. put-other link_ids real.peers number (dropped_peer session) j e) (λ j e. are.on j) are.resting)

  gone_by : (carried : Carried) → AreTabledBy setup carried (view.links number) (real.peers number) view.held private.tables → AreTabledBy setup carried (record (view.links number) { usable = false }) (real.peers number) view.held private.tables
  gone_by Nobody x = x
  gone_by _ x = x

  pub tabled_gone : AreTabled setup (put is_link_id view.links number (record (view.links number) { usable = false })) real.peers view.held private.tables
  tabled_gone = tabled_moved setup view.links real.peers view.held private.tables are number (record (view.links number) { usable = false }) real.peers view.held private.tables
      (gone_by (view.links number).carries (are.on number)) (λ j e. refl) (λ j e. are.on j) are.resting

  pub tabled_still : AreTabled setup (put is_link_id view.links number (view.links number)) real.peers view.held private.tables
  tabled_still = tabled_moved setup view.links real.peers view.held private.tables are number (view.links number) real.peers view.held private.tables (are.on number) (λ j e. refl) (λ j e. are.on j) are.resting

  pub tabled_login : (server : ServerId) (account : Account) → AreTabled setup (put is_link_id view.links number (new_link server account)) (put is_link_id real.peers number (new_peer account)) view.held private.tables
  tabled_login server account = tabled_moved setup view.links real.peers view.held private.tables are number (new_link server account) (put is_link_id real.peers number (new_peer account)) view.held private.tables
      (subst (λ x. AreTabledBy setup Nobody (new_link server account) x view.held private.tables) (sym (put-same link_ids real.peers number (new_peer account))) (record { kept = λ key n e. cc }))
      (λ j e. put-other link_ids real.peers number (new_peer account) j e) (λ j e. are.on j) are.resting

  closed_by : (n : ℕ) (carried : Carried) → (view.links number).stage ≡ Quiet → AreTabledBy setup carried (view.links number) (real.peers number) view.held private.tables
      → AreTabledBy setup carried (closed_number n (view.links number)) (record (real.peers number) { table = put nat_eq (real.peers number).table n None }) view.held private.tables
  closed_by n Nobody quiet x = closed_kept setup n (real.peers number).alive (view.links number).stage quiet (real.peers number).answer (view.links number).live (real.peers number).table x
  closed_by n (Lent m) quiet x = (closed_kept setup n (real.peers number).alive (view.links number).stage quiet (real.peers number).answer (view.links number).live (real.peers number).table x.0, x.1)
  closed_by n (Joined m) quiet x = closed_matched setup n (real.peers number).alive (view.links number).stage quiet (real.peers number).answer (view.links number).live (soon_pin setup.reads (view.links number).stage (real.peers number).answer (view.held m).pin).deep (real.peers number).table (private.tables m) x

  pub tabled_closed : (n : ℕ) → (view.links number).stage ≡ Quiet → Tabled setup (view_step setup view (Unprepared number n)) (record real { peers = put is_link_id real.peers number (record (real.peers number) { table = put nat_eq (real.peers number).table n None }) }) private
  tabled_closed n quiet =
      let peer : Peer = record (real.peers number) { table = put nat_eq (real.peers number).table n None } in
      tabled_moved setup view.links real.peers view.held private.tables are number (closed_number n (view.links number)) (put is_link_id real.peers number peer) view.held private.tables
      (subst (λ x. AreTabledBy setup (view.links number).carries (closed_number n (view.links number)) x view.held private.tables) (sym (put-same link_ids real.peers number peer)) (closed_by n (view.links number).carries quiet (are.on number)))
      (λ j e. put-other link_ids real.peers number peer j e) (λ j e. are.on j) are.resting

  -- what is decoded in both worlds

  pub alive_lent : (n : SessionName) → (real.peers number).alive ≡ true → (question : Question) → (view.links number).stage ≡ Asked question → (view.links number).carries ≡ Lent n → AreKept setup (view.links number).live (real.peers number).table × IsUsual setup (private.tables n)
  alive_lent n alive question is carries =
      let l = view.links number in
      let a = (real.peers number).answer in
      let was = tabled_at (Lent n) carries in
      (subst (λ b. IfAlive b (AreKept setup l.live (real.peers number).table) (Unit {0})) alive (subst (λ st. IfAlive (real.peers number).alive (AreKept setup (soon_live st a l.live) (real.peers number).table) (Unit {0})) is was.0), was.1)

  pub alive_joined : (n : SessionName) → (real.peers number).alive ≡ true → (question : Question) → (view.links number).stage ≡ Asked question → (view.links number).carries ≡ Joined n → AreMatched setup (view.links number).live (view.held n).pin.deep (real.peers number).table (private.tables n)
  alive_joined n alive question is carries =
      let l = view.links number in
      let a = (real.peers number).answer in
      subst (λ b. IfAlive b (AreMatched setup l.live (view.held n).pin.deep (real.peers number).table (private.tables n)) ((view.held n).pin.deep ≡ false → IsUsual setup (private.tables n))) alive
      (subst (λ st. IfAlive (real.peers number).alive (AreMatched setup (soon_live st a l.live) (soon_pin setup.reads st a (view.held n).pin).deep (real.peers number).table (private.tables n)) ((soon_pin setup.reads st a (view.held n).pin).deep ≡ false → IsUsual setup (private.tables n))) is (tabled_at (Joined n) carries))
