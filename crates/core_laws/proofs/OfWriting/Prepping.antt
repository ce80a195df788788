-- A preparation that passes may be sent.
use Rattle.std.specs.Prelude.{◌≡◌, ◌⊎◌, ℕ, Bool, true, false, not, ◌&&◌, ◌||◌, is_some, Option, Some, None}
use Rattle.std.proofs.Common.{refl, sym, ap, ◌∙◌, subst, inl, inr}
use Rattle.std.proofs.lemmas.Bool.{and_parts, and_from, or_cases, not-true}
use Rattle.mx_base.specs.declared.tag.Tag.TheVariants as tags
use Rattle.client_session.specs.Setups.{Setup as Service}
use Rattle.session_state.specs.Pins.{is_pinned}
use Rattle.private_model.specs.Names.{LinkId, SessionName}
use Rattle.private_model.specs.Story.{Due, Prep, Question}
use Rattle.private_model.specs.View.{Held, Link, View}
use Rattle.log_story.specs.Tale.{link_in}
use Rattle.tale_world.specs.Tests as tests
use Rattle.link_state.specs.Asks.{lends_by, lent_for}
use Rattle.link_state.specs.declared.asking.Asking.{Asking}
use Rattle.link_state.specs.declared.asking.Purpose.{Purpose}
use Rattle.link_state.specs.declared.asking.Purpose.TheVariants as purposes
use Rattle.link_laws.specs.Stands.{IsLink}
use Rattle.lent_link.specs.declared.link.Begins.TheVariants as begins
use Rattle.served_link.specs.declared.row.Row.{Row}
use Rattle.client_desk.specs.Desks.{session_of}
use Rattle.client_desk.specs.declared.session.Session.{Session}
use Rattle.client_desk.specs.declared.work.Work.{Work}
use Rattle.row_laws.specs.Begins.{IsLender}
use Rattle.row_laws.specs.Whose.{IsFor, name_in}
use Rattle.core_tables.specs.Passing.{is_joined, is_lent_to, is_nobody, is_of, may_prepare, prepares_first, prepares_there, with_work}
use Rattle.core_tables.specs.Tables.{Tabled}
use Rattle.core_tables.specs.declared.client.Client.{Client}
use Rattle.core_stands.specs.Grounds.{Ground, view_on}
use Rattle.core_stands.specs.Servers.{IsNextPrep, IsServer, keyed_text}
use Rattle.core_stands.specs.Stands.{Stands}
use Rattle.core_laws.proofs.OfWriting.Begun.{Begun, IsDueThere, OfPurpose, joined_lends, joined_name, lender_so, lent_name, no_bytes, present_stays}
use Rattle.core_laws.proofs.OfWriting.Knowing.{same_link, serving, unread}
use Rattle.core_laws.proofs.OfWriting.Stating.{HasWork, due_at, due_is, due_ordinal, has_work, held_is, home_by, joined_same, lends_same, life_is, prep_told}

-- By whom the link carries it may be prepared there.

module _ (g : Ground) (row : Client) (name : SessionName) (ordinal : ℕ) (work : Work) (at : IsDueThere g row name ordinal work) (link : Link) (server : Row)
    (same : IsLink g.setup.reads g.codes server.link.state link) where
  abbrev s : Session
  s = session_of row.desk work.hostgroup

  abbrev held : Held
  held = (view_on g).held name

  pub record MayPrepare : Type 0 where
    pub there : ((tests.may_lend name link held && not (is_pinned held.pin)) || (tests.is_joined name link.carries && is_pinned held.pin)) ≡ true
    pub carries : name_in (lends_by name server.link.state.carries) ≡ Some name
    pub home : (s.home ≡ None) ⊎ (name_in server.link.state.carries ≡ Some name)

  pin_is : is_pinned held.pin ≡ is_pinned s.pin
  pin_is = ap (λ (h : Held). is_pinned h.pin) (held_is g row name ordinal work at)

  there_is : ((tests.may_lend name link held && not (is_pinned held.pin)) || (tests.is_joined name link.carries && is_pinned held.pin))
      ≡ (prepares_first server name s || prepares_there server name s)
  there_is = λ i.
      (lends_same g row name ordinal work at link server same i && not (pin_is i)) || (joined_same g row name ordinal work at link server same i && pin_is i)

  may_by : (prepares_first server name s ≡ true) ⊎ (prepares_there server name s ≡ true) → (prepares_first server name s || prepares_there server name s) ≡ true
      → MayPrepare
  may_by (inl first) is =
      let lends = (and_parts ((is_nobody server.link.state.carries && not (is_some s.home)) || is_lent_to name server.link.state.carries) (not (is_pinned s.pin)) first).0 in
      record {
        there = there_is ∙ is;
        carries = lent_name name server.link.state.carries (not (is_some s.home)) lends;
        home = home_by g row name ordinal work at server.link.state.carries
            (or_cases (is_nobody server.link.state.carries && not (is_some s.home)) (is_lent_to name server.link.state.carries) lends);
      }
  may_by (inr there) is =
      let joined = (and_parts (is_joined name server.link.state.carries) (is_pinned s.pin) there).0 in
      record {
        there = there_is ∙ is;
        carries = joined_lends name server.link.state.carries joined;
        home = inr (joined_name name server.link.state.carries joined);
      }

  pub may_so : (prepares_first server name s || prepares_there server name s) ≡ true → MayPrepare
  may_so is = may_by (or_cases (prepares_first server name s) (prepares_there server name s) is) is

module _ (service : Service) (g : Ground) (t : Tabled) (l : LinkId) (server : Row) (stands : Stands service g t) (is : IsServer g t l server)
    (asking : Asking) (same_next : server.link.next ≡ Some (begins.Asks asking)) (lost : server.lost ≡ false) (fine : server.link.spoilt ≡ false) where
  pub preps : (name : SessionName) (ordinal key : ℕ) → asking.purpose ≡ purposes.Prep name ordinal key → with_work name t (may_prepare server name ordinal) ≡ true
      → IsNextPrep g server (link_in g.setup g.tale l) asking name ordinal → Begun g t l server asking (tags.Prep name.client ordinal)
  preps name ordinal key purpose passes next =
      let has = has_work name t (may_prepare server name ordinal) passes in
      let row = has.client in
      let work = has.work in
      let a = and_parts (not work.sent) _ has.passes in
      let b = and_parts (is_of name ordinal row.desk work) _ a.1 in
      let unsent = not-true work.sent a.0 in
      let at : IsDueThere g row name ordinal work = due_at service g t row name ordinal work stands has.there has.in_work unsent b.0 in
      let due : Due = at.unsent.due in
      let there = due_is g row name ordinal work at in
      let same = same_link g t l server is (begins.Asks asking) same_next in
      let link = link_in g.setup g.tale l in
      let may = may_so g row name ordinal work at link server same b.1 in
      let life = life_is g row name ordinal work at in
      let present = present_stays (view_on g) name server.link.state.carries server.left may.carries life
      ((serving g t l server is (begins.Asks asking) same_next).whose lost) in
      record {
        question = Prep name due.key (keyed_text g due);
        happens = no_bytes g l (tags.Prep name.client ordinal) (unread g t l server is (begins.Asks asking) same_next fine)
            ∙ prep_told g row name ordinal work at l (g.tale.wires l).begun;
        asked = record {
          said = next.said due there (due_ordinal g row name ordinal work at);
          step_none = tt;
          for = subst (λ (p : Purpose). IsFor p (lent_for p server.link.state.carries)) (sym purpose) (λ n same_n. may.carries ∙ same_n);
          lender = subst (λ (p : Purpose). IsLender (view_on g) server.link.state.carries (lent_for p server.link.state.carries)) (sym purpose)
              (lender_so (view_on g) name server.link.state.carries life);
          present = tt;
        };
        stays = refl;
        fits = and_from (tests.is_told_key g.setup due.key (keyed_text g due) link.told) _ (next.told due there (due_ordinal g row name ordinal work at)) may.there;
        of_view = tt;
        for = subst (λ (p : Purpose). OfPurpose p g t server (Prep name due.key (keyed_text g due))) (sym purpose) (record {
          client = row;
          there = has.there;
          work = work;
          in_work = has.in_work;
          unsent = unsent;
          at = at;
          is = refl;
          home = may.home;
          carries = may.carries;
          present = present;
        });
      }
