-- A link to a server is lost, and what is given up is: the tables stand for that.
use Rattle.std.specs.Prelude.{◌≡◌, ◌≤◌, ◌<◌, ◌+◌, ℕ, suc, Bool, true, false, ◌&&◌, All, is_some, nat_eq, if◌then◌else◌, List, [], ◌∷◌, Option, Some, None}
use Rattle.std.proofs.Common.{refl, sym, ap, ◌∙◌, subst}
use Rattle.std.proofs.lemmas.Bool.{false≢true, true≢false}
use Rattle.std.proofs.lemmas.List.Elements.{All-weaker}
use Rattle.mx_wire.specs.declared.entry.Entry.{Entry}
use Rattle.mx_wire.specs.Log.{Log}
use Rattle.client_session.specs.Setups.{Setup as Service}
use Rattle.private_model.specs.Names.{ClientNo, LinkId, SessionName}
use Rattle.private_model.specs.Story.{Gone, is_client, is_link_id}
use Rattle.private_model.specs.View.{Setup, session_in}
use Rattle.log_story.specs.Tale as tales
use Rattle.log_story.specs.Tale.{Tale, counted, is_to_server, link_in, tell}
use Rattle.log_story.specs.Telling.{tale_step}
use Rattle.row_laws.specs.Readied.{AreClasses}
use Rattle.step_laws.specs.Freed.{Ascend}
use Rattle.step_laws.specs.Seats.{IsSeated}
use Rattle.step_laws.specs.Taken.{GivesUpNone}
use Rattle.core_tables.specs.Parting.{given_up_in, lost_in, name_in}
use Rattle.core_tables.specs.Tables.{IsSame, Tabled}
use Rattle.core_stands.specs.Grounds.{Ground, on}
use Rattle.core_stands.specs.Stands.{Rests, Stands}
use Rattle.core_laws.specs.parting.Partings.{AreCounted, AreGivenUp, IsCounted, IsLosing}
use Rattle.core_laws.proofs.OfEntry.Uneventful.{Testing}
use Rattle.core_laws.specs.entry.Entries.{behind}
use Rattle.core_laws.specs.entry.Tells.{AreWhoTheySay}
use Rattle.core_laws.specs.clients.Going.{GivenUp, Going, told_to}
use Rattle.router_laws.specs.decisions.Deeds.{Deeds, taken_by}
use Rattle.router_laws.specs.decisions.Goings.{deeds_of}
use Rattle.router_laws.specs.decisions.Plans.{HasDeeds, PlansSo}
use Rattle.router_laws.proofs.OfLinks.Closings.{gone_tale}
use Rattle.router_laws.proofs.OfLinks.Giving.{given_up_with}
use Rattle.router_laws.proofs.OfLinks.Leaving.{losing_so}
use Rattle.router_laws.specs.links.Loses.{Break, LosesSo, entry_by}
use Rattle.router_laws.proofs.OfReading.Hearing.{told_none}
use Rattle.router_laws.specs.reading.Hearing.{TellsSo}

-- The laws by which it goes.
pub record Laws : Type 0 where
  pub loses : (service : Service) (g : Ground) (t : Tabled) (l : LinkId) (given : ClientNo → Option (List ℕ)) → Stands service g t
      → IsLosing g t l given → AreGivenUp given (λ other. is_link_id other l) t → AreCounted g given
      → Stands service (on g (counted (tell (Gone l) g.tale))) (given_up_in given (lost_in l t))
  pub tests : (service : Service) → Testing service
  pub same : (service : Service) (g : Ground) (t other : Tabled) → Stands service g t → IsSame other t → Stands service g other

-- The setup fits, and the plan has what is decided.
pub record IsLoss (service : Service) (default : List ℕ) (g : Ground) (log : Log) (e : Entry) (given : Option GivenUp) (going : Option Going)
    : Type 0 where
  pub plans : PlansSo g log e (deeds_of given going)
  pub classes : AreClasses g.setup.reads
  pub who : AreWhoTheySay g.setup g.plan default g.tale.clients
  pub rising : Ascend (λ l. l.0) g.tale.links
  pub tells : TellsSo going service

-- The tables rest behind the entry, and as many messages were taken up as was decided.
pub record AreLost (service : Service) (g : Ground) (e : Entry) (deeds : Deeds) (over room : ClientNo → Bool) (now : Tabled) : Type 0 where
  pub rests : Rests service (behind g e over) now room
  pub counts : (x was : tales.Client) → IsSeated (tale_step g.setup g.plan g.tale e) x → IsSeated g.tale was → x.number ≡ was.number
      → x.taken ≡ was.taken + taken_by (deeds.calls x.number) (deeds.halts x.number)

module _ (laws : Laws) (service : Service) (default : List ℕ) (g : Ground) (log : Log) (t now : Tabled) (roomy : ClientNo → Bool) (l : LinkId)
    (how : Break) (given : Option GivenUp) (going : Option Going) (rests : Rests service g t roomy)
    (is : IsLoss service default g log (entry_by how l) given going) (so : LosesSo service default l given going t now) where
  abbrev pub later : Tale
  later = gone_tale g.tale l

  pub gives_up : AreGivenUp (told_to given) (λ (other : LinkId). is_link_id other l) t
  gives_up = given_up_with service g t l given rests.stands so.may

  counted_all : AreCounted g (told_to given)
  counted_all =
      All-weaker (HasDeeds g (deeds_of given going)) (λ (client : tales.Client). IsCounted g (told_to given client.number) client)
      (λ client has. has.counted) g.tale.clients is.plans.each

  pub lost_then : Stands service (on g later) (given_up_in (told_to given) (lost_in l t))
  lost_then =
      laws.loses service g t l (told_to given) rests.stands (losing_so service g t l rests.stands (told_to given) so.with_it) gives_up counted_all

  pub lost_stands : Stands service (on g later) so.lost
  lost_stands = laws.same service (on g later) (given_up_in (told_to given) (lost_in l t)) so.lost lost_then so.loses

  -- for whom it is, if for anybody
  module _ (whose : ClientNo → Bool) (theirs : (up : GivenUp) → given ≡ Some up → whose up.client ≡ true) where
    pub keeps : All (λ (c : tales.Client). whose c.number ≡ false → GivesUpNone g.plan (suc g.tale.moment) c) g.tale.clients
    keeps =
        All-weaker (HasDeeds g (deeds_of given going)) (λ (c : tales.Client). whose c.number ≡ false → GivesUpNone g.plan (suc g.tale.moment) c)
        (λ c has other. has.keeps (told_none whose given theirs c.number other)) g.tale.clients is.plans.each
