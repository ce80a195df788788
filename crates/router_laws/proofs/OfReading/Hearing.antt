-- Bytes are read, what is given up is, and the link is given back, if it is done: the tables stand for that.
use Rattle.std.specs.Prelude.{◌≡◌, ◌≤◌, ◌<◌, ℕ, suc, Bool, true, false, ◌&&◌, All, is_some, length, nat_eq, if◌then◌else◌, List, [], ◌∷◌, Option, Some, None}
use Rattle.std.specs.List.{list_any}
use Rattle.std.proofs.Common.{refl, sym, ap, ◌∙◌, subst}
use Rattle.std.proofs.lemmas.Bool.{false≢true, true≢false}
use Rattle.std.proofs.lemmas.List.Elements.{All-weaker}
use Rattle.std.proofs.lemmas.Option.{none-some, same_Some}
use Rattle.mx_base.specs.Fields.{AreBytes}
use Rattle.mx_wire.specs.declared.entry.Entry.TheVariants as entry
use Rattle.mx_wire.specs.Log.{Log}
use Rattle.client_session.specs.Setups.{Setup as Service}
use Rattle.private_model.proofs.Maps.{client_of, number_of}
use Rattle.private_model.specs.Lawful.{IsLawful}
use Rattle.private_model.specs.Names.{ClientNo, LinkId, SessionName}
use Rattle.private_model.specs.Story.{Story, is_client, is_link_id}
use Rattle.private_model.specs.View.{Setup, session_in, view_after}
use Rattle.log_story.specs.Owed.{name_of as message_at}
use Rattle.log_story.specs.Plan.{own_at, word_at}
use Rattle.log_story.specs.Servers.{freed_if_done}
use Rattle.log_story.specs.Tale as tales
use Rattle.log_story.specs.Tale.{Tale, counted, is_to_server, link_in}
use Rattle.log_story.specs.Telling.{told}
use Rattle.step_laws.proofs.Giving.{kept_in}
use Rattle.step_laws.specs.Freed.{NoneDoneBut}
use Rattle.step_laws.specs.Seats.{IsSeated, is_its}
use Rattle.step_laws.specs.Steps.{told_then}
use Rattle.step_laws.specs.Taken.{GivesUpNone}
use Rattle.core_tables.specs.Hearing.{IsHeardOn}
use Rattle.core_tables.specs.Parting.{freed_in, given_to, given_up_in, name_in}
use Rattle.core_tables.specs.Preparing.{IsKeptFor}
use Rattle.core_tables.specs.Tables.{IsSame, Tabled}
use Rattle.core_tables.specs.declared.said.Said.{Said}
use Rattle.client_desk.specs.declared.work.Work.{Work}
use Rattle.core_tables.specs.declared.client.Client.{Client}
use Rattle.core_tables.specs.declared.server.Server.{Server}
use Rattle.core_stands.specs.Grounds.{AreNamed, Ground, on, view_on}
use Rattle.core_stands.specs.Stands.{Rests, Stands}
use Rattle.core_laws.proofs.OfParting.Named.{row_carries}
use Rattle.core_laws.proofs.OfParting.Forgetting.{server_there}
use Rattle.core_laws.specs.parting.Frames.{AreHomed}
use Rattle.core_laws.specs.parting.Partings.{AreCounted, AreGivenUp, IsAtWork, IsCounted}
use Rattle.core_laws.proofs.OfEntry.Uneventful.{Testing}
use Rattle.core_laws.proofs.OfClients.Homing.{server_by}
use Rattle.core_laws.specs.clients.Going.{GivenUp, Going, told_to}
use Rattle.router_laws.specs.decisions.Deeds.{Deeds}
use Rattle.router_laws.specs.decisions.Goings.{deeds_of}
use Rattle.router_laws.specs.decisions.Plans.{HasDeeds, PlansSo}
use Rattle.router_laws.proofs.OfReading.Lawfully.{told_lawful}
use Rattle.router_laws.proofs.OfReading.Untouched as reads
use Rattle.router_laws.proofs.OfReading.Unsound.{are_given_up}
use Rattle.router_laws.proofs.OfReading.Lent.{IsLentElsewhere, lent_elsewhere}
use Rattle.router_laws.specs.reading.Givings.{IsLentBut, MayBeGivenUp, MayGiveUp, lent_home}
use Rattle.router_laws.specs.reading.Hearing.{IsHearing}
use Rattle.router_laws.specs.reading.Hears.{HearsSo}

-- The laws by which it goes.
pub record Laws : Type 0 where
  pub hears : (service : Service) (g : Ground) (t mid new : Tabled) (l : LinkId) (server : Server) (bytes : List ℕ) (now : ℕ) (result : Said)
      → Stands service g t → is_to_server g.tale l ≡ true → t.links l ≡ Some server → server.row.lost ≡ false
      → server.row.link.spoilt ≡ false → AreNamed g.codes → AreBytes bytes → 0 < length bytes
      → IsHeardOn server l bytes now result mid t → IsKeptFor result l mid new → IsLawful g.setup (told g.setup g.plan g.tale (entry.Got l bytes)).story
      → Stands service (on g (told g.setup g.plan g.tale (entry.Got l bytes))) new
  pub counts : (service : Service) (g : Ground) (t : Tabled) (given : ClientNo → Option (List ℕ)) → Stands service g t
      → AreGivenUp given (λ l. false) t → AreCounted g given → Stands service (on g (counted g.tale)) (given_up_in given t)
  pub tests : (service : Service) → Testing service
  pub frees : (service : Service) (g : Ground) (t : Tabled) (l : LinkId) → Stands service g t → is_to_server g.tale l ≡ true
      → Stands service (on g (freed_if_done g.setup g.plan g.tale l)) (freed_in l t)
  pub homed : (setup : Setup) (story : Story) → IsLawful setup story → AreHomed (view_after setup story).links (view_after setup story).held
  pub same : (service : Service) (g : Ground) (t other : Tabled) → Stands service g t → IsSame other t → Stands service g other

-- What is given up.

given_by : (l : LinkId) (up : GivenUp) (t : Tabled) → MayBeGivenUp l up.client t → (c : ClientNo) (payload : List ℕ) (b : Bool)
    → nat_eq up.client.0 c.0 ≡ b → (if b then Some up.payload else None) ≡ Some payload → MayBeGivenUp l c t
given_by l up t may c payload true same some = subst (λ (n : ClientNo). MayBeGivenUp l n t) (client_of up.client c same) may
given_by l up t may c payload false other some = absurd (none-some payload some)

pub may_each : (l : LinkId) (given : Option GivenUp) (t : Tabled) → MayGiveUp l given t → (c : ClientNo) (payload : List ℕ)
    → told_to given c ≡ Some payload → MayBeGivenUp l c t
may_each l None t may c payload some = absurd (none-some payload some)
may_each l (Some up) t may c payload some = given_by l up t may c payload (nat_eq up.client.0 c.0) refl some

none_told : (up : GivenUp) (c : ClientNo) → is_client up.client c ≡ false → is_some (told_to (Some up) c) ≡ false
none_told up c other = ap (λ (b : Bool). is_some (if b then Some up.payload else None)) other

-- who is told nothing, where what is given up is of these clients
pub told_none : (whose : ClientNo → Bool) (given : Option GivenUp) → ((up : GivenUp) → given ≡ Some up → whose up.client ≡ true) → (c : ClientNo)
    → whose c ≡ false → is_some (told_to given c) ≡ false
told_none whose None theirs c other = refl
told_none whose (Some up) theirs c other = none_told up c (reads.apart whose up.client c (theirs up refl) other)

-- no other link is lent to a session whose statement is given up
module _ (l : LinkId) (t : Tabled) (given : Option GivenUp) (may : MayGiveUp l given t) (c : ClientNo) where
  given_elsewhere_by : (found : Option (List ℕ)) → told_to given c ≡ found → is_some found ≡ true → (row : Client) (work : Work) → IsAtWork t c row work
      → (other : LinkId) → is_link_id other l ≡ false → lent_home t row work ≡ Some other → ⊥
  given_elsewhere_by None none gives row work at other apart home = false≢true gives
  given_elsewhere_by (Some payload) some gives row work at other apart home =
      let its : MayBeGivenUp l c t = may_each l given t may c payload some in
      let row_is : its.row ≡ row = same_Some its.row row (sym its.at_work.there ∙ at.there) in
      let work_is : its.work ≡ work = same_Some its.work work (sym its.at_work.in_work ∙ ap (λ (r : Client). r.desk.work) row_is ∙ at.in_work) in
      lent_elsewhere l other t row work apart
      (subst (λ (w : Work). IsLentBut l t row w) work_is (subst (λ (r : Client). IsLentBut l t r its.work) row_is its.lent)) home

-- Bytes are read, whatever the plan.
module _ (laws : Laws) (service : Service) (default : List ℕ) (g : Ground) (t now : Tabled) (roomy : ClientNo → Bool) (l : LinkId) (bytes : List ℕ)
    (clock : ℕ) (given : Option GivenUp) (going : Option Going) (rests : Rests service g t roomy) (named : AreNamed g.codes) (bytes_are : AreBytes bytes)
    (some : 0 < length bytes) (so : HearsSo service default l bytes clock given going t now) where
  pub read_there : is_to_server g.tale l ≡ true
  read_there = server_by g t l (is_to_server g.tale l) (t.links l) (rests.stands.servers l) (ap is_some so.there)

  pub read_stands : Stands service (on g (told g.setup g.plan g.tale (entry.Got l bytes))) so.heard
  read_stands =
      laws.hears service g t so.read so.heard l so.server bytes clock so.said rests.stands read_there so.there so.whole so.sound named bytes_are some
      so.hears so.keeps (told_lawful service g t l so.server bytes rests.stands read_there so.there)

  pub read_gives : AreGivenUp (told_to given) (λ (other : LinkId). false) so.heard
  read_gives =
      are_given_up service (on g (told g.setup g.plan g.tale (entry.Got l bytes))) so.heard l (told_to given) read_stands
      (may_each l given so.heard so.may)

module _ (laws : Laws) (service : Service) (default : List ℕ) (g : Ground) (log : Log) (t now : Tabled) (roomy : ClientNo → Bool) (l : LinkId)
    (bytes : List ℕ) (clock : ℕ) (given : Option GivenUp) (going : Option Going) (rests : Rests service g t roomy)
    (is : IsHearing service default g log l bytes given going) (so : HearsSo service default l bytes clock given going t now) where
  abbrev said : Tale
  said = told g.setup g.plan g.tale (entry.Got l bytes)

  abbrev pub heard : Tale
  heard = counted said

  abbrev pub freed : Tale
  freed = freed_if_done g.setup g.plan heard l

  pub there : is_to_server g.tale l ≡ true
  there = read_there laws service default g t now roomy l bytes clock given going rests is.named is.bytes_are is.some so

  pub homes : AreHomed (view_on g).links (view_on g).held
  homes = laws.homed g.setup g.tale.story rests.stands.lawful

  -- whose session it carries
  pub carries : session_in (link_in g.setup g.tale l).carries ≡ name_in so.server.row.link.state.carries
  carries = row_carries g.setup g.codes g.plan g.tale l so.server.row (server_there service g t l so.server rests.stands so.there).row

  abbrev pub said_of : Tale
  said_of = said

  clients_same : said.clients ≡ g.tale.clients
  clients_same = reads.said_clients service g t roomy rests l bytes (λ c. true) there (λ n is. refl) homes

  links_same : said.links ≡ g.tale.links
  links_same = reads.said_links service g t roomy rests l bytes (λ c. true) there (λ n is. refl) homes

  moment_same : said.moment ≡ g.tale.moment
  moment_same = reads.said_moment service g t roomy rests l bytes (λ c. true) there (λ n is. refl) homes

  pub said_stands : Stands service (on g said) so.heard
  said_stands = read_stands laws service default g t now roomy l bytes clock given going rests is.named is.bytes_are is.some so

  gives : AreGivenUp (told_to given) (λ (other : LinkId). false) so.heard
  gives = read_gives laws service default g t now roomy l bytes clock given going rests is.named is.bytes_are is.some so

  -- the plan has it

  counted_at : (p : Option (List ℕ)) (client : tales.Client) → IsCounted g p client → IsCounted (on g said) p client
  counted_at p client is = record {
    own = λ ordinal within others.
        subst (λ (m : ℕ). own_at g.plan (suc m) (message_at client ordinal) ≡ own_at g.plan m (message_at client ordinal)) (sym moment_same)
        (is.own ordinal within others);
    given_up = λ payload some.
        subst (λ (m : ℕ). own_at g.plan (suc m) (message_at client client.taken) ≡ Some (payload ∷ [])) (sym moment_same) (is.given_up payload some);
    word = λ over.
        subst (λ (m : ℕ). word_at g.plan (suc m) client.number ≡ word_at g.plan m client.number) (sym moment_same) (is.word over);
  }

  counted_all : AreCounted (on g said) (told_to given)
  counted_all =
      subst (All (λ (client : tales.Client). IsCounted (on g said) (told_to given client.number) client)) (sym clients_same)
      (All-weaker (HasDeeds g (deeds_of given going)) (λ (client : tales.Client). IsCounted (on g said) (told_to given client.number) client)
      (λ client has. counted_at (told_to given client.number) client has.counted) g.tale.clients is.plans.each)

  pub counts_stand : Stands service (on g heard) (given_up_in (told_to given) so.heard)
  counts_stand = laws.counts service (on g said) so.heard (told_to given) said_stands gives counted_all

  there_then : is_to_server heard l ≡ true
  there_then = ap (list_any (is_link_id l)) links_same ∙ there

  pub freed_stands : Stands service (on g freed) so.freed
  freed_stands =
      laws.same service (on g freed) (freed_in l (given_up_in (told_to given) so.heard)) so.freed
      (laws.frees service (on g heard) (given_up_in (told_to given) so.heard) l counts_stand there_then) so.frees

  -- what stays of the tale

  pub freed_clients : freed.clients ≡ g.tale.clients
  freed_clients = kept_in g.setup g.plan (λ (x : Tale). x.clients) (λ story x. refl) (l ∷ []) heard ∙ clients_same

  pub freed_links : freed.links ≡ g.tale.links
  freed_links = kept_in g.setup g.plan (λ (x : Tale). x.links) (λ story x. refl) (l ∷ []) heard ∙ links_same

  pub freed_moment : freed.moment ≡ suc g.tale.moment
  freed_moment = kept_in g.setup g.plan (λ (x : Tale). x.moment) (λ story x. refl) (l ∷ []) heard ∙ ap suc moment_same

  pub said_clients : said.clients ≡ g.tale.clients
  said_clients = clients_same

  pub heard_clients : heard.clients ≡ g.tale.clients
  heard_clients = clients_same

  pub heard_moment : heard.moment ≡ suc g.tale.moment
  heard_moment = ap suc moment_same

  pub heard_there : is_to_server heard l ≡ true
  heard_there = there_then

  -- for whom it is, if for anybody
  module _ (whose : ClientNo → Bool) (carried : (n : SessionName) → name_in so.server.row.link.state.carries ≡ Some n → whose n.client ≡ true)
      (theirs : (up : GivenUp) → given ≡ Some up → whose up.client ≡ true) where
    pub carried_by : (n : SessionName) → session_in (link_in g.setup g.tale l).carries ≡ Some n → whose n.client ≡ true
    carried_by n at = carried n (sym carries ∙ at)

    pub keeps : All (λ (c : tales.Client). whose c.number ≡ false → GivesUpNone g.plan (suc g.tale.moment) c) g.tale.clients
    keeps =
        All-weaker (HasDeeds g (deeds_of given going)) (λ (c : tales.Client). whose c.number ≡ false → GivesUpNone g.plan (suc g.tale.moment) c)
        (λ c has other. has.keeps (told_none whose given theirs c.number other)) g.tale.clients is.plans.each

    elsewhere : (other : LinkId) → is_link_id other l ≡ false → IsLentElsewhere so.heard (told_to given) other
    elsewhere other apart c row work gives at home =
        given_elsewhere_by l so.heard given so.may c (told_to given c) refl gives row work at other apart home

    pub alone : NoneDoneBut g.setup g.plan (λ (other : LinkId). is_link_id other l) heard
    alone =
        reads.alone service g t roomy rests l bytes whose there carried_by homes (laws.tests service) (told_to given) so.heard said_stands elsewhere
        counts_stand
