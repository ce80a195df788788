-- Bytes are read on a link to a server: the tables stand.
use Rattle.std.specs.Prelude.{◌≡◌, ◌<◌, ℕ, Bool, true, false, if◌then◌else◌, List, length, map, Some, Ok}
use Rattle.std.proofs.Common.{refl, sym, ap, ◌∙◌, subst}
use Rattle.mx_base.specs.Fields.{AreBytes}
use Rattle.mx_wire.specs.declared.entry.Entry.TheVariants.{Got}
use Rattle.client_session.specs.Setups.{Setup as Service}
use Rattle.server_side.specs.Hearing.{entered_of}
use Rattle.private_model.specs.Lawful.{IsLawful}
use Rattle.private_model.specs.Names.{LinkId}
use Rattle.private_model.specs.View.{Setup}
use Rattle.log_story.specs.Plan.{Plan}
use Rattle.log_story.specs.Servers.{read_as}
use Rattle.log_story.specs.Tale.{Tale, client_hears, is_to_server}
use Rattle.log_story.specs.Telling.{server_says, told as told_in, wire_with}
use Rattle.reply_track.specs.declared.reply.ReplyKind.{ReplyKind}
use Rattle.link_laws.specs.Stands.{AreApart, Codes}
use Rattle.lent_link.specs.Hears.{expecting}
use Rattle.lent_link.specs.Links.{is_in}
use Rattle.served_link.specs.Hears.{heard, made_in, news_of}
use Rattle.served_link.specs.Reads.{EntersBy, HearsBy, ReadsIn, used_at}
use Rattle.served_link.specs.declared.news.News.{News}
use Rattle.served_link.specs.declared.row.Row.{Row}
use Rattle.row_laws.specs.Reads.{IsNumbered}
use Rattle.row_laws.specs.Rows.{Enters, IsRowIn, Serves}
use Rattle.row_laws.proofs.Opening.{enters_in, serves_in}
use Rattle.core_tables.specs.Hearing.{IsHeardOn, IsReading, heard_on, told_to, with_row}
use Rattle.core_tables.specs.Preparing.{IsKeptFor}
use Rattle.core_tables.specs.Tables.{Tabled, link_changed}
use Rattle.core_tables.specs.declared.said.Said.{Said}
use Rattle.core_tables.specs.declared.server.Server.{Server}
use Rattle.core_stands.specs.Grounds.{AreNamed, Ground, on, view_on}
use Rattle.core_stands.specs.Servers.{IsServer}
use Rattle.core_stands.specs.Stands.{Stands}
use Rattle.core_laws.proofs.OfArrival.Changing.{InWork, RowsStay}
use Rattle.core_laws.proofs.OfHearing.Elsewhere.{CarriedLaw, HomedLaw}
use Rattle.core_laws.proofs.OfHearing.Ended.{ended_so}
use Rattle.core_laws.proofs.OfHearing.Entering.{login_so}
use Rattle.core_laws.proofs.OfHearing.Heard.{goes_so, reset_so, spoilt_so}
use Rattle.core_laws.proofs.OfHearing.Laws.{DeskLaws, OthersStay}
use Rattle.core_laws.proofs.OfHearing.Numbered.{numbered_so}
use Rattle.core_laws.proofs.OfHearing.Spelled.{NumbersAreRead}
use Rattle.core_laws.proofs.OfHearing.Made.{SameLaw, keeping_stands}
use Rattle.core_laws.proofs.OfHearing.Standing.{StandsBut, server_is}
use Rattle.core_laws.proofs.OfHearing.Telling as told

-- the laws of rows
pub record RowLaws : Type 0 where
  pub enter : (setup : Setup) (codes : Codes) (plan : Plan) (tale : Tale) (l : LinkId) (row new : Row) (news : News) (bytes : List ℕ)
      → IsRowIn setup codes plan tale l row → (tale.wires l).entered ≡ false → row.link.spoilt ≡ false → row.lost ≡ false
      → EntersBy news new (entered_of bytes row.link.login) row → IsRowIn setup codes plan (server_says setup plan l bytes tale) l new
  pub hear : (setup : Setup) (codes : Codes) (plan : Plan) (tale : Tale) (l : LinkId) (row : Row) (bytes : List ℕ)
      → IsRowIn setup codes plan tale l row → (tale.wires l).entered ≡ true → row.link.spoilt ≡ false → AreBytes bytes
      → 0 < length bytes → AreApart codes
      → IsNumbered bytes row (wire_with tale l bytes) → IsRowIn setup codes plan (server_says setup plan l bytes tale) l (heard bytes row)

module _ (laws : DeskLaws) (rows : RowLaws) (stay : OthersStay) (carried_law : CarriedLaw) (homed_law : HomedLaw) (numbers : NumbersAreRead)
    (in_work : InWork) (rows_stay : RowsStay) (same_law : SameLaw) (service : Service) (g : Ground) (t : Tabled) (stands : Stands service g t) (l : LinkId) (server : Server) (there : t.links l ≡ Some server)
    (to_server : is_to_server g.tale l ≡ true) (kept : server.row.lost ≡ false) (fine : server.row.link.spoilt ≡ false)
    (apart : AreApart g.codes) (bytes : List ℕ) (are_bytes : AreBytes bytes) (some : 0 < length bytes) (now : ℕ) where
  abbrev row : Row
  row = used_at now server.row

  abbrev after : Tale
  after = server_says g.setup g.plan l bytes g.tale

  abbrev is_server : IsServer g t l server.row
  is_server = server_is laws stay carried_law homed_law service g t stands l server there to_server kept fine

  abbrev P : Tale → Row → News → List ℕ → Type 0
  P T new said given =
      IsLawful g.setup T.story → IsRowIn g.setup g.codes g.plan T l new → StandsBut (on g T) (told_to new said given (link_changed l (with_row new) t))

  heard_stands : (g.tale.wires l).entered ≡ true → P after (heard bytes row) (news_of bytes row) (made_in (expecting row.link).reading bytes)
  heard_stands entered =
      told.read_so g.setup g.codes g.plan g.tale l row bytes is_server.row entered fine are_bytes P
      (λ place given. spoilt_so laws stay carried_law homed_law service g t stands l server there to_server kept fine bytes are_bytes now entered place given)
      (λ r under_way state goes.
      goes_so laws stay carried_law homed_law service g t stands l server there to_server kept fine bytes are_bytes now entered r under_way state goes)
      (λ r under_way end rest quiet.
      reset_so laws stay carried_law homed_law service g t stands l server there to_server kept fine bytes are_bytes now entered r under_way end rest quiet)
      (λ r under_way plain end rest ended law.
      ended_so laws stay carried_law homed_law numbers service g t stands l server there to_server kept fine bytes are_bytes now entered r under_way plain end rest ended
      (ap (λ (k : ReplyKind). read_as k (wire_with g.tale l bytes)) (told.is g.setup g.codes g.plan g.tale l row bytes is_server.row entered fine are_bytes r under_way plain).form_kind ∙ law))

  -- in the login or behind it

  hears_so : (reading : IsReading server.row bytes now) → (g.tale.wires l).entered ≡ true → IsLawful g.setup after.story → StandsBut (on g after) (heard_on l reading t)
  hears_so reading entered lawful =
      let serves : Serves g.setup.reads g.codes (g.plan.logins l) (view_on g) server.row (g.tale.wires l) ((view_on g).links l) =
      serves_in g.setup.reads g.codes (g.plan.logins l) (view_on g) server.row (g.tale.wires l) ((view_on g).links l) entered is_server.row in
      let inside : is_in server.row.link.login.stage ≡ true = ap is_in serves.inside in
      let hears : HearsBy reading.news reading.row reading.made row bytes =
      subst (λ (b : Bool). ReadsIn b (Ok reading.news) reading.row reading.made row bytes) inside reading.reads in
      let row_is = rows.hear g.setup g.codes g.plan g.tale l row bytes is_server.row entered fine are_bytes some apart
      (numbered_so g.setup g.codes g.plan g.tale l row bytes is_server.row entered fine are_bytes numbers) in
      subst (λ (x : Tabled). StandsBut (on g after) x)
      (λ i. told_to ((sym hears.row) i) ((sym hears.tells) i) ((sym hears.handed) i) (link_changed l (with_row ((sym hears.row) i)) t))
      (heard_stands entered lawful row_is)

  enters_so : (reading : IsReading server.row bytes now) → (g.tale.wires l).entered ≡ false → StandsBut (on g after) (heard_on l reading t)
  enters_so reading outside =
      let enters : Enters (g.plan.logins l) server.row (g.tale.wires l) ((view_on g).links l) =
      enters_in g.setup.reads g.codes (g.plan.logins l) (view_on g) server.row (g.tale.wires l) ((view_on g).links l) outside is_server.row in
      let by : EntersBy reading.news reading.row (entered_of bytes row.link.login) row =
      subst (λ (b : Bool). ReadsIn b (Ok reading.news) reading.row reading.made row bytes) enters.outside reading.reads in
      login_so laws stay carried_law homed_law service g t stands l server there to_server kept fine bytes now outside reading.row reading.news by reading.made
      (rows.enter g.setup g.codes g.plan g.tale l row reading.row reading.news bytes is_server.row outside fine kept by)

  stands_but : (reading : IsReading server.row bytes now) → IsLawful g.setup after.story → StandsBut (on g after) (heard_on l reading t)
  stands_but reading lawful = at (g.tale.wires l).entered refl where
    at : (b : Bool) → (g.tale.wires l).entered ≡ b → StandsBut (on g after) (heard_on l reading t)
    at true entered = hears_so reading entered lawful
    at false outside = enters_so reading outside

  says : told_in g.setup g.plan g.tale (Got l bytes) ≡ after
  says = ap (λ (b : Bool). if b then server_says g.setup g.plan l bytes g.tale else record g.tale { clients = map (client_hears l bytes) g.tale.clients }) to_server

  pub read_stands : (mid new : Tabled) (result : Said) → AreNamed g.codes → IsHeardOn server l bytes now result mid t → IsKeptFor result l mid new
      → IsLawful g.setup (told_in g.setup g.plan g.tale (Got l bytes)).story → Stands service (on g (told_in g.setup g.plan g.tale (Got l bytes))) new
  read_stands mid new result named is keeps =
      subst (λ (T : Tale). IsLawful g.setup T.story → Stands service (on g T) new) (sym says)
      (λ lawful.
      keeping_stands laws stay carried_law homed_law numbers in_work rows_stay same_law service g named t stands l server there to_server kept fine bytes are_bytes
      now is.reading lawful (stands_but is.reading lawful) mid new is.tables result is.tells keeps)
