-- What an answer prepared is kept: the tables stand.
use Rattle.std.specs.Prelude.{◌≡◌, ℕ, Bool, true, false, ◌&&◌, is_some, nat_eq, if◌then◌else◌, List, length, take, Option, Some, None}
use Rattle.std.specs.Option.{option_and_then, option_map}
use Rattle.std.proofs.Common.{refl, sym, ap, ◌∙◌, subst, inl, inr}
use Rattle.std.proofs.lemmas.Bool.{true≢false}
use Rattle.std.proofs.lemmas.Option.{none-some, same_Some}
use Rattle.mx_base.specs.Fields.{AreBytes}
use Rattle.client_session.specs.Setups.{Setup as Service}
use Rattle.session_state.specs.Endings.{is_prepared}
use Rattle.session_state.specs.declared.reply_end.ReplyEnd.{ReplyEnd}
use Rattle.private_model.proofs.Maps.{client_of, same_link, same_number}
use Rattle.private_model.specs.Commands as commands
use Rattle.private_model.specs.Commands.{Reply, end_of, is_made, is_prepare}
use Rattle.private_model.specs.Lawful.{IsLawful}
use Rattle.private_model.specs.Names.{ClientNo, LinkId, MessageName, SessionName}
use Rattle.private_model.specs.Story.{is_client, message_of}
use Rattle.log_story.specs.Owed.{name_of}
use Rattle.log_story.specs.Tale as tales
use Rattle.log_story.specs.Tale.{Tale, is_to_server}
use Rattle.log_story.specs.Telling.{server_says}
use Rattle.step_laws.specs.Seats.{IsSeated, seats}
use Rattle.stmt_map.specs.declared.client.ClientStatements.{ClientStatements}
use Rattle.link_state.specs.declared.asking.Asking.{Asking}
use Rattle.link_state.specs.declared.asking.Purpose.{Purpose}
use Rattle.link_state.specs.declared.asking.Purpose.TheVariants as purposes
use Rattle.served_link.specs.declared.news.News.{News}
use Rattle.served_link.specs.declared.news.News.TheVariants as news
use Rattle.served_link.specs.declared.row.Row.{Row}
use Rattle.client_seat.specs.Seats.{is_ended}
use Rattle.client_seat.specs.declared.phase.Phase.{Phase}
use Rattle.desk_laws.proofs.Answering.{plain_reply, prepare_reply}
use Rattle.core_tables.specs.Arrivals.{seated}
use Rattle.core_tables.specs.Hearing.{Answer, IsReading, answered_for, at_desk, heard_on, replied_by, said_by, told_by, told_to, with_row}
use Rattle.core_tables.specs.Preparing.{IsKeptFor, IsKeptIn, IsKeptOf, IsKeptSo, Made, made_by, made_in, made_on, with_statements}
use Rattle.core_tables.specs.Tables.{IsSame, Tabled, client_changed, client_put, link_changed}
use Rattle.core_tables.specs.declared.client.Client.{Client}
use Rattle.core_tables.specs.declared.said.Said.{Said}
use Rattle.core_tables.specs.declared.server.Server.{Server}
use Rattle.core_stands.specs.Clients.{IsClient, IsGoing}
use Rattle.core_stands.specs.Grounds.{AreNamed, Ground, on}
use Rattle.core_stands.specs.Stands.{ArePrepared, IsPrepared, Stands}
use Rattle.core_laws.proofs.OfArrival.Changing.{InWork, RowsStay}
use Rattle.core_laws.proofs.OfHearing.Answered.{IsReplied, IsUnreplied, says_so}
use Rattle.core_laws.proofs.OfHearing.Elsewhere.{CarriedLaw, HomedLaw}
use Rattle.core_laws.proofs.OfHearing.Filing.{filed_stands}
use Rattle.core_laws.proofs.OfHearing.Laws.{DeskLaws, OthersStay}
use Rattle.core_laws.proofs.OfHearing.Making.{IsLast, IsPrepareOf, IsStating, last_so, made_prepared, prepare_of, stating, unmade_prepared, unreplied_prepared}
use Rattle.core_laws.proofs.OfHearing.Preparing.{HeardOf, heard_told, says_clients, says_duly, says_moment}
use Rattle.core_laws.proofs.OfHearing.Spelled.{NumbersAreRead}
use Rattle.core_laws.proofs.OfHearing.Standing.{StandsBut}
use Rattle.core_laws.proofs.OfHearing.Whole.{is_stated}
use Rattle.core_laws.proofs.OfPrepared.Rows.{going_row, its_client}

abbrev pub SameLaw : Type 0
SameLaw = (service : Service) (g : Ground) (t other : Tabled) → Stands service g t → IsSame other t → Stands service g other

-- Tables that are the same.

same_on : (a b d : Tabled) → IsSame a b → IsSame b d → IsSame a d
same_on a b d one other = record {
  clients = λ c. one.clients c ∙ other.clients c;
  numbers = λ l. one.numbers l ∙ other.numbers l;
  links = λ l. one.links l ∙ other.links l;
}

same_put : (c : ClientNo) (row : Option Client) (a b : Tabled) → IsSame a b → IsSame (client_put c row a) (client_put c row b)
same_put c row a b same = record {
  clients = λ d. ap (λ (r : Option Client). if nat_eq c.0 d.0 then row else r) (same.clients d);
  numbers = same.numbers;
  links = same.links;
}

-- The links of what a client is told.

answered_links : (purpose : Purpose) (a : Answer) (made : List ℕ) (t : Tabled) (k : LinkId) → (answered_for purpose a made t).links k ≡ t.links k
answered_links (purposes.Statement n ordinal key) a made t k = refl
answered_links (purposes.Prep n ordinal key) a made t k = refl
answered_links (purposes.Sync n) a made t k = refl
answered_links purposes.Own a made t k = refl
answered_links (purposes.End n) a made t k = refl
answered_links (purposes.Capture n) a made t k = refl

news_links : (said : News) (multiplex : Option Bool) (made : List ℕ) (t : Tabled) (k : LinkId) → (told_by said multiplex made t).links k ≡ t.links k
news_links (news.Part n) multiplex made t k = refl
news_links (news.Whole asking end number used) multiplex made t k = answered_links asking.purpose _ (take used made) t k
news_links _ multiplex made t k = refl

told_links : (new : Row) (said : News) (made : List ℕ) (t : Tabled) (k : LinkId) → (told_to new said made t).links k ≡ t.links k
told_links new said made t k = by (is_some new.left) where
  by : (left : Bool) → (if left then t else told_by said new.multiplex made t).links k ≡ t.links k
  by true = refl
  by false = news_links said new.multiplex made t k

-- What is kept.

unstated_none : (purpose : Purpose) (multiplex : Option Bool) (end : ReplyEnd) → is_stated purpose ≡ false → made_by purpose multiplex end ≡ None
unstated_none (purposes.Statement n ordinal key) multiplex end aside = absurd (true≢false aside)
unstated_none (purposes.Prep n ordinal key) multiplex end aside = refl
unstated_none (purposes.Sync n) multiplex end aside = refl
unstated_none purposes.Own multiplex end aside = refl
unstated_none (purposes.End n) multiplex end aside = refl
unstated_none (purposes.Capture n) multiplex end aside = refl

either_made : (left : Bool) (made : Option Made) → made ≡ None → (if left then None else made) ≡ None
either_made true made none = refl
either_made false made none = none

none_made : (said : News) (size : ℕ) (row : Row)
    → ((asking : Asking) (end : ReplyEnd) (number : Option ℕ) (used : ℕ) → said ≡ news.Whole asking end number used → is_stated asking.purpose ≡ false)
    → made_on (said_by said size) row ≡ None
none_made (news.Whole asking end number used) size row says =
    either_made (is_some row.left) (made_by asking.purpose row.multiplex end)
    (unstated_none asking.purpose row.multiplex end (says asking end number used refl))
none_made _ size row says = refl

prepared_kind : (reply : Reply) (to_prepare : Bool) → reply.to_prepare ≡ to_prepare → is_prepared (end_of reply) ≡ (to_prepare && is_made reply)
prepared_kind reply true at = prepare_reply reply.to_prepare reply.payloads at
prepared_kind reply false at = plain_reply reply.to_prepare reply.payloads at

both : (a b : Bool) → (a && b) ≡ true → (a ≡ true) × (b ≡ true)
both true true is = (refl, refl)
both true false is = absurd (true≢false (sym is))
both false b is = absurd (true≢false (sym is))

-- whoever was answered has no work
mapped_idle : (by : Client → Client) → ((r : Client) → (by r).desk.work ≡ None) → (found : Option Client) (row : Client) → option_map by found ≡ Some row
    → row.desk.work ≡ None
mapped_idle by idle None row is = absurd (none-some row is)
mapped_idle by idle (Some old) row is = ap (λ (r : Client). r.desk.work) (sym (same_Some (by old) row is)) ∙ idle old

module _ (laws : DeskLaws) (stay : OthersStay) (carried_law : CarriedLaw) (homed_law : HomedLaw) (numbers : NumbersAreRead) (in_work : InWork)
    (rows_stay : RowsStay) (same_law : SameLaw) (service : Service) (g : Ground) (named : AreNamed g.codes)
    (t : Tabled) (stands : Stands service g t) (l : LinkId) (server : Server) (there : t.links l ≡ Some server)
    (to_server : is_to_server g.tale l ≡ true) (kept : server.row.lost ≡ false) (fine : server.row.link.spoilt ≡ false)
    (bytes : List ℕ) (are_bytes : AreBytes bytes) (now : ℕ) (reading : IsReading server.row bytes now) where
  abbrev after : Tale
  after = server_says g.setup g.plan l bytes g.tale

  moment_same : after.moment ≡ g.tale.moment
  moment_same = says_moment g l bytes

  abbrev base : Tabled
  base = heard_on l reading t

  module _ (lawful : IsLawful g.setup after.story) (but : StandsBut (on g after) base) where
    stands_with : (now_table : Tabled) → StandsBut (on g after) now_table → ArePrepared (on g after) now_table → Stands service (on g after) now_table
    stands_with now_table but_now prepared = record {
      service_is = stands.service_is;
      room_is = stands.room_is;
      clients = but_now.clients;
      servers = but_now.servers;
      homes = but_now.homes;
      lawful = lawful;
      prepared = prepared;
      duly = says_duly g l bytes stands.duly;
    }

    -- A client that goes on is one that went on before.
    record IsHeardRow (client : tales.Client) (row : Client) : Type 0 where
      sits : IsSeated g.tale client
      of : HeardOf (t.clients client.number) row
      on_then : is_ended of.old.desk.seat.phase ≡ false
      was : IsClient g client of.old
      goes : IsGoing g client of.old

    heard_row : (client : tales.Client) → IsSeated after client → (row : Client) → base.clients client.number ≡ Some row
        → is_ended row.desk.seat.phase ≡ false → IsHeardRow client row
    heard_row client seated_now row has going =
        let of : HeardOf (t.clients client.number) row =
        heard_told (link_changed l (with_row reading.row) t) client.number row reading.row reading.news reading.made has in
        let sits : IsSeated g.tale client =
        ap (λ (xs : List tales.Client). seats (record g.tale { clients = xs }) client.number) (sym (says_clients g l bytes)) ∙ seated_now in
        let on_then : is_ended of.old.desk.seat.phase ≡ false = ap (λ (p : Phase). is_ended p) (sym of.phase) ∙ going in
        let was : IsClient g client of.old = its_client g t client of.old stands.clients sits of.there in
        record { sits = sits; of = of; on_then = on_then; was = was; goes = going_row g client of.old was on_then }

    module _ (mid new : Tabled) (heard : IsSame mid base) where
      unkept : ArePrepared (on g after) base → IsSame new mid → Stands service (on g after) new
      unkept prepared same = same_law service (on g after) base new (stands_with base but prepared) (same_on new mid base same heard)

      -- no reply was read
      quiet_so : IsUnreplied g after reading.news → IsKeptSo (made_on (said_by reading.news (length bytes)) reading.row) mid new
          → Stands service (on g after) new
      quiet_so says keeps =
          unkept (λ client seated_now row has going.
          (let is = heard_row client seated_now row has going in
          unreplied_prepared laws stay carried_law homed_law service g t stands l server there to_server kept fine after moment_same reading.news says client is.sits row
          is.of is.on_then is.was is.goes))
          (subst (λ (made : Option Made). IsKeptSo made mid new) (none_made reading.news (length bytes) reading.row says.says) keeps)

      -- a reply was read
      module _ (is : IsReplied g l server.row.link.state.stage server.row.left after reading.row reading.news) where
        abbrev stated : IsStating g.codes is.asking.purpose is.n is.due
        stated = stating laws stay carried_law homed_law service g t stands l server there to_server kept fine after moment_same reading.row reading.news is

        abbrev made : Made
        made = made_in stated.name stated.key reading.row.multiplex (end_of is.reply)

        made_is : made_on (said_by reading.news (length bytes)) reading.row
            ≡ (if is_some reading.row.left then None else if is_prepared (end_of is.reply) then Some made else None)
        made_is =
            ap (λ (said : News). made_on (said_by said (length bytes)) reading.row) is.says
            ∙ ap (λ (p : Purpose). if is_some reading.row.left then None else made_by p reading.row.multiplex (end_of is.reply)) stated.is

        abbrev HasMade : Bool
        HasMade = is_prepare is.due.command && is_made is.reply

        kind_is : is_prepared (end_of is.reply) ≡ HasMade
        kind_is = prepared_kind is.reply (is_prepare is.due.command) is.prepares

        last_of : (client : tales.Client) (row : Client) (heard_as : IsHeardRow client row) (k : ℕ) → name_of client k ≡ message_of is.n is.due
            → IsLast laws stay carried_law homed_law service g t stands l server there to_server kept fine after moment_same reading.row reading.news is client heard_as.of.old k
        last_of client row heard_as k at =
            last_so laws stay carried_law homed_law service g t stands l server there to_server kept fine after moment_same reading.row reading.news is client heard_as.of.old
            heard_as.of.there heard_as.goes k at

        unmade_so : (client : tales.Client) (row : Client) → IsHeardRow client row → (name_of client client.taken ≡ message_of is.n is.due → HasMade ≡ false)
            → IsPrepared (on g after) client row
        unmade_so client row heard_as none =
            unmade_prepared laws stay carried_law homed_law service g t stands l server there to_server kept fine after moment_same reading.row reading.news is client
            heard_as.sits row heard_as.of heard_as.on_then heard_as.was heard_as.goes none

        -- of a session that its client left nothing is kept: that client ended
        left_so : is_some reading.row.left ≡ true → IsSame new mid → Stands service (on g after) new
        left_so left same =
            unkept (λ client seated_now row has going.
            (let heard_as = heard_row client seated_now row has going in
            unmade_so client row heard_as (λ at.
            (let last = last_of client row heard_as client.taken at in
            absurd (true≢false (sym left ∙ is.left ∙ ap is_some last.mine)))))) same

        -- it prepared nothing
        plain_so : is_prepared (end_of is.reply) ≡ false → IsSame new mid → Stands service (on g after) new
        plain_so plain same =
            unkept (λ client seated_now row has going.
            (let heard_as = heard_row client seated_now row has going in
            unmade_so client row heard_as (λ at. sym kind_is ∙ plain))) same

        -- It prepared its text.

        module _ (present : is_some reading.row.left ≡ false) (prepared_end : is_prepared (end_of is.reply) ≡ true) where
          abbrev c : ClientNo
          c = stated.name.client

          has_made : HasMade ≡ true
          has_made = sym kind_is ∙ prepared_end

          other_so : (client : tales.Client) (row : Client) → IsHeardRow client row → (client.number ≡ c → ⊥) → IsPrepared (on g after) client row
          other_so client row heard_as other =
              unmade_so client row heard_as (λ at.
              absurd (other (ap (λ (m : MessageName). m.client) at ∙ ap (λ (n : SessionName). n.client) (sym stated.names))))

          -- by its client's row

          abbrev heard_table : Tabled
          heard_table = link_changed l (with_row reading.row) t

          abbrev answered : Client → Client
          answered =
              at_desk (replied_by (record { asking = is.asking; multiplex = reading.row.multiplex; end = end_of is.reply; number = is.number })
              stated.name.hostgroup (take is.used reading.made))

          told_is : base.clients c ≡ (client_changed c answered heard_table).clients c
          told_is =
              ap (λ (left : Bool). (if left then heard_table else told_by reading.news reading.row.multiplex reading.made heard_table).clients c) present
              ∙ ap (λ (said : News). (told_by said reading.row.multiplex reading.made heard_table).clients c) is.says
              ∙ ap (λ (p : Purpose). (answered_for p
              (record { asking = is.asking; multiplex = reading.row.multiplex; end = end_of is.reply; number = is.number })
              (take is.used reading.made) heard_table).clients c) stated.is

          put_there : (client_changed c answered heard_table).clients c ≡ option_map answered (heard_table.clients c)
          put_there = ap (λ (b : Bool). if b then option_map answered (heard_table.clients c) else heard_table.clients c) (same_number c.0)

          idle : (row : Client) → base.clients c ≡ Some row → row.desk.work ≡ None
          idle row has = mapped_idle answered (λ r. refl) (heard_table.clients c) row (sym put_there ∙ sym told_is ∙ has)

          module _ (row_c : Client) (has_c : base.clients c ≡ Some row_c) (s : ClientStatements)
              (keeps : IsKeptIn made.1 row_c.desk.seat.statements s) where
            abbrev row_now : Client
            row_now = seated (with_statements s) row_c

            abbrev filed : Tabled
            filed = client_put c (Some row_now) base

            key_is : (text : List ℕ) → is.due.command ≡ commands.Prepare text → made.1.key ≡ is.due.key
            key_is text at = same_Some stated.key is.due.key (sym (stated.code text at) ∙ named is.due.key)

            -- this was the client's last message
            own_so : (client : tales.Client) → IsSeated after client → client.number ≡ c → is_ended row_c.desk.seat.phase ≡ false
                → IsPrepared (on g after) client row_now
            own_so client seated_now its going =
                let heard_as : IsHeardRow client row_c = heard_row client seated_now row_c (ap base.clients its ∙ has_c) going in
                let at : name_of client is.due.ordinal ≡ message_of is.n is.due =
                ap (λ (d : ClientNo). record { client = d; ordinal = is.due.ordinal }) (its ∙ ap (λ (n : SessionName). n.client) stated.names) in
                let last = last_of client row_c heard_as is.due.ordinal at in
                let parts = both (is_prepare is.due.command) (is_made is.reply) has_made in
                let prepares : IsPrepareOf is.due.command = prepare_of is.due.command parts.0 in
                made_prepared laws stay carried_law homed_law service g t stands l server there to_server kept fine after moment_same reading.row reading.news is client
                heard_as.sits row_c heard_as.of heard_as.on_then heard_as.was heard_as.goes last.named prepares.text prepares.is parts.1 made.1
                (key_is prepares.text prepares.is) refl (ap (λ (n : SessionName). n.hostgroup) (sym stated.names)) (sym is.multiplex) s
                (subst (λ (old : ClientStatements). IsKeptIn made.1 old s) heard_as.of.statements keeps) row_now refl

            filed_prepared : ArePrepared (on g after) filed
            filed_prepared client seated_now row has going = by (is_client c client.number) refl where
              by : (b : Bool) → is_client c client.number ≡ b → IsPrepared (on g after) client row
              by true same =
                  let its : c ≡ client.number = client_of c client.number same in
                  let one : row_now ≡ row =
                  same_Some row_now row (sym (ap (λ (b : Bool). if b then Some row_now else base.clients client.number) same) ∙ has) in
                  subst (λ (r : Client). IsPrepared (on g after) client r) one
                  (own_so client seated_now (sym its) (ap (λ (r : Client). is_ended r.desk.seat.phase) one ∙ going))
              by false other =
                  other_so client row
                  (heard_row client seated_now row (sym (ap (λ (b : Bool). if b then Some row_now else base.clients client.number) other) ∙ has) going)
                  (λ its. absurd (true≢false (sym (ap (is_client c) its ∙ same_number c.0) ∙ other)))

            filed_so : IsSame new (client_put c (Some row_now) mid) → Stands service (on g after) new
            filed_so same =
                same_law service (on g after) filed new
                (stands_with filed (filed_stands in_work rows_stay (on g after) base but c row_c has_c (idle row_c has_c) s) filed_prepared)
                (same_on new (client_put c (Some row_now) mid) filed same (same_put c (Some row_now) mid base heard))

          kept_of : (found : Option Client) → mid.clients c ≡ found → IsKeptOf made.1 c found mid new → Stands service (on g after) new
          kept_of None none same =
              unkept (λ client seated_now row has going.
              other_so client row (heard_row client seated_now row has going)
              (λ its. absurd (none-some row (sym none ∙ heard.clients c ∙ ap base.clients (sym its) ∙ has)))) same
          kept_of (Some row_c) at is = filed_so row_c (sym (heard.clients c) ∙ at) is.statements is.kept is.same

        answered_so : (left : Bool) → is_some reading.row.left ≡ left → (prepared_end : Bool) → is_prepared (end_of is.reply) ≡ prepared_end
            → IsKeptSo (if left then None else if prepared_end then Some made else None) mid new → Stands service (on g after) new
        answered_so true at end how same = left_so at same
        answered_so false at true how keeps = kept_of at how (mid.clients stated.name.client) refl keeps
        answered_so false at false how same = plain_so how same

      -- what is kept, by the row that is there

      keeps_stand : IsKeptSo (made_on (said_by reading.news (length bytes)) reading.row) mid new → Stands service (on g after) new
      keeps_stand keeps = elim (says_so laws stay carried_law homed_law numbers service g t stands l server there to_server kept fine bytes are_bytes now reading) [
        | inl is ↦ answered_so is (is_some reading.row.left) refl (is_prepared (end_of is.reply)) refl
            (subst (λ (made : Option Made). IsKeptSo made mid new) (made_is is) keeps)
        | inr says ↦ quiet_so says keeps
      ]

      links_mid : mid.links l ≡ Some (with_row reading.row server)
      links_mid =
          heard.links l ∙ told_links reading.row reading.news reading.made (link_changed l (with_row reading.row) t) l
          ∙ ap (λ (b : Bool). if b then option_map (with_row reading.row) (t.links l) else t.links l) (same_link l)
          ∙ ap (option_map (with_row reading.row)) there

      pub keeping_stands : (result : Said) → result ≡ said_by reading.news (length bytes) → IsKeptFor result l mid new → Stands service (on g after) new
      keeping_stands result tells keeps =
          keeps_stand (subst (λ (r : Said). IsKeptSo (made_on r reading.row) mid new) tells
          (subst (λ (o : Option Server). IsKeptSo (option_and_then (λ (x : Server). made_on result x.row) o) mid new) links_mid keeps))
