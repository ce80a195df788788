-- A link to a server that is in use is to be read, or a client has a mebibyte unwritten whose session it carries.
use Rattle.std.specs.Prelude.{◌≡◌, ◌⊎◌, ◌&&◌, ◌||◌, ℕ, Bool, true, false, not, All, slice_index_or, if◌then◌else◌, List, [], ◌∷◌, Option, Some, None}
use Rattle.std.specs.List.{list_any}
use Rattle.std.specs.Option.{option_map_or}
use Rattle.std.proofs.Common.{refl, sym, ap, ◌∙◌, subst, inl, inr}
use Rattle.std.proofs.Math.Bool.{or-true}
use Rattle.std.proofs.lemmas.Bool.{true≢false}
use Rattle.std.proofs.lemmas.List.Folds.{list_any_at}
use Rattle.mx_wire.specs.Log.{Log}
use Rattle.ready_loop.specs.Drained.{read_dry}
use Rattle.reply_track.specs.Runs.{Ended, Ending, Failed, Going}
use Rattle.reply_track.specs.declared.reply.ReplyKind.TheVariants as kinds
use Rattle.server_rule.specs.Classes.{Reads}
use Rattle.server_side.specs.Account.{Account as Login}
use Rattle.client_session.specs.Setups.{Setup as Serving}
use Rattle.client_seat.specs.Seats.{has_room, is_ended}
use Rattle.private_model.proofs.Maps.{same_link}
use Rattle.private_model.specs.Names.{ClientNo, LinkId, SessionName}
use Rattle.private_model.specs.Story.{command_of, is_client, is_link_id}
use Rattle.private_model.specs.View as view
use Rattle.private_model.specs.View.{Link, View, session_in}
use Rattle.log_story.specs.Owed as owed
use Rattle.log_story.specs.Servers.{kind_by, read_as}
use Rattle.log_story.specs.Tale as tales
use Rattle.log_story.specs.Tale.{Wire, is_reset_step, is_to_server}
use Rattle.link_laws.specs.Stands.{Codes}
use Rattle.served_link.specs.declared.row.Row.{Row}
use Rattle.row_laws.specs.Rows.{IsRowBy, Serves}
use Rattle.row_laws.specs.Unread as rows
use Rattle.row_laws.specs.Unread.{is_bad_there}
use Rattle.row_laws.specs.Whose.{name_in}
use Rattle.core_tables.specs.Tables.{Tabled}
use Rattle.core_tables.specs.declared.client.Client.{Client}
use Rattle.core_tables.specs.declared.server.Server.{Server}
use Rattle.core_stands.specs.Clients.{IsClient, IsPhase}
use Rattle.core_stands.specs.Grounds.{Ground, view_on}
use Rattle.core_stands.specs.Servers.{IsServer, IsServerBy}
use Rattle.core_stands.specs.Stands.{IsKnown, Rests}
use Rattle.core_laws.proofs.OfArrival.Finding.{client-same}
use Rattle.core_laws.proofs.OfEntry.Lists.{seated_of}
use Rattle.core_laws.proofs.OfParting.Named.{row_carries}
use Rattle.core_laws.proofs.OfParting.Same.{known_so}
use Rattle.core_says.specs.Says.{is_at, is_free, is_free_for, is_home, is_sound, reads_by, reads_in}
use Rattle.core_promises.specs.Waits.{IsHeardOn}
use Rattle.router_promises.specs.Closes as closes
use Rattle.router_promises.specs.Closes.{has_bad_bytes}
use Rattle.router_promises.specs.Now.{Now, link_now}
use Rattle.router_promises.specs.Rest.{is_behind}
use Rattle.router_promises.specs.Terms.{Terms, plan_in, setup_in}
use Rattle.router_laws.proofs.OfClients.Wroting.{room_of}
use Rattle.router_laws.proofs.OfWaits.Rows.{ground_now}
use Rattle.router_laws.specs.waits.Drained.{IsDrainedFor}

-- Bytes that can't be are the same to promises and to rows.

bad_same : (ending : Ending) → closes.is_bad ending ≡ rows.is_bad ending
bad_same (Failed rest) = refl
bad_same (Going state) = refl
bad_same (Ended end rest) = refl

bytes_same : (bytes : List ℕ) → closes.has_bytes bytes ≡ rows.has_bytes bytes
bytes_same [] = refl
bytes_same (byte ∷ bytes) = refl

bad_at_same : (wire : Wire) (stage : view.Stage) → closes.is_bad_at wire stage ≡ rows.is_bad_at wire stage
bad_at_same wire view.Quiet = bytes_same wire.unread
bad_at_same wire (view.Asked question) = bytes_same wire.unread
bad_at_same wire (view.Answered question) = bad_same (read_as (kind_by (command_of question)) wire)

bad_there_same : (wire : Wire) (stage : view.Stage)
    → (if is_reset_step wire.step then closes.is_bad (read_as kinds.Command wire) else closes.is_bad_at wire stage) ≡ is_bad_there wire stage
bad_there_same wire stage = λ i. if is_reset_step wire.step then bad_same (read_as kinds.Command wire) i else bad_at_same wire stage i

-- One that is in use is logged in.
serves_by : (entered : Bool) (reads : Reads) (codes : Codes) (login : Login) (seen : View) (row : Row) (wire : Wire) (link : Link) → link.usable ≡ true
    → IsRowBy entered reads codes login seen row wire link → Serves reads codes login seen row wire link
serves_by true reads codes login seen row wire link usable is = is
serves_by false reads codes login seen row wire link usable is =
    absurd (true≢false (sym usable ∙ ap (λ (x : Link). x.usable) is.unborn))

-- what one of a list passes, some of it does
any_each : {X : Type 0} → (p : X → Bool) (xs : List X) → All (λ (x : X). p x ≡ true → list_any p xs ≡ true) xs
any_each p xs = λ k other within passes. list_any_at p xs k other within passes

module _ (serving : Serving) (terms : Terms) (codes : Codes) (over : ClientNo → Bool) (now : Now) (log : Log) (t : Tabled) (roomy : ClientNo → Bool)
    (rests : Rests serving (ground_now terms codes over now) t roomy) (drained : IsDrainedFor t log) where
  abbrev g : Ground
  g = ground_now terms codes over now

  abbrev spares : LinkId → tales.Client → Bool
  spares l client = is_behind terms now l client

  module _ (l : LinkId) (server : Server) (there : t.links l ≡ Some server) (is : IsServer g t l server.row)
      (usable : (link_now (setup_in terms) now l).usable ≡ true) (fine : has_bad_bytes (setup_in terms) now l ≡ false) where
    serves : Serves (setup_in terms).reads codes ((plan_in terms).logins l) (view_on g) server.row (now.tale.wires l) ((view_on g).links l)
    serves =
        serves_by (now.tale.wires l).entered (setup_in terms).reads codes ((plan_in terms).logins l) (view_on g) server.row (now.tale.wires l)
        ((view_on g).links l) usable is.row.is

    unspoilt : server.row.link.spoilt ≡ false
    unspoilt =
        sym serves.bad ∙ sym (bad_there_same (now.tale.wires l) ((view_on g).links l).stage)
        ∙ sym (ap
        (λ (entered : Bool).
        entered
        && (if is_reset_step (now.tale.wires l).step then closes.is_bad (read_as kinds.Command (now.tale.wires l))
        else closes.is_bad_at (now.tale.wires l) ((view_on g).links l).stage))
        serves.entered)
        ∙ fine

    kept : not server.row.lost ≡ true
    kept = sym serves.usable ∙ usable

    sound : is_sound server.row ≡ true
    sound = λ i. kept i && not (unspoilt i)

    reads_there : reads_in t l ≡ is_free t l (name_in server.row.link.state.carries)
    reads_there =
        ap (λ (o : Option Server). reads_by o t l) there ∙ ap (λ (b : Bool). b && is_free t l (name_in server.row.link.state.carries)) sound

    module _ (n : SessionName) (carries : name_in server.row.link.state.carries ≡ Some n) (row : Client) (at : t.clients n.client ≡ Some row)
        (full : has_room row.desk.seat ≡ false) (home : is_home l n.hostgroup row ≡ true) where
      known : (client : tales.Client) × IsKnown g n.client client × IsClient g client row
      known = known_so serving g t n.client row rests.stands at

      goes_by : (ended : Bool) → is_ended row.desk.seat.phase ≡ ended → IsPhase ended g known.0 row → is_ended row.desk.seat.phase ≡ false
      goes_by false goes phase = goes
      goes_by true goes phase = absurd (true≢false (sym home ∙ ap (is_at l) (phase.homeless n.hostgroup)))

      full_now : owed.has_room (view_on g).replies (plan_in terms) now.tale.moment known.0 ≡ false
      full_now =
          room_of g known.0 row rests.stands.room_is known.2 (rests.looked known.0.number) (goes_by (is_ended row.desk.seat.phase) refl known.2.phase)
          ∙ full

      named : session_in (link_now (setup_in terms) now l).carries ≡ Some n
      named = row_carries (setup_in terms) codes (plan_in terms) now.tale l server.row is.row ∙ carries

      its : is_client n.client known.0.number ≡ true
      its = client-same n.client known.0.number (sym known.1.number)

      behind : spares l known.0 ≡ true
      behind =
          ap (λ (o : Option SessionName). option_map_or (λ (m : SessionName). is_client m.client known.0.number) o false
          && not (owed.has_room (view_on g).replies (plan_in terms) now.tale.moment known.0)) named
          ∙ (λ i. its i && not (full_now i))

      any_behind : list_any (spares l) now.tale.clients ≡ true
      any_behind =
          seated_of (λ (client : tales.Client). spares l client ≡ true → list_any (spares l) now.tale.clients ≡ true) now.tale known.0 known.1.seated
          (any_each (spares l) now.tale.clients) behind

    abbrev Free : Option SessionName → Type 0
    Free carried = (is_free t l carried ≡ true) ⊎ (list_any (spares l) now.tale.clients ≡ true)

    by_tests : (n : SessionName) → name_in server.row.link.state.carries ≡ Some n → (row : Client) → t.clients n.client ≡ Some row
        → (room home : Bool) → has_room row.desk.seat ≡ room → is_home l n.hostgroup row ≡ home → Free (Some n)
    by_tests n carries row at true home has at_home = inl (ap (is_free_for l n) at ∙ ap (λ (b : Bool). b || not (is_home l n.hostgroup row)) has)
    by_tests n carries row at false false has at_home = inl (ap (is_free_for l n) at ∙ (λ i. has i || not (at_home i)))
    by_tests n carries row at false true has at_home = inr (any_behind n carries row at has at_home)

    by_row : (n : SessionName) → name_in server.row.link.state.carries ≡ Some n → (row : Option Client) → t.clients n.client ≡ row → Free (Some n)
    by_row n carries None at = inl (ap (is_free_for l n) at)
    by_row n carries (Some row) at = by_tests n carries row at (has_room row.desk.seat) (is_home l n.hostgroup row) refl refl

    by_carried : (carried : Option SessionName) → name_in server.row.link.state.carries ≡ carried → Free carried
    by_carried None carries = inl refl
    by_carried (Some n) carries = by_row n carries (t.clients n.client) refl

    reads_or : (reads_in t l ≡ true) ⊎ (list_any (spares l) now.tale.clients ≡ true)
    reads_or = elim (by_carried (name_in server.row.link.state.carries) refl) [
      | inl free ↦ inl (reads_there ∙ free)
      | inr any ↦ inr any
    ]

  heard_by : (l : LinkId) (found : Option Server) → t.links l ≡ found → IsServerBy true g t l found → IsHeardOn terms log now l
  heard_by l None there gone opened usable fine = absurd (true≢false (sym usable ∙ gone))
  heard_by l (Some server) there is opened usable fine = elim (reads_or l server there is usable fine) [
    | inl reads ↦ ap (λ (b : Bool). b || list_any (spares l) now.tale.clients) (drained.read l opened reads)
    | inr any ↦ ap (λ (b : Bool). read_dry l log || b) any ∙ or-true (read_dry l log)
  ]

  heard_on : (l : LinkId) → is_to_server now.tale l ≡ true → IsHeardOn terms log now l
  heard_on l to_server =
      heard_by l (t.links l) refl (subst (λ (b : Bool). IsServerBy b g t l (t.links l)) to_server (rests.stands.servers l))

  pub heard : All (IsHeardOn terms log now) now.tale.links
  heard = λ k other within.
      heard_on (slice_index_or now.tale.links k other)
      (list_any_at (is_link_id (slice_index_or now.tale.links k other)) now.tale.links k other within (same_link (slice_index_or now.tale.links k other)))
