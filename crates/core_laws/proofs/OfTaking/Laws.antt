-- The laws, by those of desks, and of clients that part.
use Rattle.std.specs.Prelude.{◌≡◌, ℕ, suc, true, false, not, is_some, List, ◌∷◌, Option, Some, None}
use Rattle.std.proofs.Common.{refl, sym, ap, ◌∙◌, subst, arith}
use Rattle.std.proofs.lemmas.Bool.{true≢false}
use Rattle.std.proofs.lemmas.Option.{none-some}
use Rattle.packet_frame.specs.Packets.{spellings}
use Rattle.client_session.specs.Setups.{Setup as Service}
use Rattle.private_model.specs.Commands.{Command}
use Rattle.private_model.specs.Lawful.{IsLawful}
use Rattle.private_model.specs.Names.{ClientNo, LinkId}
use Rattle.private_model.specs.Story.{Happening, Left}
use Rattle.private_model.specs.View.{Setup, View, view_step}
use Rattle.session_vars.specs.Settings.{collation_settings}
use Rattle.log_story.specs.Plan.{Route, word_at}
use Rattle.log_story.specs.Tale as tales
use Rattle.log_story.specs.Tale.{Tale, tell, with_client}
use Rattle.step_laws.specs.Seats.{IsSeated}
use Rattle.step_laws.specs.Taken.{next_of}
use Rattle.stmt_map.specs.declared.client.ClientStatements.{ClientStatements}
use Rattle.server_side.specs.Account.{Account}
use Rattle.client_seat.specs.Numbers.{AreNoted}
use Rattle.client_seat.specs.Seats.{ended, is_ended}
use Rattle.client_seat.specs.Takings.{begun_anew}
use Rattle.client_seat.specs.declared.phase.Phase.TheVariants as phase
use Rattle.client_seat.specs.declared.seat.Seat.{Seat}
use Rattle.client_desk.specs.declared.work.Work.{Work}
use Rattle.desk_laws.specs.Spares.{touches}
use Rattle.row_laws.specs.Apart.{IsElsewhere}
use Rattle.core_tables.specs.Parting.{left_in, left_row}
use Rattle.core_tables.specs.Tables.{IsSame, Tabled, client_changed, client_put}
use Rattle.core_tables.specs.Taking.{answers, begins_anew, goes, passes, quits}
use Rattle.core_tables.specs.declared.client.Client.{Client}
use Rattle.core_tables.specs.declared.server.Server.{Server}
use Rattle.core_stands.specs.Clients.{IsClient, IsClientOr}
use Rattle.core_stands.specs.Grounds.{Ground, ending, on, view_on}
use Rattle.core_stands.specs.Servers.{IsServerOr}
use Rattle.core_stands.specs.Stands.{IsAt, Stands}
use Rattle.core_laws.specs.parting.Frames.{SparesRowOr}
use Rattle.core_laws.specs.parting.Partings.{HasLives, IsAnew, IsEnding, IsLeaving}
use Rattle.core_laws.specs.taking.Takes.{IsNumberedAs, IsSent, IsUpOf, is_reset, own_of, route_of, took}
use Rattle.core_laws.proofs.OfPrepared.Taking.{prepared_then, prepared_unrouted, refuses_unrouted}
use Rattle.core_laws.proofs.OfTaking.Behind.{Dues, IsFound, Seats, answered_row, answered_stands, answers_is, found_up, goes_is, home_is, idle, life_is, placed, settings_are}
use Rattle.core_laws.proofs.OfTaking.Behind.{sent_row, sent_stands, works}
use Rattle.core_laws.proofs.OfTaking.Going.{goes_so}
use Rattle.core_laws.proofs.OfTaking.Leaving.{anew_found, anew_is, ends_so, is_anew, leaves_anew, leaves_ended, left_there, put_behind, quit_is, quit_row, quit_stands}
use Rattle.core_laws.proofs.OfTaking.Leaving.{same_along}
use Rattle.core_laws.proofs.OfTaking.Seated.{of_seated}
use Rattle.core_laws.proofs.OfTaking.Standing.{due_now, row_put, spares_row, took_answered, took_reset, took_sent}

abbrev SameStands : Type 0
SameStands = (service : Service) (g : Ground) (t other : Tabled) → Stands service g t → IsSame other t → Stands service g other

-- the client's own row
its_row : (service : Service) (g : Ground) (t : Tabled) (client : tales.Client) (row : Client) → Stands service g t → IsSeated g.tale client
    → t.clients client.number ≡ Some row → IsClient g client row
its_row service g t client row stands seated there =
    subst (λ (found : Option Client). IsClientOr g client found) there (of_seated client g.tale seated (IsAt g t) stands.clients.each).row

serving : (seat : Seat) (account : Account) → seat.phase ≡ phase.Serving account → is_ended seat.phase ≡ false
serving seat account serves = ap is_ended serves

no_work : {A : Type 0} (found : Option Work) (work : Work) → found ≡ None → found ≡ Some work → A
no_work found work none some = absurd (none-some work (sym none ∙ some))

module _ (same_law : SameStands) (seats : Seats) (service : Service) (g : Ground) (t other : Tabled) (client : tales.Client) (row : Client)
    (stands : Stands service g t) (is : IsUpOf g t client row) where
  at : IsClient g client row
  at = its_row service g t client row stands is.seated is.there

  abbrev up : IsFound g.plan client row.desk.seat
  up = found_up g client row.desk.seat is.up

  pub own_answers : (flag : ℕ) (payloads : List (List ℕ)) (packets : List ℕ) (statements : ClientStatements)
      → route_of g client ≡ None → own_of g client ≡ Some payloads → packets ≡ spellings row.desk.seat.first payloads
      → is_reset is.up.message ≡ false → AreNoted true is.up.message.payload row.desk.seat.statements statements
      → IsSame other (client_changed client.number (answers flag packets statements) t)
      → Stands service (on g (took g client is.up.message)) other
  own_answers flag payloads packets statements unrouted own says plain noted same =
      let new : Client = answered_row g client row at up is.few flag statements packets in
      let none : row.desk.work ≡ None = idle g client row at up in
      let after : Ground = on g (with_client (next_of client) g.tale) in
      let stood : Stands service after (client_put client.number (Some new) t) =
      goes_so g g.tale.story t client row new is.seated is.there none (λ work there. no_work row.desk.work work none there) (λ h. refl) (λ h. refl)
      service stands (λ x apart was. was) stands.servers stands.lawful
      (answered_stands g client row at up is.few flag statements seats payloads packets unrouted own says) (λ m. refl) stands.duly
      (λ going. prepared_unrouted g g.tale.story client row new is.up.message true
      (stands.prepared client is.seated row is.there (serving row.desk.seat up.account up.serves)) up.answered up.next
      (refuses_unrouted (route_of g client) unrouted) noted (λ m. refl) (at.coming.unanswered (suc client.taken) (omega arith)) unrouted) in
      subst (λ (tale : Tale). Stands service (on g tale) other) (sym (took_answered g client is.up.message unrouted plain))
      (same_law service after (client_put client.number (Some new) t) other stood
      (subst (λ (x : Tabled). IsSame other x)
      (row_put t client row new (answers flag packets statements) is.there (answers_is g client row at up is.few flag statements packets plain)) same))

  pub dues : Dues
      → ((g : Ground) (client : tales.Client) (row : Option Client) (e : Happening) → IsClientOr g client row
      → touches (view_on g) e client.number ≡ false → IsClientOr (on g (tell e g.tale)) client row)
      → ((g : Ground) (t : Tabled) (l : LinkId) (row : Option Server) (e : Happening) → IsServerOr g t l row → IsElsewhere l e
      → SparesRowOr (view_on g) e row → IsLawful g.setup (e ∷ g.tale.story) → IsServerOr (on g (tell e g.tale)) t l row)
      → (flag : ℕ) (route : Route) (command : Command) (work : Work) (statements : ClientStatements)
      → IsSent g client is.up.message route command work → IsNumberedAs route work row.desk.seat.statements
      → AreNoted false is.up.message.payload row.desk.seat.statements statements
      → IsSame other (client_changed client.number (goes flag work statements) t)
      → Stands service (on g (took g client is.up.message)) other
  dues due_law clients_law servers_law flag route command work statements sends numbered noted same =
      let new : Client = sent_row g client row at up is.few flag statements work in
      let e : Happening = due_now g client is.up.message route command work sends in
      let after : Ground = on g (with_client (next_of client) (tell e g.tale)) in
      let stood : Stands service after (client_put client.number (Some new) t) =
      goes_so g (tell e g.tale).story t client row new is.seated is.there (idle g client row at up)
      (works g client row at up is.few flag statements route command work sends)
      (home_is g client row at up is.few flag statements route command work sends seats due_law)
      (life_is g client row at up is.few flag statements route command work sends seats due_law)
      service stands
      (λ x apart was. clients_law g x (t.clients x.number) e was apart)
      (λ l. servers_law g t l (t.links l) e (stands.servers l) (λ elsewhere no. absurd (none-some elsewhere no))
      (spares_row g client is.up.message route command work sends t is.seated l (stands.servers l)) (stands.lawful, tt))
      (stands.lawful, tt)
      (sent_stands g client row at up is.few flag statements route command work sends seats due_law numbered noted.last) (λ m. refl)
      (record { route = route; routed = sends.routed; hostgroup = sym sends.hostgroup; multiplex = refl; keyed = sends.keyed; whole = sends.whole }, stands.duly)
      (λ going. prepared_then g (e ∷ g.tale.story) client row new is.up.message false
      (stands.prepared client is.seated row is.there (serving row.desk.seat up.account up.serves)) up.answered up.next
      (ap (λ (r : Option Route). not (is_some r)) sends.routed) noted (λ m. refl) (at.coming.unanswered (suc client.taken) (omega arith)) (λ back. absurd (true≢false (sym back)))) in
      subst (λ (tale : Tale). Stands service (on g tale) other) (sym (took_sent g client is.up.message route command work sends))
      (same_law service after (client_put client.number (Some new) t) other stood
      (subst (λ (x : Tabled). IsSame other x)
      (row_put t client row new (goes flag work statements) is.there (goes_is g client row at up is.few flag statements work)) same))

  pub resets : ((setup : Setup) (view : View) (c : ClientNo) (seat : Seat) → view.places c ≡ seat.place
      → (setup.places c).settings ≡ collation_settings seat.collation → (view_step setup view (Left c)).places c ≡ (begun_anew seat).place)
      → ((service : Service) (g : Ground) (t : Tabled) (client : tales.Client) (row : Client) (by : Seat → Seat) → Stands service g t
      → IsSeated g.tale client → t.clients client.number ≡ Some row → HasLives (view_on g) client.number
      → IsLeaving (on g (tell (Left client.number) g.tale)) client (by row.desk.seat) → IsAnew row.desk.seat (by row.desk.seat)
      → Stands service (on g (tell (Left client.number) g.tale)) (left_in client.number by t))
      → (flag : ℕ) (payloads : List (List ℕ)) (packets : List ℕ) (statements : ClientStatements)
      → route_of g client ≡ None → own_of g client ≡ Some payloads → packets ≡ spellings row.desk.seat.first payloads
      → is_reset is.up.message ≡ true → HasLives (view_on g) client.number
      → AreNoted true is.up.message.payload row.desk.seat.statements statements
      → IsSame other (begins_anew client.number flag packets statements t) → Stands service (on g (took g client is.up.message)) other
  resets anew_law left_law flag payloads packets statements unrouted own says reset lives noted same =
      let gone : Ground = on g (tell (Left client.number) g.tale) in
      let anew : Client = left_row begun_anew row in
      let parted : Tabled = left_in client.number begun_anew t in
      let left : Stands service gone parted =
      left_law service g t client row begun_anew stands is.seated is.there lives
      (leaves_anew g client row at up
      (anew_law g.setup (view_on g) client.number row.desk.seat (placed g client row at up) (settings_are g client row at up)))
      (is_anew g client row at up) in
      let there : parted.clients client.number ≡ Some anew = left_there t client row is.there begun_anew in
      let now : IsClient gone client anew = its_row service gone parted client anew left is.seated there in
      let found : IsFound gone.plan client anew.desk.seat = anew_found g client row at up in
      let new : Client = answered_row gone client anew now found is.few flag statements packets in
      let none : anew.desk.work ≡ None = idle gone client anew now found in
      let after : Ground = on gone (with_client (next_of client) gone.tale) in
      let stood : Stands service after (client_put client.number (Some new) parted) =
      goes_so gone gone.tale.story parted client anew new is.seated there none (λ work has. no_work anew.desk.work work none has) (λ h. refl) (λ h. refl)
      service left (λ x apart was. was) left.servers left.lawful
      (answered_stands gone client anew now found is.few flag statements seats payloads packets unrouted own says) (λ m. refl) left.duly
      (λ going. prepared_unrouted gone gone.tale.story client anew new is.up.message true
      (left.prepared client is.seated anew there (serving anew.desk.seat found.account found.serves)) found.answered found.next
      (refuses_unrouted (route_of g client) unrouted) noted (λ m. refl) (now.coming.unanswered (suc client.taken) (omega arith)) unrouted) in
      let id : Seat → Seat = λ (seat : Seat). seat in
      let as_put : IsSame other (client_put client.number (Some new) (left_in client.number id t)) =
      subst (λ (x : Tabled). IsSame other x)
      (row_put (left_in client.number id t) client (left_row id row) new (answers flag packets statements)
      (left_there t client row is.there id) (anew_is flag packets statements row is.up.message up.found reset)) same in
      subst (λ (tale : Tale). Stands service (on g tale) other) (sym (took_reset g client is.up.message unrouted reset))
      (same_law service after (client_put client.number (Some new) parted) other stood
      (same_along other (client_put client.number (Some new) (left_in client.number id t)) (client_put client.number (Some new) parted) as_put
      (put_behind t client row is.there id begun_anew new)))

  pub quitting : ((service : Service) (g : Ground) (t : Tabled) (client : tales.Client) (row : Client) (by : Seat → Seat) → Stands service g t
      → IsSeated g.tale client → t.clients client.number ≡ Some row → HasLives (view_on g) client.number
      → IsLeaving (on g (tell (Left client.number) g.tale)) client (by row.desk.seat)
      → IsEnding (on g (tell (Left client.number) g.tale)) client (by row.desk.seat)
      → Stands service (ending client.number (on g (tell (Left client.number) g.tale))) (left_in client.number by t))
      → (flag : ℕ) (statements : ClientStatements) → route_of g client ≡ None → own_of g client ≡ None
      → is_reset is.up.message ≡ false → HasLives (view_on g) client.number → word_at g.plan g.tale.moment client.number ≡ None
      → IsSame other (quits client.number flag statements t)
      → Stands service (ending client.number (on g (tell (Left client.number) (took g client is.up.message)))) other
  quitting left_law flag statements unrouted own plain lives wordless same =
      let over : Ground = ending client.number (on g (tell (Left client.number) g.tale)) in
      let gone : Client = left_row ended row in
      let parted : Tabled = left_in client.number ended t in
      let left : Stands service over parted =
      left_law service g t client row ended stands is.seated is.there lives (leaves_ended g client row at up wordless)
      (ends_so g client row at up wordless) in
      let there : parted.clients client.number ≡ Some gone = left_there t client row is.there ended in
      let now : IsClient over client gone = its_row service over parted client gone left is.seated there in
      let new : Client = quit_row flag statements row is.up.message up.found in
      let after : Ground = on over (with_client (next_of client) over.tale) in
      let stood : Stands service after (client_put client.number (Some new) parted) =
      goes_so over over.tale.story parted client gone new is.seated there refl (λ work has. absurd (none-some work has)) (λ h. refl) (λ h. refl)
      service left (λ x apart was. was) left.servers left.lawful
      (quit_stands g client row at up wordless flag statements now own seats) (λ m. refl) left.duly (λ going. absurd (true≢false going)) in
      subst (λ (tale : Tale). Stands service (ending client.number (on g (tell (Left client.number) tale))) other)
      (sym (took_answered g client is.up.message unrouted plain))
      (same_law service after (client_put client.number (Some new) parted) other stood
      (subst (λ (x : Tabled). IsSame other x)
      (row_put parted client gone new (passes flag statements) there (quit_is flag statements row is.up.message up.found plain)) same))
