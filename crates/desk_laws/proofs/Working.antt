-- A desk whose seat or work changes, while nothing of it happens.
use Rattle.std.specs.Prelude.{◌≡◌, ℕ, Bool, true, false, List, [], Option, Some, None}
use Rattle.std.proofs.Common.{sym, ◌∙◌, subst}
use Rattle.session_state.specs.declared.place.Place.{Place}
use Rattle.server_rule.specs.Classes.{Reads}
use Rattle.private_model.specs.Commands.{Command}
use Rattle.private_model.specs.Names.{ClientNo}
use Rattle.private_model.specs.Story.{Due}
use Rattle.private_model.specs.View.{View, present}
use Rattle.link_state.specs.declared.asking.Form.{Form}
use Rattle.link_laws.specs.Stands.{IsForm}
use Rattle.client_seat.specs.declared.seat.Seat.{Seat}
use Rattle.client_desk.specs.Desks.{gave_up, new_desk}
use Rattle.client_desk.specs.Works.{body_back, formless, given_back, taken_from, without_packets}
use Rattle.client_desk.specs.declared.desk.Desk.{Desk}
use Rattle.client_desk.specs.declared.work.Body.{Body}
use Rattle.client_desk.specs.declared.work.Body.TheVariants.{Packets, Run, Away}
use Rattle.client_desk.specs.declared.work.Work.{Work}
use Rattle.desk_laws.specs.Stands.{AreSessions, HasRowFor, IsBody, IsDesk, IsFormOr, IsPlaced, IsSentOrNot, IsWork, IsWorkOr}

pub new_so : (reads : Reads) (view : View) (c : ClientNo) (seat : Seat) → AreSessions view c 0 [] → seat.client.number ≡ c
    → IsPlaced seat.phase view c seat.place → IsDesk reads view c (new_desk seat)
new_so reads view c seat are number stands = record { number = number; sessions = are; place = stands; work = tt; row = tt }

pub seat_so : (reads : Reads) (view : View) (c : ClientNo) (desk : Desk) → IsDesk reads view c desk → (seat : Seat)
    → seat.client.number ≡ desk.seat.client.number → seat.place ≡ desk.seat.place → IsPlaced seat.phase view c seat.place
    → IsDesk reads view c (record desk { seat = seat })
seat_so reads view c desk is seat number places stands = record {
  number = number ∙ is.number;
  sessions = is.sessions;
  place = stands;
  work = subst (λ (place : Place). IsWorkOr reads view c place desk.work) (sym places) is.work;
  row = is.row;
}

pub given_up_so : (reads : Reads) (view : View) (c : ClientNo) (desk : Desk) → IsDesk reads view c desk → (payload : List ℕ)
    → IsDesk reads view c (gave_up payload desk)
given_up_so reads view c desk is payload = record { number = is.number; sessions = is.sessions; place = is.place; work = tt; row = tt }

-- A work with another form or body.

-- what is due is as the other say, where it is as those say that it has
abbrev Says : Reads → View → ClientNo → Work → Option Form → Body → Type 0
Says reads view c work form body =
    (due : Due) → view.dues (present view c work.hostgroup) ≡ Some due → IsFormOr reads work.form due.command → IsBody work.body due.command
    → IsFormOr reads form due.command × IsBody body due.command

work_as : (reads : Reads) (view : View) (c : ClientNo) (place : Place) (work : Work) (form : Option Form) (body : Body) → Says reads view c work form body
    → IsWork reads view c place work → IsWork reads view c place (record work { form = form; body = body })
work_as reads view c place work form body says is = record { sent_or_not = by work.sent is.sent_or_not; unanswered = is.unanswered } where
  by : (sent : Bool) → IsSentOrNot sent reads view c place work → IsSentOrNot sent reads view c place (record work { form = form; body = body })
  by true out = record { link = out.link; carrier = out.carrier }
  by false waits =
      let asked = waits.as_due.request in
      let said = says waits.due waits.is_due asked.form asked.body in
      record {
        due = waits.due;
        is_due = waits.is_due;
        as_due = record {
          request = record {
            ordinal_is = asked.ordinal_is;
            key_is = asked.key_is;
            multiplex_is = asked.multiplex_is;
            kind = asked.kind;
            marks = asked.marks;
            form = said.0;
            body = said.1;
          };
          place_is = waits.as_due.place_is;
          anew_is = waits.as_due.anew_is;
        };
        unsent = waits.unsent;
      }

desk_as : (reads : Reads) (view : View) (c : ClientNo) (desk : Desk) (work : Work) (form : Option Form) (body : Body) → IsDesk reads view c desk
    → desk.work ≡ Some work → Says reads view c work form body → IsDesk reads view c (record desk { work = Some (record work { form = form; body = body }) })
desk_as reads view c desk work form body is works says = record {
  number = is.number;
  sessions = is.sessions;
  place = is.place;
  work = work_as reads view c desk.seat.place work form body says (subst (λ (w : Option Work). IsWorkOr reads view c desk.seat.place w) works is.work);
  row = subst (λ (w : Option Work). HasRowFor desk.sessions w) works is.row;
}

taken_body : (body : Body) (command : Command) → IsBody body command → IsBody (taken_from body) command
taken_body (Packets bytes) command is = tt
taken_body (Run args) command is = is
taken_body Away command is = tt

pub formless_so : (reads : Reads) (view : View) (c : ClientNo) (desk : Desk) → IsDesk reads view c desk → (work : Work) → desk.work ≡ Some work
    → IsDesk reads view c (record desk { work = Some (formless work) })
formless_so reads view c desk is work works = desk_as reads view c desk work None work.body is works (λ due at form body. (tt, body))

pub without_so : (reads : Reads) (view : View) (c : ClientNo) (desk : Desk) → IsDesk reads view c desk → (work : Work) → desk.work ≡ Some work
    → IsDesk reads view c (record desk { work = Some (without_packets work) })
without_so reads view c desk is work works =
    desk_as reads view c desk work work.form (taken_from work.body) is works (λ due at form body. (form, taken_body work.body due.command body))

pub back_so : (reads : Reads) (view : View) (c : ClientNo) (desk : Desk) → IsDesk reads view c desk → (work : Work) (form : Form) (packets : Option (List ℕ))
    → desk.work ≡ Some work → ((due : Due) → view.dues (present view c work.hostgroup) ≡ Some due → IsForm reads form due.command)
    → ((due : Due) → view.dues (present view c work.hostgroup) ≡ Some due → IsBody (body_back packets work.body) due.command)
    → IsDesk reads view c (record desk { work = Some (given_back form packets work) })
back_so reads view c desk is work form packets works forms bodies =
    desk_as reads view c desk work (Some form) (body_back packets work.body) is works (λ due at was had. (forms due at, bodies due at))
