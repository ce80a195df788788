-- A message that came up, by the row of its client.
use Rattle.std.specs.Prelude.{◌≡◌, ◌<◌, ℕ, Bool, true, false, nat_eq, slice_index_or, IfSome, IsSome, List, [], Option, Some, None, if◌then◌else◌}
use Rattle.std.specs.Option.{option_and_then, option_map, option_map_or}
use Rattle.std.proofs.Common.{refl, sym, ap, subst, ◌∙◌, arith}
use Rattle.std.proofs.lemmas.List.Elements.{All-nil}
use Rattle.std.proofs.lemmas.Option.{none-some}
use Rattle.mx_base.specs.Fields.{number_at}
use Rattle.mx_base.specs.declared.names.ClientNo.{ClientNo}
use Rattle.mx_base.specs.declared.names.Hostgroup.{Hostgroup}
use Rattle.mx_base.specs.declared.names.Port.TheVariants.{Traffic}
use Rattle.packet_frame.specs.Packets.{Framed, spelling, spellings}
use Rattle.own_words.specs.Own.{IsOwnAnswer}
use Rattle.server_rule.specs.Classes.{Reads}
use Rattle.private_model.specs.Commands.{Command, is_marked}
use Rattle.log_story.specs.Plan.{com_execute, text_payload}
use Rattle.link_state.specs.Asks.{marks}
use Rattle.link_state.specs.declared.asking.Form.{Form}
use Rattle.link_state.specs.declared.wish.Command.TheVariants.{Plain, Prepare}
use Rattle.link_laws.specs.Stands.{IsForm}
use Rattle.desk_laws.specs.Stands.{is_text, kind_of}
use Rattle.row_laws.specs.Readied.{AreClasses}
use Rattle.client_seat.specs.Numbers.{Numbered, number_in}
use Rattle.client_seat.specs.Requests.{Asked, Runs, Says, args_by, asked_in, request_of, run_in, text_in}
use Rattle.stmt_map.specs.declared.client.ClientStatements.{ClientStatements}
use Rattle.private_model.proofs.Maps.{same_number}
use Rattle.client_seat.specs.declared.seat.Seat.{Seat}
use Rattle.core_tables.specs.Parting.{left_in, left_row, parted_in}
use Rattle.core_tables.specs.Tables.{IsSame, Tabled, client_put}
use Rattle.core_tables.specs.Taking.{AreNotedIn, IsDue, IsUpOr, found_of, text_work}
use Rattle.core_tables.specs.declared.client.Client.{Client}
use Rattle.core_promises.specs.Judges.{IsRoutedFor, IsToldFor, IsVerdictFor, Rulebook}
use Rattle.core_promises.specs.Administers.{Makes}
use Rattle.core_promises.specs.Ruled.{MakesNothing, Ruling, situation_at}
use Rattle.core_turns.specs.Judged.{IsSendable, goes_with, route_by}
use Rattle.core_turns.specs.Taken.{IsAnswered, IsDueThere, Keys, OnUp, answered_so}
use Rattle.core_laws.proofs.OfTaking.Joining.{keyed_so, noted_there, whole_so}
use Rattle.core_laws.specs.clients.Turns.{Keyed}

-- the row is the one that is there
pub on-up : (t : Tabled) (c : ClientNo) (row : Client) (fact : Client → Framed → Type 0) → t.clients c ≡ Some row
    → ((message : Framed) → found_of row ≡ Some message → fact row message) → OnUp c t fact
on-up t c row fact there given = λ other at message found.
    let some : Some row ≡ Some other = sym there ∙ at in
    let same : row ≡ other = cc in
    subst (λ (r : Client). fact r message) same (given message (ap found_of same ∙ found))

-- what doesn't speak of them is so
pub up-fact : (t : Tabled) (c : ClientNo) (fact : Type 0) → IsUpOr (t.clients c) → OnUp c t (λ row message. fact) → fact
up-fact t c fact up on = by (t.clients c) refl up where
  found : (row : Client) (message : Option Framed) → t.clients c ≡ Some row → found_of row ≡ message → IsSome message → fact
  found row None there at some = absurd (let no : false ≡ true = some in cc)
  found row (Some message) there at some = on row there message at

  by : (row : Option Client) → t.clients c ≡ row → IsUpOr row → fact
  by None there is = absurd is
  by (Some row) there is = found row (found_of row) there refl is.found

pub payload-at : (payload : List ℕ) (found : Option Framed) (message : Framed) → found ≡ Some message
    → IfSome found (λ (m : Framed). payload ≡ m.payload) → payload ≡ message.payload
payload-at payload found message at is = subst (λ (o : Option Framed). IfSome o (λ (m : Framed). payload ≡ m.payload)) at is

-- A client that leaves its sessions keeps its message, and what it has prepared.

abbrev unseated : Seat → Seat
unseated seat = seat

left-there : (c : ClientNo) (t : Tabled) (row : Client) → t.clients c ≡ Some row → (left_in c unseated t).clients c ≡ Some (left_row unseated row)
left-there c t row there =
    ap (λ (found : Option Client). (option_map_or (λ (x : Client). client_put c (Some (left_row unseated x)) (parted_in x.desk.sessions t)) found t).clients c) there
    ∙ ap (λ (b : Bool). if b then Some (left_row unseated row) else (parted_in row.desk.sessions t).clients c) (same_number c.0)

pub left-noted : (refused : Bool) (c : ClientNo) (t : Tabled) (statements : ClientStatements)
    → AreNotedIn refused ((left_in c (λ (seat : Seat). seat) t).clients c) statements → AreNotedIn refused (t.clients c) statements
left-noted refused c t statements noted = by (t.clients c) refl where
  by : (found : Option Client) → t.clients c ≡ found → AreNotedIn refused found statements
  by None at = tt
  by (Some row) at = subst (λ (o : Option Client). AreNotedIn refused o statements) (left-there c t row at) noted

-- The router answers it.
pub answer-so : (anew : Bool) (ruling : Ruling) (c : ClientNo) (flag : ℕ) (packets : List ℕ) (statements : ClientStatements) (payloads : List (List ℕ)) (old new : Tabled)
    → IsOwnAnswer ruling.book.rules c payloads → OnUp c old (λ row message. packets ≡ spellings row.desk.seat.first payloads)
    → OnUp c old (λ row message. anew ≡ nat_eq (slice_index_or message.payload 0 0) 0x1F)
    → AreNotedIn true (old.clients c) statements → IsSame new (answered_so anew c flag packets statements old)
    → OnUp c old (λ row message. IsToldFor ruling.book (situation_at ruling.keys row.desk) c message.payload payloads
    → Makes row.desk.seat.port message.payload (Some payloads) ruling.was ruling.is → IsAnswered ruling c row message old new)
answer-so anew ruling c flag packets statements payloads old new own spelt is noted written = λ row there message found ruled made. record {
  payloads = payloads;
  own = own;
  ruled = λ kept. ruled;
  made = made;
  flag = flag;
  packets = packets;
  statements = statements;
  spelt = spelt row there message found;
  noted = noted_there true old c row message statements there found noted;
  makes = subst (λ (b : Bool). IsSame new (answered_so b c flag packets statements old)) (is row there message found) written;
}

-- It goes to a server.

no-run : (run : Option Numbered) (f : Numbered → Asked) (command : Command) → ((one : Numbered) → f one ≡ Says command → ⊥)
    → option_map f run ≡ Some (Says command) → ⊥
no-run None f command none is = let e = is in cc
no-run (Some one) f command none is =
    let same : f one ≡ Says command = cc in
    none one same

pub said-in : (statements : ClientStatements) (payload : List ℕ) (text : Option (List ℕ)) (command : Command)
    → asked_in statements payload text ≡ Some (Says command) → text_in payload text ≡ Some (Says command)
said-in statements payload text command is = by (nat_eq (slice_index_or payload 0 0) com_execute) refl where
  by : (execute : Bool) → nat_eq (slice_index_or payload 0 0) com_execute ≡ execute → text_in payload text ≡ Some (Says command)
  by true at =
      let run : run_in statements payload ≡ Some (Says command) =
      subst (λ (b : Bool). (if b then run_in statements payload else text_in payload text) ≡ Some (Says command)) at is in
      absurd (no-run (option_and_then (number_in statements) (number_at 4 1 payload)) (λ (one : Numbered). Runs one.prepared.key (args_by one payload)) command
      (λ one e. let f = e in cc) run)
  by false at = subst (λ (b : Bool). (if b then run_in statements payload else text_in payload text) ≡ Some (Says command)) at is

-- by its command
record IsSendsAs (form : Form) (command : Command) : Type 0 where
  kind : kind_of command ≡ Plain
  says : is_text command ≡ true
  formed : (reads : Reads) → AreClasses reads → IsForm reads form command
  marked : (reads : Reads) → AreClasses reads → is_marked reads command ≡ marks form

-- it is routed so where nothing is to stand under its key
unkeyed : (book : Rulebook) (keys : Keys) (row : Client) (c : ClientNo) (payload : List ℕ) (hostgroup : Hostgroup) (text : Option (List ℕ)) (multiplex : Option Bool)
    → row.desk.seat.port ≡ Traffic → IsVerdictFor book (situation_at keys row.desk) c payload (goes_with (route_by hostgroup text multiplex) None)
    → IsRoutedFor book (situation_at keys row.desk) keys c payload (route_by hostgroup text multiplex)
unkeyed book keys row c payload hostgroup text multiplex port ruled = record {
  wanted = record { route = route_by hostgroup text multiplex; key = None };
  routed = refl;
  keyed = λ key is. absurd (none-some key is);
  port = port;
  is = ruled;
}

pub due-there : (ruling : Ruling) → MakesNothing ruling → (hostgroup : Hostgroup) (ordinal flag since : ℕ) (text : Option (List ℕ)) (multiplex : Option Bool) (form : Form) (c : ClientNo) (old new : Tabled)
    → OnUp c old (λ row message. IsSendable message.payload text form)
    → IsDue flag text (text_work ordinal hostgroup since multiplex form) c old new
    → OnUp c old (λ row message. row.desk.seat.port ≡ Traffic
    → IsVerdictFor ruling.book (situation_at ruling.keys row.desk) c message.payload (goes_with (route_by hostgroup text multiplex) None)
    → IsDueThere hostgroup ordinal ruling c row message old new)
due-there ruling nothing hostgroup ordinal flag since text multiplex form c old new sendable due =
    on-up old c due.row (λ row message. row.desk.seat.port ≡ Traffic
    → IsVerdictFor ruling.book (situation_at ruling.keys row.desk) c message.payload (goes_with (route_by hostgroup text multiplex) None)
    → IsDueThere hostgroup ordinal ruling c row message old new) due.there
    (λ message found port ruled.
    let sends : IsSendable message.payload text form = sendable due.row due.there message found in
    let asks : asked_in due.row.desk.seat.statements message.payload text ≡ Some (Says due.command) =
    subst (λ (o : Option Framed). option_and_then (λ (m : Framed). asked_in due.row.desk.seat.statements m.payload text) o ≡ Some (Says due.command)) found due.asked in
    let asked : text_in message.payload text ≡ Some (Says due.command) = said-in due.row.desk.seat.statements message.payload text due.command asks in
    let some : Some (Says sends.command) ≡ Some (Says due.command) = sym sends.asks ∙ asked in
    let says : Says sends.command ≡ Says due.command = cc in
    let same : sends.command ≡ due.command = cc in
    let at : IsSendsAs form due.command =
    subst (IsSendsAs form) same (record { kind = sends.kind; says = sends.says; formed = sends.formed; marked = sends.marked }) in
    record {
      route = route_by hostgroup text multiplex;
      keyed = [];
      there = refl;
      single = refl;
      under = All-nil (λ (one : Keyed). ruling.keys one.number ≡ Some one.key);
      prepares = λ numbered. absurd (let none : 0 < 0 = numbered in omega (arith, none));
      ruled = λ kept. unkeyed ruling.book ruling.keys due.row c message.payload hostgroup text multiplex port ruled;
      nothing = nothing;
      flag = flag;
      command = due.command;
      work = text_work ordinal hostgroup since multiplex form (spelling 0 (text_payload due.command));
      statements = due.taken.statements;
      asked = λ setup keyed. ap (option_map (request_of setup due.row.desk.seat.place.schema 0 (λ (key : ℕ). key))) asks;
      request = λ reads classes. record {
        ordinal_is = refl;
        key_is = refl;
        multiplex_is = refl;
        kind = at.kind;
        marks = at.marked reads classes;
        form = at.formed reads classes;
        body = (at.says, refl);
      };
      at = refl;
      numbered = λ prepares. (let no : Plain ≡ Prepare = prepares in absurd (cc));
      keyed_for = λ setup keyed story_due key place. keyed_so setup (route_by hostgroup text multiplex) story_due due.command at.kind refl;
      whole = λ bound. whole_so due.command at.kind;
      noted = noted_there false old c due.row message due.taken.statements due.there found due.taken.noted;
      same = due.taken.same;
    })
