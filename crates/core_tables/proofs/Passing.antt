-- A client's row as its message is taken up.
use Rattle.std.specs.Prelude.{◌≡◌, ℕ, Bool, false, nat_eq, if◌then◌else◌, Err, IfSome, IsSome, List, Ok, OnOk, Option, Result, Some, None}
use Rattle.std.specs.HashMap.{get}
use Rattle.std.specs.Option.{option_and_then, option_map}
use Rattle.mx_base.specs.declared.names.ClientNo.{ClientNo}
use Rattle.stmt_map.specs.declared.client.ClientStatements.{ClientStatements}
use Rattle.core_tables.specs.Tables.{IsSame, client_changed, tables_of}
use Rattle.core_tables.specs.declared.tables.Tables.{Tables}
use Rattle.std.proofs.Common.{refl, sym, ap, ◌∙◌, subst}
use Rattle.packet_frame.specs.Packets.{Framed}
use Rattle.packet_frame.specs.Packets.{spelling}
use Rattle.private_model.specs.Commands.{Args, Command}
use Rattle.log_story.specs.Plan.{text_payload}
use Rattle.client_seat.specs.Numbers.{AreNoted}
use Rattle.client_seat.specs.Requests.{Asked, IsAsked, Runs, Says, asked_in}
use Rattle.client_seat.specs.declared.request.Request.{Request}
use Rattle.client_seat.specs.declared.request.Request.TheVariants.{Run, Text}
use Rattle.client_seat.specs.Takings.{taken_to}
use Rattle.client_seat.specs.declared.seat.Seat.{Seat}
use Rattle.client_desk.specs.Desks.{taken_on}
use Rattle.client_desk.specs.declared.work.Work.{Work}
use Rattle.core_tables.specs.Taking.{AreNotedIn, AreNotedOf, IsDue, IsRunAs, IsRunDue, IsSentAs, IsTaken, found_of, goes, goes_found}
use Rattle.core_tables.specs.declared.client.Client.{Client}

-- What it asks for that goes to a server.

abbrev pub packets_of : Request → Option (List ℕ)
packets_of (Text kind packets) = Some packets.items
packets_of (Run key args) = None

pub asked_text : (asked : Option Asked) (request : Request) (packets : List ℕ) → IsAsked asked (Some request) → packets_of request ≡ Some packets
    → (command : Command) × (asked ≡ Some (Says command)) × (packets ≡ spelling 0 (text_payload command))
asked_text None request packets is of = absurd is
asked_text (Some (Says command)) (Text kind p) packets is of =
    let same : p.items ≡ packets = cc in
    (command, refl, sym same ∙ is.spelt)
asked_text (Some (Says command)) (Run key args) packets is of = absurd is
asked_text (Some (Runs key args)) (Text kind p) packets is of = absurd is
asked_text (Some (Runs key args)) (Run other with_args) packets is of = absurd (cc)

-- A row changed where it is.

pub changed_so : (old new : Tables) (c : ClientNo) (by : Client → Client) (row after : Client)
    → get nat_eq old.clients c.0 ≡ Some row → after ≡ by row
    → ((k : ℕ) → get nat_eq new.clients k ≡ (if nat_eq c.0 k then Some after else get nat_eq old.clients k))
    → ((k : ℕ) → get nat_eq new.numbers k ≡ get nat_eq old.numbers k) → ((k : ℕ) → get nat_eq new.links k ≡ get nat_eq old.links k)
    → IsSame (tables_of new) (client_changed c by (tables_of old))
unfolding tables_of
changed_so old new c by row after there is clients numbers links = record {
  clients = λ x. clients x.0
      ∙ ap (λ (found : Option Client). if nat_eq c.0 x.0 then found else get nat_eq old.clients x.0)
      (ap (λ (r : Client). Some r) is ∙ sym (ap (option_map by) there));
  numbers = λ l. numbers l.0;
  links = λ l. links l.0;
}

pub taken_so : (refused : Bool) (old new : Tables) (c : ClientNo) (by : ClientStatements → Client → Client) (row after : Client)
    (statements : ClientStatements) → get nat_eq old.clients c.0 ≡ Some row → after ≡ by statements row → AreNotedOf refused row statements
    → ((k : ℕ) → get nat_eq new.clients k ≡ (if nat_eq c.0 k then Some after else get nat_eq old.clients k))
    → ((k : ℕ) → get nat_eq new.numbers k ≡ get nat_eq old.numbers k) → ((k : ℕ) → get nat_eq new.links k ≡ get nat_eq old.links k)
    → IsTaken refused by c (tables_of old) (tables_of new)
unfolding tables_of
taken_so refused old new c by row after statements there is noted clients numbers links = record {
  statements = statements;
  noted = subst (λ (found : Option Client). AreNotedIn refused found statements) (sym there) noted;
  same = changed_so old new c (by statements) row after there is clients numbers links;
}

-- by two facts of what was done
pub on_both : {T E P Q R : Type 0} (r : Result T E) → (P → Q → R) → OnOk r P → OnOk r Q → OnOk r R
on_both (Ok x) so p q = so p q
on_both (Err e) so p q = tt

-- Its statement is due, as what its message asks for.
pub sent_so : (old : Client) (flag : ℕ) (text : Option (List ℕ)) (work : List ℕ → Work) (seat : Seat) (request : Request) (packets : List ℕ)
    → IsSome (found_of old) → packets_of request ≡ Some packets
    → IfSome (found_of old) (λ (message : Framed). IsAsked (asked_in old.desk.seat.statements message.payload text) (Some request))
    → IfSome (found_of old) (λ (message : Framed). seat ≡ taken_to (work packets).hostgroup flag message seat.statements old.desk.seat)
    → IfSome (found_of old) (λ (message : Framed). AreNoted false message.payload old.desk.seat.statements seat.statements)
    → ((bytes : List ℕ) → (work bytes).hostgroup ≡ (work packets).hostgroup)
    → (new : Client) → new ≡ record old { desk = taken_on (work packets) (record old.desk { seat = seat }); went = Some (work packets).hostgroup }
    → IsSentAs flag text work old new
sent_so old flag text work seat request packets some of asked taken noted same new is = by (found_of old) refl some asked taken where
  by : (found : Option Framed) → found_of old ≡ found → IsSome found
      → IfSome found (λ (message : Framed). IsAsked (asked_in old.desk.seat.statements message.payload text) (Some request))
      → IfSome found (λ (message : Framed). seat ≡ taken_to (work packets).hostgroup flag message seat.statements old.desk.seat)
      → IsSentAs flag text work old new
  by None at none asks takes = absurd (cc)
  by (Some message) at here asks takes =
      let it = asked_text (asked_in old.desk.seat.statements message.payload text) request packets asks of in
      let spelt : packets ≡ spelling 0 (text_payload it.0) = it.2 in
      let statements : new.desk.seat.statements ≡ seat.statements = ap (λ (x : Client). x.desk.seat.statements) is in
      record {
        command = it.0;
        asked = ap (λ (f : Option Framed). option_and_then (λ (m : Framed). asked_in old.desk.seat.statements m.payload text) f) at ∙ it.1;
        is =
            is
            ∙ ap (λ (s : Seat). record old { desk = taken_on (work packets) (record old.desk { seat = s }); went = Some (work packets).hostgroup }) takes
            ∙ sym (ap (λ (f : Option Framed). goes_found flag (work packets) seat.statements f old) at)
            ∙ ap (λ (bytes : List ℕ). goes flag (work bytes) seat.statements old) spelt
            ∙ ap (λ (st : ClientStatements). goes flag (work (spelling 0 (text_payload it.0))) st old) (sym statements);
        noted = subst (AreNotedOf false old) (sym statements) noted;
      }

-- the same of the tables
pub due_so : (old new : Tables) (c : ClientNo) (flag : ℕ) (text : Option (List ℕ)) (work : List ℕ → Work) (row after : Client)
    → get nat_eq old.clients c.0 ≡ Some row → IsSentAs flag text work row after
    → ((k : ℕ) → get nat_eq new.clients k ≡ (if nat_eq c.0 k then Some after else get nat_eq old.clients k))
    → ((k : ℕ) → get nat_eq new.numbers k ≡ get nat_eq old.numbers k) → ((k : ℕ) → get nat_eq new.links k ≡ get nat_eq old.links k)
    → IsDue flag text work c (tables_of old) (tables_of new)
unfolding tables_of
due_so old new c flag text work row after there is clients numbers links = record {
  row = row;
  there = there;
  command = is.command;
  asked = is.asked;
  taken = taken_so false old new c (goes flag (work (spelling 0 (text_payload is.command)))) row after after.desk.seat.statements there is.is is.noted
      clients numbers links;
}

-- An execute asks for the run of what is prepared.
pub asked_run : (asked : Option Asked) (request : Request) (key : ℕ) (args : Args) → IsAsked asked (Some request) → request ≡ Run key args
    → asked ≡ Some (Runs key args)
asked_run None request key args is of = absurd is
asked_run (Some (Says command)) (Text kind packets) key args is of = absurd (cc)
asked_run (Some (Says command)) (Run other given) key args is of = absurd is
asked_run (Some (Runs other given)) (Text kind packets) key args is of = absurd is
asked_run (Some (Runs other given)) (Run found with_args) key args is of =
    let same : found ≡ key = cc in
    let so : with_args ≡ args = cc in
    λ i. Some (Runs ((sym is.same ∙ same) i) ((sym is.given ∙ so) i))

pub ran_so : (old : Client) (flag : ℕ) (work : Args → Work) (seat : Seat) (request : Request) (key : ℕ) (args : Args)
    → IsSome (found_of old) → request ≡ Run key args
    → IfSome (found_of old) (λ (message : Framed). IsAsked (asked_in old.desk.seat.statements message.payload None) (Some request))
    → IfSome (found_of old) (λ (message : Framed). seat ≡ taken_to (work args).hostgroup flag message seat.statements old.desk.seat)
    → IfSome (found_of old) (λ (message : Framed). AreNoted false message.payload old.desk.seat.statements seat.statements)
    → (new : Client) → new ≡ record old { desk = taken_on (work args) (record old.desk { seat = seat }); went = Some (work args).hostgroup }
    → IsRunAs flag work old new
ran_so old flag work seat request key args some of asked taken noted new is = by (found_of old) refl some asked taken where
  by : (found : Option Framed) → found_of old ≡ found → IsSome found
      → IfSome found (λ (message : Framed). IsAsked (asked_in old.desk.seat.statements message.payload None) (Some request))
      → IfSome found (λ (message : Framed). seat ≡ taken_to (work args).hostgroup flag message seat.statements old.desk.seat)
      → IsRunAs flag work old new
  by None at none asks takes = absurd (cc)
  by (Some message) at here asks takes =
      let statements : new.desk.seat.statements ≡ seat.statements = ap (λ (x : Client). x.desk.seat.statements) is in
      record {
        key = key;
        args = args;
        asked =
            ap (λ (f : Option Framed). option_and_then (λ (m : Framed). asked_in old.desk.seat.statements m.payload None) f) at
            ∙ asked_run (asked_in old.desk.seat.statements message.payload None) request key args asks of;
        is =
            is
            ∙ ap (λ (s : Seat). record old { desk = taken_on (work args) (record old.desk { seat = s }); went = Some (work args).hostgroup }) takes
            ∙ sym (ap (λ (f : Option Framed). goes_found flag (work args) seat.statements f old) at)
            ∙ ap (λ (st : ClientStatements). goes flag (work args) st old) (sym statements);
        noted = subst (AreNotedOf false old) (sym statements) noted;
      }

pub run_so : (old new : Tables) (c : ClientNo) (flag : ℕ) (work : Args → Work) (row after : Client)
    → get nat_eq old.clients c.0 ≡ Some row → IsRunAs flag work row after
    → ((k : ℕ) → get nat_eq new.clients k ≡ (if nat_eq c.0 k then Some after else get nat_eq old.clients k))
    → ((k : ℕ) → get nat_eq new.numbers k ≡ get nat_eq old.numbers k) → ((k : ℕ) → get nat_eq new.links k ≡ get nat_eq old.links k)
    → IsRunDue flag work c (tables_of old) (tables_of new)
unfolding tables_of
run_so old new c flag work row after there is clients numbers links = record {
  row = row;
  there = there;
  key = is.key;
  args = is.args;
  asked = is.asked;
  taken = taken_so false old new c (goes flag (work is.args)) row after after.desk.seat.statements there is.is is.noted clients numbers links;
}
