-- The tables stand once a client's next message was taken up.
use Rattle.std.specs.Prelude.{◌≡◌, ◌≤◌, ◌<◌, ◌-◌, ℕ, suc, Bool, true, false, not, is_some, ◌&&◌, drop, take, if◌then◌else◌, nat_eq, slice_get, slice_index_or, unwrap_or, List, Option, Some, None}
use Rattle.std.specs.Option.{option_and_then, option_map, option_map_or}
use Rattle.std.proofs.Common.{refl, sym, ap, ◌∙◌, subst, arith}
use Rattle.std.proofs.lemmas.Option.{none-some}
use Rattle.mx_base.specs.Fields.{number_at}
use Rattle.mx_base.specs.declared.names.Hostgroup.{Hostgroup}
use Rattle.mx_base.specs.declared.names.LinkId.{LinkId}
use Rattle.packet_frame.specs.Packets.{Framed}
use Rattle.private_model.proofs.Maps.{client_of, number_of}
use Rattle.private_model.specs.Commands as commands
use Rattle.private_model.specs.Commands.{Command}
use Rattle.private_model.specs.Story.{BecameDue, Happening, Left, is_client, is_message}
use Rattle.private_model.specs.Names.{SessionName}
use Rattle.private_model.specs.View.{Link, Setup, View}
use Rattle.log_story.specs.Clients.{copied, due_by, is_up, next_taken, taken_by}
use Rattle.log_story.specs.Executes.{Prepared, Request, args_in, executed_by, prepared_by, requested, run_of, text_asked}
use Rattle.log_story.specs.Owed.{messages, name_of}
use Rattle.log_story.specs.Plan.{Plan, Route, com_execute, com_field_list, com_init_db, com_prepare, com_query}
use Rattle.log_story.specs.Tale as tales
use Rattle.log_story.specs.Tale.{is_to_server, link_in, tell, with_client}
use Rattle.step_laws.specs.Seats.{IsSeated}
use Rattle.step_laws.specs.Taken.{next_made, next_of}
use Rattle.link_state.specs.declared.asking.Asking.{Asking}
use Rattle.link_state.specs.declared.asking.Purpose.{Purpose}
use Rattle.link_state.specs.declared.asking.Purpose.TheVariants as purposes
use Rattle.lent_link.specs.declared.link.Begins.{Begins}
use Rattle.lent_link.specs.declared.link.Begins.TheVariants as begins
use Rattle.served_link.specs.declared.row.Row.{Row}
use Rattle.link_state.specs.declared.wish.Command.TheVariants.{Plain, Prepare, Execute}
use Rattle.desk_laws.specs.Stands.{kind_of}
use Rattle.client_seat.specs.Requests.{Says, text_in}
use Rattle.client_desk.specs.declared.work.Work.{Work}
use Rattle.core_tables.specs.Tables.{Tabled, client_changed, client_put}
use Rattle.core_tables.specs.declared.client.Client.{Client}
use Rattle.core_tables.specs.declared.server.Server.{Server}
use Rattle.core_stands.specs.Grounds.{Ground, view_on}
use Rattle.core_stands.specs.Servers.{IsNextFor, IsNextOf, IsServerBy, IsServerOr, IsTakenUp}
use Rattle.core_laws.specs.parting.Frames.{SparesNext, SparesNextFor, SparesRowOr}
use Rattle.core_laws.proofs.OfTaking.Going.{its_taken}
use Rattle.core_laws.specs.taking.Takes.{IsSent, is_reset, route_of, took}

-- The tables.

pub row_put : (t : Tabled) (client : tales.Client) (row new : Client) (by : Client → Client) → t.clients client.number ≡ Some row → by row ≡ new
    → client_changed client.number by t ≡ client_put client.number (Some new) t
row_put t client row new by there is =
    ap (λ (found : Option Client). client_put client.number (option_map by found) t) there ∙ ap (λ (x : Client). client_put client.number (Some x) t) is

-- The tale.

pub took_answered : (g : Ground) (client : tales.Client) (message : Framed) → route_of g client ≡ None → is_reset message ≡ false
    → took g client message ≡ with_client (next_of client) g.tale
took_answered g client message unrouted plain =
    ap (λ (route : Option Route). with_client (next_of client) (taken_by g.setup g.plan client (suc client.taken) message route g.tale)) unrouted
    ∙ ap (λ (b : Bool). with_client (next_of client) (if b then tell (Left client.number) g.tale else g.tale)) plain

pub took_reset : (g : Ground) (client : tales.Client) (message : Framed) → route_of g client ≡ None → is_reset message ≡ true
    → took g client message ≡ with_client (next_of client) (tell (Left client.number) g.tale)
took_reset g client message unrouted reset =
    ap (λ (route : Option Route). with_client (next_of client) (taken_by g.setup g.plan client (suc client.taken) message route g.tale)) unrouted
    ∙ ap (λ (b : Bool). with_client (next_of client) (if b then tell (Left client.number) g.tale else g.tale)) reset

says_is : (found : Option Command) (command : Command) → option_map (λ (c : Command). Says c) found ≡ Some (Says command) → found ≡ Some command
says_is None command is = absurd (cc)
says_is (Some c) command is =
    let same : Says c ≡ Says command = cc in
    let one : c ≡ command = cc in
    ap (λ (x : Command). Some x) one

not_execute : (byte : ℕ) (rest : List ℕ) (command : Command) → text_asked byte rest ≡ Some command → nat_eq byte com_execute ≡ false
not_execute byte rest command asked = by (nat_eq byte com_execute) refl where
  by : (b : Bool) → nat_eq byte com_execute ≡ b → nat_eq byte com_execute ≡ false
  by false e = e
  by true e =
      let no : text_asked com_execute rest ≡ Some command =
      subst (λ (b : ℕ). text_asked b rest ≡ Some command) (number_of byte com_execute e) asked in
      absurd (none-some command no)

-- a text by the key of its route
pub requested_is : (setup : Setup) (view : View) (plan : Plan) (client : tales.Client) (ordinal : ℕ) (route : Route) (payload : List ℕ) (command : Command)
    → text_in payload route.text ≡ Some (Says command)
    → requested setup view plan client ordinal route payload ≡ Some (record { command = command; key = route.key })
requested_is setup view plan client ordinal route payload command asked =
    let byte : ℕ = slice_index_or payload 0 0 in
    let rest : List ℕ = unwrap_or route.text (drop 1 payload) in
    let found : text_asked byte rest ≡ Some command = says_is (text_asked byte rest) command asked in
    ap (λ (b : Bool). if b then option_and_then (executed_by setup view plan client ordinal route payload)
    (number_at 4 1 payload)
    else option_map {U = Request} (λ (c : Command). record { command = c; key = route.key }) (text_asked byte rest)) (not_execute byte rest command found)
    ∙ ap (option_map {U = Request} (λ (c : Command). record { command = c; key = route.key })) found

-- What is to be prepared is asked for by a STMT_PREPARE.

no_command : {A : Type 0} (command : Command) → None ≡ Some command → A
no_command command same = absurd (cc)

prepare_asked : (query init fields prepare : Bool) (rest : List ℕ) (command : Command)
    → (if query then Some (commands.Query rest) else if init then Some (commands.InitDb rest) else if fields then Some (commands.FieldList rest)
    else if prepare then Some (commands.Prepare rest) else None) ≡ Some command → kind_of command ≡ Prepare → prepare ≡ true
prepare_asked true init fields prepare rest command same kind =
    let one : commands.Query rest ≡ command = cc in
    let no : Plain ≡ Prepare = ap kind_of one ∙ kind in absurd (cc)
prepare_asked false true fields prepare rest command same kind =
    let one : commands.InitDb rest ≡ command = cc in
    let no : Plain ≡ Prepare = ap kind_of one ∙ kind in absurd (cc)
prepare_asked false false true prepare rest command same kind =
    let one : commands.FieldList rest ≡ command = cc in
    let no : Plain ≡ Prepare = ap kind_of one ∙ kind in absurd (cc)
prepare_asked false false false true rest command same kind = refl
prepare_asked false false false false rest command same kind = no_command command same

module _ (setup : Setup) (view : View) (plan : Plan) (client : tales.Client) (ordinal : ℕ) (route : Route) (payload : List ℕ) (command : Command) (key : ℕ)
    (kind : kind_of command ≡ Prepare) where
  run_no : (found : Option Prepared) (number : ℕ)
      → option_map (λ (p : Prepared). run_of setup (args_in p.params number (λ i. not (is_some (plan.routes (name_of client i)))) p.ordinal
      (take (ordinal - 1) (messages plan client)) payload) (view.places client.number).schema route.key p.key) found ≡ Some (record { command = command; key = key }) → ⊥
  run_no None number same = absurd (let no = same in cc)
  run_no (Some p) number same =
      let no : Execute ≡ Prepare =
      ap (λ (r : Option Request). option_map_or (λ (x : Request). kind_of x.command) r Execute) same ∙ kind in
      absurd (cc)

  executed_no : (number : Option ℕ) → option_and_then (executed_by setup view plan client ordinal route payload) number ≡ Some (record { command = command; key = key }) → ⊥
  executed_no None same = absurd (let no = same in cc)
  executed_no (Some number) same = run_no (prepared_by view plan client number 1 (messages plan client)) number same

  text_is : (found : Option Command) → option_map {U = Request} (λ (c : Command). record { command = c; key = route.key }) found ≡ Some (record { command = command; key = key })
      → found ≡ Some command
  text_is None same = absurd (let no = same in cc)
  text_is (Some c) same =
      let one : c ≡ command = ap (λ (r : Option Request). option_map_or (λ (x : Request). x.command) r command) same in
      ap (λ (x : Command). Some x) one

  pub prepare_byte : requested setup view plan client ordinal route payload ≡ Some (record { command = command; key = key })
      → nat_eq (slice_index_or payload 0 0) com_prepare ≡ true
  prepare_byte = by (nat_eq (slice_index_or payload 0 0) com_execute) where
    by : (executes : Bool)
        → (if executes then option_and_then (executed_by setup view plan client ordinal route payload) (number_at 4 1 payload)
        else option_map {U = Request} (λ (c : Command). record { command = c; key = route.key }) (text_asked (slice_index_or payload 0 0) (unwrap_or route.text (drop 1 payload))))
        ≡ Some (record { command = command; key = key }) → nat_eq (slice_index_or payload 0 0) com_prepare ≡ true
    by true same = absurd (executed_no (number_at 4 1 payload) same)
    by false same =
        let byte : ℕ = slice_index_or payload 0 0 in
        let rest : List ℕ = unwrap_or route.text (drop 1 payload) in
        prepare_asked (nat_eq byte com_query) (nat_eq byte com_init_db) (nat_eq byte com_field_list) (nat_eq byte com_prepare) rest command
        (text_is (text_asked byte rest) same) kind

module _ (g : Ground) (client : tales.Client) (message : Framed) (route : Route) (command : Command)
    (work : Work) (sends : IsSent g client message route command work) where
  abbrev pub due_now : Happening
  due_now = BecameDue client.number work.hostgroup (suc client.taken) work.key command route.multiplex

  pub took_sent : took g client message ≡ with_client (next_of client) (tell due_now g.tale)
  took_sent =
      ap (λ (r : Option Route). with_client (next_of client) (taken_by g.setup g.plan client (suc client.taken) message r g.tale)) sends.routed
      ∙ ap (λ (r : Option Request). with_client (next_of client) (due_by client (suc client.taken) route r g.tale))
      sends.asked
      ∙ ap (λ (mirror : Option Hostgroup). with_client (next_of client)
      (copied (name_of client (suc client.taken)) command mirror
      (tell (BecameDue client.number route.hostgroup (suc client.taken) work.key command route.multiplex) g.tale))) sends.single
      ∙ ap (λ (h : Hostgroup). with_client (next_of client)
      (tell (BecameDue client.number h (suc client.taken) work.key command route.multiplex) g.tale)) (sym sends.hostgroup)

  -- What stands next on a link is of a message that was taken up before.

  other_ordinal : (at : ℕ) → at ≤ client.taken → nat_eq at (suc client.taken) ≡ false
  other_ordinal at before = by at (suc client.taken) (omega arith) where
    by : (a b : ℕ) → a < b → nat_eq a b ≡ false
    by a b below = grind arith

  and_false : (b : Bool) → (b && false) ≡ false
  and_false true = refl
  and_false false = refl

  module _ (t : Tabled) (seated : IsSeated g.tale client) where
    spares_taken : (n : SessionName) (at : ℕ) → IsTakenUp g n at
        → is_message (record { client = n.client; ordinal = at }) (record { client = client.number; ordinal = suc client.taken }) ≡ false
    spares_taken n at up = by (is_client n.client client.number) refl where
      by : (b : Bool) → is_client n.client client.number ≡ b
          → is_message (record { client = n.client; ordinal = at }) (record { client = client.number; ordinal = suc client.taken }) ≡ false
      by false e = ap (λ (b : Bool). b && nat_eq at (suc client.taken)) e
      by true e =
          ap (λ (b : Bool). is_client n.client client.number && b)
          (other_ordinal at (its_taken g client seated n at up (client_of n.client client.number e)))
          ∙ and_false (is_client n.client client.number)

    spares_for : (row : Row) (link : Link) (asking : Asking) (purpose : Purpose) → IsNextFor purpose g t row link asking → SparesNextFor purpose due_now
    spares_for row link asking (purposes.Statement n at key) is = spares_taken n at is.taken_up
    spares_for row link asking (purposes.Prep n at key) is = spares_taken n at is.taken_up
    spares_for row link asking (purposes.Sync n) is = tt
    spares_for row link asking purposes.Own is = tt
    spares_for row link asking (purposes.End n) is = tt
    spares_for row link asking (purposes.Capture n) is = tt

    spares_next : (row : Row) (link : Link) (next : Option Begins) → IsNextOf next g t row link → SparesNext next due_now
    spares_next row link None is = tt
    spares_next row link (Some (begins.Asks asking)) is = spares_for row link asking asking.purpose is.1
    spares_next row link (Some (begins.Closes number)) is = tt
    spares_next row link (Some (begins.Resets number)) is = tt
    spares_next row link (Some begins.Quits) is = tt

    spares_by : (l : LinkId) (to_server : Bool) (found : Option Server)
        → IsServerBy to_server g t l found → SparesRowOr (view_on g) due_now found
    spares_by l true (Some server) is = record {
      session = λ whole n named. tt;
      next = spares_next server.row (link_in g.setup g.tale l) server.row.link.next is.next;
    }
    spares_by l true None is = tt
    spares_by l false (Some server) is = absurd (cc)
    spares_by l false None is = tt

    pub spares_row : (l : LinkId) → IsServerOr g t l (t.links l) → SparesRowOr (view_on g) due_now (t.links l)
    spares_row l is = spares_by l (is_to_server g.tale l) (t.links l) is

-- It is what is taken up next.
pub next_so : (g : Ground) (client : tales.Client) (message : Framed) → slice_get (messages g.plan client) client.taken ≡ Some message
    → is_up g.setup g.plan client g.tale ≡ true
    → next_made g.setup g.plan client g.tale ≡ Some (taken_by g.setup g.plan client (suc client.taken) message (route_of g client) g.tale)
next_so g client message next up =
    ap (λ (found : Option Framed). next_taken g.setup g.plan client found g.tale) next
    ∙ ap (λ (b : Bool). if b then Some (taken_by g.setup g.plan client (suc client.taken) message (route_of g client) g.tale) else None) up
