-- What is due is a statement, and was sent to no link.
use Rattle.std.specs.Prelude.{◌≡◌, ℕ, Bool, true, false, nat_eq, if◌then◌else◌, List, ◌∷◌, slice_index_or, unwrap_or, drop, Option, Some, None}
use Rattle.std.specs.Option.{option_and_then, option_map}
use Rattle.std.proofs.Common.{refl, sym, ap, ◌∙◌, subst}
use Rattle.mx_base.specs.Fields.{number_at}
use Rattle.private_model.proofs.Maps.{message_is, name_of as named, same_name}
use Rattle.private_model.specs.Commands.{Command}
use Rattle.private_model.specs.Lawful.{is_statement}
use Rattle.private_model.specs.Names.{ClientNo, Hostgroup, LinkId, MessageName, SessionName}
use Rattle.private_model.specs.Story.{BecameDue, Broke, Capture, Dropped, Due, End, Freed, Gone, Happening, Heard, Left, LoggedIn, Mirrored, Own, Prep, Question, Ran, Sent, Statement, Story, Sync, Unprepared}
use Rattle.private_model.specs.Story.{for_statement, is_message, is_name, message_of, put}
use Rattle.private_model.specs.View.{Answered, Asked, Quiet, Setup, Stage, View, due_of, first_view, present, view_after, view_heard}
use Rattle.log_story.specs.Executes.{Request, executed_by, requested, text_asked}
use Rattle.log_story.specs.Plan.{Plan, Route, com_execute, com_field_list, com_init_db, com_prepare, com_query}
use Rattle.log_story.specs.Tale.{Client}
use Rattle.shared_router.proofs.Lonely.{Lone}
use Rattle.shared_router.proofs.Walks.{MayTell}

no_some : {A B : Type 0} (a : A) → None ≡ Some a → B
no_some a is = absurd (cc)

some_of : {A : Type 0} (a b : A) → Some a ≡ Some b → a ≡ b
some_of a b is = cc

isnt : {A : Type 0} → false ≡ true → A
isnt is = absurd (cc)

pub record IsFitDue (carriers : MessageName → Option LinkId) (m : MessageName) (due : Due) : Type 0 where
  pub statement : is_statement due.command ≡ true
  pub unsent : carriers m ≡ None

abbrev pub AreFit : View → Type 0
AreFit view = (n : SessionName) (due : Due) → view.dues n ≡ Some due → IsFitDue view.carriers (message_of n due) due

abbrev pub Fit : Setup → Story → Type 0
Fit setup story = AreFit (view_after setup story)

pub first_fit : (setup : Setup) → AreFit (first_view setup)
first_fit setup n due is = no_some due is

module _ (setup : Setup) where
  -- another statement is sent
  sent_fit : (view : View) (link : LinkId) (n : SessionName) (due : Due) → view.dues n ≡ Some due
      → ((k : SessionName) (other : Due) → view.dues k ≡ Some other → message_of k other ≡ message_of n due → k ≡ n) → AreFit view
      → (k : SessionName) (other : Due) → put is_name view.dues n None k ≡ Some other
      → IsFitDue (put is_message view.carriers (message_of n due) (Some link)) (message_of k other) other
  sent_fit view link n due at once fit k other is = by_name (is_name k n) refl is where
    by_message : view.dues k ≡ Some other → is_name k n ≡ false → (b : Bool) → is_message (message_of k other) (message_of n due) ≡ b
        → (if b then Some link else view.carriers (message_of k other)) ≡ None
    by_message there apart true same =
        isnt (sym apart ∙ ap (λ x. is_name x n) (once k other there (message_is (message_of k other) (message_of n due) same)) ∙ same_name n)
    by_message there apart false other_one = (fit k other there).unsent

    by_name : (b : Bool) → is_name k n ≡ b → (if b then None else view.dues k) ≡ Some other
        → IsFitDue (put is_message view.carriers (message_of n due) (Some link)) (message_of k other) other
    by_name true here there = no_some other there
    by_name false apart there = record {
      statement = (fit k other there).statement;
      unsent = by_message there apart (is_message (message_of k other) (message_of n due)) refl;
    }

  asked_fit : (past : Story) (link : LinkId) (question : Question) → MayTell (view_after setup past) (Sent link question) → Lone setup past → Fit setup past → Fit setup (Sent link question ∷ past)
  asked_fit past link (Statement n due) may lone fit =
      let view = view_after setup past in
      sent_fit view link n due may (λ k other there same. lone.once (message_of n due) k n (other, (there, same)) (due, (may, refl))) fit
  asked_fit past link (Prep n key text) may lone fit = fit
  asked_fit past link (Sync n command) may lone fit = fit
  asked_fit past link (Own command) may lone fit = fit
  asked_fit past link (End n) may lone fit = fit
  asked_fit past link (Capture n) may lone fit = fit

  heard_fit : (view : View) (link : LinkId) (past : Story) (stage : Stage) → AreFit view → (reply : _) → AreFit (view_heard setup view link reply stage)
  heard_fit view link past Quiet fit reply = fit
  heard_fit view link past (Asked question) fit reply = fit
  heard_fit view link past (Answered question) fit reply = fit

  pub more_fit : (past : Story) (e : Happening) → MayTell (view_after setup past) e → Lone setup past → Fit setup past → Fit setup (e ∷ past)
  more_fit past (BecameDue client hostgroup ordinal key command multiplex) may lone fit = absurd may
  more_fit past (Sent link question) may lone fit = asked_fit past link question may lone fit
  more_fit past (Heard link reply) may lone fit = heard_fit (view_after setup past) link past ((view_after setup past).links link).stage fit reply
  more_fit past Broke may lone fit = absurd may
  more_fit past _ may lone fit = fit

  -- one that is new becomes due
  pub comes_fit : (past : Story) (client : ClientNo) (hostgroup : Hostgroup) (ordinal key : ℕ) (command : Command) (multiplex : Option Bool)
      → is_statement command ≡ true → (view_after setup past).carriers (record { client = client; ordinal = ordinal }) ≡ None
      → Fit setup past → Fit setup (BecameDue client hostgroup ordinal key command multiplex ∷ past)
  comes_fit past client hostgroup ordinal key command multiplex statement none fit n due is = by_name (is_name n here) refl is where
    view : View
    view = view_after setup past

    here : SessionName
    here = present view client hostgroup

    came : Due
    came = due_of view here ordinal key command multiplex

    by_name : (b : Bool) → is_name n here ≡ b → (if b then Some came else view.dues n) ≡ Some due → IsFitDue view.carriers (message_of n due) due
    by_name true same there =
        subst (λ (k : SessionName). IsFitDue view.carriers (message_of k due) due) (sym (named n here same))
        (subst (λ (d : Due). IsFitDue view.carriers (message_of here d) d) (some_of came due there) (record { statement = statement; unsent = none }))
    by_name false apart there = fit n due there

-- What is asked for is a statement.

mapped : {A : Type 0} (f : A → Request) (o : Option A) (request : Request) → ((a : A) → is_statement (f a).command ≡ true) → option_map f o ≡ Some request
    → is_statement request.command ≡ true
mapped f None request each is = no_some request is
mapped f (Some a) request each is = subst (λ (x : Request). is_statement x.command ≡ true) (some_of (f a) request is) (each a)

command_if : (b : Bool) (c : Command) (o : Option Command) (command : Command) → is_statement c ≡ true → (o ≡ Some command → is_statement command ≡ true)
    → (if b then Some c else o) ≡ Some command → is_statement command ≡ true
command_if true c o command first later is = subst (λ (x : Command). is_statement x ≡ true) (some_of c command is) first
command_if false c o command first later is = later is

text_statement : (byte : ℕ) (rest : List ℕ) (command : Command) → text_asked byte rest ≡ Some command → is_statement command ≡ true
text_statement byte rest command =
    command_if (nat_eq byte com_query) _ _ command refl
    (command_if (nat_eq byte com_init_db) _ _ command refl
    (command_if (nat_eq byte com_field_list) _ _ command refl
    (command_if (nat_eq byte com_prepare) _ _ command refl (λ is. no_some command is))))

pub requested_statement : (setup : Setup) (view : View) (plan : Plan) (client : Client) (ordinal : ℕ) (route : Route) (payload : List ℕ) (request : Request)
    → requested setup view plan client ordinal route payload ≡ Some request → is_statement request.command ≡ true
requested_statement setup view plan client ordinal route payload request = by_byte (nat_eq (slice_index_or payload 0 0) com_execute) where
  by_number : (o : Option ℕ) → option_and_then (executed_by setup view plan client ordinal route payload) o ≡ Some request → is_statement request.command ≡ true
  by_number None is = no_some request is
  by_number (Some number) is = mapped _ _ request (λ prepared. refl) is

  by_text : (o : Option Command) → ((command : Command) → o ≡ Some command → is_statement command ≡ true)
      → option_map (λ command. record { command = command; key = route.key }) o ≡ Some request → is_statement request.command ≡ true
  by_text None each is = no_some request is
  by_text (Some command) each is = subst (λ (x : Request). is_statement x.command ≡ true) (some_of _ request is) (each command refl)

  by_byte : (b : Bool) → (if b then option_and_then (executed_by setup view plan client ordinal route payload) (number_at 4 1 payload)
      else option_map (λ command. record { command = command; key = route.key }) (text_asked (slice_index_or payload 0 0) (unwrap_or route.text (drop 1 payload)))) ≡ Some request
      → is_statement request.command ≡ true
  by_byte true is = by_number (number_at 4 1 payload) is
  by_byte false is =
      by_text (text_asked (slice_index_or payload 0 0) (unwrap_or route.text (drop 1 payload)))
      (λ command at. text_statement (slice_index_or payload 0 0) (unwrap_or route.text (drop 1 payload)) command at) is
