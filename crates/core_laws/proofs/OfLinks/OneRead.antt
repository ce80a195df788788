-- Bytes are read on a link to a server that carries a session.
use Rattle.std.specs.Prelude.{◌≡◌, ℕ, suc, Bool, true, false, ◌||◌, ◌&&◌, not, All, if◌then◌else◌, filter, map, List, [], ◌∷◌, Option, Some, None}
use Rattle.std.specs.List.{list_any}
use Rattle.std.specs.Option.{option_map_or}
use Rattle.std.proofs.Common.{refl, sym, ◌∙◌, ap, arith, subst}
use Rattle.std.proofs.lemmas.Bool.{true≢false}
use Rattle.std.proofs.lemmas.List.Elements.{All-weaker}
use Rattle.std.proofs.lemmas.Option.{none-some, same_Some}
use Rattle.client_session.specs.Setups.{Setup as Service}
use Rattle.mx_wire.specs.declared.entry.Entry.TheVariants as entry
use Rattle.reply_track.specs.Runs.{Ending}
use Rattle.reply_track.specs.Runs.Ending.{Going, Ended, Failed}
use Rattle.reply_track.specs.declared.reply.ReplyKind.TheVariants as kind
use Rattle.server_side.specs.Login.{Opening, Goes, LogsIn, Fails, opening}
use Rattle.private_model.proofs.Maps.{name_of, same_link}
use Rattle.private_model.proofs.Maps as maps
use Rattle.private_model.specs.Names.{ClientNo, LinkId, SessionName}
use Rattle.private_model.specs.Story.{Capture, End, Own, Prep, Question, Statement, Sync, command_of, is_client, is_link_id, is_name}
use Rattle.private_model.specs.View.{Answered, Asked, Quiet, Stage, session_in}
use Rattle.log_story.proofs.Frames.{asker, asker_at}
use Rattle.log_story.specs.Owed.{name_of as message_at}
use Rattle.log_story.specs.Plan.{gives_up}
use Rattle.log_story.specs.Servers.{entered_by, heard_by, hears, kind_by, read_as, reset_by, runs_first, with_run}
use Rattle.log_story.specs.Tale.{Client, Tale, Wire, client_hears, is_reset_step, is_to_server, link_in}
use Rattle.log_story.specs.Telling.{server_says, told, wire_with}
use Rattle.tale_world.proofs.Telling.{told_of}
use Rattle.step_laws.proofs.Taking.{uncalled}
use Rattle.step_laws.proofs.Telling.{told_rests, told_spares}
use Rattle.step_laws.specs.Seats.{is_its}
use Rattle.step_laws.specs.Spared.{is_asked_by, may_be_freed, told_session}
use Rattle.step_laws.specs.Steps.{told_then}
use Rattle.step_laws.specs.Taken.{is_called}
use Rattle.core_tables.specs.Tables.{Tabled}
use Rattle.core_stands.specs.Grounds.{Ground, view_on}
use Rattle.core_stands.specs.Stands.{IsAt, Rests}
use Rattle.desk_laws.specs.Spares.{asked_for}
use Rattle.core_laws.specs.parting.Frames as frames
use Rattle.core_laws.specs.parting.Frames.{AreHomed}
use Rattle.core_laws.specs.entry.Calms.{is_asked_of}
use Rattle.core_laws.specs.entry.Entries.{AreSpared, IsSpared, OfItsLink}
use Rattle.core_laws.specs.entry.Kinds.{IsOnLink}
use Rattle.core_laws.proofs.OfLinks.Uncalled.{of_no_client}
use Rattle.core_laws.specs.links.Reading.{IsReadFor}

-- What is read on a link to a server leaves the clients.

entered_same : (g : Ground) (link : LinkId) (wire : Wire) (at : Opening) (tale : Tale) → (entered_by g.plan link wire at tale).clients ≡ tale.clients
entered_same g link wire (LogsIn said rest) tale = refl
entered_same g link wire (Goes said) tale = refl
entered_same g link wire (Fails said fault) tale = refl

reset_same : (link : LinkId) (wire : Wire) (ending : Ending) (tale : Tale) → (reset_by link wire ending tale).clients ≡ tale.clients
reset_same link wire (Ended end rest) tale = refl
reset_same link wire (Going state) tale = refl
reset_same link wire (Failed rest) tale = refl

heard_same : (link : LinkId) (question : Question) (wire : Wire) (ending : Ending) (tale : Tale) → (heard_by link question wire ending tale).clients ≡ tale.clients
heard_same link question wire (Ended end rest) tale = refl
heard_same link question wire (Going state) tale = refl
heard_same link question wire (Failed rest) tale = refl

hears_same : (link : LinkId) (wire : Wire) (stage : Stage) (tale : Tale) → (hears link wire stage tale).clients ≡ tale.clients
hears_same link wire Quiet tale = refl
hears_same link wire (Asked question) tale = refl
hears_same link wire (Answered question) tale = heard_same link question wire (read_as (kind_by (command_of question)) wire) tale

runs_same : (stage : Stage) (link : LinkId) (tale : Tale) → (runs_first stage link tale).clients ≡ tale.clients
runs_same Quiet link tale = refl
runs_same (Asked question) link tale = refl
runs_same (Answered question) link tale = refl

either : (b : Bool) (x y tale : Tale) → x.clients ≡ tale.clients → y.clients ≡ tale.clients → (if b then x else y).clients ≡ tale.clients
either true x y tale first second = first
either false x y tale first second = second

says_same : (g : Ground) (link : LinkId) (bytes : List ℕ) → (server_says g.setup g.plan link bytes g.tale).clients ≡ g.tale.clients
says_same g link bytes =
    let wire : Wire = wire_with g.tale link bytes in
    let ran : Tale = with_run g.setup link g.tale in
    either (not (g.tale.wires link).entered) _ _ g.tale (entered_same g link wire (opening (g.plan.logins link) wire.unread) g.tale)
    (either (is_reset_step (g.tale.wires link).step) _ _ g.tale (reset_same link wire (read_as kind.Command wire) g.tale)
    (hears_same link wire (link_in g.setup ran link).stage ran ∙ runs_same (link_in g.setup g.tale link).stage link g.tale))

pub read_clients : (g : Ground) (l : LinkId) (bytes : List ℕ) → is_to_server g.tale l ≡ true
    → (told g.setup g.plan g.tale (entry.Got l bytes)).clients ≡ g.tale.clients
read_clients g l bytes there =
    ap (λ (b : Bool). (if b then server_says g.setup g.plan l bytes g.tale else record g.tale { clients = map (client_hears l bytes) g.tale.clients }).clients) there
    ∙ says_same g l bytes

pub read_links : (g : Ground) (l : LinkId) (bytes : List ℕ) → (told g.setup g.plan g.tale (entry.Got l bytes)).links ≡ g.tale.links
read_links g l bytes =
    told_of (λ (t : Tale). t.links) (λ story t. refl) (λ link wire t. refl) (λ clients t. refl) g.setup g.plan g.tale (entry.Got l bytes)
    (λ link opens. absurd (none-some link opens))

-- Whose question stands there.

asker_same : (q : Question) → asked_for q ≡ asker q
asker_same (Statement n due) = refl
asker_same (Prep n key text) = refl
asker_same (Sync n command) = refl
asker_same (Own command) = refl
asker_same (End n) = refl
asker_same (Capture n) = refl

asker_as : (stage : Stage) → frames.asker_at stage ≡ asker_at stage
asker_as Quiet = refl
asker_as (Asked question) = asker_same question
asker_as (Answered question) = asker_same question

asked_as : (stage : Stage) (c : ClientNo) → is_asked_of stage c ≡ option_map_or (λ (m : SessionName). is_client c m.client) (asker_at stage) false
asked_as Quiet c = refl
asked_as (Asked question) c = refl
asked_as (Answered question) c = refl

or_none : (a b c : Bool) → a ≡ false → b ≡ false → c ≡ false → (a || (b || c)) ≡ false
or_none a b c first second third = λ i. first i || (second i || third i)

two_none : (a b : Bool) → a ≡ false → b ≡ false → (a || b) ≡ false
two_none a b first second = λ i. first i || second i

flip_client : (a b : ClientNo) → is_client a b ≡ false → is_client b a ≡ false
flip_client a b apart = grind arith

module _ (service : Service) (g : Ground) (t : Tabled) (roomy : ClientNo → Bool) (rests : Rests service g t roomy) (l : LinkId) (bytes : List ℕ) (client : Client)
    (is : IsReadFor g l client) (homes : AreHomed (view_on g).links (view_on g).held) where
  abbrev stage : Stage
  stage = (link_in g.setup g.tale l).stage

  asked_is : (m : SessionName) → asker_at stage ≡ Some m → is.session ≡ m
  asked_is m asked = same_Some is.session m (sym is.carries ∙ homes.asked l m (asker_as stage ∙ asked))

  -- another link doesn't carry that session
  elsewhere : (other : LinkId) (m : SessionName) → is_link_id other l ≡ false → session_in (link_in g.setup g.tale other).carries ≡ Some m
      → is.session ≡ m → ⊥
  elsewhere other m aside carries same =
      let home : Some other ≡ Some l =
      sym (homes.home other m carries) ∙ ap (λ (n : SessionName). ((view_on g).held n).home) (sym same) ∙ homes.home l is.session is.carries in
      true≢false (sym (ap (λ (k : LinkId). is_link_id k l) (same_Some other l home) ∙ same_link l) ∙ aside)

  unasked_by : (other : LinkId) (m : SessionName) → is_link_id other l ≡ false → session_in (link_in g.setup g.tale other).carries ≡ Some m
      → (found : Option SessionName) → asker_at stage ≡ found → option_map_or (λ (a : SessionName). is_name m a) found false ≡ false
  unasked_by other m aside carries None asked = refl
  unasked_by other m aside carries (Some a) asked = by (is_name m a) refl where
    by : (b : Bool) → is_name m a ≡ b → b ≡ false
    by false apart = refl
    by true same = absurd (elsewhere other m aside carries (asked_is a asked ∙ sym (name_of m a same)))

  untold_by : (other : LinkId) → is_link_id other l ≡ false → (found : Option SessionName) → session_in (link_in g.setup g.tale other).carries ≡ found
      → option_map_or (told_session g.setup g.plan g.tale (entry.Got l bytes)) found false ≡ false
  untold_by other aside None carries = refl
  untold_by other aside (Some m) carries =
      ap (λ (b : Bool). b && is_asked_by stage m) is.to_server ∙ unasked_by other m aside carries (asker_at stage) refl

  unfreed : (other : LinkId) → is_link_id other l ≡ false → may_be_freed g.setup g.plan g.tale (entry.Got l bytes) other ≡ false
  unfreed other aside =
      or_none _ _ _ aside (untold_by other aside (session_in (link_in g.setup g.tale other).carries) refl) (is.unlent other aside)

  abbrev heard : Tale
  heard = told_then g.setup g.plan g.tale (entry.Got l bytes)

  clients_same : heard.clients ≡ g.tale.clients
  clients_same = read_clients g l bytes is.to_server

  not_its : (c : ClientNo) → is_its client c ≡ false → is_client is.session.client c ≡ false
  not_its c other = ap (λ (n : ClientNo). is_client n c) is.number ∙ flip_client c client.number other

  theirs : (c : Client) → IsAt g t c → is_link_id c.link l ≡ false
  theirs c at = by (is_link_id c.link l) refl where
    by : (b : Bool) → is_link_id c.link l ≡ b → b ≡ false
    by false apart = refl
    by true same = absurd (true≢false (sym (ap (is_to_server g.tale) (maps.link_of c.link l same) ∙ is.to_server) ∙ at.aside))

  not_called : (c : Client) → IsAt g t c → is_its client c.number ≡ false
      → is_called g.plan heard.moment (view_on g) (entry.Got l bytes) c ≡ false
  not_called c at other =
      uncalled g.plan heard.moment (view_on g) (entry.Got l bytes) c refl
      (λ link names.
      let same : l ≡ link = same_Some l link names in
      subst (λ (k : LinkId). (is_link_id c.link k || option_map_or (λ (n : SessionName). is_client n.client c.number) (session_in ((view_on g).links k).carries) false) ≡ false) same
      (two_none _ _ (theirs c at)
      (ap (λ (found : Option SessionName). option_map_or (λ (n : SessionName). is_client n.client c.number) found false) is.carries ∙ not_its c.number other)))
      (subst (λ (m : ℕ). gives_up g.plan (suc m) (message_at c c.taken) ≡ false) (sym (told_spares g.setup g.plan g.tale (entry.Got l bytes)).moment)
      (is.keeps (message_at c c.taken) other))

  pub read_on_link : IsOnLink g (entry.Got l bytes) l client
  read_on_link = record {
    to_server = ap (list_any (is_link_id l)) (read_links g l bytes) ∙ is.to_server;
    alone = λ other there aside. told_rests g.setup g.plan g.tale (entry.Got l bytes) rests.rested other there (unfreed other aside);
    seated = subst (λ (xs : List Client). filter (λ (other : Client). is_client other.number client.number) xs ≡ client ∷ []) (sym clients_same) is.seated;
    single = is.single;
    others = subst (All (λ (c : Client). is_its client c.number ≡ false → is_called g.plan heard.moment (view_on g) (entry.Got l bytes) c ≡ false)) (sym clients_same)
        (All-weaker (IsAt g t) (λ (c : Client). is_its client c.number ≡ false → is_called g.plan heard.moment (view_on g) (entry.Got l bytes) c ≡ false) not_called
        g.tale.clients rests.stands.clients.each);
  }

  unasked : (c : ClientNo) → is_its client c ≡ false → (found : Option SessionName) → asker_at stage ≡ found
      → option_map_or (λ (m : SessionName). is_client c m.client) found false ≡ false
  unasked c other None asked = refl
  unasked c other (Some m) asked =
      ap (λ (n : SessionName). is_client c n.client) (sym (asked_is m asked)) ∙ flip_client is.session.client c (not_its c other)

  spare : (c : Client) → IsAt g t c → is_its client c.number ≡ false → IsSpared g (entry.Got l bytes) c
  spare c at other = record {
    aside = λ there. asked_as stage c.number ∙ unasked c.number other (asker_at stage) refl;
    keeps = λ ordinal within. is.keeps (message_at c ordinal) other;
  }

  pub read_spared : AreSpared (is_its client) g (entry.Got l bytes)
  read_spared =
      All-weaker (IsAt g t) (λ (c : Client). is_its client c.number ≡ false → IsSpared g (entry.Got l bytes) c) spare g.tale.clients rests.stands.clients.each

  pub read_its : OfItsLink (is_its client) l g.tale
  read_its = of_no_client service g t l rests.stands is.to_server (is_its client)
