-- What happenings and entries touch of links and sessions, and what of them stays.
use Rattle.std.specs.Prelude.{◌≡◌, ℕ, suc, Bool, false, ◌&&◌, ◌||◌, nat_eq, if◌then◌else◌, List, Some}
use Rattle.std.specs.List.{list_any}
use Rattle.std.specs.Option.{option_map_or}
use Rattle.mx_base.specs.declared.tag.Tag.{Tag}
use Rattle.mx_wire.specs.Log.{is_link, link_of}
use Rattle.mx_wire.specs.declared.entry.Entry.{Entry}
use Rattle.mx_wire.specs.declared.entry.Entry.TheVariants.{Got, Ended, ReadFailed, Wrote, WriteFailed, Closed}
use Rattle.private_model.specs.Names.{LinkId, SessionName}
use Rattle.private_model.specs.Story.{BecameDue, Freed, Gone, Happening, Heard, Left, LoggedIn, Question, Ran, Sent, Unprepared}
use Rattle.private_model.specs.Story.{for_statement, is_client, is_hostgroup, is_link_id, is_name, message_of}
use Rattle.private_model.specs.View.{Answered, Carried, Lent, Setup, Stage, View, present, session_in}
use Rattle.log_story.specs.Plan.{Plan, gives_up}
use Rattle.log_story.specs.Servers.{begun_on, is_given_up, is_left, may_begin}
use Rattle.log_story.specs.Tale.{Client, Tale, is_to_server, link_in, view_of}
use Rattle.log_story.proofs.Frames.{asker, asker_at}

-- it carries a session that passes a test
abbrev pub carries_of : (whose : SessionName → Bool) → Carried → Bool
carries_of whose carried = option_map_or whose (session_in carried) false

-- Of a session: what stands for whether the link that carries it is given back.
pub record IsAsBefore (setup : Setup) (plan : Plan) (old new : Tale) (n : SessionName) : Type 0 where
  pub pin : ((view_of setup new).held n).pin ≡ ((view_of setup old).held n).pin
  pub id : ((view_of setup new).held n).id ≡ ((view_of setup old).held n).id
  pub left : is_left (view_of setup new) n ≡ is_left (view_of setup old) n
  pub given : is_given_up plan new.moment n ((view_of setup new).dues n)
      ≡ is_given_up plan old.moment n ((view_of setup old).dues n)

-- A link, its wire, and what stands of the session that it carries.
pub record Stays (setup : Setup) (plan : Plan) (old new : Tale) (l : LinkId) : Type 0 where
  pub wire : new.wires l ≡ old.wires l
  pub link : link_in setup new l ≡ link_in setup old l
  pub session : (n : SessionName) → session_in (link_in setup old l).carries ≡ Some n
      → IsAsBefore setup plan old new n

-- But for these links and sessions, links are as they were, and what stands of sessions.
pub record Spares (touched : LinkId → Bool) (whose : SessionName → Bool) (old new : View) : Type 0 where
  pub link : (l : LinkId) → touched l ≡ false → new.links l ≡ old.links l
  pub pin : (n : SessionName) → whose n ≡ false → (new.held n).pin ≡ (old.held n).pin
  pub id : (n : SessionName) → whose n ≡ false → (new.held n).id ≡ (old.held n).id
  pub due : (n : SessionName) → whose n ≡ false → new.dues n ≡ old.dues n
  pub left : (n : SessionName) → whose n ≡ false → is_left new n ≡ is_left old n

-- so it is in a tale, at one moment
pub record SparesIn (setup : Setup) (touched : LinkId → Bool) (whose : SessionName → Bool)
    (old new : Tale) : Type 0 where
  pub moment : new.moment ≡ old.moment
  pub wire : (l : LinkId) → touched l ≡ false → new.wires l ≡ old.wires l
  pub view : Spares touched whose (view_of setup old) (view_of setup new)

-- What a happening touches.

abbrev pub touched_link : Happening → LinkId → Bool
touched_link (LoggedIn link server account) l = is_link_id l link
touched_link (Sent link question) l = is_link_id l link
touched_link (Ran link) l = is_link_id l link
touched_link (Heard link reply) l = is_link_id l link
touched_link (Freed link) l = is_link_id l link
touched_link (Unprepared link number) l = is_link_id l link
touched_link (Gone link) l = is_link_id l link
touched_link _ l = false

-- whose question it is
abbrev pub is_asker : Question → SessionName → Bool
is_asker question n = option_map_or (λ m. is_name n m) (asker question) false

-- an answer is read to a question that ran
abbrev pub is_heard_by : Stage → SessionName → Bool
is_heard_by (Answered question) n = is_asker question n
is_heard_by _ n = false

-- it is the present session of its client in its hostgroup, or the one to come
abbrev pub is_newest : View → SessionName → Bool
is_newest view n =
    let life = view.lives n.client n.hostgroup in nat_eq n.life life || nat_eq n.life (suc life)

-- it is of the client of another, in one hostgroup
abbrev pub is_beside : SessionName → SessionName → Bool
is_beside m n = is_client n.client m.client && is_hostgroup n.hostgroup m.hostgroup

abbrev pub touched_session : View → Happening → SessionName → Bool
touched_session view (BecameDue client hostgroup ordinal key command multiplex) n =
    is_name n (present view client hostgroup)
touched_session view (Sent link question) n = for_statement question (λ m due. is_name n m) false
touched_session view (Heard link reply) n = is_heard_by (view.links link).stage n
touched_session view (Gone link) n =
    carries_of (λ m. is_beside m n) (view.links link).carries && is_newest view n
touched_session view (Left client) n = is_client n.client client && is_newest view n
touched_session view _ n = false

-- What an entry touches, as it is told: the link that it names, and these sessions.

abbrev pub is_asked_by : Stage → SessionName → Bool
is_asked_by stage n = option_map_or (λ m. is_name n m) (asker_at stage) false

-- by one of these happenings
abbrev pub is_touched_by : View → List Happening → SessionName → Bool
is_touched_by view happenings n = list_any (λ e. touched_session view e n) happenings

abbrev pub begun_at : Setup → Plan → Tale → LinkId → Tag → List Happening
begun_at setup plan tale link for =
    begun_on setup plan tale.moment (view_of setup tale) link (tale.wires link) for

-- a link is lost, or closed, or a client leaves
abbrev pub lost_session : Setup → Tale → LinkId → SessionName → Bool
lost_session setup tale link n =
    if is_to_server tale link then touched_session (view_of setup tale) (Gone link) n
    else list_any (λ (c : Client). is_link_id c.link link && is_client n.client c.number) tale.clients

abbrev pub told_session : Setup → Plan → Tale → Entry → SessionName → Bool
told_session setup plan tale (Got link bytes) n =
    is_to_server tale link && is_asked_by (link_in setup tale link).stage n
told_session setup plan tale (Wrote link tag bytes) n =
    is_to_server tale link
    && (may_begin setup link (tale.wires link) tale
    && is_touched_by (view_of setup tale) (begun_at setup plan tale link tag) n)
told_session setup plan tale (Ended link) n = lost_session setup tale link n
told_session setup plan tale (ReadFailed link) n = lost_session setup tale link n
told_session setup plan tale (WriteFailed link) n = lost_session setup tale link n
told_session setup plan tale (Closed link) n = lost_session setup tale link n
told_session setup plan tale _ n = false

abbrev pub told_link : Entry → LinkId → Bool
told_link e link = is_link link (link_of e)

-- the statement for which it is lent is given up at this moment
abbrev pub is_given_now : Plan → (moment : ℕ) → View → Carried → Bool
is_given_now plan moment view (Lent n) =
    option_map_or (λ due. gives_up plan moment (message_of n due)) (view.dues n) false
is_given_now plan moment view _ = false

-- a link that may be given back as an entry was told
abbrev pub may_be_freed : Setup → Plan → Tale → Entry → LinkId → Bool
may_be_freed setup plan tale e link =
    let carried = (link_in setup tale link).carries in
    told_link e link
    || (carries_of (told_session setup plan tale e) carried
    || is_given_now plan (suc tale.moment) (view_of setup tale) carried)
