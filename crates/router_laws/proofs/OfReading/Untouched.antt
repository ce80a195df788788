-- Bytes on a link to a server, as they are told: which links may be given back by that, and who isn't concerned.
use Rattle.std.specs.Prelude.{◌≡◌, ◌≤◌, ℕ, suc, Bool, true, false, ◌||◌, ◌&&◌, All, List, Option, Some, None}
use Rattle.std.specs.List.{list_any}
use Rattle.std.specs.Option.{option_map_or}
use Rattle.std.proofs.Common.{refl, sym, ap, ◌∙◌, arith, subst}
use Rattle.std.proofs.lemmas.Bool.{true≢false}
use Rattle.std.proofs.lemmas.List.Elements.{All-weaker}
use Rattle.std.proofs.lemmas.Option.{same_Some}
use Rattle.client_session.specs.Setups.{Setup as Service}
use Rattle.mx_wire.specs.declared.entry.Entry.TheVariants as entry
use Rattle.private_model.proofs.Maps.{client_of, name_of, same_link}
use Rattle.private_model.proofs.Maps as maps
use Rattle.private_model.specs.Names.{ClientNo, LinkId, SessionName}
use Rattle.private_model.specs.Story.{Capture, End, Own, Prep, Question, Statement, Sync, is_client, is_link_id, is_name}
use Rattle.private_model.specs.View.{Answered, Asked, Quiet, Stage, session_in}
use Rattle.log_story.proofs.Frames.{asker, asker_at}
use Rattle.log_story.specs.Owed.{name_of as message_at}
use Rattle.log_story.specs.Plan.{gives_up}
use Rattle.log_story.specs.Tale.{Client, Tale, counted, is_to_server, link_in}
use Rattle.log_story.specs.Telling.{told}
use Rattle.step_laws.proofs.Sparing.{done_as_before, stays_spared}
use Rattle.step_laws.proofs.Taking.{uncalled}
use Rattle.step_laws.proofs.Telling.{told_spares}
use Rattle.step_laws.specs.Freed.{NoneDoneBut, is_done_at}
use Rattle.step_laws.specs.Spared.{carries_of, is_asked_by, told_link, told_session}
use Rattle.step_laws.specs.Steps.{told_then}
use Rattle.step_laws.specs.Taken.{GivesUpNone, is_called}
use Rattle.core_tables.specs.Parting.{given_up_in}
use Rattle.core_tables.specs.Tables.{Tabled}
use Rattle.core_stands.specs.Grounds.{Ground, on, view_on}
use Rattle.core_stands.specs.Stands.{IsAt, Rests, Stands}
use Rattle.desk_laws.specs.Spares.{asked_for}
use Rattle.core_laws.specs.parting.Frames as frames
use Rattle.core_laws.specs.parting.Frames.{AreHomed}
use Rattle.core_laws.proofs.OfEntry.Uneventful.{Testing}
use Rattle.core_laws.specs.entry.Calms.{is_asked_of}
use Rattle.core_laws.specs.entry.Entries.{AreSpared, IsSpared, OfItsLink}
use Rattle.core_laws.proofs.OfLinks.OneRead.{read_clients, read_links}
use Rattle.router_laws.proofs.OfReading.Lent.{IsLentElsewhere, given_done}
use Rattle.core_laws.proofs.OfLinks.Uncalled.{of_no_client}

-- Whose question stands there.

asker_same : (q : Question) → asked_for q ≡ asker q
asker_same (Statement n due) = refl
asker_same (Prep n key text) = refl
asker_same (Sync n command) = refl
asker_same (Own command) = refl
asker_same (End n) = refl
asker_same (Capture n) = refl

asker_as : (stage : Stage) → frames.asker_at stage ≡ asker_at stage
asker_as Quiet = refl
asker_as (Asked question) = asker_same question
asker_as (Answered question) = asker_same question

asked_as : (stage : Stage) (c : ClientNo) → is_asked_of stage c ≡ option_map_or (λ (m : SessionName). is_client c m.client) (asker_at stage) false
asked_as Quiet c = refl
asked_as (Asked question) c = refl
asked_as (Answered question) c = refl

two_none : (a b : Bool) → a ≡ false → b ≡ false → (a || b) ≡ false
two_none a b first second = λ i. first i || second i

-- one that passes a test isn't one that doesn't
apart_by : (whose : ClientNo → Bool) (a c : ClientNo) → whose a ≡ true → whose c ≡ false → (b : Bool) → is_client a c ≡ b → b ≡ false
apart_by whose a c its other false is = refl
apart_by whose a c its other true is = absurd (true≢false (sym its ∙ ap whose (client_of a c is) ∙ other))

pub apart : (whose : ClientNo → Bool) (a c : ClientNo) → whose a ≡ true → whose c ≡ false → is_client a c ≡ false
apart whose a c its other = by (is_client a c) refl where
  by : (b : Bool) → is_client a c ≡ b → is_client a c ≡ false
  by b is = is ∙ apart_by whose a c its other b is

pub flip_client : (a b : ClientNo) → is_client a b ≡ false → is_client b a ≡ false
flip_client a b apart = grind arith

-- The link carries a session of these clients, if of any.
module _ (service : Service) (g : Ground) (t : Tabled) (roomy : ClientNo → Bool) (rests : Rests service g t roomy) (l : LinkId) (bytes : List ℕ)
    (whose : ClientNo → Bool) (there : is_to_server g.tale l ≡ true)
    (carried : (n : SessionName) → session_in (link_in g.setup g.tale l).carries ≡ Some n → whose n.client ≡ true)
    (homes : AreHomed (view_on g).links (view_on g).held) where
  abbrev stage : Stage
  stage = (link_in g.setup g.tale l).stage

  abbrev said : Tale
  said = told g.setup g.plan g.tale (entry.Got l bytes)

  abbrev pub heard : Tale
  heard = told_then g.setup g.plan g.tale (entry.Got l bytes)

  pub said_links : said.links ≡ g.tale.links
  said_links = read_links g l bytes

  pub said_clients : said.clients ≡ g.tale.clients
  said_clients = read_clients g l bytes there

  pub said_moment : said.moment ≡ g.tale.moment
  said_moment = (told_spares g.setup g.plan g.tale (entry.Got l bytes)).moment

  asked_is : (m : SessionName) → asker_at stage ≡ Some m → session_in (link_in g.setup g.tale l).carries ≡ Some m
  asked_is m asked = homes.asked l m (asker_as stage ∙ asked)

  -- another link doesn't carry a session that this one carries
  elsewhere : (other : LinkId) (m : SessionName) → is_link_id other l ≡ false → session_in (link_in g.setup g.tale other).carries ≡ Some m
      → session_in (link_in g.setup g.tale l).carries ≡ Some m → ⊥
  elsewhere other m aside carries here =
      let home : Some other ≡ Some l = sym (homes.home other m carries) ∙ homes.home l m here in
      true≢false (sym (ap (λ (k : LinkId). is_link_id k l) (same_Some other l home) ∙ same_link l) ∙ aside)

  unasked_by : (other : LinkId) (m : SessionName) → is_link_id other l ≡ false → session_in (link_in g.setup g.tale other).carries ≡ Some m
      → (found : Option SessionName) → asker_at stage ≡ found → option_map_or (λ (a : SessionName). is_name m a) found false ≡ false
  unasked_by other m aside carries None asked = refl
  unasked_by other m aside carries (Some a) asked = by (is_name m a) refl where
    by : (b : Bool) → is_name m a ≡ b → b ≡ false
    by false apart = refl
    by true same =
        absurd (elsewhere other m aside carries
        (subst (λ (n : SessionName). session_in (link_in g.setup g.tale l).carries ≡ Some n) (sym (name_of m a same)) (asked_is a asked)))

  untold_by : (other : LinkId) → is_link_id other l ≡ false → (found : Option SessionName) → session_in (link_in g.setup g.tale other).carries ≡ found
      → option_map_or (told_session g.setup g.plan g.tale (entry.Got l bytes)) found false ≡ false
  untold_by other aside None carries = refl
  untold_by other aside (Some m) carries =
      ap (λ (b : Bool). b && is_asked_by stage m) there ∙ unasked_by other m aside carries (asker_at stage) refl

  undone_said : (other : LinkId) → is_to_server said other ≡ true → is_link_id other l ≡ false → is_done_at g.setup g.plan said other ≡ false
  undone_said other is aside =
      done_as_before g.setup g.plan g.tale said other
      (stays_spared g.setup g.plan g.tale said (told_link (entry.Got l bytes)) (told_session g.setup g.plan g.tale (entry.Got l bytes))
      (told_spares g.setup g.plan g.tale (entry.Got l bytes)) other aside
      (untold_by other aside (session_in (link_in g.setup g.tale other).carries) refl))
      ∙ rests.rested other (sym (ap (list_any (is_link_id other)) said_links) ∙ is)

  -- of the links that one alone may be given back as the entry is counted
  pub alone : Testing service → (given : ClientNo → Option (List ℕ)) (tables : Tabled) → Stands service (on g said) tables
      → ((other : LinkId) → is_link_id other l ≡ false → IsLentElsewhere tables given other) → Stands service (on g (counted said)) (given_up_in given tables)
      → NoneDoneBut g.setup g.plan (λ (other : LinkId). is_link_id other l) heard
  alone testing given tables stands elsewhere counts other is aside =
      testing (on g (counted said)) (given_up_in given tables) other counts is
      ∙ given_done service (on g said) tables stands given other (elsewhere other aside) ∙ sym (testing (on g said) tables other stands is) ∙ undone_said other is aside

  -- Others aren't called, nor concerned, where nothing of theirs is given up.

  not_carried : (c : ClientNo) → whose c ≡ false → (found : Option SessionName) → session_in (link_in g.setup g.tale l).carries ≡ found
      → option_map_or (λ (n : SessionName). is_client n.client c) found false ≡ false
  not_carried c other None carries = refl
  not_carried c other (Some n) carries = apart whose n.client c (carried n carries) other

  theirs : (c : Client) → IsAt g t c → is_link_id c.link l ≡ false
  theirs c at = by (is_link_id c.link l) refl where
    by : (b : Bool) → is_link_id c.link l ≡ b → b ≡ false
    by false apart = refl
    by true same = absurd (true≢false (sym (ap (is_to_server g.tale) (maps.link_of c.link l same) ∙ there) ∙ at.aside))

  not_called : (c : Client) → IsAt g t c → (whose c.number ≡ false → GivesUpNone g.plan (suc g.tale.moment) c) → whose c.number ≡ false
      → is_called g.plan heard.moment (view_on g) (entry.Got l bytes) c ≡ false
  not_called c at keeps other =
      uncalled g.plan heard.moment (view_on g) (entry.Got l bytes) c refl
      (λ link names.
      let same : l ≡ link = same_Some l link names in
      subst (λ (k : LinkId). (is_link_id c.link k || option_map_or (λ (n : SessionName). is_client n.client c.number) (session_in ((view_on g).links k).carries) false) ≡ false) same
      (two_none _ _ (theirs c at) (not_carried c.number other (session_in (link_in g.setup g.tale l).carries) refl)))
      (subst (λ (m : ℕ). gives_up g.plan (suc m) (message_at c c.taken) ≡ false) (sym said_moment) (keeps other c.taken (omega arith)))

  abbrev Keeps : Client → Type 0
  Keeps c = whose c.number ≡ false → GivesUpNone g.plan (suc g.tale.moment) c

  abbrev Uncalled : Client → Type 0
  Uncalled c = whose c.number ≡ false → is_called g.plan heard.moment (view_on g) (entry.Got l bytes) c ≡ false

  pub others_uncalled : All Keeps g.tale.clients → All Uncalled heard.clients
  others_uncalled keeps =
      subst (All Uncalled) (sym said_clients)
      (λ k d within. not_called _ (rests.stands.clients.each k d within) (keeps k d within))

  unasked : (c : ClientNo) → whose c ≡ false → (found : Option SessionName) → asker_at stage ≡ found
      → option_map_or (λ (m : SessionName). is_client c m.client) found false ≡ false
  unasked c other None asked = refl
  unasked c other (Some m) asked = flip_client m.client c (apart whose m.client c (carried m (asked_is m asked)) other)

  pub others_spared : All Keeps g.tale.clients → AreSpared whose g (entry.Got l bytes)
  others_spared keeps =
      All-weaker Keeps (λ (c : Client). whose c.number ≡ false → IsSpared g (entry.Got l bytes) c)
      (λ c kept other. record {
        aside = λ is. asked_as stage c.number ∙ unasked c.number other (asker_at stage) refl;
        keeps = kept other;
      }) g.tale.clients keeps

  pub others_untold : OfItsLink whose l g.tale
  others_untold = of_no_client service g t l rests.stands there whose
