-- Bytes are written on a link to a server.
use Rattle.std.specs.Prelude.{◌≡◌, ℕ, Bool, true, false, not, ◌&&◌, if◌then◌else◌, is_some, length, map, List, ◌++◌, Option, Some, None}
use Rattle.std.specs.List.{list_any}
use Rattle.std.specs.Option.{option_map, option_map_or}
use Rattle.std.proofs.Common.{refl, sym, ◌∙◌, ap, subst}
use Rattle.std.proofs.lemmas.Bool.{false≢true, true≢false}
use Rattle.mx_base.specs.Sent.{Sent as Offer}
use Rattle.mx_base.specs.declared.tag.Tag.{Tag}
use Rattle.client_session.specs.Setups.{Setup as Service}
use Rattle.mx_wire.specs.declared.entry.Entry.{Entry}
use Rattle.mx_wire.specs.declared.entry.Entry.TheVariants as entry
use Rattle.session_state.specs.declared.names.SessionName.{SessionName}
use Rattle.private_model.specs.Names.{ClientNo, LinkId}
use Rattle.private_model.proofs.Maps.{link_of, same_number}
use Rattle.private_model.specs.Lawful.{IsLawful}
use Rattle.private_model.specs.Story.{Happening, is_link_id}
use Rattle.private_model.specs.View.{session_in}
use Rattle.log_story.specs.Plan as plan
use Rattle.log_story.specs.Plan.{step_payload}
use Rattle.log_story.specs.Servers.{begins as law_begins, may_begin, writes}
use Rattle.log_story.specs.Tale.{Tale, client_gets, is_to_server, link_in, with_wire}
use Rattle.log_story.specs.Telling.{tale_step, told}
use Rattle.step_laws.proofs.Sparing.{done_as_before, stays_spared}
use Rattle.step_laws.proofs.Telling.{told_spares}
use Rattle.step_laws.specs.Spared.{begun_at, is_touched_by, told_link, told_session}
use Rattle.step_laws.specs.Steps.{told_then}
use Rattle.link_state.specs.Dones.{is_done_by, is_quiet}
use Rattle.link_state.specs.Writes as link_writes
use Rattle.link_state.specs.declared.asking.Asking.{Asking}
use Rattle.link_state.specs.declared.asking.Purpose.{Purpose}
use Rattle.link_state.specs.declared.asking.Purpose.TheVariants as purposes
use Rattle.link_state.specs.Spells.{spelt}
use Rattle.link_state.specs.declared.state.Carried.{Carried}
use Rattle.server_side.specs.Backend.{taken}
use Rattle.lent_link.specs.Links as lent
use Rattle.lent_link.specs.Links.{begun_by}
use Rattle.lent_link.specs.Rests.{is_resetting}
use Rattle.lent_link.specs.declared.link.Begins.{Begins}
use Rattle.lent_link.specs.declared.link.Begins.TheVariants as begins
use Rattle.lent_link.specs.declared.link.LentLink.{LentLink}
use Rattle.served_link.specs.Wants.{session_in as desk_or_left}
use Rattle.served_link.specs.Writes.{began, kind_of, wrote}
use Rattle.served_link.specs.declared.row.LeftSession.{LeftSession}
use Rattle.served_link.specs.declared.row.Row.{Row}
use Rattle.core_tables.specs.Parting.{at_desk, is_done_for, is_done_in, is_given_up, name_in}
use Rattle.core_tables.specs.Passing.{passes_next, sends}
use Rattle.core_tables.specs.Tables.{IsSame, Tabled, link_changed}
use Rattle.core_tables.specs.Writing.{begun_for, lasts, purpose_next, server_wrote, wrote_by, wrote_on}
use Rattle.core_tables.specs.declared.server.Server.{Server}
use Rattle.core_stands.specs.Grounds.{Ground, on, view_on}
use Rattle.core_stands.specs.Servers.{IsNextOf, IsServer, tag_for}
use Rattle.core_stands.specs.Stands.{Rests, Stands}
use Rattle.core_laws.proofs.OfWriting.Begun.{offered_tag}
use Rattle.core_laws.proofs.OfWriting.Knowing.{is_servers, over, server_at, serving}
use Rattle.core_laws.proofs.OfWriting.Lending.{IsLent, MayBegin, goes_on, left_inside, lent_so, own_tag, quit_tag}
use Rattle.core_laws.proofs.OfParting.Ahead.{sent_apart}
use Rattle.core_laws.proofs.OfParting.Homes.{homes_so}
use Rattle.core_laws.proofs.OfWriting.Rows.{Wrote, kind_next, stays_outside, wrote_next, wrote_outside, wrote_so}
use Rattle.core_laws.proofs.OfEntry.Uneventful.{Counting, Testing}
use Rattle.core_laws.specs.entry.Calms.{is_copy}
use Rattle.core_laws.specs.entry.Entries.{behind}
use Rattle.core_laws.specs.entry.Kinds.{IsUneventful}
use Rattle.core_laws.proofs.OfLinks.Begins.{begun_untouched}
use Rattle.core_laws.proofs.OfLinks.Desks.{begun_links, done_with}
use Rattle.core_laws.proofs.OfLinks.Uncalled.{Sames, nobody_rests, nobody_steps, of_no_client}
use Rattle.core_laws.proofs.OfLinks.Opens.{done_of}

-- What is written leaves the clients of a tale, and its links.

module _ (g : Ground) (l : LinkId) (tag : Tag) (bytes : List ℕ) (there : is_to_server g.tale l ≡ true) where
  abbrev pub begun : Tale
  begun = law_begins g.setup g.plan l tag bytes (g.tale.wires l) g.tale

  abbrev pub gone_on : Tale
  gone_on = with_wire l (record (g.tale.wires l) { written = (g.tale.wires l).written ++ bytes }) g.tale

  pub told_as : told g.setup g.plan g.tale (entry.Wrote l tag bytes) ≡ (if may_begin g.setup l (g.tale.wires l) g.tale then begun else gone_on)
  told_as =
      ap (λ (b : Bool). if b then writes g.setup g.plan l tag bytes (g.tale.wires l) g.tale
      else record g.tale { clients = map (client_gets l (length bytes)) g.tale.clients }) there

  clients_by : (b : Bool) → (if b then begun else gone_on).clients ≡ g.tale.clients
  clients_by true = refl
  clients_by false = refl

  links_by : (b : Bool) → (if b then begun else gone_on).links ≡ g.tale.links
  links_by true = refl
  links_by false = refl

  pub wrote_clients : (told g.setup g.plan g.tale (entry.Wrote l tag bytes)).clients ≡ g.tale.clients
  wrote_clients = ap (λ (tale : Tale). tale.clients) told_as ∙ clients_by (may_begin g.setup l (g.tale.wires l) g.tale)

  pub wrote_links : (told g.setup g.plan g.tale (entry.Wrote l tag bytes)).links ≡ g.tale.links
  wrote_links = ap (λ (tale : Tale). tale.links) told_as ∙ links_by (may_begin g.setup l (g.tale.wires l) g.tale)

-- A link that isn't done isn't done behind what is written: in the login, as it goes on, and as something begins.

and_false : (a b : Bool) → b ≡ false → (a && b) ≡ false
and_false true b none = none
and_false false b none = refl

-- for the session that it carries, if it carries one
abbrev done_named : (lost : Bool) → Option LeftSession → Tabled → LentLink → Option SessionName → Bool
done_named lost left t link None = false
done_named lost left t link (Some n) = done_with lost left link (at_desk n (t.clients n.client)) (is_given_up n (t.clients n.client))

named_is : (t : Tabled) (server : Server) (named : Option SessionName)
    → is_done_for t server named ≡ done_named server.row.lost server.row.left t server.row.link named
named_is t server None = refl
named_is t server (Some n) = refl

-- something is written, and what stood next is begun
abbrev bare : (count : ℕ) → LentLink → LentLink
bare count link = record link { next = None; writing = option_map (link_writes.wrote count) link.writing }

-- a question begins
abbrev is_asked : Option Begins → Bool
is_asked (Some (begins.Asks asking)) = true
is_asked next = false

module _ (lost : Bool) (left : Option LeftSession) (t onto : Tabled) where
  outside_undone : (link : LentLink) → lent.is_in link.login.stage ≡ false → (named : Option SessionName) → done_named lost left onto link named ≡ false
  outside_undone link outside None = refl
  outside_undone link outside (Some n) =
      and_false (not lost) _
      (ap (λ (b : Bool). b && (is_quiet link.state.stage && (not (is_resetting link.step)
      && is_done_by link.state.carries (desk_or_left left (at_desk n (onto.clients n.client))) (is_given_up n (onto.clients n.client))))) outside)

  asked_undone : (link : LentLink) → is_quiet link.state.stage ≡ false → (named : Option SessionName) → done_named lost left onto link named ≡ false
  asked_undone link busy None = refl
  asked_undone link busy (Some n) =
      and_false (not lost) _ (and_false (lent.is_in link.login.stage) _
      (ap (λ (b : Bool). b && (not (is_resetting link.step)
      && is_done_by link.state.carries (desk_or_left left (at_desk n (onto.clients n.client))) (is_given_up n (onto.clients n.client)))) busy))

  -- a QUIT or a STMT_CLOSE begins where nothing else stands, and no client changes
  quits_undone : (link now : LentLink) → onto.clients ≡ t.clients → now.login ≡ link.login → now.state.stage ≡ link.state.stage
      → now.state.carries ≡ link.state.carries → is_resetting now.step ≡ is_resetting link.step → done_named lost left t link (name_in link.state.carries) ≡ false
      → done_named lost left onto now (name_in now.state.carries) ≡ false
  quits_undone link now clients login stage carries step undone =
      ap (λ (c : Carried). done_named lost left onto now (name_in c)) carries ∙ by (name_in link.state.carries) ∙ undone where
        by : (named : Option SessionName) → done_named lost left onto now named ≡ done_named lost left t link named
        by None = refl
        by (Some n) = λ i.
            not lost && (lent.is_in (login i).stage && (is_quiet (stage i) && (not (step i)
            && is_done_by (carries i) (desk_or_left left (at_desk n (clients i n.client))) (is_given_up n (clients i n.client)))))

  -- a STMT_RESET stands there until it is answered
  resets_undone : (link : LentLink) → is_resetting link.step ≡ true → (named : Option SessionName) → done_named lost left onto link named ≡ false
  resets_undone link resets None = refl
  resets_undone link resets (Some n) =
      and_false (not lost) _ (and_false (lent.is_in link.login.stage) _ (and_false (is_quiet link.state.stage) _
      (ap (λ (b : Bool). not b && is_done_by link.state.carries (desk_or_left left (at_desk n (onto.clients n.client))) (is_given_up n (onto.clients n.client))) resets)))

  abbrev Undone : Tabled → LentLink → Type 0
  Undone tables link = done_named lost left tables link (name_in link.state.carries) ≡ false

  wrote_undone : (count : ℕ) (link : LentLink) (inside : Bool) → lent.is_in link.login.stage ≡ inside → (next : Option Begins) → link.next ≡ next
      → (is_some next ≡ true → is_resetting link.step ≡ false)
      → (lent.is_in link.login.stage ≡ true → is_asked next ≡ false → onto.clients ≡ t.clients) → Undone t link → Undone onto (lent.wrote_on count link)
  wrote_undone count link false outside next same plain still undone =
      subst (Undone onto) (sym (wrote_outside count link outside))
      (outside_undone (record link { login = taken count link.login }) (stays_outside count link.login outside) (name_in link.state.carries))
  wrote_undone count link true inside None same plain still undone =
      subst (Undone onto) (sym (wrote_next count link None inside same)) (quits_undone link (bare count link) (still inside refl) refl refl refl refl undone)
  wrote_undone count link true inside (Some (begins.Asks asking)) same plain still undone =
      let now : LentLink = begun_by (Some (begins.Asks asking)) (bare count link) in
      subst (Undone onto) (sym (wrote_next count link (Some (begins.Asks asking)) inside same)) (asked_undone now refl (name_in now.state.carries))
  wrote_undone count link true inside (Some begins.Quits) same plain still undone =
      subst (Undone onto) (sym (wrote_next count link (Some begins.Quits) inside same))
      (quits_undone link (begun_by (Some begins.Quits) (bare count link)) (still inside refl) refl refl refl (sym (plain refl)) undone)
  wrote_undone count link true inside (Some (begins.Closes number)) same plain still undone =
      subst (Undone onto) (sym (wrote_next count link (Some (begins.Closes number)) inside same))
      (quits_undone link (begun_by (Some (begins.Closes number)) (bare count link)) (still inside refl) refl refl refl (sym (plain refl)) undone)
  wrote_undone count link true inside (Some (begins.Resets number)) same plain still undone =
      let now : LentLink = begun_by (Some (begins.Resets number)) (bare count link) in
      subst (Undone onto) (sym (wrote_next count link (Some (begins.Resets number)) inside same)) (resets_undone now refl (name_in now.state.carries))

plain_next : (g : Ground) (t : Tabled) (l : LinkId) (row : Row) → IsServer g t l row → (next : Option Begins) → row.link.next ≡ next
    → is_some next ≡ true → is_resetting row.link.step ≡ false
plain_next g t l row is None same some = absurd (false≢true some)
plain_next g t l row is (Some next) same some = (over g t l row is next same).answered

-- What begins isn't a copy.

uncopied : (p : Purpose) → is_copy (tag_for p) ≡ false
uncopied (purposes.Statement name ordinal key) = refl
uncopied (purposes.Prep name ordinal key) = refl
uncopied (purposes.Sync name) = refl
uncopied purposes.Own = refl
uncopied (purposes.End name) = refl
uncopied (purposes.Capture name) = refl

module _ (law : MayBegin) (service : Service) (g : Ground) (t : Tabled) (l : LinkId) (row : Row) (stands : Stands service g t) (is : IsServer g t l row)
    (offer : Offer) (lent_there : IsLent t row offer) (begins_now : may_begin g.setup l (g.tale.wires l) g.tale ≡ true) where
  asked_tag : (asking : Asking) → row.link.next ≡ Some (begins.Asks asking) → offer.tag ≡ tag_for asking.purpose
  asked_tag asking same =
      let next : IsNextOf (Some (begins.Asks asking)) g t row (link_in g.setup g.tale l) =
      subst (λ (x : Option Begins). IsNextOf x g t row (link_in g.setup g.tale l)) same is.next in
      let inside = ap lent.is_in (serving g t l row is (begins.Asks asking) same).inside in
      offered_tag row.link.state.stage row.link.writing offer (tag_for asking.purpose) (left_inside row offer inside lent_there.left) next.0

  plain_by : (next : Option Begins) → row.link.next ≡ next → passes_next next row t ≡ true → is_copy offer.tag ≡ false
  plain_by None same passes = absurd (goes_on law service g t l row stands is offer lent_there.left same begins_now)
  plain_by (Some (begins.Asks asking)) same passes = ap is_copy (asked_tag asking same) ∙ uncopied asking.purpose
  plain_by (Some (begins.Closes number)) same passes =
      ap is_copy (own_tag law service g t l row stands is (begins.Closes number) (spelt (step_payload (plan.Closes number))) (λ next. next) offer same lent_there.left)
  plain_by (Some (begins.Resets number)) same passes =
      ap is_copy (own_tag law service g t l row stands is (begins.Resets number) (spelt (step_payload (plan.Resets number))) (λ next. next) offer same lent_there.left)
  plain_by (Some begins.Quits) same passes = ap is_copy (quit_tag law service g t l row stands is offer same lent_there.left)

  pub begins_plain : is_copy offer.tag ≡ false
  begins_plain = plain_by row.link.next refl lent_there.passes

pub lent_plain : MayBegin → (service : Service) (g : Ground) (t : Tabled) (l : LinkId) (server : Server) (offer : Offer) → Stands service g t
    → t.links l ≡ Some server → sends l t ≡ Some offer → may_begin g.setup l (g.tale.wires l) g.tale ≡ true → is_copy offer.tag ≡ false
lent_plain law service g t l server offer stands there lends begins_now =
    begins_plain law service g t l server.row stands (server_at service g t l server stands there) offer (lent_so t l server offer there lends) begins_now

-- The tables behind what is written.

module _ (service : Service) (counting : Counting service) (testing : Testing service) (sames : Sames service) (g : Ground) (t : Tabled) (roomy : ClientNo → Bool)
    (rests : Rests service g t roomy) (calm : IsUneventful g) (l : LinkId) (server : Server) (there : t.links l ≡ Some server) (count moment : ℕ) where
  abbrev onto : Tabled
  onto = wrote_by (Some server) l count moment t

  -- what begins no question changes no client
  still_as : (next : Option Begins) → server.row.link.next ≡ next → lent.is_in server.row.link.login.stage ≡ true → began (kind_of next) ≡ None
      → onto.clients ≡ t.clients
  still_as next same inside none =
      ap (λ (p : Option Purpose). (begun_for p l (lasts server.row.link.next) (link_changed l (server_wrote count moment) t)).clients)
      (ap began (kind_next server.row.link next inside same) ∙ none)

  still_by : (next : Option Begins) → server.row.link.next ≡ next → lent.is_in server.row.link.login.stage ≡ true → is_asked next ≡ false
      → onto.clients ≡ t.clients
  still_by None same inside plain = still_as None same inside refl
  still_by (Some (begins.Asks asking)) same inside plain = absurd (true≢false plain)
  still_by (Some (begins.Closes number)) same inside plain = still_as (Some (begins.Closes number)) same inside refl
  still_by (Some (begins.Resets number)) same inside plain = still_as (Some (begins.Resets number)) same inside refl
  still_by (Some begins.Quits) same inside plain = still_as (Some begins.Quits) same inside refl

  before : (other : LinkId) → is_to_server g.tale other ≡ true → done_of t (t.links other) ≡ false
  before other known = sym (testing g t other rests.stands known) ∙ rests.rested other known

  pub to_server : is_to_server g.tale l ≡ true
  to_server = is_servers service g t l server rests.stands there

  is : IsServer g t l server.row
  is = server_at service g t l server rests.stands there

  own : done_of onto (Some (server_wrote count moment server)) ≡ false
  own =
      let w : Wrote (wrote count moment server.row) server.row (lent.wrote_on count server.row.link) = wrote_so count moment server.row in
      let named : Option SessionName = name_in server.row.link.state.carries in
      named_is onto (server_wrote count moment server) (name_in (wrote count moment server.row).link.state.carries)
      ∙ (λ i. done_named (w.lost i) (w.left i) onto (w.link_is i) (name_in (w.link_is i).state.carries))
      ∙ wrote_undone server.row.lost server.row.left t onto count server.row.link (lent.is_in server.row.link.login.stage) refl server.row.link.next refl
      (plain_next g t l server.row is server.row.link.next refl)
      (still_by server.row.link.next refl) (sym (named_is t server named) ∙ ap (done_of t) (sym there) ∙ before l to_server)

  own_there : is_done_in l (wrote_on l count moment t) ≡ false
  own_there =
      ap (λ (row : Option Server). is_done_in l (wrote_by row l count moment t)) there
      ∙ ap (λ (rows : LinkId → Option Server). done_of onto (rows l))
      (begun_links (purpose_next server.row) l (lasts server.row.link.next) (link_changed l (server_wrote count moment) t))
      ∙ ap (λ (b : Bool). done_of onto (if b then option_map (server_wrote count moment) (t.links l) else t.links l)) (same_number l.0)
      ∙ ap (λ (row : Option Server). done_of onto (option_map (server_wrote count moment) row)) there
      ∙ own

  module _ (now : Tabled) (tag : Tag) (bytes : List ℕ) (plain : may_begin g.setup l (g.tale.wires l) g.tale ≡ true → is_copy tag ≡ false)
      (same : IsSame now (wrote_on l count moment t)) (stands : Stands service (on g (told g.setup g.plan g.tale (entry.Wrote l tag bytes))) now) where
    abbrev e : Entry
    e = entry.Wrote l tag bytes

    abbrev made : Tale
    made = told g.setup g.plan g.tale e

    -- Links that carry others' sessions aren't concerned: what is due in them is so still.

    abbrev happens : List Happening
    happens = begun_at g.setup g.plan g.tale l tag

    lawful_by : (b : Bool) → b ≡ true → IsLawful g.setup (if b then begun g l tag bytes to_server else gone_on g l tag bytes to_server).story
        → IsLawful g.setup (happens ++ g.tale.story)
    lawful_by true so lawful = lawful
    lawful_by false so lawful = absurd (false≢true so)

    apart_as : (other : LinkId) (n : SessionName) → is_link_id other l ≡ false → session_in (link_in g.setup g.tale other).carries ≡ Some n
        → (b : Bool) → may_begin g.setup l (g.tale.wires l) g.tale ≡ b → (b && is_touched_by (view_on g) happens n) ≡ false
    apart_as other n apart carries false begins = refl
    apart_as other n apart carries true begins =
        begun_untouched g.setup g.plan g.tale.moment g.tale.story l n
        (λ m due. sent_apart g.setup (view_on g) (homes_so g.setup g.tale.story rests.stands.lawful) other l n m due carries apart)
        (g.tale.wires l) tag (plain begins)
        (lawful_by (may_begin g.setup l (g.tale.wires l) g.tale) begins
        (subst (λ (x : Tale). IsLawful g.setup x.story) (told_as g l tag bytes to_server) stands.lawful))

    untold_by : (other : LinkId) → is_link_id other l ≡ false → (found : Option SessionName) → session_in (link_in g.setup g.tale other).carries ≡ found
        → option_map_or (told_session g.setup g.plan g.tale e) found false ≡ false
    untold_by other apart None carries = refl
    untold_by other apart (Some n) carries =
        and_false (is_to_server g.tale l) _ (apart_as other n apart carries (may_begin g.setup l (g.tale.wires l) g.tale) refl)

    stands_made : Stands service (on g made) (wrote_on l count moment t)
    stands_made = sames (on g made) now (wrote_on l count moment t) stands (record {
      clients = λ c. sym (same.clients c);
      numbers = λ k. sym (same.numbers k);
      links = λ k. sym (same.links k);
    })

    undone_by : (other : LinkId) (b : Bool) → is_link_id other l ≡ b → is_to_server made other ≡ true → is_done_in other (wrote_on l count moment t) ≡ false
    undone_by other true here known = ap (λ (k : LinkId). is_done_in k (wrote_on l count moment t)) (link_of other l here) ∙ own_there
    undone_by other false apart known =
        sym (testing (on g made) (wrote_on l count moment t) other stands_made known)
        ∙ done_as_before g.setup g.plan g.tale made other
        (stays_spared g.setup g.plan g.tale made (told_link e) (told_session g.setup g.plan g.tale e) (told_spares g.setup g.plan g.tale e) other apart
        (untold_by other apart (session_in (link_in g.setup g.tale other).carries) refl))
        ∙ rests.rested other (ap (list_any (is_link_id other)) (sym (wrote_links g l tag bytes to_server)) ∙ known)

    undone_told : (other : LinkId) → is_to_server made other ≡ true → is_done_in other (wrote_on l count moment t) ≡ false
    undone_told other known = undone_by other (is_link_id other l) refl known

    pub wrote_steps : tale_step g.setup g.plan g.tale e ≡ told_then g.setup g.plan g.tale e
    wrote_steps =
        nobody_steps service counting testing sames g t now (wrote_on l count moment t) roomy rests calm e (λ client. refl)
        (wrote_clients g l tag bytes to_server) stands same undone_told

    pub wrote_rests : Rests service (behind g e g.over) now roomy
    wrote_rests =
        nobody_rests service counting testing sames g t now (wrote_on l count moment t) roomy rests calm e (λ client. refl)
        (wrote_clients g l tag bytes to_server) stands same undone_told (λ c known. plain) (of_no_client service g t l rests.stands to_server (λ c. false))
