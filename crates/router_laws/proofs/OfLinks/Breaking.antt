-- A link to a server is lost: what its entry makes of the tale, and leaves of others.
use Rattle.std.specs.Prelude.{◌≡◌, ℕ, suc, Bool, true, false, ◌||◌, All, nat_eq, slice_index_or, List, Option, Some, None}
use Rattle.std.specs.Option.{option_map_or}
use Rattle.std.proofs.Common.{refl, sym, ap, ◌∙◌, subst, arith}
use Rattle.std.proofs.lemmas.Bool.{false≢true, true≢false}
use Rattle.std.proofs.lemmas.List.Elements.{All-weaker}
use Rattle.mx_wire.specs.declared.entry.Entry.{Entry}
use Rattle.client_session.specs.Setups.{Setup as Service}
use Rattle.private_model.proofs.Maps.{client_of, link_of}
use Rattle.private_model.specs.Names.{ClientNo, LinkId, SessionName}
use Rattle.private_model.specs.Story.{is_client, is_link_id}
use Rattle.private_model.specs.View.{Setup, View, session_in}
use Rattle.log_story.specs.Clients.{concerns, is_event_of}
use Rattle.log_story.specs.Owed.{name_of}
use Rattle.log_story.specs.Plan.{Plan, gives_up}
use Rattle.log_story.specs.Servers.{links_are_freed}
use Rattle.log_story.specs.Tale as tales
use Rattle.log_story.specs.Tale.{Tale, counted, is_to_server, link_in}
use Rattle.log_story.specs.Telling.{is_lost_or_left, told}
use Rattle.step_laws.proofs.Giving.{none_in}
use Rattle.step_laws.specs.Freed.{NoneDone}
use Rattle.step_laws.specs.Spared.{carries_of}
use Rattle.step_laws.specs.Steps.{told_then}
use Rattle.step_laws.specs.Taken.{GivesUpNone, is_called}
use Rattle.core_tables.specs.Parting.{given_up_in, lost_in, name_in}
use Rattle.core_tables.specs.Tables.{Tabled}
use Rattle.core_tables.specs.declared.server.Server.{Server}
use Rattle.core_stands.specs.Grounds.{Ground, on, view_on}
use Rattle.core_stands.specs.Stands.{IsAt, Rests, Stands}
use Rattle.core_laws.proofs.OfParting.Named.{row_carries}
use Rattle.core_laws.proofs.OfParting.Forgetting.{server_there}
use Rattle.core_laws.proofs.OfWriting.Knowing.{is_servers}
use Rattle.core_laws.proofs.OfEntry.Uneventful.{Testing, not_called}
use Rattle.core_laws.specs.entry.Calms.{IsAside, IsLostOf}
use Rattle.core_laws.specs.entry.Entries.{AreSpared, IsSpared, TellsOf}
use Rattle.core_laws.proofs.OfLinks.Lost.{lost_as}
use Rattle.router_laws.specs.clients.Behind.{IsOffServers}
use Rattle.router_laws.proofs.OfReading.Lent.{IsLentElsewhere}
use Rattle.router_laws.proofs.OfLinks.Closings.{gone_tale}
use Rattle.router_laws.proofs.OfLinks.Going.{IsPlain}
use Rattle.router_laws.proofs.OfLinks.Rowing.{gone_undone}
use Rattle.router_laws.specs.links.Loses.{Break, ReadEnds, ReadFails, WriteFails, entry_by}

-- All three tell the same.

pub lost_told : (setup : Setup) (plan : Plan) (tale : Tale) (how : Break) (l : LinkId) → told setup plan tale (entry_by how l) ≡ is_lost_or_left l tale
lost_told setup plan tale ReadEnds l = refl
lost_told setup plan tale ReadFails l = refl
lost_told setup plan tale WriteFails l = refl

pub lost_event : (view : View) (client : tales.Client) (how : Break) (l : LinkId) → is_event_of view client (entry_by how l) ≡ concerns view client l
lost_event view client ReadEnds l = refl
lost_event view client ReadFails l = refl
lost_event view client WriteFails l = refl

lost_aside : (setup : Setup) (tale : Tale) (how : Break) (l : LinkId) (c : ClientNo) → IsLostOf setup tale l c → IsAside setup tale (entry_by how l) c
lost_aside setup tale ReadEnds l c is = is
lost_aside setup tale ReadFails l c is = is
lost_aside setup tale WriteFails l c is = is

pub lost_tells : (whose : ClientNo → Bool) (tale : Tale) (how : Break) (l : LinkId) → TellsOf whose tale (entry_by how l)
lost_tells whose tale ReadEnds l = tt
lost_tells whose tale ReadFails l = tt
lost_tells whose tale WriteFails l = tt

pub lost_plain : (tale : Tale) (how : Break) (l : LinkId) → IsPlain tale (entry_by how l)
lost_plain tale ReadEnds l = record { writes = refl; reads = λ k. refl; comes = λ client come. come }
lost_plain tale ReadFails l = record { writes = refl; reads = λ k. refl; comes = λ client come. come }
lost_plain tale WriteFails l = record { writes = refl; reads = λ k. refl; comes = λ client come. come }

pub lost_off : (tale : Tale) (how : Break) (l : LinkId) → IsOffServers tale (entry_by how l)
lost_off tale ReadEnds l = tt
lost_off tale ReadFails l = tt
lost_off tale WriteFails l = tt

module _ (service : Service) (g : Ground) (t : Tabled) (roomy : ClientNo → Bool) (l : LinkId) (how : Break) (given : ClientNo → Option (List ℕ))
    (rests : Rests service g t roomy) (server : Server) (there : t.links l ≡ Some server) where
  abbrev e : Entry
  e = entry_by how l

  abbrev later : Tale
  later = gone_tale g.tale l

  pub known : is_to_server g.tale l ≡ true
  known = is_servers service g t l server rests.stands there

  pub told_as : later ≡ told_then g.setup g.plan g.tale e
  told_as = ap counted (sym (lost_told g.setup g.plan g.tale how l ∙ lost_as g.tale l known))

  -- no link is given back

  module _ (testing : Testing service) (stands : Stands service (on g later) (given_up_in given (lost_in l t)))
      (aside : (x : LinkId) → nat_eq l.0 x.0 ≡ false → IsLentElsewhere t given x) where
    pub undone : NoneDone g.setup g.plan later
    undone x server_there =
        testing (on g later) (given_up_in given (lost_in l t)) x stands server_there
        ∙ gone_undone service g t l given rests.stands aside x (sym (testing g t x rests.stands server_there) ∙ rests.rested x server_there)

    pub first : links_are_freed g.setup g.plan (told_then g.setup g.plan g.tale e) ≡ later
    first =
        ap (links_are_freed g.setup g.plan) (sym told_as)
        ∙ none_in g.setup g.plan later.links later (λ x among. undone x among)

  -- whose session it carries
  pub carries : session_in (link_in g.setup g.tale l).carries ≡ name_in server.row.link.state.carries
  carries = row_carries g.setup g.codes g.plan g.tale l server.row (server_there service g t l server rests.stands there).row

  -- others aren't concerned

  module _ (whose : ClientNo → Bool) (carried : (n : SessionName) → name_in server.row.link.state.carries ≡ Some n → whose n.client ≡ true)
      (keeps : All (λ (c : tales.Client). whose c.number ≡ false → GivesUpNone g.plan (suc g.tale.moment) c) g.tale.clients) where
    not_carried : (c : ClientNo) → whose c ≡ false → (found : Option SessionName) → session_in (link_in g.setup g.tale l).carries ≡ found
        → (m : SessionName) → found ≡ Some m → (b : Bool) → is_client m.client c ≡ b → b ≡ false
    not_carried c other found at m is false apart = refl
    not_carried c other found at m is true same =
        absurd (true≢false (sym (carried m (sym carries ∙ at ∙ is)) ∙ ap whose (client_of m.client c same) ∙ other))

    flip_client : (a b : ClientNo) → is_client a b ≡ false → is_client b a ≡ false
    flip_client a b apart = grind arith

    none_carried : (c : ClientNo) → whose c ≡ false → (found : Option SessionName) → session_in (link_in g.setup g.tale l).carries ≡ found
        → (option_map_or (λ (m : SessionName). is_client m.client c) found false ≡ false)
        × (option_map_or (λ (m : SessionName). is_client c m.client) found false ≡ false)
    none_carried c other None at = (refl, refl)
    none_carried c other (Some m) at =
        let apart : is_client m.client c ≡ false = not_apart (is_client m.client c) refl in (apart, flip_client m.client c apart) where
          not_apart : (b : Bool) → is_client m.client c ≡ b → is_client m.client c ≡ false
          not_apart false is = is
          not_apart true is = absurd (true≢false (not_carried c other (Some m) at m refl true is))

    not_link : (c : tales.Client) → IsAt g t c → (b : Bool) → is_link_id c.link l ≡ b → is_link_id c.link l ≡ false
    not_link c at false apart = apart
    not_link c at true here = absurd (true≢false (sym known ∙ ap (is_to_server g.tale) (sym (link_of c.link l here)) ∙ at.aside))

    unconcerned : (c : tales.Client) → IsAt g t c → whose c.number ≡ false → concerns (view_on g) c l ≡ false
    unconcerned c at other =
        λ i. not_link c at (is_link_id c.link l) refl i || (none_carried c.number other (session_in (link_in g.setup g.tale l).carries) refl).0 i

    abbrev Uncalled : tales.Client → Type 0
    Uncalled c = whose c.number ≡ false → is_called g.plan later.moment (view_on g) e c ≡ false

    pub uncalled : All Uncalled g.tale.clients
    uncalled k d within other =
        let c = slice_index_or g.tale.clients k d in
        not_called g.plan later.moment (view_on g) e c
        (lost_event (view_on g) c how l ∙ unconcerned c (rests.stands.clients.each k d within) other) (keeps k d within other c.taken (omega arith))

    lost_of : (c : ClientNo) → whose c ≡ false → IsLostOf g.setup g.tale l c
    lost_of c other = record {
      carried = λ is. (none_carried c other (session_in (link_in g.setup g.tale l).carries) refl).1;
      theirs = All-weaker (IsAt g t) (λ (x : tales.Client). is_link_id x.link l ≡ true → is_client c x.number ≡ false)
          (λ x at here. absurd (true≢false (sym here ∙ not_link x at (is_link_id x.link l) refl))) g.tale.clients rests.stands.clients.each;
    }

    pub spared : AreSpared whose g e
    spared =
        All-weaker (λ (c : tales.Client). whose c.number ≡ false → GivesUpNone g.plan (suc g.tale.moment) c)
        (λ (c : tales.Client). whose c.number ≡ false → IsSpared g e c)
        (λ c kept other. record { aside = lost_aside g.setup g.tale how l c.number (lost_of c.number other); keeps = kept other }) g.tale.clients keeps
