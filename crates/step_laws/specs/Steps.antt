-- What an entry makes of a tale, by the links and clients that it concerns.
use Rattle.std.specs.Prelude.{◌≡◌, ℕ, Bool, true, false, ◌||◌, All, filter, fold, List}
use Rattle.mx_wire.specs.declared.entry.Entry.{Entry}
use Rattle.private_model.specs.Names.{ClientNo, LinkId, SessionName}
use Rattle.private_model.specs.Story.{Left}
use Rattle.private_model.specs.View.{Setup}
use Rattle.log_story.specs.Clients.{client_goes_on}
use Rattle.log_story.specs.Plan.{Plan, is_now}
use Rattle.log_story.specs.Servers.{links_are_freed}
use Rattle.log_story.specs.Tale.{Client, Tale, counted, link_in, tell, view_of}
use Rattle.log_story.specs.Telling.{told}
use Rattle.step_laws.specs.Freed.{freed_in}
use Rattle.step_laws.specs.Seats.{IsSeated, clients_of, is_its, numbers}
use Rattle.step_laws.specs.Spared.{carries_of, may_be_freed}
use Rattle.step_laws.specs.Taken.{ArePassedBut, AreSingle, gone_on}

-- these are ended
abbrev pub leave : List ClientNo → Tale → Tale
leave ended tale = fold (λ (t : Tale) (c : ClientNo). tell (Left c) t) tale ended

-- the router ends them at this moment
abbrev pub ends_now : Plan → (moment : ℕ) → ClientNo → Bool
ends_now plan moment c = is_now moment (plan.ends c)

abbrev pub ended_now : Plan → Tale → List ClientNo
ended_now plan tale = filter (ends_now plan tale.moment) (numbers tale)

abbrev pub EndsNone : Plan → Tale → Type 0
EndsNone plan tale = All (λ (c : Client). ends_now plan tale.moment c.number ≡ false) tale.clients

-- of its clients this one alone
pub record EndsOnly (plan : Plan) (client : Client) (tale : Tale) : Type 0 where
  pub seated : IsSeated tale client
  pub ends : ends_now plan tale.moment client.number ≡ true
  pub others : All (λ (c : Client). is_its client c.number ≡ false
      → ends_now plan tale.moment c.number ≡ false) tale.clients

-- the entry is told, and counted
abbrev pub told_then : Setup → Plan → Tale → Entry → Tale
told_then setup plan tale e = counted (told setup plan tale e)

-- Links that may be given back as the entry was told, clients whose messages may be taken up, clients that are ended, and links
-- that may be given back behind that.
pub record Concerned : Type 0 where
  pub first : List LinkId
  pub called : List Client
  pub ended : List ClientNo
  pub last : List LinkId

abbrev pub freed_first : Setup → Plan → Concerned → Tale → Entry → Tale
freed_first setup plan by tale e = freed_in setup plan by.first (told_then setup plan tale e)

abbrev pub gone_then : Setup → Plan → Concerned → Tale → Entry → Tale
gone_then setup plan by tale e =
    gone_on setup plan (view_of setup tale) e by.called (freed_first setup plan by tale e)

abbrev pub ended_then : Setup → Plan → Concerned → Tale → Entry → Tale
ended_then setup plan by tale e = leave by.ended (gone_then setup plan by tale e)

abbrev pub step_by : Setup → Plan → Concerned → Tale → Entry → Tale
step_by setup plan by tale e = freed_in setup plan by.last (ended_then setup plan by tale e)

-- These clients are all that may take up messages, no copies are made of their messages, and those are ended that the plan ends now.
pub record IsConcerned (setup : Setup) (plan : Plan) (tale : Tale) (e : Entry) (by : Concerned)
    (called : ClientNo → Bool) : Type 0 where
  pub single : AreSingle plan called
  pub passes : ArePassedBut setup plan (view_of setup tale) e called (freed_first setup plan by tale e)
  pub calls : clients_of called (told_then setup plan tale e) ≡ by.called
  pub ends : ended_now plan (told_then setup plan tale e) ≡ by.ended

-- Where one client may take up messages, or none: what the first links that are given back make, and who is ended.

abbrev pub its_end : Setup → Plan → Tale → Entry → Client → (ended : List ClientNo) → (freed : Tale)
    → Tale
its_end setup plan tale e client ended freed =
    leave ended (client_goes_on setup plan (view_of setup tale) e freed client)

pub record IsOfOne (setup : Setup) (plan : Plan) (tale : Tale) (e : Entry) (client : Client)
    (ended : List ClientNo) (freed : Tale) : Type 0 where
  pub first : links_are_freed setup plan (told_then setup plan tale e) ≡ freed
  pub seated : IsSeated (told_then setup plan tale e) client
  pub single : AreSingle plan (is_its client)
  pub passes : ArePassedBut setup plan (view_of setup tale) e (is_its client) freed
  pub ends : ended_now plan (told_then setup plan tale e) ≡ ended

pub record IsOfNone (setup : Setup) (plan : Plan) (tale : Tale) (e : Entry) (ended : List ClientNo)
    (freed : Tale) : Type 0 where
  pub first : links_are_freed setup plan (told_then setup plan tale e) ≡ freed
  pub passes : ArePassedBut setup plan (view_of setup tale) e (λ c. false) freed
  pub ends : ended_now plan (told_then setup plan tale e) ≡ ended

-- Links that carry sessions of clients that were called, or of those that were ended.

abbrev pub of_either : (called ended : ClientNo → Bool) → SessionName → Bool
of_either called ended n = called n.client || ended n.client

abbrev pub carries_either : Setup → (called ended : ClientNo → Bool) → Tale → LinkId → Bool
carries_either setup called ended tale link =
    carries_of (of_either called ended) (link_in setup tale link).carries

abbrev pub carries_parting : Setup → Plan → (called : ClientNo → Bool) → Tale → LinkId → Bool
carries_parting setup plan called tale = carries_either setup called (ends_now plan tale.moment) tale

-- Whatever the entry: links that may be given back as it is told, these clients, those that are ended, and links that carry
-- sessions of either.

abbrev pub freed_told : Setup → Plan → Tale → Entry → Tale
freed_told setup plan tale e =
    let now = told_then setup plan tale e in
    freed_in setup plan (filter (may_be_freed setup plan tale e) now.links) now

abbrev pub concerned : Setup → Plan → (called : ClientNo → Bool) → Tale → Entry → Concerned
concerned setup plan called tale e =
    let now = told_then setup plan tale e in
    let freed = freed_told setup plan tale e in
    record {
      first = filter (may_be_freed setup plan tale e) now.links;
      called = clients_of called now;
      ended = ended_now plan now;
      last = filter (carries_parting setup plan called freed) now.links;
    }
