-- What follows for one client stands for what the tale tells of it, by a plan that has what was decided of it.
use Rattle.std.specs.Prelude.{◌≡◌, ℕ, suc, Bool, true, false, ◌&&◌, if◌then◌else◌, List, [], ◌∷◌, None}
use Rattle.mx_wire.specs.declared.entry.Entry.{Entry}
use Rattle.client_session.specs.Setups.{Setup as Service}
use Rattle.private_model.specs.Names.{ClientNo}
use Rattle.private_model.specs.Story.{Left, is_client}
use Rattle.log_story.specs.Owed.{name_of}
use Rattle.log_story.specs.Plan.{word_at}
use Rattle.log_story.specs.Tale as tales
use Rattle.log_story.specs.Tale.{Tale, tell}
use Rattle.log_story.specs.Telling.{tale_step}
use Rattle.row_laws.specs.Readied.{AreClasses}
use Rattle.step_laws.specs.Freed.{Ascend}
use Rattle.step_laws.specs.Seats.{IsSeated, is_its}
use Rattle.step_laws.specs.Steps.{IsOfOne, ends_now}
use Rattle.step_laws.specs.Taken.{is_called}
use Rattle.core_tables.specs.Tables.{Tabled}
use Rattle.core_stands.specs.Grounds.{Ground, ending, on, view_on}
use Rattle.core_stands.specs.Stands.{Rests, Stands}
use Rattle.core_laws.specs.arrival.Looks.{IsLetIn}
use Rattle.core_laws.specs.entry.Entries.{AreSpared, TellsOf, behind}
use Rattle.core_laws.specs.clients.Chosen.{PlanHas}
use Rattle.core_laws.specs.clients.Follows.{Leaves, LeavesTold, Parting, Stays, Tells, ends_by}
use Rattle.core_laws.specs.clients.Turns.{Choice, Halt}

-- who is ended
abbrev pub ended_by : Halt → Parting → ClientNo → List ClientNo
ended_by halt parting c = if ends_by halt parting then c ∷ [] else []

-- By the plan it has no last word; or it has one by which the tables stand that it is told.

abbrev pub StandTold : (payload : List ℕ) → Service → Ground → ClientNo → (moment : ℕ) → Type 0
StandTold payload service g c moment =
    (client : tales.Client) (tale : Tale) (t now : Tabled) → client.number ≡ c → tale.moment ≡ moment → IsSeated tale client
    → Stands service (on g tale) t → LeavesTold payload c t now → Stands service (ending c (on g (tell (Left c) tale))) now

abbrev pub IsPartedIn : Parting → Service → Ground → ClientNo → (moment : ℕ) → Type 0
IsPartedIn Stays service g c moment = Unit {0}
IsPartedIn Leaves service g c moment = word_at g.plan moment c ≡ None
IsPartedIn (Tells payload) service g c moment = StandTold payload service g c moment

-- An entry is of one client, which is called, as it stands once the entry is told; and the plan has its turns and its end. Links to servers
-- rise by their ids.
pub record IsFollowing (service : Service) (default : List ℕ) (g : Ground) (e : Entry) (client : tales.Client) (freed : Tale) (choices : List Choice)
    (halt : Halt) (parting : Parting) : Type 0 where
  pub of_one : IsOfOne g.setup g.plan g.tale e client (ended_by halt parting client.number) freed
  pub tells : TellsOf (is_its client) g.tale e
  pub spared : AreSpared (is_its client) g e
  pub called : is_called g.plan freed.moment (view_on g) e client ≡ true
  pub going : g.over client.number ≡ false
  pub classes : AreClasses g.setup.reads
  pub let_in : IsLetIn g default client
  pub unrouted : g.plan.routes (name_of client 0) ≡ None
  pub chosen : PlanHas choices halt g.setup.keys g.plan freed.moment (name_of client (suc client.taken))
  pub parted : IsPartedIn parting service g client.number freed.moment
  pub ends : (c : ClientNo) → ends_now g.plan (suc g.tale.moment) c ≡ (is_client client.number c && ends_by halt parting)
  pub rising : Ascend (λ l. l.0) freed.links

-- Bytes that weren't looked at are of this client, if of any.
abbrev pub to_look : Ground → (fresh : ClientNo → Bool) → Tale → Ground
to_look g fresh tale = record g { tale = tale; fresh = fresh }

-- Behind the entry the tables rest, and of the client so many messages were taken up.
pub record IsFollowed (service : Service) (g : Ground) (e : Entry) (client : tales.Client) (freed : Tale) (taken : ℕ) (over room : ClientNo → Bool)
    (now : Tabled) : Type 0 where
  pub rests : Rests service (behind g e over) now room
  pub counts : (x : tales.Client) → IsSeated (tale_step g.setup g.plan g.tale e) x → is_its client x.number ≡ true → x.taken ≡ taken
