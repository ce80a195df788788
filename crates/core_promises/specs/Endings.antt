-- Why the router ends a client: what the client said, or what the entry was at which it ended and what there was before.
use Rattle.std.specs.Prelude.{◌≡◌, ◌<◌, ◌≤◌, ◌+◌, ◌++◌, ◌&&◌, ◌||◌, ℕ, suc, Bool, true, false, All, nat_eq, length, List, [], ◌∷◌, Some}
use Rattle.std.specs.List.{list_any}
use Rattle.client_session.specs.Answers.{Talk, is_quit, messages_of}
use Rattle.mx_wire.specs.Log.{Log, accepted_links}
use Rattle.mx_wire.specs.declared.entry.Entry.{Entry}
use Rattle.mx_wire.specs.declared.entry.Entry.TheVariants.{Accepted, Ended, Got, ReadFailed, Woke, WriteFailed}
use Rattle.packet_frame.specs.Packets.{Framed}
use Rattle.private_model.specs.Names.{ClientNo, LinkId}
use Rattle.private_model.specs.Story.{is_client, is_link_id}
use Rattle.private_model.specs.View.{Setup}
use Rattle.link_laws.specs.Stands.{Codes}
use Rattle.log_story.specs.Headline.{tale_of}
use Rattle.log_story.specs.Owed.{talk_of}
use Rattle.log_story.specs.Plan.{Behind, Plan}
use Rattle.log_story.specs.Tale.{Client, Tale}
use Rattle.tale_world.specs.Decided.{Decided}
use Rattle.core_laws.specs.clients.Refusals.{is_refused_talk}
use Rattle.core_laws.specs.entry.Tells.{Fits, IsOf}
use Rattle.router_promises.specs.Errors.{buffers_full}
use Rattle.router_promises.specs.Terms.{Terms, plan_in, setup_in, tale_at}
use Rattle.core_promises.specs.Causes.{is_carried}
use Rattle.core_promises.specs.InForce.{has_administrator}

-- It said so: one of its messages is a COM_QUIT, its login is refused, or its bytes are no messages.

abbrev pub says_its_end : Talk → Bool
says_its_end talk = list_any (λ (message : Framed). is_quit message.payload) (messages_of talk).messages || is_refused_talk talk

abbrev pub has_said_its_end : Plan → Tale → ClientNo → Bool
has_said_its_end plan tale c = list_any (λ (client : Client). is_client client.number c && says_its_end (talk_of plan client)) tale.clients

-- the link is its own
abbrev pub is_its_own : Tale → LinkId → ClientNo → Bool
is_its_own tale link c = list_any (λ (client : Client). is_client client.number c && is_link_id client.link link) tale.clients

-- no message of it was taken up yet, as before it is logged in
abbrev pub is_new : Tale → ClientNo → Bool
is_new tale c = list_any (λ (client : Client). is_client client.number c && nat_eq client.taken 0) tale.clients

-- At an entry behind these: it comes, and isn't served; bytes come on a link that carries a session of its; its own link is lost, or one that carries a
-- session of its; or the loop wakes, and an administrator came, or nothing of it was taken up.

abbrev pub IsLossFor : Setup → Plan → Log → LinkId → ClientNo → Type 0
IsLossFor setup plan log link c =
    (is_its_own (tale_of setup plan log) link c || is_carried setup (tale_of setup plan log) link c) ≡ true

abbrev pub IsPartedAt : Setup → Plan → Log → Entry → ClientNo → Type 0
IsPartedAt setup plan log (Accepted port link salt) c = c.0 ≡ length (accepted_links log) + 1
IsPartedAt setup plan log (Got link bytes) c = is_carried setup (tale_of setup plan log) link c ≡ true
IsPartedAt setup plan log (Ended link) c = IsLossFor setup plan log link c
IsPartedAt setup plan log (ReadFailed link) c = IsLossFor setup plan log link c
IsPartedAt setup plan log (WriteFailed link) c = IsLossFor setup plan log link c
IsPartedAt setup plan log (Woke until_ms now_ms) c = (has_administrator log || is_new (tale_of setup plan log) c) ≡ true
IsPartedAt setup plan log _ c = ⊥

-- clients are ended there at all, but by what they said, or with a last word
abbrev pub may_end : Entry → Bool
may_end (Accepted port link salt) = true
may_end (Got link bytes) = true
may_end (Ended link) = true
may_end (ReadFailed link) = true
may_end (WriteFailed link) = true
may_end (Woke until_ms now_ms) = true
may_end _ = false

-- Or it is told that too many bytes are kept of clients, and they are.
pub data IsEndCause (budget : ℕ) (setup : Setup) (plan : Plan) (log : Log) (e : Entry) (c : ClientNo) : Type 0 where
  SaidSo : has_said_its_end plan (tale_of setup plan (log ++ e ∷ [])) c ≡ true → IsEndCause budget setup plan log e c
  Parted : IsPartedAt setup plan log e c → IsEndCause budget setup plan log e c
  TooMuch : (kept announced : ℕ) → budget < kept + announced
      → plan.words c ≡ Some (record { from = suc (length log); place = Behind; payloads = buffers_full kept announced ∷ [] })
      → IsEndCause budget setup plan log e c

-- It ended at an entry of this log, and for that.
pub record HasEndCause (budget : ℕ) (setup : Setup) (plan : Plan) (log : Log) (c : ClientNo) (at : ℕ) : Type 0 where
  pub before : Log
  pub entry : Entry
  pub later : Log
  pub there : log ≡ before ++ entry ∷ later
  pub from : at ≡ suc (length before)
  pub why : IsEndCause budget setup plan before entry c

-- a client that ended by now
abbrev pub EndsForCause : (budget : ℕ) → Setup → Plan → Log → Client → Type 0
EndsForCause budget setup plan log client =
    (at : ℕ) → plan.ends client.number ≡ Some at → at ≤ length log → HasEndCause budget setup plan log client.number at

-- each that did
abbrev pub EndsForCauses : Terms → Log → Type 0
EndsForCauses terms log = All (EndsForCause terms.router.proxy.buffer_budget (setup_in terms) (plan_in terms) log) (tale_at terms log).clients

-- by each plan that has what was decided
abbrev pub EndedBy : (budget : ℕ) → (default : List ℕ) → Decided → Log → Type 0
EndedBy budget default d log =
    (setup : Setup) (codes : Codes) (plan : Plan) → IsOf d (length log) plan → Fits d.keys setup codes plan default (tale_of setup plan log)
    → All (EndsForCause budget setup plan log) (tale_of setup plan log).clients
