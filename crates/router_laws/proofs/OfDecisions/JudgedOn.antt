-- What was judged of a client's messages is so of it as it stands behind an entry.
use Rattle.std.specs.Prelude.{◌≡◌, ◌≤◌, ◌+◌, Bool, false, ℕ, suc, length, slice_get, List, [], ◌∷◌, Some, None}
use Rattle.std.proofs.Common.{arith, subst, sym}
use Rattle.mx_wire.specs.declared.entry.Entry.{Entry}
use Rattle.client_session.specs.Answers.{Talk, messages_of}
use Rattle.client_session.specs.Setups.{Setup as Service}
use Rattle.private_model.specs.Names.{ClientNo, MessageName}
use Rattle.private_model.specs.View.{Setup}
use Rattle.log_story.specs.Owed.{messages, name_of, talk_of}
use Rattle.log_story.specs.Plan.{Plan, Route}
use Rattle.log_story.specs.Tale as tales
use Rattle.log_story.specs.Tale.{Tale, view_of}
use Rattle.core_tables.specs.Tables.{Tabled}
use Rattle.core_stands.specs.Grounds.{Ground, view_on}
use Rattle.core_stands.specs.Stands.{Stands}
use Rattle.core_laws.proofs.OfClients.Finding.{turning_of}
use Rattle.core_laws.specs.clients.Chosen.{IsTurning, PlanHas}
use Rattle.core_laws.specs.clients.Found.{AreFoundAt, IsAmong, IsLastAmong}
use Rattle.core_laws.specs.clients.Following.{IsFollowing, to_look}
use Rattle.core_laws.specs.clients.Follows.{Parting}
use Rattle.core_laws.specs.clients.Turns.{Choice, Halt, Turns}
use Rattle.core_promises.proofs.Takings.{Covers}
use Rattle.core_promises.specs.Judges.{situation_of}
use Rattle.core_promises.specs.Ruled.{AreRuled, IsChoiceFor, Ruling}
use Rattle.router_laws.specs.clients.Continues.{IsContinued, is_read_on}
use Rattle.router_promises.specs.Takings.{Taking, takings_at, takings_of}
use Rattle.router_laws.proofs.OfDecisions.Covering.{follow_covers, found_covered}
use Rattle.router_laws.proofs.OfDecisions.Judging.{judged_by}
use Rattle.router_laws.proofs.OfDecisions.KeptOn.{AreKnownHeld, turning_kept}
use Rattle.router_laws.specs.decisions.Judges.{HasKeys, IsMadeBy, JudgedFrom, Judging, SaysHalt, all_keys, judging_of}
use Rattle.router_laws.specs.decisions.Held.{keys_since}

-- What is judged by turns that are ruled, of a client before them, among takings that cover its own.
abbrev pub TurnsJudge : Type 0
TurnsJudge =
    (ruling : Ruling) (service : Service) (default : List ℕ) (first client : tales.Client) (from : Tale) (g : Ground) (t now : Tabled)
    (choices : List Choice) (halt : Halt) (c : ClientNo) → client.number ≡ c → IsTurning service default first from g t client
    → PlanHas choices halt g.setup.keys g.plan g.tale.moment (name_of client (suc client.taken)) → (turns : Turns choices halt service default c t now)
    → AreRuled ruling choices halt service default c t now turns → AreKnownHeld (keys_since ruling.since ruling.keys) (view_on g) g.plan client
    → HasKeys ruling.keys g.setup → (takings : List Taking)
    → Covers g.setup c (takings_of (length (messages g.plan client)) g.setup g.plan client g.tale) takings
    → JudgedFrom (judging_of ruling) g.setup g.plan client takings client.taken choices halt

-- and by what follows for it, among all that is taken up at the entry
abbrev pub FollowsJudge : Type 0
FollowsJudge =
    (ruling : Ruling) (service : Service) (default : List ℕ) (g : Ground) (mid now : Tabled) (fresh : ClientNo → Bool) (e : Entry)
    (client : tales.Client) (freed : Tale) (choices : List Choice) (halt : Halt) (parting : Parting) (c : ClientNo) → client.number ≡ c
    → IsFollowing service default g e client freed choices halt parting → Stands service (to_look g fresh freed) mid
    → ((m : MessageName) (route : Route) → g.plan.routes m ≡ Some route → route.mirror ≡ None)
    → (turns : Turns choices halt service default c mid now) → AreRuled ruling choices halt service default c mid now turns
    → AreKnownHeld (keys_since ruling.since ruling.keys) (view_of g.setup freed) g.plan client → HasKeys ruling.keys g.setup
    → JudgedFrom (judging_of ruling) g.setup g.plan client (takings_at g.setup g.plan g.tale e) client.taken choices halt

-- By the laws of what turns took up.

abbrev pub TurnsFind : Type 0
TurnsFind =
    (service : Service) (default : List ℕ) (first client : tales.Client) (from : Tale) (g : Ground) (t now : Tabled)
    (choices : List Choice) (halt : Halt) (c : ClientNo) → client.number ≡ c → IsTurning service default first from g t client
    → PlanHas choices halt g.setup.keys g.plan g.tale.moment (name_of client (suc client.taken)) → (turns : Turns choices halt service default c t now)
    → (most : ℕ) → length (messages g.plan client) ≤ most + client.taken
    → AreFoundAt choices halt service default c t now turns g.setup g.plan (takings_of most g.setup g.plan client g.tale) (talk_of g.plan client)
    client.taken

pub turns_judge : TurnsFind → TurnsJudge
turns_judge find ruling service default first client from g t now choices halt c number turning has turns ruled held keyed takings covers =
    judged_by ruling g.setup g.plan client keyed takings client.taken choices halt service default c number t now turns
    (found_covered g.setup g.plan c (takings_of (length (messages g.plan client)) g.setup g.plan client g.tale) takings covers choices halt service default t now turns
    (talk_of g.plan client) client.taken
    (find service default first client from g t now choices halt c number turning has turns (length (messages g.plan client)) (omega arith))) ruled
    (turning_kept ruling service default first from g t client c number turning held)

abbrev pub FollowsFind : Type 0
FollowsFind =
    (service : Service) (default : List ℕ) (g : Ground) (mid now : Tabled) (fresh : ClientNo → Bool) (e : Entry) (client : tales.Client)
    (freed : Tale) (choices : List Choice) (halt : Halt) (parting : Parting) (c : ClientNo) → client.number ≡ c
    → IsFollowing service default g e client freed choices halt parting → Stands service (to_look g fresh freed) mid
    → (turns : Turns choices halt service default c mid now)
    → AreFoundAt choices halt service default c mid now turns g.setup g.plan (takings_of (length (messages g.plan client)) g.setup g.plan client freed)
    (talk_of g.plan client) client.taken

pub follows_judge : FollowsFind → FollowsJudge
follows_judge find ruling service default g mid now fresh e client freed choices halt parting c number following stands single turns ruled held keyed =
    judged_by ruling g.setup g.plan client keyed (takings_at g.setup g.plan g.tale e) client.taken choices halt service default c number mid now turns
    (found_covered g.setup g.plan c (takings_of (length (messages g.plan client)) g.setup g.plan client freed) (takings_at g.setup g.plan g.tale e)
    (follow_covers service default g mid fresh e client freed choices halt parting following stands single c number) choices halt service default mid now turns
    (talk_of g.plan client) client.taken
    (find service default g mid now fresh e client freed choices halt parting c number following stands turns)) ruled
    (turning_kept ruling service default client freed (to_look g fresh freed) mid client c number
    (turning_of service default g mid fresh e client freed choices halt parting following stands) held)

talk_same : (plan : Plan) (was now : tales.Client) → now.number ≡ was.number → now.port ≡ was.port → now.salt ≡ was.salt → now.read ≡ was.read
    → talk_of plan now ≡ talk_of plan was
talk_same plan was now number port salt read =
    λ i. record { setup = plan.service; number = (number i).0; port = port i; salt = salt i; read = read i }

judged_alike : (judging : Judging) (setup : Setup) (plan : Plan) (takings : List Taking) (was now : tales.Client) → now.number ≡ was.number
    → talk_of plan now ≡ talk_of plan was → (k : ℕ) (choices : List Choice) (halt : Halt) → JudgedFrom judging setup plan was takings k choices halt
    → JudgedFrom judging setup plan now takings k choices halt
judged_alike judging setup plan takings was now number same k [] halt judged = (
  (
    subst (λ (c : ClientNo). IsLastAmong halt takings (record { client = c; ordinal = suc k })) (sym number) judged.0.0,
    subst (λ (talk : Talk). SaysHalt halt talk k) (sym same) judged.0.1,
  ),
  judged.1,
)
judged_alike judging setup plan takings was now number same k (choice ∷ others) halt judged =
    let first = judged.1.0 in (
      judged.0,
      (
        record {
          taking = first.taking;
          among = subst (λ (c : ClientNo). IsAmong takings (record { client = c; ordinal = suc k }) first.taking) (sym number) first.among;
          is = λ message at.
              subst (λ (c : ClientNo). IsChoiceFor choice judging.book (situation_of setup plan first.taking) (all_keys setup) c message.payload) (sym number)
              (first.is message (subst (λ (talk : Talk). slice_get (messages_of talk).messages k ≡ Some message) same at));
          made =
              subst (λ (talk : Talk). IsMadeBy choice (slice_get (messages_of talk).messages k) first.taking.client.port judging.was judged.0) (sym same)
              first.made;
        },
        judged_alike (record judging { was = judged.0 }) setup plan takings was now number same (suc k) others halt judged.1.1,
      ),
    )

-- It stands behind an entry that reads nothing of it.
pub judged_on : (judging : Judging) (setup : Setup) (plan : Plan) (takings : List Taking) (tale : Tale) (e : Entry) (was now : tales.Client)
    → IsContinued plan tale e was now → is_read_on e was.link ≡ false → (k : ℕ) → was.taken ≡ k → (choices : List Choice) (halt : Halt)
    → JudgedFrom judging setup plan was takings was.taken choices halt → JudgedFrom judging setup plan now takings k choices halt
judged_on judging setup plan takings tale e was now on unread k taken choices halt judged =
    subst (λ (n : ℕ). JudgedFrom judging setup plan now takings n choices halt) taken
    (judged_alike judging setup plan takings was now on.number (talk_same plan was now on.number on.port on.salt (on.kept unread)) was.taken choices halt judged)
