-- A turn in one session leaves all others.
use Rattle.std.specs.Prelude.{◌≡◌, ℕ, Bool, false, List, Some, option_copied}
use Rattle.std.specs.HashMap.{get_by}
use Rattle.std.proofs.Common.{◌∙◌, sym, ap}
use Rattle.mx_base.specs.declared.names.ClientNo.{ClientNo}
use Rattle.mx_base.specs.declared.names.ServerId.{ServerId}
use Rattle.session_state.specs.declared.names.MessageName.{MessageName}
use Rattle.session_state.specs.declared.names.SessionName.{SessionName}
use Rattle.server_rule.specs.Classes.{is_prepare}
use Rattle.server_rule.specs.Servers.{Step}
use Rattle.private_model.proofs.Maps.{at_each, messages, names, put-other, put-same}
use Rattle.private_model.specs.Commands.{Account, Reply, runs}
use Rattle.private_model.specs.Story.{Due, is_message, is_name, message_of, put}
use Rattle.private_model.specs.Worlds.{Private, private_statement}
use Rattle.oracle.specs.Entries.{prepared_at}
use Rattle.oracle.specs.Runs.{IsAt, RunsStatement}
use Rattle.oracle.specs.Turns.{IsOf, Leads, account_of}
use Rattle.oracle.specs.World.{IsWorld, answer_at, own_at, prepared_of, session_of}
use Rattle.oracle.specs.declared.own.Own.{Own}
use Rattle.oracle.specs.declared.world.Statement.{Statement}
use Rattle.oracle.specs.declared.world.Who.{Who}
use Rattle.oracle.specs.declared.world.World.{World}

-- a session was taken out, and another one was put in its place
pub record IsSwapped (who : Who) (old new : World) (taken given : Own) : Type 0 where
  pub session : taken.session ≡ session_of (own_at old who.name) (account_of who)
  pub prepared : (key : ℕ) → prepared_at taken.prepared key ≡ prepared_of (own_at old who.name) key
  pub here : own_at new who.name ≡ Some given
  pub others : (n : SessionName) → is_name n who.name ≡ false → own_at new n ≡ own_at old n

pub swapped : (who : Who) (old mid new : World) (taken given : Own) → taken.session ≡ session_of (own_at old who.name) (account_of who)
    → ((key : ℕ) → prepared_at taken.prepared key ≡ prepared_of (own_at old who.name) key) → ((n : SessionName) → is_name n who.name ≡ false → own_at mid n ≡ own_at old n)
    → ((n : SessionName) → own_at new n ≡ put is_name (own_at mid) who.name (Some given) n) → IsSwapped who old new taken given
swapped who old mid new taken given session prepared others given_is = record {
  session = session;
  prepared = prepared;
  here = given_is who.name ∙ put-same names (own_at mid) who.name (Some given);
  others = λ n other. given_is n ∙ put-other names (own_at mid) who.name (Some given) n other ∙ others n other;
}

-- a turn looks at one session and leaves the others
pub record IsLocal (n : SessionName) (turn : Private → ServerId → Private) : Type 0 where
  pub sessions : (private : Private) (server : ServerId) (m : SessionName) → is_name m n ≡ false → (turn private server).sessions m ≡ private.sessions m
  pub tables : (private : Private) (server : ServerId) (m : SessionName) (key : ℕ) → is_name m n ≡ false → (turn private server).tables m key ≡ private.tables m key

-- what is under the name, as the taken session says
at_name : (who : Who) (old new : World) (taken given : Own) (accounts : ClientNo → Account) (private : Private) (server : ServerId) (stored : List ℕ) → IsSwapped who old new taken given
    → accounts who.name.client ≡ account_of who → private.stored server ≡ stored → IsWorld accounts old private → IsAt private server who.name stored taken
at_name who old new taken given accounts private server stored swap account same is = record {
  stored_is = same;
  session_is = is.sessions who.name ∙ ap (session_of (own_at old who.name)) account ∙ sym swap.session;
  prepared_is = λ key. is.prepared who.name key ∙ sym (swap.prepared key);
}

pub leads : (who : Who) (old new : World) (taken given : Own) (stored new_stored : List ℕ) (turn : Private → ServerId → Private) → IsSwapped who old new taken given → IsLocal who.name turn
    → ((private : Private) (server : ServerId) → IsAt private server who.name stored taken → IsAt (turn private server) server who.name new_stored given)
    → ((private : Private) (server : ServerId) → IsAt private server who.name stored taken → ((m : MessageName) → private.answers m ≡ answer_at old m) → (m : MessageName) → (turn private server).answers m ≡ answer_at new m)
    → Leads who old stored new new_stored turn
leads who old new taken given stored new_stored turn swap local here answers = record {
  leaves = λ accounts private server account same is.
      let at = at_name who old new taken given accounts private server stored swap account same is in
      let after = here private server at in
      record {
        sessions = at_each names (λ n. (turn private server).sessions n ≡ session_of (own_at new n) (accounts n.client)) who.name
            (after.session_is ∙ ap (λ o. session_of o (accounts who.name.client)) (sym swap.here))
            (λ n other. local.sessions private server n other ∙ is.sessions n ∙ ap (λ o. session_of o (accounts n.client)) (sym (swap.others n other)));
        prepared = λ n key. at_each names (λ n. (turn private server).tables n key ≡ prepared_of (own_at new n) key) who.name
            (after.prepared_is key ∙ ap (λ o. prepared_of o key) (sym swap.here))
            (λ n other. local.tables private server n key other ∙ is.prepared n key ∙ ap (λ o. prepared_of o key) (sym (swap.others n other))) n;
        answers = answers private server at is.answers;
      };
  data_is = λ accounts private server account same is. (here private server (at_name who old new taken given accounts private server stored swap account same is)).stored_is;
}

pub statement_local : (step : Step) (n : SessionName) (due : Due) → IsLocal n (λ private server. private_statement (runs step) private server n due)
statement_local step n due = record {
  sessions = λ private server m other. put-other names private.sessions n _ m other;
  tables = λ private server m key other. ap (λ f. f key) (put-other names private.tables n _ m other);
}

-- the answer to its message
statement_answers : (step : Step) (who : Who) (old new : World) (taken : Own) (stored : List ℕ) (due : Due) (reply : Reply)
    → ((private : Private) (server : ServerId) → IsAt private server who.name stored taken → (private_statement (runs step) private server who.name due).answers (message_of who.name due) ≡ Some reply)
    → ((m : MessageName) → answer_at new m ≡ put is_message (answer_at old) (message_of who.name due) (Some reply) m)
    → (private : Private) (server : ServerId) → IsAt private server who.name stored taken → ((m : MessageName) → private.answers m ≡ answer_at old m)
    → (m : MessageName) → (private_statement (runs step) private server who.name due).answers m ≡ answer_at new m
statement_answers step who old new taken stored due reply answer kept private server at before = at_each messages
    (λ m. (private_statement (runs step) private server who.name due).answers m ≡ answer_at new m) (message_of who.name due)
    (answer private server at ∙ sym (kept (message_of who.name due) ∙ put-same messages (answer_at old) (message_of who.name due) (Some reply)))
    (λ m other. put-other messages private.answers (message_of who.name due) _ m other ∙ before m ∙ sym (kept m ∙ put-other messages (answer_at old) (message_of who.name due) (Some reply) m other))

-- A session is taken out, runs a statement, the answer is put, and the session is put back.
pub leads_statement : (step : Step) (who : Who) (old mid answered new : World) (taken given : Own) (stored new_stored : List ℕ) (asked : Statement) (to_prepare : Bool) (payloads : List (List ℕ))
    → taken.session ≡ session_of (own_at old who.name) (account_of who)
    → ((key : ℕ) → prepared_at taken.prepared key ≡ prepared_of (own_at old who.name) key)
    → ((n : SessionName) → is_name n who.name ≡ false → own_at mid n ≡ own_at old n)
    → mid.answers ≡ old.answers
    → to_prepare ≡ is_prepare asked.command
    → RunsStatement step stored taken (option_copied asked.place) asked.key asked.command new_stored given payloads
    → ((m : MessageName) → answer_at answered m ≡ put is_message (answer_at mid) (record { client = who.name.client; ordinal = asked.ordinal }) (Some (record { to_prepare = to_prepare; payloads = payloads })) m)
    → answered.owns ≡ mid.owns
    → ((n : SessionName) → own_at new n ≡ put is_name (own_at answered) who.name (Some given) n)
    → new.answers ≡ answered.answers
    → (due : Due) → IsOf due asked → Leads who old stored new new_stored (λ private server. private_statement (runs step) private server who.name due)
leads_statement step who old mid answered new taken given stored new_stored asked to_prepare payloads session prepared others mid_answers kind run answer owns given_is new_answers due is =
    leads who old new taken given stored new_stored (λ private server. private_statement (runs step) private server who.name due)
    (swapped who old answered new taken given session prepared (λ n other. ap (λ o. get_by (λ key. is_name n key) o) owns ∙ others n other) given_is)
    (statement_local step who.name due)
    (λ private server at. run.here private server who.name due at is.place_is is.key_is is.command_is)
    (statement_answers step who old new taken stored due (record { to_prepare = is_prepare asked.command; payloads = payloads })
    (λ private server at. run.answer private server who.name due at is.place_is is.key_is is.command_is)
    (λ m. ap (λ o. get_by (λ key. is_message m key) o) new_answers ∙ answer m
    ∙ (λ i. put is_message (λ x. get_by (λ key. is_message x key) (mid_answers i)) (record { client = who.name.client; ordinal = is.ordinal_is i })
    (Some (record { to_prepare = kind i; payloads = payloads })) m)))
