-- Runs in a session of a client's own are those of the private world.
use Rattle.std.specs.Prelude.{◌≡◌, ℕ, Bool, true, false, not, List, Option, Some, None, if◌then◌else◌}
use Rattle.std.proofs.Common.{◌∙◌, refl, sym, ap, subst}
use Rattle.mx_base.specs.declared.names.ServerId.{ServerId}
use Rattle.session_state.specs.Endings.{is_err as is_err_end}
use Rattle.session_state.specs.declared.names.SessionName.{SessionName}
use Rattle.session_state.specs.declared.place.Place.{Place}
use Rattle.server_rule.specs.Classes.{is_prepare as prepares}
use Rattle.server_rule.specs.Replies.{err_end, first_payload, is_err_payload, prepared_end, reply_end}
use Rattle.server_rule.specs.Servers.{Outcome, Step}
use Rattle.server_rule.specs.declared.command.Cmd.{Cmd}
use Rattle.server_rule.specs.declared.command.Cmd.TheVariants as cmd
use Rattle.server_rule.specs.declared.session.Session.{Session}
use Rattle.private_model.proofs.Maps.{same_message, same_name, same_server}
use Rattle.private_model.specs.Commands.{Command, FieldList, InitDb, Prepare, Query, Quit, ReadId, Reset, Run, SetId, cmd_of, is_made, runs, is_prepare}
use Rattle.private_model.specs.Story.{Due, Key, message_of}
use Rattle.private_model.specs.View.{text_of}
use Rattle.private_model.specs.Worlds.{Private, placed, private_prep, private_statement, readied, tabled}
use Rattle.private_model.specs.Worlds as worlds
use Rattle.oracle.specs.Entries.{prepared_at}
use Rattle.oracle.specs.Made.{AreRun, decoded, kept, outcome_at, placed_by, prepared_by}
use Rattle.oracle.specs.Runs.{IsAt, RunsStatement, taken}
use Rattle.oracle.specs.declared.own.Own.{Own}

ready_by : (anew : Bool) (place : Place) (s : Session) → (if anew then placed place s else s) ≡ placed_by (if anew then Some place else None) s
ready_by true place s = refl
ready_by false place s = refl

ready : (due : Due) (s : Session) → readied due s ≡ placed_by (taken due) s
ready due s = ready_by due.anew due.place s

pub decoded_as : (entry : Option Key) (c : Command) → cmd_of (worlds.decoded entry c) ≡ decoded entry (cmd_of c)
decoded_as None c = refl
decoded_as (Some entry) (Query text) = refl
decoded_as (Some entry) (InitDb schema) = refl
decoded_as (Some entry) (FieldList rest) = refl
decoded_as (Some entry) (SetId n) = refl
decoded_as (Some entry) ReadId = refl
decoded_as (Some entry) (Prepare text) = refl
decoded_as (Some entry) (Run text schema settings args) = refl
decoded_as (Some entry) Reset = refl
decoded_as (Some entry) Quit = refl

still_prepares : (entry : Option Key) (c : Command) → prepares (cmd_of (worlds.decoded entry c)) ≡ prepares (cmd_of c)
still_prepares None c = refl
still_prepares (Some entry) (Query text) = refl
still_prepares (Some entry) (InitDb schema) = refl
still_prepares (Some entry) (FieldList rest) = refl
still_prepares (Some entry) (SetId n) = refl
still_prepares (Some entry) ReadId = refl
still_prepares (Some entry) (Prepare text) = refl
still_prepares (Some entry) (Run text schema settings args) = refl
still_prepares (Some entry) Reset = refl
still_prepares (Some entry) Quit = refl

made_by : (refused : Bool) (payload : List ℕ) (key : ℕ) (text : List ℕ) (s : Session) (t : ℕ → Option Key)
    → tabled true (not (is_err_end (if refused then err_end payload else prepared_end payload))) key text s t ≡ kept refused key text s t
made_by true payload key text s t = refl
made_by false payload key text s t = refl

pub made : (payloads : List (List ℕ)) (key : ℕ) (text : List ℕ) (s : Session) (t : ℕ → Option Key)
    → tabled true (is_made (record { to_prepare = true; payloads = payloads })) key text s t ≡ kept (is_err_payload (first_payload payloads)) key text s t
unfolding reply_end
made payloads key text s t = made_by (is_err_payload (first_payload payloads)) (first_payload payloads) key text s t

-- what a statement leaves prepared
left : (entry : Option Key) (c : Command) (payloads : List (List ℕ)) (key : ℕ) (s : Session) (t : ℕ → Option Key)
    → tabled (is_prepare c) (is_made (record { to_prepare = prepares (cmd_of (worlds.decoded entry c)); payloads = payloads })) key (text_of c) s t
    ≡ prepared_by (decoded entry (cmd_of c)) (is_err_payload (first_payload payloads)) key s t
left None (Query text) payloads key s t = refl
left None (InitDb schema) payloads key s t = refl
left None (FieldList rest) payloads key s t = refl
left None (SetId n) payloads key s t = refl
left None ReadId payloads key s t = refl
left None (Prepare text) payloads key s t = made payloads key text s t
left None (Run text schema settings args) payloads key s t = refl
left None Reset payloads key s t = refl
left None Quit payloads key s t = refl
left (Some entry) (Query text) payloads key s t = refl
left (Some entry) (InitDb schema) payloads key s t = refl
left (Some entry) (FieldList rest) payloads key s t = refl
left (Some entry) (SetId n) payloads key s t = refl
left (Some entry) ReadId payloads key s t = refl
left (Some entry) (Prepare text) payloads key s t = made payloads key text s t
left (Some entry) (Run text schema settings args) payloads key s t = refl
left (Some entry) Reset payloads key s t = refl
left (Some entry) Quit payloads key s t = refl

pub stepped : (step : Step) (a b : List ℕ) (s t : Session) (c d : Cmd) → a ≡ b → s ≡ t → c ≡ d → step a s c ≡ step b t d
stepped step a b s t c d stored session command = λ i. step (stored i) (session i) (command i)

-- the statement of a private world and the run in its session
same_run : (step : Step) (stored : List ℕ) (own : Own) (private : Private) (server : ServerId) (n : SessionName) (due : Due) → IsAt private server n stored own
    → step (private.stored server) (readied due (private.sessions n)) (cmd_of (worlds.decoded (private.tables n due.key) due.command))
    ≡ outcome_at step stored own (taken due) due.key (cmd_of due.command)
same_run step stored own private server n due at =
    stepped step _ _ _ _ _ _ at.stored_is (ready due (private.sessions n) ∙ ap (placed_by (taken due)) at.session_is)
    (decoded_as (private.tables n due.key) due.command ∙ ap (λ entry. decoded entry (cmd_of due.command)) (at.prepared_is due.key))

same_tables : (stored : List ℕ) (own : Own) (private : Private) (server : ServerId) (n : SessionName) → IsAt private server n stored own → private.tables n ≡ prepared_at own.prepared
same_tables stored own private server n at = λ i key. at.prepared_is key i

-- what is left prepared behind it
tables_by : (c : Command) (key : ℕ) (a b : Option Key) (p q : List (List ℕ)) (s t : Session) (f g : ℕ → Option Key) → a ≡ b → p ≡ q → s ≡ t → f ≡ g → (k : ℕ)
    → prepared_by (decoded a (cmd_of c)) (is_err_payload (first_payload p)) key s f k ≡ prepared_by (decoded b (cmd_of c)) (is_err_payload (first_payload q)) key t g k
tables_by c key a b p q s t f g entry reply session table k =
    λ i. prepared_by (decoded (entry i) (cmd_of c)) (is_err_payload (first_payload (reply i))) key (session i) (table i) k

here_by : (step : Step) (stored : List ℕ) (own : Own) (new_stored : List ℕ) (new : Own) (payloads : List (List ℕ)) (private : Private) (server : ServerId) (n : SessionName) (due : Due)
    → AreRun step stored own (taken due) due.key (cmd_of due.command) new_stored new payloads → IsAt private server n stored own
    → IsAt (private_statement (runs step) private server n due) server n new_stored new
here_by step stored own new_stored new payloads private server n due are at =
    let same = same_run step stored own private server n due at in
    let session = ap (λ (o : Outcome). o.session) same ∙ sym are.session_is in
    record {
      stored_is = rw (same_server server) (ap (λ (o : Outcome). o.stored) same ∙ sym are.stored_is);
      session_is = rw (same_name n) session;
      prepared_is = λ k. rw (same_name n) (ap (λ (f : ℕ → Option Key). f k) (left (private.tables n due.key) due.command _ due.key _ (private.tables n))
          ∙ tables_by due.command due.key _ _ _ _ _ _ _ _ (at.prepared_is due.key) (ap (λ (o : Outcome). o.reply) same ∙ sym are.reply_is) session (same_tables stored own private server n at) k
          ∙ sym (are.prepared_is k));
    }

answer_by : (step : Step) (stored : List ℕ) (own : Own) (new_stored : List ℕ) (new : Own) (payloads : List (List ℕ)) (private : Private) (server : ServerId) (n : SessionName) (due : Due)
    → AreRun step stored own (taken due) due.key (cmd_of due.command) new_stored new payloads → IsAt private server n stored own
    → (private_statement (runs step) private server n due).answers (message_of n due) ≡ Some (record { to_prepare = prepares (cmd_of due.command); payloads = payloads })
answer_by step stored own new_stored new payloads private server n due are at =
    let reply = ap (λ (o : Outcome). o.reply) (same_run step stored own private server n due at) ∙ sym are.reply_is in
    let kind = still_prepares (private.tables n due.key) due.command in
    rw (same_message (message_of n due)) (λ i. Some (record { to_prepare = kind i; payloads = reply i }))

as_due : (step : Step) (stored : List ℕ) (own : Own) (new_stored : List ℕ) (new : Own) (payloads : List (List ℕ)) (p q : Option Place) (k l : ℕ) (c d : Cmd) → p ≡ q → k ≡ l → c ≡ d
    → AreRun step stored own p k c new_stored new payloads → AreRun step stored own q l d new_stored new payloads
as_due step stored own new_stored new payloads p q k l c d place key command are =
    let P : Option Place → Type 0 = λ x. AreRun step stored own x k c new_stored new payloads in
    let Q : ℕ → Type 0 = λ x. AreRun step stored own q x c new_stored new payloads in
    let R : Cmd → Type 0 = λ x. AreRun step stored own q l x new_stored new payloads in
    subst R command (subst Q key (subst P place are))

kept_by : (key : ℕ) (text : List ℕ) (p q : List (List ℕ)) (s t : Session) (f g : ℕ → Option Key) → p ≡ q → s ≡ t → f ≡ g → (k : ℕ)
    → kept (is_err_payload (first_payload p)) key text s f k ≡ kept (is_err_payload (first_payload q)) key text t g k
kept_by key text p q s t f g reply session table k = λ i. kept (is_err_payload (first_payload (reply i))) key text (session i) (table i) k

prepares_still : (entry : Option Key) (text : List ℕ) (refused : Bool) (key : ℕ) (s : Session) (t : ℕ → Option Key) (k : ℕ)
    → kept refused key text s t k ≡ prepared_by (decoded entry (cmd.Prepare text)) refused key s t k
prepares_still None text refused key s t k = refl
prepares_still (Some entry) text refused key s t k = refl

prepare_as : (entry : Option Key) (text : List ℕ) → cmd.Prepare text ≡ decoded entry (cmd.Prepare text)
prepare_as None text = refl
prepare_as (Some entry) text = refl

-- the preparation of a statement's text
prep_by : (step : Step) (stored : List ℕ) (own : Own) (key : ℕ) (new_stored : List ℕ) (new : Own) (payloads : List (List ℕ)) (private : Private) (server : ServerId) (n : SessionName) (text : List ℕ)
    → AreRun step stored own None key (cmd.Prepare text) new_stored new payloads → IsAt private server n stored own
    → IsAt (private_prep (runs step) private true server n key text) server n new_stored new
prep_by step stored own key new_stored new payloads private server n text are at =
    let same : step (private.stored server) (private.sessions n) (cmd.Prepare text) ≡ outcome_at step stored own None key (cmd.Prepare text) =
    stepped step _ _ _ _ _ _ at.stored_is at.session_is (prepare_as (prepared_at own.prepared key) text) in
    let session = ap (λ (o : Outcome). o.session) same ∙ sym are.session_is in
    record {
      stored_is = rw (same_server server) (ap (λ (o : Outcome). o.stored) same ∙ sym are.stored_is);
      session_is = rw (same_name n) session;
      prepared_is = λ k. rw (same_name n) (ap (λ (f : ℕ → Option Key). f k) (made _ key text _ (private.tables n))
          ∙ kept_by key text _ _ _ _ _ _ (ap (λ (o : Outcome). o.reply) same ∙ sym are.reply_is) session (same_tables stored own private server n at) k
          ∙ prepares_still (prepared_at own.prepared key) text _ key _ _ k ∙ sym (are.prepared_is k));
    }

pub runs_statement : (step : Step) (stored : List ℕ) (own : Own) (place : Option Place) (key : ℕ) (command : Cmd) (new_stored : List ℕ) (new : Own) (payloads : List (List ℕ))
    → AreRun step stored own place key command new_stored new payloads → RunsStatement step stored own place key command new_stored new payloads
runs_statement step stored own place key command new_stored new payloads are = record {
  here = λ private server n due at p k c. here_by step stored own new_stored new payloads private server n due (as_due step stored own new_stored new payloads _ _ _ _ _ _ p k c are) at;
  answer = λ private server n due at p k c.
      answer_by step stored own new_stored new payloads private server n due (as_due step stored own new_stored new payloads _ _ _ _ _ _ p k c are) at ∙ ap (λ (x : Cmd). Some (record { to_prepare = prepares x; payloads = payloads })) (sym c);
  prep = λ private server n text at p c. prep_by step stored own key new_stored new payloads private server n text (as_due step stored own new_stored new payloads _ _ _ _ _ _ p refl c are) at;
}
