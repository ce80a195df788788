-- Whether a log is honest, by a test that can be computed.
use Rattle.std.specs.Prelude.{◌≡◌, ◌⊎◌, ◌<◌, ℕ, zero, suc, Bool, true, false, not, ◌&&◌, ◌||◌, nat_eq, nat_lt, bytes_eq, ◌/◌, drop, length, take, List, []}
use Rattle.std.specs.Prelude.{◌∷◌, ◌++◌, Option, Some, None}
use Rattle.std.specs.List.{list_all}
use Rattle.std.proofs.Common.{refl, sym, ap, append-nil, arith, inl, inr, lit<, subst, ◌∙◌}
use Rattle.std.proofs.lemmas.Bool.{and_from, and_parts, ltb-true, not-true, or_cases}
use Rattle.mx_base.specs.Fields.{AreBytes}
use Rattle.std.proofs.lemmas.List.{take-append-drop}
use Rattle.std.proofs.lemmas.List.Sums.{AllPass-from_list_all}
use Rattle.std.proofs.lemmas.Slice.Eq.{bytes_eq-Decides}
use Rattle.mx_wire.specs.Log.{Log}
use Rattle.mx_wire.specs.declared.entry.Entry.{Entry}
use Rattle.mx_wire.specs.declared.entry.Entry.TheVariants as entry
use Rattle.packet_frame.specs.PacketLaws.{nat_eq-true}
use Rattle.packet_frame.specs.Packets.{Framed, spelling, spellings}
use Rattle.reply_track.specs.declared.reply.ReplyEnd.{ReplyEnd}
use Rattle.reply_track.specs.declared.reply.ReplyKind.{ReplyKind}
use Rattle.reply_track.specs.Grammar.{IsReply, OkEnds}
use Rattle.reply_track.specs.Payloads.{IsNumber, IsTwo, ok_end}
use Rattle.reply_track.specs.Runs.{Ending, run}
use Rattle.reply_track.specs.Runs.Ending.{Going, Ended, Failed}
use Rattle.reply_track.specs.Replying.{payloads_in}
use Rattle.reply_track.specs.Tracking.{started}
use Rattle.reply_track.proofs.Replying.{handed-on, payloads-again}
use Rattle.session_vars.specs.declared.long_part.LongPart.{LongPart}
use Rattle.server_side.specs.Login.{Opening, Goes, LogsIn, Fails, opening}
use Rattle.server_rule.specs.Servers.{Step, is_some_of}
use Rattle.private_model.specs.Names.{LinkId}
use Rattle.private_model.specs.Commands.{Args, Command, Quit, Reply, Run, runs}
use Rattle.private_model.specs.Story.{Question, command_of}
use Rattle.private_model.specs.View.{Answered, Asked, Quiet, Setup, Stage}
use Rattle.small_server.proofs.Honesty.{fresh_so, is_fresh}
use Rattle.log_story.specs.Executes.{args_in, is_for}
use Rattle.log_story.specs.Plan.{Asks, Closes, Plan, Resets, StepText, com_execute, com_long_data, step_payload, text_payload}
use Rattle.log_story.specs.Tale.{Tale, Wire, is_reset_step, is_to_server, link_in}
use Rattle.log_story.specs.Servers.{kind_by, may_begin, reply_id, with_run, written_in}
use Rattle.log_story.specs.Telling.{tale_step, wire_with}
use Rattle.log_story.specs.Honest.{IsExecute, IsFarewell, IsFront, IsHonestFrom, IsStep, IsTrue, IsTrueExec, IsTrueGot, IsTrueLogin, IsTrueRead, IsTrueReply, IsTrueReset}
use Rattle.log_story.specs.Honest.{IsTrueRun, IsWritten, number_for, real_of, spelled}

isnt : {A : Type 0} → false ≡ true → A
isnt is = absurd (cc)

-- Bytes and replies.

abbrev is_front : (front whole : List ℕ) → Bool
is_front front whole = bytes_eq (take (length front) whole) front

front_so : (front whole : List ℕ) → is_front front whole ≡ true → IsFront front whole
front_so front whole so = record {
  rest = drop (length front) whole;
  is = ap (λ xs. xs ++ drop (length front) whole) (sym ((bytes_eq-Decides _ _).0 so)) ∙ take-append-drop (length front) whole;
}

abbrev ends_whole : Ending → Bool
ends_whole (Ended end []) = true
ends_whole _ = false

whole_so : (ending : Ending) → ends_whole ending ≡ true → (end : ReplyEnd) × (ending ≡ Ended end [])
whole_so (Going state) so = isnt so
whole_so (Ended end []) so = (end, refl)
whole_so (Ended end (x ∷ xs)) so = isnt so
whole_so (Failed rest) so = isnt so

all-bytes : (bytes : List ℕ) → list_all (λ b. nat_lt b 256) bytes ≡ true → AreBytes bytes
all-bytes [] all i = lit< tt
all-bytes (b ∷ bytes) all zero = ltb-true b 256 (and_parts (nat_lt b 256) (list_all (λ b. nat_lt b 256) bytes) all).0
all-bytes (b ∷ bytes) all (suc i) = all-bytes bytes (and_parts (nat_lt b 256) (list_all (λ b. nat_lt b 256) bytes) all).1 i

pub replies-so : (kind : ReplyKind) (server : ℕ) (payloads : List (List ℕ)) (end : ReplyEnd) → server < 256
    → list_all (λ b. nat_lt b 256) (spellings server payloads) ≡ true
    → run (started (record { kind = kind; server = server; client = 0; number = 0 })) (spellings server payloads) ≡ Ended end [] → IsReply kind payloads end
replies-so kind server payloads end small bytes ends =
    let on = handed-on (record { kind = kind; server = server; client = 0; number = 0 }) (spellings server payloads) end [] small
    (all-bytes (spellings server payloads) bytes) ends in
    let front : on.front ≡ spellings server payloads = sym (append-nil on.front) ∙ sym on.is in
    subst (λ ps. IsReply kind ps end) (ap (payloads_in server) front ∙ payloads-again server payloads small) on.reply

abbrev is_reply : ReplyKind → (server : ℕ) → List (List ℕ) → Bool
is_reply kind server payloads =
    list_all (λ b. nat_lt b 256) (spellings server payloads)
    && ends_whole (run (started (record { kind = kind; server = server; client = 0; number = 0 })) (spellings server payloads))

reply_so : (kind : ReplyKind) (server : ℕ) (payloads : List (List ℕ)) → server < 256 → is_reply kind server payloads ≡ true
    → (end : ReplyEnd) × IsReply kind payloads end
reply_so kind server payloads small so =
    let both = and_parts _ _ so in
    let ends = whole_so (run (started (record { kind = kind; server = server; client = 0; number = 0 })) (spellings server payloads)) both.1 in
    (ends.0, replies-so kind server payloads ends.0 small both.0 ends.1)

abbrev answer_tested : Wire → Question → Reply → Bool
answer_tested wire question answer = is_front wire.unread (spelled wire answer) && is_reply (kind_by (command_of question)) (reply_id wire) answer.payloads

id_small : (wire : Wire) → reply_id wire < 256
id_small wire = omega arith

answer_so : (wire : Wire) (question : Question) (answer : Reply) → answer_tested wire question answer ≡ true → IsTrueReply wire question answer
answer_so wire question answer so =
    let both = and_parts _ _ so in
    let reply = reply_so (kind_by (command_of question)) (reply_id wire) answer.payloads (id_small wire) both.1 in
    record { front = front_so wire.unread (spelled wire answer) both.0; end = reply.0; is = reply.1 }

-- Runs.

none_so : (rest : List ℕ) → not (is_some_of rest) ≡ true → rest ≡ []
none_so [] so = refl
none_so (x ∷ xs) so = isnt so

-- an execute is the last of its messages
abbrev front_of : Framed → List Framed → List Framed
front_of message [] = []
front_of message (next ∷ others) = message ∷ front_of next others

abbrev last_of : Framed → List Framed → Framed
last_of message [] = message
last_of message (next ∷ others) = last_of next others

parts_so : (message : Framed) (others : List Framed) → message ∷ others ≡ front_of message others ++ last_of message others ∷ []
parts_so message [] = refl
parts_so message (next ∷ others) = ap (λ ms. message ∷ ms) (parts_so next others)

abbrev same_types : (one other : Option (List ℕ)) → Bool
same_types None None = true
same_types (Some one) (Some other) = bytes_eq one other
same_types _ _ = false

types_so : (one other : Option (List ℕ)) → same_types one other ≡ true → one ≡ other
types_so None None so = refl
types_so (Some one) (Some other) so = ap Some ((bytes_eq-Decides one other).0 so)
types_so None (Some other) so = isnt so
types_so (Some one) None so = isnt so

abbrev same_long : (one other : List LongPart) → Bool
same_long [] [] = true
same_long (part ∷ parts) (other ∷ others) = (nat_eq part.parameter other.parameter && bytes_eq part.bytes other.bytes) && same_long parts others
same_long _ _ = false

as_part : (one other : LongPart) → one.parameter ≡ other.parameter → one.bytes ≡ other.bytes → one ≡ other
as_part one other parameter bytes = by one.parameter one.bytes parameter bytes where
  by : (p : ℕ) (b : List ℕ) → p ≡ other.parameter → b ≡ other.bytes → ◌≡◌ {A = LongPart} (record { parameter = p; bytes = b }) other
  by p b x y = rw (x, y) refl

long_so : (one other : List LongPart) → same_long one other ≡ true → one ≡ other
long_so [] [] so = refl
long_so [] (other ∷ others) so = isnt so
long_so (part ∷ parts) [] so = isnt so
long_so (part ∷ parts) (other ∷ others) so =
    let both = and_parts _ _ so in
    let of_part = and_parts _ _ both.0 in
    let same : part ≡ other =
    as_part part other (nat_eq-true part.parameter other.parameter of_part.0) ((bytes_eq-Decides part.bytes other.bytes).0 of_part.1) in
    let also : parts ≡ others = long_so parts others both.1 in cc

abbrev same_args : (one other : Args) → Bool
same_args one other =
    (same_types one.types other.types && bytes_eq one.nulls other.nulls) && (bytes_eq one.values other.values && same_long one.long other.long)

as_args : (one other : Args) → one.types ≡ other.types → one.nulls ≡ other.nulls → one.values ≡ other.values → one.long ≡ other.long → one ≡ other
as_args one other types nulls values long = by one.types one.nulls one.values one.long types nulls values long where
  by : (t : Option (List ℕ)) (n v : List ℕ) (l : List LongPart) → t ≡ other.types → n ≡ other.nulls → v ≡ other.values → l ≡ other.long
      → ◌≡◌ {A = Args} (record { types = t; nulls = n; values = v; long = l }) other
  by t n v l a b c d = rw (a, b, c, d) refl

args_so : (one other : Args) → same_args one other ≡ true → one ≡ other
args_so one other so =
    let both = and_parts _ _ so in
    let first = and_parts _ _ both.0 in
    let later = and_parts _ _ both.1 in
    as_args one other (types_so one.types other.types first.0) ((bytes_eq-Decides one.nulls other.nulls).0 first.1)
    ((bytes_eq-Decides one.values other.values).0 later.0) (long_so one.long other.long later.1)

-- a type has two bytes
abbrev params_of : Option (List ℕ) → ℕ
params_of None = 0
params_of (Some types) = length types / 2

abbrev args_written : (there : ℕ) → (before : List Framed) → (payload : List ℕ) → Args → Args
args_written there before payload args = args_in (params_of args.types) there (λ i. false) 0 before payload

abbrev executes : Option ℕ → (messages : List Framed) → (rest : List ℕ) → Args → Bool
executes (Some there) (message ∷ others) rest args =
    not (is_some_of rest) && (is_for com_execute there (last_of message others).payload
    && (same_args (args_written there (front_of message others) (last_of message others).payload args) args
    && (list_all (λ (before : Framed). is_for com_long_data there before.payload) (front_of message others)
    && bytes_eq (take 5 (drop 5 (last_of message others).payload)) (0 ∷ 1 ∷ 0 ∷ 0 ∷ 0 ∷ []))))
executes _ _ rest args = false

execute_so : (number : Option ℕ) (messages : List Framed) (args : Args) (written : List ℕ) → (written_in written).messages ≡ messages
    → executes number messages (written_in written).rest args ≡ true → IsExecute number args written
execute_so None messages args written are so = isnt so
execute_so (Some there) [] args written are so = isnt so
execute_so (Some there) (message ∷ others) args written are so =
    let both = and_parts _ _ so in
    let more = and_parts _ _ both.1 in
    let last = and_parts _ _ more.1 in
    let rest = and_parts _ _ last.1 in
    record {
      there = there;
      named = refl;
      long_data = front_of message others;
      message = last_of message others;
      messages = are ∙ parts_so message others;
      own_data = AllPass-from_list_all (λ (before : Framed). is_for com_long_data there before.payload) (front_of message others) rest.0;
      whole = none_so (written_in written).rest both.0;
      executes = more.0;
      plain = (bytes_eq-Decides _ _).0 rest.1;
      params = params_of args.types;
      arguments = args_so (args_written there (front_of message others) (last_of message others).payload args) args last.0;
    }

abbrev is_written : Command → (number : Option ℕ) → (written : List ℕ) → Bool
is_written (Run text schema settings args) number written = executes number (written_in written).messages (written_in written).rest args
is_written command number written = bytes_eq written (spelling 0 (text_payload command))

written_so : (command : Command) (number : Option ℕ) (written : List ℕ) → is_written command number written ≡ true → IsWritten command number written
written_so (Run text schema settings args) number written so = execute_so number (written_in written).messages args written refl so
written_so command number written so = (bytes_eq-Decides _ _).0 so

-- what was written for a question that may run spells it
abbrev written_tested : (live : ℕ → Option ℕ) → (written : List ℕ) → Stage → Bool
written_tested live written (Asked question) = is_written (command_of question) (number_for question live) written
written_tested live written _ = true

asked_so : (live : ℕ → Option ℕ) (written : List ℕ) (stage : Stage) → written_tested live written stage ≡ true
    → (question : Question) → stage ≡ Asked question → IsWritten (command_of question) (number_for question live) written
asked_so live written (Asked other) so question s =
    let same : other ≡ question = cc in
    subst (λ q. IsWritten (command_of q) (number_for q live) written) same (written_so (command_of other) (number_for other live) written so)
asked_so live written Quiet so question s = absurd (cc)
asked_so live written (Answered other) so question s = absurd (cc)

abbrev runs_tested : Setup → Step → Tale → LinkId → Bool
runs_tested setup server tale link =
    written_tested (link_in setup tale link).live (tale.wires link).written (link_in setup tale link).stage
    && is_fresh (runs server) (real_of setup server tale) link (link_in setup tale link).live (link_in setup tale link).stage (link_in setup tale link).server

run_so : (setup : Setup) (server : Step) (tale : Tale) (link : LinkId) → runs_tested setup server tale link ≡ true → IsTrueRun setup server tale link
run_so setup server tale link so =
    let both = and_parts _ _ so in
    record {
      written = asked_so (link_in setup tale link).live (tale.wires link).written (link_in setup tale link).stage both.0;
      true_run = fresh_so (runs server) (real_of setup server tale) link (link_in setup tale link).live (link_in setup tale link).stage
          (link_in setup tale link).server both.1;
    }

-- What is read.

abbrev reading_tested : Wire → Stage → Reply → Bool
reading_tested wire (Answered question) answer = answer_tested wire question answer
reading_tested wire _ answer = false

reading_so : (wire : Wire) (stage : Stage) (answer : Reply) → reading_tested wire stage answer ≡ true
    → (question : Question) × (stage ≡ Answered question) × IsTrueReply wire question answer
reading_so wire (Answered question) answer so = (question, refl, answer_so wire question answer so)
reading_so wire Quiet answer so = isnt so
reading_so wire (Asked question) answer so = isnt so

abbrev read_tested : Setup → Step → LinkId → Wire → Tale → Bool
read_tested setup server link wire tale =
    runs_tested setup server tale link && reading_tested wire (link_in setup (with_run setup link tale) link).stage
    ((real_of setup server (with_run setup link tale)).peers link).answer

read_so : (setup : Setup) (server : Step) (link : LinkId) (wire : Wire) (tale : Tale) → read_tested setup server link wire tale ≡ true
    → IsTrueRead setup server link wire tale
read_so setup server link wire tale so =
    let both = and_parts _ _ so in
    let read = reading_so wire (link_in setup (with_run setup link tale) link).stage ((real_of setup server (with_run setup link tale)).peers link).answer
    both.1 in
    record { ran = λ question asked. run_so setup server tale link both.0; question = read.0; answered = read.1; reply = read.2 }

abbrev is_quiet_stage : Stage → Bool
is_quiet_stage Quiet = true
is_quiet_stage _ = false

abbrev farewell_tested : Setup → Step → Tale → LinkId → Bool
farewell_tested setup server tale link = not ((real_of setup server tale).peers link).alive && is_quiet_stage (link_in setup tale link).stage

farewell_so : (setup : Setup) (server : Step) (tale : Tale) (link : LinkId) → farewell_tested setup server tale link ≡ true → IsFarewell setup server tale link
farewell_so setup server tale link so =
    let both = and_parts _ _ so in record { dropped = not-true _ both.0; quiet = quiet_so (link_in setup tale link).stage both.1 }
  where
    quiet_so : (stage : Stage) → is_quiet_stage stage ≡ true → stage ≡ Quiet
    quiet_so Quiet so = refl
    quiet_so (Asked question) so = isnt so
    quiet_so (Answered question) so = isnt so

said_or_read : (setup : Setup) (server : Step) (tale : Tale) (link : LinkId) (test : Bool) (Other : Type 0) → (test ≡ true → Other)
    → (farewell_tested setup server tale link || test) ≡ true → IsFarewell setup server tale link ⊎ Other
said_or_read setup server tale link test Other read so = elim (or_cases _ _ so) [
  | inl farewell ↦ inl (farewell_so setup server tale link farewell)
  | inr other ↦ inr (read other)
]

abbrev login_tested : (written : List ℕ) → Opening → Bool
login_tested written (LogsIn said rest) = bytes_eq written said && not (is_some_of rest)
login_tested written _ = true

said_so : (written : List ℕ) (at : Opening) → login_tested written at ≡ true → (said rest : List ℕ) → at ≡ LogsIn said rest → (written ≡ said) × (rest ≡ [])
said_so written (LogsIn other behind) so said rest at =
    let same : other ≡ said = cc in
    let also : behind ≡ rest = cc in
    let both = and_parts _ _ so in
    let is_said : written ≡ other = (bytes_eq-Decides _ _).0 both.0 in
    let none : behind ≡ [] = none_so behind both.1 in (cc, cc)
said_so written (Goes other) so said rest at = absurd (cc)
said_so written (Fails other fault) so said rest at = absurd (cc)

login_so : (plan : Plan) (link : LinkId) (wire : Wire) → login_tested wire.written (opening (plan.logins link) wire.unread) ≡ true → IsTrueLogin plan link wire
login_so plan link wire so = record {
  said = λ said rest at. (said_so wire.written (opening (plan.logins link) wire.unread) so said rest at).0;
  ends = λ said rest at. (said_so wire.written (opening (plan.logins link) wire.unread) so said rest at).1;
}

-- Entries; a STMT_RESET is answered by just this OK.

abbrev step_tested : Option StepText → (written : List ℕ) → Bool
step_tested (Some (Closes number)) written = bytes_eq written (spelling 0 (step_payload (Closes number)))
step_tested (Some (Resets number)) written = bytes_eq written (spelling 0 (step_payload (Resets number)))
step_tested _ written = true

step_so : (step : Option StepText) (written : List ℕ) → step_tested step written ≡ true → IsStep step written
step_so (Some (Closes number)) written so = (bytes_eq-Decides _ _).0 so
step_so (Some (Resets number)) written so = (bytes_eq-Decides _ _).0 so
step_so (Some (Asks command)) written so = tt
step_so None written so = tt

abbrev plain_ok : List ℕ
plain_ok = 0 ∷ 0 ∷ 0 ∷ 2 ∷ 0 ∷ 0 ∷ 0 ∷ []

plain_is_ok : OkEnds plain_ok (ok_end 2 0 0)
plain_is_ok =
    let zero_so : IsNumber (0 ∷ []) 0 = record { first = 0; others = []; is = refl; sized = refl; value = refl } in
    let two_so : IsTwo 0 0 0 = record { low = lit< tt; high = lit< tt; is = refl } in
    let flags_so : IsTwo 2 0 2 = record { low = lit< tt; high = lit< tt; is = refl } in
    record {
      flags = 2;
      warnings = 0;
      insert_id = 0;
      ok = record {
        rows = 0 ∷ [];
        affected = 0;
        insert = 0 ∷ [];
        f = 2;
        g = 0;
        w = 0;
        v = 0;
        info = [];
        is = refl;
        affected_rows = zero_so;
        last_insert_id = zero_so;
        status_flags = flags_so;
        warning_count = two_so;
      };
      is = refl;
    }

abbrev reset_tested : Wire → Bool
reset_tested wire = step_tested wire.step wire.written && is_front wire.unread (spelling (reply_id wire) plain_ok)

reset_so : (wire : Wire) → reset_tested wire ≡ true → IsTrueReset wire
reset_so wire so =
    let both = and_parts _ _ so in
    record {
      written = step_so wire.step wire.written both.0;
      answer = plain_ok;
      end = ok_end 2 0 0;
      ok = plain_is_ok;
      last = refl;
      front = front_so wire.unread (spelling (reply_id wire) plain_ok) both.1;
    }

abbrev unless : (premise test : Bool) → Bool
unless premise test = not premise || test

unless_so : (premise test : Bool) → unless premise test ≡ true → premise ≡ true → test ≡ true
unless_so true test so p = so
unless_so false test so p = isnt p

abbrev got_tested : Setup → Plan → Step → Tale → LinkId → Wire → Bool
got_tested setup plan server tale link wire =
    unless (not (tale.wires link).entered) (login_tested wire.written (opening (plan.logins link) wire.unread))
    && (unless ((tale.wires link).entered && not (is_reset_step wire.step)) (farewell_tested setup server tale link || read_tested setup server link wire tale)
    && unless ((tale.wires link).entered && is_reset_step wire.step) (farewell_tested setup server tale link || reset_tested wire))

got_so : (setup : Setup) (plan : Plan) (server : Step) (tale : Tale) (link : LinkId) (wire : Wire) → got_tested setup plan server tale link wire ≡ true
    → IsTrueGot setup plan server tale link wire
got_so setup plan server tale link wire so =
    let both = and_parts _ _ so in
    let more = and_parts _ _ both.1 in
    record {
      login = λ is. login_so plan link wire (unless_so _ _ both.0 (ap not is));
      read = λ is reads. said_or_read setup server tale link (read_tested setup server link wire tale) _ (read_so setup server link wire tale)
          (unless_so _ _ more.0 (and_from _ _ is (ap not reads)));
      reset = λ is resets. said_or_read setup server tale link (reset_tested wire) _ (reset_so wire) (unless_so _ _ more.1 (and_from _ _ is resets));
    }

abbrev exec_tested : Setup → Step → Tale → LinkId → Bool
exec_tested setup server tale link =
    unless (not (tale.wires link).quits) (runs_tested setup server tale link)
    && unless (tale.wires link).quits (bytes_eq (tale.wires link).written (spelling 0 (text_payload Quit)))

exec_so : (setup : Setup) (server : Step) (tale : Tale) (link : LinkId) → exec_tested setup server tale link ≡ true → IsTrueExec setup server tale link
exec_so setup server tale link so =
    let both = and_parts _ _ so in
    record {
      runs = λ goes. run_so setup server tale link (unless_so _ _ both.0 (ap not goes));
      quits = λ is. (bytes_eq-Decides _ _).0 (unless_so _ _ both.1 is);
    }

abbrev entry_tested : Setup → Plan → Step → Tale → Entry → Bool
entry_tested setup plan server tale (entry.Exec link) = unless (tale.wires link).entered (exec_tested setup server tale link)
entry_tested setup plan server tale (entry.Got link bytes) =
    unless (is_to_server tale link) (got_tested setup plan server tale link (wire_with tale link bytes))
entry_tested setup plan server tale (entry.Wrote link for bytes) =
    unless (is_to_server tale link) (unless (may_begin setup link (tale.wires link) tale) (step_tested (tale.wires link).step (tale.wires link).written))
entry_tested setup plan server tale _ = true

entry_so : (setup : Setup) (plan : Plan) (server : Step) (tale : Tale) (e : Entry) → entry_tested setup plan server tale e ≡ true
    → IsTrue setup plan server tale e
entry_so setup plan server tale (entry.Exec link) so = λ there. exec_so setup server tale link (unless_so _ _ so there)
entry_so setup plan server tale (entry.Got link bytes) so = λ there. got_so setup plan server tale link (wire_with tale link bytes) (unless_so _ _ so there)
entry_so setup plan server tale (entry.Wrote link for bytes) so =
    λ there begins. step_so (tale.wires link).step (tale.wires link).written (unless_so _ _ (unless_so _ _ so there) begins)
entry_so setup plan server tale _ so = tt

abbrev pub log_tested : Setup → Plan → Step → Tale → Log → Bool
log_tested setup plan server tale [] = true
log_tested setup plan server tale (e ∷ log) = entry_tested setup plan server tale e && log_tested setup plan server (tale_step setup plan tale e) log

pub tested_so : (setup : Setup) (plan : Plan) (server : Step) (tale : Tale) (log : Log) → log_tested setup plan server tale log ≡ true
    → IsHonestFrom setup plan server tale log
tested_so setup plan server tale [] so = tt
tested_so setup plan server tale (e ∷ log) so =
    let both = and_parts _ _ so in
    (entry_so setup plan server tale e both.0, tested_so setup plan server (tale_step setup plan tale e) log both.1)
