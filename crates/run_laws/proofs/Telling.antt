-- What servers tell are bytes: so the numbers that they give to what they prepare have 32 bits, and there are fewer than 65,536 parameters.
use Rattle.std.specs.Prelude.{◌≡◌, ◌<◌, ◌≤◌, ◌+◌, ◌*◌, ◌-◌, ◌/◌, ℕ, zero, suc, Bool, true, false, ◌&&◌, ◌||◌, not, drop, length, map, nat_eq, nat_lt, slice_index_or, take, if◌then◌else◌, List, [], ◌∷◌, ◌++◌, Option, Some, None}
use Rattle.std.specs.Prelude.{Result, Ok, Err, bytes_eq}
use Rattle.std.proofs.Common.{refl, sym, ap, ◌∙◌, subst, arith, take-append-drop}
use Rattle.mx_base.specs.Fields.{AreBytes, lenenc_at, little_endian, number_at}
use Rattle.mx_base.specs.declared.fields.Field.{Field}
use Rattle.mx_base.specs.declared.fields.Field.TheVariants as field
use Rattle.mx_base.specs.declared.names.LinkId.{LinkId}
use Rattle.mx_base.specs.declared.tag.Tag.{Tag}
use Rattle.mx_wire.specs.declared.entry.Entry.{Entry}
use Rattle.mx_wire.specs.declared.entry.Entry.TheVariants as entry
use Rattle.handshake.specs.declared.fault.HandFault.{HandFault}
use Rattle.handshake.specs.declared.greeting.Greeting.{Greeting}
use Rattle.handshake.specs.declared.switch.Switch.{Switch}
use Rattle.handshake.specs.Greeting.{greeting_of}
use Rattle.handshake.specs.Switch.{native_password, switch_of}
use Rattle.packet_frame.specs.Packets.{Faulty, Found, Framed, Nothing, Whole, first_message, longest, next_id, packet, packets, spelling}
use Rattle.packet_frame.specs.SpellingLaws.{AreBytes-drop, first_message-spelled}
use Rattle.private_model.specs.Commands.{Reply, end_of, is_prepare, number_in}
use Rattle.private_model.specs.Story.{Dropped, Happening, Heard, LoggedIn, Question, Ran, Sent, Story, Unprepared, command_of, is_link_id, put}
use Rattle.private_model.specs.View.{Answered, Asked, Quiet, Setup, Stage, view_after}
use Rattle.reply_text.specs.Replies.{is_lone}
use Rattle.reply_track.proofs.Answering.{ends_by}
use Rattle.reply_track.specs.Replying.{payloads_by, payloads_in, payloads_within}
use Rattle.reply_track.specs.Runs.{Ended, Ending, Failed, Going, run}
use Rattle.reply_track.specs.declared.reply.ReplyEnd.{ReplyEnd as TrackEnd}
use Rattle.reply_track.specs.declared.reply.ReplyKind.TheVariants as kind
use Rattle.server_rule.specs.Replies.{end_by, err_end, field_at, first_payload, is_eof_payload, is_err_payload, last_payload, ok_behind, ok_behind_rows, ok_end, or_zero, prepare_end_by, prepared_end, reply_end, rows_end}
use Rattle.server_side.specs.Account.{Account}
use Rattle.server_side.specs.declared.fault.BackendFault.TheVariants.{Plugin}
use Rattle.server_side.specs.Login as login
use Rattle.server_side.specs.Login.{Opening, by_end, by_switch, denied, end_in, greeting_or_not, most_payload, opening, welcome_in}
use Rattle.session_state.specs.declared.reply_end.ReplyEnd.{ReplyEnd}
use Rattle.log_story.specs.Plan.{Plan}
use Rattle.log_story.specs.Servers.{begins, begun_on, entered_by, heard_by, hears, kind_by, may_begin, quits_for, read_as, reads_on, reply_id, reset_by, runs_first, step_for, with_run, writes}
use Rattle.log_story.specs.Tale.{Client, Tale, Wire, client_gets, client_hears, first_tale, is_reset_step, is_to_server, link_in, new_wire, tell, view_of, with_wire}
use Rattle.log_story.specs.Telling.{server_says, tale_step, told, wire_with}
use Rattle.run_laws.proofs.Begun.{AreBegun, IsBegun, begun_there}
use Rattle.run_laws.proofs.Going.{IsCalm, Keeps, ifs, losing_keeps, step_keeps}
use Rattle.run_laws.specs.Reads.{AllHeard, IsSmall}
use Rattle.run_laws.specs.Tells.{GetsBytes, TellsBytes}

isnt : {A : Type 0} → false ≡ true → A
isnt is = absurd (cc)

-- Bytes.

no_bytes : AreBytes []
no_bytes i = omega arith

bytes_front : (xs ys : List ℕ) → AreBytes (xs ++ ys) → AreBytes xs
bytes_front [] ys are i = omega arith
bytes_front (x ∷ xs) ys are zero = are 0
bytes_front (x ∷ xs) ys are (suc i) = bytes_front xs ys (λ k. are (suc k)) i

bytes_behind : (xs ys : List ℕ) → AreBytes (xs ++ ys) → AreBytes ys
bytes_behind [] ys are = are
bytes_behind (x ∷ xs) ys are = bytes_behind xs ys (λ k. are (suc k))

bytes_both : (xs ys : List ℕ) → AreBytes xs → AreBytes ys → AreBytes (xs ++ ys)
bytes_both [] ys one two i = two i
bytes_both (x ∷ xs) ys one two zero = one 0
bytes_both (x ∷ xs) ys one two (suc i) = bytes_both xs ys (λ k. one (suc k)) two i

bytes_first : (n : ℕ) (xs : List ℕ) → AreBytes xs → AreBytes (take n xs)
bytes_first n xs are = bytes_front (take n xs) (drop n xs) (subst AreBytes (sym (take-append-drop n xs)) are)

packets_bytes : (full id : ℕ) (payload : List ℕ) → AreBytes (packets full id payload) → AreBytes payload
packets_bytes zero id payload are = λ i. are (suc (suc (suc (suc i))))
packets_bytes (suc full) id payload are =
    let first = bytes_front (packet id (take longest payload)) (packets full (next_id id) (drop longest payload)) are in
    let others = bytes_behind (packet id (take longest payload)) (packets full (next_id id) (drop longest payload)) are in
    subst AreBytes (take-append-drop longest payload)
    (bytes_both (take longest payload) (drop longest payload) (λ i. first (suc (suc (suc (suc i))))) (packets_bytes full (next_id id) (drop longest payload) others))

spelling_bytes : (first : ℕ) (payload : List ℕ) → AreBytes (spelling first payload) → AreBytes payload
unfolding spelling
spelling_bytes first payload are = packets_bytes (length payload / longest) first payload are

message_bytes : (limit first : ℕ) (bytes : List ℕ) (message : Framed) (rest : List ℕ) → AreBytes bytes → first_message limit first bytes ≡ Whole message rest
    → AreBytes message.payload × AreBytes rest
message_bytes limit first bytes message rest are is =
    let spelt : AreBytes (spelling first message.payload ++ rest) = subst AreBytes (first_message-spelled limit first bytes message rest are is).1 are in
    (spelling_bytes first message.payload (bytes_front (spelling first message.payload) rest spelt), bytes_behind (spelling first message.payload) rest spelt)

-- Numbers of so many bytes.

number_less : (n bound : ℕ) → 0 < bound → ((xs : List ℕ) → AreBytes xs → little_endian (take n xs) < bound) → (xs : List ℕ) → AreBytes xs
    → little_endian (take (suc n) xs) < 256 * bound
number_less n bound some each [] are = omega (arith, some)
number_less n bound some each (b ∷ xs) are =
    let first : b < 256 = are 0 in
    let rest : little_endian (take n xs) < bound = each xs (λ i. are (suc i)) in
    omega (arith, first, rest)

one_less : (xs : List ℕ) → AreBytes xs → little_endian (take 1 xs) < 256
one_less [] are = omega arith
one_less (b ∷ xs) are = (let first : b < 256 = are 0 in omega (arith, first))

two_less : (xs : List ℕ) → AreBytes xs → little_endian (take 2 xs) < 65536
two_less xs are = number_less 1 256 (omega arith) one_less xs are

four_less : (xs : List ℕ) → AreBytes xs → little_endian (take 4 xs) < 4294967296
four_less xs are = number_less 3 16777216 (omega arith) (number_less 2 65536 (omega arith) two_less) xs are

or_less : (b : Bool) (n bound : ℕ) → 0 < bound → n < bound → or_zero (if b then None else Some n) < bound
or_less true n bound some less = some
or_less false n bound some less = less

two_at : (at : ℕ) (payload : List ℕ) → AreBytes payload → field_at 2 at payload < 65536
two_at at payload are = or_less (nat_lt (length payload) (at + 2)) (little_endian (take 2 (drop at payload))) 65536 (omega arith) (two_less (drop at payload) (AreBytes-drop at payload are))

four_at : (at : ℕ) (payload : List ℕ) → AreBytes payload → field_at 4 at payload < 4294967296
four_at at payload are = or_less (nat_lt (length payload) (at + 4)) (little_endian (take 4 (drop at payload))) 4294967296 (omega arith) (four_less (drop at payload) (AreBytes-drop at payload are))

-- How a reply ends.

small_none : (end : ReplyEnd) → end.server_number ≡ 0 → end.params ≡ 0 → IsSmall end
small_none end number params = record { number = omega (arith, number); params = omega (arith, params) }

if_small : (b : Bool) (x y : ReplyEnd) → IsSmall x → IsSmall y → IsSmall (if b then x else y)
if_small true x y one two = one
if_small false x y one two = two

behind_small : (at : Field) (payload : List ℕ) → IsSmall (ok_behind at payload)
behind_small (field.Value id next) payload = small_none _ refl refl
behind_small field.Null payload = small_none _ refl refl
behind_small field.Short payload = small_none _ refl refl
behind_small field.Bad payload = small_none _ refl refl

rows_small : (at : Field) (payload : List ℕ) → IsSmall (ok_behind_rows at payload)
rows_small (field.Value rows next) payload = behind_small (lenenc_at next payload) payload
rows_small field.Null payload = small_none _ refl refl
rows_small field.Short payload = small_none _ refl refl
rows_small field.Bad payload = small_none _ refl refl

end_small : (to_prepare : Bool) (payloads : List (List ℕ)) → AreBytes (first_payload payloads) → IsSmall (reply_end to_prepare payloads)
unfolding reply_end
end_small true payloads are =
    if_small (is_err_payload (first_payload payloads)) (err_end (first_payload payloads)) (prepared_end (first_payload payloads)) (small_none _ refl refl)
    (record { number = four_at 1 (first_payload payloads) are; params = two_at 7 (first_payload payloads) are })
end_small false payloads are =
    if_small (is_err_payload (last_payload payloads)) (err_end (last_payload payloads)) _ (small_none _ refl refl)
    (if_small (is_eof_payload (last_payload payloads)) (rows_end (last_payload payloads)) _ (small_none _ refl refl) (rows_small (lenenc_at 1 (last_payload payloads)) (last_payload payloads)))

first_bytes : (count limit first : ℕ) (bytes : List ℕ) → AreBytes bytes → AreBytes (first_payload (payloads_within count limit first bytes))
first_bytes zero limit first bytes are = no_bytes
first_bytes (suc count) limit first bytes are = by_found (first_message limit first bytes) refl where
  by_found : (found : Found) → first_message limit first bytes ≡ found
      → AreBytes (first_payload (payloads_by found (λ message rest. message.payload ∷ payloads_within count limit (next_id message.last) rest)))
  by_found Nothing at = no_bytes
  by_found (Whole message rest) at = (message_bytes limit first bytes message rest are at).0
  by_found (Faulty fault) at = no_bytes

payload_bytes : (first : ℕ) (bytes : List ℕ) → AreBytes bytes → AreBytes (first_payload (payloads_in first bytes))
unfolding payloads_in
payload_bytes first bytes are = first_bytes (length bytes) (length bytes) first bytes are

-- The bytes behind a reply, and behind a login.

ended_bytes : (state : _) (bytes : List ℕ) (end : TrackEnd) (rest : List ℕ) → AreBytes bytes → run state bytes ≡ Ended end rest → AreBytes rest
ended_bytes state bytes end rest are is = (let at = ends_by bytes state end rest is in bytes_behind at.front rest (subst AreBytes at.is are))

module _ (said rest : List ℕ) where
  abbrev Enters : Opening → Type 0
  Enters o = o ≡ login.LogsIn said rest → AreBytes rest

  goes_not : (text : List ℕ) → Enters (login.Goes text)
  goes_not text is = absurd (cc)

  fails_not : (o : Opening) → ((s r : List ℕ) → o ≡ login.LogsIn s r → ⊥) → Enters o
  fails_not o never is = absurd (never said rest is)

  bad_not : (text : List ℕ) (s r : List ℕ) → login.bad text ≡ login.LogsIn s r → ⊥
  bad_not text s r is = absurd (cc)

  end_enters : (text : List ℕ) (code : Option ℕ) (message : Framed) (behind : List ℕ) → AreBytes behind → Enters (by_end text code message behind)
  end_enters text (Some code) message behind are is = absurd (cc)
  end_enters text None message behind are is = by_lone (is_lone message.payload) is where
    by_lone : (b : Bool) → (if b then login.LogsIn text behind else login.bad text) ≡ login.LogsIn said rest → AreBytes rest
    by_lone true now = (let same : behind ≡ rest = cc in subst AreBytes same are)
    by_lone false now = absurd (bad_not text said rest now)

  last_enters : (text bytes : List ℕ) → AreBytes bytes → Enters (end_in text bytes)
  last_enters text bytes are = by_found (first_message most_payload 4 bytes) refl where
    by_found : (found : Found) → first_message most_payload 4 bytes ≡ found → Enters (login.end_by text found)
    by_found Nothing at = goes_not text
    by_found (Whole message behind) at = end_enters text (denied message.payload) message behind (message_bytes most_payload 4 bytes message behind are at).1
    by_found (Faulty fault) at = fails_not (login.bad text) (bad_not text)

  switch_enters : (account : Account) (text : List ℕ) (switch : Result Switch HandFault) (behind : List ℕ) → AreBytes behind → Enters (by_switch account text switch behind)
  switch_enters account text (Err fault) behind are = fails_not (login.bad text) (bad_not text)
  switch_enters account text (Ok switch) behind are = by_plugin (bytes_eq switch.plugin native_password) where
    by_plugin : (b : Bool) → Enters (if b then end_in (text ++ login.answer_said account switch.salt) behind else login.Fails text (Plugin switch.plugin))
    by_plugin true = last_enters (text ++ login.answer_said account switch.salt) behind are
    by_plugin false = λ is. absurd (cc (is))

  welcome_enters : (account : Account) (text bytes : List ℕ) → AreBytes bytes → Enters (welcome_in account text bytes)
  welcome_enters account text bytes are = by_found (first_message most_payload 2 bytes) refl where
    by_found : (found : Found) → first_message most_payload 2 bytes ≡ found → Enters (login.welcome_by account text found)
    by_found Nothing at = goes_not text
    by_found (Whole message behind) at =
        by_switch_or (login.asks_switch message.payload) (message_bytes most_payload 2 bytes message behind are at).1
      where
        by_switch_or : (b : Bool) → AreBytes behind → Enters (if b then by_switch account text (switch_of message.payload) behind else by_end text (denied message.payload) message behind)
        by_switch_or true so = switch_enters account text (switch_of message.payload) behind so
        by_switch_or false so = end_enters text (denied message.payload) message behind so
    by_found (Faulty fault) at = fails_not (login.bad text) (bad_not text)

  greeting_enters : (account : Account) (greeting : Result Greeting HandFault) (behind : List ℕ) → AreBytes behind → Enters (login.by_greeting account greeting behind)
  greeting_enters account (Err fault) behind are = fails_not (login.bad []) (bad_not [])
  greeting_enters account (Ok greeting) behind are = by_lacks (login.lacks_found_rows account.found_rows greeting.capabilities) where
    by_lacks : (b : Bool) → Enters (if b then login.bad [] else welcome_in account (login.response_said account greeting) behind)
    by_lacks true = fails_not (login.bad []) (bad_not [])
    by_lacks false = welcome_enters account (login.response_said account greeting) behind are

  refused_enters : (account : Account) (code : Option ℕ) (message : Framed) (behind : List ℕ) → AreBytes behind → Enters (greeting_or_not account code message behind)
  refused_enters account (Some code) message behind are = λ is. absurd (cc (is))
  refused_enters account None message behind are = greeting_enters account (greeting_of message.payload) behind are

  opening_enters : (account : Account) (bytes : List ℕ) → AreBytes bytes → Enters (opening account bytes)
  unfolding opening
  opening_enters account bytes are = by_found (first_message most_payload 0 bytes) refl where
    by_found : (found : Found) → first_message most_payload 0 bytes ≡ found → Enters (login.greeting_by account found)
    by_found Nothing at = goes_not []
    by_found (Whole message behind) at = refused_enters account (denied message.payload) message behind (message_bytes most_payload 0 bytes message behind are at).1
    by_found (Faulty fault) at = fails_not (login.bad []) (bad_not [])

-- Along a tale.

begun_heard : (es : List Happening) (past : Story) → AreBegun es → AllHeard past → AllHeard (es ++ past)
begun_heard [] past begun all = all
begun_heard (e ∷ es) past begun all = one e begun.0 (begun_heard es past begun.1 all) where
  one : (x : Happening) → IsBegun x → AllHeard (es ++ past) → AllHeard (x ∷ (es ++ past))
  one (Heard link reply) is rest = absurd is
  one _ is rest = rest

module _ (setup : Setup) (plan : Plan) where
  calm_tells : (tale : Tale) (e : Happening) → IsCalm e → TellsBytes tale → TellsBytes (tell e tale)
  calm_tells tale (Heard link reply) calm is = absurd calm
  calm_tells tale _ calm is = record { unread = is.unread; heard = is.heard }

  pub keeps : Keeps TellsBytes
  keeps = record {
    tells = calm_tells;
    moves = λ tale client is. record { unread = is.unread; heard = is.heard };
    counts = λ tale is. record { unread = is.unread; heard = is.heard };
  }

  wire_put : (tale : Tale) (k : LinkId) (wire : Wire) → AreBytes wire.unread → TellsBytes tale → (l : LinkId) → AreBytes (put is_link_id tale.wires k wire l).unread
  wire_put tale k wire are is l = by_test (is_link_id l k) where
    by_test : (b : Bool) → AreBytes (if b then wire else tale.wires l).unread
    by_test true = are
    by_test false = is.unread l

  with_tells : (tale : Tale) (k : LinkId) (wire : Wire) → AreBytes wire.unread → TellsBytes tale → TellsBytes (with_wire k wire tale)
  with_tells tale k wire are is = record { unread = wire_put tale k wire are is; heard = is.heard }

  writes_tells : (k : LinkId) (for : Tag) (bytes : List ℕ) (tale : Tale) → TellsBytes tale → TellsBytes (writes setup plan k for bytes (tale.wires k) tale)
  writes_tells k for bytes tale is =
      let wire : Wire = tale.wires k in
      let step = plan.steps k wire.begun in
      let begun : Wire = record wire { written = bytes; step = step_for for step; begun = suc wire.begun; quits = wire.quits || quits_for for step } in
      ifs TellsBytes (may_begin setup k wire tale) (begins setup plan k for bytes wire tale) (with_wire k (record wire { written = wire.written ++ bytes }) tale)
      (record {
        unread = wire_put tale k begun (is.unread k) is;
        heard = begun_heard (begun_on setup plan tale.moment (view_of setup tale) k wire for) tale.story
            (begun_there setup plan tale.moment (view_of setup tale) k wire for) is.heard;
      })
      (with_tells tale k (record wire { written = wire.written ++ bytes }) (is.unread k) is)

  enters_tells : (k : LinkId) (wire : Wire) (tale : Tale) → AreBytes wire.unread → TellsBytes tale → TellsBytes (entered_by plan k wire (opening (plan.logins k) wire.unread) tale)
  enters_tells k wire tale are is = by_opening (opening (plan.logins k) wire.unread) refl where
    by_opening : (o : Opening) → opening (plan.logins k) wire.unread ≡ o → TellsBytes (entered_by plan k wire o tale)
    by_opening (login.Goes said) at = with_tells tale k wire are is
    by_opening (login.LogsIn said rest) at = record {
      unread = wire_put tale k (record wire { entered = true; unread = rest; written = [] }) (opening_enters said rest (plan.logins k) wire.unread are at) is;
      heard = is.heard;
    }
    by_opening (login.Fails said fault) at = with_tells tale k wire are is

  reset_tells : (k : LinkId) (wire : Wire) (tale : Tale) → AreBytes wire.unread → TellsBytes tale → TellsBytes (reset_by k wire (read_as kind.Command wire) tale)
  reset_tells k wire tale are is = by_ending (read_as kind.Command wire) refl where
    by_ending : (o : Ending) → read_as kind.Command wire ≡ o → TellsBytes (reset_by k wire o tale)
    by_ending (Going state) at = with_tells tale k wire are is
    by_ending (Ended end rest) at = with_tells tale k (record wire { unread = rest; written = []; step = None }) (ended_bytes _ wire.unread end rest are at) is
    by_ending (Failed rest) at = with_tells tale k wire are is

  heard_tells : (k : LinkId) (question : Question) (wire : Wire) (tale : Tale) → AreBytes wire.unread → TellsBytes tale
      → TellsBytes (heard_by k question wire (read_as (kind_by (command_of question)) wire) tale)
  heard_tells k question wire tale are is = by_ending (read_as (kind_by (command_of question)) wire) refl where
    by_ending : (o : Ending) → read_as (kind_by (command_of question)) wire ≡ o → TellsBytes (heard_by k question wire o tale)
    by_ending (Going state) at = with_tells tale k wire are is
    by_ending (Ended end rest) at = record {
      unread = wire_put tale k (record wire { unread = rest; written = [] }) (ended_bytes _ wire.unread end rest are at) is;
      heard = (
        end_small (is_prepare (command_of question)) (payloads_in (reply_id wire) (take (length wire.unread - length rest) wire.unread))
            (payload_bytes (reply_id wire) (take (length wire.unread - length rest) wire.unread) (bytes_first (length wire.unread - length rest) wire.unread are)),
        is.heard,
      );
    }
    by_ending (Failed rest) at = with_tells tale k wire are is

  hears_tells : (k : LinkId) (wire : Wire) (stage : Stage) (tale : Tale) → AreBytes wire.unread → TellsBytes tale → TellsBytes (hears k wire stage tale)
  hears_tells k wire (Answered question) tale are is = heard_tells k question wire tale are is
  hears_tells k wire Quiet tale are is = with_tells tale k wire are is
  hears_tells k wire (Asked question) tale are is = with_tells tale k wire are is

  runs_tells : (stage : Stage) (k : LinkId) (tale : Tale) → TellsBytes tale → TellsBytes (runs_first stage k tale)
  runs_tells (Asked question) k tale is = record { unread = is.unread; heard = is.heard }
  runs_tells Quiet k tale is = is
  runs_tells (Answered question) k tale is = is

  says_tells : (k : LinkId) (bytes : List ℕ) (tale : Tale) → AreBytes bytes → TellsBytes tale → TellsBytes (server_says setup plan k bytes tale)
  says_tells k bytes tale are is =
      let wire : Wire = wire_with tale k bytes in
      let grown : AreBytes wire.unread = bytes_both (tale.wires k).unread bytes (is.unread k) are in
      ifs TellsBytes (not (tale.wires k).entered) _ _ (enters_tells k wire tale grown is)
      (ifs TellsBytes (is_reset_step (tale.wires k).step) _ _ (reset_tells k wire tale grown is)
      (hears_tells k wire (link_in setup (with_run setup k tale) k).stage (with_run setup k tale) grown (runs_tells (link_in setup tale k).stage k tale is)))

  pub told_tells : (tale : Tale) (e : Entry) → GetsBytes tale e → TellsBytes tale → TellsBytes (told setup plan tale e)
  told_tells tale (entry.Accepted port link salt) gets is = record { unread = is.unread; heard = is.heard }
  told_tells tale (entry.Opened server address link) gets is = record { unread = wire_put tale link (new_wire server) no_bytes is; heard = is.heard }
  told_tells tale (entry.Got link bytes) gets is = by (is_to_server tale link) refl where
    by : (b : Bool) → is_to_server tale link ≡ b
        → TellsBytes (if b then server_says setup plan link bytes tale else record tale { clients = map (client_hears link bytes) tale.clients })
    by true there = says_tells link bytes tale (gets there) is
    by false there = record { unread = is.unread; heard = is.heard }
  told_tells tale (entry.Wrote link for bytes) gets is =
      ifs TellsBytes (is_to_server tale link) _ _ (writes_tells link for bytes tale is) (record { unread = is.unread; heard = is.heard })
  told_tells tale (entry.Exec link) gets is =
      ifs TellsBytes (tale.wires link).entered _ _
      (ifs (λ (e : Happening). TellsBytes (tell e tale)) (tale.wires link).quits (Dropped link) (Ran link) (record { unread = is.unread; heard = is.heard }) (record { unread = is.unread; heard = is.heard })) is
  told_tells tale (entry.Drop link) gets is = record { unread = is.unread; heard = is.heard }
  told_tells tale (entry.Ended link) gets is = losing_keeps setup plan TellsBytes keeps link tale is
  told_tells tale (entry.ReadFailed link) gets is = losing_keeps setup plan TellsBytes keeps link tale is
  told_tells tale (entry.WriteFailed link) gets is = losing_keeps setup plan TellsBytes keeps link tale is
  told_tells tale (entry.Closed link) gets is = losing_keeps setup plan TellsBytes keeps link tale is
  told_tells tale _ gets is = is

  pub step_tells : (tale : Tale) (e : Entry) → GetsBytes tale e → TellsBytes tale → TellsBytes (tale_step setup plan tale e)
  step_tells tale e gets is = step_keeps setup plan TellsBytes keeps tale e (told_tells tale e gets is)

  pub first_tells : TellsBytes first_tale
  first_tells = record { unread = λ l. no_bytes; heard = tt }
