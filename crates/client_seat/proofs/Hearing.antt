-- A seat stands for its client as bytes are read of it, and its messages are taken up.
use Rattle.std.specs.Prelude.{◌≡◌, ◌<◌, ℕ, suc, ◌+◌, List, [], ◌∷◌, ◌++◌, length, take, slice_get, Option, Some, None}
use Rattle.std.proofs.Common.{◌∙◌, refl, sym, ap, subst, arith, append_assoc, length-append}
use Rattle.std.proofs.lemmas.Bool.Decides.{nat_tests}
use Rattle.packet_frame.specs.Laws.{split-grown, split-whole}
use Rattle.packet_frame.specs.MessageLaws.{first_message-goes}
use Rattle.packet_frame.specs.Packets.{Framed, Split, first_message, grown, split, with_front}
use Rattle.packet_frame.specs.Packets.Found.{Whole}
use Rattle.packet_frame.specs.declared.fault.FrameFault.{FrameFault}
use Rattle.server_side.specs.Account.{Account}
use Rattle.client_side.specs.Client.{counted}
use Rattle.client_side.specs.Laws.{logging-fed, opening-says-more}
use Rattle.client_side.specs.Login.{Fails, Opening, Says, Waits}
use Rattle.client_session.specs.Accounts.{account_of}
use Rattle.client_session.specs.Answers.{Talk, account, account_in, commands, commands_in, front, front_in, heard_more, if_known, opening_of, users_of}
use Rattle.log_story.specs.Owed.{messages, talk_of}
use Rattle.log_story.specs.Plan.{Plan}
use Rattle.log_story.specs.Tale.{Client}
use Rattle.client_seat.specs.Seats.{Seat, got, got_in}
use Rattle.client_seat.specs.Stands.{IsHeard, IsHeardIn, IsNext, IsServed}
use Rattle.client_seat.specs.Takings.{passed}
use Rattle.client_seat.specs.declared.phase.Phase.{Phase}
use Rattle.client_seat.specs.declared.phase.Phase.TheVariants as phase

-- Who is logged in stays so, and its commands go on.

pub record GoesOn (talk : Talk) (more : List ℕ) (user : Account) : Type 0 where
  pub same : account (heard_more talk more) ≡ Some user
  pub commands : commands (heard_more talk more) ≡ commands talk ++ more
  pub front : front (heard_more talk more) ≡ front talk

known-in : (talk : Talk) (user : Account) (found : Option Account) (rest more : List ℕ) → found ≡ Some user
    → if_known found (rest ++ more) ≡ if_known found rest ++ more
known-in talk user None rest more is = (let no : None ≡ Some user = is in cc)
known-in talk user (Some other) rest more is = refl

pub goes-on : (talk : Talk) (more : List ℕ) (user : Account) → account talk ≡ Some user → GoesOn talk more user
goes-on talk more user known = by (opening_of talk) refl where
  by : (at : Opening) → opening_of talk ≡ at → GoesOn talk more user
  by (Waits switched) is = (let no : None ≡ Some user = ap (account_in talk) (sym is) ∙ known in cc)
  by (Fails switched fault id) is = (let no : None ≡ Some user = ap (account_in talk) (sym is) ∙ known in cc)
  by (Says switched response id rest) is =
      let later : opening_of (heard_more talk more) ≡ Says switched response id (rest ++ more) =
      opening-says-more talk.setup.limit talk.read more switched response id rest is in
      let is_user : account_of (users_of talk) talk.salt response ≡ Some user = ap (account_in talk) (sym is) ∙ known in
      record {
        same = ap (account_in (heard_more talk more)) later ∙ is_user;
        commands =
            ap (commands_in (heard_more talk more)) later
            ∙ known-in talk user (account_of (users_of talk) talk.salt response) rest more is_user
            ∙ ap (λ (bytes : List ℕ). bytes ++ more) (ap (commands_in talk) (sym is));
        front = ap (front_in (heard_more talk more)) later ∙ ap (front_in talk) (sym is);
      }

-- Bytes come.

split-same : (limit : ℕ) (gone : List Framed) (read kept more : List ℕ) → split limit 0 read ≡ with_front gone (split limit 0 kept)
    → split limit 0 (read ++ more) ≡ with_front gone (split limit 0 (kept ++ more))
split-same limit gone read kept more is =
    split-grown limit 0 read more
    ∙ ap (λ (s : Split). grown limit 0 s.messages s.rest s.fault more) is
    ∙ fronted (split limit 0 kept).messages (split limit 0 kept).rest (split limit 0 kept).fault
    ∙ ap (with_front gone) (sym (split-grown limit 0 kept more)) where
      fronted : (found : List Framed) (rest : List ℕ) (fault : Option FrameFault) → grown limit 0 (gone ++ found) rest fault more ≡ with_front gone (grown limit 0 found rest fault more)
      fronted found rest None = ap (λ (messages : List Framed). record { messages = messages; rest = (split limit 0 (rest ++ more)).rest; fault = (split limit 0 (rest ++ more)).fault })
          (append_assoc gone found (split limit 0 (rest ++ more)).messages)
      fronted found rest (Some fault) = refl

heard-in : (at : Phase) (plan : Plan) (client : Client) (seat : Seat) (more : List ℕ) → IsHeardIn at plan client seat
    → IsHeardIn at plan (record client { read = client.read ++ more }) (got_in at more seat)
heard-in phase.LoggingIn plan client seat more was = record {
  limit = was.limit;
  untaken = was.untaken;
  arrived = was.arrived;
  written = was.written;
  size = was.size;
  login = logging-fed seat.client plan.service.version client.read more (was.written ++ seat.outbox.due) was.login;
}
heard-in (phase.Serving user) plan client seat more was =
    let on = goes-on (talk_of plan client) more user was.known in
    record {
      limit = was.limit;
      known = on.same;
      logged_in = was.logged_in;
      faultless = was.faultless;
      arrived = was.arrived;
      gone = was.gone;
      size = was.size;
      rest =
          ap (split plan.service.limit 0) on.commands
          ∙ split-same plan.service.limit was.gone (commands (talk_of plan client)) seat.client.framer.kept more was.rest;
    }
heard-in phase.Ended plan client seat more was = tt

same-phase : (at : Phase) (more : List ℕ) (seat : Seat) → (got_in at more seat).phase ≡ seat.phase
same-phase phase.LoggingIn more seat = refl
same-phase (phase.Serving user) more seat = refl
same-phase phase.Ended more seat = refl

pub heard : (plan : Plan) (client : Client) (seat : Seat) (more : List ℕ) → IsHeard plan client seat → IsHeard plan (record client { read = client.read ++ more }) (got more seat)
heard plan client seat more was =
    subst (λ (at : Phase). IsHeardIn at plan (record client { read = client.read ++ more }) (got more seat)) (sym (same-phase seat.phase more seat))
    (heard-in seat.phase plan client seat more was)

-- A message is taken up: it is the next of the client's messages.

get-behind : (gone : List Framed) (message : Framed) (others : List Framed) → slice_get (gone ++ message ∷ others) (length gone) ≡ Some message
get-behind [] message others = refl
get-behind (one ∷ gone) message others = get-behind gone message others

take-behind : (gone : List Framed) (message : Framed) (others : List Framed)
    → take (suc (length gone)) (gone ++ message ∷ others) ≡ take (length gone) (gone ++ message ∷ others) ++ message ∷ []
take-behind [] message others = refl
take-behind (one ∷ gone) message others = ap (λ (xs : List Framed). one ∷ xs) (take-behind gone message others)

pub is-next : (plan : Plan) (client : Client) (seat : Seat) (user : Account) (message : Framed) (rest : List ℕ) → IsServed plan client seat user
    → first_message plan.service.limit 0 seat.client.framer.kept ≡ Whole message rest → IsNext plan client message
is-next plan client seat user message rest was whole =
    let whole_split = split-whole plan.service.limit 0 seat.client.framer.kept message rest whole in
    let all : messages plan client ≡ was.gone ++ message ∷ (split plan.service.limit 0 rest).messages =
    ap (λ (s : Split). s.messages) was.rest ∙ ap (λ (s : Split). was.gone ++ s.messages) whole_split in
    record {
      next = ap (λ (sent : List Framed). slice_get sent client.taken) all
          ∙ ap (λ (n : ℕ). slice_get (was.gone ++ message ∷ (split plan.service.limit 0 rest).messages) n) (sym was.size)
          ∙ get-behind was.gone message (split plan.service.limit 0 rest).messages;
      before = subst (λ (sent : List Framed). take (suc client.taken) sent ≡ take client.taken sent ++ message ∷ []) (sym all)
          (subst (λ (n : ℕ). take (suc n) (was.gone ++ message ∷ (split plan.service.limit 0 rest).messages) ≡ take n (was.gone ++ message ∷ (split plan.service.limit 0 rest).messages) ++ message ∷ []) was.size
          (take-behind was.gone message (split plan.service.limit 0 rest).messages));
    }

-- and it is gone then

counted-is : (n : ℕ) → n + 1 < 18446744073709551616 → counted n ≡ suc n
counted-is n less = grind (arith, nat_tests)

pub served-taken : (plan : Plan) (client : Client) (seat : Seat) (user : Account) (flag : ℕ) (message : Framed) (rest : List ℕ) → IsServed plan client seat user
    → first_message plan.service.limit 0 seat.client.framer.kept ≡ Whole message rest → client.taken + 1 < 18446744073709551616
    → IsServed plan (record client { taken = suc client.taken }) (passed flag message seat) user
served-taken plan client seat user flag message rest was whole few = record {
  limit = was.limit;
  known = was.known;
  logged_in = was.logged_in;
  faultless = was.faultless;
  arrived = ap counted was.arrived ∙ counted-is client.taken few;
  gone = was.gone ++ message ∷ [];
  size = length-append was.gone (message ∷ []) ∙ omega (arith, was.size);
  rest = was.rest ∙ ap (with_front was.gone) (split-whole plan.service.limit 0 seat.client.framer.kept message rest whole)
      ∙ fronted (split plan.service.limit 0 rest)
      ∙ ap (λ (bytes : List ℕ). with_front (was.gone ++ message ∷ []) (split plan.service.limit 0 bytes)) (first_message-goes plan.service.limit 0 seat.client.framer.kept message rest whole);
} where
  fronted : (s : Split) → with_front was.gone (with_front (message ∷ []) s) ≡ with_front (was.gone ++ message ∷ []) s
  fronted s = ap (λ (sent : List Framed). record { messages = sent; rest = s.rest; fault = s.fault }) (sym (append_assoc was.gone (message ∷ []) s.messages))
