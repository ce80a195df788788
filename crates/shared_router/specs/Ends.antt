-- Which clients are ended by an entry, and with which last word.
use Rattle.std.specs.Prelude.{ℕ, Bool, false, not, ◌&&◌, ◌||◌, nat_eq, List, [], ◌∷◌, find, if◌then◌else◌, Option, Some, None}
use Rattle.std.specs.List.{list_any}
use Rattle.std.specs.Option.{option_and_then, option_map_or}
use Rattle.client_session.specs.Answers.{opening_of}
use Rattle.client_side.specs.Login.{Opening, Says}
use Rattle.mx_wire.specs.Log.{Log}
use Rattle.mx_wire.specs.declared.entry.Entry.{Entry}
use Rattle.private_model.specs.Names.{ClientNo}
use Rattle.private_model.specs.Story.{is_client}
use Rattle.log_story.specs.Owed.{name_of, talk_of}
use Rattle.log_story.specs.Plan.{Alone, Behind, ForLogin, LastWord, OwnAnswer, WordPlace, is_before}
use Rattle.log_story.specs.Tale.{Client}
use Rattle.tale_world.specs.Deciding.{World}
use Rattle.router_promises.specs.Due.{served, turned_away}
use Rattle.router_promises.specs.Ends.{buffers_word, is_accepted, is_at, is_left, is_measured, is_too_much, must_end, was_answered}
use Rattle.router_promises.specs.Errors.{out_of_memory}
use Rattle.router_promises.specs.Now.{Now, entry_now}
use Rattle.router_promises.specs.Terms.{Terms, plan_in, setup_in}
use Rattle.router_promises.specs.Uses.{error_code}
use Rattle.shared_router.specs.Fixed.{Fixed}
use Rattle.shared_router.specs.More.{More, now_of, terms_of}

-- what was known before the entry, and behind what is taken up, by the log with the entry
pub record Ending : Type 0 where
  pub fixed : Fixed
  pub terms : Terms
  pub log : Log
  pub now : Now
  pub ending : Now
  pub e : Entry

abbrev pub ending_of : Fixed → World More → Entry → Ending
ending_of fixed w e = record { fixed = fixed; terms = terms_of fixed w; log = w.more.log; now = w.more.before; ending = now_of fixed w; e = e }

abbrev pub must_go : Ending → Client → Bool
must_go x client = must_end x.terms x.log x.now x.ending x.e client

abbrev pub has_too_much : Ending → Client → Bool
has_too_much x client = is_measured x.terms x.now x.ending x.e client && is_too_much x.terms x.ending client

-- Memory is refused to it: as it is accepted; or its last message was given up so, or left as it was taken up; or nothing of it is in
-- work, and the entry is of a link of its own, or of one that carries it.

abbrev pub is_refused_now : Ending → Client → Bool
is_refused_now x client = x.fixed.starves (entry_now x.now) client.number

abbrev pub told_starved : Ending → OwnAnswer → Bool
told_starved x answer = nat_eq answer.from (entry_now x.now) && nat_eq (error_code answer.payloads) 9199

abbrev pub was_told_starved : Ending → Client → Bool
was_told_starved x client = option_map_or (told_starved x) ((plan_in x.terms).own (name_of client client.taken)) false

abbrev pub was_left : Ending → Client → Bool
was_left x client = is_left x.terms x.ending client

abbrev pub may_say_starved : Ending → Client → Bool
may_say_starved x client =
    not (is_accepted x.e client || was_told_starved x client) && (was_answered x.terms x.ending client && is_at (setup_in x.terms) x.now x.e client)

abbrev pub is_starved : Ending → Client → Bool
is_starved x client =
    is_refused_now x client && (is_accepted x.e client || (was_told_starved x client || (was_left x client || may_say_starved x client)))

abbrev pub goes : Ending → Client → Bool
goes x client = must_go x client || (has_too_much x client || is_starved x client)

-- The last word: there was no memory for its last message; one that isn't served is turned away; too many bytes wait; or there is no memory.

abbrev pub place_by : Opening → WordPlace
place_by (Says switched response id rest) = Behind
place_by _ = ForLogin

abbrev pub word_place : Ending → Client → WordPlace
word_place x client = place_by (opening_of (talk_of (plan_in x.terms) client))

abbrev pub is_turned_away : Ending → Client → Bool
is_turned_away x client = is_accepted x.e client && not (served x.terms x.log client)

abbrev pub away_word : Ending → LastWord
away_word x = record { from = entry_now x.now; place = Alone; payloads = turned_away }

abbrev pub says_last : Ending → Client → List ℕ → LastWord
says_last x client payload = record { from = entry_now x.now; place = word_place x client; payloads = payload ∷ [] }

abbrev pub left_word : Ending → LastWord
left_word x = record { from = entry_now x.now; place = Behind; payloads = out_of_memory ∷ [] }

abbrev pub word_to : Ending → Client → Option LastWord
word_to x client =
    if is_refused_now x client && was_left x client then Some (left_word x)
    else if is_turned_away x client then Some (away_word x)
    else if must_go x client then None
    else if has_too_much x client then Some (says_last x client (buffers_word x.terms x.ending client))
    else if is_refused_now x client && may_say_starved x client then Some (says_last x client out_of_memory)
    else None

-- by a client's number, of those that weren't ended before

abbrev pub client_at : Ending → ClientNo → Option Client
client_at x c = find (λ (client : Client). is_client client.number c) x.ending.tale.clients

abbrev pub ends_by : Ending → ClientNo → Bool
ends_by x c = list_any (λ (client : Client). is_client client.number c && goes x client) x.ending.tale.clients

abbrev pub words_by : Ending → ClientNo → Option LastWord
words_by x c =
    if is_before x.ending.tale.moment ((plan_in x.terms).ends c) then None else option_and_then (word_to x) (client_at x c)
