-- What a client said that ends it: its login is refused, or its bytes are no messages.
use Rattle.std.specs.Prelude.{Bool, false, true, ◌||◌, is_none, is_some}
use Rattle.client_session.specs.Answers.{Talk, account_in, messages_of, opening_of}
use Rattle.client_side.specs.Login.{Fails, Opening, Says, Waits}

-- its login can't be read, or it isn't who it says
abbrev pub is_denied_by : Talk → Opening → Bool
is_denied_by talk (Waits switched) = false
is_denied_by talk (Fails switched fault id) = true
is_denied_by talk (Says switched response id rest) = is_none (account_in talk (Says switched response id rest))

abbrev pub is_denied : Talk → Bool
is_denied talk = is_denied_by talk (opening_of talk)

-- what stands next in them can't be a message
abbrev pub is_garbled : Talk → Bool
is_garbled talk = is_some (messages_of talk).fault

abbrev pub is_refused_talk : Talk → Bool
is_refused_talk talk = is_denied talk || is_garbled talk
