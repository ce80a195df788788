-- What happens to others leaves a client's sessions and answers as they are.
use Rattle.std.specs.Prelude.{◌≡◌, suc, Bool, false, if◌then◌else◌, Option, Some, None}
use Rattle.std.specs.Option.{option_map_or}
use Rattle.std.proofs.Common.{refl, ap}
use Rattle.private_model.specs.Commands.{Reply}
use Rattle.private_model.specs.Names.{ClientNo, Hostgroup, LinkId, MessageName, SessionName}
use Rattle.private_model.specs.Story.{BecameDue, Broke, Capture, Dropped, End, Freed, Gone, Happening, Heard, Left, LoggedIn, Mirrored, Own, Prep, Question, Ran, Sent, Statement, Sync, Unprepared, is_client, is_message, is_name, message_of, put}
use Rattle.private_model.specs.View.{Answered, Asked, Quiet, Setup, Stage, View, held_by, held_for, held_heard, lives_after, place_after, session_in, view_heard, view_step}
use Rattle.desk_laws.specs.Spares.{answered_for, asked_for, is_of, touches}

pub put_apart : {K A : Type 0} (is : K → K → Bool) (f : K → A) (k : K) (x : A) (j : K) → is j k ≡ false → put is f k x j ≡ f j
put_apart is f k x j e = ap (λ b. if b then x else f j) e

other_name : (n m : SessionName) → is_client n.client m.client ≡ false → is_name n m ≡ false
other_name n m e = rw e refl

other_message : (m n : MessageName) → is_client m.client n.client ≡ false → is_message m n ≡ false
other_message m n e = rw e refl

module _ (setup : Setup) (view : View) where
  module _ (n : SessionName) where
    asked_apart : (question : Question) (link : LinkId) → is_of n.client (asked_for question) ≡ false → held_for question link view.held n ≡ view.held n
    asked_apart (Statement m due) link e = put_apart is_name view.held m (record (view.held m) { home = Some link }) n (other_name n m e)
    asked_apart (Prep m key text) link e = put_apart is_name view.held m (record (view.held m) { home = Some link }) n (other_name n m e)
    asked_apart (Sync m command) link e = refl
    asked_apart (Own command) link e = refl
    asked_apart (End m) link e = refl
    asked_apart (Capture m) link e = refl

    answered_apart : (question : Question) (reply : Reply) → is_of n.client (asked_for question) ≡ false
        → held_by setup.reads question reply view.held n ≡ view.held n
    answered_apart (Statement m due) reply e = put_apart is_name view.held m (held_heard setup.reads (Statement m due) reply (view.held m)) n (other_name n m e)
    answered_apart (Prep m key text) reply e = put_apart is_name view.held m (held_heard setup.reads (Prep m key text) reply (view.held m)) n (other_name n m e)
    answered_apart (Sync m command) reply e = put_apart is_name view.held m (held_heard setup.reads (Sync m command) reply (view.held m)) n (other_name n m e)
    answered_apart (Own command) reply e = refl
    answered_apart (End m) reply e = put_apart is_name view.held m (held_heard setup.reads (End m) reply (view.held m)) n (other_name n m e)
    answered_apart (Capture m) reply e = put_apart is_name view.held m (held_heard setup.reads (Capture m) reply (view.held m)) n (other_name n m e)

    heard_apart : (stage : Stage) (link : LinkId) (reply : Reply) → is_of n.client (answered_for stage) ≡ false
        → (view_heard setup view link reply stage).held n ≡ view.held n
    heard_apart Quiet link reply e = refl
    heard_apart (Asked question) link reply e = refl
    heard_apart (Answered question) link reply e = answered_apart question reply e

    freed_apart : (carried : Option SessionName) → is_of n.client carried ≡ false
        → option_map_or (λ m. put is_name view.held m (record (view.held m) { home = None })) carried view.held n ≡ view.held n
    freed_apart None e = refl
    freed_apart (Some m) e = put_apart is_name view.held m (record (view.held m) { home = None }) n (other_name n m e)

    pub held_apart : (e : Happening) → touches view e n.client ≡ false → (view_step setup view e).held n ≡ view.held n
    held_apart (LoggedIn link server account) apart = refl
    held_apart (BecameDue client hostgroup ordinal key command multiplex) apart = refl
    held_apart (Sent link question) apart = asked_apart question link apart
    held_apart (Ran link) apart = refl
    held_apart (Heard link reply) apart = heard_apart (view.links link).stage link reply apart
    held_apart (Freed link) apart = freed_apart (session_in (view.links link).carries) apart
    held_apart (Unprepared link number) apart = refl
    held_apart (Dropped link) apart = refl
    held_apart (Gone link) apart = refl
    held_apart (Left client) apart = refl
    held_apart Broke apart = refl
    held_apart (Mirrored client job) apart = refl

  module _ (c : ClientNo) (h : Hostgroup) where
    gone_apart : (carried : Option SessionName) → is_of c carried ≡ false → option_map_or (λ m. lives_after m view.lives) carried view.lives c h ≡ view.lives c h
    gone_apart None e = refl
    gone_apart (Some m) e =
        ap (λ (b : Bool). if b then suc (view.lives c h) else view.lives c h) (other_name (record { client = c; hostgroup = h; life = view.lives c h }) m e)

    heard_lives : (stage : Stage) (link : LinkId) (reply : Reply) → (view_heard setup view link reply stage).lives c h ≡ view.lives c h
    heard_lives Quiet link reply = refl
    heard_lives (Asked question) link reply = refl
    heard_lives (Answered question) link reply = refl

    pub lives_apart : (e : Happening) → touches view e c ≡ false → (view_step setup view e).lives c h ≡ view.lives c h
    lives_apart (LoggedIn link server account) apart = refl
    lives_apart (BecameDue client hostgroup ordinal key command multiplex) apart = refl
    lives_apart (Sent link question) apart = refl
    lives_apart (Ran link) apart = refl
    lives_apart (Heard link reply) apart = heard_lives (view.links link).stage link reply
    lives_apart (Freed link) apart = refl
    lives_apart (Unprepared link number) apart = refl
    lives_apart (Dropped link) apart = refl
    lives_apart (Gone link) apart = gone_apart (session_in (view.links link).carries) apart
    lives_apart (Left client) apart = ap (λ (b : Bool). if b then suc (view.lives c h) else view.lives c h) apart
    lives_apart Broke apart = refl
    lives_apart (Mirrored client job) apart = refl

  module _ (m : MessageName) where
    replies_heard : (stage : Stage) (link : LinkId) (reply : Reply) → is_of m.client (answered_for stage) ≡ false
        → (view_heard setup view link reply stage).replies m ≡ view.replies m
    replies_heard Quiet link reply e = refl
    replies_heard (Asked question) link reply e = refl
    replies_heard (Answered (Statement n due)) link reply e =
        put_apart is_message view.replies (message_of n due) (Some reply) m (other_message m (message_of n due) e)
    replies_heard (Answered (Prep n key text)) link reply e = refl
    replies_heard (Answered (Sync n command)) link reply e = refl
    replies_heard (Answered (Own command)) link reply e = refl
    replies_heard (Answered (End n)) link reply e = refl
    replies_heard (Answered (Capture n)) link reply e = refl

    pub replies_apart : (e : Happening) → touches view e m.client ≡ false → (view_step setup view e).replies m ≡ view.replies m
    replies_apart (LoggedIn link server account) apart = refl
    replies_apart (BecameDue client hostgroup ordinal key command multiplex) apart = refl
    replies_apart (Sent link question) apart = refl
    replies_apart (Ran link) apart = refl
    replies_apart (Heard link reply) apart = replies_heard (view.links link).stage link reply apart
    replies_apart (Freed link) apart = refl
    replies_apart (Unprepared link number) apart = refl
    replies_apart (Dropped link) apart = refl
    replies_apart (Gone link) apart = refl
    replies_apart (Left client) apart = refl
    replies_apart Broke apart = refl
    replies_apart (Mirrored client job) apart = refl

    carried_sent : (question : Question) (link : LinkId) → is_of m.client (asked_for question) ≡ false
        → (view_step setup view (Sent link question)).carriers m ≡ view.carriers m
    carried_sent (Statement n due) link e = put_apart is_message view.carriers (message_of n due) (Some link) m (other_message m (message_of n due) e)
    carried_sent (Prep n key text) link e = refl
    carried_sent (Sync n command) link e = refl
    carried_sent (Own command) link e = refl
    carried_sent (End n) link e = refl
    carried_sent (Capture n) link e = refl

    carried_heard : (stage : Stage) (link : LinkId) (reply : Reply) → (view_heard setup view link reply stage).carriers m ≡ view.carriers m
    carried_heard Quiet link reply = refl
    carried_heard (Asked question) link reply = refl
    carried_heard (Answered question) link reply = refl

    pub carriers_apart : (e : Happening) → touches view e m.client ≡ false → (view_step setup view e).carriers m ≡ view.carriers m
    carriers_apart (LoggedIn link server account) apart = refl
    carriers_apart (BecameDue client hostgroup ordinal key command multiplex) apart = refl
    carriers_apart (Sent link question) apart = carried_sent question link apart
    carriers_apart (Ran link) apart = refl
    carriers_apart (Heard link reply) apart = carried_heard (view.links link).stage link reply
    carriers_apart (Freed link) apart = refl
    carriers_apart (Unprepared link number) apart = refl
    carriers_apart (Dropped link) apart = refl
    carriers_apart (Gone link) apart = refl
    carriers_apart (Left client) apart = refl
    carriers_apart Broke apart = refl
    carriers_apart (Mirrored client job) apart = refl

  module _ (c : ClientNo) where
    places_heard : (stage : Stage) (link : LinkId) (reply : Reply) → is_of c (answered_for stage) ≡ false
        → (view_heard setup view link reply stage).places c ≡ view.places c
    places_heard Quiet link reply e = refl
    places_heard (Asked question) link reply e = refl
    places_heard (Answered (Statement n due)) link reply e =
        put_apart is_client view.places n.client (place_after setup.reads due.command reply (view.places n.client)) c e
    places_heard (Answered (Prep n key text)) link reply e = refl
    places_heard (Answered (Sync n command)) link reply e = refl
    places_heard (Answered (Own command)) link reply e = refl
    places_heard (Answered (End n)) link reply e = refl
    places_heard (Answered (Capture n)) link reply e = refl

    pub places_apart : (e : Happening) → touches view e c ≡ false → (view_step setup view e).places c ≡ view.places c
    places_apart (LoggedIn link server account) apart = refl
    places_apart (BecameDue client hostgroup ordinal key command multiplex) apart = refl
    places_apart (Sent link question) apart = refl
    places_apart (Ran link) apart = refl
    places_apart (Heard link reply) apart = places_heard (view.links link).stage link reply apart
    places_apart (Freed link) apart = refl
    places_apart (Unprepared link number) apart = refl
    places_apart (Dropped link) apart = refl
    places_apart (Gone link) apart = refl
    places_apart (Left client) apart =
        put_apart is_client view.places client (record (view.places client) { settings = (setup.places client).settings }) c apart
    places_apart Broke apart = refl
    places_apart (Mirrored client job) apart = put_apart is_client view.places job (view.places client) c apart
