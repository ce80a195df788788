-- Other links stand as one is read.
use Rattle.std.specs.Prelude.{◌≡◌, ℕ, Bool, true, false, ◌∷◌, Option, Some, None}
use Rattle.std.proofs.Common.{refl, sym, ap, ◌∙◌}
use Rattle.std.proofs.lemmas.Bool.{true≢false}
use Rattle.private_model.proofs.Maps.{message_is, name_of as name_from, same_link}
use Rattle.private_model.specs.Commands.{Reply}
use Rattle.private_model.specs.Lawful.{IsLawful}
use Rattle.private_model.specs.Names.{LinkId, MessageName, SessionName}
use Rattle.private_model.specs.Story.{Capture, End, Heard, Own, Prep, Question, Ran, Statement, Story, Sync, is_link_id, is_message, is_name, message_of}
use Rattle.private_model.specs.View as view
use Rattle.private_model.specs.View.{Held, Link, Setup, View, held_by, held_heard, ran_by, session_in, view_after, view_heard, view_step}
use Rattle.log_story.specs.Plan.{Plan}
use Rattle.log_story.specs.Servers.{runs_first}
use Rattle.log_story.specs.Tale.{Tale, Wire, is_to_server, view_of}
use Rattle.link_state.specs.declared.asking.Asking.{Asking}
use Rattle.link_state.specs.declared.asking.Purpose.TheVariants as purposes
use Rattle.link_laws.specs.Stands.{Codes}
use Rattle.served_link.specs.declared.row.Row.{Row}
use Rattle.row_laws.specs.Rows.{IsRowIn}
use Rattle.row_laws.specs.Whose.{IsUntouched, OfStatement, name_in}
use Rattle.row_laws.proofs.Framing.{same_parts}
use Rattle.desk_laws.specs.Spares.{asked_for}
use Rattle.core_laws.specs.parting.Frames.{AreHomed, asker_at}
use Rattle.core_laws.proofs.OfParting.Apart.{put_apart}
use Rattle.core_tables.specs.Tables.{Tabled}
use Rattle.core_tables.specs.declared.server.Server.{Server}
use Rattle.core_stands.specs.Grounds.{Ground, on, view_on}
use Rattle.core_stands.specs.Servers.{IsFirst, IsReplying, IsServerBy, IsServerOr, IsStanding}
use Rattle.core_laws.proofs.OfHearing.Kept.{AsksAt, IsShown, server_kept, with_story}

abbrev pub CarriedLaw : Type 0
CarriedLaw =
    (setup : Setup) (codes : Codes) (plan : Plan) (tale : Tale) (l : LinkId) (row : Row) → IsRowIn setup codes plan tale l row
    → session_in ((view_of setup tale).links l).carries ≡ name_in row.link.state.carries

abbrev pub HomedLaw : Type 0
HomedLaw =
    (setup : Setup) (story : Story) → IsLawful setup story → AreHomed (view_after setup story).links (view_after setup story).held

-- what isn't of this link stays
pub record IsNear (g : Ground) (l : LinkId) (story : Story) (wires : LinkId → Wire) : Type 0 where
  pub wire : (other : LinkId) → is_link_id other l ≡ false → wires other ≡ g.tale.wires other
  pub link : (other : LinkId) → is_link_id other l ≡ false → (view_after g.setup story).links other ≡ (view_on g).links other
  pub dues : (n : SessionName) → (view_after g.setup story).dues n ≡ (view_on g).dues n
  pub session : (other : LinkId) (row : Row) (n : SessionName) → is_link_id other l ≡ false → IsRowIn g.setup g.codes g.plan g.tale other row
      → name_in row.link.state.carries ≡ Some n → IsUntouched (view_on g) (view_after g.setup story) n row.left
  pub carriers : (m : MessageName) → (view_after g.setup story).carriers m ≡ (view_on g).carriers m
  pub replies : (other : LinkId) (m : MessageName) → is_link_id other l ≡ false → (view_on g).carriers m ≡ Some other
      → (view_after g.setup story).replies m ≡ (view_on g).replies m

-- what reads of a client the id of its reply's first packet alone finds the same
abbrev pub AreFirst : (t other : Tabled) → Type 0
AreFirst t other = (n : SessionName) (ordinal from : ℕ) → IsFirst t n ordinal from → IsFirst other n ordinal from

-- and so does the row of another link on which a client's statement stands
abbrev pub AreShown : Ground → (t other : Tabled) → LinkId → Type 0
AreShown g t other l =
    (k : LinkId) (server : Server) → is_link_id k l ≡ false → t.links k ≡ Some server → IsRowIn g.setup g.codes g.plan g.tale k server.row
    → server.row.link.spoilt ≡ false → server.row.lost ≡ false → server.row.left ≡ None
    → (asking : Asking) (n : SessionName) (ordinal key : ℕ) → AsksAt server.row.link.state.stage asking → asking.purpose ≡ purposes.Statement n ordinal key
    → (is : IsReplying g t k server.row asking n ordinal) → IsShown t other n is.client

module _ (g : Ground) (t other : Tabled) (l : LinkId) (story : Story) (wires : LinkId → Wire) (near : IsNear g l story wires)
    (first : AreFirst t other) (shown : AreShown g t other l) (k : LinkId) (apart : is_link_id k l ≡ false) where
  server_by : (b : Bool) (row : Option Server) → t.links k ≡ row → IsServerBy b g t k row
      → IsServerBy b (on g (with_story story wires g.tale)) other k row
  server_by true (Some server) there is =
      server_kept g story wires t other k server.row first (record {
        wire = near.wire k apart;
        link = near.link k apart;
        dues = near.dues;
        session = λ n carried. near.session k server.row n apart is.row carried;
        carriers = near.carriers;
        replies = λ m carrier. near.replies k m apart carrier;
      }) is (shown k server apart there is.row)
  server_by true None there is = ap (λ (link : Link). link.usable) (near.link k apart) ∙ is
  server_by false row there is = is

  pub server_so : IsServerOr g t k (t.links k) → IsServerOr (on g (with_story story wires g.tale)) other k (t.links k)
  server_so is = server_by (is_to_server g.tale k) (t.links k) refl is

-- Something runs there, or nothing happens.
pub near_ran : (g : Ground) (l : LinkId) (wires : LinkId → Wire) → ((other : LinkId) → is_link_id other l ≡ false → wires other ≡ g.tale.wires other)
    → (there : view.Stage) → IsNear g l (runs_first there l g.tale).story wires
near_ran g l wires wire (view.Asked question) = record {
  wire = wire;
  link = λ other apart. put_apart is_link_id (view_on g).links l (ran_by g.setup.reads ((view_on g).links l).stage ((view_on g).links l)) other apart;
  dues = λ n. refl;
  session = λ other row n apart is carried.
      same_parts (view_on g) (view_after g.setup (Ran l ∷ g.tale.story)) n row.left refl refl refl refl;
  carriers = λ m. refl;
  replies = λ other m apart carrier. refl;
}
near_ran g l wires wire view.Quiet = record {
  wire = wire;
  link = λ other apart. refl;
  dues = λ n. refl;
  session = λ other row n apart is carried. same_parts (view_on g) (view_on g) n row.left refl refl refl refl;
  carriers = λ m. refl;
  replies = λ other m apart carrier. refl;
}
near_ran g l wires wire (view.Answered question) = record {
  wire = wire;
  link = λ other apart. refl;
  dues = λ n. refl;
  session = λ other row n apart is carried. same_parts (view_on g) (view_on g) n row.left refl refl refl refl;
  carriers = λ m. refl;
  replies = λ other m apart carrier. refl;
}

-- An answer is read there.
module _ (carried_law : CarriedLaw) (homed_law : HomedLaw) (g : Ground) (l : LinkId) (reply : Reply) (question : Question)
    (there : ((view_on g).links l).stage ≡ view.Answered question) (lawful : IsLawful g.setup g.tale.story)
    (standing : OfStatement question (IsStanding g l)) where
  abbrev seen : View
  seen = view_on g

  abbrev story : Story
  story = Heard l reply ∷ g.tale.story

  abbrev new : View
  new = view_after g.setup story

  heard_at : new ≡ view_heard g.setup seen l reply (view.Answered question)
  heard_at = ap (view_heard g.setup seen l reply) there

  homed : AreHomed seen.links seen.held
  homed = homed_law g.setup g.tale.story lawful

  other_link : (a : Option LinkId) (k : LinkId) → is_link_id k l ≡ false → a ≡ Some l → a ≡ Some k → ⊥
  other_link a k apart one two =
      let it : k ≡ l = some_is k l (sym two ∙ one) in
      true≢false (sym (same_link l) ∙ ap (λ (x : LinkId). is_link_id x l) (sym it) ∙ apart) where
        some_is : (a b : LinkId) → Some a ≡ Some b → a ≡ b
        some_is a b same = cc

  asker : (n : SessionName) → asked_for question ≡ Some n → (seen.held n).home ≡ Some l
  asker n names = homed.home l n (homed.asked l n (ap asker_at there ∙ asker_is question n names)) where
    asker_is : (asked : Question) (n : SessionName) → asked_for asked ≡ Some n → asker_at (view.Answered asked) ≡ Some n
    asker_is asked n names = names

  other_name : (other : LinkId) (row : Row) (n m : SessionName) → is_link_id other l ≡ false → IsRowIn g.setup g.codes g.plan g.tale other row
      → name_in row.link.state.carries ≡ Some n → asked_for question ≡ Some m → is_name n m ≡ false
  other_name other row n m apart is carried names = by (is_name n m) refl where
    by : (same : Bool) → is_name n m ≡ same → same ≡ false
    by false e = refl
    by true e =
        absurd (other_link (seen.held n).home other apart
        (ap (λ (x : SessionName). (seen.held x).home) (name_from n m e) ∙ asker m names)
        (homed.home other n (carried_law g.setup g.codes g.plan g.tale other row is ∙ carried)))

  held_by_other : (asked : Question) (n : SessionName) → ((m : SessionName) → asked_for asked ≡ Some m → is_name n m ≡ false)
      → held_by g.setup.reads asked reply seen.held n ≡ seen.held n
  held_by_other (Statement m due) n apart = put_apart is_name seen.held m (held_heard g.setup.reads (Statement m due) reply (seen.held m)) n (apart m refl)
  held_by_other (Prep m key text) n apart = put_apart is_name seen.held m (held_heard g.setup.reads (Prep m key text) reply (seen.held m)) n (apart m refl)
  held_by_other (Sync m command) n apart = put_apart is_name seen.held m (held_heard g.setup.reads (Sync m command) reply (seen.held m)) n (apart m refl)
  held_by_other (Own command) n apart = refl
  held_by_other (End m) n apart = put_apart is_name seen.held m (held_heard g.setup.reads (End m) reply (seen.held m)) n (apart m refl)
  held_by_other (Capture m) n apart = put_apart is_name seen.held m (held_heard g.setup.reads (Capture m) reply (seen.held m)) n (apart m refl)

  replies_by : (asked : Question) (other : LinkId) (m : MessageName) → OfStatement asked (IsStanding g l) → is_link_id other l ≡ false
      → seen.carriers m ≡ Some other → (view_heard g.setup seen l reply (view.Answered asked)).replies m ≡ seen.replies m
  replies_by (Statement n due) other m is apart carrier =
      put_apart is_message seen.replies (message_of n due) (Some reply) m (by (is_message m (message_of n due)) refl) where
        by : (same : Bool) → is_message m (message_of n due) ≡ same → same ≡ false
        by false e = refl
        by true e = absurd (other_link (seen.carriers m) other apart (ap seen.carriers (message_is m (message_of n due) e) ∙ is.carrier) carrier)
  replies_by (Prep n key text) other m is apart carrier = refl
  replies_by (Sync n command) other m is apart carrier = refl
  replies_by (Own command) other m is apart carrier = refl
  replies_by (End n) other m is apart carrier = refl
  replies_by (Capture n) other m is apart carrier = refl

  pub near_heard : IsNear g l story g.tale.wires
  near_heard = record {
    wire = λ other apart. refl;
    link = λ other apart.
        ap (λ (v : View). v.links other) heard_at
        ∙ put_apart is_link_id seen.links l (view.heard g.setup.reads question reply (seen.links l)) other apart;
    dues = λ n. ap (λ (v : View). v.dues n) heard_at;
    session = λ other row n apart is carried.
        let held : new.held n ≡ seen.held n =
        ap (λ (v : View). v.held n) heard_at ∙ held_by_other question n (λ m names. other_name other row n m apart is carried names) in
        same_parts seen new n row.left (ap (λ (v : View). v.lives n.client n.hostgroup) heard_at) (ap (λ (h : Held). h.pin) held)
        (ap (λ (h : Held). h.id) held) (ap (λ (v : View). v.lasting n) heard_at);
    carriers = λ m. ap (λ (v : View). v.carriers m) heard_at;
    replies = λ other m apart carrier. ap (λ (v : View). v.replies m) heard_at ∙ replies_by question other m standing apart carrier;
  }
