-- What happens elsewhere leaves a link, and what is kept of its session, as they are.
use Rattle.std.specs.Prelude.{◌≡◌, ◌≤◌, ℕ, suc, Bool, true, false, ◌||◌, if◌then◌else◌, Option, Some, None}
use Rattle.std.specs.Option.{option_map_or}
use Rattle.std.proofs.Common.{refl, sym, ap, ◌∙◌, arith}
use Rattle.log_story.proofs.Happens.{put_link}
use Rattle.server_rule.specs.Classes.{Reads}
use Rattle.private_model.proofs.Maps.{name_of}
use Rattle.private_model.specs.Commands.{Reply, class_of}
use Rattle.private_model.specs.Names.{ClientNo, Hostgroup, LinkId, SessionName}
use Rattle.private_model.specs.Story.{BecameDue, Broke, Capture, Dropped, End, Freed, Gone, Happening, Heard, Left, LoggedIn, Mirrored, Own, Prep, Question, Ran, Sent, Statement, Sync, Unprepared, for_statement, is_client, is_link_id, is_name, put}
use Rattle.private_model.specs.View.{Answered, Asked, Held, Quiet, Setup, Stage, View, held_by, held_for, lives_after, lives_left, session_in, view_heard, view_step}
use Rattle.served_link.specs.declared.row.LeftSession.{LeftSession}
use Rattle.row_laws.specs.Apart.{IsElsewhere, IsNot, IsSpared, answered_for, asked_for}
use Rattle.row_laws.specs.Whose.{IsHolder, IsPast, IsUntouched, OfStatement}
use Rattle.row_laws.proofs.Framing.{same_parts}

heard_links : (setup : Setup) (seen : View) (link : LinkId) (reply : Reply) (stage : Stage) (l : LinkId) → is_link_id l link ≡ false
    → (view_heard setup seen link reply stage).links l ≡ seen.links l
heard_links setup seen link reply (Answered question) l other = put_link seen.links link _ l other
heard_links setup seen link reply Quiet l other = refl
heard_links setup seen link reply (Asked question) l other = refl

pub link_stays : (setup : Setup) (seen : View) (e : Happening) (l : LinkId) → IsElsewhere l e → (view_step setup seen e).links l ≡ seen.links l
link_stays setup seen (LoggedIn link server account) l other = put_link seen.links link _ l (other link refl)
link_stays setup seen (BecameDue client hostgroup ordinal key command multiplex) l other = refl
link_stays setup seen (Sent link question) l other = put_link seen.links link _ l (other link refl)
link_stays setup seen (Ran link) l other = put_link seen.links link _ l (other link refl)
link_stays setup seen (Heard link reply) l other = heard_links setup seen link reply (seen.links link).stage l (other link refl)
link_stays setup seen (Freed link) l other = put_link seen.links link _ l (other link refl)
link_stays setup seen (Unprepared link number) l other = put_link seen.links link _ l (other link refl)
link_stays setup seen (Dropped link) l other = refl
link_stays setup seen (Gone link) l other = put_link seen.links link _ l (other link refl)
link_stays setup seen (Left client) l other = refl
link_stays setup seen Broke l other = refl
link_stays setup seen (Mirrored client job) l other = refl

-- Sessions.

pub same_past : (seen : View) (n : SessionName) → IsPast seen seen n
same_past seen n = record { later = omega arith; pin = refl; id = refl; lasting = refl }

-- who carries a session is another matter

module _ (held : SessionName → Held) (m n : SessionName) (home : Option LinkId) where
  home_pin : (put is_name held m (record (held m) { home = home }) n).pin ≡ (held n).pin
  home_pin = by (is_name n m) refl where
    by : (same : Bool) → is_name n m ≡ same → (if same then record (held m) { home = home } else held n).pin ≡ (held n).pin
    by true same = ap (λ (k : SessionName). (held k).pin) (sym (name_of n m same))
    by false other = refl

  home_id : (put is_name held m (record (held m) { home = home }) n).id ≡ (held n).id
  home_id = by (is_name n m) refl where
    by : (same : Bool) → is_name n m ≡ same → (if same then record (held m) { home = home } else held n).id ≡ (held n).id
    by true same = ap (λ (k : SessionName). (held k).id) (sym (name_of n m same))
    by false other = refl

pub sent_pin : (question : Question) (link : LinkId) (held : SessionName → Held) (n : SessionName) → (held_for question link held n).pin ≡ (held n).pin
sent_pin (Statement m due) link held n = home_pin held m n (Some link)
sent_pin (Prep m key text) link held n = home_pin held m n (Some link)
sent_pin (Sync m command) link held n = refl
sent_pin (Own command) link held n = refl
sent_pin (End m) link held n = refl
sent_pin (Capture m) link held n = refl

pub sent_id : (question : Question) (link : LinkId) (held : SessionName → Held) (n : SessionName) → (held_for question link held n).id ≡ (held n).id
sent_id (Statement m due) link held n = home_id held m n (Some link)
sent_id (Prep m key text) link held n = home_id held m n (Some link)
sent_id (Sync m command) link held n = refl
sent_id (Own command) link held n = refl
sent_id (End m) link held n = refl
sent_id (Capture m) link held n = refl

freed_pin : (carried : Option SessionName) (held : SessionName → Held) (n : SessionName)
    → (option_map_or (λ m. put is_name held m (record (held m) { home = None })) carried held n).pin ≡ (held n).pin
freed_pin None held n = refl
freed_pin (Some m) held n = home_pin held m n None

freed_id : (carried : Option SessionName) (held : SessionName → Held) (n : SessionName)
    → (option_map_or (λ m. put is_name held m (record (held m) { home = None })) carried held n).id ≡ (held n).id
freed_id None held n = refl
freed_id (Some m) held n = home_id held m n None

-- an answer is that of one session

other_put : (held : SessionName → Held) (m n : SessionName) (h : Held) → is_name n m ≡ false → put is_name held m h n ≡ held n
other_put held m n h other = ap (λ (same : Bool). if same then h else held n) other

pub other_held : (reads : Reads) (question : Question) (reply : Reply) (held : SessionName → Held) (n : SessionName) → IsNot n (asked_for question)
    → held_by reads question reply held n ≡ held n
other_held reads (Statement m due) reply held n other = other_put held m n _ (other m refl)
other_held reads (Prep m key text) reply held n other = other_put held m n _ (other m refl)
other_held reads (Sync m command) reply held n other = other_put held m n _ (other m refl)
other_held reads (Own command) reply held n other = refl
other_held reads (End m) reply held n other = other_put held m n _ (other m refl)
other_held reads (Capture m) reply held n other = other_put held m n _ (other m refl)

-- lives

lives_more : (m : SessionName) (lives : ClientNo → Hostgroup → ℕ) (c : ClientNo) (h : Hostgroup) → lives c h ≤ lives_after m lives c h
lives_more m lives c h = by (is_name (record { client = c; hostgroup = h; life = lives c h }) m) where
  by : (is : Bool) → lives c h ≤ (if is then suc (lives c h) else lives c h)
  by true = omega arith
  by false = omega arith

gone_more : (carried : Option SessionName) (lives : ClientNo → Hostgroup → ℕ) (c : ClientNo) (h : Hostgroup)
    → lives c h ≤ option_map_or (λ m. lives_after m lives) carried lives c h
gone_more None lives c h = omega arith
gone_more (Some m) lives c h = lives_more m lives c h

left_more : (client : ClientNo) (lives : ClientNo → Hostgroup → ℕ) (c : ClientNo) (h : Hostgroup) → lives c h ≤ lives_left client lives c h
left_more client lives c h = by (is_client c client) where
  by : (is : Bool) → lives c h ≤ (if is then suc (lives c h) else lives c h)
  by true = omega arith
  by false = omega arith

-- a present session stays where the one that is left is another
gone_stays : (carried : Option SessionName) (lives : ClientNo → Hostgroup → ℕ) (n : SessionName) → n.life ≡ lives n.client n.hostgroup → IsNot n carried
    → option_map_or (λ m. lives_after m lives) carried lives n.client n.hostgroup ≡ lives n.client n.hostgroup
gone_stays None lives n present other = refl
gone_stays (Some m) lives n present other =
    ap (λ (is : Bool). if is then suc (lives n.client n.hostgroup) else lives n.client n.hostgroup)
    (ap (λ (life : ℕ). is_name (record { client = n.client; hostgroup = n.hostgroup; life = life }) m) (sym present) ∙ other m refl)

module _ (setup : Setup) (seen : View) (n : SessionName) where
  abbrev After : Happening → View
  After e = view_step setup seen e

  heard_past : (link : LinkId) (reply : Reply) (stage : Stage) → IsNot n (answered_for stage) → IsPast seen (view_heard setup seen link reply stage) n
  heard_past link reply Quiet other = same_past seen n
  heard_past link reply (Asked question) other = same_past seen n
  heard_past link reply (Answered question) other =
      let held : held_by setup.reads question reply seen.held n ≡ seen.held n = other_held setup.reads question reply seen.held n other in
      record { later = omega arith; pin = ap (λ (h : Held). h.pin) held; id = ap (λ (h : Held). h.id) held; lasting = refl }

  heard_lives : (link : LinkId) (reply : Reply) (stage : Stage) → (view_heard setup seen link reply stage).lives n.client n.hostgroup ≡ seen.lives n.client n.hostgroup
  heard_lives link reply Quiet = refl
  heard_lives link reply (Asked question) = refl
  heard_lives link reply (Answered question) = refl

  pub sent_lasting : (question : Question) → OfStatement question (λ m due. is_name n m ≡ false)
      → (of : SessionName → Bool) → (for_statement question (λ m due. put is_name of m (of m || (class_of setup.reads due.command).outlasts_reset)) of) n ≡ of n
  sent_lasting (Statement m due) other of =
      ap (λ (same : Bool). if same then of m || (class_of setup.reads due.command).outlasts_reset else of n) other
  sent_lasting (Prep m key text) other of = refl
  sent_lasting (Sync m command) other of = refl
  sent_lasting (Own command) other of = refl
  sent_lasting (End m) other of = refl
  sent_lasting (Capture m) other of = refl

  -- of one that was left
  past : (e : Happening) (left : LeftSession) → IsSpared seen e n (Some left) → IsPast seen (After e) n
  past (LoggedIn link server account) left spared = same_parts seen (After (LoggedIn link server account)) n (Some left) refl refl refl refl
  past (BecameDue client hostgroup ordinal key command multiplex) left spared = same_parts seen (After (BecameDue client hostgroup ordinal key command multiplex)) n (Some left) refl refl refl refl
  past (Sent link question) left spared = record {
    later = omega arith;
    pin = sent_pin question link seen.held n;
    id = sent_id question link seen.held n;
    lasting = sent_lasting question spared seen.lasting;
  }
  past (Ran link) left spared = same_parts seen (After (Ran link)) n (Some left) refl refl refl refl
  past (Heard link reply) left spared = heard_past link reply (seen.links link).stage spared
  past (Freed link) left spared = record {
    later = omega arith;
    pin = freed_pin (session_in (seen.links link).carries) seen.held n;
    id = freed_id (session_in (seen.links link).carries) seen.held n;
    lasting = refl;
  }
  past (Unprepared link number) left spared = same_parts seen (After (Unprepared link number)) n (Some left) refl refl refl refl
  past (Dropped link) left spared = same_parts seen (After (Dropped link)) n (Some left) refl refl refl refl
  past (Gone link) left spared = record {
    later = gone_more (session_in (seen.links link).carries) seen.lives n.client n.hostgroup;
    pin = refl;
    id = refl;
    lasting = refl;
  }
  past (Left client) left spared = record { later = left_more client seen.lives n.client n.hostgroup; pin = refl; id = refl; lasting = refl }
  past Broke left spared = same_parts seen (After Broke) n (Some left) refl refl refl refl
  past (Mirrored client job) left spared = same_parts seen (After (Mirrored client job)) n (Some left) refl refl refl refl

  -- of a present one
  stays : (e : Happening) → n.life ≡ seen.lives n.client n.hostgroup → IsSpared seen e n None → (After e).lives n.client n.hostgroup ≡ seen.lives n.client n.hostgroup
  stays (Left client) present spared =
      ap (λ (is : Bool). if is then suc (seen.lives n.client n.hostgroup) else seen.lives n.client n.hostgroup) spared
  stays (Gone link) present spared = gone_stays (session_in (seen.links link).carries) seen.lives n present spared
  stays (Heard link reply) present spared = heard_lives link reply (seen.links link).stage
  stays (LoggedIn link server account) present spared = refl
  stays (BecameDue client hostgroup ordinal key command multiplex) present spared = refl
  stays (Sent link question) present spared = refl
  stays (Ran link) present spared = refl
  stays (Freed link) present spared = refl
  stays (Unprepared link number) present spared = refl
  stays (Dropped link) present spared = refl
  stays Broke present spared = refl
  stays (Mirrored client job) present spared = refl

  pub untouched : (e : Happening) (left : Option LeftSession) → IsHolder seen n left → IsSpared seen e n left → IsUntouched seen (After e) n left
  untouched e None holds spared = stays e holds spared
  untouched e (Some left) holds spared = past e left spared
