-- What a client takes up, and how it stands as it does so, is the same whatever others take up at that entry, and whoever else left.
use Rattle.std.specs.Prelude.{◌≡◌, ℕ, zero, suc, Bool, true, false, not, ◌&&◌, ◌||◌, cond, filter, fold, if◌then◌else◌, length, nat_eq, slice_get, slice_index_or}
use Rattle.std.specs.Prelude.{List, [], ◌∷◌, ◌++◌, Option, Some, None}
use Rattle.std.proofs.Common.{refl, sym, ap, ◌∙◌, subst, append_assoc, append-nil}
use Rattle.std.proofs.lemmas.Bool.{true≢false}
use Rattle.mx_wire.specs.Log.{Log}
use Rattle.mx_wire.specs.declared.entry.Entry.{Entry}
use Rattle.packet_frame.specs.Packets.{Framed}
use Rattle.private_model.proofs.Maps.{same_number}
use Rattle.private_model.specs.Commands.{Command}
use Rattle.private_model.specs.Names.{ClientNo, Hostgroup, MessageName}
use Rattle.private_model.specs.Story.{BecameDue, Broke, Left, is_client}
use Rattle.private_model.specs.View.{Setup, View}
use Rattle.log_story.specs.Clients.{captures_first, client_goes_on, copied, due_by, is_up, next_taken, taken_by}
use Rattle.log_story.specs.Executes.{Request, requested}
use Rattle.log_story.specs.Headline.{tale_of}
use Rattle.log_story.specs.Owed.{messages, name_of}
use Rattle.log_story.specs.Plan.{Plan, Route, com_reset, own_at}
use Rattle.log_story.specs.Servers.{links_are_freed}
use Rattle.log_story.specs.Tale.{Client, Tale, first_tale, tell, view_of, with_client}
use Rattle.log_story.specs.Telling.{tale_step}
use Rattle.step_laws.proofs.Others.{IsAlike, as_it_was}
use Rattle.step_laws.proofs.Taking.{goes_spares}
use Rattle.step_laws.specs.Like.{IsLike}
use Rattle.step_laws.specs.Seats.{IsSeated}
use Rattle.step_laws.specs.Steps.{told_then}
use Rattle.step_laws.specs.Taken.{IsAsItWas, SparesOthers, is_called, next_of}
use Rattle.core_laws.specs.clients.Found.{IsAmong}
use Rattle.core_laws.specs.entry.Cores.{with_entry}
use Rattle.router_promises.specs.Takings.{Taking, message_in, taking_then, takings_at, takings_by, takings_from, takings_of}
use Rattle.core_promises.specs.Judges.{WasTaken, takings_along}

-- two tales have the same of a client
pub record IsSeenAlike (setup : Setup) (c : ClientNo) (old new : Tale) : Type 0 where
  pub moment : new.moment ≡ old.moment
  pub replies : (view_of setup new).replies ≡ (view_of setup old).replies
  pub held : (view_of setup new).held ≡ (view_of setup old).held
  pub life : (h : Hostgroup) → (view_of setup new).lives c h ≡ (view_of setup old).lives c h
  pub place : (view_of setup new).places c ≡ (view_of setup old).places c

-- each of these takings is among the others, of the same client, in a tale that has the same of it
pub record IsCovered (setup : Setup) (c : ClientNo) (others : List Taking) (name : MessageName) (taking : Taking) : Type 0 where
  pub other : Taking
  pub among : IsAmong others name other
  pub client : other.client ≡ taking.client
  pub seen : IsSeenAlike setup c taking.tale other.tale

abbrev pub Covers : Setup → ClientNo → (takings others : List Taking) → Type 0
Covers setup c takings others = (name : MessageName) (taking : Taking) → IsAmong takings name taking → IsCovered setup c others name taking

module _ (setup : Setup) (c : ClientNo) where
  abbrev Seen : Tale → Tale → Type 0
  Seen old new = IsSeenAlike setup c old new

  pub seen_itself : (tale : Tale) → Seen tale tale
  seen_itself tale = record { moment = refl; replies = refl; held = refl; life = λ h. refl; place = refl }

  pub seen_on : (old mid new : Tale) → Seen old mid → Seen mid new → Seen old new
  seen_on old mid new one two = record {
    moment = two.moment ∙ one.moment;
    replies = two.replies ∙ one.replies;
    held = two.held ∙ one.held;
    life = λ h. two.life h ∙ one.life h;
    place = two.place ∙ one.place;
  }

  pub seen_back : (old new : Tale) → Seen old new → Seen new old
  seen_back old new seen = record {
    moment = sym seen.moment;
    replies = sym seen.replies;
    held = sym seen.held;
    life = λ h. sym (seen.life h);
    place = sym seen.place;
  }

  pub seen_spared : (whose : ClientNo → Bool) (old new : Tale) → SparesOthers setup whose old new → whose c ≡ false → Seen old new
  seen_spared whose old new spares other = record {
    moment = spares.moment;
    replies = spares.replies;
    held = spares.held;
    life = λ h. spares.life c h other;
    place = spares.place c other;
  }

  pub seen_like : (old new : Tale) → IsLike setup old new → Seen old new
  seen_like old new like = record {
    moment = like.moment;
    replies = λ i. (like.view i).replies;
    held = λ i. (like.view i).held;
    life = λ h. λ i. (like.view i).lives c h;
    place = λ i. (like.view i).places c;
  }

  -- As a message of its is taken up.

  seen_left : (old new : Tale) → Seen old new → Seen (tell (Left c) old) (tell (Left c) new)
  seen_left old new seen = record {
    moment = seen.moment;
    replies = seen.replies;
    held = seen.held;
    life = λ h. ap (λ (n : ℕ). if is_client c c then suc n else n) (seen.life h);
    place = λ i. if is_client c c then record (seen.place i) { settings = (setup.places c).settings } else seen.place i;
  }

  seen_broke : (old new : Tale) → Seen old new → Seen (tell Broke old) (tell Broke new)
  seen_broke old new seen = record { moment = seen.moment; replies = seen.replies; held = seen.held; life = seen.life; place = seen.place }

  seen_due : (d : ClientNo) (h : Hostgroup) (ordinal key : ℕ) (command : Command) (multiplex : Option Bool) (old new : Tale) → Seen old new
      → Seen (tell (BecameDue d h ordinal key command multiplex) old) (tell (BecameDue d h ordinal key command multiplex) new)
  seen_due d h ordinal key command multiplex old new seen =
      record { moment = seen.moment; replies = seen.replies; held = seen.held; life = seen.life; place = seen.place }

  seen_with : (client : Client) (old new : Tale) → Seen old new → Seen (with_client client old) (with_client client new)
  seen_with client old new seen =
      record { moment = seen.moment; replies = seen.replies; held = seen.held; life = seen.life; place = seen.place }

  seen_if : (b : Bool) (x y v w : Tale) → Seen x v → Seen y w → Seen (if b then x else y) (if b then v else w)
  seen_if true x y v w one other = one
  seen_if false x y v w one other = other

  -- Takings in pairs.

  pub record IsPaired (one other : Taking) : Type 0 where
    pub client : other.client ≡ one.client
    pub seen : Seen one.tale other.tale

  abbrev pub ArePaired : List Taking → List Taking → Type 0
  ArePaired [] [] = Unit {0}
  ArePaired [] (y ∷ ys) = ⊥
  ArePaired (x ∷ xs) [] = ⊥
  ArePaired (x ∷ xs) (y ∷ ys) = IsPaired x y × ArePaired xs ys

  some_none : {A : Type 0} {B : Type 0} (x : A) → ◌≡◌ {A = Option A} None (Some x) → B
  some_none x is = absurd (cc)

  paired_at : (xs ys : List Taking) → ArePaired xs ys → (place : ℕ) (x : Taking) → slice_get xs place ≡ Some x
      → (y : Taking) × ((slice_get ys place ≡ Some y) × IsPaired x y)
  paired_at [] ys are place x is = some_none x is
  paired_at (a ∷ xs) [] are place x is = absurd are
  paired_at (a ∷ xs) (b ∷ ys) are zero x is =
      let same : a ≡ x = cc in
      (b, (refl, subst (λ (t : Taking). IsPaired t b) same are.0))
  paired_at (a ∷ xs) (b ∷ ys) are (suc place) x is = paired_at xs ys are.1 place x is

  pub paired_cover : (xs ys : List Taking) → ArePaired xs ys → Covers setup c xs ys
  paired_cover xs ys are name taking among =
      let at = paired_at xs ys are among.place taking among.there in
      record {
        other = at.0;
        among = record {
          place = among.place;
          there = at.1.0;
          named = ap (λ (x : Client). name_of x (suc x.taken)) at.1.1.client ∙ among.named;
        };
        client = at.1.1.client;
        seen = at.1.1.seen;
      }

  abbrev SeenIn : Option Tale → Option Tale → Type 0
  SeenIn None None = Unit {0}
  SeenIn None (Some new) = ⊥
  SeenIn (Some old) None = ⊥
  SeenIn (Some old) (Some new) = Seen old new

  seen_up : (b d : Bool) → d ≡ b → (x v : Tale) → Seen x v → SeenIn (if b then Some x else None) (if d then Some v else None)
  seen_up true true same x v seen = seen
  seen_up false false same x v seen = tt
  seen_up true false same x v seen = absurd (true≢false (sym same))
  seen_up false true same x v seen = absurd (true≢false same)

  paired_then : (client : Client) (old new : Tale) → Seen old new → (later : Tale → List Taking) → ((x y : Tale) → Seen x y → ArePaired (later x) (later y))
      → (found : Option Framed) (a b : Option Tale) → SeenIn a b → ArePaired (taking_then client old found a later) (taking_then client new found b later)
  paired_then client old new seen later each None a b next = tt
  paired_then client old new seen later each (Some message) None None next = tt
  paired_then client old new seen later each (Some message) None (Some y) next = absurd next
  paired_then client old new seen later each (Some message) (Some x) None next = absurd next
  paired_then client old new seen later each (Some message) (Some x) (Some y) next = (record { client = refl; seen = seen }, each x y next)

  paired_if : (b d : Bool) → d ≡ b → (xs ys : List Taking) → ArePaired xs ys → ArePaired (if b then xs else []) (if d then ys else [])
  paired_if true true same xs ys are = are
  paired_if false false same xs ys are = tt
  paired_if true false same xs ys are = absurd (true≢false (sym same))
  paired_if false true same xs ys are = absurd (true≢false same)

module _ (setup : Setup) (plan : Plan) (single : (m : MessageName) (route : Route) → plan.routes m ≡ Some route → route.mirror ≡ None) where
  as_seen : (client : Client) (old new : Tale) → IsSeenAlike setup client.number old new → IsAsItWas setup plan old new client
  as_seen client old new seen = as_it_was setup plan client old new (record {
    own = λ ordinal below. ap (λ m. own_at plan m (name_of client ordinal)) seen.moment;
    replies = λ ordinal. λ i. seen.replies i (name_of client ordinal);
    captures = λ h. λ i. captures_first (seen.held i (record { client = client.number; hostgroup = h; life = seen.life h i }));
    place = seen.place;
  })

  due_seen : (client : Client) (ordinal : ℕ) (route : Route) → route.mirror ≡ None → (request : Option Request) (old new : Tale)
      → IsSeenAlike setup client.number old new → IsSeenAlike setup client.number (due_by client ordinal route request old) (due_by client ordinal route request new)
  due_seen client ordinal route none None old new seen = seen_broke setup client.number old new seen
  due_seen client ordinal route none (Some request) old new seen =
      let due : Tale → Tale = tell (BecameDue client.number route.hostgroup ordinal request.key request.command route.multiplex) in
      subst (λ (mirror : Option Hostgroup).
      IsSeenAlike setup client.number (copied (name_of client ordinal) request.command mirror (due old)) (copied (name_of client ordinal) request.command mirror (due new)))
      (sym none)
      (seen_due setup client.number client.number route.hostgroup ordinal request.key request.command route.multiplex old new seen)

  taken_seen : (client : Client) (ordinal : ℕ) (message : Framed) (route : Option Route) → ((r : Route) → route ≡ Some r → r.mirror ≡ None)
      → (old new : Tale) → IsSeenAlike setup client.number old new
      → IsSeenAlike setup client.number (taken_by setup plan client ordinal message route old) (taken_by setup plan client ordinal message route new)
  taken_seen client ordinal message None none old new seen =
      seen_if setup client.number (nat_eq (slice_index_or message.payload 0 0) com_reset) (tell (Left client.number) old) old (tell (Left client.number) new) new
      (seen_left setup client.number old new seen) seen
  taken_seen client ordinal message (Some route) none old new seen =
      let asked : Tale → Option Request = λ (tale : Tale). requested setup (view_of setup tale) plan client ordinal route message.payload in
      subst (λ (request : Option Request). IsSeenAlike setup client.number (due_by client ordinal route (asked old) old) (due_by client ordinal route request new))
      (sym ((as_seen client old new seen).asks ordinal route message.payload))
      (due_seen client ordinal route (none route refl) (asked old) old new seen)

  next_seen : (client : Client) (message : Option Framed) (old new : Tale) → IsSeenAlike setup client.number old new
      → SeenIn setup client.number (next_taken setup plan client message old) (next_taken setup plan client message new)
  next_seen client None old new seen = tt
  next_seen client (Some message) old new seen =
      let route : Option Route = plan.routes (name_of client (suc client.taken)) in
      seen_up setup client.number (is_up setup plan client old) (is_up setup plan client new) (as_seen client old new seen).up
      (taken_by setup plan client (suc client.taken) message route old) (taken_by setup plan client (suc client.taken) message route new)
      (taken_seen client (suc client.taken) message route (λ r is. single (name_of client (suc client.taken)) r is) old new seen)

  pub takings_paired : (most : ℕ) (client : Client) (old new : Tale) → IsSeenAlike setup client.number old new
      → ArePaired setup client.number (takings_of most setup plan client old) (takings_of most setup plan client new)
  takings_paired zero client old new seen = tt
  takings_paired (suc most) client old new seen =
      let next : Client = next_of client in
      let message : Option Framed = slice_get (messages plan client) client.taken in
      paired_then setup client.number client old new seen (λ other. takings_of most setup plan next (with_client next other))
      (λ x y one. takings_paired most next (with_client next x) (with_client next y) (seen_with setup client.number next x y one))
      message (next_taken setup plan client message old) (next_taken setup plan client message new)
      (next_seen client message old new seen)

  -- at an entry

  by_paired : (view : View) (e : Entry) (client : Client) (old new : Tale) → IsSeenAlike setup client.number old new
      → ArePaired setup client.number (takings_by setup plan view e old client) (takings_by setup plan view e new client)
  by_paired view e client old new seen =
      paired_if setup client.number (is_called plan old.moment view e client) (is_called plan new.moment view e client)
      (ap (λ (m : ℕ). is_called plan m view e client) seen.moment)
      (takings_of (length (messages plan client)) setup plan client old) (takings_of (length (messages plan client)) setup plan client new)
      (takings_paired (length (messages plan client)) client old new seen)

-- Among more.

front_get : (xs ys : List Taking) (place : ℕ) (x : Taking) → slice_get xs place ≡ Some x → slice_get (xs ++ ys) place ≡ Some x
front_get [] ys place x is = absurd (cc)
front_get (a ∷ xs) ys zero x is = is
front_get (a ∷ xs) ys (suc place) x is = front_get xs ys place x is

pub among_front : (xs ys : List Taking) (name : MessageName) (taking : Taking) → IsAmong xs name taking → IsAmong (xs ++ ys) name taking
among_front xs ys name taking among =
    record { place = among.place; there = front_get xs ys among.place taking among.there; named = among.named }

pub among_behind : (xs ys : List Taking) (name : MessageName) (taking : Taking) → IsAmong ys name taking → IsAmong (xs ++ ys) name taking
among_behind [] ys name taking among = among
among_behind (x ∷ xs) ys name taking among =
    let later = among_behind xs ys name taking among in
    record { place = suc later.place; there = later.there; named = later.named }

-- Of one client among all.

module _ (setup : Setup) (plan : Plan) (single : (m : MessageName) (route : Route) → plan.routes m ≡ Some route → route.mirror ≡ None) (view : View) (e : Entry) (said : Client) (first : Tale) where
  abbrev others : ClientNo → Bool
  others n = not (is_client n said.number)

  on_by : (now : Tale) → IsSeenAlike setup said.number first now → (x : Client) → is_client x.number said.number ≡ false
      → IsSeenAlike setup said.number first (client_goes_on setup plan view e now x)
  on_by now seen x other =
      let next : Tale = client_goes_on setup plan view e now x in
      seen_on setup said.number first now next seen
      (seen_spared setup said.number others now next (goes_spares setup others plan (λ m route mine is. single m route is) view e x now (ap not other))
      (ap not (same_number said.number.0)))

  one_of : (x : Client) (xs : List Client) → x ∷ xs ≡ said ∷ [] → x ≡ said
  one_of x xs is = cc

  abbrev its : List Client → List Client
  its xs = filter (λ (x : Client). is_client x.number said.number) xs

  abbrev here : Client → Tale → List Taking
  here x now = takings_by setup plan view e now x

  abbrev behind : List Client → Client → Tale → List Taking
  behind xs x now = takings_from setup plan view e xs (client_goes_on setup plan view e now x)

  pub from_cover : (xs : List Client) (now : Tale) → its xs ≡ said ∷ [] → IsSeenAlike setup said.number first now
      → Covers setup said.number (takings_by setup plan view e first said) (takings_from setup plan view e xs now)
  from_cover [] now seated seen name taking among = absurd (cc)
  from_cover (x ∷ xs) now seated seen name taking among =
      by (is_client x.number said.number) refl seated (λ rest other. from_cover xs (client_goes_on setup plan view e now x) rest other name taking among)
    where
      by : (b : Bool) → is_client x.number said.number ≡ b → cond b (x ∷ its xs) (its xs) ≡ said ∷ []
          → (its xs ≡ said ∷ [] → IsSeenAlike setup said.number first (client_goes_on setup plan view e now x)
          → IsCovered setup said.number (behind xs x now) name taking) → IsCovered setup said.number (here x now ++ behind xs x now) name taking
      by true is head later =
          let same : x ≡ said = one_of x (its xs) head in
          let at = paired_cover setup said.number (takings_by setup plan view e first said) (takings_by setup plan view e now said)
          (by_paired setup plan single view e said first now seen) name taking among in
          let found : IsAmong (here x now) name at.other = subst (λ (y : Client). IsAmong (here y now) name at.other) (sym same) at.among in
          record { other = at.other; among = among_front (here x now) (behind xs x now) name at.other found; client = at.client; seen = at.seen }
      by false is rest later =
          let at = later rest (on_by now seen x is) in
          record { other = at.other; among = among_behind (here x now) (behind xs x now) name at.other at.among; client = at.client; seen = at.seen }

-- what it takes up at an entry, once that is told, is among what is taken up there
pub entry_covers : (setup : Setup) (plan : Plan) → ((m : MessageName) (route : Route) → plan.routes m ≡ Some route → route.mirror ≡ None) → (tale : Tale) (e : Entry) (said : Client) (freed : Tale)
    → links_are_freed setup plan (told_then setup plan tale e) ≡ freed → IsSeated freed said
    → is_called plan freed.moment (view_of setup tale) e said ≡ true
    → Covers setup said.number (takings_of (length (messages plan said)) setup plan said freed) (takings_at setup plan tale e)
entry_covers setup plan single tale e said freed first seated called name taking among =
    let view : View = view_of setup tale in
    let by_it : IsAmong (takings_by setup plan view e freed said) name taking =
    subst (λ (b : Bool). IsAmong (if b then takings_of (length (messages plan said)) setup plan said freed else []) name taking) (sym called) among in
    subst (λ (now : Tale). IsCovered setup said.number (takings_from setup plan view e now.clients now) name taking) (sym first)
    (from_cover setup plan single view e said freed freed.clients freed seated (seen_itself setup said.number freed) name taking by_it)

pub cover_on : (setup : Setup) (c : ClientNo) (xs ys zs : List Taking) → Covers setup c xs ys → Covers setup c ys zs → Covers setup c xs zs
cover_on setup c xs ys zs one two name taking among =
    let mid = one name taking among in
    let last = two name mid.other mid.among in
    record {
      other = last.other;
      among = last.among;
      client = last.client ∙ mid.client;
      seen = seen_on setup c taking.tale mid.other.tale last.other.tale mid.seen last.seen;
    }

-- Along a log.

module _ (setup : Setup) (plan : Plan) where
  along_more : (tale : Tale) (log : Log) (e : Entry)
      → takings_along setup plan tale (log ++ e ∷ []) ≡ takings_along setup plan tale log ++ takings_at setup plan (fold (tale_step setup plan) tale log) e
  along_more tale [] e = append-nil (takings_at setup plan tale e)
  along_more tale (x ∷ log) e =
      ap (λ (later : List Taking). takings_at setup plan tale x ++ later) (along_more (tale_step setup plan tale x) log e)
      ∙ sym (append_assoc (takings_at setup plan tale x) (takings_along setup plan (tale_step setup plan tale x) log)
      (takings_at setup plan (fold (tale_step setup plan) (tale_step setup plan tale x) log) e))

  pub taken_before : (log : Log) (e : Entry) (name : MessageName) (taking : Taking) → WasTaken setup plan log name taking
      → WasTaken setup plan (with_entry log e) name taking
  taken_before log e name taking was = record {
    place = was.place;
    there = ap (λ (all : List Taking). slice_get all was.place) (along_more first_tale log e)
        ∙ front_get (takings_along setup plan first_tale log) (takings_at setup plan (tale_of setup plan log) e) was.place taking was.there;
    named = was.named;
  }

  pub taken_now : (log : Log) (e : Entry) (name : MessageName) (taking : Taking) → IsAmong (takings_at setup plan (tale_of setup plan log) e) name taking
      → WasTaken setup plan (with_entry log e) name taking
  taken_now log e name taking among =
      let behind = among_behind (takings_along setup plan first_tale log) (takings_at setup plan (tale_of setup plan log) e) name taking among in
      record {
        place = behind.place;
        there = ap (λ (all : List Taking). slice_get all behind.place) (along_more first_tale log e) ∙ behind.there;
        named = behind.named;
      }
