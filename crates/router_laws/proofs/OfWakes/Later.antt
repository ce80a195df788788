-- What clients take up behind others that left is what they take up before these leave.
use Rattle.std.specs.Prelude.{◌≡◌, ℕ, zero, suc, Bool, true, false, not, All, if◌then◌else◌, map, nat_eq, slice_get, slice_index_or, List, [], ◌∷◌, ◌++◌, Option, Some, None}
use Rattle.std.specs.Option.{option_map_or}
use Rattle.std.proofs.Common.{refl, sym, ap, ◌∙◌, subst}
use Rattle.std.proofs.lemmas.Bool.{true≢false}
use Rattle.std.proofs.lemmas.List.Elements.{All-head, All-tail, All-weaker}
use Rattle.packet_frame.specs.Packets.{Framed}
use Rattle.session_state.specs.Pins.{is_pinned}
use Rattle.session_state.specs.declared.place.Place.{Place}
use Rattle.private_model.proofs.Maps.{client_of, same_number}
use Rattle.private_model.specs.Commands.{Command, Prepare, Run}
use Rattle.private_model.specs.Lawful.{IsLawful, MayCome}
use Rattle.private_model.specs.Names.{ClientNo, Hostgroup}
use Rattle.private_model.specs.Story.{BecameDue, Broke, Due, Happening, Key, Left, is_client, is_name, put}
use Rattle.private_model.specs.View.{Setup, View, due_of, present, view_step}
use Rattle.log_story.specs.Clients.{is_up, next_taken, taken_by, taken_up, due_by, copied}
use Rattle.log_story.specs.Executes.{Request, requested}
use Rattle.log_story.specs.Owed.{messages, name_of}
use Rattle.log_story.specs.Plan.{Plan, Route, com_reset}
use Rattle.log_story.specs.Tale.{Client, Tale, tell, view_of, with_client}
use Rattle.step_laws.proofs.Leaving.{leave_spares}
use Rattle.step_laws.proofs.Likewise.{like_itself, like_on, like_tell}
use Rattle.step_laws.proofs.Others.{as_it_was, idle_by, like_alike, spared_alike}
use Rattle.step_laws.specs.Like.{IsLike}
use Rattle.step_laws.specs.Seats.{is_its}
use Rattle.step_laws.specs.Steps.{leave}
use Rattle.core_stands.specs.Stands.{AreDuly, IsDuly, IsKeyedFor, IsTextAt}
use Rattle.step_laws.specs.Taken.{AreSingle, IsAsItWas, IsIdle, SparesOthers}

-- The one is the other behind which these leave, but for the order; and where its story is lawful, the other's is; and where what became due in it
-- became so duly, so did what became due in the other.
pub record LeftLater (setup : Setup) (plan : Plan) (ended : List ClientNo) (early late : Tale) : Type 0 where
  pub like : IsLike setup early (leave ended late)
  pub lawful : IsLawful setup early.story → IsLawful setup late.story
  pub duly : AreDuly setup plan early.story → AreDuly setup plan late.story

pub flipped : (a b : ClientNo) → is_client a b ≡ false → is_client b a ≡ false
flipped a b other = by (is_client b a) refl where
  by : (same : Bool) → is_client b a ≡ same → is_client b a ≡ false
  by false is = is
  by true is = absurd (true≢false (sym (same_number a.0) ∙ ap (λ (n : ClientNo). is_client a n) (sym (client_of b a is)) ∙ other))

-- What another's message makes of what is known, and that a client leaves.

module _ (setup : Setup) (c : ClientNo) where
  abbrev left_in : View → View
  left_in v = view_step setup v (Left c)

  -- a happening may come before it or behind it
  abbrev pub Commutes : Happening → Type 0
  Commutes e = (v : View) → view_step setup (view_step setup v (Left c)) e ≡ view_step setup (view_step setup v e) (Left c)

  module _ (d : ClientNo) (other : is_client d c ≡ false) where
    pub due_commutes : (h : Hostgroup) (ordinal key : ℕ) (command : Command) (multiplex : Option Bool) → Commutes (BecameDue d h ordinal key command multiplex)
    due_commutes h ordinal key command multiplex v =
        let life : (left_in v).lives d h ≡ v.lives d h = ap (λ (b : Bool). if b then suc (v.lives d h) else v.lives d h) other in
        let place : (left_in v).places d ≡ v.places d =
        ap (λ (b : Bool). if b then record (v.places c) { settings = (setup.places c).settings } else v.places d) other in
        λ i. record {
          lives = (left_in v).lives;
          places = (left_in v).places;
          dues = put is_name v.dues (record { client = d; hostgroup = h; life = life i })
              (Some (record {
                ordinal = ordinal;
                place = place i;
                anew = not (is_pinned (v.held (record { client = d; hostgroup = h; life = life i })).pin);
                command = command;
                key = key;
                multiplex = multiplex;
              }));
          links = v.links;
          held = v.held;
          carriers = v.carriers;
          lasting = v.lasting;
          replies = v.replies;
        }

    lives_by : (a b : Bool) (n : ℕ)
        → (if a then suc (if b then suc n else n) else (if b then suc n else n)) ≡ (if b then suc (if a then suc n else n) else (if a then suc n else n))
    lives_by true true n = refl
    lives_by true false n = refl
    lives_by false true n = refl
    lives_by false false n = refl

    either_by : {A : Type 0} (a b : Bool) (one two none : A) → (a ≡ true → b ≡ true → ⊥)
        → (if a then one else (if b then two else none)) ≡ (if b then two else (if a then one else none))
    either_by true true one two none apart = absurd (apart refl refl)
    either_by true false one two none apart = refl
    either_by false true one two none apart = refl
    either_by false false one two none apart = refl

    not_both : (x : ClientNo) → is_client x d ≡ true → is_client x c ≡ true → ⊥
    not_both x its mine =
        true≢false (sym mine ∙ ap (λ (n : ClientNo). is_client n c) (client_of x d its) ∙ other)

    abbrev settled : ClientNo → Place → Place
    settled n place = record place { settings = (setup.places n).settings }

    places_by : (v : View) (x : ClientNo) → (view_step setup (left_in v) (Left d)).places x ≡ (left_in (view_step setup v (Left d))).places x
    places_by v x =
        let mine : (left_in v).places d ≡ v.places d = ap (λ (b : Bool). if b then settled c (v.places c) else v.places d) other in
        let its : (view_step setup v (Left d)).places c ≡ v.places c =
        ap (λ (b : Bool). if b then settled d (v.places d) else v.places c) (flipped d c other) in
        ap (λ (p : Place). if is_client x d then settled d p else (if is_client x c then settled c (v.places c) else v.places x)) mine
        ∙ either_by (is_client x d) (is_client x c) (settled d (v.places d)) (settled c (v.places c)) (v.places x) (not_both x)
        ∙ sym (ap (λ (p : Place). if is_client x c then settled c p else (if is_client x d then settled d (v.places d) else v.places x)) its)

    pub left_commutes : Commutes (Left d)
    left_commutes v = λ i. record {
      lives = λ x h. lives_by (is_client x d) (is_client x c) (v.lives x h) i;
      places = λ x. places_by v x i;
      dues = v.dues;
      links = v.links;
      held = v.held;
      carriers = v.carriers;
      lasting = v.lasting;
      replies = v.replies;
    }

  pub broke_commutes : Commutes Broke
  broke_commutes v = refl

-- What became due became so duly, by whatever is known of others.

keyed_at : (setup : Setup) (route : Route) (a b : Due) (command : Command) → b.key ≡ a.key → b.place ≡ a.place → IsKeyedFor setup route a command
    → IsKeyedFor setup route b command
keyed_at setup route a b (Prepare text) key place is =
    (is.0 ∙ sym key, (ap setup.keys key ∙ is.1.0 ∙ ap (λ (p : Place). record { text = text; place = p }) (sym place), is.1.1))
keyed_at setup route a b (Run text schema settings args) key place is =
    (is.0, subst (λ (k : Key). IsTextAt k text schema settings) (ap setup.keys (sym key)) is.1)
keyed_at setup route a b _ key place is = is

duly_at : (setup : Setup) (plan : Plan) (v w : View) (d : ClientNo) (h : Hostgroup) (ordinal key : ℕ) (command : Command) (multiplex : Option Bool)
    → w.places d ≡ v.places d → IsDuly setup plan (present v d h) (due_of v (present v d h) ordinal key command multiplex)
    → IsDuly setup plan (present w d h) (due_of w (present w d h) ordinal key command multiplex)
duly_at setup plan v w d h ordinal key command multiplex place is = record {
  route = is.route;
  routed = is.routed;
  hostgroup = is.hostgroup;
  multiplex = is.multiplex;
  keyed = keyed_at setup is.route (due_of v (present v d h) ordinal key command multiplex) (due_of w (present w d h) ordinal key command multiplex) command
      refl place is.keyed;
  whole = is.whole;
}

-- So it is of several, and in a tale.

module _ (setup : Setup) (plan : Plan) where
  like_with : (client : Client) (old new : Tale) → IsLike setup old new → IsLike setup (with_client client old) (with_client client new)
  like_with client old new like = record {
    moment = like.moment;
    view = like.view;
    clients = ap (map (λ (other : Client). if is_client other.number client.number then client else other)) like.clients;
    links = like.links;
    wires = like.wires;
  }

  like_leave : (cs : List ClientNo) (old new : Tale) → IsLike setup old new → IsLike setup (leave cs old) (leave cs new)
  like_leave [] old new like = like
  like_leave (c ∷ cs) old new like = like_leave cs (tell (Left c) old) (tell (Left c) new) (like_tell setup (Left c) old new like)

  leave_with : (cs : List ClientNo) (client : Client) (tale : Tale) → with_client client (leave cs tale) ≡ leave cs (with_client client tale)
  leave_with [] client tale = refl
  leave_with (c ∷ cs) client tale = leave_with cs client (tell (Left c) tale)

  abbrev AllCommute : List ClientNo → Happening → Type 0
  AllCommute cs e = All (λ (c : ClientNo). Commutes setup c e) cs

  told_once : (c : ClientNo) (e : Happening) → Commutes setup c e → (tale : Tale) → IsLike setup (tell e (tell (Left c) tale)) (tell (Left c) (tell e tale))
  told_once c e commutes tale = record { moment = refl; view = sym (commutes (view_of setup tale)); clients = refl; links = refl; wires = refl }

  told_behind : (cs : List ClientNo) (e : Happening) → AllCommute cs e → (tale : Tale) → IsLike setup (tell e (leave cs tale)) (leave cs (tell e tale))
  told_behind [] e all tale = like_itself setup (tell e tale)
  told_behind (c ∷ cs) e all tale =
      like_on setup (tell e (leave cs (tell (Left c) tale))) (leave cs (tell e (tell (Left c) tale))) (leave cs (tell (Left c) (tell e tale)))
      (told_behind cs e (All-tail (λ (x : ClientNo). Commutes setup x e) c cs all) (tell (Left c) tale))
      (like_leave cs (tell e (tell (Left c) tale)) (tell (Left c) (tell e tale))
      (told_once c e (All-head (λ (x : ClientNo). Commutes setup x e) c cs all) tale))

  -- One more happens, or ends.

  -- it may come whatever is known
  abbrev ComesAnyway : Happening → Type 0
  ComesAnyway e = (v w : View) → MayCome setup v e → MayCome setup w e

  tell_later : (cs : List ClientNo) (e : Happening) → AllCommute cs e → ComesAnyway e → (early late : Tale) → LeftLater setup plan cs early late
      → ((AreDuly setup plan early.story → AreDuly setup plan late.story) → AreDuly setup plan (e ∷ early.story) → AreDuly setup plan (e ∷ late.story))
      → LeftLater setup plan cs (tell e early) (tell e late)
  tell_later cs e all anyway early late later dulier = record {
    like = like_on setup (tell e early) (tell e (leave cs late)) (leave cs (tell e late)) (like_tell setup e early (leave cs late) later.like)
        (told_behind cs e all late);
    lawful = λ is. (later.lawful is.0, anyway (view_of setup early) (view_of setup late) is.1);
    duly = dulier later.duly;
  }

  with_later : (cs : List ClientNo) (client : Client) (early late : Tale) → LeftLater setup plan cs early late
      → LeftLater setup plan cs (with_client client early) (with_client client late)
  with_later cs client early late later = record {
    like = subst (λ (tale : Tale). IsLike setup (with_client client early) tale) (leave_with cs client late)
        (like_with client early (leave cs late) later.like);
    lawful = later.lawful;
    duly = later.duly;
  }

  leave_last : (cs : List ClientNo) (c : ClientNo) (tale : Tale) → tell (Left c) (leave cs tale) ≡ leave (cs ++ c ∷ []) tale
  leave_last [] c tale = refl
  leave_last (x ∷ cs) c tale = leave_last cs c (tell (Left x) tale)

  pub left_later : (cs : List ClientNo) (c : ClientNo) (early late : Tale) → LeftLater setup plan cs early late
      → LeftLater setup plan (cs ++ c ∷ []) (tell (Left c) early) late
  left_later cs c early late later = record {
    like = subst (λ (tale : Tale). IsLike setup (tell (Left c) early) tale) (leave_last cs c late)
        (like_tell setup (Left c) early (leave cs late) later.like);
    lawful = λ is. later.lawful is.0;
    duly = later.duly;
  }

  pub later_itself : (tale : Tale) → LeftLater setup plan [] tale tale
  later_itself tale = record { like = like_itself setup tale; lawful = λ is. is; duly = λ are. are }

  pub lawful_behind : (cs : List ClientNo) (tale : Tale) → IsLawful setup tale.story → IsLawful setup (leave cs tale).story
  lawful_behind [] tale is = is
  lawful_behind (c ∷ cs) tale is = lawful_behind cs (tell (Left c) tale) (is, tt)

  pub duly_behind : (cs : List ClientNo) (tale : Tale) → AreDuly setup plan tale.story → AreDuly setup plan (leave cs tale).story
  duly_behind [] tale are = are
  duly_behind (c ∷ cs) tale are = duly_behind cs (tell (Left c) tale) are

  -- Another client goes on.

  module _ (cs : List ClientNo) where
    abbrev Aside : Client → Type 0
    Aside client = All (λ (c : ClientNo). is_client client.number c ≡ false) cs

    all_commute : (client : Client) → Aside client → (e : Happening) → ((c : ClientNo) → is_client client.number c ≡ false → Commutes setup c e) → AllCommute cs e
    all_commute client aside e each = All-weaker (λ (c : ClientNo). is_client client.number c ≡ false) (λ (c : ClientNo). Commutes setup c e) each cs aside

    abbrev Later : Tale → Tale → Type 0
    Later early late = LeftLater setup plan cs early late

    -- where it stands
    place_late : (client : Client) → Aside client → (early late : Tale) → Later early late
        → (view_of setup late).places client.number ≡ (view_of setup early).places client.number
    place_late client aside early late later =
        let apart : All (λ (c : ClientNo). not (is_client client.number c) ≡ true) cs =
        All-weaker (λ (c : ClientNo). is_client client.number c ≡ false) (λ (c : ClientNo). not (is_client client.number c) ≡ true)
        (λ c other. ap not other) cs aside in
        sym ((leave_spares setup (λ (n : ClientNo). not (is_client client.number n)) cs late apart).place client.number
        (ap not (same_number client.number.0)))
        ∙ ap (λ (v : View). v.places client.number) later.like.view

    later_if : (b : Bool) (x y v w : Tale) → Later x v → Later y w → Later (if b then x else y) (if b then v else w)
    later_if true x y v w one other = one
    later_if false x y v w one other = other

    due_later : (client : Client) → Aside client → (ordinal : ℕ) (route : Route) → route.mirror ≡ None → (request : Option Request) (early late : Tale)
        → Later early late → Later (due_by client ordinal route request early) (due_by client ordinal route request late)
    due_later client aside ordinal route single None early late later =
        tell_later cs Broke (all_commute client aside Broke (λ c other. broke_commutes setup c)) (λ v w may. may) early late later (λ so. so)
    due_later client aside ordinal route single (Some request) early late later =
        let due : Happening = BecameDue client.number route.hostgroup ordinal request.key request.command route.multiplex in
        subst (λ (mirror : Option Hostgroup).
        Later (copied (name_of client ordinal) request.command mirror (tell due early)) (copied (name_of client ordinal) request.command mirror (tell due late)))
        (sym single)
        (tell_later cs due
        (all_commute client aside due
        (λ c other. due_commutes setup c client.number other route.hostgroup ordinal request.key request.command route.multiplex)) (λ v w may. may)
        early late later
        (λ so are. (
          duly_at setup plan (view_of setup early) (view_of setup late) client.number route.hostgroup ordinal request.key request.command route.multiplex
              (place_late client aside early late later) are.0,
          so are.1,
        )))

    abbrev LaterIn : Option Tale → Option Tale → Type 0
    LaterIn None None = Unit {0}
    LaterIn None (Some late) = ⊥
    LaterIn (Some early) None = ⊥
    LaterIn (Some early) (Some late) = Later early late

    later_up : (b c : Bool) → b ≡ c → (x v : Tale) → Later x v → LaterIn (if b then Some x else None) (if c then Some v else None)
    later_up true true same x v later = later
    later_up false false same x v later = tt
    later_up true false same x v later = absurd (true≢false same)
    later_up false true same x v later = absurd (true≢false (sym same))

    later_others : (go : Tale → Tale) → ((x v : Tale) → Later x v → Later (go x) (go v)) → (a b : Option Tale) → LaterIn a b → (x v : Tale) → Later x v
        → Later (option_map_or go a x) (option_map_or go b v)
    later_others go goes None None found x v later = later
    later_others go goes None (Some b) found x v later = absurd found
    later_others go goes (Some a) None found x v later = absurd found
    later_others go goes (Some a) (Some b) found x v later = goes a b found

    module _ (client : Client) (early late : Tale) (aside : Aside client) (single : AreSingle plan (is_its client)) (later : Later early late) where
      abbrev others : ClientNo → Bool
      others n = not (is_client client.number n)

      all_others : All (λ (c : ClientNo). others c ≡ true) cs
      all_others = All-weaker (λ (c : ClientNo). is_client client.number c ≡ false) (λ (c : ClientNo). others c ≡ true) (λ c other. ap not other) cs aside

      spares : SparesOthers setup others late (leave cs late)
      spares = leave_spares setup others cs late all_others

      its : others client.number ≡ false
      its = ap not (same_number client.number.0)

      as_early : IsAsItWas setup plan early (leave cs late) client
      as_early = as_it_was setup plan client early (leave cs late) (like_alike setup plan client early (leave cs late) later.like)

      as_late : IsAsItWas setup plan late (leave cs late) client
      as_late = as_it_was setup plan client late (leave cs late) (spared_alike setup plan others late (leave cs late) spares client its)

      up_same : is_up setup plan client early ≡ is_up setup plan client late
      up_same = sym as_early.up ∙ as_late.up

      asks_same : (ordinal : ℕ) (route : Route) (payload : List ℕ)
          → requested setup (view_of setup late) plan client ordinal route payload ≡ requested setup (view_of setup early) plan client ordinal route payload
      asks_same ordinal route payload = sym (as_late.asks ordinal route payload) ∙ as_early.asks ordinal route payload

      taken_by_later : (ordinal : ℕ) (message : Framed) (route : Option Route) → ((r : Route) → route ≡ Some r → r.mirror ≡ None)
          → Later (taken_by setup plan client ordinal message route early) (taken_by setup plan client ordinal message route late)
      taken_by_later ordinal message None one =
          later_if (nat_eq (slice_index_or message.payload 0 0) com_reset) (tell (Left client.number) early) early (tell (Left client.number) late) late
          (tell_later cs (Left client.number)
          (all_commute client aside (Left client.number) (λ c other. left_commutes setup c client.number other)) (λ v w may. may) early late later (λ so. so))
          later
      taken_by_later ordinal message (Some route) one =
          subst (λ (request : Option Request). Later (due_by client ordinal route request early)
          (due_by client ordinal route (requested setup (view_of setup late) plan client ordinal route message.payload) late))
          (asks_same ordinal route message.payload)
          (due_later client aside ordinal route (one route refl) (requested setup (view_of setup late) plan client ordinal route message.payload) early late later)

      next_later : (message : Option Framed) → LaterIn (next_taken setup plan client message early) (next_taken setup plan client message late)
      next_later None = tt
      next_later (Some message) =
          let route : Option Route = plan.routes (name_of client (suc client.taken)) in
          later_up (is_up setup plan client early) (is_up setup plan client late) up_same
          (taken_by setup plan client (suc client.taken) message route early) (taken_by setup plan client (suc client.taken) message route late)
          (taken_by_later (suc client.taken) message route
          (λ r is. single (name_of client (suc client.taken)) r (same_number client.number.0) is))

      pub idle_later : IsIdle setup plan early client → IsIdle setup plan late client
      idle_later idle = idle_by setup plan client early late (sym up_same) idle

    pub taken_later : (most : ℕ) (client : Client) (early late : Tale) → Aside client → AreSingle plan (is_its client) → Later early late
        → Later (taken_up most setup plan client early) (taken_up most setup plan client late)
    taken_later zero client early late aside single later = later
    taken_later (suc most) client early late aside single later =
        let next : Client = record client { taken = suc client.taken } in
        let message : Option Framed = slice_get (messages plan client) client.taken in
        later_others (λ other. taken_up most setup plan next (with_client next other))
        (λ x v one. taken_later most next (with_client next x) (with_client next v) aside single (with_later cs next x v one))
        (next_taken setup plan client message early) (next_taken setup plan client message late)
        (next_later client early late aside single later message) early late later
