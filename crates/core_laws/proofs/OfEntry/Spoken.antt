-- Bytes come on a client's link: that client alone is called.
use Rattle.std.specs.Prelude.{◌≡◌, ℕ, suc, Bool, true, false, not, ◌||◌, ◌&&◌, ◌++◌, All, filter, if◌then◌else◌, map, List, [], ◌∷◌, Option, Some, None}
use Rattle.std.specs.Option.{option_map_or}
use Rattle.std.proofs.Common.{refl, sym, ap, ◌∙◌, subst, arith, inl}
use Rattle.std.proofs.lemmas.Bool.{true≢false}
use Rattle.std.proofs.lemmas.List.Elements.{All-map, All-weaker}
use Rattle.mx_wire.specs.declared.entry.Entry.{Entry}
use Rattle.mx_wire.specs.declared.entry.Entry.TheVariants.{Got}
use Rattle.private_model.proofs.Maps.{same_link, same_number}
use Rattle.private_model.specs.Names.{ClientNo, LinkId, SessionName}
use Rattle.private_model.specs.Story.{is_client, is_link_id}
use Rattle.private_model.specs.View.{Carried, Nobody, session_in}
use Rattle.log_story.specs.Clients.{client_goes_on, is_event_of}
use Rattle.log_story.specs.Owed.{name_of}
use Rattle.log_story.specs.Plan.{gives_up, is_before, is_by_now}
use Rattle.log_story.specs.Servers.{links_are_freed}
use Rattle.log_story.specs.Tale.{Client, Tale, client_hears, counted, link_in}
use Rattle.log_story.specs.Telling.{server_says}
use Rattle.step_laws.proofs.Giving.{none_in}
use Rattle.step_laws.proofs.Taking.{called}
use Rattle.step_laws.specs.Freed.{NoneDone}
use Rattle.step_laws.specs.Seats.{IsSeated, is_its, seats}
use Rattle.step_laws.specs.Steps.{IsOfOne, ended_now, told_then}
use Rattle.step_laws.specs.Taken.{ArePassedBut, IsPassed, all_taken, is_called}
use Rattle.core_stands.specs.Grounds.{AreOver, Ground, view_on}
use Rattle.core_laws.proofs.OfEntry.Uneventful.{not_called}
use Rattle.core_laws.specs.entry.Kinds.{IsSpeaking, IsStill}

map_if : (by : Client → Client) (x : Client) (front behind : List Client) → front ≡ map by behind → (b : Bool)
    → (if b then by x ∷ front else front) ≡ map by (if b then x ∷ behind else behind)
map_if by x front behind same true = ap (λ (more : List Client). by x ∷ more) same
map_if by x front behind same false = same

map_seats : (by : Client → Client) → ((x : Client) → (by x).number ≡ x.number) → (xs : List Client) (n : ClientNo)
    → filter (λ (x : Client). is_client x.number n) (map by xs) ≡ map by (filter (λ (x : Client). is_client x.number n) xs)
map_seats by number [] n = refl
map_seats by number (x ∷ xs) n =
    let front : List Client = filter (λ (y : Client). is_client y.number n) (map by xs) in
    let behind : List Client = filter (λ (y : Client). is_client y.number n) xs in
    ap (λ (c : ClientNo). if is_client c n then by x ∷ front else front) (number x)
    ∙ map_if by x front behind (map_seats by number xs n) (is_client x.number n)

before_by : (moment : ℕ) (at : Option ℕ) → is_before (suc moment) at ≡ is_by_now moment at
before_by moment None = refl
before_by moment (Some n) = grind arith

module _ (g : Ground) (link : LinkId) (bytes : List ℕ) (client : Client) (over : AreOver g)
    (is : IsSpeaking g link client) where
  abbrev e : Entry
  e = Got link bytes

  abbrev hears : Client → Client
  hears x = client_hears link bytes x

  abbrev made : Tale
  made = record g.tale { clients = map hears g.tale.clients }

  abbrev heard : Tale
  heard = told_then g.setup g.plan g.tale e

  then_as : counted made ≡ heard
  then_as =
      ap counted (sym (ap (λ (b : Bool). if b then server_says g.setup g.plan link bytes g.tale else made) is.aside))

  either_number : (b : Bool) (x y : Client) (n : ClientNo) → x.number ≡ n → y.number ≡ n → (if b then x else y).number ≡ n
  either_number true x y n first second = first
  either_number false x y n first second = second

  same_no : (x : Client) → (hears x).number ≡ x.number
  same_no x = either_number (is_link_id x.link link) (record x { read = x.read ++ bytes }) x x.number refl refl

  -- no link is given back

  undone : NoneDone g.setup g.plan (counted made)
  undone = λ l there. is.rested l there

  none_freed : links_are_freed g.setup g.plan (counted made) ≡ counted made
  none_freed = none_in g.setup g.plan made.links (counted made) (λ l there. undone l there)

  -- the client stands there with its bytes

  seated_there : IsSeated (counted made) (hears client)
  seated_there =
      ap (seats (counted made)) (same_no client) ∙ map_seats hears same_no g.tale.clients client.number ∙ ap (map hears) is.seated

  -- nobody else is called

  carries_none : (c : ClientNo) (carried : Carried) → carried ≡ Nobody → option_map_or (λ (n : SessionName). is_client n.client c) (session_in carried) false ≡ false
  carries_none c carried none = ap (λ (k : Carried). option_map_or (λ (n : SessionName). is_client n.client c) (session_in k) false) none

  not_concerned : (y : Client) → is_link_id y.link link ≡ false → is_event_of (view_on g) y e ≡ false
  not_concerned y other =
      ap (λ (b : Bool). b || option_map_or (λ (n : SessionName). is_client n.client y.number) (session_in (link_in g.setup g.tale link).carries) false) other
      ∙ carries_none y.number (link_in g.setup g.tale link).carries is.nobody

  abbrev Others : Client → Type 0
  Others x = is_link_id x.link link ≡ true → x.number ≡ client.number

  uncalled_by : (x : Client) → Others x × IsStill g x → (b : Bool) → is_link_id x.link link ≡ b
      → is_its (hears client) (if b then record x { read = x.read ++ bytes } else x).number ≡ false
      → is_called g.plan (suc g.tale.moment) (view_on g) e (if b then record x { read = x.read ++ bytes } else x) ≡ false
  uncalled_by x both false aside other =
      not_called g.plan (suc g.tale.moment) (view_on g) e x (not_concerned x aside) (both.1.keeps x.taken (omega arith))
  uncalled_by x both true its other =
      absurd (true≢false (sym (same_number client.number.0)
      ∙ (λ i. is_client (sym (both.0 its) i) (sym (same_no client) i)) ∙ other))

  abbrev Passes : Client → Type 0
  Passes y = is_its (hears client) y.number ≡ false → IsPassed g.setup g.plan (view_on g) e (counted made) y

  all_pass : All Passes (map hears g.tale.clients)
  all_pass =
      All-map Passes hears g.tale.clients
      (All-weaker (λ (x : Client). Others x × IsStill g x) (λ (x : Client). Passes (hears x))
      (λ x both other. inl (uncalled_by x both (is_link_id x.link link) refl other)) g.tale.clients
      (λ k d within. (is.alone k d within, is.still k d within)))

  -- it is the one that is called

  hears_link : (hears client).link ≡ link
  hears_link = either_link (is_link_id client.link link) where
    either_link : (b : Bool) → (if b then record client { read = client.read ++ bytes } else client).link ≡ link
    either_link true = is.its_link
    either_link false = is.its_link

  its_event : is_event_of (view_on g) (hears client) e ≡ true
  its_event =
      ap (λ (l : LinkId). is_link_id l link || option_map_or (λ (n : SessionName). is_client n.client (hears client).number) (session_in (link_in g.setup g.tale link).carries) false)
      hears_link
      ∙ ap (λ (b : Bool). b || option_map_or (λ (n : SessionName). is_client n.client (hears client).number) (session_in (link_in g.setup g.tale link).carries) false)
      (same_link link)

  not_ended : is_before (suc g.tale.moment) (g.plan.ends (hears client).number) ≡ false
  not_ended =
      ap (λ (c : ClientNo). is_before (suc g.tale.moment) (g.plan.ends c)) (same_no client)
      ∙ before_by g.tale.moment (g.plan.ends client.number) ∙ sym (over client.number) ∙ is.going

  its_call : is_called g.plan (suc g.tale.moment) (view_on g) e (hears client) ≡ true
  its_call =
      ap (λ (b : Bool). (b || gives_up g.plan (suc g.tale.moment) (name_of (hears client) (hears client).taken))
      && not (is_before (suc g.tale.moment) (g.plan.ends (hears client).number))) its_event
      ∙ ap not not_ended

  pub of_speaker : (ended : List ClientNo) → ended_now g.plan heard ≡ ended → IsOfOne g.setup g.plan g.tale e (hears client) ended heard
  of_speaker ended ends = record {
    first = subst (λ (tale : Tale). links_are_freed g.setup g.plan tale ≡ tale) then_as none_freed;
    seated = subst (λ (tale : Tale). IsSeated tale (hears client)) then_as seated_there;
    single = λ m route its. is.single m route (its_number m.client its);
    passes = subst (ArePassedBut g.setup g.plan (view_on g) e (is_its (hears client))) then_as all_pass;
    ends = ends;
  } where
    its_number : (c : ClientNo) → is_its (hears client) c ≡ true → is_its client c ≡ true
    its_number c its = ap (λ (n : ClientNo). is_client c n) (sym (same_no client)) ∙ its

  pub speaker_goes : client_goes_on g.setup g.plan (view_on g) e heard (hears client) ≡ all_taken g.setup g.plan (hears client) heard
  speaker_goes =
      called g.setup g.plan (view_on g) e heard (hears client)
      (subst (λ (tale : Tale). is_called g.plan tale.moment (view_on g) e (hears client) ≡ true) then_as its_call)
