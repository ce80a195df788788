-- There are a setup and a plan that fit what was decided.
use Rattle.std.specs.Prelude.{◌≡◌, ℕ, Bool, true, false, All, cond, filter, find, is_some, length, unwrap_or, List, [], ◌∷◌, Option, Some, None}
use Rattle.std.specs.Option.{option_map_or}
use Rattle.std.proofs.Common.{refl, sym, ap, ◌∙◌, subst}
use Rattle.std.proofs.lemmas.List.Elements.{All-cons, All-head, All-nil, All-tail, All-weaker}
use Rattle.mx_wire.specs.Log.{Log}
use Rattle.client_session.specs.Answers.{account, opening_of}
use Rattle.core_service.specs.declared.service.Service.{Service}
use Rattle.core_texts.specs.declared.texts.Texts.{Texts}
use Rattle.client_session.specs.Setups.{Setup as Serving}
use Rattle.client_side.specs.Login.{Fails, Opening, Says, Waits}
use Rattle.server_rule.specs.Classes.{router_reads}
use Rattle.server_rule.specs.Servers.{no_capabilities}
use Rattle.server_side.specs.Account.{Account as Login}
use Rattle.session_state.specs.declared.place.Place.{Place}
use Rattle.session_vars.specs.Settings.{defaults}
use Rattle.private_model.specs.Commands.{Account}
use Rattle.private_model.specs.Names.{ClientNo, LinkId, MessageName}
use Rattle.private_model.specs.Story.{Key, is_client}
use Rattle.private_model.specs.View.{Setup}
use Rattle.link_laws.specs.Stands.{Codes}
use Rattle.row_laws.specs.Readied.{AreClasses}
use Rattle.client_seat.specs.Seats.{first_place}
use Rattle.log_story.specs.Headline.{tale_of}
use Rattle.log_story.specs.Owed.{talk_of}
use Rattle.log_story.specs.Plan.{Plan, Route}
use Rattle.log_story.specs.Servers.{logged_in_as}
use Rattle.log_story.specs.Tale as tales
use Rattle.log_story.specs.Tale.{is_to_server}
use Rattle.step_laws.proofs.Seating.{counted_seats}
use Rattle.step_laws.specs.Seats.{IsSeated}
use Rattle.tale_world.proofs.Agreeing.{agrees-itself}
use Rattle.tale_world.specs.Decided.{Decided, plan_of}
use Rattle.shared_router.proofs.Seated.{AreLike, IsLike}
use Rattle.core_promises.proofs.Alike.{alike}
use Rattle.core_tables.specs.Tables.{Tabled}
use Rattle.core_tables.specs.declared.client.Client.{Client}
use Rattle.core_tables.specs.declared.server.Server.{Server}
use Rattle.core_stands.specs.Clients.{IsClient, IsClientOr}
use Rattle.core_stands.specs.Grounds.{Ground}
use Rattle.core_stands.specs.Servers.{IsServerBy}
use Rattle.core_stands.specs.Stands.{IsAt, IsKnown, Rests, Stands}
use Rattle.core_laws.proofs.OfArrival.Finding.{at-known}
use Rattle.core_laws.specs.entry.Tells.{Fits, IsOf, IsWhoItSays, ground}
use Rattle.router_laws.proofs.OfDecisions.Fates.{false_true, none_some}
use Rattle.router_laws.proofs.OfDecisions.Listing.{is_tale_of}
use Rattle.core_promises.specs.Administers.{Administered}
use Rattle.router_laws.specs.decisions.Routers.{IsRouter}
use Rattle.router_laws.specs.routers.Somehow.{IsLinked, RestsSomehow}

-- texts are classed as the router does
classes : AreClasses router_reads
unfolding router_reads
classes = record { class = λ text. refl; hides = λ text. refl }

-- a key is its own number
abbrev its_key : Codes
its_key key = Some key

abbrev no_account : Account
no_account = record { user = []; capabilities = no_capabilities }

abbrev no_place : Place
no_place = record { schema = []; settings = defaults }

abbrev no_key : Key
no_key = record { text = []; place = no_place }

abbrev base : Setup
base = record {
  reads = router_reads;
  keys = λ key. no_key;
  accounts = λ c. no_account;
  places = λ c. no_place;
  stored = λ server. [];
}

first_found : {A : Type 0} (p : A → Bool) (xs : List A) (x : A) (ys : List A) → filter p xs ≡ x ∷ ys → find p xs ≡ Some x
first_found p [] x ys is = let both : [] ≡ x ∷ ys = is in absurd (cc)
first_found p (y ∷ zs) x ys is = by (p y) (first_found p zs x ys) is where
  by : (b : Bool) → (filter p zs ≡ x ∷ ys → find p zs ≡ Some x) → cond b (y ∷ filter p zs) (filter p zs) ≡ x ∷ ys → cond b (Some y) (find p zs) ≡ Some x
  by true later has = cc
  by false later has = later has

-- The plan has just what was decided.

itself : (d : Decided) (moment : ℕ) → IsOf d moment (plan_of d)
itself d moment = record {
  agrees = agrees-itself d moment;
  told = λ c word is. is;
  untold = λ c word none is. none_some (d.words c) word none is;
}

single_by : (routes : MessageName → Option (Option Route)) → ((m : MessageName) (route : Route) → routes m ≡ Some (Some route) → route.mirror ≡ None)
    → (m : MessageName) (route : Route) → unwrap_or (routes m) None ≡ Some route → route.mirror ≡ None
single_by routes single m route is = by (routes m) refl is where
  by : (found : Option (Option Route)) → routes m ≡ found → unwrap_or found None ≡ Some route → route.mirror ≡ None
  by None there has = none_some None route refl has
  by (Some None) there has = none_some None route refl has
  by (Some (Some other)) there has = single m route (there ∙ ap (λ (o : Option Route). Some o) has)

module _ (default : List ℕ) (d : Decided) (log : Log) where
  abbrev plan : Plan
  plan = plan_of d

  abbrev seats : List tales.Client
  seats = (tale_of base plan log).clients

  abbrev seat : ClientNo → Option tales.Client
  seat c = find (λ (x : tales.Client). is_client x.number c) seats

  abbrev place_by : Opening → Place
  place_by (Says switched response id rest) = first_place default response
  place_by _ = no_place

  abbrev account_by : Option Login → Account
  account_by login = option_map_or (λ (l : Login). logged_in_as l) login no_account

  abbrev account_for : Option tales.Client → Account
  account_for found = option_map_or (λ (x : tales.Client). account_by (account (talk_of plan x))) found no_account

  abbrev place_for : Option tales.Client → Place
  place_for found = option_map_or (λ (x : tales.Client). place_by (opening_of (talk_of plan x))) found no_place

  -- clients are who they say
  abbrev setup : Setup
  setup = record base { keys = λ key. unwrap_or (d.keys key) no_key; accounts = λ c. account_for (seat c); places = λ c. place_for (seat c) }

  abbrev IsWho : tales.Client → Type 0
  IsWho x = IsWhoItSays setup plan default x (opening_of (talk_of plan x))

  who_sits : (x : tales.Client) → seat x.number ≡ Some x → (o : Opening) → opening_of (talk_of plan x) ≡ o → IsWhoItSays setup plan default x o
  who_sits x found (Waits switched) is = tt
  who_sits x found (Fails switched fault id) is = tt
  who_sits x found (Says switched response id rest) is = λ login says. (ap account_for found ∙ ap account_by says, ap place_for found ∙ ap place_by is)

  all_sit : All IsWho seats
  all_sit =
      All-weaker (IsSeated (tale_of base plan log)) IsWho
      (λ x seated. who_sits x (first_found (λ (y : tales.Client). is_client y.number x.number) seats x [] seated) (opening_of (talk_of plan x)) refl)
      seats (counted_seats (tale_of base plan log) (is_tale_of base plan log).counted)

  who_like : (x y : tales.Client) → IsLike x y → IsWho x → IsWho y
  who_like x y like who =
      subst (IsWhoItSays setup plan default y) (ap opening_of (sym same)) (by (opening_of (talk_of plan x)) who) where
        same : talk_of plan y ≡ talk_of plan x
        same = λ i. record { setup = plan.service; number = (like.number i).0; port = like.port i; salt = like.salt i; read = like.read i }

        by : (o : Opening) → IsWhoItSays setup plan default x o → IsWhoItSays setup plan default y o
        by (Waits switched) is = tt
        by (Fails switched fault id) is = tt
        by (Says switched response id rest) is = λ login says.
            let both = is login (ap account (sym same) ∙ says) in (ap setup.accounts like.number ∙ both.0, ap setup.places like.number ∙ both.1)

  all_like : (xs ys : List tales.Client) → AreLike xs ys → All IsWho xs → All IsWho ys
  all_like [] [] like all = All-nil IsWho
  all_like [] (y ∷ ys) like all = absurd like
  all_like (x ∷ xs) [] like all = absurd like
  all_like (x ∷ xs) (y ∷ ys) like all =
      All-cons IsWho y ys (who_like x y like.0 (All-head IsWho x xs all)) (all_like xs ys like.1 (All-tail IsWho x xs all))

  fitting : ((m : MessageName) (route : Route) → d.routes m ≡ Some (Some route) → route.mirror ≡ None)
      → Fits d.keys setup its_key plan default (tale_of setup plan log)
  fitting single = record {
    classes = record { class = classes.class; hides = classes.hides };
    named = λ key. refl;
    keyed = λ k key was. ap (λ (o : Option Key). unwrap_or o no_key) was;
    who = all_like seats (tale_of setup plan log).clients (alike base plan setup plan log) all_sit;
    single = single_by d.routes single;
  }

module _ {texts : Texts} {admin : Administered} (service : Service) (log : Log) (t : Tabled) (roomy : ClientNo → Bool) (router : IsRouter service texts admin log t roomy) where
  abbrev d : Decided
  d = router.core.decided

  abbrev g : Ground
  g = ground (setup service.default_schema d log) its_key (plan_of d) d log

  rests_so : Rests service.setup g t roomy
  rests_so = router.core.rests (setup service.default_schema d log) its_key (plan_of d) (itself d (length log)) (fitting service.default_schema d log router.recorded.alone)

  pub somehow : RestsSomehow service.setup log t roomy
  somehow = record { g = g; tale_is = refl; rests = rests_so }

-- A client's link.

module _ (service : Serving) (g : Ground) (t : Tabled) (stands : Stands service g t) (l : LinkId) (c : ClientNo) (numbered : t.numbers l ≡ Some c) where
  none_aside : (there : Bool) → there ≡ false → (row : Option Server) → IsServerBy there g t l row → row ≡ None
  none_aside true isnt row is = false_true true isnt refl
  none_aside false isnt row is = is

  linked_by : (client : tales.Client) → IsKnown g c client → client.link ≡ l → (row : Option Client) → t.clients c ≡ row → is_some row ≡ true → IsLinked l c t
  linked_by client known link None is some = false_true false refl some
  linked_by client known link (Some row) is some =
      let at : IsAt g t client = at-known g t c client stands.clients known in
      let its : IsClient g client row = subst (λ (found : Option Client). IsClientOr g client found) (ap t.clients known.number ∙ is) at.row in
      let off : is_to_server g.tale l ≡ false = ap (is_to_server g.tale) (sym link) ∙ at.aside in
      record { row = row; there = is; link = its.who.link ∙ link; aside = none_aside (is_to_server g.tale l) off (t.links l) (stands.servers l) }

  pub linked : IsLinked l c t
  linked =
      let named = stands.clients.named l c numbered in
      linked_by named.0 named.1 named.2 (t.clients c) refl named.3
