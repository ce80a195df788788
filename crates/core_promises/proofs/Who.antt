-- Who clients are is read off the log, whatever was decided: so they are who they say, at each moment.
use Rattle.std.specs.Prelude.{◌≡◌, ◌≤◌, All, ℕ, suc, false, cond, find, take, List, [], ◌∷◌, ◌++◌, Option, Some}
use Rattle.std.specs.Option.{option_map_or}
use Rattle.std.proofs.Common.{refl, sym, ap, ◌∙◌, subst, append-nil, arith, inl, inr}
use Rattle.std.proofs.lemmas.Bool.{ne_eqb}
use Rattle.client_session.specs.Answers.{account, opening_of}
use Rattle.client_side.specs.Login.{Fails, Opening, Says, Waits}
use Rattle.mx_wire.specs.Log.{Log}
use Rattle.mx_wire.specs.Moments.{AtEachMoment}
use Rattle.private_model.proofs.Maps.{same_number}
use Rattle.private_model.specs.Commands.{Account}
use Rattle.private_model.specs.Names.{ClientNo, ServerId}
use Rattle.private_model.specs.Story.{is_client}
use Rattle.private_model.specs.View.{Setup}
use Rattle.server_side.specs.Account.{Account as Login}
use Rattle.session_state.specs.declared.place.Place.{Place}
use Rattle.log_story.specs.Headline.{tale_of}
use Rattle.log_story.specs.Owed.{talk_of}
use Rattle.log_story.specs.Plan.{Plan}
use Rattle.log_story.specs.Tale.{Client}
use Rattle.router_promises.specs.Router.{Router, first_place}
use Rattle.router_promises.specs.Terms.{AreWhoTheySay, Decided, IsWhoItSays, Terms, login_as, plan_in, setup_in}
use Rattle.shared_router.proofs.Growing.{AreGrown, IsWho, all_from, who_earlier}
use Rattle.shared_router.proofs.Numbered.{AreNumbered, IsIn}
use Rattle.shared_router.proofs.Seated.{AllOf, AreLike}
use Rattle.shared_router.proofs.Users.{all_of}
use Rattle.core_promises.proofs.Alike.{alike, numbered_of}
use Rattle.core_promises.proofs.Growing.{grown_since}

who_all : (t : Terms) (xs ys : List Client) → AreGrown xs ys → AllOf (IsWho t) ys → AllOf (IsWho t) xs
who_all t [] ys grown who = tt
who_all t (x ∷ xs) [] grown who = absurd grown
who_all t (x ∷ xs) (y ∷ ys) grown who = (who_earlier t x y grown.0 who.0, who_all t xs ys grown.1 who.1)

each_like : (t : Terms) (xs ys : List Client) → AreLike xs ys → ((x : Client) → IsIn x xs → IsWho t x) → AllOf (IsWho t) ys
each_like t [] [] like who = tt
each_like t [] (y ∷ ys) like who = absurd like
each_like t (x ∷ xs) [] like who = absurd like
each_like t (x ∷ xs) (y ∷ ys) like who = (
  who_earlier t y x (record { number = sym like.0.number; port = sym like.0.port; salt = sym like.0.salt; more = []; read = sym like.0.read ∙ sym (append-nil y.read) }) (who x (inl refl)),
  each_like t xs ys like.1 (λ z there. who z (inr there)),
)

-- By this router and plan; the base is any setup.
module _ (router : Router) (plan : Plan) (base : Setup) (log : Log) where
  abbrev seats : List Client
  seats = (tale_of base plan log).clients

  abbrev seat : ClientNo → Option Client
  seat c = find (λ (x : Client). is_client x.number c) seats

  abbrev place_by : Place → Opening → Place
  place_by other (Says switched response id rest) = first_place router response
  place_by other _ = other

  abbrev account_for : Account → Option Client → Account
  account_for other found = option_map_or (λ (x : Client). option_map_or (λ (login : Login). login_as login) (account (talk_of plan x)) other) found other

  abbrev place_for : Place → Option Client → Place
  place_for other found = option_map_or (λ (x : Client). place_by other (opening_of (talk_of plan x))) found other

  abbrev pub accounts_by : ClientNo → Account
  accounts_by c = account_for (base.accounts c) (seat c)

  abbrev pub places_by : ClientNo → Place
  places_by c = place_for (base.places c) (seat c)

  abbrev pub decided_by : Decided
  decided_by = record {
    plan = plan;
    keys = base.keys;
    accounts = accounts_by;
    places = places_by;
    administered = λ m. [];
    bare = λ link. false;
    tried = λ entry. record { login = record { user = []; password = []; found_rows = false }; bare = false };
  }

  abbrev pub terms_by : ((server : ServerId) → List ℕ) → Terms
  terms_by stored = record { router = router; decided = decided_by; stored = stored }

  number_from : (from : ℕ) (xs : List Client) (y : Client) → AreNumbered from xs → IsIn y xs → from ≤ y.number.0
  number_from from [] y are there = absurd there
  number_from from (x ∷ xs) y are (inl same) = let is : y.number.0 ≡ from = ap (λ (c : Client). c.number.0) same ∙ are.0 in omega arith
  number_from from (x ∷ xs) y are (inr there) = let later : suc from ≤ y.number.0 = number_from (suc from) xs y are.1 there in omega arith

  differs : (from : ℕ) (x : Client) (xs : List Client) (y : Client) → AreNumbered from (x ∷ xs) → IsIn y xs → is_client x.number y.number ≡ false
  differs from x xs y are there =
      let first : x.number.0 ≡ from = are.0 in
      let later : suc from ≤ y.number.0 = number_from (suc from) xs y are.1 there in
      ne_eqb x.number.0 y.number.0 (λ same. omega (arith, same, first, later))

  -- a client is found by its number
  find_later : (from : ℕ) (xs : List Client) (y : Client) → AreNumbered from xs → IsIn y xs → find (λ (x : Client). is_client x.number y.number) xs ≡ Some y
  find_later from [] y are there = absurd there
  find_later from (x ∷ xs) y are (inl same) =
      ap (λ b. cond b (Some x) (find (λ (c : Client). is_client c.number y.number) xs)) (ap (λ (c : Client). is_client x.number c.number) same ∙ same_number x.number.0) ∙ ap (λ c. Some c) (sym same)
  find_later from (x ∷ xs) y are (inr there) =
      ap (λ b. cond b (Some x) (find (λ (c : Client). is_client c.number y.number) xs)) (differs from x xs y are there) ∙ find_later (suc from) xs y are.1 there

  module _ (stored : (server : ServerId) → List ℕ) where
    abbrev t : Terms
    t = terms_by stored

    who_sits : (x : Client) → seat x.number ≡ Some x → (o : Opening) → opening_of (talk_of plan x) ≡ o → IsWhoItSays t x o
    who_sits x found (Waits switched) is = tt
    who_sits x found (Fails switched fault id) is = tt
    who_sits x found (Says switched response id rest) is = λ login says. (
      ap (account_for (base.accounts x.number)) found
          ∙ ap (λ a. option_map_or (λ (l : Login). login_as l) a (base.accounts x.number)) says,
      ap (place_for (base.places x.number)) found ∙ ap (place_by (base.places x.number)) is,
    )

    who_then : AllOf (IsWho t) (tale_of (setup_in t) plan log).clients
    who_then =
        each_like t seats (tale_of (setup_in t) plan log).clients (alike base plan (setup_in t) plan log)
        (λ x there. who_sits x (find_later 1 seats x (numbered_of base plan log) there) (opening_of (talk_of plan x)) refl)

    pub who_at : AtEachMoment (AreWhoTheySay t) log
    who_at n =
        all_from (IsWho t) (tale_of (setup_in t) plan (take n log)).clients
        (who_all t (tale_of (setup_in t) plan (take n log)).clients (tale_of (setup_in t) plan log).clients (grown_since (setup_in t) plan n log) who_then)
