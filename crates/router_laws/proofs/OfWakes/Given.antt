-- Statements are given up one after the other, which is to give them up at once.
use Rattle.std.specs.Prelude.{◌≡◌, ◌||◌, ℕ, Bool, true, false, nat_eq, is_some, if◌then◌else◌, List, [], ◌∷◌, Option, Some, None}
use Rattle.std.specs.Option.{option_map}
use Rattle.std.proofs.Common.{refl, sym, ap, ◌∙◌, subst}
use Rattle.std.proofs.lemmas.Bool.{false≢true}
use Rattle.std.proofs.lemmas.Option.{none-some, same_Some}
use Rattle.private_model.proofs.Maps.{client_of, same_number}
use Rattle.private_model.specs.Names.{ClientNo, LinkId}
use Rattle.private_model.specs.Story.{is_client}
use Rattle.log_story.specs.Tale.{counted}
use Rattle.step_laws.specs.Freed.{NoneDone}
use Rattle.core_tables.specs.Parting.{given_row, given_up_in}
use Rattle.core_tables.specs.Tables.{IsSame, Tabled}
use Rattle.core_tables.specs.declared.client.Client.{Client}
use Rattle.core_tables.specs.declared.server.Server.{Server}
use Rattle.core_stands.specs.Grounds.{Ground, on}
use Rattle.core_stands.specs.Stands.{Stands}
use Rattle.core_laws.proofs.OfEntry.Uneventful.{Testing}
use Rattle.client_session.specs.Setups.{Setup as Service}
use Rattle.client_desk.specs.declared.work.Work.{Work}
use Rattle.core_laws.specs.clients.Going.{GivenUp}
use Rattle.router_laws.proofs.OfWakes.Later.{flipped}
use Rattle.router_laws.proofs.OfReading.Lent.{IsLentElsewhere, given_done}
use Rattle.router_laws.specs.reading.Givings.{lent_home}
use Rattle.router_laws.specs.wakes.Calling.{GivesUp, GivesUpAll, IsUnsent, is_given}
use Rattle.router_laws.specs.wakes.Deciding.{payload_in}

-- One is given up.

module _ (up : GivenUp) (t between : Tabled) (gives : GivesUp up t between) where
  other_client : (c : ClientNo) → is_client c up.client ≡ false → between.clients c ≡ t.clients c
  other_client c other =
      gives.same.clients c
      ∙ ap (λ (b : Bool). if b then option_map (given_row (Some up.payload)) (t.clients up.client) else t.clients c) (flipped c up.client other)

  its_client : (c : ClientNo) → is_client c up.client ≡ true → between.clients c ≡ option_map (given_row (Some up.payload)) (t.clients c)
  its_client c its =
      let same : c ≡ up.client = client_of c up.client its in
      gives.same.clients c
      ∙ ap (λ (b : Bool). if b then option_map (given_row (Some up.payload)) (t.clients up.client) else t.clients c)
      (ap (λ (n : ClientNo). nat_eq up.client.0 n.0) same ∙ same_number up.client.0)
      ∙ ap (λ (n : ClientNo). option_map (given_row (Some up.payload)) (t.clients n)) (sym same)

  -- it has nothing in work then
  none_unsent_by : (found : Option Client) (row : Client) (work : Work) → option_map (given_row (Some up.payload)) found ≡ Some row
      → row.desk.work ≡ Some work → ⊥
  none_unsent_by None row work there in_work = none-some row there
  none_unsent_by (Some old) row work there in_work =
      none-some work (ap (λ (r : Client). r.desk.work) (same_Some (given_row (Some up.payload) old) row there) ∙ in_work)

  none_unsent : (c : ClientNo) → is_client c up.client ≡ true → IsUnsent c between → ⊥
  none_unsent c its unsent =
      none_unsent_by (t.clients c) unsent.row unsent.work (sym (its_client c its) ∙ unsent.at_work.there) unsent.at_work.in_work

  links_same : between.links ≡ t.links
  links_same = λ i l. gives.same.links l i

  unsent_before : (c : ClientNo) → is_client c up.client ≡ false → IsUnsent c between → IsUnsent c t
  unsent_before c other unsent = record {
    row = unsent.row;
    work = unsent.work;
    at_work = record { there = sym (other_client c other) ∙ unsent.at_work.there; in_work = unsent.at_work.in_work };
    unsent = unsent.unsent;
    unlent = subst (λ (links : LinkId → Option Server). lent_home (record t { links = links }) unsent.row unsent.work ≡ None) links_same unsent.unlent;
  }

-- Whose statements are given up.

unsent_by : (up : GivenUp) (others : List GivenUp) (t between : Tabled) → GivesUp up t between → (c : ClientNo)
    → (is_some (payload_in others c) ≡ true → IsUnsent c between) → (b : Bool) → is_client c up.client ≡ b
    → is_some (if b then Some up.payload else payload_in others c) ≡ true → IsUnsent c t
unsent_by up others t between gives c later true its some =
    subst (λ (n : ClientNo). IsUnsent n t) (sym (client_of c up.client its)) gives.late
unsent_by up others t between gives c later false other some = unsent_before up t between gives c other (later some)

pub all_unsent : (given : List GivenUp) (t late : Tabled) → GivesUpAll given t late → (c : ClientNo) → is_some (payload_in given c) ≡ true → IsUnsent c t
all_unsent [] t late gives c some = absurd (false≢true some)
all_unsent (up ∷ others) t late gives c some =
    unsent_by up others t gives.0 gives.1 c (all_unsent others gives.0 late gives.2 c) (is_client c up.client) refl some

-- All at once.

given_nothing : (found : Option Client) → found ≡ option_map (given_row None) found
given_nothing None = refl
given_nothing (Some row) = refl

module _ (up : GivenUp) (others : List GivenUp) (t between late : Tabled) (gives : GivesUp up t between) (later : GivesUpAll others between late) (c : ClientNo)
    (behind : late.clients c ≡ option_map (given_row (payload_in others c)) (between.clients c)) where
  others_none : is_client c up.client ≡ true → (found : Option (List ℕ)) → payload_in others c ≡ found → found ≡ None
  others_none its None is = refl
  others_none its (Some payload) is =
      absurd (none_unsent up t between gives c its (all_unsent others between late later c (ap is_some is)))

  client_by : (b : Bool) → is_client c up.client ≡ b
      → late.clients c ≡ option_map (given_row (if b then Some up.payload else payload_in others c)) (t.clients c)
  client_by true its =
      behind
      ∙ ap (λ (payload : Option (List ℕ)). option_map (given_row payload) (between.clients c)) (others_none its (payload_in others c) refl)
      ∙ sym (given_nothing (between.clients c)) ∙ its_client up t between gives c its
  client_by false other = behind ∙ ap (option_map (given_row (payload_in others c))) (other_client up t between gives c other)

  client_is : late.clients c ≡ option_map (given_row (payload_in (up ∷ others) c)) (t.clients c)
  client_is = client_by (is_client c up.client) refl

pub all_given : (given : List GivenUp) (t late : Tabled) → GivesUpAll given t late → IsSame late (given_up_in (payload_in given) t)
all_given [] t late same = record {
  clients = λ c. same.clients c ∙ given_nothing (t.clients c);
  numbers = same.numbers;
  links = same.links;
}
all_given (up ∷ others) t late gives =
    let behind : IsSame late (given_up_in (payload_in others) gives.0) = all_given others gives.0 late gives.2 in
    record {
      clients = λ c. client_is up others t gives.0 late gives.1 gives.2 c (behind.clients c);
      numbers = λ l. behind.numbers l ∙ gives.1.same.numbers l;
      links = λ l. behind.links l ∙ gives.1.same.links l;
    }

-- whom there is a payload for

given_by : (b : Bool) (payload : List ℕ) (found : Option (List ℕ)) (more : Bool) → is_some found ≡ more
    → is_some (if b then Some payload else found) ≡ (b || more)
given_by true payload found more same = refl
given_by false payload found more same = same

pub some_given : (given : List GivenUp) (c : ClientNo) → is_some (payload_in given c) ≡ is_given given c
some_given [] c = refl
some_given (up ∷ others) c = given_by (is_client c up.client) up.payload (payload_in others c) (is_given others c) (some_given others c)

-- No link is given back as statements are given up: none is lent for them.

unlent : (given : List GivenUp) (t late : Tabled) → GivesUpAll given t late → (l : LinkId) → IsLentElsewhere t (payload_in given) l
unlent given t late gives l c row work some at home =
    let its : IsUnsent c t = all_unsent given t late gives c some in
    let row_is : its.row ≡ row = same_Some its.row row (sym its.at_work.there ∙ at.there) in
    let work_is : its.work ≡ work = same_Some its.work work (sym its.at_work.in_work ∙ ap (λ (r : Client). r.desk.work) row_is ∙ at.in_work) in
    none-some l (sym its.unlent ∙ (λ i. lent_home t (row_is i) (work_is i)) ∙ home)

pub given_rests : (service : Service) → Testing service → (g : Ground) (t late : Tabled) (given : List GivenUp) → GivesUpAll given t late
    → Stands service g t → Stands service (on g (counted g.tale)) (given_up_in (payload_in given) t) → NoneDone g.setup g.plan g.tale
    → NoneDone g.setup g.plan (counted g.tale)
given_rests service testing g t late given gives stands counts rested l there =
    testing (on g (counted g.tale)) (given_up_in (payload_in given) t) l counts there
    ∙ given_done service g t stands (payload_in given) l (unlent given t late gives l) ∙ sym (testing g t l stands there) ∙ rested l there
