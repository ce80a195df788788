-- Links of clients are no links to servers.
use Rattle.std.specs.Prelude.{◌≡◌, ◌+◌, Bool, true, false, ◌||◌, cond, find, length, map, if◌then◌else◌, List, [], ◌∷◌, ◌++◌, Some}
use Rattle.std.specs.List.{list_any}
use Rattle.std.proofs.Common.{refl, sym, ap, ◌∙◌, subst, append-nil, append_assoc}
use Rattle.std.proofs.lemmas.Bool.{or_right}
use Rattle.mx_base.specs.declared.names.LinkId.{LinkId}
use Rattle.mx_wire.specs.Log.{Log, is_link, of_link, opened_links}
use Rattle.mx_wire.specs.Log as wire
use Rattle.mx_wire.specs.Moments.{LawfulAfter}
use Rattle.mx_wire.specs.Tells.{Fits, IsNew}
use Rattle.mx_wire.specs.declared.entry.Entry.{Entry}
use Rattle.mx_wire.specs.declared.entry.Entry.TheVariants as entry
use Rattle.private_model.proofs.Maps.{link_of, same_link}
use Rattle.private_model.specs.Story.{is_link_id}
use Rattle.private_model.specs.View.{Setup}
use Rattle.log_story.specs.Plan.{Plan}
use Rattle.log_story.specs.Tale.{Client, Tale, client_gets, client_hears, is_to_server, new_client}
use Rattle.log_story.specs.Telling.{tale_step, told}
use Rattle.tale_world.specs.Deciding.{World}
use Rattle.shared_router.specs.Fixed.{Fixed, setup_of}
use Rattle.shared_router.specs.More.{More}
use Rattle.shared_router.specs.Shared.{world_at}
use Rattle.shared_router.proofs.Dues.{either}
use Rattle.shared_router.proofs.Growing.{numbered_at, tale_so}
use Rattle.shared_router.proofs.Lasting.{links_at, new_there}
use Rattle.shared_router.proofs.Numbered.{AreNumbered}
use Rattle.shared_router.proofs.Seated.{AreLike, clients_by, step_like, told_clients}

-- What holds of clients' links holds of them behind an entry, if it holds of one that is accepted by it.
module _ (Q : LinkId → Type 0) where
  abbrev pub AllOf : List Client → Type 0
  AllOf [] = Unit {0}
  AllOf (client ∷ clients) = Q client.link × AllOf clients

  all_map : (f : Client → Client) → ((c : Client) → Q c.link → Q (f c).link) → (xs : List Client) → AllOf xs → AllOf (map f xs)
  all_map f keeps [] all = tt
  all_map f keeps (x ∷ xs) all = (keeps x all.0, all_map f keeps xs all.1)

  all_on : (xs : List Client) (one : Client) → AllOf xs → Q one.link → AllOf (xs ++ one ∷ [])
  all_on [] one all is = (is, tt)
  all_on (x ∷ xs) one all is = (all.0, all_on xs one all.1 is)

  pub all_find : (test : Client → Bool) (xs : List Client) (one : Client) → AllOf xs → find test xs ≡ Some one → Q one.link
  all_find test [] one all is = absurd (cc)
  all_find test (x ∷ xs) one all is = by_test (test x) is (all_find test xs one all.1) where
    by_test : (b : Bool) → cond b (Some x) (find test xs) ≡ Some one → (find test xs ≡ Some one → Q one.link) → Q one.link
    by_test true is later = let same : x ≡ one = cc in subst (λ (c : Client). Q c.link) same all.0
    by_test false is later = later is

  all_like : (xs ys : List Client) → AreLike xs ys → AllOf xs → AllOf ys
  all_like [] [] like all = tt
  all_like [] (y ∷ ys) like all = absurd like
  all_like (x ∷ xs) [] like all = absurd like
  all_like (x ∷ xs) (y ∷ ys) like all = (subst Q (sym like.0.link) all.0, all_like xs ys like.1 all.1)

  module _ (setup : Setup) (plan : Plan) where
    -- one that is accepted has it
    abbrev pub IsOfNew : Entry → Type 0
    IsOfNew (entry.Accepted port link salt) = Q link
    IsOfNew _ = Unit {0}

    all_by : (tale : Tale) (e : Entry) → IsOfNew e → AllOf tale.clients → AllOf (clients_by setup plan tale e)
    all_by tale (entry.Accepted port link salt) is all = all_on tale.clients (new_client (length tale.clients + 1) port link salt) all is
    all_by tale (entry.Got link bytes) is all =
        either AllOf (is_to_server tale link) tale.clients (map (client_hears link bytes) tale.clients) all
        (all_map (client_hears link bytes) (λ c was. either (λ (x : Client). Q x.link) (is_link_id c.link link) (record c { read = c.read ++ bytes }) c was was) tale.clients all)
    all_by tale (entry.Wrote link tag bytes) is all =
        either AllOf (is_to_server tale link) tale.clients (map (client_gets link (length bytes)) tale.clients) all
        (all_map (client_gets link (length bytes)) (λ c was. either (λ (x : Client). Q x.link) (is_link_id c.link link) (record c { written = c.written + length bytes }) c was was) tale.clients all)
    all_by tale _ is all = all

    step_has : (tale : Tale) (e : Entry) → AreNumbered 1 tale.clients → IsOfNew e → AllOf tale.clients → AllOf (tale_step setup plan tale e).clients
    step_has tale e are is all =
        all_like (told setup plan tale e).clients (tale_step setup plan tale e).clients (step_like setup plan tale e are)
        (subst AllOf (sym (told_clients setup plan tale e)) (all_by tale e is all))

all_more : (P Q : LinkId → Type 0) → ((l : LinkId) → P l → Q l) → (xs : List Client) → AllOf P xs → AllOf Q xs
all_more P Q more [] all = tt
all_more P Q more (x ∷ xs) all = (more x.link all.0, all_more P Q more xs all.1)

-- an entry of the log names it
abbrev is_named : LinkId → Log → Bool
is_named link log = list_any (λ e. is_link link (wire.link_of e)) log

named_more : (link : LinkId) (log : Log) (e : Entry) → is_named link log ≡ true → is_named link (log ++ e ∷ []) ≡ true
named_more link [] e is = absurd (cc)
named_more link (x ∷ log) e is = by_test (is_link link (wire.link_of x)) is (named_more link log e) where
  by_test : (b : Bool) → (b || is_named link log) ≡ true → (is_named link log ≡ true → is_named link (log ++ e ∷ []) ≡ true) → (b || is_named link (log ++ e ∷ [])) ≡ true
  by_test true was later = refl
  by_test false was later = later was

named_last : (link : LinkId) (log : Log) (e : Entry) → is_link link (wire.link_of e) ≡ true → is_named link (log ++ e ∷ []) ≡ true
named_last link [] e is = ap (λ b. b || false) is
named_last link (x ∷ log) e is = or_right (is_link link (wire.link_of x)) _ (named_last link log e is)

named_new : {A : Type 0} (link : LinkId) (log : Log) → is_named link log ≡ true → IsNew link log → A
named_new link [] is new = absurd (cc)
named_new link (x ∷ log) is new = by_test (is_link link (wire.link_of x)) is new (named_new link log) where
  by_test : {A : Type 0} (b : Bool) → (b || is_named link log) ≡ true → (if b then x ∷ of_link link log else of_link link log) ≡ []
      → (is_named link log ≡ true → of_link link log ≡ [] → A) → A
  by_test true was empty later = absurd (cc)
  by_test false was empty later = later was empty

true-false : {A : Type 0} → true ≡ false → A
true-false is = absurd (cc)

module _ (fixed : Fixed) where
  -- it is no link to a server, and none will be it
  pub record IsSeat (log : Log) (link : LinkId) : Type 0 where
    pub apart : is_to_server (world_at fixed log).tale link ≡ false
    pub named : is_named link log ≡ true

  none_opened : (log : Log) (e : Entry) (link : LinkId) → Fits log e → is_named link log ≡ true → list_any (is_link_id link) (opened_links (e ∷ [])) ≡ false
  none_opened log (entry.Opened server address other) link fits named = by_test (is_link_id link other) refl where
    by_test : (b : Bool) → is_link_id link other ≡ b → (b || false) ≡ false
    by_test false apart = refl
    by_test true same = named_new other log (subst (λ (l : LinkId). is_named l log ≡ true) (link_of link other same) named) fits.fresh
  none_opened log _ link fits named = refl

  any_both : (link : LinkId) (a b : List LinkId) → list_any (is_link_id link) a ≡ false → list_any (is_link_id link) b ≡ false → list_any (is_link_id link) (a ++ b) ≡ false
  any_both link [] b one two = two
  any_both link (x ∷ a) b one two = by_test (is_link_id link x) one (any_both link a b) where
    by_test : (t : Bool) → (t || list_any (is_link_id link) a) ≡ false
        → (list_any (is_link_id link) a ≡ false → list_any (is_link_id link) b ≡ false → list_any (is_link_id link) (a ++ b) ≡ false)
        → (t || list_any (is_link_id link) (a ++ b)) ≡ false
    by_test true was later = true-false was
    by_test false was later = later was two

  apart_still : (log : Log) (e : Entry) (link : LinkId) → is_to_server (world_at fixed log).tale link ≡ false → list_any (is_link_id link) (opened_links (e ∷ [])) ≡ false
      → is_to_server (world_at fixed (log ++ e ∷ [])).tale link ≡ false
  apart_still log e link apart none =
      ap (list_any (is_link_id link)) (links_at fixed log e) ∙ any_both link (world_at fixed log).tale.links (opened_links (e ∷ [])) apart none

  seat_more : (log : Log) (e : Entry) → Fits log e → (link : LinkId) → IsSeat log link → IsSeat (log ++ e ∷ []) link
  seat_more log e fits link seat = record {
    apart = apart_still log e link seat.apart (none_opened log e link fits seat.named);
    named = named_more link log e seat.named;
  }

  seat_new : (log : Log) (e : Entry) (plan : Plan) → Fits log e → IsOfNew (IsSeat (log ++ e ∷ [])) (setup_of fixed) plan e
  seat_new log (entry.Accepted port link salt) plan fits = record {
    apart = apart_still log (entry.Accepted port link salt) link (new_there fixed log link fits.fresh) refl;
    named = named_last link log (entry.Accepted port link salt) (same_link link);
  }
  seat_new log _ plan fits = tt

  seats_step : (log : Log) (e : Entry) → Fits log e → AllOf (IsSeat log) (world_at fixed log).tale.clients
      → AllOf (IsSeat (log ++ e ∷ [])) (world_at fixed (log ++ e ∷ [])).tale.clients
  seats_step log e fits seats =
      let w : World More = world_at fixed log in
      let step = tale_so fixed log e in
      subst (λ (t : Tale). AllOf (IsSeat (log ++ e ∷ [])) t.clients) (sym step.1)
      (step_has (IsSeat (log ++ e ∷ [])) (setup_of fixed) step.0 w.tale e (numbered_at fixed log) (seat_new log e step.0 fits)
      (all_more (IsSeat log) (IsSeat (log ++ e ∷ [])) (λ l is. seat_more log e fits l is) w.tale.clients seats))

  seats_from : (before later : Log) → LawfulAfter Fits before later → AllOf (IsSeat before) (world_at fixed before).tale.clients
      → AllOf (IsSeat (before ++ later)) (world_at fixed (before ++ later)).tale.clients
  seats_from before [] fits seats = subst (λ (l : Log). AllOf (IsSeat l) (world_at fixed l).tale.clients) (sym (append-nil before)) seats
  seats_from before (e ∷ later) fits seats =
      subst (λ (l : Log). AllOf (IsSeat l) (world_at fixed l).tale.clients) (append_assoc before (e ∷ []) later)
      (seats_from (before ++ e ∷ []) later fits.1 (seats_step before e fits.0 seats))

  pub seats_at : (log : Log) → LawfulAfter Fits [] log → AllOf (IsSeat log) (world_at fixed log).tale.clients
  seats_at log fits = seats_from [] log fits tt
