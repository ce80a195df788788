-- What clients have prepared stands so where more is read of them, or written to them.
use Rattle.std.specs.Prelude.{◌≡◌, ◌+◌, ℕ, Bool, true, false, filter, is_some, if◌then◌else◌, map, List, [], ◌∷◌, ◌++◌, Some}
use Rattle.std.proofs.Common.{refl, sym, ap, ◌∙◌, subst, append-nil, inl, inr}
use Rattle.packet_frame.specs.Packets.{Framed}
use Rattle.private_model.specs.Names.{ClientNo, LinkId}
use Rattle.private_model.specs.Story.{is_client, is_link_id}
use Rattle.log_story.specs.Owed.{messages, name_of, talk_of}
use Rattle.log_story.specs.Plan.{Plan, own_at}
use Rattle.log_story.specs.Tale as tales
use Rattle.log_story.specs.Tale.{Tale, client_gets, client_hears}
use Rattle.step_laws.specs.Seats.{IsSeated}
use Rattle.client_seat.specs.Seats.{is_ended}
use Rattle.core_tables.specs.Tables.{Tabled}
use Rattle.core_tables.specs.declared.client.Client.{Client}
use Rattle.core_stands.specs.Clients.{IsClient}
use Rattle.core_stands.specs.Grounds.{Ground, view_on}
use Rattle.core_stands.specs.Stands.{AreClients, ArePrepared, IsPrepared}
use Rattle.core_laws.proofs.OfEntry.Growing.{messages_more}
use Rattle.core_laws.proofs.OfPrepared.Keeping.{going_within, prepared_as}
use Rattle.core_laws.proofs.OfPrepared.Knowing.{none_replied}
use Rattle.core_laws.proofs.OfPrepared.Rows.{AreRows, RowOf, going_row, its_client, unreplied}

-- its messages are those that it had, and maybe more
abbrev pub HasMore : Plan → (was now : tales.Client) → Type 0
HasMore plan was now = (more : List Framed) × (messages plan now ≡ messages plan was ++ more)

pub has_same : (plan : Plan) (client : tales.Client) → HasMore plan client client
has_same plan client = ([], sym (append-nil (messages plan client)))

pub hears_more : (plan : Plan) (link : LinkId) (bytes : List ℕ) (client : tales.Client) → HasMore plan client (client_hears link bytes client)
hears_more plan link bytes client = by (is_link_id client.link link) where
  by : (b : Bool) → HasMore plan client (if b then record client { read = client.read ++ bytes } else client)
  by true = let grown = messages_more (talk_of plan client) bytes in (grown.later, grown.is)
  by false = has_same plan client

pub gets_more : (plan : Plan) (link : LinkId) (count : ℕ) (client : tales.Client) → HasMore plan client (client_gets link count client)
gets_more plan link count client = by (is_link_id client.link link) where
  by : (b : Bool) → HasMore plan client (if b then record client { written = client.written + count } else client)
  by true = has_same plan client
  by false = has_same plan client

-- A client of those that are made of others is made of one.

map_if : (by : tales.Client → tales.Client) (x : tales.Client) (front behind : List tales.Client) → front ≡ map by behind → (b : Bool)
    → (if b then by x ∷ front else front) ≡ map by (if b then x ∷ behind else behind)
map_if by x front behind same true = ap (λ (more : List tales.Client). by x ∷ more) same
map_if by x front behind same false = same

map_seats : (by : tales.Client → tales.Client) → ((x : tales.Client) → (by x).number ≡ x.number) → (xs : List tales.Client) (n : ClientNo)
    → filter (λ (x : tales.Client). is_client x.number n) (map by xs) ≡ map by (filter (λ (x : tales.Client). is_client x.number n) xs)
map_seats by number [] n = refl
map_seats by number (x ∷ xs) n =
    let front : List tales.Client = filter (λ (y : tales.Client). is_client y.number n) (map by xs) in
    let behind : List tales.Client = filter (λ (y : tales.Client). is_client y.number n) xs in
    ap (λ (c : ClientNo). if is_client c n then by x ∷ front else front) (number x)
    ∙ map_if by x front behind (map_seats by number xs n) (is_client x.number n)

record IsOne (by : tales.Client → tales.Client) (xs : List tales.Client) (y : tales.Client) : Type 0 where
  x : tales.Client
  one : xs ≡ x ∷ []
  made : by x ≡ y

one_mapped : (by : tales.Client → tales.Client) (xs : List tales.Client) (y : tales.Client) → map by xs ≡ y ∷ [] → IsOne by xs y
one_mapped by [] y is = absurd (let no = is in cc)
one_mapped by (x ∷ []) y is = let made : by x ≡ y = cc in record { x = x; one = refl; made = made }
one_mapped by (x ∷ z ∷ xs) y is = absurd (let no = is in cc)

module _ (g : Ground) (tale : Tale) (over fresh : ClientNo → Bool) (t now : Tabled) (f : tales.Client → tales.Client)
    (clients : tale.clients ≡ map f g.tale.clients) (number : (x : tales.Client) → (f x).number ≡ x.number)
    (taken : (x : tales.Client) → (f x).taken ≡ x.taken) (more : (x : tales.Client) → HasMore g.plan x (f x)) (moment : tale.moment ≡ g.tale.moment)
    (are : AreClients g t) (prepared : ArePrepared g t) (rows : AreRows t now) where
  abbrev after : Ground
  after = record g { tale = record tale { story = g.tale.story }; over = over; fresh = fresh }

  made_of : (x : tales.Client) → IsSeated g.tale x → (row : Client) → now.clients (f x).number ≡ Some row → is_ended row.desk.seat.phase ≡ false
      → IsPrepared after (f x) row
  made_of x seated row there going =
      let of : RowOf t x.number row = rows x.number row (ap now.clients (sym (number x)) ∙ there) going in
      let was : IsClient g x of.old = its_client g t x of.old are seated of.there in
      prepared_as g after.tale over fresh x (f x) of.old row (record {
        number = number x;
        taken = taken x;
        more = (more x).0;
        all = (more x).1;
        earlier = λ k below. refl;
        stays = λ k reply within at. at;
        statements = of.statements;
        answered = λ is. elim (of.answered is) [
          | inl same ↦ inl (same, refl)
          | inr busy ↦ inr (λ n payload greater.
              none_replied n x.taken payload (g.plan.routes (name_of x x.taken)) ((view_on g).replies (name_of x x.taken)) (unreplied g x of.old (going_row g x of.old was of.going) busy))
        ];
        unserved = λ k some below own.
            (prepared x seated of.old of.there of.going).unserved k some below
            (ap (λ (n : ℕ). is_some (own_at g.plan n (name_of x k))) (sym moment) ∙ own);
      }) (going_within g x of.old was of.going) (prepared x seated of.old of.there of.going)

  pub told_prepared : ArePrepared after now
  told_prepared client seated row there going =
      let of = one_mapped f (filter (λ (x : tales.Client). is_client x.number client.number) g.tale.clients) client
      (sym (ap (filter (λ (x : tales.Client). is_client x.number client.number)) clients ∙ map_seats f number g.tale.clients client.number) ∙ seated) in
      let its : of.x.number ≡ client.number = sym (number of.x) ∙ ap (λ (y : tales.Client). y.number) of.made in
      let sits : IsSeated g.tale of.x = ap (λ (n : ClientNo). filter (λ (x : tales.Client). is_client x.number n) g.tale.clients) its ∙ of.one in
      subst (λ (y : tales.Client). IsPrepared after y row) of.made
      (made_of of.x sits row (ap now.clients (ap (λ (y : tales.Client). y.number) of.made) ∙ there) going)
