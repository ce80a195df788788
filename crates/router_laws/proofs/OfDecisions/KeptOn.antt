-- As a client's turns begin the texts of what it has prepared are kept since before the entry.
use Rattle.std.specs.Prelude.{◌≡◌, ◌<◌, ◌≤◌, ℕ, suc, Bool, true, false, if◌then◌else◌, is_some, length, nat_le, List, [], ◌∷◌, Option, Some, None}
use Rattle.std.specs.Option.{option_and_then, option_map, option_or}
use Rattle.std.proofs.Common.{refl, sym, ap, ◌∙◌, subst, append-nil, arith}
use Rattle.std.proofs.lemmas.Bool.{leb-true, true≢false}
use Rattle.std.proofs.lemmas.Option.{same_Some}
use Rattle.mx_wire.specs.Log.{Log}
use Rattle.mx_wire.specs.declared.entry.Entry.{Entry}
use Rattle.packet_frame.specs.Packets.{Framed}
use Rattle.client_session.specs.Setups.{Setup as Serving}
use Rattle.private_model.specs.Commands.{Reply}
use Rattle.private_model.specs.Lawful.{IsLawful}
use Rattle.private_model.specs.Names.{ClientNo, MessageName}
use Rattle.private_model.specs.Story.{Key}
use Rattle.private_model.specs.View.{Setup, View}
use Rattle.link_laws.specs.Stands.{Codes}
use Rattle.log_story.specs.Headline.{tale_of}
use Rattle.log_story.specs.Executes.{Prepared, prepared_by, prepared_in}
use Rattle.log_story.specs.Owed.{messages, name_of}
use Rattle.log_story.specs.Plan.{Plan, own_at}
use Rattle.log_story.specs.Tale.{Client, Tale, view_of}
use Rattle.client_seat.specs.Numbers.{numbered}
use Rattle.step_laws.specs.Seats.{IsSeated}
use Rattle.step_laws.specs.Steps.{told_then}
use Rattle.log_story.specs.Servers.{links_are_freed}
use Rattle.tale_world.specs.Decided.{Decided}
use Rattle.shared_router.proofs.Furthering.{IsWithin}
use Rattle.core_tables.specs.Tables.{Tabled}
use Rattle.core_tables.specs.declared.client.Client.{Client as Row}
use Rattle.core_stands.specs.Grounds.{Ground, view_on}
use Rattle.core_stands.specs.Stands.{IsPrepared, Stands}
use Rattle.core_laws.proofs.OfEntry.Lists.{seated_of}
use Rattle.core_laws.specs.clients.Chosen.{IsTurning}
use Rattle.core_laws.specs.entry.Tells.{ground}
use Rattle.core_laws.proofs.OfClients.Finding.{seated_first}
use Rattle.core_laws.specs.clients.Following.{IsFollowing, to_look}
use Rattle.core_laws.specs.clients.Follows.{Parting}
use Rattle.core_laws.specs.clients.Turns.{Choice, Halt}
use Rattle.core_promises.specs.Ruled.{AreKept, Ruling}
use Rattle.router_promises.specs.Statements.{is_live, known_statement}
use Rattle.router_laws.proofs.OfDecisions.AsTold.{told_moment, told_replies}
use Rattle.router_laws.proofs.OfDecisions.Held.{HasRow, owned, served}
use Rattle.router_laws.proofs.OfDecisions.Holding.{held_on}
use Rattle.router_laws.proofs.OfDecisions.Judging.{within_of}
use Rattle.router_laws.proofs.OfDecisions.Situated.{known, stands}
use Rattle.router_laws.specs.decisions.Held.{AreHeld, IsHeld, keys_since}
use Rattle.router_laws.specs.decisions.Rulings.{AreKeptIn}

-- of what a client knows
abbrev pub AreKnownHeld : (keys : (number : ℕ) → Option Key) → View → Plan → Client → Type 0
AreKnownHeld keys view plan client =
    (number : ℕ) (made : Prepared) → 0 < number → known_statement view plan client number (suc client.taken) ≡ Some made
    → is_some (keys made.key) ≡ true

-- It stands in the row.

key_since : (ruling : Ruling) (key : ℕ) (early : Bool) → nat_le key ruling.since ≡ early
    → is_some (if early then ruling.keys key else None) ≡ true → (key ≤ ruling.since) × (is_some (ruling.keys key) ≡ true)
key_since ruling key true is some = (leb-true key ruling.since is, some)
key_since ruling key false is some = absurd (true≢false (sym some))

pub row_kept : (ruling : Ruling) (g : Ground) (client : Client) (row : Row) → IsPrepared g client row
    → AreKnownHeld (keys_since ruling.since ruling.keys) (view_on g) g.plan client → AreKept ruling row.desk.seat.statements
row_kept ruling g client row prepared held number s some at =
    let is = prepared.each number (numbered s) (ap (option_map numbered) at) in
    let both = key_since ruling s.prepared.key (nat_le s.prepared.key ruling.since) refl
    (held number (known g.setup g.plan client g.tale number s is) some (stands g.setup g.plan client g.tale number s is)) in
    record { early = both.0; there = both.1 }

its_kept : (ruling : Ruling) (g : Ground) (t : Tabled) (client : Client) (c : ClientNo) → client.number ≡ c → HasRow g t client
    → AreKnownHeld (keys_since ruling.since ruling.keys) (view_on g) g.plan client → AreKeptIn ruling (t.clients c)
its_kept ruling g t client c number has held row at =
    subst (λ (r : Row). AreKept ruling r.desk.seat.statements)
    (same_Some has.row row (sym has.there ∙ ap t.clients number ∙ at)) (row_kept ruling g client has.row has.prepared held)

pub stood_kept : (ruling : Ruling) (service : Serving) (g : Ground) (t : Tabled) (client : Client) (c : ClientNo) → client.number ≡ c
    → Stands service g t → IsSeated g.tale client → g.over client.number ≡ false
    → AreKnownHeld (keys_since ruling.since ruling.keys) (view_on g) g.plan client → AreKeptIn ruling (t.clients c)
stood_kept ruling service g t client c number stands seated going held =
    its_kept ruling g t client c number (served service g t client stands seated going) held

pub turning_kept : (ruling : Ruling) (service : Serving) (default : List ℕ) (first : Client) (from : Tale) (g : Ground) (t : Tabled) (client : Client)
    (c : ClientNo) → client.number ≡ c → IsTurning service default first from g t client
    → AreKnownHeld (keys_since ruling.since ruling.keys) (view_on g) g.plan client → AreKeptIn ruling (t.clients c)
turning_kept ruling service default first from g t client c number turning held =
    stood_kept ruling service g t client c number turning.taking.stands turning.taking.seated turning.going held

-- It is known by the replies alone.

module _ (x y : View) (same : y.replies ≡ x.replies) (plan : Plan) (client : Client) where
  prepared_alike : (number i : ℕ) (ms : List Framed) → prepared_by y plan client number i ms ≡ prepared_by x plan client number i ms
  prepared_alike number i [] = refl
  prepared_alike number i (message ∷ ms) =
      λ j. option_or (prepared_in number i message.payload (plan.routes (name_of client i)) (same j (name_of client i)))
      (prepared_alike number (suc i) ms j)

  pub held_alike : (keys : (number : ℕ) → Option Key) → AreKnownHeld keys x plan client → AreKnownHeld keys y plan client
  held_alike keys held number made some is =
      held number made some
      (ap (option_and_then (λ (p : Prepared). if is_live plan client number (suc client.taken) p then Some p else None))
      (sym (prepared_alike number 1 (messages plan client))) ∙ is)

-- As an entry was told that read nothing of it.
module _ (keys : (number : ℕ) → Option Key) (service : Serving) (g : Ground) (t mid : Tabled) (fresh : ClientNo → Bool) (e : Entry) (freed : Tale)
    (x : Client) (first : links_are_freed g.setup g.plan (told_then g.setup g.plan g.tale e) ≡ freed) (was : Stands service g t)
    (now : Stands service (to_look g fresh freed) mid) (seated : IsSeated g.tale x) (still : IsSeated freed x) (going : g.over x.number ≡ false)
    (within : x.taken ≤ length (messages g.plan x)) (held : IsHeld keys g.setup g.plan g.tale x) where
  its_was : HasRow g t x
  its_was = served service g t x was seated going

  its_now : HasRow (to_look g fresh freed) mid x
  its_now = served service (to_look g fresh freed) mid x now still going

  stays : (m : MessageName) (reply : Reply) → (view_of g.setup g.tale).replies m ≡ Some reply → (view_of g.setup freed).replies m ≡ Some reply
  stays m reply there =
      subst (λ (tale : Tale). (view_of g.setup tale).replies m ≡ Some reply) first
      (told_replies g.setup g.plan g.tale e (subst (λ (tale : Tale). IsLawful g.setup tale.story) (sym first) now.lawful) m reply there)

  owns : (m : MessageName) → is_some (own_at g.plan g.tale.moment m) ≡ true → is_some (own_at g.plan freed.moment m) ≡ true
  owns m =
      let later : freed.moment ≡ suc g.tale.moment = ap (λ (tale : Tale). tale.moment) (sym first) ∙ told_moment g.setup g.plan g.tale e in
      owned g.tale.moment freed.moment (g.plan.own m) (omega (arith, later))

  pub told_held : AreKnownHeld keys (view_of g.setup freed) g.plan x
  told_held =
      (held_on keys g.setup g.plan g.tale freed x x (record {
        number = refl;
        more = [];
        all = sym (append-nil (messages g.plan x));
        within = within;
        taken = omega arith;
        stays = stays;
        owns = owns;
        unserved = its_now.prepared.unserved;
        to_come = λ k later. its_now.is.coming.unanswered k (omega (arith, later));
        earlier = its_was.going.earlier;
        fresh = λ k route later upto routed some. absurd (omega (arith, later, upto));
      }) (λ some. held)).known

-- Before an entry.

pub held_before : (keys : (number : ℕ) → Option Key) (d : Decided) (setup : Setup) (plan : Plan) (tale : Tale) (x : Client) → AreHeld keys d setup plan tale
    → IsSeated tale x → is_some (d.ends x.number) ≡ false → IsHeld keys setup plan tale x
held_before keys d setup plan tale x held seated going =
    seated_of (λ (y : Client). is_some (d.ends y.number) ≡ false → IsHeld keys setup plan tale y) tale x seated held going

-- and where one client goes on with it
pub follow_held : (keys : (number : ℕ) → Option Key) (service : Serving) (default : List ℕ) (setup : Setup) (codes : Codes) (plan : Plan) (d : Decided) (log : Log)
    (t mid : Tabled) (fresh : ClientNo → Bool) (e : Entry) (x : Client) (freed : Tale) (choices : List Choice) (halt : Halt) (parting : Parting)
    → IsFollowing service default (ground setup codes plan d log) e x freed choices halt parting
    → Stands service (to_look (ground setup codes plan d log) fresh freed) mid → Stands service (ground setup codes plan d log) t
    → IsSeated (tale_of setup plan log) x → AreHeld keys d setup plan (tale_of setup plan log)
    → AreKnownHeld keys (view_of setup freed) plan x
follow_held keys service default setup codes plan d log t mid fresh e x freed choices halt parting following now was seated held =
    let g : Ground = ground setup codes plan d log in
    told_held keys service g t mid fresh e freed x following.of_one.first was now seated
    (seated_first service default g mid fresh e x freed choices halt parting following now) following.going
    (seated_of (IsWithin setup plan) (tale_of setup plan log) x seated (within_of setup plan log))
    (held_before keys d setup plan (tale_of setup plan log) x held seated following.going)

-- As it stood then its row has them.
pub before_kept : (ruling : Ruling) (service : Serving) (setup : Setup) (codes : Codes) (plan : Plan) (d : Decided) (log : Log) (t : Tabled) (x : Client)
    (c : ClientNo) → x.number ≡ c → Stands service (ground setup codes plan d log) t → IsSeated (tale_of setup plan log) x
    → is_some (d.ends x.number) ≡ false → AreHeld (keys_since ruling.since ruling.keys) d setup plan (tale_of setup plan log)
    → AreKeptIn ruling (t.clients c)
before_kept ruling service setup codes plan d log t x c number stands seated going held =
    stood_kept ruling service (ground setup codes plan d log) t x c number stands seated going
    (held_before (keys_since ruling.since ruling.keys) d setup plan (tale_of setup plan log) x held seated going).known
