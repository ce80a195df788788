-- What is noted of messages is so, and stays so.
use Rattle.std.specs.Prelude.{◌≡◌, ◌<◌, ◌++◌, ◌||◌, ◌&&◌, ℕ, Bool, true, false, All, is_some, nat_eq, nat_le, if◌then◌else◌, length, List, [], ◌∷◌, Option, Some}
use Rattle.std.specs.List.{list_any}
use Rattle.std.proofs.Common.{refl, sym, ap, ◌∙◌, subst, append_assoc, append-nil, arith}
use Rattle.std.proofs.lemmas.Bool.{le-leb, true≢false}
use Rattle.std.proofs.lemmas.List.Elements.{All-cons, All-nil}
use Rattle.std.proofs.lemmas.Option.{none-some, same_Some}
use Rattle.mx_wire.specs.Log.{Log, moment_of}
use Rattle.mx_wire.specs.declared.entry.Entry.{Entry}
use Rattle.core_service.specs.declared.service.Service.{Service}
use Rattle.client_session.specs.Setups.{Setup as Serving}
use Rattle.private_model.proofs.Maps.{client_of, same_number}
use Rattle.private_model.specs.Names.{ClientNo, MessageName}
use Rattle.private_model.specs.Story.{is_client}
use Rattle.private_model.specs.View.{Setup}
use Rattle.link_laws.specs.Stands.{Codes}
use Rattle.log_story.specs.Headline.{tale_of}
use Rattle.log_story.specs.Plan.{Plan}
use Rattle.log_story.specs.Tale.{Client, Tale}
use Rattle.client_seat.specs.Seats.{is_ended}
use Rattle.client_desk.specs.declared.work.Work.{Work}
use Rattle.step_laws.specs.Seats.{IsSeated}
use Rattle.core_tables.specs.Tables.{Tabled}
use Rattle.core_tables.specs.declared.client.Client.{Client as Row}
use Rattle.core_texts.specs.Texts.{noted_at}
use Rattle.core_texts.specs.declared.noted.Noted.{Noted}
use Rattle.core_texts.specs.declared.texts.Texts.{Texts}
use Rattle.core_stands.specs.Clients.{IsClient, IsClientOr, IsPhase, IsWorkingOr}
use Rattle.core_stands.specs.Grounds.{Ground}
use Rattle.core_stands.specs.Stands.{IsAt, Stands}
use Rattle.core_laws.proofs.OfEntry.Lists.{seated_of}
use Rattle.core_laws.specs.entry.Cores.{with_entry}
use Rattle.core_laws.specs.entry.Tells.{Fits, IsOf, ground}
use Rattle.core_promises.specs.Administers.{Administered}
use Rattle.core_promises.specs.Causes.{IsLateCause, HeldUp, ShutDown, WaitedTooLong, WasTakenUp, is_taken_up}
use Rattle.router_laws.specs.decisions.Noted.{IsInWork, IsNotedOf, WasNoted, message}
use Rattle.router_laws.specs.decisions.Routers.{IsRouter}

-- What is in work is the last that its client took up.

pub record IsLast (g : Ground) (c : ClientNo) (work : Work) : Type 0 where
  pub client : Client
  pub seated : IsSeated g.tale client
  pub number : client.number ≡ c
  pub last : work.ordinal ≡ client.taken

last_by : (g : Ground) (client : Client) (row : Row) (work : Work) → row.desk.work ≡ Some work → (ended : Bool) → IsPhase ended g client row
    → work.ordinal ≡ client.taken
last_by g client row work at true phase = absurd (none-some work (sym phase.idle ∙ at))
last_by g client row work at false phase = (subst (λ (o : Option Work). IsWorkingOr g client row o) at phase.working).last

pub last_of : (service : Serving) (g : Ground) (t : Tabled) → Stands service g t → (c : ClientNo) (row : Row) (work : Work) → t.clients c ≡ Some row
    → row.desk.work ≡ Some work → IsLast g c work
last_of service g t stands c row work there at =
    let known = stands.clients.known c row there in
    let client : Client = known.0 in
    let here : t.clients client.number ≡ Some row = ap t.clients known.1.number ∙ there in
    let is : IsClient g client row =
    subst (λ (o : Option Row). IsClientOr g client o) here (seated_of (IsAt g t) g.tale client known.1.seated stands.clients.each).row in
    record {
      client = client;
      seated = known.1.seated;
      number = known.1.number;
      last = last_by g client row work at (is_ended row.desk.seat.phase) is.phase;
    }

-- So it is among what was taken up.

none_any : (f : Client → Bool) (xs : List Client) → list_any f xs ≡ false → All (λ (x : Client). f x ≡ false) xs
none_any f [] none = All-nil (λ (x : Client). f x ≡ false)
none_any f (x ∷ xs) none = by (f x) refl none (none_any f xs) where
  by : (b : Bool) → f x ≡ b → (b || list_any f xs) ≡ false → (list_any f xs ≡ false → All (λ (y : Client). f y ≡ false) xs)
      → All (λ (y : Client). f y ≡ false) (x ∷ xs)
  by true at is others = absurd (true≢false is)
  by false at is others = All-cons (λ (y : Client). f y ≡ false) x xs at (others is)

pub any_seated : (f : Client → Bool) (tale : Tale) (client : Client) → IsSeated tale client → f client ≡ true → list_any f tale.clients ≡ true
any_seated f tale client seated is = by (list_any f tale.clients) refl where
  by : (b : Bool) → list_any f tale.clients ≡ b → list_any f tale.clients ≡ true
  by true at = at
  by false none =
      absurd (true≢false (sym is ∙ seated_of (λ (x : Client). f x ≡ false) tale client seated (none_any f tale.clients none)))

taken_up : (tale : Tale) (client : Client) (c : ClientNo) (ordinal : ℕ) → IsSeated tale client → client.number ≡ c → ordinal ≡ client.taken
    → is_taken_up (record { client = c; ordinal = ordinal }) tale ≡ true
taken_up tale client c ordinal seated number last =
    any_seated (λ (x : Client). is_client x.number c && nat_le ordinal x.taken) tale client seated
    (ap (λ (b : Bool). b && nat_le ordinal client.taken) (ap (is_client client.number) (sym number) ∙ same_number client.number.0)
    ∙ le-leb ordinal client.taken (omega (arith, last)))

-- It stays so.

pub taken_later : (setup : Setup) (plan : Plan) (log : Log) (e : Entry) (m : MessageName) (by_ms : ℕ) → WasTakenUp setup plan log m by_ms
    → WasTakenUp setup plan (with_entry log e) m by_ms
taken_later setup plan log e m by_ms was = record {
  before = was.before;
  later = was.later ++ e ∷ [];
  there = ap (λ (l : Log). l ++ e ∷ []) was.there ∙ append_assoc was.before was.later (e ∷ []);
  moment = was.moment;
  taken = was.taken;
}

taken_by_now : (setup : Setup) (plan : Plan) (log : Log) (m : MessageName) (by_ms : ℕ) → by_ms ≡ moment_of log
    → is_taken_up m (tale_of setup plan log) ≡ true → WasTakenUp setup plan log m by_ms
taken_by_now setup plan log m by_ms now is =
    record { before = log; later = []; there = sym (append-nil log); moment = sym now; taken = is }

-- What is in work is noted.
module _ (service : Service) (old new : Texts) (admin : Administered) (log : Log) (t : Tabled) (roomy : ClientNo → Bool) (c : ClientNo) (one : Noted)
    (router : IsRouter service old admin log t roomy) (noted : IsNotedOf c one old new) (works : IsInWork c one.ordinal t)
    (now : one.by_ms ≡ moment_of log) where
  module _ (setup : Setup) (codes : Codes) (plan : Plan) (of : IsOf router.core.decided (length log) plan)
      (fits : Fits router.core.decided.keys setup codes plan service.default_schema (tale_of setup plan log)) where
    so : WasTakenUp setup plan log (message c one.ordinal) one.by_ms
    so =
        let g : Ground = ground setup codes plan router.core.decided log in
        let last = last_of service.setup g t (router.core.rests setup codes plan of fits).stands c works.row works.work works.there works.in_work in
        taken_by_now setup plan log (message c one.ordinal) one.by_ms now
        (taken_up (tale_of setup plan log) last.client c one.ordinal last.seated last.number (sym works.its ∙ last.last))

    each : (d : ClientNo) (x : Noted) → noted_at new d ≡ Some x → WasTakenUp setup plan log (message d x.ordinal) x.by_ms
    each d x at = by (nat_eq c.0 d.0) refl (sym (noted.noted d) ∙ at) where
      by : (b : Bool) → nat_eq c.0 d.0 ≡ b → (if b then Some one else noted_at old d) ≡ Some x
          → WasTakenUp setup plan log (message d x.ordinal) x.by_ms
      by true its is =
          subst (λ (y : Noted). WasTakenUp setup plan log (message d y.ordinal) y.by_ms) (same_Some one x is)
          (subst (λ (k : ClientNo). WasTakenUp setup plan log (message k one.ordinal) one.by_ms) (client_of c d its) so)
      by false other is = router.noted setup codes plan of fits d x is

  pub notes : IsRouter service new admin log t roomy
  notes = record {
    core = router.core;
    counts = router.counts;
    recorded = router.recorded;
    counted = router.counted;
    known = record {
      told = λ number key is. router.known.told number key (sym (noted.same number) ∙ is);
      later = λ number beyond. router.known.later number (subst (λ (last : ℕ). last < number) noted.last beyond);
    };
    lawful = router.lawful;
    open_just = router.open_just;
    rules = router.rules;
    first = router.first;
    began = router.began;
    administers = router.administers;
    spoken = router.spoken;
    waited = router.waited;
    judged = router.judged;
    held = λ setup codes plan of fits k dflt within on.
        let was = router.held setup codes plan of fits k dflt within on in
        record {
          known = λ number made some is. ap is_some (noted.same made.key) ∙ was.known number made some is;
          asked = λ route routed some is. ap is_some (noted.same route.key) ∙ was.asked route routed some is;
        };
    noted = λ setup codes plan of fits. each setup codes plan of fits;
    caused = router.caused;
    ended = router.ended;
  }

-- Of what is given up at a wake it is so.

late_as : (wait_ms now_ms : ℕ) (came : Bool) (P Q : ℕ → Type 0) → ((since : ℕ) → P since → Q since) → (payload : List ℕ)
    → IsLateCause wait_ms now_ms came P payload → IsLateCause wait_ms now_ms came Q payload
late_as wait_ms now_ms came P Q more _ (WaitedTooLong since is long) = WaitedTooLong since (more since is) long
late_as wait_ms now_ms came P Q more _ (ShutDown shut) = ShutDown shut
late_as wait_ms now_ms came P Q more _ HeldUp = HeldUp

pub late_why : {texts : Texts} {admin : Administered} (service : Service) (log : Log) (t : Tabled) (roomy : ClientNo → Bool)
    (router : IsRouter service texts admin log t roomy)
    (wait_ms now_ms : ℕ) (came : Bool) (setup : Setup) (codes : Codes) (plan : Plan) → IsOf router.core.decided (length log) plan
    → Fits router.core.decided.keys setup codes plan service.default_schema (tale_of setup plan log) → (c : ClientNo) (payload : List ℕ)
    → IsLateCause wait_ms now_ms came (WasNoted (noted_at texts) t c) payload
    → IsLateCause wait_ms now_ms came (WasTakenUp setup plan log (message c (router.counts.taken c))) payload
late_why {texts} {admin} service log t roomy router wait_ms now_ms came setup codes plan of fits c payload late =
    late_as wait_ms now_ms came (WasNoted (noted_at texts) t c) (WasTakenUp setup plan log (message c (router.counts.taken c)))
    by payload late where
      by : (since : ℕ) → WasNoted (noted_at texts) t c since → WasTakenUp setup plan log (message c (router.counts.taken c)) since
      by since was =
          let g : Ground = ground setup codes plan router.core.decided log in
          let works = was.in_work in
          let last = last_of service.setup g t (router.core.rests setup codes plan of fits).stands c works.row works.work works.there works.in_work in
          let count : last.client.taken ≡ router.counts.taken last.client.number =
          seated_of (λ (y : Client). y.taken ≡ router.counts.taken y.number) (tale_of setup plan log) last.client last.seated
          (router.counted setup codes plan of fits).taken in
          subst (λ (k : ℕ). WasTakenUp setup plan log (message c k) since)
          (sym works.its ∙ last.last ∙ count ∙ ap router.counts.taken last.number)
          (subst (WasTakenUp setup plan log (message c was.one.ordinal)) was.its (router.noted setup codes plan of fits c was.one was.noted))
