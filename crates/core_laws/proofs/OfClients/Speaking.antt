-- Bytes come on a client's link.
use Rattle.std.specs.Prelude.{◌≡◌, ◌≤◌, ◌||◌, ◌++◌, ℕ, suc, Bool, true, false, All, if◌then◌else◌, map, List, [], ◌∷◌}
use Rattle.std.proofs.Common.{refl, sym, ap, ◌∙◌, subst}
use Rattle.std.proofs.lemmas.List.Elements.{All-map, All-weaker}
use Rattle.mx_base.specs.declared.names.LinkId.{LinkId}
use Rattle.mx_wire.specs.declared.entry.Entry.{Entry}
use Rattle.mx_wire.specs.declared.entry.Entry.TheVariants.{Got}
use Rattle.client_session.specs.Setups.{Setup as Service}
use Rattle.private_model.proofs.Maps.{client_of, same_link}
use Rattle.private_model.specs.Names.{ClientNo}
use Rattle.private_model.specs.Story.{is_client, is_link_id}
use Rattle.log_story.specs.Owed.{name_of}
use Rattle.log_story.specs.Tale as tales
use Rattle.log_story.specs.Tale.{Tale, client_hears, counted, is_to_server}
use Rattle.log_story.specs.Telling.{server_says, tale_step, told}
use Rattle.step_laws.proofs.Apart.{freed_apart}
use Rattle.step_laws.proofs.Giving.{kept_in}
use Rattle.step_laws.proofs.Others.{idle_by}
use Rattle.step_laws.specs.Freed.{freed_in}
use Rattle.step_laws.specs.Seats.{IsSeated, is_its, seats}
use Rattle.step_laws.specs.Steps.{ends_now}
use Rattle.step_laws.specs.Taken.{IsIdle}
use Rattle.core_tables.specs.Tables.{Tabled}
use Rattle.core_stands.specs.Grounds.{Ground, freshened, on}
use Rattle.core_stands.specs.Stands.{Rests, Stands}
use Rattle.core_laws.proofs.OfArrival.Finding.{client-same, client-true, false-true}
use Rattle.core_laws.proofs.OfEntry.Looping.{taking_begins}
use Rattle.core_laws.proofs.OfEntry.Uneventful.{all_spared}
use Rattle.core_laws.specs.entry.Entries.{AreCalmToo, AreSpared, TellsOf, behind}
use Rattle.core_laws.specs.entry.Kinds.{IsStill}
use Rattle.core_laws.specs.clients.Chosen.{IsLookedFor, IsStanding, IsTurning, PlanHas, StandsBehind}
use Rattle.core_laws.specs.clients.Speaks.{IsSpeech, SpeaksSo, goes_on, spoke_more, spoken}
use Rattle.core_laws.specs.clients.Turns.{Choice, Ends, Halt, Quits, Rests as Resting, Waits}

pub looked_for : (halt : Halt) (service : Service) (first : tales.Client) (from : Tale) (taken : ℕ) (g : Ground) (c : ClientNo) (now : Tabled)
    → goes_on halt ≡ true → StandsBehind halt service first from taken g c now → IsLookedFor service first from taken g c now
looked_for Waits service first from taken g c now goes is = is
looked_for Resting service first from taken g c now goes is = is
looked_for Quits service first from taken g c now goes is = false-true false refl goes
looked_for Ends service first from taken g c now goes is = false-true false refl goes

module _ (service : Service) (default : List ℕ) (g : Ground) (t now : Tabled) (roomy : ClientNo → Bool) (link : LinkId) (bytes : List ℕ)
    (client : tales.Client) (choices : List Choice) (halt : Halt) (links : List LinkId) (rests : Rests service g t roomy)
    (is : IsSpeech default g link bytes client choices halt links) (so : SpeaksSo service default link bytes client choices halt links t now) where
  abbrev e : Entry
  e = Got link bytes

  abbrev c : ClientNo
  c = client.number

  abbrev said : tales.Client
  said = spoke_more bytes client

  abbrev heard : Tale
  heard = told g.setup g.plan g.tale e

  abbrev made : Tale
  made = record g.tale { clients = map (client_hears link bytes) g.tale.clients }

  pub said_is : client_hears link bytes client ≡ said
  said_is = ap (λ (b : Bool). if b then said else client) (ap (λ (l : LinkId). is_link_id l link) is.speaks.its_link ∙ same_link link)

  told_is : heard ≡ made
  told_is = ap (λ (b : Bool). if b then server_says g.setup g.plan link bytes g.tale else made) is.speaks.aside

  moment_is : heard.moment ≡ g.tale.moment
  moment_is = ap (λ (tale : Tale). tale.moment) told_is

  -- nothing else is decided

  abbrev fresher : Tale → Ground
  fresher tale = freshened c (on g tale)

  still_by : (x : tales.Client) → IsStill g x → (b : Bool) → IsStill (fresher made) (if b then spoke_more bytes x else x)
  still_by x still true = record { keeps = still.keeps; word = still.word }
  still_by x still false = record { keeps = still.keeps; word = still.word }

  pub still_then : All (IsStill (fresher heard)) heard.clients
  still_then =
      subst (λ (tale : Tale). All (IsStill (fresher tale)) tale.clients) (sym told_is)
      (All-map (IsStill (fresher made)) (client_hears link bytes) g.tale.clients
      (All-weaker (IsStill g) (λ (x : tales.Client). IsStill (fresher made) (client_hears link bytes x))
      (λ x still. still_by x still (is_link_id x.link link)) g.tale.clients is.calm.still))

  -- it begins

  pub begins : Stands service (fresher (counted heard)) so.heard → IsSeated (counted heard) said
      → IsTurning service default said (counted heard) (fresher (counted heard)) so.heard said
  begins stands seated = record {
    taking = taking_begins service (fresher (counted heard)) so.heard said stands seated;
    classes = is.classes;
    let_in = record { account = is.let_in.account; place = is.let_in.place };
    going = is.speaks.going;
    unrouted = is.unrouted;
  }

  pub chosen : PlanHas choices halt g.setup.keys g.plan (counted heard).moment (name_of said (suc said.taken))
  chosen = subst (λ (m : ℕ). PlanHas choices halt g.setup.keys g.plan (suc m) (name_of said (suc said.taken))) (sym moment_is) is.chosen

  -- it is behind its turns

  module _ (taken : ℕ) (behind_turns : IsLookedFor service said (counted heard) taken (fresher (counted heard)) c so.turned) where
    abbrev standing : IsStanding service said (counted heard) taken (fresher (counted heard)) so.turned
    standing = behind_turns.standing

    unfreshed : (other : ClientNo) (b : Bool) → is_client c other ≡ b → standing.fresh other ≡ false
    unfreshed other true its = ap standing.fresh (sym (client-true c other its)) ∙ behind_turns.looked
    unfreshed other false aside = standing.unlooked other (ap (λ (b : Bool). b || g.fresh other) aside ∙ rests.looked other)

    same_fresh : standing.fresh ≡ g.fresh
    same_fresh = λ i. λ other. (unfreshed other (is_client c other) refl ∙ sym (rests.looked other)) i

    pub stands_spoken : Stands service (on g (spoken g link bytes client)) so.turned
    stands_spoken =
        subst (λ (tale : Tale). Stands service (on g tale) so.turned) (sym standing.all)
        (subst (λ (fresh : ClientNo → Bool). Stands service (record g { tale = standing.tale; fresh = fresh }) so.turned) same_fresh standing.taking.stands)

    -- nothing of it is up behind the entry

    abbrev last : Tale
    last = freed_in g.setup g.plan links (spoken g link bytes client)

    pub idle_last : tale_step g.setup g.plan g.tale e ≡ last → AreCalmToo (is_its said) (behind g e g.over) roomy
    idle_last step x seated its going full =
        let clients_are : last.clients ≡ (spoken g link bytes client).clients =
        kept_in g.setup g.plan (λ (tale : Tale). tale.clients) (λ story tale. refl) links (spoken g link bytes client) in
        let number : x.number ≡ standing.client.number = client_of x.number c its ∙ sym standing.taking.number in
        let seats_are : seats (tale_step g.setup g.plan g.tale e) x.number ≡ standing.client ∷ [] =
        ap (λ (tale : Tale). seats tale x.number) step
        ∙ (λ i. seats (record last { clients = clients_are i }) (number i))
        ∙ ap (λ (tale : Tale). seats tale standing.client.number) standing.all ∙ standing.taking.seated in
        let both : x ∷ [] ≡ standing.client ∷ [] = sym seated ∙ seats_are in
        let same : x ≡ standing.client = cc in
        let idle : IsIdle g.setup g.plan last standing.client =
        idle_by g.setup g.plan standing.client (spoken g link bytes client) last
        (freed_apart g.setup g.plan standing.client links (spoken g link bytes client)).up
        (subst (λ (tale : Tale). IsIdle g.setup g.plan tale standing.client) (sym standing.all) standing.idle) in
        subst (λ (tale : Tale). IsIdle g.setup g.plan tale x) (sym step)
        (subst (λ (y : tales.Client). IsIdle g.setup g.plan last y) (sym same) idle)

  -- others

  pub tells : TellsOf (is_its said) g.tale e
  tells =
      All-weaker (λ (x : tales.Client). is_link_id x.link link ≡ true → x.number ≡ c) (λ (x : tales.Client). is_link_id x.link link ≡ true → is_its said x.number ≡ true)
      (λ x alone its. client-same x.number c (alone its)) g.tale.clients is.speaks.alone

  pub spared : AreSpared (is_its said) g e
  spared = all_spared (is_its said) g e is.calm (λ other to_server. false-true (is_to_server g.tale link) is.speaks.aside to_server)

  or_none : (a b : Bool) → b ≡ false → a ≡ (a || b)
  or_none true b none = refl
  or_none false b none = sym none

  pub endless_then : All (λ (x : tales.Client). ends_now g.plan (counted heard).moment x.number ≡ false) heard.clients
  endless_then =
      subst (λ (m : ℕ). All (λ (x : tales.Client). ends_now g.plan (suc m) x.number ≡ false) heard.clients) (sym moment_is)
      (All-weaker (IsStill (fresher heard)) (λ (x : tales.Client). ends_now g.plan (suc g.tale.moment) x.number ≡ false)
      (λ x still. is.calm.endless x.number) heard.clients still_then)

  pub ends_same : (other : ClientNo) → g.over other ≡ (g.over other || ends_now g.plan (suc g.tale.moment) other)
  ends_same other = or_none (g.over other) (ends_now g.plan (suc g.tale.moment) other) (is.calm.endless other)
