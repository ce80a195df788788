-- Each plan that has what is decided at an entry has its deeds.
use Rattle.std.specs.Prelude.{◌≡◌, ◌<◌, ◌≤◌, ◌+◌, ◌&&◌, ◌||◌, ℕ, suc, Bool, true, false, All, not, is_some, nat_eq, nat_le, if◌then◌else◌, length, slice_index_or, List, [], ◌∷◌, Option, Some, None}
use Rattle.std.specs.Option.{option_and_then, option_map, option_map_or, option_or}
use Rattle.std.proofs.Common.{refl, sym, ap, ◌∙◌, subst, arith}
use Rattle.std.proofs.lemmas.Bool.{eqb-true, le-leb, leb-false, leb-true, lt-leb}
use Rattle.std.proofs.lemmas.List.Elements.{All-weaker}
use Rattle.mx_wire.specs.Log.{Log, accepted_links}
use Rattle.mx_wire.specs.Tells.{Fits as FitsLog, MayFollow}
use Rattle.mx_wire.specs.declared.entry.Entry.{Entry}
use Rattle.mx_wire.specs.declared.entry.Entry.TheVariants.{Opened}
use Rattle.server_side.specs.Account.{Account as Login}
use Rattle.private_model.specs.Commands.{Reply}
use Rattle.private_model.specs.Names.{ClientNo, LinkId}
use Rattle.private_model.specs.Story.{is_link_id}
use Rattle.private_model.specs.View.{Setup}
use Rattle.link_laws.specs.Stands.{Codes}
use Rattle.log_story.specs.Headline.{tale_of}
use Rattle.log_story.specs.Owed.{name_of}
use Rattle.log_story.specs.Plan.{OwnAnswer, Plan, gives_up, own_at, word_at}
use Rattle.log_story.specs.Tale.{Client}
use Rattle.step_laws.specs.Steps.{ends_now}
use Rattle.tale_world.specs.Decided.{Decided}
use Rattle.core_stands.specs.Grounds.{Ground, view_on}
use Rattle.core_laws.specs.clients.Chosen.{PlanHas}
use Rattle.core_laws.specs.clients.Turns.{Choice, Halt, Rests}
use Rattle.core_laws.specs.entry.Calms.{EndNow}
use Rattle.core_laws.specs.entry.Cores.{with_entry}
use Rattle.core_laws.specs.entry.Dues.{AreSilent}
use Rattle.core_laws.specs.entry.Kinds.{IsStill, IsUneventful}
use Rattle.core_laws.specs.entry.Tells.{Fits, IsOf, ground}
use Rattle.router_laws.proofs.OfDecisions.Fates.{IsKeyedBy, false_true, told_keyed}
use Rattle.router_laws.proofs.OfDecisions.Keeping.{begun_among, login_among, more_known}
use Rattle.router_laws.proofs.OfDecisions.Listing.{counted_below, is_tale_of, opened_new}
use Rattle.router_laws.proofs.OfDecisions.Planning.{chosen_so, ends_so, given_so, login_so, nowhere_so, over_so, own_so, says_so, step_so, word_none, word_so, word_stays}
use Rattle.router_laws.proofs.OfDecisions.Recording.{one_more}
use Rattle.router_laws.specs.decisions.Deeds.{AreToldBy, Counts, Deeds, IsToldBy, Word, among, decided_by, decided_with, ends_by, ends_in, is_opened, known_with, login_at, said_at, word_of}
use Rattle.router_laws.specs.decisions.Plans.{AreUngiven, AreUnreplied, EndsNone, HasDeeds, KeepsAnswers, HasNewcomer, PlansSo}
use Rattle.router_laws.specs.decisions.Records.{AreCountsOf, IsRecorded, IsStranger}

going_is : {A : Type 0} (o : Option A) → is_some o ≡ false → o ≡ None
going_is None e = refl
going_is (Some x) e = false_true true e refl

-- the login is that of a link that is new
login_new : (log : Log) (e : Entry) (deeds : Deeds) (l : LinkId) (login : Login) → FitsLog log e → login_at e deeds l ≡ Some login → is_opened l log ≡ false
login_new log (Opened server address link) deeds l login fits is = by (is_link_id l link) refl is where
  by : (b : Bool) → is_link_id l link ≡ b → (if b then deeds.login else None) ≡ Some login → is_opened l log ≡ false
  by true same has =
      let number : l.0 ≡ link.0 = eqb-true l.0 link.0 same in
      let its : link ≡ l = (λ i. record { 0 = sym number i }) in
      subst (λ (x : LinkId). is_opened x log ≡ false) its (opened_new log link fits.above)
  by false other has = let both : None ≡ Some login = has in absurd (cc)
login_new log e deeds l login fits is = let both : None ≡ Some login = is in absurd (cc)

module _ (default : List ℕ) (d : Decided) (n : Counts) (log : Log) (e : Entry) (all : Deeds) (setup : Setup) (codes : Codes) (plan : Plan)
    (recorded : IsRecorded d n log) (may : MayFollow log e) (of : IsOf (decided_with all n log e d) (length (with_entry log e)) plan)
    (fits : Fits d.keys setup codes plan default (tale_of setup plan log)) (counts : AreCountsOf n (tale_of setup plan log))
    (told : AreToldBy d.keys all) (ungiven : AreUngiven (ground setup codes plan d log) (λ c. is_some (all.given c))) where
  abbrev g : Ground
  g = ground setup codes plan d log

  abbrev known : ℕ
  known = known_with log e

  abbrev deeds : Deeds
  deeds = among known all

  abbrev moment : ℕ
  moment = g.tale.moment

  abbrev now : ℕ
  now = suc moment

  before : length log ≡ moment
  before = sym (is_tale_of setup plan log).moment

  of_now : IsOf (decided_by deeds n log e now d) now plan
  of_now = subst (λ (k : ℕ). IsOf (decided_by deeds n log e k d) k plan) (one_more log e ∙ ap suc before) of

  -- clients that came

  module _ (c : ClientNo) (came : nat_le c.0 known ≡ true) where
    same_given : deeds.given c ≡ all.given c
    same_given = ap (λ (b : Bool). if b then all.given c else None) came

    same_calls : deeds.calls c ≡ all.calls c
    same_calls = ap (λ (b : Bool). if b then all.calls c else []) came

    same_halts : deeds.halts c ≡ all.halts c
    same_halts = ap (λ (b : Bool). if b then all.halts c else Rests) came

    same_ends : ends_in deeds c ≡ ends_in all c
    same_ends = λ i. ends_by (same_halts i) (if came i then all.ends c else None)

    ended_by : (over : Bool) → is_some (d.ends c) ≡ over → ends_now plan now c ≡ (not over && is_some (ends_in all c))
    ended_by true is = over_so d n log e deeds moment plan recorded before of_now c is
    ended_by false is =
        ends_so d n log e deeds moment plan recorded before of_now c (going_is (d.ends c) is) ∙ ap (λ (o : Option (Option Word)). is_some o) same_ends

    said_by : d.ends c ≡ None → word_at plan now c ≡ word_of all now c
    said_by going = word_so d n log e deeds moment plan recorded before of_now c going ∙ ap (said_at now) same_ends

    -- one that comes with the entry
    newcomer_by : IsStranger d n c → HasNewcomer g all c
    newcomer_by is = record {
      going = ap (λ (o : Option ℕ). is_some o) is.going;
      keeps = λ none. (own_so d n log e deeds moment plan recorded before of_now (record { client = c; ordinal = 0 })
          (let zero : n.taken c ≡ 0 = is.untaken in omega (arith, zero)) (λ i. (ap (λ (o : Option (List ℕ)). is_some o) same_given ∙ none) i && nat_eq 0 (n.taken c))).1;
      ends = ended_by false (ap (λ (o : Option ℕ). is_some o) is.going);
      says = λ word has. says_so d n log e deeds moment plan recorded before of_now c word is.going (ap (said_at now) same_ends ∙ has);
      word = said_by is.going;
    }

  module _ (client : Client) (taken : client.taken ≡ n.taken client.number) (came : nat_le client.number.0 known ≡ true)
      (open_if : is_some (all.given client.number) ≡ true → own_at plan moment (name_of client client.taken) ≡ None) where
    abbrev c : ClientNo
    c = client.number

    given_is : is_some (deeds.given c) ≡ is_some (all.given c)
    given_is = ap (λ (o : Option (List ℕ)). is_some o) (same_given c came)

    kept_by : (ordinal : ℕ) → (is_some (all.given c) && nat_eq ordinal client.taken) ≡ false
        → (is_some (deeds.given c) && nat_eq ordinal (n.taken c)) ≡ false
    kept_by ordinal kept = (λ i. given_is i && nat_eq ordinal (sym taken i)) ∙ kept

    kept_none : (ordinal : ℕ) → is_some (all.given c) ≡ false → (is_some (deeds.given c) && nat_eq ordinal (n.taken c)) ≡ false
    kept_none ordinal none = λ i. (given_is ∙ none) i && nat_eq ordinal (n.taken c)

    given_by : (payload : List ℕ) → all.given c ≡ Some payload
        → (own_at plan now (name_of client client.taken) ≡ Some (payload ∷ [])) × (gives_up plan now (name_of client client.taken) ≡ true)
    given_by payload gives =
        given_so d n log e deeds moment plan recorded before of_now (name_of client client.taken) payload taken (same_given c came ∙ gives)
        (open_if (ap (λ (o : Option (List ℕ)). is_some o) gives))

    gives_by : (given : Option (List ℕ)) → all.given c ≡ given → is_some given ≡ true → gives_up plan now (name_of client client.taken) ≡ true
    gives_by None gives some = false_true false refl some
    gives_by (Some payload) gives some = (given_by payload gives).1

    has_keys : All (IsKeyedBy setup.keys) (deeds.calls c)
    has_keys =
        subst (λ (choices : List Choice). All (IsKeyedBy setup.keys) choices) (sym (same_calls c came))
        (All-weaker (IsToldBy d.keys) (IsKeyedBy setup.keys) (told_keyed d.keys setup.keys fits.keyed) (all.calls c) (told c))

    chosen_by : is_some (d.ends c) ≡ false → PlanHas (all.calls c) (all.halts c) setup.keys plan now (name_of client (suc client.taken))
    chosen_by going =
        let has : PlanHas (deeds.calls c) (deeds.halts c) setup.keys plan now (record { client = c; ordinal = suc (n.taken c) }) =
        chosen_so d n log e deeds moment plan recorded before of_now setup.keys c fits.single has_keys (going_is (d.ends c) going) in
        let had : PlanHas (all.calls c) (all.halts c) setup.keys plan now (record { client = c; ordinal = suc (n.taken c) }) =
        subst (λ (halt : Halt). PlanHas (all.calls c) halt setup.keys plan now (record { client = c; ordinal = suc (n.taken c) })) (same_halts c came)
        (subst (λ (choices : List Choice). PlanHas choices (deeds.halts c) setup.keys plan now (record { client = c; ordinal = suc (n.taken c) })) (same_calls c came) has) in
        subst (λ (k : ℕ). PlanHas (all.calls c) (all.halts c) setup.keys plan now (record { client = c; ordinal = suc k })) (sym taken) had

    within_by : (ordinal : ℕ) → ordinal ≤ client.taken → ordinal ≤ n.taken c
    within_by ordinal within = omega (arith, within, taken)

    has_deeds : HasDeeds g all client
    has_deeds = record {
      counted = record {
        own = λ ordinal within kept.
            (own_so d n log e deeds moment plan recorded before of_now (name_of client ordinal) (within_by ordinal within) (kept_by ordinal kept)).0;
        given_up = λ payload gives. (given_by payload gives).0;
        word = λ over. word_stays d n log e deeds moment plan recorded before of_now c over;
      };
      keeps = λ none ordinal within.
          (own_so d n log e deeds moment plan recorded before of_now (name_of client ordinal) (within_by ordinal within) (kept_none ordinal none)).1;
      gives = λ some. gives_by (all.given c) refl some;
      chosen = chosen_by;
      ends = ended_by c came (is_some (d.ends c)) refl;
      word = λ going. said_by c came (going_is (d.ends c) going);
    }

  known_by : (c : ClientNo) → c.0 ≤ known → nat_le c.0 known ≡ true
  known_by c within = le-leb c.0 known within

  number_known : (client : Client) → client.number.0 < 1 + length g.tale.clients → nat_le client.number.0 known ≡ true
  number_known client less =
      let came : length g.tale.clients ≡ length (accepted_links log) = (is_tale_of setup plan log).clients in
      known_by client.number (omega (arith, less, came, more_known log e))

  stranger_by : (c : ClientNo) → known < c.0 → ends_now plan now c ≡ false
  stranger_by c less =
      let was : IsStranger d n c = recorded.strangers c (omega (arith, less, more_known log e)) in
      ends_so d n log e deeds moment plan recorded before of_now c was.going
      ∙ ap (λ (b : Bool). is_some (ends_by (if b then all.halts c else Rests) (if b then all.ends c else None))) (lt-leb c.0 known less)

  pub plans_so : PlansSo g log e all
  plans_so = record {
    each = λ k dflt within.
        has_deeds (slice_index_or g.tale.clients k dflt) (counts.taken k dflt within)
        (number_known (slice_index_or g.tale.clients k dflt) (counted_below 1 g.tale.clients (is_tale_of setup plan log).counted k dflt within)) (ungiven k dflt within);
    newcomer = λ c less within. newcomer_by c (known_by c within) (recorded.strangers c less);
    ends = λ c within. ended_by c (known_by c within) (is_some (d.ends c)) refl;
    strangers = stranger_by;
    single = fits.single;
    nowhere = λ c. nowhere_so d n log e deeds moment plan recorded before of_now c;
    login = λ l login is.
        login_so d n log e deeds moment plan recorded before of_now l login (recorded.unopened l (login_new log e all l login may.fits is)).nobody
        (login_among known e all l ∙ is);
    step = λ l step is.
        ap (plan.steps l) (counts.begun l) ∙ step_so d n log e deeds moment plan recorded before of_now l step (begun_among known log e all l ∙ is);
  }

-- Where nobody is given up and ended.

none_of : (g : Ground) (made : Deeds) (c : ClientNo) → EndsNone made → (not (g.over c) && is_some (ends_in made c)) ≡ false
none_of g made c none = ap (λ (o : Option (Option Word)). not (g.over c) && is_some o) (none.ends c) ∙ by (not (g.over c)) where
  by : (b : Bool) → (b && false) ≡ false
  by true = refl
  by false = refl

still_by : (g : Ground) (made : Deeds) (client : Client) → ((c : ClientNo) → made.given c ≡ None) → HasDeeds g made client → IsStill g client
still_by g made client none has = record {
  keeps = has.keeps (ap (λ (o : Option (List ℕ)). is_some o) (none client.number));
  word = has.counted.word;
}

pub all_still : (g : Ground) (log : Log) (e : Entry) (made : Deeds) → PlansSo g log e made → ((c : ClientNo) → made.given c ≡ None)
    → All (IsStill g) g.tale.clients
all_still g log e made so none =
    All-weaker (HasDeeds g made) (IsStill g) (λ client has. still_by g made client none has) g.tale.clients so.each

pub uneventful : (g : Ground) (log : Log) (e : Entry) (made : Deeds) → PlansSo g log e made → EndsNone made → IsUneventful g
uneventful g log e made so none = record {
  still = all_still g log e made so none.given;
  endless = endless;
} where
  endless : (c : ClientNo) → ends_now g.plan (suc g.tale.moment) c ≡ false
  endless c = by (nat_le c.0 (known_with log e)) refl where
    by : (b : Bool) → nat_le c.0 (known_with log e) ≡ b → ends_now g.plan (suc g.tale.moment) c ≡ false
    by true within = so.ends c (leb-true c.0 (known_with log e) within) ∙ none_of g made c none
    by false beyond = so.strangers c (leb-false c.0 (known_with log e) beyond)

-- Who is over behind an entry, and who has no last word.

module _ (d : Decided) (n : Counts) (log : Log) (e : Entry) (all : Deeds) (setup : Setup) (codes : Codes) (plan : Plan) (recorded : IsRecorded d n log)
    (of : IsOf (decided_with all n log e d) (length (with_entry log e)) plan) where
  abbrev made : Deeds
  made = among (known_with log e) all

  abbrev instant : ℕ
  instant = (tale_of setup plan log).moment

  was_then : length log ≡ instant
  was_then = sym (is_tale_of setup plan log).moment

  of_then : IsOf (decided_by made n log e (suc instant) d) (suc instant) plan
  of_then = subst (λ (k : ℕ). IsOf (decided_by made n log e k d) k plan) (one_more log e ∙ ap suc was_then) of

  pub over_then : EndNow (ground setup codes plan d log) (ground setup codes plan (decided_with all n log e d) (with_entry log e))
  over_then c = by (d.ends c) refl where
    new_is : (was : Option ℕ) → d.ends c ≡ was
        → is_some ((decided_with all n log e d).ends c) ≡ is_some (option_or was (option_map (λ (end : Option Word). length (with_entry log e)) (ends_in made c)))
    new_is was is =
        ap (λ (o : Option ℕ). is_some (option_or o (option_map (λ (end : Option Word). length (with_entry log e)) (ends_in made c)))) is

    mapped : (end : Option (Option Word)) → is_some (option_map (λ (end : Option Word). length (with_entry log e)) end) ≡ is_some end
    mapped None = refl
    mapped (Some end) = refl

    by : (was : Option ℕ) → d.ends c ≡ was
        → is_some ((decided_with all n log e d).ends c) ≡ (is_some (d.ends c) || ends_now plan (suc instant) c)
    by None is =
        new_is None is ∙ mapped (ends_in made c) ∙ sym (ends_so d n log e made instant plan recorded was_then of_then c is)
        ∙ ap (λ (o : Option ℕ). is_some o || ends_now plan (suc instant) c) (sym is)
    by (Some at) is = new_is (Some at) is ∙ ap (λ (o : Option ℕ). is_some o || ends_now plan (suc instant) c) (sym is)

pub silent_at : (d : Decided) (n : Counts) (log : Log) (plan : Plan) → IsRecorded d n log → IsOf d (length log) plan → (c : ClientNo)
    → is_some (d.ends c) ≡ false → word_at plan (length log) c ≡ None
silent_at d n log plan recorded of c going =
    word_none plan c (length log) (λ word planned. of.untold c word (recorded.silent c (going_is (d.ends c) going)) planned)

pub all_silent : (d : Decided) (n : Counts) (log : Log) (setup : Setup) (codes : Codes) (plan : Plan) → IsRecorded d n log → IsOf d (length log) plan
    → AreSilent (ground setup codes plan d log)
all_silent d n log setup codes plan recorded of = λ k dflt within going.
    ap (λ (m : ℕ). word_at plan m (slice_index_or (tale_of setup plan log).clients k dflt).number) (is_tale_of setup plan log).moment
    ∙ silent_at d n log plan recorded of (slice_index_or (tale_of setup plan log).clients k dflt).number going

-- What was answered isn't given up.

not_given : (own : Option OwnAnswer) (now : ℕ) → option_and_then (λ (answer : OwnAnswer). if nat_le answer.from now then Some answer.payloads else None) own ≡ None
    → option_map_or (λ (answer : OwnAnswer). nat_eq answer.from now) own false ≡ false
not_given None now none = refl
not_given (Some answer) now none = by (nat_eq answer.from now) refl where
  by : (b : Bool) → nat_eq answer.from now ≡ b → b ≡ false
  by false is = refl
  by true is =
      let same : answer.from ≡ now = eqb-true answer.from now is in
      let early : nat_le answer.from now ≡ true = le-leb answer.from now (omega (arith, same)) in
      let some : option_and_then (λ (a : OwnAnswer). if nat_le a.from now then Some a.payloads else None) (Some answer) ≡ Some answer.payloads =
      ap (λ (b : Bool). if b then Some answer.payloads else None) early in
      let both : None ≡ Some answer.payloads = sym none ∙ some in absurd (cc)

keeps_by : (g : Ground) (made : Deeds) (client : Client) → HasDeeds g made client
    → (is_some (made.given client.number) ≡ true → (view_on g).replies (name_of client client.taken) ≡ None) → KeepsAnswers g client
keeps_by g made client has unreplied = record { given = given; word = has.counted.word } where
  given : (ordinal : ℕ) (reply : Reply) → ordinal ≤ client.taken → (view_on g).replies (name_of client ordinal) ≡ Some reply
      → own_at g.plan g.tale.moment (name_of client ordinal) ≡ None → gives_up g.plan (suc g.tale.moment) (name_of client ordinal) ≡ false
  given ordinal reply within there none = by (is_some (made.given client.number)) (nat_eq ordinal client.taken) refl refl where
    by : (a b : Bool) → is_some (made.given client.number) ≡ a → nat_eq ordinal client.taken ≡ b
        → gives_up g.plan (suc g.tale.moment) (name_of client ordinal) ≡ false
    by false b gives last = has.keeps gives ordinal within
    by true false gives last =
        not_given (g.plan.own (name_of client ordinal)) (suc g.tale.moment)
        (has.counted.own ordinal within (λ i. gives i && last i) ∙ none)
    by true true gives last =
        let same : ordinal ≡ client.taken = eqb-true ordinal client.taken last in
        let unread : (view_on g).replies (name_of client ordinal) ≡ None =
        ap (λ (k : ℕ). (view_on g).replies (name_of client k)) same ∙ unreplied gives in
        let both : None ≡ Some reply = sym unread ∙ there in absurd (cc)

pub all_kept : (g : Ground) (log : Log) (e : Entry) (made : Deeds) → PlansSo g log e made → AreUnreplied g (λ c. is_some (made.given c))
    → All (KeepsAnswers g) g.tale.clients
all_kept g log e made so unreplied = λ k dflt within.
    keeps_by g made (slice_index_or g.tale.clients k dflt) (so.each k dflt within) (unreplied k dflt within)

pub still_kept : (g : Ground) → All (IsStill g) g.tale.clients → All (KeepsAnswers g) g.tale.clients
still_kept g still =
    All-weaker (IsStill g) (KeepsAnswers g) (λ client is. record { given = λ ordinal reply within there none. is.keeps ordinal within; word = is.word })
    g.tale.clients still
