-- How the row of a client that comes stands for it.
use Rattle.std.specs.Prelude.{◌≡◌, ◌≤◌, ℕ, zero, suc, Bool, true, false, ◌||◌, nat_le, if◌then◌else◌, List, [], ◌∷◌, ◌++◌, Some, None}
use Rattle.std.specs.Option.{option_and_then, option_map}
use Rattle.std.proofs.Common.{◌∙◌, refl, sym, ap, subst, arith, append-nil}
use Rattle.std.proofs.lemmas.Bool.{le-leb, true≢false}
use Rattle.mx_base.specs.declared.names.LinkId.{LinkId}
use Rattle.mx_base.specs.declared.names.Port.{Port}
use Rattle.packet_frame.specs.Laws.{first_message-empty}
use Rattle.client_side.specs.Login.{Opening, Waits, by_message, greeting_said, login_limit, opening}
use Rattle.client_session.specs.Answers.{front_in}
use Rattle.client_session.specs.Setups.{Setup as Service}
use Rattle.private_model.proofs.Maps.{same_number}
use Rattle.private_model.specs.Names.{ClientNo}
use Rattle.private_model.specs.Story.{is_client}
use Rattle.log_story.specs.Clients.{is_answered}
use Rattle.log_story.specs.Owed.{due_until, talk_of, with_word}
use Rattle.log_story.specs.Plan.{LastWord, Route, word_at}
use Rattle.log_story.specs.Tale as tales
use Rattle.stmt_map.specs.declared.client.ClientStatements.{ClientStatements}
use Rattle.client_seat.specs.Seats.{away_bytes, new_seat, turned_away}
use Rattle.client_seat.specs.declared.phase.Phase.TheVariants as phase
use Rattle.core_tables.specs.Arrivals.{came, newcomer}
use Rattle.core_tables.specs.Tables.{IsSame, Tabled}
use Rattle.core_tables.specs.declared.client.ClientNote.{ClientNote}
use Rattle.core_stands.specs.Clients.{IsClient, IsOwing}
use Rattle.core_stands.specs.Grounds.{Ground, ending, view_on}
use Rattle.core_stands.specs.Stands.{Stands}
use Rattle.core_laws.specs.arrival.Comes.{IsComing, IsUnseen, accepted, away_word, newest}
use Rattle.core_laws.proofs.OfArrival.Changing.{InWork, RowsStay}
use Rattle.core_laws.proofs.OfArrival.Coming.{AreSeated, CountsOn, comes-so}
use Rattle.core_laws.proofs.OfArrival.Finding.{none-some}
use Rattle.core_laws.proofs.OfArrival.Grounding.{Aside, regrounded}
use Rattle.client_seat.specs.Numbers.{number_in}

-- nothing was read yet
nothing-read : (limit : ℕ) → opening limit [] ≡ Waits false
unfolding opening
nothing-read limit = ap (by_message limit) (first_message-empty (login_limit limit) 1)

module _ (g : Ground) (by : Aside) (port : Port) (link : LinkId) (salt : List ℕ) (statements : ClientStatements) (note : ClientNote)
    (unseen : IsUnseen g (newest g port link salt)) where
  abbrev new : tales.Client
  new = newest g port link salt

  abbrev after : Ground
  after = regrounded by g

  -- served

  greeted-so : (fresh : Bool) → IsOwing phase.LoggingIn fresh after new (new_seat link new.number salt port g.plan.service statements)
  greeted-so true = tt
  greeted-so false =
      let said = greeting_said new.number.0 salt g.plan.service.version in
      record {
        written = [];
        size = refl;
        all = ap (λ (at : Opening). front_in (talk_of g.plan new) at ++ []) (nothing-read g.plan.service.limit)
            ∙ append-nil (said ++ []) ∙ append-nil said;
      }

  pub served-so : by.over new.number ≡ false → IsClient after new (newcomer (new_seat link new.number salt port g.plan.service statements) note)
  served-so going = record {
    who = record { link = refl; number = refl; port = refl; salt = refl; drained = refl };
    heard = record {
      limit = refl;
      untaken = refl;
      arrived = refl;
      written = [];
      size = refl;
      login = (record { unfound = refl; faultless = refl }, refl, sym (append-nil (greeting_said new.number.0 salt g.plan.service.version)));
    };
    owed = greeted-so (by.fresh new.number);
    desk = record { number = refl; sessions = unseen.sessions; place = tt; work = tt; row = tt };
    coming = unseen.coming;
    phase = record {
      going = going;
      earlier = λ ordinal below. absurd (omega arith);
      answered = refl;
      went = sym (ap (option_map (λ (route : Route). route.hostgroup)) unseen.unrouted);
      busy = refl;
      working = refl;
      unmoved = λ at. unseen.place;
      account = λ login is. none-some None login refl is;
      collation = λ login is. none-some None login refl is;
    };
  }

  -- turned away

  answered-none : (ordinal : ℕ) → ordinal ≤ 0 → is_answered g.plan after.tale (view_on after) new ordinal ≡ true
  answered-none zero below = refl
  answered-none (suc n) below = absurd (omega arith)

  pub away-so : by.over new.number ≡ true → word_at g.plan by.moment new.number ≡ Some (away_word by.moment)
      → IsClient after new (newcomer (turned_away link new.number salt port statements) note)
  away-so over word = record {
    who = record { link = refl; number = refl; port = refl; salt = refl; drained = refl };
    heard = tt;
    owed = record {
      written = [];
      size = refl;
      front = record {
        rest = [];
        is =
            append-nil away_bytes ∙ sym (append-nil away_bytes)
            ∙ ap (with_word (talk_of g.plan new) (due_until (view_on after).replies g.plan by.moment new)) (sym word);
      };
    };
    desk = record { number = refl; sessions = unseen.sessions; place = tt; work = tt; row = tt };
    coming = unseen.coming;
    phase = record { over = over; idle = refl; told = λ some ordinal below. answered-none ordinal below; homeless = λ h. refl };
  }

-- The tables stand for the tale then.

pub come-so : CountsOn → AreSeated → InWork → RowsStay → (service : Service) (g : Ground) (t now : Tabled) (port : Port) (link : LinkId) (salt : List ℕ)
    (statements : ClientStatements) (note : ClientNote) → Stands service g t → IsComing g port link salt
    → ((number : ℕ) → number_in statements number ≡ None)
    → IsSame now (came (newest g port link salt).number link (new_seat link (newest g port link salt).number salt port service statements) note t)
    → Stands service (accepted port link salt g) now
come-so counts seats in_work stay service g t now port link salt statements note was comes none same =
    let by : Aside = record {
      moment = suc g.tale.moment;
      clients = g.tale.clients ++ newest g port link salt ∷ [];
      over = g.over;
      fresh = g.fresh;
    } in
    let own = served-so g by port link salt statements note comes.unseen comes.unseen.going in
    comes-so counts seats in_work stay service g t now port link salt (new_seat link (newest g port link salt).number salt port service statements) note g.over was comes same
    (λ x apart. refl) (λ n is. is) (λ on. none)
    (subst (λ (s : Service). IsClient (regrounded by g) (newest g port link salt) (newcomer (new_seat link (newest g port link salt).number salt port s statements) note)) was.service_is own)

or-true : (a b : Bool) → b ≡ true → a || b ≡ true
or-true true b is = refl
or-true false b is = is

word-now : (g : Ground) (c : ClientNo) (word : LastWord) → g.plan.words c ≡ Some word → word.from ≡ suc g.tale.moment
    → word_at g.plan (suc g.tale.moment) c ≡ Some word
word-now g c word is from =
    ap (option_and_then (λ (w : LastWord). if nat_le w.from (suc g.tale.moment) then Some w else None)) is
    ∙ ap (λ (b : Bool). if b then Some word else None) (le-leb word.from (suc g.tale.moment) (omega (arith, from)))

pub away-comes-so : CountsOn → AreSeated → InWork → RowsStay → (service : Service) (g : Ground) (t now : Tabled) (port : Port) (link : LinkId) (salt : List ℕ)
    (statements : ClientStatements) (note : ClientNote) → Stands service g t → IsComing g port link salt
    → g.plan.words (newest g port link salt).number ≡ Some (away_word (suc g.tale.moment))
    → IsSame now (came (newest g port link salt).number link (turned_away link (newest g port link salt).number salt port statements) note t)
    → Stands service (ending (newest g port link salt).number (accepted port link salt g)) now
away-comes-so counts seats in_work stay service g t now port link salt statements note was comes word same =
    let c = (newest g port link salt).number in
    let ended : ClientNo → Bool = λ other. is_client c other || g.over other in
    let by : Aside = record {
      moment = suc g.tale.moment;
      clients = g.tale.clients ++ newest g port link salt ∷ [];
      over = ended;
      fresh = g.fresh;
    } in
    comes-so counts seats in_work stay service g t now port link salt (turned_away link c salt port statements) note ended was comes same
    (λ x apart. ap (λ (b : Bool). b || g.over x.number) apart) (λ n is. or-true (is_client c n) (g.over n) is)
    (λ on. absurd (true≢false on))
    (away-so g by port link salt statements note comes.unseen (ap (λ (b : Bool). b || g.over c) (same_number c.0))
    (word-now g c (away_word (suc g.tale.moment)) word refl))
