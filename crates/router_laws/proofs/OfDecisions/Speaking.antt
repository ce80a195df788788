-- With an entry's deeds what was decided to be said stays the router's own.
use Rattle.std.specs.Prelude.{◌≡◌, ◌&&◌, ℕ, suc, Bool, true, false, All, is_some, nat_eq, nat_le, if◌then◌else◌, length, List, [], ◌∷◌, Option, Some, None}
use Rattle.std.specs.Option.{option_map}
use Rattle.std.proofs.Common.{ap, inl, inr, refl, sym, ◌∙◌, subst}
use Rattle.std.proofs.lemmas.Bool.{eqb-true, leb-false, leb-true}
use Rattle.std.proofs.lemmas.List.Elements.{All-head, All-nil, All-tail, All-weaker}
use Rattle.mx_wire.specs.Log.{Log}
use Rattle.mx_wire.specs.declared.entry.Entry.{Entry}
use Rattle.server_side.specs.Account.{Account as Login}
use Rattle.client_session.specs.Setups.{Setup as Service}
use Rattle.query_rules.specs.declared.rule.Rule.{Rule}
use Rattle.private_model.proofs.Maps.{client_of}
use Rattle.private_model.specs.Names.{ClientNo, MessageName}
use Rattle.private_model.specs.Story.{Key}
use Rattle.log_story.specs.Plan.{LastWord, OwnAnswer, StepText}
use Rattle.core_texts.specs.Texts.{key_at}
use Rattle.core_texts.specs.declared.texts.Texts.{Texts}
use Rattle.own_words.specs.Own.{Answers as AnswersOwn, Fails, GivesUp, IsFailure, IsLastWord, IsOwn, IsOwnAnswer, Shows}
use Rattle.tale_world.specs.Decided.{Decided}
use Rattle.core_laws.specs.entry.Cores.{with_entry}
use Rattle.core_laws.specs.clients.Follows.{Leaves, Parting, Stays, Tells}
use Rattle.core_laws.specs.clients.Going.{GivenUp, Going, told_to}
use Rattle.core_laws.specs.clients.Turns.{Answers, Choice, Ends, Goes, Halt, Keyed, Quits, Rests, Waits}
use Rattle.router_laws.proofs.OfDecisions.Fates.{false_true, none_some}
use Rattle.router_laws.proofs.OfDecisions.Recording.{own_given, own_new, own_open, own_stays, up_with}
use Rattle.router_laws.specs.decisions.Deeds.{AreAlone, AreToldBy, Counts, Deeds, Fate, IsAlone, IsToldBy, Word, among, decided_by, decided_with, ends_by, ends_in, fate_at, fate_in, fate_of, is_quitting, known_with, no_deeds, no_fate, parting, said_at, taking, word_with}
use Rattle.router_laws.specs.decisions.Goings.{deeds_of, end_of}
use Rattle.router_laws.specs.decisions.Records.{IsRecorded, first_deciding}
use Rattle.router_laws.specs.decisions.Routers.{AreKnown}
use Rattle.router_laws.specs.decisions.Force.{rules_then}
use Rattle.router_laws.specs.decisions.Speaks.{AreGivenOurs, AreGoingOurs, AreOurs, DecidesOwn, IsEndOurs, IsOurs, IsPartingOurs}
use Rattle.private_model.specs.View.{Setup}
use Rattle.router_laws.specs.decisions.Judges.{HasKeys}

-- No copies are made.

alone_of : (rules : List Rule) (texts : Texts) (c : ClientNo) (choice : Choice) → IsOurs rules texts c choice → IsAlone choice
alone_of rules texts c (Goes route keyed) ours = ours.0
alone_of rules texts c (Answers payloads) ours = tt

pub ours_alone : (rules : List Rule) (texts : Texts) (deeds : Deeds) → AreOurs rules texts deeds → AreAlone deeds
ours_alone rules texts deeds ours c = All-weaker (IsOurs rules texts c) IsAlone (alone_of rules texts c) (deeds.calls c) (ours.calls c)

-- Texts are as they were decided.

told_of : (keys : (number : ℕ) → Option Key) (rules : List Rule) (texts : Texts) → AreKnown texts keys → (c : ClientNo) (choice : Choice)
    → IsOurs rules texts c choice → IsToldBy keys choice
told_of keys rules texts known c (Goes route keyed) ours =
    All-weaker (λ (one : Keyed). key_at texts one.number ≡ Some one.key) (λ (one : Keyed). keys one.number ≡ Some one.key)
    (λ one is. known.told one.number one.key is) keyed ours.1
told_of keys rules texts known c (Answers payloads) ours = tt

pub ours_told : (keys : (number : ℕ) → Option Key) (rules : List Rule) (texts : Texts) (deeds : Deeds) → AreKnown texts keys → AreOurs rules texts deeds
    → AreToldBy keys deeds
ours_told keys rules texts deeds known ours c =
    All-weaker (IsOurs rules texts c) (IsToldBy keys) (told_of keys rules texts known c) (deeds.calls c) (ours.calls c)

-- What a message is answered as it is taken up.

abbrev pub IsFateOurs : List Rule → ClientNo → Fate → Type 0
IsFateOurs rules c fate = (answer : OwnAnswer) → fate.own ≡ Some answer → IsOwn rules c answer.payloads

answer_ours : (rules : List Rule) (c : ClientNo) (payloads : List (List ℕ)) → IsOwnAnswer rules c payloads → IsOwn rules c payloads
answer_ours rules c payloads (inl answers) = AnswersOwn payloads answers
answer_ours rules c payloads (inr shows) = subst (IsOwn rules c) (sym shows.1) (Shows shows.0)

fate_ours : (rules : List Rule) (texts : Texts) (c : ClientNo) (choice : Choice) → IsOurs rules texts c choice → IsFateOurs rules c (fate_of choice)
fate_ours rules texts c (Goes route keyed) ours answer is = none_some None answer refl is
fate_ours rules texts c (Answers payloads) ours answer is =
    let same : record { from = 0; payloads = payloads } ≡ answer = cc in
    subst (λ (a : OwnAnswer). IsOwn rules c a.payloads) same (answer_ours rules c payloads ours)

quits_ours : (rules : List Rule) (c : ClientNo) (b : Bool) (fate : Fate) → (if b then Some no_fate else None) ≡ Some fate → IsFateOurs rules c fate
quits_ours rules c true fate is =
    let same : no_fate ≡ fate = cc in subst (IsFateOurs rules c) same (λ answer has. none_some None answer refl has)
quits_ours rules c false fate is = none_some None fate refl is

pub fates_ours : (rules : List Rule) (texts : Texts) (c : ClientNo) (choices : List Choice) (halt : Halt) (first ordinal : ℕ) (fate : Fate) → All (IsOurs rules texts c) choices
    → fate_in choices halt first ordinal ≡ Some fate → IsFateOurs rules c fate
fates_ours rules texts c [] halt first ordinal fate ours is = quits_ours rules c (is_quitting halt && nat_eq ordinal first) fate is
fates_ours rules texts c (choice ∷ others) halt first ordinal fate ours is =
    by (nat_eq ordinal first) (fates_ours rules texts c others halt (suc first) ordinal fate (All-tail (IsOurs rules texts c) choice others ours)) is where
      by : (b : Bool) → (fate_in others halt (suc first) ordinal ≡ Some fate → IsFateOurs rules c fate)
          → (if b then Some (fate_of choice) else fate_in others halt (suc first) ordinal) ≡ Some fate → IsFateOurs rules c fate
      by true later has =
          let same : fate_of choice ≡ fate = cc in
          subst (IsFateOurs rules c) same (fate_ours rules texts c choice (All-head (IsOurs rules texts c) choice others ours))
      by false later has = later has

-- A last word.

ended_ours : (halt : Halt) (later : Option (Option Word)) → IsEndOurs later → IsEndOurs (ends_by halt later)
ended_ours Waits later ours = ours
ended_ours Rests later ours = ours
ended_ours Quits later ours = tt
ended_ours Ends later ours = tt

said_ours : (now : ℕ) (end : Option (Option Word)) (word : LastWord) → IsEndOurs end → said_at now end ≡ Some word → IsLastWord word.payloads
said_ours now None word ours is = none_some None word refl is
said_ours now (Some None) word ours is = none_some None word refl is
said_ours now (Some (Some said)) word ours is =
    let same : record { from = now; place = said.place; payloads = said.payloads } ≡ word = cc in
    subst (λ (w : LastWord). IsLastWord w.payloads) same ours

word_ours : (now : ℕ) (at : Option ℕ) (was : Option LastWord) (end : Option (Option Word)) (word : LastWord)
    → (was ≡ Some word → IsLastWord word.payloads) → IsEndOurs end → word_with now at end was ≡ Some word → IsLastWord word.payloads
word_ours now (Some at) was end word old ours is = old is
word_ours now None (Some before) end word old ours is = old is
word_ours now None None end word old ours is = said_ours now end word ours is

-- By the deeds of an entry.

module _ (rules : List Rule) (texts : Texts) (d : Decided) (n : Counts) (log : Log) (e : Entry) (deeds : Deeds) (now : ℕ) (recorded : IsRecorded d n log)
    (old_rules : MessageName → List Rule) (spoken : DecidesOwn old_rules d) (ours : AreOurs rules texts deeds) where
  abbrev then_rules : MessageName → List Rule
  then_rules = rules_then n old_rules rules

  abbrev new : Decided
  new = decided_by deeds n log e now d

  taken_own : (m : MessageName) (answer : OwnAnswer) (found : Option Fate) → fate_at deeds n m ≡ found
      → option_map (λ (fate : Fate). fate.own) found ≡ Some (Some answer) → IsOwn rules m.client answer.payloads
  taken_own m answer None is has = none_some None (Some answer) refl has
  taken_own m answer (Some fate) is has =
      let same : fate.own ≡ Some answer = cc in
      fates_ours rules texts m.client (deeds.calls m.client) (deeds.halts m.client) (suc (n.taken m.client)) m.ordinal fate (ours.calls m.client) is answer same

  open_own : (m : MessageName) (answer : OwnAnswer) → new.own m ≡ Some (Some answer) → new.own m ≡ Some None → IsOwn (then_rules m) m.client answer.payloads
  open_own m answer is still = none_some None answer refl (let both : Some None ≡ Some (Some answer) = sym still ∙ is in cc)

  given_own : (m : MessageName) (answer : OwnAnswer) → d.own m ≡ Some None → new.own m ≡ Some (Some answer) → (given : Option (List ℕ)) (last : Bool)
      → deeds.given m.client ≡ given → nat_eq m.ordinal (n.taken m.client) ≡ last → IsOwn (then_rules m) m.client answer.payloads
  given_own m answer was is None last gives at =
      open_own m answer is (own_open deeds n now m (d.own m) was (λ i. is_some (gives i) && nat_eq m.ordinal (n.taken m.client)))
  given_own m answer was is (Some payload) false gives at =
      open_own m answer is (own_open deeds n now m (d.own m) was (λ i. is_some (gives i) && at i))
  given_own m answer was is (Some payload) true gives at =
      let given : new.own m ≡ Some (Some (up_with deeds n now payload)) =
      own_given deeds n now m (d.own m) payload was (eqb-true m.ordinal (n.taken m.client) at) gives in
      let both : Some (Some (up_with deeds n now payload)) ≡ Some (Some answer) = sym given ∙ is in
      let same : up_with deeds n now payload ≡ answer = cc in
      subst (λ (a : OwnAnswer). IsOwn (then_rules m) m.client a.payloads) same (GivesUp payload (ours.given m.client payload gives))

  -- what was decided was taken up before, and else it is now
  late : (m : MessageName) → d.own m ≡ None → then_rules m ≡ rules
  late m none = by (nat_le m.ordinal (n.taken m.client)) refl where
    by : (b : Bool) → nat_le m.ordinal (n.taken m.client) ≡ b → (if b then old_rules m else rules) ≡ rules
    by true early =
        false_true (is_some (d.own m)) (ap is_some none) (recorded.taken_up m (leb-true m.ordinal (n.taken m.client) early)).owned
    by false other = refl

  early : (m : MessageName) (answer : OwnAnswer) → d.own m ≡ Some (Some answer) → then_rules m ≡ old_rules m
  early m answer some = by (nat_le m.ordinal (n.taken m.client)) refl where
    by : (b : Bool) → nat_le m.ordinal (n.taken m.client) ≡ b → (if b then old_rules m else rules) ≡ old_rules m
    by true other = refl
    by false later =
        let none : d.own m ≡ None = (recorded.to_come m (leb-false m.ordinal (n.taken m.client) later)).unowned in
        none_some None (Some answer) refl (sym none ∙ some)

  own_by : (m : MessageName) (answer : OwnAnswer) → new.own m ≡ Some (Some answer) → (was : Option (Option OwnAnswer)) → d.own m ≡ was
      → IsOwn (then_rules m) m.client answer.payloads
  own_by m answer is None was =
      subst (λ (rs : List Rule). IsOwn rs m.client answer.payloads) (sym (late m was))
      (taken_own m answer (fate_at deeds n m) refl (sym (own_new deeds n now m (d.own m) was) ∙ is))
  own_by m answer is (Some None) was = given_own m answer was is (deeds.given m.client) (nat_eq m.ordinal (n.taken m.client)) refl refl
  own_by m answer is (Some (Some old)) was =
      let both : Some (Some old) ≡ Some (Some answer) = sym (own_stays deeds n now m (d.own m) old was) ∙ is in
      let same : old ≡ answer = cc in
      subst (λ (rs : List Rule). IsOwn rs m.client answer.payloads) (sym (early m old was))
      (subst (λ (a : OwnAnswer). IsOwn (old_rules m) m.client a.payloads) same (spoken.own m old was))

  pub spoken_by : DecidesOwn then_rules new
  spoken_by = record {
    own = λ m answer is. own_by m answer is (d.own m) refl;
    words = λ c word is.
        word_ours now (d.ends c) (d.words c) (ends_in deeds c) word (spoken.words c word) (ended_ours (deeds.halts c) (deeds.ends c) (ours.ends c)) is;
  }

-- of those that came

pub among_ours : (rules : List Rule) (texts : Texts) (known : ℕ) (deeds : Deeds) → AreOurs rules texts deeds → AreOurs rules texts (among known deeds)
among_ours rules texts known deeds ours = record {
  calls = λ c. calls_by c (nat_le c.0 known);
  given = λ c payload is. given_by c payload (nat_le c.0 known) is;
  ends = λ c. end_by c (nat_le c.0 known);
} where
  calls_by : (c : ClientNo) (b : Bool) → All (IsOurs rules texts c) (if b then deeds.calls c else [])
  calls_by c true = ours.calls c
  calls_by c false = All-nil (IsOurs rules texts c)

  given_by : (c : ClientNo) (payload : List ℕ) (b : Bool) → (if b then deeds.given c else None) ≡ Some payload → IsFailure payload
  given_by c payload true is = ours.given c payload is
  given_by c payload false is = none_some None payload refl is

  end_by : (c : ClientNo) (b : Bool) → IsEndOurs (if b then deeds.ends c else None)
  end_by c true = ours.ends c
  end_by c false = tt

pub spoken_then : (rules : List Rule) (texts : Texts) (d : Decided) (n : Counts) (log : Log) (e : Entry) (deeds : Deeds)
    → IsRecorded d n log → (old_rules : MessageName → List Rule) → DecidesOwn old_rules d → AreOurs rules texts deeds
    → DecidesOwn (rules_then n old_rules rules) (decided_with deeds n log e d)
spoken_then rules texts d n log e deeds recorded old_rules spoken ours =
    spoken_by rules texts d n log e (among (known_with log e) deeds) (length (with_entry log e)) recorded old_rules spoken (among_ours rules texts (known_with log e) deeds ours)

-- By no entries.

first_own : (rules : List Rule) (service : Service) (m : MessageName) (answer : OwnAnswer) → (first_deciding service).own m ≡ Some (Some answer)
    → IsOwn rules m.client answer.payloads
first_own rules service m answer is = by (nat_eq m.ordinal 0) is where
  by : (b : Bool) → (if b then Some None else None) ≡ Some (Some answer) → IsOwn rules m.client answer.payloads
  by true has = none_some None answer refl (cc)
  by false has = none_some None (Some answer) refl has

pub first_spoken : (rules : MessageName → List Rule) (service : Service) → DecidesOwn rules (first_deciding service)
first_spoken rules service = record { own = λ m answer is. first_own (rules m) service m answer is; words = λ c word is. none_some None word refl is }

-- Deeds of a link alone, and none.

pub ours_of_link : (rules : List Rule) (texts : Texts) (login : Option Login) (begun : Option (Option StepText))
    → AreOurs rules texts (record no_deeds { login = login; begun = begun })
ours_of_link rules texts login begun = record {
  calls = λ c. All-nil (IsOurs rules texts c);
  given = λ c payload is. none_some None payload refl is;
  ends = λ c. tt;
}

pub ours_of_none : (rules : List Rule) (texts : Texts) → AreOurs rules texts no_deeds
ours_of_none rules texts = ours_of_link rules texts None None

-- Of one client.

pub end_ours : (by : Parting) → IsPartingOurs by → IsEndOurs (end_of by)
end_ours Stays ours = tt
end_ours Leaves ours = tt
end_ours (Tells payload) ours = Fails payload ours

pub ours_of_one : (rules : List Rule) (texts : Texts) (c : ClientNo) (choices : List Choice) (halt : Halt) (last : Option (Option Word)) → All (IsOurs rules texts c) choices
    → IsEndOurs last → AreOurs rules texts (parting c last (taking c choices halt no_deeds))
ours_of_one rules texts c choices halt last ours ends = record {
  calls = λ x. calls_by x (nat_eq c.0 x.0) refl;
  given = λ x payload is. none_some None payload refl is;
  ends = λ x. end_by (nat_eq c.0 x.0);
} where
  calls_by : (x : ClientNo) (b : Bool) → nat_eq c.0 x.0 ≡ b → All (IsOurs rules texts x) (if b then choices else [])
  calls_by x true is = subst (λ (k : ClientNo). All (IsOurs rules texts k) choices) (client_of c x is) ours
  calls_by x false is = All-nil (IsOurs rules texts x)

  end_by : (b : Bool) → IsEndOurs (if b then last else None)
  end_by true = ends
  end_by false = tt

-- Of a statement that is given up, and a client that goes on.

given_ours : (given : Option GivenUp) → AreGivenOurs given → (c : ClientNo) (payload : List ℕ) → told_to given c ≡ Some payload → IsFailure payload
given_ours None ours c payload is = none_some None payload refl is
given_ours (Some up) ours c payload is = by (nat_eq up.client.0 c.0) is where
  by : (b : Bool) → (if b then Some up.payload else None) ≡ Some payload → IsFailure payload
  by true has = let same : up.payload ≡ payload = cc in subst IsFailure same ours
  by false has = none_some None payload refl has

pub ours_of_going : (rules : List Rule) (texts : Texts) (given : Option GivenUp) (going : Option Going) → AreGivenOurs given → AreGoingOurs rules texts going
    → AreOurs rules texts (deeds_of given going)
ours_of_going rules texts given None up ours = record {
  calls = λ c. All-nil (IsOurs rules texts c);
  given = given_ours given up;
  ends = λ c. tt;
}
ours_of_going rules texts given (Some going) up ours =
    let one : AreOurs rules texts (parting going.client (end_of going.parting) (taking going.client going.choices going.halt no_deeds)) =
    ours_of_one rules texts going.client going.choices going.halt (end_of going.parting) ours.choices (end_ours going.parting ours.parting) in
    record { calls = one.calls; given = given_ours given up; ends = one.ends }

pub going_told : (keys : (number : ℕ) → Option Key) (rules : List Rule) (texts : Texts) (given : Option GivenUp) (going : Option Going)
    → AreKnown texts keys → AreGoingOurs rules texts going → AreToldBy keys (deeds_of given going)
going_told keys rules texts given going known ours =
    ours_told keys rules texts (deeds_of None going) known (ours_of_going rules texts None going tt ours)

-- and a setup that fits what was decided has them
pub known_keys : (texts : Texts) (keys : (number : ℕ) → Option Key) → AreKnown texts keys → (setup : Setup)
    → ((number : ℕ) (key : Key) → keys number ≡ Some key → setup.keys number ≡ key) → HasKeys (key_at texts) setup
known_keys texts keys known setup fits number key is = fits number key (known.told number key is)
