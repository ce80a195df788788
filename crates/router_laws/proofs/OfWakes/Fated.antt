-- What is decided of callers is of each its own.
use Rattle.std.specs.Prelude.{◌≡◌, ◌<◌, ◌||◌, ℕ, Bool, true, false, All, is_some, if◌then◌else◌, List, [], ◌∷◌, Option, Some, None}
use Rattle.std.specs.Option.{option_map_or}
use Rattle.std.proofs.Common.{refl, sym, ap, ◌∙◌, arith}
use Rattle.std.proofs.lemmas.Bool.{ne_eqb, true≢false}
use Rattle.std.proofs.lemmas.List.Elements.{All-cons, All-head, All-nil, All-tail, All-weaker}
use Rattle.std.proofs.lemmas.Option.{none-some, same_Some}
use Rattle.client_session.specs.Setups.{Setup as Service}
use Rattle.private_model.proofs.Maps.{same_number}
use Rattle.private_model.specs.Names.{ClientNo}
use Rattle.private_model.specs.Story.{is_client}
use Rattle.log_story.specs.Plan.{Behind, LastWord, word_at}
use Rattle.core_stands.specs.Grounds.{Ground}
use Rattle.core_laws.specs.clients.Following.{IsPartedIn}
use Rattle.core_laws.specs.clients.Follows.{Leaves, Parting, Stays, Tells, ends_by, quits_by}
use Rattle.core_laws.specs.clients.Turns.{Ends, Halt, Quits, Rests, Waits}
use Rattle.router_laws.specs.decisions.Deeds.{AreAlone, IsAlone, Word, said_at}
use Rattle.router_laws.specs.decisions.Deeds as deeds
use Rattle.router_laws.specs.decisions.Goings.{end_of}
use Rattle.router_laws.specs.reading.Hearing.{TellsFor}
use Rattle.router_laws.specs.wakes.Calling.{AreInOrder, Caller, is_called}
use Rattle.router_laws.specs.wakes.Deciding.{found_in}

-- Each is found.

pub all_found : (callers : List Caller) → AreInOrder callers → All (λ (k : Caller). found_in callers k.client ≡ Some k) callers
all_found [] order = All-nil (λ (k : Caller). found_in [] k.client ≡ Some k)
all_found (k ∷ ks) order =
    All-cons (λ (j : Caller). found_in (k ∷ ks) j.client ≡ Some j) k ks
    (ap (λ (b : Bool). if b then Some k else found_in ks k.client) (same_number k.client.0))
    (All-weaker (λ (j : Caller). (found_in ks j.client ≡ Some j) × (k.client.0 < j.client.0)) (λ (j : Caller). found_in (k ∷ ks) j.client ≡ Some j)
    (λ j both.
    let above : k.client.0 < j.client.0 = both.1 in
    ap (λ (b : Bool). if b then Some k else found_in ks j.client) (ne_eqb j.client.0 k.client.0 (λ same. omega (arith, same, above))) ∙ both.0) ks
    (λ i d within. (all_found ks order.1 i d within, order.0 i d within)))

found_by : (b : Bool) (k : Caller) (found : Option Caller) (more : Bool) → is_some found ≡ more → is_some (if b then Some k else found) ≡ (b || more)
found_by true k found more same = refl
found_by false k found more same = same

pub some_found : (callers : List Caller) (c : ClientNo) → is_some (found_in callers c) ≡ is_called callers c
some_found [] c = refl
some_found (k ∷ ks) c = found_by (is_client c k.client) k (found_in ks c) (is_called ks c) (some_found ks c)

none_of : {A : Type 0} (found : Option A) → is_some found ≡ false → found ≡ None
none_of None is = refl
none_of (Some a) is = absurd (true≢false is)

pub none_found : (callers : List Caller) (c : ClientNo) → is_called callers c ≡ false → found_in callers c ≡ None
none_found callers c none = none_of (found_in callers c) (some_found callers c ∙ none)

-- Its end.

pub ends_same : (halt : Halt) (parting : Parting) → is_some (deeds.ends_by halt (end_of parting)) ≡ ends_by halt parting
ends_same Waits Stays = refl
ends_same Waits Leaves = refl
ends_same Waits (Tells payload) = refl
ends_same Rests Stays = refl
ends_same Rests Leaves = refl
ends_same Rests (Tells payload) = refl
ends_same Quits parting = refl
ends_same Ends parting = refl

-- a last word stands behind all that was answered

said_by : (now : ℕ) (halt : Halt) (parting : Parting) (word : LastWord) → said_at now (deeds.ends_by halt (end_of parting)) ≡ Some word → word.place ≡ Behind
said_by now Waits Stays word is = absurd (none-some word is)
said_by now Waits Leaves word is = absurd (none-some word is)
said_by now Waits (Tells payload) word is =
    sym (ap (λ (w : LastWord). w.place) (same_Some (record { from = now; place = Behind; payloads = payload ∷ [] }) word is))
said_by now Rests Stays word is = absurd (none-some word is)
said_by now Rests Leaves word is = absurd (none-some word is)
said_by now Rests (Tells payload) word is =
    sym (ap (λ (w : LastWord). w.place) (same_Some (record { from = now; place = Behind; payloads = payload ∷ [] }) word is))
said_by now Quits parting word is = absurd (none-some word is)
said_by now Ends parting word is = absurd (none-some word is)

pub said_behind : (now : ℕ) (found : Option Caller) (word : LastWord)
    → said_at now (deeds.ends_by (option_map_or (λ (k : Caller). k.halt) found Rests) (option_map_or (λ (k : Caller). end_of k.parting) found None)) ≡ Some word
    → word.place ≡ Behind
said_behind now None word is = absurd (none-some word is)
said_behind now (Some k) word is = said_by now k.halt k.parting word is

-- By its last word, or by none, it stands told.

pub parted_by : (service : Service) (g : Ground) (c : ClientNo) (now : ℕ) → g.over c ≡ false → ((other : ClientNo) → g.fresh other ≡ false) → (halt : Halt)
    → quits_by halt ≡ false → (parting : Parting) → TellsFor parting service c → word_at g.plan now c ≡ said_at now (deeds.ends_by halt (end_of parting))
    → IsPartedIn parting service g c now
parted_by service g c now going looked Waits stays Stays tells is = tt
parted_by service g c now going looked Waits stays Leaves tells is = is
parted_by service g c now going looked Waits stays (Tells payload) tells is =
    tells g now going looked is
parted_by service g c now going looked Rests stays Stays tells is = tt
parted_by service g c now going looked Rests stays Leaves tells is = is
parted_by service g c now going looked Rests stays (Tells payload) tells is =
    tells g now going looked is
parted_by service g c now going looked Quits stays parting tells is = absurd (true≢false stays)
parted_by service g c now going looked Ends stays parting tells is = absurd (true≢false stays)
