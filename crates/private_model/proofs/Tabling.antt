-- What is prepared, on links and in sessions.
use Rattle.std.specs.Prelude.{if◌then◌else◌, ◌≡◌, ℕ, Bool, true, false, nat_eq, List, Option, Some, None}
use Rattle.std.specs.Option.{option_and_then}
use Rattle.std.proofs.Common.{refl, sym, ap, ◌∙◌, subst, inl, inr}
use Rattle.private_model.specs.Names.{LinkId, SessionName}
use Rattle.private_model.proofs.Maps.{at_each, link_ids, names, numbers, put-other, put-same}
use Rattle.private_model.proofs.Meeting.{IsDecoded, IsRunLike, IsRunOf, IsTextOf}
use Rattle.private_model.proofs.Sessions.{apart}
use Rattle.private_model.proofs.Stands.{AreKept, AreMatched, AreTabled, AreTabledBy, Follows, IfAlive, IsAtBy, IsKept, IsMatch, IsOfKey, IsUsual, soon_pin, soon_live}
use Rattle.private_model.proofs.Tame.{Tame}
use Rattle.private_model.specs.Commands.{Args, Command, FieldList, InitDb, Prepare, Query, Quit, ReadId, Reset, Run, SetId, Step, is_prepare}
use Rattle.private_model.specs.Lawful.{IsKeyed, IsLiveRun, IsToldKey}
use Rattle.private_model.specs.Story.{Key, is_link_id, is_name, put}
use Rattle.private_model.specs.View.{Carried, Held, Joined, Lent, Link, Nobody, Setup, lived, text_of}
use Rattle.private_model.specs.Worlds.{Peer, decoded, tabled}
use Rattle.server_rule.specs.Classes.{Reads, core}
use Rattle.server_rule.specs.Servers.{Accepts, Tests}
use Rattle.server_rule.specs.declared.session.Session.{Session}
use Rattle.session_state.specs.declared.place.Told.{Told}
use Rattle.session_vars.specs.declared.change.SlotValue.{SlotValue}

-- Tables.

matched_entry : (setup : Setup) (key : ℕ) (there here : Option Key) → IsKept setup key there → ((entry : Key) → here ≡ Some entry → IsOfKey setup key entry) → IsMatch setup key there here
matched_entry setup key there None kept usual = record { entry = kept.entry; is = kept.is; text = kept.of_key.text; own_text = refl; schema = kept.of_key.schema; core = kept.of_key.core }
matched_entry setup key there (Some own) kept usual =
    let of_key = usual own refl in record { entry = kept.entry; is = kept.is; text = kept.of_key.text; own_text = of_key.text; schema = kept.of_key.schema ∙ sym of_key.schema; core = kept.of_key.core ∙ sym of_key.core }

pub matched_of : (setup : Setup) (live : ℕ → Option ℕ) (deep : Bool) (there here : ℕ → Option Key) → AreKept setup live there → IsUsual setup here → AreMatched setup live deep there here
matched_of setup live deep there here kept usual = record { match = λ key number e. matched_entry setup key (there number) (here key) (kept.kept key number e) (usual.usual key); kept = λ e. kept; usual = λ e. usual }

-- what stands under a number isn't under one that is unused
other_number : {A : Type 0} (table : ℕ → Option A) (number n : ℕ) (x : A) → table number ≡ None → table n ≡ Some x → nat_eq n number ≡ false
other_number table number n x unused is = go (nat_eq n number) refl
  where
    go : (b : Bool) → nat_eq n number ≡ b → nat_eq n number ≡ false
    go true e = let same : n ≡ number = numbers.of n number e in absurd (let none : table n ≡ None = ap table same ∙ unused in cc)
    go false e = e

pub kept_put : (setup : Setup) (live : ℕ → Option ℕ) (there : ℕ → Option Key) (key number : ℕ) (place : Key) → there number ≡ None → IsOfKey setup key place → AreKept setup live there → AreKept setup (put nat_eq live key (Some number)) (put nat_eq there number (Some place))
kept_put setup live there key number place unused of_key before = record {
  kept = at_each numbers (λ k. (n : ℕ) → put nat_eq live key (Some number) k ≡ Some n → IsKept setup k (put nat_eq there number (Some place) n)) key
      (λ n e. let is : Some number ≡ Some n = sym (put-same numbers live key (Some number)) ∙ e in let same : number ≡ n = cc in
      subst (λ x. IsKept setup key (put nat_eq there number (Some place) x)) same (record { entry = place; is = put-same numbers there number (Some place); of_key = of_key }))
      (λ k f n e. let kept = before.kept k n (sym (put-other numbers live key (Some number) k f) ∙ e) in
      subst (λ x. IsKept setup k x) (sym (put-other numbers there number (Some place) n (other_number there number n kept.entry unused kept.is))) kept);
}

usual_put : (setup : Setup) (here : ℕ → Option Key) (key : ℕ) (place : Key) → IsOfKey setup key place → IsUsual setup here → IsUsual setup (put nat_eq here key (Some place))
usual_put setup here key place of_key before = record {
  usual = at_each numbers (λ k. (x : Key) → put nat_eq here key (Some place) k ≡ Some x → IsOfKey setup k x) key
      (λ x e. let is : Some place ≡ Some x = sym (put-same numbers here key (Some place)) ∙ e in let same : place ≡ x = cc in subst (λ y. IsOfKey setup key y) same of_key)
      (λ k f x e. before.usual k x (sym (put-other numbers here key (Some place) k f) ∙ e));
}

matched_put : (setup : Setup) (live : ℕ → Option ℕ) (deep deep' : Bool) (there here : ℕ → Option Key) (key number : ℕ) (of_link of_session : Key) → there number ≡ None → of_link.text ≡ (setup.keys key).text → of_session.text ≡ (setup.keys key).text → of_link.place.schema ≡ of_session.place.schema → of_link.place.settings ≡ of_session.place.settings
    → (deep' ≡ false → deep ≡ false) → (deep' ≡ false → IsOfKey setup key of_link) → AreMatched setup live deep there here
    → AreMatched setup (put nat_eq live key (Some number)) deep' (put nat_eq there number (Some of_link)) (put nat_eq here key (Some of_session))
matched_put setup live deep deep' there here key number of_link of_session unused text own_text schema settings shallow of_key before = record {
  match = at_each numbers (λ k. (n : ℕ) → put nat_eq live key (Some number) k ≡ Some n → IsMatch setup k (put nat_eq there number (Some of_link) n) (put nat_eq here key (Some of_session) k)) key
      (λ n e. let is : Some number ≡ Some n = sym (put-same numbers live key (Some number)) ∙ e in let same : number ≡ n = cc in
      subst (λ x. IsMatch setup key (put nat_eq there number (Some of_link) x) (put nat_eq here key (Some of_session) key)) same
      (subst (λ x. IsMatch setup key (put nat_eq there number (Some of_link) number) x) (sym (put-same numbers here key (Some of_session)))
      (record { entry = of_link; is = put-same numbers there number (Some of_link); text = text; own_text = own_text; schema = schema; core = ap core settings })))
      (λ k f n e. let match = before.match k n (sym (put-other numbers live key (Some number) k f) ∙ e) in
      subst (λ x. IsMatch setup k (put nat_eq there number (Some of_link) n) x) (sym (put-other numbers here key (Some of_session) k f))
      (subst (λ x. IsMatch setup k x (here k)) (sym (put-other numbers there number (Some of_link) n (other_number there number n match.entry unused match.is))) match));
  kept = λ e. kept_put setup live there key number of_link unused (of_key e) (before.kept (shallow e));
  usual = λ e. usual_put setup here key of_session (record { text = own_text; schema = sym schema ∙ (of_key e).schema; core = ap core (sym settings) ∙ (of_key e).core }) (before.usual (shallow e));
}

pub matched_deeper : (setup : Setup) (live : ℕ → Option ℕ) (deep deep' : Bool) (there here : ℕ → Option Key) → (deep' ≡ false → deep ≡ false) → AreMatched setup live deep there here → AreMatched setup live deep' there here
matched_deeper setup live deep deep' there here shallow before = record { match = before.match; kept = λ e. before.kept (shallow e); usual = λ e. before.usual (shallow e) }

-- A command that may prepare runs in both worlds.
pub matched_by : (setup : Setup) (makes ok : Bool) (live : ℕ → Option ℕ) (deep deep' : Bool) (there here : ℕ → Option Key) (key number : ℕ) (text : List ℕ) (s p : Session) → (makes ≡ true → ok ≡ true → there number ≡ None) → (makes ≡ true → text ≡ (setup.keys key).text) → s.schema ≡ p.schema → s.settings ≡ p.settings
    → (deep' ≡ false → deep ≡ false) → (makes ≡ true → deep' ≡ false → IsOfKey setup key (record { text = text; place = record { schema = s.schema; settings = s.settings } })) → AreMatched setup live deep there here
    → AreMatched setup (lived makes ok key number live) deep' (tabled makes ok number text s there) (tabled makes ok key text p here)
matched_by setup true true live deep deep' there here key number text s p unused text_is schema settings shallow of_key before =
    matched_put setup live deep deep' there here key number (record { text = text; place = record { schema = s.schema; settings = s.settings } }) (record { text = text; place = record { schema = p.schema; settings = p.settings } }) (unused refl refl) (text_is refl) (text_is refl) schema settings shallow (of_key refl) before
matched_by setup true false live deep deep' there here key number text s p unused text_is schema settings shallow of_key before = matched_deeper setup live deep deep' there here shallow before
matched_by setup false ok live deep deep' there here key number text s p unused text_is schema settings shallow of_key before = matched_deeper setup live deep deep' there here shallow before

pub kept_by : (setup : Setup) (ok : Bool) (live : ℕ → Option ℕ) (there : ℕ → Option Key) (key number : ℕ) (text : List ℕ) (s : Session) → (ok ≡ true → there number ≡ None) → IsOfKey setup key (record { text = text; place = record { schema = s.schema; settings = s.settings } }) → AreKept setup live there
    → AreKept setup (lived true ok key number live) (tabled true ok number text s there)
kept_by setup true live there key number text s unused of_key before = kept_put setup live there key number (record { text = text; place = record { schema = s.schema; settings = s.settings } }) (unused refl) of_key before
kept_by setup false live there key number text s unused of_key before = before

-- A STMT_CLOSE.

abbrev pub without : (number : ℕ) → Option ℕ → Option ℕ
without number of_key = option_and_then (λ n. if nat_eq n number then None else Some n) of_key

without_is : (number : ℕ) (was : Option ℕ) (n : ℕ) → without number was ≡ Some n → (was ≡ Some n) × (nat_eq n number ≡ false)
without_is number None n e = absurd (cc)
without_is number (Some m) n e = go (nat_eq m number) refl
  where
    go : (b : Bool) → nat_eq m number ≡ b → (Some m ≡ Some n) × (nat_eq n number ≡ false)
    go true f = absurd (let none : None ≡ Some n = sym (ap (λ b. if b then None else Some m) f) ∙ e in cc)
    go false f = let same : Some m ≡ Some n = sym (ap (λ b. if b then None else Some m) f) ∙ e in let is : m ≡ n = cc in (same, ap (λ x. nat_eq x number) (sym is) ∙ f)

pub kept_without : (setup : Setup) (live : ℕ → Option ℕ) (there : ℕ → Option Key) (number : ℕ) → AreKept setup live there → AreKept setup (λ key. without number (live key)) (put nat_eq there number None)
kept_without setup live there number before = record {
  kept = λ key n e. let was = without_is number (live key) n e in subst (λ x. IsKept setup key x) (sym (put-other numbers there number None n was.1)) (before.kept key n was.0);
}

pub matched_without : (setup : Setup) (live : ℕ → Option ℕ) (deep : Bool) (there here : ℕ → Option Key) (number : ℕ) → AreMatched setup live deep there here → AreMatched setup (λ key. without number (live key)) deep (put nat_eq there number None) here
matched_without setup live deep there here number before = record {
  match = λ key n e. let was = without_is number (live key) n e in subst (λ x. IsMatch setup key x (here key)) (sym (put-other numbers there number None n was.1)) (before.match key n was.0);
  kept = λ e. kept_without setup live there number (before.kept e);
  usual = before.usual;
}

-- Where a session is as it prepares.

pub told_place : (setup : Setup) (key : ℕ) (text : List ℕ) (told : Told) (s s' : Session) → IsToldKey setup key text told → Follows told s → s'.schema ≡ s.schema → s'.settings ≡ s.settings → IsOfKey setup key (record { text = text; place = record { schema = s'.schema; settings = s'.settings } })
told_place setup key text told s s' told_key follows schema settings = record {
  text = told_key.text_is;
  schema = schema ∙ follows.schema (setup.keys key).place.schema told_key.schema;
  core = ap core (settings ∙ follows.settings) ∙ told_key.core;
}

pub keyed_told : (setup : Setup) (c : Command) (key : ℕ) (told : Told) (live : ℕ → Option ℕ) → is_prepare c ≡ true → IsKeyed setup c key told live → IsToldKey setup key (text_of c) told
keyed_told setup (Prepare text) key told live is keyed = keyed
keyed_told setup _ key told live is keyed = apart is refl

-- Runs are decoded alike.

decoded_other : (entry : Option Key) (c : Command) → ((text schema : List ℕ) (settings : List SlotValue) (args : Args) → c ≡ Run text schema settings args → ⊥) → decoded entry c ≡ c
decoded_other None c no_run = refl
decoded_other (Some place) (Query text) no_run = refl
decoded_other (Some place) (InitDb schema) no_run = refl
decoded_other (Some place) (FieldList rest) no_run = refl
decoded_other (Some place) (SetId n) no_run = refl
decoded_other (Some place) ReadId no_run = refl
decoded_other (Some place) (Prepare text) no_run = refl
decoded_other (Some place) (Run text schema settings args) no_run = absurd (no_run text schema settings args refl)
decoded_other (Some place) _ no_run = refl

run_like : (setup : Setup) (key : ℕ) (text schema : List ℕ) (settings : List SlotValue) (args : Args) (there here : Option Key) (live : ℕ → Option ℕ) → IsLiveRun setup key text schema settings live → IsMatch setup key there here
    → IsRunLike setup.reads (decoded there (Run text schema settings args)) (decoded here (Run text schema settings args))
run_like setup key text schema settings args there None live keyed match = record {
  text = match.entry.text;
  schema = match.entry.place.schema;
  of_link = match.entry.place.settings;
  of_session = settings;
  args = args;
  is_there = ap (λ x. decoded x (Run text schema settings args)) match.is;
  is_here = ap (λ x. Run x schema settings args) (keyed.text_of ∙ sym match.text) ∙ ap (λ x. Run match.entry.text x settings args) (keyed.schema_of ∙ sym match.schema);
  core = match.core ∙ sym keyed.core_of;
}
run_like setup key text schema settings args there (Some own) live keyed match = record {
  text = match.entry.text;
  schema = match.entry.place.schema;
  of_link = match.entry.place.settings;
  of_session = own.place.settings;
  args = args;
  is_there = ap (λ x. decoded x (Run text schema settings args)) match.is;
  is_here = ap (λ x. Run x own.place.schema own.place.settings args) (match.own_text ∙ sym match.text) ∙ ap (λ x. Run match.entry.text x own.place.settings args) (sym match.schema);
  core = match.core;
}

run_of : (setup : Setup) (key : ℕ) (text schema : List ℕ) (settings : List SlotValue) (args : Args) (there here : Option Key) (live : ℕ → Option ℕ) → IsLiveRun setup key text schema settings live → IsMatch setup key there here
    → IsRunOf (decoded there (Run text schema settings args)) (Run text schema settings args)
run_of setup key text schema settings args there here live keyed match = record {
  text = text;
  schema = schema;
  settings = settings;
  schema' = match.entry.place.schema;
  settings' = match.entry.place.settings;
  args = args;
  is_there = ap (λ x. decoded x (Run text schema settings args)) match.is ∙ ap (λ x. Run x match.entry.place.schema match.entry.place.settings args) (match.text ∙ sym keyed.text_of);
  is_told = refl;
}

pub decoded_alike : (setup : Setup) (key : ℕ) (c : Command) (told : Told) (live : ℕ → Option ℕ) (there here : Option Key) → IsKeyed setup c key told live → ((number : ℕ) → live key ≡ Some number → IsMatch setup key there here) → IsDecoded setup.reads (decoded there c) (decoded here c) × IsTextOf (decoded there c) c
decoded_alike setup key (Run text schema settings args) told live there here keyed match = (inr (run_like setup key text schema settings args there here live keyed (match keyed.number keyed.there)), inr (run_of setup key text schema settings args there here live keyed (match keyed.number keyed.there)))
decoded_alike setup key (Query text) told live there here keyed match = (inl (decoded_other there (Query text) (λ a b d e f. cc) ∙ sym (decoded_other here (Query text) (λ a b d e f. cc))), inl (decoded_other there (Query text) (λ a b d e f. cc)))
decoded_alike setup key (InitDb schema) told live there here keyed match = (inl (decoded_other there (InitDb schema) (λ a b d e f. cc) ∙ sym (decoded_other here (InitDb schema) (λ a b d e f. cc))), inl (decoded_other there (InitDb schema) (λ a b d e f. cc)))
decoded_alike setup key (FieldList rest) told live there here keyed match = (inl (decoded_other there (FieldList rest) (λ a b d e f. cc) ∙ sym (decoded_other here (FieldList rest) (λ a b d e f. cc))), inl (decoded_other there (FieldList rest) (λ a b d e f. cc)))
decoded_alike setup key (SetId n) told live there here keyed match = (inl (decoded_other there (SetId n) (λ a b d e f. cc) ∙ sym (decoded_other here (SetId n) (λ a b d e f. cc))), inl (decoded_other there (SetId n) (λ a b d e f. cc)))
decoded_alike setup key ReadId told live there here keyed match = (inl (decoded_other there ReadId (λ a b d e f. cc) ∙ sym (decoded_other here ReadId (λ a b d e f. cc))), inl (decoded_other there ReadId (λ a b d e f. cc)))
decoded_alike setup key (Prepare text) told live there here keyed match = (inl (decoded_other there (Prepare text) (λ a b d e f. cc) ∙ sym (decoded_other here (Prepare text) (λ a b d e f. cc))), inl (decoded_other there (Prepare text) (λ a b d e f. cc)))
decoded_alike setup key Reset told live there here keyed match = (inl (decoded_other there Reset (λ a b d e f. cc) ∙ sym (decoded_other here Reset (λ a b d e f. cc))), inl (decoded_other there Reset (λ a b d e f. cc)))
decoded_alike setup key Quit told live there here keyed match = (inl (decoded_other there Quit (λ a b d e f. cc) ∙ sym (decoded_other here Quit (λ a b d e f. cc))), inl (decoded_other there Quit (λ a b d e f. cc)))

-- A preparation leaves where a session is.

module _ (reads : Reads) (tests : Tests) (step : Step) (tame : Tame reads tests step) (stored : List ℕ) (s : Session) (ok : Accepts tests stored s) where
  pub prepared_schema : (c : Command) (entry : Option Key) → is_prepare c ≡ true → (step stored s (decoded entry c)).session.schema ≡ s.schema
  prepared_schema (Prepare text) entry is = ap (λ c. (step stored s c).session.schema) (decoded_other entry (Prepare text) (λ a b d e f. cc)) ∙ ap (λ (x : Session). x.schema) (tame.prepare.session stored s ok text)
  prepared_schema _ entry is = apart is refl

  pub prepared_settings : (c : Command) (entry : Option Key) → is_prepare c ≡ true → (step stored s (decoded entry c)).session.settings ≡ s.settings
  prepared_settings (Prepare text) entry is = ap (λ c. (step stored s c).session.settings) (decoded_other entry (Prepare text) (λ a b d e f. cc)) ∙ ap (λ (x : Session). x.settings) (tame.prepare.session stored s ok text)
  prepared_settings _ entry is = apart is refl

-- One link changes.

module _ (setup : Setup) (links : LinkId → Link) (peers : LinkId → Peer) (held : SessionName → Held) (tables : SessionName → ℕ → Option Key) (are : AreTabled setup links peers held tables) (number : LinkId) where
  pub tabled_moved : (link : Link) (peers' : LinkId → Peer) (held' : SessionName → Held) (tables' : SessionName → ℕ → Option Key)
      → AreTabledBy setup link.carries link (peers' number) held' tables'
      → ((j : LinkId) → is_link_id j number ≡ false → peers' j ≡ peers j)
      → ((j : LinkId) → is_link_id j number ≡ false → AreTabledBy setup (links j).carries (links j) (peers j) held' tables')
      → ((n : SessionName) → (held' n).home ≡ None → IsUsual setup (tables' n))
      → AreTabled setup (put is_link_id links number link) peers' held' tables'
  tabled_moved link peers' held' tables' here same others resting = record {
    on = at_each link_ids (λ j. AreTabledBy setup (put is_link_id links number link j).carries (put is_link_id links number link j) (peers' j) held' tables') number
        (subst (λ l. AreTabledBy setup l.carries l (peers' number) held' tables') (sym (put-same link_ids links number link)) here)
        (λ j e. subst (λ l. AreTabledBy setup l.carries l (peers' j) held' tables') (sym (put-other link_ids links number link j e)) (subst (λ x. AreTabledBy setup (links j).carries (links j) x held' tables') (sym (same j e)) (others j e)));
    resting = resting;
  }

apart_key : (setup : Setup) (key : SessionName) (held : SessionName → Held) (j : LinkId) (n : SessionName) → (held n).home ≡ Some j → ((held key).home ≡ Some j → ⊥) → is_name n key ≡ false
apart_key setup key held j n home not_key = go (is_name n key) refl
  where
    go : (b : Bool) → is_name n key ≡ b → is_name n key ≡ false
    go true e = absurd (not_key (subst (λ x. (held x).home ≡ Some j) (names.of n key e) home))
    go false e = e

-- what another link has isn't touched by what happens to one name
pub tabled_frame : (setup : Setup) (tests : Tests) (key : SessionName) (held held' : SessionName → Held) (tables tables' : SessionName → ℕ → Option Key) (sessions : SessionName → Session) → ((n : SessionName) → is_name n key ≡ false → held' n ≡ held n) → ((n : SessionName) → is_name n key ≡ false → tables' n ≡ tables n)
    → (carried : Carried) (j : LinkId) (link : Link) (peer : Peer) → ((held key).home ≡ Some j → ⊥) → IsAtBy setup tests carried j link peer held sessions → AreTabledBy setup carried link peer held tables → AreTabledBy setup carried link peer held' tables'
tabled_frame setup tests key held held' tables tables' sessions same_held same_tables Nobody j link peer not_key at are = are
tabled_frame setup tests key held held' tables tables' sessions same_held same_tables (Lent n) j link peer not_key at are = (are.0, subst (λ t. IsUsual setup t) (sym (same_tables n (apart_key setup key held j n at.home not_key))) are.1)
tabled_frame setup tests key held held' tables tables' sessions same_held same_tables (Joined n) j link peer not_key at are =
    let e = apart_key setup key held j n at.home not_key in
    subst (λ h. IfAlive peer.alive (AreMatched setup (soon_live link.stage peer.answer link.live) (soon_pin setup.reads link.stage peer.answer h.pin).deep peer.table (tables' n)) ((soon_pin setup.reads link.stage peer.answer h.pin).deep ≡ false → IsUsual setup (tables' n))) (sym (same_held n e))
    (subst (λ t. IfAlive peer.alive (AreMatched setup (soon_live link.stage peer.answer link.live) (soon_pin setup.reads link.stage peer.answer (held n).pin).deep peer.table t) ((soon_pin setup.reads link.stage peer.answer (held n).pin).deep ≡ false → IsUsual setup t)) (sym (same_tables n e)) are)
