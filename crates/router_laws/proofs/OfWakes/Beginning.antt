-- Where something may begin on a link, and where the text of an execute may be prepared there.
use Rattle.std.specs.Prelude.{◌≡◌, ℕ, Bool, true, false, not, ◌&&◌, bytes_eq, nat_eq, if◌then◌else◌, List, [], ◌∷◌, Option, Some, None}
use Rattle.std.specs.Cmp.Lexicographic.{bytes_decides}
use Rattle.std.proofs.Common.{refl, sym, ap, ◌∙◌}
use Rattle.std.proofs.lemmas.Bool.{and_from, and_parts, false≢true, true≢false}
use Rattle.std.proofs.lemmas.List.{length-set, set-set}
use Rattle.std.proofs.lemmas.Option.{none-some, same_Some}
use Rattle.client_session.specs.Setups.{Setup as Serving}
use Rattle.private_model.proofs.Maps.{same_name, same_number}
use Rattle.private_model.specs.Names.{LinkId, SessionName}
use Rattle.private_model.specs.Story.{Due, Key, is_name}
use Rattle.private_model.specs.View.{Link, View}
use Rattle.log_story.specs.Tale.{Wire, link_in}
use Rattle.server_rule.specs.Classes.{Reads, core}
use Rattle.server_side.specs.Account.{Account as Login}
use Rattle.session_vars.specs.Settings.{AreSettings, difference_of, value_at}
use Rattle.session_vars.specs.Slots.{place_of}
use Rattle.session_vars.specs.declared.change.Change.{Change}
use Rattle.session_vars.specs.declared.change.SlotValue.{SlotValue}
use Rattle.session_vars.specs.declared.change.SlotValue.TheVariants.{Default, Text}
use Rattle.session_vars.specs.declared.slot.Slot.TheVariants.{Autocommit}
use Rattle.session_state.specs.declared.place.Place.{Place}
use Rattle.session_state.specs.declared.place.Told.{Told}
use Rattle.tale_world.proofs.Testing.{same_settings}
use Rattle.tale_world.specs.Tests.{are_settings, is_schema, is_value}
use Rattle.link_state.specs.Places as places
use Rattle.link_state.specs.Places.{calm, calm_place, place_wish, settings_wish, text_of}
use Rattle.link_state.specs.declared.state.Stage.TheVariants.{Quiet}
use Rattle.link_state.specs.declared.wish.Wish.TheVariants as wishes
use Rattle.link_laws.specs.Stands.{Codes, IsLink}
use Rattle.lent_link.specs.Links.{is_in}
use Rattle.lent_link.specs.Rests.{may_begin}
use Rattle.served_link.specs.declared.row.Row.{Row}
use Rattle.row_laws.proofs.Seeing.{is_link}
use Rattle.row_laws.proofs.Settling.{same_without}
use Rattle.row_laws.specs.Rows.{IsRowBy}
use Rattle.client_desk.specs.Desks.{name_of}
use Rattle.client_desk.specs.declared.desk.Desk.{Desk}
use Rattle.client_desk.specs.declared.work.Work.{Work}
use Rattle.core_tables.specs.Tables.{Tabled}
use Rattle.core_texts.specs.declared.texts.Texts.{Texts}
use Rattle.core_stands.specs.Grounds.{AreNamed, Ground, view_on}
use Rattle.core_stands.specs.Servers.{IsServer}
use Rattle.core_stands.specs.Stands.{Stands}
use Rattle.core_laws.proofs.OfWriting.Begun.{IsDueThere}
use Rattle.core_laws.proofs.OfWriting.Knowing.{server_at, serves}
use Rattle.core_laws.proofs.OfWriting.Nexts.{quiet_open}
use Rattle.core_laws.proofs.OfWriting.Stating.{due_at, due_is}
use Rattle.core_laws.specs.writing.Planned.{IsOpen, IsToPrepare}
use Rattle.router_laws.specs.wakes.Settling.{MayBegin, MayPrepare}
use Rattle.core_texts.specs.Texts.{key_at}
use Rattle.router_laws.specs.decisions.Judges.{HasKeys}

-- Where something may begin by the row, the link is logged in.

entered_by : (b : Bool) (reads : Reads) (codes : Codes) (login : Login) (seen : View) (row : Row) (wire : Wire) (link : Link) → is_in row.link.login.stage ≡ true
    → IsRowBy b reads codes login seen row wire link → wire.entered ≡ b → wire.entered ≡ true
entered_by true reads codes login seen row wire link inside is same = same
entered_by false reads codes login seen row wire link inside is same = absurd (true≢false (sym inside ∙ is.outside))

not_false : (b : Bool) → not b ≡ true → b ≡ false
not_false true is = absurd (false≢true is)
not_false false is = refl

module _ (service : Serving) (g : Ground) (t : Tabled) (l : LinkId) (stands : Stands service g t) (may : MayBegin l t) where
  abbrev row : Row
  row = may.server.row

  its_row : IsServer g t l row
  its_row = server_at service g t l may.server stands may.there

  both : (not row.link.quits ≡ true) × (may_begin row.link ≡ true)
  both =
      let whole = and_parts (not row.lost) (not row.link.quits && may_begin row.link) may.free in
      let parts = and_parts (not row.link.quits) (may_begin row.link) whole.1 in (parts.0, parts.1)

  pub is_open : IsOpen g t l may.server
  is_open = record {
    there = may.there;
    entered = entered_by (g.tale.wires l).entered g.setup.reads g.codes (g.plan.logins l) (view_on g) row (g.tale.wires l) ((view_on g).links l)
        (and_parts (is_in row.link.login.stage) _ both.1).0 its_row.row.is refl;
    free = both.1;
    stays = not_false row.link.quits both.0;
  }

  -- and the law's link is its state
  pub is_state : IsLink g.setup.reads g.codes row.link.state (link_in g.setup g.tale l)
  is_state =
      is_link g.setup.reads g.codes row.link.state (link_in g.setup g.tale l) Quiet (quiet_open row.link is_open.free) refl
      (serves g t l row its_row is_open.entered).state

-- A link that needs no step to a place, but for autocommit, was told it.

bytes_themselves : (xs : List ℕ) → bytes_eq xs xs ≡ true
bytes_themselves xs = (bytes_decides xs xs).1 refl

value_itself : (v : SlotValue) → is_value v v ≡ true
value_itself Default = refl
value_itself (Text text) = bytes_themselves text

settings_themselves : (xs : List SlotValue) → are_settings xs xs ≡ true
settings_themselves [] = refl
settings_themselves (x ∷ xs) = and_from (is_value x x) (are_settings xs xs) (value_itself x) (settings_themselves xs)

calm_core : (settings told : List SlotValue) → core (calm settings told) ≡ core settings
unfolding core
calm_core settings told = set-set settings (place_of Autocommit) (value_at told Autocommit) Default

same_core : (told settings : List SlotValue) → are_settings told (calm settings told) ≡ true → are_settings (core told) (core settings) ≡ true
same_core told settings same =
    let is : core told ≡ core settings = ap core (same_settings told (calm settings told) same) ∙ calm_core settings told in
    ap (are_settings (core told)) (sym is) ∙ settings_themselves (core told)

schema_same : (told : Option (List ℕ)) (schema : List ℕ) → places.is_schema told schema ≡ is_schema told schema
schema_same (Some told) schema = refl
schema_same None schema = refl

none_changed : (changes : List Change) → settings_wish (text_of changes) ≡ None → changes ≡ []
none_changed [] none = refl
none_changed (change ∷ changes) none = absurd (none-some _ (sym none))

abbrev IsThere : Told → Place → Type 0
IsThere told place = (is_schema told.schema place.schema ≡ true) × (are_settings (core told.settings) (core place.settings) ≡ true)

there_by : (told : Told) (place : Place) → AreSettings told.settings → AreSettings place.settings → (there : Bool)
    → places.is_schema told.schema place.schema ≡ there
    → (if not there then Some (wishes.Schema place.schema) else settings_wish (text_of (difference_of told.settings (calm place.settings told.settings)))) ≡ None
    → IsThere told place
there_by told place told_so place_so true there rest = (
  sym (schema_same told.schema place.schema) ∙ there,
  same_core told.settings place.settings
      (same_without told.settings (calm place.settings told.settings) told_so (length-set place.settings _ _ ∙ place_so)
      (none_changed (difference_of told.settings (calm place.settings told.settings)) rest)),
)
there_by told place told_so place_so false elsewhere rest = absurd (none-some _ (sym rest))

told_there : (told : Told) (place : Place) → AreSettings told.settings → AreSettings place.settings → place_wish told (calm_place place told) ≡ None
    → IsThere told place
told_there told place told_so place_so none = there_by told place told_so place_so (places.is_schema told.schema place.schema) refl none

-- The text of an execute.

module _ (service : Serving) (texts : Texts) (g : Ground) (t : Tabled) (l : LinkId) (n : SessionName) (text : List ℕ) (stands : Stands service g t)
    (named : AreNamed g.codes) (keys : HasKeys (key_at texts) g.setup) (may : MayPrepare texts l n text t) where
  abbrev work : Work
  work = may.states.work

  abbrev desk : Desk
  desk = may.states.client.desk

  abbrev link : Link
  link = link_in g.setup g.tale l

  abbrev told : Told
  told = may.states.begins.server.row.link.state.told

  at : IsDueThere g may.states.client n work.ordinal work
  at =
      due_at service g t may.states.client n work.ordinal work stands may.states.there may.states.in_work may.states.unsent
      (and_from (nat_eq work.ordinal work.ordinal) (is_name n (name_of desk work.hostgroup)) (same_number work.ordinal)
      (ap (is_name n) (sym may.states.named) ∙ same_name n))

  key_is : (due : Due) → (view_on g).dues n ≡ Some due → due.key ≡ work.key
  key_is due dues =
      let same : at.unsent.due ≡ due = same_Some at.unsent.due due (sym (due_is g may.states.client n work.ordinal work at) ∙ dues) in
      ap (λ (d : Due). d.key) (sym same) ∙ at.unsent.as_due.request.key_is

  its_key : (due : Due) → (view_on g).dues n ≡ Some due → g.setup.keys due.key ≡ may.key
  its_key due dues = ap g.setup.keys (key_is due dues) ∙ keys work.key may.key may.kept

  abbrev is_told : Key → Told → Bool
  is_told key there =
      bytes_eq key.text key.text && (is_schema there.schema key.place.schema && are_settings (core there.settings) (core key.place.settings))

  was_told : is_told may.key told ≡ true
  was_told =
      let there = told_there told may.key.place may.told may.of_key may.is_there in
      and_from (bytes_eq may.key.text may.key.text) _ (bytes_themselves may.key.text)
      (and_from (is_schema told.schema may.key.place.schema) _ there.0 there.1)

  pub to_prepare : IsToPrepare g l n work.ordinal work.key text
  to_prepare = record {
    keyed = λ due dues same. record { name = refl; key = named due.key ∙ ap (λ (k : ℕ). Some k) (key_is due dues) };
    text_is = λ due dues same. may.its_text ∙ ap (λ (k : Key). k.text) (sym (its_key due dues));
    told = λ due dues same.
        (λ i. is_told (its_key due dues i) ((is_state service g t l stands may.states.begins).told i)) ∙ was_told;
  }
