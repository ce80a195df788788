-- A preparation is wished for only where a link was told its place, and then it may begin.
use Rattle.std.specs.Prelude.{◌≡◌, ℕ, Bool, true, false, not, if◌then◌else◌, length, nat_eq, nat_lt, slice_get, List, Option, Some, None, Result, Ok, Err, IfOk}
use Rattle.std.specs.List.{list_any}
use Rattle.std.specs.Option.{option_and_then}
use Rattle.std.proofs.Common.{refl, sym, ap, ◌∙◌}
use Rattle.std.proofs.lemmas.Bool.{true≢false}
use Rattle.mx_base.specs.declared.names.LinkId.{LinkId}
use Rattle.session_state.specs.declared.names.SessionName.{SessionName}
use Rattle.session_state.specs.declared.place.Place.{Place}
use Rattle.session_state.specs.declared.place.Told.{Told}
use Rattle.session_vars.specs.Settings.{difference_of}
use Rattle.private_model.specs.Story.{Key}
use Rattle.link_state.specs.Places.{calm_place, is_schema, place_wish, settings_wish, text_of}
use Rattle.link_state.specs.Stood.{number_of}
use Rattle.link_state.specs.Wants.{cleared, cleared_by, closes, id_wanted, is_unprepared, oldest_closed, or_id, or_wish, own_wish, own_wish_as, prep_wish, statement_wish, unlong, wish_by}
use Rattle.link_state.specs.declared.state.LinkState.{LinkState}
use Rattle.link_state.specs.declared.wish.Command.{Command}
use Rattle.link_state.specs.declared.wish.Command.TheVariants as commands
use Rattle.link_state.specs.declared.wish.Wanted.{Wanted}
use Rattle.link_state.specs.declared.wish.Wish.{Wish}
use Rattle.link_state.specs.declared.wish.Wish.TheVariants as wishes
use Rattle.client_desk.specs.declared.work.Work.{Work}
use Rattle.core_tables.specs.Tables.{Tabled}
use Rattle.core_tables.specs.declared.client.Client.{Client}
use Rattle.core_tables.specs.declared.server.Server.{Server}
use Rattle.core_texts.specs.Texts.{key_at}
use Rattle.core_texts.specs.declared.texts.Texts.{Texts}
use Rattle.router_laws.specs.wakes.Settling.{MayPrepare, MayState}
use Rattle.shared_core.specs.Rows.{IsToldPlace, work_at}

abbrev is_prep : Wish → Bool
is_prep wishes.Prepare = true
is_prep _ = false

-- no other wish is one

settings_other : (text : Option (List ℕ)) (w : Wish) → settings_wish text ≡ Some w → is_prep w ≡ false
settings_other None w is = absurd (let no = is in cc)
settings_other (Some text) w is = (let same : wishes.Settings text ≡ w = cc in ap is_prep (sym same))

place_other : (told : Told) (place : Place) (w : Wish) → place_wish told place ≡ Some w → is_prep w ≡ false
place_other told place w is = by (is_schema told.schema place.schema) is where
  by : (b : Bool)
      → (if not b then Some (wishes.Schema place.schema) else settings_wish (text_of (difference_of told.settings place.settings))) ≡ Some w
      → is_prep w ≡ false
  by true same = settings_other (text_of (difference_of told.settings place.settings)) w same
  by false same = (let schema : wishes.Schema place.schema ≡ w = cc in ap is_prep (sym schema))

closes_other : (entry : Option (ℕ × ℕ)) → is_prep (closes entry wishes.Statement) ≡ false
closes_other None = refl
closes_other (Some entry) = refl

oldest_other : (live : List (ℕ × ℕ)) → is_prep (oldest_closed live wishes.Statement) ≡ false
oldest_other live = by (nat_lt (length live) 1000) where
  by : (b : Bool) → is_prep (if b then wishes.Statement else closes (slice_get live 0) wishes.Statement) ≡ false
  by true = refl
  by false = closes_other (slice_get live 0)

cleared_other : (number : Option ℕ) (live : List (ℕ × ℕ)) → is_prep (cleared_by number live wishes.Statement) ≡ false
cleared_other None live = oldest_other live
cleared_other (Some number) live = refl

unlong_other : (long : List ℕ) (number : Option ℕ) → is_prep (unlong long number) ≡ false
unlong_other long None = refl
unlong_other long (Some number) = by (list_any (nat_eq number) long) where
  by : (b : Bool) → is_prep (if b then wishes.Resets number else wishes.Statement) ≡ false
  by true = refl
  by false = refl

own_other : (command : Command) (live : List (ℕ × ℕ)) (long : List ℕ) (key : ℕ) → is_prep (own_wish_as command live long key) ≡ false
own_other commands.Plain live long key = refl
own_other commands.Prepare live long key = cleared_other (number_of live key) live
own_other commands.Execute live long key = unlong_other long (number_of live key)

id_other : (id : Option ℕ) (w : Wish) → is_prep w ≡ false → is_prep (or_id id w) ≡ false
id_other None w is = is
id_other (Some id) w is = refl

statement_other : (state : LinkState) (wanted : Wanted) (place : Place) (long : List ℕ) → is_prep (statement_wish state wanted place long) ≡ false
statement_other state wanted place long = by (place_wish state.told place) refl where
  by : (w : Option Wish) → place_wish state.told place ≡ w
      → is_prep (or_wish w (or_id (id_wanted wanted state.marked state.id) (own_wish state.live long wanted))) ≡ false
  by None at = id_other (id_wanted wanted state.marked state.id) _ (own_other wanted.command state.live long wanted.key)
  by (Some w) at = place_other state.told place w at

module _ (state : LinkState) (wanted : Wanted) (place of_key : Place) (long : List ℕ) where
  prepared : (w : Option Wish) → place_wish state.told (calm_place of_key state.told) ≡ w
      → or_wish w (cleared state.live wanted.key wishes.Prepare) ≡ wishes.Prepare → place_wish state.told (calm_place of_key state.told) ≡ None
  prepared None at is = at
  prepared (Some w) at is = absurd (true≢false (sym (ap is_prep is) ∙ place_other state.told (calm_place of_key state.told) w at))

  pub told_place : wish_by state wanted place of_key long ≡ wishes.Prepare → place_wish state.told (calm_place of_key state.told) ≡ None
  told_place is = by (is_unprepared state.live wanted) is where
    by : (b : Bool) → (if b then prep_wish state wanted.key of_key else statement_wish state wanted place long) ≡ wishes.Prepare
        → place_wish state.told (calm_place of_key state.told) ≡ None
    by true same = prepared (place_wish state.told (calm_place of_key state.told)) refl same
    by false same = absurd (true≢false (sym (ap is_prep same) ∙ statement_other state wanted place long))

-- A text that is kept may be prepared.
pub may_prepare : (texts : Texts) (l : LinkId) (name : SessionName) (text : List ℕ) (t : Tabled) (key : Key) → MayState l name t
    → Some key ≡ option_and_then (λ (work : Work). key_at texts work.key) (work_at name.client t) → text ≡ key.text
    → ((server : Server) → t.links l ≡ Some server → IsToldPlace key.place server.row.link.state.told) → MayPrepare texts l name text t
may_prepare texts l name text t key states kept its_text told =
    let at_work : work_at name.client t ≡ Some states.work =
    ap (option_and_then (λ (row : Client). row.desk.work)) states.there ∙ states.in_work in
    let is_told : IsToldPlace key.place states.begins.server.row.link.state.told = told states.begins.server states.begins.there in
    record {
      states = states;
      key = key;
      kept = sym (kept ∙ ap (option_and_then (λ (work : Work). key_at texts work.key)) at_work);
      its_text = its_text;
      of_key = is_told.of_key;
      told = is_told.of_link;
      is_there = is_told.is_there;
    }

pub if_value : {T E : Type 0} (r : Result T E) (P Q : T → Type 0) → ((x : T) → P x → Q x) → IfOk r P → IfOk r Q
if_value (Ok x) P Q so is = so x is
if_value (Err e) P Q so is = tt
