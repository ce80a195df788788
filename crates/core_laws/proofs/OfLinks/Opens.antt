-- A link to a server is opened.
use Rattle.std.specs.Prelude.{◌≡◌, ℕ, Bool, true, false, ◌||◌, nat_eq, if◌then◌else◌, List, [], ◌∷◌, ◌++◌, Option, Some, None}
use Rattle.std.specs.List.{list_any}
use Rattle.std.specs.Option.{option_map_or}
use Rattle.std.proofs.Common.{refl, sym, ◌∙◌, ap, arith}
use Rattle.client_session.specs.Setups.{Setup as Service}
use Rattle.mx_base.specs.declared.names.Address.{Address}
use Rattle.mx_wire.specs.declared.entry.Entry.TheVariants as entry
use Rattle.private_model.specs.Names.{ClientNo, LinkId, ServerId}
use Rattle.private_model.specs.Story.{is_link_id}
use Rattle.log_story.specs.Tale.{is_to_server}
use Rattle.log_story.specs.Telling.{tale_step, told}
use Rattle.served_link.specs.declared.row.Opening.{Opening}
use Rattle.served_link.specs.Rows.{new_row}
use Rattle.server_side.specs.Account.{Account}
use Rattle.step_laws.specs.Steps.{told_then}
use Rattle.core_tables.specs.Parting.{is_done_for, name_in}
use Rattle.core_tables.specs.Tables.{IsSame, Tabled}
use Rattle.core_tables.specs.Writing.{opened}
use Rattle.core_tables.specs.declared.server.Server.{Server}
use Rattle.core_stands.specs.Grounds.{Ground, on}
use Rattle.core_stands.specs.Stands.{Rests, Stands}
use Rattle.core_laws.proofs.OfEntry.Uneventful.{Counting, Testing}
use Rattle.core_laws.specs.entry.Entries.{behind}
use Rattle.core_laws.specs.entry.Kinds.{IsUneventful}
use Rattle.core_laws.proofs.OfLinks.Uncalled.{Sames, nobody_rests, nobody_steps}

abbrev pub done_of : Tabled → Option Server → Bool
done_of t row = option_map_or (λ (server : Server). is_done_for t server (name_in server.row.link.state.carries)) row false

pub any_last : (l other : LinkId) (xs : List LinkId) → is_link_id other l ≡ false → list_any (is_link_id other) (xs ++ l ∷ []) ≡ list_any (is_link_id other) xs
any_last l other [] apart = ap (λ b. b || false) apart
any_last l other (x ∷ xs) apart = ap (λ b. is_link_id other x || b) (any_last l other xs apart)

pub flipped : (a b : LinkId) → nat_eq a.0 b.0 ≡ false → is_link_id b a ≡ false
flipped a b apart = grind arith

module _ (service : Service) (counting : Counting service) (testing : Testing service) (sames : Sames service) (g : Ground) (t : Tabled) (roomy : ClientNo → Bool)
    (rests : Rests service g t roomy) (calm : IsUneventful g) (server : ServerId) (address : Address) (l : LinkId) (slot : ℕ) (opening : Opening)
    (account : Account) (moment : ℕ) where
  new_by : (other : LinkId) (b : Bool) → nat_eq l.0 other.0 ≡ b → list_any (is_link_id other) (g.tale.links ++ l ∷ []) ≡ true
      → done_of t (if b then Some (record { row = new_row opening account moment; slot = slot; spot = None }) else t.links other) ≡ false
  new_by other true here there = refl
  new_by other false apart there =
      let before : is_to_server g.tale other ≡ true = sym (any_last l other g.tale.links (flipped l other apart)) ∙ there in
      sym (testing g t other rests.stands before) ∙ rests.rested other before

  pub opened_steps : (now : Tabled) → IsSame now (opened l slot opening account moment t)
      → Stands service (on g (told g.setup g.plan g.tale (entry.Opened server address l))) now
      → tale_step g.setup g.plan g.tale (entry.Opened server address l) ≡ told_then g.setup g.plan g.tale (entry.Opened server address l)
  opened_steps now same stands =
      nobody_steps service counting testing sames g t now (opened l slot opening account moment t) roomy rests calm (entry.Opened server address l)
      (λ client. refl) refl stands same (λ other there. new_by other (nat_eq l.0 other.0) refl there)

  pub opened_rests : (now : Tabled) → IsSame now (opened l slot opening account moment t)
      → Stands service (on g (told g.setup g.plan g.tale (entry.Opened server address l))) now
      → Rests service (behind g (entry.Opened server address l) g.over) now roomy
  opened_rests now same stands =
      nobody_rests service counting testing sames g t now (opened l slot opening account moment t) roomy rests calm (entry.Opened server address l)
      (λ client. refl) refl stands same (λ other there. new_by other (nat_eq l.0 other.0) refl there) (λ c. tt) tt
