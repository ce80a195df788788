-- What is due became so duly, and stands next on a link by its client's own number of what it prepares.
use Rattle.std.specs.Prelude.{◌≡◌, ◌<◌, ◌+◌, ℕ, Bool, true, nat_lt, if◌then◌else◌, List, Option, Some}
use Rattle.std.specs.Option.{option_map_or}
use Rattle.std.proofs.Common.{refl, sym, ap, ◌∙◌}
use Rattle.std.proofs.lemmas.Bool.{lt-ltb}
use Rattle.std.proofs.lemmas.Option.{same_Some}
use Rattle.private_model.specs.Commands as commands
use Rattle.private_model.specs.Commands.{Command}
use Rattle.private_model.specs.Names.{MessageName, SessionName}
use Rattle.private_model.specs.Story.{Due, message_of}
use Rattle.private_model.specs.View.{Setup}
use Rattle.log_story.specs.Owed.{number_of}
use Rattle.log_story.specs.Plan.{Plan, Route}
use Rattle.link_state.specs.declared.wish.Command as links
use Rattle.link_state.specs.declared.wish.Command.TheVariants as kinds
use Rattle.link_laws.specs.Stands.{AreApart, Codes}
use Rattle.stmt_map.specs.declared.client.ClientStatements.{ClientStatements}
use Rattle.client_session.specs.Setups.{Setup as Service}
use Rattle.desk_laws.specs.Stands.{kind_of}
use Rattle.run_laws.proofs.Becoming.{all_dues}
use Rattle.core_tables.specs.Beginning.{first_number}
use Rattle.core_tables.specs.Tables.{Tabled}
use Rattle.core_stands.specs.Grounds.{AreNamed, Ground, view_on}
use Rattle.core_stands.specs.Servers.{own_number}
use Rattle.core_stands.specs.Stands.{IsDuly, IsKeyedFor, Stands}

-- keys that code has for numbers are apart
pub apart_named : (codes : Codes) → AreNamed codes → AreApart codes
apart_named codes named a b number at other = same_Some a number (sym (named a) ∙ at) ∙ sym (same_Some b number (sym (named b) ∙ other))

pub duly_at : (service : Service) (g : Ground) (t : Tabled) → Stands service g t → (n : SessionName) (due : Due) → (view_on g).dues n ≡ Some due
    → IsDuly g.setup g.plan n due
duly_at service g t stands n due there = all_dues g.setup (IsDuly g.setup g.plan) g.tale.story stands.duly n due there

-- by its route

pub number_routed : (plan : Plan) (m : MessageName) (route : Route) → plan.routes m ≡ Some route → number_of plan m ≡ route.number
number_routed plan m route there = ap (λ (r : Option Route). option_map_or (λ (x : Route). x.number) r 0) there

pub unnumbered : (setup : Setup) (route : Route) (due : Due) (command : Command) → IsKeyedFor setup route due command → (kind_of command ≡ kinds.Prepare → ⊥)
    → route.number ≡ 0
unnumbered setup route due (commands.Prepare text) keyed other = absurd (other refl)
unnumbered setup route due (commands.Run text schema settings args) keyed other = keyed.0
unnumbered setup route due (commands.Query text) keyed other = keyed
unnumbered setup route due (commands.InitDb schema) keyed other = keyed
unnumbered setup route due (commands.FieldList rest) keyed other = keyed
unnumbered setup route due (commands.SetId n) keyed other = keyed
unnumbered setup route due commands.ReadId keyed other = keyed
unnumbered setup route due commands.Reset keyed other = keyed
unnumbered setup route due commands.Quit keyed other = keyed

-- the key of what is prepared is that of its route
pub prepare_key : (setup : Setup) (route : Route) (due : Due) (command : Command) → kind_of command ≡ kinds.Prepare → IsKeyedFor setup route due command
    → route.key ≡ due.key
prepare_key setup route due (commands.Prepare text) kind keyed = keyed.0
prepare_key setup route due (commands.Run text schema settings args) kind keyed = absurd (let no : kinds.Execute ≡ kinds.Prepare = kind in cc)
prepare_key setup route due (commands.Query text) kind keyed = absurd (let no : kinds.Plain ≡ kinds.Prepare = kind in cc)
prepare_key setup route due (commands.InitDb schema) kind keyed = absurd (let no : kinds.Plain ≡ kinds.Prepare = kind in cc)
prepare_key setup route due (commands.FieldList rest) kind keyed = absurd (let no : kinds.Plain ≡ kinds.Prepare = kind in cc)
prepare_key setup route due (commands.SetId n) kind keyed = absurd (let no : kinds.Plain ≡ kinds.Prepare = kind in cc)
prepare_key setup route due commands.ReadId kind keyed = absurd (let no : kinds.Plain ≡ kinds.Prepare = kind in cc)
prepare_key setup route due commands.Reset kind keyed = absurd (let no : kinds.Plain ≡ kinds.Prepare = kind in cc)
prepare_key setup route due commands.Quit kind keyed = absurd (let no : kinds.Plain ≡ kinds.Prepare = kind in cc)

pub own_unnumbered : (g : Ground) (n : SessionName) (due : Due) → IsDuly g.setup g.plan n due → (kind_of due.command ≡ kinds.Prepare → ⊥)
    → own_number g n due.ordinal ≡ 0
own_unnumbered g n due duly other =
    number_routed g.plan (message_of n due) duly.route duly.routed ∙ unnumbered g.setup duly.route due due.command duly.keyed other

-- as code has it

pub first_is : (kind : links.Command) (statements : ClientStatements) (own : ℕ)
    → (kind ≡ kinds.Prepare → (own ≡ statements.last + 1) × (statements.last < 4294967295)) → ((kind ≡ kinds.Prepare → ⊥) → own ≡ 0)
    → first_number kind statements ≡ own
first_is kinds.Prepare statements own next none =
    ap (λ (b : Bool). if b then statements.last + 1 else 0) (lt-ltb statements.last 4294967295 (next refl).1) ∙ sym (next refl).0
first_is kinds.Plain statements own next none = sym (none (λ same. absurd (let no : kinds.Plain ≡ kinds.Prepare = same in cc)))
first_is kinds.Execute statements own next none = sym (none (λ same. absurd (let no : kinds.Execute ≡ kinds.Prepare = same in cc)))
