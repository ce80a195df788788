-- What the router asks for itself is wanted: a step by the statement whose link it is, or by one that waits for a link of its key, a
-- preparation on the way to a statement, and a STMT_CLOSE where there are too many or one is in the way.
use Rattle.std.specs.Prelude.{◌≡◌, ℕ, Bool, true, false, [], Some}
use Rattle.mx_base.specs.declared.tag.Tag.{Tag}
use Rattle.mx_base.specs.declared.tag.Tag.TheVariants as tags
use Rattle.mx_wire.specs.Log.{Log}
use Rattle.mx_wire.specs.declared.entry.Entry.{Entry}
use Rattle.mx_wire.specs.declared.entry.Entry.TheVariants.{Wrote}
use Rattle.private_model.specs.Commands.{Number, Quit}
use Rattle.private_model.specs.Names.{LinkId}
use Rattle.server_rule.specs.Classes.{Reads}
use Rattle.log_story.specs.Plan.{Asks, Closes, StepText}
use Rattle.log_story.specs.Servers.{may_begin}
use Rattle.log_story.specs.Tale.{is_to_server}
use Rattle.tale_world.specs.Tests.{is_set}
use Rattle.router_promises.specs.Now.{Now, link_now, now_at, wire_now}
use Rattle.router_promises.specs.Steps.{IsClose, is_prep_wanted, is_wanted}
use Rattle.router_promises.specs.Terms.{Terms, plan_in, setup_in}
use Rattle.shared_router.specs.Fixed.{Fixed}

-- insert ids are spelt as they are, and an empty text is no SET

abbrev pub SpellsIds : Fixed → Type 0
SpellsIds fixed = (id : ℕ) (number : Number) → fixed.ids id ≡ Some number → number.value ≡ id

abbrev pub ReadsNothing : Reads → Type 0
ReadsNothing reads = (tx : Bool) → is_set (reads.class []) tx ≡ false

-- a QUIT is no step
abbrev pub IsWantedThere : Terms → Now → LinkId → StepText → Type 0
IsWantedThere terms now link (Asks Quit) = Unit {0}
IsWantedThere terms now link (Asks command) = is_wanted terms now link command (link_now (setup_in terms) now link).carries ≡ true
IsWantedThere terms now link (Closes number) = IsClose terms now link number
IsWantedThere terms now link _ = Unit {0}

abbrev pub LeadsFor : Terms → Now → LinkId → StepText → Tag → Type 0
LeadsFor terms now link step tags.Own = IsWantedThere terms now link step
LeadsFor terms now link step (tags.Sync client hostgroup) = IsWantedThere terms now link step
LeadsFor terms now link step (tags.Prep client ordinal) = is_prep_wanted terms now link (record { client = client; ordinal = ordinal }) ≡ true
LeadsFor terms now link step _ = Unit {0}

abbrev pub LeadsAs : Terms → Now → LinkId → Tag → (begins : Bool) → Type 0
LeadsAs terms now link tag true = LeadsFor terms now link ((plan_in terms).steps link (wire_now now link).begun) tag
LeadsAs terms now link tag false = Unit {0}

abbrev pub LeadsBy : Terms → Now → Entry → Type 0
LeadsBy terms now (Wrote link tag bytes) =
    is_to_server now.tale link ≡ true → LeadsAs terms now link tag (may_begin (setup_in terms) link (wire_now now link) now.tale)
LeadsBy terms now _ = Unit {0}

abbrev pub LeadsSo : Terms → Log → Entry → Type 0
LeadsSo terms log e = LeadsBy terms (now_at terms log) e
