-- What goes to links to servers: statements that are due, resets that take back what was done, and what the router says for itself.
use Rattle.std.specs.Prelude.{◌≡◌, Bool, true, false}
use Rattle.mx_base.specs.declared.tag.Tag.{Tag}
use Rattle.mx_base.specs.declared.tag.Tag.TheVariants as tags
use Rattle.mx_wire.specs.Log.{Log}
use Rattle.mx_wire.specs.declared.entry.Entry.{Entry}
use Rattle.mx_wire.specs.declared.entry.Entry.TheVariants.{Wrote}
use Rattle.private_model.specs.Commands.{Quit}
use Rattle.private_model.specs.Names.{LinkId}
use Rattle.log_story.specs.Plan.{Asks, Resets, StepText}
use Rattle.log_story.specs.Servers.{may_begin}
use Rattle.log_story.specs.Tale.{is_to_server}
use Rattle.router_promises.specs.Closes.{MayQuit, is_past_reset}
use Rattle.router_promises.specs.Now.{Now, now_at, wire_now}
use Rattle.router_promises.specs.Steps.{IsReset, is_for_due}
use Rattle.router_promises.specs.Terms.{Terms, plan_in, setup_in}

-- a QUIT is said for a cause to close the link, and a STMT_RESET names a statement with long data
abbrev pub MaySay : Terms → Log → Now → LinkId → StepText → Type 0
MaySay terms log now link (Asks Quit) = MayQuit terms log now link
MaySay terms log now link (Resets number) = IsReset now link number
MaySay terms log now link _ = Unit {0}

-- a statement is sent while it is due, and no reset behind a statement of which none takes back what it does
abbrev pub SendsFor : Terms → Log → Now → LinkId → StepText → Tag → Type 0
SendsFor terms log now link step tags.Own = MaySay terms log now link step
SendsFor terms log now link step (tags.Sync client hostgroup) = MaySay terms log now link step
SendsFor terms log now link step (tags.For client ordinal) = is_for_due terms now (record { client = client; ordinal = ordinal }) ≡ true
SendsFor terms log now link step (tags.End client hostgroup) = is_past_reset (setup_in terms) now link ≡ false
SendsFor terms log now link step _ = Unit {0}

abbrev pub SendsAs : Terms → Log → Now → LinkId → Tag → (begins : Bool) → Type 0
SendsAs terms log now link tag true = SendsFor terms log now link ((plan_in terms).steps link (wire_now now link).begun) tag
SendsAs terms log now link tag false = Unit {0}

abbrev pub SendsBy : Terms → Log → Now → Entry → Type 0
SendsBy terms log now (Wrote link tag bytes) =
    is_to_server now.tale link ≡ true → SendsAs terms log now link tag (may_begin (setup_in terms) link (wire_now now link) now.tale)
SendsBy terms log now _ = Unit {0}

abbrev pub SendsSo : Terms → Log → Entry → Type 0
SendsSo terms log e = SendsBy terms log (now_at terms log) e
