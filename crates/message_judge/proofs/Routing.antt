-- What goes to a server, as the code has it and as it is wanted; and the row with a client's number.
use Rattle.std.specs.Prelude.{◌≡◌, ℕ, Bool, List, Option, Some, None}
use Rattle.std.proofs.Common.{refl, ap, ◌∙◌}
use Rattle.mx_base.specs.declared.names.Hostgroup.{Hostgroup}
use Rattle.pin_classifier.specs.Classes.{class_of}
use Rattle.pin_classifier.specs.declared.class.Class.{Class}
use Rattle.query_rules.specs.declared.ask.Routed.{Routed}
use Rattle.query_rules.specs.declared.ask.Stop.{Stop}
use Rattle.server_rule.specs.Classes.{router_reads}
use Rattle.router_promises.specs.Verdicts.{plain_route}
use Rattle.message_judge.specs.Drafts.{wanted_of}
use Rattle.message_judge.specs.Judging.{Draft, by_class, hostgroup_for, passed_on, prepares_as}
use Rattle.message_judge.specs.declared.caller.Caller.{Caller}
use Rattle.message_judge.specs.declared.caller.Prepared.{Prepared}
use Rattle.message_judge.specs.declared.caller.Standing.{Standing}
use Rattle.message_judge.specs.declared.draft.ClassOf.TheVariants as classes

pub wanted_so : (caller : Caller) (prepared : Option Prepared) (there hostgroup : Hostgroup) (text : List ℕ) (flag : Option ℕ) (multiplex : Option Bool) (stop : Option Stop)
    (class : Class) (number : Option ℕ)
    → wanted_of caller prepared (record { hostgroup = there; text = Some text; number = number; multiplex = multiplex; class = classes.Own class })
    ≡ prepares_as caller (record { hostgroup = hostgroup; text = text; next_flag = flag; multiplex = multiplex; stop = stop }) number
    (record { route = record (plain_route there) { text = Some text; multiplex = multiplex }; key = None })
wanted_so caller None there hostgroup text flag multiplex stop class None = refl
wanted_so caller (Some one) there hostgroup text flag multiplex stop class None = refl
wanted_so caller prepared there hostgroup text flag multiplex stop class (Some n) = refl

-- A text that the rules let pass, by its class.
pub classified_so : (caller : Caller) (standing : Standing) (prepared : Option Prepared) (there hostgroup : Hostgroup) (text : List ℕ) (flag : Option ℕ)
    (multiplex : Option Bool) (stop : Option Stop) (class : Class) (number : Option ℕ)
    → class ≡ class_of text → there ≡ hostgroup_for caller standing class hostgroup
    → by_class class class.refusal (wanted_of caller prepared (record { hostgroup = there; text = Some text; number = number; multiplex = multiplex; class = classes.Own class }))
    ≡ passed_on router_reads caller standing (record { hostgroup = hostgroup; text = text; next_flag = flag; multiplex = multiplex; stop = stop }) number
unfolding router_reads
classified_so caller standing prepared there hostgroup text flag multiplex stop class number is at =
    ap (by_class class class.refusal) (wanted_so caller prepared there hostgroup text flag multiplex stop class number)
    ∙ ap (goes class) at ∙ ap (λ (c : Class). goes c (hostgroup_for caller standing c hostgroup)) is where
      routed : Routed
      routed = record { hostgroup = hostgroup; text = text; next_flag = flag; multiplex = multiplex; stop = stop }

      goes : Class → Hostgroup → Draft
      goes c to = by_class c c.refusal (prepares_as caller routed number (record { route = record (plain_route to) { text = Some text; multiplex = multiplex }; key = None }))
