-- The worked logs of the promise, and what the router goes by in them.
use Rattle.std.specs.Prelude.{◌++◌, false, true, drop, nat_eq, take, if◌then◌else◌, [], ◌∷◌, Some, None}
use Rattle.mx_base.specs.declared.tag.Tag.TheVariants.{Own as OwnTag}
use Rattle.mx_wire.specs.Log.{Log}
use Rattle.mx_wire.specs.declared.entry.Entry.TheVariants.{Got, Wrote}
use Rattle.packet_frame.specs.Packets.{spelling, spellings}
use Rattle.log_story.specs.Plan.{Asks, Resets, step_payload}
use Rattle.router_promises.specs.Terms.{Terms}
use Rattle.private_model.specs.Commands.{Query}
use Rattle.shared_router.specs.Fixed.{Fixed}
use Rattle.router_cases.specs.Executed as executed
use Rattle.router_cases.specs.Worked.{anybody, decided, link, names_text, nothing, ok_with, place, router, zero_id}

-- each key has the number 0, and the insert id 0 has 64 bits
abbrev pub fixed : Fixed
fixed = record {
  router = router;
  keys = decided.keys;
  number_of = λ key. 0;
  accounts = λ c. anybody;
  places = λ c. place;
  administered = λ m. [];
  stored = nothing;
  ids = λ n. if nat_eq n 0 then Some zero_id else None;
  starves = λ entry c. false;
  prefers = λ entry one other. true;
  picks = λ entry hostgroup. record { 0 = 1 };
}

-- of prepared statements there is the one
abbrev pub fixed_keys : Fixed
fixed_keys = record fixed { keys = executed.decided.keys }

-- behind long data the statement is reset before it is executed again

abbrev pub again : Terms
again = record executed.terms {
  decided = record executed.decided { plan = record executed.plan { steps = λ l begun. if nat_eq begun 3 then Resets 7 else Asks (Query names_text) } };
}

abbrev pub again_log : Log
again_log = take 20 executed.log ++ (Wrote (link 3) OwnTag (spelling 0 (step_payload (Resets 7))) ∷ Got (link 3) (spellings 1 (ok_with 0)) ∷ []) ++ drop 20 executed.log
