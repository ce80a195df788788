use Rattle.small_server.proofs.Told.{in_a_transaction_breach, on_another_link_breach, with_another_id_breach, with_another_id_inside_breach, with_diagnostics_breach, without_a_capture_breach, without_a_reset_breach, without_its_place_breach}
use Rattle.small_server.proofs.no_rule_is_in_vain.Goals as goal
use Rattle.small_server.specs.Stories.{reads, setup}
use Rattle.small_server.specs.Tally.{tally, tests}

pub returns-clause-in_a_transaction : goal.returns-clause-in_a_transaction
returns-clause-in_a_transaction c = in_a_transaction_breach (c.private_world.ensures setup tests (tally reads))

pub returns-clause-without_a_reset : goal.returns-clause-without_a_reset
returns-clause-without_a_reset c = without_a_reset_breach (c.private_world.ensures setup tests (tally reads))

pub returns-clause-without_its_place : goal.returns-clause-without_its_place
returns-clause-without_its_place c = without_its_place_breach (c.private_world.ensures setup tests (tally reads))

pub returns-clause-with_another_id : goal.returns-clause-with_another_id
returns-clause-with_another_id c = with_another_id_breach (c.private_world.ensures setup tests (tally reads))

pub returns-clause-with_another_id_inside : goal.returns-clause-with_another_id_inside
returns-clause-with_another_id_inside c = with_another_id_inside_breach (c.private_world.ensures setup tests (tally reads))

pub returns-clause-with_diagnostics : goal.returns-clause-with_diagnostics
returns-clause-with_diagnostics c = with_diagnostics_breach (c.private_world.ensures setup tests (tally reads))

pub returns-clause-on_another_link : goal.returns-clause-on_another_link
returns-clause-on_another_link c = on_another_link_breach (c.private_world.ensures setup tests (tally reads))

pub returns-clause-without_a_capture : goal.returns-clause-without_a_capture
returns-clause-without_a_capture c = without_a_capture_breach (c.private_world.ensures setup tests (tally reads))
