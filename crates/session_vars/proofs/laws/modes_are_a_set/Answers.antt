use Rattle.session_vars.specs.Modes.{added_to, joined_text, own_mode}
use Rattle.session_vars.specs.declared.change.SlotValue.TheVariants.{Text}
use Rattle.session_vars.proofs.Named.{added_named, named_stays}
use Rattle.session_vars.proofs.laws.modes_are_a_set.Goals as goal

pub returns : goal.returns
returns c = record {
  named = added_named;
  stays = named_stays;
  again = λ old list tracked are. named_stays (added_to old (Text (joined_text own_mode list))) list (added_named old list tracked are);
}
