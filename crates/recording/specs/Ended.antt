-- How things stand behind the lines so far, as the code keeps it.
use Rattle.std.specs.Prelude.{Bool, nat_eq}
use Rattle.std.specs.HashSet.{contains}
use Rattle.recording.specs.Recording.{Standing}
use Rattle.recording.specs.declared.ended.EndedLinks.{EndedLinks}
use Rattle.recording.specs.declared.entry.RecordLink.{RecordLink}
use Rattle.recording.specs.declared.entry.RecordLink.TheVariants.{Client, Server}
use Rattle.recording.specs.declared.progress.Progress.{Progress}

abbrev pub is_in : EndedLinks → RecordLink → Bool
is_in links (Client n) = contains nat_eq links.clients n
is_in links (Server k) = contains nat_eq links.servers k

abbrev pub standing_of : Progress → Standing
standing_of progress = record { moment = progress.moment; clients = progress.clients; ended = is_in progress.ended }
