-- How a reply ended, in the words of the law of servers.
use Rattle.std.specs.Prelude.{Bool, true, false}
use Rattle.reply_track.specs.declared.reply.EndKind as track
use Rattle.reply_track.specs.declared.reply.EndKind.TheVariants as tracked
use Rattle.reply_track.specs.declared.reply.ReplyEnd as track_end
use Rattle.reply_track.specs.declared.reply.ReplyKind.{ReplyKind}
use Rattle.reply_track.specs.declared.reply.ReplyKind.TheVariants.{Command, Prepare, Fields}
use Rattle.session_state.specs.declared.reply_end.EndKind.{EndKind}
use Rattle.session_state.specs.declared.reply_end.EndKind.TheVariants as kinds
use Rattle.session_state.specs.declared.reply_end.ReplyEnd.{ReplyEnd}

abbrev pub kind_read : track.EndKind → EndKind
kind_read tracked.Ok = kinds.Ok
kind_read tracked.Err = kinds.Err
kind_read tracked.Rows = kinds.Rows
kind_read tracked.Prepared = kinds.Prepared

abbrev pub end_read : track_end.ReplyEnd → ReplyEnd
end_read end = record {
  kind = kind_read end.kind;
  flags = end.flags;
  warnings = end.warnings;
  insert_id = end.insert_id;
  code = end.code;
  server_number = end.server_number;
  params = end.params;
}

-- it answers a STMT_PREPARE
abbrev pub is_of_prepare : ReplyKind → Bool
is_of_prepare Prepare = true
is_of_prepare Command = false
is_of_prepare Fields = false
