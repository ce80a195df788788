-- Questions, by what their answers make of a link.
use Rattle.std.specs.Prelude.{Bool, true, false}
use Rattle.mx_base.specs.declared.tag.Tag.{Tag}
use Rattle.mx_base.specs.declared.tag.Tag.TheVariants as tags
use Rattle.reply_track.specs.declared.reply.ReplyKind.{ReplyKind}
use Rattle.reply_track.specs.declared.reply.ReplyKind.TheVariants as kinds
use Rattle.session_state.specs.declared.names.SessionName.{SessionName}
use Rattle.link_state.specs.declared.asking.Form.{Form}
use Rattle.link_state.specs.declared.asking.Form.TheVariants.{Text, Fields, Prepare}
use Rattle.link_state.specs.declared.asking.Purpose.{Purpose}
use Rattle.link_state.specs.declared.asking.Purpose.TheVariants.{Statement, Prep, Sync, Own, End, Capture}
use Rattle.link_state.specs.declared.state.Carried.{Carried}
use Rattle.link_state.specs.declared.state.Carried.TheVariants.{Nobody, Lent, Joined}

abbrev pub kind_of : Form → ReplyKind
kind_of Fields = kinds.Fields
kind_of (Prepare class) = kinds.Prepare
kind_of _ = kinds.Command

-- it may set the insert id, or reads it
abbrev pub marks : Form → Bool
marks (Text class) = class.marks_id
marks Fields = false
marks (Prepare class) = class.marks_id
marks _ = true

abbrev pub tag_of : Purpose → Tag
tag_of (Statement name ordinal key) = tags.For name.client ordinal
tag_of (Prep name ordinal key) = tags.Prep name.client ordinal
tag_of (Sync name) = tags.Sync name.client name.hostgroup
tag_of Own = tags.Own
tag_of (End name) = tags.End name.client name.hostgroup
tag_of (Capture name) = tags.End name.client name.hostgroup

-- whom the link carries as a question goes out, and as it runs

abbrev pub lends_by : SessionName → Carried → Carried
lends_by name Nobody = Lent name
lends_by name carries = carries

abbrev pub lent_for : Purpose → Carried → Carried
lent_for (Statement name ordinal key) carries = lends_by name carries
lent_for (Prep name ordinal key) carries = lends_by name carries
lent_for _ carries = carries

abbrev pub joined_for : Purpose → Carried → Carried
joined_for (Statement name ordinal key) carries = Joined name
joined_for _ carries = carries

-- whether what runs is a statement that marks the insert id
abbrev pub marks_by : Purpose → Form → Bool
marks_by (Statement name ordinal key) form = marks form
marks_by _ form = false
