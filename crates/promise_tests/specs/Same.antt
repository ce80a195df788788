-- Tests of equality.
use Rattle.std.specs.Prelude.{ℕ, Bool, true, false, ◌&&◌, bytes_eq, nat_eq, if◌then◌else◌, List, [], ◌∷◌, Option, Some, None}
use Rattle.mx_base.specs.declared.names.Address.{Address}
use Rattle.mx_base.specs.declared.tag.Tag.{Tag}
use Rattle.mx_base.specs.declared.tag.Tag.TheVariants as tags
use Rattle.session_state.specs.declared.place.Place.{Place}
use Rattle.session_vars.specs.declared.long_part.LongPart.{LongPart}
use Rattle.private_model.specs.Commands.{Args}
use Rattle.private_model.specs.Story.{Key, is_client, is_hostgroup}
use Rattle.log_story.specs.Plan.{Route}
use Rattle.tale_world.specs.Tests.{are_settings, is_flag}

abbrev pub is_option : {A : Type 0} → (A → A → Bool) → Option A → Option A → Bool
is_option same None None = true
is_option same (Some a) (Some b) = same a b
is_option same _ _ = false

abbrev pub are_each : {A : Type 0} → (A → A → Bool) → List A → List A → Bool
are_each same [] [] = true
are_each same (a ∷ xs) (b ∷ ys) = same a b && are_each same xs ys
are_each same _ _ = false

abbrev pub is_nothing : {A : Type 0} → Option A → Bool
is_nothing None = true
is_nothing (Some a) = false

abbrev pub is_place : Place → Place → Bool
is_place a b = bytes_eq a.schema b.schema && are_settings a.settings b.settings

abbrev pub is_key : Key → Key → Bool
is_key a b = bytes_eq a.text b.text && is_place a.place b.place

-- but for the number of its key
abbrev pub is_route : Route → Route → Bool
is_route a b =
    (is_hostgroup a.hostgroup b.hostgroup && is_option bytes_eq a.text b.text)
    && (nat_eq a.number b.number
    && (is_option is_flag a.multiplex b.multiplex && is_option is_hostgroup a.mirror b.mirror))

abbrev pub is_address : Address → Address → Bool
is_address a b = bytes_eq a.ip b.ip && nat_eq a.port b.port

abbrev pub is_part : LongPart → LongPart → Bool
is_part a b = nat_eq a.parameter b.parameter && bytes_eq a.bytes b.bytes

abbrev pub are_args : Args → Args → Bool
are_args a b =
    (is_option bytes_eq a.types b.types && bytes_eq a.nulls b.nulls)
    && (bytes_eq a.values b.values && are_each is_part a.long b.long)

-- the number of its kind, and what it names
abbrev pub tag_code : Tag → List ℕ
tag_code (tags.For client ordinal) = 0 ∷ client.0 ∷ ordinal ∷ []
tag_code (tags.Sync client hostgroup) = 1 ∷ client.0 ∷ hostgroup.0 ∷ []
tag_code (tags.Prep client ordinal) = 2 ∷ client.0 ∷ ordinal ∷ []
tag_code (tags.Mirror client ordinal) = 3 ∷ client.0 ∷ ordinal ∷ []
tag_code (tags.End client hostgroup) = 4 ∷ client.0 ∷ hostgroup.0 ∷ []
tag_code tags.Own = 5 ∷ []
tag_code tags.Reply = 6 ∷ []

abbrev pub is_tag : Tag → Tag → Bool
is_tag a b = bytes_eq (tag_code a) (tag_code b)
