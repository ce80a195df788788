-- The runs of a log are the longest ones.
use Rattle.std.proofs.Common.{◌≡◌, ℕ, true, nat_eq, inl, inr, List, [], ◌∷◌, ◌++◌, refl, ap, ◌∙◌, append_assoc}
use Rattle.std.specs.List.{flat_map}
use Rattle.std.proofs.lemmas.Bool.{cases_Bool, and_parts, eqb-true}
use Rattle.mx_base.specs.declared.names.ClientNo.{ClientNo}
use Rattle.mx_base.specs.declared.names.Hostgroup.{Hostgroup}
use Rattle.mx_base.specs.declared.tag.Tag.{Tag}
use Rattle.mx_base.specs.declared.tag.Tag.TheVariants.{For, Sync, Prep, Mirror, End, Own, Reply}
use Rattle.mx_wire.specs.Log.{Log, wrote_bytes}
use Rattle.mx_wire.specs.declared.entry.Entry.TheVariants.{Wrote}
use Rattle.recording.specs.Runs.{AreApart, AreLongest}
use Rattle.recording.specs.Transcript.{Run, runs, joined, same_tag}

same_client : (c d : ClientNo) → nat_eq c.0 d.0 ≡ true → c ≡ d
same_client c d same = ap (λ n. let client : ClientNo = record { 0 = n } in client) (eqb-true c.0 d.0 same)

same_hostgroup : (g h : Hostgroup) → nat_eq g.0 h.0 ≡ true → g ≡ h
same_hostgroup g h same = ap (λ n. let hostgroup : Hostgroup = record { 0 = n } in hostgroup) (eqb-true g.0 h.0 same)

-- equal tags are one tag
same_tag-true : (a b : Tag) → same_tag a b ≡ true → a ≡ b
unfolding same_tag
same_tag-true (For c n) (For d m) same = let parts = and_parts (nat_eq c.0 d.0) (nat_eq n m) same in let client = same_client c d parts.0 in let ordinal = eqb-true n m parts.1 in cc
same_tag-true (Sync c g) (Sync d h) same = let parts = and_parts (nat_eq c.0 d.0) (nat_eq g.0 h.0) same in let client = same_client c d parts.0 in let hostgroup = same_hostgroup g h parts.1 in cc
same_tag-true (Prep c n) (Prep d m) same = let parts = and_parts (nat_eq c.0 d.0) (nat_eq n m) same in let client = same_client c d parts.0 in let ordinal = eqb-true n m parts.1 in cc
same_tag-true (Mirror c n) (Mirror d m) same = let parts = and_parts (nat_eq c.0 d.0) (nat_eq n m) same in let client = same_client c d parts.0 in let ordinal = eqb-true n m parts.1 in cc
same_tag-true (End c g) (End d h) same = let parts = and_parts (nat_eq c.0 d.0) (nat_eq g.0 h.0) same in let client = same_client c d parts.0 in let hostgroup = same_hostgroup g h parts.1 in cc
same_tag-true Own Own same = refl
same_tag-true Reply Reply same = refl
same_tag-true a b same = cc

abbrev bytes_of : Run → List ℕ
bytes_of run = run.bytes

joined_bytes : (run : Run) (later : List Run) → flat_map bytes_of (joined run later) ≡ run.bytes ++ flat_map bytes_of later
joined_bytes run [] = refl
joined_bytes run (next ∷ later) = elim (cases_Bool (same_tag run.tag next.tag)) [
  | inl same ↦ rw same (append_assoc run.bytes next.bytes (flat_map bytes_of later))
  | inr other ↦ rw other refl
]

-- another first run with the same tag
other_first : (run first : Run) (later : List Run) → run.tag ≡ first.tag → AreApart (first ∷ later) → AreApart (run ∷ later)
other_first run first [] same apart = tt
other_first run first (next ∷ later) same apart = (ap (λ tag. same_tag tag next.tag) same ∙ apart.0, apart.1)

joined_apart : (run : Run) (later : List Run) → AreApart later → AreApart (joined run later)
joined_apart run [] apart = tt
joined_apart run (next ∷ later) apart = elim (cases_Bool (same_tag run.tag next.tag)) [
  | inl same ↦ rw same (other_first (record { tag = run.tag; bytes = run.bytes ++ next.bytes }) next later (same_tag-true run.tag next.tag same) apart)
  | inr other ↦ rw other (other, apart)
]

whole : (log : Log) → flat_map bytes_of (runs log) ≡ flat_map wrote_bytes log
whole [] = refl
whole (Wrote link tag bytes ∷ log) = joined_bytes (record { tag = tag; bytes = bytes }) (runs log) ∙ ap (λ xs. bytes ++ xs) (whole log)
whole (_ ∷ log) = whole log

apart : (log : Log) → AreApart (runs log)
apart [] = tt
apart (Wrote link tag bytes ∷ log) = joined_apart (record { tag = tag; bytes = bytes }) (runs log) (apart log)
apart (_ ∷ log) = apart log

pub longest : (log : Log) → AreLongest log
longest log = record { whole = whole log; apart = apart log }
