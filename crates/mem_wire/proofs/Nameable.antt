-- The link that a search finds is the one that a play names.
use Rattle.std.proofs.Common.{◌≡◌, ℕ, zero, suc, ◌<◌, ◌≤◌, ◌+◌, ◌==◌, Bool, true, false, List, [], ◌∷◌, ◌++◌, if◌then◌else◌, Option, Some, None, refl, sym, ◌∙◌, ap, subst, arith, inl, inr}
use Rattle.std.specs.Prelude.{slice_get, not, ◌&&◌}
use Rattle.std.specs.Option.{option_or}
use Rattle.std.specs.Ordering.{nat_cmp}
use Rattle.std.specs.BTreeMap.{get}
use Rattle.std.specs.List.{filter_map, cons_option, find}
use Rattle.std.proofs.lemmas.List.Folds.{find-append}
use Rattle.std.proofs.lemmas.Bool.{eqb-true}
use Rattle.mx_base.specs.declared.names.LinkId.{LinkId}
use Rattle.mx_wire.specs.Log.{Log, is_open}
use Rattle.mx_wire.specs.Growth.{bool_cases, same_number}
use Rattle.recording.specs.declared.entry.RecordLink.{RecordLink}
use Rattle.recording.specs.declared.entry.RecordEntry.{RecordEntry}
use Rattle.mem_wire.specs.declared.naming.ToName.{ToName}
use Rattle.mem_wire.specs.declared.track.Track.{Track}
use Rattle.mem_wire.specs.declared.turns.Turns.{Turns}
use Rattle.mem_wire.specs.declared.stage.Stage.{Stage}
use Rattle.mem_wire.specs.Lines.{same_name, name_at}
use Rattle.mem_wire.specs.Came.{wakes, is_told, is_blocked, Known, known, with_name, unread_of, ending_of, room_of}
use Rattle.mem_wire.specs.Play.{named_since, is_ready, is_to_name, known_at, next_named, Names}
use Rattle.mem_wire.specs.Tracks.{track_at, place, room_in}
use Rattle.mem_wire.specs.Steps.{numbered, IsWithin}
use Rattle.mem_wire.specs.Naming.{is_named, named_by, named_at, names, first_from, lines_between}
use Rattle.mem_wire.specs.Turns.{StopsAtLine, SearchesLinks, Searches, SearchesOn, InTurn, AllInTurn}
use Rattle.mem_wire.specs.Stands.{Numbered, is_in, Stands}
use Rattle.mem_wire.proofs.Links.{low_or_high}
use Rattle.mem_wire.proofs.LineLaws.{same_place}
use Rattle.mem_wire.proofs.CutLaws.{cut-released, last-drop, last-lines}
use Rattle.mem_wire.proofs.FirstLines.{first-number, none-names}
use Rattle.mem_wire.proofs.InTurn.{test-true, none-unless-pending, in-lines, in-links}
use Rattle.mem_wire.proofs.Standing.{has-track}
use Rattle.mem_wire.proofs.StandMoves.{if-own}

if-some : (b : Bool) (o : Option LinkId) (link : LinkId) → (if b then o else None) ≡ Some link → o ≡ Some link
if-some true o link is = is
if-some false o link is = cc

pub named-link : (last : ℕ) (t : Track) (link : LinkId) → named_by last t ≡ Some link → t.link ≡ Some link
named-link last t link is = if-some (not t.closed && (is_ready t.unread t.ending t.told t.blocked (room_in last t.room) && not (is_named t.named last))) t.link link is

-- whether the track's link is to be named
abbrev test : ℕ → Track → Bool
test last t = not t.closed && (is_ready t.unread t.ending t.told t.blocked (room_in last t.room) && not (is_named t.named last))

-- the link of each track's name is the track's
abbrev Owned : List Track → List Known → Type 0
Owned tracks [] = Unit {0}
Owned tracks (k ∷ links) = ((track_at tracks (place k.name)).link ≡ Some k.link) × Owned tracks links

owned-from : (tracks : List Track) (n : ℕ) (links : List Known) (places : List ℕ) → Numbered n links places → ((i at : ℕ) → slice_get places i ≡ Some at → (track_at tracks at).link ≡ Some (numbered (n + i))) → Owned tracks links
owned-from tracks n [] [] all owner = tt
owned-from tracks n [] (p ∷ places) all owner = absurd all
owned-from tracks n (k ∷ links) [] all owner = absurd all
owned-from tracks n (k ∷ links) (p ∷ places) all owner = (
  ap (λ (at : ℕ). (track_at tracks at).link) all.1 ∙ owner 0 p refl ∙ ap (λ (m : ℕ). Some (numbered m)) (let e : n + 0 ≡ n = omega arith in e) ∙ ap Some (sym all.0),
  owned-from tracks (n + 1) links places all.2 (λ i at is. owner (suc i) at is ∙ ap (λ (m : ℕ). Some (numbered m)) (let e : n + suc i ≡ (n + 1) + i = omega arith in e)),
)

-- whether a link is to be named, by its track
pub to-name : (recording : List RecordEntry) (s : Stage) (log : Log) (k : Known) → IsWithin recording s → Stands recording s log → (track_at s.tracks.items (place k.name)).link ≡ Some k.link → is_to_name recording log k ≡ test s.last (track_at s.tracks.items (place k.name))
to-name recording s log k within st owner =
    let t = track_at s.tracks.items (place k.name) in
    let fits = st.tracks k.name in
    let le : s.last ≤ s.cut = within.last in
    let has = has-track recording s.last s.cut log k t (cut-released recording s.cut (wakes log) st.cut) (last-drop recording s.last s.cut (wakes log) st.last st.cut (omega arith) within.cut) owner fits in
    ap (λ b. b && (is_ready (unread_of recording log k) (ending_of recording log k) (is_told k.link log) (is_blocked k.link log) (room_of recording log k) && not (is_in k.link (named_since log)))) (if-own t.link (λ l. is_open l log ≡ not t.closed) k.link owner fits.opened)
    ∙ ap (λ bs. not t.closed && (is_ready bs (ending_of recording log k) (is_told k.link log) (is_blocked k.link log) (room_of recording log k) && not (is_in k.link (named_since log)))) has.unread
    ∙ ap (λ o. not t.closed && (is_ready t.unread o (is_told k.link log) (is_blocked k.link log) (room_of recording log k) && not (is_in k.link (named_since log)))) has.ending
    ∙ ap (λ b. not t.closed && (is_ready t.unread t.ending b (is_blocked k.link log) (room_of recording log k) && not (is_in k.link (named_since log)))) (if-own t.link (λ l. is_told l log ≡ t.told) k.link owner fits.told)
    ∙ ap (λ b. not t.closed && (is_ready t.unread t.ending t.told b (room_of recording log k) && not (is_in k.link (named_since log)))) (if-own t.link (λ l. is_blocked l log ≡ t.blocked) k.link owner fits.blocked)
    ∙ ap (λ o. not t.closed && (is_ready t.unread t.ending t.told t.blocked o && not (is_in k.link (named_since log)))) has.room
    ∙ ap (λ b. not t.closed && (is_ready t.unread t.ending t.told t.blocked (room_in s.last t.room) && not b)) (if-own t.link (λ l. is_in l (named_since log) ≡ is_named t.named s.last) k.link owner fits.named)

-- what a look-up among the tracks says of the test
test-no : (b : Bool) (link : LinkId) (o : Option LinkId) → o ≡ Some link → (if b then o else None) ≡ None → b ≡ false
test-no true link o owner none = absurd (let e : Some link ≡ None = sym owner ∙ none in cc)
test-no false link o owner none = refl

pub record Found (link : LinkId) (found : Option Known) : Type 0 where
  pub k : Known
  pub is : found ≡ Some k
  pub link_is : k.link ≡ link

abbrev Tests : (Known → Bool) → ℕ → List Track → Type 0
Tests p last tracks = (k : Known) → (track_at tracks (place k.name)).link ≡ Some k.link → p k ≡ test last (track_at tracks (place k.name))

-- among the links
none-links : (p : Known → Bool) (last : ℕ) (tracks : List Track) (n : ℕ) (links : List Known) (places : List ℕ) → Tests p last tracks → Owned tracks links → Numbered n links places → ((i at : ℕ) → slice_get places i ≡ Some at → named_at last tracks at ≡ None) → find p links ≡ None
none-links p last tracks n [] [] tests owned all none = refl
none-links p last tracks n [] (at ∷ places) tests owned all none = absurd all
none-links p last tracks n (k ∷ links) [] tests owned all none = absurd all
none-links p last tracks n (k ∷ links) (at ∷ places) tests owned all none =
    let t = track_at tracks (place k.name) in
    let no : p k ≡ false = tests k owned.0 ∙ test-no (test last t) k.link t.link owned.0 (ap (named_at last tracks) all.1 ∙ none 0 at refl) in
    ap (λ b. if b then Some k else find p links) no ∙ none-links p last tracks (n + 1) links places tests owned.1 all.2 (λ i spot is. none (suc i) spot is)

some-links : (p : Known → Bool) (last : ℕ) (tracks : List Track) (n i : ℕ) (links : List Known) (places : List ℕ) (t : ToName) → Tests p last tracks → Owned tracks links → Numbered n links places → ((j spot : ℕ) → j < i → slice_get places j ≡ Some spot → named_at last tracks spot ≡ None) → slice_get places i ≡ Some t.at → named_at last tracks t.at ≡ Some t.link → Found t.link (find p links)
some-links p last tracks n i [] [] t tests owned all none here named = cc
some-links p last tracks n i [] (at ∷ places) t tests owned all none here named = absurd all
some-links p last tracks n i (k ∷ links) [] t tests owned all none here named = absurd all
some-links p last tracks n zero (k ∷ links) (at ∷ places) t tests owned all none here named =
    let x = track_at tracks (place k.name) in
    let same : at ≡ t.at = cc in
    let by : named_by last x ≡ Some t.link = ap (named_at last tracks) (all.1 ∙ same) ∙ named in
    let yes : p k ≡ true = tests k owned.0 ∙ test-true (test last x) x.link t.link by in
    record { k = k; is = ap (λ b. if b then Some k else find p links) yes; link_is = let e : Some k.link ≡ Some t.link = sym owned.0 ∙ named-link last x t.link by in cc }
some-links p last tracks n (suc i) (k ∷ links) (at ∷ places) t tests owned all none here named =
    let x = track_at tracks (place k.name) in
    let low : 0 < suc i = omega arith in
    let no : p k ≡ false = tests k owned.0 ∙ test-no (test last x) k.link x.link owned.0 (ap (named_at last tracks) all.1 ∙ none 0 at low refl) in
    let later = some-links p last tracks (n + 1) i links places t tests owned.1 all.2 (λ j spot before is. none (suc j) spot (omega arith) is) here named in
    record { k = later.k; is = ap (λ b. if b then Some k else find p links) no ∙ later.is; link_is = later.link_is }

-- among the lines: the link of a name
name-same : (a b : RecordLink) → same_name a b ≡ true → place a ≡ place b
name-same a b same = eqb-true (place a) (place b) (same_place a b ∙ same)

same-name : (a b : RecordLink) → place a ≡ place b → same_name a b ≡ true
same-name a b same = sym (same_place a b) ∙ ap (λ (p : ℕ). p == place b) same ∙ same_number (place b)

pub record Owns (tracks : List Track) (name : RecordLink) (k : Known) : Type 0 where
  pub owner : (track_at tracks (place name)).link ≡ Some k.link
  pub place_is : place k.name ≡ place name

owner-of : (tracks : List Track) (name : RecordLink) (links : List Known) (k : Known) → Owned tracks links → with_name name links ≡ Some k → Owns tracks name k
owner-of tracks name [] k owned is = cc
owner-of tracks name (l ∷ links) k owned is = elim (bool_cases (same_name l.name name)) [
  | inl same ↦
      let e : l ≡ k = let s : Some l ≡ Some k = sym (ap (λ b. if b then Some l else with_name name links) same) ∙ is in cc in
      let spot : place l.name ≡ place name = name-same l.name name same in
      subst (Owns tracks name) e (record { owner = ap (λ (p : ℕ). (track_at tracks p).link) (sym spot) ∙ owned.0; place_is = spot })
  | inr other ↦ owner-of tracks name links k owned.1 (sym (ap (λ b. if b then Some l else with_name name links) other) ∙ is)
]

name-found : (name : RecordLink) (n i : ℕ) (links : List Known) (places : List ℕ) → Numbered n links places → slice_get places i ≡ Some (place name) → with_name name links ≡ None → ⊥
name-found name n i [] [] all is none = cc
name-found name n i [] (p ∷ places) all is none = absurd all
name-found name n i (k ∷ links) [] all is none = absurd all
name-found name n zero (k ∷ links) (p ∷ places) all is none =
    let spot : place k.name ≡ place name = all.1 ∙ (let e : p ≡ place name = cc in e) in
    let here : Some k ≡ None = sym (ap (λ b. if b then Some k else with_name name links) (same-name k.name name spot)) ∙ none in cc
name-found name n (suc i) (k ∷ links) (p ∷ places) all is none = elim (bool_cases (same_name k.name name)) [
  | inl same ↦ let here : Some k ≡ None = sym (ap (λ b. if b then Some k else with_name name links) same) ∙ none in cc
  | inr other ↦ name-found name (n + 1) i links places all.2 is (sym (ap (λ b. if b then Some k else with_name name links) other) ∙ none)
]

-- one line
pub record Lines (tracks : List Track) (last : ℕ) (links : List Known) (places : List ℕ) (p : Known → Bool) : Type 0 where
  pub tests : Tests p last tracks
  pub owned : Owned tracks links
  pub all : Numbered 0 links places
  pub linked : (at : ℕ) (link : LinkId) → (track_at tracks at).link ≡ Some link → slice_get places link.0 ≡ Some at

none-name : (tracks : List Track) (last : ℕ) (links : List Known) (places : List ℕ) (p : Known → Bool) (name : RecordLink) (o : Option Known) (later : List Known) → Lines tracks last links places p → with_name name links ≡ o → named_at last tracks (place name) ≡ None → find p (cons_option o later) ≡ find p later
none-name tracks last links places p name None later all is none = refl
none-name tracks last links places p name (Some k) later all is none =
    let owns = owner-of tracks name links k all.owned is in
    let owner : (track_at tracks (place k.name)).link ≡ Some k.link = ap (λ (at : ℕ). (track_at tracks at).link) owns.place_is ∙ owns.owner in
    let t = track_at tracks (place k.name) in
    let no : p k ≡ false = all.tests k owner ∙ test-no (test last t) k.link t.link owner (ap (named_at last tracks) owns.place_is ∙ none) in
    ap (λ b. if b then Some k else find p later) no

some-name : (tracks : List Track) (last : ℕ) (links : List Known) (places : List ℕ) (p : Known → Bool) (name : RecordLink) (o : Option Known) (later : List Known) (link : LinkId) → Lines tracks last links places p → with_name name links ≡ o → named_at last tracks (place name) ≡ Some link → Found link (find p (cons_option o later))
some-name tracks last links places p name None later link all is some = absurd (name-found name 0 link.0 links places all.all (all.linked (place name) link (named-link last (track_at tracks (place name)) link some)) is)
some-name tracks last links places p name (Some k) later link all is some =
    let owns = owner-of tracks name links k all.owned is in
    let owner : (track_at tracks (place k.name)).link ≡ Some k.link = ap (λ (at : ℕ). (track_at tracks at).link) owns.place_is ∙ owns.owner in
    let t = track_at tracks (place k.name) in
    let named : named_by last t ≡ Some link = ap (named_at last tracks) owns.place_is ∙ some in
    let yes : p k ≡ true = all.tests k owner ∙ test-true (test last t) t.link link named in
    record { k = k; is = ap (λ b. if b then Some k else find p later) yes; link_is = let e : Some k.link ≡ Some link = sym owner ∙ named-link last t link named in cc }

-- a line that may name a link
abbrev known_of : List Known → Option RecordLink → Option Known
known_of links o = elim o [ Some name ↦ with_name name links | None ↦ None ]

abbrev named_of : ℕ → List Track → Option RecordLink → Option LinkId
named_of last tracks o = elim o [ Some name ↦ named_at last tracks (place name) | None ↦ None ]

none-line : (tracks : List Track) (last : ℕ) (links : List Known) (places : List ℕ) (p : Known → Bool) (o : Option RecordLink) (later : List Known) → Lines tracks last links places p → named_of last tracks o ≡ None → find p (cons_option (known_of links o) later) ≡ find p later
none-line tracks last links places p None later all none = refl
none-line tracks last links places p (Some name) later all none = none-name tracks last links places p name (with_name name links) later all refl none

some-line : (tracks : List Track) (last : ℕ) (links : List Known) (places : List ℕ) (p : Known → Bool) (o : Option RecordLink) (later : List Known) (link : LinkId) → Lines tracks last links places p → named_of last tracks o ≡ Some link → Found link (find p (cons_option (known_of links o) later))
some-line tracks last links places p None later link all some = cc
some-line tracks last links places p (Some name) later link all some = some-name tracks last links places p name (with_name name links) later link all refl some

-- Where no link that is to be named has a line, a line names none.
line-none : (last : ℕ) (tracks : List Track) (from : ℕ) (later : Option ℕ) (o : Option RecordLink) → ((at : ℕ) (link : LinkId) → named_at last tracks at ≡ Some link → (if (elim o [ Some name ↦ at == place name | None ↦ false ]) then Some from else later) ≡ None) → named_of last tracks o ≡ None
line-none last tracks from later None none = refl
line-none last tracks from later (Some name) none = of (named_at last tracks (place name)) refl where
  of : (o : Option LinkId) → named_at last tracks (place name) ≡ o → o ≡ None
  of None is = refl
  of (Some link) is = absurd (let e : Some from ≡ None = sym (ap (λ b. if b then Some from else later) (same_number (place name))) ∙ none (place name) link is in cc)

none-lines : (tracks : List Track) (last : ℕ) (links : List Known) (places : List ℕ) (p : Known → Bool) (from : ℕ) (lines : List RecordEntry) → Lines tracks last links places p → ((at : ℕ) (link : LinkId) → named_at last tracks at ≡ Some link → first_from at from lines ≡ None) → find p (filter_map (known_at links) lines) ≡ None
none-lines tracks last links places p from [] all none = refl
none-lines tracks last links places p from (l ∷ lines) all none =
    let later : (at : ℕ) (link : LinkId) → named_at last tracks at ≡ Some link → first_from at (from + 1) lines ≡ None = λ at link named. (none-names at from l lines (none at link named)).later in
    none-line tracks last links places p (name_at l) (filter_map (known_at links) lines) all (here (name_at l) refl)
    ∙ none-lines tracks last links places p (from + 1) lines all later
  where
    here : (o : Option RecordLink) → name_at l ≡ o → named_of last tracks o ≡ None
    here o is = line-none last tracks from None o (λ at link named.
        ap (λ x. if (elim x [ Some name ↦ at == place name | None ↦ false ]) then Some from else None) (sym is) ∙ ap (λ b. if b then Some from else None) (none-names at from l lines (none at link named)).here)

-- a line that names the place of a link that is to be named
line-some : (last : ℕ) (tracks : List Track) (at : ℕ) (link : LinkId) (o : Option RecordLink) → (elim o [ Some name ↦ at == place name | None ↦ false ]) ≡ true → named_at last tracks at ≡ Some link → named_of last tracks o ≡ Some link
line-some last tracks at link None here named = cc
line-some last tracks at link (Some name) here named = ap (named_at last tracks) (sym (eqb-true at (place name) here)) ∙ named

-- where the first line of such a place is later, a line names none
line-before : (last : ℕ) (tracks : List Track) (from i : ℕ) (o : Option RecordLink) → from < i → ((at : ℕ) (link : LinkId) → named_at last tracks at ≡ Some link → (elim o [ Some name ↦ at == place name | None ↦ false ]) ≡ true → i ≤ from) → named_of last tracks o ≡ None
line-before last tracks from i None later least = refl
line-before last tracks from i (Some name) later least = of (named_at last tracks (place name)) refl where
  of : (o : Option LinkId) → named_at last tracks (place name) ≡ o → o ≡ None
  of None is = refl
  of (Some link) is = absurd (let early : i ≤ from = least (place name) link is (same_number (place name)) in omega arith)

some-lines : (tracks : List Track) (last : ℕ) (links : List Known) (places : List ℕ) (p : Known → Bool) (from i : ℕ) (lines : List RecordEntry) (t : ToName) → Lines tracks last links places p → named_at last tracks t.at ≡ Some t.link → first_from t.at from lines ≡ Some i → ((at j : ℕ) (link : LinkId) → named_at last tracks at ≡ Some link → first_from at from lines ≡ Some j → i ≤ j) → Found t.link (find p (filter_map (known_at links) lines))
some-lines tracks last links places p from i [] t all named is least = cc
some-lines tracks last links places p from i (l ∷ lines) t all named is least = elim (bool_cases (names t.at l)) [
  | inl here ↦ some-line tracks last links places p (name_at l) (filter_map (known_at links) lines) t.link all (line-some last tracks t.at t.link (name_at l) here named)
  | inr apart ↦
      let later : first_from t.at (from + 1) lines ≡ Some i = sym (ap (λ b. if b then Some from else first_from t.at (from + 1) lines) apart) ∙ is in
      let behind : from + 1 ≤ i = (first-number t.at (from + 1) i lines later).least in
      let here : (at : ℕ) (link : LinkId) → named_at last tracks at ≡ Some link → names at l ≡ true → i ≤ from = λ at link is_named named_here. least at from link is_named (ap (λ b. if b then Some from else first_from at (from + 1) lines) named_here) in
      subst (Found t.link) (sym (none-line tracks last links places p (name_at l) (filter_map (known_at links) lines) all (line-before last tracks from i (name_at l) (omega arith) here)))
      (some-lines tracks last links places p (from + 1) i lines t all named later (λ at j link is_named found. elim (bool_cases (names at l)) [
        | inl named_here ↦ absurd (let early : i ≤ from = here at link is_named named_here in omega arith)
        | inr other ↦ least at j link is_named (ap (λ b. if b then Some from else first_from at (from + 1) lines) other ∙ found)
      ]))
]

lines-of : (recording : List RecordEntry) (s : Stage) (log : Log) → IsWithin recording s → Stands recording s log → ((spot : ℕ) (link : LinkId) → (track_at s.tracks.items spot).link ≡ Some link → slice_get s.places.items link.0 ≡ Some spot) → Lines s.tracks.items s.last (known recording log) s.places.items (is_to_name recording log)
lines-of recording s log within st linked = record {
  tests = λ k owner. to-name recording s log k within st owner;
  owned = owned-from s.tracks.items 0 (known recording log) s.places.items st.links (λ i at is. st.placed i at is ∙ ap (λ (m : ℕ). Some (numbered m)) (let e : i ≡ 0 + i = omega arith in e));
  all = st.links;
  linked = linked;
}

-- the first that is to be named of the stage's lines, and of its links
abbrev of_lines : List RecordEntry → Stage → Log → Option Known
of_lines recording s log = find (is_to_name recording log) (filter_map (known_at (known recording log)) (lines_between s.last s.cut recording))

abbrev of_links : List RecordEntry → Log → Option Known
of_links recording log = find (is_to_name recording log) (known recording log)

order-is : (recording : List RecordEntry) (s : Stage) (log : Log) → Stands recording s log → IsWithin recording s → next_named recording log ≡ option_or (of_lines recording s log) (of_links recording log)
order-is recording s log st within =
    let le : s.last ≤ s.cut = within.last in
    let p = is_to_name recording log in
    let links = known recording log in
    ap (λ (lines : List RecordEntry). find p (filter_map (known_at links) lines ++ links)) (last-lines recording s.last s.cut (wakes log) st.last st.cut (omega arith) within.cut)
    ∙ find-append p (filter_map (known_at links) (lines_between s.last s.cut recording)) links

no-turn : (recorded : List RecordEntry) (last : ℕ) (tracks : List Track) (places : List ℕ) (turns : Turns) → InTurn recorded last tracks places turns → ((line : ℕ) → get nat_cmp turns.lines line ≡ None) → (at : ℕ) (link : LinkId) → named_at last tracks at ≡ Some link → first_from at last recorded ≡ None
no-turn recorded last tracks places turns in_turn none at link named = of (first_from at last recorded) refl where
  of : (o : Option ℕ) → first_from at last recorded ≡ o → o ≡ None
  of None is = refl
  of (Some i) is = absurd (let e : None ≡ Some at = sym (none i) ∙ in_turn.lines at i link named is in cc)

-- what a search knows: how links stand to tracks, and how its turns stand to both before the links are looked at
record Knows (recording : List RecordEntry) (s : Stage) (log : Log) (mid : Turns) : Type 0 where
  pub all : Lines s.tracks.items s.last (known recording log) s.places.items (is_to_name recording log)
  pub turns : InTurn (lines_between s.last s.cut recording) s.last s.tracks.items s.places.items mid

knows-all : (recording : List RecordEntry) (found : Option ToName) (old new : Stage) (log : Log) → Stands recording old log → IsWithin recording old → ((spot : ℕ) (link : LinkId) → (track_at old.tracks.items spot).link ≡ Some link → slice_get old.places.items link.0 ≡ Some spot) → AllInTurn recording old → (looks : Searches found old new) → Knows recording old log looks.mid
knows-all recording found old new log st within linked turns looks = record {
  all = lines-of recording old log within st linked;
  turns = in-lines (lines_between old.last old.cut recording) old.last old.tracks.items old.places.items old.turns looks.mid turns looks.passes;
}

no-lines : (recording : List RecordEntry) (s : Stage) (log : Log) (mid : Turns) → Knows recording s log mid → ((line : ℕ) → get nat_cmp mid.lines line ≡ None) → of_lines recording s log ≡ None
no-lines recording s log mid knows none =
    none-lines s.tracks.items s.last (known recording log) s.places.items (is_to_name recording log) s.last (lines_between s.last s.cut recording) knows.all
    (no-turn (lines_between s.last s.cut recording) s.last s.tracks.items s.places.items mid knows.turns none)

after-links : (recording : List RecordEntry) (found : Option ToName) (s : Stage) (log : Log) (mid new : Turns) → Knows recording s log mid → SearchesLinks found s mid new → InTurn (lines_between s.last s.cut recording) s.last s.tracks.items s.places.items new
after-links recording found s log mid new knows stops = in-links (lines_between s.last s.cut recording) s.last s.tracks.items s.places.items mid new knows.turns stops.passes

no-links : (recording : List RecordEntry) (s : Stage) (log : Log) (mid new : Turns) → Knows recording s log mid → SearchesLinks None s mid new → of_links recording log ≡ None
no-links recording s log mid new knows stops =
    none-links (is_to_name recording log) s.last s.tracks.items 0 (known recording log) s.places.items knows.all.tests knows.all.owned knows.all.all
    (λ i at here. elim (low_or_high i new.link) [
      | inl low ↦ after.passed i at low here
      | inr high ↦ none-unless-pending (lines_between s.last s.cut recording) s.last s.tracks.items s.places.items new i at after here (stops.none i at high here)
    ])
  where
    after : InTurn (lines_between s.last s.cut recording) s.last s.tracks.items s.places.items new
    after = after-links recording None s log mid new knows stops

some_none : (t : ToName) → None ≡ Some t → ⊥
some_none t is = cc

pub names-none : (recording : List RecordEntry) (old new : Stage) (log : Log) → Stands recording old log → IsWithin recording old → ((spot : ℕ) (link : LinkId) → (track_at old.tracks.items spot).link ≡ Some link → slice_get old.places.items link.0 ≡ Some spot) → AllInTurn recording old → Searches None old new → next_named recording log ≡ None
names-none recording old new log st within linked turns looks =
    order-is recording old log st within ∙ on looks.of_lines looks.on (knows-all recording None old new log st within linked turns looks)
  where
    on : (o : Option ToName) → SearchesOn o None old looks.mid new.turns → Knows recording old log looks.mid → option_or (of_lines recording old log) (of_links recording log) ≡ None
    on (Some t) stops knows = absurd (some_none t stops.0)
    on None stops knows =
        ap (λ o. option_or o (of_links recording log)) (no-lines recording old log looks.mid knows stops.no_line)
        ∙ no-links recording old log looks.mid new.turns knows stops

first-found : (a b : Option Known) (link : LinkId) → Found link a → Found link (option_or a b)
first-found a b link found = record { k = found.k; is = ap (λ o. option_or o b) found.is; link_is = found.link_is }

then-found : (a b : Option Known) (link : LinkId) → a ≡ None → Found link b → Found link (option_or a b)
then-found a b link none found = record { k = found.k; is = ap (λ o. option_or o b) none ∙ found.is; link_is = found.link_is }

at-line : (recording : List RecordEntry) (s : Stage) (log : Log) (mid : Turns) (t : ToName) → Knows recording s log mid → StopsAtLine s.last s.tracks.items mid t → Found t.link (of_lines recording s log)
at-line recording s log mid t knows stops =
    some-lines s.tracks.items s.last (known recording log) s.places.items (is_to_name recording log) s.last stops.line (lines_between s.last s.cut recording) t knows.all stops.named (knows.turns.queued stops.line t.at stops.first.has)
    (λ at j link named is. stops.first.least j at (knows.turns.lines at j link named is))

at-link : (recording : List RecordEntry) (s : Stage) (log : Log) (mid new : Turns) (t : ToName) → Knows recording s log mid → SearchesLinks (Some t) s mid new → Found t.link (of_links recording log)
at-link recording s log mid new t knows stops =
    some-links (is_to_name recording log) s.last s.tracks.items 0 new.link (known recording log) s.places.items t knows.all.tests knows.all.owned knows.all.all
    (after-links recording (Some t) s log mid new knows stops).passed stops.some.here stops.some.named

-- a search of the lines that has found a link has found this one
found-at : (old new : Stage) (t x : ToName) (mid : Turns) → SearchesOn (Some x) (Some t) old mid new.turns → StopsAtLine old.last old.tracks.items mid t
found-at old new t x mid stops = let same : x ≡ t = let e : Some t ≡ Some x = stops.0 in cc in subst (StopsAtLine old.last old.tracks.items mid) same stops.2

pub names-some : (recording : List RecordEntry) (old new : Stage) (log : Log) (t : ToName) → Stands recording old log → IsWithin recording old → ((spot : ℕ) (link : LinkId) → (track_at old.tracks.items spot).link ≡ Some link → slice_get old.places.items link.0 ≡ Some spot) → AllInTurn recording old → Searches (Some t) old new → Names (next_named recording log) t.link
names-some recording old new log t st within linked turns looks =
    let found = on looks.of_lines looks.on (knows-all recording (Some t) old new log st within linked turns looks) in
    record { named = found.k; is = order-is recording old log st within ∙ found.is; link_is = found.link_is }
  where
    on : (o : Option ToName) → SearchesOn o (Some t) old looks.mid new.turns → Knows recording old log looks.mid → Found t.link (option_or (of_lines recording old log) (of_links recording log))
    on (Some x) stops knows = first-found (of_lines recording old log) (of_links recording log) t.link (at-line recording old log looks.mid t knows (found-at old new t x looks.mid stops))
    on None stops knows = then-found (of_lines recording old log) (of_links recording log) t.link (no-lines recording old log looks.mid knows stops.no_line) (at-link recording old log looks.mid new.turns t knows stops)

-- what a search has found is to be named
pub names-at : (old new : Stage) (t : ToName) → Searches (Some t) old new → named_at old.last old.tracks.items t.at ≡ Some t.link
names-at old new t looks = on looks.of_lines looks.on where
  on : (o : Option ToName) → SearchesOn o (Some t) old looks.mid new.turns → named_at old.last old.tracks.items t.at ≡ Some t.link
  on (Some x) stops = (found-at old new t x looks.mid stops).named
  on None stops = stops.some.named
