-- Each link that is to be named is in its turn.
use Rattle.std.proofs.Common.{◌≡◌, ◌⊎◌, ℕ, ◌<◌, ◌≤◌, ◌+◌, ◌==◌, Bool, true, false, cond, List, [], ◌∷◌, ◌++◌, length, if◌then◌else◌, Option, Some, None, refl, sym, ◌∙◌, ap, subst, arith, inl, inr, length-append, append-nil}
use Rattle.std.specs.Prelude.{slice_get, fold, IfSome, IfNone, not, is_some, ◌&&◌, ◌||◌}
use Rattle.std.specs.Option.{option_or}
use Rattle.std.specs.Ordering.{nat_cmp}
use Rattle.std.specs.BTreeMap.{BTreeMap, get, is_at}
use Rattle.std.specs.Map.{lookup}
use Rattle.std.specs.BTreeSet.{contains}
use Rattle.std.proofs.lemmas.Bool.{eqb-true}
use Rattle.mx_base.specs.declared.names.LinkId.{LinkId}
use Rattle.mx_wire.specs.Growth.{bool_cases}
use Rattle.recording.specs.declared.entry.RecordEntry.{RecordEntry}
use Rattle.mem_wire.specs.declared.track.Track.{Track}
use Rattle.mem_wire.specs.declared.turns.Turns.{Turns}
use Rattle.mem_wire.specs.declared.stage.Stage.{Stage}
use Rattle.mem_wire.specs.declared.naming.ToName.{ToName}
use Rattle.mem_wire.specs.declared.late.Late.{Late}
use Rattle.mem_wire.specs.Lines.{ending_step}
use Rattle.mem_wire.specs.Play.{is_empty, is_ready, has_room}
use Rattle.mem_wire.specs.Tracks.{track_at, room_in, room_given, given, ChangesTrack}
use Rattle.mem_wire.specs.Steps.{numbered, next_link, Enters}
use Rattle.mem_wire.specs.Naming.{is_named, named_by, named_at, may_turn_ready, may_be_ready, names, first_from, lines_between}
use Rattle.mem_wire.specs.Turns.{HasNone, Sees, Seen, PassesLines, StopsAtLine, PassesLinks, StopsAtLink, Searches, SearchesOn, InTurn, AllInTurn}
use Rattle.mem_wire.proofs.Links.{low_or_high}
use Rattle.mem_wire.proofs.LineLaws.{name_of, place-name_of}
use Rattle.mem_wire.proofs.StandSteps.{not_apart}
use Rattle.mem_wire.proofs.StandEnters.{get-cases, none_some}
use Rattle.mem_wire.proofs.StandWakes.{old-room}
use Rattle.mem_wire.proofs.FirstLines.{first-number, first-append, first-one, gives-nothing}

-- A wake, a line at a time.

found-append : (at from i : ℕ) (lines : List RecordEntry) (l : RecordEntry) → first_from at from lines ≡ Some i → first_from at from (lines ++ l ∷ []) ≡ Some i
found-append at from i lines l is = first-append at from lines l ∙ ap (λ o. option_or o (if names at l then Some (from + length lines) else None)) is

new-append : (at from : ℕ) (lines : List RecordEntry) (l : RecordEntry) → first_from at from lines ≡ None → names at l ≡ true → first_from at from (lines ++ l ∷ []) ≡ Some (from + length lines)
new-append at from lines l none here =
    first-append at from lines l ∙ ap (λ o. option_or o (if names at l then Some (from + length lines) else None)) none
    ∙ ap (λ b. if b then Some (from + length lines) else None) here

-- a place whose first line stands in these has it before the last of them, or first in the last
data Which (at from i : ℕ) (lines : List RecordEntry) (l : RecordEntry) : Type 0 where
  Before : first_from at from lines ≡ Some i → Which at from i lines l
  Last : first_from at from lines ≡ None → names at l ≡ true → from + length lines ≡ i → Which at from i lines l

which : (at from i : ℕ) (lines : List RecordEntry) (l : RecordEntry) → first_from at from (lines ++ l ∷ []) ≡ Some i → Which at from i lines l
which at from i lines l is = of (first_from at from lines) (names at l) refl refl (sym (first-append at from lines l) ∙ is) where
  of : (o : Option ℕ) (b : Bool) → first_from at from lines ≡ o → names at l ≡ b → option_or o (if b then Some (from + length lines) else None) ≡ Some i → Which at from i lines l
  of (Some j) b before here now = Before (before ∙ now)
  of None true before here now = Last before here (let e : from + length lines ≡ i = cc in e)
  of None false before here now = cc

-- an empty map
pub none-in : (m : BTreeMap ℕ ℕ) (k : ℕ) → m.entries ≡ [] → get nat_cmp m k ≡ None
none-in m k empty = ap (λ es. lookup (is_at (nat_cmp k)) es) empty

pub seen-none : (tracks : List Track) (from : ℕ) (old new : Turns) → ((n : ℕ) → contains nat_cmp old.pending n ≡ true → contains nat_cmp new.pending n ≡ true) → HasNone new → Seen tracks from [] old new
seen-none tracks from old new kept none = record {
  link = none.link;
  kept = kept;
  pending = λ at i link is owner. cc;
  firsts = none.firsts;
  lines = λ at i is. cc;
  queued = λ i at is. absurd (let e : None ≡ Some at = sym (none.lines i) ∙ is in cc);
}

pub seen-more : (tracks : List Track) (from : ℕ) (lines : List RecordEntry) (l : RecordEntry) (number : ℕ) (old mid new : Turns) → number ≡ from + length lines → Seen tracks from lines old mid → Sees tracks l number mid new → Seen tracks from (lines ++ l ∷ []) old new
seen-more tracks from lines l number old mid new size seen sees = record {
  link = sees.link ∙ seen.link;
  kept = λ n had. sees.kept n (seen.kept n had);
  pending = λ at i link is owner. elim (which at from i lines l is) [
    | Before before ↦ sees.kept link.0 (seen.pending at i link before owner)
    | Last none here place_is ↦ sees.mine at link here owner
  ];
  firsts = λ at. sees.firsts at ∙ ap (λ o. option_or o (if names at l then Some number else None)) (seen.firsts at)
      ∙ ap (λ (n : ℕ). option_or (first_from at from lines) (if names at l then Some n else None)) size ∙ sym (first-append at from lines l);
  lines = λ at i is. elim (which at from i lines l is) [
    | Before before ↦
        let below : i < from + length lines = (first-number at from i lines before).below in
        sees.others i (λ same. absurd (omega arith)) ∙ seen.lines at i before
    | Last none here place_is ↦
        subst (λ (k : ℕ). get nat_cmp new.lines k ≡ Some at) (size ∙ place_is) (sees.counts at here (seen.firsts at ∙ none))
  ];
  queued = λ i at is. elim (bool_cases (i == number)) [
    | inl same ↦
        let here : i ≡ number = eqb-true i number same in
        elim (sees.only at (subst (λ (k : ℕ). get nat_cmp new.lines k ≡ Some at) here is)) [
          | inl before ↦ found-append at from i lines l (seen.queued i at (subst (λ (k : ℕ). get nat_cmp mid.lines k ≡ Some at) (sym here) before))
          | inr now ↦ new-append at from lines l (sym (seen.firsts at) ∙ now.1) now.0 ∙ ap Some (sym (here ∙ size))
        ]
    | inr apart ↦ found-append at from i lines l (seen.queued i at (sym (sees.others i (λ here. not_apart i number here apart)) ∙ is))
  ];
}

-- A search.

pub in-lines : (recorded : List RecordEntry) (last : ℕ) (tracks : List Track) (places : List ℕ) (old new : Turns) → InTurn recorded last tracks places old → PassesLines last tracks old new → InTurn recorded last tracks places new
in-lines recorded last tracks places old new turns passes = record {
  firsts = λ at. ap (λ (t : Turns). get nat_cmp t.firsts at) passes.frame ∙ turns.firsts at;
  lines = λ at i link named is. passes.left i at link (turns.lines at i link named is) named;
  queued = λ i at is. turns.queued i at (passes.kept i at is);
  within = let same : new.link ≡ old.link = ap (λ (t : Turns). t.link) passes.frame in let low : old.link ≤ length places = turns.within in omega arith;
  passed = λ number at before here. turns.passed number at (subst (λ (n : ℕ). number < n) (ap (λ (t : Turns). t.link) passes.frame) before) here;
  pending = λ number at here may. ap (λ (t : Turns). contains nat_cmp t.pending number) passes.frame ∙ turns.pending number at here may;
}

-- a link that is to be named may be ready
ready-may : (closed ready named more : Bool) → (not closed && (ready && named)) ≡ true → (not closed && (ready || more)) ≡ true
ready-may true ready named more is = cc
ready-may false true named more is = refl
ready-may false false named more is = cc

pub test-true : (b : Bool) (o : Option LinkId) (link : LinkId) → (if b then o else None) ≡ Some link → b ≡ true
test-true true o link is = refl
test-true false o link is = cc

pub named-may : (last : ℕ) (t : Track) (link : LinkId) → named_by last t ≡ Some link → may_be_ready last t ≡ true
named-may last t link named =
    ready-may t.closed (is_ready t.unread t.ending t.told t.blocked (room_in last t.room)) (not (is_named t.named last)) (is_some (room_in last t.room))
    (test-true (not t.closed && (is_ready t.unread t.ending t.told t.blocked (room_in last t.room) && not (is_named t.named last))) t.link link named)

-- where a link that is to be named would be in a set, it isn't to be named if it isn't there
none-if-out : (o : Option LinkId) (is_in : Bool) → ((link : LinkId) → o ≡ Some link → is_in ≡ true) → is_in ≡ false → o ≡ None
none-if-out None is_in member out = refl
none-if-out (Some link) is_in member out = absurd (let e : true ≡ false = sym (member link refl) ∙ out in cc)

pub none-unless-pending : (recorded : List RecordEntry) (last : ℕ) (tracks : List Track) (places : List ℕ) (turns : Turns) (number at : ℕ) → InTurn recorded last tracks places turns → slice_get places number ≡ Some at → contains nat_cmp turns.pending number ≡ false → named_at last tracks at ≡ None
none-unless-pending recorded last tracks places turns number at in_turn here out =
    none-if-out (named_at last tracks at) (contains nat_cmp turns.pending number) (λ link named. in_turn.pending number at here (named-may last (track_at tracks at) link named)) out

pub in-links : (recorded : List RecordEntry) (last : ℕ) (tracks : List Track) (places : List ℕ) (old new : Turns) → InTurn recorded last tracks places old → PassesLinks last tracks places old new → InTurn recorded last tracks places new
in-links recorded last tracks places old new turns passes = record {
  firsts = λ at. ap (λ (t : Turns). get nat_cmp t.firsts at) passes.frame ∙ turns.firsts at;
  lines = λ at i link named is. ap (λ (t : Turns). get nat_cmp t.lines i) passes.frame ∙ turns.lines at i link named is;
  queued = λ i at is. turns.queued i at (sym (ap (λ (t : Turns). get nat_cmp t.lines i) passes.frame) ∙ is);
  within = passes.within turns.within;
  passed = λ number at before here. elim (low_or_high number old.link) [
    | inl low ↦ turns.passed number at low here
    | inr high ↦ elim (bool_cases (contains nat_cmp old.pending number)) [
      | inl had ↦ passes.passed number at high before here had
      | inr out ↦ none-unless-pending recorded last tracks places old number at turns here out
    ]
  ];
  pending = λ number at here may. passes.left number at here may (turns.pending number at here may);
}

pub in-search : (recording : List RecordEntry) (found : Option ToName) (old new : Stage) → AllInTurn recording old → Searches found old new → AllInTurn recording new
in-search recording found old new turns looks =
    let lines = lines_between old.last old.cut recording in
    let mid = in-lines lines old.last old.tracks.items old.places.items old.turns looks.mid turns looks.passes in
    subst (AllInTurn recording) (sym looks.frame) (on looks.of_lines looks.on lines mid)
  where
    on : (of_lines : Option ToName) → SearchesOn of_lines found old looks.mid new.turns → (lines : List RecordEntry) → InTurn lines old.last old.tracks.items old.places.items looks.mid → InTurn lines old.last old.tracks.items old.places.items new.turns
    on (Some t) stops lines mid = subst (InTurn lines old.last old.tracks.items old.places.items) (sym stops.1) mid
    on None stops lines mid = in-links lines old.last old.tracks.items old.places.items looks.mid new.turns mid stops.passes

-- A change of one track, which makes no link ready.

pub record Calms (last : ℕ) (old new : Track) : Type 0 where
  pub named : named_by last old ≡ None → named_by last new ≡ None
  pub may : may_be_ready last new ≡ true → may_be_ready last old ≡ true

pub calms-same : (last : ℕ) (t : Track) → Calms last t t
calms-same last t = record { named = λ none. none; may = λ may. may }

calms-at : (last at : ℕ) (change : Track → Track) (old new : List Track) → ChangesTrack at change old new → Calms last (track_at old at) (change (track_at old at)) → (spot : ℕ) → Calms last (track_at old spot) (track_at new spot)
calms-at last at change old new changes calms spot = elim (bool_cases (spot == at)) [
  | inl here ↦
      let same : spot ≡ at = eqb-true spot at here in
      subst (Calms last (track_at old spot)) (sym (changes spot ∙ ap (λ b. if b then change (track_at old spot) else track_at old spot) here))
      (subst (λ (p : ℕ). Calms last (track_at old p) (change (track_at old p))) (sym same) calms)
  | inr other ↦ subst (Calms last (track_at old spot)) (sym (changes spot ∙ ap (λ b. if b then change (track_at old spot) else track_at old spot) other)) (calms-same last (track_at old spot))
]

earlier : (old new : Option LinkId) (link : LinkId) → (old ≡ None → new ≡ None) → new ≡ Some link → (before : LinkId) × (old ≡ Some before)
earlier None new link keeps some = absurd (let e : None ≡ Some link = sym (keeps refl) ∙ some in cc)
earlier (Some before) new link keeps some = (before, refl)

pub in-change : (recording : List RecordEntry) (old new : Stage) (at : ℕ) (change : Track → Track) → AllInTurn recording old → new ≡ record old { tracks = new.tracks; late = new.late } → ChangesTrack at change old.tracks.items new.tracks.items → Calms old.last (track_at old.tracks.items at) (change (track_at old.tracks.items at)) → AllInTurn recording new
in-change recording old new at change turns frame changes calms =
    let each = calms-at old.last at change old.tracks.items new.tracks.items changes calms in
    subst (AllInTurn recording) (sym frame) (record {
      firsts = turns.firsts;
      lines = λ spot i link named is.
          let before = earlier (named_at old.last old.tracks.items spot) (named_at old.last new.tracks.items spot) link (each spot).named named in
          turns.lines spot i before.0 before.1 is;
      queued = turns.queued;
      within = turns.within;
      passed = λ number spot before here. (each spot).named (turns.passed number spot before here);
      pending = λ number spot here may. turns.pending number spot here ((each spot).may may);
    })

pub in-late : (recording : List RecordEntry) (s : Stage) (late : Late) → AllInTurn recording s → AllInTurn recording (record s { late = late })
in-late recording s late turns = turns

-- A link comes.

pub in-enters : (recording : List RecordEntry) (old new : Stage) (at : ℕ) → ((number spot : ℕ) → slice_get old.places.items number ≡ Some spot → (track_at old.tracks.items spot).link ≡ Some (numbered number)) → AllInTurn recording old → Enters at old new → new.last ≡ old.last → new.cut ≡ old.cut → (track_at old.tracks.items at).link ≡ None → AllInTurn recording new
in-enters recording old new at placed turns enters last cut none =
    subst (λ (l : ℕ). InTurn (lines_between l new.cut recording) l new.tracks.items new.places.items new.turns) (sym last)
    (subst (λ (c : ℕ). InTurn (lines_between old.last c recording) old.last new.tracks.items new.places.items new.turns) (sym cut) (record {
      firsts = λ spot. ap (λ m. get nat_cmp m spot) enters.turns.firsts ∙ turns.firsts spot;
      lines = λ spot i link named is. elim (bool_cases (spot == at)) [
        | inl here ↦
            let same : spot ≡ at = eqb-true spot at here in
            subst (λ (p : ℕ). get nat_cmp new.turns.lines i ≡ Some p) (sym same) (enters.turns.line i (subst (λ (p : ℕ). get nat_cmp old.turns.firsts p ≡ Some i) same (turns.firsts spot ∙ is)))
        | inr other ↦
            enters.turns.others i (λ mine. not_apart spot at (first-one spot at old.last i lines is (sym (turns.firsts at) ∙ mine)) other)
            ∙ turns.lines spot i link (sym (ap (named_by old.last) (elsewhere spot other)) ∙ named) is
      ];
      queued = λ i spot is. elim (line-cases (get nat_cmp old.turns.firsts at) i refl) [
        | inl mine ↦
            let same : at ≡ spot = let e : Some at ≡ Some spot = sym (enters.turns.line i mine) ∙ is in cc in
            subst (λ (p : ℕ). first_from p old.last lines ≡ Some i) same (sym (turns.firsts at) ∙ mine)
        | inr apart ↦ turns.queued i spot (sym (enters.turns.others i apart) ∙ is)
      ];
      within =
          let size : length new.places.items ≡ length old.places.items + 1 = ap length enters.places ∙ length-append old.places.items (at ∷ []) in
          let same : new.turns.link ≡ old.turns.link = enters.turns.link in
          let low : old.turns.link ≤ length old.places.items = turns.within in
          omega arith;
      passed = λ number spot before here.
          let low : number < old.turns.link = subst (λ (n : ℕ). number < n) enters.turns.link before in
          elim (get-cases old.places.items at number spot (ap (λ (ps : List ℕ). slice_get ps number) (sym enters.places) ∙ here)) [
            | inl was ↦ ap (named_by old.last) (elsewhere spot (not-at number spot was)) ∙ turns.passed number spot low was
            | inr now ↦ absurd (let size : number ≡ length old.places.items = now.0 in let most : old.turns.link ≤ length old.places.items = turns.within in omega arith)
          ];
      pending = λ number spot here may. elim (get-cases old.places.items at number spot (ap (λ (ps : List ℕ). slice_get ps number) (sym enters.places) ∙ here)) [
        | inl was ↦ enters.turns.kept number (turns.pending number spot was (sym (ap (may_be_ready old.last) (elsewhere spot (not-at number spot was))) ∙ may))
        | inr now ↦ subst (λ (n : ℕ). contains nat_cmp new.turns.pending n ≡ true) (sym now.0) enters.turns.mine
      ];
    }))
  where
    lines : List RecordEntry
    lines = lines_between old.last old.cut recording

    elsewhere : (spot : ℕ) → (spot == at) ≡ false → track_at new.tracks.items spot ≡ track_at old.tracks.items spot
    elsewhere spot other = enters.tracks spot ∙ ap (λ b. if b then record (track_at old.tracks.items spot) { link = Some (next_link old) } else track_at old.tracks.items spot) other

    not-at : (number spot : ℕ) → slice_get old.places.items number ≡ Some spot → (spot == at) ≡ false
    not-at number spot was = elim (bool_cases (spot == at)) [
      | inl same ↦ absurd (none_some (numbered number) (sym none ∙ ap (λ (p : ℕ). (track_at old.tracks.items p).link) (sym (eqb-true spot at same)) ∙ placed number spot was))
      | inr apart ↦ apart
    ]

    line-cases : (o : Option ℕ) (i : ℕ) → get nat_cmp old.turns.firsts at ≡ o → (get nat_cmp old.turns.firsts at ≡ Some i) ⊎ (get nat_cmp old.turns.firsts at ≡ Some i → ⊥)
    line-cases None i is = inr (λ some. let e : None ≡ Some i = sym is ∙ some in cc)
    line-cases (Some j) i is = elim (bool_cases (j == i)) [
      | inl same ↦ inl (is ∙ ap Some (eqb-true j i same))
      | inr apart ↦ inr (λ some. not_apart j i (let e : Some j ≡ Some i = sym is ∙ some in cc) apart)
    ]

-- A wake begins.

pub or-true : (b : Bool) → (b || true) ≡ true
or-true true = refl
or-true false = refl

more-may : (closed full ends blocked : Bool) (room : Option ℕ) → (not closed && ((full || (ends || (blocked && true))) || false)) ≡ true → (not closed && ((full || (ends || (blocked && has_room room))) || is_some room)) ≡ true
more-may true full ends blocked room is = cc
more-may false true ends blocked room is = refl
more-may false false true blocked room is = refl
more-may false false false true None is = refl
more-may false false false true (Some n) is = or-true (has_room (Some n))
more-may false false false false room is = cc

-- a link that no line of the wake names may be ready only if it might before
still-may : (wake last from : ℕ) (lines : List RecordEntry) (at : ℕ) (t : Track) → first_from at from lines ≡ None → IfSome t.room (λ r. r.wake < wake) → may_be_ready wake (given wake (name_of at) lines t) ≡ true → may_be_ready last t ≡ true
still-may wake last from lines at t none dated may =
    let name = name_of at in
    let nothing = gives-nothing wake name from lines (ap (λ (p : ℕ). first_from p from lines) (place-name_of at) ∙ none) in
    more-may t.closed (not (is_empty t.unread)) (is_some t.ending && not t.told) t.blocked (room_in last t.room)
    (sym (ap (λ bs. not t.closed && may_turn_ready (t.unread ++ bs) (fold (ending_step name) t.ending lines) t.told t.blocked (room_in wake (fold (room_given wake name) t.room lines))) nothing.bytes
    ∙ ap (λ bs. not t.closed && may_turn_ready bs (fold (ending_step name) t.ending lines) t.told t.blocked (room_in wake (fold (room_given wake name) t.room lines))) (append-nil t.unread)
    ∙ ap (λ o. not t.closed && may_turn_ready t.unread o t.told t.blocked (room_in wake (fold (room_given wake name) t.room lines))) (nothing.ending t.ending)
    ∙ ap (λ o. not t.closed && may_turn_ready t.unread t.ending t.told t.blocked (room_in wake o)) (nothing.room t.room)
    ∙ ap (λ o. not t.closed && may_turn_ready t.unread t.ending t.told t.blocked o) (old-room t.room wake dated)) ∙ may)

pub in-wake : (lines : List RecordEntry) (last wake : ℕ) (before recorded : List RecordEntry) (old new : List Track) (places : List ℕ) (turns woken : Turns) → InTurn before last old places turns → recorded ≡ lines → ((number spot : ℕ) → slice_get places number ≡ Some spot → (track_at new spot).link ≡ Some (numbered number)) → ((at : ℕ) → track_at new at ≡ given wake (name_of at) lines (track_at old at)) → ((at : ℕ) → IfSome (track_at old at).room (λ r. r.wake < wake)) → Seen new wake lines turns woken → InTurn recorded wake new places woken
in-wake lines last wake before recorded old new places turns woken in_turn same placed released dated seen =
    subst (λ (ls : List RecordEntry). InTurn ls wake new places woken) (sym same) (record {
      firsts = seen.firsts;
      lines = λ at i link named is. seen.lines at i is;
      queued = seen.queued;
      within = let start : woken.link ≡ 0 = seen.link in omega arith;
      passed = λ number at low here. absurd (let start : woken.link ≡ 0 = seen.link in omega arith);
      pending = λ number at here may. of number at here may (first_from at wake lines) refl;
    })
  where
    of : (number at : ℕ) → slice_get places number ≡ Some at → may_be_ready wake (track_at new at) ≡ true → (o : Option ℕ) → first_from at wake lines ≡ o → contains nat_cmp woken.pending number ≡ true
    of number at here may (Some i) is = seen.pending at i (numbered number) is (placed number at here)
    of number at here may None is = seen.kept number (in_turn.pending number at here (still-may wake last wake lines at (track_at old at) is (dated at) (ap (may_be_ready wake) (sym (released at)) ∙ may)))

-- A search, a line or a link at a time.

pub passes-line : (wake : ℕ) (tracks : List Track) (first old : Turns) (lines : BTreeMap ℕ ℕ) (line at : ℕ) → PassesLines wake tracks first old → get nat_cmp old.lines line ≡ Some at → named_at wake tracks at ≡ None → ((q : ℕ) → get nat_cmp lines q ≡ cond (is_at (nat_cmp line) q) None (get nat_cmp old.lines q)) → PassesLines wake tracks first (record old { lines = lines })
passes-line wake tracks first old lines line at passes here none gone = record {
  frame = ap (λ (t : Turns). record t { lines = lines }) passes.frame;
  kept = λ q spot is. passes.kept q spot (kept q spot (is_at (nat_cmp line) q) (sym (gone q) ∙ is));
  left = λ q spot link is named. gone q ∙ left q spot link (passes.left q spot link is named) named (is_at (nat_cmp line) q) refl;
} where
  kept : (q spot : ℕ) (b : Bool) → cond b None (get nat_cmp old.lines q) ≡ Some spot → get nat_cmp old.lines q ≡ Some spot
  kept q spot true is = cc
  kept q spot false is = is

  same-key : (a b : ℕ) → is_at (nat_cmp a) b ≡ true → a ≡ b
  same-key a b same = grind arith

  left : (q spot : ℕ) (link : LinkId) → get nat_cmp old.lines q ≡ Some spot → named_at wake tracks spot ≡ Some link → (b : Bool) → is_at (nat_cmp line) q ≡ b → cond b None (get nat_cmp old.lines q) ≡ Some spot
  left q spot link is named false apart = is
  left q spot link is named true same =
      let key : line ≡ q = same-key line q same in
      let place_is : at ≡ spot = let e : Some at ≡ Some spot = sym here ∙ ap (get nat_cmp old.lines) key ∙ is in cc in
      absurd (none_some link (sym none ∙ ap (named_at wake tracks) place_is ∙ named))

pub passes-here : (wake : ℕ) (tracks : List Track) (places : List ℕ) (first old : Turns) (number : ℕ) → PassesLinks wake tracks places first old → old.link ≤ number → number < length places → ((q : ℕ) → old.link ≤ q → contains nat_cmp old.pending q ≡ true → number ≤ q) → PassesLinks wake tracks places first (record old { link = number })
passes-here wake tracks places first old number passes later within least = record {
  frame = ap (λ (t : Turns). record t { link = number }) passes.frame;
  later = let before : first.link ≤ old.link = passes.later in omega arith;
  within = λ low. omega arith;
  passed = λ n at from before here had. elim (low_or_high n old.link) [
    | inl low ↦ passes.passed n at from low here had
    | inr high ↦ none-if-out (named_at wake tracks at) (contains nat_cmp old.pending n) (λ link named. passes.left n at here (named-may wake (track_at tracks at) link named) had) (out n high before)
  ];
  left = passes.left;
  gone = λ n at from before here calm. elim (low_or_high n old.link) [
    | inl low ↦ passes.gone n at from low here calm
    | inr high ↦ out n high before
  ];
} where
  out : (n : ℕ) → old.link ≤ n → n < number → contains nat_cmp old.pending n ≡ false
  out n high before = elim (bool_cases (contains nat_cmp old.pending n)) [
    | inl is_in ↦ absurd (let most : number ≤ n = least n high is_in in omega arith)
    | inr is_out ↦ is_out
  ]

pub passes-link : (wake : ℕ) (tracks : List Track) (places : List ℕ) (first old new : Turns) (number at : ℕ) → PassesLinks wake tracks places first (record old { link = number }) → number < length places → slice_get places number ≡ Some at → named_at wake tracks at ≡ None → new ≡ record old { pending = new.pending; link = number + 1 } → ((n : ℕ) → contains nat_cmp new.pending n ≡ (if n == number then may_be_ready wake (track_at tracks at) && contains nat_cmp old.pending n else contains nat_cmp old.pending n)) → PassesLinks wake tracks places first new
passes-link wake tracks places first old new number at passes within here none frame stays =
    let now : new.link ≡ number + 1 = ap (λ (t : Turns). t.link) frame in
    record {
      frame = frame ∙ ap (λ (t : Turns). record t { pending = new.pending; link = number + 1 }) passes.frame ∙ ap (λ (l : ℕ). record first { pending = new.pending; link = l }) (sym now);
      later = let before : first.link ≤ number = passes.later in omega arith;
      within = λ low. omega arith;
      passed = λ n spot from before there had. elim (low_or_high n number) [
        | inl low ↦ passes.passed n spot from low there had
        | inr high ↦ ap (named_at wake tracks) (sym (same-place n spot (omega arith) there)) ∙ none
      ];
      left = λ n spot there may had. stays n ∙ kept n spot there may (passes.left n spot there may had) (n == number) refl;
      gone = λ n spot from before there calm. stays n ∙ went n spot from (omega arith) there calm (n == number) refl;
    }
  where
    same-place : (n spot : ℕ) → n ≡ number → slice_get places n ≡ Some spot → at ≡ spot
    same-place n spot same there = let e : Some at ≡ Some spot = sym here ∙ ap (slice_get places) (sym same) ∙ there in cc

    ready-is : (n spot : ℕ) → (n == number) ≡ true → slice_get places n ≡ Some spot → may_be_ready wake (track_at tracks at) ≡ may_be_ready wake (track_at tracks spot)
    ready-is n spot same there = ap (λ (p : ℕ). may_be_ready wake (track_at tracks p)) (same-place n spot (eqb-true n number same) there)

    kept : (n spot : ℕ) → slice_get places n ≡ Some spot → may_be_ready wake (track_at tracks spot) ≡ true → contains nat_cmp old.pending n ≡ true → (b : Bool) → (n == number) ≡ b → (if b then may_be_ready wake (track_at tracks at) && contains nat_cmp old.pending n else contains nat_cmp old.pending n) ≡ true
    kept n spot there may had false apart = had
    kept n spot there may had true same = ap (λ b. b && contains nat_cmp old.pending n) (ready-is n spot same there ∙ may) ∙ had

    went : (n spot : ℕ) → first.link ≤ n → n ≤ number → slice_get places n ≡ Some spot → may_be_ready wake (track_at tracks spot) ≡ false → (b : Bool) → (n == number) ≡ b → (if b then may_be_ready wake (track_at tracks at) && contains nat_cmp old.pending n else contains nat_cmp old.pending n) ≡ false
    went n spot from most there calm true same = ap (λ b. b && contains nat_cmp old.pending n) (ready-is n spot same there ∙ calm)
    went n spot from most there calm false apart = elim (low_or_high n number) [
      | inl low ↦ passes.gone n spot from low there calm
      | inr high ↦ absurd (let same : n ≡ number = omega arith in not_apart n number same apart)
    ]

-- What a search of the lines, and then of the links, has found.

pub found-in-lines : (found : Option ToName) (s : Stage) (tracks : List Track) (mid : Turns) → tracks ≡ s.tracks.items → PassesLines s.last tracks s.turns mid → IfSome found (λ t. StopsAtLine s.last tracks mid t) → is_some found ≡ true → Searches found s (record s { turns = mid })
found-in-lines None s tracks mid same passes some here = cc
found-in-lines (Some t) s tracks mid same passes some here = record {
  frame = refl;
  of_lines = Some t;
  mid = mid;
  passes = subst (λ (ts : List Track). PassesLines s.last ts s.turns mid) same passes;
  on = (refl, refl, subst (λ (ts : List Track). StopsAtLine s.last ts mid t) same some);
}

pub found-in-links : (of_lines found : Option ToName) (s : Stage) (tracks again : List Track) (places : List ℕ) (mid new : Turns) → tracks ≡ s.tracks.items → again ≡ s.tracks.items → places ≡ s.places.items → is_some of_lines ≡ false → PassesLines s.last tracks s.turns mid → IfNone of_lines ((line : ℕ) → get nat_cmp mid.lines line ≡ None) → PassesLinks s.last again places mid new → IfSome found (λ t. StopsAtLink s.last again places new t) → IfNone found ((n at : ℕ) → new.link ≤ n → slice_get places n ≡ Some at → contains nat_cmp new.pending n ≡ false) → Searches found s (record s { turns = new })
found-in-links (Some t) found s tracks again places mid new same same_again same_places absent passes no_line links some none = cc
found-in-links None found s tracks again places mid new same same_again same_places absent passes no_line links some none = record {
  frame = refl;
  of_lines = None;
  mid = mid;
  passes = subst (λ (ts : List Track). PassesLines s.last ts s.turns mid) same passes;
  on = record {
    no_line = no_line;
    passes = subst (λ (ps : List ℕ). PassesLinks s.last s.tracks.items ps mid new) same_places (subst (λ (ts : List Track). PassesLinks s.last ts places mid new) same_again links);
    some = subst (λ (ps : List ℕ). IfSome found (λ t. StopsAtLink s.last s.tracks.items ps new t)) same_places (subst (λ (ts : List Track). IfSome found (λ t. StopsAtLink s.last ts places new t)) same_again some);
    none = subst (λ (ps : List ℕ). IfNone found ((n at : ℕ) → new.link ≤ n → slice_get ps n ≡ Some at → contains nat_cmp new.pending n ≡ false)) same_places none;
  };
}
