-- The places of a link's entries, and the lines of the links, one entry further.
use Rattle.std.proofs.Common.{◌≡◌, ℕ, ◌+◌, ◌<◌, ◌≤◌, Bool, true, false, zero, suc, if◌then◌else◌, List, [], ◌∷◌, ◌++◌, length, take, drop, get_or, Option, Some, None, refl, sym, ap, ◌∙◌, append_assoc, append-nil, arith}
use Rattle.std.specs.List.{slice_get}
use Rattle.std.proofs.lemmas.List.{at_drop_more, take_more}
use Rattle.std.proofs.lemmas.List.Elements.{filter_map-append}
use Rattle.mx_base.specs.declared.names.LinkId.{LinkId}
use Rattle.mx_wire.specs.Log.{Log, is_link, link_of, of_link}
use Rattle.mx_wire.specs.Growth.{of_link-same, of_link-other}
use Rattle.mx_wire.specs.declared.entry.Entry.{Entry}
use Rattle.mx_wire.specs.declared.entry.Entry.TheVariants.{Accepted, Opened}
use Rattle.recording.specs.Arrivals.{place_if, arrival, counted}
use Rattle.recording.specs.Places.{entries_at}
use Rattle.recording.specs.Transcript.{lines_of, link_lines}
use Rattle.recording.specs.declared.arrivals.Arrivals.{Arrivals}
use Rattle.recording.specs.declared.peer.Peer.{Peer}

-- the entry at its own place
here : (log : Log) (i : ℕ) (e : Entry) → i < length log → e ≡ get_or log i e → slice_get log i ≡ Some e
here [] i e inside is = absurd (omega arith)
here (x ∷ log) zero e inside is = ap Some (sym is)
here (x ∷ log) (suc i) e inside is = here log i e (omega arith) is

-- one more entry of the log, which may be of the link
noted_by : (link : LinkId) (log before : Log) (i : ℕ) (e : Entry) (places : List ℕ) (b : Bool) → is_link link (link_of e) ≡ b → slice_get log i ≡ Some e → entries_at log places ≡ of_link link before
    → entries_at log (places ++ (if b then i ∷ [] else [])) ≡ of_link link (before ++ e ∷ [])
noted_by link log before i e places true of_it at is =
    let here : entries_at log (i ∷ []) ≡ e ∷ [] = rw at refl in
    filter_map-append (slice_get log) places (i ∷ []) ∙ ap (λ xs. entries_at log places ++ xs) here ∙ ap (λ xs. xs ++ e ∷ []) is ∙ sym (of_link-same link before e of_it)
noted_by link log before i e places false other at is =
    ap (entries_at log) (append-nil places) ∙ is ∙ sym (of_link-other link before e other)

pub noted : (link : LinkId) (log : Log) (i : ℕ) (e : Entry) (places : List ℕ) → i < length log → e ≡ get_or log i e → entries_at log places ≡ of_link link (take i log)
    → entries_at log (places ++ place_if link e i) ≡ of_link link (take (i + 1) log)
noted link log i e places inside is before =
    let more : take (i + 1) log ≡ take i log ++ e ∷ [] = take_more log i e inside ∙ ap (λ x. take i log ++ x ∷ []) (sym is) in
    noted_by link log (take i log) i e places (is_link link (link_of e)) refl (here log i e inside is) before ∙ ap (of_link link) (sym more)

-- the lines of the link that comes, if one does
abbrev pub arrival_lines : Log → Option (Peer × LinkId) → List ℕ
arrival_lines log None = []
arrival_lines log (Some came) = link_lines came.0 (of_link came.1 log)

next_lines : (log : Log) (before : Arrivals) (e : Entry) (later : Log) → lines_of log before.clients before.servers (e ∷ later)
    ≡ arrival_lines log (arrival before e) ++ lines_of log (counted before e).clients (counted before e).servers later
next_lines log before (Accepted port link salt) later = refl
next_lines log before (Opened server address link) later = refl
next_lines log before _ later = refl

pub clients_counted : (before : Arrivals) (e : Entry) → (counted before e).clients ≤ before.clients + 1
clients_counted before (Accepted port link salt) = omega arith
clients_counted before _ = omega arith

pub servers_counted : (before : Arrivals) (e : Entry) → (counted before e).servers ≤ before.servers + 1
servers_counted before (Opened server address link) = omega arith
servers_counted before _ = omega arith

-- one turn of the loop over the log
turn : (log : Log) (i : ℕ) (e : Entry) (before : Arrivals) (text whole : List ℕ) → i < length log → e ≡ get_or log i e → text ++ lines_of log before.clients before.servers (drop i log) ≡ whole
    → text ++ (arrival_lines log (arrival before e) ++ lines_of log (counted before e).clients (counted before e).servers (drop (i + 1) log)) ≡ whole
turn log i e before text whole inside is so_far =
    let further = at_drop_more (lines_of log before.clients before.servers) log i e inside in
    let item : lines_of log before.clients before.servers (get_or log i e ∷ drop (i + 1) log) ≡ lines_of log before.clients before.servers (e ∷ drop (i + 1) log) = ap (λ x. lines_of log before.clients before.servers (x ∷ drop (i + 1) log)) (sym is) in
    ap (λ xs. text ++ xs) (sym (further ∙ item ∙ next_lines log before e (drop (i + 1) log))) ∙ so_far

-- the turn at which a link comes, and the others
pub turn_came : (log : Log) (i : ℕ) (e : Entry) (before after : Arrivals) (text whole : List ℕ) (peer : Peer) (link : LinkId) (of_it : Log) (text' : List ℕ) → i < length log → e ≡ get_or log i e
    → Some (peer, link) ≡ arrival before e → after ≡ counted before e → of_it ≡ of_link link log → text' ≡ text ++ link_lines peer of_it → text ++ lines_of log before.clients before.servers (drop i log) ≡ whole
    → text' ++ lines_of log after.clients after.servers (drop (i + 1) log) ≡ whole
turn_came log i e before after text whole peer link of_it text' inside is came count of_is text-is so_far =
    let rest : List ℕ = lines_of log (counted before e).clients (counted before e).servers (drop (i + 1) log) in
    let now : text ++ (link_lines peer (of_link link log) ++ rest) ≡ whole = ap (λ o. text ++ (arrival_lines log o ++ rest)) came ∙ turn log i e before text whole inside is so_far in
    rw (text-is, count, of_is) (append_assoc text (link_lines peer (of_link link log)) rest ∙ now)

pub turn_idle : (log : Log) (i : ℕ) (e : Entry) (before after : Arrivals) (text whole : List ℕ) (text' : List ℕ) → i < length log → e ≡ get_or log i e
    → None ≡ arrival before e → after ≡ counted before e → text' ≡ text → text ++ lines_of log before.clients before.servers (drop i log) ≡ whole
    → text' ++ lines_of log after.clients after.servers (drop (i + 1) log) ≡ whole
turn_idle log i e before after text whole text' inside is none count text-is so_far =
    let rest : List ℕ = lines_of log (counted before e).clients (counted before e).servers (drop (i + 1) log) in
    rw (text-is, count) (ap (λ o. text ++ (arrival_lines log o ++ rest)) none ∙ turn log i e before text whole inside is so_far)
