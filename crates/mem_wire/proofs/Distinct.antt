-- No two clients of a recording have one number, and so no link comes twice.
use Rattle.std.proofs.Common.{◌≡◌, ℕ, zero, suc, ◌<◌, ◌+◌, ◌*◌, Bool, true, false, List, [], ◌∷◌, length, take, drop, if◌then◌else◌, Option, Some, None, refl, sym, ◌∙◌, ap, subst, arith}
use Rattle.std.specs.Prelude.{slice_get}
use Rattle.std.specs.List.{cons_option}
use Rattle.std.proofs.lemmas.List.{take-append-drop}
use Rattle.std.proofs.lemmas.List.Elements.{filter_map-append}
use Rattle.mx_base.specs.declared.names.LinkId.{LinkId}
use Rattle.mx_base.specs.declared.names.Port.{Port}
use Rattle.mx_base.specs.declared.names.Port.TheVariants.{Traffic, Admin}
use Rattle.mx_wire.specs.Log.{Log}
use Rattle.recording.specs.declared.entry.RecordEntry.{RecordEntry}
use Rattle.recording.specs.declared.entry.RecordEntry.TheVariants as line
use Rattle.recording.specs.Playable.{PlayableAfter, IsPlayable}
use Rattle.mem_wire.specs.declared.waiting.Waiting.{Waiting}
use Rattle.mem_wire.specs.declared.stage.Stage.{Stage}
use Rattle.mem_wire.specs.Lines.{is_port, waiting_at, clients_at}
use Rattle.mem_wire.specs.Tracks.{track_at}
use Rattle.mem_wire.specs.Steps.{clients_of, accepted_of}
use Rattle.mem_wire.specs.Stands.{Stands, Entered, client, server}
use Rattle.mem_wire.proofs.Sound.{get-front}

-- one client before others
one_of : Bool → Waiting → List Waiting → List Waiting
one_of here w later = cons_option (if here then Some w else None) later

above-one : (here : Bool) (w : Waiting) (later : List Waiting) (n : ℕ) → n < w.number → ((i : ℕ) (c : Waiting) → slice_get later i ≡ Some c → n < c.number) → (i : ℕ) (c : Waiting) → slice_get (one_of here w later) i ≡ Some c → n < c.number
unfolding one_of
above-one false w later n low all i c is = all i c is
above-one true w later n low all zero c is = let same : w ≡ c = cc in subst (λ (x : Waiting). n < x.number) same low
above-one true w later n low all (suc i) c is = all i c is

above : (moment clients : ℕ) (port : Port) (lines : List RecordEntry) → PlayableAfter moment clients lines → (i : ℕ) (c : Waiting) → slice_get (clients_at port lines) i ≡ Some c → clients < c.number
unfolding one_of
above moment clients port [] can i c is = cc
above moment clients port (line.At ms ∷ lines) can i c is = above ms clients port lines can.1 i c is
above moment clients port (line.Accept n at salt ∷ lines) can i c is =
    let number : n ≡ clients + 1 = can.0 in
    above-one (is_port port at) (record { number = n; salt = salt }) (clients_at port lines) clients (omega arith) (λ j d found. let later : clients + 1 < d.number = above moment (clients + 1) port lines can.2 j d found in omega arith) i c is
above moment clients port (line.Bytes link bytes ∷ lines) can i c is = above moment clients port lines can.2 i c is
above moment clients port (line.Exec k ∷ lines) can i c is = above moment clients port lines can.1 i c is
above moment clients port (line.Drop k ∷ lines) can i c is = above moment clients port lines can.1 i c is
above moment clients port (line.Refuse k ∷ lines) can i c is = above moment clients port lines can i c is
above moment clients port (line.End link ∷ lines) can i c is = above moment clients port lines can.1 i c is
above moment clients port (line.Fail link ∷ lines) can i c is = above moment clients port lines can.1 i c is
above moment clients port (line.Take link n ∷ lines) can i c is = above moment clients port lines can.1 i c is

port-is : (a b : Port) → is_port a b ≡ true → a ≡ b
port-is Traffic Traffic is = refl
port-is Admin Admin is = refl
port-is Traffic Admin is = cc
port-is Admin Traffic is = cc

pub record Same (p q : Port) (i j : ℕ) : Type 0 where
  pub port : p ≡ q
  pub place : i ≡ j

distinct-one : (p q : Port) (a b : Bool) (w : Waiting) (ps qs : List Waiting) → (a ≡ true → b ≡ true → p ≡ q) → ((i : ℕ) (c : Waiting) → slice_get ps i ≡ Some c → w.number < c.number) → ((i : ℕ) (c : Waiting) → slice_get qs i ≡ Some c → w.number < c.number) → ((i j : ℕ) (c d : Waiting) → slice_get ps i ≡ Some c → slice_get qs j ≡ Some d → c.number ≡ d.number → Same p q i j) → (p ≡ q → a ≡ b) → (i j : ℕ) (c d : Waiting) → slice_get (one_of a w ps) i ≡ Some c → slice_get (one_of b w qs) j ≡ Some d → c.number ≡ d.number → Same p q i j
unfolding one_of
distinct-one p q false false w ps qs ports up uq rec alike i j c d isc isd same = rec i j c d isc isd same
distinct-one p q true true w ps qs ports up uq rec alike zero zero c d isc isd same = record { port = ports refl refl; place = refl }
distinct-one p q true true w ps qs ports up uq rec alike zero (suc j) c d isc isd same = absurd (let e : w ≡ c = cc in let low : w.number < d.number = uq j d isd in let n : w.number ≡ c.number = ap (λ (x : Waiting). x.number) e in omega arith)
distinct-one p q true true w ps qs ports up uq rec alike (suc i) zero c d isc isd same = absurd (let e : w ≡ d = cc in let low : w.number < c.number = up i c isc in let n : w.number ≡ d.number = ap (λ (x : Waiting). x.number) e in omega arith)
distinct-one p q true true w ps qs ports up uq rec alike (suc i) (suc j) c d isc isd same = let r = rec i j c d isc isd same in record { port = r.port; place = ap (λ (k : ℕ). suc k) r.place }
distinct-one p q true false w ps qs ports up uq rec alike zero j c d isc isd same = absurd (let e : w ≡ c = cc in let low : w.number < d.number = uq j d isd in let n : w.number ≡ c.number = ap (λ (x : Waiting). x.number) e in omega arith)
distinct-one p q true false w ps qs ports up uq rec alike (suc i) j c d isc isd same = let r = rec i j c d isc isd same in absurd (let e : true ≡ false = alike r.port in cc)
distinct-one p q false true w ps qs ports up uq rec alike i zero c d isc isd same = absurd (let e : w ≡ d = cc in let low : w.number < c.number = up i c isc in let n : w.number ≡ d.number = ap (λ (x : Waiting). x.number) e in omega arith)
distinct-one p q false true w ps qs ports up uq rec alike i (suc j) c d isc isd same = let r = rec i j c d isc isd same in absurd (let e : false ≡ true = alike r.port in cc)

distinct : (moment clients : ℕ) (p q : Port) (lines : List RecordEntry) → PlayableAfter moment clients lines → (i j : ℕ) (c d : Waiting) → slice_get (clients_at p lines) i ≡ Some c → slice_get (clients_at q lines) j ≡ Some d → c.number ≡ d.number → Same p q i j
unfolding one_of
distinct moment clients p q [] can i j c d isc isd same = cc
distinct moment clients p q (line.At ms ∷ lines) can i j c d isc isd same = distinct ms clients p q lines can.1 i j c d isc isd same
distinct moment clients p q (line.Accept n at salt ∷ lines) can i j c d isc isd same =
    let number : n ≡ clients + 1 = can.0 in
    distinct-one p q (is_port p at) (is_port q at) (record { number = n; salt = salt }) (clients_at p lines) (clients_at q lines)
    (λ a b. port-is p at a ∙ sym (port-is q at b))
    (λ k x found. let up : clients + 1 < x.number = above moment (clients + 1) p lines can.2 k x found in omega arith)
    (λ k x found. let up : clients + 1 < x.number = above moment (clients + 1) q lines can.2 k x found in omega arith)
    (distinct moment (clients + 1) p q lines can.2) (λ ports. ap (λ (x : Port). is_port x at) ports) i j c d isc isd same
distinct moment clients p q (line.Bytes link bytes ∷ lines) can i j c d isc isd same = distinct moment clients p q lines can.2 i j c d isc isd same
distinct moment clients p q (line.Exec k ∷ lines) can i j c d isc isd same = distinct moment clients p q lines can.1 i j c d isc isd same
distinct moment clients p q (line.Drop k ∷ lines) can i j c d isc isd same = distinct moment clients p q lines can.1 i j c d isc isd same
distinct moment clients p q (line.Refuse k ∷ lines) can i j c d isc isd same = distinct moment clients p q lines can i j c d isc isd same
distinct moment clients p q (line.End link ∷ lines) can i j c d isc isd same = distinct moment clients p q lines can.1 i j c d isc isd same
distinct moment clients p q (line.Fail link ∷ lines) can i j c d isc isd same = distinct moment clients p q lines can.1 i j c d isc isd same
distinct moment clients p q (line.Take link n ∷ lines) can i j c d isc isd same = distinct moment clients p q lines can.1 i j c d isc isd same

-- in the recording as in what is released
in-whole : (recording : List RecordEntry) (cut : ℕ) (port : Port) (i : ℕ) (c : Waiting) → slice_get (clients_at port (take cut recording)) i ≡ Some c → slice_get (clients_at port recording) i ≡ Some c
in-whole recording cut port i c is =
    ap (λ (lines : List RecordEntry). slice_get (clients_at port lines) i) (sym (take-append-drop cut recording))
    ∙ ap (λ cs. slice_get cs i) (filter_map-append (waiting_at port) (take cut recording) (drop cut recording))
    ∙ get-front (clients_at port (take cut recording)) (clients_at port (drop cut recording)) i c is

no-owner : (o : Option LinkId) → ((link : LinkId) → o ≡ Some link → ⊥) → o ≡ None
no-owner None none = refl
no-owner (Some link) none = absurd (none link refl)

client-again : (recording : List RecordEntry) (s : Stage) (log : Log) (port : Port) (c : Waiting) → IsPlayable recording → Stands recording s log → slice_get (clients_of port s) (accepted_of port s) ≡ Some c → Entered s (2 * c.number) → ⊥
client-again recording s log port c playable st is (client other i d low found spot) =
    let same : c.number ≡ d.number = omega arith in
    let twice = distinct 0 0 port other recording playable.lines (accepted_of port s) i c d
    (in-whole recording s.cut port (accepted_of port s) c (ap (λ cs. slice_get cs (accepted_of port s)) (sym (st.clients port)) ∙ is))
    (in-whole recording s.cut other i d (ap (λ cs. slice_get cs i) (sym (st.clients other)) ∙ found)) same in
    let port_low : i < accepted_of port s = subst (λ (p : Port). i < accepted_of p s) (sym twice.port) low in
    let place : accepted_of port s ≡ i = twice.place in
    omega arith
client-again recording s log port c playable st is (server k low spot) = omega arith

pub client-fresh : (recording : List RecordEntry) (s : Stage) (log : Log) (port : Port) (c : Waiting) → IsPlayable recording → Stands recording s log → slice_get (clients_of port s) (accepted_of port s) ≡ Some c → (track_at s.tracks.items (2 * c.number)).link ≡ None
client-fresh recording s log port c playable st is = no-owner (track_at s.tracks.items (2 * c.number)).link (λ link owner. client-again recording s log port c playable st is (st.entered (2 * c.number) link owner))

server-again : (s : Stage) → Entered s (2 * (length s.opened.items + 1) + 1) → ⊥
server-again s (client port i c low found spot) = omega arith
server-again s (server k low spot) = omega arith

pub server-fresh : (recording : List RecordEntry) (s : Stage) (log : Log) → Stands recording s log → (track_at s.tracks.items (2 * (length s.opened.items + 1) + 1)).link ≡ None
server-fresh recording s log st = no-owner (track_at s.tracks.items (2 * (length s.opened.items + 1) + 1)).link (λ link owner. server-again s (st.entered (2 * (length s.opened.items + 1) + 1) link owner))
