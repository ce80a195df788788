-- Messages over which a tracker goes.
use Rattle.std.proofs.Common.{◌≡◌, ◌≤◌, ◌<◌, ℕ, zero, suc, ◌+◌, ◌/◌, ◌%◌, true, false, nat_eq, Option, Some, None, List, [], ◌∷◌, ◌++◌, length, take, drop, refl, ◌∙◌, sym, ap, subst, arith, length-drop}
use Rattle.std.proofs.lemmas.Bool.Decides.{nat_tests}
use Rattle.std.proofs.Math.Nat.{add-zero}
use Rattle.std.proofs.lemmas.List.{length-take-le, take_all}
use Rattle.packet_frame.specs.Packets.{longest, packet, packets, spelling, id_behind}
use Rattle.reply_track.specs.declared.due.Due.{Due}
use Rattle.reply_track.specs.declared.due.Next.{Next}
use Rattle.reply_track.specs.declared.due.Next.TheVariants.{Goes, Ends}
use Rattle.reply_track.specs.declared.body.Body.{Body}
use Rattle.reply_track.specs.declared.body.Body.TheVariants.{Due as DueBody, Rest}
use Rattle.reply_track.specs.declared.place.Place.TheVariants.{First, Id as IdPlace, Body as BodyPlace}
use Rattle.reply_track.specs.declared.place.State.{State}
use Rattle.reply_track.specs.declared.place.Outcome.{Outcome}
use Rattle.reply_track.specs.declared.place.Outcome.TheVariants.{On}
use Rattle.reply_track.specs.Steps.{next_id, step, taken, empty_body, empty_by}
use Rattle.reply_track.proofs.Crossing.{mk, Crosses, IsRight, TakesLength, header, join, read_body, made_by, made_body, followed_at, packet_at, packet-same, body-crosses}

length-made_by : (found : Option Body) (bytes : List ℕ) (others : Body → List ℕ) → ((next : Body) → length (others next) ≡ length bytes) → length (made_by found bytes others) ≡ length bytes
length-made_by None bytes others same = refl
length-made_by (Some next) bytes others same = same next

length-made_body : (number : ℕ) (bytes : List ℕ) (body : Body) → length (made_body body number bytes) ≡ length bytes
length-made_body number [] body = refl
length-made_body number (b ∷ bytes) body = ap suc (length-made_by (taken body (length (b ∷ bytes)) b) bytes (λ (next : Body). made_body next number bytes) (length-made_body number bytes))

-- what a packet makes of a payload
abbrev pub part_read : Body → List ℕ → Option Body
part_read body [] = empty_body body
part_read body (b ∷ bytes) = read_body body (b ∷ bytes)

same_id : (id : ℕ) → nat_eq id id ≡ true
same_id id = grind (arith, nat_tests)

some_length : (n : ℕ) → 0 < n → nat_eq n 0 ≡ false
some_length n some = grind (arith, nat_tests)

pub packet-crosses : (server client number : ℕ) (body last : Body) (bytes : List ℕ) (to : Outcome) → length bytes ≤ longest → TakesLength body (length bytes) → part_read body bytes ≡ Some last
    → packet_at (next_id server) (next_id client) number (nat_eq (length bytes) longest) last ≡ to → IsRight to
    → Crosses (mk server client number First body) (packet server bytes) (packet client (made_body body number bytes)) to
packet-crosses server client number body last [] to most takes reads ends right =
    let goes : step (mk server client number (IdPlace 0) body) server ≡ to = rw (same_id server) (ap (empty_by (mk (next_id server) (next_id client) number (IdPlace 0) body)) reads ∙ packet-same (next_id server) (next_id client) number (IdPlace 0) body false last ∙ ends) in
    header server client number 0 body to most takes goes right
packet-crosses server client number body last (b ∷ bytes) to most takes reads ends right =
    let n : ℕ = length (b ∷ bytes) in
    let on : State = mk (next_id server) (next_id client) number (BodyPlace n (nat_eq n longest)) body in
    let goes : step (mk server client number (IdPlace n) body) server ≡ On on = rw (same_id server, some_length n (omega arith)) refl in
    let front = header server client number n body (On on) most takes goes tt in
    let back = body-crosses (next_id server) (next_id client) number (nat_eq n longest) last to bytes b body reads ends right in
    let size : length (made_body body number (b ∷ bytes)) ≡ n = length-made_body number (b ∷ bytes) body in
    rw size (join (mk server client number First body) on (n % 256 ∷ n / 256 % 256 ∷ n / 65536 ∷ server ∷ []) (n % 256 ∷ n / 256 % 256 ∷ n / 65536 ∷ client ∷ []) (b ∷ bytes) (made_body body number (b ∷ bytes)) to front back)

pub rest-read : (next : Next) (bytes : List ℕ) → read_body (Rest next) bytes ≡ Some (Rest next)
rest-read next [] = refl
rest-read next (b ∷ bytes) = rest-read next bytes

pub rest-part : (next : Next) (bytes : List ℕ) → part_read (Rest next) bytes ≡ Some (Rest next)
rest-part next [] = refl
rest-part next (b ∷ bytes) = rest-read next bytes

pub rest-made : (next : Next) (number : ℕ) (bytes : List ℕ) → made_body (Rest next) number bytes ≡ bytes
rest-made next number [] = refl
rest-made next number (b ∷ bytes) = ap (λ bs. b ∷ bs) (rest-made next number bytes)

pub right-followed : (server client number : ℕ) (next : Next) → IsRight (followed_at server client number next)
right-followed server client number (Goes due) = tt
right-followed server client number (Ends end) = tt

shorter : (n : ℕ) → n < longest → nat_eq n longest ≡ false
shorter n less = grind (arith, nat_tests)

full_size : (n : ℕ) → n ≡ longest → nat_eq n longest ≡ true
full_size n is = rw is refl

-- the last packet of a message
last-crosses : (server client number : ℕ) (body : Body) (next : Next) (bytes made : List ℕ) → length bytes < longest → TakesLength body (length bytes) → part_read body bytes ≡ Some (Rest next) → made_body body number bytes ≡ made
    → Crosses (mk server client number First body) (packet server bytes) (packet client made) (followed_at (next_id server) (next_id client) number next)
last-crosses server client number body next bytes made short takes reads makes =
    let to : Outcome = followed_at (next_id server) (next_id client) number next in
    let ends : packet_at (next_id server) (next_id client) number (nat_eq (length bytes) longest) (Rest next) ≡ to = rw (shorter (length bytes) short) refl in
    subst (λ ys. Crosses (mk server client number First body) (packet server bytes) (packet client ys) to) makes (packet-crosses server client number body (Rest next) bytes to (omega arith) takes reads ends (right-followed (next_id server) (next_id client) number next))

-- one that is followed by others
long-crosses : (server client number : ℕ) (body : Body) (next : Next) (bytes made : List ℕ) → length bytes ≡ longest → TakesLength body (length bytes) → part_read body bytes ≡ Some (Rest next) → made_body body number bytes ≡ made
    → Crosses (mk server client number First body) (packet server bytes) (packet client made) (On (mk (next_id server) (next_id client) number First (Rest next)))
long-crosses server client number body next bytes made long takes reads makes =
    let to : Outcome = On (mk (next_id server) (next_id client) number First (Rest next)) in
    let ends : packet_at (next_id server) (next_id client) number (nat_eq (length bytes) longest) (Rest next) ≡ to = rw (full_size (length bytes) long) refl in
    subst (λ ys. Crosses (mk server client number First body) (packet server bytes) (packet client ys) to) makes (packet-crosses server client number body (Rest next) bytes to (omega arith) takes reads ends tt)

any_length : (next : Next) (n : ℕ) → TakesLength (Rest next) n
any_length next n = record { low = refl; lower = refl; whole = refl }

-- the packets behind the first one
pub others-cross : (full server client number : ℕ) (next : Next) (payload : List ℕ) → length payload / longest ≡ full
    → Crosses (mk server client number First (Rest next)) (packets full server payload) (packets full client payload) (followed_at ((server + full + 1) % 256) ((client + full + 1) % 256) number next)
others-cross zero server client number next payload none =
    let now : ℕ → Type 0 = λ (n : ℕ). Crosses (mk server client number First (Rest next)) (packet server payload) (packet client payload) (followed_at (next_id (server + n)) (next_id (client + n)) number next) in
    let is : now 0 = rw (add-zero server, add-zero client) (last-crosses server client number (Rest next) next payload payload (omega arith) (any_length next (length payload)) (rest-part next payload) (rest-made next number payload)) in
    is
others-cross (suc full) server client number next payload several =
    let front : List ℕ = take longest payload in
    let long : length front ≡ longest = length-take-le longest payload (omega arith) in
    let left : length (drop longest payload) / longest ≡ full = omega (arith, length-drop longest payload) in
    let one = long-crosses server client number (Rest next) next front front long (any_length next (length front)) (rest-part next front) (rest-made next number front) in
    let others = others-cross full (next_id server) (next_id client) number next (drop longest payload) left in
    let ids : (id : ℕ) → (next_id id + full + 1) % 256 ≡ (id + suc full + 1) % 256 = λ (id : ℕ). omega arith in
    let to : Outcome = followed_at ((next_id server + full + 1) % 256) ((next_id client + full + 1) % 256) number next in
    let is : to ≡ followed_at ((server + suc full + 1) % 256) ((client + suc full + 1) % 256) number next = rw (ids server, ids client) refl in
    subst (Crosses (mk server client number First (Rest next)) (packets (suc full) server payload) (packets (suc full) client payload)) is
    (join (mk server client number First (Rest next)) (mk (next_id server) (next_id client) number First (Rest next)) (packet server front) (packet client front) (packets full (next_id server) (drop longest payload)) (packets full (next_id client) (drop longest payload)) to one others)

-- what a payload is followed by where it is due, and what the client gets in its place
pub record Reads (due : Due) (number : ℕ) (payload handed : List ℕ) (next : Next) : Type 0 where
  pub takes : TakesLength (DueBody due) (length (take longest payload))
  pub reads : part_read (DueBody due) (take longest payload) ≡ Some (Rest next)
  pub makes : made_body (DueBody due) number (take longest payload) ≡ take longest handed
  pub others : drop longest payload ≡ drop longest handed
  pub same : length payload ≡ length handed

crosses-by : (full server client number : ℕ) (due : Due) (payload handed : List ℕ) (next : Next) → length payload / longest ≡ full → Reads due number payload handed next
    → Crosses (mk server client number First (DueBody due)) (packets full server payload) (packets full client handed) (followed_at ((server + full + 1) % 256) ((client + full + 1) % 256) number next)
crosses-by zero server client number due payload handed next none reads =
    let whole : take longest payload ≡ payload = front_all payload (omega arith) in
    let whole_handed : take longest handed ≡ handed = front_all handed (omega (arith, reads.same)) in
    let is : Crosses (mk server client number First (DueBody due)) (packet server payload) (packet client handed) (followed_at (next_id server) (next_id client) number next) =
    last-crosses server client number (DueBody due) next payload handed (omega arith) (subst (λ bs. TakesLength (DueBody due) (length bs)) whole reads.takes) (subst (λ bs. part_read (DueBody due) bs ≡ Some (Rest next)) whole reads.reads) (ap (made_body (DueBody due) number) (sym whole) ∙ reads.makes ∙ whole_handed) in
    rw (add-zero server, add-zero client) is where
      front_all : (bytes : List ℕ) → length bytes < longest → take longest bytes ≡ bytes
      front_all bytes short = take_all longest bytes (omega arith)
crosses-by (suc full) server client number due payload handed next several reads =
    let front : List ℕ = take longest payload in
    let behind : List ℕ = drop longest payload in
    let long : length front ≡ longest = length-take-le longest payload (omega arith) in
    let left : length behind / longest ≡ full = omega (arith, length-drop longest payload) in
    let one = long-crosses server client number (DueBody due) next front (take longest handed) long reads.takes reads.reads reads.makes in
    let others = others-cross full (next_id server) (next_id client) number next behind left in
    let ids : (id : ℕ) → (next_id id + full + 1) % 256 ≡ (id + suc full + 1) % 256 = λ (id : ℕ). omega arith in
    let to : Outcome = followed_at ((next_id server + full + 1) % 256) ((next_id client + full + 1) % 256) number next in
    let is : to ≡ followed_at ((server + suc full + 1) % 256) ((client + suc full + 1) % 256) number next = rw (ids server, ids client) refl in
    let state : State = mk server client number First (DueBody due) in
    let joined : Crosses state (packets (suc full) server payload) (packet client (take longest handed) ++ packets full (next_id client) behind) to =
    join state (mk (next_id server) (next_id client) number First (Rest next)) (packet server front) (packet client (take longest handed)) (packets full (next_id server) behind) (packets full (next_id client) behind) to one others in
    subst (Crosses state (packets (suc full) server payload) (packets (suc full) client handed)) is
    (subst (λ bs. Crosses state (packets (suc full) server payload) (packet client (take longest handed) ++ packets full (next_id client) bs) to) reads.others joined)

pub message-crosses : (server client number : ℕ) (due : Due) (payload handed : List ℕ) (next : Next) → Reads due number payload handed next
    → Crosses (mk server client number First (DueBody due)) (spelling server payload) (spelling client handed) (followed_at (id_behind server payload) (id_behind client payload) number next)
unfolding spelling
message-crosses server client number due payload handed next reads =
    let full : ℕ = length payload / longest in
    let same : length handed / longest ≡ full = ap (λ n. n / longest) (sym reads.same) in
    rw same (crosses-by full server client number due payload handed next refl reads)
