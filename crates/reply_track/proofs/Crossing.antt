-- Bytes over which a tracker goes from one state to another, whatever follows them.
use Rattle.std.proofs.Common.{◌≡◌, ◌≤◌, ℕ, ◌+◌, ◌-◌, ◌*◌, ◌/◌, ◌%◌, Bool, true, false, cond, nat_le, Option, Some, None, List, [], ◌∷◌, ◌++◌, length, refl, ◌∙◌, sym, ap, arith, append_assoc}
use Rattle.std.proofs.lemmas.Bool.{lt-leb}
use Rattle.packet_frame.specs.Packets.{longest}
use Rattle.reply_track.specs.declared.due.Next.{Next}
use Rattle.reply_track.specs.declared.due.Next.TheVariants.{Goes, Ends}
use Rattle.reply_track.specs.declared.body.Body.{Body}
use Rattle.reply_track.specs.declared.body.Body.TheVariants.{Due as DueBody, Cell as CellBody, Number as NumberBody, Rest}
use Rattle.reply_track.specs.declared.place.Place.{Place}
use Rattle.reply_track.specs.declared.place.Place.TheVariants.{First, Second, Third, Id as IdPlace, Body as BodyPlace}
use Rattle.reply_track.specs.declared.place.State.{State}
use Rattle.reply_track.specs.declared.place.Outcome.{Outcome}
use Rattle.reply_track.specs.declared.place.Outcome.TheVariants.{On, Over, Wrong}
use Rattle.reply_track.specs.Steps.{step, written, taken, packet_ended, payload_by, body_takes_low, body_takes_length, body_written}
use Rattle.reply_track.specs.Runs.{Ending, run, run_by, renumbered, renumbered_by}
use Rattle.reply_track.specs.Runs.Ending.{Ended, Failed}

abbrev pub mk : (server client number : ℕ) → Place → Body → State
mk server client number place body = record { server = server; client = client; number = number; place = place; body = body }

abbrev pub run_on : Outcome → List ℕ → Ending
run_on (On state) bytes = run state bytes
run_on (Over end) bytes = Ended end bytes
run_on Wrong bytes = Failed bytes

abbrev pub made_on : Outcome → List ℕ → List ℕ
made_on (On state) bytes = renumbered state bytes
made_on (Over end) bytes = bytes
made_on Wrong bytes = bytes

pub record Crosses (state : State) (xs ys : List ℕ) (to : Outcome) : Type 0 where
  pub runs : (zs : List ℕ) → run state (xs ++ zs) ≡ run_on to zs
  pub makes : (zs : List ℕ) → renumbered state (xs ++ zs) ≡ ys ++ made_on to zs

abbrev pub IsRight : Outcome → Type 0
IsRight (On state) = Unit {0}
IsRight (Over end) = Unit {0}
IsRight Wrong = ⊥

pub crosses : (state : State) (b : ℕ) (to : Outcome) → step state b ≡ to → IsRight to → Crosses state (b ∷ []) (written state b ∷ []) to
crosses state b (On next) goes right = record {
  runs = λ zs. ap (λ (o : Outcome). run_by o b zs (λ (n : State). run n zs)) goes;
  makes = λ zs. ap (λ (o : Outcome). renumbered_by o (written state b) b zs (λ (n : State). renumbered n zs)) goes;
}
crosses state b (Over end) goes right = record {
  runs = λ zs. ap (λ (o : Outcome). run_by o b zs (λ (n : State). run n zs)) goes;
  makes = λ zs. ap (λ (o : Outcome). renumbered_by o (written state b) b zs (λ (n : State). renumbered n zs)) goes;
}
crosses state b Wrong goes right = absurd right

pub join : (state next : State) (xs ys us vs : List ℕ) (to : Outcome) → Crosses state xs ys (On next) → Crosses next us vs to → Crosses state (xs ++ us) (ys ++ vs) to
join state next xs ys us vs to one two = record {
  runs = λ zs. ap (run state) (append_assoc xs us zs) ∙ one.runs (us ++ zs) ∙ two.runs zs;
  makes = λ zs. ap (renumbered state) (append_assoc xs us zs) ∙ one.makes (us ++ zs) ∙ ap (λ bs. ys ++ bs) (two.makes zs) ∙ sym (append_assoc ys vs (made_on to zs));
}

-- the lengths that may stand here
pub record TakesLength (body : Body) (n : ℕ) : Type 0 where
  pub low : body_takes_low body (n % 256) ≡ true
  pub lower : body_takes_low body (n % 256 + 256 * (n / 256 % 256)) ≡ true
  pub whole : body_takes_length body n ≡ true

pub header : (server client number n : ℕ) (body : Body) (to : Outcome) → n ≤ longest → TakesLength body n → step (mk server client number (IdPlace n) body) server ≡ to → IsRight to
    → Crosses (mk server client number First body) (n % 256 ∷ n / 256 % 256 ∷ n / 65536 ∷ server ∷ []) (n % 256 ∷ n / 256 % 256 ∷ n / 65536 ∷ client ∷ []) to
header server client number n body to most takes goes right =
    let a : ℕ = n % 256 in
    let b : ℕ = n / 256 % 256 in
    let c : ℕ = n / 65536 in
    let at : Place → State = λ (p : Place). mk server client number p body in
    let size : a + 256 * b + 65536 * c ≡ n = omega (arith, parts n) in
    let one : step (at First) a ≡ On (at (Second a)) = rw takes.low refl in
    let two : step (at (Second a)) b ≡ On (at (Third (a + 256 * b))) = rw takes.lower refl in
    let three : step (at (Third (a + 256 * b))) c ≡ On (at (IdPlace n)) = rw size (rw takes.whole refl) in
    join (at First) (at (Second a)) (a ∷ []) (a ∷ []) (b ∷ c ∷ server ∷ []) (b ∷ c ∷ client ∷ []) to (crosses (at First) a (On (at (Second a))) one tt)
    (join (at (Second a)) (at (Third (a + 256 * b))) (b ∷ []) (b ∷ []) (c ∷ server ∷ []) (c ∷ client ∷ []) to (crosses (at (Second a)) b (On (at (Third (a + 256 * b)))) two tt)
    (join (at (Third (a + 256 * b))) (at (IdPlace n)) (c ∷ []) (c ∷ []) (server ∷ []) (client ∷ []) to (crosses (at (Third (a + 256 * b))) c (On (at (IdPlace n))) three tt)
    (crosses (at (IdPlace n)) server to goes right))) where
      parts : (n : ℕ) → n / 65536 ≡ n / 256 / 256
      parts n = omega arith

-- what the bytes of a packet's body make of a payload
abbrev pub read_by : Option Body → (Body → Option Body) → Option Body
read_by None others = None
read_by (Some next) others = others next

abbrev pub read_body : Body → List ℕ → Option Body
read_body body [] = Some body
read_body body (b ∷ bytes) = read_by (taken body (length (b ∷ bytes)) b) (λ (next : Body). read_body next bytes)

abbrev pub made_by : Option Body → List ℕ → (Body → List ℕ) → List ℕ
made_by None bytes others = bytes
made_by (Some next) bytes others = others next

abbrev pub made_body : Body → (number : ℕ) → List ℕ → List ℕ
made_body body number [] = []
made_body body number (b ∷ bytes) = body_written body number b ∷ made_by (taken body (length (b ∷ bytes)) b) bytes (λ (next : Body). made_body next number bytes)

pub read_by-some : (found : Option Body) (others : Body → Option Body) (last : Body) → read_by found others ≡ Some last → (next : Body) × (found ≡ Some next) × (others next ≡ Some last)
read_by-some None others last is = absurd (cc)
read_by-some (Some next) others last is = (next, refl, is)

-- the end of a packet
abbrev pub followed_at : (server client number : ℕ) → Next → Outcome
followed_at server client number (Goes due) = On (mk server client number First (DueBody due))
followed_at server client number (Ends end) = Over end

abbrev pub packet_at : (server client number : ℕ) (long : Bool) → Body → Outcome
packet_at server client number long (Rest next) = cond long (On (mk server client number First (Rest next))) (followed_at server client number next)
packet_at server client number long (DueBody due) = Wrong
packet_at server client number long (CellBody cell) = Wrong
packet_at server client number long (NumberBody field size value) = Wrong

pub packet-same : (server client number : ℕ) (place : Place) (old : Body) (long : Bool) (body : Body) → packet_ended (mk server client number place old) long body ≡ packet_at server client number long body
packet-same server client number place old true (Rest next) = refl
packet-same server client number place old false (Rest (Goes due)) = refl
packet-same server client number place old false (Rest (Ends end)) = refl
packet-same server client number place old long (DueBody due) = refl
packet-same server client number place old long (CellBody cell) = refl
packet-same server client number place old long (NumberBody field size value) = refl

pub body-crosses : (server client number : ℕ) (long : Bool) (last : Body) (to : Outcome) (bytes : List ℕ) (b : ℕ) (body : Body) → read_body body (b ∷ bytes) ≡ Some last → packet_at server client number long last ≡ to → IsRight to
    → Crosses (mk server client number (BodyPlace (length (b ∷ bytes)) long) body) (b ∷ bytes) (made_body body number (b ∷ bytes)) to
body-crosses server client number long last to [] b body reads ends right =
    let found = read_by-some (taken body 1 b) (λ (next : Body). Some next) last reads in
    let same : found.0 ≡ last = cc (found.2) in
    let goes : step (mk server client number (BodyPlace 1 long) body) b ≡ to = ap (payload_by (mk server client number (BodyPlace 1 long) body) 1 long) found.1 ∙ packet-same server client number (BodyPlace 1 long) body long found.0 ∙ ap (packet_at server client number long) same ∙ ends in
    let makes : made_body body number (b ∷ []) ≡ body_written body number b ∷ [] = ap (λ (t : Option Body). body_written body number b ∷ made_by t [] (λ (next : Body). [])) found.1 in
    rw makes (crosses (mk server client number (BodyPlace 1 long) body) b to goes right)
body-crosses server client number long last to (c ∷ bytes) b body reads ends right =
    let size : ℕ = length (b ∷ c ∷ bytes) in
    let found = read_by-some (taken body size b) (λ (next : Body). read_body next (c ∷ bytes)) last reads in
    let several : nat_le size 1 ≡ false = lt-leb size 1 (omega arith) in
    let less : size - 1 ≡ length (c ∷ bytes) = omega arith in
    let at : State = mk server client number (BodyPlace size long) body in
    let on : State = mk server client number (BodyPlace (length (c ∷ bytes)) long) found.0 in
    let chosen : payload_by at size long (Some found.0) ≡ On on = rw several (rw less refl) in
    let goes : step at b ≡ On on = ap (payload_by at size long) found.1 ∙ chosen in
    let makes : made_body body number (b ∷ c ∷ bytes) ≡ body_written body number b ∷ made_body found.0 number (c ∷ bytes) = ap (λ (t : Option Body). body_written body number b ∷ made_by t (c ∷ bytes) (λ (next : Body). made_body next number (c ∷ bytes))) found.1 in
    rw makes (join at on (b ∷ []) (body_written body number b ∷ []) (c ∷ bytes) (made_body found.0 number (c ∷ bytes)) to (crosses at b (On on) goes tt) (body-crosses server client number long last to bytes c found.0 found.2 ends right))
