-- What can be played on.
use Rattle.std.proofs.Common.{◌≡◌, ℕ, zero, suc, ◌<◌, ◌≤◌, ◌+◌, Bool, true, false, List, [], ◌∷◌, ◌++◌, length, drop, take, Some, None, ◌∙◌, ap, subst, arith, if◌then◌else◌, ◌-◌, min, length-drop}
use Rattle.std.proofs.lemmas.List.{length-take}
use Rattle.std.specs.Prelude.{slice_get}
use Rattle.std.specs.List.{cons_option}
use Rattle.mx_base.specs.declared.names.Port.{Port}
use Rattle.mx_wire.specs.Tells.{IsSalt}
use Rattle.recording.specs.declared.entry.RecordEntry.{RecordEntry}
use Rattle.recording.specs.declared.entry.RecordEntry.TheVariants as line
use Rattle.recording.specs.Playable.{PlayableAfter}
use Rattle.mem_wire.specs.declared.waiting.Waiting.{Waiting}
use Rattle.mem_wire.specs.Lines.{is_port, clients_at}
use Rattle.mem_wire.specs.Cuts.{NoMoment, first_moment}
use Rattle.mem_wire.specs.Follows.{Continues, HaveSalts}

pub salts-append : (a b : List Waiting) → HaveSalts a → HaveSalts b → HaveSalts (a ++ b)
salts-append [] b p q = q
salts-append (c ∷ a) b p q = (p.0, salts-append a b p.1 q)

pub salt-at : (clients : List Waiting) (i : ℕ) (client : Waiting) → HaveSalts clients → slice_get clients i ≡ Some client → IsSalt client.salt
salt-at [] i client all is = cc
salt-at (c ∷ clients) zero client all is = let same : c ≡ client = cc in subst (λ (w : Waiting). IsSalt w.salt) same all.0
salt-at (c ∷ clients) (suc i) client all is = salt-at clients i client all.1 is

one-salt : (here : Bool) (n : ℕ) (salt : List ℕ) (later : List Waiting) → IsSalt salt → HaveSalts later → HaveSalts (cons_option (if here then Some (record { number = n; salt = salt }) else None) later)
one-salt true n salt later is all = (is, all)
one-salt false n salt later is all = all

pub salts-of : (port : Port) (moment clients k : ℕ) (lines : List RecordEntry) → PlayableAfter moment clients lines → HaveSalts (clients_at port (take k lines))
salts-of port moment clients zero lines can = tt
salts-of port moment clients (suc k) [] can = tt
salts-of port moment clients (suc k) (line.At ms ∷ lines) can = salts-of port ms clients k lines can.1
salts-of port moment clients (suc k) (line.Accept n at salt ∷ lines) can = one-salt (is_port port at) n salt (clients_at port (take k lines)) can.1 (salts-of port moment (clients + 1) k lines can.2)
salts-of port moment clients (suc k) (line.Bytes link bytes ∷ lines) can = salts-of port moment clients k lines can.2
salts-of port moment clients (suc k) (line.Exec j ∷ lines) can = salts-of port moment clients k lines can.1
salts-of port moment clients (suc k) (line.Drop j ∷ lines) can = salts-of port moment clients k lines can.1
salts-of port moment clients (suc k) (line.Refuse j ∷ lines) can = salts-of port moment clients k lines can
salts-of port moment clients (suc k) (line.End link ∷ lines) can = salts-of port moment clients k lines can.1
salts-of port moment clients (suc k) (line.Fail link ∷ lines) can = salts-of port moment clients k lines can.1
salts-of port moment clients (suc k) (line.Take link n ∷ lines) can = salts-of port moment clients k lines can.1

pub playable-skip : (moment clients k : ℕ) (lines : List RecordEntry) → PlayableAfter moment clients lines → NoMoment (take k lines) → Continues moment (drop k lines)
playable-skip moment clients zero lines can none = record { clients = clients; playable = can }
playable-skip moment clients (suc k) [] can none = record { clients = clients; playable = tt }
playable-skip moment clients (suc k) (line.At ms ∷ lines) can none = absurd (let h : true ≡ false = none.0 in cc)
playable-skip moment clients (suc k) (line.Accept n at salt ∷ lines) can none = playable-skip moment (clients + 1) k lines can.2 none.1
playable-skip moment clients (suc k) (line.Bytes link bytes ∷ lines) can none = playable-skip moment clients k lines can.2 none.1
playable-skip moment clients (suc k) (line.Exec j ∷ lines) can none = playable-skip moment clients k lines can.1 none.1
playable-skip moment clients (suc k) (line.Drop j ∷ lines) can none = playable-skip moment clients k lines can.1 none.1
playable-skip moment clients (suc k) (line.Refuse j ∷ lines) can none = playable-skip moment clients k lines can none.1
playable-skip moment clients (suc k) (line.End link ∷ lines) can none = playable-skip moment clients k lines can.1 none.1
playable-skip moment clients (suc k) (line.Fail link ∷ lines) can none = playable-skip moment clients k lines can.1 none.1
playable-skip moment clients (suc k) (line.Take link n ∷ lines) can none = playable-skip moment clients k lines can.1 none.1

-- the rest of the lines begins with this moment
pub record Begins (moment ms : ℕ) (count : ℕ) (rest : List RecordEntry) : Type 0 where
  pub later : moment ≤ ms
  pub after : Continues ms (drop count rest)

pub begins : (moment clients ms count : ℕ) (rest : List RecordEntry) → PlayableAfter moment clients rest → first_moment rest ≡ Some ms → 0 < count → NoMoment (drop 1 (take count rest)) → Begins moment ms count rest
begins moment clients ms count [] can first some none = cc
begins moment clients ms zero (line.At at ∷ rest) can first some none = absurd (omega arith)
begins moment clients ms (suc k) (line.At at ∷ rest) can first some none =
    let same : at ≡ ms = cc in
    record {
      later = subst (λ (m : ℕ). moment ≤ m) same can.0;
      after = subst (λ (m : ℕ). Continues m (drop k rest)) same (playable-skip at clients k rest can.1 none);
    }
begins moment clients ms count (_ ∷ rest) can first some none = cc

pub first-some : (rest : List RecordEntry) (ms : ℕ) → first_moment rest ≡ Some ms → 0 < length rest
first-some [] ms first = cc
first-some (l ∷ rest) ms first = omega arith

pub wake-end : (cut count : ℕ) (rest recording : List RecordEntry) → rest ≡ drop cut recording → cut ≤ length recording → cut + length (take count rest) ≤ length recording
wake-end cut count rest recording is within =
    let size : length rest ≡ length recording - cut = ap length is ∙ length-drop cut recording in
    let part : length (take count rest) ≡ min count (length rest) = length-take count rest in
    omega arith
