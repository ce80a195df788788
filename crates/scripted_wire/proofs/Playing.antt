-- Logs that are told go on.
use Rattle.std.proofs.Common.{◌≡◌, ◌≤◌, ◌++◌, ◌∙◌, ℕ, Bool, true, false, List, [], ◌∷◌, length, take, min, Option, Some, None, refl, sym, ap, subst, arith, append_assoc, length-take}
use Rattle.std.specs.Prelude.{IfSome, slice_get}
use Rattle.mx_base.specs.declared.names.LinkId.{LinkId}
use Rattle.mx_wire.specs.Adds.{Adds, AddsIf, AddsOne}
use Rattle.mx_wire.specs.Answers.{got_entry}
use Rattle.mx_wire.specs.Log.{Log, link_of, moment_step}
use Rattle.mx_wire.specs.declared.entry.Entry.{Entry}
use Rattle.mx_wire.specs.declared.wire.Got.{Got}
use Rattle.mx_wire.specs.declared.wire.Got.TheVariants as got
use Rattle.server_rule.specs.Servers.{Step}
use Rattle.scripted_wire.specs.Giving.{ReadsFrom}
use Rattle.scripted_wire.specs.Hosts.{Hosted}
use Rattle.scripted_wire.specs.Links.{ends, read_on, unread}
use Rattle.scripted_wire.specs.Plays.{Cast, HasRead, IsBegun, IsPlayed, Plays, ReadsBytes, Scene, Turns, cast_of}
use Rattle.scripted_wire.specs.Plays.Plays.{Begins, GoesOn}
use Rattle.scripted_wire.specs.Scripts.{Scripts}
use Rattle.scripted_wire.specs.Sound.{IsFollowed, IsSound}
use Rattle.scripted_wire.specs.Stages.{Accepts, AcceptsBy, Changes, IsFirst, ReadsAt}
use Rattle.scripted_wire.specs.declared.script.Script.{Script}
use Rattle.scripted_wire.specs.declared.link.Link.{Link}
use Rattle.scripted_wire.specs.declared.stage.Stage.{Stage}
use Rattle.scripted_wire.proofs.Sound.{sound_one}

-- one that is told no more
pub untold : (step : Step) (cast : Cast) (scene : Scene) (told : Option Log) → told ≡ None → IsPlayed step cast scene told
untold step cast scene told none = record { plays = λ log is. absurd (let both : None ≡ Some log = sym none ∙ is in cc) }

-- one that tells no call yet
pub played-first : (step : Step) (cast : Cast) (scene : Scene) (told : Option Log) → told ≡ Some [] → IsBegun cast scene → IsPlayed step cast scene told
played-first step cast scene told none begun = record {
  plays = λ log is.
      let same : [] ≡ log = (let both : Some [] ≡ Some log = sym none ∙ is in cc) in
      subst (λ (l : Log). Plays step cast l scene) same (Begins scene begun);
}

-- Calls without marks.

pub played-one : (step : Step) (cast : Cast) (old new : Scene) (told : Option Log) (e : Entry) (later : Option Log) → IsPlayed step cast old told → AddsOne told e later → Turns step old [] e new
    → IsPlayed step cast new later
played-one step cast old new told e later played one turn = record {
  plays = λ log is.
      let first = one.adds.told log is in
      subst (λ (l : Log). Plays step cast l new) (sym first.2) (GoesOn first.0 [] e old new (played.plays first.0 first.1) turn);
}

pub played-if : (step : Step) (cast : Cast) (old new : Scene) (told : Option Log) (what : Option Entry) (e : Entry) (later : Option Log) → IsPlayed step cast old told → AddsIf told what later
    → IfSome what (λ x. x ≡ e) → Turns step old [] e new → IsPlayed step cast new later
played-if step cast old new told (Some x) e later played adds is turn = played-one step cast old new told e later played (subst (λ (y : Entry). AddsOne told y later) is adds) turn
played-if step cast old new told None e later played adds is turn = untold step cast new later adds

-- A call that leaves all as it stands, and names no link.
pub calm : (step : Step) (cast : Cast) (scene : Scene) (links moment : ℕ) (told : Option Log) (e : Entry) (later : Option Log) → IsSound links moment told × IsPlayed step cast scene told → AddsOne told e later
    → link_of e ≡ None → ((m : ℕ) → moment_step m e ≡ m) → Turns step scene [] e scene → IsSound links moment later × IsPlayed step cast scene later
calm step cast scene links moment told e later both one none idle turn = (
  sound_one links moment links moment told e later both.0 one (omega arith) refl (λ log is. rw none refl) idle,
  played-one step cast scene scene told e later both.1 one turn,
)

-- The first call.

pub sound-first : (links moment : ℕ) (told : Option Log) → told ≡ Some [] → IsSound links moment told
sound-first links moment told none = record {
  follows = λ log is.
      let same : [] ≡ log = (let both : Some [] ≡ Some log = sym none ∙ is in cc) in
      subst (IsFollowed links moment) same (record { below = refl; moments = omega arith });
}

pub begun : (items before : List (Hosted × Scripts)) (hosts : Hosted) (stage : Stage) (stored : List (List ℕ)) (scripts : List Script) → before ≡ [] → items ≡ before ++ (hosts, stage.waiting) ∷ []
    → hosts ≡ record { stored = stored; seats = [] } → IsFirst scripts stage → IsBegun (cast_of items) (record { stage = stage; hosted = hosts })
begun items before hosts stage stored scripts none made fresh first =
    let is : items ≡ (hosts, stage.waiting) ∷ [] = made ∙ ap (λ (front : List (Hosted × Scripts)). front ++ (hosts, stage.waiting) ∷ []) none in
    let all : stage.waiting.scripts ≡ scripts = ap {A = Scripts} (λ w. w.scripts) first.waiting in
    let kept : hosts.stored ≡ stored = ap {A = Hosted} (λ h. h.stored) fresh in
    rw is (record {
      stage = subst (λ (ss : List Script). IsFirst ss stage) (sym all) first;
      hosted = fresh ∙ ap {A = List (List ℕ)} {B = Hosted} (λ data_of. record { stored = data_of; seats = [] }) (sym kept);
    })

-- Nobody waits.

none-by : (script : Option Script) (came : Bool) (old new : Stage) → came ≡ false → AcceptsBy script came old new → new ≡ old
none-by None came old new is accepts = accepts.1
none-by (Some script) came old new is accepts = absurd (let both : true ≡ false = sym accepts.0 ∙ is in cc)

pub accepts-none : (came : Bool) (old new : Stage) → came ≡ false → Accepts came old new → new ≡ old
accepts-none came old new is accepts = none-by (slice_get old.waiting.scripts old.waiting.came) came old new is accepts

-- A wait.

pub played-wait : (step : Step) (cast : Cast) (old new : Scene) (told mid : Option Log) (marks : Log) (e : Entry) (later : Option Log) → IsPlayed step cast old told → Adds told marks mid → AddsOne mid e later
    → Turns step old marks e new → IsPlayed step cast new later
played-wait step cast old new told mid marks e later played adds one turn = record {
  plays = λ log is.
      let late = one.adds.told log is in
      let early = adds.told late.0 late.1 in
      let whole : log ≡ early.0 ++ (marks ++ e ∷ []) = late.2 ∙ ap (λ (front : Log). front ++ e ∷ []) early.2 ∙ append_assoc early.0 marks (e ∷ []) in
      subst (λ (l : Log). Plays step cast l new) (sym whole) (GoesOn early.0 marks e old new (played.plays early.0 early.1) turn);
}

-- A read.

front-size : (there old into : List ℕ) (n : ℕ) → ReadsFrom there old into n → length (take n into) ≡ n
front-size there old into n reads =
    let same : length (take n into) ≡ length (take n there) = ap length reads.bytes in
    let size : length (take n there) ≡ min n (length there) = length-take n there in
    let is : n ≡ min (length old) (length there) = reads.size_is in
    omega (arith, same, size, is)

reads-bytes : (found : Option Link) (old into : List ℕ) (n : ℕ) → ReadsAt found old into (got.Got n) → (length (take n into) ≡ n) × ReadsBytes found (take n into)
reads-bytes None old into n reads = absurd (cc)
reads-bytes (Some link) old into n reads =
    let size : length (take n into) ≡ n = front-size (unread link.peer) old into n reads in (size, rw size reads.bytes)

has-read : (found : Option Link) (old into : List ℕ) → ReadsAt found old into got.NotReady → HasRead found false
has-read None old into reads = refl
has-read (Some link) old into reads = reads

has-ended : (found : Option Link) (old into : List ℕ) → ReadsAt found old into got.End → HasRead found true
has-ended None old into reads = absurd (cc)
has-ended (Some link) old into reads = reads

pub read-turn : (step : Step) (link : LinkId) (room into : List ℕ) (answer : Got) (old new : Stage) (hosted : Hosted) → ReadsAt (slice_get old.links.items link.0) room into answer
    → Changes (read_on answer) link.0 old new → (answer ≡ got.Failed → ⊥) → Turns step (record { stage = old; hosted = hosted }) [] (got_entry link into answer) (record { stage = new; hosted = hosted })
read-turn step link room into (got.Got n) old new hosted reads changes right =
    let front = reads-bytes (slice_get old.links.items link.0) room into n reads in
    record { unmarked = refl; does = (front.1, rw front.0 changes); hosted = refl }
read-turn step link room into got.NotReady old new hosted reads changes right = record { unmarked = refl; does = (has-read _ room into reads, changes); hosted = refl }
read-turn step link room into got.End old new hosted reads changes right = record { unmarked = refl; does = (has-ended _ room into reads, changes); hosted = refl }
read-turn step link room into got.Failed old new hosted reads changes right = absurd (right refl)
