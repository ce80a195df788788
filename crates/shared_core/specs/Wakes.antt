-- What is made of the tables at a wake, and where a link can't be opened.
use Rattle.std.specs.Prelude.{◌≡◌, ℕ, Bool, true, All, if◌then◌else◌, List, [], ◌∷◌, ◌++◌}
use Rattle.mx_base.specs.declared.names.ClientNo.{ClientNo}
use Rattle.mx_base.specs.declared.names.LinkId.{LinkId}
use Rattle.core_service.specs.Serves.{rules_in}
use Rattle.core_service.specs.declared.service.Service.{Service}
use Rattle.core_tables.specs.Tables.{Tabled}
use Rattle.core_laws.specs.clients.Going.{GivenUp, is_going}
use Rattle.router_laws.specs.wakes.Calling.{Caller, GivesUpAll, IsThere, IsUnsent, is_given}
use Rattle.core_texts.specs.Texts.{noted_at}
use Rattle.router_laws.specs.decisions.Causes.{AreLate, AreRefused}
use Rattle.router_laws.specs.decisions.Noted.{Notes}
use Rattle.router_laws.specs.decisions.Partings.{AreNotOusted, AreOusted}
use Rattle.router_laws.specs.decisions.Rulings.{AreRuledAll}
use Rattle.router_laws.specs.decisions.Speaks.{IsGivenOurs}
use Rattle.router_laws.specs.wakes.Deciding.{IsCallerOurs}
use Rattle.router_laws.specs.wakes.Waking.{FailsSo, WakesSo}
use Rattle.shared_core.specs.Follows.{AreRising, Made, is_of, ruling_in}
use Rattle.shared_core.specs.Stands.{is_roomy}
use Rattle.shared_core.specs.declared.roomy.Roomy.{Roomy}

-- it goes on, and its statement in work wasn't sent, nor is a link lent for it
pub record IsWaiting (c : ClientNo) (t : Tabled) : Type 0 where
  pub going : is_going (t.clients c) ≡ true
  pub unsent : IsUnsent c t

-- Statements were given up that waited too long, and their clients called, which go on; and whoever was called before still is.
pub record HaveGivenUp (wait_ms now_ms : ℕ) (came : Bool) (notes : Notes) (before called : Roomy) (old new : Tabled) : Type 0 where
  pub given : List GivenUp
  pub ours : All IsGivenOurs given
  pub late : AreLate wait_ms now_ms came notes old given
  pub gives : GivesUpAll given old new
  pub calls : (c : ClientNo) → is_given given c ≡ true → is_roomy called c ≡ true
  pub going : (c : ClientNo) → is_given given c ≡ true → is_going (new.clients c) ≡ true
  pub kept : (c : ClientNo) → is_roomy before c ≡ true → is_roomy called c ≡ true

-- those of these numbers who go on

abbrev pub going_in : Tabled → List ℕ → List ClientNo
going_in t [] = []
going_in t (n ∷ ns) = if is_going (t.clients (record { 0 = n })) then record { 0 = n } ∷ going_in t ns else going_in t ns

abbrev pub going_more : Tabled → ClientNo → List ClientNo → List ClientNo
going_more t c clients = if is_going (t.clients c) then clients ++ c ∷ [] else clients

-- These are all who are called and go on, as they came.
pub record AreCalled (called : Roomy) (clients : List ClientNo) (t : Tabled) : Type 0 where
  pub rising : AreRising clients
  pub there : All (λ c. IsThere t c) clients
  pub all : (c : ClientNo) → is_roomy called c ≡ true → is_going (t.clients c) ≡ true → is_of clients c ≡ true

-- Some were given up, and those clients and all that have room again went on.
pub record HasWoken (service : Service) (made : Made) (now_ms : ℕ) (came : Bool) (roomy : Roomy) (old new : Tabled) : Type 0 where
  pub given : List GivenUp
  pub callers : List Caller
  pub links : List LinkId
  pub given_ours : All IsGivenOurs given
  pub late : AreLate service.wait_ms now_ms came (noted_at made.texts) old given
  pub ours : All (IsCallerOurs (rules_in service) made.texts) callers
  pub parted : AreOusted service.buffer_budget came old callers
  pub so : WakesSo service.setup service.default_schema given callers links (is_roomy roomy) old new
  pub ruled : AreRuledAll (ruling_in service made) callers service.setup service.default_schema so.late so.calls.turned so.calls.going

-- One was given up, if one was, and its client went on.
pub record HasFailed (service : Service) (made : Made) (old new : Tabled) : Type 0 where
  pub given : List GivenUp
  pub callers : List Caller
  pub links : List LinkId
  pub given_ours : All IsGivenOurs given
  pub refused : AreRefused given
  pub ours : All (IsCallerOurs (rules_in service) made.texts) callers
  pub parted : AreNotOusted service.buffer_budget callers
  pub so : FailsSo service.setup service.default_schema given callers links old new
  pub ruled : AreRuledAll (ruling_in service made) callers service.setup service.default_schema so.late so.calls.turned so.calls.going
