-- Tables with one entry put, and what doesn't change.
use Rattle.std.specs.Prelude.{◌≡◌, ℕ, Bool, true, false, nat_eq, if◌then◌else◌, Option, Some, None}
use Rattle.std.proofs.Common.{◌∙◌, refl, sym, ap, subst, arith}
use Rattle.private_model.specs.Names.{ClientNo, Hostgroup, LinkId, ServerId, MessageName, SessionName}
use Rattle.private_model.proofs.Sessions.{and_left, and_right, apart}
use Rattle.private_model.proofs.Stands.{IsAt, IsAtBy, IsJoinedLink, IsLentLink, IsResting}
use Rattle.private_model.specs.Story.{is_client, is_hostgroup, is_link_id, is_message, is_name, is_server, put}
use Rattle.private_model.specs.View.{Carried, Held, Joined, Lent, Link, Nobody, Setup}
use Rattle.private_model.specs.Worlds.{Peer}
use Rattle.server_rule.specs.Servers.{Tests}
use Rattle.server_rule.specs.declared.session.Session.{Session}

-- what keys are told apart by
pub record Keyed (K : Type 0) : Type 0 where
  pub is : K → K → Bool
  pub same : (k : K) → is k k ≡ true
  pub of : (a b : K) → is a b ≡ true → a ≡ b

pub same_number : (n : ℕ) → nat_eq n n ≡ true
same_number n = search arith

pub number_of : (a b : ℕ) → nat_eq a b ≡ true → a ≡ b
number_of a b e = grind arith

pub same_link : (k : LinkId) → is_link_id k k ≡ true
same_link k = same_number k.0

pub link_of : (a b : LinkId) → is_link_id a b ≡ true → a ≡ b
link_of a b e = let same : a.0 ≡ b.0 = number_of _ _ e in λ i. record { 0 = same i }

pub same_server : (k : ServerId) → is_server k k ≡ true
same_server k = same_number k.0

pub server_of : (a b : ServerId) → is_server a b ≡ true → a ≡ b
server_of a b e = let same : a.0 ≡ b.0 = number_of _ _ e in λ i. record { 0 = same i }

pub client_of : (a b : ClientNo) → is_client a b ≡ true → a ≡ b
client_of a b e = let same : a.0 ≡ b.0 = number_of _ _ e in λ i. record { 0 = same i }

pub hostgroup_of : (a b : Hostgroup) → is_hostgroup a b ≡ true → a ≡ b
hostgroup_of a b e = let same : a.0 ≡ b.0 = number_of _ _ e in λ i. record { 0 = same i }

pub same_name : (n : SessionName) → is_name n n ≡ true
same_name n = rw (same_number n.client.0, same_number n.hostgroup.0, same_number n.life) refl

name_by : (a b : SessionName) → a.client ≡ b.client → a.hostgroup ≡ b.hostgroup → a.life ≡ b.life → a ≡ b
name_by a b c h l = λ i. record { client = c i; hostgroup = h i; life = l i }

pub name_of : (a b : SessionName) → is_name a b ≡ true → a ≡ b
name_of a b e = name_by a b (client_of _ _ (and_left _ _ e)) (hostgroup_of _ _ (and_left _ _ (and_right (is_client a.client b.client) _ e))) (number_of _ _ (and_right (is_hostgroup a.hostgroup b.hostgroup) _ (and_right (is_client a.client b.client) _ e)))

pub same_message : (m : MessageName) → is_message m m ≡ true
same_message m = rw (same_number m.client.0, same_number m.ordinal) refl

message_by : (a b : MessageName) → a.client ≡ b.client → a.ordinal ≡ b.ordinal → a ≡ b
message_by a b c o = λ i. record { client = c i; ordinal = o i }

pub message_is : (a b : MessageName) → is_message a b ≡ true → a ≡ b
message_is a b e = message_by a b (client_of _ _ (and_left _ _ e)) (number_of _ _ (and_right (is_client a.client b.client) _ e))

abbrev pub numbers : Keyed ℕ
numbers = record { is = nat_eq; same = same_number; of = number_of }

abbrev pub link_ids : Keyed LinkId
link_ids = record { is = is_link_id; same = same_link; of = link_of }

abbrev pub servers : Keyed ServerId
servers = record { is = is_server; same = same_server; of = server_of }

abbrev pub names : Keyed SessionName
names = record { is = is_name; same = same_name; of = name_of }

abbrev pub messages : Keyed MessageName
messages = record { is = is_message; same = same_message; of = message_is }

pub put-same : {K A : Type 0} (keyed : Keyed K) (f : K → A) (k : K) (x : A) → put keyed.is f k x k ≡ x
put-same keyed f k x = ap (λ b. if b then x else f k) (keyed.same k)

pub put-other : {K A : Type 0} (keyed : Keyed K) (f : K → A) (k : K) (x : A) (j : K) → keyed.is j k ≡ false → put keyed.is f k x j ≡ f j
put-other keyed f k x j e = ap (λ b. if b then x else f j) e

-- a fact of each key: of the one that was put, and of the others
pub at_each : {K : Type 0} (keyed : Keyed K) (P : K → Type 0) (k : K) → P k → ((j : K) → keyed.is j k ≡ false → P j) → (j : K) → P j
at_each {K} keyed P k here others j = go (keyed.is j k) refl
  where
    go : (b : Bool) → keyed.is j k ≡ b → P j
    go true e = subst P (sym (keyed.of j k e)) here
    go false e = others j e

-- the same entry is put into two tables that agree
pub both_put : {K A : Type 0} (keyed : Keyed K) (f g : K → A) (k : K) (x y : A) → x ≡ y → ((j : K) → f j ≡ g j) → (j : K) → put keyed.is f k x j ≡ put keyed.is g k y j
both_put keyed f g k x y same before = at_each keyed (λ j. put keyed.is f k x j ≡ put keyed.is g k y j) k (put-same keyed f k x ∙ same ∙ sym (put-same keyed g k y)) (λ j e. put-other keyed f k x j e ∙ before j ∙ sym (put-other keyed g k y j e))

-- an entry that changes nothing
pub one_put : {K A : Type 0} (keyed : Keyed K) (f g : K → A) (k : K) (y : A) → y ≡ g k → ((j : K) → f j ≡ g j) → (j : K) → f j ≡ put keyed.is g k y j
one_put keyed f g k y same before = at_each keyed (λ j. f j ≡ put keyed.is g k y j) k (before k ∙ sym same ∙ sym (put-same keyed g k y)) (λ j e. before j ∙ sym (put-other keyed g k y j e))

-- a fact of each entry
pub put_all : {K A : Type 0} (keyed : Keyed K) (P : A → Type 0) (f : K → A) (k : K) (x : A) → P x → ((j : K) → P (f j)) → (j : K) → P (put keyed.is f k x j)
put_all keyed P f k x here before = at_each keyed (λ j. P (put keyed.is f k x j)) k (subst P (sym (put-same keyed f k x)) here) (λ j e. subst P (sym (put-other keyed f k x j e)) (before j))

-- Nothing changes but for one name.

pub record IsElsewhere (key : SessionName) (held : SessionName → Held) (sessions : SessionName → Session) (held' : SessionName → Held) (sessions' : SessionName → Session) : Type 0 where
  pub keeps_held : (n : SessionName) → is_name n key ≡ false → held' n ≡ held n
  pub keeps_session : (n : SessionName) → is_name n key ≡ false → sessions' n ≡ sessions n

module _ (setup : Setup) (tests : Tests) (key : SessionName) (held : SessionName → Held) (sessions : SessionName → Session) (held' : SessionName → Held) (sessions' : SessionName → Session) (elsewhere : IsElsewhere key held sessions held' sessions') where
  -- a link that doesn't carry it doesn't notice
  apart_home : (j : LinkId) (n : SessionName) → (held n).home ≡ Some j → ((held key).home ≡ Some j → ⊥) → is_name n key ≡ false
  apart_home j n home not_key = go (is_name n key) refl
    where
      go : (b : Bool) → is_name n key ≡ b → is_name n key ≡ false
      go true e = absurd (not_key (subst (λ x. (held x).home ≡ Some j) (name_of n key e) home))
      go false e = e

  frame_by : (carried : Carried) (j : LinkId) (link : Link) (peer : Peer) → ((held key).home ≡ Some j → ⊥) → IsAtBy setup tests carried j link peer held sessions → IsAtBy setup tests carried j link peer held' sessions'
  frame_by Nobody j link peer not_key at = at
  frame_by (Lent n) j link peer not_key at =
      let e : is_name n key ≡ false = apart_home j n at.home not_key in
      subst (λ h. IsLentLink setup j n link peer h (sessions' n)) (sym (elsewhere.keeps_held n e)) (subst (λ s. IsLentLink setup j n link peer (held n) s) (sym (elsewhere.keeps_session n e)) at)
  frame_by (Joined n) j link peer not_key at =
      let e : is_name n key ≡ false = apart_home j n at.home not_key in
      subst (λ h. IsJoinedLink setup tests j n link peer h (sessions' n)) (sym (elsewhere.keeps_held n e)) (subst (λ s. IsJoinedLink setup tests j n link peer (held n) s) (sym (elsewhere.keeps_session n e)) at)

  pub frame : (j : LinkId) (link : Link) (peer : Peer) → ((held key).home ≡ Some j → ⊥) → IsAt setup tests j link peer held sessions → IsAt setup tests j link peer held' sessions'
  frame j link peer not_key at = frame_by link.carries j link peer not_key at

  pub still_resting : ((n : SessionName) → (held n).home ≡ None → IsResting (held n) (sessions n)) → ((held' key).home ≡ None → IsResting (held' key) (sessions' key)) → (n : SessionName) → (held' n).home ≡ None → IsResting (held' n) (sessions' n)
  still_resting before here = at_each names (λ n. (held' n).home ≡ None → IsResting (held' n) (sessions' n)) key here
      (λ n e. subst (λ h. h.home ≡ None → IsResting h (sessions' n)) (sym (elsewhere.keeps_held n e)) (subst (λ s. (held n).home ≡ None → IsResting (held n) s) (sym (elsewhere.keeps_session n e)) (before n)))

-- the one link that carries a name, or none
pub no_other : (home : Option LinkId) (k : LinkId) → home ≡ Some k → (j : LinkId) → is_link_id j k ≡ false → home ≡ Some j → ⊥
no_other home k is j other e = let same : j ≡ k = cc in apart (subst (λ x. is_link_id x k ≡ true) (sym same) (same_link k)) other

pub no_home : (home : Option LinkId) → home ≡ None → (j : LinkId) → home ≡ Some j → ⊥
no_home home is j e = cc

-- a link that is put where it was
pub put-back : {A : Type 0} (f : LinkId → A) (key : LinkId) → put is_link_id f key (f key) ≡ f
put-back f key = λ i l. same_there l i where
  same_there : (l : LinkId) → put is_link_id f key (f key) l ≡ f l
  same_there = at_each link_ids (λ l. put is_link_id f key (f key) l ≡ f l) key (put-same link_ids f key (f key)) (λ l e. put-other link_ids f key (f key) l e)
