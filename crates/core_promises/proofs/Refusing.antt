-- A query of a client whose user the first rule refuses.
use Rattle.std.specs.Prelude.{◌≡◌, ◌==◌, ◌&&◌, ◌||◌, ℕ, Bool, true, bytes_eq, is_some, not, option_map, if◌then◌else◌, List, ◌∷◌, Option, Some}
use Rattle.std.specs.Option.{option_or}
use Rattle.std.proofs.Common.{sym, ap, ◌∙◌}
use Rattle.std.proofs.lemmas.Slice.Eq.{bytes_eq-Decides}
use Rattle.log_story.specs.Plan.{Route, com_query}
use Rattle.query_rules.specs.Conditions.{absent_or, as_wanted, fires}
use Rattle.query_rules.specs.Effects.{after, answer_of, is_last}
use Rattle.query_rules.specs.Passing.{beginning, passed, route_of}
use Rattle.query_rules.specs.Patterns.{finds}
use Rattle.query_rules.specs.declared.ask.Ask.{Ask}
use Rattle.query_rules.specs.declared.ask.Stop.TheVariants as stops
use Rattle.query_rules.specs.declared.rule.Rule.{Rule}
use Rattle.query_digest.specs.Digest.{digest_of}
use Rattle.query_digest.specs.Hash.{hash_of}
use Rattle.router_promises.proofs.Refusals.{none-some}
use Rattle.router_promises.specs.Terms.{Terms}
use Rattle.core_promises.specs.Wrong.{book_up, RefusesUser, SendsBy, SetsNoFlag, user_of}
use Rattle.core_promises.proofs.Texts.{unstopped-by}

module _ (user why : List ℕ) (rule : Rule) (is : RefusesUser user why rule) (ask : Ask) (login : ask.user ≡ user) (flag : ask.flag ≡ 0) where
  -- it fires first

  for-user : fires rule ask (beginning ask) ≡ ((bytes_eq user ask.user && true) && true)
  for-user = λ i.
      (is.active i && ((is.flag i == flag i)
      && (absent_or (λ text. bytes_eq text ask.user) (is.username i) && absent_or (λ text. bytes_eq text ask.schema) (is.schemaname i))))
      && (absent_or (λ hash. hash_of (digest_of ask.text) == hash) (is.digest i)
      && (absent_or (λ pattern. as_wanted rule (finds pattern (digest_of ask.text))) (is.match_digest i)
      && absent_or (λ pattern. as_wanted rule (finds pattern ask.text)) (is.match_pattern i)))

  fires-so : fires rule ask (beginning ask) ≡ true
  fires-so = for-user ∙ ap (λ (b : Bool). (b && true) && true) ((bytes_eq-Decides user ask.user).1 (sym login))

  -- and ends the pass
  last-so : is_last rule ≡ true
  last-so = ap (λ (o : Option (List ℕ)). is_some o || (is_some rule.row.OK_msg || rule.row.apply)) is.error_msg

  answers-so : answer_of rule ≡ Some (stops.Error why)
  answers-so = ap (λ (o : Option (List ℕ)). option_or (option_map stops.Error o) (option_map stops.Ok rule.row.OK_msg)) is.error_msg

  stops-so : (others : List Rule) → (route_of (rule ∷ others) ask).stop ≡ Some (stops.Error why)
  stops-so others =
      ap (λ (b : Bool). (if not b then passed ask others (beginning ask)
      else if is_last rule then after rule (beginning ask)
      else passed ask others (after rule (beginning ask))).stop) fires-so
      ∙ ap (λ (b : Bool). (if b then after rule (beginning ask) else passed ask others (after rule (beginning ask))).stop) last-so
      ∙ answers-so

pub refused-past : (terms : Terms) (text why : List ℕ) (route : Route) (rule : Rule) (others : List Rule)
    (sends : SendsBy terms (com_query ∷ text) route) → (book_up sends.up).rules ≡ rule ∷ others → RefusesUser (user_of sends.up) why rule
    → SetsNoFlag (book_up sends.up).rules → ⊥
refused-past terms text why route rule others sends are refuses unset =
    unstopped-by terms text route sends
    (λ ask own login placed first none.
    none-some (sym none ∙ ap (λ (rules : List Rule). (route_of rules ask).stop) are
    ∙ stops-so (user_of sends.up) why rule refuses ask login (unset ask.flag first) others))
