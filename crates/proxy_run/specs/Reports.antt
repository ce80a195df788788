-- What a report puts, and why it stops short.
use Rattle.std.specs.Prelude.{◌≡◌, ℕ, ◌<◌, List, map, slice_get, Option, Some, option_map, All, None}
use Rattle.mx_base.specs.declared.names.Hostgroup.{Hostgroup}
use Rattle.mx_wire.specs.Outside.{HasUnder, Takes, TakesFront}
use Rattle.mx_config.specs.declared.config.Config.{Config}
use Rattle.mx_config.specs.declared.config.UserRow.{UserRow}
use Rattle.query_digest.specs.Digest.{digest_of}
use Rattle.query_rules.specs.Building.{AllStand, IsCompiled, IsInOrder}
use Rattle.query_rules.specs.Passing.{rows_of, rules_of}
use Rattle.query_rules.specs.declared.row.RuleRow.{RuleRow}
use Rattle.query_rules.specs.declared.rules.Rules.{Rules}
use Rattle.audit_report.specs.Lines.{lines_of}
use Rattle.audit_report.specs.Report.{report_of}
use Rattle.audit_report.specs.Text.{report_text}
use Rattle.audit_report.specs.declared.ask.AuditAsk.{AuditAsk}
use Rattle.audit_report.specs.declared.row.ReportRow.{ReportRow}
use Rattle.sql_whitelist.specs.Hashes.{AreHashes}
use Rattle.sql_whitelist.specs.Text.{digests_line}
use Rattle.proxy_run.specs.declared.report_words.ReportKind.{ReportKind}
use Rattle.proxy_run.specs.declared.report_words.ReportKind.TheVariants.{Audit, Learn}
use Rattle.proxy_run.specs.declared.report_words.ReportNames.{ReportNames}
use Rattle.proxy_run.specs.declared.stop.Stop.{Stop}
use Rattle.proxy_run.specs.declared.stop.Stop.TheVariants as stop
use Rattle.proxy_run.specs.Replay.{Configures, Held, IsMisconfigured, PutsNothing}
use Rattle.proxy_run.specs.ReportWords.{ReportNamed}

abbrev pub named_of : ReportNames → ReportNamed
named_of names = record { kind = names.kind; config = names.config.now; lines = names.lines.now; workers = names.workers }

-- the first user, in the schema of those who name none
abbrev pub audit_ask : Config → Option AuditAsk
audit_ask config = option_map (λ (user : UserRow). record { user = user.name; schema = config.proxy.default_schema; default_hostgroup = user.default_hostgroup }) (slice_get config.users 0)

-- the rules of these rows, in order of rule_id, each pattern compiled
pub record IsBuiltFrom (rows : List RuleRow) (rules : Rules) : Type 0 where
  pub ordered : IsInOrder rows (rows_of rules)
  pub patterns : All IsCompiled (rules_of rules)
  pub stand : AllStand None (rows_of rules)

-- the report of lines by a configuration
pub record IsReportBy (config : Config) (lines : List (List ℕ)) (rows : List ReportRow) : Type 0 where
  pub ask : AuditAsk
  pub asked : audit_ask config ≡ Some ask
  pub rules : Rules
  pub built : IsBuiltFrom config.rules rules
  pub is : rows ≡ report_of (rules_of rules) ask lines

-- the line of the hashes of digests
pub record IsLearned (digests : List (List ℕ)) (text : List ℕ) : Type 0 where
  pub hashes : List ℕ
  pub are : AreHashes digests hashes
  pub is : text ≡ digests_line hashes

abbrev pub IsPrintedOf : ReportKind → List ReportRow → (text : List ℕ) → Type 0
IsPrintedOf Audit rows text = text ≡ report_text rows
IsPrintedOf Learn rows text = IsLearned (map (λ (row : ReportRow). row.digest) rows) text

pub record IsReport (config : Config) (lines : List (List ℕ)) (text : List ℕ) : Type 0 where
  pub rows : List ReportRow
  pub by : IsReportBy config lines rows
  pub is : text ≡ report_text rows

-- what is asked for of lines: their report, or the hashes of their digests
abbrev pub IsWanted : ReportKind → Config → (lines : List (List ℕ)) → (text : List ℕ) → Type 0
IsWanted Audit config lines text = IsReport config lines text
IsWanted Learn config lines text = IsLearned (map digest_of lines) text

-- the bytes under the name have these lines
pub record IsLinesUnder (name : List ℕ) (held : Held) (lines : List (List ℕ)) : Type 0 where
  pub bytes : List ℕ
  pub under : HasUnder name bytes held
  pub are : lines ≡ lines_of bytes

abbrev pub LinesStop : Stop → (before now : ℕ) → Type 0
LinesStop stop.ReadFault before now = before < now
LinesStop stop.OutOfMemory before now = Unit {0}
LinesStop _ before now = ⊥

-- a front of a text is put, and the sink failed
pub record PutsTextFront (text : List ℕ) (old : Option (List ℕ)) (before : ℕ) (new : Option (List ℕ)) (now : ℕ) : Type 0 where
  pub front : TakesFront old text new
  pub rose : before < now

abbrev pub PutTextStops : Stop → (text : List ℕ) → Option (List ℕ) → ℕ → Option (List ℕ) → ℕ → Type 0
PutTextStops stop.SinkFault text old before new now = PutsTextFront text old before new now
PutTextStops _ text old before new now = ⊥

-- the bytes under the names say a configuration, and lines of which this is wanted
pub record IsWantedBy (names : ReportNamed) (held : Held) (text : List ℕ) : Type 0 where
  pub config : Config
  pub said : Configures names.config held config
  pub lines : List (List ℕ)
  pub under : IsLinesUnder names.lines held lines
  pub wanted : IsWanted names.kind config lines text

-- and it is put
pub record Reported (names : ReportNamed) (held : Held) (old new : Option (List ℕ)) : Type 0 where
  pub text : List ℕ
  pub wanted : IsWantedBy names held text
  pub put : Takes old text new

-- or a front of it
pub record ReportedInPart (names : ReportNamed) (held : Held) (old : Option (List ℕ)) (before : ℕ) (new : Option (List ℕ)) (now : ℕ) : Type 0 where
  pub text : List ℕ
  pub wanted : IsWantedBy names held text
  pub put : PutsTextFront text old before new now

-- Why a report stops short: of a sink that failed a front is put, and else nothing.
abbrev pub ReportStops : Stop → ReportNamed → Held → (read_before read_now : ℕ) → Option (List ℕ) → ℕ → Option (List ℕ) → ℕ → Type 0
ReportStops stop.ReadFault names held read_before read_now old before new now = (read_before < read_now) × PutsNothing old before new now
ReportStops stop.SinkFault names held read_before read_now old before new now = ReportedInPart names held old before new now
ReportStops stop.OutOfMemory names held read_before read_now old before new now = PutsNothing old before new now
ReportStops (stop.BadConfig fault) names held read_before read_now old before new now = IsMisconfigured names.config held fault × PutsNothing old before new now
ReportStops _ names held read_before read_now old before new now = ⊥
