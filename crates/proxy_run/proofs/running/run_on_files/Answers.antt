use Rattle.proxy_run.proofs.running.run_on_files.Goals as goal

pub returns-in-Some-clause-outcome : goal.returns-in-Some-clause-outcome
returns-in-Some-clause-outcome g c = rw (← c.in-Some.ensures.value) (record { outcome = c.run_report.ensures.outcome; untouched = record { empty = c.requires.fresh } })

pub returns-in-None-clause-outcome : goal.returns-in-None-clause-outcome
returns-in-None-clause-outcome g c = rw (← c.in-None.ensures.value) c.run_command.ensures.outcome
