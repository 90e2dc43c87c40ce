use Rattle.std.proofs.Common.{◌≡◌, ◌++◌, take, drop}
use Rattle.std.specs.List.{flat_map}
use Rattle.uring_text.specs.Report.{outcome_lines, event_line}
use Rattle.uring_text.proofs.report.lines_of_report.Given as goal

-- what is written, and the lines that are left
abbrev pub invariant-loop-job : goal.invariant-loop-job
invariant-loop-job l = l.out.items ++ outcome_lines l.job (drop l.job l.report.outcomes.items) ≡ outcome_lines 0 l.report.outcomes.items

abbrev pub invariant-loop-event : goal.invariant-loop-event
invariant-loop-event l = l.out.items ≡ outcome_lines 0 l.report.outcomes.items ++ flat_map event_line (take l.event-index l.report.journal.items)
