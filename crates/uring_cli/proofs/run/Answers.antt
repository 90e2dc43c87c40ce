use Rattle.std.proofs.Common.{sym, ◌∙◌}
use Rattle.uring_cli.proofs.Named.{gen_no_run, gen_no_shared, shared_no_run, no_shared, no_count}
use Rattle.uring_cli.proofs.run.Goals as goal

pub returns-then-asks_for_jobs-clause-usage : goal.returns-then-asks_for_jobs-clause-usage
returns-then-asks_for_jobs-clause-usage g c usage =
    let named = sym c.asks_for_jobs.ensures ∙ c.if-asks_for_jobs.true in
    (gen_no_run c.args.words.now named, gen_no_shared c.args.words.now named, c.run_number.ensures.usage.0 usage)

pub returns-then-asks_for_threads-clause-usage : goal.returns-then-asks_for_threads-clause-usage
returns-then-asks_for_threads-clause-usage g c usage =
    let named = sym c.asks_for_threads.ensures ∙ c.if-asks_for_threads.true in
    (shared_no_run c.args.words.now named, c.run_on_threads.ensures.usage usage, no_count c.args.words.now (sym c.asks_for_jobs.ensures ∙ c.if-asks_for_jobs.false))

pub returns-else-asks_for_folder-clause-usage : goal.returns-else-asks_for_folder-clause-usage
returns-else-asks_for_folder-clause-usage g c usage =
    (c.run_script.ensures.usage usage, no_shared c.args.words.now (sym c.asks_for_threads.ensures ∙ c.if-asks_for_threads.false), no_count c.args.words.now (sym c.asks_for_jobs.ensures ∙ c.if-asks_for_jobs.false))

pub returns-then-asks_for_folder-clause-usage : goal.returns-then-asks_for_folder-clause-usage
returns-then-asks_for_folder-clause-usage g c usage =
    (c.run_in_folder.ensures.usage usage, no_shared c.args.words.now (sym c.asks_for_threads.ensures ∙ c.if-asks_for_threads.false), no_count c.args.words.now (sym c.asks_for_jobs.ensures ∙ c.if-asks_for_jobs.false))
