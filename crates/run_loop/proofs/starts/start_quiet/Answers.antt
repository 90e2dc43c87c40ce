use Rattle.std.proofs.Common.{ap, ◌∙◌, bit_or}
use Rattle.run_loop.proofs.StartLemmas.{marks_link}
use Rattle.run_loop.proofs.starts.start_quiet.Goals as goal

-- a valid quiet job has a link
pub start_quiet-requires-clause-linked : goal.start_quiet-requires-clause-linked
start_quiet-requires-clause-linked g c =
    marks_link c.args.number c.args.job c.bare_words-words.result c.flags.result c.requires.valid c.requires.quiet (c.bare_words-words.ensures c.args.number)
    (c.flags.ensures ∙ ap (λ n. record c.bare_words-words.result { flags = bit_or c.bare_words-words.result.flags n }) c.marks-marks.ensures)
