use Rattle.std.proofs.Common.{◌≡◌, ◌++◌, drop}
use Rattle.file_tree.specs.Stats.{bytes_of}
use Rattle.file_tree.proofs.stats.bytes_of.Given as goal

-- the bytes so far, and those of the words that are left
abbrev pub invariant-loop-word : goal.invariant-loop-word
invariant-loop-word l = bytes_of l.words ≡ l.bytes.items ++ bytes_of (drop l.word-index l.words)
