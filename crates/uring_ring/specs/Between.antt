-- What a pair of rings of slots holds.
use Rattle.uring_base.specs.declared.events.Taken.{Taken}
use Rattle.uring_base.specs.declared.events.Completion.{Completion}
use Rattle.ring_core.specs.Held.{Held}
use Rattle.ring_traits.specs.Lists.{Lists}

-- what stands in two rings of slots
abbrev pub lists_between : Held Taken → Held Completion → Lists
lists_between entries completions = record {
  capacity = entries.capacity;
  published = entries.published;
  pushed = entries.pushed;
  completion_capacity = completions.capacity;
  completions = completions.published;
  held = completions.taken;
}
