-- The partner's side of a pair of rings that two queue values lend.
use Rattle.std.specs.Prelude.{◌≡◌, List}
use Rattle.uring_base.specs.declared.events.Taken.{Taken}
use Rattle.uring_base.specs.declared.events.Completion.{Completion}
use Rattle.uring_ring.specs.declared.plain_side.PlainSide.{PlainSide}
use Rattle.ring_core.specs.Held.{Held}
use Rattle.uring_ring.specs.Between.{lists_between}
use Rattle.ring_traits.specs.Lists.{Lists, Moves}
use Rattle.uring_ring.specs.IoUring.{RingWords}
use Rattle.uring_ring.specs.Queues.{entries_at, completions_at, submission_words_at, completion_words_at}

abbrev pub side_entries : {S C : Type 0} → PlainSide S C → Held Taken
side_entries side = entries_at side.submissions.now

abbrev pub side_completions : {S C : Type 0} → PlainSide S C → Held Completion
side_completions side = completions_at side.completions.now

abbrev pub side_lists : {S C : Type 0} → PlainSide S C → Lists
side_lists side = lists_between (side_entries side) (side_completions side)

abbrev pub side_words : {S C : Type 0} → PlainSide S C → RingWords
side_words side = record {
  flags = (submission_words_at side.submissions.now).flags;
  dropped = (submission_words_at side.submissions.now).dropped;
  overflow = (completion_words_at side.completions.now).overflow;
  completion_flags = (completion_words_at side.completions.now).flags;
}

-- these entries were taken and these completions posted; the same queue values lend the same rings
pub record SideMoves {S C : Type 0} (kept : Completion → Completion) (before : PlainSide S C) (ts : List Taken) (cs : List Completion) (after : PlainSide S C) : Type 0 where
  pub lists : Moves kept (side_lists before) ts cs (side_lists after)
  pub offer_place : (side_entries after).put_place ≡ (side_entries before).put_place
  pub reap_place : (side_completions after).take_place ≡ (side_completions before).take_place
  -- what the user has seen
  pub room : (side_entries after).spare ≡ (side_entries before).spare
  pub waiting : (side_completions after).waiting ≡ (side_completions before).waiting
  pub submissions : after.submissions.ghost_name ≡ before.submissions.ghost_name
  pub completions : after.completions.ghost_name ≡ before.completions.ghost_name
  pub entries_lent : after.submissions.now.ring.ghost_name ≡ before.submissions.now.ring.ghost_name
  pub completions_lent : after.completions.now.ring.ghost_name ≡ before.completions.now.ring.ghost_name
  pub words : side_words after ≡ side_words before

-- the partner changed words alone; the same queue values lend the same rings
pub record SideMarks {S C : Type 0} (before after : PlainSide S C) : Type 0 where
  pub entries : side_entries after ≡ side_entries before
  pub posts : side_completions after ≡ side_completions before
  pub submissions : after.submissions.ghost_name ≡ before.submissions.ghost_name
  pub completions : after.completions.ghost_name ≡ before.completions.ghost_name
  pub entries_lent : after.submissions.now.ring.ghost_name ≡ before.submissions.now.ring.ghost_name
  pub completions_lent : after.completions.now.ring.ghost_name ≡ before.completions.now.ring.ghost_name
  pub user : (side_words after).completion_flags ≡ (side_words before).completion_flags
